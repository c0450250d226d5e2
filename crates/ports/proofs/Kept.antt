-- What is kept of an Announce that is admitted stands in its octets, and may be read there again.
use Rattle.std.specs.Prelude.{Result, Ok, Err}
use mathlib.Core.Path.{◌≡◌, refl, sym, ap, ◌∙◌}
use mathlib.Core.Bool.{not}
use mathlib.Core.List.{List}
use Prim.Native.Nat.{ℕ, ◌+◌, ◌*◌, ◌≤◌}
use native.Mathlib.Omega.{arith}
use lib.Dec.{eqb}
use lib.ListN.{length}
use borrow.Author.Tests.{not-false, eqb-true}
use Rattle.octets.specs.Be.{be}
use Rattle.refusal.specs.Choice.{refuse}
use Rattle.refusal.specs.declared.Refusal.TheVariants.{«Type», Port}
use Rattle.refusal.proofs.Choice.{passed}
use Rattle.rank.specs.declared.Grandmaster.{Grandmaster}
use Rattle.rank.specs.Ranked.{is_port}
use Rattle.message.specs.Fields.{type_of, fixed_size, announce_of}
use Rattle.message.specs.Reading.{check_of, by}
use Rattle.message.specs.Announced.{announced_of}
use Rattle.message.specs.declared.announce.Heard.{Heard}
use Rattle.message.proofs.Laws.{fixed_part}
use Rattle.senders.specs.declared.Notice as kept
use Rattle.senders.specs.declared.Record.{Record}
use Rattle.slots.specs.Words.{grade_word}
use Rattle.ports.specs.declared.intake.Settings.{Settings}
use Rattle.ports.specs.Intake.{grandmaster_of, notice_of, admitted_by, admitted_of}
use Rattle.ports.proofs.Laws.{unlike}
use Rattle.ports.proofs.Fits.{heard_of, no_whole, heard_is, judged_is}
use Rattle.refusal.specs.declared.Refusal.{Refusal}

-- the keys of the quality stand in their order, and stepsRemoved behind the grandmaster
pub grade_is : (s : List ℕ) → be 6 s 47 * 0x10000 + be 2 s 61 ≡ grade_word (grandmaster_of (announce_of s)) (announce_of s).steps
unfolding announce_of be
grade_is s = omega arith

-- an Announce has its fixed size
long_by : (magic : ℕ) (s : List ℕ) (h : Heard) (c : Result (Unit {0}) Refusal) → check_of magic s ≡ c
    → by c Err (refuse (not (eqb (type_of s) 0xB)) (Err «Type») (Ok (heard_of magic s))) ≡ Ok h
    → 64 ≤ length s
unfolding fixed_size
long_by magic s h (Err x) d e = absurd (no_whole e)
long_by magic s h (Ok tt) d e =
    let k : type_of s ≡ 0xB =
    eqb-true _ _ (not-false _ (passed (Err «Type») (Ok (heard_of magic s)) (Ok h) (not (eqb (type_of s) 0xB)) no_whole e).0) in
    let z : fixed_size (type_of s) ≡ 64 = ap fixed_size k in
    let l = (fixed_part magic s d).1 in
    omega arith

long : (magic : ℕ) (s : List ℕ) (h : Heard) → announced_of magic s ≡ Ok h → 64 ≤ length s
unfolding announced_of
long magic s h e = long_by magic s h (check_of magic s) refl e

-- the grandmaster and stepsRemoved of a notice are those in the octets
abbrev pub Stands : List ℕ → kept.Notice → Type 0
Stands s a = (a.grandmaster ≡ grandmaster_of (announce_of s)) × (a.steps ≡ (announce_of s).steps)

stands_by : (set : Settings) (s : List ℕ) (a : kept.Notice) (x : Result Heard Refusal) → announced_of set.magic s ≡ x → admitted_by set x ≡ Ok a
    → (64 ≤ length s) × Stands s a
stands_by set s a (Err y) r e = absurd (unlike e)
stands_by set s a (Ok h) r e =
    let n : a ≡ notice_of (heard_of set.magic s) = sym (ap notice_of (heard_is set.magic s h r) ∙ judged_is set h a e) in
    (long set.magic s h r, (ap (λ (z : kept.Notice). z.grandmaster) n, ap (λ (z : kept.Notice). z.steps) n))

-- what is admitted
pub admitted_stands : (set : Settings) (port : ℕ) (s : List ℕ) (a : kept.Notice) → admitted_of set port s ≡ Ok a → (64 ≤ length s) × Stands s a
unfolding admitted_of
admitted_stands set port s a e =
    stands_by set s a (announced_of set.magic s) refl
    (passed (Err Port) (admitted_by set (announced_of set.magic s)) (Ok a) (not (is_port port)) unlike e).1

-- the last two words of its record
pub last_two : (s : List ℕ) (a : kept.Notice) (r : Record) (x y : ℕ) → r.notice ≡ a → Stands s a
    → x ≡ be 8 s 53 → y ≡ grade_word (grandmaster_of (announce_of s)) (announce_of s).steps
    → (x ≡ r.notice.grandmaster.identity) × (y ≡ grade_word r.notice.grandmaster r.notice.steps)
unfolding announce_of
last_two s a r x y n k ex ey =
    let g : r.notice.grandmaster ≡ grandmaster_of (announce_of s) = ap (λ (z : kept.Notice). z.grandmaster) n ∙ k.0 in
    let t : r.notice.steps ≡ (announce_of s).steps = ap (λ (z : kept.Notice). z.steps) n ∙ k.1 in
    (ex ∙ sym (ap (λ (z : Grandmaster). z.identity) g), ey ∙ sym (λ i. grade_word (g i) (t i)))
