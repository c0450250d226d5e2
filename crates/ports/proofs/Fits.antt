-- What is kept of an Announce fits its words: octets make numbers of their widths.
use Rattle.std.specs.Prelude.{Some, None, Result, Ok, Err}
use mathlib.Core.Path.{◌≡◌, refl, subst}
use mathlib.Core.Bool.{Bool, true, false, not}
use mathlib.Core.List.{List}
use Prim.Native.Nat.{ℕ, ◌+◌, ◌<◌}
use native.Mathlib.Omega.{arith}
use lib.Dec.{eqb, ltb}
use lib.ListN.{length}
use Rattle.octets.proofs.Laws.{Octets, be_bound}
use Rattle.refusal.specs.Choice.{pick, refuse}
use Rattle.refusal.specs.declared.Refusal.{Refusal}
use Rattle.refusal.specs.declared.Refusal.TheVariants.{«Type», Port, Domain, Own}
use Rattle.refusal.proofs.Choice.{passed}
use Rattle.rank.specs.Ranked.{is_port}
use Rattle.tlv.specs.Walk.{first}
use Rattle.tlv.specs.Form.{suffix_at}
use Rattle.tlv.specs.Wr.{flags_at, suffix_in, wr_flags_of}
use Rattle.message.specs.Fields.{type_of, header_of, announce_of, identity_at, tail_of}
use Rattle.message.specs.Reading.{check_of, by}
use Rattle.message.specs.Announced.{announced_of}
use Rattle.message.specs.declared.announce.Heard.{Heard}
use Rattle.senders.specs.declared.Notice as kept
use Rattle.slots.proofs.Meaning.{Fitting}
use Rattle.ports.specs.declared.intake.Settings.{Settings}
use Rattle.ports.specs.Intake.{notice_of, judged_of, admitted_by, admitted_of}
use Rattle.ports.proofs.Laws.{unlike}
use Rattle.senders.specs.declared.Notice.{Notice}

flags_by : (t : List ℕ) (p : ℕ) (b : Bool) → wr_flags_of (pick b (Some (flags_at t p)) None) < 0x10000
flags_by t p true = omega arith
flags_by t p false = omega arith

flags_fit : (magic : ℕ) (t : List ℕ) → wr_flags_of (suffix_in magic t) < 0x10000
unfolding suffix_in
flags_fit magic t = let p = first (suffix_at magic t) t 0 in flags_by t p (ltb p (length t))

-- the Announce of a message
abbrev pub heard_of : ℕ → List ℕ → Heard
heard_of magic s = record { header = header_of s; announce = announce_of s; flags = wr_flags_of (suffix_in magic (tail_of s)) }

octets_fit : (magic : ℕ) (s : List ℕ) → Octets s → Fitting (notice_of (heard_of magic s))
unfolding header_of announce_of identity_at
octets_fit magic s o =
    record {
      port = be_bound 2 s (20 + 8) o;
      sequence = be_bound 2 s 30 o;
      wrflags = flags_fit magic (tail_of s);
      receipts = omega arith;
      priority1 = o 47;
      class = o 48;
      accuracy = o 49;
      variance = be_bound 2 s 50 o;
      priority2 = o 52;
      steps = be_bound 2 s 61 o;
    }

pub no_whole : {x : Refusal} {h : Heard} → ◌≡◌ {A = Result Heard Refusal} (Err x) (Ok h) → ⊥
no_whole {x} {h} e = let z : ◌≡◌ {A = ℕ} 0 1 = cc in omega arith

heard_by : (magic : ℕ) (s : List ℕ) (h : Heard) (c : Result (Unit {0}) Refusal)
    → by c Err (refuse (not (eqb (type_of s) 0xB)) (Err «Type») (Ok (heard_of magic s))) ≡ Ok h
    → heard_of magic s ≡ h
heard_by magic s h (Err x) e = absurd (no_whole e)
heard_by magic s h (Ok tt) e =
    let w : ◌≡◌ {A = Result Heard Refusal} (Ok (heard_of magic s)) (Ok h) =
    (passed (Err «Type») (Ok (heard_of magic s)) (Ok h) (not (eqb (type_of s) 0xB)) no_whole e).1 in
    same w
  where
    same : {g k : Heard} → ◌≡◌ {A = Result Heard Refusal} (Ok g) (Ok k) → g ≡ k
    same {g} {k} w = cc

pub heard_is : (magic : ℕ) (s : List ℕ) (h : Heard) → announced_of magic s ≡ Ok h → heard_of magic s ≡ h
unfolding announced_of
heard_is magic s h e = heard_by magic s h (check_of magic s) e

same_notice : {a b : kept.Notice} → ◌≡◌ {A = Result Notice Refusal} (Ok a) (Ok b) → a ≡ b
same_notice {a} {b} e = cc

pub judged_is : (set : Settings) (h : Heard) (a : kept.Notice) → judged_of set h ≡ Ok a → notice_of h ≡ a
judged_is set h a e =
    let own = (passed (Err Domain) (refuse (eqb h.header.source.clock set.clock) (Err Own) (Ok (notice_of h))) (Ok a) (not (eqb h.header.domain set.domain)) unlike e).1 in
    same_notice (passed (Err Own) (Ok (notice_of h)) (Ok a) (eqb h.header.source.clock set.clock) unlike own).1

fits_by : (set : Settings) (s : List ℕ) (a : kept.Notice) (x : Result Heard Refusal) → announced_of set.magic s ≡ x → admitted_by set x ≡ Ok a → Octets s → Fitting a
fits_by set s a (Err y) r e o = absurd (unlike e)
fits_by set s a (Ok h) r e o =
    subst Fitting (judged_is set h a e) (subst (λ (g : Heard). Fitting (notice_of g)) (heard_is set.magic s h r) (octets_fit set.magic s o))

-- what is admitted fits
pub notice_fits : (set : Settings) (port : ℕ) (s : List ℕ) (a : kept.Notice) → admitted_of set port s ≡ Ok a → Octets s → Fitting a
unfolding admitted_of
notice_fits set port s a e o =
    fits_by set s a (announced_of set.magic s) refl
    (passed (Err Port) (admitted_by set (announced_of set.magic s)) (Ok a) (not (is_port port)) unlike e).1 o
