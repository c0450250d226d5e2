-- What a call leaves: refused, every word of every port; ignored, too, in words that grew from zeros.
use Rattle.std.specs.Prelude.{Result, Ok, Err}
use Prim.Native.Nat.{ℕ}
use mathlib.Core.Path.{◌≡◌, refl, ap, sym, ◌∙◌}
use mathlib.Core.Bool.{Bool, true, false, not}
use mathlib.Core.List.{List}
use lib.Dec.{ltb}
use lib.ListN.{get_or, set}
use lib.Seq.{set-get_or}
use native.Mathlib.Omega.{arith}
use Rattle.refusal.specs.Choice.{pick, refuse}
use Rattle.refusal.specs.Refusal.{number_of, code_of}
use Rattle.refusal.specs.declared.Refusal.{Refusal}
use Rattle.refusal.specs.declared.Refusal.TheVariants.{Port, Field}
use Rattle.link.specs.declared.Settings.{Settings}
use Rattle.link.specs.declared.Event.{Event}
use Rattle.link.specs.declared.Stepped.{Stepped}
use Rattle.link.specs.Machine.{ignored}
use Rattle.link.specs.Heeded.{is_heeded}
use Rattle.link.proofs.Heeded.{ignored_exactly}
use Rattle.links.specs.Words.{word_of, IsPort, base, link_at, settings_at, setting_answer, setting_words, step_at, take_answer, take_words, look_answer}

-- "State, output buffers and input stay as they were.": all 72 words, where settings or an event are refused

set_by_lem : (ws vs : List ℕ) (x : Refusal) (other large : Bool) →
    ◌≡◌ {A = Result (Unit {0}) Refusal} (refuse other (Err Port) (refuse large (Err Field) (Ok tt))) (Err x) → refuse other ws (refuse large ws vs) ≡ ws
unfolding refuse
set_by_lem ws vs x true large e = refl
set_by_lem ws vs x false true e = refl
set_by_lem ws vs x false false e = let z : ◌≡◌ {A = ℕ} 0 1 = cc in absurd (omega arith)

take_by : (ws vs : List ℕ) (x : Refusal) (r : Stepped) (other : Bool) → refuse other (Err Port) (Ok r) ≡ Err x → refuse other ws vs ≡ ws
unfolding refuse
take_by ws vs x r true e = refl
take_by ws vs x r false e = let z : ◌≡◌ {A = ℕ} 0 1 = cc in absurd (omega arith)

module _ (ws : List ℕ) (port : ℕ) where
  pub set_refused : (s : Settings) (x : Refusal) → setting_answer port s ≡ Err x → setting_words ws port s ≡ ws
  unfolding setting_answer setting_words
  set_refused s x e = set_by_lem ws _ x (not (IsPort port)) (ltb 3 s.config) e

  pub take_refused : (e : Event) (x : Refusal) → take_answer ws port e ≡ Err x → take_words ws port e ≡ ws
  unfolding take_answer take_words
  take_refused e x q = take_by ws _ x (step_at ws port e) (not (IsPort port)) q

-- the numbers: "Settings: 8, 18.", an event 8 alone

numbers : (own large : Bool) → code_of (refuse (not own) (Err Port) (refuse large (Err Field) (Ok tt))) ≡ pick own (pick large 18 0) 8
unfolding refuse
numbers true true = refl
numbers true false = refl
numbers false large = refl

pub set_number : (port : ℕ) (s : Settings) → code_of (setting_answer port s) ≡ pick (IsPort port) (pick (ltb 3 s.config) 18 0) 8
unfolding setting_answer
set_number port s = numbers (IsPort port) (ltb 3 s.config)

module _ (ws : List ℕ) (port : ℕ) where
  eight : (own : Bool) (r : Stepped) (x : Refusal) → refuse (not own) (Err Port) (Ok r) ≡ Err x → (number_of x ≡ 8) × (own ≡ false)
  unfolding refuse
  eight true r x e = let z : ◌≡◌ {A = ℕ} 0 1 = cc in absurd (omega arith)
  eight false r x e = let same : Port ≡ x = cc in (ap number_of (sym same), refl)

  pub take_number_lem : (e : Event) (x : Refusal) → take_answer ws port e ≡ Err x → (number_of x ≡ 8) × (IsPort port ≡ false)
  unfolding take_answer
  take_number_lem e x q = eight (IsPort port) (step_at ws port e) x q

  pub take_outside : (e : Event) → IsPort port ≡ false → take_answer ws port e ≡ Err Port
  unfolding take_answer refuse
  take_outside e o = rw o

-- An event that is not heeded answers the link as it stands, and leaves every word where the port's word has no bits that no link has: words that
-- grew from zeros have none (RunLaws.antt: packed).

abbrev pub Packed : List ℕ → ℕ → Type 0
Packed ws port = word_of (link_at ws port) ≡ get_or ws (base port) 0

module _ (ws : List ℕ) (port : ℕ) (e : Event) (unheeded : is_heeded (settings_at ws port).config (link_at ws port) e ≡ false) where
  step_ignored : step_at ws port e ≡ ignored (link_at ws port)
  step_ignored = (ignored_exactly (settings_at ws port) (link_at ws port) e).1 unheeded

  pub take_ignored : take_answer ws port e ≡ look_answer ws port
  unfolding take_answer look_answer
  take_ignored = ap (λ (r : Stepped). refuse (not (IsPort port)) (Err Port) (Ok r)) step_ignored

  same_words : (other : Bool) → refuse other ws ws ≡ ws
  unfolding refuse
  same_words true = refl
  same_words false = refl

  pub take_leaves : Packed ws port → take_words ws port e ≡ ws
  unfolding take_words
  take_leaves p =
      ap (λ (w : ℕ). refuse (not (IsPort port)) ws (set ws (base port) w)) (ap (λ (r : Stepped). word_of r.link) step_ignored ∙ p)
      ∙ ap (refuse (not (IsPort port)) ws) (set-get_or ws (base port) 0)
      ∙ same_words (not (IsPort port))
