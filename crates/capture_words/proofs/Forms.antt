-- A form in words comes back from them, so that the words a file's head gives are read as its form when the heads of its packets are.
use Prim.Native.Nat.{ℕ}
use mathlib.Core.Path.{◌≡◌, refl, sym, subst}
use mathlib.Core.Logic.{◌⊎◌, inl, inr}
use mathlib.Core.List.{List}
use mathlib.Core.Bool.{Bool, true, false, not, ◌&&◌}
use lib.Dec.{eqb, leb}
use lib.ListN.{length}
use borrow.Author.Tests.{not-true}
use Rattle.laws.proofs.Bools.{both}
use Rattle.pcap.specs.declared.Form.{Form}
use Rattle.pcap.specs.Form.{number_at, form_of}
use Rattle.pcap.specs.File.{file_head, is_head, is_ethernet}
use Rattle.pcap.specs.Written.{IsForm}
use Rattle.pcap.proofs.Exactly.{one_of_four}
use Rattle.capture_words.specs.Captures.{form_words, form_by, tells_form, form_after}

abbrev form : Bool → ℕ → Form
form little unit = record { little = little; unit = unit }

abbrev Back : Bool → ℕ → Type 0
Back l u = form_by (form_words (form l u)) ≡ form l u

back_by : (l : Bool) (u : ℕ) → (u ≡ 1000) ⊎ (u ≡ 1) → Back l u
back_by true u (inl e) = subst (Back true) (sym e) refl
back_by true u (inr e) = subst (Back true) (sym e) refl
back_by false u (inl e) = subst (Back false) (sym e) refl
back_by false u (inr e) = subst (Back false) (sym e) refl

-- each of the four forms comes back from its words
pub form_back : (f : Form) → IsForm f → form_by (form_words f) ≡ f
form_back f is = back_by f.little f.unit is

unit_there : (s : List ℕ) → is_head (form_of s) s ≡ true → eqb (form_of s).unit 0 ≡ false
unfolding is_head
unit_there s e =
    let f = form_of s in
    let a = both (leb file_head (length s)) (not (eqb f.unit 0) && (eqb (number_at f 2 s 4) 2 && eqb (number_at f 2 s 6) 4)) e in
    not-true (eqb f.unit 0) (both (not (eqb f.unit 0)) (eqb (number_at f 2 s 4) 2 && eqb (number_at f 2 s 6) 4) a.1).0

-- SO THE WORDS THAT A HEAD GIVES ARE READ AS ITS FORM
pub form_kept : (ws s : List ℕ) → tells_form s ≡ true → form_by (form_after ws s) ≡ form_of s
form_kept ws s e = rw e (form_back (form_of s) (one_of_four s (unit_there s (both (is_head (form_of s) s) (is_ethernet (form_of s) s) e).0)))
