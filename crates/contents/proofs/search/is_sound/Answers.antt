-- `search::is_sound` meets its contract: a walk that looks for nothing comes to the end of a sound tail, and of no other.
use Rattle.std.specs.Option.{is_some}
use Rattle.std.proofs.Common.{rules}
use Prim.Native.Nat.{ℕ}
use mathlib.Core.Bool.{Bool, true, false}
use mathlib.Core.List.{List}
use mathlib.Core.Path.{◌≡◌, refl, ap, ◌∙◌}
use lib.Dec.{eqb}
use lib.ListN.{length}
use Rattle.tlv.specs.Faults.{whole, misfit, is_sound, sound_of}
use Rattle.contents.proofs.search.is_sound.Goals as goal

-- a place is told of a sound tail, and of no other
sound_some : (magic : ℕ) (test : ℕ → Bool) (t : List ℕ) → is_some (sound_of magic test t) ≡ is_sound magic t
unfolding sound_of is_sound
sound_some magic test t = by (whole t) (eqb (misfit magic t 0) (length t)) refl refl
  where
    by : (a b : Bool) → whole t ≡ a → eqb (misfit magic t 0) (length t) ≡ b → is_some (sound_of magic test t) ≡ is_sound magic t
    by true true ea eb = rw (ea, eb)
    by true false ea eb = rw (ea, eb)
    by false b ea eb = rw ea

pub returns : goal.returns
returns c =
    c.is_some.ensures ∙ ap is_some (c.sound_first.ensures (λ p. false) (λ p b h. search rules)) ∙ sound_some _ _ _
