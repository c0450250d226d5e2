-- What is answered, and what the words are then, by the one test of a head: of a file's, and of a packet's.
use Rattle.std.specs.Prelude.{Ok, Err}
use Prim.Native.Nat.{ℕ}
use mathlib.Core.Path.{◌≡◌, refl}
use mathlib.Core.List.{List}
use mathlib.Core.Bool.{Bool, true, false, not}
use Rattle.refusal.specs.Choice.{pick, refuse}
use Rattle.refusal.specs.Refusal.{code_of}
use Rattle.refusal.specs.declared.Refusal.TheVariants.{Pcap}

module _ (sound : Bool) (before after : List ℕ) where
  pub told : sound ≡ true → (0 ≡ code_of (refuse (not sound) (Err Pcap) (Ok tt))) × (after ≡ pick sound after before)
  unfolding refuse
  told e = rw e (refl, refl)

  pub untold : sound ≡ false → (code_of (Err Pcap) ≡ code_of (refuse (not sound) (Err Pcap) (Ok tt))) × (before ≡ pick sound after before)
  unfolding refuse
  untold e = rw e (refl, refl)
