-- A LIVE SENDER KEEPS ITS PLACE, over any calls on any ports, its own Announces among them, until it falls silent itself.
use Rattle.std.specs.Prelude.{Result, Ok, Err}
use mathlib.Core.Path.{◌≡◌, refl, sym, subst}
use mathlib.Core.Bool.{Bool, true, false}
use mathlib.Core.List.{List, [], ◌∷◌}
use Prim.Native.Nat.{ℕ}
use lib.ListN.{length, set}
use Rattle.identity.specs.declared.PortIdentity.{PortIdentity}
use Rattle.rank.specs.Ranked.{is_port}
use Rattle.refusal.specs.Choice.{pick}
use Rattle.senders.specs.declared.Notice as kept
use Rattle.senders.specs.Record.{is_of}
use Rattle.senders.specs.Port.{Port, slot_of, Live}
use Rattle.senders.proofs.Keeping.{place_kept}
use Rattle.slots.specs.Words.{port_of, slot_at, words_after}
use Rattle.slots.proofs.Laws.{length_tab}
use Rattle.slots.proofs.Meaning.{Fitting, means, exponent_means}
use Rattle.ports.specs.Words.{own}
use Rattle.ports.specs.Intake.{admitted_of, plan_by}
use Rattle.ports.specs.Interval.{is_interval, exponent_of}
use Rattle.ports.specs.History.{Call, taking, setting, asking, port_of_call, after, run, own_after, OctetCall, OctetCalls}
use Rattle.ports.specs.Staying.{IsPlaceOf, FindsLive, StaysLive}
use Rattle.ports.proofs.Follows.{own_length, after_all, by_own}
use Rattle.ports.proofs.Fits.{notice_fits}
use Rattle.senders.specs.declared.Notice.{Notice}
use Rattle.refusal.specs.declared.Refusal.{Refusal}

module _ (l : List ℕ) (n : length l ≡ 98) (i : ℕ) (x : PortIdentity) (its : is_of x (slot_of (port_of l) i) ≡ true) where
  take_holds : (t : ℕ) (b : Result Notice Refusal)
      → ((a : kept.Notice) → b ≡ Ok a → Fitting a × (is_of a.sender (slot_of (port_of l) i) ≡ false → Live (port_of l) t i))
      → is_of x (slot_of (port_of (words_after l t (plan_by (port_of l) t b))) i) ≡ true
  take_holds t (Err y) f = its
  take_holds t (Ok a) f =
      let g = f a refl in
      subst (λ (p : Port). is_of x (slot_of p i) ≡ true) (sym (means l t a n g.0)) (place_kept (port_of l) t a (length_tab 16 (slot_at l)) i x its g.1)

  set_holds : (e : ℕ) (b : Bool) → is_of x (slot_of (port_of (pick b (set l 1 e) l)) i) ≡ true
  set_holds e true = subst (λ (p : Port). is_of x (slot_of p i) ≡ true) (sym (exponent_means l e n)) its
  set_holds e false = its

module _ (q i : ℕ) (iq : is_port q ≡ true) (x : PortIdentity) where
  own_holds : (ws : List ℕ) (n : length ws ≡ 1764) (c : Call) → OctetCall c → port_of_call c ≡ q → FindsLive ws q i c → IsPlaceOf ws q i x
      → is_of x (slot_of (port_of (own_after (own ws q) c)) i) ≡ true
  own_holds ws n (taking set port t s) o e f h =
      take_holds (own ws q) (own_length ws n q iq) i x h t (admitted_of set port s) (λ a g. (notice_fits set port s a g o, f a g e))
  own_holds ws n (setting port k) o e f h = set_holds (own ws q) (own_length ws n q iq) i x h (exponent_of k) (is_interval k)
  own_holds ws n (asking port) o e f h = h

  -- whatever arrives on any port, the sender that is live keeps its place
  pub keeps_place : (ws : List ℕ) (cs : List Call) → length ws ≡ 1764 → OctetCalls cs → StaysLive ws q i cs → IsPlaceOf ws q i x → IsPlaceOf (run ws cs) q i x
  keeps_place ws [] n o lives h = h
  keeps_place ws (c ∷ cs) n o lives h =
      keeps_place (after ws c) cs (after_all ws n c) o.1 lives.1
      (by_own ws n c (λ l. is_of x (slot_of (port_of l) i) ≡ true) q iq (λ e. own_holds ws n c o.0 e lives.0 h) h)
