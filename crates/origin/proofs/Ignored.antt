-- Ignored means ignored: a Sync and a Follow_Up that differ from others only in reserved fields, controlField and padding
-- give the same origin time, or the same number.
use Rattle.std.specs.Prelude.{Ok, Err}
use Prim.Native.Nat.{ℕ, ◌/◌, ◌%◌}
use mathlib.Core.Path.{◌≡◌, refl, ◌∙◌}
use mathlib.Core.List.{List, []}
use mathlib.Core.Bool.{Bool, true, false, not, ◌&&◌}
use lib.Dec.{eqb}
use Rattle.refusal.specs.Choice.{pick, refuse}
use Rattle.refusal.specs.declared.Refusal.TheVariants.{«Type»}
use Rattle.message.specs.Reading.{by, takes_of}
use Rattle.message.specs.Ignored.{Alike}
use Rattle.message.proofs.Ignored.{type_same, header_same, octet_six, by_same, by_under, accepted_stamp}
use Rattle.origin.specs.Origin.{is_two_step, follows, follow_check, origin_check, stamp_part, origin_in}
use Rattle.origin.proofs.Laws.{sync_taken, follow_taken}

module _ (magic : ℕ) (a b : List ℕ) (s : Alike a b) where
  takes_same : (kind : ℕ) → takes_of magic kind a ≡ takes_of magic kind b
  unfolding takes_of
  takes_same kind =
      by_same a b s magic Err (λ e. λ i. refuse (not (eqb (type_same a b s i) kind)) (Err «Type») (Ok tt))

  bit_same : is_two_step a ≡ is_two_step b
  bit_same = λ i. eqb (octet_six a b s i / 2 % 2) 1

module _ (magic : ℕ) (sync sync' follow follow' : List ℕ) (s : Alike sync sync') (f : Alike follow follow') where
  follows_same : follows sync follow ≡ follows sync' follow'
  unfolding follows
  follows_same =
      λ i.
      let a = header_same sync sync' s i in
      let b = header_same follow follow' f i in
      eqb a.source.clock b.source.clock
      && eqb a.source.port b.source.port
      && eqb a.domain b.domain
      && eqb a.sequence b.sequence

  follow_same : follow_check magic sync follow ≡ follow_check magic sync' follow'
  unfolding follow_check
  follow_same = λ i. by (takes_same magic follow follow' f 0x8 i) Err (refuse (not (follows_same i)) (Err «Type») (Ok tt))

  -- THE SAME NUMBER
  pub origin_check_same : origin_check magic sync follow ≡ origin_check magic sync' follow'
  unfolding origin_check
  origin_check_same = λ i. by (takes_same magic sync sync' s 0x0 i) Err (pick (bit_same magic sync sync' s i) (follow_same i) (Ok tt))

  stamp_same : origin_check magic sync follow ≡ Ok tt → (t : Bool) → is_two_step sync ≡ t → stamp_part (pick t follow sync) ≡ stamp_part (pick t follow' sync')
  stamp_same e true t = accepted_stamp follow follow' f magic (follow_taken magic sync follow e t).0.checked
  stamp_same e false t = accepted_stamp sync sync' s magic (sync_taken magic sync follow e).checked

  -- AND THE SAME TEN OCTETS
  pub origin_same : origin_in magic sync follow ≡ origin_in magic sync' follow'
  unfolding origin_in
  origin_same =
      by_under (origin_check magic sync follow) (λ x. []) (λ e. stamp_same e (is_two_step sync) refl)
      ∙ (λ i. by (origin_check_same i) (λ x. []) (stamp_part (pick (bit_same magic sync sync' s i) follow' sync')))
