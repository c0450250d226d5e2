-- The body of twenty words, type by type.
use mathlib.Core.Path.{◌≡◌}
use Prim.Native.Nat.{ℕ}
use mathlib.Core.List.{List}
use lib.ListN.{get_or}
use borrow.Author.Tests.{ne_eqb}
use Rattle.message.specs.declared.fields.Body.TheVariants as body
use Rattle.message_words.specs.Words.{stamp_of, identity_at, announce_of, body_of}

module _ (w : List ℕ) where
  pub body_sync : get_or w 0 0 ≡ 0x0 → body_of w ≡ body.Sync (stamp_of w)
  unfolding body_of
  body_sync e = rw e

  pub body_delay_req : get_or w 0 0 ≡ 0x1 → body_of w ≡ body.DelayReq (stamp_of w)
  unfolding body_of
  body_delay_req e = rw e

  pub body_follow_up : get_or w 0 0 ≡ 0x8 → body_of w ≡ body.FollowUp (stamp_of w)
  unfolding body_of
  body_follow_up e = rw e

  pub body_delay_resp : get_or w 0 0 ≡ 0x9 → body_of w ≡ body.DelayResp (record { receive = stamp_of w; requester = identity_at w 11 })
  unfolding body_of
  body_delay_resp e = rw e

  pub body_announce : get_or w 0 0 ≡ 0xB → body_of w ≡ body.Announce (announce_of w)
  unfolding body_of
  body_announce e = rw e

  -- any other type is taken for a Signaling
  pub body_signaling : (get_or w 0 0 ≡ 0x0 → ⊥) → (get_or w 0 0 ≡ 0x1 → ⊥) → (get_or w 0 0 ≡ 0x8 → ⊥) → (get_or w 0 0 ≡ 0x9 → ⊥) → (get_or w 0 0 ≡ 0xB → ⊥)
      → body_of w ≡ body.Signaling (identity_at w 9)
  unfolding body_of
  body_signaling n0 n1 n8 n9 nb = rw (ne_eqb _ _ n0, ne_eqb _ _ n1, ne_eqb _ _ n8, ne_eqb _ _ n9, ne_eqb _ _ nb)
