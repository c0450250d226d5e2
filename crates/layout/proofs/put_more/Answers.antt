-- `put_more` meets its contract: case by case, one part or none.
use native.Mathlib.Omega.{arith}
use mathlib.Core.Logic.{inl, inr}
use Rattle.stores.proofs.Buffer.{put_none}
use Rattle.message.specs.Fields.{fixed_size}
use Rattle.layout.proofs.put_more.Goals as goal

pub put_identity-requires : goal.put_identity-requires
unfolding fixed_size
put_identity-requires c =
    omega (arith, rw c.in-DelayResp.is at c.requires)

pub put_announce-requires : goal.put_announce-requires
unfolding fixed_size
put_announce-requires c =
    omega (arith, rw c.in-Announce.is at c.requires)

pub returns-in-Sync : goal.returns-in-Sync
returns-in-Sync c =
    let n = put_none c.args.out.now 44 in
    elim c.in-Sync.is [ inl b ↦ rw b.1 n | inr r ↦ elim r [ inl b ↦ rw b.1 n | inr q ↦ elim q [ inl b ↦ rw b.1 n | inr b ↦ rw b.1 n ] ] ]
