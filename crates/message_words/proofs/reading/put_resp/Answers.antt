-- `reading::put_resp` meets its contract: the requester is stored over two zeros behind the stamp.
use mathlib.Core.Path.{◌∙◌}
use mathlib.Core.List.{[], ◌∷◌, ◌++◌}
use lib.ListN.{take}
use Rattle.message.specs.Fields.{identity_at, stamp_of}
use Rattle.message_words.proofs.ReadingLaws.{two_over}
use Rattle.message_words.proofs.reading.put_resp.Goals as goal

pub returns : goal.returns
unfolding identity_at
returns c =
    let w = c.args.out.now in
    rw c.put_stamp.ensures
    (two_over w c.told-out _ _ _ _ _ _ _ _ _ _ _ _ _
    ∙ (λ i. take 9 w ++ ((stamp_of c.args.s.now).seconds ∷ (stamp_of c.args.s.now).nanoseconds ∷ c.u64_at.ensures i ∷ c.u16_at.ensures i ∷ 0 ∷ 0 ∷ 0 ∷ 0 ∷ 0 ∷ 0 ∷ 0 ∷ [])))
