-- `body_words` meets its contract, by the type.
use Rattle.message_words.specs.Words.{body_words}
use Rattle.message_words.proofs.body_words.Goals as goal

pub returns-in-Sync : goal.returns-in-Sync
unfolding body_words
returns-in-Sync c =
    rw c.in-Sync.is c.pair_words.ensures

pub returns-in-DelayReq : goal.returns-in-DelayReq
unfolding body_words
returns-in-DelayReq c =
    rw c.in-DelayReq.is c.pair_words-in-DelayReq.ensures

pub returns-in-FollowUp : goal.returns-in-FollowUp
unfolding body_words
returns-in-FollowUp c =
    rw c.in-FollowUp.is c.pair_words-in-FollowUp.ensures

pub returns-in-DelayResp : goal.returns-in-DelayResp
unfolding body_words
returns-in-DelayResp c =
    rw c.in-DelayResp.is c.resp_words.ensures

pub returns-in-Announce : goal.returns-in-Announce
unfolding body_words
returns-in-Announce c =
    rw c.in-Announce.is c.announce_words.ensures

pub returns-in-Signaling : goal.returns-in-Signaling
unfolding body_words
returns-in-Signaling c =
    rw c.in-Signaling.is c.pair_words-in-Signaling.ensures
