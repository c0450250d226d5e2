-- `is_whole` meets its contract: by type, the limits tell what the definition says.
use native.Mathlib.Omega.{arith}
use mathlib.Core.Path.{◌≡◌, sym}
use lib.ListN.{length}
use Rattle.message_words.proofs.Limits.{whole_sync, whole_delay_req, whole_follow_up, whole_delay_resp, whole_announce, whole_signaling, whole_none}
use borrow.Author.Rules.{rules}
use Rattle.message_words.proofs.is_whole.Goals as goal

pub returns-in-0 : goal.returns-in-0
returns-in-0 c =
    rw (c.header_fits-header.ensures, c.stamp_fits.ensures) (sym (whole_sync c.args.w.now ((let it : length c.args.w.now ≡ 20 = search rules in it)) c.in-0.is))

pub returns-in-1 : goal.returns-in-1
returns-in-1 c =
    rw (c.header_fits-header.ensures, c.stamp_fits-in-1.ensures) (sym (whole_delay_req c.args.w.now ((let it : length c.args.w.now ≡ 20 = search rules in it)) c.in-1.is))

pub returns-in-8 : goal.returns-in-8
returns-in-8 c =
    rw (c.header_fits-header.ensures, c.stamp_fits-in-8.ensures) (sym (whole_follow_up c.args.w.now ((let it : length c.args.w.now ≡ 20 = search rules in it)) c.in-8.is))

pub returns-in-9 : goal.returns-in-9
returns-in-9 c =
    rw (c.header_fits-header.ensures, c.stamp_fits-in-9.ensures) (sym (whole_delay_resp c.args.w.now ((let it : length c.args.w.now ≡ 20 = search rules in it)) c.in-9.is))

pub returns-in-11 : goal.returns-in-11
returns-in-11 c =
    rw (c.header_fits-header.ensures, c.announce_fits.ensures) (sym (whole_announce c.args.w.now ((let it : length c.args.w.now ≡ 20 = search rules in it)) c.in-11.is))

pub returns-in-12 : goal.returns-in-12
returns-in-12 c =
    rw c.header_fits-header.ensures (sym (whole_signaling c.args.w.now ((let it : length c.args.w.now ≡ 20 = search rules in it)) c.in-12.is))

pub returns-in_default : goal.returns-in_default
returns-in_default c =
    sym (whole_none c.args.w.now ((let it : length c.args.w.now ≡ 20 = search rules in it)) (λ e. omega arith) (λ e. omega arith) (λ e. omega arith) (λ e. omega arith) (λ e. omega arith) (λ e. omega arith))
