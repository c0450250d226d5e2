-- `reading::put_stamp` meets its contract: the seconds and the nanoseconds are the two numbers.
use mathlib.Core.Path.{◌∙◌}
use mathlib.Core.List.{◌++◌}
use lib.ListN.{take}
use Rattle.message.specs.Fields.{stamp_of}
use Rattle.message_words.specs.Words.{pair_words}
use Rattle.message_words.proofs.reading.put_stamp.Goals as goal

pub returns : goal.returns
unfolding stamp_of
returns c =
    let w = c.args.out.now in
    c.put_pair.ensures ∙ (λ i. take 9 w ++ pair_words (c.u48_at.ensures i) (c.u32_at.ensures i))
