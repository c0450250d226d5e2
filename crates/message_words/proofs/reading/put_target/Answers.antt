-- `reading::put_target` meets its contract: the clock and the port are the two numbers.
use mathlib.Core.Path.{◌∙◌}
use mathlib.Core.List.{◌++◌}
use lib.ListN.{take}
use Rattle.message.specs.Fields.{identity_at}
use Rattle.message_words.specs.Words.{pair_words}
use Rattle.message_words.proofs.reading.put_target.Goals as goal

pub returns : goal.returns
unfolding identity_at
returns c =
    let w = c.args.out.now in
    c.put_pair.ensures ∙ (λ i. take 9 w ++ pair_words (c.u64_at.ensures i) (c.u16_at.ensures i))
