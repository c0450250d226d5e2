-- `reading::put_pair` meets its contract: eleven words are stored.
use Rattle.message_words.proofs.ReadingLaws.{eleven}
use Rattle.message_words.proofs.reading.put_pair.Goals as goal

pub returns : goal.returns
returns c =
    eleven c.args.out.now c.told-out _ _ _ _ _ _ _ _ _ _ _
