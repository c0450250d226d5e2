-- `dz_lookup` meets its contract: what is found is put into the words, with the length that stands before its data.
use Rattle.contents.proofs.Part.{found_within, data_length_lem}
use Rattle.dzervolat.proofs.reading.dz_lookup.Goals as goal

pub data_length-length-requires : goal.data_length-length-requires
data_length-length-requires c =
    found_within _ _ _ c.looked_up-x.ensures

pub returns-clause-words : goal.returns-clause-words
returns-clause-words c =
    let x = c.looked_up-x.ensures in
    rw (← data_length_lem _ _ _ x, ← c.data_length-length.ensures, ← x) c.put_tlv.ensures.words
