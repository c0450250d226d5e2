-- The records of a block as they are gone through.
use Rattle.block.specs.Layout.{Entry}
use Rattle.judging.specs.declared.Arrival.{Arrival}

-- a record as it is lent, by its octets
abbrev pub entry_of : Arrival → Entry
entry_of a = record { time = a.time; port = a.port; message = a.message.now }
