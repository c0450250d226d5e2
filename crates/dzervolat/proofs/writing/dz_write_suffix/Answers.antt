-- `dz_write_suffix` meets its contract: the first fourteen octets of the TLV.
use Rattle.words.proofs.Spread.{spread}
use Rattle.wr_tlvs.specs.Built.{wr_octets}
use Rattle.dzervolat.proofs.writing.dz_write_suffix.Goals as goal

pub returns-clause-octets : goal.returns-clause-octets
unfolding wr_octets
returns-clause-octets c =
    λ i. spread 14 0 (c.suffix-t.ensures i).octets
