-- `built` meets its contract: part by part, one behind the other.
use Rattle.std.proofs.Common.{append-nil}
use Rattle.wr_tlvs.specs.Built.{wr_octets}
use Rattle.wr_tlvs.proofs.built.Goals as goal

pub returns : goal.returns
unfolding wr_octets
returns c =
    rw (c.copy_from_slice.ensures.after, c.two.ensures, c.copy_from_slice-2.ensures.after, c.two-2.ensures, c.copy_from_slice-3.ensures.after, c.six.ensures, c.copy_from_slice-4.ensures.after, c.two-3.ensures, c.copy_from_slice-5.ensures.after, c.wr_form-f.ensures, append-nil)
