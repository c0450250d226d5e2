-- `link` meets its contract: message by message.
use mathlib.Core.Path.{◌∙◌}
use Rattle.tlv.specs.Numbers.{CALIBRATED}
use Rattle.wr_tlvs.specs.Built.{wr_octets}
use Rattle.wr_tlvs.proofs.link.Goals as goal

pub returns-in-Calibrated : goal.returns-in-Calibrated
returns-in-Calibrated c =
    rw c.in-Calibrated.is
    (c.built-in-Calibrated.ensures ∙ (λ i. record { octets = wr_octets c.args.magic CALIBRATED 16 (c.calibrated_data.ensures i); size = 28 }))
