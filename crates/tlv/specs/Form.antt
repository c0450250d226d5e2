-- TLVs in White Rabbit form (01, "Octets of a message": "WR TLV (001, Table 5)").
use Rattle.std.specs.Prelude.{ℕ, ◌+◌, ◌*◌, List, Bool, false, not, ◌&&◌, eqb, leb, Option, Some, None}
use Rattle.octets.specs.Be.{be}
use Rattle.refusal.specs.Choice.{pick}
use Rattle.tlv.specs.Walk.{type_at, size_at}
use Rattle.tlv.specs.Numbers.{SLAVE-PRESENT, LOCK, LOCKED, CALIBRATE, CALIBRATED, WR-MODE-ON, ANN-SUFIX}
use Rattle.tlv.specs.declared.form.Form.{Form}

-- "type 0x0003, L = 8 + N, OUI 08 00 30, magic 2 octets, version 0x01"
abbrev pub wr_form : ℕ → Form
wr_form magic = record { kind = 0x0003; six = (0x080030 * 65536 + magic) * 256 + 0x01 }

-- a TLV of a form; "type 0x0003 with L under 8" is of none
unfoldable pub HasForm : Form → List ℕ → ℕ → Bool
HasForm f t p = eqb (type_at t p) f.kind && leb 8 (size_at t p) && eqb (be 6 t (p + 4)) f.six

-- "wrMessageID 2"
abbrev pub number_at : List ℕ → ℕ → ℕ
number_at t p = be 2 t (p + 10)

-- "Message numbers (003, Table 4) and N"
unfoldable pub data_octets : ℕ → Option ℕ
data_octets n =
    pick (eqb n SLAVE-PRESENT) (Some 0)
    (pick (eqb n LOCK) (Some 0)
    (pick (eqb n LOCKED) (Some 0)
    (pick (eqb n CALIBRATE) (Some 6)  -- pattern 1, retry 1, period 4
    (pick (eqb n CALIBRATED) (Some 16)  -- deltaTx 8, deltaRx 8
    (pick (eqb n WR-MODE-ON) (Some 0)
    (pick (eqb n ANN-SUFIX) (Some 2)  -- wrFlags
    None))))))

-- "L = 8 + N"; "Other .. numbers are passed over"
abbrev pub is_misfit : Option ℕ → ℕ → Bool
is_misfit (Some n) l = not (eqb l (8 + n))
is_misfit None l = false

-- the number of the TLV at p, if it is in the form of that magic; "Other TLVs .., versions .. are passed over"
unfoldable pub numbered : ℕ → List ℕ → ℕ → Option ℕ
numbered magic t p = pick (HasForm (wr_form magic) t p) (Some (number_at t p)) None

-- "a known WR message with a wrong data size"
abbrev pub misfit_by : Option ℕ → ℕ → Bool
misfit_by (Some n) l = is_misfit (data_octets n) l
misfit_by None l = false

unfoldable pub misfit_at : ℕ → List ℕ → ℕ → Bool
misfit_at magic t p = misfit_by (numbered magic t p) (size_at t p)

-- an ANN_SUFIX
abbrev pub is_suffix : Option ℕ → Bool
is_suffix (Some n) = eqb n ANN-SUFIX
is_suffix None = false

unfoldable pub suffix_at : ℕ → List ℕ → ℕ → Bool
suffix_at magic t p = is_suffix (numbered magic t p)

-- one of the six from SLAVE_PRESENT to WR_MODE_ON
abbrev pub is_link : Option ℕ → Bool
is_link (Some n) = leb SLAVE-PRESENT n && leb n WR-MODE-ON
is_link None = false

unfoldable pub link_at : ℕ → List ℕ → ℕ → Bool
link_at magic t p = is_link (numbered magic t p)
