-- The four forms of a capture file, as the values of two things: the order of a number's octets, and the nanoseconds of one count of a time's fraction
-- (02, (vi): "magic 0xa1b2c3d4 (microseconds) or 0xa1b23c4d (nanoseconds) in either octet order"). Whatever is said of a file is said over them.
use Rattle.std.specs.Prelude.{ℕ, zero, suc, ◌+◌, ◌*◌, List, true, false, eqb, get_or}
use Rattle.refusal.specs.Choice.{pick}
use Rattle.octets.specs.Be.{be, octets_of}
use Rattle.stores.specs.Stores.{low_of}
use Rattle.pcap.specs.declared.Form.{Form}

-- the number in the n octets of s at `at`, the first the lowest; an octet past the end counts as 0
unfoldable pub low : ℕ → List ℕ → ℕ → ℕ
low zero s at = 0
low (suc n) s at = get_or s at 0 + 256 * low n s (suc at)

-- "in either octet order": the number in n octets, as a file of a form has it, and the n octets of a number, before rest
abbrev pub number_at : Form → ℕ → List ℕ → ℕ → ℕ
number_at f n s at = pick f.little (low n s at) (be n s at)

abbrev pub number_octets : Form → ℕ → ℕ → List ℕ → List ℕ
number_octets f n v rest = pick f.little (low_of n v rest) (octets_of n v rest)

-- "0xa1b2c3d4 (microseconds) or 0xa1b23c4d (nanoseconds)": the nanoseconds of one count under a magic; 0 under any other number
abbrev pub unit_under : ℕ → ℕ
unit_under magic = pick (eqb magic 0xa1b2c3d4) 1000 (pick (eqb magic 0xa1b23c4d) 1 0)

-- the form that a file's first four octets tell: read with the highest first they are a magic, or else the lowest comes first
abbrev pub big_form : List ℕ → Form
big_form s = record { little = false; unit = unit_under (be 4 s 0) }

abbrev pub little_form : List ℕ → Form
little_form s = record { little = true; unit = unit_under (low 4 s 0) }

unfoldable pub form_of : List ℕ → Form
form_of s = pick (eqb (big_form s).unit 0) (little_form s) (big_form s)
