-- A capture file read piece by piece: its head and the heads of its packets, in words (02, (vi): "21 PCAP, a wrong head, link type or fraction, or a frame stored
-- short"). A refusal leaves the words as they were.
use Rattle.std.specs.Prelude.{ℕ, List, [], ◌∷◌, Bool, not, ◌&&◌, eqb, get_or, Result, Ok, Err}
use Rattle.refusal.specs.Choice.{pick, refuse}
use Rattle.refusal.specs.declared.Refusal.TheVariants.{Pcap}
use Rattle.pcap.specs.declared.Form.{Form}
use Rattle.pcap.specs.Form.{form_of}
use Rattle.pcap.specs.File.{is_head, is_ethernet, is_packet_head, time_of, stored_of}
use Rattle.refusal.specs.declared.Refusal.{Refusal}

-- the form in two words: 1 where the lowest octet comes first, and the nanoseconds of a count
abbrev pub form_words : Form → List ℕ
form_words f = pick f.little 1 0 ∷ f.unit ∷ []

-- .. and back; a word that is no unit gives none
abbrev pub unit_by : ℕ → ℕ
unit_by w = pick (eqb w 1000) 1000 (pick (eqb w 1) 1 0)

abbrev pub form_by : List ℕ → Form
form_by ws = record { little = not (eqb (get_or ws 0 0) 0); unit = unit_by (get_or ws 1 0) }

-- ---- THE HEAD OF A FILE
abbrev pub tells_form : List ℕ → Bool
tells_form s = is_head (form_of s) s && is_ethernet (form_of s) s

abbrev pub head_check : List ℕ → Result (Unit {0}) Refusal
head_check s = refuse (not (tells_form s)) (Err Pcap) (Ok tt)

abbrev pub form_after : List ℕ → List ℕ → List ℕ
form_after ws s = pick (tells_form s) (form_words (form_of s)) ws

-- ---- THE HEAD OF A PACKET
abbrev pub is_sound : List ℕ → List ℕ → Bool
is_sound form s = not (eqb (form_by form).unit 0) && is_packet_head (form_by form) s

abbrev pub packet_check : List ℕ → List ℕ → Result (Unit {0}) Refusal
packet_check form s = refuse (not (is_sound form s)) (Err Pcap) (Ok tt)

-- its time, and the octets of its frame
abbrev pub packet_after : List ℕ → List ℕ → List ℕ → List ℕ
packet_after form ws s = pick (is_sound form s) (time_of (form_by form) s ∷ stored_of (form_by form) s ∷ []) ws
