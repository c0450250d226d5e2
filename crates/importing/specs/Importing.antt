-- A capture read into a trace (02, (vi): "Frames with EtherType 0x88F7 are taken without their 14-octet head, others, and those under 14 octets, passed over;
-- the caller names the port for the file."; "21 PCAP ..; then 8, then what recording gives the first frame it refuses; .. last .. 16 for too little room").
use Rattle.std.specs.Prelude.{ℕ, List, [], ◌∷◌, Bool, not, ◌&&◌, eqb, leb, ltb, length, drop, replicate, true, false, Result, Ok, Err}
use Rattle.refusal.specs.Choice.{pick, refuse}
use Rattle.refusal.specs.Limits.{is_port}
use Rattle.refusal.specs.declared.Refusal.TheVariants.{Pcap, Port, Room}
use Rattle.octets.specs.Be.{be}
use Rattle.stores.specs.Stores.{over}
pub use Rattle.writer.specs.Writing.{lent_by}
use Rattle.block.specs.Layout.{block_octets, Entry}
use Rattle.block.specs.Making.{sealed}
use Rattle.recording.specs.Recording.{entry_of, next_of, is_open, record_check, recorded_of, open_after, words_after, out_after}
use Rattle.traces.specs.Taped.{taped_all, trace_of, fresh_tape}
use Rattle.pcap.specs.File.{Frame, frames_of, is_capture}
use Rattle.refusal.specs.declared.Refusal.{Refusal}

-- ---- A FRAME
-- "14-octet head": two addresses, and the EtherType behind them
abbrev pub frame_head : ℕ
frame_head = 14

-- "Frames with EtherType 0x88F7 are taken"
unfoldable pub is_ptp : List ℕ → Bool
is_ptp octets = leb frame_head (length octets) && eqb (be 2 octets 12) 0x88F7

-- "without their 14-octet head"; "the caller names the port"
abbrev pub entry_by : ℕ → Frame → Entry
entry_by port x = entry_of x.time port (drop frame_head x.octets)

-- what recording a frame answers, and all that is lent to it afterwards; nothing is changed by one that is passed over
abbrev pub frame_check : List ℕ → ℕ → Frame → Result (Unit {0}) Refusal
frame_check ws port x = pick (is_ptp x.octets) (record_check ws (entry_by port x)) (Ok tt)

abbrev pub frame_recorded : List ℕ → ℕ → Frame → Result Bool Refusal
frame_recorded ws port x = pick (is_ptp x.octets) (recorded_of ws (entry_by port x)) (Ok false)

abbrev pub open_behind : List ℕ → List ℕ → ℕ → Frame → List ℕ
open_behind opened ws port x = pick (is_ptp x.octets) (open_after opened ws (entry_by port x)) opened

abbrev pub words_behind : List ℕ → ℕ → Frame → List ℕ
words_behind ws port x = pick (is_ptp x.octets) (words_after ws (entry_by port x)) ws

abbrev pub out_behind : List ℕ → List ℕ → ℕ → Frame → List ℕ → List ℕ
out_behind opened ws port x out = pick (is_ptp x.octets) (out_after opened ws (entry_by port x) out) out

-- the block that comes out, which `block` has then; and the open block at last
abbrev pub came_out : Result Bool Refusal → List ℕ → List ℕ
came_out (Err x) block = []
came_out (Ok false) block = []
came_out (Ok true) block = block

abbrev pub last_out : List ℕ → List ℕ → List ℕ
last_out opened ws = pick (is_open ws) (sealed opened) []

-- ---- ALL FRAMES
-- the records of those that are taken, in order
unfoldable pub taken_of : ℕ → List Frame → List Entry
taken_of port [] = []
taken_of port (x ∷ xs) = pick (is_ptp x.octets) (entry_by port x ∷ taken_of port xs) (taken_of port xs)

-- "what recording gives the first frame it refuses"
abbrev pub or_else : Result (Unit {0}) Refusal → Result (Unit {0}) Refusal → Result (Unit {0}) Refusal
or_else (Err x) rest = Err x
or_else (Ok tt) rest = rest

unfoldable pub records_check : List ℕ → List Entry → Result (Unit {0}) Refusal
records_check ws [] = Ok tt
records_check ws (e ∷ es) = or_else (record_check ws e) (records_check (words_after ws e) es)

unfoldable pub words_after_all : List ℕ → List Entry → List ℕ
words_after_all ws [] = ws
words_after_all ws (e ∷ es) = words_after_all (words_after ws e) es

-- the words of a fresh recording
abbrev pub fresh_words : List ℕ
fresh_words = 0 ∷ 0 ∷ 0 ∷ []

-- the trace that a fresh recording makes of records
abbrev pub trace_by : List Entry → List ℕ
trace_by es = trace_of (taped_all (fresh_tape (replicate block_octets 0) 0) es)

-- how many blocks they come to: the number that the next would have
abbrev pub weight_by : Result (Unit {0}) Refusal → ℕ → Result ℕ Refusal
weight_by (Err x) n = Err x
weight_by (Ok tt) n = Ok n

abbrev pub weight_of : ℕ → List Frame → Result ℕ Refusal
weight_of port xs = weight_by (records_check fresh_words (taken_of port xs)) (next_of (words_after_all fresh_words (taken_of port xs)))

-- ---- A FILE
abbrev pub records_in : ℕ → List ℕ → List Entry
records_in port file = taken_of port (frames_of file)

abbrev pub behind : Result (Unit {0}) Refusal → Result ℕ Refusal → Result ℕ Refusal
behind (Err x) rest = Err x
behind (Ok tt) rest = rest

unfoldable pub import_of : ℕ → ℕ → List ℕ → Result ℕ Refusal
import_of room port file =
    refuse (not (is_capture file)) (Err Pcap)
    (refuse (not (is_port port)) (Err Port)
    (behind (records_check fresh_words (records_in port file))
    (refuse (ltb room (length (trace_by (records_in port file)))) (Err Room)
    (Ok (length (trace_by (records_in port file)))))))

-- what was lent, afterwards: octets past the trace stay
abbrev pub out_after_import : List ℕ → ℕ → List ℕ → List ℕ
out_after_import out port file = lent_by (import_of (length out) port file) out (over out 0 (trace_by (records_in port file)))
