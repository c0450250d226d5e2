-- A trace written as a capture (02, (vi): "We write nanosecond, big-endian, snapshot length 65,535, other fields and addresses zero, and refuse a trace that
-- mixes ports or has a time whose seconds exceed 32 bits."; "in writing 20 as in replay, 22 EXPORT for a trace we can't write; last, in both, 16 for too
-- little room").
use Rattle.std.specs.Prelude.{ℕ, ◌/◌, ◌%◌, List, [], ◌∷◌, map, Bool, true, not, ◌&&◌, eqb, ltb, length, get_or, Option, Some, None, Result, Ok, Err}
use Rattle.refusal.specs.Choice.{pick, refuse}
use Rattle.refusal.specs.Limits.{second_nanos}
use Rattle.refusal.specs.declared.Refusal.TheVariants.{Block, Export, Room}
use Rattle.octets.specs.Be.{octets_of}
use Rattle.stores.specs.Stores.{over}
pub use Rattle.writer.specs.Writing.{lent_by}
use Rattle.block.specs.Layout.{Entry, entries_of}
use Rattle.judging.specs.Tests.{reader_after}
use Rattle.playback.specs.Playback.{reader_of, accepts, blocks_in, entries_of_all, is_trace}
use Rattle.pcap.specs.Written.{Packet, packets_in, head_in, our_form, our_fields, framed, our_packet}
use Rattle.refusal.specs.declared.Refusal.{Refusal}

-- a message as a packet: its time, and its octets in a frame
abbrev pub packet_for : ℕ → List ℕ → Packet
packet_for t message = our_packet (record { time = t; octets = framed message })

abbrev pub packet_by : Entry → Packet
packet_by e = packet_for e.time e.message

abbrev pub packets_of : List Entry → List ℕ
packets_of es = packets_in our_form (map packet_by es)

-- the octets of a packet before its message: the packet's head, n octets stored and n in the frame, and the frame's own head
abbrev pub heads_of : ℕ → ℕ → List ℕ
heads_of t n = octets_of 4 (t / second_nanos) (octets_of 4 (t % second_nanos) (octets_of 4 n (octets_of 4 n (framed []))))

-- the file
abbrev pub capture_of : List Entry → List ℕ
capture_of es = head_in our_form our_fields (packets_of es)

-- the port of the first record
abbrev pub port_of : List Entry → ℕ
port_of [] = 0
port_of (e ∷ es) = e.port

-- neither "mixes ports" nor "a time whose seconds exceed 32 bits": a record is of the port, and its seconds have a place
abbrev pub is_writable : ℕ → Entry → Bool
is_writable port e = eqb e.port port && ltb (e.time / second_nanos) 4294967296

unfoldable pub are_writable : ℕ → List Entry → Bool
are_writable port [] = true
are_writable port (e ∷ es) = is_writable port e && are_writable port es

-- the octets of the packets, where they can be written
unfoldable pub weight_of : ℕ → List Entry → Option ℕ
weight_of port es = pick (are_writable port es) (Some (length (packets_of es))) None

-- ---- A WHOLE TRACE
abbrev pub records_of : List ℕ → List Entry
records_of trace = entries_of_all (blocks_in trace)

abbrev pub can_write : List ℕ → Bool
can_write trace = are_writable (port_of (records_of trace)) (records_of trace)

unfoldable pub export_of : ℕ → List ℕ → Result ℕ Refusal
export_of room trace =
    refuse (not (is_trace trace)) (Err Block)
    (refuse (not (can_write trace)) (Err Export)
    (refuse (ltb room (length (capture_of (records_of trace)))) (Err Room)
    (Ok (length (capture_of (records_of trace))))))

-- what was lent, afterwards: "octets past it stay"
abbrev pub out_after_export : List ℕ → List ℕ → List ℕ
out_after_export out trace = lent_by (export_of (length out) trace) out (over out 0 (capture_of (records_of trace)))

-- ---- BLOCK BY BLOCK, for a writer that streams: three words, the reader's two and the port of the records before, 0 where there is none
abbrev pub port_behind : List ℕ → List Entry → ℕ
port_behind rs es = pick (eqb (get_or rs 2 0) 0) (port_of es) (get_or rs 2 0)

unfoldable pub export_block_of : List ℕ → List ℕ → Result ℕ Refusal
export_block_of rs s =
    refuse (not (accepts (reader_of rs) s)) (Err Block)
    (refuse (not (are_writable (port_behind rs (entries_of s)) (entries_of s))) (Err Export) (Ok (length (packets_of (entries_of s)))))

abbrev pub reader_behind : List ℕ → List ℕ → List ℕ
reader_behind rs s =
    lent_by (export_block_of rs s) rs ((reader_after (reader_of rs) s).next ∷ (reader_after (reader_of rs) s).last ∷ port_behind rs (entries_of s) ∷ [])

abbrev pub packets_behind : List ℕ → List ℕ → List ℕ → List ℕ
packets_behind rs out s = lent_by (export_block_of rs s) out (over out 0 (packets_of (entries_of s)))
