-- Writing at its edges, computed: what the contract of `write` demands at the limits and just past them, so that a writer
-- that refuses everything, writes nothing, or answers a constant does not meet it.
use Rattle.std.specs.Prelude.{Ok}
use Prim.Native.Nat.{ℕ, zero, suc}
use mathlib.Core.Path.{◌≡◌, refl}
use mathlib.Core.List.{List, [], ◌∷◌}
use lib.IntN.{negsuc}
use Rattle.refusal.specs.Choice.{refuse}
use Rattle.octets.specs.Be.{be}
use Rattle.tlv.specs.Walk.{next_of, walk_by, walk}
use Rattle.tlv.specs.Form.{HasForm, data_octets, numbered, misfit_at}
use Rattle.tlv.specs.Faults.{fault_of}
use Rattle.message.specs.Fields.{fixed_size}
use Rattle.message.specs.declared.fields.Body.TheVariants as body
use Rattle.message.specs.declared.fields.Message.{Message}
use Rattle.layout.specs.Layout.{identity_octets, stamp_octets, lead_octets, close_octets, message_octets}
use Rattle.writer.specs.Writing.{stamp_fits, write_check, write_of, written_code, buffer_of}

-- a two-step Sync in domain 1 with a correction of -1
abbrev sync : ℕ → ℕ → ℕ → Message
sync transport seconds nanoseconds =
    record {
      header = record {
        transport = transport;
        domain = 1;
        flags = 0x0200;
        correction = negsuc 0;
        source = record { clock = 0x0102030405060708; port = 9 };
        sequence = 0x0A0B;
        interval = negsuc 2;
      };
      body = body.Sync (record { seconds = seconds; nanoseconds = nanoseconds });
    }

-- n octets of a buffer
abbrev buffer : ℕ → List ℕ
buffer zero = []
buffer (suc n) = 0xEE ∷ buffer n

-- a Sync into 46 octets: 44 are the message, two stay
pub sync_written : buffer_of 0xABCD (sync 3 0x010203040506 0x0708090A) [] (buffer 46)
    ≡ 0x30 ∷ 0x02 ∷ 0 ∷ 44 ∷ 1 ∷ 0 ∷ 0x02 ∷ 0 ∷ 0xFF ∷ 0xFF ∷ 0xFF ∷ 0xFF ∷ 0xFF ∷ 0xFF ∷ 0xFF ∷ 0xFF ∷ 0 ∷ 0 ∷ 0 ∷ 0
    ∷ 1 ∷ 2 ∷ 3 ∷ 4 ∷ 5 ∷ 6 ∷ 7 ∷ 8 ∷ 0 ∷ 9 ∷ 0x0A ∷ 0x0B ∷ 0 ∷ 0xFD ∷ 1 ∷ 2 ∷ 3 ∷ 4 ∷ 5 ∷ 6 ∷ 7 ∷ 8 ∷ 9 ∷ 0x0A ∷ 0xEE ∷ 0xEE ∷ []
unfolding buffer_of write_check refuse fault_of walk walk_by fixed_size stamp_fits message_octets lead_octets identity_octets close_octets stamp_octets
sync_written = refl

-- at the limits it is written into a buffer just large enough
pub taken_at_the_limits : write_of 0xABCD (sync 15 281474976710655 999999999) [] (buffer 44) ≡ Ok 44
unfolding write_of write_check refuse fault_of walk walk_by fixed_size stamp_fits
taken_at_the_limits = refl

pub transport_of_16 : written_code (write_of 0xABCD (sync 16 0 0) [] (buffer 44)) ≡ 18
unfolding write_of write_check refuse
transport_of_16 = refl

pub seconds_of_49_bits : written_code (write_of 0xABCD (sync 0 281474976710656 0) [] (buffer 44)) ≡ 18
unfolding write_of write_check refuse stamp_fits
seconds_of_49_bits = refl

pub nanoseconds_of_a_second : written_code (write_of 0xABCD (sync 0 0 1000000000) [] (buffer 44)) ≡ 18
unfolding write_of write_check refuse stamp_fits
nanoseconds_of_a_second = refl

pub tail_of_one_octet : written_code (write_of 0xABCD (sync 0 0 0) (0 ∷ []) (buffer 45)) ≡ 18
unfolding write_of write_check refuse fault_of walk walk_by next_of be fixed_size stamp_fits
tail_of_one_octet = refl

-- a SLAVE_PRESENT with two octets of data
pub slave_present_with_data : written_code (write_of 0xABCD (sync 0 0 0) (0 ∷ 3 ∷ 0 ∷ 10 ∷ 0x08 ∷ 0 ∷ 0x30 ∷ 0xAB ∷ 0xCD ∷ 1 ∷ 0x10 ∷ 0 ∷ 0 ∷ 0 ∷ []) (buffer 58)) ≡ 18
unfolding write_of write_check refuse fault_of walk walk_by next_of be fixed_size stamp_fits misfit_at numbered HasForm data_octets
slave_present_with_data = refl

-- the same under another magic is no known message
pub another_magic : write_of 0xDEAD (sync 0 0 0) (0 ∷ 3 ∷ 0 ∷ 10 ∷ 0x08 ∷ 0 ∷ 0x30 ∷ 0xAB ∷ 0xCD ∷ 1 ∷ 0x10 ∷ 0 ∷ 0 ∷ 0 ∷ []) (buffer 58) ≡ Ok 58
unfolding write_of write_check refuse fault_of walk walk_by next_of be fixed_size stamp_fits misfit_at numbered HasForm
another_magic = refl

pub one_octet_short : written_code (write_of 0xABCD (sync 0 0 0) [] (buffer 43)) ≡ 16
unfolding write_of write_check refuse fault_of walk walk_by fixed_size stamp_fits
one_octet_short = refl

-- 18 comes before 16
pub field_before_room : written_code (write_of 0xABCD (sync 16 0 0) [] []) ≡ 18
unfolding write_of write_check refuse
field_before_room = refl
