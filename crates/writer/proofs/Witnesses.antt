-- The limits of writing, by 01's numbers. Where a limit is not passed, the answer is that of a message well within it, whatever the tail.
use Rattle.std.specs.Prelude.{Err}
use Prim.Native.Nat.{ℕ}
use mathlib.Core.Path.{◌≡◌, refl}
use mathlib.Core.List.{List}
use lib.IntN.{pos}
use lib.ListN.{length}
use Rattle.refusal.specs.Choice.{refuse}
use Rattle.refusal.specs.declared.Refusal.TheVariants.{Field}
use Rattle.message.specs.Fields.{fixed_size}
use Rattle.message.specs.declared.fields.Body.{Body}
use Rattle.message.specs.declared.fields.Body.TheVariants as body
use Rattle.message.specs.declared.fields.Message.{Message}
use Rattle.message.specs.declared.fields.Timestamp.{Timestamp}
use Rattle.writer.specs.Writing.{stamp_fits, write_check}

-- a message by its transportSpecific and its body; a stamp by its seconds and nanoseconds; an Announce that is otherwise zeros
abbrev message : ℕ → Body → Message
message transport b =
    record {
      header =
          record {
            transport = transport;
            domain = 0;
            flags = 0;
            correction = pos 0;
            source = record { clock = 0; port = 0 };
            sequence = 0;
            interval = pos 0;
          };
      body = b;
    }

abbrev stamp : ℕ → ℕ → Timestamp
stamp s n = record { seconds = s; nanoseconds = n }

abbrev announce : Body
announce =
    body.Announce (record {
      origin = stamp 0 0;
      utc = pos 0;
      priority1 = 0;
      class = 0;
      accuracy = 0;
      variance = 0;
      priority2 = 0;
      grandmaster = 0;
      steps = 0;
      timesource = 0;
    })

abbrev sync : Body
sync = body.Sync (stamp 0 0)

module _ (tail : List ℕ) (room : ℕ) where
  -- "transportSpecific (high half)": 15 fits its field and 16 does not; "48-bit seconds"; nanoseconds of 10^9 would be refused when read
  pub record Limits : Type 0 where
    pub transport_15 : write_check 0xABCD (message 15 sync) tail room ≡ write_check 0xABCD (message 0 sync) tail room
    pub transport_16 : write_check 0xABCD (message 16 sync) tail room ≡ Err Field
    pub stamp_last : write_check 0xABCD (message 0 (body.Sync (stamp 281474976710655 999999999))) tail room ≡ write_check 0xABCD (message 0 sync) tail room
    pub seconds_49_bits : write_check 0xABCD (message 0 (body.Sync (stamp 281474976710656 0))) tail room ≡ Err Field
    pub nanoseconds_10_9 : write_check 0xABCD (message 0 (body.Sync (stamp 0 1000000000))) tail room ≡ Err Field

  pub limits : Limits
  unfolding write_check refuse stamp_fits
  limits = record { transport_15 = refl; transport_16 = refl; stamp_last = refl; seconds_49_bits = refl; nanoseconds_10_9 = refl }

  -- "the length would pass 65,535": sizes are even, so that 65,534 is the longest; with one TLV of no data more it is too long
  pub longest : length tail ≡ 65470 → write_check 0xABCD (message 0 announce) tail 65534 ≡ write_check 0xABCD (message 0 sync) tail 65534
  unfolding write_check refuse stamp_fits fixed_size
  longest e = rw e

  pub too_long : length tail ≡ 65474 → write_check 0xABCD (message 0 announce) tail room ≡ Err Field
  unfolding write_check refuse stamp_fits fixed_size
  too_long e = rw e
