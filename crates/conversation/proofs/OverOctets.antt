-- What a link has its host send is written by `wr_tlvs` and found by reading, and the number that is read is the one that the other side's link takes; so two
-- hosts over octets bring the link up on both sides, as the two links do.
use Rattle.std.specs.Prelude.{Ok}
use Prim.Native.Nat.{ℕ, ◌+◌, ◌^◌, ◌<◌, ◌≤◌}
use mathlib.Core.Path.{◌≡◌, ap, ◌∙◌}
use mathlib.Core.Bool.{true, false, not, ◌&&◌}
use mathlib.Core.List.{List}
use native.Mathlib.Omega.{arith}
use borrow.Author.Tests.{lt-ltb, le-ltb}
use lib.ListN.{length}
use Rattle.refusal.proofs.Choice.{goes_on}
use Rattle.tlv.specs.declared.wr.LinkMessage.{LinkMessage}
use Rattle.tlv.specs.declared.wr.LinkMessage.TheVariants.{SlavePresent, Lock, Locked, Calibrate, Calibrated, ModeOn}
use Rattle.tlv.specs.Numbers.{link_number}
use Rattle.message.specs.Fields.{fixed_size}
use Rattle.identity.specs.declared.PortIdentity.{PortIdentity}
use Rattle.message.specs.declared.fields.Header.{Header}
use Rattle.writer.specs.Writing.{write_check, write_of}
use Rattle.wr_tlvs.specs.Built.{link_size, link_octets, signaling}
use Rattle.roundtrip.specs.Range.{LinkRange}
use Rattle.roundtrip.proofs.WrBack.{link_checked, link_back}
use Rattle.link.specs.Machine.{is_idle, CanSlave, CanMaster}
use Rattle.link.specs.Conversation.{happenings}
use Rattle.links.specs.Words.{IsPort, base, link_at, settings_at, settings_of}
use Rattle.links.specs.Hosts.{number, Carries, HostsCome, hosts_begin}
use Rattle.links.proofs.Hosts.{Says, hosts_come_up}
use Rattle.conversation.specs.Octets.{handed_on, heard_in, put_in, Words64}

size_most : (m : LinkMessage) → link_size m ≤ 16
size_most SlavePresent = omega arith
size_most Lock = omega arith
size_most Locked = omega arith
size_most (Calibrate pattern retry period) = omega arith
size_most (Calibrated tx rx) = omega arith
size_most ModeOn = omega arith

-- A Signaling whose header fits, in a buffer of 72 octets or more, is written, whichever the message; and what was written is heard by its number.
module _ (magic : ℕ) (magic-fits : magic < 256 ^ 2) (header : Header) (target : PortIdentity) (transport : header.transport < 16)
    (out : List ℕ) (room : 72 ≤ length out) where
  passes : (m : LinkMessage) → write_check magic (signaling header target) (link_octets magic m) (length out) ≡ Ok tt
  passes m =
      let most = size_most m in
      link_checked magic magic-fits header target m (length out)
      ∙ goes_on _ _ _ (ap not (lt-ltb header.transport 16 transport))
      ∙ goes_on _ _ _ (le-ltb (length out) (56 + link_size m) (omega arith))

  pub put_written : (m : LinkMessage) → write_of magic (signaling header target) (link_octets magic m) out ≡ Ok (44 + length (link_octets magic m))
  unfolding write_of fixed_size
  put_written m = rw (passes m)

  pub put_heard : (m : LinkMessage) → LinkRange m → heard_in magic (put_in magic header target out m) ≡ number (link_number m)
  put_heard m r = ap handed_on (link_back magic magic-fits header target m out (44 + length (link_octets magic m)) r (put_written m))

  pub put_carries : (p q : ℕ) → Carries (heard_in magic) p q LinkRange (put_in magic header target out)
  put_carries p q = put_heard

-- What a link sends fits, by the settings in its words.
says_fit : (ws : List ℕ) (port : ℕ) → Words64 ws → Says LinkRange (settings_at ws port)
unfolding settings_of
says_fit ws port w =
    record {
      present = tt;
      lock = tt;
      locked = tt;
      calibrate = omega arith;
      calibrated = (omega (arith, w (base port + 2)), omega (arith, w (base port + 3)));
      mode_on = tt;
    }

-- Two hosts over octets. Each message goes out in a Signaling with whatever header, target and buffer its host has at that moment, as long as they fit.
module _ (magic : ℕ) (magic-fits : magic < 256 ^ 2) (p q : ℕ) (p-known : IsPort p ≡ true) (q-known : IsPort q ≡ true) (slave master : List ℕ) where
  pub octets_come_up : length slave ≡ 72 → length master ≡ 72 → Words64 slave → Words64 master →
      is_idle (link_at slave p).state ≡ true → is_idle (link_at master q).state ≡ true →
      CanSlave (settings_at slave p).config ≡ true → CanMaster (settings_at master q).config ≡ true → ((link_at slave p).mode && (link_at master q).mode) ≡ false →
      (header : Header) (target : PortIdentity) (out : List ℕ) → header.transport < 16 → 72 ≤ length out →
      HostsCome (heard_in magic) p q LinkRange (happenings (settings_at slave p) (settings_at master q))
      (hosts_begin (heard_in magic) p q (put_in magic header target out) (settings_at master q).config (link_at master q).mode slave master)
  octets_come_up ls lm ws wm i j cs cm m header target out t room =
      hosts_come_up (heard_in magic) p q p-known q-known LinkRange slave master ls lm (says_fit slave p ws) (says_fit master q wm) i j cs cm m
      (put_in magic header target out) (put_carries magic magic-fits header target t out room p q)
