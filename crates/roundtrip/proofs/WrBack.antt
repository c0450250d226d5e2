-- White Rabbit's messages that were built are read: the suffix with its four bits of wrFlags, a link message with what it
-- carries. A Signaling with a link message is refused for transportSpecific or for want of room, and for nothing else.
use Rattle.std.specs.Prelude.{Some, Ok, Err}
use Prim.Native.Nat.{ℕ, ◌+◌, ◌%◌, ◌^◌, ◌<◌, ◌≤◌}
use mathlib.Core.Path.{◌≡◌, refl, ap, ◌∙◌}
use mathlib.Core.List.{List, []}
use mathlib.Core.Bool.{Bool, true, false, not}
use native.Mathlib.Omega.{arith}
use borrow.Author.Tests.{lt-ltb, le-ltb}
use lib.Dec.{ltb}
use lib.ListN.{length, drop, get_or}
use Rattle.refusal.specs.Choice.{refuse}
use Rattle.refusal.specs.Refusal.{code_of}
use Rattle.refusal.proofs.Choice.{goes_on}
use Rattle.refusal.specs.declared.Refusal.TheVariants.{Field, Room}
use Rattle.octets.specs.Be.{be, octets_of}
use Rattle.octets.proofs.Laws.{be_octets}
use Rattle.tlv.specs.Form.{number_at, data_octets, is_misfit, is_link}
use Rattle.tlv.specs.Numbers.{ANN-SUFIX}
use Rattle.tlv.specs.Faults.{fault_of}
use Rattle.tlv.specs.Wr.{flags_at, suffix_in, link_message_at, link_in}
use Rattle.tlv.specs.declared.wr.LinkMessage.{LinkMessage}
use Rattle.tlv.specs.declared.wr.LinkMessage.TheVariants.{SlavePresent, Lock, Locked, Calibrate, Calibrated, ModeOn}
use Rattle.message.specs.Fields.{fixed_size}
use Rattle.contents.specs.Parts.{suffix_of, link_of}
use Rattle.identity.specs.declared.PortIdentity.{PortIdentity}
use Rattle.message.specs.declared.fields.Header.{Header}
use Rattle.message.specs.declared.fields.Announce.{Announce}
use Rattle.message.specs.declared.fields.Body.TheVariants as body
use Rattle.message.specs.declared.fields.Message.{Message}
use Rattle.layout.specs.Layout.{size_of}
use Rattle.writer.specs.Writing.{write_check, write_of, written_code, buffer_of}
use Rattle.writer.proofs.Allowed.{allowed}
use Rattle.wr_tlvs.specs.Built.{wr_octets, suffix_octets, link_number, link_size, link_data, link_octets, signaling}
use Rattle.wr_tlvs.proofs.Laws.{link_count}
use Rattle.roundtrip.specs.Range.{LinkRange}
use Rattle.roundtrip.proofs.Written.{written_type, written_tail}
use Rattle.roundtrip.proofs.ReadBack.{write_code, accepted_back, gave}
use Rattle.roundtrip.proofs.OneTlv.{one_number, one_sound, one_long, suffix_first, link_first}

abbrev pub announcing : Header → Announce → Message
announcing h b = record { header = h; body = body.Announce b }

module _ (magic : ℕ) (hm : magic < 256 ^ 2) where
  -- the suffix passes the checks
  pub suffix_sound : (n : ℕ) → fault_of magic (suffix_octets magic n) ≡ Ok tt
  unfolding data_octets
  suffix_sound n = one_sound magic ANN-SUFIX 2 (octets_of 2 (n % 16) []) hm (omega arith) refl refl (omega arith) refl

  flags_back : (n : ℕ) → flags_at (suffix_octets magic n) 0 ≡ n % 16
  unfolding wr_octets be
  flags_back n = ap (λ (k : ℕ). k % 16) (be_octets 2 (n % 16) [] (omega arith)) ∙ omega arith

  -- and is found, with the bits of wrFlags that mean something
  pub suffix_found : (n : ℕ) → suffix_in magic (suffix_octets magic n) ≡ Some (n % 16)
  unfolding suffix_in
  suffix_found n =
      let c = octets_of 2 (n % 16) [] in
      let p = suffix_first magic ANN-SUFIX 2 c hm (omega arith) refl refl (omega arith) refl in
      let l = one_long magic ANN-SUFIX 2 c hm (omega arith) refl refl (omega arith) in
      rw (p, lt-ltb 0 (length (suffix_octets magic n)) l) (ap Some (flags_back n))

  -- what a link message's TLV holds
  record Link (x : LinkMessage) : Type 0 where
    known : link_number x < 256 ^ 2
    count : length (link_data x []) ≡ link_size x
    even : link_size x % 2 ≡ 0
    most : link_size x ≤ 16
    fits : is_misfit (data_octets (link_number x)) (8 + link_size x) ≡ false
    listed : is_link (Some (link_number x)) ≡ true

  of_link : (x : LinkMessage) → Link x
  unfolding data_octets
  of_link SlavePresent = record { known = omega arith; count = refl; even = refl; most = omega arith; fits = refl; listed = refl }
  of_link Lock = record { known = omega arith; count = refl; even = refl; most = omega arith; fits = refl; listed = refl }
  of_link Locked = record { known = omega arith; count = refl; even = refl; most = omega arith; fits = refl; listed = refl }
  of_link (Calibrate pattern retry period) =
      record { known = omega arith; count = refl; even = refl; most = omega arith; fits = refl; listed = refl }
  of_link (Calibrated tx rx) =
      record { known = omega arith; count = refl; even = refl; most = omega arith; fits = refl; listed = refl }
  of_link ModeOn = record { known = omega arith; count = refl; even = refl; most = omega arith; fits = refl; listed = refl }

  -- a link message passes the checks
  pub link_sound : (x : LinkMessage) → fault_of magic (link_octets magic x) ≡ Ok tt
  link_sound x =
      let o = of_link x in
      one_sound magic (link_number x) (link_size x) (link_data x []) hm o.known o.count o.even o.most o.fits

  number_back : (x : LinkMessage) → number_at (link_octets magic x) 0 ≡ link_number x
  number_back x =
      let o = of_link x in
      one_number magic (link_number x) (link_size x) (link_data x []) hm o.known o.count o.even o.most

  period_back : (pattern retry period : ℕ) → period < 256 ^ 4 → be 4 (link_octets magic (Calibrate pattern retry period)) 14 ≡ period
  unfolding wr_octets be
  period_back pattern retry period r = be_octets 4 period [] r

  pattern_back : (pattern retry period : ℕ) → get_or (link_octets magic (Calibrate pattern retry period)) 12 0 ≡ pattern
  unfolding wr_octets
  pattern_back pattern retry period = refl

  retry_back : (pattern retry period : ℕ) → get_or (link_octets magic (Calibrate pattern retry period)) 13 0 ≡ retry
  unfolding wr_octets
  retry_back pattern retry period = refl

  tx_back : (tx rx : ℕ) → tx < 256 ^ 8 → be 8 (link_octets magic (Calibrated tx rx)) 12 ≡ tx
  unfolding wr_octets be
  tx_back tx rx r = be_octets 8 tx [] r

  rx_back : (tx rx : ℕ) → rx < 256 ^ 8 → be 8 (link_octets magic (Calibrated tx rx)) 20 ≡ rx
  unfolding wr_octets be
  rx_back tx rx r = be_octets 8 rx [] r

  message_back : (x : LinkMessage) → LinkRange x → link_message_at (link_octets magic x) 0 ≡ x
  unfolding link_message_at
  message_back SlavePresent r = rw (number_back SlavePresent)
  message_back Lock r = rw (number_back Lock)
  message_back Locked r = rw (number_back Locked)
  message_back (Calibrate p q t) r =
      rw (number_back (Calibrate p q t)) (λ i. Calibrate (pattern_back p q t i) (retry_back p q t i) (period_back p q t r i))
  message_back (Calibrated tx rx) r =
      rw (number_back (Calibrated tx rx)) (λ i. Calibrated (tx_back tx rx r.0 i) (rx_back tx rx r.1 i))
  message_back ModeOn r = rw (number_back ModeOn)

  -- and is found, with what it carries
  pub link_found : (x : LinkMessage) → LinkRange x → link_in magic (link_octets magic x) ≡ Some x
  unfolding link_in
  link_found x r =
      let o = of_link x in
      let p = link_first magic (link_number x) (link_size x) (link_data x []) hm o.known o.count o.even o.most o.listed in
      let l = one_long magic (link_number x) (link_size x) (link_data x []) hm o.known o.count o.even o.most in
      rw (p, lt-ltb 0 (length (link_octets magic x)) l) (ap Some (message_back x r))

  pub link_checked : (h : Header) (p : PortIdentity) (x : LinkMessage) (room : ℕ)
      → write_check magic (signaling h p) (link_octets magic x) room
      ≡ refuse (not (ltb h.transport 16)) (Err Field) (refuse (ltb room (56 + link_size x)) (Err Room) (Ok tt))
  unfolding write_check fixed_size
  link_checked h p x room =
      let n : 44 + length (link_octets magic x) ≡ 56 + link_size x = omega (arith, link_count magic x) in
      rw (n, link_sound x, goes_on _ _ _ (le-ltb 65535 (56 + link_size x) (omega (arith, (of_link x).most))))
      (ap (refuse (not (ltb h.transport 16)) (Err Field)) (goes_on _ _ _ refl ∙ goes_on _ _ _ refl))

  -- a Signaling with a link message is refused for transportSpecific with 18, or for want of room with 16, and for nothing else
  pub link_written_lem : (h : Header) (p : PortIdentity) (x : LinkMessage) (out : List ℕ)
      → written_code (write_of magic (signaling h p) (link_octets magic x) out)
      ≡ refuse (not (ltb h.transport 16)) 18 (refuse (ltb (length out) (56 + link_size x)) 16 0)
  unfolding refuse
  link_written_lem h p x out =
      write_code magic (signaling h p) (link_octets magic x) out
      ∙ ap code_of (link_checked h p x (length out))
      ∙ numbers (not (ltb h.transport 16)) (ltb (length out) (56 + link_size x))
    where
      numbers : (a b : Bool) → code_of (refuse a (Err Field) (refuse b (Err Room) (Ok tt))) ≡ refuse a 18 (refuse b 16 0)
      numbers true b = refl
      numbers false true = refl
      numbers false false = refl

  -- and is read as that link message, with what stands in the buffer behind it
  pub link_back : (h : Header) (p : PortIdentity) (x : LinkMessage) (out : List ℕ) (k : ℕ) → LinkRange x
      → write_of magic (signaling h p) (link_octets magic x) out ≡ Ok k
      → link_of magic (buffer_of magic (signaling h p) (link_octets magic x) out) ≡ Ok (Some x)
  unfolding write_of buffer_of link_of
  link_back h p x out k rx e =
      let m = signaling h p in
      let t = link_octets magic x in
      let g = (gave (write_check magic m t (length out)) e).0 in
      let a = allowed magic m t (length out) g in
      let rest = drop (size_of m.body + length t) out in
      rw (g, accepted_back magic m t (length out) rest g, written_tail m t rest a.long, written_type m t rest a.long, link_found x rx)
      (goes_on _ _ _ refl)

  -- an Announce with the suffix is read with its wrFlags
  pub suffix_back : (h : Header) (b : Announce) (n : ℕ) (out : List ℕ) (k : ℕ)
      → write_of magic (announcing h b) (suffix_octets magic n) out ≡ Ok k
      → suffix_of magic (buffer_of magic (announcing h b) (suffix_octets magic n) out) ≡ Ok (Some (n % 16))
  unfolding write_of buffer_of suffix_of
  suffix_back h b n out k e =
      let m = announcing h b in
      let t = suffix_octets magic n in
      let g = (gave (write_check magic m t (length out)) e).0 in
      let a = allowed magic m t (length out) g in
      let rest = drop (size_of m.body + length t) out in
      rw (g, accepted_back magic m t (length out) rest g, written_tail m t rest a.long, written_type m t rest a.long, suffix_found n)
      (goes_on _ _ _ refl)
