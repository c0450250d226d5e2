-- The octets of a link message's TLV are the front of what is handed back.
use Prim.Native.Nat.{ℕ, ◌≤◌}
use mathlib.Core.Path.{◌≡◌, refl, ◌∙◌}
use native.Mathlib.Omega.{arith}
use lib.ListN.{length, take}
use Rattle.tlv.specs.declared.wr.LinkMessage.{LinkMessage}
use Rattle.tlv.specs.declared.wr.LinkMessage.TheVariants.{SlavePresent, Lock, Locked, Calibrate, Calibrated, ModeOn}
use Rattle.wr_tlvs.specs.declared.WrTlv.{WrTlv}
use Rattle.wr_tlvs.specs.Built.{wr_octets, link_octets, link_tlv}

pub link_most : (magic : ℕ) (x : LinkMessage) → (link_tlv magic x).size ≤ length (link_tlv magic x).octets
unfolding wr_octets
link_most magic SlavePresent = omega arith
link_most magic Lock = omega arith
link_most magic Locked = omega arith
link_most magic (Calibrate pattern retry period) = omega arith
link_most magic (Calibrated tx rx) = omega arith
link_most magic ModeOn = omega arith

pub link_front : (magic : ℕ) (x : LinkMessage) → take (link_tlv magic x).size (link_tlv magic x).octets ≡ link_octets magic x
unfolding wr_octets
link_front magic SlavePresent = refl
link_front magic Lock = refl
link_front magic Locked = refl
link_front magic (Calibrate pattern retry period) = refl
link_front magic (Calibrated tx rx) = refl
link_front magic ModeOn = refl

pub link_count : (magic : ℕ) (x : LinkMessage) → (link_tlv magic x).size ≡ length (link_octets magic x)
unfolding wr_octets
link_count magic SlavePresent = refl
link_count magic Lock = refl
link_count magic Locked = refl
link_count magic (Calibrate pattern retry period) = refl
link_count magic (Calibrated tx rx) = refl
link_count magic ModeOn = refl

-- what of such a TLV is sent
pub link_sent : (magic : ℕ) (x : LinkMessage) {t : WrTlv} → t ≡ link_tlv magic x → take t.size t.octets ≡ link_octets magic x
link_sent magic x e = (λ i. take (e i).size (e i).octets) ∙ link_front magic x
