-- Any two results that a contract of this crate allows are equal, over the contract as it is read of the source: a
-- contract that said less would not prove these.
use mathlib.Core.Path.{◌∙◌, refl, sym}
use Rattle.laws.proofs.Fixes.{Fixes}
use Rattle.octets.specs.contracts as contracts
use Rattle.octets.proofs as its

pub held_u16_at_determined : Fixes contracts.held.u16_at.ended its.held.u16_at.Reads.Post
held_u16_at_determined κs a x y v w p q = (p ∙ sym q, refl)

pub held_u32_at_determined : Fixes contracts.held.u32_at.ended its.held.u32_at.Reads.Post
held_u32_at_determined κs a x y v w p q = (p ∙ sym q, refl)

pub held_u48_at_determined : Fixes contracts.held.u48_at.ended its.held.u48_at.Reads.Post
held_u48_at_determined κs a x y v w p q = (p ∙ sym q, refl)

pub held_u64_at_determined : Fixes contracts.held.u64_at.ended its.held.u64_at.Reads.Post
held_u64_at_determined κs a x y v w p q = (p ∙ sym q, refl)

pub octet_at_determined : Fixes contracts.octet_at.ended its.octet_at.Reads.Post
octet_at_determined κs a x y v w p q = (p ∙ sym q, refl)

pub u16_at_determined : Fixes contracts.u16_at.ended its.u16_at.Reads.Post
u16_at_determined κs a x y v w p q = (p ∙ sym q, refl)

pub u32_at_determined : Fixes contracts.u32_at.ended its.u32_at.Reads.Post
u32_at_determined κs a x y v w p q = (p ∙ sym q, refl)

pub u48_at_determined : Fixes contracts.u48_at.ended its.u48_at.Reads.Post
u48_at_determined κs a x y v w p q = (p ∙ sym q, refl)

pub u64_at_determined : Fixes contracts.u64_at.ended its.u64_at.Reads.Post
u64_at_determined κs a x y v w p q = (p ∙ sym q, refl)

pub signed8_determined : Fixes contracts.signed8.ended its.signed8.Reads.Post
signed8_determined κs a x y v w p q = (p ∙ sym q, refl)

pub signed16_determined : Fixes contracts.signed16.ended its.signed16.Reads.Post
signed16_determined κs a x y v w p q = (p ∙ sym q, refl)

pub signed64_determined : Fixes contracts.signed64.ended its.signed64.Reads.Post
signed64_determined κs a x y v w p q = (p ∙ sym q, refl)

pub bits8_determined : Fixes contracts.bits8.ended its.bits8.Reads.Post
bits8_determined κs a x y v w p q = (p ∙ sym q, refl)

pub bits64_determined : Fixes contracts.bits64.ended its.bits64.Reads.Post
bits64_determined κs a x y v w p q = (p ∙ sym q, refl)
