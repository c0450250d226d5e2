-- Any two results that a contract of this crate allows are equal, over the contract as it is read of the source: a
-- contract that said less would not prove these.
use mathlib.Core.Path.{◌∙◌, refl, sym}
use Rattle.laws.proofs.Fixes.{Fixes}
use Rattle.tlv.specs.contracts as contracts
use Rattle.tlv.proofs as its

pub form_wr_form_determined : Fixes contracts.form.wr_form.ended its.form.wr_form.Reads.Post
form_wr_form_determined κs a x y v w p q = (p ∙ sym q, refl)

pub form_data_size_determined : Fixes contracts.form.data_size.ended its.form.data_size.Reads.Post
form_data_size_determined κs a x y v w p q = (p ∙ sym q, refl)

pub form_number_at_determined : Fixes contracts.form.number_at.ended its.form.number_at.Reads.Post
form_number_at_determined κs a x y v w p q = (p ∙ sym q, refl)

pub form_misfits_determined : Fixes contracts.form.misfits.ended its.form.misfits.Reads.Post
form_misfits_determined κs a x y v w p q = (p ∙ sym q, refl)

pub form_is_suffix_determined : Fixes contracts.form.is_suffix.ended its.form.is_suffix.Reads.Post
form_is_suffix_determined κs a x y v w p q = (p ∙ sym q, refl)

pub walk_step_determined : Fixes contracts.walk.step.ended its.walk.step.Reads.Post
walk_step_determined κs a x y v w p q = (p ∙ sym q, refl)

pub walk_later_determined : Fixes contracts.walk.later.ended its.walk.later.Reads.Post
walk_later_determined κs a x y v w p q = (p ∙ sym q, refl)

pub walk_first_fault_determined : Fixes contracts.walk.first_fault.ended its.walk.first_fault.Reads.Post
walk_first_fault_determined κs a x y v w p q = (p ∙ sym q, refl)

pub walk_sound_suffix_determined : Fixes contracts.walk.sound_suffix.ended its.walk.sound_suffix.Reads.Post
walk_sound_suffix_determined κs a x y v w p q = (p ∙ sym q, refl)

pub wr_suffix_at_determined : Fixes contracts.wr.suffix_at.ended its.wr.suffix_at.Reads.Post
wr_suffix_at_determined κs a x y v w p q = (p ∙ sym q, refl)

pub wr_wr_flags_determined : Fixes contracts.wr.wr_flags.ended its.wr.wr_flags.Reads.Post
wr_wr_flags_determined κs a x y v w p q = (p ∙ sym q, refl)
