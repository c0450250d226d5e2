-- The contract of each public function fixes its answer and the words it is lent: any two results that it allows are equal.
use mathlib.Core.Path.{◌∙◌, refl, sym}
use Rattle.laws.proofs.Fixes.{Fixes}
use Rattle.candidate_words.specs.contracts as contracts
use Rattle.candidate_words.proofs as its

pub grandmaster_at_determined : Fixes contracts.candidates.grandmaster_at.ended its.candidates.grandmaster_at.Reads.Post
grandmaster_at_determined κs a x y v w p q = (p ∙ sym q, refl)

pub candidate_of_determined : Fixes contracts.candidates.candidate_of.ended its.candidates.candidate_of.Reads.Post
candidate_of_determined κs a x y v w p q = (p ∙ sym q, refl)

pub ranked_of_determined : Fixes contracts.candidates.ranked_of.ended its.candidates.ranked_of.Reads.Post
ranked_of_determined κs a x y v w p q = (p ∙ sym q, refl)

pub set_of_determined : Fixes contracts.candidates.set_of.ended its.candidates.set_of.Reads.Post
set_of_determined κs a x y v w p q = (p ∙ sym q, refl)

pub best_of_determined : Fixes contracts.candidates.best_of.ended its.candidates.best_of.Reads.Post
best_of_determined κs a x y v w p q = (p ∙ sym q, refl)

pub candidate_words_determined : Fixes contracts.candidates.candidate_words.ended its.candidates.candidate_words.Reads.Post
candidate_words_determined κs a x y v w p q = (p ∙ sym q, refl)

pub found_words_determined : Fixes contracts.candidates.found_words.ended its.candidates.found_words.Reads.Post
found_words_determined κs a x y v w p q = (p ∙ sym q, refl)

pub ranked_words_determined : Fixes contracts.candidates.ranked_words.ended its.candidates.ranked_words.Reads.Post
ranked_words_determined κs a x y v w p q = (p ∙ sym q, refl)

pub comparison_number_determined : Fixes contracts.answers.comparison_number.ended its.answers.comparison_number.Reads.Post
comparison_number_determined κs a x y v w p q = (p ∙ sym q, refl)

pub grandmaster_fits_determined : Fixes contracts.fits.grandmaster_fits.ended its.fits.grandmaster_fits.Reads.Post
grandmaster_fits_determined κs a x y v w p q = (p ∙ sym q, refl)

pub list_fits_determined : Fixes contracts.fits.list_fits.ended its.fits.list_fits.Reads.Post
list_fits_determined κs a x y v w p q = (p ∙ sym q, refl)

pub set_fits_determined : Fixes contracts.fits.set_fits.ended its.fits.set_fits.Reads.Post
set_fits_determined κs a x y v w p q = (p ∙ sym q, refl)

pub best_fits_determined : Fixes contracts.fits.best_fits.ended its.fits.best_fits.Reads.Post
best_fits_determined κs a x y v w p q = (p ∙ sym q, refl)

pub one_fits_determined : Fixes contracts.fits.one_fits.ended its.fits.one_fits.Reads.Post
one_fits_determined κs a x y v w p q = (p ∙ sym q, refl)

pub ranking_fitted_determined : Fixes contracts.fits.ranking_fitted.ended its.fits.ranking_fitted.Reads.Post
ranking_fitted_determined κs a x y v w p q = (p ∙ sym q, refl)

pub answer_fitted_determined : Fixes contracts.fits.answer_fitted.ended its.fits.answer_fitted.Reads.Post
answer_fitted_determined κs a x y v w p q = (p ∙ sym q, refl)

pub leader_fitted_determined : Fixes contracts.fits.leader_fitted.ended its.fits.leader_fitted.Reads.Post
leader_fitted_determined κs a x y v w p q = (p ∙ sym q, refl)

pub put_asked_determined : Fixes contracts.candidates.put_asked.ended its.candidates.put_asked.Reads.Post
put_asked_determined κs a x y v w p q = (p.0 ∙ sym q.0, λ i. ((p.1 ∙ sym q.1) i, w.1))

pub put_status_determined : Fixes contracts.answers.put_status.ended its.answers.put_status.Reads.Post
put_status_determined κs a x y v w p q = (p.0 ∙ sym q.0, λ i. ((p.1 ∙ sym q.1) i, w.1))

pub put_looked_determined : Fixes contracts.answers.put_looked.ended its.answers.put_looked.Reads.Post
put_looked_determined κs a x y v w p q = (p.0 ∙ sym q.0, λ i. ((p.1 ∙ sym q.1) i, w.1))

pub put_ranking_determined : Fixes contracts.answers.put_ranking.ended its.answers.put_ranking.Reads.Post
put_ranking_determined κs a x y v w p q = (p.0 ∙ sym q.0, λ i. ((p.1 ∙ sym q.1) i, w.1))

pub put_decided_determined : Fixes contracts.answers.put_decided.ended its.answers.put_decided.Reads.Post
put_decided_determined κs a x y v w p q = (p.0 ∙ sym q.0, λ i. ((p.1 ∙ sym q.1) i, w.1))

pub put_leader_determined : Fixes contracts.answers.put_leader.ended its.answers.put_leader.Reads.Post
put_leader_determined κs a x y v w p q = (p.0 ∙ sym q.0, λ i. ((p.1 ∙ sym q.1) i, w.1))

pub rank_run_determined : Fixes contracts.places.rank_run.ended its.places.rank_run.Reads.Post
rank_run_determined κs a x y v w p q = (p.0 ∙ sym q.0, λ i. (tt, ((p.1 ∙ sym q.1) i, w.1.1)))

pub merge_lists_determined : Fixes contracts.places.merge_lists.ended its.places.merge_lists.Reads.Post
merge_lists_determined κs a x y v w p q = (p.0 ∙ sym q.0, λ i. (tt, (tt, ((p.1 ∙ sym q.1) i, w.1.1.1))))
