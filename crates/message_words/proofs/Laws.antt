-- Words that are put together one by one are the words; two runs of words are compared from the front.
use mathlib.Core.Path.{◌≡◌, refl, sym, ◌∙◌, ap}
use mathlib.Core.Bool.{Bool, true, false, ◌&&◌}
use mathlib.Core.List.{List}
use Prim.Native.Nat.{ℕ, ◌+◌, ◌≤◌, ◌<◌}
use native.Mathlib.Numerals.{add-one}
use lib.Dec.{eqb}
use lib.ListN.{length, get_or, drop, drop_of_length-le}
use lib.Seq.{drop-cons}
use borrow.Author.Tests.{eq-eqb, ne_eqb}
use Rattle.rank.specs.Order.{same}
use Rattle.tlv.specs.declared.wr.LinkMessage.{LinkMessage}
use Rattle.tlv.specs.declared.wr.LinkMessage.TheVariants.{SlavePresent, Lock, Locked, Calibrate, Calibrated, ModeOn}
use Rattle.message.specs.declared.fields.Body.{Body}
use Rattle.message.specs.declared.fields.Body.TheVariants as body
use Rattle.words.proofs.Spread.{spread}
use Rattle.message_words.specs.Words.{body_words}
use Rattle.message_words.specs.Answers.{link_message_words}

pub link_six : (m : LinkMessage) → spread 6 0 (link_message_words m) ≡ link_message_words m
link_six SlavePresent = refl
link_six Lock = refl
link_six Locked = refl
link_six (Calibrate pattern retry period) = refl
link_six (Calibrated tx rx) = refl
link_six ModeOn = refl

pub body_eleven : (b : Body) → spread 11 0 (body_words b) ≡ body_words b
unfolding body_words
body_eleven (body.Sync t) = refl
body_eleven (body.DelayReq t) = refl
body_eleven (body.FollowUp t) = refl
body_eleven (body.DelayResp x) = refl
body_eleven (body.Announce a) = refl
body_eleven (body.Signaling p) = refl

module _ (a b : List ℕ) (i : ℕ) (p : i < length a) (q : i < length b) where
  same_here : same (drop i a) (drop i b) ≡ (eqb (get_or a i 0) (get_or b i 0) && same (drop (i + 1) a) (drop (i + 1) b))
  same_here = rw (add-one, drop-cons a i 0 p, drop-cons b i 0 q)

  -- words that are equal at a place are compared by what follows; others are not the same
  pub same_on : get_or a i 0 ≡ get_or b i 0 → same (drop (i + 1) a) (drop (i + 1) b) ≡ same (drop i a) (drop i b)
  same_on e = sym (same_here ∙ ap (λ (t : Bool). t && same (drop (i + 1) a) (drop (i + 1) b)) (eq-eqb _ _ e))

  pub same_off : (get_or a i 0 ≡ get_or b i 0 → ⊥) → same (drop i a) (drop i b) ≡ false
  same_off e = same_here ∙ ap (λ (t : Bool). t && same (drop (i + 1) a) (drop (i + 1) b)) (ne_eqb _ _ e)

-- nothing is left of either
pub same_end : (a b : List ℕ) (n : ℕ) → length a ≤ n → length b ≤ n → same (drop n a) (drop n b) ≡ true
same_end a b n p q = rw (drop_of_length-le a p, drop_of_length-le b q)
