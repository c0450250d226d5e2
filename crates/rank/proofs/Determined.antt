-- The contract of each public function fixes its answer: any two results that it allows are equal. No function here is lent
-- anything to change, so there is nothing else to fix.
use mathlib.Core.Path.{◌≡◌, ◌∙◌, refl, sym}
use seplogic.Ra.Ura.{Ura}
use base.Logic.{SProp, ent, sep, fst∗, snd∗}
use prog.Memory.{Memory}
use prog.Routine.{Routine}
use types.Logic.{Logic}
use contract.Lifetimes.{Lfts}
use contract.Monad.{Fun, fact, fact_i, fact_use}
use denote.Triple.Clauses.{AtExit}
use denote.Triple.Entry.{Args, Res}
use Rattle.laws.proofs.Fixes.{Fixes}
use Rattle.rank.specs.Calls.{ranking_of}
use Rattle.rank.specs.contracts as contracts
use Rattle.rank.proofs as its

pub precedes_determined : Fixes contracts.precedes.ended its.precedes.Reads.Post
precedes_determined κs a x y v w p q = (p ∙ sym q, refl)

pub outranks_determined : Fixes contracts.outranks.ended its.outranks.Reads.Post
outranks_determined κs a x y v w p q = (p ∙ sym q, refl)

pub earlier_determined : Fixes contracts.earlier.ended its.earlier.Reads.Post
earlier_determined κs a x y v w p q = (p ∙ sym q, refl)

pub empty_determined : Fixes contracts.empty.ended its.empty.Reads.Post
empty_determined κs a x y v w p q = (p ∙ sym q, refl)

pub holds_determined : Fixes contracts.holds.ended its.holds.Reads.Post
holds_determined κs a x y v w p q = (p ∙ sym q, refl)

pub is_ranked_determined : Fixes contracts.is_ranked.ended its.is_ranked.Reads.Post
is_ranked_determined κs a x y v w p q = (p ∙ sym q, refl)

pub merge_determined : Fixes contracts.merge.ended its.merge.Reads.Post
merge_determined κs a x y v w p q = (p ∙ sym q, refl)

pub rank_fixed : Fixes contracts.rank.ended its.rank.Reads.Post
rank_fixed κs a x y v w p q = (p ∙ sym q, refl)

-- the same of `rank` in the logic of contracts: what allows x and y together says that they are equal
module _ {M : Type 1} {𝓤 : Ura M} (𝓛 : Logic 𝓤) (mem : Memory → SProp 𝓤) (run : Routine → Fun 𝓤) (κs : Lfts 1)
    (a : Args contracts.rank.signature κs) (x y : Res contracts.rank.signature κs) (e f : AtExit contracts.rank.ended κs) where
  abbrev Allows : Res contracts.rank.signature κs → AtExit contracts.rank.ended κs → SProp 𝓤
  Allows = (contracts.rank.clauses 𝓛 mem run κs a).ensures tt

  pub rank_determined : ent 𝓤 (sep 𝓤 (Allows x e) (Allows y f)) (fact 𝓤 (x ≡ y))
  rank_determined =
      fact_use 𝓤 (x ≡ ranking_of a.0.now) (fst∗ 𝓤 (Allows x e) (Allows y f)) (λ p.
      fact_use 𝓤 (y ≡ ranking_of a.0.now) (snd∗ 𝓤 (Allows x e) (Allows y f)) (λ q.
      fact_i 𝓤 (x ≡ y) (sep 𝓤 (Allows x e) (Allows y f)) (p ∙ sym q)))
