-- One octet a port, written one after the other.
use Prim.Native.Nat.{ℕ, suc, ◌+◌, ◌-◌, ◌≤◌, ◌<◌}
use mathlib.Core.Path.{◌≡◌, sym, ap, ◌∙◌}
use mathlib.Core.List.{List}
use native.Mathlib.Omega.{arith}
use lib.Dec.{eqb}
use lib.ListN.{length, get_or, set, length-set}
use lib.Seq.{get_or-set_same, get_or-set_other, ext_get_or}
use borrow.Author.Tests.{eqb-true, eqb-false}
use Rattle.rank.proofs.Best.{cases}
use Rattle.senders.specs.Port.{tab}
use Rattle.slots.proofs.Laws.{length_tab, get_d_tab}

-- the octets of the ports below p are written
pub record Written (f : ℕ → ℕ) (out : List ℕ) (p : ℕ) : Type 0 where
  pub size : length out ≡ 18
  pub from : 1 ≤ p
  pub to : p ≤ 19
  pub below : (k : ℕ) → k + 1 < p → get_or out k 0 ≡ f (suc k)

module _ (f : ℕ → ℕ) (out : List ℕ) where
  pub none_written : length out ≡ 18 → Written f out 1
  none_written e = record { size = e; from = omega arith; to = omega arith; below = λ k h. absurd (omega arith) }

  pub one_written : (p v : ℕ) → Written f out p → p ≤ 18 → v ≡ f p → Written f (set out (p - 1) v) (p + 1)
  one_written p v w h e =
      let n = w.size in
      let o = w.from in
      record {
        size = length-set out (p - 1) v ∙ w.size;
        from = omega arith;
        to = omega arith;
        below =
            λ k g.
            cases (eqb k (p - 1))
            (λ q.
            let s = eqb-true k (p - 1) q in
            let r : p ≡ suc k = omega arith in
            rw s (get_or-set_same out (p - 1) v 0 (omega arith)) ∙ e ∙ ap f r)
            (λ q.
            let s = eqb-false k (p - 1) q in
            get_or-set_other out (p - 1) k v 0 s ∙ w.below k (omega arith));
      }

  pub all_written : (p : ℕ) → Written f out p → 18 < p → out ≡ tab 18 (λ i. f (suc i))
  all_written p w h =
      let t = w.to in
      let n = w.size in
      ext_get_or 0 out (tab 18 (λ i. f (suc i))) (n ∙ sym (length_tab 18 (λ i. f (suc i))))
      (λ k g. w.below k (omega arith) ∙ sym (get_d_tab 18 (λ i. f (suc i)) k 0 (omega arith)))
