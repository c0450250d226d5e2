-- `divided` meets its contract: every digit doubles what n was, less the digits of the quotient so far times the divisor.
use Rattle.std.proofs.Common.{◌≡◌, ℕ, ◌+◌, ◌-◌, ◌*◌, ◌/◌, ◌%◌, ◌^◌, ◌<◌, ◌∙◌, ap, sym, subst, div-mul-le_self, arith}
use native.Mathlib.Nat.{mod-eq-sub-div-mul}
use Rattle.quotient.proofs.Laws.{Dealt, begun, more, shifted, high_even, at_most_once, rest_is, whole_is}
use Rattle.quotient.proofs.divided.Goals as goal

-- half of the divisor in its high place
abbrev half_of : ℕ → ℕ → ℕ
half_of q digits = q * 2 ^ digits % 2 ^ 64 / 2

-- what is left when the loop is done, over the divisor's place D and its double half
module _ (n q D half v : ℕ) (is : 2 * half ≡ q * D) (fits : v < 2 ^ 64) (lt : v < 2 * half) where
  back : v / D * D % 2 ^ 64 ≡ v / D * D
  back = let l = div-mul-le_self v D in shifted (v / D) D (omega arith)

  top : 2 * half - 1 + 1 ≡ q * D
  top = omega arith

  below : v < q * D
  below = omega arith

ended : (n q digits half v : ℕ) → 2 * half ≡ q * 2 ^ digits → v < 2 ^ 64 → v < 2 * half → Dealt n (2 * half - 1) digits v
    → (v - v / 2 ^ digits * 2 ^ digits % 2 ^ 64 ≡ n / q) × (v / 2 ^ digits ≡ n % q)
ended n q digits half v is fits lt d =
    let D = 2 ^ digits in
    let t = top n q D half v is fits lt in
    let b = below n q D half v is fits lt in
    let w = whole_is n q D (2 * half - 1) v d.t t d.is d.top b in
    let r = rest_is n q D (2 * half - 1) v d.t t d.is d.top b in
    let s = mod-eq-sub-div-mul v D in
    let k = back n q D half v is fits lt in
    (ap (λ (x : ℕ). v - x) k ∙ sym s ∙ w, r)

pub loop-init : goal.loop-init
loop-init c =
    let a = c.args in
    let h = high_even a.q a.digits c.requires.2 c.requires.1 in
    let m = shifted a.q (2 ^ a.digits) (omega arith) in
    (record { is = h; less-is = omega arith }, begun a.n (2 * half_of a.q a.digits - 1), omega arith)

pub digit-v-requires : goal.digit-v-requires
digit-v-requires c =
    let h = c.loop.invariant.0 in (c.loop.invariant.2, omega (arith, h.is), h.less-is)

pub loop-preserved : goal.loop-preserved
loop-preserved c =
    let l = c.loop in
    let a = c.args in
    let half = half_of a.q a.digits in (
      l.invariant.0,
      more a.n (2 * half - 1) l.counter l.v (l.v / half) c.digit-v.result l.invariant.1 c.digit-v.ensures.0 (at_most_once l.v half l.invariant.2),
      c.digit-v.ensures.1,
    )

pub returns : goal.returns
returns c =
    let a = c.args in
    let l = c.loop in
    let half = half_of a.q a.digits in
    let e : l.counter ≡ a.digits = omega arith in
    ended a.n a.q a.digits half l.v l.invariant.0.is (omega arith) l.invariant.2
    (subst (λ (j : ℕ). Dealt a.n (2 * half - 1) j l.v) e l.invariant.1)
