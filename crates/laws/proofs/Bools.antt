-- What is true of any Boolean values, beside what the kit's library has.
use mathlib.Core.Path.{◌≡◌, ◌∙◌, refl, sym}
use mathlib.Core.Bool.{Bool, true, false, ◌&&◌, ◌||◌, true≢false}
use mathlib.Core.Logic.{◌⊎◌, inl, inr}

-- nothing is both true and false
pub clash : {G : Type 0} {b : Bool} → b ≡ true → b ≡ false → G
clash p q = absurd (true≢false (sym p ∙ q))

-- every value is one of the two: as a choice, and as two cases of a proof
pub decided : (b : Bool) → (b ≡ true) ⊎ (b ≡ false)
decided true = inl refl
decided false = inr refl

pub cases : {G : Type 0} (b : Bool) → (b ≡ true → G) → (b ≡ false → G) → G
cases true f g = f refl
cases false f g = g refl

-- both of two hold; neither does
pub both : (a b : Bool) → (a && b) ≡ true → (a ≡ true) × (b ≡ true)
both true b e = (refl, e)
both false b e = (e, cc)

pub neither : (a b : Bool) → (a || b) ≡ false → (a ≡ false) × (b ≡ false)
neither true b e = (e, cc)
neither false b e = (refl, e)
