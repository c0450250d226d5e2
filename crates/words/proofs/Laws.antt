-- An answer that is packed is packed as what it equals; a check refuses or passes on.
use mathlib.Core.Path.{◌≡◌, ◌∙◌, ap}
pub use Rattle.refusal.proofs.Choice.{is_refused, is_passed}

pub through : {A B C : Type 0} (f : A → B) (g : A → C) {a b : A} {r : B} {w : C} → a ≡ b → (r ≡ f a) × (w ≡ g a) → (r ≡ f b) × (w ≡ g b)
through f g e p = (p.0 ∙ ap f e, p.1 ∙ ap g e)
