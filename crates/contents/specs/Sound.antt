-- The two lengths of a message, for a reader that hopes that nothing is wrong with it.
use Rattle.std.specs.Prelude.{ℕ, List, Option, Some, None}
use Rattle.message.specs.Reading.{headed, check_of, by}
pub use Rattle.message.specs.Reading.{bounds_at}
use Rattle.message.specs.declared.reading.Bounds.{Bounds}

-- where the checks before the tail's are passed
unfoldable pub fixed_bounds : List ℕ → Option Bounds
fixed_bounds s = headed (λ x. None) (Some (bounds_at s)) s

-- where all the checks are
unfoldable pub sound_bounds : ℕ → List ℕ → Option Bounds
sound_bounds magic s = by (check_of magic s) (λ x. None) (Some (bounds_at s))
