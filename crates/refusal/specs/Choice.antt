-- The two words with which every definition chooses between cases.
use Rattle.std.specs.Prelude.{Bool, true, false}

-- one of two, by a test
abbrev pub pick : {A : Type 0} → Bool → A → A → A
pick true a b = a
pick false a b = b

-- One line of an ordered list of checks: the refusal where its test holds, else what the checks below it give.
-- It stays shut in proofs until a test is known, so that a list of checks keeps its shape.
unfoldable pub refuse : {A : Type 0} → Bool → A → A → A
refuse true refusal rest = refusal
refuse false refusal rest = rest
