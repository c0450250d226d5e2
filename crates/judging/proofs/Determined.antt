-- Every public contract determines its answer: any two results that it allows are equal. Over each contract's own
-- reading, so that a weaker contract breaks these proofs.
use mathlib.Core.Path.{◌∙◌, refl, sym}
use mathlib.Core.Path.{◌≡◌}
use mathlib.Core.List.{List}
use Rattle.std.specs.Prelude.{Option, Some, None}
use Rattle.std.specs.Option.{option_map}
use Rattle.std.specs.Iterator.{YieldsFirstBy}
use Rattle.block.specs.Layout.{Entry}
use Rattle.judging.specs.declared.Arrival.{Arrival}
use Rattle.judging.specs.Records.{entry_of}
use Rattle.laws.proofs.Fixes.{Fixes, FixesPart}
use Rattle.judging.specs.contracts as contracts
use Rattle.judging.proofs as its

pub number_determined : Fixes contracts.number.ended its.number.Reads.Post
number_determined κs a x y v w p q = (p ∙ sym q, refl)

pub time_at_determined : Fixes contracts.time_at.ended its.time_at.Reads.Post
time_at_determined κs a x y v w p q = (p ∙ sym q, refl)

pub port_at_determined : Fixes contracts.port_at.ended its.port_at.Reads.Post
port_at_determined κs a x y v w p q = (p ∙ sym q, refl)

pub end_at_determined : Fixes contracts.end_at.ended its.end_at.Reads.Post
end_at_determined κs a x y v w p q = (p ∙ sym q, refl)

pub is_checked_determined : Fixes contracts.is_checked.ended its.is_checked.Reads.Post
is_checked_determined κs a x y v w p q = (p ∙ sym q, refl)

pub is_laid_determined : Fixes contracts.is_laid.ended its.is_laid.Reads.Post
is_laid_determined κs a x y v w p q = (p ∙ sym q, refl)

pub is_next_determined : Fixes contracts.is_next.ended its.is_next.Reads.Post
is_next_determined κs a x y v w p q = (p ∙ sym q, refl)

pub timed_determined : Fixes contracts.timed.ended its.timed.Reads.Post
timed_determined κs a x y v w p q = (p ∙ sym q, refl)

pub judge_determined : Fixes contracts.judge.ended its.judge.Reads.Post
judge_determined κs a x y v w p q = (p ∙ sym q, refl)

pub walking_record_from_determined : Fixes contracts.walking.record_from.ended its.walking.record_from.Reads.Post
walking_record_from_determined κs a x y v w p q = (p ∙ sym q, refl)

pub records_Records_of_determined : Fixes contracts.records.Records.of.ended its.records.Records.of.Reads.Post
records_Records_of_determined κs a x y v w p q = (p ∙ sym q, refl)

-- of a record that is lent, its octets
first_by : (es : List Entry) (x y : Option Arrival) (v w : List Entry) → YieldsFirstBy entry_of (λ ds. ds) es x v → YieldsFirstBy entry_of (λ ds. ds) es y w
    → (option_map entry_of x ≡ option_map entry_of y) × (v ≡ w)
first_by es None None v w p q = (refl, p.1 ∙ sym q.1)
first_by es None (Some b) v w p q = cc (p.0, q)
first_by es (Some a) None v w p q = cc (p, q.0)
first_by es (Some a) (Some b) v w p q = (cc, cc)

pub records_next_determined : FixesPart contracts.records.RecordsIterator.next.ended its.records.RecordsIterator.next.Reads.Post (λ κs x. option_map entry_of x)
records_next_determined κs a x y v w p q =
    let k = first_by a.0.now x y v.0 w.0 p.0 q.0 in
    (k.0, λ i. (k.1 i, tt))
