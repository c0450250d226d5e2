-- `lower` meets its contract. The loop's invariant: what is left of the words decides as all of them do.
use Prim.Native.Nat.{◌≤◌}
use mathlib.Core.Path.{◌≡◌}
use lib.ListN.{drop}
use Rattle.rank.specs.Order.{lex}
use Rattle.candidate_words.specs.Places.{words_at, lower_of}
use Rattle.candidate_words.proofs.places.lower.Given as goal

abbrev pub invariant-loop-i : goal.invariant-loop-i
invariant-loop-i l = (l.i ≤ 11) × (lex (drop l.i (words_at l.a 0)) (drop l.i (words_at l.b 0)) ≡ lower_of l.a l.b)
