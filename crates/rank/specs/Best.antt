-- The best of each port in a collection, sorted; over any strict order of the elements and any port of an element.
-- `insert` is one element more in a list that is sorted and has one place for each port.
use Rattle.std.specs.Prelude.{ℕ, zero, suc, List, [], ◌∷◌, ◌++◌, Bool, eqb, take}
use Rattle.refusal.specs.Choice.{pick}

module _ {A : Type 0} (lt : A → A → Bool) (port : A → ℕ) where
  -- x, or what was best before it
  abbrev pub better : A → List A → List A
  better x [] = x ∷ []
  better x (y ∷ ys) = pick (lt x y) (x ∷ []) (y ∷ ys)

  -- the best of port p in a collection: a list of one, or of none
  abbrev pub best : ℕ → List A → List A
  best p [] = []
  best p (x ∷ xs) = pick (eqb (port x) p) (better x (best p xs)) (best p xs)

  -- the best of each port from 1 to n
  abbrev pub bests : ℕ → List A → List A
  bests zero s = []
  bests (suc n) s = best (suc n) s ++ bests n s

  -- in order, by inserting one after the other
  abbrev pub put : A → List A → List A
  put x [] = x ∷ []
  put x (y ∷ ys) = pick (lt x y) (x ∷ y ∷ ys) (y ∷ put x ys)

  abbrev pub sort : List A → List A
  sort [] = []
  sort (x ∷ xs) = put x (sort xs)

  -- x goes down the list: it takes the place of the first later one, which goes on in its stead;
  -- at an element of port p one of the two is left out
  abbrev pub sink : ℕ → A → List A → List A
  sink p x [] = x ∷ []
  sink p x (y ∷ ys) =
      pick (lt x y) (x ∷ pick (eqb (port y) p) ys (sink p y ys)) (y ∷ pick (eqb (port y) p) ys (sink p x ys))

  abbrev pub insert : ℕ → A → List A → List A
  insert n x l = take n (sink (port x) x l)
