-- A contract fixes its answer and all that is lent: any two results that it allows are equal, and so are any two last
-- values of what is lent to be changed. Over the contract as it is read of the source (`Post` of a function's `Reads`): a
-- contract that said less would not prove these. What is lent to be read alone has no last value, since it cannot change.
use mathlib.Core.Path.{◌≡◌}
use contract.Lifetimes.{Lfts}
use denote.Triple.Entry.{Args, Res}
use denote.Triple.Clauses.{Ended, AtExit, Lasts, at_exit}

-- what a contract allows, of the arguments, the result and the parameters at exit
abbrev pub Allows : Ended → Type 1
Allows T = (κs : Lfts T.signature.lifetimes) → Args T.signature κs → Res T.signature κs → AtExit T κs → Type 0

module _ (T : Ended) (Post : Allows T) where
  -- what of a result is looked at is fixed, and everything that is lent
  abbrev pub FixesPart : {A : Type 0} → ((κs : Lfts T.signature.lifetimes) → Res T.signature κs → A) → Type 0
  FixesPart look = (κs : Lfts T.signature.lifetimes) (a : Args T.signature κs) (x y : Res T.signature κs) (v w : Lasts T κs a) →
      Post κs a x (at_exit T κs a v) → Post κs a y (at_exit T κs a w) → (look κs x ≡ look κs y) × (v ≡ w)

  -- the whole result is fixed, and everything that is lent
  abbrev pub Fixes : Type 0
  Fixes = (κs : Lfts T.signature.lifetimes) (a : Args T.signature κs) (x y : Res T.signature κs) (v w : Lasts T κs a) →
      Post κs a x (at_exit T κs a v) → Post κs a y (at_exit T κs a w) → (x ≡ y) × (v ≡ w)
