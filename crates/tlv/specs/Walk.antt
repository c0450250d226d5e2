-- The walk over the TLVs of a tail t (01, "Octets of a message": "type 2, length L 2, L octets", "whole TLVs of even
-- length"). Places are counted from the tail's start, and `length t` is its end.
use Rattle.std.specs.Prelude.{ℕ, zero, suc, ◌+◌, ◌%◌, ◌<◌, ◌≤◌, ◌≡◌, List, [], Bool, true, false, length, take, drop, eqb, leb, ltb, Option, Some, None}
use Rattle.octets.specs.Be.{be}
use Rattle.refusal.specs.Choice.{pick}

-- the type of the TLV at p
abbrev pub type_at : List ℕ → ℕ → ℕ
type_at t p = be 2 t p

-- its length L
abbrev pub size_at : List ℕ → ℕ → ℕ
size_at t p = be 2 t (p + 2)

-- a whole TLV stands at p
pub record Fits (t : List ℕ) (p : ℕ) : Type 0 where
  pub fits : p + 4 + size_at t p ≤ length t

-- where the TLV at p ends, if it is whole and of even length
unfoldable pub next_of : List ℕ → ℕ → Option ℕ
next_of t p =
    pick (leb (p + 4) (length t))
    (pick (eqb (size_at t p % 2) 0)
    (pick (leb (p + 4 + size_at t p) (length t)) (Some (p + 4 + size_at t p)) None)
    None)
    None

abbrev pub after : {A : Type 0} → Option ℕ → A → (ℕ → A) → A
after (Some p) bad k = k p
after None bad k = bad

-- The walk from p to the end, its TLVs taken together from the last to the first: `end` at the end, `bad p` where no
-- whole TLV of even length stands at p, and `cons p r` of a TLV at p and what the rest gives. A TLV takes four octets
-- or more, so as many turns as the tail has octets are enough.
module _ {A : Type 0} (end : A) (bad : ℕ → A) (cons : ℕ → A → A) (t : List ℕ) where
  unfoldable pub walk_by : ℕ → ℕ → A
  walk_by zero p = end
  walk_by (suc turns) p =
      pick (eqb p (length t)) end (after (next_of t p) (bad p) (λ (q : ℕ). cons p (walk_by turns q)))

  unfoldable pub walk : ℕ → A
  walk p = walk_by (length t) p

-- where, from p on, the first thing stands that is no whole TLV of even length, "or a leftover of one to three octets";
-- the end where there is none
abbrev pub broken : List ℕ → ℕ → ℕ
broken t p = walk (length t) (λ (q : ℕ). q) (λ (q r : ℕ). r) t p

-- where, from p on, the first TLV stands that passes a test; the end where there is none
abbrev pub first : (ℕ → Bool) → List ℕ → ℕ → ℕ
first test t p = walk (length t) (λ (q : ℕ). length t) (λ (q r : ℕ). pick (test q) q r) t p

-- the data of the TLV at p, nothing at the end
abbrev pub data_at : List ℕ → ℕ → List ℕ
data_at t p = pick (ltb p (length t)) (take (size_at t p) (drop (p + 4) t)) []

-- the places that the walk comes to
pub data Reached (t : List ℕ) : ℕ → Type 0 where
  start : Reached t 0
  next : {p q : ℕ} → Reached t p → p < length t → next_of t p ≡ Some q → Reached t q

-- before the end, no whole TLV of even length stands at p
pub data BadAt (t : List ℕ) (p : ℕ) : Type 0 where
  -- "a leftover of one to three octets"
  leftover : p < length t → length t < p + 4 → BadAt t p
  -- its length is odd
  odd : p + 4 ≤ length t → size_at t p % 2 ≡ 1 → BadAt t p
  -- or runs past the end
  past : p + 4 ≤ length t → size_at t p % 2 ≡ 0 → length t < p + 4 + size_at t p → BadAt t p

-- the walk comes to p, over whole TLVs of even length, and no further
pub record BreaksAt (t : List ℕ) (p : ℕ) : Type 0 where
  pub reached : Reached t p
  pub bad : BadAt t p

-- a TLV of the tail stands at p: the walk comes to it and steps over it
pub record TlvAt (t : List ℕ) (p : ℕ) : Type 0 where
  pub reached : Reached t p
  pub inside : p < length t
  pub end : ℕ
  pub whole : next_of t p ≡ Some end

-- the first TLV of the tail that passes a test
pub record FirstTlv (test : ℕ → Bool) (t : List ℕ) (p : ℕ) : Type 0 where
  pub at : TlvAt t p
  pub passes : test p ≡ true
  pub before : (q : ℕ) → TlvAt t q → q < p → test q ≡ false

-- no TLV of the tail passes it
abbrev pub NoTlv : (ℕ → Bool) → List ℕ → Type 0
NoTlv test t = (p : ℕ) → TlvAt t p → test p ≡ false
