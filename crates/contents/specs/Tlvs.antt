-- The TLVs of a message, in order (02, (i): "The walk over the tail is to give each TLV's offset in the message"). Places are
-- counted from octet 0 of the message, p from the tail's start.
use Rattle.std.specs.Prelude.{ℕ, ◌+◌, ◌-◌, ◌/◌, ◌%◌, ◌≡◌, List, [], ◌∷◌, eqb, leb, length, get_or, take, drop, Option, Some, None, Result, Ok, Err}
use Rattle.refusal.specs.Choice.{pick}
use Rattle.refusal.specs.declared.Refusal.TheVariants as refusal
use Rattle.tlv.specs.Walk.{type_at, size_at, next_of, after, walk}
use Rattle.tlv.specs.Form.{misfit_at}
use Rattle.message.specs.Fields.{type_of, fixed_size, tail_of}
use Rattle.message.specs.Reading.{headed, check_of, by}
use Rattle.contents.specs.declared.tlvs.Tlv.{Tlv}
use Rattle.refusal.specs.declared.Refusal.{Refusal}

-- the TLV at p of a tail t behind `size` octets: "type 2, length L 2, L octets"
abbrev pub tlv_of : ℕ → List ℕ → ℕ → Tlv
tlv_of size t p = record { place = size + p; kind = type_at t p; length = size_at t p }

-- where its data begin
abbrev pub begin_of : Tlv → ℕ
begin_of x = x.place + 4

-- where they end, and the TLV with them
abbrev pub end_of : Tlv → ℕ
end_of x = begin_of x + x.length

-- those from p of the tail on
abbrev pub tlvs_from : List ℕ → ℕ → List Tlv
tlvs_from s p = walk [] (λ (q : ℕ). []) (λ (q : ℕ) (r : List Tlv). tlv_of (fixed_size (type_of s)) (tail_of s) q ∷ r) (tail_of s) p

-- all of them
abbrev pub tlvs_of : List ℕ → List Tlv
tlvs_of s = tlvs_from s 0

-- what stands at p: nothing at the end; a TLV; or what is none, with its place
unfoldable pub standing : ℕ → ℕ → List ℕ → ℕ → Result (Option Tlv) Refusal
standing magic size t p =
    pick (leb (length t) p) (Ok None)
    (after (next_of t p) (Err (refusal.Tlv (size + p)))
    (λ (q : ℕ). pick (misfit_at magic t p) (Err (refusal.WrBad (size + p))) (Ok (Some (tlv_of size t p)))))

-- One a call. At 0 a walk begins, with all the checks of reading; from a place behind 0 it goes on, and what stands at that octet is
-- looked at alone, so that a tail is gone through once. An octet of the fixed part stands for the tail's start.
unfoldable pub next_in : ℕ → ℕ → List ℕ → Result (Option Tlv) Refusal
next_in magic from s =
    pick (eqb from 0)
    (by (check_of magic s) Err (standing magic (fixed_size (type_of s)) (tail_of s) 0))
    (headed Err (standing magic (fixed_size (type_of s)) (tail_of s) (from - fixed_size (type_of s))) s)

-- its data, nothing where there is none
abbrev pub data_of : Result (Option Tlv) Refusal → List ℕ → List ℕ
data_of (Ok (Some x)) s = take x.length (drop (begin_of x) s)
data_of (Ok None) s = []
data_of (Err x) s = []

unfoldable pub data_from : ℕ → ℕ → List ℕ → List ℕ
data_from magic from s = data_of (next_in magic from s) s

-- the same octets with another messageLength
abbrev pub with_length : ℕ → List ℕ → List ℕ
with_length n s = get_or s 0 0 ∷ get_or s 1 0 ∷ n / 256 ∷ n % 256 ∷ drop 4 s

-- TLVs that lie end to end from a to b
abbrev pub Tiles : ℕ → List Tlv → ℕ → Type 0
Tiles a [] b = a ≡ b
Tiles a (x ∷ xs) b = (x.place ≡ a) × Tiles (end_of x) xs b

-- what the loop of calls gives, each asked for from the end of the one before
abbrev pub Gives : ℕ → List ℕ → ℕ → List Tlv → Type 0
Gives magic s from [] = next_in magic from s ≡ Ok None
Gives magic s from (x ∷ xs) = (next_in magic from s ≡ Ok (Some x)) × Gives magic s (end_of x) xs

-- the first of a type, as the lookup tells it
abbrev pub of_type : ℕ → List Tlv → Result (Option ℕ) Refusal
of_type kind [] = Ok None
of_type kind (x ∷ xs) = pick (eqb x.kind kind) (Ok (Some (begin_of x))) (of_type kind xs)
