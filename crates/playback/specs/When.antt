-- When a block, and when a trace, is refused with 20 (02, (iv): "in replay 20 BLOCK, check, layout (a short block too), number or time order wrong"),
-- 0 where it is replayed. In proofs/Exactly.antt the answer has its line here, and a line that holds is the answer.
use Rattle.std.specs.Prelude.{ℕ, ◌≤◌, ◌<◌, ◌≡◌, List, [], ◌∷◌, true, false, length, Result, Ok, Err}
use Rattle.refusal.specs.Refusal.{answer_of}
use Rattle.block.specs.Layout.{block_octets, number_of, entries_of}
use Rattle.block.specs.Check.{is_checked}
use Rattle.judging.specs.Tests.{is_laid, is_in_order, reader_after}
use Rattle.judging.specs.declared.Reader.{Reader}
use Rattle.playback.specs.Playback.{fresh_reader, blocks_in}
use Rattle.refusal.specs.declared.Refusal.{Refusal}

-- this page's number of the answer
abbrev pub replayed_code : Result ℕ Refusal → ℕ
replayed_code (Err x) = answer_of x
replayed_code (Ok t) = 0

-- a block behind those that its reader has read
pub data BlockWhen (r : Reader) (s : List ℕ) : ℕ → Type 0 where
  unchecked : length s ≡ block_octets → is_checked s ≡ false → BlockWhen r s 20
  unlaid : is_laid s ≡ false → BlockWhen r s 20
  unnumbered : number_of s < r.next → BlockWhen r s 20
  untimed : is_in_order r.last (entries_of s) ≡ false → BlockWhen r s 20
  sound : is_checked s ≡ true → is_laid s ≡ true → r.next ≤ number_of s → is_in_order r.last (entries_of s) ≡ true → BlockWhen r s 0

-- blocks one behind the other: one of them is refused behind those before it, or none is
pub data BlocksWhen : Reader → List (List ℕ) → ℕ → Type 0 where
  none : {r : Reader} → BlocksWhen r [] 0
  stopped : {r : Reader} {b : List ℕ} {bs : List (List ℕ)} → BlockWhen r b 20 → BlocksWhen r (b ∷ bs) 20
  behind : {r : Reader} {b : List ℕ} {bs : List (List ℕ)} {n : ℕ} → BlockWhen r b 0 → BlocksWhen (reader_after r b) bs n → BlocksWhen r (b ∷ bs) n

-- a trace, from nothing read
abbrev pub TraceWhen : List ℕ → ℕ → Type 0
TraceWhen s n = BlocksWhen fresh_reader (blocks_in s) n
