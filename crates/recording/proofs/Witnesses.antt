-- Recording at its edges, by 02's numbers, (iv). The words are the next block's number, the last recorded time, and where the next record goes.
use Rattle.std.specs.Prelude.{true, false, Ok, Err}
use Prim.Native.Nat.{ℕ}
use mathlib.Core.Path.{◌≡◌, refl}
use mathlib.Core.List.{List, [], ◌∷◌}
use lib.ListN.{replicate}
use Rattle.refusal.specs.Choice.{refuse}
use Rattle.refusal.specs.declared.Refusal.TheVariants.{Long, Many}
use Rattle.block.specs.Layout.{Entry}
use Rattle.recording.specs.Recording.{entry_of, check_by, recorded_of, words_after}
use Rattle.recording.specs.Refusing.{recorded_code}

-- words; a message of n octets on a port at t
abbrev words : ℕ → ℕ → ℕ → List ℕ
words next last end = next ∷ last ∷ end ∷ []

abbrev message : ℕ → ℕ → ℕ → Entry
message port t n = entry_of t port (replicate n 7)

-- "message over 485 octets": 485 have room in a block of their own, which they fill
pub record Lengths : Type 0 where
  pub first : recorded_of (words 0 0 0) (message 3 77 5) ≡ Ok false
  pub first_words : words_after (words 0 0 0) (message 3 77 5) ≡ words 1 77 32
  pub longest : recorded_of (words 0 0 0) (message 3 77 485) ≡ Ok false
  pub longest_words : words_after (words 0 0 0) (message 3 77 485) ≡ words 1 77 512
  pub longer : recorded_of (words 0 0 0) (message 3 77 486) ≡ Err Long
  pub longer_words : words_after (words 0 0 0) (message 3 77 486) ≡ words 0 0 0

pub lengths : Lengths
unfolding check_by refuse
lengths = record { first = refl; first_words = refl; longest = refl; longest_words = refl; longer = refl; longer_words = refl }

-- "each filled while the next record fits": 400 and eleven and 101 are 512
pub record Places : Type 0 where
  pub fits : recorded_of (words 6 100 400) (message 3 100 101) ≡ Ok false
  pub fits_words : words_after (words 6 100 400) (message 3 100 101) ≡ words 6 100 512
  pub closes : recorded_of (words 6 100 400) (message 3 100 102) ≡ Ok true
  pub closes_words : words_after (words 6 100 400) (message 3 100 102) ≡ words 7 100 129
  pub full : recorded_of (words 6 100 512) (message 3 100 0) ≡ Ok true

pub places : Places
unfolding check_by refuse
places = record { fits = refl; fits_words = refl; closes = refl; closes_words = refl; full = refl }

-- "17 past block number 4,294,967,295": that number is still given, and its block filled
pub record LastNumber : Type 0 where
  pub given : recorded_of (words 4294967295 100 400) (message 3 100 102) ≡ Ok true
  pub given_words : words_after (words 4294967295 100 400) (message 3 100 102) ≡ words 4294967296 100 129
  pub first : recorded_of (words 4294967295 0 0) (message 3 77 5) ≡ Ok false
  pub room : recorded_of (words 4294967296 100 400) (message 3 100 101) ≡ Ok false
  pub past : recorded_of (words 4294967296 100 400) (message 3 100 102) ≡ Err Many
  pub past_words : words_after (words 4294967296 100 400) (message 3 100 102) ≡ words 4294967296 100 400
  pub never : recorded_of (words 4294967296 0 0) (message 3 77 5) ≡ Err Many

pub last_number_lem : LastNumber
unfolding check_by refuse
last_number_lem = record { given = refl; given_words = refl; first = refl; room = refl; past = refl; past_words = refl; never = refl }

-- "8, then 19 LONG, .., then 11 .., then 17": a message for which all four hold, and one after another no more
pub record Order : Type 0 where
  pub port_19 : recorded_code (recorded_of (words 4294967296 100 512) (message 19 99 486)) ≡ 8
  pub port_0 : recorded_code (recorded_of (words 4294967296 100 512) (message 0 99 486)) ≡ 8
  pub long : recorded_code (recorded_of (words 4294967296 100 512) (message 18 99 486)) ≡ 19
  pub backward : recorded_code (recorded_of (words 4294967296 100 512) (message 18 99 485)) ≡ 11
  pub many : recorded_code (recorded_of (words 4294967296 100 512) (message 18 100 485)) ≡ 17
  pub recorded : recorded_code (recorded_of (words 4294967295 100 512) (message 18 100 485)) ≡ 0

pub order : Order
unfolding check_by refuse
order = record { port_19 = refl; port_0 = refl; long = refl; backward = refl; many = refl; recorded = refl }
