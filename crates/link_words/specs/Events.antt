-- A step's eighteen words from the step in numbers and the three words of the settings: first the link, the report and the numbers of what is
-- sent, then what these messages carry.
use Rattle.std.specs.Prelude.{ℕ, ◌+◌, ◌/◌, ◌%◌, Bool, not, List, [], ◌∷◌, eqb, set}
use Rattle.refusal.specs.Choice.{pick}
use Rattle.link.specs.Machine.{CALIBRATE, CALIBRATED}
use Rattle.links.specs.Words.{bit}
use Rattle.links.specs.declared.brief.Brief.{Brief}

-- how many are sent
abbrev pub count_of : Brief → ℕ
count_of b = bit (not (eqb b.sends 0)) + bit b.both

-- STATE ROLE MODE RETRIES REPORT N, and the number of the first message
unfoldable pub link_words : Brief → List ℕ
link_words b =
    b.word % 8 ∷ b.word / 8 % 2 ∷ b.word / 16 % 2 ∷ b.word / 32 ∷ bit b.report ∷ count_of b ∷ b.sends
    ∷ 0 ∷ 0 ∷ 0 ∷ 0 ∷ 0 ∷ 0 ∷ 0 ∷ 0 ∷ 0 ∷ 0 ∷ 0 ∷ []

-- what CALIBRATE carries: the pattern, the retry and the period of the settings' first word
unfoldable pub with_calibrate : ℕ → ℕ → List ℕ → List ℕ
with_calibrate settings sends out =
    pick (eqb sends CALIBRATE)
    (set (set (set out 7 (bit (eqb (settings / 4 % 2) 1))) 8 (settings / 8 % 256)) 9 (settings / 2048 % 4294967296))
    out

-- what CALIBRATED carries
unfoldable pub with_calibrated : ℕ → ℕ → ℕ → List ℕ → List ℕ
with_calibrated tx rx sends out = pick (eqb sends CALIBRATED) (set (set out 10 tx) 11 rx) out

-- CALIBRATED after CALIBRATE
unfoldable pub with_second : ℕ → ℕ → Bool → List ℕ → List ℕ
with_second tx rx both out = pick both (set (set (set out 12 CALIBRATED) 16 tx) 17 rx) out

unfoldable pub brief_words : ℕ → ℕ → ℕ → Brief → List ℕ
brief_words settings tx rx b =
    with_second tx rx b.both (with_calibrated tx rx b.sends (with_calibrate settings b.sends (link_words b)))
