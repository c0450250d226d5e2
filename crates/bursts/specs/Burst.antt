-- A whole burst in one call (02, (ii): "Take a run of messages, each with its port and time, in one call. State and answers, refusals
-- among them, equal those of taking them all one after another. Refusals: MANY if the burst holds more than 288, checked first,
-- nothing taken.").
-- A message is a row of five words: port, time, where it begins in the octets lent, how many octets it has, its answer.
use Rattle.std.specs.Prelude.{ℕ, zero, suc, ◌≤◌, ◌<◌, List, [], ◌∷◌, ◌++◌, map, Bool, eqb, ltb, length, get_or, set, Result, Ok, Err}
use Rattle.refusal.specs.Choice.{pick, refuse}
use Rattle.refusal.specs.Refusal.{code_of}
use Rattle.refusal.specs.declared.Refusal.TheVariants.{Many}
use Rattle.message.specs.Ignored.{Alike}
use Rattle.senders.specs.Port.{outcome_of}
use Rattle.slots.specs.Words as slots
use Rattle.slots.specs.Words.{block}
use Rattle.words.specs.Words.{port_of}
use Rattle.ports.specs.declared.intake.Settings.{Settings}
use Rattle.ports.specs.Intake.{admitted_of, plan_by}
use Rattle.ports.specs.History.{Call, taking, after, run, own_after}
use Rattle.ports.specs.When.{take_number}
use Rattle.refusal.specs.declared.Refusal.{Refusal}

-- the port, the time and the octets of a message: of those that it names, the ones that were lent
abbrev pub port_in : List ℕ → ℕ
port_in m = port_of (get_or m 0 0)

abbrev pub time_in : List ℕ → ℕ
time_in m = get_or m 1 0

abbrev pub octets_in : List ℕ → List ℕ → List ℕ
octets_in o m = block o (get_or m 2 0) (get_or m 3 0)

-- a message as the call that takes it, and what that call answers
abbrev pub call_of : Settings → List ℕ → List ℕ → Call
call_of by o m = taking by (port_in m) (time_in m) (octets_in o m)

abbrev pub calls_of : Settings → List ℕ → List (List ℕ) → List Call
calls_of by o ms = map (call_of by o) ms

abbrev pub answer_to : Settings → List ℕ → List ℕ → List ℕ → ℕ
answer_to by o ws m = take_number by ws (port_in m) (time_in m) (octets_in o m)

-- "one after another": each message with its answer, the words of the clock being those that the messages before it left
abbrev pub answered : Settings → List ℕ → List ℕ → List (List ℕ) → List (List ℕ)
answered by o ws [] = []
answered by o ws (m ∷ ms) = set m 4 (answer_to by o ws m) ∷ answered by o (after ws (call_of by o m)) ms

-- "more than 288"
abbrev pub is_many : List (List ℕ) → Bool
is_many ms = ltb 288 (length ms)

abbrev pub burst_check : List (List ℕ) → Result (Unit {0}) Refusal
burst_check ms = refuse (is_many ms) (Err Many) (Ok tt)

-- the words of the clock after a burst, and the messages: "nothing taken" where it is refused
abbrev pub burst_words : Settings → List ℕ → List ℕ → List (List ℕ) → List ℕ
burst_words by o ws ms = pick (is_many ms) ws (run ws (calls_of by o ms))

abbrev pub burst_rows : Settings → List ℕ → List ℕ → List (List ℕ) → List (List ℕ)
burst_rows by o ws ms = pick (is_many ms) ms (answered by o ws ms)

-- when a burst is refused, by its number, 0 where it is not
pub data BurstWhen (ms : List (List ℕ)) : ℕ → Type 0 where
  many : 288 < length ms → BurstWhen ms 17
  done : length ms ≤ 288 → BurstWhen ms 0

-- ---- WHAT IS SAID OF BURSTS

-- calls of a clock with bursts among them, and the words after them
pub data Step : Type 0 where
  one : Call → Step
  burst : Settings → List ℕ → List (List ℕ) → Step

abbrev pub step_after : List ℕ → Step → List ℕ
step_after ws (one c) = after ws c
step_after ws (burst by o ms) = burst_words by o ws ms

abbrev pub steps : List ℕ → List Step → List ℕ
steps ws [] = ws
steps ws (e ∷ es) = steps (step_after ws e) es

-- the history that they are: a burst that is not refused is its messages' calls
abbrev pub calls_in : List Step → List Call
calls_in [] = []
calls_in (one c ∷ es) = c ∷ calls_in es
calls_in (burst by o ms ∷ es) = pick (is_many ms) [] (calls_of by o ms) ++ calls_in es

-- the messages of one port, and what they are answered by that port's 98 words alone
abbrev pub own_rows : ℕ → List (List ℕ) → List (List ℕ)
own_rows q [] = []
own_rows q (m ∷ ms) = pick (eqb (port_in m) q) (m ∷ own_rows q ms) (own_rows q ms)

abbrev pub own_number : Settings → List ℕ → ℕ → List ℕ → List ℕ → ℕ
own_number by o q l m = code_of (outcome_of (plan_by (slots.port_of l) (time_in m) (admitted_of by q (octets_in o m))))

abbrev pub own_answered : Settings → List ℕ → ℕ → List ℕ → List (List ℕ) → List (List ℕ)
own_answered by o q l [] = []
own_answered by o q l (m ∷ ms) = set m 4 (own_number by o q l m) ∷ own_answered by o q (own_after l (call_of by o m)) ms

-- message i and the one behind it change places
abbrev pub swap_at : ℕ → List (List ℕ) → List (List ℕ)
swap_at i [] = []
swap_at zero (a ∷ []) = a ∷ []
swap_at zero (a ∷ b ∷ ms) = b ∷ a ∷ ms
swap_at (suc i) (a ∷ ms) = a ∷ swap_at i ms

-- the word of message i that names its port
abbrev pub port_word_at : ℕ → List (List ℕ) → ℕ
port_word_at i ms = get_or (get_or ms i []) 0 0

-- the messages of two bursts that name them alike differ only in what is ignored
abbrev pub AlikeIn : List ℕ → List ℕ → List (List ℕ) → Type 0
AlikeIn o p [] = Unit {0}
AlikeIn o p (m ∷ ms) = Alike (octets_in o m) (octets_in p m) × AlikeIn o p ms
