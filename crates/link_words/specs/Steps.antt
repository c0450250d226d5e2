-- What a step of a link answers: the number returned, and the eighteen words at exit, which a refusal leaves as they were.
use Rattle.std.specs.Prelude.{ℕ, List, [], ◌∷◌, ◌++◌, Result, Ok, Err}
use Rattle.refusal.specs.Refusal.{number_of}
use Rattle.link.specs.declared.Sends.{Sends}
use Rattle.link.specs.declared.Sends.TheVariants.{Nothing, One, Two}
use Rattle.link.specs.declared.Stepped.{Stepped}
use Rattle.link.specs.States.{state_number}
use Rattle.links.specs.Words.{bit, role_number}
use Rattle.message_words.specs.Answers.{link_message_words}
use Rattle.refusal.specs.declared.Refusal.{Refusal}

-- no link message
abbrev pub no_words : List ℕ
no_words = 0 ∷ 0 ∷ 0 ∷ 0 ∷ 0 ∷ 0 ∷ []

-- how many messages, then two of them
unfoldable pub sends_words : Sends → List ℕ
sends_words Nothing = 0 ∷ (no_words ++ no_words)
sends_words (One a) = 1 ∷ (link_message_words a ++ no_words)
sends_words (Two a b) = 2 ∷ (link_message_words a ++ link_message_words b)

-- STATE ROLE MODE RETRIES REPORT N, then the messages
unfoldable pub step_words : Stepped → List ℕ
step_words s =
    state_number s.link.state ∷ role_number s.link.role ∷ bit s.link.mode ∷ s.link.retries ∷ bit s.report ∷ sends_words s.sends

abbrev pub taken_code : Result Stepped Refusal → ℕ
taken_code (Ok s) = 0
taken_code (Err x) = number_of x

abbrev pub taken_words : Result Stepped Refusal → List ℕ → List ℕ
taken_words (Ok s) out = step_words s
taken_words (Err x) out = out
