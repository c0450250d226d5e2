-- What each kind of answer leaves: where the number returned is not 0, the words and octets at exit are those at entry.
use Rattle.std.specs.Prelude.{Option, Some, None, Result, Ok, Err}
use Prim.Native.Nat.{ℕ}
use mathlib.Core.Path.{◌≡◌, refl, ◌∙◌}
use mathlib.Core.Bool.{Bool, true, false, not}
use mathlib.Core.List.{List}
use lib.IntN.{ℤ}
use lib.Dec.{ltb}
use lib.ListN.{length}
use Rattle.refusal.specs.Choice.{pick, refuse}
use Rattle.refusal.specs.Refusal.{code_of}
use Rattle.refusal.specs.declared.Refusal.{Refusal}
use Rattle.refusal.specs.declared.Refusal.TheVariants.{Port, Field, Backward, Many, Block, Pcap}
use Rattle.message.specs.declared.fields.Message.{Message}
use Rattle.message.specs.Reading.{by}
use Rattle.writer.specs.Writing.{write_check, write_of, buffer_of, lent_by as filledBy}
use Rattle.wr_tlvs.specs.Built.{link_octets}
use Rattle.rank.specs.declared.Ranked.{Ranked}
use Rattle.rank.specs.Calls as calls
use Rattle.senders.specs.Port.{outcome_of}
use Rattle.ports.specs.declared.intake.Settings.{Settings}
use Rattle.ports.specs.Intake.{state_after}
use Rattle.ports.specs.History.{run}
use Rattle.bursts.specs.Burst.{calls_of, answered, is_many, burst_check, burst_words, burst_rows}
use Rattle.ports.specs.Interval.{interval_set, interval_after}
use Rattle.ports.proofs.Follows.{set_refusal_leaves}
use Rattle.election.specs.Elected.{every_port, any_late, elected_of}
use Rattle.election.specs.Decisions.{octets_at}
use Rattle.link.specs.declared.Event.{Event}
use Rattle.link.specs.declared.Settings as link
use Rattle.links.specs.Words.{IsPort, step_at, setting_answer, setting_words, take_answer, take_words}
use Rattle.recording.specs.Recording.{told_by, answer_by, lent_by}
use Rattle.trace_words.specs.Answers.{recorded_code, recorded_words, replayed_code, replayed_words}
use Rattle.candidate_words.specs.Candidates.{grandmaster_at, asked_code, asked_words}
use Rattle.candidate_words.specs.Fits.{grandmaster_fits, outcome_fitted, ranking_fitted}
use Rattle.candidate_words.specs.Answers.{status_code, status_words, looked_code, looked_words, ranking_words, decided_code, decided_words, leader_code, leader_words}
use Rattle.message_words.specs.Words.{is_whole, message_of}
use Rattle.message_words.specs.Writing.{link_message_of, written_code, written_words}
use Rattle.message_words.specs.Answers.{read_code, read_words, tail_words, tlv_code, tlv_words, walked_code, walked_words, suffix_code, suffix_words, link_code, link_words, origin_words}
use Rattle.link_words.specs.Steps.{taken_code, taken_words}
use Rattle.exchange_words.specs.Exchanges.{measured_code, measured_words}
use Rattle.dzervolat.specs.Ranking.{elected_by, decisions_after, sets_fit, compared_of, compared_after}
use Rattle.dzervolat.specs.Writing.{words_written, words_buffer, is_signaling, signaling_of, link_written, link_buffer}
use Rattle.rank.specs.declared.Candidate.{Candidate}
use Rattle.decide.specs.declared.Decision.{Decision}
use Rattle.tlv.specs.declared.wr.LinkMessage.{LinkMessage}
use Rattle.delay.specs.declared.Offset.{Offset}
use Rattle.senders.specs.declared.Record.{Record}
use Rattle.delay.specs.declared.ScaledNs.{ScaledNs}
use Rattle.link.specs.declared.Stepped.{Stepped}
use Rattle.contents.specs.declared.tlvs.Tlv.{Tlv}

-- "State, output buffers and input stay as they were."
abbrev pub Left : {A : Type 0} → ℕ → A → A → Type 0
Left number before after = (number ≡ 0 → ⊥) → after ≡ before

-- what equals an answer leaves what the answer leaves
pub left_by : {A : Type 0} {n m : ℕ} {before after words : A} → n ≡ m → after ≡ words → Left m before words → Left n before after
left_by p q l h = q ∙ l (λ z. h (p ∙ z))

-- ---- reading
pub read_left : (x : Result Message Refusal) (out : List ℕ) → Left (read_code x) out (read_words x out)
read_left (Ok m) out h = absurd (h refl)
read_left (Err x) out h = refl

pub tail_left : (x : Result Message Refusal) (size : ℕ) (out : List ℕ) → Left (read_code x) out (tail_words x size out)
tail_left (Ok m) size out h = absurd (h refl)
tail_left (Err x) size out h = refl

pub tlv_left : (x : Result (Option ℕ) Refusal) (size : ℕ) (out : List ℕ) → Left (tlv_code x) out (tlv_words x size out)
tlv_left (Ok (Some at)) size out h = absurd (h refl)
tlv_left (Ok None) size out h = absurd (h refl)
tlv_left (Err x) size out h = refl

pub walked_left : (x : Result (Option Tlv) Refusal) (out : List ℕ) → Left (walked_code x) out (walked_words x out)
walked_left (Ok (Some x)) out h = absurd (h refl)
walked_left (Ok None) out h = absurd (h refl)
walked_left (Err x) out h = refl

pub suffix_left : (x : Result (Option ℕ) Refusal) (out : List ℕ) → Left (suffix_code x) out (suffix_words x out)
suffix_left (Ok (Some n)) out h = absurd (h refl)
suffix_left (Ok None) out h = absurd (h refl)
suffix_left (Err x) out h = refl

pub carried_left : (x : Result (Option LinkMessage) Refusal) (out : List ℕ) → Left (link_code x) out (link_words x out)
carried_left (Ok (Some m)) out h = absurd (h refl)
carried_left (Ok None) out h = absurd (h refl)
carried_left (Err x) out h = refl

pub origin_left : (x : Result (Unit {0}) Refusal) (stamp out : List ℕ) → Left (code_of x) out (origin_words x stamp out)
origin_left (Ok tt) stamp out h = absurd (h refl)
origin_left (Err x) stamp out h = refl

-- ---- writing
pub written_left : (x : Result ℕ Refusal) (out : List ℕ) → Left (written_code x) out (written_words x out)
written_left (Ok n) out h = absurd (h refl)
written_left (Err x) out h = refl

checked_left : (x : Result (Unit {0}) Refusal) (n : ℕ) (m out : List ℕ) → Left (written_code (by x Err (Ok n))) out (by x (λ y. out) m)
checked_left (Ok tt) n m out h = absurd (h refl)
checked_left (Err x) n m out h = refl

message_left : (magic : ℕ) (m : Message) (tail out : List ℕ) → Left (written_code (write_of magic m tail out)) out (buffer_of magic m tail out)
unfolding write_of buffer_of
message_left magic m tail out = checked_left (write_check magic m tail (length out)) _ _ out

-- a test before it
tested_left : (b : Bool) (x : Result ℕ Refusal) (m out : List ℕ) → Left (written_code x) out m → Left (written_code (refuse b (Err Field) x)) out (refuse b out m)
unfolding refuse
tested_left true x m out l h = refl
tested_left false x m out l h = l h

pub words_left : (magic : ℕ) (w tail out : List ℕ) → Left (written_code (words_written magic w tail out)) out (words_buffer magic w tail out)
words_left magic w tail out = tested_left (not (is_whole w)) _ _ out (message_left magic (message_of w) tail out)

pub signaling_left : (magic : ℕ) (w l out : List ℕ) → Left (written_code (link_written magic w l out)) out (link_buffer magic w l out)
signaling_left magic w l out = tested_left (not (is_signaling w l)) _ _ out (message_left magic (signaling_of w) (link_octets magic (link_message_of l)) out)

-- ---- sender records
pub take_left : (ws : List ℕ) (port t : ℕ) (q : Result (ℕ × Record) Refusal) → Left (code_of (outcome_of q)) ws (state_after ws port t q)
take_left ws port t (Err x) h = refl
take_left ws port t (Ok (i, r)) h = absurd (h refl)

many_left : {A : Type 0} (b : Bool) (before after : A) → Left (code_of (refuse b (Err Many) (Ok tt))) before (pick b before after)
unfolding refuse
many_left true before after h = refl
many_left false before after h = absurd (h refl)

-- a burst that is refused leaves the state and every row
pub burst_left : (by : Settings) (o ws : List ℕ) (ms : List (List ℕ))
    → Left (code_of (burst_check ms)) ws (burst_words by o ws ms) × Left (code_of (burst_check ms)) ms (burst_rows by o ws ms)
burst_left by o ws ms = (many_left (is_many ms) ws (run ws (calls_of by o ms)), many_left (is_many ms) ms (answered by o ws ms))

outcome_left : (o : Result (Unit {0}) Refusal) (before after : List ℕ) → ((x : Refusal) → o ≡ Err x → after ≡ before) → Left (code_of o) before after
outcome_left (Ok tt) before after f h = absurd (h refl)
outcome_left (Err x) before after f h = f x refl

pub interval_left : (ws : List ℕ) (port : ℕ) (k : ℤ) → Left (code_of (interval_set port k)) ws (interval_after ws port k)
interval_left ws port k = outcome_left (interval_set port k) ws (interval_after ws port k) (set_refusal_leaves ws port k)

pub asked_left : (x : Result (Option Candidate) Refusal) (out : List ℕ) → Left (asked_code x) out (asked_words x out)
asked_left (Err x) out h = refl
asked_left (Ok None) out h = absurd (h refl)
asked_left (Ok (Some c)) out h = absurd (h refl)

pub status_left : (x : Result (ℕ × ℤ) Refusal) (out : List ℕ) → Left (status_code x) out (status_words x out)
status_left (Err x) out h = refl
status_left (Ok (last, k)) out h = absurd (h refl)

pub looked_left : (x : Result (Option Record) Refusal) (out : List ℕ) → Left (looked_code x) out (looked_words x out)
looked_left (Err x) out h = refl
looked_left (Ok s) out h = absurd (h refl)

-- ---- ranking and deciding
pub ranking_left : (x : Result Ranked Refusal) (out : List ℕ) → Left (code_of (calls.outcome_of x)) out (ranking_words x out)
ranking_left (Ok l) out h = absurd (h refl)
ranking_left (Err x) out h = refl

pub decided_left : (x : Result Decision Refusal) (out : List ℕ) → Left (decided_code x) out (decided_words x out)
decided_left (Ok d) out h = absurd (h refl)
decided_left (Err x) out h = refl

pub leader_left : (x : Result (Option Candidate) Refusal) (out : List ℕ) → Left (leader_code x) out (leader_words x out)
leader_left (Err x) out h = refl
leader_left (Ok None) out h = absurd (h refl)
leader_left (Ok (Some c)) out h = absurd (h refl)

-- our quality fits or not, and some port is late or not
elected_left : (fits late : Bool) (list : Ranked) (octets out : List ℕ)
    → Left (code_of (calls.outcome_of (ranking_fitted fits (refuse late (Err Backward) (Ok list))))) out (pick fits (pick late out octets) out)
unfolding refuse
elected_left true true list octets out h = refl
elected_left true false list octets out h = absurd (h refl)
elected_left false late list octets out h = refl

pub decisions_left : (own ports : List ℕ) (t : ℕ) (out : List ℕ) → Left (code_of (calls.outcome_of (elected_by own ports t))) out (decisions_after own ports t out)
unfolding elected_of
decisions_left own ports t out = elected_left (grandmaster_fits own 0) (any_late ports t every_port) _ (octets_at (grandmaster_at own 0) ports t) out

fitted_left : (fits : Bool) (words out : List ℕ) → Left (code_of (outcome_fitted fits (Ok tt))) out (pick fits words out)
fitted_left true words out h = absurd (h refl)
fitted_left false words out h = refl

pub compared_left : (a b out : List ℕ) → Left (code_of (compared_of a b)) out (compared_after a b out)
compared_left a b out = fitted_left (sets_fit a b) _ out

-- ---- links
settled_left : (port large : Bool) (words out : List ℕ)
    → Left (code_of (refuse (not port) (Err Port) (refuse large (Err Field) (Ok tt)))) out (refuse (not port) out (refuse large out words))
unfolding refuse
settled_left true true words out h = refl
settled_left true false words out h = absurd (h refl)
settled_left false large words out h = refl

pub setting_left : (ws : List ℕ) (port : ℕ) (s : link.Settings) → Left (code_of (setting_answer port s)) ws (setting_words ws port s)
unfolding setting_answer setting_words
setting_left ws port s = settled_left (IsPort port) (ltb 3 s.config) _ ws

pub taken_left : (x : Result Stepped Refusal) (out : List ℕ) → Left (taken_code x) out (taken_words x out)
taken_left (Ok s) out h = absurd (h refl)
taken_left (Err x) out h = refl

stepped_left : (port : Bool) (ws words : List ℕ) (s : Result Stepped Refusal) → taken_code s ≡ 0 → Left (taken_code (refuse (not port) (Err Port) s)) ws (refuse (not port) ws words)
unfolding refuse
stepped_left true ws words s e h = absurd (h e)
stepped_left false ws words s e h = refl

pub step_left : (ws : List ℕ) (port : ℕ) (e : Event) → Left (taken_code (take_answer ws port e)) ws (take_words ws port e)
unfolding take_answer take_words
step_left ws port e = stepped_left (IsPort port) ws _ (Ok (step_at ws port e)) refl

-- ---- delay and offset
pub measured_left : (x : Result (ScaledNs × Offset) Refusal) (out : List ℕ) → Left (measured_code x) out (measured_words x out)
measured_left (Ok (d, o)) out h = absurd (h refl)
measured_left (Err x) out h = refl

-- ---- traces
pub recorded_left : (x : Result Bool Refusal) (out : List ℕ) → Left (recorded_code x) out (recorded_words x out)
recorded_left (Err x) out h = refl
recorded_left (Ok false) out h = absurd (h refl)
recorded_left (Ok true) out h = absurd (h refl)

-- the recording's words, its open block and the block that comes out
pub lent_left : (x : Result (Unit {0}) Refusal) (closed : Bool) (before after : List ℕ) → Left (recorded_code (answer_by x (told_by closed))) before (lent_by x before after)
lent_left (Err x) closed before after h = refl
lent_left (Ok tt) true before after h = absurd (h refl)
lent_left (Ok tt) false before after h = absurd (h refl)

pub replayed_left : (x : Result ℕ Refusal) (out : List ℕ) → Left (replayed_code x) out (replayed_words x out)
replayed_left (Err x) out h = refl
replayed_left (Ok t) out h = absurd (h refl)

-- what a trace, and what a block, that is not accepted leaves
pub trace_left : (accepted : Bool) (t : ℕ) (before after : List ℕ)
    → Left (replayed_code (refuse (not accepted) (Err Block) (Ok t))) before (pick accepted after before)
unfolding refuse
trace_left true t before after h = absurd (h refl)
trace_left false t before after h = refl

pub block_left : (accepted : Bool) (before after : List ℕ)
    → Left (code_of (refuse (not accepted) (Err Block) (Ok tt))) before (pick accepted after before)
unfolding refuse
block_left true before after h = absurd (h refl)
block_left false before after h = refl

-- ---- captures
pub filled_left : (x : Result ℕ Refusal) (before after : List ℕ) → Left (written_code x) before (filledBy x before after)
filled_left (Ok n) before after h = absurd (h refl)
filled_left (Err x) before after h = refl

-- what a head that is not sound leaves
pub head_left : (sound : Bool) (before after : List ℕ) → Left (code_of (refuse (not sound) (Err Pcap) (Ok tt))) before (pick sound after before)
unfolding refuse
head_left true before after h = absurd (h refl)
head_left false before after h = refl

-- what a frame leaves that is taken and refused; one that is passed over is not refused
pub frame_left : (taken : Bool) (x : Result (Unit {0}) Refusal) (closed : Bool) (before after : List ℕ)
    → Left (recorded_code (pick taken (answer_by x (told_by closed)) (Ok false))) before (pick taken (lent_by x before after) before)
frame_left true x closed before after h = lent_left x closed before after h
frame_left false x closed before after h = refl
