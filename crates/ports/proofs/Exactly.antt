-- Taking an Announce is answered with 0, 11, 12 and 13 exactly when the table says, for any words.
use Rattle.std.specs.Prelude.{Result, Ok, Err}
use mathlib.Core.Path.{◌≡◌, refl, ap, subst, ◌∙◌}
use mathlib.Core.List.{List}
use Prim.Native.Nat.{ℕ, ◌%◌, ◌≤◌}
use native.Mathlib.Omega.{arith}
use lib.ListN.{length}
use Rattle.refusal.specs.Refusal.{answer_of, code_of}
use Rattle.refusal.proofs.Numbers.{counted, number_back}
use Rattle.refusal.specs.declared.Refusal.TheVariants.{Backward, Stale, Full}
use Rattle.message.specs.When.{When, few, version, unlisted, below, beyond, stamp, tlv, wrbad, sound, TakesWhen, other as takes-other, unread as takes-unread, taken as takes-taken}
use Rattle.senders.specs.declared.Notice as kept
use Rattle.senders.specs.Port as senders
use Rattle.senders.specs.When.{WhenBackward, WhenStale, WhenFull, WhenTaken}
use Rattle.senders.proofs.Intake as intake
use Rattle.senders.proofs.Exactly as exactly
use Rattle.slots.specs.Words.{slot_at}
use Rattle.slots.proofs.Laws.{length_tab}
use Rattle.ports.specs.declared.intake.Settings.{Settings}
use Rattle.ports.specs.Words.{own, port_at}
use Rattle.ports.specs.Intake.{admitted_of, plan_by, plan_at}
use Rattle.ports.specs.History.{Call, run, fresh, OctetCalls}
use Rattle.ports.specs.When.{take_number, Given}
use Rattle.ports.specs.Admitting.{admitted_code, AdmittedWhen, no_port, unread, other_domain, own_clock, admitted}
use Rattle.ports.proofs.Admitting.{admitted_told}
use Rattle.ports.proofs.Laws.{admitted_port}
use Rattle.ports.proofs.Promises.{one_record}
use Rattle.senders.specs.declared.Notice.{Notice}
use Rattle.senders.specs.declared.Record.{Record}
use Rattle.refusal.specs.declared.Refusal.{Refusal}

-- ---- before the records are looked at, the numbers are 1 to 10; those of 6 and 7 have places above them
read_low : {magic : ℕ} {s : List ℕ} {n : ℕ} → When magic s n → n % 256 ≤ 10
read_low (few l) = omega arith
read_low (version h v) = omega arith
read_low (unlisted h u) = omega arith
read_low (below h l) = omega arith
read_low (beyond h l) = omega arith
read_low (stamp h b) = omega arith
read_low (tlv h b) = omega arith
read_low (wrbad h v) = omega arith
read_low (sound h v) = omega arith

takes_low : {magic kind : ℕ} {s : List ℕ} {n : ℕ} → TakesWhen magic kind s n → n % 256 ≤ 10
takes_low (takes-unread w h) = read_low w
takes_low (takes-other w h) = omega arith
takes_low (takes-taken w h) = omega arith

line_low : {set : Settings} {port : ℕ} {s : List ℕ} {n : ℕ} → AdmittedWhen set port s n → n % 256 ≤ 10
line_low (no_port e) = omega arith
line_low (unread e w h) = takes_low w
line_low (other_domain a d) = omega arith
line_low (own_clock a d c) = omega arith
line_low (admitted a d c) = omega arith

abbrev Low : Result Notice Refusal → Type 0
Low (Err x) = (1 ≤ answer_of x % 256) × (answer_of x % 256 ≤ 10)
Low (Ok a) = Unit {0}

low_by : (q : Result Notice Refusal) → admitted_code q % 256 ≤ 10 → Low q
low_by (Err x) l = (rw (number_back x) (counted x).0, l)
low_by (Ok a) l = tt

admitted_low : (set : Settings) (port : ℕ) (s : List ℕ) → Low (admitted_of set port s)
admitted_low set port s = low_by (admitted_of set port s) (line_low (admitted_told set port s))

-- ---- from the port's records to the call
abbrev plan_number : Result (ℕ × Record) Refusal → ℕ
plan_number q = code_of (senders.outcome_of q)

module _ (set : Settings) (ws : List ℕ) (port t : ℕ) (s : List ℕ) where
  abbrev p : senders.Port
  p = port_at ws port

  size : length p.slots ≡ 16
  size = length_tab 16 (slot_at (own ws port))

  module _ (W : senders.Port → ℕ → kept.Notice → Type 0) (n : ℕ) where
    only_by : (q : Result Notice Refusal) → admitted_of set port s ≡ q → ((m : ℕ) → 1 ≤ m % 256 → m % 256 ≤ 10 → m ≡ n → ⊥)
        → ((a : kept.Notice) → plan_number (senders.plan_of p t a) ≡ n → W p t a) → plan_number (plan_by p t q) ≡ n → Given W set ws port t s
    only_by (Err y) e other w f =
        let low : Low (Err y) = subst Low e (admitted_low set port s) in
        absurd (other (answer_of y) low.0 low.1 f)
    only_by (Ok a) e other w f = record { notice = a; admitted = e; when = w a f }

    -- a number that admission does not give
    number_only : ((m : ℕ) → 1 ≤ m % 256 → m % 256 ≤ 10 → m ≡ n → ⊥) → ((a : kept.Notice) → plan_number (senders.plan_of p t a) ≡ n → W p t a)
        → take_number set ws port t s ≡ n → Given W set ws port t s
    unfolding plan_at
    number_only other w f = only_by (admitted_of set port s) refl other w f

    number_when : ((a : kept.Notice) → W p t a → plan_number (senders.plan_of p t a) ≡ n) → Given W set ws port t s → take_number set ws port t s ≡ n
    unfolding plan_at
    number_when w h = ap (λ (q : Result Notice Refusal). plan_number (plan_by p t q)) h.admitted ∙ w h.notice h.when

  -- 11 EXACTLY WHEN THE TIME LIES BELOW THE PORT'S LAST ACCEPTED TIME
  pub eleven : Given WhenBackward set ws port t s → take_number set ws port t s ≡ 11
  eleven = number_when WhenBackward 11 (λ a w. ap plan_number (intake.backward_when p t a size w))

  pub eleven_only : take_number set ws port t s ≡ 11 → Given WhenBackward set ws port t s
  eleven_only =
      number_only WhenBackward 11 (λ m l h e. omega arith) (λ a n.
      intake.backward_only p t a size
      (exactly.plan_numbered p t a size Backward (omega arith) (λ e. refl) (λ e. absurd (omega arith)) (λ e. absurd (omega arith)) n))

  -- 12 EXACTLY WHEN THE SENDER'S RECORD IS LIVE AND THE SEQUENCEID NOT NEWER
  pub twelve : Given WhenStale set ws port t s → take_number set ws port t s ≡ 12
  twelve = number_when WhenStale 12 (λ a w. ap plan_number (exactly.stale_when p t a size w))

  pub twelve_only : take_number set ws port t s ≡ 12 → Given WhenStale set ws port t s
  twelve_only =
      number_only WhenStale 12 (λ m l h e. omega arith) (λ a n.
      exactly.stale_only p t a size
      (exactly.plan_numbered p t a size Stale (omega arith) (λ e. absurd (omega arith)) (λ e. refl) (λ e. absurd (omega arith)) n))

  -- where no sender has two records, as after any calls from fresh words: any live record of the sender will do
  pub twelve_single : senders.Single p → Given intake.IsStale set ws port t s → take_number set ws port t s ≡ 12
  twelve_single single = number_when intake.IsStale 12 (λ a w. ap plan_number (intake.stale_when p t a size single w))

  -- 13 EXACTLY WHEN THE SENDER IS NEW AND SIXTEEN ARE LIVE
  pub thirteen : Given WhenFull set ws port t s → take_number set ws port t s ≡ 13
  thirteen = number_when WhenFull 13 (λ a w. ap plan_number (intake.full_when p t a size w.0 w.1 w.2))

  pub thirteen_only : take_number set ws port t s ≡ 13 → Given WhenFull set ws port t s
  thirteen_only =
      number_only WhenFull 13 (λ m l h e. omega arith) (λ a n.
      intake.full_only p t a size
      (exactly.plan_numbered p t a size Full (omega arith) (λ e. absurd (omega arith)) (λ e. absurd (omega arith)) (λ e. refl) n))

  -- TAKEN EXACTLY WHEN 1 TO 10 DO NOT REFUSE IT AND NONE OF THESE THREE DOES
  pub taken : Given WhenTaken set ws port t s → take_number set ws port t s ≡ 0
  taken = number_when WhenTaken 0 (λ a. exactly.taken_when p t a size)

  pub taken_only : take_number set ws port t s ≡ 0 → Given WhenTaken set ws port t s
  taken_only = number_only WhenTaken 0 (λ m l h e. omega arith) (λ a. exactly.taken_only p t a size)

  few_by : (q : Result Notice Refusal) → Low q → plan_number (plan_by p t q) % 256 ≤ 13
  few_by (Err x) low = omega (arith, low.1)
  few_by (Ok a) low = let h = exactly.plan_at_most p t a size in omega (arith, h)

  -- no other number is given, in the low eight bits
  pub thirteen_at_most : take_number set ws port t s % 256 ≤ 13
  unfolding plan_at
  thirteen_at_most = few_by (admitted_of set port s) (admitted_low set port s)

-- after any calls from fresh words
pub twelve_after : (set : Settings) (cs : List Call) → OctetCalls cs → (port t : ℕ) (s : List ℕ) → Given intake.IsStale set (run fresh cs) port t s
    → take_number set (run fresh cs) port t s ≡ 12
twelve_after set cs o port t s given =
    twelve_single set (run fresh cs) port t s (one_record port (admitted_port set port s given.notice given.admitted) cs o) given
