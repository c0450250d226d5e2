-- What the words mean: a record that was written is read back, and the words after a plan are the port after it.
use Rattle.std.specs.Prelude.{Ok}
use mathlib.Core.Path.{◌≡◌, refl, ap, sym, ◌∙◌}
use mathlib.Core.Bool.{Bool, true, false, not}
use mathlib.Core.List.{List}
use mathlib.Core.Logic.{⊎_elim, ◌⊎◌, inl, inr}
use Prim.Native.Nat.{ℕ, ◌+◌, ◌*◌, ◌/◌, ◌%◌, ◌≤◌, ◌<◌}
use native.Mathlib.Omega.{arith}
use native.Mathlib.Decide.{dec_lt}
use lib.ListN.{length, get_or, set, take, length-set}
use lib.Seq.{drop-set-lt, get_or-set_same, get_or-set_other}
use Rattle.rank.specs.declared.Grandmaster.{Grandmaster}
use Rattle.senders.specs.declared.Notice.{Notice}
use Rattle.senders.specs.declared.Record.{Record}
use Rattle.senders.specs.Record.{window_of, is_of, is_free, fresh_of, next_of}
use Rattle.senders.specs.Port.{Port, slot_of, port_after, plan_of, Live}
use Rattle.senders.proofs.Intake.{plan_cases}
use Rattle.slots.specs.Words.{id_word, grade_word, record_of, words_of, slot_at, slots_of, port_of, put_slot, words_after, Small}
use Rattle.slots.proofs.Laws.{length_splice, block_same, block_before, block_after, get_d_before, set_tab, tab_ext, length_tab}

-- ---- each field comes back
module _ (a b c d : ℕ) (ha : a < 0x10000) (hb : b < 0x10000) (hc : c < 0x10000) (hd : d < 0x10000) where
  id_0 : id_word a b c d % 0x10000 ≡ a
  id_0 = omega arith

  id_1 : id_word a b c d / 0x10000 % 0x10000 ≡ b
  id_1 = omega arith

  id_2 : id_word a b c d / 0x100000000 % 0x10000 ≡ c
  id_2 = omega arith

  id_3 : id_word a b c d / 0x1000000000000 % 0x10000 ≡ d
  id_3 = omega arith

module _ (g : Grandmaster) (s : ℕ) (h1 : g.priority1 < 0x100) (hc : g.class < 0x100) (ha : g.accuracy < 0x100) (hv : g.variance < 0x10000)
    (h2 : g.priority2 < 0x100) (hs : s < 0x10000) where
  grade_0 : grade_word g s % 0x10000 ≡ s
  grade_0 = omega arith

  grade_1 : grade_word g s / 0x10000 % 0x100 ≡ g.priority2
  grade_1 = omega arith

  grade_2 : grade_word g s / 0x1000000 % 0x10000 ≡ g.variance
  grade_2 = omega arith

  grade_3 : grade_word g s / 0x10000000000 % 0x100 ≡ g.accuracy
  grade_3 = omega arith

  grade_4 : grade_word g s / 0x1000000000000 % 0x100 ≡ g.class
  grade_4 = omega arith

  grade_5 : grade_word g s / 0x100000000000000 % 0x100 ≡ g.priority1
  grade_5 = omega arith

-- what was written is read
pub record_words_lem : (r : Record) → Small r → record_of (words_of r) ≡ r
unfolding record_of words_of
record_words_lem r h =
    let n = r.notice in
    let g = n.grandmaster in
    let x = n.sender in
    λ i.
    record {
      notice =
          record {
            sender = record { clock = x.clock; port = id_0 x.port n.sequence n.wrflags r.receipts h.port h.sequence h.wrflags h.receipts i };
            sequence = id_1 x.port n.sequence n.wrflags r.receipts h.port h.sequence h.wrflags h.receipts i;
            grandmaster =
                record {
                  priority1 = grade_5 g n.steps h.priority1 h.class h.accuracy h.variance h.priority2 h.steps i;
                  class = grade_4 g n.steps h.priority1 h.class h.accuracy h.variance h.priority2 h.steps i;
                  accuracy = grade_3 g n.steps h.priority1 h.class h.accuracy h.variance h.priority2 h.steps i;
                  variance = grade_2 g n.steps h.priority1 h.class h.accuracy h.variance h.priority2 h.steps i;
                  priority2 = grade_1 g n.steps h.priority1 h.class h.accuracy h.variance h.priority2 h.steps i;
                  identity = g.identity;
                };
            steps = grade_0 g n.steps h.priority1 h.class h.accuracy h.variance h.priority2 h.steps i;
            wrflags = id_2 x.port n.sequence n.wrflags r.receipts h.port h.sequence h.wrflags h.receipts i;
          };
      receipts = id_3 x.port n.sequence n.wrflags r.receipts h.port h.sequence h.wrflags h.receipts i;
      newest = r.newest;
      older = r.older;
    }

length_words : (r : Record) → length (words_of r) ≡ 6
unfolding words_of
length_words r = refl

pub ne_split : (k i : ℕ) → (k ≡ i → ⊥) → (k < i) ⊎ (i < k)
ne_split k i other = by (dec_lt k i)
  where
    by : Dec (k < i) → (k < i) ⊎ (i < k)
    by (yes h) = inl h
    by (no h) = inr (omega arith)

pub port_eq : {p q : Port} → p.last ≡ q.last → p.e ≡ q.e → p.slots ≡ q.slots → p ≡ q
port_eq a b c = λ i. record { last = a i; e = b i; slots = c i }

-- ---- one record and one time
module _ (ws : List ℕ) (t i : ℕ) (r : Record) (n : length ws ≡ 98) (h : i < 16) where
  room : 2 + 6 * i + 6 ≤ length ws
  room = omega arith

  put_length : length (set (put_slot ws i r) 0 t) ≡ 98
  put_length = length-set (put_slot ws i r) 0 t ∙ length_splice ws (words_of r) (2 + 6 * i) 6 (length_words r) room ∙ n

  -- the time does not lie in a slot
  slot_of_lem : (k : ℕ) → slot_at (set (put_slot ws i r) 0 t) k ≡ slot_at (put_slot ws i r) k
  slot_of_lem k = ap (λ (l : List ℕ). record_of (take 6 l)) (drop-set-lt (2 + 6 * k) (put_slot ws i r) 0 t (omega arith))

  slot_same : Small r → slot_at (set (put_slot ws i r) 0 t) i ≡ r
  slot_same small = slot_of_lem i ∙ ap record_of (block_same ws (words_of r) (2 + 6 * i) 6 (length_words r) room) ∙ record_words_lem r small

  slot_other : (k : ℕ) → (k ≡ i → ⊥) → k < 16 → slot_at (set (put_slot ws i r) 0 t) k ≡ slot_at ws k
  slot_other k other g =
      slot_of_lem k
      ∙ ⊎_elim
      (λ (lt : k < i). ap record_of (block_before ws (words_of r) (2 + 6 * i) 6 (length_words r) room (2 + 6 * k) 6 (omega arith)))
      (λ (gt : i < k). ap record_of (block_after ws (words_of r) (2 + 6 * i) 6 (length_words r) room (2 + 6 * k) 6 (omega arith)))
      (ne_split k i other)

  put_means : Small r → port_of (set (put_slot ws i r) 0 t) ≡ port_after (port_of ws) t (Ok (i, r))
  put_means small =
      let l = put_slot ws i r in
      let len : length l ≡ 98 = length_splice ws (words_of r) (2 + 6 * i) 6 (length_words r) room ∙ n in
      let e0 : get_or (set l 0 t) 0 0 ≡ t = get_or-set_same l 0 t 0 (omega arith) in
      let e1 : get_or (set l 0 t) 1 0 ≡ get_or ws 1 0 =
      get_or-set_other l 0 1 t 0 (λ z. omega arith) ∙ get_d_before ws (words_of r) (2 + 6 * i) 6 (length_words r) room 1 (omega arith) in
      let e2 : slots_of (set l 0 t) ≡ set (slots_of ws) i r =
      sym (set_tab 16 (slot_at ws) (slot_at (set l 0 t)) i slot_other) ∙ ap (set (slots_of ws) i) (slot_same small) in
      port_eq e0 e1 e2

-- the interval that is set
module _ (ws : List ℕ) (e : ℕ) (n : length ws ≡ 98) where
  pub exponent_means : port_of (set ws 1 e) ≡ record { last = (port_of ws).last; e = e; slots = (port_of ws).slots }
  exponent_means =
      port_eq (get_or-set_other ws 1 0 e 0 (λ z. omega arith)) (get_or-set_same ws 1 e 0 (omega arith))
      (tab_ext 16 (slot_at (set ws 1 e)) (slot_at ws) (λ k h. ap (λ (l : List ℕ). record_of (take 6 l)) (drop-set-lt (2 + 6 * k) ws 1 e (omega arith))))

-- ---- what a plan does
-- the fields of an Announce that share a word fit their widths
abbrev pub Fitting : Notice → Type 0
Fitting a = Small (fresh_of 0 a)

small_fresh : (t : ℕ) (a : Notice) → Fitting a → Small (fresh_of t a)
small_fresh t a h =
    record { port = h.port; sequence = h.sequence; wrflags = h.wrflags; receipts = omega arith; priority1 = h.priority1; class = h.class; accuracy = h.accuracy; variance = h.variance; priority2 = h.priority2; steps = h.steps }

small_next : (r : Record) (t : ℕ) (a : Notice) → Fitting a → Small (next_of r t a)
small_next r t a h =
    record { port = h.port; sequence = h.sequence; wrflags = h.wrflags; receipts = omega arith; priority1 = h.priority1; class = h.class; accuracy = h.accuracy; variance = h.variance; priority2 = h.priority2; steps = h.steps }

module _ (ws : List ℕ) (t : ℕ) (a : Notice) (n : length ws ≡ 98) where
  size : length (port_of ws).slots ≡ 16
  size = length_tab 16 (slot_at ws)

  -- a slot that passes a test is not one that fails it
  apart : (k i : ℕ) (f : Record → Bool) → f (slot_of (port_of ws) k) ≡ true → f (slot_of (port_of ws) i) ≡ false → i ≡ k → ⊥
  apart k i f hit miss e =
      let m : f (slot_of (port_of ws) k) ≡ false = rw e at miss in
      let z : ◌≡◌ {A = ℕ} 0 1 = cc in
      omega arith

  -- THE WORDS AFTER AN ANNOUNCE ARE THE PORT AFTER IT
  pub means : Fitting a → port_of (words_after ws t (plan_of (port_of ws) t a)) ≡ port_after (port_of ws) t (plan_of (port_of ws) t a)
  means small =
      plan_cases (port_of ws) t a size (λ q. port_of (words_after ws t q) ≡ port_after (port_of ws) t q)
      (record {
        backward = λ l. refl;
        renewed = λ i l h o v f. put_means ws t i _ n h (small_next (slot_of (port_of ws) i) t a small);
        stale = λ i l h o v f. refl;
        restarted = λ i l h o v. put_means ws t i _ n h (small_fresh t a small);
        placed = λ j l f h v b. put_means ws t j _ n h (small_fresh t a small);
        full = λ l f v. refl;
      })

  -- NOBODY IS PUSHED OUT, word for word
  pub keeps_slot : (i : ℕ) → i < 16 → is_of a.sender (slot_of (port_of ws) i) ≡ false → Live (port_of ws) t i
      → slot_at (words_after ws t (plan_of (port_of ws) t a)) i ≡ slot_at ws i
  keeps_slot i g other live =
      plan_cases (port_of ws) t a size (λ q. slot_at (words_after ws t q) i ≡ slot_at ws i)
      (record {
        backward = λ l. refl;
        renewed = λ k l h o v f. slot_other ws t k _ n h i (apart k i (is_of a.sender) o other) g;
        stale = λ k l h o v f. refl;
        restarted = λ k l h o v. slot_other ws t k _ n h i (apart k i (is_of a.sender) o other) g;
        placed = λ j l f h v b. slot_other ws t j _ n h i (apart j i (is_free (window_of (port_of ws).e) t) (ap not v) (ap not live)) g;
        full = λ l f v. refl;
      })

  pub after_length : length (words_after ws t (plan_of (port_of ws) t a)) ≡ 98
  after_length =
      plan_cases (port_of ws) t a size (λ q. length (words_after ws t q) ≡ 98)
      (record {
        backward = λ l. n;
        renewed = λ i l h o v f. put_length ws t i _ n h;
        stale = λ i l h o v f. n;
        restarted = λ i l h o v. put_length ws t i _ n h;
        placed = λ j l f h v b. put_length ws t j _ n h;
        full = λ l f v. n;
      })
