-- Ignored means ignored, for every call of the C library that is lent a message: two calls with messages that differ only in
-- reserved fields, controlField and padding, and otherwise alike, return the same number and leave the same words.
use Prim.Native.Nat.{ℕ}
use mathlib.Core.Path.{◌≡◌, sym, ap, ◌∙◌}
use lib.ListN.{length}
use contract.Lifetimes.{Lfts}
use borrow.Fn.Kinds.{Dens, res_t, ended_of}
use denote.Triple.Clauses.{AtExit}
use Rattle.refusal.specs.Refusal.{code_of}
use Rattle.message.specs.Reading.{read_of}
use Rattle.contents.specs.Parts.{tail_in, data_in, lookup_of, suffix_of, link_of}
use Rattle.contents.specs.Tlvs.{next_in}
use Rattle.message.specs.Ignored.{Alike}
use Rattle.message.proofs.Ignored.{read_same}
use Rattle.contents.proofs.Ignored.{tail_in_same, data_same, lookup_same, walk_same, suffix_same, link_same}
use Rattle.origin.specs.Origin.{origin_check, origin_in}
use Rattle.origin.proofs.Ignored.{origin_check_same, origin_same}
use Rattle.senders.specs.Port.{outcome_of}
use Rattle.ports.specs.Intake.{plan_at, state_after}
use Rattle.bursts.specs.Burst.{burst_check, burst_words, burst_rows, AlikeIn}
use Rattle.ports.proofs.Ignored.{plan_same}
use Rattle.bursts.proofs.Bursts.{burst_same}
use Rattle.words.specs.Words.{port_of}
use Rattle.message_words.specs.Answers.{read_code, read_words, tail_words, tlv_code, tlv_words, walked_code, walked_words, suffix_code, suffix_words, link_code, link_words, origin_words}
use Rattle.dzervolat.specs.Settings.{settings}
use Rattle.dzervolat.proofs.reading.dz_read.Reads as dz_read
use Rattle.dzervolat.proofs.reading.dz_read.Kinds as dz_read_kinds
use Rattle.dzervolat.proofs.reading.dz_lookup.Reads as dz_lookup
use Rattle.dzervolat.proofs.reading.dz_lookup.Kinds as dz_lookup_kinds
use Rattle.dzervolat.proofs.reading.dz_walk.Reads as dz_walk
use Rattle.dzervolat.proofs.reading.dz_walk.Kinds as dz_walk_kinds
use Rattle.dzervolat.proofs.reading.dz_suffix.Reads as dz_suffix
use Rattle.dzervolat.proofs.reading.dz_suffix.Kinds as dz_suffix_kinds
use Rattle.dzervolat.proofs.reading.dz_link_message.Reads as dz_link_message
use Rattle.dzervolat.proofs.reading.dz_link_message.Kinds as dz_link_message_kinds
use Rattle.dzervolat.proofs.reading.dz_origin.Reads as dz_origin
use Rattle.dzervolat.proofs.reading.dz_origin.Kinds as dz_origin_kinds
use Rattle.dzervolat.proofs.records.dz_take.Reads as dz_take
use Rattle.dzervolat.proofs.records.dz_take.Kinds as dz_take_kinds
use Rattle.dzervolat.proofs.records.dz_take_burst.Reads as dz_take_burst
use Rattle.dzervolat.proofs.records.dz_take_burst.Kinds as dz_take_burst_kinds

module _ (κs : Lfts 3) (a b : Dens κs dz_read_kinds.ps) (x y : (res_t dz_read_kinds.r κs).Denot)
    (e f : AtExit (ended_of 3 dz_read_kinds.ps dz_read_kinds.r) κs) where
  pub dz_read_ignores : Alike a.0.now b.0.now → a.1.0 ≡ b.1.0 → a.1.1.0.now ≡ b.1.1.0.now → a.1.1.1.0.now ≡ b.1.1.1.0.now
      → dz_read.Post κs a x e → dz_read.Post κs b y f
      → (x ≡ y) × (e.1.1.0.now ≡ f.1.1.0.now) × (e.1.1.1.0.now ≡ f.1.1.1.0.now)
  dz_read_ignores s m w l p q =
      let r = read_same a.0.now b.0.now s a.1.0 ∙ ap (λ (k : ℕ). read_of k b.0.now) m in
      let t = tail_in_same a.0.now b.0.now s a.1.0 ∙ ap (λ (k : ℕ). tail_in k b.0.now) m in (
        p.0 ∙ ap read_code r ∙ sym q.0,
        p.1.0 ∙ (λ i. read_words (r i) (w i)) ∙ sym q.1.0,
        p.1.1 ∙ (λ i. tail_words (r i) (length (t i)) (l i)) ∙ sym q.1.1,
      )

module _ (κs : Lfts 2) (a b : Dens κs dz_lookup_kinds.ps) (x y : (res_t dz_lookup_kinds.r κs).Denot)
    (e f : AtExit (ended_of 2 dz_lookup_kinds.ps dz_lookup_kinds.r) κs) where
  pub dz_lookup_ignores : Alike a.0.now b.0.now → a.1.0 ≡ b.1.0 → a.1.1.0 ≡ b.1.1.0 → a.1.1.1.0.now ≡ b.1.1.1.0.now
      → dz_lookup.Post κs a x e → dz_lookup.Post κs b y f → (x ≡ y) × (e.1.1.1.0.now ≡ f.1.1.1.0.now)
  dz_lookup_ignores s k m w p q =
      let r = lookup_same a.0.now b.0.now s a.1.1.0 a.1.0 ∙ (λ i. lookup_of (m i) (k i) b.0.now) in
      let d = data_same a.0.now b.0.now s a.1.1.0 a.1.0 ∙ (λ i. data_in (m i) (k i) b.0.now) in
      (p.0 ∙ ap tlv_code r ∙ sym q.0, p.1 ∙ (λ i. tlv_words (r i) (length (d i)) (w i)) ∙ sym q.1)

module _ (κs : Lfts 2) (a b : Dens κs dz_walk_kinds.ps) (x y : (res_t dz_walk_kinds.r κs).Denot)
    (e f : AtExit (ended_of 2 dz_walk_kinds.ps dz_walk_kinds.r) κs) where
  pub dz_walk_ignores : Alike a.0.now b.0.now → a.1.0 ≡ b.1.0 → a.1.1.0 ≡ b.1.1.0 → a.1.1.1.0.now ≡ b.1.1.1.0.now
      → dz_walk.Post κs a x e → dz_walk.Post κs b y f → (x ≡ y) × (e.1.1.1.0.now ≡ f.1.1.1.0.now)
  dz_walk_ignores s k m w p q =
      let r = walk_same a.0.now b.0.now s a.1.1.0 a.1.0 ∙ (λ i. next_in (m i) (k i) b.0.now) in
      (p.0 ∙ ap walked_code r ∙ sym q.0, p.1 ∙ (λ i. walked_words (r i) (w i)) ∙ sym q.1)

module _ (κs : Lfts 2) (a b : Dens κs dz_suffix_kinds.ps) (x y : (res_t dz_suffix_kinds.r κs).Denot)
    (e f : AtExit (ended_of 2 dz_suffix_kinds.ps dz_suffix_kinds.r) κs) where
  pub dz_suffix_ignores : Alike a.0.now b.0.now → a.1.0 ≡ b.1.0 → a.1.1.0.now ≡ b.1.1.0.now
      → dz_suffix.Post κs a x e → dz_suffix.Post κs b y f → (x ≡ y) × (e.1.1.0.now ≡ f.1.1.0.now)
  dz_suffix_ignores s m w p q =
      let r = suffix_same a.0.now b.0.now s a.1.0 ∙ ap (λ (k : ℕ). suffix_of k b.0.now) m in
      (p.0 ∙ ap suffix_code r ∙ sym q.0, p.1 ∙ (λ i. suffix_words (r i) (w i)) ∙ sym q.1)

module _ (κs : Lfts 2) (a b : Dens κs dz_link_message_kinds.ps) (x y : (res_t dz_link_message_kinds.r κs).Denot)
    (e f : AtExit (ended_of 2 dz_link_message_kinds.ps dz_link_message_kinds.r) κs) where
  pub dz_link_message_ignores : Alike a.0.now b.0.now → a.1.0 ≡ b.1.0 → a.1.1.0.now ≡ b.1.1.0.now
      → dz_link_message.Post κs a x e → dz_link_message.Post κs b y f → (x ≡ y) × (e.1.1.0.now ≡ f.1.1.0.now)
  dz_link_message_ignores s m w p q =
      let r = link_same a.0.now b.0.now s a.1.0 ∙ ap (λ (k : ℕ). link_of k b.0.now) m in
      (p.0 ∙ ap link_code r ∙ sym q.0, p.1 ∙ (λ i. link_words (r i) (w i)) ∙ sym q.1)

module _ (κs : Lfts 2) (a b : Dens κs dz_origin_kinds.ps) (x y : (res_t dz_origin_kinds.r κs).Denot)
    (e f : AtExit (ended_of 2 dz_origin_kinds.ps dz_origin_kinds.r) κs) where
  pub dz_origin_ignores : Alike a.0.now b.0.now → Alike a.1.0.now b.1.0.now → a.1.1.0 ≡ b.1.1.0 → a.1.1.1.0.now ≡ b.1.1.1.0.now
      → dz_origin.Post κs a x e → dz_origin.Post κs b y f → (x ≡ y) × (e.1.1.1.0.now ≡ f.1.1.1.0.now)
  dz_origin_ignores s u m w p q =
      let r = origin_check_same a.1.1.0 a.0.now b.0.now a.1.0.now b.1.0.now s u ∙ ap (λ (k : ℕ). origin_check k b.0.now b.1.0.now) m in
      let o = origin_same a.1.1.0 a.0.now b.0.now a.1.0.now b.1.0.now s u ∙ ap (λ (k : ℕ). origin_in k b.0.now b.1.0.now) m in
      (p.0 ∙ ap code_of r ∙ sym q.0, p.1 ∙ (λ i. origin_words (r i) (o i) (w i)) ∙ sym q.1)

module _ (κs : Lfts 2) (a b : Dens κs dz_take_kinds.ps) (x y : (res_t dz_take_kinds.r κs).Denot)
    (e f : AtExit (ended_of 2 dz_take_kinds.ps dz_take_kinds.r) κs) where
  pub dz_take_ignores : Alike a.1.1.1.0.now b.1.1.1.0.now → a.0.now ≡ b.0.now → a.1.0 ≡ b.1.0 → a.1.1.0 ≡ b.1.1.0
      → a.1.1.1.1.0 ≡ b.1.1.1.1.0 → a.1.1.1.1.1.0 ≡ b.1.1.1.1.1.0 → a.1.1.1.1.1.1.0 ≡ b.1.1.1.1.1.1.0
      → dz_take.Post κs a x e → dz_take.Post κs b y f → (x ≡ y) × (e.0.now ≡ f.0.now)
  dz_take_ignores s w n t d c m p q =
      let r = plan_same (settings a.1.1.1.1.0 a.1.1.1.1.1.0 a.1.1.1.1.1.1.0) (port_of a.1.0) a.1.1.1.0.now b.1.1.1.0.now s a.0.now a.1.1.0
      ∙ (λ i. plan_at (settings (d i) (c i) (m i)) (w i) (port_of (n i)) (t i) b.1.1.1.0.now) in
      (p.0 ∙ (λ i. code_of (outcome_of (r i))) ∙ sym q.0, p.1 ∙ (λ i. state_after (w i) (port_of (n i)) (t i) (r i)) ∙ sym q.1)

module _ (κs : Lfts 3) (a b : Dens κs dz_take_burst_kinds.ps) (x y : (res_t dz_take_burst_kinds.r κs).Denot)
    (e f : AtExit (ended_of 3 dz_take_burst_kinds.ps dz_take_burst_kinds.r) κs) where
  pub dz_take_burst_ignores : AlikeIn a.1.0.now b.1.0.now a.1.1.0.now → a.0.now ≡ b.0.now → a.1.1.0.now ≡ b.1.1.0.now
      → a.1.1.1.0 ≡ b.1.1.1.0 → a.1.1.1.1.0 ≡ b.1.1.1.1.0 → a.1.1.1.1.1.0 ≡ b.1.1.1.1.1.0
      → dz_take_burst.Post κs a x e → dz_take_burst.Post κs b y f → (x ≡ y) × (e.0.now ≡ f.0.now) × (e.1.1.0.now ≡ f.1.1.0.now)
  dz_take_burst_ignores s w r d c m p q =
      let l = burst_same (settings a.1.1.1.0 a.1.1.1.1.0 a.1.1.1.1.1.0) a.1.0.now b.1.0.now a.0.now a.1.1.0.now s in (
        p.0 ∙ (λ i. code_of (burst_check (r i))) ∙ sym q.0,
        p.1.0 ∙ l.0 ∙ (λ i. burst_words (settings (d i) (c i) (m i)) b.1.0.now (w i) (r i)) ∙ sym q.1.0,
        p.1.1 ∙ l.1 ∙ (λ i. burst_rows (settings (d i) (c i) (m i)) b.1.0.now (w i) (r i)) ∙ sym q.1.1,
      )
