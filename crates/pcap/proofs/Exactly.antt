-- TWENTY-ONE EXACTLY WHEN: a file is no capture where one of 02's faults is in it, and one where none is.
use Prim.Native.Nat.{ℕ, zero, suc, ◌-◌, ◌≤◌, ◌<◌}
use mathlib.Core.Path.{◌≡◌, refl, sym, ap, subst, ◌∙◌}
use mathlib.Core.Logic.{◌⊎◌, inl, inr}
use mathlib.Core.List.{List, [], ◌∷◌}
use mathlib.Core.Bool.{Bool, true, false, not, ◌&&◌, and-false, true≢false}
use native.Mathlib.Omega.{arith}
use lib.Dec.{eqb, leb, ltb}
use lib.ListN.{length, drop, length-drop}
use borrow.Author.Tests.{eqb-true, eqb-false, eq-eqb, ne_eqb, leb-true, leb-false, le-leb, lt-leb, ltb-true, ltb-false, lt-ltb, le-ltb}
use Rattle.laws.proofs.Bools.{clash}
use Rattle.refusal.specs.Choice.{pick}
use Rattle.refusal.specs.Limits.{second_nanos}
use Rattle.octets.specs.Be.{be}
use Rattle.pcap.specs.declared.Form.{Form}
use Rattle.pcap.specs.Form.{low, number_at, unit_under, form_of, big_form, little_form}
use Rattle.pcap.specs.File.{file_head, packet_head, is_head, fraction_of, stored_of, original_of, size_of, is_packet_head, is_packet, rests_of, are_packets, is_capture}
use Rattle.pcap.specs.Written.{IsForm}
use Rattle.pcap.specs.When.{SoundPacket, Fault, wrong_fraction, stored_short, cut, past, behind, Sound, none_left, one_more, NoMagic, CaptureWhen, short, no_magic, other_major, other_minor, other_link, a_fault, a_capture}
use Rattle.pcap.proofs.Laws.{rests_end, rests_more}

-- ---- THE FIRST PACKET
-- the answer of the packets, and what it says
abbrev Line : Form → List ℕ → Bool → Type 0
Line f s true = Sound f s
Line f s false = Fault f s

-- .. of the first alone
abbrev First : Form → List ℕ → Bool → Type 0
First f s true = SoundPacket f s
First f s false = Fault f s

module _ (f : Form) (s : List ℕ) where
  first_by : 0 < length s → (a b c d : Bool)
      → leb packet_head (length s) ≡ a → ltb (fraction_of f s) second_nanos ≡ b → leb (original_of f s) (stored_of f s) ≡ c → leb (size_of f s) (length s) ≡ d
      → First f s (a && ((b && c) && d))
  first_by some false b c d ea eb ec ed = cut some (leb-false _ _ ea)
  first_by some true false c d ea eb ec ed = wrong_fraction (leb-true _ _ ea) (ltb-false _ _ eb)
  first_by some true true false d ea eb ec ed = stored_short (leb-true _ _ ea) (leb-false _ _ ec)
  first_by some true true true false ea eb ec ed = past (leb-true _ _ ea) (leb-false _ _ ed)
  first_by some true true true true ea eb ec ed =
      record { head = leb-true _ _ ea; fraction = ltb-true _ _ eb; whole = leb-true _ _ ec; inside = leb-true _ _ ed }

  first : 0 < length s → First f s (is_packet f s)
  unfolding is_packet is_packet_head
  first some = first_by some _ _ _ _ refl refl refl refl

  sound_first : SoundPacket f s → is_packet f s ≡ true
  unfolding is_packet is_packet_head
  sound_first p = rw (le-leb _ _ p.head, lt-ltb _ _ p.fraction, le-leb _ _ p.whole, le-leb _ _ p.inside)

  -- all packets: the first, and those behind it
  first_and_rest : 0 < length s → are_packets f (rests_of f s) ≡ (is_packet f s && are_packets f (rests_of f (drop (size_of f s) s)))
  unfolding are_packets
  first_and_rest some = ap (are_packets f) (rests_more f s some)

  first_fails : 0 < length s → is_packet f s ≡ false → are_packets f (rests_of f s) ≡ false
  first_fails some e = first_and_rest some ∙ ap (λ (t : Bool). t && are_packets f (rests_of f (drop (size_of f s) s))) e

  behind_sound : SoundPacket f s → are_packets f (rests_of f s) ≡ are_packets f (rests_of f (drop (size_of f s) s))
  behind_sound p =
      first_and_rest (omega (arith, p.head)) ∙ ap (λ (t : Bool). t && are_packets f (rests_of f (drop (size_of f s) s))) (sound_first p)

-- ---- ALL PACKETS
end_true : (f : Form) (s : List ℕ) → length s ≡ 0 → are_packets f (rests_of f s) ≡ true
unfolding are_packets
end_true f s e = ap (are_packets f) (rests_end f s e)

-- by the octets that are left
line_within : (n : ℕ) (f : Form) (s : List ℕ) → length s ≤ n → Line f s (are_packets f (rests_of f s))
line_within zero f s h = let e : length s ≡ 0 = omega arith in subst (Line f s) (sym (end_true f s e)) (none_left e)
line_within (suc n) f [] h = subst (Line f []) (sym (end_true f [] refl)) (none_left refl)
line_within (suc n) f (x ∷ xs) h =
    let s = x ∷ xs in
    let d = drop (size_of f s) s in
    let l : length d ≡ length s - size_of f s = length-drop (size_of f s) s in
    subst (Line f s) (sym (first_and_rest f s (omega arith)))
    (go f s (is_packet f s) (first f s (omega arith)) (are_packets f (rests_of f d)) (line_within n f d (omega arith)))
  where
    go : (f : Form) (s : List ℕ) (t : Bool) → First f s t → (u : Bool) → Line f (drop (size_of f s) s) u → Line f s (t && u)
    go f s true p true l = one_more p l
    go f s true p false l = behind p l
    go f s false p u l = p

module _ (f : Form) where
  -- what is answered of packets has its line ..
  pub packets_line : (s : List ℕ) → Line f s (are_packets f (rests_of f s))
  packets_line s = line_within (length s) f s (omega arith)

  -- .. and a line that holds is what is answered
  pub sound_packets : {s : List ℕ} → Sound f s → are_packets f (rests_of f s) ≡ true
  sound_packets {s} (none_left e) = end_true f s e
  sound_packets {s} (one_more p l) = behind_sound f s p ∙ sound_packets l

  pub fault_packets : {s : List ℕ} → Fault f s → are_packets f (rests_of f s) ≡ false
  unfolding is_packet is_packet_head
  fault_packets {s} (wrong_fraction h e) =
      first_fails f s (omega arith) (rw (le-leb packet_head (length s) h, le-ltb (fraction_of f s) second_nanos e))
  fault_packets {s} (stored_short h e) =
      first_fails f s (omega arith) (rw (le-leb packet_head (length s) h, lt-leb (original_of f s) (stored_of f s) e, and-false (ltb (fraction_of f s) second_nanos)))
  fault_packets {s} (cut some e) = first_fails f s some (rw (lt-leb packet_head (length s) e))
  fault_packets {s} (past h e) =
      first_fails f s (omega arith) (rw (le-leb packet_head (length s) h, lt-leb (size_of f s) (length s) e) (and-false (is_packet_head f s)))
  fault_packets {s} (behind p l) = behind_sound f s p ∙ fault_packets l

-- ---- THE FORM
-- a unit is that of a magic, and 0 under any other number
abbrev unit_by : Bool → Bool → ℕ
unit_by a b = pick a 1000 (pick b 1 0)

unit_by_lem : (n : ℕ) (a b : Bool) → eqb n 0xa1b2c3d4 ≡ a → eqb n 0xa1b23c4d ≡ b
    → ((unit_by a b ≡ 0) × NoMagic n) ⊎ ((unit_by a b ≡ 1000) ⊎ (unit_by a b ≡ 1))
unit_by_lem n true b ea eb = inr (inl refl)
unit_by_lem n false true ea eb = inr (inr refl)
unit_by_lem n false false ea eb = inl (refl, (eqb-false _ _ ea, eqb-false _ _ eb))

unit_told : (n : ℕ) → ((unit_under n ≡ 0) × NoMagic n) ⊎ ((unit_under n ≡ 1000) ⊎ (unit_under n ≡ 1))
unit_told n = unit_by_lem n _ _ refl refl

no_unit : (n : ℕ) → NoMagic n → unit_under n ≡ 0
no_unit n h = rw (ne_eqb n 0xa1b2c3d4 h.0, ne_eqb n 0xa1b23c4d h.1)

nonzero : (u : ℕ) → (u ≡ 1000) ⊎ (u ≡ 1) → eqb u 0 ≡ false
nonzero u (inl e) = rw e
nonzero u (inr e) = rw e

module _ (s : List ℕ) where
  abbrev big : ℕ
  big = unit_under (be 4 s 0)

  abbrev little : ℕ
  little = unit_under (low 4 s 0)

  form_by_lem : ((big ≡ 0) × NoMagic (be 4 s 0)) ⊎ ((big ≡ 1000) ⊎ (big ≡ 1)) → ((little ≡ 0) × NoMagic (low 4 s 0)) ⊎ ((little ≡ 1000) ⊎ (little ≡ 1))
      → (NoMagic (be 4 s 0) × NoMagic (low 4 s 0)) ⊎ IsForm (pick (eqb big 0) (little_form s) (big_form s))
  form_by_lem (inl a) (inl b) = inl (a.1, b.1)
  form_by_lem (inl a) (inr is) = inr (subst (λ (t : Bool). IsForm (pick t (little_form s) (big_form s))) (sym (eq-eqb big 0 a.0)) is)
  form_by_lem (inr is) b = inr (subst (λ (t : Bool). IsForm (pick t (little_form s) (big_form s))) (sym (nonzero big is)) is)

  -- the first four octets are no magic in either order, or the form is one of the four
  pub form_told : (NoMagic (be 4 s 0) × NoMagic (low 4 s 0)) ⊎ IsForm (form_of s)
  unfolding form_of
  form_told = form_by_lem (unit_told (be 4 s 0)) (unit_told (low 4 s 0))

  pub magic_none : NoMagic (be 4 s 0) → NoMagic (low 4 s 0) → (form_of s).unit ≡ 0
  unfolding form_of
  magic_none a b = rw (no_unit (be 4 s 0) a) (no_unit (low 4 s 0) b)

-- ---- A FILE
-- the number of the answer
abbrev pub number_by : Bool → ℕ
number_by true = 0
number_by false = 21

module _ (s : List ℕ) where
  abbrev form : Form
  form = form_of s

  no_form : eqb form.unit 0 ≡ true → (NoMagic (be 4 s 0) × NoMagic (low 4 s 0)) ⊎ IsForm form → CaptureWhen s 21
  no_form e (inl h) = no_magic h.0 h.1
  no_form e (inr is) = clash e (nonzero form.unit is)

  of_four : eqb form.unit 0 ≡ false → (NoMagic (be 4 s 0) × NoMagic (low 4 s 0)) ⊎ IsForm form → IsForm form
  of_four e (inl h) = absurd (eqb-false _ _ e (magic_none s h.0 h.1))
  of_four e (inr is) = is

  -- a unit that is not 0 is one of the two
  pub one_of_four : eqb form.unit 0 ≡ false → IsForm form
  one_of_four e = of_four e (form_told s)

  line_by : (a u j m l p : Bool) → leb file_head (length s) ≡ a → eqb form.unit 0 ≡ u → eqb (number_at form 2 s 4) 2 ≡ j → eqb (number_at form 2 s 6) 4 ≡ m
      → eqb (number_at form 4 s 20) 1 ≡ l → Line form (drop file_head s) p → CaptureWhen s (number_by ((a && (not u && (j && m))) && (l && p)))
  line_by false u j m l p ea eu ej em el w = short (leb-false _ _ ea)
  line_by true true j m l p ea eu ej em el w = no_form eu (form_told s)
  line_by true false false m l p ea eu ej em el w = other_major (eqb-false _ _ ej)
  line_by true false true false l p ea eu ej em el w = other_minor (eqb-false _ _ em)
  line_by true false true true false p ea eu ej em el w = other_link (eqb-false _ _ el)
  line_by true false true true true false ea eu ej em el w = a_fault w
  line_by true false true true true true ea eu ej em el w =
      a_capture (leb-true _ _ ea) (one_of_four eu) (eqb-true _ _ ej) (eqb-true _ _ em) (eqb-true _ _ el) w

  -- THE NUMBER GIVEN HAS ITS LINE ..
  pub capture_told : CaptureWhen s (number_by (is_capture s))
  unfolding is_head
  capture_told = line_by _ _ _ _ _ _ refl refl refl refl refl (packets_line form (drop file_head s))

  fails : (a u j m l p : Bool) → (a ≡ false) ⊎ ((u ≡ true) ⊎ ((j ≡ false) ⊎ ((m ≡ false) ⊎ ((l ≡ false) ⊎ (p ≡ false)))))
      → ((a && (not u && (j && m))) && (l && p)) ≡ false
  fails false u j m l p one = refl
  fails true true j m l p one = refl
  fails true false false m l p one = refl
  fails true false true false l p one = refl
  fails true false true true false p one = refl
  fails true false true true true p (inl e) = absurd (true≢false e)
  fails true false true true true p (inr (inl e)) = absurd (true≢false (sym e))
  fails true false true true true p (inr (inr (inl e))) = absurd (true≢false e)
  fails true false true true true p (inr (inr (inr (inl e)))) = absurd (true≢false e)
  fails true false true true true p (inr (inr (inr (inr (inl e))))) = absurd (true≢false e)
  fails true false true true true p (inr (inr (inr (inr (inr e))))) = e

  refused : (leb file_head (length s) ≡ false) ⊎ ((eqb form.unit 0 ≡ true) ⊎ ((eqb (number_at form 2 s 4) 2 ≡ false) ⊎ ((eqb (number_at form 2 s 6) 4 ≡ false)
      ⊎ ((eqb (number_at form 4 s 20) 1 ≡ false) ⊎ (are_packets form (rests_of form (drop file_head s)) ≡ false))))) → is_capture s ≡ false
  unfolding is_head
  refused one = fails _ _ _ _ _ _ one

  accepted : file_head ≤ length s → IsForm form → number_at form 2 s 4 ≡ 2 → number_at form 2 s 6 ≡ 4 → number_at form 4 s 20 ≡ 1
      → Sound form (drop file_head s) → is_capture s ≡ true
  unfolding is_head
  accepted h is j m l w = rw (le-leb file_head (length s) h, nonzero form.unit is, j, m, l) (sound_packets form w)

  taken : {n : ℕ} → CaptureWhen s n → number_by (is_capture s) ≡ n
  taken (short h) = ap number_by (refused (inl (lt-leb _ _ h)))
  taken (no_magic a b) = ap number_by (refused (inr (inl (eq-eqb _ _ (magic_none s a b)))))
  taken (other_major e) = ap number_by (refused (inr (inr (inl (ne_eqb _ _ e)))))
  taken (other_minor e) = ap number_by (refused (inr (inr (inr (inl (ne_eqb _ _ e))))))
  taken (other_link e) = ap number_by (refused (inr (inr (inr (inr (inl (ne_eqb _ _ e)))))))
  taken (a_fault w) = ap number_by (refused (inr (inr (inr (inr (inr (fault_packets form w)))))))
  taken (a_capture h is j m l w) = ap number_by (accepted h is j m l w)

  -- .. AND A LINE THAT HOLDS IS THE NUMBER GIVEN
  pub when_capture : (n : ℕ) → CaptureWhen s n → number_by (is_capture s) ≡ n
  when_capture n w = taken w

  by_number : (t : Bool) (n : ℕ) → number_by t ≡ n → (n ≡ 21 → t ≡ false) × (n ≡ 0 → t ≡ true)
  by_number true n e = (λ h. absurd (omega arith), λ h. refl)
  by_number false n e = (λ h. refl, λ h. absurd (omega arith))

  -- so a file is no capture exactly when a fault of 02's is in it, and one exactly when none is
  pub no_capture : is_capture s ≡ false → CaptureWhen s 21
  no_capture e = subst (λ (t : Bool). CaptureWhen s (number_by t)) e capture_told

  pub is_capture_lem : is_capture s ≡ true → CaptureWhen s 0
  is_capture_lem e = subst (λ (t : Bool). CaptureWhen s (number_by t)) e capture_told

  pub when_no_capture : CaptureWhen s 21 → is_capture s ≡ false
  when_no_capture w = (by_number (is_capture s) 21 (taken w)).0 refl

  pub when_is_capture : CaptureWhen s 0 → is_capture s ≡ true
  when_is_capture w = (by_number (is_capture s) 0 (taken w)).1 refl
