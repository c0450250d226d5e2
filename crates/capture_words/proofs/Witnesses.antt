-- Forms in words and back, and heads written out octet by octet with what is answered and put into words, by 02's numbers, (vi).
use Prim.Native.Nat.{ℕ}
use mathlib.Core.Path.{◌≡◌, refl}
use mathlib.Core.List.{List, [], ◌∷◌, ◌++◌, map}
use mathlib.Core.Bool.{Bool, true, false}
use lib.ListN.{replicate}
use Rattle.refusal.specs.Choice.{refuse}
use Rattle.refusal.specs.Refusal.{code_of}
use Rattle.octets.specs.Be.{be}
use Rattle.pcap.specs.declared.Form.{Form}
use Rattle.pcap.specs.Form.{low, form_of}
use Rattle.pcap.specs.File.{is_head, is_packet_head}
use Rattle.capture_words.specs.Captures.{form_words, form_by, head_check, form_after, packet_check, packet_after}

-- ---- A FORM IN WORDS
abbrev form : Bool → ℕ → Form
form little unit = record { little = little; unit = unit }

pub record Words : Type 0 where
  pub words : map form_words (form false 1000 ∷ form true 1000 ∷ form false 1 ∷ form true 1 ∷ []) ≡ (0 ∷ 1000 ∷ []) ∷ (1 ∷ 1000 ∷ []) ∷ (0 ∷ 1 ∷ []) ∷ (1 ∷ 1 ∷ []) ∷ []
  pub back : map form_by ((0 ∷ 1000 ∷ []) ∷ (1 ∷ 1000 ∷ []) ∷ (0 ∷ 1 ∷ []) ∷ (1 ∷ 1 ∷ []) ∷ []) ≡ form false 1000 ∷ form true 1000 ∷ form false 1 ∷ form true 1 ∷ []
  pub again : map (λ (ws : List ℕ). form_words (form_by ws)) ((0 ∷ 1000 ∷ []) ∷ (1 ∷ 1000 ∷ []) ∷ (0 ∷ 1 ∷ []) ∷ (1 ∷ 1 ∷ []) ∷ [])
      ≡ (0 ∷ 1000 ∷ []) ∷ (1 ∷ 1000 ∷ []) ∷ (0 ∷ 1 ∷ []) ∷ (1 ∷ 1 ∷ []) ∷ []
  -- no unit: 2, 0, 999, 1001, and 1 and 1000 above 16 bits
  pub none : map (λ (w : ℕ). (form_by (1 ∷ w ∷ [])).unit) (2 ∷ 0 ∷ 999 ∷ 1001 ∷ 65537 ∷ 66536 ∷ []) ≡ 0 ∷ 0 ∷ 0 ∷ 0 ∷ 0 ∷ 0 ∷ []

pub words : Words
words = record { words = refl; back = refl; again = refl; none = refl }

-- ---- THE HEAD OF A FILE
abbrev Octets : Type 0
Octets = List ℕ

abbrev fields : Octets
fields = 1 ∷ 2 ∷ 3 ∷ 4 ∷ 5 ∷ 6 ∷ 7 ∷ 8 ∷ 9 ∷ 10 ∷ 11 ∷ 12 ∷ []

abbrev big : Octets → Octets
big magic = magic ++ 0 ∷ 2 ∷ 0 ∷ 4 ∷ fields ++ 0 ∷ 0 ∷ 0 ∷ 1 ∷ []

abbrev little : Octets → Octets
little magic = magic ++ 2 ∷ 0 ∷ 4 ∷ 0 ∷ fields ++ 1 ∷ 0 ∷ 0 ∷ 0 ∷ []

-- the four; octets exchanged in pairs, a head of the other octet order behind its magic
abbrev four : List Octets
four = big (0xa1 ∷ 0xb2 ∷ 0xc3 ∷ 0xd4 ∷ []) ∷ little (0xd4 ∷ 0xc3 ∷ 0xb2 ∷ 0xa1 ∷ []) ∷ big (0xa1 ∷ 0xb2 ∷ 0x3c ∷ 0x4d ∷ []) ∷ little (0x4d ∷ 0x3c ∷ 0xb2 ∷ 0xa1 ∷ []) ∷ []

abbrev others : List Octets
others = big (0xb2 ∷ 0xa1 ∷ 0xd4 ∷ 0xc3 ∷ []) ∷ little (0xa1 ∷ 0xb2 ∷ 0xc3 ∷ 0xd4 ∷ []) ∷ replicate 24 0 ∷ []

pub record Heads : Type 0 where
  pub taken : map (λ (s : Octets). code_of (head_check s)) four ≡ 0 ∷ 0 ∷ 0 ∷ 0 ∷ []
  pub put : map (form_after (7 ∷ 8 ∷ [])) four ≡ (0 ∷ 1000 ∷ []) ∷ (1 ∷ 1000 ∷ []) ∷ (0 ∷ 1 ∷ []) ∷ (1 ∷ 1 ∷ []) ∷ []
  pub refused : map (λ (s : Octets). code_of (head_check s)) others ≡ 21 ∷ 21 ∷ 21 ∷ []
  pub kept : map (form_after (7 ∷ 8 ∷ [])) others ≡ (7 ∷ 8 ∷ []) ∷ (7 ∷ 8 ∷ []) ∷ (7 ∷ 8 ∷ []) ∷ []

pub heads : Heads
unfolding form_of be low is_head refuse
heads = record { taken = refl; put = refl; refused = refl; kept = refl }

-- ---- THE HEAD OF A PACKET
-- 16,909,060 seconds, of 258 octets 259 stored: the highest octet first, and the lowest
abbrev packet : Octets → Octets
packet fraction = 1 ∷ 2 ∷ 3 ∷ 4 ∷ fraction ++ 0 ∷ 0 ∷ 1 ∷ 3 ∷ 0 ∷ 0 ∷ 1 ∷ 2 ∷ []

abbrev packet_little : Octets → Octets
packet_little fraction = 4 ∷ 3 ∷ 2 ∷ 1 ∷ fraction ++ 3 ∷ 1 ∷ 0 ∷ 0 ∷ 2 ∷ 1 ∷ 0 ∷ 0 ∷ []

-- 999,999, and 1,000,000 of them
abbrev last : Octets
last = 0x00 ∷ 0x0f ∷ 0x42 ∷ 0x3f ∷ []

abbrev second : Octets
second = 0x00 ∷ 0x0f ∷ 0x42 ∷ 0x40 ∷ []

abbrev second_little : Octets
second_little = 0x40 ∷ 0x42 ∷ 0x0f ∷ 0x00 ∷ []

pub record Packets : Type 0 where
  pub micro : (code_of (packet_check (0 ∷ 1000 ∷ []) (packet last)) ≡ 0) × (packet_after (0 ∷ 1000 ∷ []) (7 ∷ 8 ∷ []) (packet last) ≡ 16909060999999000 ∷ 259 ∷ [])
  pub nano : (code_of (packet_check (0 ∷ 1 ∷ []) (packet second)) ≡ 0) × (packet_after (0 ∷ 1 ∷ []) (7 ∷ 8 ∷ []) (packet second) ≡ 16909060001000000 ∷ 259 ∷ [])
  pub nano_little : (code_of (packet_check (1 ∷ 1 ∷ []) (packet_little second_little)) ≡ 0)
      × (packet_after (1 ∷ 1 ∷ []) (7 ∷ 8 ∷ []) (packet_little second_little) ≡ 16909060001000000 ∷ 259 ∷ [])
  -- 1,000,000 microseconds, in either order; a unit that is none
  pub whole_second : (code_of (packet_check (0 ∷ 1000 ∷ []) (packet second)) ≡ 21) × (packet_after (0 ∷ 1000 ∷ []) (7 ∷ 8 ∷ []) (packet second) ≡ 7 ∷ 8 ∷ [])
  pub whole_second_little : (code_of (packet_check (1 ∷ 1000 ∷ []) (packet_little second_little)) ≡ 21)
      × (packet_after (1 ∷ 1000 ∷ []) (7 ∷ 8 ∷ []) (packet_little second_little) ≡ 7 ∷ 8 ∷ [])
  pub no_unit : (code_of (packet_check (0 ∷ 2 ∷ []) (packet last)) ≡ 21) × (packet_after (0 ∷ 2 ∷ []) (7 ∷ 8 ∷ []) (packet last) ≡ 7 ∷ 8 ∷ [])
  -- 258 octets stored of 259
  pub stored_short : code_of (packet_check (0 ∷ 1 ∷ []) (1 ∷ 2 ∷ 3 ∷ 4 ∷ last ++ 0 ∷ 0 ∷ 1 ∷ 2 ∷ 0 ∷ 0 ∷ 1 ∷ 3 ∷ [])) ≡ 21

pub packets : Packets
unfolding be low is_packet_head refuse
packets =
    record {
      micro = (refl, refl);
      nano = (refl, refl);
      nano_little = (refl, refl);
      whole_second = (refl, refl);
      whole_second_little = (refl, refl);
      no_unit = (refl, refl);
      stored_short = refl;
    }
