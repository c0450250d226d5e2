-- Each number that the calls over the tail give is given exactly when the table says, with the 3 of those that take messages
-- of one type.
use Rattle.std.specs.Prelude.{Option, Some, None, Ok, Err}
use Prim.Native.Nat.{ℕ, ◌+◌}
use mathlib.Core.Path.{◌≡◌, refl, sym, subst, ◌∙◌}
use mathlib.Core.List.{List}
use mathlib.Core.Bool.{Bool, true, false}
use lib.Dec.{ltb}
use lib.ListN.{length}
use Rattle.refusal.specs.Choice.{pick}
use Rattle.refusal.specs.Refusal.{code_of}
use Rattle.tlv.specs.Wr.{suffix_in, link_in}
use Rattle.message.specs.Fields.{type_of, fixed_size, tail_of}
use Rattle.message.specs.Reading.{check_of}
use Rattle.contents.specs.Parts.{first_of_type, lookup_of, suffix_of, link_of}
use Rattle.message.specs.When.{When, TakesWhen}
use Rattle.contents.specs.Answers.{tlv_code, suffix_code, link_code}
use Rattle.message.proofs.Exactly.{told, when_told, by_code, takes_told, when_takes}
use Rattle.tlv.specs.declared.wr.LinkMessage.{LinkMessage}

module _ (magic : ℕ) (s : List ℕ) where
  -- looking up a TLV
  lookup_code : (kind : ℕ) → tlv_code (lookup_of magic kind s) ≡ code_of (check_of magic s)
  unfolding lookup_of
  lookup_code kind =
      let p = first_of_type kind (tail_of s) in
      by_code tlv_code Err (λ x. refl) (check_of magic s) _ (found_zero (ltb p (length (tail_of s))) (fixed_size (type_of s) + p + 4))
    where
      found_zero : (b : Bool) (n : ℕ) → tlv_code (pick b (Ok (Some n)) (Ok None)) ≡ 0
      found_zero true n = refl
      found_zero false n = refl

  pub lookup_told : (kind : ℕ) → When magic s (tlv_code (lookup_of magic kind s))
  lookup_told kind = subst (When magic s) (sym (lookup_code kind)) (told magic s)

  pub when_lookup : (kind : ℕ) {n : ℕ} → When magic s n → tlv_code (lookup_of magic kind s) ≡ n
  when_lookup kind w = lookup_code kind ∙ when_told magic s w

  -- the suffix: 3 where the message is no Announce
  suffix_zero : (x : Option ℕ) → suffix_code (Ok x) ≡ 0
  suffix_zero (Some n) = refl
  suffix_zero None = refl

  pub suffix_told : TakesWhen magic 0xB s (suffix_code (suffix_of magic s))
  unfolding suffix_of
  suffix_told = takes_told suffix_code Err (λ x. refl) magic 0xB s _ (suffix_zero (suffix_in magic (tail_of s)))

  pub when_suffix : {n : ℕ} → TakesWhen magic 0xB s n → suffix_code (suffix_of magic s) ≡ n
  unfolding suffix_of
  when_suffix w = when_takes suffix_code Err (λ x. refl) magic 0xB s _ (suffix_zero (suffix_in magic (tail_of s))) w

  -- the link message: 3 where the message is no Signaling
  link_zero : (x : Option LinkMessage) → link_code (Ok x) ≡ 0
  link_zero (Some m) = refl
  link_zero None = refl

  pub link_told : TakesWhen magic 0xC s (link_code (link_of magic s))
  unfolding link_of
  link_told = takes_told link_code Err (λ x. refl) magic 0xC s _ (link_zero (link_in magic (tail_of s)))

  pub when_link : {n : ℕ} → TakesWhen magic 0xC s n → link_code (link_of magic s) ≡ n
  unfolding link_of
  when_link w = when_takes link_code Err (λ x. refl) magic 0xC s _ (link_zero (link_in magic (tail_of s))) w
