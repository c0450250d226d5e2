-- Ignored means ignored: messages that differ only in reserved fields, controlField and padding get the same answers from
-- every call over the tail.
use Rattle.std.specs.Prelude.{Some, None, Ok, Err}
use Prim.Native.Nat.{ℕ, ◌+◌, ◌-◌}
use mathlib.Core.Path.{◌≡◌}
use mathlib.Core.List.{List, []}
use mathlib.Core.Bool.{not}
use lib.Dec.{eqb, ltb}
use lib.ListN.{length}
use Rattle.refusal.specs.Choice.{pick, refuse}
use Rattle.refusal.specs.declared.Refusal.TheVariants.{«Type»}
use Rattle.tlv.specs.Wr.{suffix_in, link_in}
use Rattle.tlv.specs.Walk.{data_at}
use Rattle.message.specs.Fields.{fixed_size}
use Rattle.contents.specs.Tlvs.{standing, next_in}
use Rattle.contents.specs.Parts.{first_of_type, tail_in, data_in, lookup_of, suffix_of, link_of}
use Rattle.message.specs.Ignored.{Alike}
use Rattle.message.proofs.Ignored.{type_same, headed_same, accepted_tail, by_same}

module _ (a b : List ℕ) (s : Alike a b) (magic : ℕ) where
  -- the same answers from the tail,
  pub tail_in_same : tail_in magic a ≡ tail_in magic b
  unfolding tail_in
  tail_in_same = by_same a b s magic (λ x. []) (accepted_tail a b s magic)

  -- looking up a TLV,
  pub data_same : (kind : ℕ) → data_in magic kind a ≡ data_in magic kind b
  unfolding data_in
  data_same kind = λ i. data_at (tail_in_same i) (first_of_type kind (tail_in_same i))

  pub lookup_same : (kind : ℕ) → lookup_of magic kind a ≡ lookup_of magic kind b
  unfolding lookup_of
  lookup_same kind =
      by_same a b s magic Err
      (λ e.
      let t = accepted_tail a b s magic e in
      λ i. pick (ltb (first_of_type kind (t i)) (length (t i))) (Ok (Some (fixed_size (type_same a b s i) + first_of_type kind (t i) + 4))) (Ok None))

  -- going through the TLVs,
  pub walk_same : (from : ℕ) → next_in magic from a ≡ next_in magic from b
  unfolding next_in
  walk_same from =
      λ i. pick (eqb from 0)
      (by_same a b s magic Err (λ e. let t = accepted_tail a b s magic e in λ j. standing magic (fixed_size (type_same a b s j)) (t j) 0) i)
      (headed_same a b s Err (λ listed t. λ j. standing magic (fixed_size (type_same a b s j)) (t j) (from - fixed_size (type_same a b s j))) i)

  -- the suffix,
  pub suffix_same : suffix_of magic a ≡ suffix_of magic b
  unfolding suffix_of
  suffix_same =
      by_same a b s magic Err
      (λ e.
      let t = accepted_tail a b s magic e in
      λ i. refuse (not (eqb (type_same a b s i) 0xB)) (Err «Type») (Ok (suffix_in magic (t i))))

  -- the link message,
  pub link_same : link_of magic a ≡ link_of magic b
  unfolding link_of
  link_same =
      by_same a b s magic Err
      (λ e.
      let t = accepted_tail a b s magic e in
      λ i. refuse (not (eqb (type_same a b s i) 0xC)) (Err «Type») (Ok (link_in magic (t i))))
