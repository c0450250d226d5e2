-- The round trip, from octets to a message and back: what reading accepts, writing accepts too, and it leaves the octets
-- that were read, but for the reserved fields and controlField.
use Rattle.std.specs.Prelude.{Ok, Err}
use Prim.Native.Nat.{ℕ, ◌+◌, ◌*◌, ◌-◌, ◌/◌, ◌^◌, ◌≤◌}
use mathlib.Core.Path.{◌≡◌, refl, sym, ap, ◌∙◌}
use mathlib.Core.List.{List, [], ◌∷◌, ◌++◌}
use mathlib.Core.Bool.{Bool, true, false}
use native.Mathlib.Omega.{arith}
use native.Mathlib.Nat.{le_trans}
use borrow.Author.Tests.{lt-ltb, le-ltb, eqb-true, leb-false}
use lib.Dec.{eqb, ltb, leb}
use lib.ListN.{length, take, drop, get_or, set, take-append-drop}
use lib.Seq.{drop-drop, take_at}
use mir.Syntax.{w8, w16, w64}
use mir.Val.{to_z, of_z}
use mir.ValLaws.{of_z-to_z}
use Rattle.refusal.specs.Choice.{pick, refuse}
use Rattle.refusal.proofs.Choice.{goes_on}
use Rattle.refusal.specs.declared.Refusal.TheVariants.{Room}
use Rattle.octets.specs.Be.{be, octets_of}
use Rattle.octets.proofs.Laws.{Octets, be_bound}
use Rattle.stores.proofs.Spread.{spread, octets_back, spread_all}
use Rattle.message.specs.Fields.{type_of, length_of, fixed_size, identity_at, stamp_of, header_of, announce_of, body_of, tail_of, message_of}
use Rattle.message.specs.Reading.{check_of}
use Rattle.message.specs.declared.fields.Body.{Body}
use Rattle.message.specs.declared.fields.Body.TheVariants as body
use Rattle.message.proofs.Laws.{Accepted, accepted, bounded, tail_length}
use Rattle.layout.specs.Layout.{kind_of, control_of, size_of, identity_octets, stamp_octets, lead_octets, close_octets, announce_octets, header_octets, body_octets, message_octets}
use Rattle.writer.specs.Writing.{stamp_fits, body_fits, write_check, write_of, buffer_of}
use Rattle.roundtrip.specs.RoundTrip.{cleared_header, cleared}
use Rattle.layout.proofs.Buffer.{append_rest, message_length}

module _ (s : List ℕ) (o : Octets s) where
  identity_octets_lem : (at : ℕ) (rest : List ℕ) → identity_octets (identity_at s at) rest ≡ spread 8 s at (spread 2 s (at + 8) rest)
  unfolding identity_octets identity_at
  identity_octets_lem at rest = λ i. octets_back 8 s at (octets_back 2 s (at + 8) rest o i) o i

  stamp_octets_lem : (rest : List ℕ) → stamp_octets (stamp_of s) rest ≡ spread 10 s 34 rest
  unfolding stamp_octets stamp_of
  stamp_octets_lem rest = λ i. octets_back 6 s 34 (octets_back 4 s 40 rest o i) o i

  -- an Announce's, with octet 46 zero
  announce_octets_lem : (rest : List ℕ) → announce_octets (announce_of s) rest ≡ set (spread 20 s 44 rest) 2 0
  unfolding announce_octets announce_of
  announce_octets_lem rest =
      let u : of_z w16 (to_z w16 (be 2 s 44)) ≡ be 2 s 44 = of_z-to_z w16 (be 2 s 44) (record { fits = be_bound 2 s 44 o }) in
      (λ i. octets_of 2 (u i) (0 ∷ get_or s 47 0 ∷ get_or s 48 0 ∷ get_or s 49 0 ∷ octets_of 2 (be 2 s 50) (get_or s 52 0 ∷ octets_of 8 (be 8 s 53) (octets_of 2 (be 2 s 61) (get_or s 63 0 ∷ rest)))))
      ∙ (λ i. octets_back 2 s 44 (0 ∷ get_or s 47 0 ∷ get_or s 48 0 ∷ get_or s 49 0 ∷ octets_back 2 s 50 (get_or s 52 0 ∷ octets_back 8 s 53 (octets_back 2 s 61 (get_or s 63 0 ∷ rest) o i) o i) o i) o i)

  -- the header, with its reserved fields and controlField as they are written
  header_octets_lem : (b : Body) (rest : List ℕ) → kind_of b ≡ type_of s
      → header_octets (header_of s) b (length_of s) rest ≡ cleared_header (control_of b) (spread 34 s 0 rest)
  unfolding header_of lead_octets close_octets
  header_octets_lem b rest k =
      let c : of_z w64 (to_z w64 (be 8 s 8)) ≡ be 8 s 8 = of_z-to_z w64 (be 8 s 8) (record { fits = be_bound 8 s 8 o }) in
      let l : of_z w8 (to_z w8 (get_or s 33 0)) ≡ get_or s 33 0 = of_z-to_z w8 (get_or s 33 0) (record { fits = o 33 }) in
      let t : get_or s 0 0 / 16 * 16 + kind_of b ≡ get_or s 0 0 = omega arith in
      (λ i. t i ∷ 2 ∷ octets_of 2 (be 2 s 2) (get_or s 4 0 ∷ 0 ∷ octets_of 2 (be 2 s 6) (octets_of 8 (c i) (octets_of 4 0 (identity_octets (identity_at s 20) (octets_of 2 (be 2 s 30) (control_of b ∷ l i ∷ rest)))))))
      ∙ (λ i. get_or s 0 0 ∷ 2 ∷ octets_back 2 s 2 (get_or s 4 0 ∷ 0 ∷ octets_back 2 s 6 (octets_back 8 s 8 (octets_of 4 0 (identity_octets_lem 20 (octets_back 2 s 30 (control_of b ∷ get_or s 33 0 ∷ rest) o i) i)) o i) o i) o i)

  -- a timestamp that was accepted fits its field
  stamp_fits_lem : leb 1000000000 (be 4 s 40) ≡ false → stamp_fits (stamp_of s) ≡ true
  unfolding stamp_fits stamp_of
  stamp_fits_lem e = rw (lt-ltb (be 6 s 34) (2 ^ 48) (be_bound 6 s 34 o), lt-ltb (be 4 s 40) 1000000000 (leb-false _ _ e))

-- the type is one of the six
data Listed (k : ℕ) : Type 0 where
  sync : k ≡ 0x0 → Listed k
  delay_req : k ≡ 0x1 → Listed k
  follow_up : k ≡ 0x8 → Listed k
  delay_resp : k ≡ 0x9 → Listed k
  announce : k ≡ 0xB → Listed k
  signaling : k ≡ 0xC → Listed k

listed : (k : ℕ) → (fixed_size k ≡ 0 → ⊥) → Listed k
unfolding fixed_size
listed k = by (eqb k 0x0) (eqb k 0x1) (eqb k 0x8) (eqb k 0x9) (eqb k 0xB) (eqb k 0xC) refl refl refl refl refl refl
  where
    by : (a b c d e f : Bool) → eqb k 0x0 ≡ a → eqb k 0x1 ≡ b → eqb k 0x8 ≡ c → eqb k 0x9 ≡ d → eqb k 0xB ≡ e → eqb k 0xC ≡ f
        → (◌≡◌ {A = ℕ} (pick a 44 (pick b 44 (pick c 44 (pick d 54 (pick e 64 (pick f 44 0)))))) 0 → ⊥) → Listed k
    by true b c d e f ea eb ec ed ee ef h = sync (eqb-true k 0x0 ea)
    by false true c d e f ea eb ec ed ee ef h = delay_req (eqb-true k 0x1 eb)
    by false false true d e f ea eb ec ed ee ef h = follow_up (eqb-true k 0x8 ec)
    by false false false true e f ea eb ec ed ee ef h = delay_resp (eqb-true k 0x9 ed)
    by false false false false true f ea eb ec ed ee ef h = announce (eqb-true k 0xB ee)
    by false false false false false true ea eb ec ed ee ef h = signaling (eqb-true k 0xC ef)
    by false false false false false false ea eb ec ed ee ef h = absurd (h refl)

-- what was read, by its type, and written again
record Told (s : List ℕ) (b : Body) : Type 0 where
  body : body_of s ≡ b
  kind : kind_of b ≡ type_of s
  fits : body_fits b ≡ true
  clear : header_octets (header_of s) b (length_of s) (body_octets b (drop (size_of b) s)) ≡ cleared s

module _ (s : List ℕ) (o : Octets s) where
  -- all but an Announce
  plain : (b : Body) (z : ℕ) → body_of s ≡ b → kind_of b ≡ type_of s → eqb (kind_of b) 0xB ≡ false → z ≤ length s
      → ((rest : List ℕ) → spread 34 s 0 (body_octets b rest) ≡ spread z s 0 rest)
      → header_octets (header_of s) b (length_of s) (body_octets b (drop z s)) ≡ cleared s
  plain b z eb k a h e =
      header_octets_lem s o b (body_octets b (drop z s)) k
      ∙ ap (cleared_header (control_of b)) (e (drop z s) ∙ spread_all z s h)
      ∙ rw (eb, ← k, a)

  -- an Announce
  marked : 64 ≤ length s → type_of s ≡ 0xB
      → header_octets (header_of s) (body.Announce (announce_of s)) (length_of s) (stamp_octets (stamp_of s) (announce_octets (announce_of s) (drop 64 s))) ≡ cleared s
  unfolding body_of
  marked h k =
      let b = body.Announce (announce_of s) in
      let rest = drop 64 s in
      header_octets_lem s o b (stamp_octets (stamp_of s) (announce_octets (announce_of s) rest)) (sym k)
      ∙ (λ i. cleared_header 5 (spread 34 s 0 (stamp_octets_lem s o (announce_octets_lem s o rest i) i)))
      ∙ ap (λ (l : List ℕ). set (cleared_header 5 l) 46 0) (spread_all 64 s h)
      ∙ rw k

  told : (magic : ℕ) → Accepted magic s → Listed (type_of s) → (b : Body) × Told s b
  unfolding body_of fixed_size announce_of
  told magic c (sync k) =
      let b = body.Sync (stamp_of s) in
      let h : 44 ≤ length s = rw k at (le_trans c.least c.lent) in (
        b,
        record {
          body = rw k;
          kind = sym k;
          fits = stamp_fits_lem s o (rw k at c.stamp);
          clear = plain b 44 (rw k) (sym k) refl h (λ rest. ap (spread 34 s 0) (stamp_octets_lem s o rest));
        },
      )
  told magic c (delay_req k) =
      let b = body.DelayReq (stamp_of s) in
      let h : 44 ≤ length s = rw k at (le_trans c.least c.lent) in (
        b,
        record {
          body = rw k;
          kind = sym k;
          fits = stamp_fits_lem s o (rw k at c.stamp);
          clear = plain b 44 (rw k) (sym k) refl h (λ rest. ap (spread 34 s 0) (stamp_octets_lem s o rest));
        },
      )
  told magic c (follow_up k) =
      let b = body.FollowUp (stamp_of s) in
      let h : 44 ≤ length s = rw k at (le_trans c.least c.lent) in (
        b,
        record {
          body = rw k;
          kind = sym k;
          fits = stamp_fits_lem s o (rw k at c.stamp);
          clear = plain b 44 (rw k) (sym k) refl h (λ rest. ap (spread 34 s 0) (stamp_octets_lem s o rest));
        },
      )
  told magic c (delay_resp k) =
      let b = body.DelayResp (record { receive = stamp_of s; requester = identity_at s 44 }) in
      let h : 54 ≤ length s = rw k at (le_trans c.least c.lent) in (
        b,
        record {
          body = rw k;
          kind = sym k;
          fits = stamp_fits_lem s o (rw k at c.stamp);
          clear = plain b 54 (rw k) (sym k) refl h (λ rest. ap (spread 34 s 0) (stamp_octets_lem s o (identity_octets (identity_at s 44) rest) ∙ ap (spread 10 s 34) (identity_octets_lem s o 44 rest)));
        },
      )
  told magic c (announce k) =
      let b = body.Announce (announce_of s) in
      let h : 64 ≤ length s = rw k at (le_trans c.least c.lent) in (
        b,
        record {
          body = rw k;
          kind = sym k;
          fits = stamp_fits_lem s o (rw k at c.stamp);
          clear = marked h k;
        },
      )
  told magic c (signaling k) =
      let b = body.Signaling (identity_at s 34) in
      let h : 44 ≤ length s = rw k at (le_trans c.least c.lent) in (
        b,
        record {
          body = rw k;
          kind = sym k;
          fits = refl;
          clear = plain b 44 (rw k) (sym k) refl h (λ rest. ap (spread 34 s 0) (identity_octets_lem s o 34 rest));
        },
      )

module _ (magic : ℕ) (s : List ℕ) (o : Octets s) (e : check_of magic s ≡ Ok tt) where
  abbrev t : List ℕ
  t = tail_of s

  read_told : (b : Body) × Told s b
  read_told = let a = accepted magic s e in told s o magic a (listed (type_of s) a.listed)

  -- the type and so the size are those that were read
  kind_same : kind_of (body_of s) ≡ type_of s
  kind_same = let r = read_told.1 in rw r.body r.kind

  size_same : size_of (body_of s) + length t ≡ length_of s
  size_same =
      let b = bounded magic s e in
      rw kind_same (omega (arith, b.least, tail_length s b))

  -- the tail and what stands behind it
  tail_rest : t ++ drop (length_of s) s ≡ drop (size_of (body_of s)) s
  tail_rest =
      let z = fixed_size (type_of s) in
      let b = bounded magic s e in
      let k : z + (length_of s - z) ≡ length_of s = omega (arith, b.least) in
      rw kind_same
      (ap (λ (l : List ℕ). t ++ l) (sym (drop-drop (length_of s - z) z s ∙ ap (λ (n : ℕ). drop n s) k))
      ∙ take-append-drop (length_of s - z) (drop z s))

  -- the message that was read, its tail, and what stood behind it: the octets as they were, but for the reserved fields
  -- and controlField
  pub octets_again : message_octets (message_of s) t (drop (length_of s) s) ≡ cleared s
  unfolding message_octets
  octets_again =
      let r = read_told.1 in
      rw (size_same, tail_rest)
      ((λ i. header_octets (header_of s) (r.body i) (length_of s) (body_octets (r.body i) (drop (size_of (r.body i)) s))) ∙ r.clear)

  -- writing takes what was read
  pub taken_again : (room : ℕ) → write_check magic (message_of s) t room ≡ refuse (ltb room (length_of s)) (Err Room) (Ok tt)
  unfolding write_check header_of
  taken_again room =
      let a = accepted magic s e in
      let r = read_told.1 in
      rw (size_same, r.body, r.fits, a.tail, lt-ltb (get_or s 0 0 / 16) 16 (omega (arith, o 0)), le-ltb 65535 (length_of s) (omega (arith, be_bound 2 s 2 o)))
      (goes_on _ _ _ refl ∙ goes_on _ _ _ refl ∙ goes_on _ _ _ refl ∙ goes_on _ _ _ refl)

  -- written over themselves, the octets stay, but for the reserved fields and controlField
  pub rewritten : buffer_of magic (message_of s) t s ≡ cleared s
  unfolding buffer_of
  rewritten =
      let b = bounded magic s e in
      let d : write_check magic (message_of s) t (length s) ≡ Ok tt =
      taken_again (length s) ∙ goes_on _ _ _ (le-ltb (length s) (length_of s) b.lent) in
      rw (d, size_same) octets_again

  -- written into any buffer that has room, they are the same up to messageLength
  pub written_again : (out : List ℕ) → length_of s ≤ length out
      → (write_of magic (message_of s) t out ≡ Ok (length_of s))
      × (buffer_of magic (message_of s) t out ≡ take (length_of s) (cleared s) ++ drop (length_of s) out)
  unfolding write_of buffer_of
  written_again out h =
      let d : write_check magic (message_of s) t (length out) ≡ Ok tt =
      taken_again (length out) ∙ goes_on _ _ _ (le-ltb (length out) (length_of s) h) in
      let m = message_of s in
      let n : length (message_octets m t []) ≡ length_of s = message_length m t ∙ size_same in
      let front : take (length_of s) (cleared s) ≡ message_octets m t [] =
      rw (← octets_again, ← append_rest m t (drop (length_of s) s)) (take_at (message_octets m t []) (drop (length_of s) s) (length_of s) n) in
      (rw (d, size_same), rw (d, size_same, front) (sym (append_rest m t (drop (length_of s) out))))
