-- Putting one port's place after the other among the four best gives the places of the ranked list of all that the ports hear.
use Rattle.std.specs.Prelude.{Some, None, Ok}
use Prim.Native.Nat.{ℕ, zero, suc, ◌+◌, ◌≤◌, ◌<◌}
use mathlib.Core.Path.{◌≡◌, refl, sym, ap, subst, ◌∙◌}
use mathlib.Core.List.{List, [], ◌∷◌, ◌++◌, map, append-nil, append_assoc}
use mathlib.Core.Bool.{Bool, true, false, ◌||◌}
use native.Mathlib.Omega.{arith}
use native.Mathlib.Numerals.{add-one}
use lib.Dec.{eqb}
use lib.ListN.{length, get_or, take, drop, set, length-take, length-map, get_or-map, drop_of_length-le}
use lib.Seq.{drop-cons, get_or-take, length-take-le, take-length}
use borrow.Author.Tests.{eqb-false, ne_eqb}
use Rattle.rank.specs.declared.Candidate.{Candidate}
use Rattle.rank.specs.declared.Ranked.{Ranked}
use Rattle.rank.specs.Order.{earlier_of}
use Rattle.rank.specs.Best.{best, put, sink}
use Rattle.rank.specs.Ranked.{is_port, receiver_of, pack, holds_of}
use Rattle.rank.proofs.Best.{Good, Under, Away, cases, rank_step, rank_good, rank_swap}
use Rattle.rank.proofs.Order.{ordered}
use Rattle.rank.proofs.Merging.{R, defined}
use Rattle.senders.specs.Port.{tab, candidates_of, head_of, best_of}
use Rattle.slots.proofs.Cases.{Words64}
use Rattle.ports.specs.Words.{port_at}
use Rattle.ports.specs.Places.{place_on, port_by, candidate_at}
use Rattle.ports.proofs.Placing.{best_at, place_inside, place_port}
use Rattle.election.specs.declared.Top.{Top}
use Rattle.election.specs.Elected.{every_port, heard_on}
use Rattle.election.specs.Decisions.{list_at}
use Rattle.election.specs.Places.{top_of, rank_among, put_at, with_place, gather, places_at, listed_in, Each, Inside, Below, Joins, Held}
use Rattle.election.proofs.Bests.{One, one_best, best_counts}
use Rattle.election.proofs.Electing.{Ports, every_port_lem, port_in_lem, own_candidates, heard_valid}

-- ---- each of a list
module _ (P : ℕ → Type 0) where
  each_take : (n : ℕ) (l : List ℕ) → Each P l → Each P (take n l)
  each_take zero l h = tt
  each_take (suc n) [] h = tt
  each_take (suc n) (x ∷ l) h = (h.0, each_take n l h.1)

  each_among : (i a : ℕ) (l : List ℕ) → P a → Each P l → Each P (take i l ++ a ∷ drop i l)
  each_among zero a l ha h = (ha, h)
  each_among (suc i) a [] ha h = (ha, tt)
  each_among (suc i) a (x ∷ l) ha h = (h.0, each_among i a l ha h.1)

  pub each_put : (i a : ℕ) (l : List ℕ) → P a → Each P l → Each P (put_at i a l)
  each_put i a l ha h = each_take 4 (take i l ++ a ∷ drop i l) (each_among i a l ha h)

  pub each_at : (l : List ℕ) (i : ℕ) → Each P l → i < length l → P (get_or l i 0)
  each_at [] i h k = absurd (omega arith)
  each_at (x ∷ l) zero h k = h.0
  each_at (x ∷ l) (suc i) h k = each_at l i h.1 (omega arith)

  pub each_tab : (n : ℕ) (f : ℕ → ℕ) → ((i : ℕ) → i < n → P (f i)) → Each P (tab n f)
  unfolding tab
  each_tab zero f h = tt
  each_tab (suc n) f h = (h 0 (omega arith), each_tab n (λ i. f (suc i)) (λ i g. h (suc i) (omega arith)))

pub each_map : (P Q : ℕ → Type 0) (l : List ℕ) → ((a : ℕ) → P a → Q a) → Each P l → Each Q l
each_map P Q [] f h = tt
each_map P Q (x ∷ l) f h = (f x h.0, each_map P Q l f h.1)

-- the first n of some places, from i on: one and the rest
pub place_here : (n : ℕ) (xs : List ℕ) (i : ℕ) → i < n → n ≤ length xs → drop i (take n xs) ≡ get_or xs i 0 ∷ drop (i + 1) (take n xs)
place_here n xs i h k =
    rw (add-one i)
    (drop-cons (take n xs) i 0 (omega (arith, length-take n xs))
    ∙ ap (λ (z : ℕ). z ∷ drop (suc i) (take n xs)) (get_or-take n xs i 0 h))

pub none_here : (n : ℕ) (xs : List ℕ) (i : ℕ) → n ≤ i → drop i (take n xs) ≡ []
none_here n xs i h = drop_of_length-le (take n xs) {i = i} (omega (arith, length-take n xs))

pub each_here : (P : ℕ → Type 0) (n : ℕ) (xs : List ℕ) (i : ℕ) → Each P (take n xs) → i < n → n ≤ length xs → P (get_or xs i 0)
each_here P n xs i h k m =
    subst P (get_or-take n xs i 0 k) (each_at P (take n xs) i h (omega (arith, length-take n xs)))

-- ---- candidates laid over blank slots, one after the other
pub laid_on : (m bs : List Candidate) (i : ℕ) (x d : Candidate) → i < length m → length m ≤ length bs → x ≡ get_or m i d
    → set (take i m ++ drop i bs) i x ≡ take (suc i) m ++ drop (suc i) bs
laid_on [] bs i x d h k e = absurd (omega arith)
laid_on (y ∷ m) [] i x d h k e = absurd (omega arith)
laid_on (y ∷ m) (b ∷ bs) zero x d h k e = ap (λ (z : Candidate). z ∷ bs) e
laid_on (y ∷ m) (b ∷ bs) (suc i) x d h k e = ap (λ (l : List Candidate). y ∷ l) (laid_on m bs i x d (omega arith) (omega arith) e)

-- ---- going down a list that has no candidate of the port is being put in order
sink_first : (p : ℕ) (x : Candidate) (l : List Candidate) → Under earlier_of receiver_of x l → Good earlier_of receiver_of l → Away earlier_of receiver_of p l
    → sink earlier_of receiver_of p x l ≡ x ∷ l
sink_first p x [] u g a = refl
sink_first p x (y ∷ l) u g a = simp (u.0, a.0, sink_first p y l g.0 g.2 a.1)

sink_put : (p : ℕ) (x : Candidate) (l : List Candidate) → Good earlier_of receiver_of l → Away earlier_of receiver_of p l
    → sink earlier_of receiver_of p x l ≡ put earlier_of receiver_of x l
sink_put p x [] g a = refl
sink_put p x (y ∷ l) g a =
    cases (earlier_of x y)
    (λ h. simp (h, a.0, sink_first p y l g.0 g.2 a.1))
    (λ h. simp (h, a.0, sink_put p x l g.2 a.1))

map_take : (f : ℕ → Candidate) (n : ℕ) (l : List ℕ) → map f (take n l) ≡ take n (map f l)
map_take f zero l = refl
map_take f (suc n) [] = refl
map_take f (suc n) (x ∷ l) = ap (λ (m : List Candidate). f x ∷ m) (map_take f n l)

-- of a port's best, if it has one
head_none : (o : List Candidate) → head_of o ≡ Ok None → o ≡ []
head_none [] h = refl
head_none (x ∷ o) h = cc

head_one : (p : ℕ) (o : List Candidate) (c : Candidate) → One p o → head_of o ≡ Ok (Some c) → o ≡ c ∷ []
head_one p [] c i h = cc
head_one p (x ∷ []) c i h = let e : x ≡ c = cc in ap (λ (z : Candidate). z ∷ []) e
head_one p (x ∷ y ∷ o) c i h = absurd i

-- records of ports below p, and ports that rise from p on
abbrev pub Lower : ℕ → ℕ → Type 0
Lower p a = Inside a × (port_by a < p)

abbrev pub From : ℕ → List ℕ → Type 0
From p [] = Unit {0}
From p (q ∷ ps) = (p ≤ q) × From (suc q) ps

from_tab : (n p : ℕ) (f : ℕ → ℕ) → p ≤ f 0 → ((i : ℕ) → f i < f (suc i)) → From p (tab n f)
unfolding tab
from_tab zero p f h k = tt
from_tab (suc n) p f h k = (h, from_tab n (suc (f 0)) (λ i. f (suc i)) (k 0) (λ i. k (suc i)))

pub from_1 : From 1 every_port
from_1 = from_tab 18 1 suc (omega arith) (λ i. omega arith)

module _ (ws : List ℕ) where
  abbrev c : ℕ → Candidate
  c a = candidate_at ws a

  pub port_is : (a : ℕ) → (c a).port ≡ port_by a
  unfolding candidate_at
  port_is a = refl

  pub listed_holds : (p : ℕ) (l : List ℕ) → listed_in p l ≡ holds_of p (map c l)
  listed_holds p [] = refl
  listed_holds p (a ∷ l) =
      ap (λ (k : ℕ). eqb k p || listed_in p l) (sym (port_is a)) ∙ ap (λ (b : Bool). eqb (c a).port p || b) (listed_holds p l)

  among : (a : ℕ) (l : List ℕ) → map c (take (rank_among ws a l) l ++ a ∷ drop (rank_among ws a l) l) ≡ put earlier_of receiver_of (c a) (map c l)
  unfolding rank_among
  among a [] = refl
  among a (b ∷ l) =
      cases (earlier_of (c a) (c b))
      (λ h. rw h)
      (λ h. rw h (ap (λ (m : List Candidate). c b ∷ m) (among a l)))

  pub among_few : (a : ℕ) (l : List ℕ) → rank_among ws a l ≤ length l
  unfolding rank_among
  among_few a [] = omega arith
  among_few a (b ∷ l) =
      cases (earlier_of (c a) (c b))
      (λ h. rw h (omega arith))
      (λ h. let n = among_few a l in rw h (omega arith))

  module _ (xs : List ℕ) (size : length xs ≡ 4) (n : ℕ) (few : n ≤ 4) (i : ℕ) where
    used : length (map c (take n xs)) ≡ n
    used = length-map (take n xs) c ∙ length-take-le n xs (omega arith)

    pub laid_place : i < n → (x : Candidate) → x ≡ c (get_or xs i 0)
        → set (take i (map c (take n xs)) ++ drop i (pack []).slots) i x ≡ take (i + 1) (map c (take n xs)) ++ drop (i + 1) (pack []).slots
    laid_place h x e =
        let u = used in
        rw (add-one i)
        (laid_on (map c (take n xs)) (pack []).slots i x (c 0) (omega arith) (omega arith)
        (e ∙ ap c (sym (get_or-take n xs i 0 h)) ∙ sym (get_or-map c (take n xs) i 0)))

    pub laid_all : (slots : List Candidate) → i ≡ n → slots ≡ take i (map c (take n xs)) ++ drop i (pack []).slots
        → ◌≡◌ {A = Ranked} (record { len = n; slots = slots }) (pack (map c (take n xs)))
    laid_all slots h e =
        let m = map c (take n xs) in
        let q : i ≡ length m = h ∙ sym used in
        let f : slots ≡ m ++ drop (length m) (pack []).slots =
        e ∙ ap (λ (k : ℕ). take k m ++ drop k (pack []).slots) q ∙ ap (λ (l : List Candidate). l ++ drop (length m) (pack []).slots) (take-length m) in
        λ j. record { len = sym used j; slots = f j }

  pub rank_hit : (a b : ℕ) (l : List ℕ) → earlier_of (c a) (c b) ≡ true → rank_among ws a (b ∷ l) ≡ 0
  unfolding rank_among
  rank_hit a b l h = rw h

  pub rank_miss : (a b : ℕ) (l : List ℕ) → earlier_of (c a) (c b) ≡ false → rank_among ws a (b ∷ l) ≡ suc (rank_among ws a l)
  unfolding rank_among
  rank_miss a b l h = rw h

  pub rank_end : (a : ℕ) → rank_among ws a [] ≡ 0
  unfolding rank_among
  rank_end a = refl

  away : (a : ℕ) (l : List ℕ) → Each (Below a) l → Away earlier_of receiver_of (c a).port (map c l)
  away a [] h = tt
  away a (b ∷ l) h = (ne_eqb (c b).port (c a).port (λ e. let f = sym (port_is b) ∙ e ∙ port_is a in let k = h.0.1 in omega arith), away a l h.1)

  -- A PLACE PUT AMONG THOSE OF A RANKED LIST GIVES THOSE OF THE RANKED LIST WITH ITS CANDIDATE
  put_rank : (a : ℕ) (l : List ℕ) (s : List Candidate) → Each (Below a) l → map c l ≡ R s → map c (put_at (rank_among ws a l) a l) ≡ R (c a ∷ s)
  put_rank a l s h e =
      let g = rank_good earlier_of receiver_of ordered 4 s in
      let w : Away earlier_of receiver_of (c a).port (R s) = subst (Away earlier_of receiver_of (c a).port) e (away a l h) in
      map_take c 4 (take (rank_among ws a l) l ++ a ∷ drop (rank_among ws a l) l)
      ∙ ap (take 4) (among a l ∙ ap (put earlier_of receiver_of (c a)) e ∙ sym (sink_put (c a).port (c a) (R s) g w))
      ∙ sym (rank_step earlier_of receiver_of ordered 4 (c a) s)

  module _ (t : ℕ) where
    abbrev candidates : ℕ → List Candidate
    candidates p = candidates_of p (port_at ws p) t

    -- a port's place comes after those of the ports below
    pub below_place : (p : ℕ) → is_port p ≡ true → (l : List ℕ) → Each (Lower p) l → (place_on ws p t ≡ 0 → ⊥) → Each (Below (place_on ws p t)) l
    below_place p i l h n =
        let e = place_port p i ws t n in
        each_map (Lower p) (Below (place_on ws p t)) l (λ b k. (k.0, let m = k.1 in omega arith)) h

    -- so that it can join them
    pub joins : (p : ℕ) → is_port p ≡ true → (top : Top) (a : ℕ) → a ≡ place_on ws p t → top.len ≤ 4 → Each (Lower p) (top_of top)
        → Joins a top
    joins p i top a e few h =
        subst (λ (k : ℕ). Joins k top) (sym e)
        (record { inside = place_inside p i ws t; small = few; below = below_place p i (top_of top) h })

    pub gather_one : (l : List ℕ) (p : ℕ) (ps : List ℕ) → gather ws t l (p ∷ ps) ≡ gather ws t (with_place ws l (place_on ws p t)) ps
    unfolding gather
    gather_one l p ps = refl

    pub gather_end : (l : List ℕ) → gather ws t l [] ≡ l
    unfolding gather
    gather_end l = refl

    pub lower_with : (p : ℕ) → is_port p ≡ true → (l : List ℕ) → Each (Lower p) l → Each (Lower (suc p)) (with_place ws l (place_on ws p t))
    lower_with p i l h =
        let a = place_on ws p t in
        let w = each_map (Lower p) (Lower (suc p)) l (λ b k. (k.0, let m = k.1 in omega arith)) h in
        cases (eqb a 0)
        (λ e. rw e w)
        (λ e.
        let q = place_port p i ws t (eqb-false a 0 e) in
        rw e (each_put (Lower (suc p)) (rank_among ws a l) a l (place_inside p i ws t, omega arith) w))

    inside_with : (p : ℕ) → is_port p ≡ true → (l : List ℕ) → Each Inside l → Each Inside (with_place ws l (place_on ws p t))
    inside_with p i l h =
        let a = place_on ws p t in
        cases (eqb a 0) (λ e. rw e h) (λ e. rw e (each_put Inside (rank_among ws a l) a l (place_inside p i ws t) h))

    inside_all : (ps l : List ℕ) → Ports ps → Each Inside l → Each Inside (gather ws t l ps)
    unfolding gather
    inside_all [] l i h = h
    inside_all (p ∷ ps) l i h = inside_all ps (with_place ws l (place_on ws p t)) i.1 (inside_with p i.0 l h)

    -- the records of all that is gathered lie in the words
    pub gathered_inside : Each Inside (gather ws t [] every_port)
    gathered_inside = inside_all every_port [] every_port_lem tt

    pub held : (top : Top) → top_of top ≡ gather ws t [] every_port → top.len ≤ 4 → Held top
    held top e few = record { small = few; inside = subst (Each Inside) (sym e) gathered_inside }

    -- and so do those at every port's place
    pub places_inside : (l : List ℕ) → l ≡ places_at ws t → Each Inside l
    places_inside l e =
        let i : Each Inside (places_at ws t) =
        each_tab Inside 18 (λ k. place_on ws (suc k) t) (λ k h. place_inside (suc k) (port_in_lem (suc k) (omega arith) (omega arith)) ws t) in
        subst (Each Inside) (sym e) i

    module _ (words : Words64 ws) where
      -- one port more
      with_rank : (p : ℕ) (l : List ℕ) (s : List Candidate) → is_port p ≡ true → Each (Lower p) l → map c l ≡ R s
          → map c (with_place ws l (place_on ws p t)) ≡ R (s ++ candidates p)
      unfolding best_of
      with_rank p l s i h e =
          let a = place_on ws p t in
          let b = best earlier_of receiver_of p (candidates p) in
          let own = own_candidates p (port_at ws p) t in
          let found = best_at p i ws t words in
          let counts : R (b ++ s) ≡ R (s ++ candidates p) = sym (best_counts p (candidates p) s own) ∙ rank_swap earlier_of receiver_of ordered 4 (candidates p) s in
          cases (eqb a 0)
          (λ k.
          let n : head_of b ≡ Ok None = sym found ∙ rw k in
          rw k (e ∙ ap (λ (o : List Candidate). R (o ++ s)) (sym (head_none b n)) ∙ counts))
          (λ k.
          let n : head_of b ≡ Ok (Some (c a)) = sym found ∙ rw k in
          rw k
          (put_rank a l s (below_place p i l h (eqb-false a 0 k)) e
          ∙ ap (λ (o : List Candidate). R (o ++ s)) (sym (head_one p b (c a) (one_best p (candidates p) own) n))
          ∙ counts))

      gather_rank : (ps l : List ℕ) (s : List Candidate) (p : ℕ) → Ports ps → From p ps → Each (Lower p) l → map c l ≡ R s
          → map c (gather ws t l ps) ≡ R (s ++ heard_on ws t ps)
      unfolding gather heard_on
      gather_rank [] l s p i f h e = e ∙ ap R (sym (append-nil s))
      gather_rank (q ∷ ps) l s p i f h e =
          let k = f.0 in
          let g = each_map (Lower p) (Lower q) l (λ b m. (m.0, let n = m.1 in omega arith)) h in
          gather_rank ps (with_place ws l (place_on ws q t)) (s ++ candidates q) (suc q) i.1 f.1 (lower_with q i.0 l g) (with_rank q l s i.0 g e)
          ∙ ap R (append_assoc s (candidates q) (heard_on ws t ps))

      -- WHAT IS GATHERED IS THE RANKED LIST OF ALL CANDIDATES OF ALL PORTS
      pub gathered : map c (gather ws t [] every_port) ≡ list_at ws t
      gathered =
          gather_rank every_port [] [] 1 every_port_lem from_1 tt refl ∙ defined (heard_on ws t every_port) (heard_valid ws t every_port every_port_lem)
