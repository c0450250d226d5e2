-- The theory of ranked lists, over any strict total order and any port.
use Prim.Native.Nat.{ℕ, zero, suc, ◌≤◌, ◌<◌}
use native.Mathlib.Omega.{arith}
use native.Mathlib.Decide.{dec_le}
use mathlib.Core.Path.{◌≡◌, refl, sym, ap, ap₂, ◌∙◌, subst}
use mathlib.Core.List.Memᴰ
use mathlib.Core.List.{List, [], ◌∷◌, ◌++◌, append-nil, Memᴰ}
use mathlib.Core.Bool.{Bool, true, false}
use mathlib.Core.Logic.{◌⊎◌, ⊎_elim}
use lib.Dec.{eqb}
use lib.ListN.{length, take, get_or}
use lib.Seq.{take-length}
use borrow.Author.Tests.{eqb-true, eqb-false, eq-eqb, ne_eqb}
pub use Rattle.laws.proofs.Bools.{cases}
use Rattle.laws.proofs.Bools.{clash}
use Rattle.refusal.specs.Choice.{pick}
use Rattle.rank.specs.Best.{better, best, bests, put, sort, sink, insert}

-- a strict total order
pub record Strict {A : Type 0} (lt : A → A → Bool) : Type 0 where
  pub asym : (x y : A) → lt x y ≡ true → lt y x ≡ false
  pub trans : (x y z : A) → lt x y ≡ true → lt y z ≡ true → lt x z ≡ true
  pub tri : (x y : A) → lt x y ≡ false → lt y x ≡ false → x ≡ y

pub either : {A B G : Type 0} → A ⊎ B → (A → G) → (B → G) → G
either w f g = ⊎_elim f g w

eqb_sym : (a b : ℕ) → eqb a b ≡ false → eqb b a ≡ false
eqb_sym a b e = ne_eqb b a (λ q. eqb-false a b e (sym q))

abbrev pub All : {A : Type 0} → (A → Type 0) → List A → Type 0
All P [] = Unit {0}
All P (x ∷ xs) = P x × All P xs

all_take : {A : Type 0} (P : A → Type 0) (n : ℕ) (l : List A) → All P l → All P (take n l)
all_take P zero l h = tt
all_take P (suc n) [] h = tt
all_take P (suc n) (x ∷ xs) h = (h.0, all_take P n xs h.1)

take_twice : {A : Type 0} (n : ℕ) (l : List A) → take n (take n l) ≡ take n l
take_twice zero l = refl
take_twice (suc n) [] = refl
take_twice (suc n) (x ∷ xs) = ap (x ∷◌) (take_twice n xs)

module _ {A : Type 0} (lt : A → A → Bool) (port : A → ℕ) where
  abbrev pub Under : A → List A → Type 0
  Under x l = All (λ y. lt x y ≡ true) l

  abbrev pub Away : ℕ → List A → Type 0
  Away p l = All (λ y. eqb (port y) p ≡ false) l

  -- in rank order, and no port twice
  abbrev pub Good : List A → Type 0
  Good [] = Unit {0}
  Good (x ∷ xs) = Under x xs × Away (port x) xs × Good xs

  abbrev pub find : ℕ → List A → List A
  find p [] = []
  find p (y ∷ ys) = pick (eqb (port y) p) (y ∷ []) (find p ys)

  abbrev pub del : ℕ → List A → List A
  del p [] = []
  del p (y ∷ ys) = pick (eqb (port y) p) ys (y ∷ del p ys)

  abbrev pub into : List A → List A → List A
  into l [] = l
  into l (x ∷ xs) = sink lt port (port x) x (into l xs)

  -- every element, however many
  abbrev pub full : List A → List A
  full s = into [] s

  -- cutting: no order is needed
  cut : (n p : ℕ) (x : A) (l : List A) → take n (sink lt port p x (take n l)) ≡ take n (sink lt port p x l)
  cut zero p x l = refl
  cut (suc n) p x [] = refl
  cut (suc n) p x (y ∷ ys) =
      cases (lt x y)
      (λ e. cases (eqb (port y) p) (λ f. simp (e, f) (ap (x ∷◌) (take_twice n ys))) (λ f. simp (e, f) (ap (x ∷◌) (cut n p y ys))))
      (λ e. cases (eqb (port y) p) (λ f. simp (e, f) (ap (y ∷◌) (take_twice n ys))) (λ f. simp (e, f) (ap (y ∷◌) (cut n p x ys))))

  cut_into : (n : ℕ) (l s : List A) → take n (into (take n l) s) ≡ take n (into l s)
  cut_into n l [] = take_twice n l
  cut_into n l (x ∷ xs) =
      sym (cut n (port x) x (into (take n l) xs)) ∙ rw (cut_into n l xs) (cut n (port x) x (into l xs))

  into_full : (s t : List A) → into (full t) s ≡ full (s ++ t)
  into_full [] t = refl
  into_full (x ∷ xs) t = ap (sink lt port (port x) x) (into_full xs t)

  -- a list never gets shorter
  pub grows : (p : ℕ) (x : A) (l : List A) → length l ≤ length (sink lt port p x l)
  grows p x [] = omega arith
  grows p x (y ∷ ys) =
      cases (lt x y)
      (λ e. cases (eqb (port y) p) (λ f. simp (e, f) (omega arith)) (λ f. simp (e, f) (omega (arith, grows p y ys))))
      (λ e. cases (eqb (port y) p) (λ f. simp (e, f) (omega arith)) (λ f. simp (e, f) (omega (arith, grows p x ys))))

  -- what holds of the parts holds of the whole
  all_sink : (P : A → Type 0) (p : ℕ) (x : A) (l : List A) → P x → All P l → All P (sink lt port p x l)
  all_sink P p x [] hx h = (hx, tt)
  all_sink P p x (y ∷ ys) hx h =
      cases (lt x y)
      (λ e. cases (eqb (port y) p) (λ f. simp (e, f) (hx, h.1)) (λ f. simp (e, f) (hx, all_sink P p y ys h.0 h.1)))
      (λ e. cases (eqb (port y) p) (λ f. simp (e, f) (h.0, h.1)) (λ f. simp (e, f) (h.0, all_sink P p x ys hx h.1)))

  all_full : (P : A → Type 0) (s : List A) → All P s → All P (full s)
  all_full P [] h = tt
  all_full P (x ∷ xs) h = all_sink P (port x) x (full xs) h.0 (all_full P xs h.1)

  all_del : (P : A → Type 0) (p : ℕ) (l : List A) → All P l → All P (del p l)
  all_del P p [] h = tt
  all_del P p (y ∷ ys) h = cases (eqb (port y) p) (λ f. simp f h.1) (λ f. simp f (h.0, all_del P p ys h.1))

  all_find : (P : A → Type 0) (p : ℕ) (l : List A) → All P l → All P (find p l)
  all_find P p [] h = tt
  all_find P p (y ∷ ys) h = cases (eqb (port y) p) (λ f. simp f (h.0, tt)) (λ f. simp f (all_find P p ys h.1))

  -- deleting
  del_away : (p : ℕ) (l : List A) → Away p l → del p l ≡ l
  del_away p [] h = refl
  del_away p (y ∷ ys) h = simp (h.0, del_away p ys h.1)

  find_away : (p : ℕ) (l : List A) → Away p l → find p l ≡ []
  find_away p [] h = refl
  find_away p (y ∷ ys) h = simp (h.0, find_away p ys h.1)

  find_del : (p q : ℕ) (l : List A) → eqb p q ≡ false → find q (del p l) ≡ find q l
  find_del p q [] e = refl
  find_del p q (y ∷ ys) e =
      cases (eqb (port y) p)
      (λ f. simp (f, ap (λ (k : ℕ). eqb k q) (eqb-true (port y) p f), e))
      (λ f. simp (f, find_del p q ys e))

  good_del : (p : ℕ) (l : List A) → Good l → Good (del p l) × Away p (del p l)
  good_del p [] g = (tt, tt)
  good_del p (y ∷ ys) g =
      cases (eqb (port y) p)
      (λ f. simp f (g.2, rw (eqb-true (port y) p f) at g.1))
      (λ f. let r = good_del p ys g.2 in simp f ((all_del _ p ys g.0, all_del _ p ys g.1, r.0), (refl, r.1)))

  good_take : (n : ℕ) (l : List A) → Good l → Good (take n l)
  good_take zero l g = tt
  good_take (suc n) [] g = tt
  good_take (suc n) (x ∷ xs) g = (all_take _ n xs g.0, all_take _ n xs g.1, good_take n xs g.2)

  -- an element that comes before all goes to the front, and those after it move down to the place that it left
  sink_under : (p : ℕ) (x : A) (l : List A) → Under x l → Good l → sink lt port p x l ≡ x ∷ del p l
  sink_under p x [] u g = refl
  sink_under p x (y ∷ ys) u g = simp (u.0, sink_under p y ys g.0 g.2)

  pub good_self : (l : List A) → Good l → full l ≡ l
  good_self [] g = refl
  good_self (x ∷ xs) g =
      rw (good_self xs g.2, sink_under (port x) x xs g.0 g.2, del_away (port x) xs g.1)

  module _ (ord : Strict lt) where
    pub under_trans : (x y : A) (l : List A) → lt x y ≡ true → Under y l → Under x l
    under_trans x y [] e u = tt
    under_trans x y (z ∷ zs) e u = (ord.trans x y z e u.0, under_trans x y zs e u.1)

    -- an element that does not come before the last comes before none, and goes to the end or nowhere
    late : (x d : A) (l : List A) (k : ℕ) → Good l → length l ≡ suc k → lt x (get_or l k d) ≡ false → All (λ y. lt x y ≡ false) l
    late x d [] k g n h = absurd (omega arith)
    late x d (y ∷ []) zero g n h = (h, tt)
    late x d (y ∷ []) (suc k) g n h = absurd (omega arith)
    late x d (y ∷ z ∷ zs) zero g n h = absurd (omega arith)
    late x d (y ∷ z ∷ zs) (suc k) g n h =
        let r = late x d (z ∷ zs) k g.2 (omega arith) h in
        (cases (lt x y) (λ e. clash (ord.trans x y z e g.0.0) r.0) (λ e. e), r)

    sink_late : (p : ℕ) (x : A) (l : List A) → All (λ y. lt x y ≡ false) l → take (length l) (sink lt port p x l) ≡ l
    sink_late p x [] a = refl
    sink_late p x (y ∷ ys) a =
        cases (eqb (port y) p)
        (λ f. simp (a.0, f) (ap (y ∷◌) (take-length ys)))
        (λ f. simp (a.0, f) (ap (y ∷◌) (sink_late p x ys a.1)))

    pub insert_late : (n : ℕ) (x d : A) (l : List A) → Good l → length l ≡ suc n → lt x (get_or l n d) ≡ false → insert lt port (suc n) x l ≡ l
    insert_late n x d l g e h =
        subst (λ (k : ℕ). take k (sink lt port (port x) x l) ≡ l) e (sink_late (port x) x l (late x d l n g e h))

    good_sink : (x : A) (l : List A) → Good l → Good (sink lt port (port x) x l)
    good_sink x [] g = (tt, tt, tt)
    good_sink x (y ∷ ys) g =
        cases (lt x y)
        (λ e.
        let u : Under x (y ∷ ys) = (e, under_trans x y ys e g.0) in
        let d = good_del (port x) (y ∷ ys) g in
        rw (sink_under (port x) x (y ∷ ys) u g) (all_del _ (port x) (y ∷ ys) u, d.1, d.0))
        (λ e.
        cases (eqb (port y) (port x))
        (λ f. simp (e, f) g)
        (λ f.
        let yx : lt y x ≡ true =
        cases (lt y x) (λ k. k) (λ k. absurd (eqb-false (port y) (port x) f (ap port (ord.tri y x k e))))
        in
        simp (e, f)
        (all_sink _ (port x) x ys yx g.0, all_sink _ (port x) x ys (eqb_sym (port y) (port x) f) g.1, good_sink x ys g.2)))

    -- what an element does to the best of port q
    abbrev upd : ℕ → A → List A → List A
    upd q x o = pick (eqb (port x) q) (better lt port x o) o

    better_under : (x : A) (l : List A) → Under x l → better lt port x l ≡ x ∷ []
    better_under x [] u = refl
    better_under x (y ∷ ys) u = simp u.0

    find_sink : (q : ℕ) (x : A) (l : List A) → Good l → find q (sink lt port (port x) x l) ≡ upd q x (find q l)
    find_sink q x [] g = refl
    find_sink q x (y ∷ ys) g =
        cases (lt x y)
        (λ e.
        let u : Under x (y ∷ ys) = (e, under_trans x y ys e g.0) in
        rw (sink_under (port x) x (y ∷ ys) u g)
        (cases (eqb (port x) q)
        (λ f. simp f (sym (better_under x (find q (y ∷ ys)) (all_find _ q (y ∷ ys) u))))
        (λ f. simp f (find_del (port x) q (y ∷ ys) f))))
        (λ e.
        cases (eqb (port y) (port x))
        (λ f.
        let h : port y ≡ port x = eqb-true (port y) (port x) f in
        cases (eqb (port x) q)
        (λ k. let k' : eqb (port y) q ≡ true = ap (λ (n : ℕ). eqb n q) h ∙ k in simp (e, f, k, k'))
        (λ k. let k' : eqb (port y) q ≡ false = ap (λ (n : ℕ). eqb n q) h ∙ k in simp (e, f, k, k')))
        (λ f.
        cases (eqb (port y) q)
        (λ k.
        let k' : eqb (port x) q ≡ false =
        ne_eqb (port x) q (λ m. eqb-false (port y) (port x) f (eqb-true (port y) q k ∙ sym m))
        in
        simp (e, f, k, k'))
        (λ k. simp (e, f, k) (find_sink q x ys g.2))))

    -- two good lists with the same element at every port are the same
    find_self : (x : A) (xs : List A) → find (port x) (x ∷ xs) ≡ x ∷ []
    find_self x xs = simp (eq-eqb (port x) (port x) refl)

    later_head : (x y : A) (xs ys : List A) → Good (y ∷ ys) → find (port x) (x ∷ xs) ≡ find (port x) (y ∷ ys)
        → eqb (port y) (port x) ≡ false → lt y x ≡ true
    later_head x y xs ys g h f =
        let e : x ∷ [] ≡ find (port x) ys = sym (find_self x xs) ∙ h ∙ simp f in
        (subst (Under y) (sym e) (all_find _ (port x) ys g.0)).0

    heads : (x y : A) (xs ys : List A) → Good (x ∷ xs) → Good (y ∷ ys)
        → ((q : ℕ) → find q (x ∷ xs) ≡ find q (y ∷ ys)) → x ≡ y
    heads x y xs ys gx gy h =
        cases (eqb (port y) (port x))
        (λ f. let e : x ∷ [] ≡ y ∷ [] = sym (find_self x xs) ∙ h (port x) ∙ simp f in cc)
        (λ f.
        clash (later_head x y xs ys gy (h (port x)) f)
        (ord.asym x y (later_head y x ys xs gx (sym (h (port y))) (eqb_sym (port y) (port x) f))))

    ext : (l m : List A) → Good l → Good m → ((q : ℕ) → find q l ≡ find q m) → l ≡ m
    ext [] [] gl gm h = refl
    ext [] (y ∷ ys) gl gm h = let e : [] ≡ y ∷ [] = h (port y) ∙ find_self y ys in cc
    ext (x ∷ xs) [] gl gm h = let e : x ∷ [] ≡ [] = sym (find_self x xs) ∙ h (port x) in cc
    ext (x ∷ xs) (y ∷ ys) gl gm h =
        let e = heads x y xs ys gl gm h in
        ap₂ ◌∷◌ e
        (ext xs ys gl.2 gm.2
        (λ q.
        cases (eqb (port x) q)
        (λ f.
        let k : port x ≡ q = eqb-true (port x) q f in
        find_away q xs (rw k at gl.1) ∙ sym (find_away q ys (rw (ap port (sym e) ∙ k) at gm.1)))
        (λ f. let f' : eqb (port y) q ≡ false = ap (λ (z : A). eqb (port z) q) (sym e) ∙ f in simp (f, f') at (h q))))

    -- the order of insertion does not matter
    better_swap : (x y : A) → better lt port x (y ∷ []) ≡ better lt port y (x ∷ [])
    better_swap x y =
        cases (lt x y)
        (λ e. simp (e, ord.asym x y e))
        (λ e. cases (lt y x) (λ f. simp (e, f)) (λ f. simp (e, f) (ap (λ (z : A). z ∷ []) (sym (ord.tri x y e f)))))

    better_comm : (x y : A) (o : List A) → better lt port x (better lt port y o) ≡ better lt port y (better lt port x o)
    better_comm x y [] = better_swap x y
    better_comm x y (z ∷ zs) =
        cases (lt x z)
        (λ e.
        cases (lt y z)
        (λ f. simp (e, f) (better_swap x y))
        (λ f. let k : lt y x ≡ false = cases (lt y x) (λ k. clash (ord.trans y x z k e) f) (λ k. k) in simp (e, f, k)))
        (λ e.
        cases (lt y z)
        (λ f. let k : lt x y ≡ false = cases (lt x y) (λ k. clash (ord.trans x y z k f) e) (λ k. k) in simp (e, f, k))
        (λ f. simp (e, f)))

    upd_comm : (q : ℕ) (x y : A) (o : List A) → upd q x (upd q y o) ≡ upd q y (upd q x o)
    upd_comm q x y o =
        cases (eqb (port x) q)
        (λ e. cases (eqb (port y) q) (λ f. simp (e, f) (better_comm x y o)) (λ f. simp (e, f)))
        (λ e. cases (eqb (port y) q) (λ f. simp (e, f)) (λ f. simp (e, f)))

    sink_comm : (x y : A) (l : List A) → Good l
        → sink lt port (port x) x (sink lt port (port y) y l) ≡ sink lt port (port y) y (sink lt port (port x) x l)
    sink_comm x y l g =
        let lx = sink lt port (port x) x l in
        let ly = sink lt port (port y) y l in
        let gx : Good lx = good_sink x l g in
        let gy : Good ly = good_sink y l g in
        ext (sink lt port (port x) x ly) (sink lt port (port y) y lx) (good_sink x ly gy) (good_sink y lx gx)
        (λ q.
        find_sink q x ly gy
        ∙ ap (upd q x) (find_sink q y l g)
        ∙ upd_comm q x y (find q l)
        ∙ sym (find_sink q y lx gx ∙ ap (upd q y) (find_sink q x l g)))

    good_full : (s : List A) → Good (full s)
    good_full [] = tt
    good_full (x ∷ xs) = good_sink x (full xs) (good_full xs)

    full_middle : (s : List A) (x : A) (t : List A) → full (s ++ x ∷ t) ≡ full (x ∷ s ++ t)
    full_middle [] x t = refl
    full_middle (y ∷ ys) x t =
        ap (sink lt port (port y) y) (full_middle ys x t) ∙ sink_comm y x (full (ys ++ t)) (good_full (ys ++ t))

    full_swap : (s t : List A) → full (s ++ t) ≡ full (t ++ s)
    full_swap [] t = ap full (sym (append-nil t))
    full_swap (x ∷ xs) t = ap (sink lt port (port x) x) (full_swap xs t) ∙ sym (full_middle t x xs)

    -- THE LAWS of the ranked list of a collection, cut after n
    abbrev pub rank : ℕ → List A → List A
    rank n s = take n (full s)

    pub rank_good : (n : ℕ) (s : List A) → Good (rank n s)
    rank_good n s = good_take n (full s) (good_full s)

    pub rank_all : (n : ℕ) (P : A → Type 0) (s : List A) → All P s → All P (rank n s)
    rank_all n P s h = all_take P n (full s) (all_full P s h)

    pub rank_step : (n : ℕ) (x : A) (s : List A) → rank n (x ∷ s) ≡ insert lt port n x (rank n s)
    rank_step n x s = sym (cut n (port x) x (full s))

    pub rank_swap : (n : ℕ) (s t : List A) → rank n (s ++ t) ≡ rank n (t ++ s)
    rank_swap n s t = ap (take n) (full_swap s t)

    pub rank_middle : (n : ℕ) (s : List A) (x : A) (t : List A) → rank n (s ++ x ∷ t) ≡ rank n (x ∷ s ++ t)
    rank_middle n s x t = ap (take n) (full_middle s x t)

    -- the later part of a collection may be ranked first
    rank_right : (n : ℕ) (s t : List A) → rank n (s ++ rank n t) ≡ rank n (s ++ t)
    rank_right n s t =
        ap (take n) (sym (into_full s (rank n t)) ∙ ap (λ (l : List A). into l s) (good_self (rank n t) (rank_good n t)))
        ∙ cut_into n (full t) s
        ∙ ap (take n) (into_full s t)

    pub rank_merge : (n : ℕ) (s t : List A) → rank n (rank n s ++ rank n t) ≡ rank n (s ++ t)
    rank_merge n s t = rank_right n (rank n s) t ∙ rank_swap n (rank n s) t ∙ rank_right n t s ∙ rank_swap n t s

    -- ranking a collection twice over changes nothing
    better_self : (x : A) → better lt port x (x ∷ []) ≡ x ∷ []
    better_self x = cases (lt x x) (λ e. simp e) (λ e. simp e)

    better_twice : (x : A) (o : List A) → better lt port x (better lt port x o) ≡ better lt port x o
    better_twice x [] = better_self x
    better_twice x (z ∷ zs) = cases (lt x z) (λ e. simp e (better_self x)) (λ e. simp e)

    sink_twice : (x : A) (l : List A) → Good l
        → sink lt port (port x) x (sink lt port (port x) x l) ≡ sink lt port (port x) x l
    sink_twice x l g =
        let lx = sink lt port (port x) x l in
        let gx : Good lx = good_sink x l g in
        ext (sink lt port (port x) x lx) lx (good_sink x lx gx) gx
        (λ q.
        cases (eqb (port x) q)
        (λ e. rw (find_sink q x lx gx, find_sink q x l g) (simp e (better_twice x (find q l))))
        (λ e. rw (find_sink q x lx gx, find_sink q x l g) (simp e)))

    full_twice : (s : List A) → full (s ++ s) ≡ full s
    full_twice [] = refl
    full_twice (x ∷ xs) =
        ap (sink lt port (port x) x) (full_middle xs x xs)
        ∙ sink_twice x (full (xs ++ xs)) (good_full (xs ++ xs))
        ∙ ap (sink lt port (port x) x) (full_twice xs)

    pub rank_twice : (n : ℕ) (s : List A) → rank n (s ++ s) ≡ rank n s
    rank_twice n s = ap (take n) (full_twice s)

    -- the definition of `specs/`: the sorted list of the best of each port
    find_full : (q : ℕ) (s : List A) → find q (full s) ≡ best lt port q s
    find_full q [] = refl
    find_full q (x ∷ xs) = find_sink q x (full xs) (good_full xs) ∙ ap (upd q x) (find_full q xs)

    -- neither the order of a collection nor repeats in it matter: only what is in it
    full_in : (x : A) (s : List A) → Memᴰ x s → full (x ∷ s) ≡ full s
    full_in x [] m = absurd (Memᴰ.not-nil m)
    full_in x (y ∷ ys) m =
        either (Memᴰ.cases_cons m)
        (λ e. rw e (sink_twice y (full ys) (good_full ys)))
        (λ k. sink_comm x y (full ys) (good_full ys) ∙ ap (sink lt port (port y) y) (full_in x ys k))

    full_within : (s t : List A) → ((x : A) → Memᴰ x s → Memᴰ x t) → full (s ++ t) ≡ full t
    full_within [] t h = refl
    full_within (x ∷ xs) t h =
        full_in x (xs ++ t) (Memᴰ.append_right xs (h x (Memᴰ.head refl)))
        ∙ full_within xs t (λ y m. h y (Memᴰ.tail m))

    full_same : (s t : List A) → ((x : A) → Memᴰ x s → Memᴰ x t) → ((x : A) → Memᴰ x t → Memᴰ x s) → full s ≡ full t
    full_same s t h k = sym (full_within t s k) ∙ full_swap t s ∙ full_within s t h

    pub bests_same : (n : ℕ) (s t : List A) → ((x : A) → Memᴰ x s → Memᴰ x t) → ((x : A) → Memᴰ x t → Memᴰ x s)
        → bests lt port n s ≡ bests lt port n t
    bests_same zero s t h k = refl
    bests_same (suc n) s t h k =
        ap₂ ◌++◌ (sym (find_full (suc n) s) ∙ ap (find (suc n)) (full_same s t h k) ∙ find_full (suc n) t) (bests_same n s t h k)

    -- a list of none, or of one of port p
    abbrev One : ℕ → List A → Type 0
    One p [] = Unit {0}
    One p (x ∷ []) = port x ≡ p
    One p (x ∷ y ∷ l) = ⊥

    one_better : (p : ℕ) (x : A) (o : List A) → port x ≡ p → One p o → One p (better lt port x o)
    one_better p x [] e h = e
    one_better p x (z ∷ []) e h = cases (lt x z) (λ k. simp k e) (λ k. simp k h)
    one_better p x (z ∷ y ∷ l) e h = absurd h

    one_best : (p : ℕ) (s : List A) → One p (best lt port p s)
    one_best p [] = tt
    one_best p (x ∷ xs) =
        cases (eqb (port x) p)
        (λ e. simp e (one_better p x (best lt port p xs) (eqb-true (port x) p e) (one_best p xs)))
        (λ e. simp e (one_best p xs))

    best_away : (p : ℕ) (s : List A) → Away p s → best lt port p s ≡ []
    best_away p [] h = refl
    best_away p (x ∷ xs) h = simp (h.0, best_away p xs h.1)

    abbrev Distinct : List A → Type 0
    Distinct [] = Unit {0}
    Distinct (x ∷ xs) = Away (port x) xs × Distinct xs

    distinct_join : (p : ℕ) (b m : List A) → One p b → Away p m → Distinct m → Distinct (b ++ m)
    distinct_join p [] m h a d = d
    distinct_join p (x ∷ []) m h a d = (rw h a, d)
    distinct_join p (x ∷ y ∷ l) m h a d = absurd h

    all_join : (P : A → Type 0) (p : ℕ) (b m : List A) → One p b → ((x : A) → port x ≡ p → P x) → All P m → All P (b ++ m)
    all_join P p [] m h f a = a
    all_join P p (x ∷ []) m h f a = (f x h, a)
    all_join P p (x ∷ y ∷ l) m h f a = absurd h

    best_join : (p q : ℕ) (b m : List A) → One p b → eqb p q ≡ false → best lt port q (b ++ m) ≡ best lt port q m
    best_join p q [] m h e = refl
    best_join p q (x ∷ []) m h e = simp (h, e)
    best_join p q (x ∷ y ∷ l) m h e = absurd h

    best_join_self : (p : ℕ) (b m : List A) → One p b → Away p m → best lt port p (b ++ m) ≡ b
    best_join_self p [] m h a = best_away p m a
    best_join_self p (x ∷ []) m h a = simp (best_away p m a, eq-eqb (port x) p h)
    best_join_self p (x ∷ y ∷ l) m h a = absurd h

    away_bests : (n p : ℕ) (s : List A) → n < p → Away p (bests lt port n s)
    away_bests zero p s h = tt
    away_bests (suc n) p s h =
        all_join _ (suc n) (best lt port (suc n) s) (bests lt port n s) (one_best (suc n) s)
        (λ x e. ne_eqb (port x) p (λ k. omega arith))
        (away_bests n p s (omega arith))

    distinct_bests : (n : ℕ) (s : List A) → Distinct (bests lt port n s)
    distinct_bests zero s = tt
    distinct_bests (suc n) s =
        distinct_join (suc n) (best lt port (suc n) s) (bests lt port n s) (one_best (suc n) s)
        (away_bests n (suc n) s (omega arith))
        (distinct_bests n s)

    best_bests : (n q : ℕ) (s : List A) → 0 < q → q ≤ n → best lt port q (bests lt port n s) ≡ best lt port q s
    best_bests zero q s h k = absurd (omega arith)
    best_bests (suc n) q s h k =
        cases (eqb (suc n) q)
        (λ e.
        subst
        (λ (m : ℕ). best lt port m (bests lt port (suc n) s) ≡ best lt port m s)
        (eqb-true (suc n) q e)
        (best_join_self (suc n) (best lt port (suc n) s) (bests lt port n s) (one_best (suc n) s) (away_bests n (suc n) s (omega arith))))
        (λ e.
        best_join (suc n) q (best lt port (suc n) s) (bests lt port n s) (one_best (suc n) s) e
        ∙ best_bests n q s h (let ne = eqb-false (suc n) q e in omega arith))

    -- without a port in common, going down a sorted list is plain insertion
    put_sink : (x : A) (l : List A) → Good l → Away (port x) l → put lt port x l ≡ sink lt port (port x) x l
    put_sink x [] g a = refl
    put_sink x (y ∷ ys) g a =
        cases (lt x y)
        (λ e. simp (e, a.0) (ap (x ∷◌) (sym (sink_under (port x) y ys g.0 g.2 ∙ ap (y ∷◌) (del_away (port x) ys a.1)))))
        (λ e. simp (e, a.0) (ap (y ∷◌) (put_sink x ys g.2 a.1)))

    sort_full : (s : List A) → Distinct s → sort lt port s ≡ full s
    sort_full [] d = refl
    sort_full (x ∷ xs) d =
        ap (put lt port x) (sort_full xs d.1) ∙ put_sink x (full xs) (good_full xs) (all_full _ xs d.0)

    -- a collection of valid elements
    abbrev pub Valid : ℕ → List A → Type 0
    Valid n s = All (λ x. (0 < port x) × (port x ≤ n)) s

    away_valid : (n q : ℕ) (s : List A) → Valid n s → (0 < q → q ≤ n → ⊥) → Away q s
    away_valid n q [] v h = tt
    away_valid n q (x ∷ xs) v h = (
      ne_eqb (port x) q (λ e. h (subst (λ (m : ℕ). 0 < m) e v.0.0) (subst (λ (m : ℕ). m ≤ n) e v.0.1)),
      away_valid n q xs v.1 h,
    )

    valid_bests : (n m : ℕ) (s : List A) → m ≤ n → Valid n (bests lt port m s)
    valid_bests n zero s h = tt
    valid_bests n (suc m) s h =
        all_join _ (suc m) (best lt port (suc m) s) (bests lt port m s) (one_best (suc m) s)
        (λ x e. (omega arith, omega arith))
        (valid_bests n m s (omega arith))

    best_valid : (n q : ℕ) (s : List A) → Valid n s → best lt port q (bests lt port n s) ≡ best lt port q s
    best_valid n q s v = go (dec_le 1 q) (dec_le q n)
      where
        out : (0 < q → q ≤ n → ⊥) → best lt port q (bests lt port n s) ≡ best lt port q s
        out h =
            best_away q (bests lt port n s) (away_valid n q (bests lt port n s) (valid_bests n n s (omega arith)) h)
            ∙ sym (best_away q s (away_valid n q s v h))

        go : Dec (1 ≤ q) → Dec (q ≤ n) → best lt port q (bests lt port n s) ≡ best lt port q s
        go (yes a) (yes b) = best_bests n q s a b
        go (yes a) (no b) = out (λ h k. b k)
        go (no a) (yes b) = out (λ h k. a h)
        go (no a) (no b) = out (λ h k. a h)

    pub rank_sorts : (n k : ℕ) (s : List A) → Valid n s → rank k s ≡ take k (sort lt port (bests lt port n s))
    rank_sorts n k s v =
        ap (take k)
        (sym
        (sort_full (bests lt port n s) (distinct_bests n s)
        ∙ ext (full (bests lt port n s)) (full s) (good_full (bests lt port n s)) (good_full s)
        (λ q. find_full q (bests lt port n s) ∙ best_valid n q s v ∙ sym (find_full q s))))
