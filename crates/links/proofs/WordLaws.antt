-- Links and settings in words: what is packed comes back, a call changes its own port's words alone, and zeroed words are fresh links.
use Prim.Native.Nat.{ℕ, ◌+◌, ◌*◌, ◌/◌, ◌%◌, ◌≤◌, ◌<◌}
use mathlib.Core.Path.{◌≡◌, refl, ap, ◌∙◌}
use mathlib.Core.Bool.{Bool, true, false, not}
use mathlib.Core.Logic.{◌≢◌}
use mathlib.Core.List.{List}
use native.Mathlib.Omega.{arith}
use native.Mathlib.Nat.{div-add-mod'}
use lib.ListN.{length, get_or, set, length-set}
use lib.Seq.{get_or-set_same, get_or-set_other}
pub use Rattle.refusal.proofs.Limits.{port_bounds as port-range}
use Rattle.refusal.specs.Choice.{refuse}
use lib.Dec.{eqb, ltb}
use borrow.Author.Tests.{le-ltb, ltb-true, ltb-false}
use Rattle.link.specs.declared.Role.{Role}
use Rattle.link.specs.declared.Role.TheVariants.{Slave, Master}
use Rattle.link.specs.declared.State.{State}
use Rattle.link.specs.declared.State.TheVariants.{Idle, Present, MLock, SLock, Locked, Calibration, Calibrated, RespCalibReq}
use Rattle.link.specs.declared.Link.{Link}
use Rattle.link.specs.declared.Settings.{Settings}
use Rattle.link.specs.declared.Event.{Event}
use Rattle.link.specs.States.{state_number, state_of}
use Rattle.link.specs.Machine.{fresh}
use Rattle.link.proofs.StepLaws.{number_back, at_most}
use Rattle.links.specs.Words.{role_number, role_of, bit, word_of, link_of, settings_word, settings_of, IsPort, base, link_at, settings_at, setting_words, step_at, take_words}

pub state_below : (state : State) → state_number state < 8
state_below Idle = omega arith
state_below Present = omega arith
state_below MLock = omega arith
state_below SLock = omega arith
state_below Locked = omega arith
state_below Calibration = omega arith
state_below Calibrated = omega arith
state_below RespCalibReq = omega arith

pub role_below : (role : Role) → role_number role < 2
role_below Slave = omega arith
role_below Master = omega arith

pub bit_below : (b : Bool) → bit b < 2
bit_below true = omega arith
bit_below false = omega arith

-- What is packed comes back.

bit_back : (b : Bool) → eqb (bit b) 1 ≡ b
bit_back true = refl
bit_back false = refl

role_back : (role : Role) → role_of (role_number role) ≡ role
role_back Slave = refl
role_back Master = refl

-- the parts of a link's word
module _ (l : Link) where
  in_word : word_of l ≡ state_number l.state + 8 * (role_number l.role + 2 * (bit l.mode + 2 * l.retries))
  unfolding word_of
  in_word = omega arith

  pub state_in : word_of l % 8 ≡ state_number l.state
  state_in = let s = state_below l.state in omega (arith, in_word)

  pub role_in : word_of l / 8 % 2 ≡ role_number l.role
  role_in =
      let s = state_below l.state in
      let r = role_below l.role in
      let q : word_of l / 8 ≡ role_number l.role + 2 * (bit l.mode + 2 * l.retries) = omega (arith, in_word) in
      rw q (omega arith)

  pub mode_in : word_of l / 16 % 2 ≡ bit l.mode
  mode_in =
      let s = state_below l.state in
      let r = role_below l.role in
      let m = bit_below l.mode in
      let q : word_of l / 16 ≡ bit l.mode + 2 * l.retries = omega (arith, in_word) in
      rw q (omega arith)

  pub count_in : word_of l / 32 ≡ l.retries
  count_in =
      let s = state_below l.state in
      let r = role_below l.role in
      let m = bit_below l.mode in
      omega (arith, in_word)

pub link_back : (l : Link) → l.retries < 256 → link_of (word_of l) ≡ l
unfolding link_of
link_back l h =
    let en : word_of l / 32 % 256 ≡ l.retries = rw (count_in l) (omega arith) in
    λ i.
    record {
      role = (ap role_of (role_in l) ∙ role_back l.role) i;
      state = (ap state_of (state_in l) ∙ number_back l.state) i;
      retries = en i;
      mode = (ap (λ (n : ℕ). eqb n 1) (mode_in l) ∙ bit_back l.mode) i;
    }

pub settings_back : (s : Settings) → s.config < 4 → s.retry < 256 → s.period < 4294967296 → settings_of (settings_word s) s.tx s.rx ≡ s
unfolding settings_of settings_word
settings_back s c r p =
    let m = bit_below s.calibrate in
    let q4 : settings_word s / 4 ≡ bit s.calibrate + 2 * s.retry + 512 * s.period = omega arith in
    let q8 : settings_word s / 8 ≡ s.retry + 256 * s.period = omega arith in
    let q2048 : settings_word s / 2048 ≡ s.period = omega arith in
    let ec : settings_word s % 4 ≡ s.config = omega (arith, div-add-mod' (settings_word s) 4) in
    let em : settings_word s / 4 % 2 ≡ bit s.calibrate = rw q4 (omega arith) in
    let er : settings_word s / 8 % 256 ≡ s.retry = rw q8 (omega arith) in
    let ep : settings_word s / 2048 % 4294967296 ≡ s.period = rw q2048 (omega arith) in
    λ i.
    record {
      config = ec i;
      calibrate = (ap (λ (n : ℕ). eqb n 1) em ∙ bit_back s.calibrate) i;
      retry = er i;
      period = ep i;
      tx = s.tx;
      rx = s.rx;
    }

-- zeroed words are fresh links
pub zero_is_fresh : link_of 0 ≡ fresh
unfolding link_of state_of
zero_is_fresh = refl

count_fits : (w : ℕ) → (link_of w).retries ≤ 255
unfolding link_of
count_fits w = omega arith

-- A call changes its own port's words alone: an event the link's word, a setting the settings' three.

module _ (ws : List ℕ) (port : ℕ) where
  unless_refused : (b : Bool) (vs : List ℕ) (k : ℕ) → get_or vs k 0 ≡ get_or ws k 0 → get_or (refuse b ws vs) k 0 ≡ get_or ws k 0
  unfolding refuse
  unless_refused true vs k h = refl
  unless_refused false vs k h = h

  pub take_elsewhere : (e : Event) (k : ℕ) → k ≢ base port → get_or (take_words ws port e) k 0 ≡ get_or ws k 0
  unfolding take_words
  take_elsewhere e k h =
      let w = word_of (step_at ws port e).link in
      unless_refused (not (IsPort port)) (set ws (base port) w) k (get_or-set_other ws (base port) k w 0 h)

  pub set_elsewhere : (s : Settings) (k : ℕ) → k ≢ base port + 1 → k ≢ base port + 2 → k ≢ base port + 3 → get_or (setting_words ws port s) k 0 ≡ get_or ws k 0
  unfolding setting_words
  set_elsewhere s k h1 h2 h3 =
      let w1 = set ws (base port + 1) (settings_word s) in
      let w2 = set w1 (base port + 2) s.tx in
      let w3 = set w2 (base port + 3) s.rx in
      unless_refused (not (IsPort port)) (refuse (ltb 3 s.config) ws w3) k
      (unless_refused (ltb 3 s.config) w3 k
      (get_or-set_other w2 (base port + 3) k s.rx 0 h3
      ∙ get_or-set_other w1 (base port + 2) k s.tx 0 h2
      ∙ get_or-set_other ws (base port + 1) k (settings_word s) 0 h1))

  -- an event leaves the port's settings, a setting leaves its link
  pub take_leaves_settings : (e : Event) → settings_at (take_words ws port e) port ≡ settings_at ws port
  take_leaves_settings e =
      rw (take_elsewhere e (base port + 1) (λ q. omega arith), take_elsewhere e (base port + 2) (λ q. omega arith), take_elsewhere e (base port + 3) (λ q. omega arith))

  pub set_leaves_link : (s : Settings) → link_at (setting_words ws port s) port ≡ link_at ws port
  set_leaves_link s = rw (set_elsewhere s (base port) (λ q. omega arith) (λ q. omega arith) (λ q. omega arith))

  module _ (full : length ws ≡ 72) (known : IsPort port ≡ true) where
    in_words : (j : ℕ) → j < 4 → base port + j < 72
    in_words j h = let r = port-range port known in omega arith

    -- the port's link is the one that the step answers
    pub take_kept : (e : Event) → link_at (take_words ws port e) port ≡ (step_at ws port e).link
    unfolding take_words refuse
    take_kept e =
        rw (known, get_or-set_same ws (base port) (word_of (step_at ws port e).link) 0 (omega (arith, in_words 0 (omega arith))))
        (link_back (step_at ws port e).link
        (omega (arith, at_most (settings_at ws port) (link_at ws port) e 255 (omega arith) (count_fits (get_or ws (base port) 0)))))

    -- the port's settings are those that were set
    pub set_kept : (s : Settings) → s.config ≤ 3 → s.retry < 256 → s.period < 4294967296 → settings_at (setting_words ws port s) port ≡ s
    unfolding setting_words refuse
    set_kept s c r p =
        let w1 = set ws (base port + 1) (settings_word s) in
        let w2 = set w1 (base port + 2) s.tx in
        let e1 : get_or (set w2 (base port + 3) s.rx) (base port + 1) 0 ≡ settings_word s =
        get_or-set_other w2 (base port + 3) (base port + 1) s.rx 0 (λ q. omega arith)
        ∙ get_or-set_other w1 (base port + 2) (base port + 1) s.tx 0 (λ q. omega arith)
        ∙ get_or-set_same ws (base port + 1) (settings_word s) 0 (omega (arith, in_words 1 (omega arith))) in
        let e2 : get_or (set w2 (base port + 3) s.rx) (base port + 2) 0 ≡ s.tx =
        get_or-set_other w2 (base port + 3) (base port + 2) s.rx 0 (λ q. omega arith)
        ∙ get_or-set_same w1 (base port + 2) s.tx 0 (simp length-set (omega (arith, in_words 2 (omega arith)))) in
        let e3 : get_or (set w2 (base port + 3) s.rx) (base port + 3) 0 ≡ s.rx =
        get_or-set_same w2 (base port + 3) s.rx 0 (simp length-set (omega (arith, in_words 3 (omega arith)))) in
        rw (known, le-ltb 3 s.config c, e1, e2, e3) (settings_back s (omega arith) r p)

-- so that other ports' words stay as they are
module _ (p q : ℕ) (one : 1 ≤ p) (other : 1 ≤ q) (apart : q ≢ p) where
  by_order : (i j : ℕ) → i < 4 → j < 4 → (b : Bool) → ltb q p ≡ b → base q + j ≢ base p + i
  by_order i j hi hj true o same = let h = ltb-true q p o in omega arith
  by_order i j hi hj false o same = let h = ltb-false q p o in apart (omega arith)

  other_place : (i j : ℕ) → i < 4 → j < 4 → base q + j ≢ base p + i
  other_place i j hi hj = by_order i j hi hj (ltb q p) refl

  pub take_leaves_others : (ws : List ℕ) (e : Event) (j : ℕ) → j < 4 → get_or (take_words ws p e) (base q + j) 0 ≡ get_or ws (base q + j) 0
  take_leaves_others ws e j h = take_elsewhere ws p e (base q + j) (λ same. other_place 0 j (omega arith) h (omega arith))

  pub set_leaves_others : (ws : List ℕ) (s : Settings) (j : ℕ) → j < 4 → get_or (setting_words ws p s) (base q + j) 0 ≡ get_or ws (base q + j) 0
  set_leaves_others ws s j h =
      set_elsewhere ws p s (base q + j)
      (other_place 1 j (omega arith) h)
      (other_place 2 j (omega arith) h)
      (other_place 3 j (omega arith) h)
