-- `set_interval` meets its contract: 8, 18, then the word of the port's own interval.
use mathlib.Core.Bool.{not}
use mathlib.Core.Path.{◌≡◌, ◌∙◌, ap, refl}
use mathlib.Core.List.{List}
use Prim.Native.Nat.{ℕ, ◌+◌, ◌-◌, ◌%◌}
use lib.ListN.{take, drop, set}
use mir.Syntax.{w8}
use mir.Val.{of_z}
use mir.ValLaws.{to_z-of_z}
use Rattle.slots.specs.Words.{splice}
use Rattle.slots.proofs.Laws.{back}
use Rattle.ports.specs.Interval.{is_interval, exponent_of}
use Rattle.ports.proofs.Laws.{lent_own, set_no_port, set_no_interval, set_done}
use Rattle.ports.proofs.interval.set_interval.Goals as goal

pub returns-then-not-is_port : goal.returns-then-not-is_port
returns-then-not-is_port c =
    let g = c.args in
    set_no_port g.words.now g.port _ (is_interval g.k) _ (exponent_of g.k) c.is_port.ensures refl (ap not c.if-not-is_port.true)

pub returns-then-not-is_interval : goal.returns-then-not-is_interval
returns-then-not-is_interval c =
    let g = c.args in
    set_no_interval g.words.now g.port _ _ _ (exponent_of g.k) c.is_port.ensures (c.is_interval.ensures ∙ ap is_interval (to_z-of_z w8 g.k c.ranges.k)) (ap not c.if-not-is_port.false)
    (ap not c.if-not-is_interval.true)

pub returns : goal.returns
returns c =
    let g = c.args in
    let b = c.start-b.result in
    let k = to_z-of_z w8 g.k c.ranges.k in
    let e : c.from.result ≡ exponent_of g.k = c.from.ensures ∙ ap (λ (n : ℕ). n % 8) (c.cast_unsigned.ensures ∙ ap (of_z w8) k) in
    let part : List ℕ = take (b + 98 - b) (drop b g.words.now) in
    let w =
    set_done g.words.now g.port _ _ _ (exponent_of g.k) c.is_port.ensures (c.is_interval.ensures ∙ ap is_interval k) c.set_exponent.new.ws _ (ap not c.if-not-is_port.false)
    (ap not c.if-not-is_interval.false)
    (lent_own g.words.now g.port b c.start-b.ensures.0) (c.set_exponent.ensures ∙ ap (set part 1) e) in
    (w.0, back g.words.now c.set_exponent.new.ws b 98 ∙ ap (λ (n : ℕ). splice g.words.now n 98 c.set_exponent.new.ws) c.start-b.ensures.0 ∙ w.1)
