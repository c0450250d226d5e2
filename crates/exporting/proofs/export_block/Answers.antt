-- `export_block` meets its contract: a block that is not sound, or cannot be written, leaves all as it was; else its packets are put and the words go on.
use Rattle.std.specs.Prelude.{Some, None}
use Rattle.std.proofs.lemmas.Result.{err_from_is_err_and}
use Rattle.refusal.specs.declared.Refusal.TheVariants.{Export}
use Prim.Native.Nat.{ℕ}
use mathlib.Core.Path.{◌≡◌, sym, ap, ◌∙◌}
use mathlib.Core.Bool.{true}
use native.Mathlib.Omega.{arith}
use Rattle.block.specs.Layout.{entries_of}
use Rattle.judging.specs.Tests.{is_laid}
use Rattle.playback.specs.Playback.{is_sound, reader_of}
use Rattle.playback.proofs.Blocks.{sound_laid}
use Rattle.exporting.specs.Exporting.{weight_of, port_behind}
use Rattle.exporting.proofs.Packets.{block_packets}
use Rattle.exporting.proofs.Writable.{weighs_none}
use Rattle.exporting.proofs.Exported.{not_accepted, block_unwritable, block_refused, block_done}
use Rattle.exporting.proofs.export_block.Goals as goal

pub returns-in_err-after : goal.returns-in_err-after
returns-in_err-after c =
    let a = c.args in
    let e = err_from_is_err_and c.from_residual.result c.from_residual.ensures.1 in
    let p = block_refused a.words.now a.s.now a.out.now (not_accepted a.words.now a.s.now (ap is_sound (sym c.judge.ensures ∙ c.in_err-after.was))) in
    record { answer = rw (e.1, e.2) p.0; words = p.1.0; octets = p.1.1 }

pub port_behind-port-requires : goal.port_behind-port-requires
port_behind-port-requires c =
    let a = c.args in
    (sound_laid (reader_of a.words.now) a.s.now c.in_ok-after.after (sym c.judge.ensures ∙ c.in_ok-after.was)).0

pub weigh-requires : goal.weigh-requires
weigh-requires c =
    let a = c.args in
    (sound_laid (reader_of a.words.now) a.s.now c.in_ok-after.after (sym c.judge.ensures ∙ c.in_ok-after.was)).0

pub returns-in_err-n : goal.returns-in_err-n
returns-in_err-n c =
    let a = c.args in
    let es = entries_of a.s.now in
    let none : c.weigh.result ≡ None = grind arith in
    let f = weighs_none (port_behind a.words.now es) es (ap (λ (q : ℕ). weight_of q es) (sym c.port_behind-port.ensures) ∙ sym c.weigh.ensures ∙ none) in
    let p = block_refused a.words.now a.s.now a.out.now (block_unwritable a.words.now a.s.now (ap is_sound (sym c.judge.ensures ∙ c.in_ok-after.was)) f) in
    let e = err_from_is_err_and c.from_residual-in_err-n.result c.from_residual-in_err-n.ensures.1 in
    let x : c.in_err-n.field-0.0 ≡ Export = grind arith in
    record { answer = rw (e.1, e.2, x) p.0; words = p.1.0; octets = p.1.1 }

-- its packets have a place in 1351 octets
pub put_records-requires : goal.put_records-requires
put_records-requires c =
    let a = c.args in
    let is : is_laid a.s.now ≡ true = (sound_laid (reader_of a.words.now) a.s.now c.in_ok-after.after (sym c.judge.ensures ∙ c.in_ok-after.was)).0 in
    (is, omega (arith, block_packets a.s.now is))

pub returns : goal.returns
returns c =
    let a = c.args in
    let some : c.weigh.result ≡ Some c.in_ok-n.n = grind arith in
    let p = block_done a.words.now a.s.now a.out.now c.in_ok-after.after c.port_behind-port.result c.in_ok-n.n c.put_records.new.out (sym c.judge.ensures ∙ c.in_ok-after.was) c.port_behind-port.ensures (sym c.weigh.ensures ∙ some) c.put_records.ensures.octets in
    record { answer = p.0; words = p.1.0; octets = p.1.1 }
