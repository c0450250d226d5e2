-- `replay` meets its contract: a trace that is refused leaves the words, else they are cleared and all messages taken.
use Prim.Native.Nat.{ℕ}
use mathlib.Core.Path.{sym, ap, ◌∙◌}
use mathlib.Core.List.{List}
use Rattle.ports.specs.History.{run}
use Rattle.playback.specs.Playback.{calls_of, blocks_in, entries_of_all}
use Rattle.playback.proofs.Live.{until_accepted, accepted_words, refused_trace}
use Rattle.playback.proofs.replay.Goals as goal

pub take_trace-requires : goal.take_trace-requires
take_trace-requires c =
    until_accepted c.args.trace.now c.in_ok-t.t (sym c.judged.ensures ∙ c.in_ok-t.was)

pub returns-in_err-t-clause-words : goal.returns-in_err-t-clause-words
returns-in_err-t-clause-words c =
    let a = c.args in
    sym (refused_trace a.set a.words.now a.trace.now _ (sym c.judged.ensures ∙ c.in_err-t.was))

pub returns-clause-words : goal.returns-clause-words
returns-clause-words c =
    let a = c.args in
    c.take_trace.ensures
    ∙ ap (λ (ws : List ℕ). run ws (calls_of a.set (entries_of_all (blocks_in a.trace.now)))) c.clear.ensures
    ∙ sym (accepted_words a.set a.words.now a.trace.now (until_accepted a.trace.now c.in_ok-t.t (sym c.judged.ensures ∙ c.in_ok-t.was)))
