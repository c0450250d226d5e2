-- `answer` meets its contract: a word past 18 names no port, and any other is the port; the number of what `take` answers.
use mathlib.Core.Path.{◌∙◌, ap}
use Rattle.refusal.specs.Refusal.{code_of}
use Rattle.bursts.proofs.Named.{take_no_port}
use Rattle.bursts.proofs.answer.Goals as goal

pub returns-then-port-clause-answer : goal.returns-then-port-clause-answer
returns-then-port-clause-answer c =
    let g = c.args in
    let k = take_no_port g.set g.words.now g.port g.t g.s.now c.if-port.true in
    c.code.ensures ∙ ap code_of k.0

pub returns-then-port-clause-words : goal.returns-then-port-clause-words
returns-then-port-clause-words c =
    let g = c.args in
    let k = take_no_port g.set g.words.now g.port g.t g.s.now c.if-port.true in
    k.1
