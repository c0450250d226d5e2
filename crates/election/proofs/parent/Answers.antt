-- `parent` meets its contract: a list that is not ranked is refused; else the lead says whether Ebest is followed.
use mathlib.Core.Path.{◌≡◌, sym, ap, ◌∙◌}
use mathlib.Core.Bool.{true}
use mathlib.Core.Logic.{inl, inr}
use Rattle.refusal.specs.Choice.{refuse}
use Rattle.rank.specs.declared.Grandmaster.{Grandmaster}
use Rattle.rank.specs.declared.Ranked.{Ranked}
use Rattle.rank.specs.Ranked.{unpack, is_ranked}
use Rattle.decide.specs.declared.Lead.{Lead}
use Rattle.decide.specs.Leading.{lead_of}
use Rattle.election.specs.Decisions.{parent_of}
use Rattle.election.proofs.Deciding.{parent_led, led_parent}
use Rattle.election.proofs.parent.Goals as goal

-- by the lead, of a ranked list
by_lead : (own : Grandmaster) (list : Ranked) {lead : Lead} → true ≡ is_ranked list → lead ≡ lead_of own (unpack list) → parent_led lead ≡ parent_of own list
unfolding refuse
by_lead own list h e = rw (sym h) (ap parent_led e ∙ led_parent own (unpack list))

pub returns-then-not-is_ranked : goal.returns-then-not-is_ranked
unfolding refuse
returns-then-not-is_ranked c = rw (sym c.is_ranked.ensures ∙ c.if-not-is_ranked.true)

pub returns-in-Ebest : goal.returns-in-Ebest
returns-in-Ebest c = by_lead c.args.own c.args.list (sym c.if-not-is_ranked.false ∙ c.is_ranked.ensures) (sym c.in-Ebest.is ∙ c.leading.ensures)

pub returns-in-Class : goal.returns-in-Class
returns-in-Class c =
    let l = sym c.if-not-is_ranked.false ∙ c.is_ranked.ensures in
    elim c.in-Class.is [
      | inl e ↦ by_lead c.args.own c.args.list l (sym e ∙ c.leading.ensures)
      | inr e ↦ by_lead c.args.own c.args.list l (sym e ∙ c.leading.ensures)
    ]
