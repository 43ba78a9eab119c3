use Rattle.std.proofs.Common.{sym, ◌∙◌}
use Rattle.pt_within.proofs.LabelLaws.{below-rest, below-other, below-apart}
use Rattle.pt_within.proofs.labels.path_below.Goals as goal

pub returns-in_default : goal.returns-in_default
returns-in_default c = below-other c.args.round.now c.args.child.now (sym c.eq.ensures ∙ c.if-eq.false) c.in_default.ensures.none

pub returns-in-Some-behind : goal.returns-in-Some-behind
returns-in-Some-behind c = below-rest c.args.round.now c.args.child.now c.in-Some.rest.now c.in-Some-behind.below.now (sym c.eq.ensures ∙ c.if-eq.false) c.in-Some.ensures.some c.in-Some-behind.ensures.some

pub returns-in-None : goal.returns-in-None
returns-in-None c = below-apart c.args.round.now c.args.child.now c.in-Some.rest.now (sym c.eq.ensures ∙ c.if-eq.false) c.in-Some.ensures.some c.in-None.ensures.none
