use Rattle.std.proofs.Common.{sym, ◌∙◌}
use Rattle.pt_meeting_lines.proofs.Paths.{below-top, below-rest, not-behind, not-dotted}
use Rattle.pt_meeting_lines.proofs.places.path_below.Goals as goal

pub returns-then-eq : goal.returns-then-eq
returns-then-eq c rest h = below-top c.args.round.now c.args.path.now (sym c.eq.ensures ∙ c.if-eq.true)

pub returns-in_default : goal.returns-in_default
returns-in_default c rest h = absurd (not-behind c.args.round.now c.args.path.now rest (sym c.eq.ensures ∙ c.if-eq.false) c.in_default.ensures.none h)

pub returns-in-Some-behind : goal.returns-in-Some-behind
returns-in-Some-behind c rest h = below-rest c.args.round.now c.args.path.now c.in-Some.rest.now c.in-Some-behind.below.now (sym c.eq.ensures ∙ c.if-eq.false) c.in-Some.ensures.some c.in-Some-behind.ensures.some

pub returns-in-None : goal.returns-in-None
returns-in-None c rest h = absurd (not-dotted c.args.round.now c.args.path.now c.in-Some.rest.now rest (sym c.eq.ensures ∙ c.if-eq.false) c.in-Some.ensures.some c.in-None.ensures.none h)
