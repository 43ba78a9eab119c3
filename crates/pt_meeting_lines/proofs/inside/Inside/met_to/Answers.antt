use Rattle.pt_meeting_lines.proofs.inside.Inside.met_to.Goals as goal

pub met_outside-requires-clause-own : goal.met_outside-requires-clause-own
met_outside-requires-clause-own c = c.is_own.ensures.yes c.if-is_own.true

pub met_inside-requires-clause-apart : goal.met_inside-requires-clause-apart
met_inside-requires-clause-apart c = c.is_own.ensures.no c.if-is_own.false
