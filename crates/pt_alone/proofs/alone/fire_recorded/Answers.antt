use Rattle.pt_alone.proofs.alone.fire_recorded.Goals as goal

pub returns-in-Done-clause-answers : goal.returns-in-Done-clause-answers
returns-in-Done-clause-answers g c = (c.in-Done.field-0, c.in-Done.ensures.answers)
