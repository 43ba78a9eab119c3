use Rattle.std.proofs.Common.{◌∙◌}
use Rattle.pt_types.proofs.Solutions.{reached-unknowns}
use Rattle.pt_types.proofs.rules.first_round.Goals as goal

pub raise_all-requires-clause-reached : goal.raise_all-requires-clause-reached
raise_all-requires-clause-reached g c = reached-unknowns g.R.Rule.target_of g.R.Rule.value_of c.args.rules.now c.in_ok-types.types.items c.in_ok-types.ensures.unknown

pub returns-clause-counted : goal.returns-clause-counted
returns-clause-counted g c = c.in_ok-_raised.ensures.counted ∙ c.in_ok-types.ensures.counted

pub returns-clause-reached : goal.returns-clause-reached
returns-clause-reached g c = c.in_ok-_raised.ensures.reached
