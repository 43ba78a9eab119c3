use Rattle.std.proofs.Common.{rules}
use Rattle.pt_json.specs.View.{view}
use Rattle.pt_moml.proofs.Stages.{transition_is}
use Rattle.pt_moml.proofs.parts.TransitionPart.read.Goals as goal

pub returns-in_err-has_fields : goal.returns-in_err-has_fields
returns-in_err-has_fields c = rw (transition_is c.args.path.now (view c.args.value.now)) (search rules)

pub returns-in_err-way : goal.returns-in_err-way
returns-in_err-way c = rw (transition_is c.args.path.now (view c.args.value.now)) (search rules)

pub returns-in_err-effect : goal.returns-in_err-effect
returns-in_err-effect c = rw (transition_is c.args.path.now (view c.args.value.now)) (search rules)

pub returns : goal.returns
returns c = rw (transition_is c.args.path.now (view c.args.value.now)) (search rules)
