use Rattle.std.proofs.Common.{rules}
use Rattle.pt_json.specs.View.{view}
use Rattle.pt_moml.proofs.Stages.{port_is}
use Rattle.pt_moml.proofs.parts.PortPart.read.Goals as goal

pub returns-in_err-has_fields : goal.returns-in_err-has_fields
returns-in_err-has_fields c = rw (port_is c.args.path.now (view c.args.value.now)) (search rules)

pub returns-in_err-name : goal.returns-in_err-name
returns-in_err-name c = rw (port_is c.args.path.now (view c.args.value.now)) (search rules)

pub returns-in_err-direction : goal.returns-in_err-direction
returns-in_err-direction c = rw (port_is c.args.path.now (view c.args.value.now)) (search rules)

pub returns-in_err-declared : goal.returns-in_err-declared
returns-in_err-declared c = rw (port_is c.args.path.now (view c.args.value.now)) (search rules)

pub returns-in_err-properties : goal.returns-in_err-properties
returns-in_err-properties c = rw (port_is c.args.path.now (view c.args.value.now)) (search rules)

pub returns : goal.returns
returns c = rw (port_is c.args.path.now (view c.args.value.now)) (search rules)
