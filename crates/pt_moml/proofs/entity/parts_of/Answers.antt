use Rattle.std.proofs.Common.{rules}
use Rattle.pt_json.specs.View.{view}
use Rattle.pt_document.specs.Classes.{kind_view}
use Rattle.pt_moml.proofs.Stages.{parts_are}
use Rattle.pt_moml.proofs.entity.parts_of.Goals as goal

pub returns-in_err-has_fields : goal.returns-in_err-has_fields
returns-in_err-has_fields c = rw (parts_are c.args.here.now c.args.name c.args.class (kind_view c.args.kind) (view c.args.value.now)) (search rules)

pub returns-in_err-properties : goal.returns-in_err-properties
returns-in_err-properties c = rw (parts_are c.args.here.now c.args.name c.args.class (kind_view c.args.kind) (view c.args.value.now)) (search rules)

pub returns-in_err-wiring : goal.returns-in_err-wiring
returns-in_err-wiring c = rw (parts_are c.args.here.now c.args.name c.args.class (kind_view c.args.kind) (view c.args.value.now)) (search rules)

pub returns-in_err-machine : goal.returns-in_err-machine
returns-in_err-machine c = rw (parts_are c.args.here.now c.args.name c.args.class (kind_view c.args.kind) (view c.args.value.now)) (search rules)

pub returns : goal.returns
returns c = rw (parts_are c.args.here.now c.args.name c.args.class (kind_view c.args.kind) (view c.args.value.now)) (search rules)
