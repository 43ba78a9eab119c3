use Rattle.std.proofs.Common.{subst}
use Rattle.pt_flow_base.specs.Number.{GivesStretch}
use Rattle.pt_lib_flow.proofs.ones.stretch_taken_out.Goals as goal

pub returns : goal.returns
returns g c = subst (λ actor. GivesStretch g.A.Fires.step actor c.args.inputs.now c.args.rate c.stretch_of_ones-made.result c.stretch_of_ones-made.new.given.items c.stretch_of_ones-made.new.actor) c.replace-own.ensures.value c.stretch_of_ones-made.ensures
