use Rattle.std.proofs.Common.{sym, subst, refl}
use Rattle.pt_lib_flow.specs.declared.flow_actor.FlowActor.TheVariants.{Repeat, UpSample}
use Rattle.pt_lib_flow.specs.FlowActor as flow_actor
use Rattle.pt_flow_streams.specs.Repeat as repeat
use Rattle.pt_flow_streams.specs.UpSample as up_sample
use Rattle.pt_flow_base.specs.Number.{GivesNumbers}
use Rattle.pt_lib_flow.proofs.Held.{held-numbers}
use Rattle.pt_lib_flow.proofs.flow_actor.FlowActor.numbers.Goals as goal

pub returns-in-Repeat : goal.returns-in-Repeat
returns-in-Repeat c =
    let X = c.args.inputs.now in
    subst (λ s. GivesNumbers flow_actor.step s X c.numbers.result c.numbers.new.given.items s) (sym c.in-Repeat.is) (held-numbers Repeat repeat.step flow_actor.step c.in-Repeat.actor c.in-Repeat.actor X c.numbers.result c.numbers.new.given.items (λ tag. refl) c.numbers.ensures)

pub returns-in-UpSample : goal.returns-in-UpSample
returns-in-UpSample c =
    let X = c.args.inputs.now in
    subst (λ s. GivesNumbers flow_actor.step s X c.numbers-in-UpSample.result c.numbers-in-UpSample.new.given.items s) (sym c.in-UpSample.is) (held-numbers UpSample up_sample.step flow_actor.step c.in-UpSample.actor c.in-UpSample.actor X c.numbers-in-UpSample.result c.numbers-in-UpSample.new.given.items (λ tag. refl) c.numbers-in-UpSample.ensures)
