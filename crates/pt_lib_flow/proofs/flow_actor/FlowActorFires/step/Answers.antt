use Rattle.std.proofs.Common.{sym, subst}
use Rattle.pt_firing.specs.Step.{Makes}
use Rattle.pt_lib_flow.specs.declared.flow_actor.FlowActor.TheVariants.{Counter}
use Rattle.pt_lib_flow.specs.FlowActor as flow_actor
use Rattle.pt_flow_numbers.specs.Counter as counter
use Rattle.pt_lib_flow.proofs.Held.{held-makes}
use Rattle.pt_lib_flow.proofs.flow_actor.FlowActorFires.step.Goals as goal

pub returns-in-Counter-clause-made : goal.returns-in-Counter-clause-made
returns-in-Counter-clause-made c =
    let a = c.in-Counter.actor in
    let new = c.step-in-Counter.new.self in
    subst (λ s. Makes (flow_actor.step c.args.tag s c.args.inputs.now) s c.step-in-Counter.result (Counter new)) (sym c.in-Counter.is) (held-makes Counter (counter.step c.args.tag a c.args.inputs.now) a new c.step-in-Counter.result c.step-in-Counter.ensures.made)
