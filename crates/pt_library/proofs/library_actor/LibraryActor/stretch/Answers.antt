use Rattle.std.proofs.Common.{ap, sym, subst}
use Rattle.pt_flow_base.specs.Number.{GivesStretch}
use Rattle.pt_flow_base.proofs.InTurn.{stretch-none, held-stretch}
use Rattle.pt_lib_flow.specs.FlowActor as flow_actor
use Rattle.pt_library.specs.declared.library_actor.LibraryActor.TheVariants.{Flow}
use Rattle.pt_library.specs.LibraryActor as library
use Rattle.pt_library.proofs.library_actor.LibraryActor.stretch.Goals as goal

pub returns-in-Flow : goal.returns-in-Flow
returns-in-Flow c =
    subst (λ s. GivesStretch library.step s c.args.inputs.now c.args.rate c.stretch.result c.stretch.new.given.items (Flow c.stretch.new.self)) (sym c.in-Flow.is)
    (held-stretch Flow flow_actor.step library.step (λ tag s t X out e. ap (library.held_as Flow) e) c.in-Flow.actor c.stretch.new.self c.args.inputs.now c.args.rate c.stretch.result c.stretch.new.given.items c.stretch.ensures)

pub returns : goal.returns
returns c = stretch-none library.step c.args.self.now c.args.inputs.now c.args.rate c.clear.new.self.items c.clear.ensures.items
