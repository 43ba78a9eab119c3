use Rattle.std.proofs.Common.{◌≡◌, List, map, refl, sym, subst, IfOk}
use Rattle.pt_core.specs.Source.{source_of}
use Rattle.pt_rv_laws.specs.State.{Processes, started}
use Rattle.pt_rv_plan.specs.declared.plan.CorePlan.{CorePlan}
use Rattle.pt_rv_plan.specs.Plan.{processes_of, AreSound}
use Rattle.pt_node.specs.Shown.{shown}
use Rattle.pt_node.specs.View.{Tree}
use Rattle.pt_trees.specs.Composite.{trees_of}
use Rattle.pt_flow_composites.specs.Processes.{processes_round}
use Rattle.pt_flow_composites.proofs.RendezvousLaws.{processes-are}
use Rattle.pt_flow_composites.proofs.rendezvous.core_of.Goals as goal

pub new-requires : goal.new-requires
new-requires c =
    let kids : List Tree = trees_of (map shown c.args.children.now) in
    let p : CorePlan = record { sources = c.args.sources; places = c.args.places; barriers = c.in_ok-barriers.barriers; takes = c.args.takes; starts = c.in_ok-starts.starts } in
    let is : processes_of p ≡ processes_round (map source_of c.args.sources.items) c.args.places c.args.takes kids = processes-are (map source_of c.args.sources.items) c.args.places c.args.takes kids p refl refl c.in_ok-barriers.ensures refl c.in_ok-starts.ensures in
    subst (λ (n : Processes). AreSound n) (sym is) c.requires

pub returns : goal.returns
returns c =
    let kids : List Tree = trees_of (map shown c.args.children.now) in
    let p : CorePlan = record { sources = c.args.sources; places = c.args.places; barriers = c.in_ok-barriers.barriers; takes = c.args.takes; starts = c.in_ok-starts.starts } in
    let is : processes_of p ≡ processes_round (map source_of c.args.sources.items) c.args.places c.args.takes kids = processes-are (map source_of c.args.sources.items) c.args.places c.args.takes kids p refl refl c.in_ok-barriers.ensures refl c.in_ok-starts.ensures in
    subst (λ (n : Processes). IfOk c.new.result (λ core. core ≡ started n)) is c.new.ensures
