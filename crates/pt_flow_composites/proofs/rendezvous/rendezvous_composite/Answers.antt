use Rattle.std.proofs.Common.{◌≡◌, Bool, Option, List, map, sym, ap, ◌∙◌, subst}
use Rattle.pt_rv_laws.specs.State.{started}
use Rattle.pt_rv_plan.specs.Plan.{AreSound}
use Rattle.pt_records.specs.Kept.{Made}
use Rattle.pt_directors.specs.Directors.{Director, of_rendezvous}
use Rattle.pt_node.specs.declared.node.Node.{Node}
use Rattle.pt_node.specs.Shown.{Shown, shown}
use Rattle.pt_trees.specs.Around.{Around, around_of}
use Rattle.pt_trees.specs.Composite.{trees_of, IsComposed}
use Rattle.pt_trees.specs.Rendezvous.{rendezvous, IsMet, IsMetIf, IsRvWired}
use Rattle.pt_composite_node.specs.Nodes.{built}
use Rattle.pt_flow_composites.specs.Processes.{processes_round}
use Rattle.pt_flow_composites.proofs.RendezvousLaws.{composite-is, sound, wired-with}
use Rattle.pt_flow_composites.proofs.rendezvous.rendezvous_composite.Goals as goal

pub core_of-requires : goal.core_of-requires
core_of-requires c =
    let around : Around = around_of c.args.wiring in
    let kids : List Shown = map shown c.args.children.items in
    let met : IsMet around (trees_of kids) = subst (λ (b : Bool). IsMetIf around (trees_of kids) b) c.if-not-met.false (subst (λ (v : List Node). IsMetIf around (trees_of (map shown v)) c.is_met-met.result) c.deref.ensures.value c.is_met-met.ensures) in
    subst (λ (v : List Node). AreSound (processes_round around.sources around.places c.in-Some.stated.takes (trees_of (map shown v)))) (sym c.deref-2.ensures.value) (sound around (trees_of kids) (wired-with c.args.wiring (trees_of kids) c.in-Some.stated met c.in-Some.is (c.has_rates.ensures.0 c.if-not-has_rates.false)))

pub returns-clause-node : goal.returns-clause-node
returns-clause-node c =
    let around : Around = around_of c.args.wiring in
    let kids : List Shown = map shown c.args.children.items in
    let met : IsMet around (trees_of kids) = subst (λ (b : Bool). IsMetIf around (trees_of kids) b) c.if-not-met.false (subst (λ (v : List Node). IsMetIf around (trees_of (map shown v)) c.is_met-met.result) c.deref.ensures.value c.is_met-met.ensures) in
    let wired : IsRvWired around (trees_of kids) = wired-with c.args.wiring (trees_of kids) c.in-Some.stated met c.in-Some.is (c.has_rates.ensures.0 c.if-not-has_rates.false) in
    let is : c.in_ok-core.core ≡ started (processes_round around.sources around.places c.in-Some.stated.takes (trees_of kids)) = c.in_ok-core.ensures ∙ ap (λ (v : List Node). started (processes_round around.sources around.places c.in-Some.stated.takes (trees_of (map shown v)))) c.deref-2.ensures.value in
    subst (λ (s : Shown). IsComposed rendezvous around kids c.args.path c.args.records c.args.labels s)
    (sym (c.recording_node.ensures ∙ ap (λ (d : Director). built d c.new-meetings.result kids c.args.path c.args.records c.args.labels) (c.in_ok-director.ensures ∙ c.rendezvous.ensures ∙ ap of_rendezvous is)
    ∙ ap (λ (m : Option Made). built (of_rendezvous (started (processes_round around.sources around.places c.in-Some.stated.takes (trees_of kids)))) m kids c.args.path c.args.records c.args.labels) c.new-meetings.ensures))
    (composite-is around kids c.args.path c.args.records c.args.labels wired c.requires.fresh c.requires.empty)
