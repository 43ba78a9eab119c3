use Rattle.std.proofs.Common.{◌≡◌, Bool, List, map, None, sym, ap, ◌∙◌, subst}
use Rattle.pt_pn_laws.specs.State.{started}
use Rattle.pt_process.specs.Plan.{IsSoundNetwork}
use Rattle.pt_directors.specs.Directors.{Director, of_pn}
use Rattle.pt_node.specs.declared.node.Node.{Node}
use Rattle.pt_node.specs.Shown.{Shown, shown}
use Rattle.pt_trees.specs.Around.{Around, around_of}
use Rattle.pt_trees.specs.Composite.{trees_of, IsComposed}
use Rattle.pt_trees.specs.Pn.{pn, IsPnWired}
use Rattle.pt_trees.specs.Sr.{IsWired, IsWiredIf}
use Rattle.pt_flow_composites.specs.Networks.{network_round}
use Rattle.pt_composite_node.specs.Nodes.{built}
use Rattle.pt_flow_composites.proofs.PnLaws.{composite-is, sound, wired-with}
use Rattle.pt_flow_composites.proofs.pn.pn_composite.Goals as goal

pub core_of-requires : goal.core_of-requires
core_of-requires c =
    let around : Around = around_of c.args.wiring in
    let kids : List Shown = map shown c.args.children.items in
    let fits : IsWired around (trees_of kids) =
    subst (λ (b : Bool). IsWiredIf around (trees_of kids) b) c.if-not-wired.false (subst (λ (v : List Node). IsWiredIf around (trees_of (map shown v)) c.in_ok-wired.wired) c.deref.ensures.value c.in_ok-wired.ensures) in
    subst (λ (v : List Node). IsSoundNetwork (network_round around.sources around.places c.in-Some.stated.takes c.in-Some-capacities.capacities (trees_of (map shown v)))) (sym c.deref-2.ensures.value)
    (sound around (trees_of kids) (wired-with c.args.wiring (trees_of kids) c.in-Some.stated c.in-Some-capacities.capacities fits c.in-Some.is c.in-Some-capacities.is (c.are_lawful.ensures.0 c.if-not-are_lawful.false)))

pub returns-clause-node : goal.returns-clause-node
returns-clause-node c =
    let around : Around = around_of c.args.wiring in
    let kids : List Shown = map shown c.args.children.items in
    let fits : IsWired around (trees_of kids) =
    subst (λ (b : Bool). IsWiredIf around (trees_of kids) b) c.if-not-wired.false (subst (λ (v : List Node). IsWiredIf around (trees_of (map shown v)) c.in_ok-wired.wired) c.deref.ensures.value c.in_ok-wired.ensures) in
    let wired : IsPnWired around (trees_of kids) = wired-with c.args.wiring (trees_of kids) c.in-Some.stated c.in-Some-capacities.capacities fits c.in-Some.is c.in-Some-capacities.is (c.are_lawful.ensures.0 c.if-not-are_lawful.false) in
    let is : c.in_ok-core.core ≡ started (network_round around.sources around.places c.in-Some.stated.takes c.in-Some-capacities.capacities (trees_of kids)) =
    c.in_ok-core.ensures ∙ ap (λ (v : List Node). started (network_round around.sources around.places c.in-Some.stated.takes c.in-Some-capacities.capacities (trees_of (map shown v)))) c.deref-2.ensures.value in
    subst (λ (s : Shown). IsComposed pn around kids c.args.path c.args.records c.args.labels s)
    (sym (c.composite_node.ensures ∙ ap (λ (d : Director). built d None kids c.args.path c.args.records c.args.labels) (c.in_ok-director.ensures ∙ c.pn.ensures ∙ ap of_pn is)))
    (composite-is around kids c.args.path c.args.records c.args.labels wired c.requires.fresh c.requires.empty)
