use Rattle.std.proofs.Common.{◌≡◌, List, map, None, refl, sym, ap, ◌∙◌, subst}
use Rattle.pt_meaning.specs.Basics.{Streams}
use Rattle.pt_meaning.specs.Net as net
use Rattle.pt_meaning.specs.Start.{first_held}
use Rattle.pt_value.specs.declared.token.Token.{Token}
use Rattle.pt_core.specs.Source.{source_of}
use Rattle.pt_sdf_parts.specs.Lawful.{IsLawful}
use Rattle.pt_sdf_parts.specs.Plan.{plan_of, order_of}
use Rattle.pt_sdf.specs.State.{started}
use Rattle.pt_plan.specs.Unfed.{sources_of}
use Rattle.pt_library.specs.LibraryActor.{rows}
use Rattle.pt_directors.specs.Directors.{Director, of_sdf}
use Rattle.pt_node.specs.declared.node.Node.{Node}
use Rattle.pt_node.specs.Shown.{Shown, shown}
use Rattle.pt_node.specs.View.{Tree}
use Rattle.pt_trees.specs.Around.{around_of}
use Rattle.pt_trees.specs.Sdf.{sdf, IsInsideOf}
use Rattle.pt_trees.specs.Composite.{trees_of, IsComposed}
use Rattle.pt_trees.specs.Rates.{AllStarted}
use Rattle.pt_composite_node.specs.Nodes.{built}
use Rattle.pt_flow_composites.proofs.SdfLaws.{first-counted, composite-is, fault-stands}
use Rattle.pt_flow_composites.proofs.sdf.sdf_composite.Goals as goal

pub inside_of-requires : goal.inside_of-requires
inside_of-requires c = subst (λ (v : List Node). AllStarted (trees_of (map shown v))) (sym c.deref.ensures.value) c.requires.started

pub returns-in-Err-clause-stands : goal.returns-in-Err-clause-stands
returns-in-Err-clause-stands c =
    fault-stands (around_of c.args.wiring) (map shown c.args.children.items) c.in_ok-inside.inside c.in-Err.fault c.told.result
    (subst (λ (v : List Node). IsInsideOf (around_of c.args.wiring) (trees_of (map shown v)) c.in_ok-inside.inside) c.deref.ensures.value c.in_ok-inside.ensures.inside) c.in-Err.ensures.err c.told.ensures

pub core_of-requires : goal.core_of-requires
core_of-requires c =
    let kids : List Tree = trees_of (map shown c.args.children.items) in
    let inside : IsInsideOf (around_of c.args.wiring) kids c.in_ok-inside.inside = subst (λ (v : List Node). IsInsideOf (around_of c.args.wiring) (trees_of (map shown v)) c.in_ok-inside.inside) c.deref.ensures.value c.in_ok-inside.ensures.inside in
    let sources : List net.Source = map source_of c.in-Ok.plan.sources.items in
    let is : sources ≡ map source_of (sources_of c.in_ok-inside.inside) = ap (λ (n : net.Net). n.sources) c.in-Ok.ensures.plan.net in
    subst (λ (v : List Node). IsLawful (plan_of c.in-Ok.plan) c.in-Ok.plan.needs (order_of c.in-Ok.plan) c.in-Ok.plan.room (first_held rows (trees_of (map shown v)) sources)) (sym c.deref-2.ensures.value)
    (c.in-Ok.ensures.lawful (first_held rows kids sources) (first-counted (around_of c.args.wiring) kids c.in_ok-inside.inside sources inside is))

pub returns-clause-node : goal.returns-clause-node
returns-clause-node c =
    let kids : List Tree = trees_of (map shown c.args.children.items) in
    let inside : IsInsideOf (around_of c.args.wiring) kids c.in_ok-inside.inside = subst (λ (v : List Node). IsInsideOf (around_of c.args.wiring) (trees_of (map shown v)) c.in_ok-inside.inside) c.deref.ensures.value c.in_ok-inside.ensures.inside in
    let first : Streams Token = first_held rows kids (map source_of c.in-Ok.plan.sources.items) in
    let is : c.in_ok-core.core ≡ started (plan_of c.in-Ok.plan) c.in-Ok.plan.needs first =
    c.in_ok-core.ensures ∙ ap (λ (v : List Node). started (plan_of c.in-Ok.plan) c.in-Ok.plan.needs (first_held rows (trees_of (map shown v)) (map source_of c.in-Ok.plan.sources.items))) c.deref-2.ensures.value in
    subst (λ (s : Shown). IsComposed sdf (around_of c.args.wiring) (map shown c.args.children.items) c.args.path c.args.records c.args.labels s)
    (sym (c.composite_node.ensures ∙ ap (λ (d : Director). built d None (map shown c.args.children.items) c.args.path c.args.records c.args.labels) (c.in_ok-director.ensures ∙ c.sdf.ensures ∙ ap of_sdf is)))
    (composite-is (around_of c.args.wiring) (map shown c.args.children.items) c.args.path c.args.records c.args.labels c.in_ok-inside.inside c.in-Ok.plan first inside c.in_ok-inside.ensures.formed c.in-Ok.ensures.plan c.in-Ok.ensures.limits c.in-Ok.ensures.needs refl c.requires.fresh c.requires.empty)
