use Rattle.std.proofs.Common.{◌≡◌, ◌∙◌, List, map, refl, sym, ap, subst, IfOk}
use Rattle.pt_meaning.specs.Start.{first_held}
use Rattle.pt_value.specs.declared.token.Token.{Token}
use Rattle.pt_core.specs.Source.{source_of}
use Rattle.pt_core.specs.declared.source.Source.{Source}
use Rattle.pt_pn_laws.specs.State.{Network, started}
use Rattle.pt_process.specs.declared.plan.CorePlan.{CorePlan}
use Rattle.pt_process.specs.Plan.{network_of, IsSoundNetwork}
use Rattle.pt_library.specs.LibraryActor.{rows}
use Rattle.pt_node.specs.Shown.{shown}
use Rattle.pt_node.specs.View.{Tree}
use Rattle.pt_trees.specs.Composite.{trees_of}
use Rattle.pt_flow_composites.specs.Networks.{network_round}
use Rattle.pt_flow_composites.proofs.PnLaws.{network-is, all-kept}
use Rattle.pt_flow_composites.proofs.pn.core_of.Goals as goal

pub starts_of-requires : goal.starts_of-requires
starts_of-requires c = all-kept (map source_of c.args.sources.items) c.args.places c.args.takes c.args.capacities (trees_of (map shown c.args.children.now)) c.requires

pub new-requires : goal.new-requires
new-requires c =
    let kids : List Tree = trees_of (map shown c.args.children.now) in
    let p : CorePlan = record { sources = c.args.sources; places = c.args.places; takes = c.args.takes; initial = c.args.capacities.initial; maximum = c.args.capacities.maximum; first = c.in_ok-first.first; starts = c.in_ok-starts.starts } in
    let is : network_of p ≡ network_round (map source_of c.args.sources.items) c.args.places c.args.takes c.args.capacities kids = network-is (map source_of c.args.sources.items) c.args.places c.args.takes c.args.capacities kids p refl refl refl refl refl (c.in_ok-first.ensures ∙ ap (λ (v : List Source). first_held rows kids (map source_of v)) c.deref.ensures.value) c.in_ok-starts.ensures in
    subst (λ (n : Network Token). IsSoundNetwork n) (sym is) c.requires

pub returns : goal.returns
returns c =
    let kids : List Tree = trees_of (map shown c.args.children.now) in
    let p : CorePlan = record { sources = c.args.sources; places = c.args.places; takes = c.args.takes; initial = c.args.capacities.initial; maximum = c.args.capacities.maximum; first = c.in_ok-first.first; starts = c.in_ok-starts.starts } in
    let is : network_of p ≡ network_round (map source_of c.args.sources.items) c.args.places c.args.takes c.args.capacities kids = network-is (map source_of c.args.sources.items) c.args.places c.args.takes c.args.capacities kids p refl refl refl refl refl (c.in_ok-first.ensures ∙ ap (λ (v : List Source). first_held rows kids (map source_of v)) c.deref.ensures.value) c.in_ok-starts.ensures in
    subst (λ (n : Network Token). IfOk c.new.result (λ core. core ≡ started n)) is c.new.ensures
