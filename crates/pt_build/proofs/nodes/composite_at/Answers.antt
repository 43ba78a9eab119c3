use Rattle.std.proofs.Common.{ℕ, List, map, refl, sym, subst}
use Rattle.pt_net.specs.declared.net.Net.{Net}
use Rattle.pt_net.specs.declared.net.NetEntity.{NetEntity}
use Rattle.pt_past.specs.Recorded.{RecordedPort}
use Rattle.pt_node.specs.Shown.{Shown, shown, shown_node}
use Rattle.pt_trees.specs.Around.{Around, around_of}
use Rattle.pt_trees.specs.Composite.{IsComposite, CompositeFaultStands}
use Rattle.pt_trees.specs.Fresh.{AreEmpty}
use Rattle.pt_trees.specs.Labels.{labels_of}
use Rattle.pt_trees.specs.Recorded.{recorded_at, recorded_of, numbers_at}
use Rattle.pt_trees.specs.Built.{built_composite}
use Rattle.pt_builder.proofs.FaultLaws.{fault-stands}
use Rattle.pt_builder.proofs.TreeLaws.{recorded-empty, all-started}
use Rattle.pt_builder.specs.Starts.{starts_in}
use Rattle.pt_build.proofs.nodes.composite_at.Goals as goal

pub composite-requires-clause-started : goal.composite-requires-clause-started
composite-requires-clause-started c = all-started c.requires.started c.requires.children

pub composite-requires-clause-empty : goal.composite-requires-clause-empty
composite-requires-clause-empty c =
    let net : Net = c.args.builder.now.net.now in
    subst (λ rs. AreEmpty rs) (sym c.in_ok-frame.ensures.records) (recorded-empty (recorded_at net c.args.entity.now) (λ n. (refl, refl)) (numbers_at c.args.k net.recorded.items))

pub returns-in-Ok-clause-built : goal.returns-in-Ok-clause-built
returns-in-Ok-clause-built c =
    let e : NetEntity = c.args.entity.now in
    let kids : List Shown = map shown c.args.children.items in
    let s : Shown = shown_node c.in-Ok.node in
    built_composite c.args.k e c.args.director kids s c.requires.entity c.requires.directed c.requires.children
    (subst (λ (a : Around). IsComposite c.args.director a kids e.path (recorded_of c.args.builder.now.net.now c.args.k e) (labels_of c.args.builder.now.net.now c.args.k e) s) c.in_ok-frame.ensures.wiring
    (subst (λ (t : List ℕ). IsComposite c.args.director (around_of c.in_ok-frame.frame.wiring) kids t (recorded_of c.args.builder.now.net.now c.args.k e) (labels_of c.args.builder.now.net.now c.args.k e) s) c.in_ok-frame.ensures.path
    (subst (λ (rs : List RecordedPort). IsComposite c.args.director (around_of c.in_ok-frame.frame.wiring) kids c.in_ok-frame.frame.path rs (labels_of c.args.builder.now.net.now c.args.k e) s) c.in_ok-frame.ensures.records
    (subst (λ (ls : List (List ℕ)). IsComposite c.args.director (around_of c.in_ok-frame.frame.wiring) kids c.in_ok-frame.frame.path c.in_ok-frame.frame.records ls s) c.in_ok-frame.ensures.labels c.in-Ok.ensures.node))))

pub returns-in-Ok-clause-fresh : goal.returns-in-Ok-clause-fresh
returns-in-Ok-clause-fresh c = c.in-Ok.ensures.node.fresh

pub returns-in-Err-clause-stands : goal.returns-in-Err-clause-stands
returns-in-Err-clause-stands c =
    let kids : List Shown = map shown c.args.children.items in
    fault-stands c.args.builder.now.net.now (starts_in c.args.builder.now) c.args.k c.args.entity.now c.args.director kids c.in-Err.fault c.fault_at.result c.requires.entity c.requires.directed c.requires.children
    (subst (λ (a : Around). CompositeFaultStands c.args.director a kids c.in-Err.fault) c.in_ok-frame.ensures.wiring c.in-Err.ensures.stands) c.fault_at.ensures
