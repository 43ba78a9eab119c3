use Rattle.std.proofs.Common.{◌≡◌, ◌↔◌, true, List, refl, sym, subst}
use Rattle.pt_core.specs.declared.source.Source.{Source}
use Rattle.pt_core.specs.Source.{source_of}
use Rattle.pt_node.specs.declared.node.Node.{Node}
use Rattle.pt_trees.specs.De.{BeginsAtOutput}
use Rattle.pt_trees.proofs.NodeLaws.{trees}
use Rattle.pt_de_inside.proofs.OutputLaws.{at-child, at-none}
use Rattle.pt_de_inside.proofs.outputs.begins_at_output.Goals as goal

pub returns-in-Some : goal.returns-in-Some
returns-in-Some c =
    let kids : List Node = c.args.children.now in
    subst (λ (s : Source). (c.has_output.result ≡ true) ↔ BeginsAtOutput (trees kids) (source_of s)) (sym c.in-Output.is)
    (at-child kids c.in-Output.child c.in-Output.port c.in-Some.node.now c.has_output.result c.in-Some.ensures.lookup.3.0 c.in-Some.ensures.lookup.1 c.has_output.ensures)

pub returns-in-None : goal.returns-in-None
returns-in-None c =
    let kids : List Node = c.args.children.now in
    subst (λ (s : Source). (true ≡ true) ↔ BeginsAtOutput (trees kids) (source_of s)) (sym c.in-Output.is)
    (λ e. at-none kids c.in-Output.child c.in-Output.port c.in-None.ensures.lookup.3, λ h. refl)
