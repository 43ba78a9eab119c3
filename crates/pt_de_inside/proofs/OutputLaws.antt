-- Whether channels begin at outputs.
use Rattle.std.proofs.Common.{◌≡◌, ◌↔◌, ℕ, ◌<◌, ◌≤◌, Bool, true, Option, None, List, length, map, get_or, sym, subst}
use Rattle.pt_meaning.specs.Net.{Output}
use Rattle.pt_meaning.specs.Streams.{get}
use Rattle.pt_node.specs.declared.node.Node.{Node}
use Rattle.pt_node.specs.Shown.{shown, shown_node}
use Rattle.pt_node.specs.View.{Tree, node_of}
use Rattle.pt_trees.specs.De.{BeginsAtOutput, HasOutput, HasOutputIf}
use Rattle.pt_trees.proofs.NodeLaws.{trees, tree-at, get-past, get-none}

pub at-child : (kids : List Node) (child port : ℕ) (d : Node) (b : Bool) → child < length kids → d ≡ get_or kids child d → ((b ≡ true) ↔ HasOutput (node_of (shown_node d)) port) → (b ≡ true) ↔ BeginsAtOutput (trees kids) (Output child port)
at-child kids child port d b h is iff = subst (λ (o : Option Tree). (b ≡ true) ↔ HasOutputIf o port) (sym (tree-at kids child d h is)) iff

pub at-none : (kids : List Node) (child port : ℕ) → length kids ≤ child → BeginsAtOutput (trees kids) (Output child port)
at-none kids child port h =
    let none : get (trees kids) child ≡ None = get-none node_of (map shown kids) child (get-none shown kids child (get-past kids child h)) in
    subst (λ (o : Option Tree). HasOutputIf o port) (sym none) tt
