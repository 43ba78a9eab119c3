-- The whole tree, from the node at the top.
use Rattle.std.proofs.Common.{◌≡◌, Result, Ok, Err, List, [], ◌∷◌, ◌++◌, length, sym, ap, subst, ◌∙◌, arith}
use Rattle.std.specs.Prelude.{IfOk, IfErr}
use Rattle.pt_net.specs.declared.net.Net.{Net}
use Rattle.pt_node.specs.declared.node.Node.{Node}
use Rattle.pt_node.specs.Shown.{shown_node}
use Rattle.pt_node.specs.View.{node_of}
use Rattle.pt_builder.specs.declared.builder.Builder.{Builder}
use Rattle.pt_trees.specs.declared.build_fault.BuildFault.{BuildFault}
use Rattle.pt_trees.specs.Trees.{Starts, AreStarted, IsTree}
use Rattle.pt_trees.specs.Built.{IsBuilt, at_top, BuildFaultStands}
use Rattle.pt_builder.specs.Starts.{starts_in}
use Rattle.pt_builder.specs.Reached.{IsPrepared, IsReached}
use Rattle.pt_builder.proofs.TreeLaws.{built-tree}

pub reach-top : (b : Builder) (starts : Starts) → starts_in b ≡ starts → IsPrepared b → AreStarted starts → IsReached b 0 0
reach-top b starts are prepared started = record { prepared = prepared; started = subst (λ (s : Starts). AreStarted s) (sym are) started; nested = at_top; bound = omega arith }

pub top-built : (n m : Net) (s t : Starts) (r : Result Node BuildFault) → n ≡ m → s ≡ t → IfOk r (λ node. IsBuilt n s 0 (shown_node node)) → IfOk r (λ node. IsBuilt m t 0 (shown_node node))
top-built n m s t r e f is = subst (λ (v : Net). IfOk r (λ node. IsBuilt v t 0 (shown_node node))) e (subst (λ (v : Starts). IfOk r (λ node. IsBuilt n v 0 (shown_node node))) f is)

pub top-tree : (net : Net) (starts : Starts) (r : Result Node BuildFault) → IfOk r (λ node. IsBuilt net starts 0 (shown_node node)) → IfOk r (λ node. IsTree net starts 0 (node_of (shown_node node)))
top-tree net starts (Ok node) is = built-tree is
top-tree net starts (Err fault) is = tt

pub top-stands : (n m : Net) (s t : Starts) (r : Result Node BuildFault) → n ≡ m → s ≡ t → IfErr r (BuildFaultStands n s) → IfErr r (BuildFaultStands m t)
top-stands n m s t r e f is = subst (λ (v : Net). IfErr r (BuildFaultStands v t)) e (subst (λ (v : Starts). IfErr r (BuildFaultStands n v)) f is)

-- ---- the only node of a list

nothing-ends : (left : List Node) (last : Node) → [] ≡ left ++ last ∷ [] → ⊥
nothing-ends [] last e = let h : [] ≡ last ∷ [] = e in absurd cc
nothing-ends (x ∷ left) last e = let h : [] ≡ x ∷ (left ++ last ∷ []) = e in absurd cc

only-last : (left : List Node) (node last : Node) → node ∷ [] ≡ left ++ last ∷ [] → node ≡ last
only-last [] node last e = cc
only-last (x ∷ left) node last e = let rest : [] ≡ left ++ last ∷ [] = cc in absurd (nothing-ends left last rest)

-- what is taken off the end is what was put behind nothing
pub popped : (old all left : List Node) (node last : Node) → old ≡ [] → all ≡ old ++ node ∷ [] → all ≡ left ++ last ∷ [] → node ≡ last
popped old all left node last none is ends = only-last left node last (sym (is ∙ ap (λ (v : List Node). v ++ node ∷ []) none) ∙ ends)

pub none-popped : (old all : List Node) (node : Node) → old ≡ [] → all ≡ old ++ node ∷ [] → length all ≡ 0 → ⊥
none-popped old all node none is empty =
    let one : length all ≡ 1 = ap (λ (v : List Node). length v) (is ∙ ap (λ (v : List Node). v ++ node ∷ []) none) in
    omega (arith, one, empty)
