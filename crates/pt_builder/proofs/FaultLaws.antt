-- The answer for a composite that isn't built stands.
use Rattle.std.proofs.Common.{◌≡◌, ℕ, List, [], ◌∷◌, ◌++◌, ◌+◌, ◌<◌, length, take, map, get_or, sym, ap, subst, ◌∙◌}
use Rattle.std.proofs.lemmas.List.{take_more}
use Rattle.pt_net.specs.declared.net.Net.{Net}
use Rattle.pt_net.specs.declared.net.NetEntity.{NetEntity}
use Rattle.pt_net.specs.Inside.{children_of}
use Rattle.pt_node.specs.declared.node.Node.{Node}
use Rattle.pt_node.specs.Shown.{Shown, shown, shown_node}
use Rattle.pt_node.proofs.Link.{shown-node}
use Rattle.pt_trees.specs.declared.directing.Directing.{Directing}
use Rattle.pt_trees.specs.declared.composite_fault.CompositeFault.{CompositeFault}
use Rattle.pt_trees.specs.declared.composite_fault.CompositeFault.TheVariants as composite_fault
use Rattle.pt_trees.specs.Composite.{trees_of, CompositeFaultStands}
use Rattle.pt_trees.specs.Directors.{IsDirectedBy, composing}
use Rattle.pt_trees.specs.Fresh.{IsFresh, AllFresh}
use Rattle.pt_trees.specs.declared.build_fault.BuildFault.{BuildFault}
use Rattle.pt_trees.specs.declared.build_fault.BuildFault.TheVariants.{Refused, Unbuilt, Memory}
use Rattle.pt_trees.specs.Trees.{IsEntity, around_in, Starts}
use Rattle.pt_trees.specs.Built.{AreBuilt, IsBuilt, IsToldAs, BuildFaultStands, misfit}
use Rattle.pt_builder.proofs.TreeLaws.{built-snoc, fresh-snoc}

pub fault-stands : (net : Net) (starts : Starts) (k : ℕ) (e : NetEntity) (director : Directing) (kids : List Shown) (fault : CompositeFault) (answer : BuildFault) → IsEntity net k e → IsDirectedBy e director → AreBuilt net starts (children_of net.entities.items k) kids →
    CompositeFaultStands director (around_in net starts k e) kids fault → IsToldAs fault e.path answer → BuildFaultStands net starts answer
fault-stands net starts k e director kids composite_fault.Unbuilt answer at directed all stands told = subst (λ f. BuildFaultStands net starts f) (sym told) (misfit k e director kids at directed all stands)
fault-stands net starts k e director kids (composite_fault.Refused code) (Refused r) at directed all stands told =
    record { number = k; entity = e; at = at; director = director; directed = directed; kids = kids; built = all; refused = subst (λ c. (composing director).IsRefused (around_in net starts k e) (trees_of kids) c) (sym told.0) stands; path_is = told.1 }
fault-stands net starts k e director kids (composite_fault.Refused code) Unbuilt at directed all stands told = absurd told
fault-stands net starts k e director kids (composite_fault.Refused code) Memory at directed all stands told = tt
fault-stands net starts k e director kids composite_fault.Memory answer at directed all stands told = subst (λ f. BuildFaultStands net starts f) (sym told) tt

shown-append : (kids : List Node) (node : Node) → map shown (kids ++ node ∷ []) ≡ map shown kids ++ shown_node node ∷ []
shown-append [] node = ap (λ s. s ∷ []) (shown-node node)
shown-append (k ∷ kids) node = ap (λ v. shown k ∷ v) (shown-append kids node)

-- one child more
pub children-more : (net : Net) (starts : Starts) (numbers : List ℕ) (i : ℕ) (kids new : List Node) (node : Node) → i < length numbers → AreBuilt net starts (take i numbers) (map shown kids) → IsBuilt net starts (get_or numbers i 0) (shown_node node) → new ≡ kids ++ node ∷ [] →
    AreBuilt net starts (take (i + 1) numbers) (map shown new)
children-more net starts numbers i kids new node h all one is =
    subst (λ v. AreBuilt net starts v (map shown new)) (sym (take_more numbers i 0 h))
    (subst (λ v. AreBuilt net starts (take i numbers ++ get_or numbers i 0 ∷ []) v) (sym (ap (λ v. map shown v) is ∙ shown-append kids node)) (built-snoc (get_or numbers i 0) (shown_node node) all one))

pub fresh-more : (kids new : List Node) (node : Node) → AllFresh (map shown kids) → IsFresh (shown_node node) → new ≡ kids ++ node ∷ [] → AllFresh (map shown new)
fresh-more kids new node all one is = subst (λ v. AllFresh v) (sym (ap (λ v. map shown v) is ∙ shown-append kids node)) (fresh-snoc (map shown kids) (shown_node node) all one)
