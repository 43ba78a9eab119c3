-- The loop over the children of a composite.
use Rattle.std.proofs.Common.{◌≡◌, ℕ, suc, ◌≤◌, ◌<◌, ◌+◌, List, [], ◌∷◌, ◌++◌, length, take, map, get_or, sym, subst, ◌∙◌, arith}
use Rattle.std.specs.List.{Contains}
use Rattle.std.proofs.lemmas.List.{take_all, get_or_default}
use Rattle.pt_net.specs.declared.net.Net.{Net}
use Rattle.pt_net.specs.Inside.{children_of}
use Rattle.pt_node.specs.declared.node.Node.{Node}
use Rattle.pt_node.specs.Shown.{shown, shown_node}
use Rattle.pt_trees.specs.Fresh.{AllFresh}
use Rattle.pt_builder.specs.declared.builder.Builder.{Builder}
use Rattle.pt_trees.specs.Trees.{Starts}
use Rattle.pt_trees.specs.Built.{AreBuilt, IsBuilt, none_built, IsNested, within, IsUnbuilt, deep}
use Rattle.pt_builder.specs.Reached.{IsReached, HasRoom}
use Rattle.pt_builder.proofs.FaultLaws.{children-more}

among : (numbers : List ℕ) (i number : ℕ) → i < length numbers → number ≡ get_or numbers i number → Contains numbers number
among numbers i number h is = (i, h, sym is)

next-nested : (net : Net) (c depth k : ℕ) → IsNested net c depth → Contains (children_of net.entities.items c) k → IsNested net k (depth + 1)
next-nested net c depth k nested in_c = let more : suc depth ≡ depth + 1 = omega arith in subst (λ n. IsNested net k n) more (within c depth k nested in_c)

pub reach-child : (b : Builder) (k depth : ℕ) (numbers : List ℕ) (i number : ℕ) → HasRoom b k depth → numbers ≡ children_of b.net.now.entities.items k → i < length numbers → number ≡ get_or numbers i number → IsReached b number (depth + 1)
reach-child b k depth numbers i number room are h is = record {
  prepared = room.reached.prepared;
  started = room.reached.started;
  nested = next-nested b.net.now k depth number room.reached.nested (subst (λ (v : List ℕ). Contains v number) are (among numbers i number h is));
  bound = omega (arith, room.room);
}

pub start-built : (net : Net) (starts : Starts) (numbers : List ℕ) (kids : List Node) → kids ≡ [] → AreBuilt net starts (take 0 numbers) (map shown kids)
start-built net starts numbers kids are = subst (λ (v : List Node). AreBuilt net starts (take 0 numbers) (map shown v)) (sym are) none_built

pub start-fresh : (kids : List Node) → kids ≡ [] → AllFresh (map shown kids)
start-fresh kids are = subst (λ (v : List Node). AllFresh (map shown v)) (sym are) tt

pub child-more : (net : Net) (starts : Starts) (numbers : List ℕ) (i number : ℕ) (kids new : List Node) (node : Node) → i < length numbers → number ≡ get_or numbers i number → AreBuilt net starts (take i numbers) (map shown kids) → IsBuilt net starts number (shown_node node) → new ≡ kids ++ node ∷ [] →
    AreBuilt net starts (take (i + 1) numbers) (map shown new)
child-more net starts numbers i number kids new node h is all one are =
    children-more net starts numbers i kids new node h all (subst (λ n. IsBuilt net starts n (shown_node node)) (is ∙ get_or_default numbers i number 0 h) one) are

pub all-built : (net : Net) (starts : Starts) (k : ℕ) (numbers : List ℕ) (i : ℕ) (kids : List Node) → numbers ≡ children_of net.entities.items k → length numbers ≤ i → AreBuilt net starts (take i numbers) (map shown kids) → AreBuilt net starts (children_of net.entities.items k) (map shown kids)
all-built net starts k numbers i kids are h all = subst (λ (v : List ℕ). AreBuilt net starts v (map shown kids)) (take_all i numbers h ∙ are) all

pub deep-at : (net : Net) (starts : Starts) (k depth : ℕ) → IsNested net k depth → 32 ≤ depth → depth ≤ 32 → IsUnbuilt net starts
deep-at net starts k depth nested least most = let is : depth ≡ 32 = omega (arith, least, most) in deep k (subst (λ n. IsNested net k n) is nested)
