-- The nodes that are built from a net stand for its entities.
use Rattle.std.proofs.Common.{◌≡◌, ℕ, List, [], ◌∷◌, refl, sym, subst}
use Rattle.std.specs.Prelude.{slice_get, Some}
use Rattle.pt_net.specs.declared.net.Net.{Net}
use Rattle.pt_net.specs.declared.net.NetEntity.{NetEntity}
use Rattle.pt_net.specs.Inside.{children_of}
use Rattle.pt_node.specs.Shown.{Shown, AllShown, Branch, none, more, list_of}
use Rattle.pt_node.specs.View.{outline_of, outlines_of}
use Rattle.pt_trees.specs.Composite.{frame_in, children_in}
use Rattle.pt_trees.specs.Trees.{Starts}
use Rattle.pt_trees.specs.Built.{IsBuilt, built_actor, built_composite, AreBuilt, none_built, more_built}
use Rattle.pt_meetings.specs.Standing.{StandsFor, AllStandFor}
use Rattle.pt_meetings.specs.Laws.{BuiltNodesStand}

-- each of these stands for its entity
abbrev EachStands : List NetEntity → List ℕ → List Shown → Type 0
EachStands es [] [] = Unit {0}
EachStands es [] (s ∷ ss) = ⊥
EachStands es (c ∷ cs) [] = Unit {0}
EachStands es (c ∷ cs) (s ∷ ss) = StandsFor es c (outline_of s) × EachStands es cs ss

each-stand : (es : List NetEntity) (cs : List ℕ) (ks : AllShown) → EachStands es cs (list_of ks) → AllStandFor es cs (outlines_of ks)
each-stand es cs none h = tt
each-stand es [] (more s ss) h = absurd h
each-stand es (c ∷ cs) (more s ss) h = (h.0, each-stand es cs ss h.1)

node-stands : (es : List NetEntity) (k : ℕ) (e : NetEntity) (s : Shown) → slice_get es k ≡ Some e → (frame_in s).path ≡ e.path → EachStands es (children_of es k) (children_in s) → StandsFor es k (outline_of s)
node-stands es k e (Branch f ks) there named h = ((e, there, sym named), each-stand es (children_of es k) ks h)

mutual
  built-stands : {net : Net} {starts : Starts} {k : ℕ} {s : Shown} → IsBuilt net starts k s → StandsFor net.entities.items k (outline_of s)
  built-stands (built_actor k e a there undirected started) = ((e, there, refl), tt)
  built-stands {net = net} (built_composite k e director kids s there directed built is) =
      node-stands net.entities.items k e s there is.path_is (subst (λ v. EachStands net.entities.items (children_of net.entities.items k) v) (sym is.children) (all-stand built))

  all-stand : {net : Net} {starts : Starts} {ks : List ℕ} {ss : List Shown} → AreBuilt net starts ks ss → EachStands net.entities.items ks ss
  all-stand none_built = tt
  all-stand (more_built k ks s ss b bs) = (built-stands b, all-stand bs)

pub built-nodes : BuiltNodesStand
built-nodes net starts k s b = built-stands b
