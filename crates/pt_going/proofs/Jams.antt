-- What is counted where a network within a firing is in a jam: the firing isn't finished.
use Rattle.std.proofs.Common.{◌≡◌, ℕ, List, [], ◌∷◌, refl}
use Rattle.pt_meaning.specs.Asked.{IsJammed}
use Rattle.pt_meaning.specs.Basics.{Tag, Streams, Path}
use Rattle.pt_meaning.specs.Meetings.{Meets}
use Rattle.pt_meaning.specs.Tree as tree
use Rattle.pt_meaning.specs.Tree.{made_of}
use Rattle.pt_value.specs.declared.token.Token.{Token}
use Rattle.pt_library.specs.LibraryActor.{rows}
use Rattle.pt_node.specs.declared.body.Body.{Body}
use Rattle.pt_node.specs.declared.body.Body.TheVariants.{Actor, Composite}
use Rattle.pt_node.specs.Shown.{Shown, Branch}
use Rattle.pt_node.specs.View.{Tree, Trees, node_of, nodes_of, node_with, kept_of}

-- the firings that are counted at the top are those that it made before
module _ (k : ℕ) (m : Meets) (maximum count : Path → ℕ) (tag : Tag) (X : Streams Token) (full : List (ℕ × ℕ)) where
  network-made : (h : tree.Past) (c d : tree.Core Token) (kids : Trees) → IsJammed rows k [] m maximum count (tree.Composite h c d kids) tag X full → h.made ≡ count []
  network-made h c (tree.Sdf p Y) kids jam = absurd jam
  network-made h c (tree.Pn p Y) kids jam = jam.0
  network-made h c (tree.Sr p) kids jam = absurd jam
  network-made h c (tree.De p) kids jam = absurd jam
  network-made h c (tree.Rv p Y) kids jam = absurd jam
  network-made h c (tree.Modal chart n) kids jam = absurd jam

  pub jammed-made : (p : Path) (n : Tree) → IsJammed rows k p m maximum count n tag X full → made_of n ≡ count []
  jammed-made p (tree.Actor h a b) jam = absurd jam
  jammed-made [] (tree.Composite h c d kids) jam = network-made h c d kids jam
  jammed-made (i ∷ p) (tree.Composite h c d kids) jam = jam.0

pub made-kept : (s : Shown) → made_of (node_of s) ≡ (kept_of s []).count
made-kept (Branch f ks) = by_body f.body
  where
    by_body : (b : Body) → made_of (node_with f.past b (nodes_of ks)) ≡ f.past.made
    by_body (Actor held) = refl
    by_body (Composite director) = refl
