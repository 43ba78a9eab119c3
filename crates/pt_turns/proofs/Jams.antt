-- A jam within a child is one within its composite, and a composite's own is by what is kept of its children.
use Rattle.std.proofs.Common.{◌≡◌, ℕ, suc, ◌+◌, List, [], ◌∷◌, set, Some, sym, ap, subst, ◌∙◌, arith}
use Rattle.pt_meaning.specs.Basics.{Tag, Streams, Path}
use Rattle.pt_meaning.specs.Streams.{get}
use Rattle.pt_meaning.specs.Meetings.{Meets}
use Rattle.pt_meaning.specs.Children.{numbered}
use Rattle.pt_meaning.specs.Tree as tree
use Rattle.pt_meaning.specs.Asked.{HaveMade, IsJammed}
use Rattle.pt_value.specs.declared.token.Token.{Token}
use Rattle.pt_records.specs.Kept.{Kept, kept_at}
use Rattle.pt_library.specs.LibraryActor.{rows}
use Rattle.pt_node.specs.Shown.{Shown, Branch, all_of}
use Rattle.pt_node.specs.View.{node_of, nodes_of, kept_of, kepts_of, Outlines, outline_of, outlines_of, maximum_at, maximum_below}
use Rattle.pt_turns.proofs.Children.{maxima-get}
use Rattle.pt_turns.proofs.MadeOf.{kept-after}
use Rattle.pt_turns.proofs.Recording.{made-own}

-- the number of firings that is kept of a node
made-kept : (s : Shown) → tree.made_of (node_of s) ≡ (kept_of s []).count
made-kept (Branch g ks) = made-own (Branch g ks)

-- children have made the numbers of firings that are kept of them
made-from : (count : Path → ℕ) (n : ℕ) (ss : List Shown) → ((j : ℕ) → (kept_at (kepts_of (all_of ss)) j []).count ≡ count ((n + j) ∷ [])) → HaveMade count (numbered n (tree.list_of (nodes_of (all_of ss))))
made-from count n [] h = tt
made-from count n (s ∷ ss) h = (
  let same : n + 0 ≡ n = omega arith in made-kept s ∙ h 0 ∙ ap (λ v. count (v ∷ [])) same,
  made-from count (suc n) ss (λ j. let same : n + suc j ≡ suc n + j = omega arith in h (suc j) ∙ ap (λ v. count (v ∷ [])) same),
)

pub have-made : (count : Path → ℕ) (ss : List Shown) → ((j : ℕ) → (kept_at (kepts_of (all_of ss)) j []).count ≡ count (j ∷ [])) → HaveMade count (numbered 0 (tree.list_of (nodes_of (all_of ss))))
have-made count ss h = made-from count 0 ss (λ j. let same : j ≡ 0 + j = omega arith in h j ∙ ap (λ v. count (v ∷ [])) same)

-- a jam of a child, by the maximum capacities that are told of the composite's children and by what is kept of them once the child has stopped
module _ (m : Meets) (now : List Shown) (i : ℕ) (child after : Shown) (e : get now i ≡ Some child) (names : Outlines) (named : outlines_of (all_of now) ≡ names) where
  pub jam-below : (k : ℕ) (p : Path) (tag : Tag) (X : Streams Token) (full : List (ℕ × ℕ)) → IsJammed rows k p m (maximum_at (outline_of child)) (λ q. (kept_of after q).count) (node_of child) tag X full →
      IsJammed rows k p m (maximum_below names i) (λ q. (kept_at (kepts_of (all_of (set now i after))) i q).count) (node_of child) tag X full
  jam-below k p tag X full j =
      subst (λ (v : Kept Token). IsJammed rows k p m (maximum_below names i) (λ q. (v q).count) (node_of child) tag X full) (sym (kept-after m now i child after e))
      (subst (λ os. IsJammed rows k p m (maximum_below os i) (λ q. (kept_of after q).count) (node_of child) tag X full) named
      (subst (λ (f : Path → ℕ). IsJammed rows k p m f (λ q. (kept_of after q).count) (node_of child) tag X full) (sym (maxima-get now i child e)) j))
