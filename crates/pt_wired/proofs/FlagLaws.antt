-- The flags of children that may give early answers, one after another.
use Rattle.std.proofs.Common.{◌≡◌, ℕ, ◌+◌, ◌<◌, List, [], ◌∷◌, ◌++◌, length, take, map, get_or, Bool, sym, ap, ap₂, ◌∙◌}
use Rattle.pt_node.specs.declared.node.Node.{Node}
use Rattle.pt_node.specs.Shown.{shown_node}
use Rattle.pt_node.specs.View.{node_of}
use Rattle.pt_trees.proofs.NodeLaws.{trees, trees-more, map-append}
use Rattle.pt_wired.specs.Nonstrict.{is_nonstrict}

-- one child more that may give an early answer, or not
pub flags-more : (kids : List Node) (i : ℕ) (d : Node) (flags : List Bool) (flag : Bool) → i < length kids → d ≡ get_or kids i d → flags ≡ map is_nonstrict (trees (take i kids)) → flag ≡ is_nonstrict (node_of (shown_node d)) → flags ++ flag ∷ [] ≡ map is_nonstrict (trees (take (i + 1) kids))
flags-more kids i d flags flag h is e f =
    ap₂ (λ (v : List Bool) (w : Bool). v ++ w ∷ []) e f ∙ sym (map-append is_nonstrict (trees (take i kids)) (node_of (shown_node d) ∷ [])) ∙ ap (λ v. map is_nonstrict v) (sym (trees-more kids i d h is))
