-- The needs of the nodes of children, one after another.
use Rattle.std.proofs.Common.{◌≡◌, ℕ, ◌+◌, ◌<◌, List, [], ◌∷◌, ◌++◌, length, take, get_or, Option, sym, ap, ap₂, ◌∙◌, subst, arith}
use Rattle.std.proofs.lemmas.List.{take_more}
use Rattle.pt_meaning.specs.NodeFacts.{facts_of}
use Rattle.pt_sdf_parts.specs.ByNeed.{planned}
use Rattle.pt_library.specs.LibraryActor.{rows}
use Rattle.pt_node.specs.declared.node.Node.{Node}
use Rattle.pt_node.specs.Shown.{shown_node}
use Rattle.pt_node.specs.View.{Tree, node_of}
use Rattle.pt_trees.proofs.NeedLaws.{needs-append, needs-length, planned-length, total-append, planned-snoc, need-at}
use Rattle.pt_trees.proofs.NodeLaws.{trees, trees-length, trees-more, get-at, tree-at}
use Rattle.pt_wired.specs.Needs.{Needs, NeedAll}

-- one child more
pub need-more : (kids : List Tree) (places ns new : List ℕ) (kid : Tree) (count : ℕ) → NeedAll kids places ns → (ms : List ℕ) × Needs kid count ms × (new ≡ ns ++ ms) → NeedAll (kids ++ kid ∷ []) (places ++ count ∷ []) new
need-more kids places ns new kid count all (ms, h, is) = record {
  needs =
      needs-append (facts_of rows) kids (kid ∷ []) ∙ ap₂ (λ v w. v ++ w ∷ []) all.needs h.need ∙ sym (planned-snoc places count ns ms all.counted h.counted) ∙ ap (λ v. planned (places ++ count ∷ []) v) (sym is);
  counted = ap (λ (v : List ℕ). length v) is ∙ long ns ms ∙ ap₂ (λ v w. v + w) all.counted h.counted ∙ sym (total-append places (count ∷ []) ∙ omega arith);
}
  where
    long : (xs ys : List ℕ) → length (xs ++ ys) ≡ length xs + length ys
    long [] ys = omega arith
    long (x ∷ xs) ys = omega (arith, long xs ys)

pub needs-step : (kids : List Node) (places ns new : List ℕ) (i count : ℕ) (d : Node) → i < length kids → i < length places → d ≡ get_or kids i d → count ≡ get_or places i 0 →
    NeedAll (trees (take i kids)) (take i places) ns → (ms : List ℕ) × Needs (node_of (shown_node d)) count ms × (new ≡ ns ++ ms) → NeedAll (trees (take (i + 1) kids)) (take (i + 1) places) new
needs-step kids places ns new i count d h g is at all added =
    subst (λ v. NeedAll v (take (i + 1) places) new) (sym (trees-more kids i d h is))
    (subst (λ v. NeedAll (trees (take i kids) ++ node_of (shown_node d) ∷ []) v new) (sym (take_more places i 0 g ∙ ap (λ n. take i places ++ n ∷ []) (sym at)))
    (need-more (trees (take i kids)) (take i places) ns new (node_of (shown_node d)) count all added))

-- a child that has no such need
pub needs-none : (kids : List Node) (places : List ℕ) (i count : ℕ) (d : Node) → i < length kids → i < length places → d ≡ get_or kids i d → count ≡ get_or places i 0 →
    ((ms : List ℕ) → Needs (node_of (shown_node d)) count ms → ⊥) → (ns : List ℕ) → NeedAll (trees kids) places ns → ⊥
needs-none kids places i count d h g is at none ns all =
    let r = need-at (facts_of rows) (trees kids) places ns all.needs all.counted i (node_of (shown_node d)) count (tree-at kids i d h is) (get-at places i 0 g ∙ ap (λ (n : ℕ). Option.Some n) (sym at)) in
    none r.0 (record { need = r.1; counted = r.2 })

pub needs-counted : (kids : List Node) (places ns : List ℕ) → NeedAll (trees kids) places ns → length kids ≡ length places
needs-counted kids places ns all = sym (trees-length kids) ∙ sym (needs-length (facts_of rows) (trees kids)) ∙ ap (λ v. length v) all.needs ∙ planned-length places ns
