-- The type of a tree where some of its names may have no types: then it is general, and else that of the tree.
use Rattle.std.proofs.Common.{◌≡◌, ℕ, List, ◌∷◌, Bool, true, false, Option, Some, None, refl, sym, ap, subst, ◌∙◌, if◌then◌else◌}
use Rattle.std.specs.Prelude.{is_some, unwrap_or}
use Rattle.pt_datatypes.specs.Datatype.{Datatype, Unknown, General}
use Rattle.pt_datatypes.specs.Normal.{array_of}
use Rattle.pt_datatypes.specs.Order.{IsBelow}
use Rattle.pt_datatypes.specs.Join.{join}
use Rattle.pt_datatypes.proofs.Fields.{and_left, and_right, and_both}
use Rattle.pt_datatypes.proofs.Order.{below-refl, below-General}
use Rattle.pt_language.specs.Tree as tree
use Rattle.pt_language.specs.Tree.{Tree, Trees, no_trees, tree_then, NamedTrees}
use Rattle.pt_language.specs.Typing.{Has, and_then, or_general}
use Rattle.pt_language.specs.Types.{Types, type_under, is_bound}
use Rattle.pt_language.specs.TreeType.{number, truth, calculated, operated, chosen, applied, field, length_of, recorded, tree_type, parts_type, named_types, are_bound, are_parts_bound, are_fields_bound}
use Rattle.pt_language.specs.Rule.{type_or_general}

-- a name that has a type among the first has the same among the second
abbrev pub HasAtLeast : Types → Types → Type 0
HasAtLeast fewer more = (name : List ℕ) (t : Datatype) → type_under fewer name ≡ Some t → type_under more name ≡ Some t

some-of : (o : Option Datatype) → is_some o ≡ true → (t : Datatype) × (o ≡ Some t)
some-of (Some t) e = (t, refl)
some-of None e = absurd (cc)

module _ (fewer more : Types) (h : HasAtLeast fewer more) where
  under-same : (name : List ℕ) → is_bound fewer name ≡ true → type_under more name ≡ type_under fewer name
  under-same name e = let w = some-of (type_under fewer name) e in h name w.0 w.1 ∙ sym w.1

  mutual
    pub bound-more : (t : Tree) → are_bound fewer t ≡ true → are_bound more t ≡ true
    bound-more (tree.Int n) e = refl
    bound-more (tree.Bool b) e = refl
    bound-more (tree.Words xs) e = refl
    bound-more (tree.Name name) e = ap is_some (under-same name e) ∙ e
    bound-more (tree.Array ts) e = parts-more ts e
    bound-more (tree.Record fs) e = fields-more fs e
    bound-more (tree.Negate t) e = bound-more t e
    bound-more (tree.Not t) e = bound-more t e
    bound-more (tree.Binary o s t) e = and_both _ _ (bound-more s (and_left _ _ e)) (bound-more t (and_right (are_bound fewer s) _ e))
    bound-more (tree.Cond s t u) e =
        let later = and_right (are_bound fewer s) _ e in
        and_both _ _ (bound-more s (and_left _ _ e)) (and_both _ _ (bound-more t (and_left _ _ later)) (bound-more u (and_right (are_bound fewer t) _ later)))
    bound-more (tree.Abs t) e = bound-more t e
    bound-more (tree.Max s t) e = and_both _ _ (bound-more s (and_left _ _ e)) (bound-more t (and_right (are_bound fewer s) _ e))
    bound-more (tree.Min s t) e = and_both _ _ (bound-more s (and_left _ _ e)) (bound-more t (and_right (are_bound fewer s) _ e))
    bound-more (tree.Apply s t) e = and_both _ _ (bound-more s (and_left _ _ e)) (bound-more t (and_right (are_bound fewer s) _ e))
    bound-more (tree.Field t name) e = bound-more t e
    bound-more (tree.Length t) e = bound-more t e

    parts-more : (ts : Trees) → are_parts_bound fewer ts ≡ true → are_parts_bound more ts ≡ true
    parts-more no_trees e = refl
    parts-more (tree_then t ts) e = and_both _ _ (bound-more t (and_left _ _ e)) (parts-more ts (and_right (are_bound fewer t) _ e))

    fields-more : (fs : NamedTrees) → are_fields_bound fewer fs ≡ true → are_fields_bound more fs ≡ true
    fields-more tree.no_fields e = refl
    fields-more (tree.field_then n t fs) e = and_both _ _ (bound-more t (and_left _ _ e)) (fields-more fs (and_right (are_bound fewer t) _ e))

  mutual
    pub type-same : (t : Tree) → are_bound fewer t ≡ true → tree_type more t ≡ tree_type fewer t
    type-same (tree.Int n) e = refl
    type-same (tree.Bool b) e = refl
    type-same (tree.Words xs) e = refl
    type-same (tree.Name name) e = ap (λ o. Has (unwrap_or o Unknown)) (under-same name e)
    type-same (tree.Array ts) e = λ i. and_then (parts-same ts e i) (λ t. Has (array_of t))
    type-same (tree.Record fs) e = λ i. and_then (fields-same fs e i) recorded
    type-same (tree.Negate t) e = λ i. and_then (type-same t e i) number
    type-same (tree.Not t) e = λ i. and_then (type-same t e i) truth
    type-same (tree.Binary o s t) e = λ i. and_then (type-same s (and_left _ _ e) i) (λ a. and_then (type-same t (and_right (are_bound fewer s) _ e) i) (operated o a))
    type-same (tree.Cond s t u) e =
        let later = and_right (are_bound fewer s) _ e in
        λ i. and_then (type-same s (and_left _ _ e) i) (λ a. and_then (type-same t (and_left _ _ later) i) (λ b. and_then (type-same u (and_right (are_bound fewer t) _ later) i) (chosen a b)))
    type-same (tree.Abs t) e = λ i. and_then (type-same t e i) number
    type-same (tree.Max s t) e = λ i. and_then (type-same s (and_left _ _ e) i) (λ a. and_then (type-same t (and_right (are_bound fewer s) _ e) i) (calculated a))
    type-same (tree.Min s t) e = λ i. and_then (type-same s (and_left _ _ e) i) (λ a. and_then (type-same t (and_right (are_bound fewer s) _ e) i) (calculated a))
    type-same (tree.Apply s t) e = λ i. and_then (type-same s (and_left _ _ e) i) (λ a. and_then (type-same t (and_right (are_bound fewer s) _ e) i) (applied a))
    type-same (tree.Field t name) e = λ i. and_then (type-same t e i) (field name)
    type-same (tree.Length t) e = λ i. and_then (type-same t e i) length_of

    parts-same : (ts : Trees) → are_parts_bound fewer ts ≡ true → parts_type more ts ≡ parts_type fewer ts
    parts-same no_trees e = refl
    parts-same (tree_then t ts) e = λ i. and_then (type-same t (and_left _ _ e) i) (λ a. and_then (parts-same ts (and_right (are_bound fewer t) _ e) i) (λ b. Has (join a b)))

    fields-same : (fs : NamedTrees) → are_fields_bound fewer fs ≡ true → named_types more fs ≡ named_types fewer fs
    fields-same tree.no_fields e = refl
    fields-same (tree.field_then n t fs) e = λ i. and_then (type-same t (and_left _ _ e) i) (λ a. and_then (fields-same fs (and_right (are_bound fewer t) _ e) i) (λ ps. Has ((n, a) ∷ ps)))

  -- with more names it has no greater type
  pub tree-below : (t : Tree) → IsBelow (type_or_general more t) (type_or_general fewer t)
  tree-below t = by_test (are_bound fewer t) refl
    where
      by_test : (b : Bool) → are_bound fewer t ≡ b → IsBelow (type_or_general more t) (if b then or_general (tree_type fewer t) else General)
      by_test true e =
          subst (λ u. IsBelow u (or_general (tree_type fewer t)))
          (sym (ap (λ b. if b then or_general (tree_type more t) else General) (bound-more t e) ∙ ap or_general (type-same t e)))
          (below-refl (or_general (tree_type fewer t)))
      by_test false e = below-General (type_or_general more t)
