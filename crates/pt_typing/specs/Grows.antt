-- What a term means grows with the types of its variables.
use Rattle.std.proofs.Common.{◌≡◌, ℕ, Bool, true, false, List, [], ◌∷◌, map, Option, None, Some, if◌then◌else◌, refl}
use Rattle.std.specs.Str.{bytes_eq}
use Rattle.pt_datatypes.specs.Datatype.{Datatype, Array, General}
use Rattle.pt_datatypes.specs.Order.{IsBelow}
use Rattle.pt_datatypes.specs.Rules.{AllBelow, type_at}
use Rattle.pt_datatypes.proofs.Joins.{normal-below}
use Rattle.pt_datatypes.proofs.Order.{below-refl}
use Rattle.pt_language.specs.Tree.{Tree}
use Rattle.pt_language.specs.Typing.{or_general}
use Rattle.pt_language.specs.Types.{Types}
use Rattle.pt_language.specs.TreeType as trees
use Rattle.pt_language.specs.TreeType.{tree_type, are_bound}
use Rattle.pt_language.specs.Rule.{type_or_general}
use Rattle.pt_language.specs.Laws.{IsBelowAt, AreBelow}
use Rattle.pt_language.specs.Grows.{or_else-below, or_general-below, tree_type-below, bound-same, is-below, element-below, field-below, recorded-below, EntriesBelow}
use Rattle.pt_typing.specs.Terms.{Term, Same, Fixed, ArrayOf, ElementOf, FieldOf, RecordOf, TreeOf, meaning, named, itself, names_types, entry_in}

one-below : (b : Bool) (s t : Datatype) → IsBelow s t → IsBelowAt (if b then Some s else None) (if b then Some t else None)
one-below true s t h = h
one-below false s t h = tt

same-below : (o : Option Datatype) → IsBelowAt o o
same-below None = tt
same-below (Some t) = below-refl t

chosen-below : (b c : Bool) (p q : Datatype) → b ≡ c → IsBelow p q → IsBelow (if b then p else General) (if c then q else General)
chosen-below true true p q e h = h
chosen-below true false p q e h = cc
chosen-below false true p q e h = cc
chosen-below false false p q e h = refl

tree-grows : (fewer more : Types) → AreBelow fewer more → (t : Tree) → IsBelow (type_or_general fewer t) (type_or_general more t)
tree-grows fewer more h t =
    chosen-below (are_bound fewer t) (are_bound more t) (or_general (tree_type fewer t)) (or_general (tree_type more t)) (bound-same fewer more h t) (or_general-below (tree_type fewer t) (tree_type more t) (tree_type-below fewer more h t))

module _ {V : Type 0} where
  -- variables have no smaller types
  abbrev IsUnder : (V → Datatype) → (V → Datatype) → Type 0
  IsUnder f g = (v : V) → IsBelow (f v) (g v)

  entries-below : (f g : V → Datatype) → IsUnder f g → (xs : List (List ℕ × V)) → EntriesBelow (map (entry_in f) xs) (map (entry_in g) xs)
  entries-below f g h [] = tt
  entries-below f g h (x ∷ xs) = (refl, h x.1, entries-below f g h xs)

  named-below : (f g : V → Datatype) → IsUnder f g → (xs : List (List ℕ × V)) → AreBelow (named f xs) (named g xs)
  named-below f g h [] name = tt
  named-below f g h (x ∷ xs) name = or_else-below (named f xs name) (named g xs name) _ _ (named-below f g h xs name) (one-below (bytes_eq x.0 name) (f x.1) (g x.1) (h x.1))

  names-below : (f g : V → Datatype) → IsUnder f g → (xs : List (List ℕ × V)) (known : List (List ℕ × Datatype)) → AreBelow (names_types f xs known) (names_types g xs known)
  names-below f g h xs known name = or_else-below (named f xs name) (named g xs name) (named itself known name) (named itself known name) (named-below f g h xs name) (same-below (named itself known name))

  pub under-grows : (t : Term V) (f g : V → Datatype) → IsUnder f g → IsBelow (meaning f t) (meaning g t)
  under-grows (Same v) f g h = h v
  under-grows (Fixed t) f g h = below-refl t
  under-grows (ArrayOf v) f g h = normal-below (Array (f v)) (Array (g v)) (h v)
  under-grows (ElementOf v) f g h = or_general-below (trees.element (f v)) (trees.element (g v)) (is-below (trees.element (f v)) (trees.element (g v)) (element-below (f v) (g v) (h v)))
  under-grows (FieldOf v name) f g h = or_general-below (trees.field name (f v)) (trees.field name (g v)) (is-below (trees.field name (f v)) (trees.field name (g v)) (field-below name (f v) (g v) (h v)))
  under-grows (RecordOf fs) f g h =
      let xs = map (entry_in f) fs in
      let ys = map (entry_in g) fs in
      or_general-below (trees.recorded xs) (trees.recorded ys) (is-below (trees.recorded xs) (trees.recorded ys) (recorded-below xs ys (entries-below f g h fs)))
  under-grows (TreeOf t ports known) f g h = tree-grows (names_types f ports known) (names_types g ports known) (names-below f g h ports known) t
