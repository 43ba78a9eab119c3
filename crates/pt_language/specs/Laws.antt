-- The laws of the types of expressions: what has a type is never wrong, and types grow with those of the names.
use Rattle.std.specs.Prelude.{◌≡◌, ℕ, List, false, Option, Some, None, IsSome, IfSome}
use Rattle.pt_value.specs.Value.{Value}
use Rattle.pt_datatypes.specs.Datatype.{Datatype}
use Rattle.pt_datatypes.specs.Order.{IsBelow}
use Rattle.pt_datatypes.specs.Token.{type_of_value}
use Rattle.pt_language.specs.Comparable.{is_general}
use Rattle.pt_language.specs.Outcome.{Outcome, Gives, Stops, Wrong}
use Rattle.pt_language.specs.Scope.{Scope, port_in}
use Rattle.pt_language.specs.Meaning.{value}
use Rattle.pt_language.specs.Tree.{Tree}
use Rattle.pt_language.specs.Typing as typing
use Rattle.pt_language.specs.Types.{Types}
use Rattle.pt_language.specs.TreeType.{tree_type, IsTyped}
use Rattle.pt_language.specs.Rule.{type_or_general}

-- what is bound under a name of this type: nothing, or a token of a type below
abbrev pub IsHeld : Datatype → Option (Option Value) → Type 0
IsHeld t None = ⊥
IsHeld t (Some None) = Unit {0}
IsHeld t (Some (Some v)) = IsBelow (type_of_value v) t

-- each name that has a type is bound and holds what is of its type; a name that asks about a port, and has no type, isn't bound
pub record Keeps (types : Types) (scope : Scope) : Type 0 where
  pub held : (name : List ℕ) → IfSome (types name) (λ t. IsHeld t (scope name))
  pub asked : (name : List ℕ) → IsSome (port_in name) → types name ≡ None → scope name ≡ None

-- it isn't wrong, and what it gives has a type below
abbrev pub IsOfType : Datatype → Outcome Value → Type 0
IsOfType t (Gives v) = IsBelow (type_of_value v) t
IsOfType t (Stops fault) = Unit {0}
IsOfType t Wrong = ⊥

-- where the tokens under the names are of the names' types, the value of a tree is of the tree's type
abbrev pub TypedTreesAreSound : Type 0
TypedTreesAreSound = (types : Types) (scope : Scope) → Keeps types scope → (tree : Tree) (t : Datatype) → IsTyped types tree t → IsOfType t (value scope tree)

-- neither has a type, or the second a greater one
abbrev pub IsBelowAt : Option Datatype → Option Datatype → Type 0
IsBelowAt None None = Unit {0}
IsBelowAt (Some s) (Some t) = IsBelow s t
IsBelowAt None (Some t) = ⊥
IsBelowAt (Some s) None = ⊥

-- the same names have types, and those of the second are greater
abbrev pub AreBelow : Types → Types → Type 0
AreBelow fewer more = (name : List ℕ) → IsBelowAt (fewer name) (more name)

-- greater types of the names give no smaller type of a tree, where a clash is above all types
abbrev pub TreeTypesGrow : Type 0
TreeTypesGrow = (fewer more : Types) → AreBelow fewer more → (tree : Tree) → typing.IsBelow (tree_type fewer tree) (tree_type more tree)

-- where what a rule makes of a tree isn't general, it is the tree's type
abbrev pub ProperTreesAreTyped : Type 0
ProperTreesAreTyped = (types : Types) (tree : Tree) → is_general (type_or_general types tree) ≡ false → IsTyped types tree (type_or_general types tree)
