-- What a text of an expression comes to where its names have values, and where it is at fault.
use Rattle.std.specs.Prelude.{◌≡◌, ℕ, List, [], ◌∷◌, ◌++◌, Option, Some, None}
use Rattle.std.specs.List.{Contains}
use Rattle.pt_value.specs.Value.{Value}
use Rattle.pt_datatypes.specs.Datatype.{Datatype}
use Rattle.pt_datatypes.specs.Token.{type_of_value}
use Rattle.pt_document.specs.declared.code.Code.{Code}
use Rattle.pt_document.specs.declared.code.Code.TheVariants as code
use Rattle.pt_language.specs.declared.eval_fault.EvalFault.{EvalFault}
use Rattle.pt_language.specs.Outcome.{Gives, Stops}
use Rattle.pt_language.specs.Scope.{Scope}
use Rattle.pt_language.specs.Meaning.{value}
use Rattle.pt_language.specs.Tree as tree
use Rattle.pt_language.specs.Tree.{Tree, Trees, no_trees, tree_then, NamedTrees}
use Rattle.pt_language.specs.Text.{ReadsAs}
use Rattle.pt_language.specs.Deep.{IsDeep}
use Rattle.pt_language.specs.Typing.{Has, Clash}
use Rattle.pt_language.specs.Types.{Types}
use Rattle.pt_language.specs.TreeType.{tree_type}

-- the text isn't too deep, and reads as the tree
pub record IsRead (text : List ℕ) (t : Tree) : Type 0 where
  pub shallow : IsDeep text → ⊥
  pub reads : ReadsAs text t

-- the names in a tree, from left to right
abbrev mutual
  pub names_in : Tree → List (List ℕ)
  names_in (tree.Int n) = []
  names_in (tree.Bool b) = []
  names_in (tree.Words xs) = []
  names_in (tree.Name name) = name ∷ []
  names_in (tree.Array ts) = names_in_parts ts
  names_in (tree.Record fs) = names_in_fields fs
  names_in (tree.Negate t) = names_in t
  names_in (tree.Not t) = names_in t
  names_in (tree.Binary o s t) = names_in s ++ names_in t
  names_in (tree.Cond s t u) = names_in s ++ (names_in t ++ names_in u)
  names_in (tree.Abs t) = names_in t
  names_in (tree.Max s t) = names_in s ++ names_in t
  names_in (tree.Min s t) = names_in s ++ names_in t
  names_in (tree.Apply s t) = names_in s ++ names_in t
  names_in (tree.Field t name) = names_in t
  names_in (tree.Length t) = names_in t

  pub names_in_parts : Trees → List (List ℕ)
  names_in_parts no_trees = []
  names_in_parts (tree_then t ts) = names_in t ++ names_in_parts ts

  pub names_in_fields : NamedTrees → List (List ℕ)
  names_in_fields tree.no_fields = []
  names_in_fields (tree.field_then n t fs) = names_in t ++ names_in_fields fs

-- ---- names with values

-- the type of what is bound under a name; what has no value, since it is itself at fault, has no type
abbrev pub type_of_held : Option (Option Value) → Option Datatype
type_of_held (Some (Some v)) = Some (type_of_value v)
type_of_held (Some None) = None
type_of_held None = None

-- a name has the type of its value
abbrev pub types_of : Scope → Types
types_of scope name = type_of_held (scope name)

-- each name in the tree has a value
abbrev pub AreKnown : Scope → Tree → Type 0
AreKnown scope t = (name : List ℕ) → Contains (names_in t) name → (v : Value) × (scope name ≡ Some (Some v))

-- in this scope the text reads as a tree without a clash, and comes to the value
pub record HasValue (scope : Scope) (text : List ℕ) (v : Value) : Type 0 where
  pub read : Tree
  pub is_read : IsRead text read
  pub known : AreKnown scope read
  pub type : Datatype
  pub typed : tree_type (types_of scope) read ≡ Has type
  pub gives : value scope read ≡ Gives v

-- ---- faults

-- no tree reads as the text
pub record IsNoTree (text : List ℕ) : Type 0 where
  pub shallow : IsDeep text → ⊥
  pub none : (t : Tree) → ReadsAs text t → ⊥

-- a name in the tree isn't in scope
pub record HasStrangeName (IsIn : List ℕ → Type 0) (text : List ℕ) : Type 0 where
  pub read : Tree
  pub is_read : IsRead text read
  pub name : List ℕ
  pub stands : Contains (names_in read) name
  pub strange : IsIn name → ⊥

-- the operands of the tree don't fit its operators
pub record HasClash (scope : Scope) (text : List ℕ) : Type 0 where
  pub read : Tree
  pub is_read : IsRead text read
  pub known : AreKnown scope read
  pub clash : tree_type (types_of scope) read ≡ Clash

-- the evaluation has a fault
pub record HasFault (scope : Scope) (text : List ℕ) : Type 0 where
  pub read : Tree
  pub is_read : IsRead text read
  pub known : AreKnown scope read
  pub type : Datatype
  pub typed : tree_type (types_of scope) read ≡ Has type
  pub fault : EvalFault
  pub stops : value scope read ≡ Stops fault

-- a name is bound, to a value or to one that is at fault
pub record IsBound (scope : Scope) (name : List ℕ) : Type 0 where
  pub held : Option Value
  pub is : scope name ≡ Some held

-- a text isn't read
abbrev pub IsReaderFault : List ℕ → Code → Type 0
IsReaderFault text code.Limit = IsDeep text
IsReaderFault text code.ExprSyntax = IsNoTree text
IsReaderFault text _ = ⊥

-- at what a text that is evaluated in this scope is at fault; one that names what is itself at fault has no fault of its own
-- but in its words and in its names
abbrev pub IsTextFault : Scope → List ℕ → Code → Type 0
IsTextFault scope text code.Limit = IsDeep text
IsTextFault scope text code.ExprSyntax = IsNoTree text
IsTextFault scope text code.ExprName = HasStrangeName (IsBound scope) text
IsTextFault scope text code.Type = HasClash scope text
IsTextFault scope text code.Value = HasFault scope text
IsTextFault scope text _ = ⊥

-- at what a text that is read and not evaluated is at fault
abbrev pub IsTreeFault : (List ℕ → Type 0) → List ℕ → Code → Type 0
IsTreeFault IsIn text code.Limit = IsDeep text
IsTreeFault IsIn text code.ExprSyntax = IsNoTree text
IsTreeFault IsIn text code.ExprName = HasStrangeName IsIn text
IsTreeFault IsIn text _ = ⊥

-- a tree that reads as the text, each of whose names is in scope
pub record IsTreeOf (IsIn : List ℕ → Type 0) (text : List ℕ) (t : Tree) : Type 0 where
  pub is_read : IsRead text t
  pub named : (name : List ℕ) → Contains (names_in t) name → IsIn name
