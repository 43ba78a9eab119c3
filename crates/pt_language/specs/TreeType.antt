-- The type of an expression where its names have types (by the profile). Operators take operands of unknown type: no token ever passes there.
use Rattle.std.specs.Prelude.{◌≡◌, ℕ, List, [], ◌∷◌, map, Bool, true, not, ◌&&◌, unwrap_or, IsTrue, if◌then◌else◌}
use Rattle.std.specs.Str.{bytes_eq}
use Rattle.pt_datatypes.specs.Datatype.{Datatype, Unknown, Int, Boolean, Words, Array, Record, FieldTypes, no_fields, field_then, types_of}
use Rattle.pt_datatypes.specs.Normal.{array_of, record_of}
use Rattle.pt_datatypes.specs.Order.{is_below}
use Rattle.pt_datatypes.specs.Join.{join}
use Rattle.pt_language.specs.declared.expr.BinaryOp.{BinaryOp}
use Rattle.pt_language.specs.declared.expr.BinaryOp.TheVariants as op
use Rattle.pt_language.specs.Comparable.{is_general}
use Rattle.pt_language.specs.RecordOf.{make_record}
use Rattle.pt_language.specs.Tree as tree
use Rattle.pt_language.specs.Tree.{Tree, Trees, no_trees, tree_then, NamedTrees}
use Rattle.pt_language.specs.Typing.{Typing, Has, Clash, and_then, where_true}
use Rattle.pt_language.specs.Types.{Types, type_under, is_bound}
use Rattle.pt_language.specs.ByName.{by_name}

-- ---- what each operator makes of the types of its operands

-- an integer
abbrev pub number : Datatype → Typing Datatype
number t = where_true (is_below t Int) Int

-- a truth value
abbrev pub truth : Datatype → Typing Datatype
truth t = where_true (is_below t Boolean) Boolean

-- two operands below a type
abbrev pub are_both : Datatype → Datatype → Datatype → Bool
are_both bound s t = is_below s bound && is_below t bound

-- integers are added, and texts are joined
abbrev pub summed : Datatype → Typing Datatype
summed Unknown = Has Unknown
summed Int = Has Int
summed Words = Has Words
summed _ = Clash

-- two integers give one
abbrev pub calculated : Datatype → Datatype → Typing Datatype
calculated s t = where_true (are_both Int s t) Int

-- two integers in order
abbrev pub ordered : Datatype → Datatype → Typing Datatype
ordered s t = where_true (are_both Int s t) Boolean

-- two truth values
abbrev pub decided : Datatype → Datatype → Typing Datatype
decided s t = where_true (are_both Boolean s t) Boolean

-- equal or not: two types whose join isn't general
abbrev pub compared : Datatype → Datatype → Typing Datatype
compared s t = where_true (not (is_general (join s t))) Boolean

abbrev pub operated : BinaryOp → Datatype → Datatype → Typing Datatype
operated op.Or s t = decided s t
operated op.And s t = decided s t
operated op.Equal s t = compared s t
operated op.Unequal s t = compared s t
operated op.Less s t = ordered s t
operated op.LessEqual s t = ordered s t
operated op.Greater s t = ordered s t
operated op.GreaterEqual s t = ordered s t
operated op.Add s t = summed (join s t)
operated op.Subtract s t = calculated s t
operated op.Multiply s t = calculated s t
operated op.Divide s t = calculated s t
operated op.Remainder s t = calculated s t

-- `c ? s : t` has the join of both branches
abbrev pub chosen : Datatype → Datatype → Datatype → Typing Datatype
chosen c s t = where_true (is_below c Boolean) (join s t)

-- what an array has as elements
abbrev pub element : Datatype → Typing Datatype
element Unknown = Has Unknown
element (Array t) = Has t
element _ = Clash

-- an array at an index
abbrev pub applied : Datatype → Datatype → Typing Datatype
applied s t = if is_below t Int then element s else Clash

-- the type under a name among the fields of a record
abbrev pub type_in : FieldTypes → List ℕ → Typing Datatype
type_in no_fields name = Clash
type_in (field_then n t fs) name = if bytes_eq n name then Has t else type_in fs name

-- a record at a name
abbrev pub field : List ℕ → Datatype → Typing Datatype
field name Unknown = Has Unknown
field name (Record fs) = type_in fs name
field name _ = Clash

-- the length of an array or a text
abbrev pub length_of : Datatype → Typing Datatype
length_of Unknown = Has Int
length_of Words = Has Int
length_of (Array t) = Has Int
length_of _ = Clash

-- the record of some fields, in whichever order they are written; where they make none, it is a clash
abbrev pub recorded : List (List ℕ × Datatype) → Typing Datatype
recorded fs = where_true (make_record (map (λ f. f.0) fs)) (record_of (types_of (by_name fs)))

-- ---- the type of a tree

-- a name that isn't bound counts as unknown here; whether names are bound is asked apart
abbrev mutual
  pub tree_type : Types → Tree → Typing Datatype
  tree_type types (tree.Int n) = Has Int
  tree_type types (tree.Bool b) = Has Boolean
  tree_type types (tree.Words xs) = Has Words
  tree_type types (tree.Name name) = Has (unwrap_or (type_under types name) Unknown)
  tree_type types (tree.Array ts) = and_then (parts_type types ts) (λ t. Has (array_of t))
  tree_type types (tree.Record fs) = and_then (named_types types fs) recorded
  tree_type types (tree.Negate t) = and_then (tree_type types t) number
  tree_type types (tree.Not t) = and_then (tree_type types t) truth
  tree_type types (tree.Binary o s t) = and_then (tree_type types s) (λ a. and_then (tree_type types t) (operated o a))
  tree_type types (tree.Cond s t u) = and_then (tree_type types s) (λ a. and_then (tree_type types t) (λ b. and_then (tree_type types u) (chosen a b)))
  tree_type types (tree.Abs t) = and_then (tree_type types t) number
  tree_type types (tree.Max s t) = and_then (tree_type types s) (λ a. and_then (tree_type types t) (calculated a))
  tree_type types (tree.Min s t) = and_then (tree_type types s) (λ a. and_then (tree_type types t) (calculated a))
  tree_type types (tree.Apply s t) = and_then (tree_type types s) (λ a. and_then (tree_type types t) (applied a))
  tree_type types (tree.Field t name) = and_then (tree_type types t) (field name)
  tree_type types (tree.Length t) = and_then (tree_type types t) length_of

  -- the join of the types of the parts of an array literal, which is unknown where it has none
  pub parts_type : Types → Trees → Typing Datatype
  parts_type types no_trees = Has Unknown
  parts_type types (tree_then t ts) = and_then (tree_type types t) (λ a. and_then (parts_type types ts) (λ b. Has (join a b)))

  -- the names and types of the fields of a record literal, in the order in which they are written
  pub named_types : Types → NamedTrees → Typing (List (List ℕ × Datatype))
  named_types types tree.no_fields = Has []
  named_types types (tree.field_then n t fs) = and_then (tree_type types t) (λ a. and_then (named_types types fs) (λ ps. Has ((n, a) ∷ ps)))

-- each name in the tree is bound
abbrev mutual
  pub are_bound : Types → Tree → Bool
  are_bound types (tree.Int n) = true
  are_bound types (tree.Bool b) = true
  are_bound types (tree.Words xs) = true
  are_bound types (tree.Name name) = is_bound types name
  are_bound types (tree.Array ts) = are_parts_bound types ts
  are_bound types (tree.Record fs) = are_fields_bound types fs
  are_bound types (tree.Negate t) = are_bound types t
  are_bound types (tree.Not t) = are_bound types t
  are_bound types (tree.Binary o s t) = are_bound types s && are_bound types t
  are_bound types (tree.Cond s t u) = are_bound types s && (are_bound types t && are_bound types u)
  are_bound types (tree.Abs t) = are_bound types t
  are_bound types (tree.Max s t) = are_bound types s && are_bound types t
  are_bound types (tree.Min s t) = are_bound types s && are_bound types t
  are_bound types (tree.Apply s t) = are_bound types s && are_bound types t
  are_bound types (tree.Field t name) = are_bound types t
  are_bound types (tree.Length t) = are_bound types t

  pub are_parts_bound : Types → Trees → Bool
  are_parts_bound types no_trees = true
  are_parts_bound types (tree_then t ts) = are_bound types t && are_parts_bound types ts

  pub are_fields_bound : Types → NamedTrees → Bool
  are_fields_bound types tree.no_fields = true
  are_fields_bound types (tree.field_then n t fs) = are_bound types t && are_fields_bound types fs

-- the tree has this type: its names are bound, and there is no clash
pub record IsTyped (types : Types) (tree : Tree) (t : Datatype) : Type 0 where
  pub bound : IsTrue (are_bound types tree)
  pub typed : tree_type types tree ≡ Has t
