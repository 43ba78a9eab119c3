-- Texts of types.
use Rattle.std.specs.Prelude.{◌≡◌, ℕ, ◌&&◌, List, [], ◌∷◌, ◌++◌, Bool, true, not, codes}
use Rattle.pt_document.specs.Names.{is_name, is_among, words, has_name}

-- the type that a text says: a base type, an array of a type, or a record of named types
mutual
  pub data TypeTree : Type 0 where
    int_type : TypeTree
    boolean_type : TypeTree
    string_type : TypeTree
    array_type : TypeTree → TypeTree
    record_type : FieldTrees → TypeTree

  -- one field or more
  pub data FieldTrees : Type 0 where
    last_field : List ℕ → TypeTree → FieldTrees
    one_field : List ℕ → TypeTree → FieldTrees → FieldTrees

-- `int`, `boolean`, `string`, `arrayType(T)` or `{a = T, b = T}`, with single blanks as shown
unfoldable mutual
  pub type_text : TypeTree → List ℕ
  type_text int_type = codes "int"
  type_text boolean_type = codes "boolean"
  type_text string_type = codes "string"
  type_text (array_type t) = codes "arrayType(" ++ (type_text t ++ codes ")")
  type_text (record_type fs) = codes "{" ++ fields_text fs

  pub fields_text : FieldTrees → List ℕ
  fields_text (last_field name t) = name ++ (codes " = " ++ (type_text t ++ codes "}"))
  fields_text (one_field name t fs) = name ++ (codes " = " ++ (type_text t ++ (codes ", " ++ fields_text fs)))

-- a name that isn't a word of the expression language
unfoldable pub is_field_name : List ℕ → Bool
is_field_name name = is_name name && not (is_among words name)

-- the names of each record are such names and differ, also from those that stand before them
unfoldable mutual
  pub has_names : TypeTree → Bool
  has_names int_type = true
  has_names boolean_type = true
  has_names string_type = true
  has_names (array_type t) = has_names t
  has_names (record_type fs) = have_names [] fs

  pub have_names : List (List ℕ) → FieldTrees → Bool
  have_names before (last_field name t) = (is_field_name name && not (has_name before name)) && has_names t
  have_names before (one_field name t fs) = (is_field_name name && not (has_name before name)) && (has_names t && have_names (before ++ name ∷ []) fs)

-- the text of this type
pub record IsTextOf (text : List ℕ) (t : TypeTree) : Type 0 where
  pub named : has_names t ≡ true
  pub same : text ≡ type_text t
