-- A tree comes to the same, and has the same type, wherever its names stand for the same.
use Rattle.std.proofs.Common.{◌≡◌, ℕ, ◌++◌, List, [], ◌∷◌, Some, refl, sym, ap, ◌∙◌, arith}
use Rattle.std.specs.Prelude.{Option, unwrap_or}
use Rattle.std.specs.List.{Contains}
use Rattle.std.proofs.lemmas.List.Elements.{Contains-append_left, Contains-append_right}
use Rattle.pt_value.specs.Value.{Value}
use Rattle.pt_datatypes.specs.Datatype.{Datatype, Unknown}
use Rattle.pt_datatypes.specs.Normal.{array_of}
use Rattle.pt_datatypes.specs.Join.{join}
use Rattle.pt_language.specs.Scope.{Scope, named, looked_up, presence_in, port_in}
use Rattle.pt_language.specs.Outcome as outcome
use Rattle.pt_language.specs.Meaning as meaning
use Rattle.pt_language.specs.Meaning.{value, values, named_values}
use Rattle.pt_language.specs.Tree as tree
use Rattle.pt_language.specs.Tree.{Tree, Trees, no_trees, tree_then, NamedTrees}
use Rattle.pt_language.specs.Typing as typing
use Rattle.pt_language.specs.Types.{Types, type_under, or_else, presence_type}
use Rattle.pt_language.specs.TreeType as types
use Rattle.pt_language.specs.TreeType.{tree_type, parts_type, named_types}
use Rattle.pt_scopes.specs.Texts.{names_in, names_in_parts, names_in_fields}

module _ {A : Type 0} (f g : List ℕ → Option A) where
  -- both have the same under each of the names
  abbrev pub AreSame : List (List ℕ) → Type 0
  AreSame names = (name : List ℕ) → Contains names name → (held : A) × (f name ≡ Some held) × (g name ≡ Some held)

  pub in_left : (xs ys : List (List ℕ)) → AreSame (xs ++ ys) → AreSame xs
  in_left xs ys h name w = h name (Contains-append_left xs ys name w)

  pub in_right : (xs ys : List (List ℕ)) → AreSame (xs ++ ys) → AreSame ys
  in_right xs ys h name w = h name (Contains-append_right xs ys name w)

only : (name : List ℕ) → Contains (name ∷ []) name
only name = (0, omega arith, refl)

module _ (f g : Scope) where
  named-same : (name : List ℕ) (held : Option Value) → f name ≡ Some held → g name ≡ Some held → named f name ≡ named g name
  named-same name held e d =
      let first : named f name ≡ looked_up (Some held) (presence_in f (port_in name)) = ap (λ o. looked_up o (presence_in f (port_in name))) e in
      let second : named g name ≡ looked_up (Some held) (presence_in g (port_in name)) = ap (λ o. looked_up o (presence_in g (port_in name))) d in
      first ∙ sym second

  mutual
    pub value-same : (t : Tree) → AreSame f g (names_in t) → value f t ≡ value g t
    value-same (tree.Int n) h = refl
    value-same (tree.Bool b) h = refl
    value-same (tree.Words xs) h = refl
    value-same (tree.Name name) h = let w = h name (only name) in named-same name w.0 w.1 w.2
    value-same (tree.Array ts) h = λ i. outcome.and_then (values-same ts h i) meaning.arrayed
    value-same (tree.Record fs) h = λ i. outcome.and_then (named_values-same fs h i) meaning.recorded
    value-same (tree.Negate t) h = λ i. outcome.and_then (value-same t h i) meaning.negated
    value-same (tree.Not t) h = λ i. outcome.and_then (value-same t h i) meaning.denied
    value-same (tree.Binary o s t) h = λ i. meaning.operated o (value-same s (in_left f g (names_in s) (names_in t) h) i) (value-same t (in_right f g (names_in s) (names_in t) h) i)
    value-same (tree.Cond s t u) h =
        let later = in_right f g (names_in s) (names_in t ++ names_in u) h in
        λ i. meaning.chosen (value-same s (in_left f g (names_in s) (names_in t ++ names_in u) h) i) (value-same t (in_left f g (names_in t) (names_in u) later) i) (value-same u (in_right f g (names_in t) (names_in u) later) i)
    value-same (tree.Abs t) h = λ i. outcome.and_then (value-same t h i) meaning.magnitude
    value-same (tree.Max s t) h = λ i. outcome.and_then (value-same s (in_left f g (names_in s) (names_in t) h) i) (λ x. outcome.and_then (value-same t (in_right f g (names_in s) (names_in t) h) i) (meaning.greatest x))
    value-same (tree.Min s t) h = λ i. outcome.and_then (value-same s (in_left f g (names_in s) (names_in t) h) i) (λ x. outcome.and_then (value-same t (in_right f g (names_in s) (names_in t) h) i) (meaning.least x))
    value-same (tree.Apply s t) h = λ i. outcome.and_then (value-same s (in_left f g (names_in s) (names_in t) h) i) (λ x. outcome.and_then (value-same t (in_right f g (names_in s) (names_in t) h) i) (meaning.element x))
    value-same (tree.Field t name) h = λ i. outcome.and_then (value-same t h i) (meaning.field name)
    value-same (tree.Length t) h = λ i. outcome.and_then (value-same t h i) meaning.length_of

    pub values-same : (ts : Trees) → AreSame f g (names_in_parts ts) → values f ts ≡ values g ts
    values-same no_trees h = refl
    values-same (tree_then t ts) h = λ i. outcome.and_then (value-same t (in_left f g (names_in t) (names_in_parts ts) h) i) (λ v. outcome.and_then (values-same ts (in_right f g (names_in t) (names_in_parts ts) h) i) (λ vs. outcome.Gives (v ∷ vs)))

    pub named_values-same : (fs : NamedTrees) → AreSame f g (names_in_fields fs) → named_values f fs ≡ named_values g fs
    named_values-same tree.no_fields h = refl
    named_values-same (tree.field_then n t fs) h = λ i. outcome.and_then (value-same t (in_left f g (names_in t) (names_in_fields fs) h) i) (λ v. outcome.and_then (named_values-same fs (in_right f g (names_in t) (names_in_fields fs) h) i) (λ ps. outcome.Gives ((n, v) ∷ ps)))

module _ (f g : Types) where
  under-same : (name : List ℕ) (t : Datatype) → f name ≡ Some t → g name ≡ Some t → type_under f name ≡ type_under g name
  under-same name t e d =
      let first : type_under f name ≡ or_else (Some t) (presence_type f (port_in name)) = ap (λ o. or_else o (presence_type f (port_in name))) e in
      let second : type_under g name ≡ or_else (Some t) (presence_type g (port_in name)) = ap (λ o. or_else o (presence_type g (port_in name))) d in
      first ∙ sym second

  mutual
    pub type-same : (t : Tree) → AreSame f g (names_in t) → tree_type f t ≡ tree_type g t
    type-same (tree.Int n) h = refl
    type-same (tree.Bool b) h = refl
    type-same (tree.Words xs) h = refl
    type-same (tree.Name name) h = let w = h name (only name) in ap (λ o. typing.Has (unwrap_or o Unknown)) (under-same name w.0 w.1 w.2)
    type-same (tree.Array ts) h = λ i. typing.and_then (parts-same ts h i) (λ t. typing.Has (array_of t))
    type-same (tree.Record fs) h = λ i. typing.and_then (fields-same fs h i) types.recorded
    type-same (tree.Negate t) h = λ i. typing.and_then (type-same t h i) types.number
    type-same (tree.Not t) h = λ i. typing.and_then (type-same t h i) types.truth
    type-same (tree.Binary o s t) h = λ i. typing.and_then (type-same s (in_left f g (names_in s) (names_in t) h) i) (λ a. typing.and_then (type-same t (in_right f g (names_in s) (names_in t) h) i) (types.operated o a))
    type-same (tree.Cond s t u) h =
        let later = in_right f g (names_in s) (names_in t ++ names_in u) h in
        λ i. typing.and_then (type-same s (in_left f g (names_in s) (names_in t ++ names_in u) h) i) (λ a. typing.and_then (type-same t (in_left f g (names_in t) (names_in u) later) i) (λ b. typing.and_then (type-same u (in_right f g (names_in t) (names_in u) later) i) (types.chosen a b)))
    type-same (tree.Abs t) h = λ i. typing.and_then (type-same t h i) types.number
    type-same (tree.Max s t) h = λ i. typing.and_then (type-same s (in_left f g (names_in s) (names_in t) h) i) (λ a. typing.and_then (type-same t (in_right f g (names_in s) (names_in t) h) i) (types.calculated a))
    type-same (tree.Min s t) h = λ i. typing.and_then (type-same s (in_left f g (names_in s) (names_in t) h) i) (λ a. typing.and_then (type-same t (in_right f g (names_in s) (names_in t) h) i) (types.calculated a))
    type-same (tree.Apply s t) h = λ i. typing.and_then (type-same s (in_left f g (names_in s) (names_in t) h) i) (λ a. typing.and_then (type-same t (in_right f g (names_in s) (names_in t) h) i) (types.applied a))
    type-same (tree.Field t name) h = λ i. typing.and_then (type-same t h i) (types.field name)
    type-same (tree.Length t) h = λ i. typing.and_then (type-same t h i) types.length_of

    pub parts-same : (ts : Trees) → AreSame f g (names_in_parts ts) → parts_type f ts ≡ parts_type g ts
    parts-same no_trees h = refl
    parts-same (tree_then t ts) h = λ i. typing.and_then (type-same t (in_left f g (names_in t) (names_in_parts ts) h) i) (λ a. typing.and_then (parts-same ts (in_right f g (names_in t) (names_in_parts ts) h) i) (λ b. typing.Has (join a b)))

    pub fields-same : (fs : NamedTrees) → AreSame f g (names_in_fields fs) → named_types f fs ≡ named_types g fs
    fields-same tree.no_fields h = refl
    fields-same (tree.field_then n t fs) h = λ i. typing.and_then (type-same t (in_left f g (names_in t) (names_in_fields fs) h) i) (λ a. typing.and_then (fields-same fs (in_right f g (names_in t) (names_in_fields fs) h) i) (λ ps. typing.Has ((n, a) ∷ ps)))
