-- The value of a tree is of the tree's type.
use Rattle.std.proofs.Common.{◌≡◌, ℕ, Bool, true, false, ◌&&◌, List, [], ◌∷◌, map, Option, Some, None, option_map, if◌then◌else◌, refl, sym, ap, subst, ◌∙◌}
use Rattle.std.specs.Prelude.{unwrap_or, is_some, IsSome, IfSome, neg_ℤ, pos, unsigned_abs, int_lt}
use Rattle.std.specs.Str.{bytes_eq}
use Rattle.pt_value.specs.Value as val
use Rattle.pt_value.specs.Value.{Value, values_of, named_of}
use Rattle.pt_value.specs.Record.{names}
use Rattle.pt_datatypes.specs.Datatype.{Datatype, Unknown, Boolean, Array, Record, types_of}
use Rattle.pt_datatypes.specs.Normal.{array_of, record_of}
use Rattle.pt_datatypes.specs.Order.{is_below, are_below, IsBelow}
use Rattle.pt_datatypes.specs.Join.{join}
use Rattle.pt_datatypes.specs.Token.{type_of_value, join_of, field_types}
use Rattle.pt_datatypes.proofs.Fields.{and_left, and_right, and_both}
use Rattle.pt_datatypes.proofs.Joins.{normal-below, join-below}
use Rattle.pt_datatypes.proofs.Order.{bytes_eq-refl, below-trans}
use Rattle.pt_language.specs.Outcome.{Outcome, Gives, Stops, Wrong, and_then}
use Rattle.pt_language.specs.RecordOf as records
use Rattle.pt_language.specs.RecordOf.{make_record}
use Rattle.pt_language.specs.Scope.{Scope, port_in, presence, presence_in, looked_up}
use Rattle.pt_language.specs.Meaning as meaning
use Rattle.pt_language.specs.Meaning.{value, values, named_values}
use Rattle.pt_language.specs.Tree as tree
use Rattle.pt_language.specs.Tree.{Tree, Trees, no_trees, tree_then, NamedTrees}
use Rattle.pt_language.specs.Typing as typing
use Rattle.pt_language.specs.Typing.{Typing, Has, Clash, where_true}
use Rattle.pt_language.specs.Types.{Types, or_else, presence_type}
use Rattle.pt_language.specs.ByName.{put, by_name}
use Rattle.pt_language.specs.TreeType.{number, truth, calculated, applied, field, length_of, recorded, tree_type, parts_type, named_types, are_bound, are_parts_bound, are_fields_bound, IsTyped}
use Rattle.pt_language.specs.Laws.{IsHeld, Keeps, IsOfType}
use Rattle.pt_language.proofs.Values.{Sound, Of, then-sound, two-sound, where-sound, number-sound, denied-sound, exact-sound, within-sound, calculated-sound, operated-sound, chosen-sound, applied-sound, field-sound, length_of-sound}

-- ---- names

asked-sound : (types : Types) (scope : Scope) → ((name : List ℕ) → IfSome (types name) (λ t. IsHeld t (scope name))) → (port : Option (List ℕ)) → is_some (presence_type types port) ≡ true → Sound Of (Has (unwrap_or (presence_type types port) Unknown)) (presence_in scope port)
asked-sound types scope held None e = cc
asked-sound types scope held (Some port) e = by (types port) (scope port) (held port) e
  where
    by : (o : Option Datatype) (s : Option (Option Value)) → IfSome o (λ t. IsHeld t s) → is_some (option_map (λ t. Boolean) o) ≡ true → Sound Of (Has (unwrap_or (option_map (λ t. Boolean) o) Unknown)) (presence s)
    by None s k d = cc
    by (Some u) (Some h) k d = refl
    by (Some u) None k d = k

name-by : (types : Types) (scope : Scope) → ((name : List ℕ) → IfSome (types name) (λ t. IsHeld t (scope name))) → (o : Option Datatype) (s : Option (Option Value)) (port : Option (List ℕ)) → IfSome o (λ t. IsHeld t s) → (IsSome port → o ≡ None → s ≡ None) → is_some (or_else o (presence_type types port)) ≡ true → Sound Of (Has (unwrap_or (or_else o (presence_type types port)) Unknown)) (looked_up s (presence_in scope port))
name-by types scope all (Some t) None port h asked e = absurd h
name-by types scope all (Some t) (Some None) port h asked e = tt
name-by types scope all (Some t) (Some (Some v)) port h asked e = h
name-by types scope all None s None h asked e = cc
name-by types scope all None None (Some port) h asked e = asked-sound types scope all (Some port) e
name-by types scope all None (Some found) (Some port) h asked e = let d : Some found ≡ None = asked refl refl in cc

-- ---- records

-- the values of some fields, each of the type of the field of that name
abbrev OfTypes : List (List ℕ × Datatype) → List (List ℕ × Value) → Type 0
OfTypes [] [] = Unit {0}
OfTypes [] (g ∷ gs) = ⊥
OfTypes (f ∷ fs) [] = ⊥
OfTypes (f ∷ fs) (g ∷ gs) = (f.0 ≡ g.0) × Of f.1 g.1 × OfTypes fs gs

names-same : (fs : List (List ℕ × Datatype)) (gs : List (List ℕ × Value)) → OfTypes fs gs → map (λ f. f.0) fs ≡ names gs
names-same [] [] h = refl
names-same (f ∷ fs) (g ∷ gs) h = λ i. h.0 i ∷ names-same fs gs h.2 i
names-same [] (g ∷ gs) h = absurd h
names-same (f ∷ fs) [] h = absurd h

put-by : (b : Bool) (f x : List ℕ × Datatype) (g y : List ℕ × Value) (fs : List (List ℕ × Datatype)) (gs : List (List ℕ × Value)) → (f.0 ≡ g.0) × Of f.1 g.1 → OfTypes (x ∷ fs) (y ∷ gs) → OfTypes (put f fs) (records.put g gs) → OfTypes (if b then f ∷ x ∷ fs else x ∷ put f fs) (if b then g ∷ y ∷ gs else y ∷ records.put g gs)
put-by true f x g y fs gs h k l = (h.0, h.1, k)
put-by false f x g y fs gs h k l = (k.0, k.1, l)

put-of : (f : List ℕ × Datatype) (g : List ℕ × Value) (fs : List (List ℕ × Datatype)) (gs : List (List ℕ × Value)) → (f.0 ≡ g.0) × Of f.1 g.1 → OfTypes fs gs → OfTypes (put f fs) (records.put g gs)
put-of f g [] [] h k = (h.0, h.1, tt)
put-of f g (x ∷ fs) (y ∷ gs) h k =
    let e : records.is_below f.0 x.0 ≡ records.is_below g.0 y.0 = λ i. records.is_below (h.0 i) (k.0 i) in
    rw e (put-by (records.is_below g.0 y.0) f x g y fs gs h k (put-of f g fs gs h k.2))
put-of f g [] (y ∷ gs) h k = absurd k
put-of f g (x ∷ fs) [] h k = absurd k

by_name-of : (fs : List (List ℕ × Datatype)) (gs : List (List ℕ × Value)) → OfTypes fs gs → OfTypes (by_name fs) (records.by_name gs)
by_name-of [] [] h = tt
by_name-of (f ∷ fs) (g ∷ gs) h = put-of f g (by_name fs) (records.by_name gs) (h.0, h.1) (by_name-of fs gs h.2)
by_name-of [] (g ∷ gs) h = absurd h
by_name-of (f ∷ fs) [] h = absurd h

types_of-of : (fs : List (List ℕ × Datatype)) (gs : List (List ℕ × Value)) → OfTypes fs gs → are_below (field_types (named_of gs)) (types_of fs) ≡ true
types_of-of [] [] h = refl
types_of-of (f ∷ fs) (g ∷ gs) h = and_both (bytes_eq g.0 f.0 && is_below (type_of_value g.1) f.1) _ (and_both (bytes_eq g.0 f.0) (is_below (type_of_value g.1) f.1) (ap (bytes_eq g.0) h.0 ∙ bytes_eq-refl g.0) h.1) (types_of-of fs gs h.2)
types_of-of [] (g ∷ gs) h = absurd h
types_of-of (f ∷ fs) [] h = absurd h

made-sound : (b : Bool) (fs : List (List ℕ × Datatype)) (gs : List (List ℕ × Value)) → OfTypes fs gs → b ≡ true → Sound Of (Has (record_of (types_of fs))) (and_then (if b then Gives (val.Record (named_of gs)) else Wrong) meaning.within)
made-sound true fs gs h e = within-sound (record_of (types_of fs)) (val.Record (named_of gs)) (normal-below (Record (field_types (named_of gs))) (Record (types_of fs)) (types_of-of fs gs h))
made-sound false fs gs h e = cc

recorded-sound : (fs : List (List ℕ × Datatype)) (gs : List (List ℕ × Value)) → OfTypes fs gs → Sound Of (recorded fs) (meaning.recorded gs)
recorded-sound fs gs h = where-sound Of (make_record (map (λ f. f.0) fs)) (record_of (types_of (by_name fs))) (meaning.recorded gs)
    (λ e. made-sound (make_record (names gs)) (by_name fs) (records.by_name gs) (by_name-of fs gs h) (sym (ap make_record (names-same fs gs h)) ∙ e))

-- ---- trees

-- the values of some parts, whose join is below
abbrev OfJoin : Datatype → List Value → Type 0
OfJoin t vs = IsBelow (join_of (values_of vs)) t

pub truth-sound : (t : Datatype) (v : Value) → Of t v → Sound Of (truth t) (meaning.denied v)
truth-sound t v h = where-sound Of (is_below t Boolean) Boolean (meaning.denied v) (λ e. denied-sound v (below-trans (type_of_value v) t Boolean h e))

module _ (types : Types) (scope : Scope) (keeps : Keeps types scope) where
  mutual
    pub tree-sound : (t : Tree) → are_bound types t ≡ true → Sound Of (tree_type types t) (value scope t)
    tree-sound (tree.Int n) e = refl
    tree-sound (tree.Bool b) e = refl
    tree-sound (tree.Words xs) e = refl
    tree-sound (tree.Name name) e = name-by types scope keeps.held (types name) (scope name) (port_in name) (keeps.held name) (keeps.asked name) e
    tree-sound (tree.Array ts) e = then-sound OfJoin Of (parts_type types ts) (values scope ts) (λ t. Has (array_of t)) meaning.arrayed (parts-sound ts e) (λ t vs h. within-sound (array_of t) (val.Array (values_of vs)) (normal-below (Array (join_of (values_of vs))) (Array t) h))
    tree-sound (tree.Record fs) e = then-sound OfTypes Of (named_types types fs) (named_values scope fs) recorded meaning.recorded (named-sound fs e) recorded-sound
    tree-sound (tree.Negate t) e = then-sound Of Of (tree_type types t) (value scope t) number meaning.negated (tree-sound t e) (λ a. number-sound a (λ n. meaning.exact (neg_ℤ n)) (λ n. exact-sound (neg_ℤ n)))
    tree-sound (tree.Not t) e = then-sound Of Of (tree_type types t) (value scope t) truth meaning.denied (tree-sound t e) truth-sound
    tree-sound (tree.Binary o s t) e = operated-sound o (tree_type types s) (tree_type types t) (value scope s) (value scope t) (tree-sound s (and_left (are_bound types s) (are_bound types t) e)) (tree-sound t (and_right (are_bound types s) (are_bound types t) e))
    tree-sound (tree.Cond s t u) e =
        let later = and_right (are_bound types s) (are_bound types t && are_bound types u) e in
        chosen-sound (tree_type types s) (tree_type types t) (tree_type types u) (value scope s) (value scope t) (value scope u) (tree-sound s (and_left (are_bound types s) (are_bound types t && are_bound types u) e)) (tree-sound t (and_left (are_bound types t) (are_bound types u) later)) (tree-sound u (and_right (are_bound types t) (are_bound types u) later))
    tree-sound (tree.Abs t) e = then-sound Of Of (tree_type types t) (value scope t) number meaning.magnitude (tree-sound t e) (λ a. number-sound a (λ n. meaning.exact (pos (unsigned_abs n))) (λ n. exact-sound (pos (unsigned_abs n))))
    tree-sound (tree.Max s t) e = two-sound (tree_type types s) (tree_type types t) (value scope s) (value scope t) calculated meaning.greatest (calculated-sound (λ m n. Gives (val.Int (if int_lt m n then n else m))) (λ m n. refl)) (tree-sound s (and_left (are_bound types s) (are_bound types t) e)) (tree-sound t (and_right (are_bound types s) (are_bound types t) e))
    tree-sound (tree.Min s t) e = two-sound (tree_type types s) (tree_type types t) (value scope s) (value scope t) calculated meaning.least (calculated-sound (λ m n. Gives (val.Int (if int_lt n m then n else m))) (λ m n. refl)) (tree-sound s (and_left (are_bound types s) (are_bound types t) e)) (tree-sound t (and_right (are_bound types s) (are_bound types t) e))
    tree-sound (tree.Apply s t) e = two-sound (tree_type types s) (tree_type types t) (value scope s) (value scope t) applied meaning.element applied-sound (tree-sound s (and_left (are_bound types s) (are_bound types t) e)) (tree-sound t (and_right (are_bound types s) (are_bound types t) e))
    tree-sound (tree.Field t name) e = then-sound Of Of (tree_type types t) (value scope t) (field name) (meaning.field name) (tree-sound t e) (field-sound name)
    tree-sound (tree.Length t) e = then-sound Of Of (tree_type types t) (value scope t) length_of meaning.length_of (tree-sound t e) length_of-sound

    parts-sound : (ts : Trees) → are_parts_bound types ts ≡ true → Sound OfJoin (parts_type types ts) (values scope ts)
    parts-sound no_trees e = refl
    parts-sound (tree_then t ts) e = then-sound Of OfJoin (tree_type types t) (value scope t) (λ a. typing.and_then (parts_type types ts) (λ b. Has (join a b))) (λ v. and_then (values scope ts) (λ vs. Gives (v ∷ vs))) (tree-sound t (and_left (are_bound types t) (are_parts_bound types ts) e))
        (λ a v h. then-sound OfJoin OfJoin (parts_type types ts) (values scope ts) (λ b. Has (join a b)) (λ vs. Gives (v ∷ vs)) (parts-sound ts (and_right (are_bound types t) (are_parts_bound types ts) e)) (λ b vs k. join-below (type_of_value v) (join_of (values_of vs)) a b h k))

    named-sound : (fs : NamedTrees) → are_fields_bound types fs ≡ true → Sound OfTypes (named_types types fs) (named_values scope fs)
    named-sound tree.no_fields e = tt
    named-sound (tree.field_then n t fs) e = then-sound Of OfTypes (tree_type types t) (value scope t) (λ a. typing.and_then (named_types types fs) (λ ps. Has ((n, a) ∷ ps))) (λ v. and_then (named_values scope fs) (λ ps. Gives ((n, v) ∷ ps))) (tree-sound t (and_left (are_bound types t) (are_fields_bound types fs) e))
        (λ a v h. then-sound OfTypes OfTypes (named_types types fs) (named_values scope fs) (λ ps. Has ((n, a) ∷ ps)) (λ ps. Gives ((n, v) ∷ ps)) (named-sound fs (and_right (are_bound types t) (are_fields_bound types fs) e)) (λ ps qs k. (refl, h, k)))

of-type : (t : Datatype) (o : Outcome Value) → Sound Of (Has t) o → IsOfType t o
of-type t (Gives v) h = h
of-type t (Stops f) h = h
of-type t Wrong h = h

pub typed-sound : (types : Types) (scope : Scope) → Keeps types scope → (tree : Tree) (t : Datatype) → IsTyped types tree t → IsOfType t (value scope tree)
typed-sound types scope keeps tree t typed = of-type t (value scope tree) (subst (λ p. Sound Of p (value scope tree)) typed.typed (tree-sound types scope keeps tree typed.bound))
