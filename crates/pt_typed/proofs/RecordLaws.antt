-- A record of tokens of some types is of the type that is recorded of these.
use Rattle.std.proofs.Common.{◌≡◌, ℕ, List, [], ◌∷◌, length, map, Bool, true, false, ◌&&◌, refl, ap, subst, ◌∙◌, arith, if◌then◌else◌}
use Rattle.std.specs.Prelude.{bytes_eq}
use Rattle.std.specs.List.{zip}
use Rattle.pt_meaning.specs.Basics.{Streams}
use Rattle.pt_value.specs.Value as val
use Rattle.pt_value.specs.Value.{Value, Named, named_of}
use Rattle.pt_value.specs.Record as records
use Rattle.pt_value.specs.declared.token.Token.{Token}
use Rattle.pt_datatypes.specs.Datatype.{Datatype, Record, types_of}
use Rattle.pt_datatypes.specs.Normal.{record_of}
use Rattle.pt_datatypes.specs.Order.{is_below, are_below, IsBelow}
use Rattle.pt_datatypes.specs.Token.{type_of_value, field_types}
use Rattle.pt_datatypes.proofs.Fields.{and_both}
use Rattle.pt_datatypes.proofs.Joins.{normal-below}
use Rattle.pt_datatypes.proofs.Order.{bytes_eq-refl, below-trans}
use Rattle.pt_language.specs.Outcome.{Outcome, Gives, Stops, Wrong}
use Rattle.pt_language.specs.RecordOf as recording
use Rattle.pt_language.specs.Typing.{where_true, or_general}
use Rattle.pt_language.specs.ByName.{by_name, put}
use Rattle.pt_language.specs.TreeType.{recorded}
use Rattle.pt_language.proofs.Values.{Of}
use Rattle.pt_firing.specs.Row.{all_present}
use Rattle.pt_lib_data.specs.RecordAssembler.{fields}
use Rattle.pt_kinds.specs.Signature.{AreOf}
use Rattle.pt_typed.specs.TokenTypes.{IsTokenOf}

-- fields whose values are of these types, name by name
abbrev OfTypes : List (List ℕ × Datatype) → List (List ℕ × Value) → Type 0
OfTypes [] [] = Unit {0}
OfTypes [] (g ∷ gs) = ⊥
OfTypes (f ∷ fs) [] = ⊥
OfTypes (f ∷ fs) (g ∷ gs) = (f.0 ≡ g.0) × Of f.1 g.1 × OfTypes fs gs

names-same : (fs : List (List ℕ × Datatype)) (gs : List (List ℕ × Value)) → OfTypes fs gs → map (λ f. f.0) fs ≡ records.names gs
names-same [] [] h = refl
names-same (f ∷ fs) (g ∷ gs) h = λ i. h.0 i ∷ names-same fs gs h.2 i
names-same [] (g ∷ gs) h = absurd h
names-same (f ∷ fs) [] h = absurd h

put-by : (b : Bool) (f x : List ℕ × Datatype) (g y : List ℕ × Value) (fs : List (List ℕ × Datatype)) (gs : List (List ℕ × Value)) → (f.0 ≡ g.0) × Of f.1 g.1 → OfTypes (x ∷ fs) (y ∷ gs) → OfTypes (put f fs) (recording.put g gs) → OfTypes (if b then f ∷ x ∷ fs else x ∷ put f fs) (if b then g ∷ y ∷ gs else y ∷ recording.put g gs)
put-by true f x g y fs gs h k l = (h.0, h.1, k)
put-by false f x g y fs gs h k l = (k.0, k.1, l)

put-of : (f : List ℕ × Datatype) (g : List ℕ × Value) (fs : List (List ℕ × Datatype)) (gs : List (List ℕ × Value)) → (f.0 ≡ g.0) × Of f.1 g.1 → OfTypes fs gs → OfTypes (put f fs) (recording.put g gs)
put-of f g [] [] h k = (h.0, h.1, tt)
put-of f g (x ∷ fs) (y ∷ gs) h k =
    let e : recording.is_below f.0 x.0 ≡ recording.is_below g.0 y.0 = λ i. recording.is_below (h.0 i) (k.0 i) in
    rw e (put-by (recording.is_below g.0 y.0) f x g y fs gs h k (put-of f g fs gs h k.2))
put-of f g [] (y ∷ gs) h k = absurd k
put-of f g (x ∷ fs) [] h k = absurd k

by_name-of : (fs : List (List ℕ × Datatype)) (gs : List (List ℕ × Value)) → OfTypes fs gs → OfTypes (by_name fs) (recording.by_name gs)
by_name-of [] [] h = tt
by_name-of (f ∷ fs) (g ∷ gs) h = put-of f g (by_name fs) (recording.by_name gs) (h.0, h.1) (by_name-of fs gs h.2)
by_name-of [] (g ∷ gs) h = absurd h
by_name-of (f ∷ fs) [] h = absurd h

types_of-of : (fs : List (List ℕ × Datatype)) (gs : List (List ℕ × Value)) → OfTypes fs gs → are_below (field_types (named_of gs)) (types_of fs) ≡ true
types_of-of [] [] h = refl
types_of-of (f ∷ fs) (g ∷ gs) h = and_both (bytes_eq g.0 f.0 && is_below (type_of_value g.1) f.1) _ (and_both (bytes_eq g.0 f.0) (is_below (type_of_value g.1) f.1) (ap (bytes_eq g.0) h.0 ∙ bytes_eq-refl g.0) h.1) (types_of-of fs gs h.2)
types_of-of [] (g ∷ gs) h = absurd h
types_of-of (f ∷ fs) [] h = absurd h

-- what some fields make, if they make a record
abbrev pub OfOutcome : Datatype → Outcome Value → Type 0
OfOutcome u (Gives v) = Of u v
OfOutcome u (Stops fault) = Unit {0}
OfOutcome u Wrong = Unit {0}

made-of : (b : Bool) (fs : List (List ℕ × Datatype)) (gs : List (List ℕ × Value)) (u : Datatype) → OfTypes fs gs → IsBelow (or_general (where_true b (record_of (types_of fs)))) u → OfOutcome u (if b then Gives (val.Record (named_of gs)) else Wrong)
made-of true fs gs u h k = below-trans (record_of (field_types (named_of gs))) (record_of (types_of fs)) u (normal-below (Record (field_types (named_of gs))) (Record (types_of fs)) (types_of-of fs gs h)) k
made-of false fs gs u h k = tt

recorded-of : (fs : List (List ℕ × Datatype)) (gs : List (List ℕ × Value)) (u : Datatype) → OfTypes fs gs → IsBelow (or_general (recorded fs)) u → OfOutcome u (recording.record_of gs)
recorded-of fs gs u h k =
    made-of (recording.make_record (records.names gs)) (by_name fs) (recording.by_name gs) u (by_name-of fs gs h)
    (subst (λ ns. IsBelow (or_general (where_true (recording.make_record ns) (record_of (types_of (by_name fs))))) u) (names-same fs gs h) k)

no-fields : (names : List (List ℕ)) → OfTypes [] (fields names [])
unfolding fields
no-fields [] = tt
no-fields (name ∷ names) = no-fields names

-- the tokens at the places, each of its type
fields-of : (names : List (List ℕ)) (ps : List Datatype) (X : Streams Token) → length X ≡ length ps → AreOf IsTokenOf ps X → all_present X ≡ true → OfTypes (zip names ps) (fields names X)
unfolding fields
fields-of [] ps X e a t = tt
fields-of (name ∷ names) [] [] e a t = no-fields names
fields-of (name ∷ names) [] (xs ∷ X) e a t = absurd a
fields-of (name ∷ names) (p ∷ ps) [] e a t = absurd (omega (arith, e))
fields-of (name ∷ names) (p ∷ ps) ([] ∷ X) e a t = absurd (let no : false ≡ true = t in cc)
fields-of (name ∷ names) (p ∷ ps) ((x ∷ xs) ∷ X) e a t = (refl, a.0.0, fields-of names ps X (omega (arith, e)) a.1 t)

pub record-of : (names : List (List ℕ)) (ps : List Datatype) (X : Streams Token) (u : Datatype) → length X ≡ length ps → AreOf IsTokenOf ps X → all_present X ≡ true → IsBelow (or_general (recorded (zip names ps))) u → OfOutcome u (recording.record_of (fields names X))
record-of names ps X u e a t k = recorded-of (zip names ps) (fields names X) u (fields-of names ps X e a t) k
