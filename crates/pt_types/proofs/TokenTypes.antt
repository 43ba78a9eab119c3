-- The types of tokens, part by part.
use Rattle.std.proofs.Common.{◌≡◌, ℕ, zero, suc, ◌+◌, ◌<◌, ◌≤◌, ◌⊎◌, inl, inr, Bool, true, false, ◌&&◌, List, [], ◌∷◌, ◌++◌, length, get_or, drop, take, map, refl, sym, ap, subst, ◌∙◌, add-one, arith}
use Rattle.std.specs.Str.{bytes_eq}
use Rattle.std.proofs.Math.Seq.{drop-cons}
use Rattle.pt_value.specs.declared.token.Token.{Token}
use Rattle.pt_value.specs.declared.fields.Field.{Field}
use Rattle.pt_value.specs.Value as value
use Rattle.pt_value.specs.Value.{Value, Values, no_values, value_then, values_of, named_of, height, height_of_values, height_of_named}
use Rattle.pt_value.specs.Record.{IsRecord}
use Rattle.pt_value.specs.Token as held
use Rattle.pt_value.specs.Token.{value_of}
use Rattle.pt_types.specs.declared.record.FieldTy.{FieldTy}
use Rattle.pt_datatypes.specs.Datatype.{Datatype, Unknown, Int, Boolean, Words, Array, Record, General, FieldTypes, no_fields, field_then, types_of, depth, depth_of_fields, nodes, nodes_of_fields}
use Rattle.pt_datatypes.specs.Normal.{is_plain, are_plain, is_proper, normal, IsType}
use Rattle.pt_datatypes.specs.Order.{is_below, are_below, IsBelow}
use Rattle.pt_datatypes.specs.Join.{joined, join}
use Rattle.pt_datatypes.specs.Token.{type_of_value, join_of, field_types, each_below, typed_fields}
use Rattle.pt_datatypes.specs.RecordType as record_type
use Rattle.pt_datatypes.specs.RecordType.{IsRecordType}
use Rattle.pt_types.specs.Ty.{written, entry_of}
use Rattle.std.proofs.lemmas.List.{length-map, take_all}
use Rattle.pt_datatypes.proofs.Fields.{and_left, and_right, and_both, are_below-length}
use Rattle.pt_datatypes.proofs.Order.{below-trans, below-General}
use Rattle.pt_datatypes.proofs.Joins.{bool_cases, normal-proper, normal-not_proper, normal_is_type, proper-plain, proper-depth, proper-nodes, proper-below, joined-first, joined-second, joined-least}
use Rattle.pt_datatypes.proofs.Parts.{proper-from, element-proper}

-- ---- a part is lower than the parts together

item-height : (ts : List Token) (i : ℕ) (t : Token) → i < length ts → t ≡ get_or ts i t → height (value_of t) ≤ height_of_values (values_of (map value_of ts))
item-height [] i t short is = absurd (omega arith)
item-height (x ∷ ts) zero t short is = omega (arith, ap (λ (y : Token). height (value_of y)) is)
item-height (x ∷ ts) (suc i) t short is = omega (arith, item-height ts i t (omega arith) is)

pub height-item : (ts : List Token) (vs : List Value) (i : ℕ) (t : Token) → map value_of ts ≡ vs → i < length ts → t ≡ get_or ts i t → height (value_of t) ≤ height_of_values (values_of vs)
height-item ts vs i t all short is = omega (arith, item-height ts i t short is, ap (λ us. height_of_values (values_of us)) all)

held-height : (fs : List Field) (i : ℕ) (f : Field) → i < length fs → f ≡ get_or fs i f → height (value_of f.value) ≤ height_of_named (named_of (map held.entry_of fs))
held-height [] i f short is = absurd (omega arith)
held-height (x ∷ fs) zero f short is = omega (arith, ap (λ (y : Field). height (value_of y.value)) is)
held-height (x ∷ fs) (suc i) f short is = omega (arith, held-height fs i f (omega arith) is)

pub height-held : (fs : List Field) (gs : List (List ℕ × Value)) (i : ℕ) (f : Field) → map held.entry_of fs ≡ gs → i < length fs → f ≡ get_or fs i f → height (value_of f.value) ≤ height_of_named (named_of gs)
height-held fs gs i f all short is = omega (arith, held-height fs i f short is, ap (λ hs. height_of_named (named_of hs)) all)

-- ---- the types of tokens are in normal form

pub value-is_type : (v : Value) → IsType (type_of_value v)
value-is_type (value.Int n) = refl
value-is_type (value.Bool b) = refl
value-is_type (value.Words xs) = refl
value-is_type (value.Array vs) = normal_is_type (Array (join_of vs))
value-is_type (value.Record fs) = normal_is_type (Record (field_types fs))

pub values-is_type : (vs : Values) → IsType (join_of vs)
values-is_type no_values = refl
values-is_type (value_then v vs) = normal_is_type (joined (type_of_value v) (join_of vs))

-- one part more, before those that are joined
pub join-next : (ts : List Token) (i : ℕ) (t : Token) (next done more : Datatype) → i < length ts → t ≡ get_or ts i t → next ≡ type_of_value (value_of t) → done ≡ join_of (values_of (map value_of (drop (i + 1) ts))) → more ≡ join (normal next) (normal done) → more ≡ join_of (values_of (map value_of (drop i ts)))
join-next ts i t next done more short is typed rest joins =
    let later = join_of (values_of (map value_of (drop (i + 1) ts))) in
    let first : normal next ≡ type_of_value (value_of t) = ap normal typed ∙ value-is_type (value_of t) in
    let second : normal done ≡ later = ap normal rest ∙ values-is_type (values_of (map value_of (drop (i + 1) ts))) in
    let front : drop i ts ≡ t ∷ drop (suc i) ts = drop-cons ts i t short ∙ ap (λ x. x ∷ drop (suc i) ts) (sym is) in
    joins ∙ ap (λ a. join a (normal done)) first ∙ ap (join (type_of_value (value_of t))) second ∙ ap (λ n. join (type_of_value (value_of t)) (join_of (values_of (map value_of (drop n ts))))) (add-one i) ∙ sym (ap (λ us. join_of (values_of (map value_of us))) front)

-- ---- below a type that isn't general

-- tests that hold together are the same
same-tests : (a b : Bool) → (a ≡ true → b ≡ true) → (b ≡ true → a ≡ true) → a ≡ b
same-tests true b f g = sym (f refl)
same-tests false true f g = g refl
same-tests false false f g = refl

above-general : (t : Datatype) → is_proper t ≡ true → is_below General t ≡ false
above-general Unknown p = refl
above-general Int p = refl
above-general Boolean p = refl
above-general Words p = refl
above-general (Array t) p = refl
above-general (Record fs) p = refl
above-general General p = cc

differ : {X : Type 0} → true ≡ false → X
differ e = cc

-- what is below such a type is so as it is written
pub normal-within : (s t : Datatype) → is_proper t ≡ true → is_below (normal s) t ≡ is_below s t
normal-within s t p = elim (bool_cases (is_proper s)) [
  | inl e ↦ ap (λ u. is_below u t) (normal-proper s e)
  | inr e ↦ ap (λ u. is_below u t) (normal-not_proper s e) ∙ above-general t p ∙ sym (below-false (bool_cases (is_below s t)) e)
]
  where
    below-false : (is_below s t ≡ true) ⊎ (is_below s t ≡ false) → is_proper s ≡ false → is_below s t ≡ false
    below-false (inl h) e = differ (sym (proper-below s t h p) ∙ e)
    below-false (inr h) e = h

-- the join of some types is below one where each of them is
pub join-within : (vs : Values) (t : Datatype) → is_proper t ≡ true → is_below (join_of vs) t ≡ each_below vs t
join-within no_values t p = refl
join-within (value_then v vs) t p =
    let a = type_of_value v in
    let b = join_of vs in
    normal-within (joined a b) t p
    ∙ same-tests (is_below (joined a b) t) (is_below a t && is_below b t)
    (λ h. and_both (is_below a t) (is_below b t) (below-trans a (joined a b) t (joined-first a b) h) (below-trans b (joined a b) t (joined-second a b) h))
    (λ h. joined-least a b t (and_left (is_below a t) (is_below b t) h) (and_right (is_below a t) (is_below b t) h))
    ∙ ap (λ c. is_below a t && c) (join-within vs t p)

pub array-within : (vs : Values) (t : Datatype) → is_proper (Array t) ≡ true → is_below (type_of_value (value.Array vs)) (Array t) ≡ each_below vs t
array-within vs t p = normal-within (Array (join_of vs)) (Array t) p ∙ join-within vs t (element-proper t p)

pub record-within : (fs : value.Named) (ts : FieldTypes) → is_proper (Record ts) ≡ true → is_below (type_of_value (value.Record fs)) (Record ts) ≡ are_below (field_types fs) ts
record-within fs ts p = normal-within (Record (field_types fs)) (Record ts) p

-- ---- the types of the fields of such a record

field-proper : (ts : List FieldTy) (i : ℕ) (t : FieldTy) → i < length ts → t ≡ get_or ts i t → are_plain (types_of (map entry_of ts)) ≡ true → depth_of_fields (types_of (map entry_of ts)) ≤ 8 → nodes_of_fields (types_of (map entry_of ts)) ≤ 1024 → is_proper (written t.ty) ≡ true
field-proper [] i t short is plain deep many = absurd (omega arith)
field-proper (x ∷ ts) zero t short is plain deep many =
    subst (λ (y : FieldTy). is_proper (written y.ty) ≡ true) (sym is) (proper-from (written x.ty) (and_left (is_plain (written x.ty)) (are_plain (types_of (map entry_of ts))) plain) (omega (arith, deep)) (omega (arith, many)))
field-proper (x ∷ ts) (suc i) t short is plain deep many = field-proper ts i t (omega arith) is (and_right (is_plain (written x.ty)) (are_plain (types_of (map entry_of ts))) plain) (omega (arith, deep)) (omega (arith, many))

pub proper-field : (ts : List FieldTy) (gs : List (List ℕ × Datatype)) (i : ℕ) (t : FieldTy) → map entry_of ts ≡ gs → i < length ts → t ≡ get_or ts i t → is_proper (Record (types_of gs)) ≡ true → is_proper (written t.ty) ≡ true
proper-field ts gs i t all short is p =
    let q : is_proper (Record (types_of (map entry_of ts))) ≡ true = ap (λ hs. is_proper (Record (types_of hs))) all ∙ p in
    let whole = Record (types_of (map entry_of ts)) in
    let deep : depth_of_fields (types_of (map entry_of ts)) ≤ 8 = omega (arith, proper-depth whole q) in
    let many : nodes_of_fields (types_of (map entry_of ts)) ≤ 1024 = omega (arith, proper-nodes whole q) in
    field-proper ts i t short is (proper-plain whole q) deep many

-- one field more of both
pub fields-next : (fs : List Field) (ts : List FieldTy) (i : ℕ) (f : Field) (t : FieldTy) → i < length fs → i < length ts → f ≡ get_or fs i f → t ≡ get_or ts i t →
    are_below (field_types (named_of (map held.entry_of (drop i fs)))) (types_of (map entry_of (drop i ts)))
    ≡ ((bytes_eq f.name t.name && is_below (type_of_value (value_of f.value)) (written t.ty)) && are_below (field_types (named_of (map held.entry_of (drop (i + 1) fs)))) (types_of (map entry_of (drop (i + 1) ts))))
fields-next fs ts i f t short shorter is is' =
    let front : drop i fs ≡ f ∷ drop (i + 1) fs = drop-cons fs i f short ∙ ap (λ x. x ∷ drop (suc i) fs) (sym is) ∙ ap (λ n. f ∷ drop n fs) (sym (add-one i)) in
    let front' : drop i ts ≡ t ∷ drop (i + 1) ts = drop-cons ts i t shorter ∙ ap (λ x. x ∷ drop (suc i) ts) (sym is') ∙ ap (λ n. t ∷ drop n ts) (sym (add-one i)) in
    λ j. are_below (field_types (named_of (map held.entry_of (front j)))) (types_of (map entry_of (front' j)))

pub items-next : (ts : List Token) (i : ℕ) (t : Token) (ty : Datatype) → i < length ts → t ≡ get_or ts i t → each_below (values_of (map value_of (drop i ts))) ty ≡ (is_below (type_of_value (value_of t)) ty && each_below (values_of (map value_of (drop (i + 1) ts))) ty)
items-next ts i t ty short is =
    let front : drop i ts ≡ t ∷ drop (i + 1) ts = drop-cons ts i t short ∙ ap (λ x. x ∷ drop (suc i) ts) (sym is) ∙ ap (λ n. t ∷ drop n ts) (sym (add-one i)) in
    ap (λ us. each_below (values_of (map value_of us)) ty) front

-- ---- the types of the fields of a token

-- the names of the fields stay
typed-names : (fs : List (List ℕ × Value)) → record_type.names (typed_fields fs) ≡ map (λ f. f.0) fs
typed-names [] = refl
typed-names (f ∷ fs) = ap (λ ns. f.0 ∷ ns) (typed-names fs)

pub typed-lawful : (fs : List (List ℕ × Value)) (ts : List (List ℕ × Datatype)) → ts ≡ typed_fields fs → IsRecord fs → IsRecordType ts
typed-lawful fs ts e lawful =
    let names = typed-names fs in
    let are : record_type.AreRecordNames (map (λ f. f.0) fs) = record { some = subst (λ n. 0 < n) (sym (length-names fs)) lawful.some; named = lawful.named; ascending = lawful.ascending } in
    subst IsRecordType (sym e) (subst record_type.AreRecordNames (sym names) are)
  where
    length-names : (gs : List (List ℕ × Value)) → length (map (λ f. f.0) gs) ≡ length gs
    length-names [] = refl
    length-names (g ∷ gs) = ap (λ n. suc n) (length-names gs)

pub typed-types : (fs : List (List ℕ × Value)) → types_of (typed_fields fs) ≡ field_types (named_of fs)
typed-types [] = refl
typed-types (f ∷ fs) = ap (field_then f.0 (type_of_value f.1)) (typed-types fs)

-- fields of another number
pub fields-apart : (fs : List Field) (ts : List FieldTy) (gs : List (List ℕ × Value)) (hs : List (List ℕ × Datatype)) → map held.entry_of fs ≡ gs → map entry_of ts ≡ hs → (length fs ≡ length ts → ⊥) → false ≡ are_below (field_types (named_of gs)) (types_of hs)
fields-apart fs ts gs hs all all' apart =
    are_below-length (typed_fields gs) hs (λ e. apart (sym (length-map fs held.entry_of) ∙ ap length all ∙ sym (length-map gs (λ f. (f.0, type_of_value f.1))) ∙ e ∙ sym (ap length all') ∙ length-map ts entry_of)) ∙ ap (λ us. are_below us (types_of hs)) (typed-types gs)

-- behind the last field all are taken
pub all-taken : (fs : List Field) (gs : List (List ℕ × Value)) (n : ℕ) → length fs ≤ n → map held.entry_of fs ≡ gs → map held.entry_of (take n fs) ≡ gs
all-taken fs gs n past all = ap (map held.entry_of) (take_all n fs past) ∙ all
