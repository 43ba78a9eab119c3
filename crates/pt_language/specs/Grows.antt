-- Greater types of the names give no smaller type of a tree.
use Rattle.std.proofs.Common.{◌≡◌, ℕ, Bool, true, false, not, ◌&&◌, List, [], ◌∷◌, map, Option, Some, None, option_map, if◌then◌else◌, refl, sym, ap, ◌∙◌}
use Rattle.std.specs.Prelude.{unwrap_or, is_some}
use Rattle.std.specs.Str.{bytes_eq}
use Rattle.pt_datatypes.specs.Datatype.{Datatype, Unknown, Int, Boolean, Words, Array, Record, General, FieldTypes, no_fields, field_then, types_of}
use Rattle.pt_datatypes.specs.Normal.{array_of}
use Rattle.pt_datatypes.specs.Order.{is_below, are_below, IsBelow}
use Rattle.pt_datatypes.specs.Join.{join}
use Rattle.pt_datatypes.proofs.Fields.{and_left, and_right, and_both}
use Rattle.pt_datatypes.proofs.Joins.{normal-below, join-below}
use Rattle.pt_datatypes.proofs.Order.{same_bytes, bytes_eq-refl, below-trans, below-General}
use Rattle.pt_language.specs.declared.expr.BinaryOp.{BinaryOp}
use Rattle.pt_language.specs.declared.expr.BinaryOp.TheVariants as op
use Rattle.pt_language.specs.Comparable.{is_general}
use Rattle.pt_language.specs.RecordOf as record_of
use Rattle.pt_language.specs.RecordOf.{make_record}
use Rattle.pt_language.specs.Scope.{port_in}
use Rattle.pt_language.specs.Tree as tree
use Rattle.pt_language.specs.Tree.{Tree, Trees, no_trees, tree_then, NamedTrees}
use Rattle.pt_language.specs.Typing as typing
use Rattle.pt_language.specs.Typing.{Typing, Has, Clash, and_then, where_true, or_general}
use Rattle.pt_language.specs.Types.{Types, or_else, presence_type, type_under, is_bound}
use Rattle.pt_language.specs.ByName.{put, by_name}
use Rattle.pt_language.specs.TreeType.{number, truth, are_both, summed, calculated, ordered, decided, compared, operated, chosen, element, applied, type_in, field, length_of, recorded, tree_type, parts_type, named_types, are_bound, are_parts_bound, are_fields_bound}
use Rattle.pt_language.specs.Laws.{IsBelowAt, AreBelow}

abbrev Entry : Type 0
Entry = List ℕ × Datatype

-- fields of the same names, each of a type below the other's
abbrev pub EntriesBelow : List Entry → List Entry → Type 0
EntriesBelow [] [] = Unit {0}
EntriesBelow [] (g ∷ gs) = ⊥
EntriesBelow (f ∷ fs) [] = ⊥
EntriesBelow (f ∷ fs) (g ∷ gs) = (f.0 ≡ g.0) × IsBelow f.1 g.1 × EntriesBelow fs gs

-- a clash is above all, and types are by their relation
abbrev pub Below : {A : Type 0} → (A → A → Type 0) → Typing A → Typing A → Type 0
Below R p Clash = Unit {0}
Below R Clash (Has b) = ⊥
Below R (Has a) (Has b) = R a b

then-below : {A B : Type 0} (R : A → A → Type 0) (S : B → B → Type 0) (p q : Typing A) (go run : A → Typing B) → Below R p q → ((a b : A) → R a b → Below S (go a) (run b)) → Below S (and_then p go) (and_then q run)
then-below R S p Clash go run h k = tt
then-below R S Clash (Has b) go run h k = absurd h
then-below R S (Has a) (Has b) go run h k = k a b h

pub is-below : (p q : Typing Datatype) → Below IsBelow p q → typing.IsBelow p q
is-below p Clash h = tt
is-below Clash (Has t) h = h
is-below (Has s) (Has t) h = h

-- two operands
two-below : (p q r u : Typing Datatype) (go : Datatype → Datatype → Typing Datatype) → Below IsBelow p q → Below IsBelow r u → ((a b c d : Datatype) → IsBelow a b → IsBelow c d → Below IsBelow (go a c) (go b d)) → Below IsBelow (and_then p (λ a. and_then r (go a))) (and_then q (λ a. and_then u (go a)))
two-below p q r u go h k grows = then-below IsBelow IsBelow p q (λ a. and_then r (go a)) (λ a. and_then u (go a)) h (λ a b l. then-below IsBelow IsBelow r u (go a) (go b) k (λ c d m. grows a b c d l m))

-- ---- operators

where-below : (b c : Bool) (s t : Datatype) → (c ≡ true → b ≡ true) → IsBelow s t → Below IsBelow (where_true b s) (where_true c t)
where-below true true s t h k = k
where-below true false s t h k = tt
where-below false true s t h k = let e : ⊥ = (let d = h refl in cc) in absurd e
where-below false false s t h k = tt

number-below : (s t : Datatype) → IsBelow s t → Below IsBelow (number s) (number t)
number-below s t h = where-below (is_below s Int) (is_below t Int) Int Int (λ e. below-trans s t Int h e) refl

truth-below : (s t : Datatype) → IsBelow s t → Below IsBelow (truth s) (truth t)
truth-below s t h = where-below (is_below s Boolean) (is_below t Boolean) Boolean Boolean (λ e. below-trans s t Boolean h e) refl

both-below : (bound s t u v : Datatype) → IsBelow s u → IsBelow t v → are_both bound u v ≡ true → are_both bound s t ≡ true
both-below bound s t u v h k e = and_both (is_below s bound) (is_below t bound) (below-trans s u bound h (and_left (is_below u bound) (is_below v bound) e)) (below-trans t v bound k (and_right (is_below u bound) (is_below v bound) e))

calculated-below : (s t u v : Datatype) → IsBelow s u → IsBelow t v → Below IsBelow (calculated s t) (calculated u v)
calculated-below s t u v h k = where-below (are_both Int s t) (are_both Int u v) Int Int (both-below Int s t u v h k) refl

ordered-below : (s t u v : Datatype) → IsBelow s u → IsBelow t v → Below IsBelow (ordered s t) (ordered u v)
ordered-below s t u v h k = where-below (are_both Int s t) (are_both Int u v) Boolean Boolean (both-below Int s t u v h k) refl

decided-below : (s t u v : Datatype) → IsBelow s u → IsBelow t v → Below IsBelow (decided s t) (decided u v)
decided-below s t u v h k = where-below (are_both Boolean s t) (are_both Boolean u v) Boolean Boolean (both-below Boolean s t u v h k) refl

-- what is below a type that isn't general isn't general
pub not_general-below : (s t : Datatype) → IsBelow s t → not (is_general t) ≡ true → not (is_general s) ≡ true
not_general-below General General h e = e
not_general-below General Unknown h e = cc
not_general-below General Int h e = cc
not_general-below General Boolean h e = cc
not_general-below General Words h e = cc
not_general-below General (Array t) h e = cc
not_general-below General (Record fs) h e = cc
not_general-below s t h e = refl

compared-below : (s t u v : Datatype) → IsBelow s u → IsBelow t v → Below IsBelow (compared s t) (compared u v)
compared-below s t u v h k = where-below (not (is_general (join s t))) (not (is_general (join u v))) Boolean Boolean (not_general-below (join s t) (join u v) (join-below s t u v h k)) refl

summed-below : (s t : Datatype) → IsBelow s t → Below IsBelow (summed s) (summed t)
summed-below Unknown Unknown h = refl
summed-below Unknown Int h = refl
summed-below Unknown Words h = refl
summed-below Unknown t h = tt
summed-below Int Int h = refl
summed-below Int General h = tt
summed-below Int t h = cc
summed-below Words Words h = refl
summed-below Words General h = tt
summed-below Words t h = cc
summed-below Boolean Boolean h = tt
summed-below Boolean General h = tt
summed-below Boolean t h = cc
summed-below (Array s) (Array t) h = tt
summed-below (Array s) General h = tt
summed-below (Array s) t h = cc
summed-below (Record fs) (Record gs) h = tt
summed-below (Record fs) General h = tt
summed-below (Record fs) t h = cc
summed-below General General h = tt
summed-below General t h = cc

operated-below : (o : BinaryOp) (s t u v : Datatype) → IsBelow s u → IsBelow t v → Below IsBelow (operated o s t) (operated o u v)
operated-below op.Or = decided-below
operated-below op.And = decided-below
operated-below op.Equal = compared-below
operated-below op.Unequal = compared-below
operated-below op.Less = ordered-below
operated-below op.LessEqual = ordered-below
operated-below op.Greater = ordered-below
operated-below op.GreaterEqual = ordered-below
operated-below op.Add = λ s t u v h k. summed-below (join s t) (join u v) (join-below s t u v h k)
operated-below op.Subtract = calculated-below
operated-below op.Multiply = calculated-below
operated-below op.Divide = calculated-below
operated-below op.Remainder = calculated-below

chosen-below : (a b s t u v : Datatype) → IsBelow a b → IsBelow s u → IsBelow t v → Below IsBelow (chosen a s t) (chosen b u v)
chosen-below a b s t u v h k l = where-below (is_below a Boolean) (is_below b Boolean) (join s t) (join u v) (λ e. below-trans a b Boolean h e) (join-below s t u v k l)

pub element-below : (s t : Datatype) → IsBelow s t → Below IsBelow (element s) (element t)
element-below Unknown Unknown h = refl
element-below Unknown (Array t) h = refl
element-below Unknown t h = tt
element-below Int Int h = tt
element-below Int General h = tt
element-below Int t h = cc
element-below Boolean Boolean h = tt
element-below Boolean General h = tt
element-below Boolean t h = cc
element-below Words Words h = tt
element-below Words General h = tt
element-below Words t h = cc
element-below (Array s) (Array t) h = h
element-below (Array s) General h = tt
element-below (Array s) t h = cc
element-below (Record fs) (Record gs) h = tt
element-below (Record fs) General h = tt
element-below (Record fs) t h = cc
element-below General General h = tt
element-below General t h = cc

applied-by : (b c : Bool) (s t : Datatype) → (c ≡ true → b ≡ true) → IsBelow s t → Below IsBelow (if b then element s else Clash) (if c then element t else Clash)
applied-by true true s t h k = element-below s t k
applied-by true false s t h k = tt
applied-by false true s t h k = let e : ⊥ = (let d = h refl in cc) in absurd e
applied-by false false s t h k = tt

applied-below : (s t u v : Datatype) → IsBelow s u → IsBelow t v → Below IsBelow (applied s t) (applied u v)
applied-below s t u v h k = applied-by (is_below t Int) (is_below v Int) s u (λ e. below-trans t v Int k e) h

type_in-by : (b : Bool) (s t : Datatype) (p q : Typing Datatype) → IsBelow s t → Below IsBelow p q → Below IsBelow (if b then Has s else p) (if b then Has t else q)
type_in-by true s t p q h k = h
type_in-by false s t p q h k = k

type_in-below : (fs gs : FieldTypes) (name : List ℕ) → are_below fs gs ≡ true → Below IsBelow (type_in fs name) (type_in gs name)
type_in-below no_fields no_fields name h = tt
type_in-below no_fields (field_then n t gs) name h = cc
type_in-below (field_then m s fs) no_fields name h = tt
type_in-below (field_then m s fs) (field_then n t gs) name h =
    let a = and_left (bytes_eq m n && is_below s t) (are_below fs gs) h in
    let e : bytes_eq m name ≡ bytes_eq n name = ap (λ l. bytes_eq l name) (same_bytes m n (and_left (bytes_eq m n) (is_below s t) a)) in
    rw e (type_in-by (bytes_eq n name) s t (type_in fs name) (type_in gs name) (and_right (bytes_eq m n) (is_below s t) a) (type_in-below fs gs name (and_right (bytes_eq m n && is_below s t) (are_below fs gs) h)))

field-unknown : (name : List ℕ) (p : Typing Datatype) → Below IsBelow (Has Unknown) p
field-unknown name (Has t) = refl
field-unknown name Clash = tt

pub field-below : (name : List ℕ) (s t : Datatype) → IsBelow s t → Below IsBelow (field name s) (field name t)
field-below name Unknown t h = field-unknown name (field name t)
field-below name (Record fs) (Record gs) h = type_in-below fs gs name h
field-below name (Record fs) General h = tt
field-below name (Record fs) t h = cc
field-below name Int Int h = tt
field-below name Int General h = tt
field-below name Int t h = cc
field-below name Boolean Boolean h = tt
field-below name Boolean General h = tt
field-below name Boolean t h = cc
field-below name Words Words h = tt
field-below name Words General h = tt
field-below name Words t h = cc
field-below name (Array s) (Array t) h = tt
field-below name (Array s) General h = tt
field-below name (Array s) t h = cc
field-below name General General h = tt
field-below name General t h = cc

length_of-below : (s t : Datatype) → IsBelow s t → Below IsBelow (length_of s) (length_of t)
length_of-below Unknown Unknown h = refl
length_of-below Unknown Words h = refl
length_of-below Unknown (Array t) h = refl
length_of-below Unknown t h = tt
length_of-below Int Int h = tt
length_of-below Int General h = tt
length_of-below Int t h = cc
length_of-below Boolean Boolean h = tt
length_of-below Boolean General h = tt
length_of-below Boolean t h = cc
length_of-below Words Words h = refl
length_of-below Words General h = tt
length_of-below Words t h = cc
length_of-below (Array s) (Array t) h = refl
length_of-below (Array s) General h = tt
length_of-below (Array s) t h = cc
length_of-below (Record fs) (Record gs) h = tt
length_of-below (Record fs) General h = tt
length_of-below (Record fs) t h = cc
length_of-below General General h = tt
length_of-below General t h = cc

-- ---- record literals

names-same : (fs gs : List Entry) → EntriesBelow fs gs → map (λ f. f.0) fs ≡ map (λ f. f.0) gs
names-same [] [] h = refl
names-same (f ∷ fs) (g ∷ gs) h = λ i. h.0 i ∷ names-same fs gs h.2 i
names-same [] (g ∷ gs) h = absurd h
names-same (f ∷ fs) [] h = absurd h

put-by : (b : Bool) (f g x y : Entry) (fs gs : List Entry) → (f.0 ≡ g.0) × IsBelow f.1 g.1 → EntriesBelow (x ∷ fs) (y ∷ gs) → EntriesBelow (put f fs) (put g gs) → EntriesBelow (if b then f ∷ x ∷ fs else x ∷ put f fs) (if b then g ∷ y ∷ gs else y ∷ put g gs)
put-by true f g x y fs gs h k l = (h.0, h.1, k)
put-by false f g x y fs gs h k l = (k.0, k.1, l)

put-below : (f g : Entry) (fs gs : List Entry) → (f.0 ≡ g.0) × IsBelow f.1 g.1 → EntriesBelow fs gs → EntriesBelow (put f fs) (put g gs)
put-below f g [] [] h k = (h.0, h.1, tt)
put-below f g (x ∷ fs) (y ∷ gs) h k =
    let e : record_of.is_below f.0 x.0 ≡ record_of.is_below g.0 y.0 = λ i. record_of.is_below (h.0 i) (k.0 i) in
    rw e (put-by (record_of.is_below g.0 y.0) f g x y fs gs h k (put-below f g fs gs h k.2))
put-below f g [] (y ∷ gs) h k = absurd k
put-below f g (x ∷ fs) [] h k = absurd k

by_name-below : (fs gs : List Entry) → EntriesBelow fs gs → EntriesBelow (by_name fs) (by_name gs)
by_name-below [] [] h = tt
by_name-below (f ∷ fs) (g ∷ gs) h = put-below f g (by_name fs) (by_name gs) (h.0, h.1) (by_name-below fs gs h.2)
by_name-below [] (g ∷ gs) h = absurd h
by_name-below (f ∷ fs) [] h = absurd h

types_of-below : (fs gs : List Entry) → EntriesBelow fs gs → are_below (types_of fs) (types_of gs) ≡ true
types_of-below [] [] h = refl
types_of-below (f ∷ fs) (g ∷ gs) h = and_both (bytes_eq f.0 g.0 && is_below f.1 g.1) _ (and_both (bytes_eq f.0 g.0) (is_below f.1 g.1) (ap (bytes_eq f.0) (sym h.0) ∙ bytes_eq-refl f.0) h.1) (types_of-below fs gs h.2)
types_of-below [] (g ∷ gs) h = absurd h
types_of-below (f ∷ fs) [] h = absurd h

pub recorded-below : (fs gs : List Entry) → EntriesBelow fs gs → Below IsBelow (recorded fs) (recorded gs)
recorded-below fs gs h =
    let same = ap make_record (names-same fs gs h) in
    where-below (make_record (map (λ f. f.0) fs)) (make_record (map (λ f. f.0) gs)) _ _ (λ e. same ∙ e) (normal-below (Record (types_of (by_name fs))) (Record (types_of (by_name gs))) (types_of-below (by_name fs) (by_name gs) (by_name-below fs gs h)))

-- ---- names

pub or_else-below : (a b c d : Option Datatype) → IsBelowAt a b → IsBelowAt c d → IsBelowAt (or_else a c) (or_else b d)
or_else-below None None c d h k = k
or_else-below (Some s) (Some t) c d h k = h
or_else-below None (Some t) c d h k = absurd h
or_else-below (Some s) None c d h k = absurd h

asked-below : (a b : Option Datatype) → IsBelowAt a b → IsBelowAt (option_map (λ t. Boolean) a) (option_map (λ t. Boolean) b)
asked-below None None h = tt
asked-below (Some s) (Some t) h = refl
asked-below None (Some t) h = absurd h
asked-below (Some s) None h = absurd h

presence-below : (fewer more : Types) → AreBelow fewer more → (port : Option (List ℕ)) → IsBelowAt (presence_type fewer port) (presence_type more port)
presence-below fewer more h None = tt
presence-below fewer more h (Some port) = asked-below (fewer port) (more port) (h port)

type_under-below : (fewer more : Types) → AreBelow fewer more → (name : List ℕ) → IsBelowAt (type_under fewer name) (type_under more name)
type_under-below fewer more h name = or_else-below (fewer name) (more name) (presence_type fewer (port_in name)) (presence_type more (port_in name)) (h name) (presence-below fewer more h (port_in name))

some-same : (a b : Option Datatype) → IsBelowAt a b → is_some a ≡ is_some b
some-same None None h = refl
some-same (Some s) (Some t) h = refl
some-same None (Some t) h = absurd h
some-same (Some s) None h = absurd h

name-below : (a b : Option Datatype) → IsBelowAt a b → IsBelow (unwrap_or a Unknown) (unwrap_or b Unknown)
name-below None None h = refl
name-below (Some s) (Some t) h = h
name-below None (Some t) h = absurd h
name-below (Some s) None h = absurd h

-- ---- trees

module _ (fewer more : Types) (h : AreBelow fewer more) where
  mutual
    pub tree-below : (t : Tree) → Below IsBelow (tree_type fewer t) (tree_type more t)
    tree-below (tree.Int n) = refl
    tree-below (tree.Bool b) = refl
    tree-below (tree.Words xs) = refl
    tree-below (tree.Name name) = name-below (type_under fewer name) (type_under more name) (type_under-below fewer more h name)
    tree-below (tree.Array ts) = then-below IsBelow IsBelow (parts_type fewer ts) (parts_type more ts) (λ t. Has (array_of t)) (λ t. Has (array_of t)) (parts-below ts) (λ a b k. normal-below (Array a) (Array b) k)
    tree-below (tree.Record fs) = then-below EntriesBelow IsBelow (named_types fewer fs) (named_types more fs) recorded recorded (named-below fs) recorded-below
    tree-below (tree.Negate t) = then-below IsBelow IsBelow (tree_type fewer t) (tree_type more t) number number (tree-below t) number-below
    tree-below (tree.Not t) = then-below IsBelow IsBelow (tree_type fewer t) (tree_type more t) truth truth (tree-below t) truth-below
    tree-below (tree.Binary o s t) = two-below (tree_type fewer s) (tree_type more s) (tree_type fewer t) (tree_type more t) (operated o) (tree-below s) (tree-below t) (λ a b c d. operated-below o a c b d)
    tree-below (tree.Cond s t u) = then-below IsBelow IsBelow (tree_type fewer s) (tree_type more s) (λ a. and_then (tree_type fewer t) (λ b. and_then (tree_type fewer u) (chosen a b))) (λ a. and_then (tree_type more t) (λ b. and_then (tree_type more u) (chosen a b))) (tree-below s)
        (λ a b k. then-below IsBelow IsBelow (tree_type fewer t) (tree_type more t) (λ c. and_then (tree_type fewer u) (chosen a c)) (λ c. and_then (tree_type more u) (chosen b c)) (tree-below t)
        (λ c d l. then-below IsBelow IsBelow (tree_type fewer u) (tree_type more u) (chosen a c) (chosen b d) (tree-below u) (λ e f m. chosen-below a b c e d f k l m)))
    tree-below (tree.Abs t) = then-below IsBelow IsBelow (tree_type fewer t) (tree_type more t) number number (tree-below t) number-below
    tree-below (tree.Max s t) = two-below (tree_type fewer s) (tree_type more s) (tree_type fewer t) (tree_type more t) calculated (tree-below s) (tree-below t) (λ a b c d. calculated-below a c b d)
    tree-below (tree.Min s t) = two-below (tree_type fewer s) (tree_type more s) (tree_type fewer t) (tree_type more t) calculated (tree-below s) (tree-below t) (λ a b c d. calculated-below a c b d)
    tree-below (tree.Apply s t) = two-below (tree_type fewer s) (tree_type more s) (tree_type fewer t) (tree_type more t) applied (tree-below s) (tree-below t) (λ a b c d. applied-below a c b d)
    tree-below (tree.Field t name) = then-below IsBelow IsBelow (tree_type fewer t) (tree_type more t) (field name) (field name) (tree-below t) (field-below name)
    tree-below (tree.Length t) = then-below IsBelow IsBelow (tree_type fewer t) (tree_type more t) length_of length_of (tree-below t) length_of-below

    parts-below : (ts : Trees) → Below IsBelow (parts_type fewer ts) (parts_type more ts)
    parts-below no_trees = refl
    parts-below (tree_then t ts) = then-below IsBelow IsBelow (tree_type fewer t) (tree_type more t) (λ a. and_then (parts_type fewer ts) (λ b. Has (join a b))) (λ a. and_then (parts_type more ts) (λ b. Has (join a b))) (tree-below t)
        (λ a b k. then-below IsBelow IsBelow (parts_type fewer ts) (parts_type more ts) (λ c. Has (join a c)) (λ c. Has (join b c)) (parts-below ts) (λ c d l. join-below a c b d k l))

    named-below : (fs : NamedTrees) → Below EntriesBelow (named_types fewer fs) (named_types more fs)
    named-below tree.no_fields = tt
    named-below (tree.field_then n t fs) = then-below IsBelow EntriesBelow (tree_type fewer t) (tree_type more t) (λ a. and_then (named_types fewer fs) (λ ps. Has ((n, a) ∷ ps))) (λ a. and_then (named_types more fs) (λ ps. Has ((n, a) ∷ ps))) (tree-below t)
        (λ a b k. then-below EntriesBelow EntriesBelow (named_types fewer fs) (named_types more fs) (λ ps. Has ((n, a) ∷ ps)) (λ ps. Has ((n, b) ∷ ps)) (named-below fs) (λ ps qs l. (refl, k, l)))

  pub name-bound : (name : List ℕ) → is_bound fewer name ≡ is_bound more name
  name-bound name = some-same (type_under fewer name) (type_under more name) (type_under-below fewer more h name)

  mutual
    pub bound-same : (t : Tree) → are_bound fewer t ≡ are_bound more t
    bound-same (tree.Int n) = refl
    bound-same (tree.Bool b) = refl
    bound-same (tree.Words xs) = refl
    bound-same (tree.Name name) = name-bound name
    bound-same (tree.Array ts) = parts-same ts
    bound-same (tree.Record fs) = fields-same fs
    bound-same (tree.Negate t) = bound-same t
    bound-same (tree.Not t) = bound-same t
    bound-same (tree.Binary o s t) = λ i. bound-same s i && bound-same t i
    bound-same (tree.Cond s t u) = λ i. bound-same s i && (bound-same t i && bound-same u i)
    bound-same (tree.Abs t) = bound-same t
    bound-same (tree.Max s t) = λ i. bound-same s i && bound-same t i
    bound-same (tree.Min s t) = λ i. bound-same s i && bound-same t i
    bound-same (tree.Apply s t) = λ i. bound-same s i && bound-same t i
    bound-same (tree.Field t name) = bound-same t
    bound-same (tree.Length t) = bound-same t

    parts-same : (ts : Trees) → are_parts_bound fewer ts ≡ are_parts_bound more ts
    parts-same no_trees = refl
    parts-same (tree_then t ts) = λ i. bound-same t i && parts-same ts i

    fields-same : (fs : NamedTrees) → are_fields_bound fewer fs ≡ are_fields_bound more fs
    fields-same tree.no_fields = refl
    fields-same (tree.field_then n t fs) = λ i. bound-same t i && fields-same fs i

pub tree_type-below : (fewer more : Types) → AreBelow fewer more → (t : Tree) → typing.IsBelow (tree_type fewer t) (tree_type more t)
tree_type-below fewer more h t = is-below (tree_type fewer t) (tree_type more t) (tree-below fewer more h t)

pub or_general-below : (p q : Typing Datatype) → typing.IsBelow p q → IsBelow (or_general p) (or_general q)
or_general-below p Clash h = below-General (or_general p)
or_general-below Clash (Has t) h = absurd h
or_general-below (Has s) (Has t) h = h
