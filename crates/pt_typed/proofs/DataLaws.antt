-- Each data actor gives tokens of the types of its outputs, where its inputs are of those of its places.
use Rattle.std.proofs.Common.{◌≡◌, ℕ, zero, suc, List, [], ◌∷◌, length, map, replicate, take, Bool, true, false, not, nat_eq, nat_le, Option, Some, None, ℤ, pos, negsuc, refl, sym, subst, slice_get, if◌then◌else◌}
use Rattle.std.specs.Prelude.{nat_lt, chars, ◌^◌, option_map}
use Rattle.std.specs.List.{AllByRecursion}
use Rattle.pt_meaning.specs.Basics.{Tag, Streams, at}
use Rattle.pt_meaning.specs.Streams.{get}
use Rattle.pt_meaning.specs.Node as node
use Rattle.pt_value.specs.Value as val
use Rattle.pt_value.specs.Value.{Value, size, values_of, named_of, fields_of, fields_of-named_of}
use Rattle.pt_value.specs.Token.{value_of, token_of}
use Rattle.pt_value.specs.declared.token.Token.{Token}
use Rattle.pt_value.specs.declared.token.Token.TheVariants as token
use Rattle.pt_datatypes.specs.Datatype.{Datatype, Int, Boolean}
use Rattle.pt_datatypes.specs.Normal.{array_of}
use Rattle.pt_datatypes.specs.Order.{IsBelow}
use Rattle.pt_datatypes.specs.Token.{join_of}
use Rattle.pt_datatypes.proofs.Order.{below-trans, below-refl}
use Rattle.pt_language.specs.Outcome as outcome
use Rattle.pt_language.specs.Outcome.{Outcome}
use Rattle.pt_language.specs.RecordOf.{record_of}
use Rattle.pt_language.specs.TreeType.{field}
use Rattle.pt_language.proofs.Values.{Of, Sound, field-sound}
use Rattle.pt_language.specs.Meaning as meaning
use Rattle.pt_value.specs.Record.{field_at}
use Rattle.pt_firing.specs.Row.{first_in, token_at, number_at, truth_at, all_present}
use Rattle.pt_firing.specs.declared.fault.RunFault.TheVariants.{Size, Length, Overflow}
use Rattle.pt_lib_data.specs.declared.comparator.Relation.{Relation}
use Rattle.pt_lib_data.specs.declared.data_actor.DataActor.{DataActor}
use Rattle.pt_lib_data.specs.declared.function.Function.{Function}
use Rattle.pt_lib_data.specs.declared.function.Function.TheVariants.{ArrayElement, ArrayToSequence, Barrier, Comparator, Discard, ElementsToArray, Equals, Limiter, LogicFunction, LogicalNot, RecordAssembler, RecordDisassembler, SequenceToArray, StringLength}
use Rattle.pt_lib_data.specs.Reply.{Reply, Gives, Fails, one, nothing, on, sized, largest}
use Rattle.pt_lib_data.specs.ArrayElement as array_element
use Rattle.pt_lib_data.specs.ArrayToSequence as array_to_sequence
use Rattle.pt_lib_data.specs.Comparator as comparator
use Rattle.pt_lib_data.specs.ElementsToArray as elements_to_array
use Rattle.pt_lib_data.specs.Equals as equals
use Rattle.pt_lib_data.specs.Limiter as limiter
use Rattle.pt_lib_data.specs.LogicFunction as logic_function
use Rattle.pt_lib_data.specs.RecordAssembler as record_assembler
use Rattle.pt_lib_data.specs.RecordDisassembler as record_disassembler
use Rattle.pt_lib_data.specs.SequenceToArray as sequence_to_array
use Rattle.pt_lib_data.specs.StringLength as string_length
use Rattle.pt_lib_data.specs.Function as function
use Rattle.pt_lib_data.specs.DataActor.{step}
use Rattle.pt_lib_data.proofs.Steadiness.{as-answered}
use Rattle.pt_kinds.specs.Signature.{AreOf, AreAllOf}
use Rattle.pt_typed.specs.TokenTypes.{IsTokenOf, IsUnder, ToFirst, elements_of}
use Rattle.pt_typed.specs.TypedData.{TakesArrays, TakeFields, IsTypedFunction}
use Rattle.pt_kinds.proofs.StreamLaws.{AreGiven, at-given, all-take}
use Rattle.pt_typed.proofs.TypeLaws.{of-value, token-wider, elements-of, array-of-tokens, found-below, token-of, all-of}
use Rattle.pt_typed.proofs.RecordLaws.{OfOutcome, record-of}

-- what a reply gives, if it gives anything
abbrev Pours : List Datatype → Reply → Type 0
Pours us (Gives X) = AreOf IsTokenOf us X
Pours us (Fails fault) = Unit {0}

by-test : (us : List Datatype) (b : Bool) (r s : Reply) → (b ≡ true → Pours us r) → (b ≡ false → Pours us s) → Pours us (if b then r else s)
by-test us true r s h k = h refl
by-test us false r s h k = k refl

-- ---- one output

none : (P : Datatype → Type 0) (us : List Datatype) → ToFirst P us → Pours us nothing
none P [] h = absurd h
none P (u ∷ us) h = (tt, tt)

one-of : (us : List Datatype) (t : Token) → ToFirst (λ u. IsTokenOf u t) us → Pours us (one t)
one-of [] t h = absurd h
one-of (u ∷ us) t h = ((h, tt), tt)

sized-of : (us : List Datatype) (t : Token) → ToFirst (λ u. IsTokenOf u t) us → Pours us (sized t)
sized-of us t h = by-test us (nat_le (size (value_of t)) largest) (one t) (Fails Size) (λ e. one-of us t h) (λ e. tt)

where-present : {T : Type 0} (us : List Datatype) (f : T → Token) (P : Datatype → Type 0) → ToFirst P us → ((x : T) → ToFirst (λ u. IsTokenOf u (f x)) us) → (o : Option T) → Pours us (on (λ x. one (f x)) o)
where-present us f P h k None = none P us h
where-present us f P h k (Some x) = one-of us (f x) (k x)

compared-of : (us : List Datatype) (relation : Relation) (a b : Option ℤ) → ToFirst (λ u. IsBelow Boolean u) us → Pours us (comparator.compared relation a b)
compared-of us relation (Some a) (Some b) h = one-of us (token.Bool (comparator.holds relation a b)) h
compared-of us relation (Some a) None h = none (λ u. IsBelow Boolean u) us h
compared-of us relation None b h = none (λ u. IsBelow Boolean u) us h

counted-of : (us : List Datatype) (n : ℕ) → ToFirst (λ u. IsBelow Int u) us → Pours us (string_length.counted n)
counted-of us n h = by-test us (nat_lt n (2 ^ 63)) (one (token.Int (pos n))) (Fails Overflow) (λ e. one-of us (token.Int (pos n)) h) (λ e. tt)

length-of : (us : List Datatype) (o : Option Token) → ToFirst (λ u. IsBelow Int u) us → Pours us (string_length.of_token o)
length-of us None h = none (λ u. IsBelow Int u) us h
length-of us (Some (token.Text t)) h = counted-of us (length (chars t)) h
length-of us (Some (token.Int n)) h = none (λ u. IsBelow Int u) us h
length-of us (Some (token.Bool b)) h = none (λ u. IsBelow Int u) us h
length-of us (Some (token.Array vs)) h = none (λ u. IsBelow Int u) us h
length-of us (Some (token.Record fs)) h = none (λ u. IsBelow Int u) us h

-- ---- elements

element-at : (u : Datatype) (vs : List Value) (n : ℕ) → AllByRecursion (IsTokenOf u) (map token_of vs) → (us : List Datatype) → Pours (u ∷ us) (array_element.found (option_map token_of (slice_get vs n)))
element-at u [] n a us = tt
element-at u (v ∷ vs) zero a us = ((a.0, tt), tt)
element-at u (v ∷ vs) (suc n) a us = element-at u vs n a.1 us

element-of : (u : Datatype) (vs : List Value) (index : ℤ) → AllByRecursion (IsTokenOf u) (map token_of vs) → (us : List Datatype) → Pours (u ∷ us) (array_element.of_array vs index)
element-of u vs (pos n) a us = element-at u vs n a us
element-of u vs (negsuc n) a us = tt

-- the type of an array at a place: that of its elements is taken
array-at : (o : Option Datatype) (xs : List Token) (vs : List Value) (u : Datatype) → AreGiven IsTokenOf o xs → IsUnder (elements_of o) u → first_in xs ≡ Some (token.Array vs) → AllByRecursion (IsTokenOf u) (map token_of vs)
array-at None xs vs u a h e = absurd (let none : first_in {T = Token} [] ≡ Some (token.Array vs) = subst (λ v. first_in v ≡ Some (token.Array vs)) a e in cc)
array-at (Some t) xs vs u a h e = elements-of t vs u (token-of (Some t) xs (token.Array vs) t a (below-refl t) e) h

index-of : (ps : List Datatype) (u : Datatype) (us : List Datatype) (index : ℤ) (X : Streams Token) → AreOf IsTokenOf ps X → IsUnder (elements_of (get ps 0)) u → (o : Option Token) → token_at X 0 ≡ o → Pours (u ∷ us) (array_element.of_token index o)
index-of ps u us index X a h None e = (tt, tt)
index-of ps u us index X a h (Some (token.Array vs)) e = element-of u vs index (array-at (get ps 0) (at X 0) vs u (at-given IsTokenOf ps X 0 a) h e) us
index-of ps u us index X a h (Some (token.Int n)) e = (tt, tt)
index-of ps u us index X a h (Some (token.Bool b)) e = (tt, tt)
index-of ps u us index X a h (Some (token.Text t)) e = (tt, tt)
index-of ps u us index X a h (Some (token.Record fs)) e = (tt, tt)

sequence-of : (ps : List Datatype) (u : Datatype) (us : List Datatype) (count : ℕ) (X : Streams Token) → AreOf IsTokenOf ps X → IsUnder (elements_of (get ps 0)) u → (o : Option Token) → token_at X 0 ≡ o → Pours (u ∷ us) (array_to_sequence.of_token count o)
sequence-of ps u us count X a h None e = (tt, tt)
sequence-of ps u us count X a h (Some (token.Array vs)) e = by-test (u ∷ us) (nat_eq (length vs) count) (Gives (map token_of vs ∷ [])) (Fails Length) (λ d. (array-at (get ps 0) (at X 0) vs u (at-given IsTokenOf ps X 0 a) h e, tt)) (λ d. tt)
sequence-of ps u us count X a h (Some (token.Int n)) e = (tt, tt)
sequence-of ps u us count X a h (Some (token.Bool b)) e = (tt, tt)
sequence-of ps u us count X a h (Some (token.Text t)) e = (tt, tt)
sequence-of ps u us count X a h (Some (token.Record fs)) e = (tt, tt)

-- ---- arrays

firsts-of : (r : Datatype) (ps : List Datatype) (X : Streams Token) → AllByRecursion (λ t. IsBelow t r) ps → AreOf IsTokenOf ps X → AllByRecursion (IsTokenOf r) (elements_to_array.firsts X)
unfolding elements_to_array.firsts
firsts-of r ps [] b a = tt
firsts-of r [] (xs ∷ X) b a = absurd a
firsts-of r (p ∷ ps) ([] ∷ X) b a = firsts-of r ps X b.1 a.1
firsts-of r (p ∷ ps) ((x ∷ xs) ∷ X) b a = (token-wider p r x b.0 a.0.0, firsts-of r ps X b.1 a.1)

arrays-of : (ps : List Datatype) (u : Datatype) (us : List Datatype) (X : Streams Token) → AreOf IsTokenOf ps X → TakesArrays ps u → Pours (u ∷ us) (elements_to_array.give X)
arrays-of ps u us X a h =
    let ts = elements_to_array.firsts X in
    by-test (u ∷ us) (all_present X) (sized (elements_to_array.array_of ts)) nothing
    (λ e. sized-of (u ∷ us) (elements_to_array.array_of ts) (below-trans (array_of (join_of (values_of (map value_of ts)))) (array_of h.element) u (array-of-tokens h.element ts (firsts-of h.element ps X h.above a)) h.taken))
    (λ e. (tt, tt))

place-under : (r : Datatype) (ps : List Datatype) (n : ℕ) → AllByRecursion (λ t. IsBelow t r) ps → IsUnder (get ps n) r
place-under r [] n b = tt
place-under r (p ∷ ps) zero b = b.0
place-under r (p ∷ ps) (suc n) b = place-under r ps n b.1

block-of : (ps : List Datatype) (u : Datatype) (us : List Datatype) (count : ℕ) (X : Streams Token) → AreOf IsTokenOf ps X → TakesArrays ps u → Pours (u ∷ us) (sequence_to_array.give count X)
block-of ps u us count X a h =
    let ts = take count (at X 0) in
    let all = all-take (IsTokenOf h.element) count (at X 0) (all-of (get ps 0) (at X 0) h.element (at-given IsTokenOf ps X 0 a) (place-under h.element ps 0 h.above)) in
    by-test (u ∷ us) (nat_le count (length (at X 0))) (sized (elements_to_array.array_of ts)) nothing
    (λ e. sized-of (u ∷ us) (elements_to_array.array_of ts) (below-trans (array_of (join_of (values_of (map value_of ts)))) (array_of h.element) u (array-of-tokens h.element ts all) h.taken))
    (λ e. (tt, tt))

-- ---- records

assembled-of : (u : Datatype) (us : List Datatype) (o : Outcome Value) → OfOutcome u o → Pours (u ∷ us) (record_assembler.made o)
assembled-of u us (outcome.Gives v) h = sized-of (u ∷ us) (token_of v) (of-value u v h)
assembled-of u us (outcome.Stops fault) h = (tt, tt)
assembled-of u us outcome.Wrong h = (tt, tt)

fields-of : (t : Datatype) (fs : List (List ℕ × Value)) (names : List (List ℕ)) (us : List Datatype) → IsTokenOf t (token.Record fs) → TakeFields (Some t) names us → AreOf IsTokenOf us (map (record_disassembler.field fs) names)
fields-of t fs [] us h k = tt
fields-of t fs (name ∷ names) [] h k = absurd k
fields-of t fs (name ∷ names) (u ∷ us) h k =
    (found-below (field name t) (field_at fs name) u (subst (λ gs. Sound Of (field name t) (meaning.there (field_at gs name))) (fields_of-named_of fs) (field-sound name t (val.Record (named_of fs)) h)) k.0, fields-of t fs names us h k.1)

absent-of : (o : Option Datatype) (names : List (List ℕ)) (us : List Datatype) → TakeFields o names us → AreOf IsTokenOf us (replicate (length names) [])
absent-of o [] us k = tt
absent-of o (name ∷ names) [] k = absurd k
absent-of o (name ∷ names) (u ∷ us) k = (tt, absent-of o names us k.1)

record-at : (o : Option Datatype) (xs : List Token) (fs : List (List ℕ × Value)) (names : List (List ℕ)) (us : List Datatype) → AreGiven IsTokenOf o xs → TakeFields o names us → first_in xs ≡ Some (token.Record fs) → AreOf IsTokenOf us (map (record_disassembler.field fs) names)
record-at None xs fs names us a k e = absurd (let none : first_in {T = Token} [] ≡ Some (token.Record fs) = subst (λ v. first_in v ≡ Some (token.Record fs)) a e in cc)
record-at (Some t) xs fs names us a k e = fields-of t fs names us (token-of (Some t) xs (token.Record fs) t a (below-refl t) e) k

disassembled-of : (ps us : List Datatype) (names : List (List ℕ)) (X : Streams Token) → AreOf IsTokenOf ps X → TakeFields (get ps 0) names us → (o : Option Token) → token_at X 0 ≡ o → Pours us (record_disassembler.of_token names o)
disassembled-of ps us names X a h None e = absent-of (get ps 0) names us h
disassembled-of ps us names X a h (Some (token.Record fs)) e = record-at (get ps 0) (at X 0) fs names us (at-given IsTokenOf ps X 0 a) h e
disassembled-of ps us names X a h (Some (token.Int n)) e = absent-of (get ps 0) names us h
disassembled-of ps us names X a h (Some (token.Bool b)) e = absent-of (get ps 0) names us h
disassembled-of ps us names X a h (Some (token.Text t)) e = absent-of (get ps 0) names us h
disassembled-of ps us names X a h (Some (token.Array vs)) e = absent-of (get ps 0) names us h

-- ---- each class

give-of : (ps us : List Datatype) (f : Function) (X : Streams Token) → IsTypedFunction ps us f → AreAllOf IsTokenOf ps X → Pours us (function.give f X)
give-of ps [] (ArrayElement index) X h a = absurd h
give-of ps (u ∷ us) (ArrayElement index) X h a = index-of ps u us index X a.1 h (token_at X 0) refl
give-of ps [] (ArrayToSequence count) X h a = absurd h
give-of ps (u ∷ us) (ArrayToSequence count) X h a = sequence-of ps u us count X a.1 h (token_at X 0) refl
give-of ps [] Barrier X h a = absurd h
give-of ps (u ∷ us) Barrier X h a = arrays-of ps u us X a.1 h
give-of ps us (Comparator relation) X h a = compared-of us relation (number_at X 0) (number_at X 1) h
give-of ps us Discard X h a = tt
give-of ps [] ElementsToArray X h a = absurd h
give-of ps (u ∷ us) ElementsToArray X h a = arrays-of ps u us X a.1 h
give-of ps us Equals X h a = where-present us (λ t. token.Bool (equals.all_agree t X)) (λ u. IsBelow Boolean u) h (λ t. h) (equals.first_present X)
give-of ps us (Limiter range) X h a = where-present us (λ n. token.Int (limiter.nearest range n)) (λ u. IsBelow Int u) h (λ n. h) (number_at X 0)
give-of ps us (LogicFunction gate) X h a = by-test us (nat_eq (logic_function.given X) 0) nothing (one (token.Bool (logic_function.decided gate (logic_function.given X) (logic_function.trues X)))) (λ e. none (λ u. IsBelow Boolean u) us h) (λ e. one-of us (token.Bool (logic_function.decided gate (logic_function.given X) (logic_function.trues X))) h)
give-of ps us LogicalNot X h a = where-present us (λ b. token.Bool (not b)) (λ u. IsBelow Boolean u) h (λ b. h) (truth_at X 0)
give-of ps [] (RecordAssembler names) X h a = absurd h
give-of ps (u ∷ us) (RecordAssembler names) X h a = by-test (u ∷ us) (all_present X) (record_assembler.assembled (record_assembler.fields names X)) nothing (λ e. assembled-of u us (record_of (record_assembler.fields names X)) (record-of names ps X u a.0 a.1 e h)) (λ e. (tt, tt))
give-of ps us (RecordDisassembler names) X h a = disassembled-of ps us names X a.1 h (token_at X 0) refl
give-of ps [] (SequenceToArray count) X h a = absurd h
give-of ps (u ∷ us) (SequenceToArray count) X h a = block-of ps u us count X a.1 h
give-of ps us StringLength X h a = length-of us (token_at X 0) h

-- it stays as it is
pub data-keeps : (ps us : List Datatype) (a b : DataActor) (tag : Tag) (X out : Streams Token) → IsTypedFunction ps us a.function → AreAllOf IsTokenOf ps X → step tag a X ≡ node.Gives b out → AreOf IsTokenOf us out × IsTypedFunction ps us b.function
data-keeps ps us a b tag X out h i e =
    let w = as-answered a b (function.give a.function X) out e in
    (subst (λ r. Pours us r) w.1 (give-of ps us a.function X h i), subst (λ (c : DataActor). IsTypedFunction ps us c.function) (sym w.0) h)
