-- How many tokens a firing gives on each output: none, or as many as its rate.
use Rattle.std.proofs.Common.{◌≡◌, ℕ, zero, suc, List, [], ◌∷◌, length, map, replicate, nat_eq, nat_le, Bool, true, false, not, ◌⊎◌, inl, inr, Option, Some, None, ℤ, pos, refl, ap, subst, ◌∙◌, if◌then◌else◌}
use Rattle.std.specs.Prelude.{nat_lt, chars, take, ◌^◌}
use Rattle.std.proofs.lemmas.Bool.{eqb-true}
use Rattle.pt_meaning.specs.Basics.{Tag, Streams, at}
use Rattle.pt_meaning.specs.Node as node
use Rattle.pt_value.specs.Value.{Value, size}
use Rattle.pt_value.specs.Token.{token_of, value_of}
use Rattle.pt_value.specs.declared.token.Token.{Token}
use Rattle.pt_value.specs.declared.token.Token.TheVariants as token
use Rattle.pt_language.specs.Outcome as outcome
use Rattle.pt_language.specs.Outcome.{Outcome}
use Rattle.pt_language.specs.RecordOf.{record_of}
use Rattle.pt_firing.specs.Row.{token_at, number_at, truth_at, all_present}
use Rattle.pt_firing.specs.declared.fault.RunFault.TheVariants.{Size, Length, Overflow}
use Rattle.pt_lib_data.specs.declared.comparator.Relation.{Relation}
use Rattle.pt_lib_data.specs.declared.data_actor.DataActor.{DataActor}
use Rattle.pt_lib_data.specs.declared.function.Function.{Function}
use Rattle.pt_lib_data.specs.declared.function.Function.TheVariants.{ArrayElement, ArrayToSequence, Barrier, Comparator, Discard, ElementsToArray, Equals, Limiter, LogicFunction, LogicalNot, RecordAssembler, RecordDisassembler, SequenceToArray, StringLength}
use Rattle.pt_lib_data.specs.Reply.{Reply, Gives, Fails, one, nothing, on, sized, largest}
use Rattle.pt_lib_data.specs.ArrayElement as array_element
use Rattle.pt_lib_data.specs.ArrayToSequence as array_to_sequence
use Rattle.pt_lib_data.specs.Comparator as comparator
use Rattle.pt_lib_data.specs.ElementsToArray as elements_to_array
use Rattle.pt_lib_data.specs.Equals as equals
use Rattle.pt_lib_data.specs.Limiter as limiter
use Rattle.pt_lib_data.specs.LogicFunction as logic_function
use Rattle.pt_lib_data.specs.RecordAssembler as record_assembler
use Rattle.pt_lib_data.specs.RecordDisassembler as record_disassembler
use Rattle.pt_lib_data.specs.StringLength as string_length
use Rattle.pt_lib_data.specs.Function as function
use Rattle.pt_lib_data.specs.DataActor.{rates, step}
use Rattle.pt_lib_data.specs.Laws.{AreGiven}
use Rattle.pt_lib_data.proofs.Steadiness.{as-answered}

-- what a reply gives, if it gives anything
abbrev Pours : List ℕ → Reply → Type 0
Pours ns (Gives X) = AreGiven ns X
Pours ns (Fails fault) = Unit {0}

-- ---- one output

single : (n : ℕ) (ts : List Token) → (length ts ≡ 0) ⊎ (length ts ≡ n) → AreGiven (n ∷ []) (ts ∷ [])
single n ts h zero rate e = let same : n ≡ rate = cc in subst (λ k. (length ts ≡ 0) ⊎ (length ts ≡ k)) same h
single n ts h (suc port) rate e = inl refl

none : (n : ℕ) → Pours (n ∷ []) nothing
none n = single n [] (inl refl)

one-token : (t : Token) → Pours (1 ∷ []) (one t)
one-token t = single 1 (t ∷ []) (inr refl)

by-test : (ns : List ℕ) (b : Bool) (r s : Reply) → Pours ns r → Pours ns s → Pours ns (if b then r else s)
by-test ns true r s h k = h
by-test ns false r s h k = k

one-sized : (t : Token) → Pours (1 ∷ []) (sized t)
one-sized t = by-test (1 ∷ []) (nat_le (size (value_of t)) largest) (one t) (Fails Size) (one-token t) tt

where-present : {T : Type 0} (f : T → Token) (o : Option T) → Pours (1 ∷ []) (on (λ x. one (f x)) o)
where-present f None = none 1
where-present f (Some x) = one-token (f x)

-- ---- each class

found : (o : Option Token) → Pours (1 ∷ []) (array_element.found o)
found None = tt
found (Some t) = one-token t

element : (index : ℤ) (o : Option Token) → Pours (1 ∷ []) (array_element.of_token index o)
element index None = none 1
element index (Some (token.Array vs)) = found (array_element.element vs index)
element index (Some (token.Int n)) = none 1
element index (Some (token.Bool b)) = none 1
element index (Some (token.Text t)) = none 1
element index (Some (token.Record fs)) = none 1

length-map : {A B : Type 0} (f : A → B) (xs : List A) → length (map f xs) ≡ length xs
length-map f [] = refl
length-map f (x ∷ xs) = ap (λ n. suc n) (length-map f xs)

elements : (count : ℕ) (o : Option Token) → Pours (count ∷ []) (array_to_sequence.of_token count o)
elements count None = none count
elements count (Some (token.Array vs)) = by_length (nat_eq (length vs) count) refl
  where
    by_length : (b : Bool) → nat_eq (length vs) count ≡ b → Pours (count ∷ []) (if b then Gives (map token_of vs ∷ []) else Fails Length)
    by_length true e = single count (map token_of vs) (inr (length-map token_of vs ∙ eqb-true (length vs) count e))
    by_length false e = tt
elements count (Some (token.Int n)) = none count
elements count (Some (token.Bool b)) = none count
elements count (Some (token.Text t)) = none count
elements count (Some (token.Record fs)) = none count

compared : (relation : Relation) (a b : Option ℤ) → Pours (1 ∷ []) (comparator.compared relation a b)
compared relation (Some a) (Some b) = one-token (token.Bool (comparator.holds relation a b))
compared relation (Some a) None = none 1
compared relation None b = none 1

made : (o : Outcome Value) → Pours (1 ∷ []) (record_assembler.made o)
made (outcome.Gives v) = one-sized (token_of v)
made (outcome.Stops fault) = none 1
made outcome.Wrong = none 1

nowhere : (names : List (List ℕ)) → AreGiven (replicate (length names) 1) (replicate (length names) [])
nowhere [] port rate e = absurd (cc)
nowhere (name ∷ names) zero rate e = inl refl
nowhere (name ∷ names) (suc port) rate e = nowhere names port rate e

fields : (fs : List (List ℕ × Value)) (names : List (List ℕ)) → AreGiven (replicate (length names) 1) (map (record_disassembler.field fs) names)
fields fs [] port rate e = absurd (cc)
fields fs (name ∷ names) zero rate e = by_field (record_disassembler.found fs name)
  where
    by_field : (o : Option Token) → (length (record_disassembler.as_list o) ≡ 0) ⊎ (length (record_disassembler.as_list o) ≡ rate)
    by_field None = inl refl
    by_field (Some t) = let same : 1 ≡ rate = cc in inr same
fields fs (name ∷ names) (suc port) rate e = fields fs names port rate e

disassembled : (names : List (List ℕ)) (o : Option Token) → Pours (replicate (length names) 1) (record_disassembler.of_token names o)
disassembled names None = nowhere names
disassembled names (Some (token.Record fs)) = fields fs names
disassembled names (Some (token.Int n)) = nowhere names
disassembled names (Some (token.Bool b)) = nowhere names
disassembled names (Some (token.Text t)) = nowhere names
disassembled names (Some (token.Array vs)) = nowhere names

measured : (o : Option Token) → Pours (1 ∷ []) (string_length.of_token o)
measured None = none 1
measured (Some (token.Text t)) = by-test (1 ∷ []) (nat_lt (length (chars t)) (2 ^ 63)) (one (token.Int (pos (length (chars t))))) (Fails Overflow) (one-token (token.Int (pos (length (chars t))))) tt
measured (Some (token.Int n)) = none 1
measured (Some (token.Bool b)) = none 1
measured (Some (token.Array vs)) = none 1
measured (Some (token.Record fs)) = none 1

-- ---- all of them

pours : (f : Function) (X : Streams Token) → Pours (function.rates f) (function.give f X)
pours (ArrayElement index) X = element index (token_at X 0)
pours (ArrayToSequence count) X = elements count (token_at X 0)
pours Barrier X = by-test (1 ∷ []) (all_present X) (sized (elements_to_array.array_of (elements_to_array.firsts X))) nothing (one-sized (elements_to_array.array_of (elements_to_array.firsts X))) (none 1)
pours (Comparator relation) X = compared relation (number_at X 0) (number_at X 1)
pours Discard X = λ port rate e. absurd (cc)
pours ElementsToArray X = by-test (1 ∷ []) (all_present X) (sized (elements_to_array.array_of (elements_to_array.firsts X))) nothing (one-sized (elements_to_array.array_of (elements_to_array.firsts X))) (none 1)
pours Equals X = where-present (λ t. token.Bool (equals.all_agree t X)) (equals.first_present X)
pours (Limiter range) X = where-present (λ n. token.Int (limiter.nearest range n)) (number_at X 0)
pours (LogicFunction gate) X = by-test (1 ∷ []) (nat_eq (logic_function.given X) 0) nothing (one (token.Bool (logic_function.decided gate (logic_function.given X) (logic_function.trues X)))) (none 1) (one-token (token.Bool (logic_function.decided gate (logic_function.given X) (logic_function.trues X))))
pours LogicalNot X = where-present (λ b. token.Bool (not b)) (truth_at X 0)
pours (RecordAssembler names) X = by-test (1 ∷ []) (all_present X) (record_assembler.assembled (record_assembler.fields names X)) nothing (made (record_of (record_assembler.fields names X))) (none 1)
pours (RecordDisassembler names) X = disassembled names (token_at X 0)
pours (SequenceToArray count) X = by-test (1 ∷ []) (nat_le count (length (at X 0))) (sized (elements_to_array.array_of (take count (at X 0)))) nothing (one-sized (elements_to_array.array_of (take count (at X 0)))) (none 1)
pours StringLength X = measured (token_at X 0)

pub rates-given : (tag : Tag) (a b : DataActor) (X out : Streams Token) → step tag a X ≡ node.Gives b out → AreGiven (rates a) out
rates-given tag a b X out gave = subst (Pours (rates a)) (as-answered a b (function.give a.function X) out gave).1 (pours a.function X)
