-- How many tokens an actor needs and gives, from the range of its length.
use Rattle.std.proofs.Common.{◌≡◌, ℕ, zero, suc, List, replicate, Bool, true, false, ◌&&◌, Option, Some, None, ℤ, pos, negsuc, refl, subst, arith, if◌then◌else◌}
use Rattle.std.specs.Prelude.{option_map, int_le, unsigned_abs, codes}
use Rattle.std.specs.List.{AllByRecursion}
use Rattle.std.proofs.lemmas.Bool.{leb-true}
use Rattle.pt_datatypes.proofs.Fields.{and_left, and_right}
use Rattle.pt_value.specs.declared.token.Token.{Token}
use Rattle.pt_firing.specs.Params.{int_or, only_within, channels_to}
use Rattle.pt_lib_data.specs.declared.data_actor.DataActor.{DataActor}
use Rattle.pt_lib_data.specs.declared.function.Class.{Class}
use Rattle.pt_lib_data.specs.declared.function.Class.TheVariants as class
use Rattle.pt_lib_data.specs.declared.function.Function.{Function}
use Rattle.pt_lib_data.specs.declared.function.Function.TheVariants.{ArrayElement, ArrayToSequence, Barrier, Comparator, Discard, ElementsToArray, Equals, Limiter, LogicFunction, LogicalNot, RecordAssembler, RecordDisassembler, SequenceToArray, StringLength}
use Rattle.pt_lib_data.specs.ArrayElement as array_element
use Rattle.pt_lib_data.specs.Comparator as comparator
use Rattle.pt_lib_data.specs.Limiter as limiter
use Rattle.pt_lib_data.specs.LogicFunction as logic_function
use Rattle.pt_lib_data.specs.SequenceToArray as sequence_to_array
use Rattle.pt_lib_data.specs.Function as function
use Rattle.pt_lib_data.specs.DataActor.{rates, with_needs, start_in, start}
use Rattle.pt_lib_data.specs.Laws.{IsRate}

within : (n : ℤ) → int_le (pos 1) n ≡ true → int_le n (pos 1000000) ≡ true → IsRate (unsigned_abs n)
within (pos n) e f = (leb-true 1 n e, leb-true n 1000000 f)
within (negsuc n) e f = cc

ranged : (o : Option ℤ) (n : ℤ) → only_within (pos 1) (pos 1000000) o ≡ Some n → IsRate (unsigned_abs n)
ranged None n e = cc
ranged (Some m) n e = by_test (int_le (pos 1) m && int_le m (pos 1000000)) refl e
  where
    by_test : (b : Bool) → (int_le (pos 1) m && int_le m (pos 1000000)) ≡ b → (if b then Some m else None) ≡ Some n → IsRate (unsigned_abs n)
    by_test true t h =
        let same : m ≡ n = cc in
        subst (λ k. IsRate (unsigned_abs k)) same (within m (and_left (int_le (pos 1) m) (int_le m (pos 1000000)) t) (and_right (int_le (pos 1) m) (int_le m (pos 1000000)) t))
    by_test false t h = cc

length-ranged : (o : Option ℤ) (count : ℕ) → option_map unsigned_abs (only_within (pos 1) (pos 1000000) o) ≡ Some count → IsRate count
length-ranged o count e = by_length (only_within (pos 1) (pos 1000000) o) refl e
  where
    by_length : (q : Option ℤ) → only_within (pos 1) (pos 1000000) o ≡ q → option_map unsigned_abs q ≡ Some count → IsRate count
    by_length None h d = cc
    by_length (Some n) h d = let same : unsigned_abs n ≡ count = cc in subst IsRate same (ranged o n h)

-- what it needs and gives are such numbers
abbrev IsInRange : Function → Type 0
IsInRange f = ((channels : ℕ) → AllByRecursion IsRate (function.needed f channels)) × AllByRecursion IsRate (function.rates f)

one-rate : IsRate 1
one-rate = (omega arith, omega arith)

ones : (n : ℕ) → AllByRecursion IsRate (replicate n 1)
ones zero = tt
ones (suc n) = (one-rate, ones n)

from : {A : Type 0} (wrap : A → Function) (o : Option A) (f : Function) → ((x : A) → o ≡ Some x → IsInRange (wrap x)) → option_map wrap o ≡ Some f → IsInRange f
from wrap None f h e = cc
from wrap (Some x) f h e = let same : wrap x ≡ f = cc in subst IsInRange same (h x refl)

same-as : (g f : Function) → IsInRange g → Some g ≡ Some f → IsInRange f
same-as g f h e = let same : g ≡ f = cc in subst IsInRange same h

in-range : (c : Class) (values : List (List ℕ × Token)) (ports : List (List ℕ × ℕ)) (f : Function) → function.start_as c values ports ≡ Some f → IsInRange f
in-range class.ArrayElement values ports f e = from ArrayElement (array_element.start values) f (λ x h. (λ n. ones 1, ones 1)) e
in-range class.ArrayToSequence values ports f e = from ArrayToSequence (sequence_to_array.start values) f (λ x h. (λ n. ones 1, (length-ranged (int_or (codes "arrayLength") (pos 1) values) x h, tt))) e
in-range class.Barrier values ports f e = same-as Barrier f (λ n. ones n, ones 1) e
in-range class.Comparator values ports f e = from Comparator (comparator.start values) f (λ x h. (λ n. ones 2, ones 1)) e
in-range class.Discard values ports f e = same-as Discard f (λ n. ones n, tt) e
in-range class.ElementsToArray values ports f e = same-as ElementsToArray f (λ n. ones n, ones 1) e
in-range class.Equals values ports f e = same-as Equals f (λ n. ones n, ones 1) e
in-range class.Limiter values ports f e = from Limiter (limiter.start values) f (λ x h. (λ n. ones 1, ones 1)) e
in-range class.LogicFunction values ports f e = from LogicFunction (logic_function.start values) f (λ x h. (λ n. ones n, ones 1)) e
in-range class.LogicalNot values ports f e = same-as LogicalNot f (λ n. ones 1, ones 1) e
in-range class.RecordAssembler values ports f e = same-as (RecordAssembler _) f (λ n. ones _, ones 1) e
in-range class.RecordDisassembler values ports f e = same-as (RecordDisassembler _) f (λ n. ones 1, ones _) e
in-range class.SequenceToArray values ports f e = from SequenceToArray (sequence_to_array.start values) f (λ x h. (λ n. (length-ranged (int_or (codes "arrayLength") (pos 1) values) x h, tt), ones 1)) e
in-range class.StringLength values ports f e = same-as StringLength f (λ n. ones 1, ones 1) e

-- the same of an actor
abbrev AreInRange : DataActor → Type 0
AreInRange a = AllByRecursion IsRate a.needed × AllByRecursion IsRate (rates a)

with-needs : (ports : List (List ℕ × ℕ)) (o : Option Function) (a : DataActor) → ((f : Function) → o ≡ Some f → IsInRange f) → with_needs ports o ≡ Some a → AreInRange a
with-needs ports None a h e = cc
with-needs ports (Some f) a h e =
    let b : DataActor = record { function = f; needed = function.needed f (channels_to (codes "input") ports) } in
    let same : b ≡ a = cc in
    let bounds = h f refl in
    subst AreInRange same (bounds.0 (channels_to (codes "input") ports), bounds.1)

in-class : (o : Option Class) (values : List (List ℕ × Token)) (ports : List (List ℕ × ℕ)) (a : DataActor) → start_in o values ports ≡ Some a → AreInRange a
in-class None values ports a e = cc
in-class (Some c) values ports a e = with-needs ports (function.start_as c values ports) a (λ f h. in-range c values ports f h) e

pub needs-bounded : (name : List ℕ) (values : List (List ℕ × Token)) (ports : List (List ℕ × ℕ)) (a : DataActor) → start name values ports ≡ Some a → AllByRecursion IsRate a.needed
needs-bounded name values ports a e = (in-class (function.class_of name) values ports a e).0

pub rates-bounded : (name : List ℕ) (values : List (List ℕ × Token)) (ports : List (List ℕ × ℕ)) (a : DataActor) → start name values ports ≡ Some a → AllByRecursion IsRate (rates a)
rates-bounded name values ports a e = (in-class (function.class_of name) values ports a e).1
