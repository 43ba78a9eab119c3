-- The least solution of the rules gives the least types of the variables.
use Rattle.std.proofs.Common.{◌≡◌, ℕ, zero, suc, ◌+◌, ◌<◌, ◌≤◌, false, List, [], ◌∷◌, length, map, All, refl, sym, ap, subst, ◌∙◌, arith}
use Rattle.std.specs.List.{AllByRecursion, AllZip}
use Rattle.std.proofs.lemmas.List.Elements.{All-from_recursion, recursion_from_All}
use Rattle.pt_datatypes.specs.Datatype.{Datatype, Unknown}
use Rattle.pt_datatypes.specs.Normal.{IsType}
use Rattle.pt_datatypes.specs.Order.{IsBelow}
use Rattle.pt_datatypes.specs.Rules.{type_at, AllBelow, IsSolution, IsLeastSolution}
use Rattle.pt_typing.specs.declared.variable.Variable.{Variable}
use Rattle.pt_typing.specs.declared.variable.Variable.TheVariants.{Port, Row}
use Rattle.pt_typing.specs.declared.term.Inequality.{Inequality as GivenInequality}
use Rattle.pt_typing.specs.declared.numbers.Numbers.{Numbers}
use Rattle.pt_typing.specs.declared.rule.Bound.{Bound}
use Rattle.pt_typing.specs.Terms.{meaning}
use Rattle.pt_typing.specs.Numbers.{total, number, number_in, is_there, AreNumbers}
use Rattle.pt_typing.specs.Views.{term_view, Inequality, inequality_view, assigned, bound_meaning, IsRuleOf}
use Rattle.pt_typing.specs.Least.{Assignment, IsMet, Meets, IsUnder, IsLeast}
use Rattle.pt_typing.proofs.Numbering.{number-le, same-number, number-outside, of_ports, of_all, all-length, each-at, last-at}

abbrev pub target_of : Bound → ℕ
target_of r = r.target

abbrev pub assign : Numbers → List Datatype → Assignment
assign numbers types = record { types = assigned numbers types; elsewhere = type_at types numbers.all }

-- ---- rules and inequalities

abbrev IsMetBy : List Datatype → Bound → Type 0
IsMetBy types b = IsBelow (bound_meaning b types) (type_at types (target_of b))

one-met : (numbers : Numbers) (q : GivenInequality) (b : Bound) → IsRuleOf numbers q b → (types : List Datatype) → IsMetBy types b → IsMet (assign numbers types) (inequality_view q)
one-met numbers q b h types m = subst (λ n. IsBelow (meaning (assigned numbers types) (term_view q.term)) (type_at types n)) h.target (subst (λ d. IsBelow d (type_at types b.target)) (h.means types) m)

one-back : (numbers : Numbers) (q : GivenInequality) (b : Bound) → IsRuleOf numbers q b → (types : List Datatype) → IsMet (assign numbers types) (inequality_view q) → IsMetBy types b
one-back numbers q b h types m = subst (λ d. IsBelow d (type_at types b.target)) (sym (h.means types)) (subst (λ n. IsBelow (meaning (assigned numbers types) (term_view q.term)) (type_at types n)) (sym h.target) m)

module _ (numbers : Numbers) (types : List Datatype) where
  all-met : (qs : List GivenInequality) (bs : List Bound) → AllZip (IsRuleOf numbers) qs bs → AllByRecursion (IsMetBy types) bs → AllByRecursion (IsMet (assign numbers types)) (map inequality_view qs)
  all-met [] [] z m = tt
  all-met [] (b ∷ bs) z m = absurd z
  all-met (q ∷ qs) [] z m = absurd z
  all-met (q ∷ qs) (b ∷ bs) z m = (one-met numbers q b z.0 types m.0, all-met qs bs z.1 m.1)

  all-back : (qs : List GivenInequality) (bs : List Bound) → AllZip (IsRuleOf numbers) qs bs → AllByRecursion (IsMet (assign numbers types)) (map inequality_view qs) → AllByRecursion (IsMetBy types) bs
  all-back [] [] z m = tt
  all-back [] (b ∷ bs) z m = absurd z
  all-back (q ∷ qs) [] z m = absurd z
  all-back (q ∷ qs) (b ∷ bs) z m = (one-back numbers q b z.0 types m.0, all-back qs bs z.1 m.1)

short-by : (cs : List ℕ) (numbers : Numbers) → AreNumbers cs numbers → (v : Variable) → number_in numbers v < suc numbers.all
short-by cs numbers h v = omega (arith, same-number cs numbers h v, number-le cs v, h.all)

short-all : (cs : List ℕ) (numbers : Numbers) → AreNumbers cs numbers → (qs : List GivenInequality) (bs : List Bound) → AllZip (IsRuleOf numbers) qs bs → AllByRecursion (λ (b : Bound). b.target < suc numbers.all) bs
short-all cs numbers h [] [] z = tt
short-all cs numbers h [] (b ∷ bs) z = absurd z
short-all cs numbers h (q ∷ qs) [] z = absurd z
short-all cs numbers h (q ∷ qs) (b ∷ bs) z = (subst (λ n. n < suc numbers.all) (sym z.0.target) (short-by cs numbers h q.variable), short-all cs numbers h qs bs z.1)

pub targets-short : (cs : List ℕ) (numbers : Numbers) → AreNumbers cs numbers → (qs : List GivenInequality) (bs : List Bound) → AllZip (IsRuleOf numbers) qs bs → All (λ (b : Bound). b.target < suc numbers.all) bs
targets-short cs numbers h qs bs z = All-from_recursion (λ (b : Bound). b.target < suc numbers.all) bs (short-all cs numbers h qs bs z)

-- ---- types by number

types-are : (types : List Datatype) → AllByRecursion IsType types → (n : ℕ) → IsType (type_at types n)
types-are [] h n = refl
types-are (t ∷ ts) h zero = h.0
types-are (t ∷ ts) h (suc n) = types-are ts h.1 n

module _ (f : Variable → Datatype) (h : (v : Variable) → IsType (f v)) where
  ports-are : (k i n : ℕ) (rest : List Datatype) → AllByRecursion IsType rest → AllByRecursion IsType (of_ports f k i n rest)
  ports-are k i zero rest r = r
  ports-are k i (suc n) rest r = (h (Port k i), ports-are k (suc i) n rest r)

  all-are : (k : ℕ) (cs : List ℕ) (rest : List Datatype) → AllByRecursion IsType rest → AllByRecursion IsType (of_all f k cs rest)
  all-are k [] rest r = r
  all-are k (c ∷ cs) rest r = (h (Row k), ports-are k 0 c (of_all f (suc k) cs rest) (all-are (suc k) cs rest r))

-- the types of all numbers, where variables have these
abbrev listed : List ℕ → Assignment → List Datatype
listed cs a = of_all a.types 0 cs (a.elsewhere ∷ [])

module _ (cs : List ℕ) (numbers : Numbers) (h : AreNumbers cs numbers) where
  listed-back : (a : Assignment) → ((v : Variable) → is_there cs v ≡ false → a.types v ≡ a.elsewhere) → assign numbers (listed cs a) ≡ a
  listed-back a out =
      let each : (v : Variable) → type_at (listed cs a) (number_in numbers v) ≡ a.types v = λ v. ap (type_at (listed cs a)) (same-number cs numbers h v) ∙ each-at a.types cs a.elsewhere out v in
      let last : type_at (listed cs a) numbers.all ≡ a.elsewhere = ap (type_at (listed cs a)) h.all ∙ last-at a.types cs a.elsewhere in
      λ j. record { types = λ v. each v j; elsewhere = last j }

  module _ (qs : List GivenInequality) (bs : List Bound) (z : AllZip (IsRuleOf numbers) qs bs) where
    solution : (a : Assignment) → Meets cs (map inequality_view qs) a → IsSolution target_of bound_meaning (suc numbers.all) bs (listed cs a)
    solution a m = record {
      counted = omega (arith, all-length a.types 0 cs (a.elsewhere ∷ []), h.all);
      are_types = All-from_recursion IsType (listed cs a) (all-are a.types m.are_types 0 cs (a.elsewhere ∷ []) (m.is_type, tt));
      met = All-from_recursion (IsMetBy (listed cs a)) bs (all-back numbers (listed cs a) qs bs z (subst (λ (b : Assignment). AllByRecursion (IsMet b) (map inequality_view qs)) (sym (listed-back a m.outside)) (recursion_from_All (IsMet a) (map inequality_view qs) m.met)));
    }

    pub is-least : (types : List Datatype) → IsLeastSolution target_of bound_meaning (suc numbers.all) bs types → IsLeast cs (map inequality_view qs) (assign numbers types)
    is-least types s = record {
      meets = record {
        are_types = λ v. types-are types (recursion_from_All IsType types s.solution.are_types) (number_in numbers v);
        is_type = types-are types (recursion_from_All IsType types s.solution.are_types) numbers.all;
        outside = λ v e. ap (type_at types) (same-number cs numbers h v ∙ number-outside cs v e ∙ sym h.all);
        met = All-from_recursion (IsMet (assign numbers types)) (map inequality_view qs) (all-met numbers types qs bs z (recursion_from_All (IsMetBy types) bs s.solution.met));
      };
      least = λ a m.
          let under : AllBelow types (listed cs a) = s.least (listed cs a) (solution a m) in
          let same : assign numbers (listed cs a) ≡ a = listed-back a m.outside in
          record {
            types = λ v. subst (λ (b : Assignment). IsBelow (type_at types (number_in numbers v)) (b.types v)) same (under.each (number_in numbers v));
            elsewhere = subst (λ (b : Assignment). IsBelow (type_at types numbers.all) b.elsewhere) same (under.each numbers.all);
          };
    }
