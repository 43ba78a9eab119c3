-- Evaluations worked by hand from the rules of the language, row by row: each tree stands over what it comes to.
use Rattle.std.specs.Prelude.{Bool as Truth}
use Rattle.std.specs.Prelude.{◌≡◌, ℕ, zero, suc, ◌+◌, ℤ, pos, neg_ℤ, List, [], ◌∷◌, map, codes, true, false, Some, None, if◌then◌else◌, refl}
use Rattle.std.specs.Str.{bytes_eq}
use Rattle.pt_value.specs.Value.{Value, Int, Bool, Words, Array, Record, values_of, named_of}
use Rattle.pt_language.specs.declared.expr.BinaryOp.TheVariants as op
use Rattle.pt_language.specs.declared.eval_fault.EvalFault.TheVariants.{DivideByZero, Overflow, Index, Absent}
use Rattle.pt_language.specs.Tree as tree
use Rattle.pt_language.specs.Tree.{Tree, Binary, Cond, Abs, Max, Min, Negate, Not, Apply, Field, Length, trees_of}
use Rattle.pt_language.specs.Scope.{Scope}
use Rattle.pt_language.specs.Outcome.{Outcome, Gives, Stops, Wrong}
use Rattle.pt_language.specs.Meaning.{value}

abbrev minus : ℕ → ℤ
minus n = neg_ℤ (pos n)

abbrev highest : ℕ
highest = 9223372036854775807

abbrev i : ℕ → Tree
i n = tree.Int (pos n)

abbrev m : ℕ → Tree
m n = tree.Int (minus n)

abbrev yes' : Tree
yes' = tree.Bool true

abbrev no' : Tree
no' = tree.Bool false

abbrev t : List ℕ → Tree
t text = tree.Words text

abbrev n : List ℕ → Tree
n name = tree.Name name

abbrev arr : List Tree → Tree
arr ts = tree.Array (trees_of ts)

abbrev rec' : List (List ℕ × Tree) → Tree
rec' fs = tree.Record (tree.named_of fs)

-- one divided by zero, and one more than the greatest number
abbrev zero' : Tree
zero' = Binary op.Divide (i 1) (i 0)

abbrev over : Tree
over = Binary op.Add (i highest) (i 1)

abbrev bad : Tree
bad = Binary op.Equal zero' (i 1)

abbrev int : ℕ → Outcome Value
int k = Gives (Int (pos k))

abbrev neg : ℕ → Outcome Value
neg k = Gives (Int (minus k))

abbrev is : Truth → Outcome Value
is b = Gives (Bool b)

-- x is 5, p is a port without a token, a is {10, 20, 30}, r is {k = 7}
abbrev scope : Scope
scope name =
    if bytes_eq name (codes "x") then Some (Some (Int (pos 5)))
    else if bytes_eq name (codes "p") then Some None
    else if bytes_eq name (codes "a") then Some (Some (Array (values_of (Int (pos 10) ∷ Int (pos 20) ∷ Int (pos 30) ∷ []))))
    else if bytes_eq name (codes "r") then Some (Some (Record (named_of ((codes "k", Int (pos 7)) ∷ []))))
    else None

abbrev all : List Tree → List (Outcome Value)
all ts = map (value scope) ts

sums : all (
    Binary op.Add (i 1) (i 2) ∷ Binary op.Subtract (i 5) (i 7) ∷ Binary op.Multiply (m 4) (i 6) ∷ over ∷ Binary op.Subtract (m (highest + 1)) (i 1) ∷
    Binary op.Add (m (highest + 1)) (m 1) ∷ Binary op.Subtract (i highest) (m 1) ∷ Binary op.Multiply (i highest) (i 2) ∷ Binary op.Multiply (m (highest + 1)) (m 1) ∷
    Binary op.Multiply (i 3037000500) (i 3037000500) ∷ Binary op.Multiply (i 3037000499) (i 3037000499) ∷ [])
    ≡ int 3 ∷ neg 2 ∷ neg 24 ∷ Stops Overflow ∷ Stops Overflow ∷
    Stops Overflow ∷ Stops Overflow ∷ Stops Overflow ∷ Stops Overflow ∷
    Stops Overflow ∷ int 9223372030926249001 ∷ []
sums = refl

signs : all (
    Negate (i 5) ∷ Negate (m (highest + 1)) ∷ Negate (i 0) ∷ Negate (m 3) ∷ Negate (i highest) ∷
    Abs (m 3) ∷ Abs (i 3) ∷ Abs (i 0) ∷ Abs (m (highest + 1)) ∷ Abs (i highest) ∷
    Max (i 2) (i 5) ∷ Max (i 5) (i 2) ∷ Max (m 1) (m 2) ∷ Max (i 3) (i 3) ∷ Min (i 2) (i 5) ∷ Min (i 5) (i 2) ∷ Min (m 1) (m 2) ∷ [])
    ≡ neg 5 ∷ Stops Overflow ∷ int 0 ∷ int 3 ∷ neg highest ∷
    int 3 ∷ int 3 ∷ int 0 ∷ Stops Overflow ∷ int highest ∷
    int 5 ∷ int 5 ∷ neg 1 ∷ int 3 ∷ int 2 ∷ int 2 ∷ neg 2 ∷ []
signs = refl

quotients : all (
    Binary op.Divide (i 7) (i 2) ∷ Binary op.Divide (m 7) (i 2) ∷ Binary op.Divide (i 7) (m 2) ∷ Binary op.Divide (m 7) (m 2) ∷ zero' ∷
    Binary op.Divide (i 0) (i 5) ∷ Binary op.Divide (m (highest + 1)) (m 1) ∷ Binary op.Divide (m (highest + 1)) (i 1) ∷ Binary op.Divide (i 6) (i 3) ∷ Binary op.Divide (m 1) (i 2) ∷
    Binary op.Remainder (i 7) (i 2) ∷ Binary op.Remainder (m 7) (i 2) ∷ Binary op.Remainder (i 7) (m 2) ∷ Binary op.Remainder (m 7) (m 2) ∷ Binary op.Remainder (i 1) (i 0) ∷
    Binary op.Remainder (m (highest + 1)) (m 1) ∷ Binary op.Remainder (i 6) (i 3) ∷ Binary op.Remainder (i 5) (i 7) ∷ Binary op.Remainder (m 5) (i 7) ∷ Binary op.Remainder (m (highest + 1)) (i 10) ∷ [])
    ≡ int 3 ∷ neg 3 ∷ neg 3 ∷ int 3 ∷ Stops DivideByZero ∷
    int 0 ∷ Stops Overflow ∷ neg (highest + 1) ∷ int 2 ∷ int 0 ∷
    int 1 ∷ neg 1 ∷ int 1 ∷ neg 1 ∷ Stops DivideByZero ∷
    int 0 ∷ int 0 ∷ int 5 ∷ neg 5 ∷ neg 8 ∷ []
quotients = refl

orders : all (
    Binary op.Less (i 1) (i 2) ∷ Binary op.Less (i 2) (i 1) ∷ Binary op.Less (i 1) (i 1) ∷ Binary op.LessEqual (i 1) (i 1) ∷ Binary op.LessEqual (i 2) (i 1) ∷
    Binary op.Greater (i 2) (i 1) ∷ Binary op.Greater (i 1) (i 1) ∷ Binary op.GreaterEqual (i 1) (i 1) ∷ Binary op.GreaterEqual (i 0) (i 1) ∷ Binary op.Less (m 1) (i 0) ∷ Binary op.Less (m 2) (m 1) ∷ [])
    ≡ is true ∷ is false ∷ is false ∷ is true ∷ is false ∷
    is true ∷ is false ∷ is true ∷ is false ∷ is true ∷ is true ∷ []
orders = refl

truths : all (
    Not yes' ∷ Not no' ∷ Binary op.And yes' yes' ∷ Binary op.And yes' no' ∷ Binary op.And no' yes' ∷ Binary op.And no' bad ∷ Binary op.And yes' bad ∷ Binary op.And bad no' ∷
    Binary op.Or yes' bad ∷ Binary op.Or no' yes' ∷ Binary op.Or no' no' ∷ Binary op.Or no' bad ∷ Binary op.Or bad yes' ∷
    Cond yes' (i 1) zero' ∷ Cond no' zero' (i 2) ∷ Cond bad (i 1) (i 2) ∷ Cond (Binary op.Less (i 1) (i 2)) (i 10) (i 20) ∷ Cond yes' zero' (i 2) ∷ Cond no' (i 1) over ∷ [])
    ≡ is false ∷ is true ∷ is true ∷ is false ∷ is false ∷ is false ∷ Stops DivideByZero ∷ Stops DivideByZero ∷
    is true ∷ is true ∷ is false ∷ Stops DivideByZero ∷ Stops DivideByZero ∷
    int 1 ∷ int 2 ∷ Stops DivideByZero ∷ int 10 ∷ Stops DivideByZero ∷ Stops Overflow ∷ []
truths = refl

wrongs : all (
    Binary op.Add (i 1) yes' ∷ Binary op.Add yes' no' ∷ Binary op.And (i 1) yes' ∷ Binary op.And yes' (i 1) ∷ Binary op.Or no' (i 1) ∷ Not (i 1) ∷ Negate yes' ∷ Cond (i 1) (i 2) (i 3) ∷
    Binary op.Subtract (t (codes "a")) (t (codes "b")) ∷ Binary op.Less (t (codes "a")) (t (codes "b")) ∷ Binary op.Add (i 1) (t (codes "a")) ∷ Abs (t (codes "a")) ∷ Max (i 1) yes' ∷
    Length (i 1) ∷ Apply (i 1) (i 0) ∷ Apply (arr (i 1 ∷ [])) yes' ∷ Field (i 1) (codes "k") ∷ [])
    ≡ Wrong ∷ Wrong ∷ Wrong ∷ Wrong ∷ Wrong ∷ Wrong ∷ Wrong ∷ Wrong ∷
    Wrong ∷ Wrong ∷ Wrong ∷ Wrong ∷ Wrong ∷
    Wrong ∷ Wrong ∷ Wrong ∷ Wrong ∷ []
wrongs = refl

firsts : all (
    Binary op.Add zero' over ∷ Binary op.Add over zero' ∷ Max zero' over ∷ Max over zero' ∷ Min over zero' ∷ arr (i 1 ∷ zero' ∷ over ∷ []) ∷ arr (over ∷ zero' ∷ []) ∷
    Apply (arr (over ∷ [])) zero' ∷ Apply (arr (i 1 ∷ [])) zero' ∷ rec' ((codes "b", over) ∷ (codes "a", zero') ∷ []) ∷ Binary op.Equal over zero' ∷ [])
    ≡ Stops DivideByZero ∷ Stops Overflow ∷ Stops DivideByZero ∷ Stops Overflow ∷ Stops Overflow ∷ Stops DivideByZero ∷ Stops Overflow ∷
    Stops Overflow ∷ Stops DivideByZero ∷ Stops Overflow ∷ Stops Overflow ∷ []
firsts = refl

texts : all (
    Binary op.Add (t (codes "ab")) (t (codes "cd")) ∷ Binary op.Add (t []) (t []) ∷ [])
    ≡ Gives (Words (codes "abcd")) ∷ Gives (Words []) ∷ []
texts = refl

abbrev deep : ℕ → Tree
deep zero = i 1
deep (suc k) = arr (deep k ∷ [])

equals : all (
    Binary op.Equal (i 1) (i 1) ∷ Binary op.Equal (i 1) (i 2) ∷ Binary op.Unequal (i 1) (i 2) ∷ Binary op.Unequal (i 1) (i 1) ∷ Binary op.Equal yes' yes' ∷ Binary op.Equal (t (codes "a")) (t (codes "a")) ∷ Binary op.Equal (t (codes "a")) (t (codes "b")) ∷
    Binary op.Equal (i 1) yes' ∷ Binary op.Equal (i 1) (t (codes "a")) ∷ Binary op.Equal (arr []) (arr []) ∷ Binary op.Equal (arr []) (arr (i 1 ∷ [])) ∷ Binary op.Equal (arr (i 1 ∷ i 2 ∷ [])) (arr (i 1 ∷ i 2 ∷ [])) ∷ Binary op.Equal (arr (i 1 ∷ i 2 ∷ [])) (arr (i 2 ∷ i 1 ∷ [])) ∷
    Binary op.Equal (arr (i 1 ∷ [])) (arr (yes' ∷ [])) ∷ Binary op.Equal (arr (i 1 ∷ [])) (i 1) ∷ Binary op.Equal (arr (arr [] ∷ [])) (arr (arr (i 1 ∷ []) ∷ [])) ∷ Binary op.Unequal (arr (i 1 ∷ t (codes "a") ∷ [])) (arr (i 1 ∷ t (codes "a") ∷ [])) ∷
    Binary op.Equal (rec' ((codes "a", i 1) ∷ [])) (rec' ((codes "a", i 1) ∷ [])) ∷ Binary op.Unequal (rec' ((codes "a", i 1) ∷ [])) (rec' ((codes "a", i 2) ∷ [])) ∷ Binary op.Equal (rec' ((codes "a", i 1) ∷ [])) (rec' ((codes "b", i 1) ∷ [])) ∷
    Binary op.Equal (rec' ((codes "a", arr []) ∷ [])) (rec' ((codes "a", arr (i 1 ∷ [])) ∷ [])) ∷ Binary op.Equal (rec' ((codes "a", i 1) ∷ (codes "b", i 2) ∷ [])) (rec' ((codes "b", i 2) ∷ (codes "a", i 1) ∷ [])) ∷ Binary op.Equal (rec' ((codes "a", i 1) ∷ [])) (rec' ((codes "a", yes') ∷ [])) ∷
    Binary op.Equal (deep 8) (deep 8) ∷ Binary op.Equal (deep 9) (deep 9) ∷ [])
    ≡ is true ∷ is false ∷ is true ∷ is false ∷ is true ∷ is true ∷ is false ∷
    Wrong ∷ Wrong ∷ is true ∷ is false ∷ is true ∷ is false ∷
    Wrong ∷ Wrong ∷ is false ∷ Wrong ∷
    is true ∷ is true ∷ Wrong ∷
    is false ∷ is true ∷ Wrong ∷
    is true ∷ Wrong ∷ []
equals = refl

arrays : all (
    Apply (arr (i 1 ∷ i 2 ∷ [])) (i 0) ∷ Apply (arr (i 1 ∷ i 2 ∷ [])) (i 1) ∷ Apply (arr (i 1 ∷ i 2 ∷ [])) (i 2) ∷ Apply (arr (i 1 ∷ i 2 ∷ [])) (m 1) ∷ Apply (arr []) (i 0) ∷
    Length (arr (i 1 ∷ i 2 ∷ [])) ∷ Length (arr []) ∷ Apply (Apply (arr (arr (i 1 ∷ i 2 ∷ []) ∷ arr (i 3 ∷ []) ∷ [])) (i 1)) (i 0) ∷ arr (i 4 ∷ []) ∷ [])
    ≡ int 1 ∷ int 2 ∷ Stops Index ∷ Stops Index ∷ Stops Index ∷
    int 2 ∷ int 0 ∷ int 3 ∷ Gives (Array (values_of (Int (pos 4) ∷ []))) ∷ []
arrays = refl

records : all (
    rec' ((codes "y", i 2) ∷ (codes "x", i 1) ∷ []) ∷ Field (rec' ((codes "y", i 2) ∷ (codes "x", i 1) ∷ [])) (codes "y") ∷ Field (rec' ((codes "y", i 2) ∷ (codes "x", i 1) ∷ [])) (codes "x") ∷
    Field (rec' ((codes "y", i 2) ∷ [])) (codes "z") ∷ rec' ((codes "a", i 1) ∷ (codes "a", i 2) ∷ []) ∷ rec' [] ∷ rec' ((codes "1", i 1) ∷ []) ∷ [])
    ≡ Gives (Record (named_of ((codes "x", Int (pos 1)) ∷ (codes "y", Int (pos 2)) ∷ []))) ∷ int 2 ∷ int 1 ∷
    Wrong ∷ Wrong ∷ Wrong ∷ Wrong ∷ []
records = refl

names : all (
    n (codes "x") ∷ n (codes "p") ∷ n (codes "x_isPresent") ∷ n (codes "p_isPresent") ∷ n (codes "q") ∷ n (codes "q_isPresent") ∷
    Binary op.Add (n (codes "x")) (n (codes "p")) ∷ Binary op.Add (n (codes "p")) zero' ∷ Binary op.Add zero' (n (codes "p")) ∷ Apply (n (codes "a")) (i 1) ∷ Field (n (codes "r")) (codes "k") ∷
    Cond (n (codes "p_isPresent")) (n (codes "p")) (i 0) ∷ Cond (n (codes "x_isPresent")) (n (codes "x")) (i 0) ∷ Binary op.And no' (n (codes "p")) ∷ arr (n (codes "p") ∷ []) ∷ [])
    ≡ int 5 ∷ Stops Absent ∷ is true ∷ is false ∷ Wrong ∷ Wrong ∷
    Stops Absent ∷ Stops Absent ∷ Stops DivideByZero ∷ int 20 ∷ int 7 ∷
    int 0 ∷ int 5 ∷ is false ∷ Stops Absent ∷ []
names = refl
