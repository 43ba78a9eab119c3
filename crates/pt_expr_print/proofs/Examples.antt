-- Printed texts worked by hand from the rules: each tree stands over its text.
use Rattle.std.specs.Prelude.{◌≡◌, ℕ, pos, negsuc, [], ◌∷◌, map, codes, true, refl}
use Rattle.std.specs.Fmt.{digits}
use Rattle.pt_language.specs.declared.expr.BinaryOp.TheVariants as op
use Rattle.pt_language.specs.Tree as tree
use Rattle.pt_language.specs.Tree.{Tree, Int, Words, Name, Array, Record, Negate, Not, Binary, Cond, Abs, Max, Min, Apply, Field, Length, trees_of, named_of}
use Rattle.pt_expr_print.specs.Printed.{printed}

abbrev i : ℕ → Tree
i n = Int (pos n)

-- the number -1 - n
abbrev m : ℕ → Tree
m n = Int (negsuc n)

abbrev a : Tree
a = Name (codes "a")

abbrev b : Tree
b = Name (codes "b")

operators : map printed (
    Binary op.Add (i 1) (Binary op.Multiply (i 2) (i 3)) ∷ Binary op.Multiply (Binary op.Add (i 1) (i 2)) (m 2) ∷ Binary op.Or a (Binary op.And b (tree.Bool true)) ∷
    Binary op.Equal a (Binary op.Unequal a b) ∷ Binary op.Less a b ∷ Binary op.LessEqual a b ∷ Binary op.Greater a b ∷ Binary op.GreaterEqual a b ∷
    Binary op.Subtract (Negate a) (Not b) ∷ Binary op.Divide (Abs a) (Field b (codes "x")) ∷ Binary op.Remainder (Cond a b (i 0)) (Length a) ∷ [])
    ≡ codes "1 + (2 * 3)" ∷ codes "(1 + 2) * -3" ∷ codes "a || (b && true)" ∷
    codes "a == (a != b)" ∷ codes "a < b" ∷ codes "a <= b" ∷ codes "a > b" ∷ codes "a >= b" ∷
    codes "(-(a)) - (!(b))" ∷ codes "abs(a) / b.x" ∷ codes "(a ? b : 0) % a.length()" ∷ []
unfolding digits
operators = refl

others : map printed (
    Cond (Binary op.Less a b) (m 0) (Cond a b a) ∷ Negate (m 4) ∷ Negate (i 5) ∷ Not (Not a) ∷
    Apply (m 4) (i 0) ∷ Apply (i 5) (Binary op.Add a b) ∷ Field (Negate a) (codes "x") ∷ Length (Binary op.Add a b) ∷ Apply (Max a b) (Min (i 1) (m 1)) ∷
    Array (trees_of []) ∷ Apply (Array (trees_of (i 1 ∷ i 2 ∷ []))) (i 2) ∷ Record (named_of ((codes "y", i 1) ∷ (codes "x", Negate a) ∷ [])) ∷ Words (34 ∷ 92 ∷ 10 ∷ 9 ∷ 13 ∷ 65 ∷ []) ∷ [])
    ≡ codes "(a < b) ? -1 : (a ? b : a)" ∷ codes "-(-5)" ∷ codes "-(5)" ∷ codes "!(!(a))" ∷
    codes "(-5)(0)" ∷ codes "5(a + b)" ∷ codes "(-(a)).x" ∷ codes "(a + b).length()" ∷ codes "max(a, b)(min(1, -2))" ∷
    codes "{}" ∷ codes "{1, 2}(2)" ∷ codes "{y = 1, x = -(a)}" ∷ codes "\"\\\"\\\\\\n\\t\\rA\"" ∷ []
unfolding digits
others = refl
