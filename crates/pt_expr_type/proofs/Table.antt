-- Types of expressions worked by hand from the rules of the language, row by row: each tree stands over its type or a clash.
use Rattle.std.specs.Prelude.{◌≡◌, ℕ, zero, suc, pos, List, [], ◌∷◌, map, codes, true, false, Some, None, if◌then◌else◌, refl}
use Rattle.std.specs.Str.{bytes_eq}
use Rattle.pt_datatypes.specs.Datatype.{Datatype, Unknown, Int, Boolean, Words, Array, Record, General, types_of}
use Rattle.pt_language.specs.declared.expr.BinaryOp.TheVariants as op
use Rattle.pt_language.specs.Tree as tree
use Rattle.pt_language.specs.Tree.{Tree, Binary, Cond, Abs, Max, Min, Negate, Not, Apply, Field, Length, trees_of}
use Rattle.pt_language.specs.Typing.{Typing, Has, Clash}
use Rattle.pt_language.specs.Types.{Types}
use Rattle.pt_language.specs.TreeType.{tree_type, are_bound}

abbrev i : ℕ → Tree
i n = tree.Int (pos n)

abbrev yes' : Tree
yes' = tree.Bool true

abbrev t : List ℕ → Tree
t text = tree.Words text

abbrev n : List ℕ → Tree
n name = tree.Name name

abbrev arr : List Tree → Tree
arr ts = tree.Array (trees_of ts)

abbrev rec' : List (List ℕ × Tree) → Tree
rec' fs = tree.Record (tree.named_of fs)

abbrev record_type : List (List ℕ × Datatype) → Datatype
record_type fs = Record (types_of fs)

abbrev x : Tree
x = n (codes "x")

abbrev b : Tree
b = n (codes "b")

abbrev s : Tree
s = n (codes "s")

abbrev u : Tree
u = n (codes "u")

abbrev a : Tree
a = n (codes "a")

abbrev e : Tree
e = n (codes "e")

abbrev r : Tree
r = n (codes "r")

abbrev g : Tree
g = n (codes "g")

-- x is an int, b a boolean, s a string, u unknown, a an array of int, e an empty array, r is {k = int, m = string}, g is general
abbrev scope : Types
scope name =
    if bytes_eq name (codes "x") then Some Int
    else if bytes_eq name (codes "b") then Some Boolean
    else if bytes_eq name (codes "s") then Some Words
    else if bytes_eq name (codes "u") then Some Unknown
    else if bytes_eq name (codes "a") then Some (Array Int)
    else if bytes_eq name (codes "e") then Some (Array Unknown)
    else if bytes_eq name (codes "r") then Some (record_type ((codes "k", Int) ∷ (codes "m", Words) ∷ []))
    else if bytes_eq name (codes "g") then Some General
    else None

abbrev all : List Tree → List (Typing Datatype)
all ts = map (tree_type scope) ts

-- arrays in one another, this many
abbrev nested : ℕ → Tree
nested zero = i 1
nested (suc k) = arr (nested k ∷ [])

-- two parts that have no join
abbrev mixed : Tree
mixed = arr (i 1 ∷ yes' ∷ [])

abbrev bad : Tree
bad = Binary op.Add (i 1) yes'

literals : all (
    i 1 ∷ yes' ∷ t (codes "a") ∷ arr [] ∷ arr (i 1 ∷ i 2 ∷ []) ∷ mixed ∷ arr (arr [] ∷ arr (i 1 ∷ []) ∷ []) ∷ arr (arr [] ∷ i 1 ∷ []) ∷ arr (u ∷ s ∷ []) ∷ arr (bad ∷ []) ∷
    nested 8 ∷ nested 9 ∷ [])
    ≡ Has Int ∷ Has Boolean ∷ Has Words ∷ Has (Array Unknown) ∷ Has (Array Int) ∷ Has General ∷ Has (Array (Array Int)) ∷ Has General ∷ Has (Array Words) ∷ Clash ∷
    Has (Array (Array (Array (Array (Array (Array (Array (Array Int)))))))) ∷ Has General ∷ []
literals = refl

records : all (
    rec' ((codes "m", s) ∷ (codes "k", i 1) ∷ []) ∷ rec' ((codes "k", mixed) ∷ []) ∷ rec' ((codes "k", bad) ∷ []) ∷
    rec' ((codes "k", i 1) ∷ (codes "k", i 2) ∷ []) ∷ rec' [] ∷ rec' ((codes "1k", i 1) ∷ []) ∷ [])
    ≡ Has (record_type ((codes "k", Int) ∷ (codes "m", Words) ∷ [])) ∷ Has General ∷ Clash ∷
    Clash ∷ Clash ∷ Clash ∷ []
records = refl

names' : all (x ∷ g ∷ u ∷ n (codes "u_isPresent") ∷ n (codes "z") ∷ n (codes "z_isPresent") ∷ [])
    ≡ Has Int ∷ Has General ∷ Has Unknown ∷ Has Boolean ∷ Has Unknown ∷ Has Unknown ∷ []
names' = refl

bound : map (are_bound scope) (x ∷ n (codes "u_isPresent") ∷ n (codes "z") ∷ n (codes "z_isPresent") ∷ arr (i 1 ∷ Binary op.Add x (n (codes "z")) ∷ []) ∷ Cond b x (Negate u) ∷ [])
    ≡ true ∷ true ∷ false ∷ false ∷ false ∷ true ∷ []
bound = refl

sums : all (
    Binary op.Add (i 1) x ∷ Binary op.Add s (t (codes "a")) ∷ Binary op.Add u (i 1) ∷ Binary op.Add s u ∷ Binary op.Add u u ∷
    Binary op.Add (i 1) s ∷ Binary op.Add b yes' ∷ Binary op.Add a a ∷ Binary op.Add r r ∷ Binary op.Add g g ∷ Binary op.Add u g ∷ [])
    ≡ Has Int ∷ Has Words ∷ Has Int ∷ Has Words ∷ Has Unknown ∷
    Clash ∷ Clash ∷ Clash ∷ Clash ∷ Clash ∷ Clash ∷ []
sums = refl

numbers : all (
    Binary op.Subtract x (i 1) ∷ Binary op.Multiply u u ∷ Binary op.Divide (i 7) u ∷ Binary op.Remainder (i 7) (i 2) ∷ Negate x ∷ Negate u ∷ Abs u ∷ Max (i 1) u ∷ Min u u ∷
    Binary op.Subtract s s ∷ Binary op.Multiply b x ∷ Binary op.Divide x g ∷ Binary op.Remainder a x ∷ Negate b ∷ Abs s ∷ Max x b ∷ Min r x ∷ Negate g ∷ [])
    ≡ Has Int ∷ Has Int ∷ Has Int ∷ Has Int ∷ Has Int ∷ Has Int ∷ Has Int ∷ Has Int ∷ Has Int ∷
    Clash ∷ Clash ∷ Clash ∷ Clash ∷ Clash ∷ Clash ∷ Clash ∷ Clash ∷ Clash ∷ []
numbers = refl

comparisons : all (
    Binary op.Less x (i 2) ∷ Binary op.LessEqual u u ∷ Binary op.Greater s s ∷ Binary op.GreaterEqual b x ∷ Binary op.Less x g ∷
    Binary op.Equal x (i 2) ∷ Binary op.Unequal s u ∷ Binary op.Equal x b ∷ Binary op.Equal e a ∷ Binary op.Equal a (arr (yes' ∷ [])) ∷ Binary op.Unequal r (rec' ((codes "m", u) ∷ (codes "k", i 1) ∷ [])) ∷ Binary op.Equal r (rec' ((codes "k", i 1) ∷ [])) ∷
    Binary op.Equal g g ∷ Binary op.Equal u u ∷ [])
    ≡ Has Boolean ∷ Has Boolean ∷ Clash ∷ Clash ∷ Clash ∷
    Has Boolean ∷ Has Boolean ∷ Clash ∷ Has Boolean ∷ Clash ∷ Has Boolean ∷ Clash ∷
    Clash ∷ Has Boolean ∷ []
comparisons = refl

conditions : all (
    Not b ∷ Not u ∷ Not x ∷ Binary op.And b u ∷ Binary op.Or u u ∷ Binary op.Or (i 1) b ∷ Binary op.And b s ∷ Binary op.Or yes' g ∷
    Cond b x (i 2) ∷ Cond u e a ∷ Cond b u s ∷ Cond b x yes' ∷ Cond x x x ∷ Cond b bad x ∷ Binary op.Add (Cond b x yes') x ∷ Cond g x x ∷ [])
    ≡ Has Boolean ∷ Has Boolean ∷ Clash ∷ Has Boolean ∷ Has Boolean ∷ Clash ∷ Clash ∷ Clash ∷
    Has Int ∷ Has (Array Int) ∷ Has Words ∷ Has General ∷ Clash ∷ Clash ∷ Clash ∷ Clash ∷ []
conditions = refl

parts : all (
    Apply a x ∷ Apply a u ∷ Apply e x ∷ Apply u x ∷ Apply a b ∷ Apply x x ∷ Apply s x ∷ Apply mixed x ∷ Apply r x ∷
    Field r (codes "m") ∷ Field r (codes "z") ∷ Field u (codes "z") ∷ Field a (codes "k") ∷ Field g (codes "k") ∷ Field (rec' ((codes "k", u) ∷ [])) (codes "k") ∷
    Length a ∷ Length s ∷ Length u ∷ Length r ∷ Length x ∷ Length mixed ∷ [])
    ≡ Has Int ∷ Has Int ∷ Has Unknown ∷ Has Unknown ∷ Clash ∷ Clash ∷ Clash ∷ Clash ∷ Clash ∷
    Has Words ∷ Clash ∷ Has Unknown ∷ Clash ∷ Clash ∷ Has Unknown ∷
    Has Int ∷ Has Int ∷ Has Int ∷ Clash ∷ Clash ∷ Clash ∷ []
parts = refl
