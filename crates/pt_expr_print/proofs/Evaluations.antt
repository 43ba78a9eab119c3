-- Evaluations worked by hand from the rules of the language: each text stands over what it comes to.
use Rattle.std.specs.Prelude.{◌≡◌, ℕ, zero, suc, ◌+◌, pos, neg_ℤ, List, [], ◌∷◌, ◌++◌, length, map, codes, Bool, true, false, Option, Some, None, option_map, if◌then◌else◌, refl}
use Rattle.std.specs.Str.{bytes_eq, chars}
use Rattle.pt_value.specs.Value as val
use Rattle.pt_value.specs.Value.{Value, Int, Words, Array, Record, values_of, named_of}
use Rattle.pt_language.specs.declared.eval_fault.EvalFault.TheVariants.{DivideByZero, Overflow, Index, Absent}
use Rattle.pt_language.specs.Tree.{Tree}
use Rattle.pt_language.specs.Scope.{Scope}
use Rattle.pt_language.specs.Outcome.{Outcome, Gives, Stops, Wrong}
use Rattle.pt_language.specs.Meaning.{value}
use Rattle.pt_language.specs.declared.word.Word.{Word}
use Rattle.pt_language.specs.Words.{Found, word_at, without_blanks}
use Rattle.pt_language.specs.Descent.{expression, ◌>>=◌}

-- the words of a text, where it is words to its end
abbrev one_more : (List ℕ → Option (List Word)) → Found → List ℕ → Option (List Word)
one_more next None [] = Some []
one_more next None (c ∷ cs) = None
one_more next (Some found) text = option_map (λ ws. found.0 ∷ ws) (next found.1)

abbrev words_from : ℕ → List ℕ → Option (List Word)
words_from zero text = None
words_from (suc n) text = one_more (words_from n) (word_at (without_blanks text)) (without_blanks text)

-- the tree that all of some words read as
abbrev whole : Tree × List Word → Option Tree
whole (t, []) = Some t
whole (t, w ∷ ws) = None

abbrev tree_in : List ℕ → Option Tree
tree_in text = words_from (length text + 1) text >>= λ ws. expression (length ws + 1) ws >>= whole

-- x is 5, p is a port without a token, a is {10, 20, 30}, r is {k = 7}
abbrev scope : Scope
scope name =
    if bytes_eq name (codes "x") then Some (Some (Int (pos 5)))
    else if bytes_eq name (codes "p") then Some None
    else if bytes_eq name (codes "a") then Some (Some (Array (values_of (Int (pos 10) ∷ Int (pos 20) ∷ Int (pos 30) ∷ []))))
    else if bytes_eq name (codes "r") then Some (Some (Record (named_of ((codes "k", Int (pos 7)) ∷ []))))
    else None

-- what each text comes to, where it reads as a tree
abbrev all : List (List ℕ) → List (Option (Outcome Value))
all texts = map (λ text. option_map (value scope) (tree_in text)) texts

abbrev int : ℕ → Option (Outcome Value)
int n = Some (Gives (Int (pos n)))

abbrev neg : ℕ → Option (Outcome Value)
neg n = Some (Gives (Int (neg_ℤ (pos n))))

abbrev is : Bool → Option (Outcome Value)
is b = Some (Gives (val.Bool b))

abbrev says : List ℕ → Option (Outcome Value)
says text = Some (Gives (Words text))

abbrev zero_divisor : Option (Outcome Value)
zero_divisor = Some (Stops DivideByZero)

abbrev over : Option (Outcome Value)
over = Some (Stops Overflow)

abbrev outside : Option (Outcome Value)
outside = Some (Stops Index)

abbrev absent : Option (Outcome Value)
absent = Some (Stops Absent)

abbrev wrong : Option (Outcome Value)
wrong = Some Wrong

numbers : all (
    codes "1 + 2 * 3" ∷ codes "(1 + 2) * 3" ∷ codes "1 - 2 - 3" ∷ codes "1 - (2 - 3)" ∷ codes "7 / 2 * 2" ∷ codes "-7 / 2" ∷ codes "-7 % 3" ∷ codes "7 % -3" ∷ codes "-(7 % 3)" ∷
    codes "2 - -3" ∷ codes "-x" ∷ codes "x-1" ∷ codes "--5" ∷ codes "-x * -x" ∷ codes "-9223372036854775808" ∷ codes "-9223372036854775808 - 1" ∷ codes "-(-9223372036854775808)" ∷
    codes "9223372036854775807 + 1" ∷ codes "-9223372036854775808 / -1" ∷ codes "-9223372036854775808 % -1" ∷ codes "3037000500 * 3037000500" ∷ codes "1 / 0" ∷ codes "1 % 0" ∷
    codes "abs(-5)" ∷ codes "abs(-9223372036854775808)" ∷ codes "max(1, min(5, 3))" ∷ [])
    ≡ int 7 ∷ int 9 ∷ neg 4 ∷ int 2 ∷ int 6 ∷ neg 3 ∷ neg 1 ∷ int 1 ∷ neg 1 ∷
    int 5 ∷ neg 5 ∷ int 4 ∷ int 5 ∷ int 25 ∷ neg 9223372036854775808 ∷ over ∷ over ∷
    over ∷ over ∷ int 0 ∷ over ∷ zero_divisor ∷ zero_divisor ∷
    int 5 ∷ over ∷ int 3 ∷ []
unfolding expression
numbers = refl

truths : all (
    codes "1 < 2 == true" ∷ codes "1 < 2 && 2 < 1" ∷ codes "1 == 2 || !(1 == 2)" ∷ codes "false && 1 / 0 == 1" ∷ codes "true || 1 / 0 == 1" ∷ codes "true ? 1 : 1 / 0" ∷
    codes "false ? 1 : true ? 2 : 3" ∷ codes "x > 3 ? \"big\" : \"small\"" ∷ codes "x_isPresent ? x : 0" ∷ codes "p_isPresent ? p : -1" ∷ codes "{1} == {}" ∷ codes "\"a\" != \"b\"" ∷ [])
    ≡ is true ∷ is false ∷ is true ∷ is false ∷ is true ∷ int 1 ∷
    int 2 ∷ says (codes "big") ∷ int 5 ∷ neg 1 ∷ is false ∷ is true ∷ []
unfolding expression
truths = refl

parts : all (
    codes "{10, 20, 30}(1)" ∷ codes "{1, 2}(2)" ∷ codes "{1, 2}(-1)" ∷ codes "{}.length()" ∷ codes "{1, 2, 3}.length()" ∷ codes "a(2)" ∷ codes "a(3)" ∷ codes "a.length()" ∷
    codes "{a = 1}.a" ∷ codes "{b = 2, a = 1}" ∷ codes "r.k + 1" ∷ codes "{b = 2, a = {1, 2}}.a(1)" ∷ codes "\"ab\" + \"cd\"" ∷ codes "\"a\\n\".length()" ∷ (codes "\"h" ++ (195 ∷ 169 ∷ codes "\".length()")) ∷ [])
    ≡ int 20 ∷ outside ∷ outside ∷ int 0 ∷ int 3 ∷ int 30 ∷ outside ∷ int 3 ∷
    int 1 ∷ Some (Gives (Record (named_of ((codes "a", Int (pos 1)) ∷ (codes "b", Int (pos 2)) ∷ [])))) ∷ int 8 ∷ int 2 ∷ says (codes "abcd") ∷ int 2 ∷ int 2 ∷ []
unfolding expression chars
parts = refl

firsts : all (
    codes "p" ∷ codes "p + 1 / 0" ∷ codes "1 / 0 + p" ∷ codes "(9223372036854775807 + 1) + 1 / 0" ∷ codes "max(1 / 0, p)" ∷ codes "{p, 1 / 0}" ∷ codes "{b = 1 / 0, a = p}" ∷
    codes "q" ∷ codes "1 + true" ∷ codes "1 == true" ∷ codes "{a = 1}.b" ∷ codes "1 +" ∷ codes "1 2" ∷ codes "#" ∷ [])
    ≡ absent ∷ absent ∷ zero_divisor ∷ over ∷ zero_divisor ∷ absent ∷ zero_divisor ∷
    wrong ∷ wrong ∷ wrong ∷ wrong ∷ None ∷ None ∷ None ∷ []
unfolding expression
firsts = refl
