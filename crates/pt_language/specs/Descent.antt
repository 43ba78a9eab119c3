-- How the reader goes through words, from the level that binds least down: each step answers the tree at the front and the words behind it.
use Rattle.std.specs.Prelude.{◌≡◌, ℕ, neg_ℤ, zero, suc, ◌<◌, ◌≤◌, ◌^◌, pos, List, [], ◌∷◌, ◌++◌, length, map, nat_lt, nat_le, nat_eq, Bool, true, false, ◌||◌, not, if◌then◌else◌, Option, Some, None, option_map, codes, Result, Ok, Err}
use Rattle.std.specs.Cmp.Lexicographic.{pointwise}
use Rattle.pt_language.specs.declared.expr.BinaryOp.{BinaryOp}
use Rattle.pt_language.specs.Tree.{Tree, Int, Bool as Truth, Words, Array, Record, Negate, Binary, Cond, Apply, Field, Length, trees_of, named_of}
use Rattle.pt_language.specs.Tree as tree
use Rattle.pt_language.specs.declared.word.Word.{Word}
use Rattle.pt_language.specs.declared.word.Word.TheVariants.{Digits, Quoted}
use Rattle.pt_language.specs.declared.word.Word.TheVariants as word
use Rattle.pt_language.specs.declared.word.Symbol.{Symbol}
use Rattle.pt_language.specs.declared.word.Symbol.TheVariants.{True, False, Abs, Max, Min, Open, Close, OpenBrace, CloseBrace, Comma, Dot, Question, Colon, Assign, Not, Minus}
use Rattle.pt_language.specs.declared.level.Level.{Level}
use Rattle.pt_language.specs.declared.level.Level.TheVariants as level
use Rattle.pt_language.specs.Level.{operator_at, binding_at}
use Rattle.pt_language.specs.Symbol.{after, is_symbol}

-- a tree at the front of some words, and the words behind it
abbrev pub Read : Type 0
Read = Option (Tree × List Word)

abbrev pub Reader : Type 0
Reader = List Word → Read

-- the next step from what one gave, or none
infixl 10 ◌>>=◌
abbrev pub ◌>>=◌ : {A B : Type 0} → Option A → (A → Option B) → Option B
None >>= f = None
(Some x) >>= f = f x

-- one of two steps, by whether something is there
abbrev pub given : {A B : Type 0} → Option A → B → (A → B) → B
given None absent present = absent
given (Some x) absent present = present x

-- the words behind a symbol that must stand at the front, with what was read before it
abbrev pub closed : {A : Type 0} → Symbol → A → List Word → Option (A × List Word)
closed s x ws = after s ws >>= λ rest. Some (x, rest)

-- what stands behind a tree, as long as there is more of it: next says whether there is, and what comes of it
abbrev pub repeated : (Tree → List Word → Option Read) → ℕ → Tree → Reader
repeated next zero t ws = Some (t, ws)
repeated next (suc turns) t ws = given (next t ws) (Some (t, ws)) (λ read. read >>= λ r. repeated next turns r.0 r.1)

-- the operator of a level at the front, and the words behind it
abbrev pub operator_first : Level → List Word → Option (BinaryOp × List Word)
operator_first l [] = None
operator_first l (w ∷ ws) = option_map (λ op. (op, ws)) (operator_at l w)

-- an operator's second operand
abbrev pub second : Reader → BinaryOp → Tree → Reader
second operand op left ws = operand ws >>= λ right. Some (Binary op left right.0, right.1)

abbrev pub next_operand : Level → Reader → Tree → List Word → Option Read
next_operand l operand left ws = option_map (λ o. second operand o.0 left o.1) (operator_first l ws)

-- the operands of a level that repeats, behind the first
abbrev pub joined : Level → Reader → Tree → Reader
joined l operand left ws = repeated (next_operand l operand) (length ws) left ws

-- a comparison with the operand behind the first
abbrev pub compared_with : Reader → Tree → Reader
compared_with operand left ws = given (next_operand level.Comparison operand left ws) (Some (left, ws)) (λ read. read)

-- what stands behind the first operand of a level
abbrev pub behind_operand : Level → Reader → Tree → Reader
behind_operand level.Or = joined level.Or
behind_operand level.And = joined level.And
behind_operand level.Equality = joined level.Equality
behind_operand level.Comparison = compared_with
behind_operand level.Sum = joined level.Sum
behind_operand level.Term = joined level.Term

abbrev pub at_level : Level → Reader → Reader
at_level l operand ws = operand ws >>= λ first. behind_operand l operand first.0 first.1

-- a call behind its opening parenthesis, with an index
abbrev pub called : Reader → Tree → List Word → Read
called expression base ws = expression ws >>= λ index. closed Close (Apply base index.0) index.1

abbrev pub is_length : List ℕ → Bool
is_length name = pointwise nat_eq name (codes "length")

-- the words behind an empty call
abbrev pub empty_call : List Word → Option (List Word)
empty_call ws = after Open ws >>= λ inner. after Close inner

-- a field by its name, or the length where an empty call follows that name
abbrev pub field_named : Tree → List ℕ → List Word → Tree × List Word
field_named base name ws = if is_length name
    then given (empty_call ws) (Field base name, ws) (λ rest. (Length base, rest))
    else (Field base name, ws)

-- the name at the front, and the words behind it
abbrev pub name_first : List Word → Option (List ℕ × List Word)
name_first [] = None
name_first (Digits n ∷ ws) = None
name_first (Quoted text ∷ ws) = None
name_first (word.Name name ∷ ws) = Some (name, ws)
name_first (word.Symbol s ∷ ws) = None

-- one thing that follows a primary: a call or a field
abbrev pub suffix : Reader → Tree → Reader
suffix expression base ws = given (after Open ws)
    (after Dot ws >>= λ rest. name_first rest >>= λ n. Some (field_named base n.0 n.1))
    (λ rest. called expression base rest)

-- the words themselves, where a call or a field begins there
abbrev pub suffix_first : List Word → Option (List Word)
suffix_first ws = if nat_eq (binding_at ws) 8 then Some ws else None

abbrev pub next_suffix : Reader → Tree → List Word → Option Read
next_suffix expression base ws = option_map (λ v. suffix expression base v) (suffix_first ws)

-- an integer that fits 64 bits
abbrev pub positive : ℕ → Option Tree
positive n = if nat_lt n 0x8000_0000_0000_0000 then Some (Int (pos n)) else None

abbrev pub negative : ℕ → Option Tree
negative n = if nat_le n 0x8000_0000_0000_0000 then Some (Int (neg_ℤ (pos n))) else None

-- one operand in parentheses, and two
abbrev pub one_operand : Reader → Reader
one_operand expression ws = after Open ws >>= λ rest. expression rest >>= λ a. closed Close a.0 a.1

abbrev pub two_operands : Reader → List Word → Option ((Tree × Tree) × List Word)
two_operands expression ws =
    after Open ws >>= λ rest. expression rest >>= λ a. after Comma a.1 >>= λ more. expression more >>= λ b. closed Close (a.0, b.0) b.1

-- things with commas between them, up to the closing brace
abbrev pub listed : {A : Type 0} → (List Word → Option (A × List Word)) → ℕ → List Word → Option (List A × List Word)
listed one zero ws = None
listed one (suc turns) ws = one ws >>= λ first.
    given (after Comma first.1) (closed CloseBrace (first.0 ∷ []) first.1)
    (λ rest. listed one turns rest >>= λ others. Some (first.0 ∷ others.0, others.1))

-- a field of a record: its name, and its tree behind an equals sign
abbrev pub named : Reader → List Word → Option ((List ℕ × Tree) × List Word)
named expression ws = name_first ws >>= λ n. after Assign n.1 >>= λ rest. expression rest >>= λ value. Some ((n.0, value.0), value.1)

-- whether a name is among some, and whether one stands twice
abbrev pub is_among : List (List ℕ) → List ℕ → Bool
is_among [] n = false
is_among (m ∷ ms) n = pointwise nat_eq m n || is_among ms n

abbrev pub repeats_behind : List (List ℕ) → List (List ℕ) → Bool
repeats_behind seen [] = false
repeats_behind seen (n ∷ ns) = is_among seen n || repeats_behind (n ∷ seen) ns

abbrev pub has_repeated : List (List ℕ) → Bool
has_repeated ns = repeats_behind [] ns

-- a list or a record behind its opening brace: a name and an equals sign begin a record
abbrev pub begins_record : List Word → Bool
begins_record ws = given (name_first ws >>= λ n. after Assign n.1) false (λ rest. true)

abbrev pub record_at : Reader → Reader
record_at expression ws = listed (named expression) (length ws) ws >>= λ fs.
    if has_repeated (map (λ f. f.0) fs.0) then None else Some (Record (named_of fs.0), fs.1)

abbrev pub list_at : Reader → Reader
list_at expression ws = listed expression (length ws) ws >>= λ ts. Some (Array (trees_of ts.0), ts.1)

abbrev pub in_braces : Reader → Reader
in_braces expression ws = given (after CloseBrace ws)
    (if begins_record ws then record_at expression ws else list_at expression ws)
    (λ rest. Some (Array (trees_of []), rest))

-- the three functions, behind their names
abbrev pub absolute : Reader → Reader
absolute expression ws = one_operand expression ws >>= λ a. Some (tree.Abs a.0, a.1)

abbrev pub greater : Reader → Reader
greater expression ws = two_operands expression ws >>= λ both. Some (tree.Max both.0.0 both.0.1, both.1)

abbrev pub lesser : Reader → Reader
lesser expression ws = two_operands expression ws >>= λ both. Some (tree.Min both.0.0 both.0.1, both.1)

-- a primary that begins with a symbol, by its number; nothing else does
abbrev pub primary_symbol : Reader → Symbol → Reader
primary_symbol expression True ws = Some (Truth true, ws)
primary_symbol expression False ws = Some (Truth false, ws)
primary_symbol expression Abs ws = absolute expression ws
primary_symbol expression Max ws = greater expression ws
primary_symbol expression Min ws = lesser expression ws
primary_symbol expression Open ws = expression ws >>= λ inner. closed Close inner.0 inner.1
primary_symbol expression OpenBrace ws = in_braces expression ws
primary_symbol expression s ws = None

abbrev pub primary : Reader → Reader
primary expression [] = None
primary expression (Digits n ∷ ws) = positive n >>= λ t. Some (t, ws)
primary expression (Quoted text ∷ ws) = Some (Words text, ws)
primary expression (word.Name name ∷ ws) = Some (tree.Name name, ws)
primary expression (word.Symbol s ∷ ws) = primary_symbol expression s ws

-- all that follows a primary
abbrev pub suffixes : Reader → Tree → Reader
suffixes expression base ws = repeated (next_suffix expression) (length ws) base ws

abbrev pub postfix : Reader → Reader
postfix expression ws = primary expression ws >>= λ first. suffixes expression first.0 first.1

-- digits at the front that no call or field follows, and the words behind them
abbrev pub bare_digits : List Word → Option (ℕ × List Word)
bare_digits [] = None
bare_digits (Digits n ∷ ws) = if nat_eq (binding_at ws) 8 then None else Some (n, ws)
bare_digits (Quoted text ∷ ws) = None
bare_digits (word.Name name ∷ ws) = None
bare_digits (word.Symbol s ∷ ws) = None

-- an operand with its signs
abbrev pub unary : Reader → Reader
unary expression [] = None
unary expression (w ∷ ws) =
    if is_symbol Minus w then (given (bare_digits ws) (unary expression ws >>= λ operand. Some (Negate operand.0, operand.1)) (λ d. negative d.0 >>= λ t. Some (t, d.1)))
    else (if is_symbol Not w then (unary expression ws >>= λ operand. Some (tree.Not operand.0, operand.1))
    else postfix expression (w ∷ ws))

-- a literal with its sign
abbrev pub signed_literal : ℕ → Reader
signed_literal n ws = negative n >>= λ t. Some (t, ws)

-- what stands behind a minus that isn't between operands
abbrev pub minus : Reader → Reader
minus expression ws = given (bare_digits ws) (unary expression ws >>= λ operand. Some (Negate operand.0, operand.1)) (λ d. signed_literal d.0 d.1)

-- the levels of operators
abbrev pub term : Reader → Reader
term expression = at_level level.Term (unary expression)

abbrev pub sum : Reader → Reader
sum expression = at_level level.Sum (term expression)

abbrev pub comparison : Reader → Reader
comparison expression = at_level level.Comparison (sum expression)

abbrev pub equality : Reader → Reader
equality expression = at_level level.Equality (comparison expression)

abbrev pub conjunction : Reader → Reader
conjunction expression = at_level level.And (equality expression)

abbrev pub disjunction : Reader → Reader
disjunction expression = at_level level.Or (conjunction expression)

-- what the operators of a level join
abbrev pub operand_at : Level → Reader → Reader
operand_at level.Or = conjunction
operand_at level.And = equality
operand_at level.Equality = comparison
operand_at level.Comparison = sum
operand_at level.Sum = term
operand_at level.Term = unary

-- a choice behind its condition, where one follows
abbrev pub chosen : Reader → Tree → Reader
chosen expression test ws = given (after Question ws) (Some (test, ws))
    (λ rest. expression rest >>= λ yes. after Colon yes.1 >>= λ more. expression more >>= λ no. Some (Cond test yes.0 no.0, no.1))

abbrev pub choice : Reader → Reader
choice expression ws = disjunction expression ws >>= λ test. chosen expression test.0 test.1

-- an expression with at most so many expressions in one another within it
unfoldable pub expression : ℕ → Reader
expression zero ws = None
expression (suc depth) ws = choice (expression depth) ws
