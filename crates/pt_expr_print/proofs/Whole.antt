-- A printed text is the words of its tree, and reads as it.
use Rattle.std.proofs.Common.{◌≡◌, ℕ, suc, ℤ, pos, negsuc, List, [], ◌∷◌, ◌++◌, Bool, true, false, Result, Ok, Err, IfOk, codes, refl, sym, subst, append-nil, arith}
use Rattle.std.specs.Fmt.{signed_decimal, decimal}
use Rattle.pt_value.specs.Printed.{more_after, in_braces, separated_by, printed_truth}
use Rattle.pt_language.specs.declared.expr.BinaryOp.{BinaryOp}
use Rattle.pt_language.specs.declared.expr.BinaryOp.TheVariants as op
use Rattle.pt_language.specs.Tree as tree
use Rattle.pt_language.specs.Tree.{Tree, Int, Words, Array, Record, Negate, Binary, Cond, Apply, Field, Length, Trees, no_trees, tree_then, NamedTrees, no_fields, field_then}
use Rattle.pt_language.specs.declared.expr.Expr.{Expr}
use Rattle.pt_language.specs.Expr.{tree_of}
use Rattle.pt_language.specs.declared.word.Word.{Word}
use Rattle.pt_language.specs.declared.word.Word.TheVariants.{Digits, Quoted}
use Rattle.pt_language.specs.declared.word.Word.TheVariants as word
use Rattle.pt_language.specs.declared.word.Symbol.TheVariants.{True, False, Abs, Max, Min, Open, Close, OpenBrace, CloseBrace, Comma, Dot, Question, Colon, Assign, Not, Minus}
use Rattle.pt_language.specs.Words.{Splits, stops}
use Rattle.pt_language.specs.Text.{ReadsAs}
use Rattle.pt_expr_print.specs.Printed.{printed, each_printed, each_named, printed_field, sign, is_bare_operand, is_bare_base, in_parentheses, bare_or_not, pair}
use Rattle.pt_expr_print.specs.Readable.{IsReadable}
use Rattle.pt_expr_print.proofs.Legal.{IsLegal, AreLegal, HaveLegal, IsSpelled, IsNameWord, legal}
use Rattle.pt_expr_print.proofs.Spelled.{are_words}
use Rattle.pt_expr_print.proofs.Written.{words, part_words, more_part_words, field_words, more_field_words, symbol, enclosed, bare_or_enclosed, number_words, truth_words, stands}
use Rattle.pt_expr_print.proofs.Scanned.{IsApart, Scans, nothing, behind_it, blank_first, word_first, open_at, close_at, open_brace_at, close_brace_at, dot_at, minus_at, spelled_scans, decimal_scans, quoted_scans}

-- symbols, and what stands behind them
blank_then : (b : List ℕ) (ws : List Word) → Scans b ws → Scans (32 ∷ b) ws
blank_then b ws f rest left vs h s = blank_first (f rest left vs h s)

close_scans : Scans (41 ∷ []) (word.Symbol Close ∷ [])
close_scans rest left vs h s = word_first 41 rest rest left (word.Symbol Close) vs refl (close_at rest) s

close_brace_scans : Scans (125 ∷ []) (word.Symbol CloseBrace ∷ [])
close_brace_scans rest left vs h s = word_first 125 rest rest left (word.Symbol CloseBrace) vs refl (close_brace_at rest) s

open_then : (b : List ℕ) (ws : List Word) → Scans b ws → Scans (40 ∷ b) (word.Symbol Open ∷ ws)
open_then b ws f rest left vs h s = word_first 40 (b ++ rest) (b ++ rest) left (word.Symbol Open) (ws ++ vs) refl (open_at (b ++ rest)) (f rest left vs h s)

open_brace_then : (b : List ℕ) (ws : List Word) → Scans b ws → Scans (123 ∷ b) (word.Symbol OpenBrace ∷ ws)
open_brace_then b ws f rest left vs h s = word_first 123 (b ++ rest) (b ++ rest) left (word.Symbol OpenBrace) (ws ++ vs) refl (open_brace_at (b ++ rest)) (f rest left vs h s)

dot_then : (b : List ℕ) (ws : List Word) → Scans b ws → Scans (46 ∷ b) (word.Symbol Dot ∷ ws)
dot_then b ws f rest left vs h s = word_first 46 (b ++ rest) (b ++ rest) left (word.Symbol Dot) (ws ++ vs) refl (dot_at (b ++ rest)) (f rest left vs h s)

minus_then : (b : List ℕ) (ws : List Word) → Scans b ws → Scans (45 ∷ b) (word.Symbol Minus ∷ ws)
minus_then b ws f rest left vs h s = word_first 45 (b ++ rest) (b ++ rest) left (word.Symbol Minus) (ws ++ vs) refl (minus_at (b ++ rest)) (f rest left vs h s)

not_then : (b : List ℕ) (ws : List Word) → Scans (40 ∷ b) ws → Scans (33 ∷ 40 ∷ b) (word.Symbol Not ∷ ws)
not_then b ws f rest left vs h s = word_first 33 (40 ∷ (b ++ rest)) (40 ∷ (b ++ rest)) left (word.Symbol Not) (ws ++ vs) refl refl (f rest left vs h s)

comma_then : (b : List ℕ) (ws : List Word) → Scans b ws → Scans (codes ", " ++ b) (word.Symbol Comma ∷ ws)
comma_then b ws f rest left vs h s = word_first 44 (32 ∷ (b ++ rest)) (32 ∷ (b ++ rest)) left (word.Symbol Comma) (ws ++ vs) refl refl (blank_first (f rest left vs h s))

assign_then : (b : List ℕ) (ws : List Word) → Scans b ws → Scans (codes " = " ++ b) (word.Symbol Assign ∷ ws)
assign_then b ws f rest left vs h s =
    blank_first (word_first 61 (32 ∷ (b ++ rest)) (32 ∷ (b ++ rest)) left (word.Symbol Assign) (ws ++ vs) refl refl (blank_first (f rest left vs h s)))

question_then : (b : List ℕ) (ws : List Word) → Scans b ws → Scans (codes " ? " ++ b) (word.Symbol Question ∷ ws)
question_then b ws f rest left vs h s =
    blank_first (word_first 63 (32 ∷ (b ++ rest)) (32 ∷ (b ++ rest)) left (word.Symbol Question) (ws ++ vs) refl refl (blank_first (f rest left vs h s)))

colon_then : (b : List ℕ) (ws : List Word) → Scans b ws → Scans (codes " : " ++ b) (word.Symbol Colon ∷ ws)
colon_then b ws f rest left vs h s =
    blank_first (word_first 58 (32 ∷ (b ++ rest)) (32 ∷ (b ++ rest)) left (word.Symbol Colon) (ws ++ vs) refl refl (blank_first (f rest left vs h s)))

-- an operator with its blanks
sign_then : (o : BinaryOp) (b : List ℕ) (ws : List Word) → Scans b ws → Scans (sign o ++ b) (word.Symbol (symbol o) ∷ ws)
sign_then op.Or b ws f rest left vs h s = blank_first (word_first 124 _ (32 ∷ (b ++ rest)) left _ _ refl refl (blank_first (f rest left vs h s)))
sign_then op.And b ws f rest left vs h s = blank_first (word_first 38 _ (32 ∷ (b ++ rest)) left _ _ refl refl (blank_first (f rest left vs h s)))
sign_then op.Equal b ws f rest left vs h s = blank_first (word_first 61 _ (32 ∷ (b ++ rest)) left _ _ refl refl (blank_first (f rest left vs h s)))
sign_then op.Unequal b ws f rest left vs h s = blank_first (word_first 33 _ (32 ∷ (b ++ rest)) left _ _ refl refl (blank_first (f rest left vs h s)))
sign_then op.Less b ws f rest left vs h s = blank_first (word_first 60 _ (32 ∷ (b ++ rest)) left _ _ refl refl (blank_first (f rest left vs h s)))
sign_then op.LessEqual b ws f rest left vs h s = blank_first (word_first 60 _ (32 ∷ (b ++ rest)) left _ _ refl refl (blank_first (f rest left vs h s)))
sign_then op.Greater b ws f rest left vs h s = blank_first (word_first 62 _ (32 ∷ (b ++ rest)) left _ _ refl refl (blank_first (f rest left vs h s)))
sign_then op.GreaterEqual b ws f rest left vs h s = blank_first (word_first 62 _ (32 ∷ (b ++ rest)) left _ _ refl refl (blank_first (f rest left vs h s)))
sign_then op.Add b ws f rest left vs h s = blank_first (word_first 43 _ (32 ∷ (b ++ rest)) left _ _ refl refl (blank_first (f rest left vs h s)))
sign_then op.Subtract b ws f rest left vs h s = blank_first (word_first 45 _ (32 ∷ (b ++ rest)) left _ _ refl refl (blank_first (f rest left vs h s)))
sign_then op.Multiply b ws f rest left vs h s = blank_first (word_first 42 _ (32 ∷ (b ++ rest)) left _ _ refl refl (blank_first (f rest left vs h s)))
sign_then op.Divide b ws f rest left vs h s = blank_first (word_first 47 _ (32 ∷ (b ++ rest)) left _ _ refl refl (blank_first (f rest left vs h s)))
sign_then op.Remainder b ws f rest left vs h s = blank_first (word_first 37 _ (32 ∷ (b ++ rest)) left _ _ refl refl (blank_first (f rest left vs h s)))

sign_apart : (o : BinaryOp) (b rest : List ℕ) → IsApart rest → IsApart ((sign o ++ b) ++ rest)
sign_apart op.Or b rest h = refl
sign_apart op.And b rest h = refl
sign_apart op.Equal b rest h = refl
sign_apart op.Unequal b rest h = refl
sign_apart op.Less b rest h = refl
sign_apart op.LessEqual b rest h = refl
sign_apart op.Greater b rest h = refl
sign_apart op.GreaterEqual b rest h = refl
sign_apart op.Add b rest h = refl
sign_apart op.Subtract b rest h = refl
sign_apart op.Multiply b rest h = refl
sign_apart op.Divide b rest h = refl
sign_apart op.Remainder b rest h = refl

-- parentheses
in_parentheses_scans : (text : List ℕ) (ws : List Word) → Scans text ws → Scans (in_parentheses text) (enclosed ws)
in_parentheses_scans text ws f = open_then (text ++ codes ")") (ws ++ word.Symbol Close ∷ []) (behind_it text (codes ")") ws (word.Symbol Close ∷ []) f (λ rest h. refl) close_scans)

bare_or_not_scans : (b : Bool) (text : List ℕ) (ws : List Word) → Scans text ws → Scans (bare_or_not b text) (bare_or_enclosed b ws)
bare_or_not_scans true text ws f = f
bare_or_not_scans false text ws f = in_parentheses_scans text ws f

function_scans : (name : List ℕ) (w : Word) (text : List ℕ) (ws : List Word) → IsSpelled name w → Scans text ws → Scans (name ++ in_parentheses text) (w ∷ enclosed ws)
function_scans name w text ws s f = behind_it name (in_parentheses text) (w ∷ []) (enclosed ws) (spelled_scans name w s) (λ rest h. refl) (in_parentheses_scans text ws f)

pair_scans : (a b : List ℕ) (us ws : List Word) → Scans a us → Scans b ws → Scans (pair a b) (us ++ word.Symbol Comma ∷ ws)
pair_scans a b us ws f k = behind_it a (codes ", " ++ b) us (word.Symbol Comma ∷ ws) f (λ rest h. refl) (comma_then b ws k)

spelled_abs : IsSpelled (codes "abs") (word.Symbol Abs)
spelled_abs = record { begins = refl; runs = refl; is = refl }

spelled_max : IsSpelled (codes "max") (word.Symbol Max)
spelled_max = record { begins = refl; runs = refl; is = refl }

spelled_min : IsSpelled (codes "min") (word.Symbol Min)
spelled_min = record { begins = refl; runs = refl; is = refl }

spelled_length : IsNameWord (codes "length")
spelled_length = record { begins = refl; runs = refl; is = refl }

-- literals
number_scans : (n : ℤ) → IsLegal (Int n) → Scans (signed_decimal n) (number_words n)
number_scans (pos n) h = decimal_scans n (omega arith)
number_scans (negsuc n) h = minus_then (decimal (suc n)) (Digits (suc n) ∷ []) (decimal_scans (suc n) h)

truth_scans : (b : Bool) → Scans (printed_truth b) (truth_words b)
truth_scans true = spelled_scans (codes "true") (word.Symbol True) (record { begins = refl; runs = refl; is = refl })
truth_scans false = spelled_scans (codes "false") (word.Symbol False) (record { begins = refl; runs = refl; is = refl })

in_braces_scans : (xs : List (List ℕ)) (ws : List Word) → Scans (separated_by (codes ", ") xs) ws → Scans (in_braces xs) (word.Symbol OpenBrace ∷ (ws ++ word.Symbol CloseBrace ∷ []))
in_braces_scans xs ws f =
    open_brace_then (separated_by (codes ", ") xs ++ codes "}") (ws ++ word.Symbol CloseBrace ∷ []) (behind_it (separated_by (codes ", ") xs) (codes "}") ws (word.Symbol CloseBrace ∷ []) f (λ rest h. refl) close_brace_scans)

more_apart : (xs : List (List ℕ)) (rest : List ℕ) → IsApart rest → IsApart (more_after (codes ", ") xs ++ rest)
more_apart [] rest h = h
more_apart (x ∷ xs) rest h = refl

field_scans : (name text : List ℕ) (ws : List Word) → IsNameWord name → Scans text ws → Scans (printed_field name text) (word.Name name ∷ word.Symbol Assign ∷ ws)
field_scans name text ws s f = behind_it name (codes " = " ++ text) (word.Name name ∷ []) (word.Symbol Assign ∷ ws) (spelled_scans name (word.Name name) s) (λ rest h. refl) (assign_then text ws f)

choice_scans : (a b d : List ℕ) (us vs ws : List Word) → Scans a us → Scans b vs → Scans d ws → Scans (a ++ (codes " ? " ++ (b ++ (codes " : " ++ d)))) (us ++ word.Symbol Question ∷ (vs ++ word.Symbol Colon ∷ ws))
choice_scans a b d us vs ws f k l =
    behind_it a (codes " ? " ++ (b ++ (codes " : " ++ d))) us (word.Symbol Question ∷ (vs ++ word.Symbol Colon ∷ ws)) f (λ rest h. refl)
    (question_then (b ++ (codes " : " ++ d)) (vs ++ word.Symbol Colon ∷ ws) (behind_it b (codes " : " ++ d) vs (word.Symbol Colon ∷ ws) k (λ rest h. refl) (colon_then d ws l)))

length_scans : Scans (codes ".length()") (word.Symbol Dot ∷ word.Name (codes "length") ∷ word.Symbol Open ∷ word.Symbol Close ∷ [])
length_scans =
    dot_then (codes "length()") (word.Name (codes "length") ∷ word.Symbol Open ∷ word.Symbol Close ∷ [])
    (behind_it (codes "length") (codes "()") (word.Name (codes "length") ∷ []) (word.Symbol Open ∷ word.Symbol Close ∷ []) (spelled_scans (codes "length") (word.Name (codes "length")) spelled_length) (λ rest h. refl) (open_then (codes ")") (word.Symbol Close ∷ []) close_scans))

-- a legal tree's printed text has its words
mutual
  scans : (t : Tree) → IsLegal t → Scans (printed t) (words t)
  scans (Int n) h = number_scans n h
  scans (tree.Bool b) h = truth_scans b
  scans (Words text) h = quoted_scans text
  scans (tree.Name name) h = spelled_scans name (word.Name name) h
  scans (Array ts) h = in_braces_scans (each_printed ts) (part_words ts) (part_scans ts h)
  scans (Record fs) h = in_braces_scans (each_named fs) (field_words fs) (named_scans fs h.2)
  scans (Negate t) h = minus_then (in_parentheses (printed t)) (enclosed (words t)) (in_parentheses_scans (printed t) (words t) (scans t h))
  scans (tree.Not t) h = not_then (printed t ++ codes ")") (enclosed (words t)) (in_parentheses_scans (printed t) (words t) (scans t h))
  scans (Binary o s t) h =
      behind_it (bare_or_not (is_bare_operand s) (printed s)) (sign o ++ bare_or_not (is_bare_operand t) (printed t)) (bare_or_enclosed (is_bare_operand s) (words s)) (word.Symbol (symbol o) ∷ bare_or_enclosed (is_bare_operand t) (words t))
      (bare_or_not_scans (is_bare_operand s) (printed s) (words s) (scans s h.0))
      (sign_apart o (bare_or_not (is_bare_operand t) (printed t)))
      (sign_then o (bare_or_not (is_bare_operand t) (printed t)) (bare_or_enclosed (is_bare_operand t) (words t)) (bare_or_not_scans (is_bare_operand t) (printed t) (words t) (scans t h.1)))
  scans (Cond s t u) h =
      choice_scans _ _ _ _ _ _ (bare_or_not_scans (is_bare_operand s) (printed s) (words s) (scans s h.0)) (bare_or_not_scans (is_bare_operand t) (printed t) (words t) (scans t h.1))
      (bare_or_not_scans (is_bare_operand u) (printed u) (words u) (scans u h.2))
  scans (tree.Abs t) h = function_scans (codes "abs") (word.Symbol Abs) (printed t) (words t) spelled_abs (scans t h)
  scans (tree.Max s t) h =
      function_scans (codes "max") (word.Symbol Max) (pair (printed s) (printed t)) (words s ++ word.Symbol Comma ∷ words t) spelled_max (pair_scans (printed s) (printed t) (words s) (words t) (scans s h.0) (scans t h.1))
  scans (tree.Min s t) h =
      function_scans (codes "min") (word.Symbol Min) (pair (printed s) (printed t)) (words s ++ word.Symbol Comma ∷ words t) spelled_min (pair_scans (printed s) (printed t) (words s) (words t) (scans s h.0) (scans t h.1))
  scans (Apply s t) h =
      behind_it (bare_or_not (is_bare_base s) (printed s)) (in_parentheses (printed t)) (bare_or_enclosed (is_bare_base s) (words s)) (enclosed (words t))
      (bare_or_not_scans (is_bare_base s) (printed s) (words s) (scans s h.0)) (λ rest k. refl) (in_parentheses_scans (printed t) (words t) (scans t h.1))
  scans (Field t name) h =
      behind_it (bare_or_not (is_bare_base t) (printed t)) (codes "." ++ name) (bare_or_enclosed (is_bare_base t) (words t)) (word.Symbol Dot ∷ word.Name name ∷ [])
      (bare_or_not_scans (is_bare_base t) (printed t) (words t) (scans t h.0)) (λ rest k. refl) (dot_then name (word.Name name ∷ []) (spelled_scans name (word.Name name) h.1))
  scans (Length t) h =
      behind_it (bare_or_not (is_bare_base t) (printed t)) (codes ".length()") (bare_or_enclosed (is_bare_base t) (words t)) (word.Symbol Dot ∷ word.Name (codes "length") ∷ word.Symbol Open ∷ word.Symbol Close ∷ [])
      (bare_or_not_scans (is_bare_base t) (printed t) (words t) (scans t h)) (λ rest k. refl) length_scans

  part_scans : (ts : Trees) → AreLegal ts → Scans (separated_by (codes ", ") (each_printed ts)) (part_words ts)
  part_scans no_trees h = nothing
  part_scans (tree_then t ts) h =
      behind_it (printed t) (more_after (codes ", ") (each_printed ts)) (words t) (more_part_words ts) (scans t h.0) (more_apart (each_printed ts)) (more_part_scans ts h.1)

  more_part_scans : (ts : Trees) → AreLegal ts → Scans (more_after (codes ", ") (each_printed ts)) (more_part_words ts)
  more_part_scans no_trees h = nothing
  more_part_scans (tree_then t ts) h =
      comma_then (printed t ++ more_after (codes ", ") (each_printed ts)) (words t ++ more_part_words ts)
      (behind_it (printed t) (more_after (codes ", ") (each_printed ts)) (words t) (more_part_words ts) (scans t h.0) (more_apart (each_printed ts)) (more_part_scans ts h.1))

  named_scans : (fs : NamedTrees) → HaveLegal fs → Scans (separated_by (codes ", ") (each_named fs)) (field_words fs)
  named_scans no_fields h = nothing
  named_scans (field_then name t fs) h =
      behind_it (printed_field name (printed t)) (more_after (codes ", ") (each_named fs)) (word.Name name ∷ word.Symbol Assign ∷ words t) (more_field_words fs)
      (field_scans name (printed t) (words t) h.0.0 (scans t h.0.1)) (more_apart (each_named fs)) (more_field_scans fs h.1)

  more_field_scans : (fs : NamedTrees) → HaveLegal fs → Scans (more_after (codes ", ") (each_named fs)) (more_field_words fs)
  more_field_scans no_fields h = nothing
  more_field_scans (field_then name t fs) h =
      comma_then (printed_field name (printed t) ++ more_after (codes ", ") (each_named fs)) (word.Name name ∷ word.Symbol Assign ∷ (words t ++ more_field_words fs))
      (behind_it (printed_field name (printed t)) (more_after (codes ", ") (each_named fs)) (word.Name name ∷ word.Symbol Assign ∷ words t) (more_field_words fs)
      (field_scans name (printed t) (words t) h.0.0 (scans t h.0.1)) (more_apart (each_named fs)) (more_field_scans fs h.1))

-- the whole printed text of a legal tree is its words
pub legal_words : (t : Tree) → IsLegal t → Splits (printed t) (words t) []
legal_words t h =
    let s : Splits (printed t ++ []) (words t ++ []) [] = scans t h [] [] [] tt (stops {text = []} refl) in
    let P : List ℕ → Type 0 = λ text. Splits text (words t ++ []) [] in
    let Q : List Word → Type 0 = λ ws. Splits (printed t) ws [] in
    subst Q (append-nil (words t)) (subst P (append-nil (printed t)) s)

-- the printed text of a legal tree reads as it
pub legal_reads : (t : Tree) → IsLegal t → ReadsAs (printed t) t
legal_reads t h = (words t, legal_words t h, (stands t h).whole)

-- some text reads as the tree, and so does its printed text
pub printed_reads : (t : Tree) → IsReadable t → ReadsAs (printed t) t
printed_reads t r = legal_reads t (legal r.1.2 (are_words r.1.1))

-- the same of what is answered
pub answer_reads : {E : Type 0} (r : Result (List ℕ) E) (t : Tree) → IsReadable t → IfOk r (λ text. text ≡ printed t) → IfOk r (λ text. ReadsAs text t)
answer_reads (Ok text) t h e = let P : List ℕ → Type 0 = λ v. ReadsAs v t in subst P (sym e) (printed_reads t h)
answer_reads (Err e) t h i = tt

-- the one tree that a text reads as
pub answer_same : {E : Type 0} (r : Result Expr E) (text : List ℕ) (t : Tree) → ReadsAs text t → IfOk r (λ e. (u : Tree) → ReadsAs text u → u ≡ tree_of e) → IfOk r (λ e. tree_of e ≡ t)
answer_same (Ok e) text t h only = sym (only t h)
answer_same (Err e) text t h only = tt
