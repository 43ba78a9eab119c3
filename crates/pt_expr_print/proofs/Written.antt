-- The words of a printed tree, and that they read as it.
use Rattle.std.proofs.Common.{◌≡◌, ℕ, suc, ℤ, pos, negsuc, List, [], ◌∷◌, ◌++◌, Bool, true, false, codes, refl, sym, subst, ◌∙◌, append-nil, append_assoc}
use Rattle.pt_language.specs.declared.expr.BinaryOp.{BinaryOp}
use Rattle.pt_language.specs.declared.expr.BinaryOp.TheVariants as op
use Rattle.pt_language.specs.Tree as tree
use Rattle.pt_language.specs.Tree.{Tree, Int, Words, Array, Record, Negate, Binary, Cond, Apply, Field, Length, Trees, no_trees, tree_then, NamedTrees, no_fields, field_then, fields_of}
use Rattle.pt_language.specs.declared.word.Word.{Word}
use Rattle.pt_language.specs.declared.word.Word.TheVariants.{Digits, Quoted}
use Rattle.pt_language.specs.declared.word.Word.TheVariants as word
use Rattle.pt_language.specs.declared.word.Symbol.{Symbol}
use Rattle.pt_language.specs.declared.word.Symbol.TheVariants.{True, False, Abs, Max, Min, Open, Close, OpenBrace, CloseBrace, Comma, Dot, Question, Colon, Assign, Not, Minus, Plus, Star, Slash, Percent, Less, LessEqual, Greater, GreaterEqual, Equal, Unequal, And, Or}
use Rattle.pt_language.specs.declared.level.Level.TheVariants as level
use Rattle.pt_language.specs.Grammar.{Reads, ReadsParts, ReadsFields, AllDiffer}
use Rattle.pt_language.specs.Grammar as g
use Rattle.pt_expr_print.specs.Printed.{is_bare_operand, is_bare_base}
use Rattle.pt_expr_print.proofs.Legal.{IsLegal, AreLegal, HaveLegal}

abbrev pub symbol : BinaryOp → Symbol
symbol op.Or = Or
symbol op.And = And
symbol op.Equal = Equal
symbol op.Unequal = Unequal
symbol op.Less = Less
symbol op.LessEqual = LessEqual
symbol op.Greater = Greater
symbol op.GreaterEqual = GreaterEqual
symbol op.Add = Plus
symbol op.Subtract = Minus
symbol op.Multiply = Star
symbol op.Divide = Slash
symbol op.Remainder = Percent

abbrev pub number_words : ℤ → List Word
number_words (pos n) = Digits n ∷ []
number_words (negsuc n) = word.Symbol Minus ∷ Digits (suc n) ∷ []

abbrev pub truth_words : Bool → List Word
truth_words true = word.Symbol True ∷ []
truth_words false = word.Symbol False ∷ []

abbrev pub enclosed : List Word → List Word
enclosed ws = word.Symbol Open ∷ (ws ++ word.Symbol Close ∷ [])

abbrev pub bare_or_enclosed : Bool → List Word → List Word
bare_or_enclosed true ws = ws
bare_or_enclosed false ws = enclosed ws

-- the words of a printed tree
abbrev mutual
  pub words : Tree → List Word
  words (Int n) = number_words n
  words (tree.Bool b) = truth_words b
  words (Words text) = Quoted text ∷ []
  words (tree.Name name) = word.Name name ∷ []
  words (Array ts) = word.Symbol OpenBrace ∷ (part_words ts ++ word.Symbol CloseBrace ∷ [])
  words (Record fs) = word.Symbol OpenBrace ∷ (field_words fs ++ word.Symbol CloseBrace ∷ [])
  words (Negate t) = word.Symbol Minus ∷ enclosed (words t)
  words (tree.Not t) = word.Symbol Not ∷ enclosed (words t)
  words (Binary o s t) = bare_or_enclosed (is_bare_operand s) (words s) ++ word.Symbol (symbol o) ∷ bare_or_enclosed (is_bare_operand t) (words t)
  words (Cond s t u) =
      bare_or_enclosed (is_bare_operand s) (words s) ++ word.Symbol Question ∷ (bare_or_enclosed (is_bare_operand t) (words t) ++ word.Symbol Colon ∷ bare_or_enclosed (is_bare_operand u) (words u))
  words (tree.Abs t) = word.Symbol Abs ∷ enclosed (words t)
  words (tree.Max s t) = word.Symbol Max ∷ enclosed (words s ++ word.Symbol Comma ∷ words t)
  words (tree.Min s t) = word.Symbol Min ∷ enclosed (words s ++ word.Symbol Comma ∷ words t)
  words (Apply s t) = bare_or_enclosed (is_bare_base s) (words s) ++ enclosed (words t)
  words (Field t name) = bare_or_enclosed (is_bare_base t) (words t) ++ word.Symbol Dot ∷ word.Name name ∷ []
  words (Length t) = bare_or_enclosed (is_bare_base t) (words t) ++ word.Symbol Dot ∷ word.Name (codes "length") ∷ word.Symbol Open ∷ word.Symbol Close ∷ []

  -- of the parts of an array, and of those behind the first
  pub part_words : Trees → List Word
  part_words no_trees = []
  part_words (tree_then t ts) = words t ++ more_part_words ts

  pub more_part_words : Trees → List Word
  more_part_words no_trees = []
  more_part_words (tree_then t ts) = word.Symbol Comma ∷ (words t ++ more_part_words ts)

  -- of the fields of a record, and of those behind the first
  pub field_words : NamedTrees → List Word
  field_words no_fields = []
  field_words (field_then name t fs) = word.Name name ∷ word.Symbol Assign ∷ (words t ++ more_field_words fs)

  pub more_field_words : NamedTrees → List Word
  more_field_words no_fields = []
  more_field_words (field_then name t fs) = word.Symbol Comma ∷ word.Name name ∷ word.Symbol Assign ∷ (words t ++ more_field_words fs)

-- an operand with its signs is one of each level
at_term : {ws : List Word} {t : Tree} → Reads g.unary ws t → Reads (g.operators level.Term) ws t
at_term r = g.operand {l = level.Term} r

at_sum : {ws : List Word} {t : Tree} → Reads g.unary ws t → Reads (g.operators level.Sum) ws t
at_sum r = g.operand {l = level.Sum} (at_term r)

at_comparison : {ws : List Word} {t : Tree} → Reads g.unary ws t → Reads (g.operators level.Comparison) ws t
at_comparison r = g.operand {l = level.Comparison} (at_sum r)

at_equality : {ws : List Word} {t : Tree} → Reads g.unary ws t → Reads (g.operators level.Equality) ws t
at_equality r = g.operand {l = level.Equality} (at_comparison r)

at_and : {ws : List Word} {t : Tree} → Reads g.unary ws t → Reads (g.operators level.And) ws t
at_and r = g.operand {l = level.And} (at_equality r)

at_or : {ws : List Word} {t : Tree} → Reads g.unary ws t → Reads (g.operators level.Or) ws t
at_or r = g.operand {l = level.Or} (at_and r)

-- what a level joins is an expression
from_or : {ws : List Word} {t : Tree} → Reads (g.operators level.Or) ws t → Reads g.expression ws t
from_or r = g.plain r

from_and : {ws : List Word} {t : Tree} → Reads (g.operators level.And) ws t → Reads g.expression ws t
from_and r = from_or (g.operand {l = level.Or} r)

from_equality : {ws : List Word} {t : Tree} → Reads (g.operators level.Equality) ws t → Reads g.expression ws t
from_equality r = from_and (g.operand {l = level.And} r)

from_comparison : {ws : List Word} {t : Tree} → Reads (g.operators level.Comparison) ws t → Reads g.expression ws t
from_comparison r = from_equality (g.operand {l = level.Equality} r)

from_sum : {ws : List Word} {t : Tree} → Reads (g.operators level.Sum) ws t → Reads g.expression ws t
from_sum r = from_comparison (g.operand {l = level.Comparison} r)

from_term : {ws : List Word} {t : Tree} → Reads (g.operators level.Term) ws t → Reads g.expression ws t
from_term r = from_sum (g.operand {l = level.Sum} r)

from_unary : {ws : List Word} {t : Tree} → Reads g.unary ws t → Reads g.expression ws t
from_unary r = from_or (at_or r)

-- two operands with an operator between them
joined : (o : BinaryOp) {a b : List Word} {s t : Tree} → Reads g.unary a s → Reads g.unary b t → Reads g.expression (a ++ word.Symbol (symbol o) ∷ b) (Binary o s t)
joined op.Or r q = from_or (g.grouped {l = level.Or} (word.Symbol Or) tt (at_or r) refl (at_and q))
joined op.And r q = from_and (g.grouped {l = level.And} (word.Symbol And) tt (at_and r) refl (at_equality q))
joined op.Equal r q = from_equality (g.grouped {l = level.Equality} (word.Symbol Equal) tt (at_equality r) refl (at_comparison q))
joined op.Unequal r q = from_equality (g.grouped {l = level.Equality} (word.Symbol Unequal) tt (at_equality r) refl (at_comparison q))
joined op.Less r q = from_comparison (g.compared (word.Symbol Less) (at_sum r) refl (at_sum q))
joined op.LessEqual r q = from_comparison (g.compared (word.Symbol LessEqual) (at_sum r) refl (at_sum q))
joined op.Greater r q = from_comparison (g.compared (word.Symbol Greater) (at_sum r) refl (at_sum q))
joined op.GreaterEqual r q = from_comparison (g.compared (word.Symbol GreaterEqual) (at_sum r) refl (at_sum q))
joined op.Add r q = from_sum (g.grouped {l = level.Sum} (word.Symbol Plus) tt (at_sum r) refl (at_term q))
joined op.Subtract r q = from_sum (g.grouped {l = level.Sum} (word.Symbol Minus) tt (at_sum r) refl (at_term q))
joined op.Multiply r q = from_term (g.grouped {l = level.Term} (word.Symbol Star) tt (at_term r) refl q)
joined op.Divide r q = from_term (g.grouped {l = level.Term} (word.Symbol Slash) tt (at_term r) refl q)
joined op.Remainder r q = from_term (g.grouped {l = level.Term} (word.Symbol Percent) tt (at_term r) refl q)

-- what the words of a tree read as: an expression, and, where they stand bare, an operand or a base
pub record Stands (t : Tree) : Type 0 where
  pub whole : Reads g.expression (words t) t
  pub as_operand : is_bare_operand t ≡ true → Reads g.unary (words t) t
  pub as_base : is_bare_base t ≡ true → Reads g.postfix (words t) t

bracketed : {ws : List Word} {t : Tree} → Reads g.expression ws t → Reads g.postfix (enclosed ws) t
bracketed r = g.alone (g.parentheses r)

operand_stands : (t : Tree) → Stands t → Reads g.unary (bare_or_enclosed (is_bare_operand t) (words t)) t
operand_stands t s = by_test (is_bare_operand t) refl
  where
    by_test : (b : Bool) → is_bare_operand t ≡ b → Reads g.unary (bare_or_enclosed b (words t)) t
    by_test true e = s.as_operand e
    by_test false e = g.unsigned (bracketed s.whole)

base_stands : (t : Tree) → Stands t → Reads g.postfix (bare_or_enclosed (is_bare_base t) (words t)) t
base_stands t s = by_test (is_bare_base t) refl
  where
    by_test : (b : Bool) → is_bare_base t ≡ b → Reads g.postfix (bare_or_enclosed b (words t)) t
    by_test true e = s.as_base e
    by_test false e = bracketed s.whole

from_postfix : (t : Tree) → Reads g.postfix (words t) t → Stands t
from_postfix t r = record { whole = from_unary (g.unsigned r); as_operand = λ e. g.unsigned r; as_base = λ e. r }

from_primary : (t : Tree) → Reads g.primary (words t) t → Stands t
from_primary t r = from_postfix t (g.alone r)

-- a tree that stands in parentheses within others
from_whole : (t : Tree) → is_bare_operand t ≡ false → is_bare_base t ≡ false → Reads g.expression (words t) t → Stands t
from_whole t e f r = record {
  whole = r;
  as_operand = λ d. absurd (let u : true ≡ false = sym d ∙ e in cc);
  as_base = λ d. absurd (let u : true ≡ false = sym d ∙ f in cc);
}

number_stands : (n : ℤ) → IsLegal (Int n) → Stands (Int n)
number_stands (pos n) h = from_primary (Int (pos n)) (g.digits h)
number_stands (negsuc n) h = record {
  whole = from_unary (g.negative {n = suc n} h);
  as_operand = λ e. g.negative {n = suc n} h;
  as_base = λ e. absurd (let u : false ≡ true = e in cc);
}

truth_stands : (b : Bool) → Stands (tree.Bool b)
truth_stands true = from_primary (tree.Bool true) g.truth
truth_stands false = from_primary (tree.Bool false) g.falsehood

-- two operands of a function, in parentheses
pair_assoc : (a b : List Word) → (a ++ word.Symbol Comma ∷ b) ++ word.Symbol Close ∷ [] ≡ a ++ word.Symbol Comma ∷ (b ++ word.Symbol Close ∷ [])
pair_assoc a b = append_assoc a (word.Symbol Comma ∷ b) (word.Symbol Close ∷ [])

maximum : (s t : Tree) → Reads g.expression (words s) s → Reads g.expression (words t) t → Reads g.primary (words (tree.Max s t)) (tree.Max s t)
maximum s t r q =
    let P : List Word → Type 0 = λ ws. Reads g.primary (word.Symbol Max ∷ word.Symbol Open ∷ ws) (tree.Max s t) in
    subst P (sym (pair_assoc (words s) (words t))) (g.greater r q)

minimum : (s t : Tree) → Reads g.expression (words s) s → Reads g.expression (words t) t → Reads g.primary (words (tree.Min s t)) (tree.Min s t)
minimum s t r q =
    let P : List Word → Type 0 = λ ws. Reads g.primary (word.Symbol Min ∷ word.Symbol Open ∷ ws) (tree.Min s t) in
    subst P (sym (pair_assoc (words s) (words t))) (g.lesser r q)

last_part : (a : List Word) (t : Tree) → Reads g.expression a t → ReadsParts (a ++ []) (tree_then t no_trees)
last_part a t r = let P : List Word → Type 0 = λ ws. ReadsParts ws (tree_then t no_trees) in subst P (sym (append-nil a)) (g.last_part r)

last_field : (name : List ℕ) (a : List Word) (t : Tree) → Reads g.expression a t → ReadsFields (word.Name name ∷ word.Symbol Assign ∷ (a ++ [])) (field_then name t no_fields)
last_field name a t r =
    let P : List Word → Type 0 = λ ws. ReadsFields (word.Name name ∷ word.Symbol Assign ∷ ws) (field_then name t no_fields) in
    subst P (sym (append-nil a)) (g.last_field r)

-- the words of each legal tree read as it
mutual
  pub stands : (t : Tree) → IsLegal t → Stands t
  stands (Int n) h = number_stands n h
  stands (tree.Bool b) h = truth_stands b
  stands (Words text) h = from_primary (Words text) g.quoted
  stands (tree.Name name) h = from_primary (tree.Name name) g.name
  stands (Array no_trees) h = from_primary (Array no_trees) g.empty
  stands (Array (tree_then t ts)) h = from_primary (Array (tree_then t ts)) (g.list (more_parts (words t) t (stands t h.0).whole ts h.1))
  stands (Record no_fields) h = absurd h.0
  stands (Record (field_then name t fs)) h =
      from_primary (Record (field_then name t fs)) (g.record_literal (more_fields name (words t) t (stands t h.2.0.1).whole fs h.2.1) h.1)
  stands (Negate t) h = from_whole (Negate t) refl refl (from_unary (g.negated tt (g.unsigned (bracketed (stands t h).whole))))
  stands (tree.Not t) h = from_whole (tree.Not t) refl refl (from_unary (g.denied (g.unsigned (bracketed (stands t h).whole))))
  stands (Binary o s t) h = from_whole (Binary o s t) refl refl (joined o (operand_stands s (stands s h.0)) (operand_stands t (stands t h.1)))
  stands (Cond s t u) h =
      from_whole (Cond s t u) refl refl (g.condition (at_or (operand_stands s (stands s h.0))) (from_unary (operand_stands t (stands t h.1))) (from_unary (operand_stands u (stands u h.2))))
  stands (tree.Abs t) h = from_primary (tree.Abs t) (g.absolute (stands t h).whole)
  stands (tree.Max s t) h = from_primary (tree.Max s t) (maximum s t (stands s h.0).whole (stands t h.1).whole)
  stands (tree.Min s t) h = from_primary (tree.Min s t) (minimum s t (stands s h.0).whole (stands t h.1).whole)
  stands (Apply s t) h = from_postfix (Apply s t) (g.applied (base_stands s (stands s h.0)) (stands t h.1).whole)
  stands (Field t name) h = from_postfix (Field t name) (g.field (base_stands t (stands t h.0)))
  stands (Length t) h = from_postfix (Length t) (g.length (base_stands t (stands t h)))

  more_parts : (a : List Word) (t : Tree) → Reads g.expression a t → (ts : Trees) → AreLegal ts → ReadsParts (a ++ more_part_words ts) (tree_then t ts)
  more_parts a t r no_trees h = last_part a t r
  more_parts a t r (tree_then u us) h = g.part_then r (more_parts (words u) u (stands u h.0).whole us h.1)

  more_fields : (name : List ℕ) (a : List Word) (t : Tree) → Reads g.expression a t → (fs : NamedTrees) → HaveLegal fs → ReadsFields (word.Name name ∷ word.Symbol Assign ∷ (a ++ more_field_words fs)) (field_then name t fs)
  more_fields name a t r no_fields h = last_field name a t r
  more_fields name a t r (field_then m u fs) h = g.field_and r (more_fields m (words u) u (stands u h.0.1).whole fs h.1)
