-- The grammar: which words read as which tree, level by level.
use Rattle.std.specs.Prelude.{◌≡◌, ℕ, neg_ℤ, ◌<◌, ◌≤◌, ◌^◌, pos, List, [], ◌∷◌, ◌++◌, map, Some, IsTrue, ◌==◌, codes, ◌⊎◌}
use Rattle.std.specs.Prelude.{true, false}
use Rattle.pt_language.specs.declared.expr.BinaryOp.{BinaryOp}
use Rattle.pt_language.specs.Tree.{Tree, Int, Bool, Words, Array, Record, Negate, Binary, Cond, Apply, Field, Length, Trees, no_trees, tree_then, NamedTrees, no_fields, field_then, fields_of}
use Rattle.pt_language.specs.Tree as tree
use Rattle.pt_language.specs.declared.word.Word.{Word}
use Rattle.pt_language.specs.declared.word.Word.TheVariants.{Digits, Quoted}
use Rattle.pt_language.specs.declared.word.Word.TheVariants as word
use Rattle.pt_language.specs.declared.word.Symbol.{Symbol}
use Rattle.pt_language.specs.declared.word.Symbol.TheVariants.{True, False, Abs, Max, Min, Open, Close, OpenBrace, CloseBrace, Comma, Dot, Question, Colon, Assign, Not, Minus}
use Rattle.pt_language.specs.declared.level.Level.{Level}
use Rattle.pt_language.specs.declared.level.Level.TheVariants as level
use Rattle.pt_language.specs.Level.{operator_at, binding}

-- what words may read as: a whole expression, operands joined by the operators of a level, an operand with its signs, a primary with what follows it, or a primary
pub data Phrase : Type 0 where
  expression : Phrase
  operators : Level → Phrase
  unary : Phrase
  postfix : Phrase
  primary : Phrase

-- what the operators of a level join
abbrev pub operand_of : Level → Phrase
operand_of level.Or = operators level.And
operand_of level.And = operators level.Equality
operand_of level.Equality = operators level.Comparison
operand_of level.Comparison = operators level.Sum
operand_of level.Sum = operators level.Term
operand_of level.Term = unary

-- all levels but comparisons may repeat
abbrev pub MayRepeat : Level → Type 0
MayRepeat level.Comparison = ⊥
MayRepeat l = Unit {0}

-- the words aren't digits alone, which a `-` before them makes one literal with
abbrev pub IsNegated : List Word → Type 0
IsNegated [] = ⊥
IsNegated (Digits n ∷ []) = ⊥
IsNegated (Digits n ∷ w ∷ ws) = binding w ≡ 8
IsNegated (Quoted text ∷ ws) = Unit {0}
IsNegated (word.Name name ∷ ws) = Unit {0}
IsNegated (word.Symbol s ∷ ws) = Unit {0}

-- a name is one of some
abbrev pub IsAmong : List (List ℕ) → List ℕ → Type 0
IsAmong [] n = ⊥
IsAmong (m ∷ ms) n = (m ≡ n) ⊎ IsAmong ms n

-- no name stands twice
abbrev pub AllDiffer : List (List ℕ) → Type 0
AllDiffer [] = Unit {0}
AllDiffer (n ∷ ns) = (¬ (IsAmong ns n)) × AllDiffer ns

mutual
  -- words that read as a tree
  pub data Reads : Phrase → List Word → Tree → Type 0 where
    plain : {ws : List Word} {t : Tree} → Reads (operators level.Or) ws t → Reads expression ws t
    condition : {a b d : List Word} {c t u : Tree} → Reads (operators level.Or) a c → Reads expression b t → Reads expression d u → Reads expression (a ++ word.Symbol Question ∷ (b ++ word.Symbol Colon ∷ d)) (Cond c t u)
    -- an operand alone; repeated levels group to the left; a comparison has two operands at most
    operand : {l : Level} {ws : List Word} {t : Tree} → Reads (operand_of l) ws t → Reads (operators l) ws t
    grouped : {l : Level} {a b : List Word} (w : Word) {s t : Tree} {o : BinaryOp} → MayRepeat l → Reads (operators l) a s → operator_at l w ≡ Some o → Reads (operand_of l) b t → Reads (operators l) (a ++ w ∷ b) (Binary o s t)
    compared : {a b : List Word} (w : Word) {s t : Tree} {o : BinaryOp} → Reads (operators level.Sum) a s → operator_at level.Comparison w ≡ Some o → Reads (operators level.Sum) b t → Reads (operators level.Comparison) (a ++ w ∷ b) (Binary o s t)
    -- a `-` directly before digits that stand alone makes one literal with them
    unsigned : {ws : List Word} {t : Tree} → Reads postfix ws t → Reads unary ws t
    negative : {n : ℕ} → n ≤ 2 ^ 63 → Reads unary (word.Symbol Minus ∷ Digits n ∷ []) (Int (neg_ℤ (pos n)))
    negated : {ws : List Word} {t : Tree} → IsNegated ws → Reads unary ws t → Reads unary (word.Symbol Minus ∷ ws) (Negate t)
    denied : {ws : List Word} {t : Tree} → Reads unary ws t → Reads unary (word.Symbol Not ∷ ws) (tree.Not t)
    alone : {ws : List Word} {t : Tree} → Reads primary ws t → Reads postfix ws t
    applied : {a b : List Word} {s t : Tree} → Reads postfix a s → Reads expression b t → Reads postfix (a ++ word.Symbol Open ∷ (b ++ word.Symbol Close ∷ [])) (Apply s t)
    field : {a : List Word} {t : Tree} {n : List ℕ} → Reads postfix a t → Reads postfix (a ++ word.Symbol Dot ∷ word.Name n ∷ []) (Field t n)
    length : {a : List Word} {t : Tree} → Reads postfix a t → Reads postfix (a ++ word.Symbol Dot ∷ word.Name (codes "length") ∷ word.Symbol Open ∷ word.Symbol Close ∷ []) (Length t)
    digits : {n : ℕ} → n < 2 ^ 63 → Reads primary (Digits n ∷ []) (Int (pos n))
    quoted : {text : List ℕ} → Reads primary (Quoted text ∷ []) (Words text)
    truth : Reads primary (word.Symbol True ∷ []) (Bool true)
    falsehood : Reads primary (word.Symbol False ∷ []) (Bool false)
    name : {n : List ℕ} → Reads primary (word.Name n ∷ []) (tree.Name n)
    parentheses : {ws : List Word} {t : Tree} → Reads expression ws t → Reads primary (word.Symbol Open ∷ (ws ++ word.Symbol Close ∷ [])) t
    empty : Reads primary (word.Symbol OpenBrace ∷ word.Symbol CloseBrace ∷ []) (Array no_trees)
    list : {ws : List Word} {ts : Trees} → ReadsParts ws ts → Reads primary (word.Symbol OpenBrace ∷ (ws ++ word.Symbol CloseBrace ∷ [])) (Array ts)
    record_literal : {ws : List Word} {fs : NamedTrees} → ReadsFields ws fs → AllDiffer (map (λ f. f.0) (fields_of fs)) → Reads primary (word.Symbol OpenBrace ∷ (ws ++ word.Symbol CloseBrace ∷ [])) (Record fs)
    absolute : {ws : List Word} {t : Tree} → Reads expression ws t → Reads primary (word.Symbol Abs ∷ word.Symbol Open ∷ (ws ++ word.Symbol Close ∷ [])) (tree.Abs t)
    greater : {a b : List Word} {s t : Tree} → Reads expression a s → Reads expression b t → Reads primary (word.Symbol Max ∷ word.Symbol Open ∷ (a ++ word.Symbol Comma ∷ (b ++ word.Symbol Close ∷ []))) (tree.Max s t)
    lesser : {a b : List Word} {s t : Tree} → Reads expression a s → Reads expression b t → Reads primary (word.Symbol Min ∷ word.Symbol Open ∷ (a ++ word.Symbol Comma ∷ (b ++ word.Symbol Close ∷ []))) (tree.Min s t)

  -- the parts of a list, with commas between them
  pub data ReadsParts : List Word → Trees → Type 0 where
    last_part : {ws : List Word} {t : Tree} → Reads expression ws t → ReadsParts ws (tree_then t no_trees)
    part_then : {a b : List Word} {t : Tree} {ts : Trees} → Reads expression a t → ReadsParts b ts → ReadsParts (a ++ word.Symbol Comma ∷ b) (tree_then t ts)

  -- the fields of a record
  pub data ReadsFields : List Word → NamedTrees → Type 0 where
    last_field : {ws : List Word} {t : Tree} {n : List ℕ} → Reads expression ws t → ReadsFields (word.Name n ∷ word.Symbol Assign ∷ ws) (field_then n t no_fields)
    field_and : {a b : List Word} {t : Tree} {n : List ℕ} {fs : NamedTrees} → Reads expression a t → ReadsFields b fs → ReadsFields (word.Name n ∷ word.Symbol Assign ∷ (a ++ word.Symbol Comma ∷ b)) (field_then n t fs)
