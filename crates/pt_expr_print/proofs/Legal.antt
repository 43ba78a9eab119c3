-- Trees that some text reads as.
use Rattle.std.proofs.Common.{◌≡◌, ℕ, zero, suc, ◌<◌, ◌≤◌, ◌^◌, ℤ, pos, negsuc, neg_ℤ, List, [], ◌∷◌, ◌++◌, length, map, true, Some, arith}
use Rattle.std.specs.List.{prefix_len}
use Rattle.pt_language.specs.Tree as tree
use Rattle.pt_language.specs.Tree.{Tree, Int, Words, Array, Record, Negate, Binary, Cond, Apply, Field, Length, Trees, no_trees, tree_then, NamedTrees, no_fields, field_then, fields_of}
use Rattle.pt_language.specs.declared.word.Word.{Word}
use Rattle.pt_language.specs.declared.word.Word.TheVariants.{Digits, Quoted, Name}
use Rattle.pt_language.specs.declared.word.Word.TheVariants as word
use Rattle.pt_language.specs.Words.{continues_name, begins_name, name_of}
use Rattle.pt_language.specs.Grammar.{Phrase, Reads, ReadsParts, ReadsFields, AllDiffer}
use Rattle.pt_language.specs.Grammar as g

-- letters, digits and underscores that make this word
abbrev pub Begins : List ℕ → Type 0
Begins [] = ⊥
Begins (c ∷ cs) = begins_name c ≡ true

pub record IsSpelled (name : List ℕ) (w : Word) : Type 0 where
  pub begins : Begins name
  pub runs : prefix_len continues_name name ≡ length name
  pub is : name_of name ≡ Some w

-- a name that a word can be
abbrev pub IsNameWord : List ℕ → Type 0
IsNameWord name = IsSpelled name (Name name)

-- an integer literal
abbrev pub IsLiteral : ℤ → Type 0
IsLiteral (pos n) = n < 2 ^ 63
IsLiteral (negsuc n) = suc n ≤ 2 ^ 63

abbrev pub HasField : NamedTrees → Type 0
HasField no_fields = ⊥
HasField (field_then name t fs) = Unit {0}

-- integers are literals, names are words, and a record has some fields, whose names differ
abbrev mutual
  pub IsLegal : Tree → Type 0
  IsLegal (Int n) = IsLiteral n
  IsLegal (tree.Bool b) = Unit {0}
  IsLegal (Words text) = Unit {0}
  IsLegal (tree.Name name) = IsNameWord name
  IsLegal (Array ts) = AreLegal ts
  IsLegal (Record fs) = HasField fs × AllDiffer (map (λ f. f.0) (fields_of fs)) × HaveLegal fs
  IsLegal (Negate t) = IsLegal t
  IsLegal (tree.Not t) = IsLegal t
  IsLegal (Binary o s t) = IsLegal s × IsLegal t
  IsLegal (Cond s t u) = IsLegal s × IsLegal t × IsLegal u
  IsLegal (tree.Abs t) = IsLegal t
  IsLegal (tree.Max s t) = IsLegal s × IsLegal t
  IsLegal (tree.Min s t) = IsLegal s × IsLegal t
  IsLegal (Apply s t) = IsLegal s × IsLegal t
  IsLegal (Field t name) = IsLegal t × IsNameWord name
  IsLegal (Length t) = IsLegal t

  pub AreLegal : Trees → Type 0
  AreLegal no_trees = Unit {0}
  AreLegal (tree_then t ts) = IsLegal t × AreLegal ts

  pub HaveLegal : NamedTrees → Type 0
  HaveLegal no_fields = Unit {0}
  HaveLegal (field_then name t fs) = (IsNameWord name × IsLegal t) × HaveLegal fs

-- a word that a text can have
abbrev pub IsWord : Word → Type 0
IsWord (Digits n) = Unit {0}
IsWord (Quoted text) = Unit {0}
IsWord (Name name) = IsNameWord name
IsWord (word.Symbol s) = Unit {0}

abbrev pub AreWords : List Word → Type 0
AreWords [] = Unit {0}
AreWords (w ∷ ws) = IsWord w × AreWords ws

front : (a b : List Word) → AreWords (a ++ b) → AreWords a
front [] b h = tt
front (w ∷ a) b h = (h.0, front a b h.1)

back : (a b : List Word) → AreWords (a ++ b) → AreWords b
back [] b h = h
back (w ∷ a) b h = back a b h.1

negative_literal : (n : ℕ) → n ≤ 2 ^ 63 → IsLiteral (neg_ℤ (pos n))
negative_literal zero h = omega arith
negative_literal (suc n) h = h

some_field : {ws : List Word} {fs : NamedTrees} → ReadsFields ws fs → HasField fs
some_field (g.last_field r) = tt
some_field (g.field_and r q) = tt

-- what such words read as is legal
mutual
  pub legal : {p : Phrase} {ws : List Word} {t : Tree} → Reads p ws t → AreWords ws → IsLegal t
  legal (g.plain r) h = legal r h
  legal (g.condition {a = a} {b = b} {d = d} r s q) h =
      let k = back a _ h in
      (legal r (front a _ h), legal s (front b _ k.1), legal q (back b _ k.1).1)
  legal (g.operand r) h = legal r h
  legal (g.grouped {a = a} {b = b} w m r e q) h = (legal r (front a _ h), legal q (back a _ h).1)
  legal (g.compared {a = a} {b = b} w r e q) h = (legal r (front a _ h), legal q (back a _ h).1)
  legal (g.unsigned r) h = legal r h
  legal (g.negative {n = n} l) h = negative_literal n l
  legal (g.negated m r) h = legal r h.1
  legal (g.denied r) h = legal r h.1
  legal (g.alone r) h = legal r h
  legal (g.applied {a = a} {b = b} r q) h = (legal r (front a _ h), legal q (front b _ (back a _ h).1))
  legal (g.field {a = a} r) h = (legal r (front a _ h), (back a _ h).1.0)
  legal (g.length {a = a} r) h = legal r (front a _ h)
  legal (g.digits l) h = l
  legal g.quoted h = tt
  legal g.truth h = tt
  legal g.falsehood h = tt
  legal g.name h = h.0
  legal (g.parentheses {ws = ws} r) h = legal r (front ws _ h.1)
  legal g.empty h = tt
  legal (g.list {ws = ws} r) h = legal_parts r (front ws _ h.1)
  legal (g.record_literal {ws = ws} r a) h = (some_field r, a, legal_fields r (front ws _ h.1))
  legal (g.absolute {ws = ws} r) h = legal r (front ws _ h.1.1)
  legal (g.greater {a = a} {b = b} r q) h = (legal r (front a _ h.1.1), legal q (front b _ (back a _ h.1.1).1))
  legal (g.lesser {a = a} {b = b} r q) h = (legal r (front a _ h.1.1), legal q (front b _ (back a _ h.1.1).1))

  legal_parts : {ws : List Word} {ts : Trees} → ReadsParts ws ts → AreWords ws → AreLegal ts
  legal_parts (g.last_part r) h = (legal r h, tt)
  legal_parts (g.part_then {a = a} r q) h = (legal r (front a _ h), legal_parts q (back a _ h).1)

  legal_fields : {ws : List Word} {fs : NamedTrees} → ReadsFields ws fs → AreWords ws → HaveLegal fs
  legal_fields (g.last_field r) h = ((h.0, legal r h.1.1), tt)
  legal_fields (g.field_and {a = a} r q) h = ((h.0, legal r (front a _ h.1.1)), legal_fields q (back a _ h.1.1).1)
