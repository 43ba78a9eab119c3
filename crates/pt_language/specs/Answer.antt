-- The answer of the program on a tree: what comes first from left to right, a type, a name that isn't bound, or a clash.
use Rattle.std.specs.Prelude.{ℕ, List, [], ◌∷◌, Option, Some, None}
use Rattle.pt_datatypes.specs.Datatype.{Datatype, Unknown, Int, Boolean, Words}
use Rattle.pt_datatypes.specs.Normal.{array_of}
use Rattle.pt_datatypes.specs.Join.{join}
use Rattle.pt_language.specs.Tree as tree
use Rattle.pt_language.specs.Tree.{Tree, Trees, no_trees, tree_then, NamedTrees}
use Rattle.pt_language.specs.declared.type_fault.TypeFault.{TypeFault}
use Rattle.pt_language.specs.declared.type_fault.TypeFault.TheVariants as fault
use Rattle.pt_language.specs.Typing.{Typing, Has, Clash}
use Rattle.pt_language.specs.Types.{Types, type_under}
use Rattle.pt_language.specs.TreeType.{number, truth, operated, calculated, chosen, applied, field, length_of, recorded}

pub data Answer (A : Type 0) : Type 0 where
  Gives : (type_of : A) → Answer A
  Stops : (fault : TypeFault) → Answer A

-- goes on with the type, where there is one
abbrev pub and_then : {A B : Type 0} → Answer A → (A → Answer B) → Answer B
and_then (Gives t) go = go t
and_then (Stops fault) go = Stops fault

-- what an operator makes of its operands
abbrev pub judged : {A : Type 0} → Typing A → Answer A
judged (Has t) = Gives t
judged Clash = Stops fault.Clash

abbrev pub looked_up : Option Datatype → Answer Datatype
looked_up (Some t) = Gives t
looked_up None = Stops fault.Name

abbrev mutual
  pub answer : Types → Tree → Answer Datatype
  answer types (tree.Int n) = Gives Int
  answer types (tree.Bool b) = Gives Boolean
  answer types (tree.Words xs) = Gives Words
  answer types (tree.Name name) = looked_up (type_under types name)
  answer types (tree.Array ts) = and_then (parts_answer types ts) (λ t. Gives (array_of t))
  answer types (tree.Record fs) = and_then (named_answer types fs) (λ ps. judged (recorded ps))
  answer types (tree.Negate t) = and_then (answer types t) (λ a. judged (number a))
  answer types (tree.Not t) = and_then (answer types t) (λ a. judged (truth a))
  answer types (tree.Binary o s t) = and_then (answer types s) (λ a. and_then (answer types t) (λ b. judged (operated o a b)))
  answer types (tree.Cond s t u) = and_then (answer types s) (λ a. and_then (answer types t) (λ b. and_then (answer types u) (λ c. judged (chosen a b c))))
  answer types (tree.Abs t) = and_then (answer types t) (λ a. judged (number a))
  answer types (tree.Max s t) = and_then (answer types s) (λ a. and_then (answer types t) (λ b. judged (calculated a b)))
  answer types (tree.Min s t) = and_then (answer types s) (λ a. and_then (answer types t) (λ b. judged (calculated a b)))
  answer types (tree.Apply s t) = and_then (answer types s) (λ a. and_then (answer types t) (λ b. judged (applied a b)))
  answer types (tree.Field t name) = and_then (answer types t) (λ a. judged (field name a))
  answer types (tree.Length t) = and_then (answer types t) (λ a. judged (length_of a))

  pub parts_answer : Types → Trees → Answer Datatype
  parts_answer types no_trees = Gives Unknown
  parts_answer types (tree_then t ts) = and_then (answer types t) (λ a. and_then (parts_answer types ts) (λ b. Gives (join a b)))

  pub named_answer : Types → NamedTrees → Answer (List (List ℕ × Datatype))
  named_answer types tree.no_fields = Gives []
  named_answer types (tree.field_then n t fs) = and_then (answer types t) (λ a. and_then (named_answer types fs) (λ ps. Gives ((n, a) ∷ ps)))
