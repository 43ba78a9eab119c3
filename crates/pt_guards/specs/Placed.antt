-- Expressions whose names are places, as the chart keeps them beside the trees of its guards and actions.
use Rattle.std.specs.Prelude.{◌≡◌, ℕ, ℤ, List, [], ◌∷◌, Option, Some}
use Rattle.pt_meaning.specs.Transitions.{input_in, variable_in}
use Rattle.pt_meaning.specs.Transitions.{Scope as Reads}
use Rattle.pt_value.specs.Value as value
use Rattle.pt_value.specs.declared.token.Token.{Token}
use Rattle.pt_value.specs.declared.token.Token.TheVariants as token
use Rattle.pt_language.specs.Tree.{Tree, Negate, Not, Binary, Cond}
use Rattle.pt_language.specs.Outcome.{Gives}
use Rattle.pt_language.specs.Meaning as meaning
use Rattle.pt_guards.specs.declared.placed.Place.{Place}
use Rattle.pt_guards.specs.declared.placed.Place.TheVariants as place
use Rattle.pt_guards.specs.declared.placed.Placed.{Placed}
use Rattle.pt_guards.specs.declared.placed.Placed.TheVariants as code
use Rattle.pt_guards.specs.declared.kept.PlacedTransition.{PlacedTransition}
use Rattle.pt_guards.specs.declared.kept.PlacedMode.{PlacedMode}
use Rattle.pt_chart.specs.Machine.{ActionTree, TransitionTree, ModeTree, NameTable}
use Rattle.pt_datatypes.specs.Datatype.{Datatype}
use Rattle.pt_language.specs.Scope.{Scope}
use Rattle.pt_chart.specs.Names.{of_type, with_names, names_in}

-- the token at a place
abbrev pub at_place : Place → Reads Token → Option Token
at_place (place.Input port) reads = input_in reads port
at_place (place.Variable i) reads = variable_in reads i

-- a name stands for what is read at a place, where that is of a type
abbrev pub StandsAt : NameTable → List ℕ → Datatype → Place → Type 0
StandsAt table name t p = (reads : Reads Token) → names_in table reads name ≡ Some (of_type t (at_place p reads))

-- a name is none of those that are bound one after another
abbrev pub IsUnbound : List (List ℕ × Datatype) → List ℕ → Type 0
IsUnbound es name = (read : ℕ → Option Token) (scope : Scope) → with_names 0 es read scope name ≡ scope name

-- the last of those with a name has this number and this type
abbrev pub IsBoundAt : List (List ℕ × Datatype) → List ℕ → ℕ → Datatype → Type 0
IsBoundAt es name n t = (read : ℕ → Option Token) (scope : Scope) → with_names 0 es read scope name ≡ Some (of_type t (read n))

-- The expression says what a tree comes to, whatever is read. Of a name that is a place it is said only where there is a token of its type.
abbrev pub Says : NameTable → Placed → Tree → Type 0
Says table (code.Int n) tree = (reads : Reads Token) → meaning.value (names_in table reads) tree ≡ Gives (value.Int n)
Says table (code.Bool b) tree = (reads : Reads Token) → meaning.value (names_in table reads) tree ≡ Gives (value.Bool b)
Says table (code.IntAt p) tree = (reads : Reads Token) (n : _) → at_place p reads ≡ Some (token.Int n) → meaning.value (names_in table reads) tree ≡ Gives (value.Int n)
Says table (code.BoolAt p) tree = (reads : Reads Token) (b : _) → at_place p reads ≡ Some (token.Bool b) → meaning.value (names_in table reads) tree ≡ Gives (value.Bool b)
Says table (code.Negate' p e) tree = (t : Tree) × (tree ≡ Negate t) × Says table e t
Says table (code.Not' p e) tree = (t : Tree) × (tree ≡ Not t) × Says table e t
Says table (code.Binary' op p a q b) tree = (s : Tree) × (t : Tree) × (tree ≡ Binary op s t) × Says table a s × Says table b t
Says table (code.Cond' p c q a r b) tree = (u : Tree) × (s : Tree) × (t : Tree) × (tree ≡ Cond u s t) × Says table c u × Says table a s × Says table b t
Says table code.Other tree = Unit {0}

-- two lists of one length, each element of one with that of the other
abbrev pub Each : {P T : Type 0} → (P → T → Type 0) → List P → List T → Type 0
Each R [] [] = Unit {0}
Each R [] (t ∷ ts) = ⊥
Each R (p ∷ ps) [] = ⊥
Each R (p ∷ ps) (t ∷ ts) = R p t × Each R ps ts

-- so of each action
abbrev pub SaysAction : NameTable → Placed → ActionTree → Type 0
SaysAction table p a = Says table p a.tree

abbrev pub SayActions : NameTable → List Placed → List ActionTree → Type 0
SayActions table ps actions = Each (SaysAction table) ps actions

pub record SaysTransition (table : NameTable) (p : PlacedTransition) (t : TransitionTree) : Type 0 where
  pub guard : Says table p.guard t.guard
  pub outputs : SayActions table p.outputs.items t.outputs
  pub sets : SayActions table p.sets.items t.sets

abbrev pub SayTransitions : NameTable → List PlacedTransition → List TransitionTree → Type 0
SayTransitions table ps ts = Each (λ p t. SaysTransition table p t) ps ts

pub record SaysMode (table : NameTable) (p : PlacedMode) (m : ModeTree) : Type 0 where
  pub preemptive : SayTransitions table p.preemptive.items m.preemptive
  pub others : SayTransitions table p.others.items m.others

-- so of each state: an invariant of a chart
abbrev pub SayModes : NameTable → List PlacedMode → List ModeTree → Type 0
SayModes table ps ms = Each (λ p m. SaysMode table p m) ps ms

-- an action gives an integer
abbrev pub IsGiven : Scope → ℤ → ActionTree → Type 0
IsGiven scope n a = meaning.value scope a.tree ≡ Gives (value.Int n)

-- what each of some actions gives
abbrev pub AreGiven : Scope → List ActionTree → List ℤ → Type 0
AreGiven scope actions ns = Each (IsGiven scope) ns actions
