-- Composites of DE: the net of the wiring, round children of any kind, where each directed loop has a delay (the book, "Discrete-Event Models").
use Rattle.std.specs.Prelude.{◌≡◌, ℕ, zero, suc, ◌<◌, List, [], ◌∷◌, ◌++◌, replicate, Bool, true, false, Option, Some, None}
use Rattle.std.specs.List.{All}
use Rattle.pt_meaning.specs.Net.{Source, Own, Output}
use Rattle.pt_meaning.specs.Streams.{get}
use Rattle.pt_meaning.specs.Tree as tree
use Rattle.pt_value.specs.declared.token.Token.{Token}
use Rattle.pt_core.specs.declared.either.Either.TheVariants.{First, Other}
use Rattle.pt_document.specs.declared.code.Code.{Code}
use Rattle.pt_document.specs.declared.code.Code.TheVariants.{ZeroDelayLoop}
use Rattle.pt_de_plan.specs.Depths.{AreDepthsIn}
use Rattle.pt_de_plan.specs.Feeds.{IsZeroDelayLoop}
use Rattle.pt_library.specs.LibraryActor as library
use Rattle.pt_node.specs.declared.body.Body.{Body}
use Rattle.pt_node.specs.declared.body.Body.TheVariants.{Actor, Composite}
use Rattle.pt_node.specs.View.{Tree}
use Rattle.pt_trees.specs.Around.{Around}
use Rattle.pt_trees.specs.Composing.{Composing}
use Rattle.pt_trees.specs.Sr.{tick_plan, IsWired}

-- ---- delays

-- Whether a place of a child is a delay. Of a library actor its library says it; no place of a composite is one, whatever is within.
abbrev pub is_delay : Tree → ℕ → Bool
is_delay (tree.Actor h a b) place = library.is_delay b place
is_delay (tree.Composite h c d kids) place = false

-- Whether a child answers early, once all its places but its delays are known: so do the library actors that take their lists whole, which are those that have delays.
abbrev pub answers_early : Tree → Bool
answers_early (tree.Actor h a b) = library.whole b
answers_early (tree.Composite h c d kids) = false

-- of so many places of a child, from one on, which are delays
abbrev pub delays_from : Tree → (from count : ℕ) → List Bool
delays_from kid from zero = []
delays_from kid from (suc n) = is_delay kid from ∷ delays_from kid (suc from) n

-- of the places of children, one after another
abbrev pub delays_of : List Tree → List ℕ → List Bool
delays_of [] places = []
delays_of (kid ∷ kids) [] = []
delays_of (kid ∷ kids) (n ∷ places) = delays_from kid 0 n ++ delays_of kids places

-- Of each channel of a composite, whether it ends at a delay. Channels are numbered by the places where they end, and an own output is no delay.
abbrev pub delayed_in : Around → List Tree → List Bool
delayed_in around kids = delays_of kids around.places ++ replicate around.outputs false

-- ---- the wiring

-- a port is one of so many outputs, of a child that answers early
abbrev pub IsOutputIf : (early : Bool) → (port outputs : ℕ) → Type 0
IsOutputIf true port outputs = port < outputs
IsOutputIf false port outputs = Unit {0}

abbrev pub HasOutput : Tree → ℕ → Type 0
HasOutput (tree.Actor h a b) port = IsOutputIf (library.whole b) port (library.outputs b)
HasOutput (tree.Composite h c d kids) port = Unit {0}

abbrev pub HasOutputIf : Option Tree → ℕ → Type 0
HasOutputIf None port = Unit {0}
HasOutputIf (Some kid) port = HasOutput kid port

-- A channel that begins at a child that answers early begins at an output that this child has: of no other port it tells anything early.
abbrev pub BeginsAtOutput : List Tree → Source → Type 0
BeginsAtOutput kids (Own port) = Unit {0}
BeginsAtOutput kids (Output child port) = HasOutputIf (get kids child) port

-- the wiring is one of a DE composite round these children: as under SR, and what answers early has the outputs where channels begin
pub record IsDeWired (around : Around) (kids : List Tree) : Type 0 where
  pub wired : IsWired around kids
  pub begin : All (BeginsAtOutput kids) around.sources

-- whether it is one
abbrev pub IsDeWiredIf : Around → List Tree → Bool → Type 0
IsDeWiredIf around kids true = IsDeWired around kids
IsDeWiredIf around kids false = IsDeWired around kids → ⊥

-- ---- the core

-- a directed loop without a delay: each of these children feeds the next at the same tag, and the last the first
abbrev pub IsLoopIn : Around → List Tree → List ℕ → Type 0
IsLoopIn around kids children = IsZeroDelayLoop (tick_plan around) (delayed_in around kids) children

-- the core of DE: its net is that of the wiring, and each directed loop of it has a delay
pub record IsDeCore (around : Around) (kids : List Tree) (core : tree.Core Token) : Type 0 where
  pub wired : IsDeWired around kids
  pub delayed : (children : List ℕ) → IsLoopIn around kids children → ⊥
  pub is : core ≡ tree.De (tick_plan around)

-- what the director of a composite with this wiring round these children plans as depths: under DE those of the children
abbrev pub PlansDepths : Around → List Tree → Body → Type 0
PlansDepths around kids (Actor held) = Unit {0}
PlansDepths around kids (Composite (First sdf)) = Unit {0}
PlansDepths around kids (Composite (Other (First sr))) = Unit {0}
PlansDepths around kids (Composite (Other (Other (First core)))) = AreDepthsIn (tick_plan around) (delayed_in around kids) core.roles.depths
PlansDepths around kids (Composite (Other (Other (Other other)))) = Unit {0}

-- it is refused where some directed loop has none
pub record IsDeRefused (around : Around) (kids : List Tree) (code : Code) : Type 0 where
  pub wired : IsDeWired around kids
  pub children : List ℕ
  pub loop : IsLoopIn around kids children
  pub is : code ≡ ZeroDelayLoop

abbrev pub de : Composing
de = record { IsCore = IsDeCore; IsMisfit = λ around kids. IsDeWired around kids → ⊥; IsRefused = IsDeRefused; maximum = λ around. 0; meetings = None }
