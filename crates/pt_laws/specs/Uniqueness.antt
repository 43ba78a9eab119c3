-- There is one least solution: of a tick's valuations, and of a network's rounds.
use Rattle.std.specs.Prelude.{◌≡◌, ℕ, ◌≤◌, List, true, length}
use Rattle.pt_meaning.specs.Basics.{Tag, Streams, Below}
use Rattle.pt_meaning.specs.Machine.{Stepping, Facts, Partial}
use Rattle.pt_meaning.specs.Rounds.{Net, Limit, round}
use Rattle.pt_meaning.specs.Dataflow as dataflow
use Rattle.pt_meaning.specs.Tick.{Activity, Earliness, react_all, valuation, is_least}
use Rattle.pt_meaning.specs.Laws.{KnownBelow, KeepsEarly}
use Rattle.pt_laws.specs.Promises.{IsSolution}

-- the least valuation in which each channel has its producer's reaction
pub record IsLeastValuation {T S : Type 0} (early : Earliness T S) (active : Activity T S) (turn : Stepping T S) (tag : Tag) (net : Net) (kids : List S) (inputs : Streams T) (W : List (Partial T)) : Type 0 where
  pub fixed : react_all early active turn tag net kids inputs W ≡ W
  pub least : (V : List (Partial T)) → react_all early active turn tag net kids inputs V ≡ V → KnownBelow W V

-- two of them are the same
abbrev pub LeastIsOne : Type 0 → Type 0 → Type 0
LeastIsOne T S = (early : Earliness T S) (active : Activity T S) (turn : Stepping T S) (tag : Tag) (net : Net) (kids : List S) (inputs : Streams T) (V W : List (Partial T)) →
    IsLeastValuation early active turn tag net kids inputs V → IsLeastValuation early active turn tag net kids inputs W → V ≡ W

-- after as many rounds as there are channels no more becomes known
abbrev pub ValuationsSettle : Type 0 → Type 0 → Type 0
ValuationsSettle T S = (early : Earliness T S) (active : Activity T S) (turn : Stepping T S) (tag : Tag) → KeepsEarly early active turn → (net : Net) (kids : List S) (inputs : Streams T) (k : ℕ) → length net.sources ≤ k →
    is_least early active turn tag net kids inputs k ≡ true

-- what is known where no more becomes known is the least valuation, and each least valuation is that one
abbrev pub SettledIsLeast : Type 0 → Type 0 → Type 0
SettledIsLeast T S = (early : Earliness T S) (active : Activity T S) (turn : Stepping T S) (tag : Tag) → KeepsEarly early active turn → (net : Net) (kids : List S) (inputs : Streams T) (k : ℕ) →
    is_least early active turn tag net kids inputs k ≡ true → IsLeastValuation early active turn tag net kids inputs (valuation early active turn tag net kids inputs k)

abbrev pub LeastIsSettled : Type 0 → Type 0 → Type 0
LeastIsSettled T S = (early : Earliness T S) (active : Activity T S) (turn : Stepping T S) (tag : Tag) → KeepsEarly early active turn → (net : Net) (kids : List S) (inputs : Streams T) (W : List (Partial T)) →
    IsLeastValuation early active turn tag net kids inputs W → (k : ℕ) → is_least early active turn tag net kids inputs k ≡ true → W ≡ valuation early active turn tag net kids inputs k

-- the least streams that hold what the channels begin with, and what any number of firings on them gives
pub record IsLeastSolution {T S : Type 0} (facts : Facts T S) (step : Stepping T S) (tag : Tag) (net : Net) (limits : List Limit) (kids : List S) (X W : Streams T) : Type 0 where
  pub solution : IsSolution facts step tag net limits kids X W
  pub least : (V : Streams T) → IsSolution facts step tag net limits kids X V → Below W V

abbrev pub LeastSolutionIsOne : Type 0 → Type 0 → Type 0
LeastSolutionIsOne T S = (facts : Facts T S) (step : Stepping T S) (tag : Tag) (net : Net) (limits : List Limit) (kids : List S) (X V W : Streams T) →
    IsLeastSolution facts step tag net limits kids X V → IsLeastSolution facts step tag net limits kids X W → V ≡ W

-- a settled round is the least solution
abbrev pub SettledIsLeastSolution : Type 0 → Type 0 → Type 0
SettledIsLeastSolution T S = (facts : Facts T S) (step : Stepping T S) (tag : Tag) (net : Net) (limits : List Limit) (kids : List S) (X : Streams T) (k : ℕ) → dataflow.settled facts step tag net limits kids X k ≡ true →
    IsLeastSolution facts step tag net limits kids X (round facts step tag net limits kids X k)
