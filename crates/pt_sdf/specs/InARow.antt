-- Firings of one child in a row: it is told what each gave, and asked for again between them.
use Rattle.std.specs.Prelude.{◌≡◌, ℕ, ℤ, zero, suc, ◌*◌, ◌<◌, List, [], ◌∷◌, length, map, take, drop, get_or}
use Rattle.pt_meaning.specs.Streams.{Streams}
use Rattle.pt_value.specs.declared.token.Token.{Token}
use Rattle.pt_value.specs.declared.token.Token.TheVariants.{Int}
use Rattle.pt_firing.specs.declared.ask.Ask.TheVariants as ask
use Rattle.pt_sdf.specs.State.{Open, lent_in, after_told}
use Rattle.pt_sdf.specs.Clauses.{State, IsAsked}

-- Child i was asked for in the state s. It is told of so many firings, which take these inputs and give these outputs, and after each of them it is asked for again: in the end in the state t.
abbrev pub AsksAgain : (i : ℕ) → (inputs outputs : ℕ → Streams Token) → ℕ → State → State → Type 0
AsksAgain i inputs outputs zero s t = t ≡ s
AsksAgain i inputs outputs (suc k) s t = (m : State) × AsksAgain i inputs outputs k s m × (inputs k ≡ lent_in m.stage) × IsAsked (after_told i (outputs k) m) (ask.Fire i m.tag) t

-- so it is, but that after the last of them another may be asked for
abbrev pub TellsInTurn : (i : ℕ) → (inputs outputs : ℕ → Streams Token) → ℕ → State → State → Type 0
TellsInTurn i inputs outputs zero s t = ⊥
TellsInTurn i inputs outputs (suc k) s t = (m : State) × AsksAgain i inputs outputs k s m × (inputs k ≡ lent_in m.stage) × (t ≡ after_told i (outputs k) m) × (t.stage ≡ Open)

-- whatever child i gives in its next firings, if it is asked for again after each of them, these are their inputs
abbrev pub AreAhead : (i : ℕ) → List (Streams Token) → State → Type 0
AreAhead i rows s = (inputs outputs : ℕ → Streams Token) (k : ℕ) (t : State) → k < length rows → AsksAgain i inputs outputs k s t → lent_in t.stage ≡ get_or rows k []

-- the outputs of one of the firings that give so many of some numbers each, in order, on the one port
abbrev pub given_by : (rate : ℕ) → List ℤ → ℕ → Streams Token
given_by rate numbers k = map Int (take rate (drop (k * rate) numbers)) ∷ []
