-- The laws of the library: what stays the same from firing to firing, and how many tokens an actor needs and gives.
use Rattle.std.specs.Prelude.{◌≡◌, ℕ, ◌≤◌, ◌⊎◌, List, length, true, Some, slice_get}
use Rattle.std.specs.List.{AllByRecursion}
use Rattle.pt_meaning.specs.Basics.{Tag, Streams, at}
use Rattle.pt_meaning.specs.Node.{Gives}
use Rattle.pt_value.specs.declared.token.Token.{Token}
use Rattle.pt_lib_data.specs.declared.data_actor.DataActor.{DataActor}
use Rattle.pt_lib_data.specs.DataActor.{need, rates, is_steady, step, start}

-- after a firing a steady actor needs what it needed, and is steady
abbrev pub SteadyActorsStay : Type 0
SteadyActorsStay = (tag : Tag) (a b : DataActor) (X out : Streams Token) → is_steady a ≡ true → step tag a X ≡ Gives b out → (need b ≡ need a) × (is_steady b ≡ true)

-- from 1 to 1,000,000 tokens
abbrev pub IsRate : ℕ → Type 0
IsRate n = (1 ≤ n) × (n ≤ 1000000)

-- the rates of an actor that is started are from 1 to 1,000,000
abbrev pub RatesAreBounded : Type 0
RatesAreBounded = (class : List ℕ) (values : List (List ℕ × Token)) (ports : List (List ℕ × ℕ)) (a : DataActor) → start class values ports ≡ Some a → AllByRecursion IsRate (rates a)

-- it needs from 1 to 1,000,000 tokens at each of its places
abbrev pub NeedsAreBounded : Type 0
NeedsAreBounded = (class : List ℕ) (values : List (List ℕ × Token)) (ports : List (List ℕ × ℕ)) (a : DataActor) → start class values ports ≡ Some a → AllByRecursion IsRate a.needed

-- on each output nothing is given, or as many tokens as its rate
abbrev pub AreGiven : List ℕ → Streams Token → Type 0
AreGiven rates out = (port rate : ℕ) → slice_get rates port ≡ Some rate → (length (at out port) ≡ 0) ⊎ (length (at out port) ≡ rate)

-- a firing gives on each output as many tokens as its rate, or none: where an input is absent or of another type, or a record has no such field
abbrev pub RatesAreGiven : Type 0
RatesAreGiven = (tag : Tag) (a b : DataActor) (X out : Streams Token) → step tag a X ≡ Gives b out → AreGiven (rates a) out
