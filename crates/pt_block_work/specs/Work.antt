-- What the children of a net have done in a block, each by the integers that its sources gave.
use Rattle.std.specs.Prelude.{◌≡◌, ◌⊎◌, ℕ, ℤ, zero, suc, ◌+◌, ◌*◌, ◌<◌, List, [], ◌∷◌, length, map, take, drop, get_or, set}
use Rattle.pt_meaning.specs.Streams.{Streams}
use Rattle.pt_meaning.specs.Net.{Source, Own, Output}
use Rattle.pt_meaning.specs.Sdf.{SdfPlan}
use Rattle.pt_meaning.specs.Closed.{Has}
use Rattle.pt_value.specs.declared.token.Token.{Token}
use Rattle.pt_value.specs.declared.token.Token.TheVariants.{Int}
use Rattle.pt_block_laws.specs.Iteration.{first_place}
use Rattle.pt_library.specs.declared.library_actor.LibraryActor.{LibraryActor}
use Rattle.pt_library.specs.LibraryActor.{MakesInTurn, numbers_of}
use Rattle.pt_library.specs.LibraryActor as library

-- where the places of each child begin
pub record AreOffsets (places offsets : List ℕ) : Type 0 where
  pub count : length offsets ≡ length places
  pub each : (i : ℕ) → i < length places → get_or offsets i 0 ≡ first_place places i

-- an entry for each child
pub record IsFor (p : SdfPlan) (actors : List LibraryActor) (given : List (List ℤ)) : Type 0 where
  pub repetitions : length p.repetitions ≡ length p.net.places
  pub rates : length p.rates ≡ length p.net.places
  pub children : length actors ≡ length p.net.places
  pub rows : length given ≡ length p.net.places

abbrev pub AllEmpty : List (List ℤ) → Type 0
AllEmpty given = (i : ℕ) → i < length given → get_or given i [] ≡ []

abbrev pub AllGiven : List (List ℤ) → Type 0
AllGiven given = (i : ℕ) → i < length given → get_or given i [] ≡ [] → ⊥

-- the channel begins at the one output of a child that gave these integers, and some
pub record IsSource (sources : List Source) (given : List (List ℤ)) (channel : ℕ) (numbers : List ℤ) : Type 0 where
  pub child : ℕ
  pub begins : get_or sources channel (Own 0) ≡ Output child 0
  pub row : numbers ≡ get_or given child []
  pub some : numbers ≡ [] → ⊥

-- what a source gave
abbrev pub given_by : List (List ℤ) → Source → List ℤ
given_by given (Own port) = []
given_by given (Output child port) = get_or given child []

-- what firing k of a child takes that has so many places from this one on: of each the next part of what its source gave
abbrev pub taken : List Source → (needs : List ℕ) → (given : List (List ℤ)) → (from places k : ℕ) → Streams Token
taken sources needs given from zero k = []
taken sources needs given from (suc n) k = map Int (numbers_of (get_or needs from 0) (given_by given (get_or sources from (Own 0))) k) ∷ taken sources needs given (suc from) n k

-- a place gets from a child just what so many firings take
pub record IsReady (sources : List Source) (needs : List ℕ) (given : List (List ℤ)) (channel firings : ℕ) : Type 0 where
  pub source : IsSource sources given channel (given_by given (get_or sources channel (Own 0)))
  pub enough : length (given_by given (get_or sources channel (Own 0))) ≡ firings * get_or needs channel 0

-- these are the inputs of so many firings
pub record AreInputs (sources : List Source) (needs : List ℕ) (given : List (List ℤ)) (from places firings : ℕ) (rows : List (Streams Token)) : Type 0 where
  pub count : length rows ≡ firings
  pub ready : (p : ℕ) → p < places → IsReady sources needs given (from + p) firings
  pub each : (k : ℕ) → k < firings → get_or rows k [] ≡ taken sources needs given from places k

-- what firing k of a child gives, by the integers of all its firings
abbrev pub gives : (rate : ℕ) → List ℤ → ℕ → Streams Token
gives rate numbers k = map Int (numbers_of rate numbers k) ∷ []

-- child i, whose places begin there, has made its firings of so many iterations: before it gave nothing, and now it gave a row
pub record HasFired (p : SdfPlan) (needs : List ℕ) (from i iterations : ℕ) (old : LibraryActor) (given : List (List ℤ)) (new : LibraryActor) (after : List (List ℤ)) : Type 0 where
  pub rate : ℕ
  pub row : List ℤ
  pub rates : get_or p.rates i [] ≡ rate ∷ []
  pub before : get_or given i [] ≡ []
  pub after_is : after ≡ set given i row
  pub counted : length row ≡ iterations * get_or p.repetitions i 0 * rate
  pub some : row ≡ [] → ⊥
  pub ready : (q : ℕ) → q < get_or p.net.places i 0 → IsReady p.net.sources needs given (from + q) (iterations * get_or p.repetitions i 0)
  pub made : MakesInTurn library.step (taken p.net.sources needs given from (get_or p.net.places i 0)) (gives rate row) (iterations * get_or p.repetitions i 0) old new

module _ (p : SdfPlan) (needs : List ℕ) (iterations : ℕ) (olds news : List LibraryActor) (given : List (List ℤ)) where
  -- so it is of child i in the end, where those that feed it are among these
  pub record IsDone (done : List ℕ) (i : ℕ) : Type 0 where
    pub there : i < length p.net.places
    pub rate : ℕ
    pub rates : get_or p.rates i [] ≡ rate ∷ []
    pub counted : length (get_or given i []) ≡ iterations * get_or p.repetitions i 0 * rate
    pub some : get_or given i [] ≡ [] → ⊥
    pub fed : (q : ℕ) → q < get_or p.net.places i 0 → (j : ℕ) × (get_or p.net.sources (first_place p.net.places i + q) (Own 0) ≡ Output j 0) × Has j done
    pub enough : (q : ℕ) → q < get_or p.net.places i 0 →
        length (given_by given (get_or p.net.sources (first_place p.net.places i + q) (Own 0))) ≡ iterations * get_or p.repetitions i 0 * get_or needs (first_place p.net.places i + q) 0
    pub made : (d : LibraryActor) → MakesInTurn library.step (taken p.net.sources needs given (first_place p.net.places i) (get_or p.net.places i 0)) (gives rate (get_or given i [])) (iterations * get_or p.repetitions i 0) (get_or olds i d) (get_or news i d)

  -- and of each of a list, the last of which fired first
  abbrev pub AreDone : List ℕ → Type 0
  AreDone [] = Unit {0}
  AreDone (i ∷ done) = IsDone done i × AreDone done

-- All children have made their firings of so many iterations, in an order in which each stands behind those that feed it.
pub record HasWorked (p : SdfPlan) (needs : List ℕ) (iterations : ℕ) (olds news : List LibraryActor) (given : List (List ℤ)) : Type 0 where
  pub done : List ℕ
  pub each : AreDone p needs iterations olds news given done
  pub all : (i : ℕ) → i < length p.net.places → Has i done
