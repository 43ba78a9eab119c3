-- Firings that give numbers, and nothing else.
use Rattle.std.specs.Prelude.{◌≡◌, ℕ, zero, suc, ◌*◌, ◌≤◌, ℤ, List, [], ◌∷◌, length, map, take, drop, get_or, Bool, true, false, Option, Some, None}
use Rattle.pt_meaning.specs.Basics.{Tag, Streams}
use Rattle.pt_meaning.specs.Node.{Answer, Gives}
use Rattle.pt_value.specs.declared.token.Token.{Token}
use Rattle.pt_value.specs.declared.token.Token.TheVariants as token
use Rattle.pt_firing.specs.Row.{gives}

-- A firing was made, whatever its tag, and gave that number as the one token on the one port. Where no number is told none was made.
abbrev pub GivesNumber : {A : Type 0} → (Tag → A → Streams Token → Answer Token A) → A → Streams Token → Option ℤ → A → Type 0
GivesNumber step old X (Some n) new = (tag : Tag) → step tag old X ≡ gives new (token.Int n)
GivesNumber step old X None new = new ≡ old

-- A firing was made, whatever its tag, and gave just those numbers, in order, on the one port. Where that isn't told none was made.
abbrev pub GivesNumbers : {A : Type 0} → (Tag → A → Streams Token → Answer Token A) → A → Streams Token → Bool → List ℤ → A → Type 0
GivesNumbers step old X true numbers new = (tag : Tag) → step tag old X ≡ Gives new (map token.Int numbers ∷ [])
GivesNumbers step old X false numbers new = new ≡ old

-- So many firings were made one after another, whatever their tags: each by its number, on its inputs and with its outputs.
abbrev pub MakesInTurn : {A : Type 0} → (Tag → A → Streams Token → Answer Token A) → (inputs outputs : ℕ → Streams Token) → ℕ → A → A → Type 0
MakesInTurn {A} step inputs outputs zero old new = new ≡ old
MakesInTurn {A} step inputs outputs (suc k) old new = (mid : A) × MakesInTurn step inputs outputs k old mid × ((tag : Tag) → step tag mid (inputs k) ≡ Gives new (outputs k))

-- the numbers of one of these firings, where each gives so many
abbrev pub numbers_of : (rate : ℕ) → List ℤ → ℕ → List ℤ
numbers_of rate numbers k = take rate (drop (k * rate) numbers)

-- So many firings were made, one after another and whatever their tags: each took the next of these inputs, and gave just the next `rate` of these numbers, in order, on the one port.
pub record GivesStretch {A : Type 0} (step : Tag → A → Streams Token → Answer Token A) (old : A) (inputs : List (Streams Token)) (rate firings : ℕ) (numbers : List ℤ) (new : A) : Type 0 where
  pub few : firings ≤ length inputs
  pub counted : length numbers ≡ firings * rate
  pub made : MakesInTurn step (λ k. get_or inputs k []) (λ k. map token.Int (numbers_of rate numbers k) ∷ []) firings old new
