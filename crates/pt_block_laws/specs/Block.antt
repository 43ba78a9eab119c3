-- A block: several iterations of a net whose channels hold nothing between them. Each child makes its firings of all iterations on what it gets in all of them.
use Rattle.std.specs.Prelude.{◌≡◌, ℕ, suc, ◌+◌, ◌*◌, ◌<◌, List, [], ◌∷◌, length, take, drop, get_or, map}
use Rattle.pt_meaning.specs.Tag.{Tag}
use Rattle.pt_meaning.specs.Streams.{Streams, at}
use Rattle.pt_meaning.specs.Machine.{Stepping, Facts}
use Rattle.pt_meaning.specs.Net.{Source, Own, Output, Net}
use Rattle.pt_meaning.specs.Running.{total}
use Rattle.pt_meaning.specs.Closed.{Has}
use Rattle.pt_block_laws.specs.Firings.{Firings, later, AreMade}
use Rattle.pt_block_laws.specs.Iteration.{first_place, IsInOrder, given_on, IsIteration}

-- of a row of tokens those with which firing k has to do, where each firing has to do with n
abbrev pub part : {T : Type 0} → (n k : ℕ) → List T → List T
part n k xs = take n (drop (k * n) xs)

-- the channel begins at a child of the list
abbrev pub IsInner : List ℕ → Source → Type 0
IsInner order (Own port) = ⊥
IsInner order (Output j port) = Has j order

-- how many tokens a firing of the source gives on a channel
abbrev pub rate_of : List (List ℕ) → Source → ℕ
rate_of rates (Own port) = 0
rate_of rates (Output j port) = get_or (get_or rates j []) port 0

-- What the children of a net take and give in the firings of m iterations. Each channel ends at a place of a child and has a row, of which each firing of its source gives the next part, and each firing of the child takes the next part; in an iteration they give as many as they take.
-- The children of the list are in order, and each channel begins at one of them.
pub record IsPassed {T : Type 0} (m : ℕ) (net : Net) (qs : List ℕ) (rates : List (List ℕ)) (needs : ℕ → List ℕ) (takes gives : (child firing : ℕ) → Streams T) (row : ℕ → List T) (order : List ℕ) : Type 0 where
  pub repetitions : length qs ≡ length net.places
  pub rated : length rates ≡ length net.places
  pub placed : length net.sources ≡ total net.places
  pub wide : (i : ℕ) → i < length net.places → length (needs i) ≡ get_or net.places i 0
  pub taken : (i p k : ℕ) → i < length net.places → p < get_or net.places i 0 → k < m * get_or qs i 0 → at (takes i k) p ≡ part (get_or (needs i) p 0) k (row (first_place net.places i + p))
  pub given : (i p j port k : ℕ) → i < length net.places → p < get_or net.places i 0 → get_or net.sources (first_place net.places i + p) (Own 0) ≡ Output j port → k < m * get_or qs j 0 → at (gives j k) port ≡ part (rate_of rates (Output j port)) k (row (first_place net.places i + p))
  pub balanced : (i p j port : ℕ) → i < length net.places → p < get_or net.places i 0 → get_or net.sources (first_place net.places i + p) (Own 0) ≡ Output j port → get_or qs i 0 * get_or (needs i) p 0 ≡ get_or qs j 0 * rate_of rates (Output j port)
  pub ordered : IsInOrder net order
  pub inner : (i p : ℕ) → i < length net.places → p < get_or net.places i 0 → IsInner order (get_or net.sources (first_place net.places i + p) (Own 0))

-- The children make these firings, and pass tokens on so.
pub record IsBlock {T S : Type 0} (facts : Facts T S) (step : Stepping T S) (tag : Tag) (m : ℕ) (net : Net) (qs : List ℕ) (rates : List (List ℕ)) (needs : ℕ → List ℕ) (does : ℕ → Firings T S) (row : ℕ → List T) (order : List ℕ) : Type 0 where
  pub make : (i : ℕ) → i < length net.places → AreMade facts step tag (needs i) (get_or rates i []) (m * get_or qs i 0) (does i)
  pub passed : IsPassed m net qs rates needs (λ i. (does i).takes) (λ i. (does i).gives) row order

-- nothing on each channel
abbrev pub empty : {A T : Type 0} → List A → Streams T
empty xs = map (λ x. []) xs

module _ {T S : Type 0} where
  -- what the children do from iteration t on
  abbrev pub from_iteration : ℕ → List ℕ → (ℕ → Firings T S) → ℕ → Firings T S
  from_iteration t qs does i = later (t * get_or qs i 0) (does i)

  -- their states before it
  abbrev pub states_at : ℕ → List ℕ → (ℕ → Firings T S) → List S
  states_at t [] does = []
  states_at t (q ∷ qs) does = (does 0).state (t * q) ∷ states_at t qs (λ i. does (suc i))

  -- what the channels get in it
  abbrev pub sent_in : ℕ → List ℕ → (ℕ → Firings T S) → List Source → Streams T
  sent_in t qs does cs = map (λ c. given_on 1 qs (from_iteration t qs does) c) cs

-- Each of the m iterations is a firing of the net, from the states in which the one before it leaves the children, and leaves nothing on the channels.
abbrev pub BlockIsIterations : Type 0 → Type 0 → Type 0
BlockIsIterations T S = (facts : Facts T S) (step : Stepping T S) (tag : Tag) (m : ℕ) (net : Net) (qs : List ℕ) (rates : List (List ℕ)) (needs : ℕ → List ℕ) (does : ℕ → Firings T S) (row : ℕ → List T) (order : List ℕ) →
    IsBlock facts step tag m net qs rates needs does row order → (t : ℕ) → t < m →
    IsIteration facts step tag 1 net qs rates (states_at t qs does) (empty net.sources) (sent_in t qs does net.sources) needs (from_iteration t qs does) (λ i. empty (needs i)) order
