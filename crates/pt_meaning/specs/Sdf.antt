-- SDF: each firing runs as many iterations as the tokens allow, and in an iteration each child fires as often as its repetition says (Lee & Messerschmitt 1987; the book, "Dataflow").
use Rattle.std.specs.Prelude.{ℕ, zero, suc, ◌*◌, ◌/◌, min, List, [], ◌∷◌, ◌++◌, Bool, true, false, ◌&&◌, nat_eq, length, drop, Option, Some, None, map}
use Rattle.pt_meaning.specs.Streams.{Streams}
use Rattle.pt_meaning.specs.Machine.{Stepping, Facts}
use Rattle.pt_meaning.specs.Flow.{Flow}
use Rattle.pt_meaning.specs.Net.{Source, Own, Output, Net, Inside}
use Rattle.pt_meaning.specs.Rounds.{Limit}
use Rattle.pt_meaning.specs.Kahn.{Leaving, skip_places, arrived, kahn}

-- The channels, and the repetition of each child in an iteration, by the balance equations. Behind the channels to the own outputs each own input that feeds nothing has a channel of its own, which ends nowhere: its tokens bound the iterations and are kept like those of any other.
pub record SdfPlan : Type 0 where
  pub net : Net
  pub repetitions : List ℕ
  -- what each own input takes in an iteration, what each own output gives, and what each output of each child gives in a firing
  pub takes : List ℕ
  pub gives : List ℕ
  pub rates : List (List ℕ)

-- the number for an own input
abbrev pub number_at : List ℕ → ℕ → ℕ
number_at [] n = 1
number_at (x ∷ xs) zero = x
number_at (x ∷ xs) (suc n) = number_at xs n

-- how many iterations a channel allows
abbrev pub allows : {T : Type 0} → List ℕ → Source → List T → Option ℕ → Option ℕ
allows takes (Own port) xs None = Some (length xs / number_at takes port)
allows takes (Own port) xs (Some m) = Some (min (length xs / number_at takes port) m)
allows takes (Output child port) xs m = m

-- how many iterations the channels from own inputs allow, if there are any
abbrev pub all_allow : {T : Type 0} → List ℕ → List Source → Streams T → Option ℕ
all_allow takes [] X = None
all_allow takes (c ∷ cs) [] = None
all_allow takes (c ∷ cs) (xs ∷ X) = allows takes c xs (all_allow takes cs X)

-- one, where no own input says how many
abbrev pub or_one : Option ℕ → ℕ
or_one None = 1
or_one (Some m) = m

-- the greatest number of iterations that the own inputs allow, and one where there is none
abbrev pub iterations : {T : Type 0} → SdfPlan → Streams T → ℕ
iterations p X = or_one (all_allow p.takes p.net.sources X)

-- in m iterations each child fires m times its repetition, and gives its rates in each firing
abbrev pub sdf_limits : ℕ → List ℕ → List (List ℕ) → List Limit
sdf_limits m [] rs = []
sdf_limits m (q ∷ qs) [] = []
sdf_limits m (q ∷ qs) (r ∷ rs) = record { firings = Some (m * q); rates = Some r } ∷ sdf_limits m qs rs

-- each child fired as often as its bound says
abbrev pub fired_all : {T S : Type 0} → ℕ → List ℕ → List (Flow T S) → Bool
fired_all m [] fs = true
fired_all m (q ∷ qs) [] = false
fired_all m (q ∷ qs) (f ∷ fs) = nat_eq f.fired (m * q) && fired_all m qs fs

-- in m iterations, m times each number
abbrev pub times : ℕ → List ℕ → List ℕ
times m ns = map (λ n. m * n) ns

-- how many tokens leave a channel that ends nowhere in an iteration: what the own input takes at which it begins
abbrev pub taken_from : List ℕ → Source → ℕ
taken_from takes (Own port) = number_at takes port
taken_from takes (Output child port) = 0

-- where the channels begin that end nowhere: those behind the places of the children and the own outputs
abbrev pub unfed : SdfPlan → List Source
unfed p = drop (length p.gives) (skip_places p.net.places p.net.sources)

-- how many tokens leave each channel behind the places of the children in an iteration: to the own outputs, and from the own inputs that feed nothing
abbrev pub leaves : SdfPlan → List ℕ
leaves p = p.gives ++ map (taken_from p.takes) (unfed p)

-- what leaves in m iterations
abbrev pub leaving : ℕ → SdfPlan → Leaving
leaving m p = record { given = λ ns. times m p.gives; gone = λ ns. times m (leaves p) }

-- SDF: the least solution in which the children make the firings of all iterations that the tokens allow; own outputs give what these produce
abbrev pub sdf : {T S : Type 0} → Facts T S → Stepping T S → SdfPlan → ℕ → Stepping T (Inside (Streams T) S)
sdf facts step p k tag c inputs =
    let X = arrived p.net.sources inputs c.held in
    let m = iterations p X in
    kahn facts step tag p.net (sdf_limits m p.repetitions p.rates) (fired_all m p.repetitions) (leaving m p) c.kids X k
