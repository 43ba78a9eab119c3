-- The own inputs of a composite that feed nothing, and the channels of its plan.
-- The tokens of such an input bound the iterations of a firing and are kept like those of any other. So in the plan it has a channel of its own, which begins there and ends nowhere.
use Rattle.std.specs.Prelude.{ℕ, List, [], ◌∷◌, ◌++◌, map, filter, Bool, false, not, ◌||◌, nat_eq}
use Rattle.std.specs.List.{range_with_len}
use Rattle.pt_core.specs.declared.source.Source.{Source}
use Rattle.pt_core.specs.declared.source.Source.TheVariants.{Own, Output}
use Rattle.pt_plan.specs.declared.inside.Inside.{Inside}

-- the channel begins at that own input
abbrev pub is_own : ℕ → Source → Bool
is_own port (Own other) = nat_eq other port
is_own port (Output child other) = false

-- one of these channels begins at that own input
abbrev pub feeds : List Source → ℕ → Bool
feeds [] port = false
feeds (source ∷ sources) port = is_own port source || feeds sources port

abbrev pub is_unfed : List Source → ℕ → Bool
is_unfed sources port = not (feeds sources port)

-- those of the first n own inputs at which no channel begins, in the order of their numbers
abbrev pub unfed_among : List Source → (n : ℕ) → List ℕ
unfed_among sources n = filter (is_unfed sources) (range_with_len 0 n)

-- the own inputs that feed nothing
abbrev pub unfed : Inside → List ℕ
unfed x = unfed_among x.sources.items x.inputs

abbrev pub own : ℕ → Source
own port = Own port

-- where the channels of the plan begin: those of the inside, and behind them one at each own input that feeds nothing
abbrev pub sources_of : Inside → List Source
sources_of x = x.sources.items ++ map own (unfed x)

-- nothing is there at first on a channel of an own input
abbrev pub no_tokens : ℕ → ℕ
no_tokens port = 0

-- how many tokens each channel of the plan holds at first: as in the inside, and none at an own input that feeds nothing
abbrev pub first_of : Inside → List ℕ
first_of x = x.first ++ map no_tokens (unfed x)
