-- Repeat: gives a block of tokens so many times.
use Rattle.std.specs.Prelude.{ℕ, ◌*◌, List, [], ◌∷◌, Option, Some, None}
use Rattle.pt_meaning.specs.Basics.{Tag, Streams, at}
use Rattle.pt_meaning.specs.Machine.{Need, Counts}
use Rattle.pt_meaning.specs.Node.{Answer, Gives}
use Rattle.pt_value.specs.declared.token.Token.{Token}
use Rattle.pt_flow_streams.specs.declared.repeat.Repeat.{Repeat}
use Rattle.pt_flow_base.specs.declared.params.Params.{Params}
use Rattle.pt_flow_base.specs.Rates.{times_and_size, repeated}

abbrev pub need : Repeat → Need
need actor = Counts actor.needed

abbrev pub step : Tag → Repeat → Streams Token → Answer Token Repeat
step tag actor X = Gives actor (repeated actor.times (at X 0) ∷ [])

-- the number of tokens of a block
abbrev pub size_in : List ℕ → ℕ
size_in [] = 0
size_in (size ∷ sizes) = size

-- how many tokens it gives
abbrev pub rate : Repeat → ℕ
rate actor = actor.times * size_in actor.needed

abbrev pub start_by : Option (ℕ × ℕ) → Option Repeat
start_by None = None
start_by (Some (times, size)) = Some (record { needed = size ∷ []; times = times })

abbrev pub start : Params → Option Repeat
start params = start_by (times_and_size params.values)
