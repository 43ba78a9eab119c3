-- UpSample: gives its input among zeros.
use Rattle.std.specs.Prelude.{ℕ, ℤ, pos, ◌+◌, ◌-◌, List, [], ◌∷◌, ◌++◌, replicate, Option, Some, None}
use Rattle.pt_meaning.specs.Basics.{Tag, Streams}
use Rattle.pt_meaning.specs.Machine.{Need}
use Rattle.pt_meaning.specs.Node.{Answer, Gives}
use Rattle.pt_value.specs.declared.token.Token.{Token}
use Rattle.pt_value.specs.declared.token.Token.TheVariants.{Int}
use Rattle.pt_flow_streams.specs.declared.up_sample.UpSample.{UpSample}
use Rattle.pt_flow_base.specs.declared.params.Params.{Params}
use Rattle.pt_flow_base.specs.Row.{one_each, number_at, on_present}
use Rattle.pt_flow_base.specs.Rates.{factor_and_phase}

abbrev pub need : UpSample → Need
need actor = one_each actor.places

-- so many zeros
abbrev pub zeros : ℕ → List Token
zeros count = replicate count (Int (pos 0))

-- a number with so many zeros before it and after it
abbrev pub among_zeros : ℕ → ℤ → ℕ → List Token
among_zeros before number after = zeros before ++ Int number ∷ zeros after

-- the same of numbers
abbrev pub number_among : ℕ → ℤ → ℕ → List ℤ
number_among before number after = replicate before (pos 0) ++ number ∷ replicate after (pos 0)

abbrev pub step : Tag → UpSample → Streams Token → Answer Token UpSample
step tag actor X = on_present actor (λ input. Gives actor (among_zeros actor.before input actor.after ∷ [])) (number_at X 0)

-- how many tokens it gives
abbrev pub rate : UpSample → ℕ
rate actor = actor.before + 1 + actor.after

-- as many tokens as the factor says, the input at the phase
abbrev pub start_by : Option (ℕ × ℕ) → Option UpSample
start_by None = None
start_by (Some (factor, phase)) = Some (record { before = phase; after = factor - 1 - phase; places = 1 })

abbrev pub start : Params → Option UpSample
start params = start_by (factor_and_phase params.values)
