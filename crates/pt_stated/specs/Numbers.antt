-- The numbers that a composite of processes states: the rates of its own ports, and the capacities of its channels.
use Rattle.std.specs.Prelude.{ℕ, ℤ, pos, nat_abs, List, map, Bool, true, false, Option, Some, None, slice_get, if◌then◌else◌}
use Rattle.std.specs.List.{filter_map, enumerate_from}
use Rattle.pt_value.specs.declared.token.Token.{Token}
use Rattle.pt_value.specs.declared.token.Token.TheVariants as token
use Rattle.pt_document.specs.declared.job.Direction.{Direction}
use Rattle.pt_document.specs.declared.job.Direction.TheVariants.{Input, Output}
use Rattle.pt_document.specs.Document.{PortTree}
use Rattle.pt_net.specs.Net.{DirectorTree}
use Rattle.pt_scopes.specs.declared.parameter_value.ParameterValue.{ParameterValue}
use Rattle.pt_scopes.specs.Forms.{is_between}
use Rattle.pt_scopes.specs.Given.{held_view}
use Rattle.pt_scopes.specs.Agreement.{named, integer_of}

-- an integer from 1 to 1,000,000 as a number of tokens, and 0 for another
abbrev pub count : ℤ → ℕ
count n = if is_between (pos 1) (pos 1000000) n then nat_abs n else 0

-- what a parameter of a director has, or where it isn't given what stands for it by its form
abbrev pub capacity : DirectorTree → List ParameterValue → List ℕ → ℕ
capacity d vs name = count (integer_of d.class (named d.parameters (map held_view vs)) name)

abbrev pub count_of : Token → ℕ
count_of (token.Int n) = count n
count_of (token.Bool b) = 0
count_of (token.Text t) = 0
count_of (token.Array ts) = 0
count_of (token.Record fs) = 0

-- the rate that a port states, and 1 where it states none
abbrev pub rate_in : Option (Option Token) → ℕ
rate_in (Some (Some t)) = count_of t
rate_in (Some None) = 1
rate_in None = 1

abbrev pub is_along : Direction → Direction → Bool
is_along Input Input = true
is_along Input Output = false
is_along Output Input = false
is_along Output Output = true

-- the rate of a port of this number, if it has this direction
abbrev pub rate_along : Direction → List (Option Token) → ℕ × PortTree → Option ℕ
rate_along direction rates q = if is_along q.1.direction direction then Some (rate_in (slice_get rates q.0)) else None

-- the rates of the ports of this direction, in their order
abbrev pub rates_along : Direction → List PortTree → List (Option Token) → List ℕ
rates_along direction ports rates = filter_map (rate_along direction rates) (enumerate_from 0 ports)
