-- Limiter: of a range the number that is nearest to its input.
use Rattle.std.specs.Prelude.{ℕ, ℤ, int_lt, int_le, List, Option, Some, None, codes, if◌then◌else◌}
use Rattle.pt_meaning.specs.Basics.{Streams}
use Rattle.pt_value.specs.declared.token.Token.{Token}
use Rattle.pt_value.specs.declared.token.Token.TheVariants as token
use Rattle.pt_firing.specs.Params.{value_under}
use Rattle.pt_firing.specs.Row.{number_at}
use Rattle.pt_lib_data.specs.declared.limiter.Limiter.{Limiter}
use Rattle.pt_lib_data.specs.Reply.{Reply, one, on}

abbrev pub nearest : Limiter → ℤ → ℤ
nearest range n = if int_lt n range.bottom then range.bottom else (if int_lt range.top n then range.top else n)

abbrev pub give : Limiter → Streams Token → Reply
give range X = on (λ n. one (token.Int (nearest range n))) (number_at X 0)

-- by its parameters bottom and top, of which the first isn't greater
abbrev pub start_by : Option Token → Option Token → Option Limiter
start_by (Some (token.Int bottom)) (Some (token.Int top)) = if int_le bottom top then Some (record { bottom = bottom; top = top }) else None
start_by first second = None

abbrev pub start : List (List ℕ × Token) → Option Limiter
start values = start_by (value_under (codes "bottom") values) (value_under (codes "top") values)
