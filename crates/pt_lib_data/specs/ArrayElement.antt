-- ArrayElement: the element of its input at an index.
use Rattle.std.specs.Prelude.{ℕ, ℤ, pos, negsuc, List, Option, Some, None, option_map, slice_get, codes}
use Rattle.pt_meaning.specs.Basics.{Streams}
use Rattle.pt_value.specs.Value.{Value}
use Rattle.pt_value.specs.Token.{token_of}
use Rattle.pt_value.specs.declared.token.Token.{Token}
use Rattle.pt_value.specs.declared.token.Token.TheVariants as token
use Rattle.pt_firing.specs.declared.fault.RunFault.TheVariants.{Index}
use Rattle.pt_firing.specs.Params.{int_or}
use Rattle.pt_firing.specs.Row.{token_at}
use Rattle.pt_lib_data.specs.Reply.{Reply, Fails, one, nothing}

abbrev pub element : List Value → ℤ → Option Token
element vs (pos n) = option_map token_of (slice_get vs n)
element vs (negsuc n) = None

abbrev pub found : Option Token → Reply
found None = Fails Index
found (Some t) = one t

abbrev pub of_array : List Value → ℤ → Reply
of_array vs index = found (element vs index)

abbrev pub of_token : ℤ → Option Token → Reply
of_token index None = nothing
of_token index (Some (token.Array vs)) = of_array vs index
of_token index (Some t) = nothing

abbrev pub give : ℤ → Streams Token → Reply
give index X = of_token index (token_at X 0)

-- by its parameter index, else 0
abbrev pub start : List (List ℕ × Token) → Option ℤ
start values = int_or (codes "index") (pos 0) values
