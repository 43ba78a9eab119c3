-- StringLength: how many characters its input has.
use Rattle.std.specs.Prelude.{ℕ, ◌^◌, nat_lt, pos, length, chars, Option, Some, None, if◌then◌else◌}
use Rattle.pt_meaning.specs.Basics.{Streams}
use Rattle.pt_value.specs.declared.token.Token.{Token}
use Rattle.pt_value.specs.declared.token.Token.TheVariants as token
use Rattle.pt_firing.specs.declared.fault.RunFault.TheVariants.{Overflow}
use Rattle.pt_firing.specs.Row.{token_at}
use Rattle.pt_lib_data.specs.Reply.{Reply, Fails, one, nothing}

-- a number of characters; one beyond 64 bits, which no memory holds, is an overflow
abbrev pub counted : ℕ → Reply
counted n = if nat_lt n (2 ^ 63) then one (token.Int (pos n)) else Fails Overflow

abbrev pub of_token : Option Token → Reply
of_token None = nothing
of_token (Some (token.Text t)) = counted (length (chars t))
of_token (Some t) = nothing

abbrev pub give : Streams Token → Reply
give X = of_token (token_at X 0)
