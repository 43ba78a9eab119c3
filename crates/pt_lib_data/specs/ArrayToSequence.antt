-- ArrayToSequence: the elements of its input, which has a length.
use Rattle.std.specs.Prelude.{ℕ, nat_eq, length, List, [], ◌∷◌, map, Option, Some, None, if◌then◌else◌}
use Rattle.pt_meaning.specs.Basics.{Streams}
use Rattle.pt_value.specs.Value.{Value}
use Rattle.pt_value.specs.Token.{token_of}
use Rattle.pt_value.specs.declared.token.Token.{Token}
use Rattle.pt_value.specs.declared.token.Token.TheVariants as token
use Rattle.pt_firing.specs.declared.fault.RunFault.TheVariants.{Length}
use Rattle.pt_firing.specs.Row.{token_at}
use Rattle.pt_lib_data.specs.Reply.{Reply, Gives, Fails, nothing}

abbrev pub of_array : ℕ → List Value → Reply
of_array count vs = if nat_eq (length vs) count then Gives (map token_of vs ∷ []) else Fails Length

abbrev pub of_token : ℕ → Option Token → Reply
of_token count None = nothing
of_token count (Some (token.Array vs)) = of_array count vs
of_token count (Some t) = nothing

abbrev pub give : ℕ → Streams Token → Reply
give count X = of_token count (token_at X 0)
