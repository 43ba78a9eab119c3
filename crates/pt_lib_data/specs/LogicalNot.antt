-- LogicalNot: the negation of its input.
use Rattle.std.specs.Prelude.{not}
use Rattle.pt_meaning.specs.Basics.{Streams}
use Rattle.pt_value.specs.declared.token.Token.{Token}
use Rattle.pt_value.specs.declared.token.Token.TheVariants as token
use Rattle.pt_firing.specs.Row.{truth_at}
use Rattle.pt_lib_data.specs.Reply.{Reply, one, on}

abbrev pub give : Streams Token → Reply
give X = on (λ b. one (token.Bool (not b))) (truth_at X 0)
