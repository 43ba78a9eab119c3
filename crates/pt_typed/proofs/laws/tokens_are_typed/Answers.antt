use Rattle.pt_typed.proofs.TypedNets.{typed-nets-keep-types}
use Rattle.pt_typed.proofs.laws.tokens_are_typed.Goals as goal

pub returns : goal.returns
returns c = typed-nets-keep-types
