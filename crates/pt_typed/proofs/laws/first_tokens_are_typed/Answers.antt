use Rattle.pt_typed.proofs.ActorLaws.{first-tokens}
use Rattle.pt_typed.proofs.laws.first_tokens_are_typed.Goals as goal

pub returns : goal.returns
returns c = first-tokens
