use Rattle.pt_typed.proofs.HeldRows.{parameters-hold-tokens}
use Rattle.pt_typed.proofs.laws.parameters_hold_tokens.Goals as goal

pub returns : goal.returns
returns c = parameters-hold-tokens
