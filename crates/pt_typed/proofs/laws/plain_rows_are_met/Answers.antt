use Rattle.pt_typed.proofs.RowsMet.{plain-rows-met}
use Rattle.pt_typed.proofs.laws.plain_rows_are_met.Goals as goal

pub returns : goal.returns
returns c = plain-rows-met
