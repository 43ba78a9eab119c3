use Rattle.pt_typed.proofs.RecordsMet.{record-rows-met}
use Rattle.pt_typed.proofs.laws.record_rows_are_met.Goals as goal

pub returns : goal.returns
returns c = record-rows-met
