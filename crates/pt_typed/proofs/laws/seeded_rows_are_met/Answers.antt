use Rattle.pt_typed.proofs.SeededRows.{seeded-rows-met}
use Rattle.pt_typed.proofs.laws.seeded_rows_are_met.Goals as goal

pub returns : goal.returns
returns c = seeded-rows-met
