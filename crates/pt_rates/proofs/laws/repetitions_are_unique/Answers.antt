use Rattle.pt_rates.proofs.Uniqueness.{unique}
use Rattle.pt_rates.proofs.laws.repetitions_are_unique.Goals as goal

pub returns : goal.returns
returns c = unique
