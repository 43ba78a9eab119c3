use Rattle.pt_rates.proofs.Uniqueness.{excludes}
use Rattle.pt_rates.proofs.laws.solutions_exclude_faults.Goals as goal

pub returns : goal.returns
returns c = excludes
