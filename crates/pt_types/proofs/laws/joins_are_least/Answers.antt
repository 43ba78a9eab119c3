use Rattle.pt_datatypes.proofs.Joins.{join-is_join}
use Rattle.pt_types.proofs.laws.joins_are_least.Goals as goal

pub returns : goal.returns
returns c = join-is_join
