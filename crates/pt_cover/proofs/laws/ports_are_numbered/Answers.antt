use Rattle.pt_cover.proofs.Numbering.{numbered}
use Rattle.pt_cover.proofs.laws.ports_are_numbered.Goals as goal

pub returns : goal.returns
returns c = numbered
