use Rattle.std.proofs.Common.{[]}
use Rattle.pt_values.proofs.EntityParts.{names-same}
use Rattle.pt_values.proofs.entity.no_ports.Goals as goal

pub returns : goal.returns
returns c = names-same c.new.result [] c.new.ensures
