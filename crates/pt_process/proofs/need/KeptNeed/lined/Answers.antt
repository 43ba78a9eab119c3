use Rattle.std.proofs.Common.{ap, sym, ◌∙◌}
use Rattle.pt_process.specs.Process.{lined_in}
use Rattle.pt_process.proofs.RoomLaws.{not-lined}
use Rattle.pt_process.proofs.need.KeptNeed.lined.Goals as goal

pub returns-in-Counts : goal.returns-in-Counts
returns-in-Counts c = c.as_slice.ensures ∙ ap lined_in (sym c.in-Counts.is)

pub returns-in-Over : goal.returns-in-Over
returns-in-Over c = sym (not-lined c.args.self.now c.in-Over.is)
