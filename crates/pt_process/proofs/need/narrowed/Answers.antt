use Rattle.std.proofs.Common.{ap, sym, ◌∙◌}
use Rattle.pt_meaning.specs.Machine.{Counts}
use Rattle.pt_process.proofs.need.narrowed.Goals as goal

pub returns-then-is_one : goal.returns-then-is_one
returns-then-is_one c = ap Counts (sym (c.is_one.ensures c.if-is_one.true) ∙ c.as_slice.ensures)
