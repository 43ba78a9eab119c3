use Rattle.std.proofs.Common.{◌≡◌, ℕ, ◌<◌, false, length, get_or}
use Rattle.pt_rv_parts.specs.Team.{fires_in}
use Rattle.pt_rv_parts.proofs.team.flags_of.Given as goal

abbrev pub invariant-loop-process : goal.invariant-loop-process
invariant-loop-process l = record {
  same : l.processes.items ≡ l.fn.processes.items;
  long : length l.flags ≡ length l.fn.processes.items;
  flags : (i : ℕ) → i < l.process → get_or l.flags i false ≡ get_or (fires_in l.fn.processes.items) i false;
}
