use Rattle.std.proofs.Common.{◌≡◌, length, map, take}
use Rattle.pt_core.specs.Source.{source_of}
use Rattle.pt_process.specs.Plan.{AreFans}
use Rattle.pt_puts.specs.Fans.{fans_in}
use Rattle.pt_process.proofs.fans.fans_of.Given as goal

abbrev pub invariant-loop-c : goal.invariant-loop-c
invariant-loop-c l = record {
  fans : AreFans (map source_of (take l.c l.sources)) (fans_in l.fans.items);
  counted : length l.fans.items ≡ l.processes;
}
