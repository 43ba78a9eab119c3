use Rattle.std.proofs.Common.{◌≡◌, ◌≤◌, take}
use Rattle.pt_sr.specs.Signals.{count_lowered}
use Rattle.pt_sr.proofs.signals.count_each_lowered.Given as goal

abbrev pub invariant-loop-flag : goal.invariant-loop-flag
invariant-loop-flag l = (l.count ≡ count_lowered (take l.flag-index l.flags)) × (l.count ≤ l.flag-index)
