use Rattle.std.proofs.Common.{◌≡◌, ◌+◌}
use Rattle.pt_rv_parts.specs.Team.{NoneHanded}
use Rattle.pt_rv.specs.Parties.{FitIn, moving_in, waiting, each}
use Rattle.pt_rv.proofs.BarrierLaws.{SoFar}
use Rattle.pt_rv.proofs.passing.pass_all.Given as goal

abbrev pub invariant-loop-place : goal.invariant-loop-place
invariant-loop-place l = record {
  so_far : SoFar l.plan.plan.net l.barrier (moving_in l.fn.parties) (moving_in l.parties) l.place;
  fit : FitIn l.plan l.parties;
  free : NoneHanded l.parties.team;
  fewer : waiting each (moving_in l.parties) + l.place ≡ waiting each (moving_in l.fn.parties);
}
