use Rattle.std.proofs.Common.{◌≤◌, vec_capacity}
use Rattle.pt_flow_base.specs.Number.{GivesStretch}
use Rattle.pt_lib_flow.proofs.ones.put_ones.Given as goal

abbrev pub invariant-loop-k : goal.invariant-loop-k
invariant-loop-k g l = record {
  so_far : GivesStretch g.A.Fires.step l.fn.actor l.inputs 1 l.k l.given.items l.actor;
  room : l.firings ≤ vec_capacity l.given;
}
