use Rattle.std.proofs.Common.{◌≡◌, ℕ, ◌<◌}
use Rattle.pt_meaning.specs.Streams.{at}
use Rattle.pt_pn_laws.specs.State.{IsStopped, need_at}
use Rattle.pt_pn.proofs.pn.Core.look_at_all.Given as goal

abbrev pub invariant-loop-process : goal.invariant-loop-process
invariant-loop-process l = record {
  same : l.self ≡ l.fn.self;
  stopped : (i : ℕ) → i < l.process → IsStopped l.fn.self i (at l.fn.self.halfway.puts i) (need_at l.fn.self i);
}
