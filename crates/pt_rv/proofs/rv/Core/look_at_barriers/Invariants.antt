use Rattle.std.proofs.Common.{◌≡◌, ℕ, ◌<◌}
use Rattle.pt_meaning.specs.Log.{Barrier}
use Rattle.pt_rv_work.specs.Seen.{IsIllegal}
use Rattle.pt_rv.proofs.rv.Core.look_at_barriers.Given as goal

abbrev pub invariant-loop-barrier : goal.invariant-loop-barrier
invariant-loop-barrier l = record {
  same : l.self ≡ l.fn.self;
  illegal : (k : ℕ) → k < l.barrier → IsIllegal l.fn.self (Barrier k);
}
