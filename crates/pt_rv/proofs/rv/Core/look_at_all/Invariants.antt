use Rattle.std.proofs.Common.{◌≡◌, ℕ, ◌<◌}
use Rattle.pt_meaning.specs.Log.{Channel}
use Rattle.pt_rv_work.specs.Seen.{IsIllegal}
use Rattle.pt_rv.proofs.rv.Core.look_at_all.Given as goal

abbrev pub invariant-loop-channel : goal.invariant-loop-channel
invariant-loop-channel l = record {
  same : l.self ≡ l.fn.self;
  illegal : (k : ℕ) → k < l.channel → IsIllegal l.fn.self (Channel k);
}
