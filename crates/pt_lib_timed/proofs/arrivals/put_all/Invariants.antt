use Rattle.std.proofs.Common.{◌≡◌, ◌++◌, List, drop}
use Rattle.pt_lib_timed.specs.Pending.{Event, arriving}
use Rattle.pt_lib_timed.specs.PendingStore.{behind}
use Rattle.pt_lib_timed.proofs.arrivals.put_all.Given as goal

abbrev pub invariant-loop-token : goal.invariant-loop-token
invariant-loop-token l = record {
  rest : behind l.pending (arriving l.wait.in_turn l.from l.wait.delay (drop l.token-index l.tokens)) ≡ behind l.fn.pending (arriving l.wait.in_turn l.wait.from l.wait.delay l.tokens);
  kept : (more : List Event) × (l.pending ≡ l.fn.pending ++ more);
}
