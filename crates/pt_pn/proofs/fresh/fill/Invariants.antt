use Rattle.std.proofs.Common.{◌≡◌, ◌++◌, length, set, take}
use Rattle.pt_recv.specs.Lines.{list_at}
use Rattle.pt_pn.proofs.fresh.fill.Given as goal

abbrev pub invariant-loop-token : goal.invariant-loop-token
invariant-loop-token l = record {
  lists : l.queues.lists ≡ set l.fn.queues.lists l.channel (list_at l.fn.queues.lists l.channel ++ take l.token-index l.tokens);
  counted : length l.queues.spares ≡ length l.fn.queues.spares;
}
