use Rattle.std.proofs.Common.{◌≡◌, ◌+◌, ◌≤◌, ◌++◌, [], length, take, get_or, set}
use Rattle.pt_inside.proofs.tokens.put_copies.Given as goal

abbrev pub invariant-loop-token : goal.invariant-loop-token
invariant-loop-token l = record {
  lists : l.channels.lists ≡ set l.fn.channels.lists l.channel (get_or l.fn.channels.lists l.channel [] ++ take l.token-index l.tokens);
  spare : length l.tokens ≤ l.token-index + get_or l.channels.spares l.channel 0;
}
