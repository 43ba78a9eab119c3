use Rattle.std.proofs.Common.{◌≡◌, take}
use Rattle.pt_next.proofs.once.all_tokens.Given as goal

abbrev pub invariant-loop-input : goal.invariant-loop-input
invariant-loop-input l = l.lists.items ≡ take l.input-index l.inputs
