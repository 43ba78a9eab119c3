use Rattle.std.proofs.Common.{◌≡◌, take}
use Rattle.pt_transitions.proofs.lists.copied_lists.Given as goal

abbrev pub invariant-loop-tokens : goal.invariant-loop-tokens
invariant-loop-tokens l = l.copies.items ≡ take l.tokens-index l.lists
