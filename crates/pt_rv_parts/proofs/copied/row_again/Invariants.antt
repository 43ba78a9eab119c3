use Rattle.std.proofs.Common.{◌≡◌, take}
use Rattle.pt_rv_parts.proofs.copied.row_again.Given as goal

abbrev pub invariant-loop-tokens : goal.invariant-loop-tokens
invariant-loop-tokens l = l.copies.items ≡ take l.tokens-index l.lists
