use Rattle.std.proofs.Common.{◌≡◌, take}
use Rattle.pt_sdf_parts.proofs.tables.copies_of_lists.Given as goal

abbrev pub invariant-loop-tokens : goal.invariant-loop-tokens
invariant-loop-tokens l = l.copies.items ≡ take l.tokens-index l.lists
