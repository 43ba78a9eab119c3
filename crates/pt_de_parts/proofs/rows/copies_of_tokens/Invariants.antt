use Rattle.std.proofs.Common.{◌≡◌, take}
use Rattle.pt_de_parts.proofs.rows.copies_of_tokens.Given as goal

abbrev pub invariant-loop-tokens : goal.invariant-loop-tokens
invariant-loop-tokens l = l.copies.items ≡ take l.tokens-index l.row
