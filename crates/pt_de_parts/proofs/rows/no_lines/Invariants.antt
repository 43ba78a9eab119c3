use Rattle.std.proofs.Common.{◌≡◌, length}
use Rattle.pt_de_parts.proofs.rows.no_lines.Given as goal

abbrev pub invariant-loop : goal.invariant-loop
invariant-loop l = length l.lines.items ≡ l.counter
