use Rattle.std.proofs.Common.{◌≡◌, take}
use Rattle.pt_reaction.specs.Channels.{lists_of}
use Rattle.pt_de_parts.proofs.rows.copies_of_lines.Given as goal

abbrev pub invariant-loop-line : goal.invariant-loop-line
invariant-loop-line l = lists_of l.copies.items ≡ lists_of (take l.line-index l.lines)
