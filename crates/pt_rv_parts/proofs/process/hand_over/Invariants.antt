use Rattle.std.proofs.Common.{◌≡◌, ◌++◌, length, take, drop}
use Rattle.pt_reaction.specs.Channels.{lists_of}
use Rattle.pt_rv_parts.proofs.process.hand_over.Given as goal

abbrev pub invariant-loop-place : goal.invariant-loop-place
invariant-loop-place l = record {
  row : l.row.items ≡ lists_of (take l.place l.fn.lines.items) ++ drop l.place l.fn.row.items;
  lines : drop l.place l.lines.items ≡ drop l.place l.fn.lines.items;
  counted : length l.lines.items ≡ length l.fn.lines.items;
}
