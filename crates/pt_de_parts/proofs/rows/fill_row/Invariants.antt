use Rattle.std.proofs.Common.{◌≡◌, ◌-◌, length, take, drop}
use Rattle.pt_de_laws.specs.State.{emptied_from}
use Rattle.pt_de_parts.proofs.rows.fill_row.Given as goal

abbrev pub invariant-loop-channel : goal.invariant-loop-channel
invariant-loop-channel l = record {
  row : take (l.channel - l.first) l.row.items ≡ take (l.channel - l.first) (drop l.first l.fn.channels.lists);
  left : l.channels.lists ≡ emptied_from l.first (l.channel - l.first) l.fn.channels.lists;
  same : length l.row.items ≡ length l.fn.row.items;
}
