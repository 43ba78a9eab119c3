use Rattle.std.proofs.Common.{◌≡◌, ◌-◌, ◌++◌, map, take, set}
use Rattle.pt_value.specs.declared.token.Token.TheVariants.{Int}
use Rattle.pt_recv.specs.Lines.{list_at, spare_at}
use Rattle.pt_recv.proofs.channels.Channels.put_each.Given as goal

abbrev pub invariant-loop-n : goal.invariant-loop-n
invariant-loop-n l = record {
  lists : l.self.lists ≡ set l.fn.self.lists l.c (list_at l.fn.self.lists l.c ++ map Int (take l.n-index l.numbers));
  spares : l.self.spares ≡ set l.fn.self.spares l.c (spare_at l.fn.self.spares l.c - l.n-index);
}
