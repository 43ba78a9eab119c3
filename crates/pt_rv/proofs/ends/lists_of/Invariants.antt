use Rattle.std.proofs.Common.{◌≡◌, ◌≤◌, length, take, drop}
use Rattle.std.specs.Prelude.{vec_capacity}
use Rattle.pt_rv.specs.Parties.{outputs_of}
use Rattle.pt_rv.proofs.ends.lists_of.Given as goal

abbrev pub invariant-loop-outlet : goal.invariant-loop-outlet
invariant-loop-outlet l = record {
  lists : l.lists.items ≡ outputs_of (take l.outlet l.fn.given.items);
  behind : drop l.outlet l.given.items ≡ drop l.outlet l.fn.given.items;
  counted : length l.given.items ≡ length l.fn.given.items;
  room : length l.fn.given.items ≤ vec_capacity l.lists;
}
