use Rattle.std.proofs.Common.{◌≡◌, ◌-◌, ◌*◌, ◌^◌, take, drop, neg_ℤ, pos, ◌≤ℤ◌}
use Rattle.pt_meaning.specs.Node.{is_none}
use Rattle.pt_flow_base.specs.Row.{present, total}
use Rattle.pt_flow_base.proofs.number.sum_between.Given as goal

abbrev pub invariant-loop-place : goal.invariant-loop-place
invariant-loop-place g l = record {
  number : l.sum.number ≡ total (present (drop l.from (take l.place (g.I.Numbered.streams l.inputs))));
  empty : l.sum.is_empty ≡ is_none (present (drop l.from (take l.place (g.I.Numbered.streams l.inputs))));
  low : neg_ℤ (pos ((l.place - l.from) * 2 ^ 63)) ≤ℤ l.sum.number;
  high : l.sum.number ≤ℤ pos ((l.place - l.from) * 2 ^ 63);
}
