use Rattle.std.proofs.Common.{◌≡◌, drop}
use Rattle.pt_firing.specs.Params.{value_under}
use Rattle.pt_firing.proofs.params.Values.get.Given as goal

abbrev pub invariant-loop-key : goal.invariant-loop-key
invariant-loop-key l = record {
  rest : value_under l.name l.self ≡ value_under l.name (drop l.key-index l.key-items);
  all : l.key-items ≡ l.self;
}
