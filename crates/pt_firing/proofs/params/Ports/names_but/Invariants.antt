use Rattle.std.proofs.Common.{◌≡◌, ◌++◌, drop}
use Rattle.pt_firing.specs.Params.{names_but}
use Rattle.pt_firing.proofs.params.Ports.names_but.Given as goal

abbrev pub invariant-loop-name : goal.invariant-loop-name
invariant-loop-name l = record {
  rest : l.names.items ++ names_but l.other (drop l.name-index l.name-items) ≡ names_but l.other l.self;
  all : l.name-items ≡ l.self;
}
