use Rattle.std.proofs.Common.{◌≡◌, ◌++◌, replicate}
use Rattle.pt_reaction.proofs.offsets.add_reader.Given as goal

abbrev pub invariant-loop : goal.invariant-loop
invariant-loop l = l.found.items ≡ l.fn.found.items ++ replicate l.counter l.child
