use Rattle.std.proofs.Common.{◌≡◌, [], take, drop}
use Rattle.pt_document.specs.Names.{are_distinct_after}
use Rattle.pt_moml.proofs.fields.are_apart.Given as goal

abbrev pub invariant-loop-place : goal.invariant-loop-place
invariant-loop-place g l = are_distinct_after (g.T.Named.names (take l.place l.parts)) (g.T.Named.names (drop l.place l.parts)) ≡ are_distinct_after [] (g.T.Named.names l.parts)
