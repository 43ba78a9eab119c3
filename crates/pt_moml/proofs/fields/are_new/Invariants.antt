use Rattle.std.proofs.Common.{◌≡◌, [], map, drop}
use Rattle.pt_document.specs.Names.{are_distinct_after}
use Rattle.pt_moml.proofs.fields.are_new.Given as goal

abbrev pub invariant-loop-part : goal.invariant-loop-part
invariant-loop-part g l = are_distinct_after (map (λ n. n.now) l.seen.keys) (g.T.Named.names (drop l.part-index l.parts)) ≡ are_distinct_after [] (g.T.Named.names l.parts)
