use Rattle.std.proofs.Common.{◌≡◌, drop}
use Rattle.pt_document.specs.Names.{has_name}
use Rattle.pt_moml.proofs.fields.has_name.Given as goal

abbrev pub invariant-loop-part : goal.invariant-loop-part
invariant-loop-part g l = has_name (g.T.Named.names l.parts) l.name ≡ has_name (g.T.Named.names (drop l.part-index l.parts)) l.name
