use Rattle.std.proofs.Common.{◌≡◌, map, drop}
use Rattle.pt_document.specs.Classes.{parameter_of}
use Rattle.pt_document.specs.Names.{is_among}
use Rattle.pt_moml.specs.Rules.{parameter_names}
use Rattle.pt_moml.proofs.parameters.has_parameter.Given as goal

abbrev pub invariant-loop-row : goal.invariant-loop-row
invariant-loop-row l = is_among (parameter_names (map parameter_of (drop l.row-index l.rows))) l.name ≡ is_among (parameter_names (map parameter_of l.rows)) l.name
