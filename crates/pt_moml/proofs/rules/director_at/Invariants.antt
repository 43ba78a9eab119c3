use Rattle.std.proofs.Common.{◌≡◌, drop}
use Rattle.std.proofs.Common.{◌++◌, option_map}
use Rattle.std.specs.Prelude.{option_to_list}
use Rattle.pt_document.specs.Classes.{director_of}
use Rattle.pt_moml.specs.Rules.{at_most_one, directors_among}
use Rattle.pt_document.specs.View.{properties_view}
use Rattle.pt_moml.proofs.rules.director_at.Given as goal

abbrev pub invariant-loop-property : goal.invariant-loop-property
invariant-loop-property l = at_most_one l.here (option_to_list (option_map (λ d. director_of d.now) l.found) ++ directors_among (properties_view (drop l.property-index l.properties))) ≡ at_most_one l.here (directors_among (properties_view l.properties))
