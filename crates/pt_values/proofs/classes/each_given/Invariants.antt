use Rattle.std.proofs.Common.{take, map}
use Rattle.std.specs.List.{AllZip}
use Rattle.pt_document.specs.View.{properties_view}
use Rattle.pt_scopes.specs.Given.{held_view}
use Rattle.pt_scopes.specs.Names.{seen_scope}
use Rattle.pt_scopes.specs.PortNames.{names_port_of}
use Rattle.pt_scopes.specs.Sites.{director_form}
use Rattle.pt_scopes.specs.ClassParameters.{IsParameterOf}
use Rattle.pt_values.proofs.classes.each_given.Given as goal

abbrev pub invariant-loop-property : goal.invariant-loop-property
invariant-loop-property l =
    AllZip (IsParameterOf (names_port_of l.ports) (seen_scope l.seen) (director_form l.owner.parent l.owner.class.now)) (properties_view (take l.property-index l.properties)) (map held_view l.values.items)
