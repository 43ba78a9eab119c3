use Rattle.std.proofs.Common.{List, ap, ◌∙◌, filter}
use Rattle.pt_document.specs.declared.job.Property.{Property}
use Rattle.pt_document.specs.View.{properties_view}
use Rattle.pt_net.specs.Net.{is_parameter}
use Rattle.pt_copies.proofs.Directors.{director-view}
use Rattle.pt_copies.proofs.entities.director_of.Goals as goal

-- src/entities.rt:40:1
pub returns : goal.returns
returns c = director-view c.args.property.now _ _ c.in_ok-class_of.ensures (c.in_ok-parameters.ensures ∙ ap (λ (ps : List Property). filter is_parameter (properties_view ps)) c.deref.ensures.value)
