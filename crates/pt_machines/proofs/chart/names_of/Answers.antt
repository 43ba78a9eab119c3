use Rattle.std.proofs.Common.{List, map, ap, ◌∙◌}
use Rattle.pt_value.specs.declared.token.Token.{Token}
use Rattle.pt_value.specs.Token.{value_of}
use Rattle.pt_document.specs.declared.job.Direction.TheVariants.{Input, Output}
use Rattle.pt_document.specs.declared.job.Port.{Port}
use Rattle.pt_document.specs.declared.job.Property.{Property}
use Rattle.pt_document.specs.View.{port_view, properties_view}
use Rattle.pt_machine.specs.Typed.{typed_along, typed_variables}
use Rattle.pt_machines.specs.Sites.{typing_at}
use Rattle.pt_machines.proofs.chart.names_of.Goals as goal

pub returns : goal.returns
returns c =
    let site = c.args.site.now in
    record {
      inputs = c.of.ensures ∙ c.in_ok-inputs.ensures ∙ ap (λ (ps : List Port). typed_along Input (typing_at site) site.number (map port_view ps)) c.as_slice-ports.ensures.value;
      outputs = c.of-2.ensures ∙ c.in_ok-outputs.ensures ∙ ap (λ (ps : List Port). typed_along Output (typing_at site) site.number (map port_view ps)) c.as_slice-ports.ensures.value;
      variables = c.of-3.ensures ∙ c.in_ok-variables.ensures ∙ ap (λ (ts : List Token). typed_variables (map value_of ts) (properties_view c.as_slice-given.result.now)) c.as_slice-tokens.ensures.value ∙ ap (λ (ps : List Property). typed_variables (map value_of site.values.now.variables.items) (properties_view ps)) c.as_slice-given.ensures.value;
      parameters = c.of-4.ensures;
    }
