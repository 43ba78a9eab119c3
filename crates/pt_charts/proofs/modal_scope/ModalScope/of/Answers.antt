use Rattle.std.proofs.Common.{◌≡◌, ℕ, List, None, Some, map, ap, ◌∙◌}
use Rattle.pt_value.specs.Token.{value_of}
use Rattle.pt_scopes.specs.Names.{held}
use Rattle.pt_document.specs.View.{port_view, properties_view}
use Rattle.pt_inequalities.specs.Frames.{with_given, no_names, some_value, seen}
use Rattle.pt_inequalities.specs.Inequalities.{with_ports, no_ports}
use Rattle.pt_frames.specs.Views.{frames_view, port_numbers}
use Rattle.pt_charts.proofs.Tokens.{some-values}
use Rattle.pt_charts.proofs.modal_scope.ModalScope.of.Goals as goal

pub returns-in-Ok : goal.returns-in-Ok
returns-in-Ok c =
    let e = c.args.entity.now in
    let tokens = c.args.values.now.variables.items in
    let ports : (name : List ℕ) → port_numbers c.in_ok-ports.ports name ≡ with_ports no_ports 0 (map port_view e.ports.items) name =
    λ name. c.in_ok-ports.ensures name ∙ ap (λ ps. with_ports no_ports 0 (map port_view ps) name) c.deref.ensures.value in
    let variables : (name : List ℕ) → held c.in-Ok.variables name ≡ with_given no_names (properties_view e.variables.items) (map Some (map value_of tokens)) name =
    λ name.
    c.in-Ok.ensures name
    ∙ (λ j. with_given no_names (properties_view (c.deref-2.ensures.value j)) (map some_value (c.deref-3.ensures.value j)) name)
    ∙ ap (λ vs. with_given no_names (properties_view e.variables.items) vs name) (some-values tokens) in
    λ j. record {
      number = c.in_ok-number.ensures j;
      ports = λ name. ports name j;
      variables = λ name. variables name j;
      around = seen (frames_view c.args.frames.now) None (Some (c.in_ok-number.ensures j));
    }
