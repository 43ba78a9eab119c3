use Rattle.std.proofs.Common.{◌≡◌, ℕ, ◌+◌, ◌<◌, ◌≤◌, ◌++◌, List, [], ◌∷◌, length, get_or, map, take, true, sym, ap, subst, ◌∙◌, add-one}
use Rattle.pt_document.specs.declared.job.Port.{Port}
use Rattle.std.specs.Prelude.{Bool, if◌then◌else◌}
use Rattle.std.specs.Str.{bytes_eq}
use Rattle.std.specs.List.{filter}
use Rattle.pt_document.specs.Document.{PortTree}
use Rattle.pt_document.specs.Names.{is_among}
use Rattle.pt_document.specs.View.{port_view}
use Rattle.pt_scopes.specs.PortNames.{has_port}
use Rattle.pt_scopes.specs.Sites.{is_input_port, port_name}
use Rattle.pt_scopes.proofs.Turns.{view-take, view-all}
use Rattle.pt_values.proofs.EntityParts.{names-same, among-more}
use Rattle.pt_values.proofs.entity.inputs_of.Goals as goal

pub loop-port-preserved : goal.loop-port-preserved
loop-port-preserved c =
    let ports = c.args.entity.now.ports.items in
    let within : c.loop-port.port-index < length ports = subst (λ (ps : List Port). c.loop-port.port-index < length ps) c.deref-port-items.ensures.value c.loop-port-test.true in
    let at : c.port-item.result ≡ get_or ports c.loop-port.port-index c.port-item.result = subst (λ (ps : List Port). c.port-item.result ≡ get_or ps c.loop-port.port-index c.port-item.result) c.deref-port-items.ensures.value c.port-item.is in
    let i = c.loop-port.port-index in
    let p = c.port-item.result in
    let is : map port_view (take (i + 1) ports) ≡ map port_view (take i ports) ++ port_view p ∷ [] = ap (λ k. map port_view (take k ports)) (add-one i) ∙ view-take port_view ports i p within at in
    λ name.
    c.in_ok-add_input.ensures name
    ∙ ap (λ b. if is_input_port (port_view p) then (if bytes_eq p.name name then true else b) else b) (c.loop-port.invariant name)
    ∙ sym (among-more is_input_port port_name port_view (take i ports) (take (i + 1) ports) p is name)

pub returns : goal.returns
returns c =
    let ports = c.args.entity.now.ports.items in
    let whole : length ports ≤ c.loop-port.port-index = subst (λ (ps : List Port). length ps ≤ c.loop-port.port-index) c.deref-port-items.ensures.value c.loop-port-test.false in
    names-same c.loop-port.names (map port_name (filter is_input_port (map port_view ports)))
    (λ name. c.loop-port.invariant name ∙ ap (λ (ps : List PortTree). is_among (map port_name (filter is_input_port ps)) name) (view-all port_view ports c.loop-port.port-index whole))
