use Rattle.std.proofs.Common.{◌≡◌, ◌++◌, ◌∷◌, [], length, take, sym, ap, ◌∙◌, arith}
use Rattle.std.proofs.lemmas.List.{take_all, map_more, length-map, length-take-le}
use Rattle.std.proofs.lemmas.Result.{IfOk-weaker}
use Rattle.std.specs.List.{position}
use Rattle.std.specs.Map.{lookup}
use Rattle.pt_survey.specs.declared.tables.PlacedPort.{PlacedPort}
use Rattle.pt_survey.specs.Survey.{port_at, ports_view}
use Rattle.pt_net.specs.Wires.{names_inside}
use Rattle.pt_links.specs.Resolve.{pair_eq}
use Rattle.pt_links.proofs.resolve.marked_places.Goals as goal

pub loop-number-preserved : goal.loop-number-preserved
loop-number-preserved c = λ entity text marked.
    let ports = c.args.ports.now in
    let n = c.loop-number.number in
    let port = c.index-ports-number.result in
    let counted : length (ports_view (take n ports)) ≡ n = length-map (take n ports) port_at ∙ length-take-le n ports (omega (arith, c.loop-number-test.true)) in
    c.in_ok-add_inside.ensures entity text (ports_view (take n ports)) marked counted (c.loop-number.invariant entity text marked)
    ∙ ap (position (names_inside entity text.now)) (ap (λ (p : PlacedPort). ports_view (take n ports) ++ port_at p ∷ []) c.index-ports-number.is ∙ sym (map_more port_at ports n port c.loop-number-test.true))

pub returns : goal.returns
returns c =
    let all = take_all c.loop-number.number c.args.ports.now c.loop-number-test.false in
    IfOk-weaker c.first_numbers.result _ _ (λ places known entity text marked. known (entity, text) ∙ ap (lookup (pair_eq (entity, text))) c.deref.ensures.value ∙ c.loop-number.invariant entity text marked ∙ ap (λ ps. position (names_inside entity text.now) (ports_view ps)) all) c.first_numbers.ensures
