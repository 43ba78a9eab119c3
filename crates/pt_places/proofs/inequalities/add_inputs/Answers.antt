use Rattle.std.proofs.Common.{◌≡◌, map, sym, ap, ◌∙◌, rules}
use Rattle.std.specs.Prelude.{option_map}
use Rattle.pt_inequalities.proofs.Steps.{first-mapped}
use Rattle.pt_document.specs.View.{input_view}
use Rattle.pt_frames.specs.Views.{port_numbers}
use Rattle.pt_inequalities.specs.Inequalities.{supply_view, of_inputs}
use Rattle.pt_places.proofs.Parts.{inputs-more}
use Rattle.pt_places.proofs.inequalities.add_inputs.Goals as goal

pub loop-index-preserved : goal.loop-index-preserved
loop-index-preserved c =
    let i = c.loop-index.index in
    let input = c.index-inputs-index.result in
    let same : c.as_str.result.now ≡ input.port = search rules in
    inputs-more (port_numbers c.args.ports.now) c.args.inputs.now c.args.supplies.now i input c.get-port.result (option_map (λ ts. supply_view ts.now) c.supply_at.result) c.args.inequalities.now.items c.loop-index.inequalities.items c.add_supply.new.inequalities.items
    (of_inputs (port_numbers c.args.ports.now) (map input_view c.args.inputs.now) (map supply_view c.args.supplies.now)) c.loop-index-test.true c.index-inputs-index.is
    (c.get-port.ensures ∙ ap (port_numbers c.args.ports.now) same) (first-mapped supply_view c.args.supplies.now i ∙ sym c.supply_at.ensures) c.loop-index.invariant c.in_ok-add_supply.ensures
