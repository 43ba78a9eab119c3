use Rattle.std.proofs.Common.{◌++◌, map, Option, option_to_list, filter_map, ap, ◌∙◌, Bor}
use Rattle.std.specs.Prelude.{slice_get}
use Rattle.pt_net.specs.declared.net.NetEntity.{NetEntity}
use Rattle.pt_machines.proofs.ChildLaws.{found-more, found-all}
use Rattle.pt_machines.proofs.children.entities_at.Goals as goal

pub loop-number-preserved : goal.loop-number-preserved
loop-number-preserved c =
    let old = map (λ (e : Bor NetEntity). e.now) c.loop-number.found.items in
    found-more (λ k. slice_get c.args.entities.now k) c.args.numbers.now c.loop-number.number-index _ old (map (λ (e : Bor NetEntity). e.now) c.add_entity.new.found.items) (filter_map (λ k. slice_get c.args.entities.now k) c.args.numbers.now) c.loop-number-test.true c.loop-number.invariant
    (c.in_ok-add_entity.ensures ∙ ap (λ (o : Option NetEntity). old ++ option_to_list o) c.entity_at.ensures)

pub returns : goal.returns
returns c =
    found-all (λ k. slice_get c.args.entities.now k) c.args.numbers.now c.loop-number.number-index (map (λ (e : Bor NetEntity). e.now) c.loop-number.found.items) (filter_map (λ k. slice_get c.args.entities.now k) c.args.numbers.now) c.loop-number-test.false c.loop-number.invariant
