use Rattle.std.proofs.Common.{true, ap, ◌∙◌, sym, arith, length-set}
use Rattle.pt_sr.specs.State.{all_of}
use Rattle.pt_sr.specs.Given.{gifts}
use Rattle.pt_sr.proofs.TickLaws.{child-there, given-moves, given-channels, given-long, told-is}
use Rattle.pt_sr.proofs.tick.Tick.told.Goals as goal

pub index-row-requires : goal.index-row-requires
index-row-requires c = omega (arith, child-there c.self.inside c.args.self.now c.args.child c.self.view_is c.requires, c.self.invariant.fed.targets.counted, c.self.inside.feeds.ok.0)

pub stage_outputs-requires : goal.stage_outputs-requires
stage_outputs-requires c = given-moves c.self.inside c.self.invariant c.args.child (child-there c.self.inside c.args.self.now c.args.child c.self.view_is c.requires) c.index-row.result.now c.index-row.ensures c.deref.result.now c.deref.ensures.value

pub deliver-requires : goal.deliver-requires
deliver-requires c = record { there = given-channels c.self.inside c.self.invariant c.args.child (child-there c.self.inside c.args.self.now c.args.child c.self.view_is c.requires) c.index-row.result.now c.index-row.ensures c.deref-2.result.now c.deref-2.ensures.value }

pub index_mut-requires : goal.index_mut-requires
index_mut-requires c = omega (arith, child-there c.self.inside c.args.self.now c.args.child c.self.view_is c.requires, c.self.invariant.fired, c.self.inside.fired.ok.0)

pub invariant_of-self-2 : goal.invariant_of-self-2
invariant_of-self-2 c = record {
  lawful = c.self.invariant.lawful;
  offsets = c.self.invariant.offsets;
  fed = c.self.invariant.fed;
  signals =
      given-long c.self.inside c.self.invariant c.args.child (child-there c.self.inside c.args.self.now c.args.child c.self.view_is c.requires) c.index-row.result.now c.index-row.ensures (all_of c.args.outputs) c.deref-2.result.now c.deliver.new.signals c.deref-2.ensures.value
      (c.deliver.ensures (all_of c.args.outputs) (c.in_ok-stage_outputs.ensures ∙ ap (λ v. gifts (all_of c.args.outputs) v) (c.deref.ensures.value ∙ sym c.deref-2.ensures.value)));
  fired = length-set c.self.inside.fired.items c.args.child true ∙ c.self.invariant.fired;
  heard = c.self.invariant.heard;
}

pub returns-clause-told : goal.returns-clause-told
returns-clause-told c =
    told-is c.self.inside c.self.invariant c.args.child (child-there c.self.inside c.args.self.now c.args.child c.self.view_is c.requires) c.index-row.result.now c.index-row.ensures c.args.outputs c.deref-2.result.now c.deliver.new.signals c.deref-2.ensures.value
    (c.deliver.ensures (all_of c.args.outputs) (c.in_ok-stage_outputs.ensures ∙ ap (λ v. gifts (all_of c.args.outputs) v) (c.deref.ensures.value ∙ sym c.deref-2.ensures.value))) c.args.self.now c.self.view_is
