use Rattle.std.proofs.Common.{get_or, ap, ◌∙◌, sym, arith}
use Rattle.pt_sr.specs.State.{all_of}
use Rattle.pt_sr.specs.Given.{gifts}
use Rattle.pt_sr.proofs.TickLaws.{own-channels, own-long, begun-is}
use Rattle.pt_sr.proofs.tick.Tick.begin.Goals as goal

pub index-row-requires : goal.index-row-requires
index-row-requires c = omega (arith, c.len.ensures, c.self.invariant.fed.targets.counted, c.self.inside.feeds.ok.0)

pub deliver-requires : goal.deliver-requires
deliver-requires c = record { there = own-channels c.self.inside c.self.invariant c.args.self.now c.self.view_is c.requires c.index-row.result.now (c.index-row.ensures ∙ ap (λ n. get_or c.self.inside.feeds.items n c.index-row.result.now) c.len.ensures) c.deref-2.result.now c.deref-2.ensures.value }

pub invariant_of-self-2 : goal.invariant_of-self-2
invariant_of-self-2 c = record {
  lawful = c.self.invariant.lawful;
  offsets = c.self.invariant.offsets;
  fed = c.self.invariant.fed;
  signals =
      own-long c.self.inside c.self.invariant c.args.self.now c.self.view_is c.requires c.index-row.result.now (c.index-row.ensures ∙ ap (λ n. get_or c.self.inside.feeds.items n c.index-row.result.now) c.len.ensures) c.args.inputs.now c.deref-2.result.now c.deliver.new.signals c.deref-2.ensures.value
      (c.deliver.ensures (all_of c.args.inputs.now) (c.in_ok-stage_inputs.ensures ∙ ap (λ v. gifts (all_of c.args.inputs.now) v) (c.deref.ensures.value ∙ sym c.deref-2.ensures.value)));
  fired = c.self.invariant.fired;
  heard = c.self.invariant.heard;
}

pub returns-clause-begun : goal.returns-clause-begun
returns-clause-begun c =
    begun-is c.self.inside c.self.invariant c.args.self.now c.self.view_is c.requires c.index-row.result.now (c.index-row.ensures ∙ ap (λ n. get_or c.self.inside.feeds.items n c.index-row.result.now) c.len.ensures) c.args.inputs.now c.deref-2.result.now c.deliver.new.signals c.deref-2.ensures.value
    (c.deliver.ensures (all_of c.args.inputs.now) (c.in_ok-stage_inputs.ensures ∙ ap (λ v. gifts (all_of c.args.inputs.now) v) (c.deref.ensures.value ∙ sym c.deref-2.ensures.value)))
