use Rattle.std.proofs.Common.{ap, ◌∙◌, sym, arith}
use Rattle.pt_sr.specs.State.{known_of}
use Rattle.pt_sr.specs.Given.{gifts}
use Rattle.pt_sr.proofs.TickLaws.{child-there, given-channels, given-long, heard-is}
use Rattle.pt_sr.proofs.tick.Tick.hears.Goals as goal

pub index-row-requires : goal.index-row-requires
index-row-requires c = omega (arith, child-there c.self.inside c.args.self.now c.args.child c.self.view_is c.requires, c.self.invariant.fed.targets.counted, c.self.inside.feeds.ok.0)

pub deliver-requires : goal.deliver-requires
deliver-requires c = record { there = given-channels c.self.inside c.self.invariant c.args.child (child-there c.self.inside c.args.self.now c.args.child c.self.view_is c.requires) c.index-row.result.now c.index-row.ensures c.deref-2.result.now c.deref-2.ensures.value }

pub invariant_of-self-2 : goal.invariant_of-self-2
invariant_of-self-2 c = record {
  lawful = c.self.invariant.lawful;
  offsets = c.self.invariant.offsets;
  fed = c.self.invariant.fed;
  signals =
      given-long c.self.inside c.self.invariant c.args.child (child-there c.self.inside c.args.self.now c.args.child c.self.view_is c.requires) c.index-row.result.now c.index-row.ensures (known_of c.args.early.now) c.deref-2.result.now c.deliver.new.signals c.deref-2.ensures.value
      (c.deliver.ensures (known_of c.args.early.now) (c.in_ok-stage_partial.ensures ∙ ap (λ v. gifts (known_of c.args.early.now) v) (c.deref.ensures.value ∙ sym c.deref-2.ensures.value)));
  fired = c.self.invariant.fired;
  heard = c.self.invariant.heard;
}

pub returns-clause-heard : goal.returns-clause-heard
returns-clause-heard c =
    heard-is c.self.inside c.self.invariant c.args.child (child-there c.self.inside c.args.self.now c.args.child c.self.view_is c.requires) c.index-row.result.now c.index-row.ensures c.args.early.now c.deref-2.result.now c.deliver.new.signals c.deref-2.ensures.value
    (c.deliver.ensures (known_of c.args.early.now) (c.in_ok-stage_partial.ensures ∙ ap (λ v. gifts (known_of c.args.early.now) v) (c.deref.ensures.value ∙ sym c.deref-2.ensures.value))) c.args.self.now c.self.view_is
