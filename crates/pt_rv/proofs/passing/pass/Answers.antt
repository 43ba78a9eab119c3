use Rattle.std.proofs.Common.{◌≡◌, ◌+◌, ◌<◌, ap, sym, subst, Some, length, ◌∙◌}
use Rattle.pt_core.specs.Source.{source_of}
use Rattle.pt_value.specs.declared.token.Token.{Token}
use Rattle.pt_puts.specs.Puts.{put_of}
use Rattle.pt_rv_work.specs.Core.{Moving, passed_to}
use Rattle.pt_rv_plan.specs.Plan.{target_of}
use Rattle.pt_rv.specs.Parties.{moving_in, waiting, each, spare_at}
use Rattle.pt_rv.proofs.PassLaws.{channel-there, source-there, sender-free, some-put, passed-is, outlet-room, waits-passed, fit-passed, receives-still}
use Rattle.pt_rv.proofs.ShapeLaws.{SameShape, sent-shape, passed-shape, shape-free, takes-still}
use Rattle.pt_rv.proofs.passing.pass.Goals as goal

pub source-source-requires : goal.source-source-requires
source-source-requires c = channel-there c.args.plan.now c.args.parties.now c.args.channel (target_of c.args.target) c.requires.offered.0 c.requires.sound c.requires.fit c.requires.ends c.requires.offered.1

pub take_put-put-requires : goal.take_put-put-requires
take_put-put-requires c = record {
  sender = sender-free (source_of c.source-source.result) c.args.parties.now (source-there c.args.plan.now c.args.parties.now c.args.channel (source_of c.source-source.result) c.requires.sound c.requires.fit c.source-source.ensures) c.requires.free;
  some = some-put c.args.plan.now c.args.parties.now c.args.channel (target_of c.args.target) c.requires.offered.0 c.requires.sound c.requires.fit c.requires.ends c.requires.offered.1 (source_of c.source-source.result) c.source-source.ensures;
}

pub deliver-requires : goal.deliver-requires
deliver-requires c =
    receives-still c.args.plan.now c.args.parties.now c.take_put-put.new.parties (target_of c.args.target) (Some (source_of c.source-source.result)) c.requires.receives c.take_put-put.ensures.moved
    (λ k e. subst (λ os. (k < length os) × (0 < spare_at os k)) (sym c.take_put-put.ensures.outlets) (outlet-room c.args.plan.now c.args.parties.now c.args.channel (target_of c.args.target) c.requires.offered.0 c.requires.sound c.requires.fit c.requires.ends c.requires.offered.1 k e))
    (λ i place m. takes-still (Some (source_of c.source-source.result)) (moving_in c.args.parties.now) c.take_put-put.new.parties.team i place (ap (λ (y : Moving Token). y.processes) c.take_put-put.ensures.moved) m)
    (ap (λ (y : Moving Token). length y.processes) c.take_put-put.ensures.moved ∙ (sent-shape (Some (source_of c.source-source.result)) (moving_in c.args.parties.now)).long)

pub returns-clause-moved : goal.returns-clause-moved
returns-clause-moved c y o =
    passed-is c.args.plan.now c.args.parties.now c.args.channel (target_of c.args.target) y c.requires.sound c.requires.fit c.requires.ends o (source_of c.source-source.result) (put_of c.take_put-put.result) c.take_put-put.new.parties c.deliver.new.parties c.source-source.ensures c.take_put-put.ensures.put c.take_put-put.ensures.moved c.deliver.ensures.moved

pub returns-clause-fit : goal.returns-clause-fit
returns-clause-fit c =
    let m : moving_in c.deliver.new.parties ≡ passed_to c.args.plan.now.plan.net c.args.channel (target_of c.args.target) c.requires.offered.0 (moving_in c.args.parties.now) = passed-is c.args.plan.now c.args.parties.now c.args.channel (target_of c.args.target) c.requires.offered.0 c.requires.sound c.requires.fit c.requires.ends c.requires.offered.1 (source_of c.source-source.result) (put_of c.take_put-put.result) c.take_put-put.new.parties c.deliver.new.parties c.source-source.ensures c.take_put-put.ensures.put c.take_put-put.ensures.moved c.deliver.ensures.moved in
    fit-passed c.args.plan.now c.args.parties.now c.args.channel (target_of c.args.target) c.requires.offered.0 c.requires.sound c.requires.fit c.requires.ends c.requires.offered.1 c.deliver.new.parties m (ap (λ v. length v) c.deliver.ensures.inlets ∙ c.take_put-put.ensures.inlets) (c.deliver.ensures.outlets ∙ ap (λ v. length v) c.take_put-put.ensures.outlets) (λ o. c.deliver.ensures.room o ∙ ap (λ os. spare_at os o) c.take_put-put.ensures.outlets)

pub returns-clause-free : goal.returns-clause-free
returns-clause-free c =
    let m : moving_in c.deliver.new.parties ≡ passed_to c.args.plan.now.plan.net c.args.channel (target_of c.args.target) c.requires.offered.0 (moving_in c.args.parties.now) = passed-is c.args.plan.now c.args.parties.now c.args.channel (target_of c.args.target) c.requires.offered.0 c.requires.sound c.requires.fit c.requires.ends c.requires.offered.1 (source_of c.source-source.result) (put_of c.take_put-put.result) c.take_put-put.new.parties c.deliver.new.parties c.source-source.ensures c.take_put-put.ensures.put c.take_put-put.ensures.moved c.deliver.ensures.moved in
    shape-free c.args.parties.now.team c.deliver.new.parties.team (subst (λ (y : Moving Token). SameShape c.args.parties.now.team y.processes) (sym m) (passed-shape c.args.plan.now.plan.net c.args.channel (target_of c.args.target) c.requires.offered.0 (moving_in c.args.parties.now))) c.requires.free

pub returns-clause-fewer : goal.returns-clause-fewer
returns-clause-fewer c =
    let m : moving_in c.deliver.new.parties ≡ passed_to c.args.plan.now.plan.net c.args.channel (target_of c.args.target) c.requires.offered.0 (moving_in c.args.parties.now) = passed-is c.args.plan.now c.args.parties.now c.args.channel (target_of c.args.target) c.requires.offered.0 c.requires.sound c.requires.fit c.requires.ends c.requires.offered.1 (source_of c.source-source.result) (put_of c.take_put-put.result) c.take_put-put.new.parties c.deliver.new.parties c.source-source.ensures c.take_put-put.ensures.put c.take_put-put.ensures.moved c.deliver.ensures.moved in
    ap (λ (y : Moving Token). waiting each y + 1) m ∙ waits-passed c.args.plan.now c.args.parties.now c.args.channel (target_of c.args.target) c.requires.offered.0 c.requires.sound c.requires.fit c.requires.ends c.requires.offered.1 each
