use Rattle.std.proofs.Common.{◌+◌, ap, arith}
use Rattle.pt_pn.proofs.StepLaws.{in-net, place-channel, place-few, empty-stops, some-gets}
use Rattle.pt_pn.proofs.NotedLaws.{token-now}
use Rattle.pt_pn.proofs.pn.Core.look_at_get.Goals as goal

pub offset-requires : goal.offset-requires
offset-requires c = let h = in-net c.self.inside c.self.invariant c.args.self.now c.self.view_is c.args.process c.requires.there in omega (arith, h)

pub overflow_add-channel : goal.overflow_add-channel
overflow_add-channel c = let h = place-few c.self.inside c.self.invariant c.args.self.now c.self.view_is c.args.process c.args.place c.requires.there c.requires.lacks in omega (arith, h, c.offset.ensures)

pub overflow_cast-channel : goal.overflow_cast-channel
overflow_cast-channel c = let h = place-few c.self.inside c.self.invariant c.args.self.now c.self.view_is c.args.process c.args.place c.requires.there c.requires.lacks in omega (arith, h, c.offset.ensures)

pub len-requires : goal.len-requires
len-requires c = let h = place-channel c.self.inside c.self.invariant c.args.self.now c.self.view_is c.args.process c.args.place c.requires.there c.requires.lacks in omega (arith, h, c.offset.ensures)

pub returns-then-len-eq0 : goal.returns-then-len-eq0
returns-then-len-eq0 c = (empty-stops c.self.inside c.self.invariant c.args.self.now c.self.view_is c.args.process c.args.place (c.offset.result + c.args.place) c.len.result c.requires.lacks (ap (λ o. o + c.args.place) c.offset.ensures) c.len.ensures c.if-len-eq0.true, c.self.view_is)

pub invariant_of-self : goal.invariant_of-self
invariant_of-self c = record {
  kept = c.self.invariant.kept;
  stage = c.self.invariant.stage;
  settled = token-now c.self.inside c.self.invariant c.args.self.now c.self.view_is c.args.process c.args.place (c.offset.result + c.args.place) c.len.result c.requires.there c.requires.lacks (ap (λ o. o + c.args.place) c.offset.ensures) c.len.ensures c.if-len-eq0.true c.await_token.new.self c.await_token.ensures;
}

pub get-requires-clause-may : goal.get-requires-clause-may
get-requires-clause-may c =
    let some = c.if-len-eq0.false in
    some-gets c.self.inside c.self.invariant c.args.self.now c.self.view_is c.args.process c.args.place (c.offset.result + c.args.place) c.len.result c.requires.there c.requires.lacks (ap (λ o. o + c.args.place) c.offset.ensures) c.len.ensures (omega (arith, some))
