use Rattle.std.proofs.Common.{length, ap, arith}
use Rattle.pt_rv_laws.specs.RvActs.{State}
use Rattle.pt_rv.proofs.rv.Core.channel_to.Goals as goal

pub places-requires : goal.places-requires
places-requires c = let v = ap (λ (s : State). length s.processes.plan.net.places) c.self.view_is in omega (arith, v, c.requires)

pub channel_at-requires : goal.channel_at-requires
channel_at-requires c = record {
  there = let v = ap (λ (s : State). length s.processes.plan.net.places) c.self.view_is in omega (arith, v, c.requires);
  within = let l = c.if-place-places.false in let e = c.places.ensures in omega (arith, l, e);
}
