use Rattle.std.proofs.Common.{length, ap, arith}
use Rattle.pt_rv_laws.specs.RvActs.{State}
use Rattle.pt_rv.proofs.rv.Core.first_missing.Goals as goal

pub places-place-end-requires : goal.places-place-end-requires
places-place-end-requires c = let v = ap (λ (s : State). length s.processes.plan.net.places) c.self.view_is in omega (arith, v, c.requires)

pub channel_at-channel-requires : goal.channel_at-channel-requires
channel_at-channel-requires c = record {
  there = let v = ap (λ (s : State). length s.processes.plan.net.places) c.self.view_is in omega (arith, v, c.requires);
  within = let l = c.loop-place-test.true in let e = c.places-place-end.ensures in omega (arith, l, e);
}

pub is_offered-offered-requires : goal.is_offered-offered-requires
is_offered-offered-requires c = record { sound = c.self.invariant.kept.sound; fit = c.self.invariant.kept.fit }
