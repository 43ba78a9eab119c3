use Rattle.std.proofs.Common.{◌<◌, ◌≤◌, ap, sym, length, get_or, ◌∙◌, arith}
use Rattle.pt_meaning.specs.Meetings.{Place, target_from}
use Rattle.pt_laws.proofs.MeetingIndex.{targets-are}
use Rattle.pt_rv_work.specs.Core.{nobody, offer_in, passed_to}
use Rattle.pt_rv.specs.Parties.{moving_in}
use Rattle.pt_rv.proofs.BarrierLaws.{none-so-far, offered-still, takes-still, one-more, level-again, all-so-far}
use Rattle.pt_rv.proofs.NextLaws.{joins-lacks}
use Rattle.pt_rv.proofs.passing.pass_all.Goals as goal

pub places-place-end-requires : goal.places-place-end-requires
places-place-end-requires c = c.requires.joins.there

pub loop-place-init : goal.loop-place-init
loop-place-init c = record {
  so_far = none-so-far c.args.plan.now.plan.net c.args.barrier (moving_in c.args.parties.now);
  fit = c.requires.fit;
  free = c.requires.free;
  fewer = omega arith;
}

pub channel_at-channel-requires : goal.channel_at-channel-requires
channel_at-channel-requires c = record {
  there = c.requires.joins.there;
  within = let l = c.loop-place-test.true in let e = c.places-place-end.ensures in omega (arith, l, e);
}

pub pass-requires : goal.pass-requires
pass-requires c =
    let within : c.loop-place.place < get_or c.args.plan.now.plan.net.places c.args.barrier 0 = (let l = c.loop-place-test.true in let e = c.places-place-end.ensures in omega (arith, l, e)) in
    let team : c.args.barrier < length c.args.parties.now.team = (let a = c.requires.joins.there in let b = c.requires.fit.there in omega (arith, a, b)) in
    let got : c.loop-place.place < length (get_or c.args.parties.now.team c.args.barrier nobody).got = (let e = c.requires.fit.placed c.args.barrier team in omega (arith, e, within)) in
    let o = offered-still c.args.plan.now c.args.parties.now c.args.barrier c.requires.fit.told c.requires.joins c.requires.level (moving_in c.loop-place.parties) c.loop-place.place c.loop-place.invariant.so_far within in
    let ch = c.channel_at-channel.ensures in
    record {
      sound = c.requires.sound;
      fit = c.loop-place.invariant.fit;
      free = c.loop-place.invariant.free;
      ends = sym (ap (λ k. target_from 0 c.args.plan.now.plan.net.places k) ch ∙ targets-are.places c.args.plan.now.plan.net.places c.args.barrier c.loop-place.place c.requires.joins.there within);
      offered = (o.0, ap (λ k. offer_in c.args.plan.now.plan.net (moving_in c.loop-place.parties) k) ch ∙ o.1);
      receives = (let n = c.loop-place.invariant.so_far.shape.long in omega (arith, n, team), takes-still c.args.plan.now c.args.parties.now c.args.barrier c.requires.fit.told c.requires.joins c.requires.level (moving_in c.loop-place.parties) c.loop-place.place c.loop-place.invariant.so_far c.loop-place.invariant.free got);
    }

pub loop-place-preserved : goal.loop-place-preserved
loop-place-preserved c =
    let within : c.loop-place.place < get_or c.args.plan.now.plan.net.places c.args.barrier 0 = (let l = c.loop-place-test.true in let e = c.places-place-end.ensures in omega (arith, l, e)) in
    let team : c.args.barrier < length c.args.parties.now.team = (let a = c.requires.joins.there in let b = c.requires.fit.there in omega (arith, a, b)) in
    let got : c.loop-place.place < length (get_or c.args.parties.now.team c.args.barrier nobody).got = (let e = c.requires.fit.placed c.args.barrier team in omega (arith, e, within)) in
    let o = offered-still c.args.plan.now c.args.parties.now c.args.barrier c.requires.fit.told c.requires.joins c.requires.level (moving_in c.loop-place.parties) c.loop-place.place c.loop-place.invariant.so_far within in
    let ch = c.channel_at-channel.ensures in
    record {
      so_far = one-more c.args.plan.now c.args.parties.now c.args.barrier c.requires.fit.told c.requires.joins c.requires.level (moving_in c.loop-place.parties) (moving_in c.pass.new.parties) c.loop-place.place o.0 c.loop-place.invariant.so_far within team got o.2 (c.pass.ensures.moved o.0 (ap (λ k. offer_in c.args.plan.now.plan.net (moving_in c.loop-place.parties) k) ch ∙ o.1) ∙ ap (λ k. passed_to c.args.plan.now.plan.net k (Place c.args.barrier c.loop-place.place) o.0 (moving_in c.loop-place.parties)) ch);
      fit = c.pass.ensures.fit;
      free = c.pass.ensures.free;
      fewer = let a = c.pass.ensures.fewer in let b = c.loop-place.invariant.fewer in omega (arith, a, b);
    }

pub returns : goal.returns
returns c =
    let past : get_or c.args.plan.now.plan.net.places c.args.barrier 0 ≤ c.loop-place.place = (let l = c.loop-place-test.false in let e = c.places-place-end.ensures in omega (arith, l, e)) in
    let team : c.args.barrier < length c.args.parties.now.team = (let a = c.requires.joins.there in let b = c.requires.fit.there in omega (arith, a, b)) in
    record {
      moved = all-so-far c.args.plan.now c.args.parties.now c.args.barrier c.requires.fit.told c.requires.joins c.requires.level (moving_in c.loop-place.parties) c.loop-place.place c.loop-place.invariant.so_far past;
      fit = c.loop-place.invariant.fit;
      free = c.loop-place.invariant.free;
      level = level-again c.args.plan.now c.args.parties.now c.args.barrier c.requires.fit.told c.requires.joins c.requires.level (moving_in c.loop-place.parties) c.loop-place.place c.loop-place.invariant.so_far (let e = c.requires.fit.placed c.args.barrier team in omega (arith, e, past));
      fewer = let a = c.loop-place.invariant.fewer in let l = (joins-lacks (get_or c.args.parties.now.team c.args.barrier nobody) c.requires.joins.joins).there in let e = c.requires.fit.placed c.args.barrier team in omega (arith, a, l, e, past);
    }
