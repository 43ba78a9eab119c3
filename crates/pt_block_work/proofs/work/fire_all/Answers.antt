use Rattle.std.proofs.Common.{◌≡◌, ℕ, ◌<◌, length, get_or, refl, sym, ap, subst, ◌∙◌, arith}
use Rattle.pt_sdf_parts.specs.Plan.{plan_of}
use Rattle.pt_block_work.specs.Work.{HasFired, AllGiven}
use Rattle.pt_block_work.proofs.WorkingLaws.{Working, goes-on, working-ends}
use Rattle.pt_block_work.proofs.work.fire_all.Goals as goal

pub loop-k-preserved : goal.loop-k-preserved
loop-k-preserved c =
    let p = plan_of c.args.plan.now in
    let i : ℕ = get_or c.args.order.now c.loop-k.k 0 in
    let there : i < length p.net.places = omega (arith, c.if-i-len.false, c.len.ensures, c.loop-k.invariant.fits.children) in
    goes-on p c.args.plan.now.needs c.args.iterations c.args.actors.now.items c.loop-k.actors.items c.loop-k.given.items c.loop-k.invariant i (get_or c.args.offsets.now i 0) c.index_mut-actor.result.now c.fire_child.new.actor c.fire_child.new.given.items there (c.requires.offsets.each i there)
    (subst (λ a. HasFired p c.args.plan.now.needs (get_or c.args.offsets.now i 0) i c.args.iterations a c.loop-k.given.items c.fire_child.new.actor c.fire_child.new.given.items) c.index_mut-actor.ensures.value (c.if-not-fire_child.ensures refl))

pub returns : goal.returns
returns c = λ t. working-ends (plan_of c.args.plan.now) c.args.plan.now.needs c.args.iterations c.args.actors.now.items c.loop-k.actors.items c.loop-k.given.items c.loop-k.invariant (subst (λ v. AllGiven v) c.deref.ensures.value (c.all_given.ensures t))
