use Rattle.std.proofs.Common.{arith, ◌∙◌, sym, subst, refl}
use Rattle.pt_sdf.specs.declared.sdf.Stage.TheVariants as code
use Rattle.pt_sdf_parts.specs.Plan.{plan_of, order_of}
use Rattle.pt_sdf.specs.Core.{Sound}
use Rattle.pt_sdf.proofs.SoundLaws.{start-sound}
use Rattle.pt_sdf.proofs.CallLaws.{new-state}
use Rattle.pt_sdf.proofs.sdf.Core.new.Goals as goal

pub invariant_of-result : goal.invariant_of-result
invariant_of-result c =
    let made = c.in-Ok.ensures in
    record {
      sound =
          subst (λ v. Sound (plan_of c.args.plan) c.args.plan.needs (order_of c.args.plan) c.args.plan.room c.in-Ok.made.tables.offsets.items c.in-Ok.made.tables.feeds.items c.args.first.lists v c.in-Ok.made.rooms.items c.in-Ok.lent.items c.new.result.list 0 0 0 code.Idle) (sym made.channels)
          (start-sound (plan_of c.args.plan) c.args.plan.needs (order_of c.args.plan) c.args.plan.room c.in-Ok.made.tables.offsets.items c.in-Ok.made.tables.feeds.items c.args.first.lists c.in-Ok.made.rooms.items c.in-Ok.lent.items c.new.result.list c.requires.lawful
          made.tables.begin made.tables.fed made.counted made.rooms (made.lent ∙ c.requires.lawful.needed) c.new.ensures);
      stretch = λ h. absurd (omega (arith, h));
      lanes = made.tables.lanes;
    }

pub returns-in-Ok : goal.returns-in-Ok
returns-in-Ok c = new-state (plan_of c.args.plan) c.args.plan.needs (order_of c.args.plan) c.args.first.lists c.args.first.lists c.in-Ok.made.channels.lists c.in-Ok.lent.items refl c.in-Ok.ensures.channels c.requires.lawful.repetitions
