use Rattle.std.proofs.Common.{ap, subst, sym, ◌∙◌}
use Rattle.pt_recv.specs.Lines.{Lines}
use Rattle.pt_value.specs.declared.token.Token.{Token}
use Rattle.pt_sched.specs.Stretches.{spread}
use Rattle.pt_sdf_parts.specs.Plan.{plan_of, order_of}
use Rattle.pt_sdf.specs.Core.{order_in, at_in}
use Rattle.pt_sdf_parts.specs.Stretches.{place_at, IsWithin}
use Rattle.pt_sdf.proofs.CallLaws.{plan-same, copy-sound}
use Rattle.pt_sdf.proofs.sdf.Core.copy.Goals as goal

pub invariant_of-result : goal.invariant_of-result
invariant_of-result c =
    let same = c.in_ok-plan.ensures in
    record {
      sound =
          copy-sound (plan_of c.self.inside.plan) (plan_of c.in_ok-plan.plan) c.self.inside.plan.needs c.in_ok-plan.plan.needs (order_in c.self.inside) (order_of c.in_ok-plan.plan) c.self.inside.plan.room c.in_ok-plan.plan.room c.self.inside.tables.offsets.items c.in-Ok.copied.made.tables.offsets.items
          c.self.inside.tables.feeds.items c.in-Ok.copied.made.tables.feeds.items c.self.inside.first.lists c.in-Ok.copied.first.lists c.self.inside.channels.lists c.in-Ok.copied.made.channels.lists c.self.inside.rooms.items c.in-Ok.copied.made.rooms.items c.self.inside.lent.items c.in-Ok.copied.lent.items
          c.self.inside.staged.list c.new.result.list c.self.inside.turns c.self.inside.left (at_in c.self.inside) (place_at c.self.inside.at c.self.inside.done c.in_ok-plan.plan.order.items) c.self.inside.stage c.self.invariant.sound (plan-same c.self.inside.plan c.in_ok-plan.plan same) same.needs (ap spread same.order) same.room
          c.in-Ok.ensures.tables.begin c.in-Ok.ensures.tables.fed (ap (λ (l : Lines Token). l.lists) c.in-Ok.ensures.first) (ap (λ (l : Lines Token). l.lists) c.in-Ok.ensures.channels)
          c.in-Ok.ensures.counted c.in-Ok.ensures.rooms
          (c.in-Ok.ensures.lent ∙ c.deref.ensures.value) c.new.ensures (ap (place_at c.self.inside.at c.self.inside.done) same.order);
      stretch = λ h. subst (λ v. IsWithin v c.self.inside.at c.self.inside.done) (sym same.order) (c.self.invariant.stretch h);
      lanes = c.in-Ok.ensures.tables.lanes;
    }
