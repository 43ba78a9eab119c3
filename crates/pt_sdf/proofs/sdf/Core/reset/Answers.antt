use Rattle.std.proofs.Common.{arith, length, ap, ◌∙◌, sym, subst, refl}
use Rattle.pt_sdf.specs.declared.sdf.Stage.TheVariants as code
use Rattle.pt_sdf.specs.State.{restarted}
use Rattle.pt_sdf.specs.Clauses.{State}
use Rattle.pt_sdf_parts.specs.Plan.{plan_of}
use Rattle.pt_sdf_parts.specs.Rooms.{HaveRooms}
use Rattle.pt_sdf.specs.Core.{Sound, order_in}
use Rattle.pt_sdf.proofs.SoundLaws.{start-sound}
use Rattle.pt_sdf.proofs.CallLaws.{new-state}
use Rattle.pt_sdf.proofs.CoreLaws.{seen-restarted}
use Rattle.pt_sdf.proofs.sdf.Core.reset.Goals as goal

pub invariant_of-self : goal.invariant_of-self
invariant_of-self c =
    record {
      sound =
          subst (λ v. Sound (plan_of c.self.inside.plan) c.self.inside.plan.needs (order_in c.self.inside) c.self.inside.plan.room c.self.inside.tables.offsets.items c.self.inside.tables.feeds.items c.self.inside.first.lists v c.in_ok-rooms.rooms.items c.self.inside.lent.items c.self.inside.staged.list 0 0 0 code.Idle)
          (sym c.in_ok-self-inside.ensures)
          (start-sound (plan_of c.self.inside.plan) c.self.inside.plan.needs (order_in c.self.inside) c.self.inside.plan.room c.self.inside.tables.offsets.items c.self.inside.tables.feeds.items c.self.inside.first.lists c.in_ok-rooms.rooms.items c.self.inside.lent.items c.self.inside.staged.list c.self.invariant.sound.lawful
          c.self.invariant.sound.places_begin c.self.invariant.sound.fed (c.in_ok-rooms.ensures.counted ∙ ap (λ v. length v) c.as_slice.ensures) (subst (λ v. HaveRooms v c.in_ok-rooms.rooms.items 0 (length v)) c.as_slice.ensures c.in_ok-rooms.ensures.made) c.self.invariant.sound.lists c.self.invariant.sound.none_staged);
      stretch = λ h. absurd (omega (arith, h));
      lanes = c.self.invariant.lanes;
    }

pub returns-clause-reset : goal.returns-clause-reset
returns-clause-reset c =
    new-state (plan_of c.self.inside.plan) c.self.inside.plan.needs (order_in c.self.inside) c.self.inside.first.lists c.self.inside.first.lists c.in_ok-self-inside.field-0.lists c.self.inside.lent.items refl c.in_ok-self-inside.ensures c.self.invariant.sound.lawful.repetitions ∙
    seen-restarted c.self.inside ∙ ap (λ (s : State). restarted s) c.self.view_is
