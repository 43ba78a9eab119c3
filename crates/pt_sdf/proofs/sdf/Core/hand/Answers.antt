use Rattle.std.proofs.Common.{◌≡◌, ℕ, ◌+◌, ◌⊎◌, None, ◌<◌, ◌≤◌, [], length, get_or, take, drop, refl, ap, ◌∙◌, sym, subst, arith, inl}
use Rattle.pt_meaning.specs.Kahn.{firsts}
use Rattle.pt_sdf_parts.specs.ByNeed.{skip_at}
use Rattle.pt_sdf.specs.State.{handed}
use Rattle.pt_sdf.specs.Clauses.{State}
use Rattle.pt_sdf_parts.specs.Rooms.{HaveRooms}
use Rattle.pt_sdf.specs.declared.sdf.Stage.TheVariants as code
use Rattle.pt_sdf_parts.proofs.TableLaws.{begins-long}
use Rattle.pt_sdf.proofs.CoreLaws.{seen-at, asked-fits, asked-lists, asked-enough, asked-rooms, asked-sound, asked-state}
use Rattle.pt_sdf.proofs.HandLaws.{reopened, reopened-sound, reopened-left, reopened-next, busy-there}
use Rattle.pt_sdf.proofs.sdf.Core.hand.Goals as goal

pub index-from-requires : goal.index-from-requires
index-from-requires c =
    omega (arith, busy-there c.self.inside c.self.invariant.sound c.in-Asked.child (inl c.in-Asked.is), ap (λ v. length v) c.self.invariant.sound.places_begin, c.self.inside.tables.offsets.ok.0, begins-long 0 c.self.inside.plan.places)

pub gather-requires-clause-places : goal.gather-requires-clause-places
gather-requires-clause-places c = (asked-fits (reopened c.self.inside) (reopened-sound c.self.inside c.self.invariant.sound c.in-Asked.child c.in-Asked.is) refl (reopened-left c.self.inside c.self.invariant.sound c.in-Asked.child c.in-Asked.is) c.in-Asked.child (reopened-next c.self.inside c.self.invariant.sound c.in-Asked.child c.in-Asked.is) c.index-from.result.now _ c.index-from.ensures (ap (λ v. get_or v c.in-Asked.child 0) c.as_slice.ensures)).0

pub gather-requires-clause-needed : goal.gather-requires-clause-needed
gather-requires-clause-needed c = subst (λ v. c.index-from.result.now + get_or c.as_slice.result.now c.in-Asked.child 0 ≤ length v) (sym c.as_slice-in-Asked.ensures) (asked-fits (reopened c.self.inside) (reopened-sound c.self.inside c.self.invariant.sound c.in-Asked.child c.in-Asked.is) refl (reopened-left c.self.inside c.self.invariant.sound c.in-Asked.child c.in-Asked.is) c.in-Asked.child (reopened-next c.self.inside c.self.invariant.sound c.in-Asked.child c.in-Asked.is) c.index-from.result.now _ c.index-from.ensures (ap (λ v. get_or v c.in-Asked.child 0) c.as_slice.ensures)).1

pub gather-requires-clause-roomy : goal.gather-requires-clause-roomy
gather-requires-clause-roomy c = (asked-fits (reopened c.self.inside) (reopened-sound c.self.inside c.self.invariant.sound c.in-Asked.child c.in-Asked.is) refl (reopened-left c.self.inside c.self.invariant.sound c.in-Asked.child c.in-Asked.is) c.in-Asked.child (reopened-next c.self.inside c.self.invariant.sound c.in-Asked.child c.in-Asked.is) c.index-from.result.now _ c.index-from.ensures (ap (λ v. get_or v c.in-Asked.child 0) c.as_slice.ensures)).2

pub gather-requires-clause-lists : goal.gather-requires-clause-lists
gather-requires-clause-lists c = asked-lists (reopened c.self.inside) (reopened-sound c.self.inside c.self.invariant.sound c.in-Asked.child c.in-Asked.is) refl (reopened-left c.self.inside c.self.invariant.sound c.in-Asked.child c.in-Asked.is) c.in-Asked.child (reopened-next c.self.inside c.self.invariant.sound c.in-Asked.child c.in-Asked.is) c.index-from.result.now _ c.index-from.ensures (ap (λ v. get_or v c.in-Asked.child 0) c.as_slice.ensures)

pub gather-requires-clause-enough : goal.gather-requires-clause-enough
gather-requires-clause-enough c k h =
    subst (λ v. get_or v (c.index-from.result.now + k) 0 ≤ length (get_or c.self.inside.channels.lists (c.index-from.result.now + k) [])) (sym c.as_slice-in-Asked.ensures)
    (asked-enough (reopened c.self.inside) (reopened-sound c.self.inside c.self.invariant.sound c.in-Asked.child c.in-Asked.is) refl (reopened-left c.self.inside c.self.invariant.sound c.in-Asked.child c.in-Asked.is) c.in-Asked.child (reopened-next c.self.inside c.self.invariant.sound c.in-Asked.child c.in-Asked.is) c.index-from.result.now _ c.index-from.ensures (ap (λ v. get_or v c.in-Asked.child 0) c.as_slice.ensures) k h)

pub gather-requires-clause-room : goal.gather-requires-clause-room
gather-requires-clause-room c =
    subst (λ v. HaveRooms v c.self.inside.rooms.items c.index-from.result.now (get_or c.as_slice.result.now c.in-Asked.child 0)) (sym c.as_slice-in-Asked.ensures)
    (asked-rooms (reopened c.self.inside) (reopened-sound c.self.inside c.self.invariant.sound c.in-Asked.child c.in-Asked.is) refl (reopened-left c.self.inside c.self.invariant.sound c.in-Asked.child c.in-Asked.is) c.in-Asked.child (reopened-next c.self.inside c.self.invariant.sound c.in-Asked.child c.in-Asked.is) c.index-from.result.now _ c.index-from.ensures (ap (λ v. get_or v c.in-Asked.child 0) c.as_slice.ensures))

pub invariant_of-self : goal.invariant_of-self
invariant_of-self c =
    record {
      sound =
          asked-sound (reopened c.self.inside) (reopened-sound c.self.inside c.self.invariant.sound c.in-Asked.child c.in-Asked.is) refl (reopened-left c.self.inside c.self.invariant.sound c.in-Asked.child c.in-Asked.is) c.in-Asked.child (reopened-next c.self.inside c.self.invariant.sound c.in-Asked.child c.in-Asked.is) c.index-from.result.now _ c.index-from.ensures (ap (λ v. get_or v c.in-Asked.child 0) c.as_slice.ensures)
          c.gather.new.channels.lists c.gather.new.lent.items c.gather.new.rooms.items
          (c.gather.ensures.left ∙ ap (λ v. skip_at c.index-from.result.now (take (get_or c.as_slice.result.now c.in-Asked.child 0) (drop c.index-from.result.now v)) c.self.inside.channels.lists) c.as_slice-in-Asked.ensures)
          (subst (λ v. (k : ℕ) → (k < c.index-from.result.now) ⊎ (c.index-from.result.now + get_or c.as_slice.result.now c.in-Asked.child 0 ≤ k) ⊎ (get_or v k 0 ≤ 1) → get_or c.gather.new.rooms.items k None ≡ get_or c.self.inside.rooms.items k None) c.as_slice-in-Asked.ensures c.gather.ensures.others)
          c.gather.ensures.rooms c.gather.ensures.counted;
      stretch = c.self.invariant.stretch;
      lanes = c.self.invariant.lanes;
    }

pub returns-in-Asked : goal.returns-in-Asked
returns-in-Asked c =
    asked-state (reopened c.self.inside) (reopened-sound c.self.inside c.self.invariant.sound c.in-Asked.child c.in-Asked.is) refl (reopened-left c.self.inside c.self.invariant.sound c.in-Asked.child c.in-Asked.is) c.in-Asked.child (reopened-next c.self.inside c.self.invariant.sound c.in-Asked.child c.in-Asked.is) c.index-from.result.now _ c.index-from.ensures (ap (λ v. get_or v c.in-Asked.child 0) c.as_slice.ensures) c.gather.new.channels.lists c.gather.new.lent.items c.gather.new.rooms.items
    (c.gather.ensures.left ∙ ap (λ v. skip_at c.index-from.result.now (take (get_or c.as_slice.result.now c.in-Asked.child 0) (drop c.index-from.result.now v)) c.self.inside.channels.lists) c.as_slice-in-Asked.ensures)
    (c.gather.ensures.lent ∙ ap (λ v. firsts (take (get_or c.as_slice.result.now c.in-Asked.child 0) (drop c.index-from.result.now v)) (take (get_or c.as_slice.result.now c.in-Asked.child 0) (drop c.index-from.result.now c.self.inside.channels.lists))) c.as_slice-in-Asked.ensures)
    ∙ ap (λ (s : State). handed s) (seen-at c.self.inside (code.Asked c.in-Asked.child) c.in-Asked.is ∙ c.self.view_is)
