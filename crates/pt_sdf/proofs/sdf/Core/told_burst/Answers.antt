use Rattle.std.proofs.Common.{inl, ◌+◌, ◌≤◌, [], ◌∷◌, length, Some, map, take, drop, get_or, ap, ◌∙◌, sym, subst, arith}
use Rattle.std.proofs.lemmas.List.{length-map}
use Rattle.pt_value.specs.declared.token.Token.TheVariants.{Int}
use Rattle.pt_sdf_parts.specs.ByNeed.{skip_at}
use Rattle.pt_sdf.specs.State.{after_told}
use Rattle.pt_sdf.specs.Clauses.{State}
use Rattle.pt_sdf_parts.specs.Lanes.{FitsInlet}
use Rattle.pt_sdf_parts.specs.Stretches.{place_at, IsWithin, IsAdvanced}
use Rattle.pt_sdf_parts.proofs.TableLaws.{begins-long}
use Rattle.pt_sdf.proofs.HandLaws.{asked-now, busy-left}
use Rattle.pt_sdf.proofs.ToldLaws.{lane-there, lane-outlet, lane-inlet, lane-fits, lane-given-places, lane-given-enough, lane-sound, lane-state}
use Rattle.pt_sdf_parts.proofs.LaneLaws.{if-so}
use Rattle.pt_sdf.proofs.sdf.Core.told_burst.Goals as goal

pub give_numbers-requires : goal.give_numbers-requires
give_numbers-requires c = lane-outlet c.self.inside c.self.invariant c.args.child (asked-now c.self.inside c.args.self.now c.args.child c.self.view_is c.requires.asked c.in-Asked.field-0 c.in-Asked.is) c.index-lane.result.now c.index-lane.ensures

pub index-from-requires : goal.index-from-requires
index-from-requires c = omega (arith, lane-there c.self.inside c.self.invariant c.args.child (asked-now c.self.inside c.args.self.now c.args.child c.self.view_is c.requires.asked c.in-Asked.field-0 c.in-Asked.is) c.index-lane.result.now c.index-lane.ensures, ap (λ v. length v) c.self.invariant.sound.places_begin, c.self.inside.tables.offsets.ok.0, begins-long 0 c.self.inside.plan.places)

pub skip_inlet-requires-clause-fits : goal.skip_inlet-requires-clause-fits
skip_inlet-requires-clause-fits c =
    subst (λ v. FitsInlet v c.index-from.result.now (get_or c.as_slice.result.now c.args.child 0) c.index-lane.result.now.inlet) (sym c.as_slice-2.ensures)
    (lane-inlet c.self.inside c.self.invariant c.args.child (asked-now c.self.inside c.args.self.now c.args.child c.self.view_is c.requires.asked c.in-Asked.field-0 c.in-Asked.is) c.index-lane.result.now c.index-lane.ensures c.index-from.result.now (get_or c.as_slice.result.now c.args.child 0) c.index-from.ensures (ap (λ v. get_or v c.args.child 0) c.as_slice.ensures))

pub skip_inlet-requires-clause-places : goal.skip_inlet-requires-clause-places
skip_inlet-requires-clause-places c = lane-given-places c.self.inside c.self.invariant c.args.child (asked-now c.self.inside c.args.self.now c.args.child c.self.view_is c.requires.asked c.in-Asked.field-0 c.in-Asked.is) c.index-lane.result.now c.index-lane.ensures c.index-from.result.now (get_or c.as_slice.result.now c.args.child 0) c.index-from.ensures (ap (λ v. get_or v c.args.child 0) c.as_slice.ensures) (map Int c.args.numbers.now) (c.give_numbers.ensures.all c.if-not-give_numbers.false ∙ ap Some (sym (length-map c.args.numbers.now Int))) c.give_numbers.new.channels.lists (if-so _ _ c.if-not-give_numbers.false c.give_numbers.ensures.lists)

pub skip_inlet-requires-clause-needed : goal.skip_inlet-requires-clause-needed
skip_inlet-requires-clause-needed c =
    subst (λ v. c.index-from.result.now + get_or c.as_slice.result.now c.args.child 0 ≤ length v) (sym c.as_slice-2.ensures)
    (lane-fits c.self.inside c.self.invariant c.args.child (asked-now c.self.inside c.args.self.now c.args.child c.self.view_is c.requires.asked c.in-Asked.field-0 c.in-Asked.is) c.index-lane.result.now c.index-lane.ensures c.index-from.result.now (get_or c.as_slice.result.now c.args.child 0) c.index-from.ensures (ap (λ v. get_or v c.args.child 0) c.as_slice.ensures)).1

pub skip_inlet-requires-clause-enough : goal.skip_inlet-requires-clause-enough
skip_inlet-requires-clause-enough c k h =
    subst (λ v. get_or v (c.index-from.result.now + k) 0 ≤ length (get_or c.give_numbers.new.channels.lists (c.index-from.result.now + k) [])) (sym c.as_slice-2.ensures)
    (lane-given-enough c.self.inside c.self.invariant c.args.child (asked-now c.self.inside c.args.self.now c.args.child c.self.view_is c.requires.asked c.in-Asked.field-0 c.in-Asked.is) c.index-lane.result.now c.index-lane.ensures c.index-from.result.now (get_or c.as_slice.result.now c.args.child 0) c.index-from.ensures (ap (λ v. get_or v c.args.child 0) c.as_slice.ensures) (map Int c.args.numbers.now) (c.give_numbers.ensures.all c.if-not-give_numbers.false ∙ ap Some (sym (length-map c.args.numbers.now Int))) c.give_numbers.new.channels.lists (if-so _ _ c.if-not-give_numbers.false c.give_numbers.ensures.lists) k h)

pub invariant_of-self-2 : goal.invariant_of-self-2
invariant_of-self-2 c =
    let next = subst (λ v. IsAdvanced v c.self.inside.left c.self.inside.at c.self.inside.done c.advance.new.left c.advance.new.at c.advance.new.done) c.deref.ensures.value c.advance.ensures in
    record {
      sound = lane-sound c.self.inside c.self.invariant c.args.child (asked-now c.self.inside c.args.self.now c.args.child c.self.view_is c.requires.asked c.in-Asked.field-0 c.in-Asked.is) c.index-lane.result.now c.index-lane.ensures c.index-from.result.now (get_or c.as_slice.result.now c.args.child 0) c.index-from.ensures (ap (λ v. get_or v c.args.child 0) c.as_slice.ensures) (map Int c.args.numbers.now) (c.give_numbers.ensures.all c.if-not-give_numbers.false ∙ ap Some (sym (length-map c.args.numbers.now Int))) c.give_numbers.new.channels.lists (if-so _ _ c.if-not-give_numbers.false c.give_numbers.ensures.lists) c.skip_inlet.new.channels.lists (c.skip_inlet.ensures.lists ∙ ap (λ v. skip_at c.index-from.result.now (take (get_or c.as_slice.result.now c.args.child 0) (drop c.index-from.result.now v)) c.give_numbers.new.channels.lists) c.as_slice-2.ensures) (c.advance.new.left, place_at c.advance.new.at c.advance.new.done c.self.inside.plan.order.items) next.place;
      stretch = λ h. next.within;
      lanes = c.self.invariant.lanes;
    }

pub returns : goal.returns
returns c =
    let next = subst (λ v. IsAdvanced v c.self.inside.left c.self.inside.at c.self.inside.done c.advance.new.left c.advance.new.at c.advance.new.done) c.deref.ensures.value c.advance.ensures in
    lane-state c.self.inside c.self.invariant c.args.child (asked-now c.self.inside c.args.self.now c.args.child c.self.view_is c.requires.asked c.in-Asked.field-0 c.in-Asked.is) c.index-lane.result.now c.index-lane.ensures c.index-from.result.now (get_or c.as_slice.result.now c.args.child 0) c.index-from.ensures (ap (λ v. get_or v c.args.child 0) c.as_slice.ensures) (map Int c.args.numbers.now) (c.give_numbers.ensures.all c.if-not-give_numbers.false ∙ ap Some (sym (length-map c.args.numbers.now Int))) c.give_numbers.new.channels.lists (if-so _ _ c.if-not-give_numbers.false c.give_numbers.ensures.lists) c.skip_inlet.new.channels.lists (c.skip_inlet.ensures.lists ∙ ap (λ v. skip_at c.index-from.result.now (take (get_or c.as_slice.result.now c.args.child 0) (drop c.index-from.result.now v)) c.give_numbers.new.channels.lists) c.as_slice-2.ensures) (c.advance.new.left, place_at c.advance.new.at c.advance.new.done c.self.inside.plan.order.items) next.place
    ∙ ap (λ (s : State). after_told c.args.child ((map Int c.args.numbers.now) ∷ []) s) c.self.view_is

pub advance-requires-clause-within : goal.advance-requires-clause-within
advance-requires-clause-within c = subst (λ v. IsWithin v c.self.inside.at c.self.inside.done) (sym c.deref.ensures.value) (c.self.invariant.stretch (busy-left c.self.inside c.self.invariant.sound c.args.child (inl (asked-now c.self.inside c.args.self.now c.args.child c.self.view_is c.requires.asked c.in-Asked.field-0 c.in-Asked.is))))

pub advance-requires-clause-some : goal.advance-requires-clause-some
advance-requires-clause-some c = busy-left c.self.inside c.self.invariant.sound c.args.child (inl (asked-now c.self.inside c.args.self.now c.args.child c.self.view_is c.requires.asked c.in-Asked.field-0 c.in-Asked.is))
