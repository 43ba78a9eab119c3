use Rattle.std.proofs.Common.{◌≡◌, ◌+◌, ◌≤◌, [], true, false, None, length, get_or, take, drop, map, refl, ap, ◌∙◌, sym, subst, arith}
use Rattle.pt_meaning.specs.Rounds.{has_rates}
use Rattle.pt_sdf_parts.specs.ByNeed.{skip_at}
use Rattle.pt_sdf.specs.State.{after_told}
use Rattle.pt_sdf.specs.Clauses.{State}
use Rattle.pt_sdf_parts.specs.Rooms.{HasRoom, HaveRooms}
use Rattle.pt_sdf_parts.specs.Stretches.{place_at, IsWithin, IsAdvanced}
use Rattle.pt_sdf_parts.specs.Feeds.{target_of, put_back, AreThere, AreApart, MovesOnce}
use Rattle.pt_sdf_parts.proofs.Lists.{skip-long}
use Rattle.pt_sdf_parts.proofs.TableLaws.{begins-long}
use Rattle.pt_sdf.proofs.CoreLaws.{is-asked, told-wrong, wrongly-told, told-into, told-apart, told-moves, told-goes-on, told-is, rates-read}
use Rattle.pt_sdf.proofs.HandLaws.{handing, busy-there, busy-fits, busy-rooms, unmoved-fits, unmoved-enough, handing-sound, handing-told, busy-left}
use Rattle.pt_sdf.proofs.sdf.Core.told.Goals as goal

pub index-from-requires : goal.index-from-requires
index-from-requires c =
    omega (arith, busy-there c.self.inside c.self.invariant.sound c.args.child (is-asked c.self.inside c.args.self.now c.args.child c.self.view_is c.requires.asked), ap (λ v. length v) c.self.invariant.sound.places_begin, c.self.inside.tables.offsets.ok.0, begins-long 0 c.self.inside.plan.places)

pub skip_places-requires-clause-places : goal.skip_places-requires-clause-places
skip_places-requires-clause-places c = (unmoved-fits c.self.inside c.self.invariant.sound c.args.child (is-asked c.self.inside c.args.self.now c.args.child c.self.view_is c.requires.asked) c.index-from.result.now (get_or c.as_slice.result.now c.args.child 0) c.unmoved-unmoved.result c.index-from.ensures (ap (λ v. get_or v c.args.child 0) c.as_slice.ensures) c.unmoved-unmoved.ensures).0

pub skip_places-requires-clause-needed : goal.skip_places-requires-clause-needed
skip_places-requires-clause-needed c = subst (λ v. c.index-from.result.now + c.unmoved-unmoved.result ≤ length v) (sym c.as_slice-needs.ensures) (unmoved-fits c.self.inside c.self.invariant.sound c.args.child (is-asked c.self.inside c.args.self.now c.args.child c.self.view_is c.requires.asked) c.index-from.result.now (get_or c.as_slice.result.now c.args.child 0) c.unmoved-unmoved.result c.index-from.ensures (ap (λ v. get_or v c.args.child 0) c.as_slice.ensures) c.unmoved-unmoved.ensures).1

pub skip_places-requires-clause-enough : goal.skip_places-requires-clause-enough
skip_places-requires-clause-enough c k h = subst (λ v. get_or v (c.index-from.result.now + k) 0 ≤ length (get_or c.self.inside.channels.lists (c.index-from.result.now + k) [])) (sym c.as_slice-needs.ensures) (unmoved-enough c.self.inside c.self.invariant.sound c.args.child (is-asked c.self.inside c.args.self.now c.args.child c.self.view_is c.requires.asked) c.index-from.result.now (get_or c.as_slice.result.now c.args.child 0) c.unmoved-unmoved.result c.index-from.ensures (ap (λ v. get_or v c.args.child 0) c.as_slice.ensures) c.unmoved-unmoved.ensures k h)

pub invariant_of-self : goal.invariant_of-self
invariant_of-self c =
    let d = (c.skip_places.ensures.lists ∙ ap (λ v. skip_at c.index-from.result.now (take c.unmoved-unmoved.result (drop c.index-from.result.now v)) c.self.inside.channels.lists) c.as_slice-needs.ensures) in
    record {
      sound = told-wrong (handing c.self.inside c.args.child c.skip_places.new.channels.lists) (handing-sound c.self.inside c.self.invariant.sound c.args.child (is-asked c.self.inside c.args.self.now c.args.child c.self.view_is c.requires.asked) c.index-from.result.now (get_or c.as_slice.result.now c.args.child 0) c.unmoved-unmoved.result c.index-from.ensures (ap (λ v. get_or v c.args.child 0) c.as_slice.ensures) c.unmoved-unmoved.ensures c.skip_places.new.channels.lists d) c.args.child refl;
      stretch = c.self.invariant.stretch;
      lanes = c.self.invariant.lanes;
    }

pub returns-then-not-fits_rates-clause-told : goal.returns-then-not-fits_rates-clause-told
returns-then-not-fits_rates-clause-told c =
    let d = (c.skip_places.ensures.lists ∙ ap (λ v. skip_at c.index-from.result.now (take c.unmoved-unmoved.result (drop c.index-from.result.now v)) c.self.inside.channels.lists) c.as_slice-needs.ensures) in
    let r : has_rates (get_or c.self.inside.plan.rates.items c.args.child []) c.args.outputs ≡ false = ap (λ v. has_rates v c.args.outputs) (sym (c.as_slice-2.ensures ∙ rates-read c.self.inside c.self.invariant.sound c.args.child c.index.result.now (busy-there c.self.inside c.self.invariant.sound c.args.child (is-asked c.self.inside c.args.self.now c.args.child c.self.view_is c.requires.asked)) c.index.ensures)) ∙ sym c.fits_rates.ensures ∙ c.if-not-fits_rates.true in
    wrongly-told (handing c.self.inside c.args.child c.skip_places.new.channels.lists) (handing-sound c.self.inside c.self.invariant.sound c.args.child (is-asked c.self.inside c.args.self.now c.args.child c.self.view_is c.requires.asked) c.index-from.result.now (get_or c.as_slice.result.now c.args.child 0) c.unmoved-unmoved.result c.index-from.ensures (ap (λ v. get_or v c.args.child 0) c.as_slice.ensures) c.unmoved-unmoved.ensures c.skip_places.new.channels.lists d) c.args.child refl c.args.outputs r
    ∙ handing-told c.self.inside c.self.invariant.sound c.args.child (is-asked c.self.inside c.args.self.now c.args.child c.self.view_is c.requires.asked) c.index-from.result.now (get_or c.as_slice.result.now c.args.child 0) c.unmoved-unmoved.result c.index-from.ensures (ap (λ v. get_or v c.args.child 0) c.as_slice.ensures) c.unmoved-unmoved.ensures c.skip_places.new.channels.lists d c.args.outputs
    ∙ ap (λ (s : State). after_told c.args.child c.args.outputs s) c.self.view_is

pub fill_rooms-requires-clause-places : goal.fill_rooms-requires-clause-places
fill_rooms-requires-clause-places c = (busy-fits c.self.inside c.self.invariant.sound c.args.child (is-asked c.self.inside c.args.self.now c.args.child c.self.view_is c.requires.asked) c.index-from.result.now (get_or c.as_slice.result.now c.args.child 0) c.unmoved-unmoved.result c.index-from.ensures (ap (λ v. get_or v c.args.child 0) c.as_slice.ensures) c.unmoved-unmoved.ensures).1

pub fill_rooms-requires-clause-needed : goal.fill_rooms-requires-clause-needed
fill_rooms-requires-clause-needed c = subst (λ v. c.index-from.result.now + (get_or c.as_slice.result.now c.args.child 0) ≤ length v) (sym c.as_slice-needs.ensures) (busy-fits c.self.inside c.self.invariant.sound c.args.child (is-asked c.self.inside c.args.self.now c.args.child c.self.view_is c.requires.asked) c.index-from.result.now (get_or c.as_slice.result.now c.args.child 0) c.unmoved-unmoved.result c.index-from.ensures (ap (λ v. get_or v c.args.child 0) c.as_slice.ensures) c.unmoved-unmoved.ensures).0

pub scatter-requires-clause-there : goal.scatter-requires-clause-there
scatter-requires-clause-there c =
    let r : has_rates (get_or c.self.inside.plan.rates.items c.args.child []) c.args.outputs ≡ true = ap (λ v. has_rates v c.args.outputs) (sym (c.as_slice-2.ensures ∙ rates-read c.self.inside c.self.invariant.sound c.args.child c.index.result.now (busy-there c.self.inside c.self.invariant.sound c.args.child (is-asked c.self.inside c.args.self.now c.args.child c.self.view_is c.requires.asked)) c.index.ensures)) ∙ sym c.fits_rates.ensures ∙ c.if-not-fits_rates.false in
    subst (λ v. AreThere v (length c.args.outputs) c.deref.result.now) (skip-long c.index-from.result.now (take c.unmoved-unmoved.result (drop c.index-from.result.now c.self.inside.plan.needs)) c.self.inside.channels.lists)
    (subst (λ v. AreThere (length (skip_at c.index-from.result.now (take c.unmoved-unmoved.result (drop c.index-from.result.now c.self.inside.plan.needs)) c.self.inside.channels.lists)) (length c.args.outputs) v) (sym c.deref.ensures.value) (told-into (handing c.self.inside c.args.child (skip_at c.index-from.result.now (take c.unmoved-unmoved.result (drop c.index-from.result.now c.self.inside.plan.needs)) c.self.inside.channels.lists)) (handing-sound c.self.inside c.self.invariant.sound c.args.child (is-asked c.self.inside c.args.self.now c.args.child c.self.view_is c.requires.asked) c.index-from.result.now (get_or c.as_slice.result.now c.args.child 0) c.unmoved-unmoved.result c.index-from.ensures (ap (λ v. get_or v c.args.child 0) c.as_slice.ensures) c.unmoved-unmoved.ensures (skip_at c.index-from.result.now (take c.unmoved-unmoved.result (drop c.index-from.result.now c.self.inside.plan.needs)) c.self.inside.channels.lists) refl) c.args.child refl c.args.outputs r c.index-2.result.now c.index-2.ensures))

pub scatter-requires-clause-apart : goal.scatter-requires-clause-apart
scatter-requires-clause-apart c =
    let r : has_rates (get_or c.self.inside.plan.rates.items c.args.child []) c.args.outputs ≡ true = ap (λ v. has_rates v c.args.outputs) (sym (c.as_slice-2.ensures ∙ rates-read c.self.inside c.self.invariant.sound c.args.child c.index.result.now (busy-there c.self.inside c.self.invariant.sound c.args.child (is-asked c.self.inside c.args.self.now c.args.child c.self.view_is c.requires.asked)) c.index.ensures)) ∙ sym c.fits_rates.ensures ∙ c.if-not-fits_rates.false in
    subst (λ v. AreApart v) (sym c.deref.ensures.value) (told-apart (handing c.self.inside c.args.child (skip_at c.index-from.result.now (take c.unmoved-unmoved.result (drop c.index-from.result.now c.self.inside.plan.needs)) c.self.inside.channels.lists)) (handing-sound c.self.inside c.self.invariant.sound c.args.child (is-asked c.self.inside c.args.self.now c.args.child c.self.view_is c.requires.asked) c.index-from.result.now (get_or c.as_slice.result.now c.args.child 0) c.unmoved-unmoved.result c.index-from.ensures (ap (λ v. get_or v c.args.child 0) c.as_slice.ensures) c.unmoved-unmoved.ensures (skip_at c.index-from.result.now (take c.unmoved-unmoved.result (drop c.index-from.result.now c.self.inside.plan.needs)) c.self.inside.channels.lists) refl) c.args.child refl c.args.outputs r c.index-2.result.now c.index-2.ensures)

pub scatter-requires-clause-moves : goal.scatter-requires-clause-moves
scatter-requires-clause-moves c =
    let r : has_rates (get_or c.self.inside.plan.rates.items c.args.child []) c.args.outputs ≡ true = ap (λ v. has_rates v c.args.outputs) (sym (c.as_slice-2.ensures ∙ rates-read c.self.inside c.self.invariant.sound c.args.child c.index.result.now (busy-there c.self.inside c.self.invariant.sound c.args.child (is-asked c.self.inside c.args.self.now c.args.child c.self.view_is c.requires.asked)) c.index.ensures)) ∙ sym c.fits_rates.ensures ∙ c.if-not-fits_rates.false in
    subst (λ v. MovesOnce v) (sym c.deref.ensures.value) (told-moves (handing c.self.inside c.args.child (skip_at c.index-from.result.now (take c.unmoved-unmoved.result (drop c.index-from.result.now c.self.inside.plan.needs)) c.self.inside.channels.lists)) (handing-sound c.self.inside c.self.invariant.sound c.args.child (is-asked c.self.inside c.args.self.now c.args.child c.self.view_is c.requires.asked) c.index-from.result.now (get_or c.as_slice.result.now c.args.child 0) c.unmoved-unmoved.result c.index-from.ensures (ap (λ v. get_or v c.args.child 0) c.as_slice.ensures) c.unmoved-unmoved.ensures (skip_at c.index-from.result.now (take c.unmoved-unmoved.result (drop c.index-from.result.now c.self.inside.plan.needs)) c.self.inside.channels.lists) refl) c.args.child refl c.args.outputs r c.index-2.result.now c.index-2.ensures)

pub scatter-requires-clause-places : goal.scatter-requires-clause-places
scatter-requires-clause-places c = (unmoved-fits c.self.inside c.self.invariant.sound c.args.child (is-asked c.self.inside c.args.self.now c.args.child c.self.view_is c.requires.asked) c.index-from.result.now (get_or c.as_slice.result.now c.args.child 0) c.unmoved-unmoved.result c.index-from.ensures (ap (λ v. get_or v c.args.child 0) c.as_slice.ensures) c.unmoved-unmoved.ensures).0

pub scatter-requires-clause-needed : goal.scatter-requires-clause-needed
scatter-requires-clause-needed c = subst (λ v. c.index-from.result.now + c.unmoved-unmoved.result ≤ length v) (sym c.as_slice-needs.ensures) (unmoved-fits c.self.inside c.self.invariant.sound c.args.child (is-asked c.self.inside c.args.self.now c.args.child c.self.view_is c.requires.asked) c.index-from.result.now (get_or c.as_slice.result.now c.args.child 0) c.unmoved-unmoved.result c.index-from.ensures (ap (λ v. get_or v c.args.child 0) c.as_slice.ensures) c.unmoved-unmoved.ensures).1

pub scatter-requires-clause-enough : goal.scatter-requires-clause-enough
scatter-requires-clause-enough c k h = subst (λ v. get_or v (c.index-from.result.now + k) 0 ≤ length (get_or c.self.inside.channels.lists (c.index-from.result.now + k) [])) (sym c.as_slice-needs.ensures) (unmoved-enough c.self.inside c.self.invariant.sound c.args.child (is-asked c.self.inside c.args.self.now c.args.child c.self.view_is c.requires.asked) c.index-from.result.now (get_or c.as_slice.result.now c.args.child 0) c.unmoved-unmoved.result c.index-from.ensures (ap (λ v. get_or v c.args.child 0) c.as_slice.ensures) c.unmoved-unmoved.ensures k h)

pub invariant_of-self-2 : goal.invariant_of-self-2
invariant_of-self-2 c =
    let r : has_rates (get_or c.self.inside.plan.rates.items c.args.child []) c.args.outputs ≡ true = ap (λ v. has_rates v c.args.outputs) (sym (c.as_slice-2.ensures ∙ rates-read c.self.inside c.self.invariant.sound c.args.child c.index.result.now (busy-there c.self.inside c.self.invariant.sound c.args.child (is-asked c.self.inside c.args.self.now c.args.child c.self.view_is c.requires.asked)) c.index.ensures)) ∙ sym c.fits_rates.ensures ∙ c.if-not-fits_rates.false in
    let next = subst (λ v. IsAdvanced v c.self.inside.left c.self.inside.at c.self.inside.done c.advance.new.left c.advance.new.at c.advance.new.done) c.deref-2.ensures.value c.advance.ensures in
    record {
      sound =
          told-goes-on (handing c.self.inside c.args.child (skip_at c.index-from.result.now (take c.unmoved-unmoved.result (drop c.index-from.result.now c.self.inside.plan.needs)) c.self.inside.channels.lists)) (handing-sound c.self.inside c.self.invariant.sound c.args.child (is-asked c.self.inside c.args.self.now c.args.child c.self.view_is c.requires.asked) c.index-from.result.now (get_or c.as_slice.result.now c.args.child 0) c.unmoved-unmoved.result c.index-from.ensures (ap (λ v. get_or v c.args.child 0) c.as_slice.ensures) c.unmoved-unmoved.ensures (skip_at c.index-from.result.now (take c.unmoved-unmoved.result (drop c.index-from.result.now c.self.inside.plan.needs)) c.self.inside.channels.lists) refl) c.args.child refl c.args.outputs r c.index-2.result.now c.index-2.ensures c.scatter.new.channels.lists
          (c.in_ok-scatter.ensures.lists ∙ ap (λ v. put_back (map target_of v) c.args.outputs (skip_at c.index-from.result.now (take c.unmoved-unmoved.result (drop c.index-from.result.now c.as_slice-needs.result.now)) c.self.inside.channels.lists)) c.deref.ensures.value ∙ ap (λ v. put_back (map target_of c.index-2.result.now.items) c.args.outputs (skip_at c.index-from.result.now (take c.unmoved-unmoved.result (drop c.index-from.result.now v)) c.self.inside.channels.lists)) c.as_slice-needs.ensures) (c.advance.new.left, place_at c.advance.new.at c.advance.new.done c.self.inside.plan.order.items)
          next.place c.fill_rooms.new.rooms.items c.scatter.new.staged.list c.in_ok-scatter.ensures.empty c.in_ok-fill_rooms.ensures.counted
          (λ k. subst (λ v. HasRoom (get_or v k 0) (get_or c.self.inside.rooms.items k None) → HasRoom (get_or v k 0) (get_or c.fill_rooms.new.rooms.items k None)) c.as_slice-needs.ensures (c.in_ok-fill_rooms.ensures.kept k))
          (busy-rooms c.self.inside c.self.invariant.sound c.args.child (is-asked c.self.inside c.args.self.now c.args.child c.self.view_is c.requires.asked) c.index-from.result.now (get_or c.as_slice.result.now c.args.child 0) c.unmoved-unmoved.result c.index-from.ensures (ap (λ v. get_or v c.args.child 0) c.as_slice.ensures) c.unmoved-unmoved.ensures c.fill_rooms.new.rooms.items (subst (λ v. HaveRooms v c.fill_rooms.new.rooms.items c.index-from.result.now (get_or c.as_slice.result.now c.args.child 0)) c.as_slice-needs.ensures c.in_ok-fill_rooms.ensures.made));
      stretch = λ h. next.within;
      lanes = c.self.invariant.lanes;
    }

pub returns-clause-told : goal.returns-clause-told
returns-clause-told c =
    let r : has_rates (get_or c.self.inside.plan.rates.items c.args.child []) c.args.outputs ≡ true = ap (λ v. has_rates v c.args.outputs) (sym (c.as_slice-2.ensures ∙ rates-read c.self.inside c.self.invariant.sound c.args.child c.index.result.now (busy-there c.self.inside c.self.invariant.sound c.args.child (is-asked c.self.inside c.args.self.now c.args.child c.self.view_is c.requires.asked)) c.index.ensures)) ∙ sym c.fits_rates.ensures ∙ c.if-not-fits_rates.false in
    let next = subst (λ v. IsAdvanced v c.self.inside.left c.self.inside.at c.self.inside.done c.advance.new.left c.advance.new.at c.advance.new.done) c.deref-2.ensures.value c.advance.ensures in
    told-is (handing c.self.inside c.args.child (skip_at c.index-from.result.now (take c.unmoved-unmoved.result (drop c.index-from.result.now c.self.inside.plan.needs)) c.self.inside.channels.lists)) (handing-sound c.self.inside c.self.invariant.sound c.args.child (is-asked c.self.inside c.args.self.now c.args.child c.self.view_is c.requires.asked) c.index-from.result.now (get_or c.as_slice.result.now c.args.child 0) c.unmoved-unmoved.result c.index-from.ensures (ap (λ v. get_or v c.args.child 0) c.as_slice.ensures) c.unmoved-unmoved.ensures (skip_at c.index-from.result.now (take c.unmoved-unmoved.result (drop c.index-from.result.now c.self.inside.plan.needs)) c.self.inside.channels.lists) refl) c.args.child refl c.args.outputs r c.index-2.result.now c.index-2.ensures c.scatter.new.channels.lists
    (c.in_ok-scatter.ensures.lists ∙ ap (λ v. put_back (map target_of v) c.args.outputs (skip_at c.index-from.result.now (take c.unmoved-unmoved.result (drop c.index-from.result.now c.as_slice-needs.result.now)) c.self.inside.channels.lists)) c.deref.ensures.value ∙ ap (λ v. put_back (map target_of c.index-2.result.now.items) c.args.outputs (skip_at c.index-from.result.now (take c.unmoved-unmoved.result (drop c.index-from.result.now v)) c.self.inside.channels.lists)) c.as_slice-needs.ensures) (c.advance.new.left, place_at c.advance.new.at c.advance.new.done c.self.inside.plan.order.items)
    next.place
    ∙ handing-told c.self.inside c.self.invariant.sound c.args.child (is-asked c.self.inside c.args.self.now c.args.child c.self.view_is c.requires.asked) c.index-from.result.now (get_or c.as_slice.result.now c.args.child 0) c.unmoved-unmoved.result c.index-from.ensures (ap (λ v. get_or v c.args.child 0) c.as_slice.ensures) c.unmoved-unmoved.ensures (skip_at c.index-from.result.now (take c.unmoved-unmoved.result (drop c.index-from.result.now c.self.inside.plan.needs)) c.self.inside.channels.lists) refl c.args.outputs
    ∙ ap (λ (s : State). after_told c.args.child c.args.outputs s) c.self.view_is

pub advance-requires-clause-within : goal.advance-requires-clause-within
advance-requires-clause-within c = subst (λ v. IsWithin v c.self.inside.at c.self.inside.done) (sym c.deref-2.ensures.value) (c.self.invariant.stretch (busy-left c.self.inside c.self.invariant.sound c.args.child (is-asked c.self.inside c.args.self.now c.args.child c.self.view_is c.requires.asked)))

pub advance-requires-clause-some : goal.advance-requires-clause-some
advance-requires-clause-some c = busy-left c.self.inside c.self.invariant.sound c.args.child (is-asked c.self.inside c.args.self.now c.args.child c.self.view_is c.requires.asked)
