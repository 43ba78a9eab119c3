use Rattle.std.proofs.Common.{◌≡◌, ℤ, ◌+◌, ◌≤◌, List, [], ◌∷◌, true, false, None, length, get_or, take, drop, map, refl, ap, ◌∙◌, sym, subst, arith}
use Rattle.std.proofs.lemmas.List.{length-map}
use Rattle.pt_meaning.specs.Streams.{Streams}
use Rattle.pt_meaning.specs.Rounds.{has_rates}
use Rattle.pt_value.specs.declared.token.Token.{Token}
use Rattle.pt_value.specs.declared.token.Token.TheVariants.{Int}
use Rattle.pt_sdf_parts.specs.ByNeed.{skip_at}
use Rattle.pt_sdf.specs.State.{after_told}
use Rattle.pt_sdf.specs.Clauses.{State}
use Rattle.pt_sdf_parts.specs.Rooms.{HasRoom, HaveRooms}
use Rattle.pt_sdf_parts.specs.Stretches.{place_at, IsWithin, IsAdvanced}
use Rattle.pt_sdf_parts.specs.Feeds.{target_of, put_back, AreThere, AreApart}
use Rattle.pt_sdf_parts.proofs.Lists.{skip-long}
use Rattle.pt_sdf_parts.proofs.TableLaws.{begins-long}
use Rattle.pt_sdf.proofs.CoreLaws.{is-asked, told-wrong, wrongly-told, told-into, told-apart, told-goes-on, told-is, rates-read}
use Rattle.pt_sdf.proofs.HandLaws.{handing, busy-there, busy-fits, busy-rooms, unmoved-fits, unmoved-enough, handing-sound, handing-told, busy-left}
use Rattle.pt_sdf.proofs.sdf.Core.told_anyhow.Goals as goal

abbrev given : List ℤ → Streams Token
given ns = map Int ns ∷ []

pub index-from-requires : goal.index-from-requires
index-from-requires c =
    omega (arith, busy-there c.self.inside c.self.invariant.sound c.args.child (is-asked c.self.inside c.args.self.now c.args.child c.self.view_is c.requires.asked), ap (λ v. length v) c.self.invariant.sound.places_begin, c.self.inside.tables.offsets.ok.0, begins-long 0 c.self.inside.plan.places)

pub skip_places-requires-clause-places : goal.skip_places-requires-clause-places
skip_places-requires-clause-places c = (unmoved-fits c.self.inside c.self.invariant.sound c.args.child (is-asked c.self.inside c.args.self.now c.args.child c.self.view_is c.requires.asked) c.index-from.result.now (get_or c.as_slice.result.now c.args.child 0) c.unmoved-unmoved.result c.index-from.ensures (ap (λ v. get_or v c.args.child 0) c.as_slice.ensures) c.unmoved-unmoved.ensures).0

pub skip_places-requires-clause-needed : goal.skip_places-requires-clause-needed
skip_places-requires-clause-needed c = subst (λ v. c.index-from.result.now + c.unmoved-unmoved.result ≤ length v) (sym c.as_slice-needs.ensures) (unmoved-fits c.self.inside c.self.invariant.sound c.args.child (is-asked c.self.inside c.args.self.now c.args.child c.self.view_is c.requires.asked) c.index-from.result.now (get_or c.as_slice.result.now c.args.child 0) c.unmoved-unmoved.result c.index-from.ensures (ap (λ v. get_or v c.args.child 0) c.as_slice.ensures) c.unmoved-unmoved.ensures).1

pub skip_places-requires-clause-enough : goal.skip_places-requires-clause-enough
skip_places-requires-clause-enough c k h = subst (λ v. get_or v (c.index-from.result.now + k) 0 ≤ length (get_or c.self.inside.channels.lists (c.index-from.result.now + k) [])) (sym c.as_slice-needs.ensures) (unmoved-enough c.self.inside c.self.invariant.sound c.args.child (is-asked c.self.inside c.args.self.now c.args.child c.self.view_is c.requires.asked) c.index-from.result.now (get_or c.as_slice.result.now c.args.child 0) c.unmoved-unmoved.result c.index-from.ensures (ap (λ v. get_or v c.args.child 0) c.as_slice.ensures) c.unmoved-unmoved.ensures k h)

pub invariant_of-self : goal.invariant_of-self
invariant_of-self c =
    let d = (c.skip_places.ensures.lists ∙ ap (λ v. skip_at c.index-from.result.now (take c.unmoved-unmoved.result (drop c.index-from.result.now v)) c.self.inside.channels.lists) c.as_slice-needs.ensures) in
    record {
      sound = told-wrong (handing c.self.inside c.args.child c.skip_places.new.channels.lists) (handing-sound c.self.inside c.self.invariant.sound c.args.child (is-asked c.self.inside c.args.self.now c.args.child c.self.view_is c.requires.asked) c.index-from.result.now (get_or c.as_slice.result.now c.args.child 0) c.unmoved-unmoved.result c.index-from.ensures (ap (λ v. get_or v c.args.child 0) c.as_slice.ensures) c.unmoved-unmoved.ensures c.skip_places.new.channels.lists d) c.args.child refl;
      stretch = c.self.invariant.stretch;
      lanes = c.self.invariant.lanes;
    }

pub returns-then-not-are_all_of_one-clause-told : goal.returns-then-not-are_all_of_one-clause-told
returns-then-not-are_all_of_one-clause-told c =
    let d = (c.skip_places.ensures.lists ∙ ap (λ v. skip_at c.index-from.result.now (take c.unmoved-unmoved.result (drop c.index-from.result.now v)) c.self.inside.channels.lists) c.as_slice-needs.ensures) in
    let r : has_rates (get_or c.self.inside.plan.rates.items c.args.child []) (given c.args.numbers.now) ≡ false = ap (λ v. has_rates v (given c.args.numbers.now)) (sym (c.as_slice-2.ensures ∙ rates-read c.self.inside c.self.invariant.sound c.args.child c.index.result.now (busy-there c.self.inside c.self.invariant.sound c.args.child (is-asked c.self.inside c.args.self.now c.args.child c.self.view_is c.requires.asked)) c.index.ensures)) ∙ sym (c.are_all_of_one.ensures (map Int c.args.numbers.now) (length-map c.args.numbers.now Int)) ∙ c.if-not-are_all_of_one.true in
    wrongly-told (handing c.self.inside c.args.child c.skip_places.new.channels.lists) (handing-sound c.self.inside c.self.invariant.sound c.args.child (is-asked c.self.inside c.args.self.now c.args.child c.self.view_is c.requires.asked) c.index-from.result.now (get_or c.as_slice.result.now c.args.child 0) c.unmoved-unmoved.result c.index-from.ensures (ap (λ v. get_or v c.args.child 0) c.as_slice.ensures) c.unmoved-unmoved.ensures c.skip_places.new.channels.lists d) c.args.child refl (given c.args.numbers.now) r
    ∙ handing-told c.self.inside c.self.invariant.sound c.args.child (is-asked c.self.inside c.args.self.now c.args.child c.self.view_is c.requires.asked) c.index-from.result.now (get_or c.as_slice.result.now c.args.child 0) c.unmoved-unmoved.result c.index-from.ensures (ap (λ v. get_or v c.args.child 0) c.as_slice.ensures) c.unmoved-unmoved.ensures c.skip_places.new.channels.lists d (given c.args.numbers.now)
    ∙ ap (λ (s : State). after_told c.args.child (given c.args.numbers.now) s) c.self.view_is

pub fill_rooms-requires-clause-places : goal.fill_rooms-requires-clause-places
fill_rooms-requires-clause-places c = (busy-fits c.self.inside c.self.invariant.sound c.args.child (is-asked c.self.inside c.args.self.now c.args.child c.self.view_is c.requires.asked) c.index-from.result.now (get_or c.as_slice.result.now c.args.child 0) c.unmoved-unmoved.result c.index-from.ensures (ap (λ v. get_or v c.args.child 0) c.as_slice.ensures) c.unmoved-unmoved.ensures).1

pub fill_rooms-requires-clause-needed : goal.fill_rooms-requires-clause-needed
fill_rooms-requires-clause-needed c = subst (λ v. c.index-from.result.now + (get_or c.as_slice.result.now c.args.child 0) ≤ length v) (sym c.as_slice-needs.ensures) (busy-fits c.self.inside c.self.invariant.sound c.args.child (is-asked c.self.inside c.args.self.now c.args.child c.self.view_is c.requires.asked) c.index-from.result.now (get_or c.as_slice.result.now c.args.child 0) c.unmoved-unmoved.result c.index-from.ensures (ap (λ v. get_or v c.args.child 0) c.as_slice.ensures) c.unmoved-unmoved.ensures).0

pub make_room-requires : goal.make_room-requires
make_room-requires c =
    let r : has_rates (get_or c.self.inside.plan.rates.items c.args.child []) (given c.args.numbers.now) ≡ true = ap (λ v. has_rates v (given c.args.numbers.now)) (sym (c.as_slice-2.ensures ∙ rates-read c.self.inside c.self.invariant.sound c.args.child c.index.result.now (busy-there c.self.inside c.self.invariant.sound c.args.child (is-asked c.self.inside c.args.self.now c.args.child c.self.view_is c.requires.asked)) c.index.ensures)) ∙ sym (c.are_all_of_one.ensures (map Int c.args.numbers.now) (length-map c.args.numbers.now Int)) ∙ c.if-not-are_all_of_one.false in
    record {
      there = subst (λ v. AreThere v 1 c.deref.result.now) (skip-long c.index-from.result.now (take c.unmoved-unmoved.result (drop c.index-from.result.now c.self.inside.plan.needs)) c.self.inside.channels.lists)
          (subst (λ v. AreThere (length (skip_at c.index-from.result.now (take c.unmoved-unmoved.result (drop c.index-from.result.now c.self.inside.plan.needs)) c.self.inside.channels.lists)) 1 v) (sym c.deref.ensures.value) (told-into (handing c.self.inside c.args.child (skip_at c.index-from.result.now (take c.unmoved-unmoved.result (drop c.index-from.result.now c.self.inside.plan.needs)) c.self.inside.channels.lists)) (handing-sound c.self.inside c.self.invariant.sound c.args.child (is-asked c.self.inside c.args.self.now c.args.child c.self.view_is c.requires.asked) c.index-from.result.now (get_or c.as_slice.result.now c.args.child 0) c.unmoved-unmoved.result c.index-from.ensures (ap (λ v. get_or v c.args.child 0) c.as_slice.ensures) c.unmoved-unmoved.ensures (skip_at c.index-from.result.now (take c.unmoved-unmoved.result (drop c.index-from.result.now c.self.inside.plan.needs)) c.self.inside.channels.lists) refl) c.args.child refl (given c.args.numbers.now) r c.index-2.result.now c.index-2.ensures));
    }

pub invariant_of-self-2 : goal.invariant_of-self-2
invariant_of-self-2 c =
    let r : has_rates (get_or c.self.inside.plan.rates.items c.args.child []) (given c.args.numbers.now) ≡ true = ap (λ v. has_rates v (given c.args.numbers.now)) (sym (c.as_slice-2.ensures ∙ rates-read c.self.inside c.self.invariant.sound c.args.child c.index.result.now (busy-there c.self.inside c.self.invariant.sound c.args.child (is-asked c.self.inside c.args.self.now c.args.child c.self.view_is c.requires.asked)) c.index.ensures)) ∙ sym (c.are_all_of_one.ensures (map Int c.args.numbers.now) (length-map c.args.numbers.now Int)) ∙ c.if-not-are_all_of_one.false in
    let next = subst (λ v. IsAdvanced v c.self.inside.left c.self.inside.at c.self.inside.done c.advance.new.left c.advance.new.at c.advance.new.done) c.deref-3.ensures.value c.advance.ensures in
    record {
      sound =
          told-goes-on (handing c.self.inside c.args.child (skip_at c.index-from.result.now (take c.unmoved-unmoved.result (drop c.index-from.result.now c.self.inside.plan.needs)) c.self.inside.channels.lists)) (handing-sound c.self.inside c.self.invariant.sound c.args.child (is-asked c.self.inside c.args.self.now c.args.child c.self.view_is c.requires.asked) c.index-from.result.now (get_or c.as_slice.result.now c.args.child 0) c.unmoved-unmoved.result c.index-from.ensures (ap (λ v. get_or v c.args.child 0) c.as_slice.ensures) c.unmoved-unmoved.ensures (skip_at c.index-from.result.now (take c.unmoved-unmoved.result (drop c.index-from.result.now c.self.inside.plan.needs)) c.self.inside.channels.lists) refl) c.args.child refl (given c.args.numbers.now) r c.index-3.result.now c.index-3.ensures c.put_on_each.new.channels.lists
          (c.put_on_each.ensures ∙ ap (λ v. put_back (map target_of c.deref-2.result.now) (given c.args.numbers.now) v) (c.skip_places-2.ensures.lists ∙ ap (λ v. skip_at c.index-from.result.now (take c.unmoved-unmoved.result (drop c.index-from.result.now c.as_slice-needs.result.now)) v) c.make_room.ensures.lists ∙ ap (λ v. skip_at c.index-from.result.now (take c.unmoved-unmoved.result (drop c.index-from.result.now v)) c.self.inside.channels.lists) c.as_slice-needs.ensures) ∙ ap (λ v. put_back (map target_of v) (given c.args.numbers.now) (skip_at c.index-from.result.now (take c.unmoved-unmoved.result (drop c.index-from.result.now c.self.inside.plan.needs)) c.self.inside.channels.lists)) c.deref-2.ensures.value) (c.advance.new.left, place_at c.advance.new.at c.advance.new.done c.self.inside.plan.order.items)
          next.place c.fill_rooms.new.rooms.items c.self.inside.staged.list c.self.invariant.sound.none_staged c.in_ok-fill_rooms.ensures.counted
          (λ k. subst (λ v. HasRoom (get_or v k 0) (get_or c.self.inside.rooms.items k None) → HasRoom (get_or v k 0) (get_or c.fill_rooms.new.rooms.items k None)) c.as_slice-needs.ensures (c.in_ok-fill_rooms.ensures.kept k))
          (busy-rooms c.self.inside c.self.invariant.sound c.args.child (is-asked c.self.inside c.args.self.now c.args.child c.self.view_is c.requires.asked) c.index-from.result.now (get_or c.as_slice.result.now c.args.child 0) c.unmoved-unmoved.result c.index-from.ensures (ap (λ v. get_or v c.args.child 0) c.as_slice.ensures) c.unmoved-unmoved.ensures c.fill_rooms.new.rooms.items (subst (λ v. HaveRooms v c.fill_rooms.new.rooms.items c.index-from.result.now (get_or c.as_slice.result.now c.args.child 0)) c.as_slice-needs.ensures c.in_ok-fill_rooms.ensures.made));
      stretch = λ h. next.within;
      lanes = c.self.invariant.lanes;
    }

pub returns-clause-told : goal.returns-clause-told
returns-clause-told c =
    let r : has_rates (get_or c.self.inside.plan.rates.items c.args.child []) (given c.args.numbers.now) ≡ true = ap (λ v. has_rates v (given c.args.numbers.now)) (sym (c.as_slice-2.ensures ∙ rates-read c.self.inside c.self.invariant.sound c.args.child c.index.result.now (busy-there c.self.inside c.self.invariant.sound c.args.child (is-asked c.self.inside c.args.self.now c.args.child c.self.view_is c.requires.asked)) c.index.ensures)) ∙ sym (c.are_all_of_one.ensures (map Int c.args.numbers.now) (length-map c.args.numbers.now Int)) ∙ c.if-not-are_all_of_one.false in
    let next = subst (λ v. IsAdvanced v c.self.inside.left c.self.inside.at c.self.inside.done c.advance.new.left c.advance.new.at c.advance.new.done) c.deref-3.ensures.value c.advance.ensures in
    told-is (handing c.self.inside c.args.child (skip_at c.index-from.result.now (take c.unmoved-unmoved.result (drop c.index-from.result.now c.self.inside.plan.needs)) c.self.inside.channels.lists)) (handing-sound c.self.inside c.self.invariant.sound c.args.child (is-asked c.self.inside c.args.self.now c.args.child c.self.view_is c.requires.asked) c.index-from.result.now (get_or c.as_slice.result.now c.args.child 0) c.unmoved-unmoved.result c.index-from.ensures (ap (λ v. get_or v c.args.child 0) c.as_slice.ensures) c.unmoved-unmoved.ensures (skip_at c.index-from.result.now (take c.unmoved-unmoved.result (drop c.index-from.result.now c.self.inside.plan.needs)) c.self.inside.channels.lists) refl) c.args.child refl (given c.args.numbers.now) r c.index-3.result.now c.index-3.ensures c.put_on_each.new.channels.lists
    (c.put_on_each.ensures ∙ ap (λ v. put_back (map target_of c.deref-2.result.now) (given c.args.numbers.now) v) (c.skip_places-2.ensures.lists ∙ ap (λ v. skip_at c.index-from.result.now (take c.unmoved-unmoved.result (drop c.index-from.result.now c.as_slice-needs.result.now)) v) c.make_room.ensures.lists ∙ ap (λ v. skip_at c.index-from.result.now (take c.unmoved-unmoved.result (drop c.index-from.result.now v)) c.self.inside.channels.lists) c.as_slice-needs.ensures) ∙ ap (λ v. put_back (map target_of v) (given c.args.numbers.now) (skip_at c.index-from.result.now (take c.unmoved-unmoved.result (drop c.index-from.result.now c.self.inside.plan.needs)) c.self.inside.channels.lists)) c.deref-2.ensures.value) (c.advance.new.left, place_at c.advance.new.at c.advance.new.done c.self.inside.plan.order.items)
    next.place
    ∙ handing-told c.self.inside c.self.invariant.sound c.args.child (is-asked c.self.inside c.args.self.now c.args.child c.self.view_is c.requires.asked) c.index-from.result.now (get_or c.as_slice.result.now c.args.child 0) c.unmoved-unmoved.result c.index-from.ensures (ap (λ v. get_or v c.args.child 0) c.as_slice.ensures) c.unmoved-unmoved.ensures (skip_at c.index-from.result.now (take c.unmoved-unmoved.result (drop c.index-from.result.now c.self.inside.plan.needs)) c.self.inside.channels.lists) refl (given c.args.numbers.now)
    ∙ ap (λ (s : State). after_told c.args.child (given c.args.numbers.now) s) c.self.view_is

pub skip_places-requires-2-clause-places : goal.skip_places-requires-2-clause-places
skip_places-requires-2-clause-places c = subst (λ v. c.index-from.result.now + c.unmoved-unmoved.result ≤ length v) (sym c.make_room.ensures.lists) (unmoved-fits c.self.inside c.self.invariant.sound c.args.child (is-asked c.self.inside c.args.self.now c.args.child c.self.view_is c.requires.asked) c.index-from.result.now (get_or c.as_slice.result.now c.args.child 0) c.unmoved-unmoved.result c.index-from.ensures (ap (λ v. get_or v c.args.child 0) c.as_slice.ensures) c.unmoved-unmoved.ensures).0

pub skip_places-requires-2-clause-needed : goal.skip_places-requires-2-clause-needed
skip_places-requires-2-clause-needed c = subst (λ v. c.index-from.result.now + c.unmoved-unmoved.result ≤ length v) (sym c.as_slice-needs.ensures) (unmoved-fits c.self.inside c.self.invariant.sound c.args.child (is-asked c.self.inside c.args.self.now c.args.child c.self.view_is c.requires.asked) c.index-from.result.now (get_or c.as_slice.result.now c.args.child 0) c.unmoved-unmoved.result c.index-from.ensures (ap (λ v. get_or v c.args.child 0) c.as_slice.ensures) c.unmoved-unmoved.ensures).1

pub skip_places-requires-2-clause-enough : goal.skip_places-requires-2-clause-enough
skip_places-requires-2-clause-enough c k h =
    subst (λ v. get_or v (c.index-from.result.now + k) 0 ≤ length (get_or c.make_room.new.channels.lists (c.index-from.result.now + k) [])) (sym c.as_slice-needs.ensures)
    (subst (λ v. get_or c.self.inside.plan.needs (c.index-from.result.now + k) 0 ≤ length (get_or v (c.index-from.result.now + k) [])) (sym c.make_room.ensures.lists) (unmoved-enough c.self.inside c.self.invariant.sound c.args.child (is-asked c.self.inside c.args.self.now c.args.child c.self.view_is c.requires.asked) c.index-from.result.now (get_or c.as_slice.result.now c.args.child 0) c.unmoved-unmoved.result c.index-from.ensures (ap (λ v. get_or v c.args.child 0) c.as_slice.ensures) c.unmoved-unmoved.ensures k h))

pub put_on_each-requires-clause-there : goal.put_on_each-requires-clause-there
put_on_each-requires-clause-there c =
    let r : has_rates (get_or c.self.inside.plan.rates.items c.args.child []) (given c.args.numbers.now) ≡ true = ap (λ v. has_rates v (given c.args.numbers.now)) (sym (c.as_slice-2.ensures ∙ rates-read c.self.inside c.self.invariant.sound c.args.child c.index.result.now (busy-there c.self.inside c.self.invariant.sound c.args.child (is-asked c.self.inside c.args.self.now c.args.child c.self.view_is c.requires.asked)) c.index.ensures)) ∙ sym (c.are_all_of_one.ensures (map Int c.args.numbers.now) (length-map c.args.numbers.now Int)) ∙ c.if-not-are_all_of_one.false in
    subst (λ v. AreThere (length v) 1 c.deref-2.result.now) (sym (c.skip_places-2.ensures.lists ∙ ap (λ v. skip_at c.index-from.result.now (take c.unmoved-unmoved.result (drop c.index-from.result.now c.as_slice-needs.result.now)) v) c.make_room.ensures.lists ∙ ap (λ v. skip_at c.index-from.result.now (take c.unmoved-unmoved.result (drop c.index-from.result.now v)) c.self.inside.channels.lists) c.as_slice-needs.ensures))
    (subst (λ v. AreThere (length (skip_at c.index-from.result.now (take c.unmoved-unmoved.result (drop c.index-from.result.now c.self.inside.plan.needs)) c.self.inside.channels.lists)) 1 v) (sym c.deref-2.ensures.value) (told-into (handing c.self.inside c.args.child (skip_at c.index-from.result.now (take c.unmoved-unmoved.result (drop c.index-from.result.now c.self.inside.plan.needs)) c.self.inside.channels.lists)) (handing-sound c.self.inside c.self.invariant.sound c.args.child (is-asked c.self.inside c.args.self.now c.args.child c.self.view_is c.requires.asked) c.index-from.result.now (get_or c.as_slice.result.now c.args.child 0) c.unmoved-unmoved.result c.index-from.ensures (ap (λ v. get_or v c.args.child 0) c.as_slice.ensures) c.unmoved-unmoved.ensures (skip_at c.index-from.result.now (take c.unmoved-unmoved.result (drop c.index-from.result.now c.self.inside.plan.needs)) c.self.inside.channels.lists) refl) c.args.child refl (given c.args.numbers.now) r c.index-3.result.now c.index-3.ensures))

pub put_on_each-requires-clause-apart : goal.put_on_each-requires-clause-apart
put_on_each-requires-clause-apart c =
    let r : has_rates (get_or c.self.inside.plan.rates.items c.args.child []) (given c.args.numbers.now) ≡ true = ap (λ v. has_rates v (given c.args.numbers.now)) (sym (c.as_slice-2.ensures ∙ rates-read c.self.inside c.self.invariant.sound c.args.child c.index.result.now (busy-there c.self.inside c.self.invariant.sound c.args.child (is-asked c.self.inside c.args.self.now c.args.child c.self.view_is c.requires.asked)) c.index.ensures)) ∙ sym (c.are_all_of_one.ensures (map Int c.args.numbers.now) (length-map c.args.numbers.now Int)) ∙ c.if-not-are_all_of_one.false in
    subst (λ v. AreApart v) (sym c.deref-2.ensures.value) (told-apart (handing c.self.inside c.args.child (skip_at c.index-from.result.now (take c.unmoved-unmoved.result (drop c.index-from.result.now c.self.inside.plan.needs)) c.self.inside.channels.lists)) (handing-sound c.self.inside c.self.invariant.sound c.args.child (is-asked c.self.inside c.args.self.now c.args.child c.self.view_is c.requires.asked) c.index-from.result.now (get_or c.as_slice.result.now c.args.child 0) c.unmoved-unmoved.result c.index-from.ensures (ap (λ v. get_or v c.args.child 0) c.as_slice.ensures) c.unmoved-unmoved.ensures (skip_at c.index-from.result.now (take c.unmoved-unmoved.result (drop c.index-from.result.now c.self.inside.plan.needs)) c.self.inside.channels.lists) refl) c.args.child refl (given c.args.numbers.now) r c.index-3.result.now c.index-3.ensures)

pub advance-requires-clause-within : goal.advance-requires-clause-within
advance-requires-clause-within c = subst (λ v. IsWithin v c.self.inside.at c.self.inside.done) (sym c.deref-3.ensures.value) (c.self.invariant.stretch (busy-left c.self.inside c.self.invariant.sound c.args.child (is-asked c.self.inside c.args.self.now c.args.child c.self.view_is c.requires.asked)))

pub advance-requires-clause-some : goal.advance-requires-clause-some
advance-requires-clause-some c = busy-left c.self.inside c.self.invariant.sound c.args.child (is-asked c.self.inside c.args.self.now c.args.child c.self.view_is c.requires.asked)
