use Rattle.std.proofs.Common.{◌≡◌, ℕ, ◌+◌, ◌<◌, Some, true, false, sym, ap, subst, ◌∙◌}
use Rattle.std.specs.Prelude.{Option, slice_get}
use Rattle.pt_net.specs.Net.{entity_view}
use Rattle.pt_scopes.specs.Scopes.{net_view}
use Rattle.pt_start.specs.Places.{director_of, is_untimed, HasUntimedAbove, here}
use Rattle.pt_start.specs.Seen.{number_or_none}
use Rattle.pt_start.proofs.Loops.{get-is}
use Rattle.pt_start.proofs.Outward.{view-at}
use Rattle.pt_start.proofs.PlaceLaws.{inward-of, outward-of, falls-to}
use Rattle.pt_start.proofs.places.has_untimed_above.Goals as goal

pub returns-then-is_untimed-clause-yes : goal.returns-then-is_untimed-clause-yes
returns-then-is_untimed-clause-yes c = λ h.
    let net = net_view c.args.net.now in
    let k = c.in-Some.number in
    let e = entity_view c.in-Some-get.entity.now in
    let at : slice_get net.entities k ≡ Some e = view-at entity_view c.args.net.now.entities.items k c.in-Some-get.entity.now (ap (λ xs. slice_get xs k) (sym c.deref.ensures.value) ∙ sym (get-is c.deref.result.now k (Some c.in-Some-get.entity) c.in-Some-get.ensures.lookup)) in
    let untimed : is_untimed (director_of e) ≡ true = ap is_untimed (sym c.director_of.ensures) ∙ sym c.is_untimed.ensures ∙ c.if-is_untimed.true in
    c.outward.invariant.inward (subst (λ (o : Option ℕ). HasUntimedAbove net o) (sym c.in-Some.is) (here k e at untimed))

pub outward-smaller : goal.outward-smaller
outward-smaller c =
    let net = net_view c.args.net.now in
    let k = c.in-Some.number in
    let e = entity_view c.in-Some-get.entity.now in
    let at : slice_get net.entities k ≡ Some e = view-at entity_view c.args.net.now.entities.items k c.in-Some-get.entity.now (ap (λ xs. slice_get xs k) (sym c.deref.ensures.value) ∙ sym (get-is c.deref.result.now k (Some c.in-Some-get.entity) c.in-Some-get.ensures.lookup)) in
    let less : number_or_none e.parent < k + 1 = falls-to e.parent k (λ j h. c.requires.parent_before k j e at h) in
    subst (λ (o : Option ℕ). number_or_none e.parent < number_or_none o) (sym c.in-Some.is) less

pub outward-preserved : goal.outward-preserved
outward-preserved c =
    let net = net_view c.args.net.now in
    let k = c.in-Some.number in
    let e = entity_view c.in-Some-get.entity.now in
    let at : slice_get net.entities k ≡ Some e = view-at entity_view c.args.net.now.entities.items k c.in-Some-get.entity.now (ap (λ xs. slice_get xs k) (sym c.deref.ensures.value) ∙ sym (get-is c.deref.result.now k (Some c.in-Some-get.entity) c.in-Some-get.ensures.lookup)) in
    let timed : is_untimed (director_of e) ≡ false = ap is_untimed (sym c.director_of.ensures) ∙ sym c.is_untimed.ensures ∙ c.if-is_untimed.false in
    record {
      inward = λ above. c.outward.invariant.inward (subst (λ (o : Option ℕ). HasUntimedAbove net o) (sym c.in-Some.is) (inward-of net k e at above));
      outward = λ above. outward-of net k e at timed (subst (λ (o : Option ℕ). HasUntimedAbove net o) c.in-Some.is (c.outward.invariant.outward above));
    }
