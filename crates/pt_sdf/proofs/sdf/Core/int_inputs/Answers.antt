use Rattle.std.proofs.Common.{◌≡◌, ◌+◌, ◌<◌, ◌≤◌, length, get_or, take, drop, inl, refl, ap, ap₂, ◌∙◌, sym, subst, arith}
use Rattle.pt_meaning.specs.Kahn.{firsts}
use Rattle.pt_firing.specs.IntInputs.{one_at_each}
use Rattle.pt_sdf_parts.specs.ByNeed.{place_of}
use Rattle.pt_sdf.specs.State.{lent_in}
use Rattle.pt_sdf.specs.Clauses.{State}
use Rattle.pt_sdf.specs.Core.{unmoved}
use Rattle.pt_sdf.specs.declared.sdf.Stage.TheVariants as code
use Rattle.pt_sdf_parts.proofs.TableLaws.{begins-long}
use Rattle.pt_sdf.proofs.CoreLaws.{seen-at}
use Rattle.pt_sdf.proofs.HandLaws.{busy-there, offset-read, place-is, unmoved-fits}
use Rattle.pt_sdf_parts.proofs.IntLaws.{some-more}
use Rattle.pt_sdf.proofs.ToldLaws.{source-of, inlet-of, each-of}
use Rattle.pt_sdf_parts.proofs.LaneLaws.{inlet-taken}
use Rattle.pt_sdf.proofs.sdf.Core.int_inputs.Goals as goal

pub returns-in-Nothing : goal.returns-in-Nothing
returns-in-Nothing c =
    c.one_at_each.ensures
    ∙ sym (ap (λ n. firsts (take n (drop (place_of c.self.inside.plan.places c.in-Asked.child) c.self.inside.plan.needs)) (take n (drop (place_of c.self.inside.plan.places c.in-Asked.child) c.self.inside.channels.lists))) (source-of c.self.inside c.self.invariant c.in-Asked.child (busy-there c.self.inside c.self.invariant.sound c.in-Asked.child (inl c.in-Asked.is)) c.index.result.now c.index.ensures c.in-Nothing.is))
    ∙ ap (λ (s : State). lent_in s.stage) (seen-at c.self.inside (code.Asked c.in-Asked.child) c.in-Asked.is ∙ c.self.view_is)

pub numbers_in_front-requires : goal.numbers_in_front-requires
numbers_in_front-requires c =
    let a = inlet-of c.self.inside c.self.invariant c.in-Asked.child (busy-there c.self.inside c.self.invariant.sound c.in-Asked.child (inl c.in-Asked.is)) c.index.result.now c.index.ensures c.in-Alone.c c.in-Alone.need c.in-Alone.is in
    let f = unmoved-fits c.self.inside c.self.invariant.sound c.in-Asked.child (inl c.in-Asked.is) (place_of c.self.inside.plan.places c.in-Asked.child) (get_or c.self.inside.plan.places c.in-Asked.child 0) (get_or c.self.inside.plan.places c.in-Asked.child 0) (offset-read c.self.inside c.self.invariant.sound c.in-Asked.child (busy-there c.self.inside c.self.invariant.sound c.in-Asked.child (inl c.in-Asked.is))) refl (sym (ap (λ v. unmoved v (get_or c.self.inside.plan.places c.in-Asked.child 0)) c.in-Asked.is)) in
    omega (arith, f.0, a.place, a.alone)

pub returns-in-Alone : goal.returns-in-Alone
returns-in-Alone c =
    let a = inlet-of c.self.inside c.self.invariant c.in-Asked.child (busy-there c.self.inside c.self.invariant.sound c.in-Asked.child (inl c.in-Asked.is)) c.index.result.now c.index.ensures c.in-Alone.c c.in-Alone.need c.in-Alone.is in
    let f = unmoved-fits c.self.inside c.self.invariant.sound c.in-Asked.child (inl c.in-Asked.is) (place_of c.self.inside.plan.places c.in-Asked.child) (get_or c.self.inside.plan.places c.in-Asked.child 0) (get_or c.self.inside.plan.places c.in-Asked.child 0) (offset-read c.self.inside c.self.invariant.sound c.in-Asked.child (busy-there c.self.inside c.self.invariant.sound c.in-Asked.child (inl c.in-Asked.is))) refl (sym (ap (λ v. unmoved v (get_or c.self.inside.plan.places c.in-Asked.child 0)) c.in-Asked.is)) in
    some-more c.numbers_in_front.result
    (λ x e. e ∙ inlet-taken c.self.inside.plan.needs c.self.inside.channels.lists (place_of c.self.inside.plan.places c.in-Asked.child) (get_or c.self.inside.plan.places c.in-Asked.child 0) c.in-Alone.c c.in-Alone.need a f.0 f.1 ∙ ap (λ (s : State). lent_in s.stage) (seen-at c.self.inside (code.Asked c.in-Asked.child) c.in-Asked.is ∙ c.self.view_is)) c.numbers_in_front.ensures

pub index-from-requires : goal.index-from-requires
index-from-requires c = omega (arith, (busy-there c.self.inside c.self.invariant.sound c.in-Asked.child (inl c.in-Asked.is)), ap (λ v. length v) c.self.invariant.sound.places_begin, c.self.inside.tables.offsets.ok.0, begins-long 0 c.self.inside.plan.places)

pub first_numbers-requires-clause-places : goal.first_numbers-requires-clause-places
first_numbers-requires-clause-places c = (unmoved-fits c.self.inside c.self.invariant.sound c.in-Asked.child (inl c.in-Asked.is) c.index-from.result.now (get_or c.as_slice.result.now c.in-Asked.child 0) (get_or c.as_slice.result.now c.in-Asked.child 0) c.index-from.ensures (ap (λ v. get_or v c.in-Asked.child 0) c.as_slice.ensures) (sym (ap (λ v. unmoved v (get_or c.as_slice.result.now c.in-Asked.child 0)) c.in-Asked.is))).0

pub first_numbers-requires-clause-needed : goal.first_numbers-requires-clause-needed
first_numbers-requires-clause-needed c = subst (λ v. c.index-from.result.now + (get_or c.as_slice.result.now c.in-Asked.child 0) ≤ length v) (sym c.as_slice-in-Each.ensures) (unmoved-fits c.self.inside c.self.invariant.sound c.in-Asked.child (inl c.in-Asked.is) c.index-from.result.now (get_or c.as_slice.result.now c.in-Asked.child 0) (get_or c.as_slice.result.now c.in-Asked.child 0) c.index-from.ensures (ap (λ v. get_or v c.in-Asked.child 0) c.as_slice.ensures) (sym (ap (λ v. unmoved v (get_or c.as_slice.result.now c.in-Asked.child 0)) c.in-Asked.is))).1

pub first_numbers-requires-clause-one : goal.first_numbers-requires-clause-one
first_numbers-requires-clause-one c k l =
    subst (λ v. get_or v (c.index-from.result.now + k) 0 ≡ 1) (sym c.as_slice-in-Each.ensures)
    (subst (λ o. get_or c.self.inside.plan.needs (o + k) 0 ≡ 1) (sym (place-is c.self.inside c.self.invariant.sound c.in-Asked.child (inl c.in-Asked.is) c.index-from.result.now (get_or c.as_slice.result.now c.in-Asked.child 0) (get_or c.as_slice.result.now c.in-Asked.child 0) c.index-from.ensures (ap (λ v. get_or v c.in-Asked.child 0) c.as_slice.ensures) (sym (ap (λ v. unmoved v (get_or c.as_slice.result.now c.in-Asked.child 0)) c.in-Asked.is))))
    (each-of c.self.inside c.self.invariant c.in-Asked.child (busy-there c.self.inside c.self.invariant.sound c.in-Asked.child (inl c.in-Asked.is)) c.index.result.now c.index.ensures c.in-Each.is k (subst (λ v. k < v) (ap (λ v. get_or v c.in-Asked.child 0) c.as_slice.ensures) l)))

pub returns-then-first_numbers : goal.returns-then-first_numbers
returns-then-first_numbers c =
    c.one_at_each-then-first_numbers.ensures ∙ ap one_at_each c.deref.ensures.value ∙ c.if-first_numbers.ensures refl
    ∙ ap (λ v. firsts (take (get_or c.as_slice.result.now c.in-Asked.child 0) (drop c.index-from.result.now v)) (take (get_or c.as_slice.result.now c.in-Asked.child 0) (drop c.index-from.result.now c.self.inside.channels.lists))) c.as_slice-in-Each.ensures
    ∙ ap₂ (λ x y. firsts (take y (drop x c.self.inside.plan.needs)) (take y (drop x c.self.inside.channels.lists))) (place-is c.self.inside c.self.invariant.sound c.in-Asked.child (inl c.in-Asked.is) c.index-from.result.now (get_or c.as_slice.result.now c.in-Asked.child 0) (get_or c.as_slice.result.now c.in-Asked.child 0) c.index-from.ensures (ap (λ v. get_or v c.in-Asked.child 0) c.as_slice.ensures) (sym (ap (λ v. unmoved v (get_or c.as_slice.result.now c.in-Asked.child 0)) c.in-Asked.is))) (ap (λ v. get_or v c.in-Asked.child 0) c.as_slice.ensures)
    ∙ ap (λ (s : State). lent_in s.stage) (seen-at c.self.inside (code.Asked c.in-Asked.child) c.in-Asked.is ∙ c.self.view_is)
