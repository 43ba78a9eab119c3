use Rattle.std.proofs.Common.{ℕ, get_or, inl, refl, ap, ◌∙◌, sym, subst, arith}
use Rattle.pt_recv.specs.Lines.{list_at}
use Rattle.pt_sdf_parts.specs.ByNeed.{place_of}
use Rattle.pt_sdf.specs.Clauses.{State}
use Rattle.pt_sdf.specs.State.{asked}
use Rattle.pt_sdf.specs.Core.{state_in, unmoved}
use Rattle.pt_sdf.specs.InARow.{AreAhead}
use Rattle.pt_sdf.specs.declared.sdf.Stage.TheVariants as code
use Rattle.pt_sdf.proofs.AheadLaws.{IsAlone, front-ahead, nothing-ahead}
use Rattle.pt_sdf.proofs.CoreLaws.{seen-at}
use Rattle.pt_sdf.proofs.HandLaws.{asked-now, busy-there, busy-left, offset-read, unmoved-fits}
use Rattle.pt_sdf.proofs.ToldLaws.{source-of, inlet-of}
use Rattle.pt_sdf_parts.proofs.StretchLaws.{again-read}
use Rattle.pt_sdf.proofs.sdf.Core.int_rows.Goals as goal

pub index-requires : goal.index-requires
index-requires c =
    let g = asked-now c.self.inside c.args.self.now c.args.child c.self.view_is c.requires c.in-Asked.field-0 c.in-Asked.is in
    omega (arith, busy-there c.self.inside c.self.invariant.sound c.args.child (inl g), c.self.invariant.sound.lawful.rates, c.self.inside.plan.rates.ok.0)

pub index-requires-2 : goal.index-requires-2
index-requires-2 c =
    let g = asked-now c.self.inside c.args.self.now c.args.child c.self.view_is c.requires c.in-Asked.field-0 c.in-Asked.is in
    omega (arith, (c.self.invariant.stretch (busy-left c.self.inside c.self.invariant.sound c.args.child (inl g))).there, c.self.inside.plan.order.ok.0)

pub overflow_sub-left : goal.overflow_sub-left
overflow_sub-left c =
    let g = asked-now c.self.inside c.args.self.now c.args.child c.self.view_is c.requires c.in-Asked.field-0 c.in-Asked.is in
    let h = c.self.invariant.stretch (busy-left c.self.inside c.self.invariant.sound c.args.child (inl g)) in
    omega (arith, h.begun, again-read c.self.inside.plan.order.items c.self.inside.at c.self.inside.done c.index-2.result.now h c.index-2.ensures)

pub index-requires-3 : goal.index-requires-3
index-requires-3 c =
    let g = asked-now c.self.inside c.args.self.now c.args.child c.self.view_is c.requires c.in-Asked.field-0 c.in-Asked.is in
    omega (arith, busy-there c.self.inside c.self.invariant.sound c.args.child (inl g), c.self.invariant.lanes.counted, c.self.inside.tables.lanes.ok.0)

pub rows_in_front-requires : goal.rows_in_front-requires
rows_in_front-requires c =
    let g = asked-now c.self.inside c.args.self.now c.args.child c.self.view_is c.requires c.in-Asked.field-0 c.in-Asked.is in
    let there = busy-there c.self.inside c.self.invariant.sound c.args.child (inl g) in
    let places : ℕ = get_or c.self.inside.plan.places c.args.child 0 in
    let f = unmoved-fits c.self.inside c.self.invariant.sound c.args.child (inl g) (place_of c.self.inside.plan.places c.args.child) places places (offset-read c.self.inside c.self.invariant.sound c.args.child there) refl (sym (ap (λ v. unmoved v places) g)) in
    let a = inlet-of c.self.inside c.self.invariant c.args.child there c.index-3.result.now c.index-3.ensures c.in-Alone.c c.in-Alone.need c.in-Alone.is in
    omega (arith, f.0, a.place, a.alone)

pub returns-in-Alone : goal.returns-in-Alone
returns-in-Alone c =
    let g = asked-now c.self.inside c.args.self.now c.args.child c.self.view_is c.requires c.in-Asked.field-0 c.in-Asked.is in
    let there = busy-there c.self.inside c.self.invariant.sound c.args.child (inl g) in
    let places : ℕ = get_or c.self.inside.plan.places c.args.child 0 in
    let f = unmoved-fits c.self.inside c.self.invariant.sound c.args.child (inl g) (place_of c.self.inside.plan.places c.args.child) places places (offset-read c.self.inside c.self.invariant.sound c.args.child there) refl (sym (ap (λ v. unmoved v places) g)) in
    let a = inlet-of c.self.inside c.self.invariant c.args.child there c.index-3.result.now c.index-3.ensures c.in-Alone.c c.in-Alone.need c.in-Alone.is in
    let alone : IsAlone c.args.child c.in-Alone.c c.in-Alone.need (state_in c.self.inside) = record { inlet = a; there = f.0; fits = f.1 } in
    subst (λ (v : State). AreAhead c.args.child c.rows_in_front.result v) (seen-at c.self.inside (code.Asked c.args.child) g ∙ c.self.view_is)
    (front-ahead c.args.child c.in-Alone.c c.in-Alone.need (list_at c.self.inside.channels.lists c.in-Alone.c) (state_in c.self.inside) c.rows_in_front.result alone refl c.rows_in_front.ensures)

pub returns-in-Nothing : goal.returns-in-Nothing
returns-in-Nothing c =
    let g = asked-now c.self.inside c.args.self.now c.args.child c.self.view_is c.requires c.in-Asked.field-0 c.in-Asked.is in
    let there = busy-there c.self.inside c.self.invariant.sound c.args.child (inl g) in
    subst (λ (v : State). AreAhead c.args.child c.nothing.result v) (seen-at c.self.inside (code.Asked c.args.child) g ∙ c.self.view_is)
    (subst (λ rows. AreAhead c.args.child rows (asked c.args.child (state_in c.self.inside))) (sym c.nothing.ensures) (nothing-ahead c.args.child (state_in c.self.inside) c.min-firings.result (source-of c.self.inside c.self.invariant c.args.child there c.index-3.result.now c.index-3.ensures c.in-Nothing.is)))
