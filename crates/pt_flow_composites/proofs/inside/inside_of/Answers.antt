use Rattle.std.proofs.Common.{◌≡◌, ℕ, List, Option, None, true, length, map, refl, sym, ap, ap₂, ◌∙◌, subst}
use Rattle.pt_meaning.specs.Running.{total}
use Rattle.pt_plan.specs.declared.inside.Inside.{Inside}
use Rattle.pt_core.specs.declared.source.Source.{Source}
use Rattle.pt_sdf_parts.specs.ByNeed.{planned}
use Rattle.pt_core.specs.Source.{source_of}
use Rattle.pt_node.specs.Shown.{shown}
use Rattle.pt_node.specs.View.{Tree}
use Rattle.pt_trees.specs.Around.{around_of}
use Rattle.pt_trees.specs.Sdf.{first_counts}
use Rattle.pt_trees.specs.Composite.{trees_of}
use Rattle.pt_trees.specs.Rates.{AreRates, HaveRates}
use Rattle.pt_wired.specs.Needs.{NeedAll, AreNeeds}
use Rattle.pt_flow_composites.proofs.InsideLaws.{by-form, by-needs, by-steady, few-around, no-needs}
use Rattle.pt_flow_composites.proofs.inside.inside_of.Goals as goal

pub returns-then-not-are_steady-clause-stands : goal.returns-then-not-are_steady-clause-stands
returns-then-not-are_steady-clause-stands c = by-steady (around_of c.args.wiring) (trees_of (map shown c.args.children.now)) (c.are_steady.ensures.no c.if-not-are_steady.true (around_of c.args.wiring))

pub returns-in_default-clause-stands : goal.returns-in_default-clause-stands
returns-in_default-clause-stands c =
    let kids : List Tree = trees_of (map shown c.args.children.now) in
    by-needs (around_of c.args.wiring) kids (few-around c.args.wiring (c.are_few.ensures.0 c.if-not-are_few.false)) (subst (λ v. AreNeeds kids v None) c.as_slice.ensures (no-needs kids c.as_slice.result.now c.in_ok-needs.field-0 c.in_default.not-Some c.in_ok-needs.ensures))

pub returns-then-not-is_well_formed-clause-stands : goal.returns-then-not-is_well_formed-clause-stands
returns-then-not-is_well_formed-clause-stands c =
    let kids : List Tree = trees_of (map shown c.args.children.now) in
    let x : Inside = record { sources = c.args.wiring.sources; places = c.args.wiring.places; needs = c.of.result; rates = c.in-Some-2.rates; first = c.in_ok-first_counts.field-0; inputs = c.args.wiring.inputs; outputs = c.args.wiring.outputs } in
    let all : NeedAll kids c.as_slice.result.now c.in-Some.needs.items = subst (λ o. AreNeeds kids c.as_slice.result.now o) c.in-Some.is c.in_ok-needs.ensures in
    by-form (around_of c.args.wiring) kids x (few-around c.args.wiring (c.are_few.ensures.0 c.if-not-are_few.false))
    (record { sources = refl; places = refl; needs = all.needs ∙ ap₂ (λ v w. planned v w) c.as_slice.ensures (sym c.of.ensures); steady = c.are_steady.ensures.yes c.if-not-are_steady.false; rates = subst (λ (v : List (Option (List ℕ))). HaveRates v kids c.in-Some-2.rates.items) c.deref.ensures.value (subst (λ o. AreRates c.deref.result.now kids o) c.in-Some-2.is c.in_ok-rates.ensures); first = c.in_ok-first_counts.ensures ∙ ap (λ (v : List Source). first_counts kids (map source_of v)) c.deref-2.ensures.value; inputs = refl; outputs = refl })
    (ap (λ (v : List ℕ). length v) c.of.ensures ∙ all.counted ∙ ap (λ (v : List ℕ). total v) c.as_slice.ensures)
    (λ i. let t : c.is_well_formed.result ≡ true = c.is_well_formed.ensures.1 i in absurd (cc (c.if-not-is_well_formed.true)))
