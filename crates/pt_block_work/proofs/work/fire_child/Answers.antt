use Rattle.std.proofs.Common.{◌≡◌, ℕ, ◌*◌, List, [], ◌∷◌, length, get_or, set, map, nat_eq, true, false, refl, sym, ap, subst, ◌∙◌, arith}
use Rattle.pt_core.specs.Source.{source_of}
use Rattle.pt_sdf_parts.specs.Plan.{plan_of}
use Rattle.pt_library.specs.LibraryActor.{GivesStretch}
use Rattle.pt_library.specs.LibraryActor as library
use Rattle.pt_block_work.specs.Work.{AreInputs}
use Rattle.pt_block_work.proofs.WorkingLaws.{get-any, one-rate, empty-row, some-row, set-none, set-twice, child-fired}
use Rattle.pt_block_work.proofs.work.fire_child.Goals as goal

pub returns : goal.returns
returns c = λ t.
    let p = plan_of c.args.plan.now in
    let i : ℕ = c.args.i in
    let rate : ℕ = get_or c.as_slice-rates.result.now 0 0 in
    let q : ℕ = get_or c.args.plan.now.repetitions i 0 in
    let firings : c.in-Some.firings ≡ c.args.iterations * q = grind (arith, c.in-Some.ensures) in
    let rates : get_or c.args.plan.now.rates.items i [] ≡ rate ∷ [] = get-any c.args.plan.now.rates.items i [] c.index.result.now (omega (arith, c.requires.there, c.requires.rates)) ∙ sym (c.as_slice-rates.ensures ∙ c.index.ensures) ∙ one-rate c.as_slice-rates.result.now (omega (arith, c.if-rates-ne1.false)) in
    let before : get_or c.args.given.now.items i [] ≡ [] = get-any c.args.given.now.items i [] c.index-else-rates-ne1.result.now (omega (arith, c.requires.there, c.requires.rows)) ∙ sym c.index-else-rates-ne1.ensures ∙ empty-row c.index-else-rates-ne1.result.now (sym c.if-not-is_empty.ensures) in
    let none : c.replace-row.new.dest ≡ [] = c.replace-row.ensures.after ∙ c.new.ensures in
    let as_before : set c.args.given.now.items i c.replace-row.new.dest ≡ c.args.given.now.items = set-none c.args.given.now.items i c.replace-row.new.dest before none in
    let inputs : AreInputs (map source_of c.args.plan.now.sources.items) c.args.plan.now.needs c.args.given.now.items c.args.from (get_or c.args.plan.now.places i 0) (c.args.iterations * q) c.in-Some-inputs_of.inputs =
    subst (λ n. AreInputs (map source_of c.args.plan.now.sources.items) c.args.plan.now.needs c.args.given.now.items c.args.from (get_or c.args.plan.now.places i 0) n c.in-Some-inputs_of.inputs) firings
    (subst (λ v. AreInputs (map source_of c.args.plan.now.sources.items) c.args.plan.now.needs v c.args.from (get_or c.args.plan.now.places i 0) c.in-Some.firings c.in-Some-inputs_of.inputs) (c.deref.ensures.value ∙ as_before) (subst (λ n. AreInputs (map source_of c.args.plan.now.sources.items) c.args.plan.now.needs c.deref.result.now c.args.from (get_or n i 0) c.in-Some.firings c.in-Some-inputs_of.inputs) c.as_slice-2.ensures c.in-Some-inputs_of.ensures))
    in
    let made : GivesStretch library.step c.args.actor.now c.in-Some-inputs_of.inputs rate (c.args.iterations * q) c.stretch-made.new.given.items c.stretch-made.new.self =
    subst (λ n. GivesStretch library.step c.args.actor.now c.in-Some-inputs_of.inputs rate n c.stretch-made.new.given.items c.stretch-made.new.self) (c.if-made-firings.false ∙ firings) c.stretch-made.ensures
    in
    child-fired p c.args.plan.now.needs c.args.from i c.args.iterations c.args.actor.now c.stretch-made.new.self c.args.given.now.items (set (set c.args.given.now.items i c.replace-row.new.dest) i c.stretch-made.new.given.items) rate c.stretch-made.new.given.items c.in-Some-inputs_of.inputs rates before inputs made
    (some-row c.stretch-made.new.given.items (sym c.if-is_empty.ensures)) (set-twice c.args.given.now.items i c.replace-row.new.dest c.stretch-made.new.given.items)
