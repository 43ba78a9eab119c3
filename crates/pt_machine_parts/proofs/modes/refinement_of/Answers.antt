use Rattle.std.proofs.Common.{◌≡◌, ℕ, List, map, Some, None, sym, ap, ◌∙◌, rules}
use Rattle.pt_document.specs.Names.{below}
use Rattle.pt_machine.specs.declared.cause.Cause.TheVariants.{Refinement}
use Rattle.pt_machine.specs.Numbers.{number_of}
use Rattle.pt_machine.specs.Names.{path_of}
use Rattle.pt_machine_parts.specs.Told.{IsTold}
use Rattle.pt_machine_parts.specs.Own.{entity_of, kids_of, IsFaultOf}
use Rattle.pt_machine_parts.proofs.FaultLaws.{weaker}
use Rattle.pt_machine_parts.proofs.StateLaws.{named-refinement, no-refinement, is-refined, not-refined, missing}
use Rattle.pt_machine_parts.proofs.modes.refinement_of.Goals as goal

pub returns-in_err-number-in-Some-clause-told : goal.returns-in_err-number-in-Some-clause-told
returns-in_err-number-in-Some-clause-told c =
    let m = c.args.modal.now in
    let name = c.as_str.result.now in
    let named = c.in-Some.is ∙ ap (λ (n : List ℕ). Some n) (sym c.as_str.ensures) in
    let told : IsTold (IsFaultOf m) c.in_err-number-in-Some.field-0.0 =
    weaker (λ cause. (cause ≡ Refinement) × (number_of (map path_of (kids_of m)) (below (entity_of m).path name) ≡ None)) (IsFaultOf m)
    (missing (entity_of m) (kids_of m) c.args.state.now m.is_parted name c.requires.there named)
    c.in_err-number-in-Some.field-0.0 c.in_err-number-in-Some.ensures.told in
    let h = c.from_residual.ensures in
    search (rules, told, h)

pub returns-in_ok-number-in-Some-clause-number : goal.returns-in_ok-number-in-Some-clause-number
returns-in_ok-number-in-Some-clause-number c =
    let m = c.args.modal.now in
    let named = c.in-Some.is ∙ ap (λ (n : List ℕ). Some n) (sym c.as_str.ensures) in
    sym (named-refinement (entity_of m) (kids_of m) c.args.state.now c.as_str.result.now c.in_ok-number-in-Some.number named c.in_ok-number-in-Some.ensures.ok)

pub returns-in_ok-number-in-Some-clause-named : goal.returns-in_ok-number-in-Some-clause-named
returns-in_ok-number-in-Some-clause-named c =
    let m = c.args.modal.now in
    let named = c.in-Some.is ∙ ap (λ (n : List ℕ). Some n) (sym c.as_str.ensures) in
    is-refined (entity_of m) (kids_of m) c.args.state.now c.in_ok-number-in-Some.number (named-refinement (entity_of m) (kids_of m) c.args.state.now c.as_str.result.now c.in_ok-number-in-Some.number named c.in_ok-number-in-Some.ensures.ok)

pub returns-in-None-clause-number : goal.returns-in-None-clause-number
returns-in-None-clause-number c = no-refinement (entity_of c.args.modal.now) (kids_of c.args.modal.now) c.args.state.now c.in-None.is

pub returns-in-None-clause-named : goal.returns-in-None-clause-named
returns-in-None-clause-named c = not-refined (entity_of c.args.modal.now) (kids_of c.args.modal.now) c.args.state.now c.in-None.is
