use Rattle.std.proofs.Common.{◌≡◌, ℕ, List, vec_len, None, Some, sym, ap, subst, ◌∙◌, arith, rules}
use Rattle.std.proofs.lemmas.Bool.{eqb-true}
use Rattle.std.proofs.lemmas.List.{nil_from_length}
use Rattle.std.proofs.lemmas.Option.{none-some, same_Some}
use Rattle.pt_machine.specs.declared.cause.Cause.TheVariants.{Initial}
use Rattle.pt_machine.specs.Names.{state_names, number_if}
use Rattle.pt_machine.specs.Causes.{no_state, initial}
use Rattle.pt_machine_parts.specs.Told.{IsTold}
use Rattle.pt_machine_parts.specs.Numbered.{numbers_view}
use Rattle.pt_machine_parts.specs.Own.{entity_of, IsFaultOf}
use Rattle.pt_machine_parts.proofs.FaultLaws.{weaker}
use Rattle.pt_machine_parts.proofs.NameLaws.{not-among}
use Rattle.pt_machine_parts.proofs.initial.initial_of.Goals as goal

pub returns-then-is_empty-clause-told : goal.returns-then-is_empty-clause-told
returns-then-is_empty-clause-told c =
    let states = c.args.modal.now.entity.now.states in
    let empty : vec_len states ≡ 0 = eqb-true (vec_len states) 0 (sym c.is_empty.ensures ∙ c.if-is_empty.true) in
    no_state (nil_from_length states.items (omega (arith, empty, states.ok.0)))

pub returns-in_err-number-in-Some-clause-told : goal.returns-in_err-number-in-Some-clause-told
returns-in_err-number-in-Some-clause-told c =
    let m = c.args.modal.now in
    let asked = c.as_str.result.now in
    let named : m.entity.now.initial ≡ Some asked = c.in-Some.is ∙ ap (λ (n : List ℕ). Some n) (sym c.as_str.ensures) in
    let told : IsTold (IsFaultOf m) c.in_err-number-in-Some.field-0.0 =
    weaker (λ cause. (cause ≡ Initial) × (numbers_view m.own.states asked ≡ None)) (IsFaultOf m)
    (λ cause w. subst (IsFaultOf m) (sym w.0) (initial (λ name given there.
    let same : asked ≡ name = same_Some asked name (sym named ∙ given) in
    not-among (state_names (entity_of m)) name (sym (c.requires.states name) ∙ ap (λ (n : List ℕ). numbers_view m.own.states n) (sym same) ∙ w.1) there)))
    c.in_err-number-in-Some.field-0.0 c.in_err-number-in-Some.ensures.told in
    let h = c.from_residual.ensures in
    search (rules, told, h)

pub returns-in_ok-number-in-Some-clause-ok : goal.returns-in_ok-number-in-Some-clause-ok
returns-in_ok-number-in-Some-clause-ok c =
    let m = c.args.modal.now in
    let asked = c.as_str.result.now in
    let named : m.entity.now.initial ≡ Some asked = c.in-Some.is ∙ ap (λ (n : List ℕ). Some n) (sym c.as_str.ensures) in
    ap (number_if (state_names (entity_of m))) named ∙ sym (c.requires.states asked) ∙ c.in_ok-number-in-Some.ensures.ok

pub returns-in-None-clause-told : goal.returns-in-None-clause-told
returns-in-None-clause-told c = initial (λ name given there. none-some name (sym c.in-None.is ∙ given))
