use Rattle.std.proofs.Common.{◌≡◌, ℕ, List, map, Some, refl, sym, subst, IfErr, rules}
use Rattle.std.specs.Prelude.{option_map}
use Rattle.std.specs.List.{AllZip}
use Rattle.std.proofs.lemmas.Result.{IfErr-weaker}
use Rattle.pt_value.specs.Token.{value_of}
use Rattle.pt_document.specs.declared.job.Property.{Property}
use Rattle.pt_document.specs.declared.job.Port.{Port}
use Rattle.pt_document.specs.declared.refusal.DocFault.{DocFault}
use Rattle.pt_document.specs.View.{properties_view, port_view}
use Rattle.pt_language.specs.Scope.{Scope}
use Rattle.pt_net.specs.Net as nets
use Rattle.pt_scopes.specs.Names.{held, or_else, in_chain}
use Rattle.pt_scopes.specs.Given.{held_view}
use Rattle.pt_scopes.specs.Valued.{entity_view, IsVariable, IsRate}
use Rattle.pt_scopes.specs.Told.{IsToldAt, IsVariableFault, IsRateFault, IsRest, IsFaultWhere}
use Rattle.pt_values.proofs.EntityParts.{director-told, variable-told, rate-told, entity-valued}
use Rattle.pt_values.proofs.entity.entity_values.Goals as goal

pub returns-in_err-director-clause-told : goal.returns-in_err-director-clause-told
returns-in_err-director-clause-told c =
    let e = nets.entity_view c.args.entity.now in
    let fault = c.in_err-director.field-0.0 in
    let P : DocFault → Type 0 = IsFaultWhere c.args.frames.now c.args.chain.now e in
    let told : P fault =
    director-told c.args.frames.now c.args.chain.now e c.in_ok-own.own (map held_view c.in_ok-own.parameters.items) c.in_ok-own.ensures.ok fault
    c.in_err-director.ensures.told in
    let h = c.from_residual-in_err-director.ensures in
    let same : IfErr c.from_residual-in_err-director.result (λ f. f ≡ fault) = search (rules, h) in
    IfErr-weaker c.from_residual-in_err-director.result (λ f. f ≡ fault) P (λ f e. subst P (sym e) told) same

pub returns-in_err-variables-clause-told : goal.returns-in_err-variables-clause-told
returns-in_err-variables-clause-told c =
    let e = nets.entity_view c.args.entity.now in
    let fault = c.in_err-variables.field-0.0 in
    let P : DocFault → Type 0 = IsFaultWhere c.args.frames.now c.args.chain.now e in
    let told : P fault =
    variable-told c.args.frames.now c.args.chain.now e c.in_ok-own.own (map held_view c.in_ok-own.parameters.items) c.in_ok-own.ensures.ok fault
    (let seen : Scope = λ name. option_map Some (or_else (held c.in_ok-own.own name) (in_chain c.args.frames.now c.args.chain.now name)) in
    subst (λ (path : List ℕ). IsToldAt path (IsVariableFault seen (properties_view c.args.entity.now.variables.items)) fault) c.as_str-path.ensures
    (subst (λ (ps : List Property). IsToldAt c.as_str-path.result.now (IsVariableFault seen (properties_view ps)) fault) c.deref.ensures.value c.in_err-variables.ensures.told)) in
    let h = c.from_residual-in_err-variables.ensures in
    let same : IfErr c.from_residual-in_err-variables.result (λ f. f ≡ fault) = search (rules, h) in
    IfErr-weaker c.from_residual-in_err-variables.result (λ f. f ≡ fault) P (λ f e. subst P (sym e) told) same

pub returns-in_err-rates-clause-told : goal.returns-in_err-rates-clause-told
returns-in_err-rates-clause-told c =
    let e = nets.entity_view c.args.entity.now in
    let fault = c.in_err-rates.field-0.0 in
    let P : DocFault → Type 0 = IsFaultWhere c.args.frames.now c.args.chain.now e in
    let told : P fault =
    rate-told c.args.frames.now c.args.chain.now e c.in_ok-own.own (map held_view c.in_ok-own.parameters.items) c.in_ok-own.ensures.ok fault
    (subst (λ (path : List ℕ). IsToldAt path (IsRateFault (map port_view c.args.entity.now.ports.items)) fault) c.as_str-path.ensures
    (subst (λ (ps : List Port). IsToldAt c.as_str-path.result.now (IsRateFault (map port_view ps)) fault) c.deref-2.ensures.value c.in_err-rates.ensures.told)) in
    let h = c.from_residual-in_err-rates.ensures in
    let same : IfErr c.from_residual-in_err-rates.result (λ f. f ≡ fault) = search (rules, h) in
    IfErr-weaker c.from_residual-in_err-rates.result (λ f. f ≡ fault) P (λ f e. subst P (sym e) told) same

pub returns-clause-ok : goal.returns-clause-ok
returns-clause-ok c =
    let e = nets.entity_view c.args.entity.now in
    let v = entity_view record { parameters = c.in_ok-own.parameters; director = c.in_ok-director.director; variables = c.in_ok-variables.variables; rates = c.in_ok-rates.rates } in
    let seen : Scope = λ name. option_map Some (or_else (held c.in_ok-own.own name) (in_chain c.args.frames.now c.args.chain.now name)) in
    let rest : IsRest seen e v = record {
      director = c.in_ok-director.ensures.ok;
      variables = subst (λ (ps : List Property). AllZip (IsVariable seen) (properties_view ps) (map value_of c.in_ok-variables.variables.items)) c.deref.ensures.value c.in_ok-variables.ensures.ok;
      rates = subst (λ (ps : List Port). AllZip IsRate (map port_view ps) (map (option_map value_of) c.in_ok-rates.rates.items)) c.deref-2.ensures.value c.in_ok-rates.ensures.ok;
    } in
    entity-valued c.args.frames.now c.args.chain.now e c.in_ok-own.own (map held_view c.in_ok-own.parameters.items) c.in_ok-own.ensures.ok v refl rest
