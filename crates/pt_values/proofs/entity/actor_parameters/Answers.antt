use Rattle.std.proofs.Common.{ℕ, List, map, None, subst, IfOk, IfErr}
use Rattle.std.specs.Prelude.{Bool}
use Rattle.std.proofs.lemmas.Result.{IfOk-weaker, IfErr-weaker}
use Rattle.pt_document.specs.declared.job.Property.{Property}
use Rattle.pt_document.specs.View.{properties_view}
use Rattle.pt_language.specs.Scope.{Scope}
use Rattle.pt_scopes.specs.Given.{held_view, names_port}
use Rattle.pt_scopes.specs.PortNames.{names_port_of}
use Rattle.pt_net.specs.Net.{entity_view}
use Rattle.pt_scopes.specs.Sites.{inputs_of}
use Rattle.pt_scopes.specs.ClassParameters.{AreParametersOf, IsClassFault}
use Rattle.pt_scopes.specs.Told.{IsToldAt, chain_scope}
use Rattle.pt_values.proofs.EntityParts.{no-own}
use Rattle.pt_values.proofs.Unnamed.{parameters-same, told-same}
use Rattle.pt_values.proofs.entity.actor_parameters.Goals as goal

pub returns-clause-ok : goal.returns-clause-ok
returns-clause-ok c =
    let P : (List ℕ → Bool) → Scope → List ℕ → List Property → Type 0 = λ ports s class ps. IfOk c.class_parameters.result (λ values. AreParametersOf ports s None class (properties_view ps) (map held_view values.items)) in
    let ports = names_port (inputs_of (entity_view c.args.entity.now)) in
    let given = names_port_of c.in_ok-ports.ports in
    let seen = chain_scope c.args.frames.now c.args.chain.now in
    IfOk-weaker c.class_parameters.result _ _ (λ values h. parameters-same given ports seen c.args.entity.now.class c.in_ok-ports.ensures (properties_view c.args.entity.now.parameters.items) (map held_view values.items) h)
    (subst (P given seen c.args.entity.now.class) c.as_slice-parameters.ensures.value
    (subst (λ (class : List ℕ). P given seen class c.as_slice-parameters.result.now) c.as_str-class.ensures
    (subst (λ (s : Scope). P given s c.as_str-class.result.now c.as_slice-parameters.result.now) (no-own c.new-own.result c.args.frames.now c.args.chain.now c.new-own.ensures) c.class_parameters.ensures.ok)))

pub returns-clause-told : goal.returns-clause-told
returns-clause-told c =
    let P : List ℕ → (List ℕ → Bool) → Scope → List ℕ → List Property → Type 0 = λ path ports s class ps. IfErr c.class_parameters.result (IsToldAt path (IsClassFault ports s None class (properties_view ps))) in
    let ports = names_port (inputs_of (entity_view c.args.entity.now)) in
    let given = names_port_of c.in_ok-ports.ports in
    let seen = chain_scope c.args.frames.now c.args.chain.now in
    let class = c.args.entity.now.class in
    IfErr-weaker c.class_parameters.result _ _ (λ fault h. told-same given ports seen class c.in_ok-ports.ensures c.args.entity.now.path (properties_view c.args.entity.now.parameters.items) fault h)
    (subst (λ (path : List ℕ). P path given seen class c.args.entity.now.parameters.items) c.as_str-path.ensures
    (subst (P c.as_str-path.result.now given seen class) c.as_slice-parameters.ensures.value
    (subst (λ (k : List ℕ). P c.as_str-path.result.now given seen k c.as_slice-parameters.result.now) c.as_str-class.ensures
    (subst (λ (s : Scope). P c.as_str-path.result.now given s c.as_str-class.result.now c.as_slice-parameters.result.now) (no-own c.new-own.result c.args.frames.now c.args.chain.now c.new-own.ensures) c.class_parameters.ensures.told))))
