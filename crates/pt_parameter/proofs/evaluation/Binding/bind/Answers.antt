use Rattle.std.proofs.Common.{◌≡◌, ℕ, List, Some, sym, ap, ◌∙◌, if◌then◌else◌}
use Rattle.std.specs.Prelude.{option_map}
use Rattle.std.specs.Str.{bytes_eq}
use Rattle.pt_value.specs.declared.token.Token.{Token}
use Rattle.pt_value.specs.Token.{value_of}
use Rattle.pt_datatypes.specs.Normal.{normal}
use Rattle.pt_datatypes.specs.Token.{type_of_value}
use Rattle.pt_expr.specs.Env.{scope_of}
use Rattle.pt_expr_type.specs.TypeEnv.{types_in}
use Rattle.pt_scopes.specs.Names.{seen_scope}
use Rattle.pt_types.proofs.TokenTypes.{value-is_type}
use Rattle.pt_parameter.proofs.Binding.{bound-more}
use Rattle.pt_parameter.proofs.evaluation.Binding.bind.Goals as goal

pub returns-in_ok-bind-in-Some-2-clause-ok : goal.returns-in_ok-bind-in-Some-2-clause-ok
returns-in_ok-bind-in-Some-2-clause-ok c =
    let v = value_of c.in-Some.token.now in
    let name = c.args.name.now in
    let old = c.args.self.now in
    let seen : seen_scope c.args.seen.now name ≡ Some (Some v) = ap (option_map Some) (sym c.in-Some.ensures) in
    let typed : (other : List ℕ) → types_in c.bind.new.self other ≡ (if bytes_eq name other then Some (type_of_value v) else types_in old.types other) =
    λ other. c.in_ok-bind-in-Some.ensures.ok other ∙ ap (λ s. if bytes_eq name other then Some s else types_in old.types other) (ap normal c.in_ok-type_of_token-in-Some.ensures ∙ value-is_type v) in
    let bound : (other : List ℕ) → scope_of c.bind-in-Some.new.self other ≡ (if bytes_eq name other then Some (Some v) else scope_of old.env other) =
    λ other. c.in_ok-bind-in-Some-2.ensures.ok other ∙ ap (λ (t : Token). if bytes_eq name other then Some (Some (value_of t)) else scope_of old.env other) c.in_ok-copy-in-Some.ensures.value in
    λ done h. bound-more (seen_scope c.args.seen.now) (scope_of old.env) (scope_of c.bind-in-Some.new.self) (types_in old.types) (types_in c.bind.new.self) name v seen bound typed done h
