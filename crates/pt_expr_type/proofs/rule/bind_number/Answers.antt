use Rattle.std.proofs.Common.{◌≡◌, map, Some, ap, sym, ◌∙◌}
use Rattle.std.specs.Prelude.{slice_get}
use Rattle.std.specs.Str.{bytes_eq}
use Rattle.pt_datatypes.specs.Normal.{normal}
use Rattle.pt_types.specs.Ty.{type_of}
use Rattle.pt_expr_type.specs.TypeEnv.{types_in}
use Rattle.pt_expr_type.proofs.Numbers.{slice_get-at, slice_get-past, bound-number, unbound-number, on-ok}
use Rattle.pt_expr_type.proofs.rule.bind_number.Goals as goal

pub returns-in_ok-copy-in-Some : goal.returns-in_ok-copy-in-Some
returns-in_ok-copy-in-Some c =
    let types = c.args.types.now in
    let ty = c.in-Some.ty.now in
    let found : slice_get (map type_of types) c.args.number ≡ Some (type_of ty) = slice_get-at types c.args.number ty c.in-Some.ensures.lookup.3.0 c.in-Some.ensures.lookup.1 in
    let same : type_of c.in_ok-copy-in-Some.field-0 ≡ type_of ty = ap normal c.in_ok-copy-in-Some.ensures in
    on-ok c.bind.result (λ bound other. bound other ∙ bound-number (bytes_eq c.args.name.now other) (type_of c.in_ok-copy-in-Some.field-0) _ (types_in c.args.env.now other) (found ∙ ap Some (sym same))) c.bind.ensures.ok

pub returns-in-None : goal.returns-in-None
returns-in-None c other = unbound-number (bytes_eq c.args.name.now other) _ (types_in c.args.env.now other) (slice_get-past c.args.types.now c.args.number c.in-None.ensures.lookup.3)
