use Rattle.std.proofs.Common.{◌≡◌, map, ap, ◌∙◌, rules, None, if◌then◌else◌}
use Rattle.std.specs.Prelude.{slice_get}
use Rattle.std.specs.Str.{bytes_eq}
use Rattle.pt_types.specs.Ty.{type_of}
use Rattle.pt_language.specs.Types.{or_else}
use Rattle.pt_expr_type.specs.TypeEnv.{types_in}
use Rattle.pt_expr_type.proofs.Numbers.{numbered-next}
use Rattle.pt_expr_type.proofs.rule.ExprRule.environment.Goals as goal

pub loop-name-preserved : goal.loop-name-preserved
loop-name-preserved c name =
    let types = map type_of c.args.types.now in
    let f = c.loop-name-item.result in
    let same : c.as_str.result.now ≡ f.0 = search rules in
    c.in_ok-bind_number.ensures name
    ∙ ap (λ n. or_else (if bytes_eq n name then slice_get types f.1 else None) (types_in c.loop-name.env name)) same
    ∙ ap (or_else (if bytes_eq f.0 name then slice_get types f.1 else None)) (c.loop-name.invariant name)
    ∙ numbered-next c.deref-name-items.result.now c.loop-name.name-index f types name c.loop-name-test.true c.loop-name-item.is
