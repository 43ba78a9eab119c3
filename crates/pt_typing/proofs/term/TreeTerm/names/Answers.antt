use Rattle.std.proofs.Common.{◌≡◌, map, ap, ◌∙◌, rules}
use Rattle.pt_types.specs.Ty as ty
use Rattle.pt_language.specs.Types.{or_else}
use Rattle.pt_expr_type.specs.TypeEnv.{types_in}
use Rattle.pt_typing.specs.Terms.{named, itself}
use Rattle.pt_typing.specs.Views.{known_entry, assigned}
use Rattle.pt_typing.proofs.Naming.{take-past, known-more, ports-more}
use Rattle.pt_typing.proofs.term.TreeTerm.names.Goals as goal

pub loop-name-init : goal.loop-name-init
loop-name-init c = c.new-env.ensures

pub loop-name-preserved : goal.loop-name-preserved
loop-name-preserved c =
    let item = c.loop-name-item.result in
    let same : c.as_str.result.now ≡ item.0 = search rules in
    known-more c.deref-name-items.result.now c.loop-name.name-index item c.as_str.result.now c.in_ok-copy.field-0 (types_in c.loop-name.env) (types_in c.bind.new.self) c.loop-name-test.true c.loop-name-item.is same c.in_ok-copy.ensures c.loop-name.invariant c.in_ok-bind.ensures.ok

pub loop-name-2-init : goal.loop-name-2-init
loop-name-2-init c name =
    c.loop-name.invariant name ∙ ap (λ ks. named itself (map known_entry ks) name) (take-past c.deref-name-items.result.now c.loop-name.name-index c.loop-name-test.false ∙ c.deref-name-items.ensures.value)

pub loop-name-2-preserved : goal.loop-name-2-preserved
loop-name-2-preserved c =
    let item = c.loop-name-2-item.result in
    let same : c.as_str-in-loop-name-2.result.now ≡ item.0 = search rules in
    ports-more (assigned c.args.numbers.now (map ty.type_of c.args.types.now)) c.deref-name-items-2.result.now (map known_entry c.args.self.now.known.items) c.loop-name-2.name-index item c.as_str-in-loop-name-2.result.now (ty.type_of c.in_ok-type_of_variable.field-0) (types_in c.loop-name-2.env) (types_in c.bind-in-loop-name-2.new.self) c.loop-name-2-test.true c.loop-name-2-item.is same c.in_ok-type_of_variable.ensures c.loop-name-2.invariant c.in_ok-bind-2.ensures.ok

pub returns : goal.returns
returns c name =
    c.loop-name-2.invariant name ∙ ap (λ ps. or_else (named (assigned c.args.numbers.now (map ty.type_of c.args.types.now)) ps name) (named itself (map known_entry c.args.self.now.known.items) name)) (take-past c.deref-name-items-2.result.now c.loop-name-2.name-index c.loop-name-2-test.false ∙ c.deref-name-items-2.ensures.value)
