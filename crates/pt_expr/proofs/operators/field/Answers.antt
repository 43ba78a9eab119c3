use Rattle.std.proofs.Common.{ap, sym, ◌∙◌, option_map}
use Rattle.pt_value.specs.Value.{fields_of-named_of}
use Rattle.pt_value.specs.Record.{field_at}
use Rattle.pt_value.specs.Token.{value_of}
use Rattle.pt_language.specs.Outcome.{Gives}
use Rattle.pt_language.specs.Meaning as meaning
use Rattle.pt_expr.proofs.operators.field.Goals as goal

pub unreachable-requires : goal.unreachable-requires
unreachable-requires c =
    c.requires.right (ap (λ r. meaning.field c.args.name.now (value_of r)) c.in-Record.is ∙ ap (λ fs. meaning.there (field_at fs c.args.name.now)) (fields_of-named_of c.in-Record.fields) ∙ ap meaning.there (sym c.get.ensures ∙ ap (λ o. option_map (λ t. value_of t.now) o) c.in-None.is))

pub returns-clause-ok : goal.returns-clause-ok
returns-clause-ok c =
    ap (λ r. meaning.field c.args.name.now (value_of r)) c.in-Record.is ∙ ap (λ fs. meaning.there (field_at fs c.args.name.now)) (fields_of-named_of c.in-Record.fields) ∙ ap meaning.there (sym c.get.ensures ∙ ap (λ o. option_map (λ t. value_of t.now) o) c.in-Some.is) ∙ ap (λ t. Gives (value_of t)) (sym c.in_ok-copy-in-Some.ensures.value)
