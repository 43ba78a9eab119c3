use Rattle.std.proofs.Common.{◌≡◌, true, false, refl, sym, ◌∙◌}
use Rattle.pt_document.specs.Names.{are_distinct}
use Rattle.pt_moml.specs.Fields.{distinct_at}
use Rattle.pt_document.proofs.Refusals.{fails}
use Rattle.pt_document.specs.declared.code.Code.TheVariants as code
use Rattle.pt_moml.proofs.fields.names_differ.Goals as goal

pub returns-then-are_distinct : goal.returns-then-are_distinct
unfolding distinct_at
returns-then-are_distinct g c =
    let told : are_distinct (g.T.Named.names c.args.parts.now) ≡ true = sym c.in_ok-are_distinct.ensures ∙ c.if-are_distinct.true in
    rw told refl

pub returns-else-are_distinct : goal.returns-else-are_distinct
unfolding distinct_at
returns-else-are_distinct g c =
    let told : are_distinct (g.T.Named.names c.args.parts.now) ≡ false = sym c.in_ok-are_distinct.ensures ∙ c.if-are_distinct.false in
    rw told (fails _ c.refused.result code.Name c.args.path.now c.refused.ensures)
