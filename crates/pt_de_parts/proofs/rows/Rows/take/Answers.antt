use Rattle.std.proofs.Common.{◌-◌, take, drop, ap, ◌∙◌, sym}
use Rattle.pt_meaning.specs.De as de
use Rattle.pt_de_laws.specs.State.{rows_for}
use Rattle.pt_reaction.specs.Channels.{lists_of}
use Rattle.pt_de_parts.proofs.RowLaws.{taken-rows}
use Rattle.pt_de_parts.proofs.rows.Rows.take.Goals as goal

pub returns-clause-rows : goal.returns-clause-rows
returns-clause-rows c =
    c.go_on.ensures.rows ∙
    taken-rows (lists_of (take c.saturating_sub-places.result c.fill.new.lines.items)) (take (c.args.end - c.args.first) (drop c.args.first c.args.channels.now.lists)) c.longest.result c.max-self-inside.result (ap (λ k. lists_of (take k c.fill.new.lines.items)) c.saturating_sub-places.ensures ∙ c.fill.ensures.lines) c.max-self-inside.ensures
    (c.longest.ensures ∙ ap (λ v. de.longest (lists_of (take c.saturating_sub-places.result v))) c.deref.ensures.value) ∙ ap (λ b. rows_for b (take (c.args.end - c.args.first) (drop c.args.first c.args.channels.now.lists))) (sym (c.are_one_row.ensures.apart c.if-are_one_row.false))
