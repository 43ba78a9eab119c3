use Rattle.std.proofs.Common.{sym, ◌∙◌}
use Rattle.pt_sdf_parts.proofs.StretchLaws.{none-first, all-first}
use Rattle.pt_sdf_parts.proofs.tables.turns_of.Goals as goal

pub returns-then-is_empty : goal.returns-then-is_empty
returns-then-is_empty c = none-first c.args.order.now c.args.turns (sym c.is_empty.ensures ∙ c.if-is_empty.true)

pub returns : goal.returns
returns c = all-first c.args.order.now c.args.turns (sym c.is_empty.ensures ∙ c.if-is_empty.false)
