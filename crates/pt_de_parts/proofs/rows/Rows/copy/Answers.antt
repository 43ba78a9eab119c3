use Rattle.std.proofs.Common.{ap, ◌∙◌}
use Rattle.pt_reaction.specs.Channels.{lists_of}
use Rattle.pt_de_parts.proofs.RowLaws.{copied-seen}
use Rattle.pt_de_parts.proofs.rows.Rows.copy.Goals as goal

pub returns : goal.returns
returns c =
    copied-seen c.self.inside.row.items c.in_ok-row.row.items c.self.inside.lines.items c.in_ok-lines.lines.items c.self.inside.places c.self.inside.number c.self.inside.left c.args.self.now (c.in_ok-row.ensures ∙ c.deref.ensures.value)
    (c.in_ok-lines.ensures ∙ ap (λ v. lists_of v) c.deref-2.ensures.value) c.self.view_is
