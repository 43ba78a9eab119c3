use Rattle.std.proofs.Common.{List, [], get_or, ap, ◌∙◌}
use Rattle.pt_net.specs.declared.net.Channel.{Channel}
use Rattle.pt_meetings.proofs.table.Table.inside.Goals as goal

pub returns-clause-inside : goal.returns-clause-inside
returns-clause-inside c = record {
  composite = c.entity_at-composite.ensures;
  children = c.children_of-children.ensures;
  channels = c.within_at-channels.ensures ∙ ap (λ (v : List (List Channel)). get_or v c.args.k []) c.as_slice-lists.ensures.value ∙ c.requires.prepared.channels.each c.args.k c.requires.there;
}
