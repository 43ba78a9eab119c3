use Rattle.std.proofs.Common.{map, ap, ◌∙◌}
use Rattle.pt_node.specs.Shown.{shown}
use Rattle.pt_composite_node.specs.Nodes.{built}
use Rattle.pt_composite_node.proofs.node.composite_node.Goals as goal

pub returns : goal.returns
returns c =
    c.recording_node.ensures ∙ ap (λ meetings. built c.args.director meetings (map shown c.args.children.items) c.args.path c.args.records c.args.labels) c.unrecorded-meetings.ensures
