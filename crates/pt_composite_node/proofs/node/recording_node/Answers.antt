use Rattle.std.proofs.Common.{None, true, ap}
use Rattle.pt_node.specs.declared.body.Body.TheVariants as body
use Rattle.pt_node.specs.declared.node.Node.{Node}
use Rattle.pt_node.specs.declared.node.Node.TheOpen as opens
use Rattle.pt_node.specs.declared.node.Node.TheViews.{out-roll-Node}
use Rattle.pt_node.specs.Shown.{level}
use Rattle.pt_composite_node.proofs.node.recording_node.Goals as goal

pub returns : goal.returns
returns c =
    let r : opens.Node-F Node = record { past = record { made = 0; last = None }; body = body.Composite c.args.director; children = c.args.children; records = c.args.records; path = c.args.path; labels = c.args.labels; meetings = c.args.meetings; live = true } in
    ap (λ (x : opens.Node-F Node). level x) (out-roll-Node r)
