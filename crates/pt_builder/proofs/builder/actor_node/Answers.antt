use Rattle.std.proofs.Common.{ℕ, None, List, [], true, map, ap, ap₂, ◌∙◌}
use Rattle.pt_meaning.specs.Tree as tree
use Rattle.pt_node.specs.declared.body.Body.TheVariants as body
use Rattle.pt_node.specs.declared.node.Node.{Node}
use Rattle.pt_node.specs.declared.node.Node.TheOpen as opens
use Rattle.pt_node.specs.declared.node.Node.TheViews.{out-roll-Node}
use Rattle.pt_node.specs.Shown.{Branch, shown, level, all_of}
use Rattle.pt_builder.proofs.builder.actor_node.Goals as goal

pub returns : goal.returns
returns c =
    let r : opens.Node-F Node = record { past = record { made = 0; last = None }; body = body.Actor c.args.held; children = c.new.result; records = c.args.records; path = c.args.path; labels = c.none.result; meetings = c.unrecorded.result; live = true } in
    ap (λ (x : opens.Node-F Node). level x) (out-roll-Node r) ∙
    ap₂ (λ (v : List Node) (labels : List (List ℕ)). Branch (record { past = tree.unfired; body = body.Actor c.args.held; records = c.args.records; path = c.args.path; labels = labels; meetings = c.unrecorded.result; live = true }) (all_of (map shown v))) c.new.ensures.items c.none.ensures ∙
    ap (λ meetings. Branch (record { past = tree.unfired; body = body.Actor c.args.held; records = c.args.records; path = c.args.path; labels = []; meetings = meetings; live = true }) (all_of (map shown []))) c.unrecorded.ensures
