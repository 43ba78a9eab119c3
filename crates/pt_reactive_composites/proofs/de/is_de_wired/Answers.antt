use Rattle.std.proofs.Common.{Bool, List, map, subst}
use Rattle.pt_node.specs.Shown.{shown}
use Rattle.pt_node.specs.View.{Tree}
use Rattle.pt_trees.specs.Around.{around_of}
use Rattle.pt_trees.specs.Composite.{trees_of}
use Rattle.pt_trees.specs.Sr.{IsWiredIf}
use Rattle.pt_reactive_composites.proofs.DeLaws.{wired-by}
use Rattle.pt_reactive_composites.proofs.de.is_de_wired.Goals as goal

pub returns-then-wired : goal.returns-then-wired
returns-then-wired c =
    let kids : List Tree = trees_of (map shown c.args.children.now) in
    wired-by c.args.wiring.now kids c.begin_at_outputs.result (subst (λ (b : Bool). IsWiredIf (around_of c.args.wiring.now) kids b) c.if-wired.true c.in_ok-wired.ensures) c.begin_at_outputs.ensures
