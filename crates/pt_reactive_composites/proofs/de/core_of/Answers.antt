use Rattle.std.proofs.Common.{Bool, map, subst}
use Rattle.pt_node.specs.Shown.{shown}
use Rattle.pt_trees.specs.Around.{around_of}
use Rattle.pt_trees.specs.Composite.{trees_of}
use Rattle.pt_trees.specs.De.{IsDeWiredIf}
use Rattle.pt_reactive_composites.proofs.de.core_of.Goals as goal

pub returns-then-not-branch-clause-stands : goal.returns-then-not-branch-clause-stands
returns-then-not-branch-clause-stands c =
    subst (λ (b : Bool). IsDeWiredIf (around_of c.args.wiring) (trees_of (map shown c.args.children.now)) b) c.if-not-branch.true c.in_ok-is_de_wired.ensures

pub planned-requires-clause-wired : goal.planned-requires-clause-wired
planned-requires-clause-wired c =
    subst (λ (b : Bool). IsDeWiredIf (around_of c.args.wiring) (trees_of (map shown c.args.children.now)) b) c.if-not-branch.false c.in_ok-is_de_wired.ensures
