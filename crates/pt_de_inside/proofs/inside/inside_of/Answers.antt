use Rattle.std.proofs.Common.{List, map, refl, sym, ◌∙◌}
use Rattle.pt_de_plan.specs.declared.inside.DeInside.{DeInside}
use Rattle.pt_node.specs.Shown.{shown}
use Rattle.pt_node.specs.View.{Tree}
use Rattle.pt_trees.specs.Around.{around_of}
use Rattle.pt_trees.specs.Composite.{trees_of}
use Rattle.pt_trees.proofs.NodeLaws.{trees-length}
use Rattle.pt_de_inside.proofs.FormLaws.{entries, formed}
use Rattle.pt_de_inside.proofs.inside.inside_of.Goals as goal

pub delayed_in-requires : goal.delayed_in-requires
delayed_in-requires c = sym (trees-length c.args.children.now) ∙ entries (around_of c.args.wiring) (trees_of (map shown c.args.children.now)) c.requires.wired.wired

pub returns-clause-inside : goal.returns-clause-inside
returns-clause-inside c = record { plan = refl; delayed = c.in_ok-delayed.ensures; early = c.in_ok-early.ensures; whole = c.in_ok-whole.ensures; starts = c.in_ok-starts.ensures }

pub returns-clause-formed : goal.returns-clause-formed
returns-clause-formed c =
    let kids : List Tree = trees_of (map shown c.args.children.now) in
    let x : DeInside = record { sources = c.args.wiring.sources; places = c.args.wiring.places; inputs = c.args.wiring.inputs; delayed = c.in_ok-delayed.delayed; early = c.in_ok-early.early; whole = c.in_ok-whole.whole; starts = c.in_ok-starts.starts } in
    formed (around_of c.args.wiring) kids x c.requires.wired (record { plan = refl; delayed = c.in_ok-delayed.ensures; early = c.in_ok-early.ensures; whole = c.in_ok-whole.ensures; starts = c.in_ok-starts.ensures })
