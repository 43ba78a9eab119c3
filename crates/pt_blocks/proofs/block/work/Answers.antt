use Rattle.std.proofs.Common.{map, sym, ◌∙◌, arith}
use Rattle.std.proofs.lemmas.List.{length-map}
use Rattle.pt_node.specs.Shown.{shown}
use Rattle.pt_blocks.specs.Children.{AreOf}
use Rattle.pt_blocks.proofs.WorkLaws.{work-fits, on-ok}
use Rattle.pt_blocks.proofs.block.work.Goals as goal

pub fire_all-made-requires-clause-fits : goal.fire_all-made-requires-clause-fits
fire_all-made-requires-clause-fits c =
    work-fits c.args.core.now c.plan-plan.result.now c.plan-plan.ensures.plan (map shown c.args.children.now) c.requires c.copies.new.actors.items c.clear.new.given.items
    (on-ok c.copies.result (AreOf (map shown c.args.children.now) c.copies.new.actors.items) (sym c.is_err.ensures.value ∙ c.if-is_err.false) c.copies.ensures)
    (omega (arith, c.clear.ensures.count, c.if-len-children.false, c.len-else-is_empty.ensures, length-map c.args.children.now shown))
