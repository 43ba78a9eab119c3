use Rattle.std.proofs.Common.{map, sym, ap, ◌∙◌}
use Rattle.pt_directors.specs.Directors.{Director}
use Rattle.pt_node.specs.declared.body.Body.TheVariants.{Composite}
use Rattle.pt_node.specs.declared.node.Node.{out-Node}
use Rattle.pt_node.specs.Shown.{shown, all_of}
use Rattle.pt_node.proofs.WakeLaws.{director-wake, director-idle}
use Rattle.pt_node.proofs.node.Node.own_wake.Goals as goal

pub next-requires-in-Composite : goal.next-requires-in-Composite
next-requires-in-Composite c =
    director-idle (out-Node c.args.self.now).body c.get.result.now (all_of (map shown (out-Node c.args.self.now).children.items)) (c.in-Composite.is ∙ ap (λ (d : Director). Composite d) (sym c.get.ensures)) c.requires

pub returns-in-Composite : goal.returns-in-Composite
returns-in-Composite c =
    director-wake (out-Node c.args.self.now).body c.get.result.now (all_of (map shown (out-Node c.args.self.now).children.items)) c.next-in-Composite.result (c.in-Composite.is ∙ ap (λ (d : Director). Composite d) (sym c.get.ensures)) c.requires c.next-in-Composite.ensures
