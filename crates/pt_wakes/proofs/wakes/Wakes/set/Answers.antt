use Rattle.std.proofs.Common.{ap, ◌∙◌, set, drop, ◌+◌}
use Rattle.std.proofs.lemmas.List.{drop-set-add}
use Rattle.pt_wakes.proofs.wakes.Wakes.set.Goals as goal

pub returns : goal.returns
returns c =
    c.settle_above.ensures.leaves ∙ ap (λ w. drop c.self.inside.leaves (set c.self.inside.nodes.items (c.self.inside.leaves + c.args.child) w)) c.of.ensures ∙ drop-set-add c.self.inside.leaves c.self.inside.nodes.items c.args.child c.args.wake ∙ ap (λ wakes. set wakes c.args.child c.args.wake) c.self.view_is
