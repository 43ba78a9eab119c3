use Rattle.std.proofs.Common.{refl, ap, ◌∙◌}
use Rattle.std.specs.Map.{lookup}
use Rattle.pt_links.specs.Resolve.{pair_eq}
use Rattle.pt_links.proofs.Marked.{inside-added}
use Rattle.pt_links.proofs.resolve.add_inside.Goals as goal

pub returns-in_ok-push : goal.returns-in_ok-push
returns-in_ok-push c = λ entity text ports marked counted so_far.
    ap (lookup (pair_eq (entity, text))) c.in_ok-push.ensures.items
    ∙ inside-added c.args.pairs.now.items c.args.port.now.port.name c.args.number c.args.port.now entity text ports refl counted so_far
