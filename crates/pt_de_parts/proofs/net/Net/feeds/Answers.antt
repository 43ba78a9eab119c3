use Rattle.std.proofs.Common.{sym, subst}
use Rattle.pt_reaction.specs.Feeds.{MovesOnce}
use Rattle.pt_de_parts.proofs.NetLaws.{row-moves}
use Rattle.pt_de_parts.proofs.net.Net.feeds.Goals as goal

pub returns-clause-moves : goal.returns-clause-moves
returns-clause-moves c = subst (λ v. MovesOnce v) (sym c.deref.ensures.value) (row-moves c.self.inside c.self.invariant c.args.self.now c.self.view_is c.args.row c.index.result.now c.requires c.index.ensures)
