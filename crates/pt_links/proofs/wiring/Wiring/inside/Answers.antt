use Rattle.std.proofs.Common.{arith}
use Rattle.pt_links.proofs.TieSteps.{row_is}
use Rattle.pt_links.proofs.wiring.Wiring.inside.Goals as goal

pub returns : goal.returns
returns c =
    row_is c.args.self.now.ties.inside.items c.args.number c.index.result.now c.as_slice.result.now _ (omega (arith, c.requires.number, c.requires.wiring.tied.count_inside)) c.index.ensures c.as_slice.ensures (c.requires.wiring.tied.within c.args.number c.requires.number)
