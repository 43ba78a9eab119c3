use Rattle.std.proofs.Common.{arith}
use Rattle.pt_links.proofs.TieSteps.{row_is}
use Rattle.pt_links.proofs.wiring.Wiring.outside.Goals as goal

pub returns : goal.returns
returns c =
    row_is c.args.self.now.ties.outside.items c.args.number c.index.result.now c.as_slice.result.now _ (omega (arith, c.requires.number, c.requires.wiring.tied.count_outside)) c.index.ensures c.as_slice.ensures (c.requires.wiring.tied.out c.args.number c.requires.number)
