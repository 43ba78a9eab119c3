use Rattle.std.proofs.Common.{arith}
use Rattle.pt_reaction.proofs.MarkLaws.{as-long}
use Rattle.pt_reaction.proofs.marks.Marks.len.Goals as goal

pub returns : goal.returns
returns c = let a = as-long c.self.inside.present c.self.inside.stamps.items c.args.self.now c.self.view_is in omega (arith, a, c.len.ensures, c.self.inside.stamps.ok.0)
