use Rattle.std.proofs.Common.{arith}
use Rattle.pt_sr.proofs.SignalLaws.{signal-there, flag-known}
use Rattle.pt_sr.proofs.signals.Signals.is_known.Goals as goal

pub index-requires : goal.index-requires
index-requires c = omega (arith, signal-there c.self.inside.flags.items c.self.inside.lists.items c.args.self.now c.args.c c.self.invariant c.self.view_is c.requires, c.self.inside.flags.ok.0)

pub returns : goal.returns
returns c = flag-known c.self.inside.flags.items c.self.inside.lists.items c.args.self.now c.args.c c.self.invariant c.self.view_is c.requires c.index.result.now c.index.ensures
