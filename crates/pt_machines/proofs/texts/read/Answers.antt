use Rattle.std.proofs.Common.{◌≡◌, Err}
use Rattle.pt_language.specs.declared.parse_fault.ParseFault.TheVariants.{Syntax, Deep}
use Rattle.pt_machines.proofs.texts.read.Goals as goal

pub returns-in-Ok : goal.returns-in-Ok
returns-in-Ok c = (record { shallow = c.in-Ok.ensures.shallow; reads = c.in-Ok.ensures.tree }, λ other r. c.in-Ok.ensures.only other r.reads)

pub unreachable-requires : goal.unreachable-requires
unreachable-requires c = let e : c.parse.result ≡ Err Syntax = cc in c.parse.ensures.refuses e c.requires.0 c.requires.1.reads

pub unreachable-requires-in-Err-Deep : goal.unreachable-requires-in-Err-Deep
unreachable-requires-in-Err-Deep c = let e : c.parse.result ≡ Err Deep = cc in c.requires.1.shallow (c.parse.ensures.deep e)
