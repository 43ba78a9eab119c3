use Rattle.std.proofs.Common.{refl, ap}
use Rattle.pt_pn_laws.specs.State.{Blocked, in_stage}
use Rattle.pt_pn_work.specs.Core.{State}
use Rattle.pt_pn.proofs.EndLaws.{full-now}
use Rattle.pt_pn.proofs.pn.Core.end.Goals as goal

pub returns-then-is_anyone_putting : goal.returns-then-is_anyone_putting
returns-then-is_anyone_putting c = (
  full-now c.args.self.now c.args.self.now.halfway.puts refl c.requires.running c.requires.stopped c.requires.none (c.is_anyone_putting.ensures.some c.if-is_anyone_putting.true),
  ap (λ (s : State). in_stage Blocked s) c.self.view_is,
)
