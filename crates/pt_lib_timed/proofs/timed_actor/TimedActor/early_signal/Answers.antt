use Rattle.std.proofs.Common.{sym, subst}
use Rattle.pt_lib_timed.specs.Signal.{TellsSignal}
use Rattle.pt_lib_timed.specs.TimedActor.{early}
use Rattle.pt_lib_timed.proofs.SignalLaws.{server-tells, delay-tells}
use Rattle.pt_lib_timed.proofs.timed_actor.TimedActor.early_signal.Goals as goal

pub returns-in-Server : goal.returns-in-Server
returns-in-Server c = subst (λ a. TellsSignal early a c.args.tag c.early_signal.result) (sym c.in-Server.is) (server-tells c.args.tag c.in-Server.actor c.early_signal.result c.early_signal.ensures)

pub returns-in-TimeDelay : goal.returns-in-TimeDelay
returns-in-TimeDelay c = subst (λ a. TellsSignal early a c.args.tag c.early_signal-in-TimeDelay.result) (sym c.in-TimeDelay.is) (delay-tells c.args.tag c.in-TimeDelay.actor c.early_signal-in-TimeDelay.result c.early_signal-in-TimeDelay.ensures)
