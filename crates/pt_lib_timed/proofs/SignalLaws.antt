-- What holds of the signals of a class holds of the actor that is held as its variant.
use Rattle.std.proofs.Common.{◌≡◌, List, Option, Some, None, ap}
use Rattle.std.specs.Prelude.{ℤ}
use Rattle.pt_meaning.specs.Tag.{Tag}
use Rattle.pt_meaning.specs.Node.{Answer, Gives, Fails}
use Rattle.pt_value.specs.declared.token.Token.{Token}
use Rattle.pt_lib_timed.specs.declared.server.Server.{Server}
use Rattle.pt_lib_timed.specs.declared.time_delay.TimeDelay.{TimeDelay}
use Rattle.pt_lib_timed.specs.declared.timed_actor.TimedActor.{TimedActor}
use Rattle.pt_lib_timed.specs.declared.timed_actor.TimedActor.TheVariants as variants
use Rattle.pt_lib_timed.specs.Signal.{Signals, TellsSignal}
use Rattle.pt_lib_timed.specs.Server as server
use Rattle.pt_lib_timed.specs.TimeDelay as time_delay
use Rattle.pt_lib_timed.specs.TimedActor.{held_as, early}

pub variant-signals : {S : Type 0} (held : S → TimedActor) (old new : S) (r : Answer Token S) (given : Option (Option ℤ)) → Signals r old given new → Signals (held_as held r) (held old) given (held new)
variant-signals held old new r None h = ap held h
variant-signals held old new r (Some g) h = ap (λ a. held_as held a) h

pub server-tells : (tag : Tag) (a : Server) (given : Option (Option ℤ)) → TellsSignal server.early a tag given → TellsSignal early (variants.Server a) tag given
server-tells tag a None h = h
server-tells tag a (Some g) h = h

pub delay-tells : (tag : Tag) (a : TimeDelay) (given : Option (Option ℤ)) → TellsSignal time_delay.early a tag given → TellsSignal early (variants.TimeDelay a) tag given
delay-tells tag a None h = h
delay-tells tag a (Some g) h = h
