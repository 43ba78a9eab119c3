use Rattle.std.proofs.Common.{sym, subst}
use Rattle.pt_lib_timed.specs.declared.timed_actor.TimedActor.TheVariants.{DiscreteClock, Sampler, SingleEvent}
use Rattle.pt_lib_timed.specs.Signal.{GivesSignal}
use Rattle.pt_lib_timed.specs.TimedActor.{step}
use Rattle.pt_lib_timed.specs.DiscreteClock as discrete_clock
use Rattle.pt_lib_timed.specs.Sampler as sampler
use Rattle.pt_lib_timed.specs.SingleEvent as single_event
use Rattle.pt_lib_timed.proofs.SignalLaws.{variant-signals}
use Rattle.pt_lib_timed.proofs.timed_actor.TimedActor.signal.Goals as goal

pub returns-in-DiscreteClock : goal.returns-in-DiscreteClock
returns-in-DiscreteClock c =
    let called = c.signal-in-DiscreteClock in
    let X = c.args.inputs.now in
    let actor = c.in-DiscreteClock.actor in
    subst (λ a. GivesSignal step a c.args.tag X called.result (DiscreteClock called.new.self)) (sym c.in-DiscreteClock.is) (variant-signals DiscreteClock actor called.new.self (discrete_clock.step c.args.tag actor X) called.result (called.ensures X))

pub returns-in-Sampler : goal.returns-in-Sampler
returns-in-Sampler c =
    let called = c.signal-in-Sampler in
    let X = c.args.inputs.now in
    let actor = c.in-Sampler.actor in
    subst (λ a. GivesSignal step a c.args.tag X called.result (Sampler called.new.self)) (sym c.in-Sampler.is) (variant-signals Sampler actor called.new.self (sampler.step c.args.tag actor X) called.result (called.ensures c.args.tag))

pub returns-in-SingleEvent : goal.returns-in-SingleEvent
returns-in-SingleEvent c =
    let called = c.signal-in-SingleEvent in
    let X = c.args.inputs.now in
    let actor = c.in-SingleEvent.actor in
    subst (λ a. GivesSignal step a c.args.tag X called.result (SingleEvent called.new.self)) (sym c.in-SingleEvent.is) (variant-signals SingleEvent actor called.new.self (single_event.step c.args.tag actor X) called.result (called.ensures X))
