-- What each actor of timed models needs: a count for each of its places.
use Rattle.std.proofs.Common.{◌≡◌, ℕ, ℤ, pos, List, Bool, true, false, Option, Some, None, length, nat_eq, refl, sym, ap, subst, ◌∙◌, if◌then◌else◌}
use Rattle.std.specs.Prelude.{codes, option_map, unsigned_abs}
use Rattle.std.proofs.lemmas.Option.{none-some, same_Some}
use Rattle.pt_value.specs.Value.{Value}
use Rattle.pt_value.specs.declared.token.Token.{Token}
use Rattle.pt_language.proofs.ReaderSteps.{map_some}
use Rattle.pt_firing.specs.Params.{value_under}
use Rattle.pt_flow_base.specs.declared.params.Params.{Params}
use Rattle.pt_lib_timed.specs.declared.timed_actor.Class.{Class}
use Rattle.pt_lib_timed.specs.declared.timed_actor.Class.TheVariants as class
use Rattle.pt_lib_timed.specs.declared.timed_actor.TimedActor.{TimedActor}
use Rattle.pt_lib_timed.specs.declared.timed_actor.TimedActor.TheVariants as made
use Rattle.pt_lib_timed.specs.declared.current_time.CurrentTime as times
use Rattle.pt_lib_timed.specs.declared.discrete_clock.DiscreteClock as clocks
use Rattle.pt_lib_timed.specs.declared.register.Register as registers
use Rattle.pt_lib_timed.specs.declared.sampler.Sampler as samplers
use Rattle.pt_lib_timed.specs.declared.server.Server as servers
use Rattle.pt_lib_timed.specs.declared.single_event.SingleEvent as events
use Rattle.pt_lib_timed.specs.declared.time_delay.TimeDelay as delays
use Rattle.pt_lib_timed.specs.CurrentTime as current_time
use Rattle.pt_lib_timed.specs.DiscreteClock as discrete_clock
use Rattle.pt_lib_timed.specs.Register as register
use Rattle.pt_lib_timed.specs.Sampler as sampler
use Rattle.pt_lib_timed.specs.Server as server
use Rattle.pt_lib_timed.specs.SingleEvent as single_event
use Rattle.pt_lib_timed.specs.TimeDelay as time_delay
use Rattle.pt_lib_timed.specs.TimedActor.{need, start_as}
use Rattle.pt_placed.specs.Counted.{IsCounted}
use Rattle.pt_placed.proofs.Each.{each}

-- the places of an actor of a class: each of its inputs has one channel
abbrev pub timed_places : Class → ℕ
timed_places class.CurrentTime = 1
timed_places class.DiscreteClock = 0
timed_places class.Register = 2
timed_places class.Sampler = 2
timed_places class.Server = 1
timed_places class.SingleEvent = 0
timed_places class.TimeDelay = 1

server-places : (o : Option ℤ) (x : servers.Server) → server.start_by o ≡ Some x → x.places ≡ 1
server-places None x e = absurd (none-some x e)
server-places (Some n) x e = sym (ap (λ (y : servers.Server). y.places) (same_Some _ x e))

delay-places : (o : Option ℤ) (x : delays.TimeDelay) → time_delay.start_by o ≡ Some x → x.places ≡ 1
delay-places None x e = absurd (none-some x e)
delay-places (Some n) x e = sym (ap (λ (y : delays.TimeDelay). y.places) (same_Some _ x e))

event-places : (v : Option Token) (o : Option ℤ) (x : events.SingleEvent) → single_event.start_at v o ≡ Some x → x.places ≡ 0
event-places v None x e = absurd (none-some x e)
event-places v (Some n) x e = sym (ap (λ (y : events.SingleEvent). y.places) (same_Some _ x e))

clock-if : (b : Bool) (c x : clocks.DiscreteClock) → (if b then Some c else None) ≡ Some x → c ≡ x
clock-if true c x e = same_Some c x e
clock-if false c x e = absurd (none-some x e)

clock-places : (p : Option ℤ) (os vs : Option (List Value)) (x : clocks.DiscreteClock) → discrete_clock.start_of p os vs ≡ Some x → x.places ≡ 0
clock-places (Some p) (Some os) (Some vs) x e = sym (ap (λ (y : clocks.DiscreteClock). y.places) (clock-if (nat_eq (length os) (length vs)) (record { period = unsigned_abs p; offsets = os; values = vs; round = 0; index = 0; places = 0 }) x e))
clock-places (Some p) (Some os) None x e = absurd (none-some x e)
clock-places (Some p) None vs x e = absurd (none-some x e)
clock-places None os vs x e = absurd (none-some x e)

started : {S : Type 0} (wrap : S → TimedActor) (o : Option S) (a : TimedActor) (n : ℕ) → option_map wrap o ≡ Some a → ((x : S) → o ≡ Some x → IsCounted n (need (wrap x))) → IsCounted n (need a)
started wrap o a n e h = let w = map_some wrap o a e in subst (λ (b : TimedActor). IsCounted n (need b)) w.2 (h w.0 w.1)

pub timed-counted : (c : Class) (params : Params) (a : TimedActor) → start_as c params ≡ Some a → IsCounted (timed_places c) (need a)
timed-counted class.CurrentTime params a e = started made.CurrentTime (current_time.start params) a 1 e (λ x is. each 1 x.places (sym (ap (λ (y : times.CurrentTime). y.places) (same_Some _ x is))))
timed-counted class.DiscreteClock params a e = started made.DiscreteClock (discrete_clock.start params) a 0 e (λ x is. each 0 x.places (clock-places (discrete_clock.period_given params.values) (discrete_clock.array_of (pos 0) (value_under (codes "offsets") params.values)) (discrete_clock.array_of (pos 1) (value_under (codes "values") params.values)) x is))
timed-counted class.Register params a e = started made.Register (register.start params) a 2 e (λ x is. each 2 x.places (sym (ap (λ (y : registers.Register). y.places) (same_Some _ x is))))
timed-counted class.Sampler params a e = started made.Sampler (sampler.start params) a 2 e (λ x is. each 2 x.places (sym (ap (λ (y : samplers.Sampler). y.places) (same_Some _ x is))))
timed-counted class.Server params a e = started made.Server (server.start params) a 1 e (λ x is. each 1 x.places (server-places _ x is))
timed-counted class.SingleEvent params a e = started made.SingleEvent (single_event.start params) a 0 e (λ x is. each 0 x.places (event-places _ _ x is))
timed-counted class.TimeDelay params a e = started made.TimeDelay (time_delay.start params) a 1 e (λ x is. each 1 x.places (delay-places _ x is))
