-- What stays over a firing, what an actor needs, and what its delays let be known.
use Rattle.std.proofs.Common.{◌≡◌, ◌<◌, ℕ, zero, suc, ◌+◌, List, [], ◌∷◌, Bool, true, false, Option, Some, None, pos, refl, ap, subst, arith, if◌then◌else◌}
use Rattle.std.specs.Prelude.{nat_lt, length, not, option_map, slice_get}
use Rattle.pt_meaning.specs.Tag.{is_due}
use Rattle.pt_meaning.specs.Basics.{Tag, Streams, at}
use Rattle.pt_meaning.specs.Machine.{Partial, Unknown, Known, partial_at}
use Rattle.pt_meaning.specs.Valuation.{is_known}
use Rattle.pt_meaning.specs.Node.{Answer, Gives, Fails}
use Rattle.pt_value.specs.declared.token.Token.{Token}
use Rattle.pt_value.specs.declared.token.Token.TheVariants as token
use Rattle.pt_value.specs.Token.{token_of}
use Rattle.pt_firing.specs.RunFault.{code_of}
use Rattle.pt_firing.specs.declared.fault.RunFault.TheVariants.{Overflow}
use Rattle.pt_firing.specs.Row.{is_present, gives, rests, exactly, fits_i64}
use Rattle.pt_lib_timed.specs.declared.timed_actor.TimedActor.{TimedActor}
use Rattle.pt_lib_timed.specs.declared.timed_actor.TimedActor.TheVariants.{CurrentTime, DiscreteClock, Register, Sampler, Server, SingleEvent, TimeDelay}
use Rattle.pt_lib_timed.specs.declared.discrete_clock.DiscreteClock as clocks
use Rattle.pt_lib_timed.specs.declared.register.Register as registers
use Rattle.pt_lib_timed.specs.Signal.{shows}
use Rattle.pt_lib_timed.specs.Pending.{Event, arriving, given_then, held_in, later_of, last_tag}
use Rattle.pt_lib_timed.specs.CurrentTime as current_time
use Rattle.pt_lib_timed.specs.DiscreteClock as discrete_clock
use Rattle.pt_lib_timed.specs.Register as register
use Rattle.pt_lib_timed.specs.Server as server
use Rattle.pt_lib_timed.specs.SingleEvent as single_event
use Rattle.pt_lib_timed.specs.TimeDelay as time_delay
use Rattle.pt_lib_timed.specs.TimedActor.{held_as, need, whole, is_delay, step}
use Rattle.pt_lib_timed.specs.Laws.{Stays, ActorsStay, NeedsAreOne, DelaysAreWhole, DelaysTellEarly}

-- ---- what a step leaves

-- what holds of the state after an answer, where it is one
abbrev pub Leaves : {A : Type 0} → (A → Type 0) → Answer Token A → Type 0
Leaves P (Gives after out) = P after
Leaves P (Fails code) = Unit {0}

held : {S : Type 0} (wrap : S → TimedActor) (P : TimedActor → Type 0) (r : Answer Token S) → Leaves (λ s. P (wrap s)) r → Leaves P (held_as wrap r)
held wrap P (Gives after out) h = h
held wrap P (Fails code) h = h

held-list : {A : Type 0} (wrap : List Event → A) (P : A → Type 0) (r : Answer Token (List Event)) → ((es : List Event) → P (wrap es)) → Leaves P (held_in wrap r)
held-list wrap P (Gives es out) h = h es
held-list wrap P (Fails code) h = tt

by-test : {A : Type 0} (P : A → Type 0) (b : Bool) (r s : Answer Token A) → Leaves P r → Leaves P s → Leaves P (if b then r else s)
by-test P true r s h k = h
by-test P false r s h k = k

moved-keeps : (P : clocks.DiscreteClock → Type 0) (a : clocks.DiscreteClock) → P (record a { index = a.index + 1 }) → P (record a { round = a.round + 1; index = 0 }) → P (discrete_clock.moved a)
moved-keeps P a h k = by_test (nat_lt (a.index + 1) (length a.offsets))
  where
    by_test : (b : Bool) → P (if b then record a { index = a.index + 1 } else record a { round = a.round + 1; index = 0 })
    by_test true = h
    by_test false = k

kept-keeps : (P : registers.Register → Type 0) (tag : Tag) (a : registers.Register) (o : Option Token) → P a → ((t : Token) → P (record a { before = register.given tag a; latest = Some (tag, t) })) → P (register.keeping tag a o)
kept-keeps P tag a None h k = h
kept-keeps P tag a (Some t) h k = k t

same : {S : Type 0} (wrap : S → TimedActor) (a b : S) → whole (wrap b) ≡ whole (wrap a) → ((p : ℕ) → is_delay (wrap b) p ≡ is_delay (wrap a) p) → need (wrap b) ≡ need (wrap a) → Stays (wrap a) (wrap b)
same wrap a b w d n = record { wholes = w; delays = d; strict = ap not w; needs = n }

leaves : (tag : Tag) (a : TimedActor) (X : Streams Token) → Leaves (Stays a) (step tag a X)
leaves tag (CurrentTime a) X =
    let here : Stays (CurrentTime a) (CurrentTime a) = same CurrentTime a a refl (λ p. refl) refl in
    held CurrentTime (Stays (CurrentTime a)) (current_time.step tag a X)
    (by-test (λ s. Stays (CurrentTime a) (CurrentTime s)) (is_present X 0) (exactly a (pos tag.time)) (rests a)
    (by-test (λ s. Stays (CurrentTime a) (CurrentTime s)) (fits_i64 (pos tag.time)) (gives a (token.Int (pos tag.time))) (Fails (code_of Overflow)) here tt) here)
leaves tag (DiscreteClock a) X = held DiscreteClock (Stays (DiscreteClock a)) (discrete_clock.step tag a X)
    (by-test (λ s. Stays (DiscreteClock a) (DiscreteClock s)) (is_due tag (discrete_clock.next a)) (shows (discrete_clock.moved a) (option_map token_of (slice_get a.values a.index))) (shows a None)
    (moved-keeps (λ s. Stays (DiscreteClock a) (DiscreteClock s)) a (same DiscreteClock a (record a { index = a.index + 1 }) refl (λ p. refl) refl) (same DiscreteClock a (record a { round = a.round + 1; index = 0 }) refl (λ p. refl) refl)) (same DiscreteClock a a refl (λ p. refl) refl))
leaves tag (Register a) X = kept-keeps (λ s. Stays (Register a) (Register s)) tag a (register.last_of (at X 0)) (same Register a a refl (λ p. refl) refl)
    (λ t. same Register a (record a { before = register.given tag a; latest = Some (tag, t) }) refl (λ p. refl) refl)
leaves tag (Sampler a) X = record { wholes = refl; delays = λ p. refl; strict = refl; needs = refl }
leaves tag (Server a) X = held Server (Stays (Server a)) (server.step tag a X)
    (held-list (server.holding a) (λ s. Stays (Server a) (Server s)) (given_then tag a.pending (arriving true (later_of tag (last_tag a.pending)) a.service (at X 0))) (λ es. same Server a (server.holding a es) refl (λ p. refl) refl))
leaves tag (SingleEvent a) X = held SingleEvent (Stays (SingleEvent a)) (single_event.step tag a X)
    (by-test (λ s. Stays (SingleEvent a) (SingleEvent s)) (is_due tag (single_event.next a)) (shows (record a { event = None }) a.event) (shows a None) (same SingleEvent a (record a { event = None }) refl (λ p. refl) refl) (same SingleEvent a a refl (λ p. refl) refl))
leaves tag (TimeDelay a) X = held TimeDelay (Stays (TimeDelay a)) (time_delay.step tag a X)
    (held-list (time_delay.holding a) (λ s. Stays (TimeDelay a) (TimeDelay s)) (given_then tag a.pending (arriving false tag a.delay (at X 0))) (λ es. same TimeDelay a (time_delay.holding a es) refl (λ p. refl) refl))

pub stay : ActorsStay
stay tag a b X out e = subst (Leaves (Stays a)) e (leaves tag a X)

-- ---- needs and delays

pub needs-one : NeedsAreOne
needs-one (CurrentTime a) = refl
needs-one (DiscreteClock a) = refl
needs-one (Register a) = refl
needs-one (Sampler a) = refl
needs-one (Server a) = refl
needs-one (SingleEvent a) = refl
needs-one (TimeDelay a) = refl

pub delay-whole : DelaysAreWhole
delay-whole (CurrentTime a) place e = e
delay-whole (DiscreteClock a) place e = e
delay-whole (Register a) place e = refl
delay-whole (Sampler a) place e = e
delay-whole (Server a) place e = refl
delay-whole (SingleEvent a) place e = e
delay-whole (TimeDelay a) place e = refl

-- what is known at the first of its places, by the number of the port
first-known : {T : Type 0} (v : Partial T) (port : ℕ) → is_known v ≡ true → port < 1 → is_known (partial_at (v ∷ []) port) ≡ true
first-known v zero k h = k
first-known v (suc port) k h = absurd (omega arith)

by-trigger : (given : Option Token) (v : Partial Token) → is_known v ≡ true → is_known (register.by_trigger given v) ≡ true
by-trigger given Unknown k = k
by-trigger given (Known tokens) k = refl

pub tell-early : DelaysTellEarly
tell-early tag (CurrentTime a) vs w k port h = cc
tell-early tag (DiscreteClock a) vs w k port h = cc
tell-early tag (Register a) vs w k port h = first-known (register.by_trigger (register.given tag a) (partial_at vs 1)) port (by-trigger (register.given tag a) (partial_at vs 1) (k 1 refl)) h
tell-early tag (Sampler a) vs w k port h = cc
tell-early tag (Server a) vs w k port h = first-known (Known _) port refl h
tell-early tag (SingleEvent a) vs w k port h = cc
tell-early tag (TimeDelay a) vs w k port h = first-known (Known _) port refl h
