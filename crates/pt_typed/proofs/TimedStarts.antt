-- Which actor the parameters of a class of timed models start, and what that class asks of types beside what the parameters hold.
use Rattle.std.proofs.Common.{◌≡◌, ℕ, List, [], ◌∷◌, Bool, true, false, Option, Some, None, ℤ, refl, ap, subst, ◌∙◌, if◌then◌else◌}
use Rattle.std.specs.Prelude.{codes, bytes_eq}
use Rattle.std.specs.List.{AllByRecursion}
use Rattle.std.proofs.lemmas.Option.{same_Some}
use Rattle.std.proofs.lemmas.Slice.Eq.{bytes_eq-Decides}
use Rattle.pt_meaning.specs.Streams.{get}
use Rattle.pt_datatypes.specs.Datatype.{Datatype, Int}
use Rattle.pt_datatypes.specs.Order.{IsBelow}
use Rattle.pt_flow_base.specs.declared.params.Params.{Params}
use Rattle.pt_lib_timed.specs.declared.timed_actor.Class.{Class}
use Rattle.pt_lib_timed.specs.declared.timed_actor.Class.TheVariants as class
use Rattle.pt_lib_timed.specs.declared.timed_actor.TimedActor.{TimedActor}
use Rattle.pt_lib_timed.specs.declared.timed_actor.TimedActor.TheVariants.{CurrentTime, DiscreteClock, Register, Sampler, Server, SingleEvent, TimeDelay}
use Rattle.pt_lib_timed.specs.declared.server.Server as servers
use Rattle.pt_lib_timed.specs.declared.time_delay.TimeDelay as delays
use Rattle.pt_lib_timed.specs.Pending.{Event}
use Rattle.pt_lib_timed.specs.Signal.{time_given}
use Rattle.pt_lib_timed.specs.TimedActor.{class_of, start_as, start_in}
use Rattle.pt_lib_timed.specs.CurrentTime as current_time
use Rattle.pt_lib_timed.specs.DiscreteClock as discrete_clock
use Rattle.pt_lib_timed.specs.Register as register
use Rattle.pt_lib_timed.specs.Sampler as sampler
use Rattle.pt_lib_timed.specs.Server as server
use Rattle.pt_lib_timed.specs.SingleEvent as single_event
use Rattle.pt_lib_timed.specs.TimeDelay as time_delay
use Rattle.pt_typed.specs.TokenTypes.{IsUnder, ToFirst}
use Rattle.pt_typed.specs.TypedTimed.{IsEventOf, IsTypedTimed}
use Rattle.pt_typed.specs.NetRows.{is_plain_timed, is_seeded_timed}
use Rattle.pt_typed.proofs.FlowStarts.{mapped}

-- ---- names

abbrev pub name_of : Class → List ℕ
name_of class.CurrentTime = codes "CurrentTime"
name_of class.DiscreteClock = codes "DiscreteClock"
name_of class.Register = codes "Register"
name_of class.Sampler = codes "Sampler"
name_of class.Server = codes "Server"
name_of class.SingleEvent = codes "SingleEvent"
name_of class.TimeDelay = codes "TimeDelay"

or-named : (name this : List ℕ) (c d : Class) (later : Option Class) → (later ≡ Some d → name ≡ name_of d) → this ≡ name_of c → (if bytes_eq name this then Some c else later) ≡ Some d → name ≡ name_of d
or-named name this c d later more is e = by_test (bytes_eq name this) refl e
  where
    by_test : (b : Bool) → bytes_eq name this ≡ b → (if b then Some c else later) ≡ Some d → name ≡ name_of d
    by_test true t h = (bytes_eq-Decides name this).0 t ∙ is ∙ ap name_of (same_Some c d h)
    by_test false t h = more h

-- the name of a class that is found
pub class-named : (name : List ℕ) (d : Class) → class_of name ≡ Some d → name ≡ name_of d
class-named name d is =
    (or-named name (codes "CurrentTime") class.CurrentTime d _ (or-named name (codes "DiscreteClock") class.DiscreteClock d _ (or-named name (codes "Register") class.Register d _ (or-named name (codes "Sampler") class.Sampler d _ (or-named name (codes "Server") class.Server d _ (or-named name (codes "SingleEvent") class.SingleEvent d _ (or-named name (codes "TimeDelay") class.TimeDelay d None (λ none. absurd (cc)) refl) refl) refl) refl) refl) refl) refl) is

pub timed-in : (o : Option Class) (params : Params) (a : TimedActor) → start_in o params ≡ Some a → (c : Class) × (o ≡ Some c) × (start_as c params ≡ Some a)
timed-in None params a e = absurd (cc)
timed-in (Some c) params a e = (c, refl, e)

-- ---- what a class asks

-- of the types, where its actor keeps no parameter; else what the row of the actor asks
abbrev pub TimedAsks : (places outputs : List Datatype) → Class → Params → Type 0
TimedAsks places outputs class.CurrentTime params = ToFirst (λ u. IsBelow Int u) outputs
TimedAsks places outputs class.DiscreteClock params = (a : TimedActor) → start_as class.DiscreteClock params ≡ Some a → IsTypedTimed places outputs a
TimedAsks places outputs class.Register params = (a : TimedActor) → start_as class.Register params ≡ Some a → IsTypedTimed places outputs a
TimedAsks places outputs class.Sampler params = (a : TimedActor) → start_as class.Sampler params ≡ Some a → IsTypedTimed places outputs a
TimedAsks places outputs class.Server params = ToFirst (λ u. IsUnder (get places 0) u) outputs
TimedAsks places outputs class.SingleEvent params = (a : TimedActor) → start_as class.SingleEvent params ≡ Some a → IsTypedTimed places outputs a
TimedAsks places outputs class.TimeDelay params = ToFirst (λ u. IsUnder (get places 0) u) outputs

-- a Server and a TimeDelay hold nothing back at first
server-holds : (o : Option ℤ) (x : servers.Server) → server.start_by o ≡ Some x → [] ≡ x.pending
server-holds None x e = absurd (cc)
server-holds (Some n) x e = ap (λ (s : servers.Server). s.pending) (same_Some _ x e)

delay-holds : (o : Option ℤ) (x : delays.TimeDelay) → time_delay.start_by o ≡ Some x → [] ≡ x.pending
delay-holds None x e = absurd (cc)
delay-holds (Some n) x e = ap (λ (s : delays.TimeDelay). s.pending) (same_Some _ x e)

nothing-held : (places outputs : List Datatype) (es : List Event) → [] ≡ es → ToFirst (λ u. IsUnder (get places 0) u) outputs → ToFirst (λ u. IsUnder (get places 0) u × AllByRecursion (IsEventOf u) es) outputs
nothing-held places [] es e h = h
nothing-held places (u ∷ us) es e h = (h, subst (λ fs. AllByRecursion (IsEventOf u) fs) e tt)

-- an actor that is started has what its class asks
pub timed-asked : (places outputs : List Datatype) (c : Class) (params : Params) (a : TimedActor) → start_as c params ≡ Some a → TimedAsks places outputs c params → IsTypedTimed places outputs a
timed-asked places outputs class.CurrentTime params a e h = let w = mapped CurrentTime (current_time.start params) a e in subst (IsTypedTimed places outputs) w.2 h
timed-asked places outputs class.DiscreteClock params a e h = h a e
timed-asked places outputs class.Register params a e h = h a e
timed-asked places outputs class.Sampler params a e h = h a e
timed-asked places outputs class.Server params a e h = let w = mapped Server (server.start params) a e in subst (IsTypedTimed places outputs) w.2 (nothing-held places outputs w.0.pending (server-holds (time_given (codes "serviceTime") params.values) w.0 w.1) h)
timed-asked places outputs class.SingleEvent params a e h = h a e
timed-asked places outputs class.TimeDelay params a e h = let w = mapped TimeDelay (time_delay.start params) a e in subst (IsTypedTimed places outputs) w.2 (nothing-held places outputs w.0.pending (delay-holds (time_given (codes "delay") params.values) w.0 w.1) h)

-- ---- which classes keep a parameter

abbrev pub is_plain : Class → Bool
is_plain class.CurrentTime = true
is_plain class.DiscreteClock = false
is_plain class.Register = false
is_plain class.Sampler = false
is_plain class.Server = true
is_plain class.SingleEvent = false
is_plain class.TimeDelay = true

pub plain-class : (c : Class) (params : Params) (a : TimedActor) → start_as c params ≡ Some a → is_plain_timed a ≡ true → is_plain c ≡ true
plain-class class.CurrentTime params a e p = refl
plain-class class.DiscreteClock params a e p = let w = mapped DiscreteClock (discrete_clock.start params) a e in let no : false ≡ true = ap is_plain_timed w.2 ∙ p in absurd (cc)
plain-class class.Register params a e p = let w = mapped Register (register.start params) a e in let no : false ≡ true = ap is_plain_timed w.2 ∙ p in absurd (cc)
plain-class class.Sampler params a e p = let w = mapped Sampler (sampler.start params) a e in let no : false ≡ true = ap is_plain_timed w.2 ∙ p in absurd (cc)
plain-class class.Server params a e p = refl
plain-class class.SingleEvent params a e p = let w = mapped SingleEvent (single_event.start params) a e in let no : false ≡ true = ap is_plain_timed w.2 ∙ p in absurd (cc)
plain-class class.TimeDelay params a e p = refl

-- that of a seeded actor is one of four
pub seeded-class : (P : Class → Type 0) (c : Class) (params : Params) (a : TimedActor) → P class.DiscreteClock → P class.Register → P class.Sampler → P class.SingleEvent → start_as c params ≡ Some a → is_seeded_timed a ≡ true → P c
seeded-class P class.CurrentTime params a d r m o e s = let w = mapped CurrentTime (current_time.start params) a e in absurd (let no : false ≡ true = ap is_seeded_timed w.2 ∙ s in cc)
seeded-class P class.DiscreteClock params a d r m o e s = d
seeded-class P class.Register params a d r m o e s = r
seeded-class P class.Sampler params a d r m o e s = m
seeded-class P class.Server params a d r m o e s = let w = mapped Server (server.start params) a e in absurd (let no : false ≡ true = ap is_seeded_timed w.2 ∙ s in cc)
seeded-class P class.SingleEvent params a d r m o e s = o
seeded-class P class.TimeDelay params a d r m o e s = let w = mapped TimeDelay (time_delay.start params) a e in absurd (let no : false ≡ true = ap is_seeded_timed w.2 ∙ s in cc)
