-- Each actor of timed models gives tokens of the type of its output, where its inputs are of those of its places, and its state is such as its row asks again.
use Rattle.std.proofs.Common.{◌≡◌, ◌+◌, ℕ, zero, suc, List, [], ◌∷◌, ◌++◌, length, replicate, Bool, true, false, Option, Some, None, pos, refl, ap, subst, nat_lt, slice_get, ◌∙◌, if◌then◌else◌}
use Rattle.std.specs.Prelude.{IfSome, option_map}
use Rattle.std.specs.Option.{option_or}
use Rattle.std.specs.List.{AllByRecursion}
use Rattle.pt_meaning.specs.Tag.{tag_le, tag_after, within_limits, is_due}
use Rattle.pt_meaning.specs.Basics.{Tag, Streams, at}
use Rattle.pt_meaning.specs.Streams.{get}
use Rattle.pt_meaning.specs.Machine.{Partial, Unknown, Known, partial_at}
use Rattle.pt_meaning.specs.Node.{Answer, Gives, Fails}
use Rattle.pt_value.specs.Value.{Value}
use Rattle.pt_value.specs.Token.{token_of}
use Rattle.pt_value.specs.declared.token.Token.{Token}
use Rattle.pt_value.specs.declared.token.Token.TheVariants as token
use Rattle.pt_datatypes.specs.Datatype.{Datatype}
use Rattle.pt_firing.specs.Row.{is_present, token_at, gives, rests, exactly, fits_i64}
use Rattle.pt_firing.specs.RunFault.{code_of}
use Rattle.pt_firing.specs.declared.fault.RunFault.TheVariants.{Overflow}
use Rattle.pt_firing.specs.Strict.{strict}
use Rattle.pt_lib_timed.specs.declared.timed_actor.TimedActor.{TimedActor}
use Rattle.pt_lib_timed.specs.declared.timed_actor.TimedActor.TheVariants.{CurrentTime, DiscreteClock, Register, Sampler, Server, SingleEvent, TimeDelay}
use Rattle.pt_lib_timed.specs.declared.discrete_clock.DiscreteClock as clocks
use Rattle.pt_lib_timed.specs.declared.register.Register as registers
use Rattle.pt_lib_timed.specs.Signal.{shows, where_so}
use Rattle.pt_lib_timed.specs.Pending.{Event, due, left, before, arriving, given_then, held_in, later_of, last_tag}
use Rattle.pt_lib_timed.specs.CurrentTime as current_time
use Rattle.pt_lib_timed.specs.DiscreteClock as discrete_clock
use Rattle.pt_lib_timed.specs.Register as register
use Rattle.pt_lib_timed.specs.Sampler as sampler
use Rattle.pt_lib_timed.specs.Server as server
use Rattle.pt_lib_timed.specs.SingleEvent as single_event
use Rattle.pt_lib_timed.specs.TimeDelay as time_delay
use Rattle.pt_lib_timed.specs.TimedActor.{held_as, step, early}
use Rattle.pt_kinds.specs.Signature.{AreOf, AreKnownOf, AreAllKnownOf}
use Rattle.pt_typed.specs.TokenTypes.{IsTokenOf, IsUnder}
use Rattle.pt_typed.specs.TypedFlow.{IsValueOf}
use Rattle.pt_typed.specs.TypedTimed.{IsEventOf, IsTypedTimed}
use Rattle.pt_kinds.proofs.StreamLaws.{at-given}
use Rattle.pt_typed.proofs.EarlyLaws.{strict-tells, IsKnownOf, one-known}
use Rattle.pt_typed.proofs.TypeLaws.{of-value, all-of}
use Rattle.pt_typed.proofs.TimeActorLaws.{IsSignalOf, arrived, either, Leaves}

-- ---- signals and lists of a type

where-so : (u : Datatype) (b : Bool) (o : Option Token) → IsSignalOf u o → IsSignalOf u (where_so b o)
where-so u true o h = h
where-so u false o h = tt

valued-at : (u : Datatype) (vs : List Value) (n : ℕ) → AllByRecursion (IsValueOf u) vs → IsSignalOf u (option_map token_of (slice_get vs n))
valued-at u [] n h = tt
valued-at u (v ∷ vs) zero h = of-value u v h.0
valued-at u (v ∷ vs) (suc n) h = valued-at u vs n h.1

last-of : (u : Datatype) (xs : List Token) → AllByRecursion (IsTokenOf u) xs → IsSignalOf u (register.last_of xs)
last-of u [] h = tt
last-of u (x ∷ []) h = h.0
last-of u (x ∷ y ∷ xs) h = last-of u (y ∷ xs) h.1

repeated-of : (u : Datatype) (n : ℕ) (o : Option Token) → IsSignalOf u o → AllByRecursion (IsTokenOf u) (register.repeated n o)
repeated-of u n None h = tt
repeated-of u n (Some t) h = all-same n
  where
    all-same : (m : ℕ) → AllByRecursion (IsTokenOf u) (replicate m t)
    all-same zero = tt
    all-same (suc m) = (h, all-same m)

-- all that comes to the first place
all-arrived : (ps : List Datatype) (X : Streams Token) (u : Datatype) → AreOf IsTokenOf ps X → IsUnder (get ps 0) u → AllByRecursion (IsTokenOf u) (at X 0)
all-arrived ps X u a h = all-of (get ps 0) (at X 0) u (at-given IsTokenOf ps X 0 a) h

-- ---- what is held back

due-of : (u : Datatype) (tag : Tag) (es : List Event) → AllByRecursion (IsEventOf u) es → AllByRecursion (IsTokenOf u) (due tag es)
due-of u tag [] h = tt
due-of u tag (e ∷ es) h = by_test (tag_le e.0 tag) (due-of u tag es h.1)
  where
    by_test : (b : Bool) → AllByRecursion (IsTokenOf u) (due tag es) → AllByRecursion (IsTokenOf u) (if b then e.1 ∷ due tag es else due tag es)
    by_test true k = (h.0, k)
    by_test false k = k

left-of : (u : Datatype) (tag : Tag) (es : List Event) → AllByRecursion (IsEventOf u) es → AllByRecursion (IsEventOf u) (left tag es)
left-of u tag [] h = tt
left-of u tag (e ∷ es) h = by_test (tag_le e.0 tag) (left-of u tag es h.1)
  where
    by_test : (b : Bool) → AllByRecursion (IsEventOf u) (left tag es) → AllByRecursion (IsEventOf u) (if b then left tag es else e ∷ left tag es)
    by_test true k = k
    by_test false k = (h.0, k)

both-of : (u : Datatype) (es fs : List Event) → AllByRecursion (IsEventOf u) es → AllByRecursion (IsEventOf u) fs → AllByRecursion (IsEventOf u) (es ++ fs)
both-of u [] fs h k = k
both-of u (e ∷ es) fs h k = (h.0, both-of u es fs h.1 k)

before-of : (u : Datatype) (x : Token) (o : Option Tag) (more : Tag → Option (List Event)) → IsTokenOf u x → ((end : Tag) → IfSome (more end) (AllByRecursion (IsEventOf u))) → IfSome (before x o more) (AllByRecursion (IsEventOf u))
before-of u x None more h k = tt
before-of u x (Some end) more h k = put (more end) (k end)
  where
    put : (o : Option (List Event)) → IfSome o (AllByRecursion (IsEventOf u)) → IfSome (option_map (λ es. (end, x) ∷ es) o) (AllByRecursion (IsEventOf u))
    put None l = tt
    put (Some es) l = (h, l)

arriving-of : (u : Datatype) (in_turn : Bool) (from : Tag) (delay : ℕ) (xs : List Token) → AllByRecursion (IsTokenOf u) xs → IfSome (arriving in_turn from delay xs) (AllByRecursion (IsEventOf u))
arriving-of u in_turn from delay [] h = tt
arriving-of u in_turn from delay (x ∷ xs) h = before-of u x (within_limits (tag_after from delay)) (λ end. arriving in_turn (if in_turn then end else from) delay xs) h.0 (λ end. arriving-of u in_turn (if in_turn then end else from) delay xs h.1)

-- ---- what an answer gives, and the state that it leaves

shown : {A : Type 0} (u : Datatype) (us : List Datatype) (P : A → Type 0) (after : A) (signal : Option Token) → IsSignalOf u signal → P after → Leaves (u ∷ us) P (shows after signal)
shown u us P after None h p = ((tt, tt), p)
shown u us P after (Some t) h p = (((h, tt), tt), p)

held : {S : Type 0} (us : List Datatype) (wrap : S → TimedActor) (P : TimedActor → Type 0) (r : Answer Token S) → Leaves us (λ s. P (wrap s)) r → Leaves us P (held_as wrap r)
held us wrap P (Gives s out) h = h
held us wrap P (Fails code) h = h

by-test : {A : Type 0} (us : List Datatype) (P : A → Type 0) (b : Bool) (r s : Answer Token A) → Leaves us P r → Leaves us P s → Leaves us P (if b then r else s)
by-test us P true r s h k = h
by-test us P false r s h k = k

held-list : {A : Type 0} (u : Datatype) (us : List Datatype) (wrap : List Event → A) (P : A → Type 0) (tag : Tag) (pending : List Event) (o : Option (List Event)) → AllByRecursion (IsEventOf u) pending → IfSome o (AllByRecursion (IsEventOf u)) →
    ((es : List Event) → AllByRecursion (IsEventOf u) es → P (wrap es)) → Leaves (u ∷ us) P (held_in wrap (given_then tag pending o))
held-list u us wrap P tag pending None h k p = tt
held-list u us wrap P tag pending (Some arrived) h k p = ((due-of u tag pending h, tt), p (left tag pending ++ arrived) (both-of u (left tag pending) arrived (left-of u tag pending h) k))

-- where the clock goes on it has the same values
moved-keeps : (P : clocks.DiscreteClock → Type 0) (a : clocks.DiscreteClock) → P (record a { index = a.index + 1 }) → P (record a { round = a.round + 1; index = 0 }) → P (discrete_clock.moved a)
moved-keeps P a h k = by_end (nat_lt (a.index + 1) (length a.offsets))
  where
    by_end : (b : Bool) → P (if b then record a { index = a.index + 1 } else record a { round = a.round + 1; index = 0 })
    by_end true = h
    by_end false = k

-- ---- a Register

module _ (ps : List Datatype) (u : Datatype) (tag : Tag) where
  abbrev Holds : registers.Register → Type 0
  Holds a = IsUnder (get ps 0) u × IfSome a.before (IsTokenOf u) × IfSome a.latest (IsEventOf u)

  kept-by : (latest : Option Event) (earlier : Option Token) → IfSome latest (IsEventOf u) → IsSignalOf u earlier → IsSignalOf u (register.kept_by tag latest earlier)
  kept-by None earlier h k = k
  kept-by (Some e) earlier h k = by_tag (tag_le tag e.0)
    where
      by_tag : (b : Bool) → IsSignalOf u (if b then earlier else Some e.1)
      by_tag true = k
      by_tag false = h

  given-of : (a : registers.Register) → Holds a → IsSignalOf u (register.given tag a)
  given-of a h = kept-by a.latest a.before h.2 h.1

  keeping-holds : (a : registers.Register) (o : Option Token) → Holds a → IsSignalOf u o → Holds (register.keeping tag a o)
  keeping-holds a None h k = h
  keeping-holds a (Some t) h k = (h.0, given-of a h, k)

  by-trigger : (given : Option Token) (v : Partial Token) → IsSignalOf u given → IsKnownOf u (register.by_trigger given v)
  by-trigger given Unknown h = tt
  by-trigger given (Known triggers) h = repeated-of u (length triggers) given h

-- ---- each class

leaves-of : (ps : List Datatype) (u : Datatype) (us : List Datatype) (tag : Tag) (a : TimedActor) (X : Streams Token) → IsTypedTimed ps (u ∷ us) a → AreOf IsTokenOf ps X → Leaves (u ∷ us) (IsTypedTimed ps (u ∷ us)) (step tag a X)
leaves-of ps u us tag (CurrentTime a) X h i =
    held (u ∷ us) CurrentTime (IsTypedTimed ps (u ∷ us)) (current_time.step tag a X)
    (by-test (u ∷ us) (λ s. IsTypedTimed ps (u ∷ us) (CurrentTime s)) (is_present X 0) (exactly a (pos tag.time)) (rests a) (by-test (u ∷ us) (λ s. IsTypedTimed ps (u ∷ us) (CurrentTime s)) (fits_i64 (pos tag.time)) (gives a (token.Int (pos tag.time))) (Fails (code_of Overflow)) (((h, tt), tt), h) tt) ((tt, tt), h))
leaves-of ps u us tag (DiscreteClock a) X h i =
    let signal = option_map token_of (slice_get a.values a.index) in
    held (u ∷ us) DiscreteClock (IsTypedTimed ps (u ∷ us)) (discrete_clock.step tag a X)
    (by-test (u ∷ us) (λ s. IsTypedTimed ps (u ∷ us) (DiscreteClock s)) (is_due tag (discrete_clock.next a)) (shows (discrete_clock.moved a) signal) (shows a None) (shown u us (λ s. IsTypedTimed ps (u ∷ us) (DiscreteClock s)) (discrete_clock.moved a) signal (valued-at u a.values a.index h) (moved-keeps (λ s. IsTypedTimed ps (u ∷ us) (DiscreteClock s)) a h h)) (shown u us (λ s. IsTypedTimed ps (u ∷ us) (DiscreteClock s)) a None tt h))
leaves-of ps u us tag (Register a) X h i =
    let now = register.given tag a in
    ((repeated-of u (length (at X 1)) now (given-of ps u tag a h), tt), keeping-holds ps u tag a (register.last_of (at X 0)) h (last-of u (at X 0) (all-arrived ps X u i h.0)))
leaves-of ps u us tag (Sampler a) X h i =
    let kept = option_or (token_at X 0) a.kept in
    let holds = either u (token_at X 0) a.kept (arrived ps X 0 u i h.0) h.1 in
    shown u us (IsTypedTimed ps (u ∷ us)) (Sampler (record a { kept = kept })) (where_so (is_present X 1) kept) (where-so u (is_present X 1) kept holds) (h.0, holds)
leaves-of ps u us tag (Server a) X h i =
    let from = later_of tag (last_tag a.pending) in
    held (u ∷ us) Server (IsTypedTimed ps (u ∷ us)) (server.step tag a X)
    (held-list u us (server.holding a) (λ s. IsTypedTimed ps (u ∷ us) (Server s)) tag a.pending (arriving true from a.service (at X 0)) h.1 (arriving-of u true from a.service (at X 0) (all-arrived ps X u i h.0)) (λ es k. (h.0, k)))
leaves-of ps u us tag (SingleEvent a) X h i =
    held (u ∷ us) SingleEvent (IsTypedTimed ps (u ∷ us)) (single_event.step tag a X)
    (by-test (u ∷ us) (λ s. IsTypedTimed ps (u ∷ us) (SingleEvent s)) (is_due tag (single_event.next a)) (shows (record a { event = None }) a.event) (shows a None) (shown u us (λ s. IsTypedTimed ps (u ∷ us) (SingleEvent s)) (record a { event = None }) a.event h tt) (shown u us (λ s. IsTypedTimed ps (u ∷ us) (SingleEvent s)) a None tt h))
leaves-of ps u us tag (TimeDelay a) X h i =
    held (u ∷ us) TimeDelay (IsTypedTimed ps (u ∷ us)) (time_delay.step tag a X)
    (held-list u us (time_delay.holding a) (λ s. IsTypedTimed ps (u ∷ us) (TimeDelay s)) tag a.pending (arriving false tag a.delay (at X 0)) h.1 (arriving-of u false tag a.delay (at X 0) (all-arrived ps X u i h.0)) (λ es k. (h.0, k)))

no-output : (ps : List Datatype) (a : TimedActor) → IsTypedTimed ps [] a → ⊥
no-output ps (CurrentTime a) h = h
no-output ps (DiscreteClock a) h = h
no-output ps (Register a) h = h
no-output ps (Sampler a) h = h
no-output ps (Server a) h = h
no-output ps (SingleEvent a) h = h
no-output ps (TimeDelay a) h = h

pub timed-keeps : (ps us : List Datatype) (a b : TimedActor) (tag : Tag) (X out : Streams Token) → IsTypedTimed ps us a → AreOf IsTokenOf ps X → step tag a X ≡ Gives b out → AreOf IsTokenOf us out × IsTypedTimed ps us b
timed-keeps ps [] a b tag X out h i e = absurd (no-output ps a h)
timed-keeps ps (u ∷ us) a b tag X out h i e = subst (λ r. Leaves (u ∷ us) (IsTypedTimed ps (u ∷ us)) r) e (leaves-of ps u us tag a X h i)

-- ---- what is given early

-- a class that is strict
module _ {S : Type 0} (ps : List Datatype) (u : Datatype) (us : List Datatype) (tag : Tag) (wrap : S → TimedActor) (react : Tag → S → Streams Token → Answer Token S) (is : (s : S) (X : Streams Token) → step tag (wrap s) X ≡ held_as wrap (react tag s X)) where
  as-strict : (s : S) (vs : List (Partial Token)) → IsTypedTimed ps (u ∷ us) (wrap s) → AreAllKnownOf IsTokenOf ps vs → AreKnownOf IsTokenOf (u ∷ us) (strict 1 react tag s vs)
  as-strict s vs h k = strict-tells ps (u ∷ us) 1 react tag s (λ X b out i e. (timed-keeps ps (u ∷ us) (wrap s) (wrap b) tag X out h i.1 (is s X ∙ ap (λ r. held_as wrap r) e)).0) vs k

tells-of : (ps : List Datatype) (u : Datatype) (us : List Datatype) (tag : Tag) (a : TimedActor) (vs : List (Partial Token)) → IsTypedTimed ps (u ∷ us) a → AreAllKnownOf IsTokenOf ps vs → AreKnownOf IsTokenOf (u ∷ us) (early tag a vs)
tells-of ps u us tag (CurrentTime a) vs h k = as-strict ps u us tag CurrentTime current_time.step (λ s X. refl) a vs h k
tells-of ps u us tag (DiscreteClock a) vs h k = as-strict ps u us tag DiscreteClock discrete_clock.step (λ s X. refl) a vs h k
tells-of ps u us tag (Register a) vs h k =
    let now = register.given tag a in
    one-known u us (register.by_trigger now (partial_at vs 1)) (by-trigger ps u tag now (partial_at vs 1) (given-of ps u tag a h))
tells-of ps u us tag (Sampler a) vs h k = as-strict ps u us tag Sampler sampler.step (λ s X. refl) a vs h k
tells-of ps u us tag (Server a) vs h k = one-known u us (Known (due tag a.pending)) (due-of u tag a.pending h.1)
tells-of ps u us tag (SingleEvent a) vs h k = as-strict ps u us tag SingleEvent single_event.step (λ s X. refl) a vs h k
tells-of ps u us tag (TimeDelay a) vs h k = one-known u us (Known (due tag a.pending)) (due-of u tag a.pending h.1)

pub timed-tells : (ps us : List Datatype) (tag : Tag) (a : TimedActor) (vs : List (Partial Token)) → IsTypedTimed ps us a → AreAllKnownOf IsTokenOf ps vs → AreKnownOf IsTokenOf us (early tag a vs)
timed-tells ps [] tag a vs h k = absurd (no-output ps a h)
timed-tells ps (u ∷ us) tag a vs h k = tells-of ps u us tag a vs h k
