-- What a library actor has that is started from parameters and takes its lists whole: one output, and each place that isn't a delay.
use Rattle.std.proofs.Common.{◌≡◌, ℕ, ◌<◌, List, length, replicate, Bool, true, false, Option, Some, None, refl, sym, ap, ◌∙◌, arith}
use Rattle.std.specs.Prelude.{nat_eq, not, option_map}
use Rattle.std.specs.Option.{option_or}
use Rattle.std.proofs.lemmas.List.{length-replicate}
use Rattle.pt_meaning.specs.Machine.{Counts}
use Rattle.pt_flow_base.specs.declared.params.Params.{Params}
use Rattle.pt_lib_flow.specs.declared.flow_actor.FlowActor.{FlowActor}
use Rattle.pt_lib_flow.specs.FlowActor as flow_actor
use Rattle.pt_lib_data.specs.declared.data_actor.DataActor.{DataActor}
use Rattle.pt_lib_data.specs.DataActor as data_actor
use Rattle.pt_lib_time.specs.declared.time_actor.TimeActor.{TimeActor}
use Rattle.pt_lib_time.specs.TimeActor as time_actor
use Rattle.pt_lib_timed.specs.declared.register.Register as registers
use Rattle.pt_lib_timed.specs.declared.timed_actor.Class.{Class}
use Rattle.pt_lib_timed.specs.declared.timed_actor.Class.TheVariants as class
use Rattle.pt_lib_timed.specs.declared.timed_actor.TimedActor.{TimedActor}
use Rattle.pt_lib_timed.specs.declared.timed_actor.TimedActor.TheVariants.{CurrentTime, DiscreteClock, Register, Sampler, Server, SingleEvent, TimeDelay}
use Rattle.pt_lib_timed.specs.CurrentTime as current_time
use Rattle.pt_lib_timed.specs.DiscreteClock as discrete_clock
use Rattle.pt_lib_timed.specs.Register as register
use Rattle.pt_lib_timed.specs.Sampler as sampler
use Rattle.pt_lib_timed.specs.Server as server
use Rattle.pt_lib_timed.specs.SingleEvent as single_event
use Rattle.pt_lib_timed.specs.TimeDelay as time_delay
use Rattle.pt_lib_timed.specs.TimedActor as timed_actor
use Rattle.pt_library.specs.declared.library_actor.LibraryActor.{LibraryActor}
use Rattle.pt_library.specs.declared.library_actor.LibraryActor.TheVariants.{Flow, Data, Time, Timed}
use Rattle.pt_library.specs.LibraryActor.{start, whole, is_delay, need, outputs}
use Rattle.pt_de_laws.proofs.PlaceLaws.{equal-by}

false-true : {A : Type 0} → false ≡ true → A
false-true e = absurd (cc)

pub one-output : (a : LibraryActor) → whole a ≡ true → outputs a ≡ 1
one-output (Flow a) w = false-true w
one-output (Data a) w = false-true w
one-output (Time a) w = false-true w
one-output (Timed a) w = refl

-- ---- a Register has two places

timed-of : (o : Option FlowActor) (p : Option DataActor) (q : Option TimeActor) (r : Option TimedActor) (t : TimedActor) → option_or (option_map Flow o) (option_or (option_map Data p) (option_or (option_map Time q) (option_map Timed r))) ≡ Some (Timed t) → r ≡ Some t
timed-of (Some b) p q r t e = absurd (let same : Flow b ≡ Timed t = cc in cc)
timed-of None (Some b) q r t e = absurd (let same : Data b ≡ Timed t = cc in cc)
timed-of None None (Some b) r t e = absurd (let same : Time b ≡ Timed t = cc in cc)
timed-of None None None (Some s) t e = let same : Timed s ≡ Timed t = cc in let here : s ≡ t = cc in ap (λ (v : TimedActor). Option.Some v) here
timed-of None None None None t e = absurd (cc)

of-some : {A : Type 0} (x y : A) → Option.Some x ≡ Option.Some y → x ≡ y
of-some x y e = cc

-- an actor is none of another class
other : {S : Type 0} (wrap : S → TimedActor) (x : TimedActor) → ((s : S) → wrap s ≡ x → ⊥) → (o : Option S) → option_map wrap o ≡ Some x → ⊥
other wrap x never None e = cc
other wrap x never (Some s) e = let same : wrap s ≡ x = cc in never s same

its-places : (c : Class) (params : Params) (x : registers.Register) → timed_actor.start_as c params ≡ Some (Register x) → x.places ≡ 2
its-places class.CurrentTime params x e = absurd (other CurrentTime (Register x) (λ s g. cc) (current_time.start params) e)
its-places class.DiscreteClock params x e = absurd (other DiscreteClock (Register x) (λ s g. cc) (discrete_clock.start params) e)
its-places class.Register params x e = registered (register.start params) e (λ r g. ap (λ (v : registers.Register). v.places) (sym (of-some _ r g)))
  where
    registered : (o : Option registers.Register) → option_map Register o ≡ Some (Register x) → ((r : registers.Register) → o ≡ Some r → r.places ≡ 2) → x.places ≡ 2
    registered None e all = absurd (cc)
    registered (Some r) e all = let same : Register r ≡ Register x = cc in let here : r ≡ x = cc in ap (λ (v : registers.Register). v.places) (sym here) ∙ all r refl
its-places class.Sampler params x e = absurd (other Sampler (Register x) (λ s g. cc) (sampler.start params) e)
its-places class.Server params x e = absurd (other Server (Register x) (λ s g. cc) (server.start params) e)
its-places class.SingleEvent params x e = absurd (other SingleEvent (Register x) (λ s g. cc) (single_event.start params) e)
its-places class.TimeDelay params x e = absurd (other TimeDelay (Register x) (λ s g. cc) (time_delay.start params) e)

places-in : (c : Option Class) (params : Params) (x : registers.Register) → timed_actor.start_in c params ≡ Some (Register x) → x.places ≡ 2
places-in None params x e = absurd (cc)
places-in (Some c) params x e = its-places c params x e

-- ---- the places that aren't delays

trigger : (q : ℕ) → not (nat_eq q 1) ≡ false → q ≡ 1
trigger q e = equal-by q 1 (so (nat_eq q 1) e)
  where
    so : (b : Bool) → not b ≡ false → b ≡ true
    so true e = refl
    so false e = false-true (sym e)

ones : (places : ℕ) (ns : List ℕ) → Counts (replicate places 1) ≡ Counts ns → length ns ≡ places
ones places ns e = let same : replicate places 1 ≡ ns = cc in sym (ap (λ (v : List ℕ). length v) same) ∙ length-replicate places 1

within-timed : (params : Params) (a : TimedActor) (ns : List ℕ) → timed_actor.start params ≡ Some a → timed_actor.whole a ≡ true → timed_actor.need a ≡ Counts ns → (q : ℕ) → timed_actor.is_delay a q ≡ false → q < length ns
within-timed params (CurrentTime a) ns s w e q d = false-true w
within-timed params (DiscreteClock a) ns s w e q d = false-true w
within-timed params (Register a) ns s w e q d =
    let two : a.places ≡ 2 = places-in (timed_actor.class_of params.class) params a s in
    omega (arith, trigger q d, ones a.places ns e, two)
within-timed params (Sampler a) ns s w e q d = false-true w
within-timed params (Server a) ns s w e q d = false-true (sym d)
within-timed params (SingleEvent a) ns s w e q d = false-true w
within-timed params (TimeDelay a) ns s w e q d = false-true (sym d)

pub within-places : (params : Params) (a : LibraryActor) (ns : List ℕ) → start params ≡ Some a → whole a ≡ true → need a ≡ Counts ns → (q : ℕ) → is_delay a q ≡ false → q < length ns
within-places params (Flow a) ns s w e q d = false-true w
within-places params (Data a) ns s w e q d = false-true w
within-places params (Time a) ns s w e q d = false-true w
within-places params (Timed a) ns s w e q d =
    within-timed params a ns (timed-of (flow_actor.start params) (data_actor.start params.class params.values params.ports) (time_actor.start params) (timed_actor.start params) a s) w e q d
