-- What each actor of synchronous models needs: a count for each of its places, by the channels to its ports; but for a Merge, which needs one token from any.
use Rattle.std.proofs.Common.{◌≡◌, ℕ, ◌+◌, List, Bool, true, false, Option, Some, None, refl, sym, ap, subst, ◌∙◌}
use Rattle.std.specs.Prelude.{codes, option_map}
use Rattle.std.proofs.lemmas.Bool.{true≢false, false≢true}
use Rattle.std.proofs.lemmas.Option.{none-some, same_Some}
use Rattle.pt_meaning.specs.Machine.{Any}
use Rattle.pt_language.proofs.ReaderSteps.{map_some}
use Rattle.pt_firing.specs.Params.{value_under, channels_to}
use Rattle.pt_flow_base.specs.declared.params.Params.{Params}
use Rattle.pt_lib_time.specs.declared.time_actor.Class.{Class}
use Rattle.pt_lib_time.specs.declared.time_actor.Class.TheVariants as class
use Rattle.pt_lib_time.specs.declared.time_actor.TimeActor.{TimeActor}
use Rattle.pt_lib_time.specs.declared.time_actor.TimeActor.TheVariants as made
use Rattle.pt_lib_time.specs.declared.absent.Absent as absents
use Rattle.pt_lib_time.specs.declared.current.Current as currents
use Rattle.pt_lib_time.specs.declared.fallback.Default as fallbacks
use Rattle.pt_lib_time.specs.declared.non_strict_delay.NonStrictDelay as delays
use Rattle.pt_lib_time.specs.declared.non_strict_logic_gate.Gate.{Gate}
use Rattle.pt_lib_time.specs.declared.non_strict_logic_gate.NonStrictLogicGate as gates
use Rattle.pt_lib_time.specs.declared.non_strict_mux.NonStrictMux as muxes
use Rattle.pt_lib_time.specs.declared.pre.Pre as pres
use Rattle.pt_lib_time.specs.declared.when.When as whens
use Rattle.pt_lib_time.specs.Absent as absent
use Rattle.pt_lib_time.specs.Current as current
use Rattle.pt_lib_time.specs.Default as fallback
use Rattle.pt_lib_time.specs.Merge as merge
use Rattle.pt_lib_time.specs.NonStrictDelay as non_strict_delay
use Rattle.pt_lib_time.specs.NonStrictLogicGate as non_strict_logic_gate
use Rattle.pt_lib_time.specs.NonStrictMux as non_strict_mux
use Rattle.pt_lib_time.specs.Pre as pre
use Rattle.pt_lib_time.specs.When as when
use Rattle.pt_lib_time.specs.TimeActor.{need, start_as}
use Rattle.pt_placed.specs.Counted.{IsCounted}
use Rattle.pt_placed.proofs.Each.{each}

-- the places of an actor of a class, to whose ports so many channels come
abbrev pub time_places : Class → List (List ℕ × ℕ) → ℕ
time_places class.Absent ports = 0
time_places class.Current ports = 1
time_places class.Default ports = 2
time_places class.Merge ports = channels_to (codes "input") ports
time_places class.NonStrictDelay ports = 1
time_places class.NonStrictLogicGate ports = channels_to (codes "input") ports
time_places class.NonStrictMux ports = channels_to (codes "input") ports + 1
time_places class.Pre ports = 1
time_places class.When ports = 2

abbrev pub is_merge : Class → Bool
is_merge class.Absent = false
is_merge class.Current = false
is_merge class.Default = false
is_merge class.Merge = true
is_merge class.NonStrictDelay = false
is_merge class.NonStrictLogicGate = false
is_merge class.NonStrictMux = false
is_merge class.Pre = false
is_merge class.When = false

gate-places : (o : Option Gate) (n : ℕ) (x : gates.NonStrictLogicGate) → non_strict_logic_gate.start_by o n ≡ Some x → x.places ≡ n
gate-places None n x e = absurd (none-some x e)
gate-places (Some g) n x e = sym (ap (λ (y : gates.NonStrictLogicGate). y.places) (same_Some _ x e))

started : {S : Type 0} (wrap : S → TimeActor) (o : Option S) (a : TimeActor) (n : ℕ) → option_map wrap o ≡ Some a → ((x : S) → o ≡ Some x → IsCounted n (need (wrap x))) → IsCounted n (need a)
started wrap o a n e h = let w = map_some wrap o a e in subst (λ (b : TimeActor). IsCounted n (need b)) w.2 (h w.0 w.1)

pub time-counted : (c : Class) (params : Params) (a : TimeActor) → is_merge c ≡ false → start_as c params ≡ Some a → IsCounted (time_places c params.ports) (need a)
time-counted class.Absent params a m e = started made.Absent (absent.start params) a 0 e (λ x is. each 0 x.places (sym (ap (λ (y : absents.Absent). y.places) (same_Some _ x is))))
time-counted class.Current params a m e = started made.Current (current.start params) a 1 e (λ x is. each 1 x.places (sym (ap (λ (y : currents.Current). y.places) (same_Some _ x is))))
time-counted class.Default params a m e = started made.Default (fallback.start params) a 2 e (λ x is. each 2 x.places (sym (ap (λ (y : fallbacks.Default). y.places) (same_Some _ x is))))
time-counted class.Merge params a m e = absurd (true≢false m)
time-counted class.NonStrictDelay params a m e = started made.NonStrictDelay (non_strict_delay.start params) a 1 e (λ x is. each 1 x.places (sym (ap (λ (y : delays.NonStrictDelay). y.places) (same_Some _ x is))))
time-counted class.NonStrictLogicGate params a m e = let n = channels_to (codes "input") params.ports in started made.NonStrictLogicGate (non_strict_logic_gate.start params) a n e (λ x is. each n x.places (gate-places _ n x is))
time-counted class.NonStrictMux params a m e = let n = channels_to (codes "input") params.ports + 1 in started made.NonStrictMux (non_strict_mux.start params) a n e (λ x is. each n x.places (sym (ap (λ (y : muxes.NonStrictMux). y.places) (same_Some _ x is))))
time-counted class.Pre params a m e = started made.Pre (pre.start params) a 1 e (λ x is. each 1 x.places (sym (ap (λ (y : pres.Pre). y.places) (same_Some _ x is))))
time-counted class.When params a m e = started made.When (when.start params) a 2 e (λ x is. each 2 x.places (sym (ap (λ (y : whens.When). y.places) (same_Some _ x is))))

pub merge-any : (c : Class) (params : Params) (a : TimeActor) → is_merge c ≡ true → start_as c params ≡ Some a → (c ≡ class.Merge) × (need a ≡ Any)
merge-any class.Absent params a m e = absurd (false≢true m)
merge-any class.Current params a m e = absurd (false≢true m)
merge-any class.Default params a m e = absurd (false≢true m)
merge-any class.Merge params a m e = let w = map_some made.Merge (merge.start params) a e in (refl, sym (ap need w.2))
merge-any class.NonStrictDelay params a m e = absurd (false≢true m)
merge-any class.NonStrictLogicGate params a m e = absurd (false≢true m)
merge-any class.NonStrictMux params a m e = absurd (false≢true m)
merge-any class.Pre params a m e = absurd (false≢true m)
merge-any class.When params a m e = absurd (false≢true m)
