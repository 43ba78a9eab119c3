-- Which actor the parameters of a class of synchronous models start, and what that class asks of types beside what the parameters hold.
use Rattle.std.proofs.Common.{◌≡◌, ℕ, List, [], ◌∷◌, drop, Bool, true, false, Option, Some, None, refl, ap, subst, ◌∙◌, if◌then◌else◌}
use Rattle.std.specs.Prelude.{codes, bytes_eq}
use Rattle.std.specs.List.{AllByRecursion}
use Rattle.std.proofs.lemmas.Option.{same_Some}
use Rattle.std.proofs.lemmas.Slice.Eq.{bytes_eq-Decides}
use Rattle.pt_meaning.specs.Streams.{get}
use Rattle.pt_datatypes.specs.Datatype.{Datatype, Boolean}
use Rattle.pt_datatypes.specs.Order.{IsBelow}
use Rattle.pt_flow_base.specs.declared.params.Params.{Params}
use Rattle.pt_lib_time.specs.declared.time_actor.Class.{Class}
use Rattle.pt_lib_time.specs.declared.time_actor.Class.TheVariants as class
use Rattle.pt_lib_time.specs.declared.time_actor.TimeActor.{TimeActor}
use Rattle.pt_lib_time.specs.declared.time_actor.TimeActor.TheVariants.{Absent, Current, Default, Merge, NonStrictDelay, NonStrictLogicGate, NonStrictMux, Pre, When}
use Rattle.pt_lib_time.specs.declared.current.Current as currents
use Rattle.pt_lib_time.specs.TimeActor.{class_of, start_as, start_in}
use Rattle.pt_lib_time.specs.Absent as absent
use Rattle.pt_lib_time.specs.Current as current
use Rattle.pt_lib_time.specs.Default as fallback
use Rattle.pt_lib_time.specs.Merge as merge
use Rattle.pt_lib_time.specs.NonStrictDelay as non_strict_delay
use Rattle.pt_lib_time.specs.NonStrictLogicGate as non_strict_logic_gate
use Rattle.pt_lib_time.specs.NonStrictMux as non_strict_mux
use Rattle.pt_lib_time.specs.Pre as pre
use Rattle.pt_lib_time.specs.When as when
use Rattle.pt_typed.specs.TokenTypes.{IsUnder, ToFirst}
use Rattle.pt_typed.specs.TypedTime.{IsTypedTime}
use Rattle.pt_typed.specs.NetRows.{is_plain_time, is_seeded_time}
use Rattle.pt_typed.proofs.FlowStarts.{mapped}

-- ---- names

abbrev pub name_of : Class → List ℕ
name_of class.Absent = codes "Absent"
name_of class.Current = codes "Current"
name_of class.Default = codes "Default"
name_of class.Merge = codes "Merge"
name_of class.NonStrictDelay = codes "NonStrictDelay"
name_of class.NonStrictLogicGate = codes "NonStrictLogicGate"
name_of class.NonStrictMux = codes "NonStrictMux"
name_of class.Pre = codes "Pre"
name_of class.When = codes "When"

or-named : (name this : List ℕ) (c d : Class) (later : Option Class) → (later ≡ Some d → name ≡ name_of d) → this ≡ name_of c → (if bytes_eq name this then Some c else later) ≡ Some d → name ≡ name_of d
or-named name this c d later more is e = by_test (bytes_eq name this) refl e
  where
    by_test : (b : Bool) → bytes_eq name this ≡ b → (if b then Some c else later) ≡ Some d → name ≡ name_of d
    by_test true t h = (bytes_eq-Decides name this).0 t ∙ is ∙ ap name_of (same_Some c d h)
    by_test false t h = more h

-- the name of a class that is found
pub class-named : (name : List ℕ) (d : Class) → class_of name ≡ Some d → name ≡ name_of d
class-named name d is =
    (or-named name (codes "Absent") class.Absent d _ (or-named name (codes "Current") class.Current d _ (or-named name (codes "Default") class.Default d _ (or-named name (codes "Merge") class.Merge d _ (or-named name (codes "NonStrictDelay") class.NonStrictDelay d _ (or-named name (codes "NonStrictLogicGate") class.NonStrictLogicGate d _ (or-named name (codes "NonStrictMux") class.NonStrictMux d _ (or-named name (codes "Pre") class.Pre d _ (or-named name (codes "When") class.When d None (λ none. absurd (cc)) refl) refl) refl) refl) refl) refl) refl) refl) refl) is

pub time-in : (o : Option Class) (params : Params) (a : TimeActor) → start_in o params ≡ Some a → (c : Class) × (o ≡ Some c) × (start_as c params ≡ Some a)
time-in None params a e = absurd (cc)
time-in (Some c) params a e = (c, refl, e)

-- ---- what a class asks

-- of the types, where its actor keeps no parameter; else what the row of the actor asks
abbrev pub TimeAsks : (places outputs : List Datatype) → Class → Params → Type 0
TimeAsks places outputs class.Absent params = ToFirst (λ u. Unit {0}) outputs
TimeAsks places outputs class.Current params = ToFirst (λ u. IsUnder (get places 0) u) outputs
TimeAsks places outputs class.Default params = ToFirst (λ u. IsUnder (get places 0) u × IsUnder (get places 1) u) outputs
TimeAsks places outputs class.Merge params = ToFirst (λ u. AllByRecursion (λ t. IsBelow t u) places) outputs
TimeAsks places outputs class.NonStrictDelay params = (a : TimeActor) → start_as class.NonStrictDelay params ≡ Some a → IsTypedTime places outputs a
TimeAsks places outputs class.NonStrictLogicGate params = ToFirst (λ u. IsBelow Boolean u) outputs
TimeAsks places outputs class.NonStrictMux params = ToFirst (λ u. AllByRecursion (λ t. IsBelow t u) (drop 1 places)) outputs
TimeAsks places outputs class.Pre params = (a : TimeActor) → start_as class.Pre params ≡ Some a → IsTypedTime places outputs a
TimeAsks places outputs class.When params = ToFirst (λ u. IsUnder (get places 0) u) outputs

-- a Current keeps nothing at first
current-asked : (places outputs : List Datatype) (x : currents.Current) → record { kept = None; places = 1 } ≡ x → ToFirst (λ u. IsUnder (get places 0) u) outputs → IsTypedTime places outputs (Current x)
current-asked places [] x e h = h
current-asked places (u ∷ us) x e h = subst (λ y. IsTypedTime places (u ∷ us) (Current y)) e (h, tt)

-- an actor that is started has what its class asks
pub time-asked : (places outputs : List Datatype) (c : Class) (params : Params) (a : TimeActor) → start_as c params ≡ Some a → TimeAsks places outputs c params → IsTypedTime places outputs a
time-asked places outputs class.Absent params a e h = let w = mapped Absent (absent.start params) a e in subst (IsTypedTime places outputs) w.2 h
time-asked places outputs class.Current params a e h = let w = mapped Current (current.start params) a e in subst (IsTypedTime places outputs) w.2 (current-asked places outputs w.0 (same_Some _ w.0 w.1) h)
time-asked places outputs class.Default params a e h = let w = mapped Default (fallback.start params) a e in subst (IsTypedTime places outputs) w.2 h
time-asked places outputs class.Merge params a e h = let w = mapped Merge (merge.start params) a e in subst (IsTypedTime places outputs) w.2 h
time-asked places outputs class.NonStrictDelay params a e h = h a e
time-asked places outputs class.NonStrictLogicGate params a e h = let w = mapped NonStrictLogicGate (non_strict_logic_gate.start params) a e in subst (IsTypedTime places outputs) w.2 h
time-asked places outputs class.NonStrictMux params a e h = let w = mapped NonStrictMux (non_strict_mux.start params) a e in subst (IsTypedTime places outputs) w.2 h
time-asked places outputs class.Pre params a e h = h a e
time-asked places outputs class.When params a e h = let w = mapped When (when.start params) a e in subst (IsTypedTime places outputs) w.2 h

-- ---- which classes keep a parameter

abbrev pub is_plain : Class → Bool
is_plain class.Absent = true
is_plain class.Current = true
is_plain class.Default = true
is_plain class.Merge = true
is_plain class.NonStrictDelay = false
is_plain class.NonStrictLogicGate = true
is_plain class.NonStrictMux = true
is_plain class.Pre = false
is_plain class.When = true

pub plain-class : (c : Class) (params : Params) (a : TimeActor) → start_as c params ≡ Some a → is_plain_time a ≡ true → is_plain c ≡ true
plain-class class.Absent params a e p = refl
plain-class class.Current params a e p = refl
plain-class class.Default params a e p = refl
plain-class class.Merge params a e p = refl
plain-class class.NonStrictDelay params a e p = let w = mapped NonStrictDelay (non_strict_delay.start params) a e in let no : false ≡ true = ap is_plain_time w.2 ∙ p in absurd (cc)
plain-class class.NonStrictLogicGate params a e p = refl
plain-class class.NonStrictMux params a e p = refl
plain-class class.Pre params a e p = let w = mapped Pre (pre.start params) a e in let no : false ≡ true = ap is_plain_time w.2 ∙ p in absurd (cc)
plain-class class.When params a e p = refl

-- that of a seeded actor is one of two
pub seeded-class : (P : Class → Type 0) (c : Class) (params : Params) (a : TimeActor) → P class.NonStrictDelay → P class.Pre → start_as c params ≡ Some a → is_seeded_time a ≡ true → P c
seeded-class P class.Absent params a n p e s = let w = mapped Absent (absent.start params) a e in absurd (let no : false ≡ true = ap is_seeded_time w.2 ∙ s in cc)
seeded-class P class.Current params a n p e s = let w = mapped Current (current.start params) a e in absurd (let no : false ≡ true = ap is_seeded_time w.2 ∙ s in cc)
seeded-class P class.Default params a n p e s = let w = mapped Default (fallback.start params) a e in absurd (let no : false ≡ true = ap is_seeded_time w.2 ∙ s in cc)
seeded-class P class.Merge params a n p e s = let w = mapped Merge (merge.start params) a e in absurd (let no : false ≡ true = ap is_seeded_time w.2 ∙ s in cc)
seeded-class P class.NonStrictDelay params a n p e s = n
seeded-class P class.NonStrictLogicGate params a n p e s = let w = mapped NonStrictLogicGate (non_strict_logic_gate.start params) a e in absurd (let no : false ≡ true = ap is_seeded_time w.2 ∙ s in cc)
seeded-class P class.NonStrictMux params a n p e s = let w = mapped NonStrictMux (non_strict_mux.start params) a e in absurd (let no : false ≡ true = ap is_seeded_time w.2 ∙ s in cc)
seeded-class P class.Pre params a n p e s = p
seeded-class P class.When params a n p e s = let w = mapped When (when.start params) a e in absurd (let no : false ≡ true = ap is_seeded_time w.2 ∙ s in cc)
