-- What a firing gives and leaves: a signal on the one output, and the same need.
use Rattle.std.proofs.Common.{◌≡◌, [], ◌∷◌, Bool, true, false, Option, Some, None, ℕ, refl, sym, ap, ◌∙◌}
use Rattle.std.specs.Option.{option_or}
use Rattle.pt_meaning.specs.Basics.{Tag, Streams}
use Rattle.pt_meaning.specs.Machine.{Any}
use Rattle.pt_meaning.specs.Node.{Answer, Gives, Fails}
use Rattle.pt_value.specs.declared.token.Token.{Token}
use Rattle.pt_firing.specs.Row.{one_each, token_at, number_at, truth_at, on_present}
use Rattle.pt_lib_time.specs.declared.time_actor.TimeActor.{TimeActor}
use Rattle.pt_lib_time.specs.declared.time_actor.TimeActor.TheVariants.{Absent, Current, Default, Merge, NonStrictDelay, NonStrictLogicGate, NonStrictMux, Pre, When}
use Rattle.pt_lib_time.specs.declared.non_strict_mux.NonStrictMux as muxes
use Rattle.pt_lib_time.specs.declared.pre.Pre as pres
use Rattle.pt_lib_time.specs.Signal.{tokens_of, shows}
use Rattle.pt_lib_time.specs.Absent as absent
use Rattle.pt_lib_time.specs.Current as current
use Rattle.pt_lib_time.specs.Default as fallback
use Rattle.pt_lib_time.specs.Merge as merge
use Rattle.pt_lib_time.specs.NonStrictDelay as non_strict_delay
use Rattle.pt_lib_time.specs.NonStrictLogicGate as non_strict_logic_gate
use Rattle.pt_lib_time.specs.NonStrictMux as non_strict_mux
use Rattle.pt_lib_time.specs.Pre as pre
use Rattle.pt_lib_time.specs.When as when
use Rattle.pt_lib_time.specs.TimeActor.{held_as, need, places, is_steady, step}

-- an answer that gives a signal, and leaves so many places
abbrev Leaves : {A : Type 0} → (A → ℕ) → ℕ → Answer Token A → Type 0
Leaves count n (Gives after out) = ((signal : Option Token) × (out ≡ tokens_of signal ∷ [])) × (count after ≡ n)
Leaves count n (Fails code) = Unit {0}

shown : {A : Type 0} (count : A → ℕ) (n : ℕ) (after : A) (signal : Option Token) → count after ≡ n → Leaves count n (shows after signal)
shown count n after signal e = ((signal, refl), e)

present : {A T : Type 0} (count : A → ℕ) (n : ℕ) (actor : A) (f : T → Answer Token A) (o : Option T) → count actor ≡ n → ((x : T) → Leaves count n (f x)) → Leaves count n (on_present actor f o)
present count n actor f None e h = ((None, refl), e)
present count n actor f (Some x) e h = h x

abbrev mux_places : muxes.NonStrictMux → ℕ
mux_places actor = actor.places

abbrev pre_places : pres.Pre → ℕ
pre_places actor = actor.places

channel : (actor : muxes.NonStrictMux) (X : Streams Token) (o : Option ℕ) → Leaves mux_places actor.places (non_strict_mux.on_channel actor X o)
channel actor X (Some place) = shown mux_places actor.places actor (token_at X place) refl
channel actor X None = tt

held : {S : Type 0} (wrap : S → TimeActor) (n : ℕ) (r : Answer Token S) → Leaves (λ s. places (wrap s)) n r → Leaves places n (held_as wrap r)
held wrap n (Gives after out) h = h
held wrap n (Fails code) h = h

leaves : (tag : Tag) (a : TimeActor) (X : Streams Token) → Leaves places (places a) (step tag a X)
leaves tag (Absent actor) X = ((None, refl), refl)
leaves tag (Current actor) X = ((option_or (token_at X 0) actor.kept, refl), refl)
leaves tag (Default actor) X = ((option_or (token_at X 0) (token_at X 1), refl), refl)
leaves tag (Merge actor) X = ((merge.first_present X, refl), refl)
leaves tag (NonStrictDelay actor) X = ((actor.kept, refl), refl)
leaves tag (NonStrictLogicGate actor) X = ((non_strict_logic_gate.as_token (non_strict_logic_gate.result actor.gate X), refl), refl)
leaves tag (NonStrictMux actor) X = held NonStrictMux actor.places (non_strict_mux.step tag actor X) (present mux_places actor.places actor (λ number. non_strict_mux.on_channel actor X (non_strict_mux.place_of actor.places number)) (number_at X 0) refl (λ number. channel actor X (non_strict_mux.place_of actor.places number)))
leaves tag (Pre actor) X = held Pre actor.places (pre.step tag actor X) (present pre_places actor.places actor (pre.with_input actor) (token_at X 0) refl (λ token. ((actor.kept, refl), refl)))
leaves tag (When actor) X = ((when.where_true (truth_at X 1) (token_at X 0), refl), refl)

of-answer : (n : ℕ) (r : Answer Token TimeActor) (b : TimeActor) (out : Streams Token) → Leaves places n r → r ≡ Gives b out → ((signal : Option Token) × (out ≡ tokens_of signal ∷ [])) × (places b ≡ n)
of-answer n (Gives after given) b out h e =
    let same : after ≡ b = cc in
    let gave : given ≡ out = cc in
    ((h.0.0, sym gave ∙ h.0.1), sym (ap places same) ∙ h.1)
of-answer n (Fails code) b out h e = absurd (cc)

pub signals-given : (tag : Tag) (a b : TimeActor) (X out : Streams Token) → step tag a X ≡ Gives b out → (signal : Option Token) × (out ≡ tokens_of signal ∷ [])
signals-given tag a b X out e = (of-answer (places a) (step tag a X) b out (leaves tag a X) e).0

pub needs-one : (a : TimeActor) → is_steady a ≡ true → need a ≡ one_each (places a)
needs-one (Absent actor) e = refl
needs-one (Current actor) e = refl
needs-one (Default actor) e = refl
needs-one (Merge actor) e = absurd (cc)
needs-one (NonStrictDelay actor) e = refl
needs-one (NonStrictLogicGate actor) e = refl
needs-one (NonStrictMux actor) e = refl
needs-one (Pre actor) e = refl
needs-one (When actor) e = refl

-- one that isn't steady is a Merge
pub needs-any : (a : TimeActor) → is_steady a ≡ false → need a ≡ Any
needs-any (Absent actor) e = absurd (cc)
needs-any (Current actor) e = absurd (cc)
needs-any (Default actor) e = absurd (cc)
needs-any (Merge actor) e = refl
needs-any (NonStrictDelay actor) e = absurd (cc)
needs-any (NonStrictLogicGate actor) e = absurd (cc)
needs-any (NonStrictMux actor) e = absurd (cc)
needs-any (Pre actor) e = absurd (cc)
needs-any (When actor) e = absurd (cc)

-- a firing leaves an actor of the same class
of-class : {S : Type 0} (wrap : S → TimeActor) (flag : Bool) → ((s : S) → is_steady (wrap s) ≡ flag) → (r : Answer Token S) (b : TimeActor) (out : Streams Token) → held_as wrap r ≡ Gives b out → is_steady b ≡ flag
of-class wrap flag all (Gives after given) b out e = let same : wrap after ≡ b = cc in sym (ap is_steady same) ∙ all after
of-class wrap flag all (Fails code) b out e = absurd (cc)

pub class-stays : (tag : Tag) (a b : TimeActor) (X out : Streams Token) → step tag a X ≡ Gives b out → is_steady b ≡ is_steady a
class-stays tag (Absent actor) b X out e = of-class Absent true (λ s. refl) (absent.step tag actor X) b out e
class-stays tag (Current actor) b X out e = of-class Current true (λ s. refl) (current.step tag actor X) b out e
class-stays tag (Default actor) b X out e = of-class Default true (λ s. refl) (fallback.step tag actor X) b out e
class-stays tag (Merge actor) b X out e = of-class Merge false (λ s. refl) (merge.step tag actor X) b out e
class-stays tag (NonStrictDelay actor) b X out e = of-class NonStrictDelay true (λ s. refl) (non_strict_delay.step tag actor X) b out e
class-stays tag (NonStrictLogicGate actor) b X out e = of-class NonStrictLogicGate true (λ s. refl) (non_strict_logic_gate.step tag actor X) b out e
class-stays tag (NonStrictMux actor) b X out e = of-class NonStrictMux true (λ s. refl) (non_strict_mux.step tag actor X) b out e
class-stays tag (Pre actor) b X out e = of-class Pre true (λ s. refl) (pre.step tag actor X) b out e
class-stays tag (When actor) b X out e = of-class When true (λ s. refl) (when.step tag actor X) b out e

pub steady-stay : (tag : Tag) (a b : TimeActor) (X out : Streams Token) → is_steady a ≡ true → step tag a X ≡ Gives b out → (need b ≡ need a) × (is_steady b ≡ true)
steady-stay tag a b X out s e =
    let still : is_steady b ≡ true = class-stays tag a b X out e ∙ s in
    (needs-one b still ∙ ap one_each (of-answer (places a) (step tag a X) b out (leaves tag a X) e).1 ∙ sym (needs-one a s), still)
