-- Each actor of synchronous models gives a signal of the type of its output, where its inputs are of those of its places, and its state is such as its row asks again.
use Rattle.std.proofs.Common.{◌≡◌, ℕ, zero, suc, ◌+◌, List, [], ◌∷◌, drop, Bool, true, false, Option, Some, None, ℤ, pos, negsuc, refl, ap, subst, arith, ◌∙◌, nat_lt, if◌then◌else◌}
use Rattle.std.specs.Prelude.{IfSome}
use Rattle.std.specs.Option.{option_or}
use Rattle.std.specs.List.{AllByRecursion}
use Rattle.pt_meaning.specs.Basics.{Tag, Streams, at}
use Rattle.pt_meaning.specs.Streams.{get}
use Rattle.pt_meaning.specs.Machine.{Partial, Unknown, Known, partial_at}
use Rattle.pt_meaning.specs.Valuation.{is_known}
use Rattle.pt_meaning.specs.Node.{Answer, Gives, Fails}
use Rattle.pt_value.specs.declared.token.Token.{Token}
use Rattle.pt_value.specs.declared.token.Token.TheVariants as token
use Rattle.pt_datatypes.specs.Datatype.{Datatype, Boolean}
use Rattle.pt_datatypes.specs.Order.{IsBelow}
use Rattle.pt_firing.specs.Row.{first_in, token_at, number_of, number_at, truth_at, on_present}
use Rattle.pt_firing.specs.Strict.{strict}
use Rattle.pt_lib_time.specs.declared.time_actor.TimeActor.{TimeActor}
use Rattle.pt_lib_time.specs.declared.time_actor.TimeActor.TheVariants.{Absent, Current, Default, Merge, NonStrictDelay, NonStrictLogicGate, NonStrictMux, Pre, When}
use Rattle.pt_lib_time.specs.declared.non_strict_mux.NonStrictMux as muxes
use Rattle.pt_lib_time.specs.declared.pre.Pre as pres
use Rattle.pt_lib_time.specs.Signal.{tokens_of, shows, known_token, signal_known, decided_or}
use Rattle.pt_lib_time.specs.Absent as absent
use Rattle.pt_lib_time.specs.Current as current
use Rattle.pt_lib_time.specs.Default as fallback
use Rattle.pt_lib_time.specs.Merge as merge
use Rattle.pt_lib_time.specs.NonStrictLogicGate as non_strict_logic_gate
use Rattle.pt_lib_time.specs.NonStrictMux as non_strict_mux
use Rattle.pt_lib_time.specs.Pre as pre
use Rattle.pt_lib_time.specs.When as when
use Rattle.pt_lib_time.specs.TimeActor.{held_as, step, early}
use Rattle.pt_kinds.specs.Signature.{AreOf, AreKnownOf, AreAllKnownOf}
use Rattle.pt_typed.specs.TokenTypes.{IsTokenOf, IsUnder}
use Rattle.pt_typed.specs.TypedTime.{IsTypedTime}
use Rattle.pt_kinds.proofs.StreamLaws.{at-given}
use Rattle.pt_typed.proofs.EarlyLaws.{strict-tells, IsKnownOf, known-at, first-known, one-known}
use Rattle.pt_typed.proofs.TypeLaws.{token-of}

-- ---- signals of a type

abbrev pub IsSignalOf : Datatype → Option Token → Type 0
IsSignalOf u signal = IfSome signal (IsTokenOf u)

-- what comes to a place
pub arrived : (ps : List Datatype) (X : Streams Token) (n : ℕ) (u : Datatype) → AreOf IsTokenOf ps X → IsUnder (get ps n) u → IsSignalOf u (token_at X n)
arrived ps X n u a h = by_token (token_at X n) refl
  where
    by_token : (o : Option Token) → token_at X n ≡ o → IsSignalOf u o
    by_token None e = tt
    by_token (Some t) e = token-of (get ps n) (at X n) t u (at-given IsTokenOf ps X n a) h e

pub either : (u : Datatype) (o p : Option Token) → IsSignalOf u o → IsSignalOf u p → IsSignalOf u (option_or o p)
either u None p h k = k
either u (Some t) p h k = h

-- the first token that is there, where each place is below
first-arrived : (ps : List Datatype) (X : Streams Token) (u : Datatype) → AreOf IsTokenOf ps X → AllByRecursion (λ t. IsBelow t u) ps → IsSignalOf u (merge.first_present X)
unfolding merge.first_present
first-arrived ps [] u a h = tt
first-arrived [] (xs ∷ X) u a h = absurd a
first-arrived (p ∷ ps) (xs ∷ X) u a h = either u (first_in xs) (merge.first_present X) (arrived (p ∷ ps) (xs ∷ X) 0 u a h.0) (first-arrived ps X u a.1 h.1)

where-true : (u : Datatype) (c : Option Bool) (o : Option Token) → IsSignalOf u o → IsSignalOf u (when.where_true c o)
where-true u None o h = tt
where-true u (Some true) o h = h
where-true u (Some false) o h = tt

truth-of : (u : Datatype) (o : Option Bool) → IsBelow Boolean u → IsSignalOf u (non_strict_logic_gate.as_token o)
truth-of u None h = tt
truth-of u (Some b) h = h

-- the places behind the first one
under-each : (ps : List Datatype) (n : ℕ) (u : Datatype) → AllByRecursion (λ t. IsBelow t u) ps → IsUnder (get ps n) u
under-each [] n u a = tt
under-each (p ∷ ps) zero u a = a.0
under-each (p ∷ ps) (suc n) u a = under-each ps n u a.1

under-channel : (ps : List Datatype) (n : ℕ) (u : Datatype) → AllByRecursion (λ t. IsBelow t u) (drop 1 ps) → IsUnder (get ps (n + 1)) u
under-channel [] n u a = tt
under-channel (p ∷ ps) n u a = subst (λ m. IsUnder (get (p ∷ ps) m) u) (let z : suc n ≡ n + 1 = omega arith in z) (under-each ps n u a)

-- ---- what an answer gives, and the state that it leaves

abbrev pub Leaves : {A : Type 0} → List Datatype → (A → Type 0) → Answer Token A → Type 0
Leaves us P (Gives b out) = AreOf IsTokenOf us out × P b
Leaves us P (Fails code) = Unit {0}

shown : {A : Type 0} (u : Datatype) (us : List Datatype) (P : A → Type 0) (after : A) (signal : Option Token) → IsSignalOf u signal → P after → Leaves (u ∷ us) P (shows after signal)
shown u us P after None h p = ((tt, tt), p)
shown u us P after (Some t) h p = (((h, tt), tt), p)

held : {S : Type 0} (us : List Datatype) (wrap : S → TimeActor) (P : TimeActor → Type 0) (r : Answer Token S) → Leaves us (λ s. P (wrap s)) r → Leaves us P (held_as wrap r)
held us wrap P (Gives s out) h = h
held us wrap P (Fails code) h = h

present : {A T : Type 0} (u : Datatype) (us : List Datatype) (P : A → Type 0) (a : A) (f : T → Answer Token A) (o : Option T) → P a → ((x : T) → o ≡ Some x → Leaves (u ∷ us) P (f x)) → Leaves (u ∷ us) P (on_present a f o)
present u us P a f None p h = ((tt, tt), p)
present u us P a f (Some x) p h = h x refl

-- ---- a NonStrictMux

module _ (ps : List Datatype) (u : Datatype) (us : List Datatype) (actor : muxes.NonStrictMux) (X : Streams Token) (a : AreOf IsTokenOf ps X) (h : AllByRecursion (λ t. IsBelow t u) (drop 1 ps)) where
  abbrev Behind : muxes.NonStrictMux → Type 0
  Behind s = AllByRecursion (λ t. IsBelow t u) (drop 1 ps)

  channel-of : (number : ℤ) → Leaves (u ∷ us) Behind (non_strict_mux.on_channel actor X (non_strict_mux.place_of actor.places number))
  channel-of (negsuc n) = tt
  channel-of (pos n) = by_test (nat_lt (n + 1) actor.places)
    where
      by_test : (b : Bool) → Leaves (u ∷ us) Behind (non_strict_mux.on_channel actor X (if b then Some (n + 1) else None))
      by_test true = shown u us Behind actor (token_at X (n + 1)) (arrived ps X (n + 1) u a (under-channel ps n u h)) h
      by_test false = tt

-- ---- each class

leaves-of : (ps : List Datatype) (u : Datatype) (us : List Datatype) (tag : Tag) (a : TimeActor) (X : Streams Token) → IsTypedTime ps (u ∷ us) a → AreOf IsTokenOf ps X → Leaves (u ∷ us) (IsTypedTime ps (u ∷ us)) (step tag a X)
leaves-of ps u us tag (Absent a) X h i = ((tt, tt), tt)
leaves-of ps u us tag (Current a) X h i =
    let signal = option_or (token_at X 0) a.kept in
    let given = either u (token_at X 0) a.kept (arrived ps X 0 u i h.0) h.1 in
    shown u us (IsTypedTime ps (u ∷ us)) (Current (record a { kept = signal })) signal given (h.0, given)
leaves-of ps u us tag (Default a) X h i = shown u us (IsTypedTime ps (u ∷ us)) (Default a) (option_or (token_at X 0) (token_at X 1)) (either u (token_at X 0) (token_at X 1) (arrived ps X 0 u i h.0) (arrived ps X 1 u i h.1)) h
leaves-of ps u us tag (Merge a) X h i = shown u us (IsTypedTime ps (u ∷ us)) (Merge a) (merge.first_present X) (first-arrived ps X u i h) h
leaves-of ps u us tag (NonStrictDelay a) X h i = shown u us (IsTypedTime ps (u ∷ us)) (NonStrictDelay (record a { kept = token_at X 0 })) a.kept h.1 (h.0, arrived ps X 0 u i h.0)
leaves-of ps u us tag (NonStrictLogicGate a) X h i =
    let truth = non_strict_logic_gate.result a.gate X in
    shown u us (IsTypedTime ps (u ∷ us)) (NonStrictLogicGate a) (non_strict_logic_gate.as_token truth) (truth-of u truth h) h
leaves-of ps u us tag (NonStrictMux a) X h i =
    held (u ∷ us) NonStrictMux (IsTypedTime ps (u ∷ us)) (non_strict_mux.step tag a X)
    (present u us (Behind ps u us a X i h) a (λ number. non_strict_mux.on_channel a X (non_strict_mux.place_of a.places number)) (number_at X 0) h (λ number e. channel-of ps u us a X i h number))
leaves-of ps u us tag (Pre a) X h i =
    let Kept : pres.Pre → Type 0 = λ s. IsUnder (get ps 0) u × IsSignalOf u s.kept in
    held (u ∷ us) Pre (IsTypedTime ps (u ∷ us)) (pre.step tag a X)
    (present u us Kept a (pre.with_input a) (token_at X 0) h (λ t e. shown u us Kept (record a { kept = Some t }) a.kept h.1 (h.0, subst (IsSignalOf u) e (arrived ps X 0 u i h.0))))
leaves-of ps u us tag (When a) X h i = shown u us (IsTypedTime ps (u ∷ us)) (When a) (when.where_true (truth_at X 1) (token_at X 0)) (where-true u (truth_at X 1) (token_at X 0) (arrived ps X 0 u i h)) h

no-output : (ps : List Datatype) (a : TimeActor) → IsTypedTime ps [] a → ⊥
no-output ps (Absent a) h = h
no-output ps (Current a) h = h
no-output ps (Default a) h = h
no-output ps (Merge a) h = h
no-output ps (NonStrictDelay a) h = h
no-output ps (NonStrictLogicGate a) h = h
no-output ps (NonStrictMux a) h = h
no-output ps (Pre a) h = h
no-output ps (When a) h = h

pub time-keeps : (ps us : List Datatype) (a b : TimeActor) (tag : Tag) (X out : Streams Token) → IsTypedTime ps us a → AreOf IsTokenOf ps X → step tag a X ≡ Gives b out → AreOf IsTokenOf us out × IsTypedTime ps us b
time-keeps ps [] a b tag X out h i e = absurd (no-output ps a h)
time-keeps ps (u ∷ us) a b tag X out h i e = subst (λ r. Leaves (u ∷ us) (IsTypedTime ps (u ∷ us)) r) e (leaves-of ps u us tag a X h i)

-- ---- what is given early

tokens-known : (u : Datatype) (signal : Option Token) → IsSignalOf u signal → IsKnownOf u (Known (tokens_of signal))
tokens-known u None h = tt
tokens-known u (Some t) h = (h, tt)

signal-of : (u : Datatype) (v : Partial Token) → IsKnownOf u v → IsKnownOf u (signal_known v)
signal-of u Unknown k = tt
signal-of u (Known xs) k = tokens-known u (first_in xs) (first-known u (Known xs) k)

present-of : (u : Datatype) (o : Option Token) → IsSignalOf u o → IsKnownOf u (fallback.if_present o)
present-of u None h = tt
present-of u (Some t) h = (h, tt)

decided-of : (u : Datatype) (us : List Datatype) (v : Partial Token) (later : List (Partial Token)) → IsKnownOf u v → AreKnownOf IsTokenOf (u ∷ us) later → AreKnownOf IsTokenOf (u ∷ us) (decided_or v later)
decided-of u us Unknown later k l = l
decided-of u us (Known xs) later k l = (k, tt)

-- a class that is strict where it isn't decided
module _ {S : Type 0} (ps : List Datatype) (u : Datatype) (us : List Datatype) (tag : Tag) (wrap : S → TimeActor) (react : Tag → S → Streams Token → Answer Token S) (is : (s : S) (X : Streams Token) → step tag (wrap s) X ≡ held_as wrap (react tag s X)) where
  as-strict : (s : S) (vs : List (Partial Token)) → IsTypedTime ps (u ∷ us) (wrap s) → AreAllKnownOf IsTokenOf ps vs → AreKnownOf IsTokenOf (u ∷ us) (strict 1 react tag s vs)
  as-strict s vs h k = strict-tells ps (u ∷ us) 1 react tag s (λ X b out i e. (time-keeps ps (u ∷ us) (wrap s) (wrap b) tag X out h i.1 (is s X ∙ ap (λ r. held_as wrap r) e)).0) vs k

gate-decided : (u : Datatype) (b c : Bool) → IsBelow Boolean u → IsKnownOf u (if b then Known (token.Bool c ∷ []) else Unknown)
gate-decided u true c h = (h, tt)
gate-decided u false c h = tt

module _ (ps : List Datatype) (u : Datatype) (actor : muxes.NonStrictMux) (vs : List (Partial Token)) (k : AreKnownOf IsTokenOf ps vs) (h : AllByRecursion (λ t. IsBelow t u) (drop 1 ps)) where
  channel-known : (number : ℤ) → IsKnownOf u (non_strict_mux.of_channel vs (non_strict_mux.place_of actor.places number))
  channel-known (negsuc n) = tt
  channel-known (pos n) = by_test (nat_lt (n + 1) actor.places)
    where
      by_test : (b : Bool) → IsKnownOf u (non_strict_mux.of_channel vs (if b then Some (n + 1) else None))
      by_test true = signal-of u (partial_at vs (n + 1)) (known-at ps vs (n + 1) u k (under-channel ps n u h))
      by_test false = tt

  number-known : (o : Option ℤ) → IsKnownOf u (non_strict_mux.of_number actor.places vs o)
  number-known None = tt
  number-known (Some number) = channel-known number

  mux-decided : IsKnownOf u (non_strict_mux.decided actor vs)
  mux-decided = by_test (is_known (partial_at vs 0))
    where
      by_test : (b : Bool) → IsKnownOf u (if b then non_strict_mux.of_number actor.places vs (number_of (known_token vs 0)) else Unknown)
      by_test true = number-known (number_of (known_token vs 0))
      by_test false = tt

tells-of : (ps : List Datatype) (u : Datatype) (us : List Datatype) (tag : Tag) (a : TimeActor) (vs : List (Partial Token)) → IsTypedTime ps (u ∷ us) a → AreAllKnownOf IsTokenOf ps vs → AreKnownOf IsTokenOf (u ∷ us) (early tag a vs)
tells-of ps u us tag (Absent a) vs h k = as-strict ps u us tag Absent absent.step (λ s X. refl) a vs h k
tells-of ps u us tag (Current a) vs h k = as-strict ps u us tag Current current.step (λ s X. refl) a vs h k
tells-of ps u us tag (Default a) vs h k =
    decided-of u us (fallback.decided vs) (strict 1 fallback.step tag a vs) (present-of u (known_token vs 0) (first-known u (partial_at vs 0) (known-at ps vs 0 u k.1 h.0))) (as-strict ps u us tag Default fallback.step (λ s X. refl) a vs h k)
tells-of ps u us tag (Merge a) vs h k = as-strict ps u us tag Merge merge.step (λ s X. refl) a vs h k
tells-of ps u us tag (NonStrictDelay a) vs h k = one-known u us (Known (tokens_of a.kept)) (tokens-known u a.kept h.1)
tells-of ps u us tag (NonStrictLogicGate a) vs h k =
    decided-of u us (non_strict_logic_gate.decided a.gate vs) (strict 1 non_strict_logic_gate.step tag a vs) (gate-decided u (non_strict_logic_gate.is_decided a.gate vs) (non_strict_logic_gate.decider a.gate) h) (as-strict ps u us tag NonStrictLogicGate non_strict_logic_gate.step (λ s X. refl) a vs h k)
tells-of ps u us tag (NonStrictMux a) vs h k =
    decided-of u us (non_strict_mux.decided a vs) (strict 1 non_strict_mux.step tag a vs) (mux-decided ps u a vs k.1 h) (as-strict ps u us tag NonStrictMux non_strict_mux.step (λ s X. refl) a vs h k)
tells-of ps u us tag (Pre a) vs h k = as-strict ps u us tag Pre pre.step (λ s X. refl) a vs h k
tells-of ps u us tag (When a) vs h k = as-strict ps u us tag When when.step (λ s X. refl) a vs h k

pub time-tells : (ps us : List Datatype) (tag : Tag) (a : TimeActor) (vs : List (Partial Token)) → IsTypedTime ps us a → AreAllKnownOf IsTokenOf ps vs → AreKnownOf IsTokenOf us (early tag a vs)
time-tells ps [] tag a vs h k = absurd (no-output ps a h)
time-tells ps (u ∷ us) tag a vs h k = tells-of ps u us tag a vs h k
