-- The rows of the library are lawful: early answers grow with what is known, and are what the step tells once all is known.
use Rattle.std.proofs.Common.{◌≡◌, ℕ, List, [], ◌∷◌, map, replicate, Bool, true, false, Option, Some, None, ℤ, refl, sym, ap, subst, ◌∙◌, if◌then◌else◌}
use Rattle.std.specs.Option.{option_or}
use Rattle.pt_meaning.specs.Basics.{Tag, Streams, at}
use Rattle.pt_meaning.specs.Machine.{Partial, Unknown, Known, partial_at}
use Rattle.pt_meaning.specs.Valuation.{known, is_known}
use Rattle.pt_meaning.specs.Node.{Answer, Gives, Fails}
use Rattle.pt_meaning.specs.Laws.{PartialBelow, KnownBelow}
use Rattle.pt_meaning.specs.Lawful.{LawfulRows}
use Rattle.pt_value.specs.declared.token.Token.{Token}
use Rattle.pt_value.specs.declared.token.Token.TheVariants as token
use Rattle.pt_firing.specs.Row.{first_in, token_at, number_of, number_at, on_present}
use Rattle.pt_firing.specs.Strict.{told_by}
use Rattle.pt_firing.specs.TriState.{tokens_known}
use Rattle.pt_firing.proofs.StrictLaws.{strict-grows}
use Rattle.pt_lib_time.specs.declared.time_actor.TimeActor.{TimeActor}
use Rattle.pt_lib_time.specs.declared.time_actor.TimeActor.TheVariants.{Absent, Current, Default, Merge, NonStrictDelay, NonStrictLogicGate, NonStrictMux, Pre, When}
use Rattle.pt_lib_time.specs.declared.fallback.Default as defaults
use Rattle.pt_lib_time.specs.declared.non_strict_logic_gate.Gate.{Gate}
use Rattle.pt_lib_time.specs.declared.non_strict_logic_gate.NonStrictLogicGate as gates
use Rattle.pt_lib_time.specs.declared.non_strict_mux.NonStrictMux as muxes
use Rattle.pt_lib_time.specs.Signal.{tokens_of, told, known_token, known_signal, signal_known}
use Rattle.pt_lib_time.specs.Absent as absent
use Rattle.pt_lib_time.specs.Current as current
use Rattle.pt_lib_time.specs.Default as fallback
use Rattle.pt_lib_time.specs.Merge as merge
use Rattle.pt_lib_time.specs.NonStrictLogicGate as non_strict_logic_gate
use Rattle.pt_lib_time.specs.NonStrictMux as non_strict_mux
use Rattle.pt_lib_time.specs.Pre as pre
use Rattle.pt_lib_time.specs.When as when
use Rattle.pt_lib_time.specs.TimeActor.{rows, held_as, is_strict, step, early}
use Rattle.pt_lib_time.proofs.Early.{below-same, told-known, below-at, known-token, token-stays, strict-waits, strict-tells, decided-grows, decided-tells}
use Rattle.pt_lib_time.proofs.Gates.{decided-stays, decided-result}

-- ---- what is decided grows

default-decided : (vs ws : List (Partial Token)) → KnownBelow vs ws → PartialBelow (fallback.decided vs) (fallback.decided ws)
default-decided vs ws b = by_token (known_token vs 0) refl
  where
    by_token : (o : Option Token) → known_token vs 0 ≡ o → PartialBelow (fallback.if_present o) (fallback.decided ws)
    by_token None e = tt
    by_token (Some t) e = ap (λ o. fallback.if_present o) (token-stays (partial_at vs 0) (partial_at ws 0) t (below-at vs ws 0 b) e)

gate-decided : (g : Gate) (vs ws : List (Partial Token)) → KnownBelow vs ws → PartialBelow (non_strict_logic_gate.decided g vs) (non_strict_logic_gate.decided g ws)
gate-decided g vs ws b = by_test (non_strict_logic_gate.is_decided g vs) refl
  where
    by_test : (d : Bool) → non_strict_logic_gate.is_decided g vs ≡ d → PartialBelow (if d then Known (token.Bool (non_strict_logic_gate.decider g) ∷ []) else Unknown) (non_strict_logic_gate.decided g ws)
    by_test true e = ap (λ d. if d then Known (token.Bool (non_strict_logic_gate.decider g) ∷ []) else Unknown) (decided-stays g vs ws b e)
    by_test false e = tt

signal-grows : (v w : Partial Token) → PartialBelow v w → PartialBelow (signal_known v) (signal_known w)
signal-grows Unknown w b = tt
signal-grows (Known xs) w b = ap (λ u. signal_known u) b

channel-grows : (vs ws : List (Partial Token)) (o : Option ℕ) → KnownBelow vs ws → PartialBelow (non_strict_mux.of_channel vs o) (non_strict_mux.of_channel ws o)
channel-grows vs ws None b = tt
channel-grows vs ws (Some place) b = signal-grows (partial_at vs place) (partial_at ws place) (below-at vs ws place b)

number-grows : (places : ℕ) (vs ws : List (Partial Token)) (o : Option ℤ) → KnownBelow vs ws → PartialBelow (non_strict_mux.of_number places vs o) (non_strict_mux.of_number places ws o)
number-grows places vs ws None b = refl
number-grows places vs ws (Some n) b = channel-grows vs ws (non_strict_mux.place_of places n) b

abbrev selected : ℕ → List (Partial Token) → Partial Token → Partial Token
selected places vs select = if is_known select then non_strict_mux.of_number places vs (number_of (first_in (tokens_known select))) else Unknown

mux-decided : (actor : muxes.NonStrictMux) (vs ws : List (Partial Token)) → KnownBelow vs ws → PartialBelow (non_strict_mux.decided actor vs) (non_strict_mux.decided actor ws)
mux-decided actor vs ws b = by_select (partial_at vs 0) (partial_at ws 0) (below-at vs ws 0 b)
  where
    by_select : (v w : Partial Token) → PartialBelow v w → PartialBelow (selected actor.places vs v) (selected actor.places ws w)
    by_select Unknown w d = tt
    by_select (Known xs) w d = subst (λ u. PartialBelow (non_strict_mux.of_number actor.places vs (number_of (first_in xs))) (selected actor.places ws u)) (sym d) (number-grows actor.places vs ws (number_of (first_in xs)) b)

grows : (tag : Tag) (a : TimeActor) (vs ws : List (Partial Token)) → KnownBelow vs ws → (p : ℕ) → PartialBelow (partial_at (rows.early tag a vs) p) (partial_at (rows.early tag a ws) p)
grows tag (Absent actor) vs ws b p = strict-grows 1 absent.step tag actor vs ws b p
grows tag (Current actor) vs ws b p = strict-grows 1 current.step tag actor vs ws b p
grows tag (Default actor) vs ws b p = decided-grows 1 fallback.step tag actor vs fallback.decided ws b (default-decided vs ws b) p
grows tag (Merge actor) vs ws b p = strict-grows 1 merge.step tag actor vs ws b p
grows tag (NonStrictDelay actor) vs ws b p = below-same (partial_at (told actor.kept) p)
grows tag (NonStrictLogicGate actor) vs ws b p = decided-grows 1 non_strict_logic_gate.step tag actor vs (non_strict_logic_gate.decided actor.gate) ws b (gate-decided actor.gate vs ws b) p
grows tag (NonStrictMux actor) vs ws b p = decided-grows 1 non_strict_mux.step tag actor vs (non_strict_mux.decided actor) ws b (mux-decided actor vs ws b) p
grows tag (Pre actor) vs ws b p = strict-grows 1 pre.step tag actor vs ws b p
grows tag (When actor) vs ws b p = strict-grows 1 when.step tag actor vs ws b p

-- ---- what is decided is what the step tells

default-right : (tag : Tag) (actor : defaults.Default) (vs : List (Partial Token)) (X : Streams Token) (xs : List Token) → known vs ≡ Some X → fallback.decided vs ≡ Known xs → told_by 1 (fallback.step tag actor X) ≡ Known xs ∷ []
default-right tag actor vs X xs k e = by_token (token_at X 0) (ap (λ o. fallback.if_present o) (sym (known-token vs X 0 k)) ∙ e)
  where
    by_token : (o : Option Token) → fallback.if_present o ≡ Known xs → Known (tokens_of (option_or o (token_at X 1))) ∷ [] ≡ Known xs ∷ []
    by_token None h = cc
    by_token (Some t) h = ap (λ v. v ∷ []) h

gate-right : (tag : Tag) (actor : gates.NonStrictLogicGate) (vs : List (Partial Token)) (X : Streams Token) (xs : List Token) → known vs ≡ Some X → non_strict_logic_gate.decided actor.gate vs ≡ Known xs → told_by 1 (non_strict_logic_gate.step tag actor X) ≡ Known xs ∷ []
gate-right tag actor vs X xs k e = by_test (non_strict_logic_gate.is_decided actor.gate vs) refl e
  where
    by_test : (d : Bool) → non_strict_logic_gate.is_decided actor.gate vs ≡ d → (if d then Known (token.Bool (non_strict_logic_gate.decider actor.gate) ∷ []) else Unknown) ≡ Known xs → told_by 1 (non_strict_logic_gate.step tag actor X) ≡ Known xs ∷ []
    by_test true is h = ap (λ o. Known (tokens_of (non_strict_logic_gate.as_token o)) ∷ []) (decided-result actor.gate vs X k is) ∙ ap (λ v. v ∷ []) h
    by_test false is h = cc

known-signal : (vs : List (Partial Token)) (X : Streams Token) (n : ℕ) (xs : List Token) → known vs ≡ Some X → known_signal vs n ≡ Known xs → tokens_of (token_at X n) ≡ xs
known-signal vs X n xs k e = ap (λ o. tokens_of o) (sym (known-token vs X n k)) ∙ by_place (partial_at vs n) e
  where
    by_place : (v : Partial Token) → signal_known v ≡ Known xs → tokens_of (first_in (tokens_known v)) ≡ xs
    by_place Unknown h = cc
    by_place (Known ys) h = cc

channel-right : (actor : muxes.NonStrictMux) (vs : List (Partial Token)) (X : Streams Token) (xs : List Token) (o : Option ℕ) → known vs ≡ Some X → non_strict_mux.of_channel vs o ≡ Known xs → told_by 1 (non_strict_mux.on_channel actor X o) ≡ Known xs ∷ []
channel-right actor vs X xs None k e = cc
channel-right actor vs X xs (Some place) k e = ap (λ ts. Known ts ∷ []) (known-signal vs X place xs k e)

number-right : (actor : muxes.NonStrictMux) (vs : List (Partial Token)) (X : Streams Token) (xs : List Token) (o : Option ℤ) → known vs ≡ Some X → non_strict_mux.of_number actor.places vs o ≡ Known xs →
    told_by 1 (on_present actor (λ number. non_strict_mux.on_channel actor X (non_strict_mux.place_of actor.places number)) o) ≡ Known xs ∷ []
number-right actor vs X xs None k e = ap (λ v. v ∷ []) e
number-right actor vs X xs (Some n) k e = channel-right actor vs X xs (non_strict_mux.place_of actor.places n) k e

mux-right : (tag : Tag) (actor : muxes.NonStrictMux) (vs : List (Partial Token)) (X : Streams Token) (xs : List Token) → known vs ≡ Some X → non_strict_mux.decided actor vs ≡ Known xs → told_by 1 (non_strict_mux.step tag actor X) ≡ Known xs ∷ []
mux-right tag actor vs X xs k e = by_test (is_known (partial_at vs 0)) e
  where
    by_test : (b : Bool) → (if b then non_strict_mux.of_number actor.places vs (number_of (known_token vs 0)) else Unknown) ≡ Known xs → told_by 1 (non_strict_mux.step tag actor X) ≡ Known xs ∷ []
    by_test true h = number-right actor vs X xs (number_at X 0) k (ap (λ o. non_strict_mux.of_number actor.places vs (number_of o)) (sym (known-token vs X 0 k)) ∙ h)
    by_test false h = cc

-- an actor that is held as a variant tells the same
told-held : {S A : Type 0} (held : S → A) (r : Answer Token S) → told_by 1 r ≡ told_by 1 (held_as held r)
told-held held (Gives after out) = refl
told-held held (Fails code) = refl

pub known-tell : (tag : Tag) (a : TimeActor) (vs : List (Partial Token)) (X : Streams Token) → known vs ≡ Some X → early tag a vs ≡ told_by 1 (step tag a X)
known-tell tag (Absent actor) vs X k = strict-tells 1 absent.step tag actor vs X k ∙ told-held Absent (absent.step tag actor X)
known-tell tag (Current actor) vs X k = strict-tells 1 current.step tag actor vs X k ∙ told-held Current (current.step tag actor X)
known-tell tag (Default actor) vs X k = decided-tells 1 fallback.step tag actor vs X (fallback.decided vs) k (λ xs e. default-right tag actor vs X xs k e) ∙ told-held Default (fallback.step tag actor X)
known-tell tag (Merge actor) vs X k = strict-tells 1 merge.step tag actor vs X k ∙ told-held Merge (merge.step tag actor X)
known-tell tag (NonStrictDelay actor) vs X k = refl
known-tell tag (NonStrictLogicGate actor) vs X k = decided-tells 1 non_strict_logic_gate.step tag actor vs X (non_strict_logic_gate.decided actor.gate vs) k (λ xs e. gate-right tag actor vs X xs k e) ∙ told-held NonStrictLogicGate (non_strict_logic_gate.step tag actor X)
known-tell tag (NonStrictMux actor) vs X k = decided-tells 1 non_strict_mux.step tag actor vs X (non_strict_mux.decided actor vs) k (λ xs e. mux-right tag actor vs X xs k e) ∙ told-held NonStrictMux (non_strict_mux.step tag actor X)
known-tell tag (Pre actor) vs X k = strict-tells 1 pre.step tag actor vs X k ∙ told-held Pre (pre.step tag actor X)
known-tell tag (When actor) vs X k = strict-tells 1 when.step tag actor vs X k ∙ told-held When (when.step tag actor X)

agrees : (tag : Tag) (a : TimeActor) (vs : List (Partial Token)) (X : Streams Token) (b : TimeActor) (out : Streams Token) → known vs ≡ Some X → rows.react tag a X ≡ Gives b out → (p : ℕ) → PartialBelow (partial_at (rows.early tag a vs) p) (Known (at out p))
agrees tag a vs X b out k e p =
    let tells : early tag a vs ≡ map Known out = known-tell tag a vs X k ∙ ap (told_by 1) e in
    subst (λ us. PartialBelow (partial_at us p) (Known (at out p))) (sym tells) (told-known out p)

pub rows_lawful : LawfulRows rows
rows_lawful = record {
  grows = grows;
  agrees = agrees;
  rests = λ tag a vs X w k n p. absurd (cc);
  waits = λ a w. absurd (cc);
}

pub strict-wait : (tag : Tag) (a : TimeActor) (vs : List (Partial Token)) → is_strict a ≡ true → known vs ≡ None → early tag a vs ≡ replicate 1 Unknown
strict-wait tag (Absent actor) vs s k = strict-waits 1 absent.step tag actor vs k
strict-wait tag (Current actor) vs s k = strict-waits 1 current.step tag actor vs k
strict-wait tag (Default actor) vs s k = cc
strict-wait tag (Merge actor) vs s k = strict-waits 1 merge.step tag actor vs k
strict-wait tag (NonStrictDelay actor) vs s k = cc
strict-wait tag (NonStrictLogicGate actor) vs s k = cc
strict-wait tag (NonStrictMux actor) vs s k = cc
strict-wait tag (Pre actor) vs s k = strict-waits 1 pre.step tag actor vs k
strict-wait tag (When actor) vs s k = strict-waits 1 when.step tag actor vs k
