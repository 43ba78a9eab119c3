-- An actor that its library tells to be strict is so, whatever it fires.
use Rattle.std.proofs.Common.{◌≡◌, ℕ, zero, suc, List, [], ◌∷◌, replicate, Bool, true, false, Some, None, refl, sym, ap, ◌∙◌}
use Rattle.pt_meaning.specs.Basics.{Tag, Streams}
use Rattle.pt_meaning.specs.Machine.{Partial, Unknown, partial_at}
use Rattle.pt_meaning.specs.Node.{Answer, Gives, Fails}
use Rattle.pt_meaning.specs.Valuation.{known}
use Rattle.pt_meaning.specs.Closed.{on_answer}
use Rattle.pt_value.specs.declared.token.Token.{Token}
use Rattle.pt_lib_data.specs.DataActor as data_actor
use Rattle.pt_lib_flow.specs.FlowActor as flow_actor
use Rattle.pt_lib_time.specs.declared.time_actor.TimeActor.{TimeActor}
use Rattle.pt_lib_time.specs.declared.time_actor.TimeActor.TheVariants.{Absent, Current, Default, Merge, NonStrictDelay, NonStrictLogicGate, NonStrictMux, Pre, When}
use Rattle.pt_lib_time.specs.Absent as absent
use Rattle.pt_lib_time.specs.Current as current
use Rattle.pt_lib_time.specs.Default as fallback
use Rattle.pt_lib_time.specs.Merge as merge
use Rattle.pt_lib_time.specs.NonStrictDelay as non_strict_delay
use Rattle.pt_lib_time.specs.NonStrictLogicGate as non_strict_logic_gate
use Rattle.pt_lib_time.specs.NonStrictMux as non_strict_mux
use Rattle.pt_lib_time.specs.Pre as pre
use Rattle.pt_lib_time.specs.When as when
use Rattle.pt_lib_time.specs.TimeActor as time_actor
use Rattle.pt_lib_time.proofs.Early.{strict-waits}
use Rattle.pt_lib_time.proofs.RowLaws as time_laws
use Rattle.pt_lib_timed.specs.TimedActor as timed_actor
use Rattle.pt_lib_timed.proofs.RowLaws as timed_laws
use Rattle.pt_lib_timed.proofs.Staying as timed_states
use Rattle.pt_library.specs.declared.library_actor.LibraryActor.{LibraryActor}
use Rattle.pt_library.specs.declared.library_actor.LibraryActor.TheVariants.{Flow, Data, Time, Timed}
use Rattle.pt_library.specs.LibraryActor as library
use Rattle.pt_library.specs.LibraryActor.{held_as}
use Rattle.pt_library.specs.Steady.{after, IsStrictActor}
use Rattle.pt_library.proofs.RowLaws.{held-gives}

-- ---- a strict actor waits

unknown-at : {T : Type 0} (n port : ℕ) → partial_at {T = T} (replicate n Unknown) port ≡ Unknown
unknown-at zero port = refl
unknown-at (suc n) zero = refl
unknown-at (suc n) (suc port) = unknown-at n port

waits : (tag : Tag) (a : LibraryActor) (vs : List (Partial Token)) → library.is_strict a ≡ true → known vs ≡ None → (port : ℕ) → partial_at (library.early tag a vs) port ≡ Unknown
waits tag (Flow a) vs e k port = ap (λ us. partial_at us port) (strict-waits (flow_actor.outputs a) flow_actor.step tag a vs k) ∙ unknown-at (flow_actor.outputs a) port
waits tag (Data a) vs e k port = ap (λ us. partial_at us port) (strict-waits (data_actor.outputs a) data_actor.step tag a vs k) ∙ unknown-at (data_actor.outputs a) port
waits tag (Time a) vs e k port = ap (λ us. partial_at us port) (time_laws.strict-wait tag a vs e k) ∙ unknown-at 1 port
waits tag (Timed a) vs e k port = ap (λ us. partial_at us port) (timed_laws.strict-wait tag a vs e k) ∙ unknown-at 1 port

-- ---- it stays so, since its class stays

held-strict : {S : Type 0} (wrap : S → TimeActor) (strict : Bool) → ((s : S) → time_actor.is_strict (wrap s) ≡ strict) → (r : Answer Token S) (b : TimeActor) (out : Streams Token) → time_actor.held_as wrap r ≡ Gives b out → time_actor.is_strict b ≡ strict
held-strict wrap strict all (Gives s given) b out e = let same : wrap s ≡ b = cc in sym (ap time_actor.is_strict same) ∙ all s
held-strict wrap strict all (Fails code) b out e = absurd (cc)

time-stays : (tag : Tag) (a b : TimeActor) (X out : Streams Token) → time_actor.step tag a X ≡ Gives b out → time_actor.is_strict b ≡ time_actor.is_strict a
time-stays tag (Absent a) b X out e = held-strict Absent true (λ s. refl) (absent.step tag a X) b out e
time-stays tag (Current a) b X out e = held-strict Current true (λ s. refl) (current.step tag a X) b out e
time-stays tag (Default a) b X out e = held-strict Default false (λ s. refl) (fallback.step tag a X) b out e
time-stays tag (Merge a) b X out e = held-strict Merge true (λ s. refl) (merge.step tag a X) b out e
time-stays tag (NonStrictDelay a) b X out e = held-strict NonStrictDelay false (λ s. refl) (non_strict_delay.step tag a X) b out e
time-stays tag (NonStrictLogicGate a) b X out e = held-strict NonStrictLogicGate false (λ s. refl) (non_strict_logic_gate.step tag a X) b out e
time-stays tag (NonStrictMux a) b X out e = held-strict NonStrictMux false (λ s. refl) (non_strict_mux.step tag a X) b out e
time-stays tag (Pre a) b X out e = held-strict Pre true (λ s. refl) (pre.step tag a X) b out e
time-stays tag (When a) b X out e = held-strict When true (λ s. refl) (when.step tag a X) b out e

once : (tag : Tag) (a b : LibraryActor) (X out : Streams Token) → library.step tag a X ≡ Gives b out → library.is_strict b ≡ library.is_strict a
once tag (Flow a) b X out h = sym (ap library.is_strict (held-gives Flow (flow_actor.step tag a X) b out h).1)
once tag (Data a) b X out h = sym (ap library.is_strict (held-gives Data (data_actor.step tag a X) b out h).1)
once tag (Time a) b X out h =
    let gave = held-gives Time (time_actor.step tag a X) b out h in
    sym (ap library.is_strict gave.1) ∙ time-stays tag a gave.0 X out gave.2
once tag (Timed a) b X out h =
    let gave = held-gives Timed (timed_actor.step tag a X) b out h in
    sym (ap library.is_strict gave.1) ∙ (timed_states.stay tag a gave.0 X out gave.2).strict

stays : (fs : List (Tag × Streams Token)) (a b : LibraryActor) → after fs a ≡ Some b → library.is_strict b ≡ library.is_strict a
stays [] a b h = let same : a ≡ b = cc in sym (ap library.is_strict same)
stays (f ∷ fs) a b h = by_answer (λ c. stays fs c b) (library.step f.0 a f.1) refl h
  where
    by_answer : ((c : LibraryActor) → after fs c ≡ Some b → library.is_strict b ≡ library.is_strict c) → (r : Answer Token LibraryActor) → library.step f.0 a f.1 ≡ r → on_answer (after fs) r ≡ Some b → library.is_strict b ≡ library.is_strict a
    by_answer again (Gives c out) g k = again c k ∙ once f.0 a c f.1 out g
    by_answer again (Fails code) g k = cc

pub told-strict : (a : LibraryActor) → library.is_strict a ≡ true → IsStrictActor a
told-strict a e fs b h tag vs k port = waits tag b vs (stays fs a b h ∙ e) k port
