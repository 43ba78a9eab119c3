-- The actors of all libraries.
use Rattle.std.proofs.Common.{◌≡◌, ℕ, List, [], ◌∷◌, Option, Some, refl, sym, ap, subst, ◌∙◌}
use Rattle.std.specs.List.{AllByRecursion}
use Rattle.pt_meaning.specs.Basics.{Tag, Streams}
use Rattle.pt_meaning.specs.Streams.{get}
use Rattle.pt_meaning.specs.Machine.{Partial}
use Rattle.pt_meaning.specs.Closed.{on_answer}
use Rattle.pt_meaning.specs.Node.{Answer, Gives, Fails}
use Rattle.pt_value.specs.declared.token.Token.{Token}
use Rattle.pt_datatypes.specs.Datatype.{Datatype}
use Rattle.pt_lib_flow.specs.FlowActor as flow_actor
use Rattle.pt_lib_data.specs.DataActor as data_actor
use Rattle.pt_lib_time.specs.TimeActor as time_actor
use Rattle.pt_lib_timed.specs.TimedActor as timed_actor
use Rattle.pt_library.specs.declared.library_actor.LibraryActor.{LibraryActor}
use Rattle.pt_library.specs.declared.library_actor.LibraryActor.TheVariants.{Flow, Data, Time, Timed}
use Rattle.pt_library.specs.LibraryActor.{step, early, held_as, first}
use Rattle.pt_library.specs.Steady.{after}
use Rattle.pt_kinds.specs.Signature.{AreOf, AreAllOf, AreKnownOf, AreAllKnownOf}
use Rattle.pt_typed.specs.TokenTypes.{IsTokenOf}
use Rattle.pt_typed.specs.TypedActor.{Types, MeetsRow, AreTypedFirings, IsTypedActor}
use Rattle.pt_typed.proofs.EarlyLaws.{strict-tells}
use Rattle.pt_typed.proofs.FlowActorLaws as flows
use Rattle.pt_typed.proofs.DataLaws as functions
use Rattle.pt_typed.proofs.TimeActorLaws as signals
use Rattle.pt_typed.proofs.TimedActorLaws as instants

was-held : {S : Type 0} (wrap : S → LibraryActor) (r : Answer Token S) (c : LibraryActor) (out : Streams Token) → held_as wrap r ≡ Gives c out → (b : S) × (r ≡ Gives b out) × (c ≡ wrap b)
was-held wrap (Gives b o) c out e =
    let same : wrap b ≡ c = cc in
    let given : o ≡ out = cc in
    (b, ap (λ v. Gives b v) given, sym same)
was-held wrap (Fails code) c out e = absurd (cc)

-- an actor that meets its row keeps to its types, and meets it again
pub row-keeps : (s : Types) (a b : LibraryActor) (tag : Tag) (X out : Streams Token) → MeetsRow s a → AreAllOf IsTokenOf s.places X → step tag a X ≡ Gives b out → AreOf IsTokenOf s.outputs out × MeetsRow s b
row-keeps s (Flow a) b tag X out h i e =
    let w = was-held Flow (flow_actor.step tag a X) b out e in
    let k = flows.flow-keeps s.places s.outputs a w.0 tag X out h i.1 w.1 in
    (k.0, subst (λ c. MeetsRow s c) (sym w.2) k.1)
row-keeps s (Data a) b tag X out h i e =
    let w = was-held Data (data_actor.step tag a X) b out e in
    let k = functions.data-keeps s.places s.outputs a w.0 tag X out h i w.1 in
    (k.0, subst (λ c. MeetsRow s c) (sym w.2) k.1)
row-keeps s (Time a) b tag X out h i e =
    let w = was-held Time (time_actor.step tag a X) b out e in
    let k = signals.time-keeps s.places s.outputs a w.0 tag X out h i.1 w.1 in
    (k.0, subst (λ c. MeetsRow s c) (sym w.2) k.1)
row-keeps s (Timed a) b tag X out h i e =
    let w = was-held Timed (timed_actor.step tag a X) b out e in
    let k = instants.timed-keeps s.places s.outputs a w.0 tag X out h i.1 w.1 in
    (k.0, subst (λ c. MeetsRow s c) (sym w.2) k.1)

-- its first tokens are of the type of each of its outputs
pub first-tokens : (s : Types) (a : LibraryActor) (n : ℕ) (u : Datatype) → MeetsRow s a → get s.outputs n ≡ Some u → AllByRecursion (IsTokenOf u) (first a)
first-tokens s (Flow a) n u h e = flows.first-of s.places s.outputs a n u h e
first-tokens s (Data a) n u h e = tt
first-tokens s (Time a) n u h e = tt
first-tokens s (Timed a) n u h e = tt

on-answer-meets : (s : Types) (more : LibraryActor → Option LibraryActor) (r : Answer Token LibraryActor) (b : LibraryActor) → ((c : LibraryActor) (out : Streams Token) → r ≡ Gives c out → more c ≡ Some b → MeetsRow s b) → on_answer more r ≡ Some b → MeetsRow s b
on-answer-meets s more (Gives c out) b h e = h c out refl e
on-answer-meets s more (Fails code) b h e = absurd (cc)

after-meets : (s : Types) (fs : List (Tag × Streams Token)) (a b : LibraryActor) → MeetsRow s a → AreTypedFirings s fs → after fs a ≡ Some b → MeetsRow s b
after-meets s [] a b h t e = let same : a ≡ b = cc in subst (λ c. MeetsRow s c) same h
after-meets s (f ∷ fs) a b h t e = on-answer-meets s (after fs) (step f.0 a f.1) b (λ c out d k. after-meets s fs c b (row-keeps s a c f.0 f.1 out h t.0 d).1 t.1 k) e

-- what it gives early is of the types of its outputs
row-tells : (s : Types) (a : LibraryActor) (tag : Tag) (vs : List (Partial Token)) → MeetsRow s a → AreAllKnownOf IsTokenOf s.places vs → AreKnownOf IsTokenOf s.outputs (early tag a vs)
row-tells s (Flow a) tag vs h k = strict-tells s.places s.outputs (flow_actor.outputs a) flow_actor.step tag a (λ X b out i e. (flows.flow-keeps s.places s.outputs a b tag X out h i.1 e).0) vs k
row-tells s (Data a) tag vs h k = strict-tells s.places s.outputs (data_actor.outputs a) data_actor.step tag a (λ X b out i e. (functions.data-keeps s.places s.outputs a b tag X out h i e).0) vs k
row-tells s (Time a) tag vs h k = signals.time-tells s.places s.outputs tag a vs h k
row-tells s (Timed a) tag vs h k = instants.timed-tells s.places s.outputs tag a vs h k

-- what meets its row is a typed actor
pub rows-type : (s : Types) (a : LibraryActor) → MeetsRow s a → IsTypedActor s a
rows-type s a h = record {
  gives = λ fs t b c e tag X out i g. (row-keeps s b c tag X out (after-meets s fs a b h t e) i g).0;
  tells = λ fs t b e tag vs k. row-tells s b tag vs (after-meets s fs a b h t e) k;
}

-- a typed actor stays one
pub typed-stays : (s : Types) (a b : LibraryActor) (tag : Tag) (X out : Streams Token) → IsTypedActor s a → AreAllOf IsTokenOf s.places X → step tag a X ≡ Gives b out → AreOf IsTokenOf s.outputs out × IsTypedActor s b
typed-stays s a b tag X out h i e = (
  h.gives [] tt a b refl tag X out i e,
  record {
    gives = λ fs t c d f. h.gives ((tag, X) ∷ fs) (i, t) c d (ap (on_answer (after fs)) e ∙ f);
    tells = λ fs t c f. h.tells ((tag, X) ∷ fs) (i, t) c (ap (on_answer (after fs)) e ∙ f);
  },
)

pub typed-tells : (s : Types) (a : LibraryActor) (tag : Tag) (vs : List (Partial Token)) → IsTypedActor s a → AreAllKnownOf IsTokenOf s.places vs → AreKnownOf IsTokenOf s.outputs (early tag a vs)
typed-tells s a tag vs h k = h.tells [] tt a refl tag vs k
