-- A ramp without a limit and a scale need the same at each firing.
use Rattle.std.proofs.Common.{◌≡◌, ◌⊎◌, inl, inr, List, [], ◌∷◌, Bool, true, false, if◌then◌else◌, Option, Some, None, ◌*ℤ◌, ℤ, refl, sym, ap, ap₂, ◌∙◌}
use Rattle.pt_meaning.specs.Basics.{Tag, Streams}
use Rattle.pt_meaning.specs.Node.{Answer, Gives, Fails}
use Rattle.pt_meaning.specs.Tree as tree
use Rattle.pt_meaning.specs.NodeFacts.{need_of}
use Rattle.pt_meaning.specs.Closed.{on_answer}
use Rattle.pt_core.specs.Reached.{Always}
use Rattle.pt_core.proofs.ReachedLaws.{actor-becomes}
use Rattle.pt_core.proofs.ReachedLaws as reached
use Rattle.pt_value.specs.declared.token.Token.{Token}
use Rattle.pt_firing.specs.Row.{fits_i64, exactly, rests, on_present, number_at}
use Rattle.pt_flow_numbers.specs.declared.ramp.Ramp.{Ramp}
use Rattle.pt_flow_numbers.specs.declared.scale.Scale.{Scale}
use Rattle.pt_flow_base.specs.declared.limit.Limit.TheVariants.{Endless}
use Rattle.pt_lib_flow.specs.declared.flow_actor.FlowActor.TheVariants as flow
use Rattle.pt_lib_flow.specs.FlowActor as flow_actor
use Rattle.pt_flow_base.specs.Limit.{is_over, is_called, after_one, source_need}
use Rattle.pt_flow_numbers.specs.Ramp as ramp
use Rattle.pt_flow_numbers.specs.Scale as scale
use Rattle.pt_library.specs.declared.library_actor.LibraryActor.{LibraryActor}
use Rattle.pt_library.specs.declared.library_actor.LibraryActor.TheVariants.{Flow}
use Rattle.pt_library.specs.LibraryActor as library
use Rattle.pt_library.specs.LibraryActor.{rows}
use Rattle.pt_node.specs.View.{Tree}

-- the actor after some firings, where each of them is done
abbrev after : List (Tag × Streams Token) → LibraryActor → Option LibraryActor
after fs a = reached.after rows fs a

-- a library actor at its start needs the same, whatever it fires
abbrev IsSteady : LibraryActor → Type 0
IsSteady a = Always rows (λ (node : Tree). need_of rows node ≡ library.need a) (tree.actor a)

-- whatever led there
either-way : {P : Type 0} → P ⊎ P → P
either-way (inl p) = p
either-way (inr p) = p

steady-by : (a : LibraryActor) → ((fs : List (Tag × Streams Token)) (b : LibraryActor) → after fs a ≡ Some b → library.need b ≡ library.need a) → IsSteady a
steady-by a needs later t =
    let i = actor-becomes rows (tree.actor a) later t tree.unfired a a refl in
    ap (λ (v : Tree). need_of rows v) i.is ∙ needs i.steps i.state (either-way i.led)

some-same : {A : Type 0} (a b : A) → Some a ≡ Some b → a ≡ b
some-same a b e = cc

-- the state after an answer is such
abbrev AnswersIn : {S : Type 0} → (S → Type 0) → Answer Token S → Type 0
AnswersIn P (Gives s out) = P s
AnswersIn P (Fails code) = Unit {0}

in-if : {S : Type 0} (P : S → Type 0) (b : Bool) (x y : Answer Token S) → AnswersIn P x → AnswersIn P y → AnswersIn P (if b then x else y)
in-if P true x y g h = g
in-if P false x y g h = h

abbrev Plain : Ramp → Type 0
Plain r = (r.limit ≡ Endless) × (r.places ≡ 0)

ramp-step : (tag : Tag) (X : Streams Token) (r : Ramp) → Plain r → AnswersIn Plain (ramp.step tag r X)
ramp-step tag X r h =
    let fired : AnswersIn Plain (exactly (ramp.fired r) r.next) = in-if Plain (fits_i64 r.next) _ _ (ap (λ v. after_one v) h.0, h.1) tt in
    in-if Plain (is_over r.limit) (rests r) (if is_called X then exactly (ramp.fired r) r.next else rests r) h (in-if Plain (is_called X) (exactly (ramp.fired r) r.next) (rests r) fired h)

ramp-after : (fs : List (Tag × Streams Token)) (r : Ramp) → Plain r → (b : LibraryActor) → after fs (Flow (flow.Ramp r)) ≡ Some b → (s : Ramp) × (b ≡ Flow (flow.Ramp s)) × Plain s
ramp-after [] r h b e = (r, sym (some-same (Flow (flow.Ramp r)) b e), h)
ramp-after (f ∷ fs) r h b e = by_answer (ramp.step f.0 r f.1) (ramp-step f.0 f.1 r h) e (λ s g q. ramp-after fs s g b q)
  where
    by_answer : (x : Answer Token Ramp) → AnswersIn Plain x → on_answer (after fs) (library.held_as Flow (flow_actor.held_as flow.Ramp x)) ≡ Some b → ((s : Ramp) → Plain s → after fs (Flow (flow.Ramp s)) ≡ Some b → (s : Ramp) × (b ≡ Flow (flow.Ramp s)) × Plain s) → (s : Ramp) × (b ≡ Flow (flow.Ramp s)) × Plain s
    by_answer (Gives s out) g q ih = ih s g q
    by_answer (Fails code) g q ih = absurd (cc)

pub ramp-steady : (r : Ramp) → Plain r → IsSteady (Flow (flow.Ramp r))
ramp-steady r h = steady-by (Flow (flow.Ramp r)) (λ fs b e. let s = ramp-after fs r h b e in ap (λ a. library.need a) s.1 ∙ ap₂ (λ v n. source_need (is_over v) n) (s.2.0 ∙ sym h.0) (s.2.1 ∙ sym h.1))

abbrev Same : Scale → Scale → Type 0
Same r s = s ≡ r

scale-step : (r : Scale) (tag : Tag) (X : Streams Token) → AnswersIn (Same r) (scale.step tag r X)
scale-step r tag X = by_number (number_at X 0)
  where
    by_number : (o : Option ℤ) → AnswersIn (Same r) (on_present r (λ input. exactly r (input *ℤ r.factor)) o)
    by_number None = refl
    by_number (Some n) = in-if (Same r) (fits_i64 (n *ℤ r.factor)) _ _ refl tt

scale-after : (fs : List (Tag × Streams Token)) (r : Scale) (b : LibraryActor) → after fs (Flow (flow.Scale r)) ≡ Some b → b ≡ Flow (flow.Scale r)
scale-after [] r b e = sym (some-same (Flow (flow.Scale r)) b e)
scale-after (f ∷ fs) r b e = by_answer (scale.step f.0 r f.1) (scale-step r f.0 f.1) e (scale-after fs r b)
  where
    by_answer : (x : Answer Token Scale) → AnswersIn (Same r) x → on_answer (after fs) (library.held_as Flow (flow_actor.held_as flow.Scale x)) ≡ Some b → (after fs (Flow (flow.Scale r)) ≡ Some b → b ≡ Flow (flow.Scale r)) → b ≡ Flow (flow.Scale r)
    by_answer (Gives s out) g q ih = ih (ap (λ v. after fs (Flow (flow.Scale v))) (sym g) ∙ q)
    by_answer (Fails code) g q ih = absurd (cc)

pub scale-steady : (r : Scale) → IsSteady (Flow (flow.Scale r))
scale-steady r = steady-by (Flow (flow.Scale r)) (λ fs b e. ap (λ a. library.need a) (scale-after fs r b e))
