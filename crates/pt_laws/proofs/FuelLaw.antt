-- The fuel law through any nesting of all directors.
use Rattle.std.proofs.Common.{true, false, Some, ◌≡◌, ◌∙◌, ◌||◌, Bool, ℕ, zero, suc, ◌≤◌, ◌+◌, List, [], ◌∷◌, Option, refl, sym, ap, subst, arith}
use Rattle.pt_meaning.specs.Basics.{Tag, Streams, at, IsPrefix, Log, LogBelow, Event, Meeting, silent, marked_event, all_marked, within_firing}
use Rattle.pt_meaning.specs.Machine.{Fault, Outcome, Done, Stuck, Stepping, Facts, Partial, Known, partial_at}
use Rattle.pt_meaning.specs.Tick.{de_active, known, any_present, is_due}
use Rattle.pt_meaning.specs.Dataflow.{Inside}
use Rattle.pt_meaning.specs.Meetings.{Meets, below_child}
use Rattle.pt_meaning.specs.Children.{Child, numbered, child_facts, with_number, child_step}
use Rattle.pt_meaning.specs.Node.{Rows, Core, Sdf, Pn, Sr, De, Rv, Modal, Past, Answer, Gives, Fails, Node, Actor, Composite, list_of, facts_of, as_node, director, level, step_at, actor_outcome, Step, made_of, height, at_first}
use Rattle.pt_meaning.specs.Laws.{IsIn, Extends, Grows, PartialBelow, KnownBelow}
use Rattle.pt_meaning.specs.Lawful.{LawfulRows}
use Rattle.pt_laws.specs.Promises.{MoreFuel, StuckIsStuck}
use Rattle.pt_laws.proofs.RoundLaws.{extends-refl}
use Rattle.pt_laws.proofs.KahnLaws.{sdf-grows, pn-grows}
use Rattle.pt_laws.proofs.TickLaws.{EarlySteps, sr-extends, de-extends, recorded-extends}
use Rattle.pt_laws.proofs.ModalLaw.{modal-extends}
use Rattle.pt_laws.proofs.MeetingLaws.{rv-extends}

marked-prefix : {T : Type 0} (n : ℕ) (xs ys : List (Event T)) → IsPrefix xs ys → IsPrefix (all_marked n xs) (all_marked n ys)
marked-prefix n [] ys h = tt
marked-prefix n (x ∷ xs) [] h = absurd h
marked-prefix n (x ∷ xs) (y ∷ ys) h = (ap (λ e. marked_event n e) h.0, marked-prefix n xs ys h.1)

pub within-below : {T : Type 0} (n : ℕ) (l m : Log T) → LogBelow l m → LogBelow (within_firing n l) (within_firing n m)
within-below n l m h [] = h []
within-below n l m h (i ∷ p) = marked-prefix n (l (i ∷ p)) (m (i ∷ p)) (h (i ∷ p))

pub as_node-extends : {T A H : Type 0} (tag : Tag) (h : Past) (c : Core T) (core : H → Core T) (r r' : Outcome T (Inside H (Child (Node T A)))) → Extends r r' → Extends (as_node tag h c core r) (as_node tag h c core r')
as_node-extends tag h c core (Done x out l) r' e = rw e refl
as_node-extends tag h c core (Stuck fs l) (Stuck gs m) e = (e.0, within-below h.made l m e.1)
as_node-extends tag h c core (Stuck [] l) (Done x out m) e = within-below h.made l m e
as_node-extends tag h c core (Stuck (f ∷ fs) l) (Done x out m) e = absurd e

with_number-extends : {T S : Type 0} (i : ℕ) (r r' : Outcome T S) → Extends r r' → Extends (with_number i r) (with_number i r')
with_number-extends i (Done s out l) r' e = rw e refl
with_number-extends i (Stuck fs l) (Stuck gs m) e = e
with_number-extends i (Stuck [] l) (Done s out m) e = e
with_number-extends i (Stuck (f ∷ fs) l) (Done s out m) e = absurd e

pub child_step-grows : {T S : Type 0} (steps more : ℕ → Stepping T S) → ((i : ℕ) → Grows (steps i) (more i)) → Grows (child_step steps) (child_step more)
child_step-grows steps more h tag c X = with_number-extends c.number _ _ (h c.number tag c.node X)

with_number-done : {T S : Type 0} (i : ℕ) (r : Outcome T S) (s : Child S) (out : Streams T) (l : Log T) → with_number i r ≡ Done s out l → (z : S) × (r ≡ Done z out l)
with_number-done i (Done z o m) s out l e = (z, cc)
with_number-done i (Stuck fs m) s out l e = absurd (cc)

actor-gives : {T A : Type 0} (tag : Tag) (h : Past) (a : A) (r : Answer T A) (s : Node T A) (out : Streams T) (l : Log T) → actor_outcome tag h a r ≡ Done s out l → (b : A) × (r ≡ Gives b out)
actor-gives tag h a (Gives b o) s out l e = (b, cc)
actor-gives tag h a (Fails code) s out l e = absurd (cc)

-- steps that answer as the rows do at the actors
pub FollowsRows : {T A : Type 0} → Rows T A → (ℕ → Stepping T (Node T A)) → Type 0
FollowsRows {T} {A} rows steps = (i : ℕ) (tag : Tag) (h : Past) (a b : A) (X : Streams T) (s : Node T A) (out : Streams T) (l : Log T) → steps i tag (Actor h a b) X ≡ Done s out l → (d : A) × (rows.react tag b X ≡ Gives d out)

-- an actor that takes its lists whole has no first wake of its own
first-wake : (b : Bool) (last : Option ℕ) (wake : Option Tag) → b ≡ false → at_first b last wake ≡ wake
first-wake true last wake e = absurd (cc)
first-wake false last wake e = refl

pub keeps : {T A : Type 0} (rows : Rows T A) → LawfulRows rows → (steps : ℕ → Stepping T (Node T A)) → FollowsRows rows steps → EarlySteps (child_facts (facts_of rows)) (child_step steps)
unfolding FollowsRows
keeps {T} {A} rows law steps follows = record {
  grows = λ t c vs ws b p. grow t c.node vs ws b p;
  agrees = λ t c vs X s out l e d p. agree t c.number c.node vs X s out l e d p;
  rests = λ t c vs X w e f p. rest t c.number c.node vs X w e f p;
}
  where
    grow : (tag : Tag) (s : Node T A) (vs ws : List (Partial T)) → KnownBelow vs ws → (p : ℕ) → PartialBelow (partial_at ((facts_of rows).early tag s vs) p) (partial_at ((facts_of rows).early tag s ws) p)
    grow tag (Actor h a b) vs ws k p = law.grows tag b vs ws k p
    grow tag (Composite h c d kids) vs ws k p = tt

    agree : (tag : Tag) (i : ℕ) (s : Node T A) (vs : List (Partial T)) (X : Streams T) (z : Child (Node T A)) (out : Streams T) (l : Log T) → known vs ≡ Some X → with_number i (steps i tag s X) ≡ Done z out l → (p : ℕ) → PartialBelow (partial_at ((facts_of rows).early tag s vs) p) (Known (at out p))
    agree tag i (Actor h a b) vs X z out l e d p = let w = with_number-done i (steps i tag (Actor h a b) X) z out l d in let r = follows i tag h a b X w.0 out l w.1 in law.agrees tag b vs X r.0 out e r.1 p
    agree tag i (Composite h c d kids) vs X z out l e q p = tt

    rest : (tag : Tag) (i : ℕ) (s : Node T A) (vs : List (Partial T)) (X : Streams T) → (facts_of rows).whole s ≡ true → known vs ≡ Some X → de_active (facts_of rows) tag s X ≡ false → (p : ℕ) → PartialBelow (partial_at ((facts_of rows).early tag s vs) p) (Known [])
    rest tag i (Actor h a b) vs X w e f p = law.rests tag b vs X w e (ap (λ v. any_present X || is_due tag v) (sym (first-wake (rows.begins b) h.last (rows.next b) (law.waits b w))) ∙ f) p
    rest tag i (Composite h c d kids) vs X w e f p = tt

director-extends : {T A : Type 0} (facts : Facts T (Child (Node T A))) (step more : Stepping T (Child (Node T A))) → Grows step more → EarlySteps facts step → EarlySteps facts more → (k k' : ℕ) → k ≤ k' →
    (ms : List Meeting) (tag : Tag) (h : Past) (c d : Core T) (kids : List (Child (Node T A))) (inputs : Streams T) → Extends (director facts step k ms tag h c d kids inputs) (director facts more k' ms tag h c d kids inputs)
director-extends facts step more g b e k k' o ms tag h c (Sdf p X) kids inputs = as_node-extends tag h c (Sdf p) _ _ (sdf-grows facts step more g p k k' o tag _ inputs)
director-extends facts step more g b e k k' o ms tag h c (Pn p X) kids inputs = as_node-extends tag h c (Pn p) _ _ (pn-grows facts step more g p k k' o tag _ inputs)
director-extends facts step more g b e k k' o ms tag h c (Sr p) kids inputs = as_node-extends tag h c (λ X. Sr p) _ _ (sr-extends facts step more g b e p h.made tag kids inputs k k' o)
director-extends facts step more g b e k k' o ms tag h c (De p) kids inputs = as_node-extends tag h c (λ X. De p) _ _ (de-extends facts step more g b e p tag kids inputs k k' o)
director-extends facts step more g b e k k' o ms tag h c (Rv p X) kids inputs = as_node-extends tag h c (Rv p) _ _ (rv-extends facts step more g p k k' o h.made ms tag X kids inputs)
director-extends facts step more g b e k k' o ms tag h c (Modal chart m) kids inputs = as_node-extends tag h c (Modal chart) _ _ (modal-extends chart facts step more g h.made tag m kids inputs)

level-extends : {T A : Type 0} (rows : Rows T A) (steps more : ℕ → Stepping T (Node T A)) → ((i : ℕ) → Grows (steps i) (more i)) → EarlySteps (child_facts (facts_of rows)) (child_step steps) → EarlySteps (child_facts (facts_of rows)) (child_step more) →
    (k k' : ℕ) → k ≤ k' → (ms : ℕ → List Meeting) → Grows (level rows steps k ms) (level rows more k' ms)
level-extends rows steps more g b e k k' o ms tag (Actor h c d) inputs = extends-refl (actor_outcome tag h c (rows.react tag d inputs))
level-extends {T} {A} rows steps more g b e k k' o ms tag (Composite h c d kids) inputs =
    director-extends (child_facts (facts_of rows)) (child_step steps) (child_step more) (child_step-grows steps more g) b e k k' o (ms h.made) tag h c d (numbered 0 (list_of kids)) inputs

pub nothing-extends : {T S : Type 0} (r : Outcome T S) → Extends (Stuck [] silent) r
nothing-extends (Done s out l) = λ p. tt
nothing-extends (Stuck fs l) = (λ f x. absurd x, λ p. tt)

pub follows-rows : {T A : Type 0} (rows : Rows T A) (k d : ℕ) (m : ℕ → Meets) → FollowsRows rows (λ i. step_at rows k d (m i))
unfolding FollowsRows step_at
follows-rows rows k zero m i tag h a b X s out l e = absurd (cc)
follows-rows rows k (suc d) m i tag h a b X s out l e = actor-gives tag h a (rows.react tag b X) s out l e

-- more rounds and more levels
pub step_at-grows : {T A : Type 0} (rows : Rows T A) → LawfulRows rows → (k k' : ℕ) → k ≤ k' → (d d' : ℕ) → d ≤ d' → (m : Meets) → Grows (step_at rows k d m) (step_at rows k' d' m)
unfolding step_at
step_at-grows rows law k k' h zero d' e m tag node inputs = nothing-extends (step_at rows k' d' m tag node inputs)
step_at-grows rows law k k' h (suc d) zero e m tag node inputs = absurd (omega arith)
step_at-grows rows law k k' h (suc d) (suc d') e m tag node inputs =
    level-extends rows (λ i. step_at rows k d (below_child i m)) (λ i. step_at rows k' d' (below_child i m)) (λ i. step_at-grows rows law k k' h d d' (omega arith) (below_child i m))
    (keeps rows law _ (follows-rows rows k d (λ i. below_child i m))) (keeps rows law _ (follows-rows rows k' d' (λ i. below_child i m))) k k' h (m []) tag node inputs

pub more_fuel : {T A : Type 0} → MoreFuel T A
more_fuel rows law m k k' h node tag inputs = recorded-extends (made_of node) tag inputs _ _ (step_at-grows rows law k k' h (height node) (height node) (omega arith) m tag node inputs)

no-done : {T S : Type 0} (fs : List Fault) (f : Fault) (l m : Log T) (s : S) (out : Streams T) → IsIn f fs → Extends {T = T} {S = S} (Stuck fs l) (Done s out m) → ⊥
no-done [] f l m s out i e = i
no-done (g ∷ fs) f l m s out i e = e

pub stuck_is_stuck : {T A : Type 0} → StuckIsStuck T A
stuck_is_stuck rows law m k k' node next tag inputs out f fs l n stuck i done =
    let late : Step (k + k') rows m node tag inputs ≡ Done next out n =
    subst (λ r. Extends r (Step (k + k') rows m node tag inputs)) done (more_fuel rows law m k' (k + k') (omega arith) node tag inputs)
    in
    let first : Extends (Stuck fs l) (Step (k + k') rows m node tag inputs) =
    subst (λ r. Extends r (Step (k + k') rows m node tag inputs)) stuck (more_fuel rows law m k (k + k') (omega arith) node tag inputs)
    in
    no-done fs f l n next out i (subst (λ r. Extends (Stuck fs l) r) late first)
