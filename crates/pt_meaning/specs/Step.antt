-- The step of a node at fuel: a library actor reacts by its row, and a composite fires its children by its director.
use Rattle.std.specs.Prelude.{ℕ, zero, suc, List, [], ◌∷◌}
use Rattle.pt_meaning.specs.Tag.{Tag}
use Rattle.pt_meaning.specs.Streams.{Streams}
use Rattle.pt_meaning.specs.Log.{Meeting, silent, within_firing}
use Rattle.pt_meaning.specs.Machine.{Outcome, Done, Stuck, Stepping, Facts, recorded}
use Rattle.pt_meaning.specs.Net.{Inside}
use Rattle.pt_meaning.specs.Sdf.{sdf}
use Rattle.pt_meaning.specs.Pn.{pn}
use Rattle.pt_meaning.specs.Sr.{sr}
use Rattle.pt_meaning.specs.De.{de}
use Rattle.pt_meaning.specs.Modal.{modal}
use Rattle.pt_meaning.specs.Meetings.{Meets, below_child}
use Rattle.pt_meaning.specs.Rendezvous.{rv}
use Rattle.pt_meaning.specs.Children.{Child, numbered, child_facts, child_step, without_numbers}
use Rattle.pt_meaning.specs.Tree.{Answer, Gives, Fails, Rows, Core, Sdf, Pn, Sr, De, Rv, Modal, Past, Node, Actor, Composite, list_of, nodes_of, made_of, fired_at, height}
use Rattle.pt_meaning.specs.NodeFacts.{facts_of}

-- what a library actor answers, as an outcome of its node
abbrev pub actor_outcome : {T A : Type 0} → Tag → Past → A → Answer T A → Outcome T (Node T A)
actor_outcome tag h a (Gives b out) = Done (Actor (fired_at tag h) a b) out silent
actor_outcome tag h a (Fails code) = Stuck (record { path = []; firing = h.made; code = code } ∷ []) silent

-- the outcome of a director, as that of the composite: all that came within is told with the number of this firing
abbrev pub as_node : {T A H : Type 0} → Tag → Past → Core T → (H → Core T) → Outcome T (Inside H (Child (Node T A))) → Outcome T (Node T A)
as_node tag h c core r = as_composite tag h c core (without_numbers r)
  where
    as_composite : {T A H : Type 0} → Tag → Past → Core T → (H → Core T) → Outcome T (Inside H (Node T A)) → Outcome T (Node T A)
    as_composite tag h c core (Done x out l) = Done (Composite (fired_at tag h) c (core x.held) (nodes_of x.kids)) out (within_firing h.made l)
    as_composite tag h c core (Stuck faults l) = Stuck faults (within_firing h.made l)

-- the firing of a composite under the meetings ms, by the steps of its children
abbrev pub director : {T A : Type 0} → Facts T (Child (Node T A)) → Stepping T (Child (Node T A)) → ℕ → List Meeting → Tag → Past → Core T → Core T → List (Child (Node T A)) → Streams T → Outcome T (Node T A)
director facts step k ms tag h c (Sdf p X) kids inputs = as_node tag h c (Sdf p) (sdf facts step p k tag (record { held = X; kids = kids }) inputs)
director facts step k ms tag h c (Pn p X) kids inputs = as_node tag h c (Pn p) (pn facts step p k tag (record { held = X; kids = kids }) inputs)
director facts step k ms tag h c (Sr p) kids inputs = as_node tag h c (λ X. Sr p) (sr facts step p k h.made tag kids inputs)
director facts step k ms tag h c (De p) kids inputs = as_node tag h c (λ X. De p) (de facts step p k tag kids inputs)
director facts step k ms tag h c (Rv p X) kids inputs = as_node tag h c (Rv p) (rv facts step p k h.made ms tag X kids inputs)
director facts step k ms tag h c (Modal chart m) kids inputs = as_node tag h c (Modal chart) (modal chart facts step h.made tag m kids inputs)

-- One level, above the steps of what is below it: a library actor reacts, and a composite fires its children, each by its own step.
abbrev pub level : {T A : Type 0} → Rows T A → (ℕ → Stepping T (Node T A)) → ℕ → (ℕ → List Meeting) → Stepping T (Node T A)
level rows steps k ms tag (Actor h a b) inputs = actor_outcome tag h a (rows.react tag b inputs)
level rows steps k ms tag (Composite h c d kids) inputs = director (child_facts (facts_of rows)) (child_step steps) k (ms h.made) tag h c d (numbered 0 (list_of kids)) inputs

-- A firing at fuel k of a node of at most d levels, under the meetings m, without the node's own record. Each composite within has rounds up to the same k.
unfoldable pub step_at : {T A : Type 0} → Rows T A → ℕ → ℕ → Meets → Stepping T (Node T A)
step_at rows k zero m tag node inputs = Stuck [] silent
step_at rows k (suc d) m tag node inputs = level rows (λ i. step_at rows k d (below_child i m)) k (m []) tag node inputs

-- the step of a node at fuel k under the meetings m, with the node's own record where it is done
abbrev pub Step : {T A : Type 0} → ℕ → Rows T A → Meets → Node T A → Tag → Streams T → Outcome T (Node T A)
Step k rows m node tag inputs = recorded (made_of node) tag inputs (step_at rows k (height node) m tag node inputs)

-- no meetings, for a node without Rendezvous within
abbrev pub no_meetings : Meets
no_meetings p n = []
