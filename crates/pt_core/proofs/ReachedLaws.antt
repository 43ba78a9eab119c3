-- What a node becomes: a library actor one that its steps lead to, and a composite one of the same director, which needs what it needed.
use Rattle.std.proofs.Common.{◌≡◌, ◌⊎◌, inl, inr, ℕ, zero, suc, List, [], ◌∷◌, map, Option, Some, refl, sym, ap, subst, ◌∙◌}
use Rattle.pt_meaning.specs.Tag.{Tag}
use Rattle.pt_meaning.specs.Streams.{Streams, get}
use Rattle.pt_meaning.specs.Log.{Log}
use Rattle.pt_meaning.specs.Machine.{Outcome, Done, Stuck}
use Rattle.pt_meaning.specs.Meetings.{Meets}
use Rattle.pt_meaning.specs.Tree.{Answer, Gives, Fails, Rows, Core, Sdf, Pn, Sr, De, Rv, Modal, Past, Node, Nodes, Actor, Composite, nodes_of, fired_at, forgotten, reset_of, reset_all}
use Rattle.pt_meaning.specs.NodeFacts.{core_need, need_of}
use Rattle.pt_meaning.specs.Children.{nodes}
use Rattle.pt_meaning.specs.Step.{actor_outcome, step_at}
use Rattle.pt_meaning.specs.Closed.{on_answer}
use Rattle.pt_laws.proofs.FiringLaws.{done-within}
use Rattle.pt_core.specs.Reached.{Becomes, Stays, Fires, Resets, Always, AllAlways}

module _ {T A : Type 0} (rows : Rows T A) where
  -- the state of a library actor after some steps, where each of them is done
  abbrev pub after : List (Tag × Streams T) → A → Option A
  after [] a = Some a
  after (f ∷ fs) a = on_answer (after fs) (rows.react f.0 a f.1)

  -- a library actor, in a state that steps led to: from this state, or from its start
  pub record IsActor (a b : A) (z : Node T A) : Type 0 where
    pub past : Past
    pub state : A
    pub is : z ≡ Actor past a state
    pub steps : List (Tag × Streams T)
    pub led : (after steps b ≡ Some state) ⊎ (after steps a ≡ Some state)

  done-state : {S : Type 0} (s z : S) (x y : Streams T) (l m : Log T) → Done s x l ≡ Done z y m → s ≡ z
  done-state {S} s z x y l m e = ap state_of e
    where
      state_of : Outcome T S → S
      state_of (Done u o k) = u
      state_of (Stuck fs k) = s

  -- a step of a library actor that is done
  pub record Reacts (h : Past) (a b : A) (tag : Tag) (X : Streams T) (z : Node T A) : Type 0 where
    pub state : A
    pub out : Streams T
    pub gives : rows.react tag b X ≡ Gives state out
    pub is : z ≡ Actor (fired_at tag h) a state

  reacts-by : (h : Past) (a b : A) (tag : Tag) (X out : Streams T) (l : Log T) (z : Node T A) (r : Answer T A) → rows.react tag b X ≡ r → actor_outcome tag h a r ≡ Done z out l → Reacts h a b tag X z
  reacts-by h a b tag X out l z (Gives c given) e d = record { state = c; out = given; gives = e; is = sym (done-state _ z _ out _ l d) }
  reacts-by h a b tag X out l z (Fails code) e d = absurd (cc)

  reacts : (h : Past) (a b : A) (k d : ℕ) (m : Meets) (tag : Tag) (X out : Streams T) (l : Log T) (z : Node T A) → step_at rows k d m tag (Actor h a b) X ≡ Done z out l → Reacts h a b tag X z
  unfolding step_at
  reacts h a b k zero m tag X out l z e = absurd (cc)
  reacts h a b k (suc d) m tag X out l z e = reacts-by h a b tag X out l z (rows.react tag b X) refl e

  pub actor-becomes : (node z : Node T A) → Becomes rows node z → (h : Past) (a b : A) → node ≡ Actor h a b → IsActor a b z
  actor-becomes node z (Stays n) h a b e = record { past = h; state = b; is = e; steps = []; led = inl refl }
  actor-becomes node z (Fires n next later k d m tag X out l w t) h a b e =
      let r = reacts h a b k d m tag X out l next (subst (λ (v : Node T A). step_at rows k d m tag v X ≡ Done next out l) e w) in
      led-on tag X r.state r.out r.gives (actor-becomes next z t (fired_at tag h) a r.state r.is)
    where
      led-on : (tag : Tag) (X : Streams T) (c : A) (given : Streams T) → rows.react tag b X ≡ Gives c given → IsActor a c z → IsActor a b z
      led-on tag X c given g i = by i.led
        where
          by : (after i.steps c ≡ Some i.state) ⊎ (after i.steps a ≡ Some i.state) → IsActor a b z
          by (inl x) = record { past = i.past; state = i.state; is = i.is; steps = (tag, X) ∷ i.steps; led = inl (ap (λ r. on_answer (after i.steps) r) g ∙ x) }
          by (inr x) = record { past = i.past; state = i.state; is = i.is; steps = i.steps; led = inr x }
  actor-becomes node z (Resets n later t) h a b e = from_start (actor-becomes (reset_of node) z t (forgotten h) a a (ap (λ (v : Node T A). reset_of v) e))
    where
      from_start : IsActor a a z → IsActor a b z
      from_start i = by i.led
        where
          by : (after i.steps a ≡ Some i.state) ⊎ (after i.steps a ≡ Some i.state) → IsActor a b z
          by (inl x) = record { past = i.past; state = i.state; is = i.is; steps = i.steps; led = inr x }
          by (inr x) = record { past = i.past; state = i.state; is = i.is; steps = i.steps; led = inr x }

  -- a composite with this start, which needs what the director in this state needs
  pub record IsComposite (c d : Core T) (z : Node T A) : Type 0 where
    pub past : Past
    pub state : Core T
    pub kids : Nodes T A
    pub is : z ≡ Composite past c state kids
    pub need : core_need state ≡ core_need d

  fires-composite : (h : Past) (c d : Core T) (kids : Nodes T A) (k n : ℕ) (m : Meets) (tag : Tag) (X out : Streams T) (l : Log T) (z : Node T A) → step_at rows k n m tag (Composite h c d kids) X ≡ Done z out l → IsComposite c d z
  unfolding step_at
  fires-composite h c d kids k zero m tag X out l z e = absurd (cc)
  fires-composite h c (Sdf p Y) kids k (suc n) m tag X out l z e = let w = done-within tag h c (Sdf p) _ z out l e in record { past = fired_at tag h; state = Sdf p w.inside.held; kids = nodes_of (nodes w.inside.kids); is = w.state; need = refl }
  fires-composite h c (Pn p Y) kids k (suc n) m tag X out l z e = let w = done-within tag h c (Pn p) _ z out l e in record { past = fired_at tag h; state = Pn p w.inside.held; kids = nodes_of (nodes w.inside.kids); is = w.state; need = refl }
  fires-composite h c (Sr p) kids k (suc n) m tag X out l z e = let w = done-within tag h c (λ (Y : Streams T). Sr p) _ z out l e in record { past = fired_at tag h; state = Sr p; kids = nodes_of (nodes w.inside.kids); is = w.state; need = refl }
  fires-composite h c (De p) kids k (suc n) m tag X out l z e = let w = done-within tag h c (λ (Y : Streams T). De p) _ z out l e in record { past = fired_at tag h; state = De p; kids = nodes_of (nodes w.inside.kids); is = w.state; need = refl }
  fires-composite h c (Rv p Y) kids k (suc n) m tag X out l z e = let w = done-within tag h c (Rv p) _ z out l e in record { past = fired_at tag h; state = Rv p w.inside.held; kids = nodes_of (nodes w.inside.kids); is = w.state; need = refl }
  fires-composite h c (Modal chart o) kids k (suc n) m tag X out l z e = let w = done-within tag h c (Modal chart) _ z out l e in record { past = fired_at tag h; state = Modal chart w.inside.held; kids = nodes_of (nodes w.inside.kids); is = w.state; need = refl }

  pub composite-becomes : (node z : Node T A) → Becomes rows node z → (h : Past) (c d : Core T) (kids : Nodes T A) → node ≡ Composite h c d kids → core_need c ≡ core_need d → IsComposite c d z
  composite-becomes node z (Stays n) h c d kids e s = record { past = h; state = d; kids = kids; is = e; need = refl }
  composite-becomes node z (Fires n next later k j m tag X out l w t) h c d kids e s =
      let r = fires-composite h c d kids k j m tag X out l next (subst (λ (v : Node T A). step_at rows k j m tag v X ≡ Done next out l) e w) in
      let i = composite-becomes next z t r.past c r.state r.kids r.is (s ∙ sym r.need) in
      record { past = i.past; state = i.state; kids = i.kids; is = i.is; need = i.need ∙ r.need }
  composite-becomes node z (Resets n later t) h c d kids e s =
      let i = composite-becomes (reset_of node) z t (forgotten h) c c (reset_all kids) (ap (λ (v : Node T A). reset_of v) e) refl in
      record { past = i.past; state = i.state; kids = i.kids; is = i.is; need = i.need ∙ s }

  -- so a composite at its start needs the same whatever it fires
  pub composite-steady : (h : Past) (c d : Core T) (kids : Nodes T A) → core_need c ≡ core_need d → Always rows (λ node. need_of rows node ≡ need_of rows (Composite h c d kids)) (Composite h c d kids)
  composite-steady h c d kids s later t =
      let i = composite-becomes (Composite h c d kids) later t h c d kids refl s in
      ap (λ (v : Node T A). need_of rows v) i.is ∙ i.need

  -- where each of a list is brought back to its start, one is there as it was, brought back
  pub record IsReset (nodes : List (Node T A)) (i : ℕ) (z : Node T A) : Type 0 where
    pub was : Node T A
    pub there : get nodes i ≡ Some was
    pub is : z ≡ reset_of was

  pub got-reset : (nodes : List (Node T A)) (i : ℕ) (z : Node T A) → get (map reset_of nodes) i ≡ Some z → IsReset nodes i z
  got-reset [] i z e = absurd (cc)
  got-reset (n ∷ nodes) zero z e = record { was = n; there = refl; is = cc }
  got-reset (n ∷ nodes) (suc i) z e = let r = got-reset nodes i z e in record { was = r.was; there = r.there; is = r.is }

  -- what holds of each whatever it fires holds then too
  pub always-reset : (P : ℕ → Node T A → Type 0) (nodes : List (Node T A)) → AllAlways rows P nodes → AllAlways rows P (map reset_of nodes)
  always-reset P nodes all i z e =
      let r = got-reset nodes i z e in
      λ later t. all i r.was r.there later (Resets r.was later (subst (λ (v : Node T A). Becomes rows v later) r.is t))
