-- A node begins again with the same wake, and a composite takes its lists whole where it did.
use Rattle.std.proofs.Common.{◌≡◌, ℕ, zero, suc, List, [], ◌∷◌, length, Option, None, refl, sym, ap, ap₂, subst, ◌∙◌, arith}
use Rattle.pt_meaning.specs.Basics.{Tag, Streams, Log, Meeting}
use Rattle.pt_meaning.specs.Machine.{Outcome, Done, Stuck, Stepping, Facts}
use Rattle.pt_meaning.specs.Net.{Inside}
use Rattle.pt_meaning.specs.Meetings.{Meets, below_child}
use Rattle.pt_meaning.specs.Children.{Child, numbered, nodes, child_facts, child_step}
use Rattle.pt_meaning.specs.Tree.{Rows, Answer, Gives, Fails, Core, Sdf, Pn, Sr, De, Rv, Modal, Past, Node, Nodes, Actor, Composite, none, more, list_of, nodes_of, fired_at, forgotten, reset_of, reset_all}
use Rattle.pt_meaning.specs.NodeFacts.{facts_of, core_begins, core_wake, core_whole, at_first, next_of, wakes_of, whole_of}
use Rattle.pt_meaning.specs.Start.{IsAtStart, AllAtStart}
use Rattle.pt_meaning.specs.Step.{as_node, director, step_at, actor_outcome}
use Rattle.pt_laws.specs.Heights.{HasEntries, IsFitting, AllFitting, KeepsHeight}
use Rattle.pt_laws.proofs.AlikeLaws.{Alike, AllFrom, KidsFrom, kahn-from, tick-from, sr-alike, de-alike, modal-from, under-from, seated-from}
use Rattle.pt_laws.proofs.FiringLaws.{done-within}
use Rattle.pt_laws.proofs.HeightLaws.{firing-keeps, numbered-length, reset-keeps, with-number-done}
use Rattle.pt_core.specs.Reached.{Becomes, Stays, Fires, Resets}

-- ---- one after another

keeps-refl : {T A : Type 0} (a : Node T A) → KeepsHeight a a
keeps-refl a = (omega arith, λ f. (f, refl))

keeps-trans : {T A : Type 0} (a b c : Node T A) → KeepsHeight a b → KeepsHeight b c → KeepsHeight a c
keeps-trans a b c p q = (omega (arith, p.0, q.0), λ f. let g = p.1 f in let h = q.1 g.0 in (h.0, h.1 ∙ g.1))

-- the numbers of entries that a plan has
entries-alone : {T : Type 0} (n m : ℕ) (c : Core T) → HasEntries n c → HasEntries m c → n ≡ m
entries-alone n m (Sdf p X) a b = sym a.0 ∙ b.0
entries-alone n m (Pn p X) a b = sym a ∙ b
entries-alone n m (Sr p) a b = sym a ∙ b
entries-alone n m (De p) a b = sym a ∙ b
entries-alone n m (Rv p X) a b = sym a.0 ∙ b.0
entries-alone n m (Modal chart o) a b = sym a.0 ∙ b.0

-- the children of a composite with their numbers
nodes-length : {T A : Type 0} (ss : List (Child (Node T A))) → length (list_of (nodes_of (nodes ss))) ≡ length ss
nodes-length [] = refl
nodes-length (s ∷ ss) = ap (λ v. suc v) (nodes-length ss)

numbered-nodes : {T A : Type 0} (i : ℕ) (kids : Nodes T A) → nodes_of (nodes (numbered i (list_of kids))) ≡ kids
numbered-nodes i none = refl
numbered-nodes i (more n ns) = ap (λ v. Nodes.more n v) (numbered-nodes (suc i) ns)

module _ {T A : Type 0} (rows : Rows T A) where
  -- the wake of a node after a reset
  abbrev pub again : Node T A → Option Tag
  again node = next_of rows (reset_of node)

  abbrev agains : Nodes T A → List (Option Tag)
  agains kids = wakes_of rows (reset_all kids)

  mutual
    reset-twice : (node : Node T A) → again (reset_of node) ≡ again node
    reset-twice (Actor h a b) = refl
    reset-twice (Composite h c d kids) = ap (λ ws. at_first (core_begins c) None (core_wake c ws)) (resets-twice kids)

    resets-twice : (kids : Nodes T A) → agains (reset_all kids) ≡ agains kids
    resets-twice none = refl
    resets-twice (more n ns) = ap₂ (λ (w : Option Tag) (ws : List (Option Tag)). w ∷ ws) (reset-twice n) (resets-twice ns)

  -- a node becomes one that is as high, whose plans fit where they did, and which begins again with the same wake
  abbrev Kept : Node T A → Node T A → Type 0
  Kept s z = KeepsHeight s z × (IsFitting s → again z ≡ again s)

  kept-refl : (s : Node T A) → Kept s s
  kept-refl s = (keeps-refl s, λ f. refl)

  kept-trans : (a b c : Node T A) → Kept a b → Kept b c → Kept a c
  kept-trans a b c p q = (keeps-trans a b c p.0 q.0, λ f. q.1 (p.0.1 f).0 ∙ p.1 f)

  kept-reset : (s : Node T A) → Kept s (reset_of s)
  kept-reset s = (reset-keeps s, λ f. reset-twice s)

  -- so do children
  From : Child (Node T A) → Child (Node T A) → Type 0
  From s z = Kept s.node z.node

  all-from : (ss : List (Child (Node T A))) → AllFrom From ss ss
  unfolding From
  all-from [] = tt
  all-from (s ∷ ss) = (kept-refl s.node, all-from ss)

  wakes-again : (ss zs : List (Child (Node T A))) → AllFrom From ss zs → length zs ≡ length ss → AllFitting (nodes_of (nodes ss)) → agains (nodes_of (nodes zs)) ≡ agains (nodes_of (nodes ss))
  unfolding From
  wakes-again [] [] f e g = refl
  wakes-again (s ∷ ss) [] f e g = absurd (omega (arith, e))
  wakes-again [] (z ∷ zs) f e g = absurd f
  wakes-again (s ∷ ss) (z ∷ zs) f e g = ap₂ (λ (w : Option Tag) (ws : List (Option Tag)). w ∷ ws) (f.0.1 g.0) (wakes-again ss zs f.1 (omega (arith, e)) g.1)

  -- ---- a firing

  -- the node after a firing that is done
  NodeAgain : Node T A → Outcome T (Node T A) → Type 0
  NodeAgain node (Done next out l) = IsFitting node → IsFitting next → again next ≡ again node
  NodeAgain node (Stuck fs l) = Unit {0}

  as-node-again : {H : Type 0} (tag : Tag) (h : Past) (c d : Core T) (core : H → Core T) (kids : Nodes T A) (r : Outcome T (Inside H (Child (Node T A)))) → KidsFrom From (numbered 0 (list_of kids)) r → NodeAgain (Composite h c d kids) (as_node tag h c core r)
  unfolding NodeAgain
  as-node-again tag h c d core kids (Stuck fs l) k = tt
  as-node-again tag h c d core kids (Done x out l) k =
      λ f g.
      let ss = numbered 0 (list_of kids) in
      let same = numbered-nodes 0 kids in
      let count : length x.kids ≡ length ss = sym (nodes-length x.kids) ∙ sym (entries-alone (length (list_of kids)) (length (list_of (nodes_of (nodes x.kids)))) c f.0 g.0) ∙ sym (numbered-length 0 (list_of kids)) in
      let wakes : agains (nodes_of (nodes x.kids)) ≡ agains (nodes_of (nodes ss)) = wakes-again ss x.kids k count (subst (λ v. AllFitting v) (sym same) f.2) in
      ap (λ ws. at_first (core_begins c) None (core_wake c ws)) (wakes ∙ ap (λ v. agains v) same)

  module _ (facts : Facts T (Child (Node T A))) (step : Stepping T (Child (Node T A))) (alike : Alike facts step step From) (k : ℕ) (ms : List Meeting) (tag : Tag) (h : Past) (c : Core T) (kids : Nodes T A) (inputs : Streams T) where
    abbrev its : List (Child (Node T A))
    its = numbered 0 (list_of kids)

    director-again : (d : Core T) → NodeAgain (Composite h c d kids) (director facts step k ms tag h c d its inputs)
    director-again (Sdf p X) = as-node-again tag h c (Sdf p X) (Sdf p) kids _ (kahn-from facts step step From alike tag p.net _ its its (all-from its) _ _ _ k)
    director-again (Pn p X) = as-node-again tag h c (Pn p X) (Pn p) kids _ (kahn-from facts step step From alike tag p.net _ its its (all-from its) _ _ _ k)
    director-again (Sr p) = as-node-again tag h c (Sr p) (λ X. Sr p) kids _ (tick-from facts _ _ _ _ From (sr-alike facts step step From alike) tag p.net its its (all-from its) inputs _ k)
    director-again (De p) = as-node-again tag h c (De p) (λ X. De p) kids _ (tick-from facts _ _ _ _ From (de-alike facts step step From alike) tag p.net its its (all-from its) inputs _ k)
    director-again (Rv p X) = as-node-again tag h c (Rv p X) (Rv p) kids _ (under-from facts step step From alike tag p.net k h.made ms its _ (seated-from From p.barriers X.got X.puts its its (all-from its)))
    director-again (Modal chart m) = as-node-again tag h c (Modal chart m) (Modal chart) kids _ (modal-from facts step step From alike chart h.made tag m its its (all-from its) inputs)

  as-again : (node next : Node T A) (r : Outcome T (Node T A)) (out : Streams T) (l : Log T) → NodeAgain node r → r ≡ Done next out l → IsFitting node → IsFitting next → again next ≡ again node
  unfolding NodeAgain
  as-again node next r out l k e = subst (λ v. NodeAgain node v) e k

  steps-alike : (steps : ℕ → Stepping T (Node T A)) → ((i : ℕ) (tag : Tag) (node next : Node T A) (X out : Streams T) (l : Log T) → steps i tag node X ≡ Done next out l → Kept node next) →
      Alike (child_facts (facts_of rows)) (child_step steps) (child_step steps) From
  unfolding From
  steps-alike steps h = record {
    steps = λ s z f tag X z' out l e. kept-trans s.node z.node z'.node f (h z.number tag z.node z'.node X out l (with-number-done z.number (steps z.number tag z.node X) z' out l e));
    resets = λ s z f. kept-trans s.node z.node (reset_of z.node) f (kept-reset z.node);
    same = λ s z f tag X. refl;
  }

  actor-again : (tag : Tag) (h : Past) (a b : A) (r : Answer T A) → NodeAgain (Actor h a b) (actor_outcome tag h a r)
  unfolding NodeAgain
  actor-again tag h a b (Gives c out) = λ f g. refl
  actor-again tag h a b (Fails code) = tt

  level-again : (k d : ℕ) (m : Meets) (tag : Tag) (node : Node T A) (inputs : Streams T) → NodeAgain node (step_at rows k d m tag node inputs)
  unfolding NodeAgain step_at
  level-again k zero m tag node inputs = tt
  level-again k (suc d) m tag (Actor h a b) inputs = actor-again tag h a b (rows.react tag b inputs)
  level-again k (suc d) m tag (Composite h c e kids) inputs =
      director-again (child_facts (facts_of rows)) (child_step (λ i. step_at rows k d (below_child i m)))
      (steps-alike (λ i. step_at rows k d (below_child i m)) (λ i tag node next X out l w.
      let high : KeepsHeight node next = firing-keeps rows k d (below_child i m) tag node next X out l w in
      (high, λ f. as-again node next (step_at rows k d (below_child i m) tag node X) out l (level-again k d (below_child i m) tag node X) w f (high.1 f).0)))
      k (m [] h.made) tag h c kids inputs e

  -- ---- whatever it fires

  pub comes-again : (node later : Node T A) → Becomes rows node later → IsFitting node → again later ≡ again node
  comes-again node later (Stays n) f = refl
  comes-again node later (Fires n next z k d m tag X out l w t) f =
      let fits : IsFitting next = ((firing-keeps rows k d m tag node next X out l w).1 f).0 in
      comes-again next later t fits ∙ as-again node next (step_at rows k d m tag node X) out l (level-again k d m tag node X) w f fits
  comes-again node later (Resets n z t) f = comes-again (reset_of node) later t ((reset-keeps node).1 f).0 ∙ reset-twice node

  -- ---- at its start

  mutual
    start-again : (node : Node T A) → IsAtStart rows node → again node ≡ next_of rows node
    start-again (Actor h a b) s =
        let past : None ≡ h.last = ap (λ (p : Past). p.last) (sym s.0) in
        ap₂ (λ o (x : A). at_first (rows.begins x) o (rows.next x)) past (sym s.1)
    start-again (Composite h c d kids) s =
        let past : None ≡ h.last = ap (λ (p : Past). p.last) (sym s.0) in
        ap (λ ws. at_first (core_begins c) None (core_wake c ws)) (starts-again kids s.3) ∙
        ap₂ (λ o (e : Core T). at_first (core_begins e) o (core_wake e (wakes_of rows kids))) past (sym s.1)

    starts-again : (kids : Nodes T A) → AllAtStart rows kids → agains kids ≡ wakes_of rows kids
    starts-again none s = refl
    starts-again (more n ns) s = ap₂ (λ (w : Option Tag) (ws : List (Option Tag)). w ∷ ws) (start-again n s.0) (starts-again ns s.1)

  pub wakes-at-start : (node : Node T A) → IsAtStart rows node → again node ≡ next_of rows node
  wakes-at-start node s = start-again node s

  -- ---- whether a composite takes its lists whole

  -- a composite with this start, which takes its lists whole where the director in this state does
  record IsOfKind (c d : Core T) (z : Node T A) : Type 0 where
    past : Past
    state : Core T
    kids : Nodes T A
    is : z ≡ Composite past c state kids
    whole : core_whole state ≡ core_whole d

  fires-kind : (h : Past) (c d : Core T) (kids : Nodes T A) (k n : ℕ) (m : Meets) (tag : Tag) (X out : Streams T) (l : Log T) (z : Node T A) → step_at rows k n m tag (Composite h c d kids) X ≡ Done z out l → IsOfKind c d z
  unfolding step_at
  fires-kind h c d kids k zero m tag X out l z e = absurd (cc)
  fires-kind h c (Sdf p Y) kids k (suc n) m tag X out l z e = let w = done-within tag h c (Sdf p) _ z out l e in record { past = fired_at tag h; state = Sdf p w.inside.held; kids = nodes_of (nodes w.inside.kids); is = w.state; whole = refl }
  fires-kind h c (Pn p Y) kids k (suc n) m tag X out l z e = let w = done-within tag h c (Pn p) _ z out l e in record { past = fired_at tag h; state = Pn p w.inside.held; kids = nodes_of (nodes w.inside.kids); is = w.state; whole = refl }
  fires-kind h c (Sr p) kids k (suc n) m tag X out l z e = let w = done-within tag h c (λ (Y : Streams T). Sr p) _ z out l e in record { past = fired_at tag h; state = Sr p; kids = nodes_of (nodes w.inside.kids); is = w.state; whole = refl }
  fires-kind h c (De p) kids k (suc n) m tag X out l z e = let w = done-within tag h c (λ (Y : Streams T). De p) _ z out l e in record { past = fired_at tag h; state = De p; kids = nodes_of (nodes w.inside.kids); is = w.state; whole = refl }
  fires-kind h c (Rv p Y) kids k (suc n) m tag X out l z e = let w = done-within tag h c (Rv p) _ z out l e in record { past = fired_at tag h; state = Rv p w.inside.held; kids = nodes_of (nodes w.inside.kids); is = w.state; whole = refl }
  fires-kind h c (Modal chart o) kids k (suc n) m tag X out l z e = let w = done-within tag h c (Modal chart) _ z out l e in record { past = fired_at tag h; state = Modal chart w.inside.held; kids = nodes_of (nodes w.inside.kids); is = w.state; whole = refl }

  becomes-kind : (node z : Node T A) → Becomes rows node z → (h : Past) (c d : Core T) (kids : Nodes T A) → node ≡ Composite h c d kids → core_whole c ≡ core_whole d → IsOfKind c d z
  becomes-kind node z (Stays n) h c d kids e s = record { past = h; state = d; kids = kids; is = e; whole = refl }
  becomes-kind node z (Fires n next later k j m tag X out l w t) h c d kids e s =
      let r = fires-kind h c d kids k j m tag X out l next (subst (λ (v : Node T A). step_at rows k j m tag v X ≡ Done next out l) e w) in
      let i = becomes-kind next z t r.past c r.state r.kids r.is (s ∙ sym r.whole) in
      record { past = i.past; state = i.state; kids = i.kids; is = i.is; whole = i.whole ∙ r.whole }
  becomes-kind node z (Resets n later t) h c d kids e s =
      let i = becomes-kind (reset_of node) z t (forgotten h) c c (reset_all kids) (ap (λ (v : Node T A). reset_of v) e) refl in
      record { past = i.past; state = i.state; kids = i.kids; is = i.is; whole = i.whole ∙ s }

  pub stays-whole : (h : Past) (c d : Core T) (kids : Nodes T A) → core_whole c ≡ core_whole d → (later : Node T A) → Becomes rows (Composite h c d kids) later → whole_of rows later ≡ core_whole d
  stays-whole h c d kids s later t =
      let i = becomes-kind (Composite h c d kids) later t h c d kids refl s in
      ap (λ (v : Node T A). whole_of rows v) i.is ∙ i.whole
