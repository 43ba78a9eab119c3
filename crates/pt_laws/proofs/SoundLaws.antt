-- A composite whose director's firing is explained keeps logs closed, where the steps of its children do.
use Rattle.std.proofs.Common.{◌≡◌, ◌⊎◌, ℕ, zero, suc, ◌+◌, ◌<◌, ◌≤◌, List, [], ◌∷◌, ◌++◌, Bool, true, false, ◌||◌, nat_le, length, Option, Some, None, inl, inr, refl, sym, ap, ap₂, subst, arith, ◌∙◌, append-nil, append_assoc}
use Rattle.std.proofs.Math.Path.{fun_ext}
use Rattle.pt_meaning.specs.Basics.{Tag, Streams, at, Log, Path, Firing, Event, Finished, Meeting, firings_in, log_then, own, log_below, within_firing, all_marked}
use Rattle.pt_meaning.specs.Streams.{IsPrefix}
use Rattle.pt_meaning.specs.Machine.{Outcome, Done, Stepping, Partial, Known, partial_at}
use Rattle.pt_meaning.specs.Rounds.{Source, Own, Output}
use Rattle.pt_meaning.specs.Dataflow.{Inside}
use Rattle.pt_meaning.specs.Modal.{get}
use Rattle.pt_meaning.specs.Rendezvous.{with_meetings}
use Rattle.pt_meaning.specs.Children.{Child, numbered, nodes, child_facts, child_step}
use Rattle.pt_meaning.specs.Node.{Rows, Core, Past, Node, Nodes, Actor, Composite, none, more, list_of, nodes_of, facts_of, as_node, fired_at, early_of}
use Rattle.pt_meaning.specs.Closed as closed_laws
use Rattle.pt_meaning.specs.Closed.{Has, child_of, if_there, node_at, actor_of, actor_at, on_answer, state_after, Begun, UnderWay, these_if, begun_at, inputs_at, outputs_at, given, is_modal, keeps_tokens, MayKnow}
use Rattle.pt_laws.specs.Channels as channels
use Rattle.pt_laws.specs.Heights.{IsFitting}
use Rattle.pt_laws.specs.LogsOfRuns.{log_at, log_in}
use Rattle.pt_laws.specs.SoundRuns.{all_unmarked, log_in_child, idle, IsBare, ClosedIn, on_place, KeptIn, part, all_of, takes_now, gives_now, SoundStep}
use Rattle.pt_laws.specs.Explained.{of_turns, takes_in, gives_in, MaySay, Nothing, Absence, Gives, Early, IsTakenWell, DoneWell, IfDone, Explained}
use Rattle.pt_laws.proofs.CompositeLaws.{log-as-node}
use Rattle.pt_laws.proofs.FiringLaws.{DoneWithin, done-within}
use Rattle.pt_laws.proofs.HeightLaws.{numbered-length}
use Rattle.pt_laws.proofs.ClosedLaws.{count-unmarked, unmarked-none, split-unmarked, state-unmarked, child-closed, child-or-beyond}
use Rattle.pt_laws.proofs.RecordLaws.{le-true, all-quiet}
use Rattle.pt_laws.proofs.ChannelLaws.{SamePlace, same-place}
use Rattle.pt_laws.proofs.LevelLaws.{count-append, unmarked-marked, added, given-up, own-up, given-none, level-under-way, level-done, node-kept}
use Rattle.pt_laws.proofs.ChainLaws.{numbered-get, nodes-get, nodes-long, kept-child, fitting-child, reset-kept, no-finished, ChildAfter, part-sound}

child-within : {T A : Type 0} (ks : Nodes T A) (i : ℕ) (k : Node T A) → child_of ks i ≡ Some k → i < length (list_of ks)
child-within none i k e = absurd (cc)
child-within (more x ks) zero k e = omega arith
child-within (more x ks) (suc i) k e = omega (arith, child-within ks i k e)

pub below-log : {T : Type 0} (ls : List (Log T)) (i : ℕ) → part i (log_below ls) ≡ log_at ls i
below-log ls i = fun_ext (λ p. one ls i p)
  where
    one : {T : Type 0} (ls : List (Log T)) (i : ℕ) (p : Path) → log_below ls (i ∷ p) ≡ log_at ls i p
    one [] i p = refl
    one (l ∷ ls) zero p = refl
    one (l ∷ ls) (suc i) p = one ls i p

pub within-added : {T : Type 0} (n : ℕ) (es : List (Event T)) (ls : List (Log T)) → within_firing n (with_meetings es (log_below ls)) ≡ added n es (log_below ls)
within-added {T} n es ls = fun_ext one
  where
    one : (p : Path) → within_firing n (with_meetings es (log_below ls)) p ≡ added n es (log_below ls) p
    one [] = refl
    one (i ∷ p) = refl

-- the firing of a composite, explained
module _ {T A H : Type 0} {ms : List Meeting} (rows : Rows T A) (steps : ℕ → Stepping T (Node T A)) (sound : (i : ℕ) → SoundStep rows (steps i)) (tag : Tag) (u : Bool) (h₀ : Past) (c₀ d₀ : Core T) (kids₀ : Nodes T A) (h : Past) (c d : Core T) (kids : Nodes T A) (l : Log T)
    (closed : ClosedIn rows u (Composite h₀ c₀ d₀ kids₀) l idle) (kept : KeptIn rows u (Composite h₀ c₀ d₀ kids₀) (Composite h c d kids) l) (fits : IsFitting (Composite h c d kids)) (inputs : Streams T) (core : H → Core T) (r : Outcome T (Inside H (Child (Node T A))))
    (x : Explained (child_facts (facts_of rows)) (child_step steps) ms h.made tag inputs d core (numbered 0 (list_of kids)) r) where
  new : Log T
  new = log_below x.logs

  abbrev v : Bool
  v = u || is_modal c₀

  kids-long : length (numbered 0 (list_of kids)) ≡ length (list_of kids₀)
  kids-long = numbered-length 0 (list_of kids) ∙ kept.0.counts

  after : (i : ℕ) (k₀ : Node T A) → child_of kids₀ i ≡ Some k₀ → ChildAfter rows steps sound v k₀ i (log_in_child i l) (log_at x.logs i) (x.turns i) (x.way i) (x.ends i)
  after i k₀ e =
      let zero_i : 0 + i ≡ i = omega arith in
      let k = kept-child rows v kids₀ kids 0 i l k₀ kept.1 e in
      let child_kept : KeptIn rows v k₀ k.0 (log_in_child i l) = subst (λ w. KeptIn rows v k₀ k.0 (log_in_child w l)) zero_i k.2 in
      let child_shut : ClosedIn rows v k₀ (log_in_child i l) idle = subst (λ w. ClosedIn rows v k₀ (log_in_child w l) idle) zero_i (child-closed rows v kids₀ 0 i k₀ l idle closed.2 e) in
      part-sound rows steps sound v k₀ i (record { number = 0 + i; node = k.0 }) (x.ends i) (log_in_child i l) (log_at x.logs i) (x.turns i) (x.way i) zero_i (fitting-child kids i k.0 fits.2 k.1) child_shut child_kept
      (x.parts i (record { number = 0 + i; node = k.0 }) (numbered-get 0 kids i k.0 k.1))

  Child₀ : ℕ → Type 0
  Child₀ i = ((k₀ : Node T A) × (child_of kids₀ i ≡ Some k₀)) ⊎ ((child_of kids₀ i ≡ None) × (length (list_of kids₀) ≤ i))

  ways-at : (i : ℕ) → Child₀ i → UnderWay T
  unfolding Child₀
  ways-at i (inl k) = (after i k.0 k.1).way
  ways-at i (inr b) = idle

  in-children : (i : ℕ) → Child₀ i
  unfolding Child₀
  in-children i = child-or-beyond kids₀ i

  pub all-ways : UnderWay T
  all-ways [] = Some (record { tag = tag; inputs = inputs })
  all-ways (i ∷ p) = ways-at i (in-children i) p

  -- each child with what is under way in it
  some-node : (a b : Node T A) → Some a ≡ Some b → a ≡ b
  some-node a b e = cc

  none-node : (o : Option (Node T A)) (k : Node T A) → o ≡ None → o ≡ Some k → ⊥
  none-node o k a b = clash (sym a ∙ b)
    where
      clash : None ≡ Some k → ⊥
      clash e = cc

  closed-at : (i : ℕ) (o : Child₀ i) (k₀ : Node T A) → child_of kids₀ i ≡ Some k₀ → ClosedIn rows v k₀ (log_then (log_in_child i l) (part i new)) (ways-at i o)
  unfolding Child₀ ways-at new
  closed-at i (inl k) k₀ e = subst (λ (w : Node T A). ClosedIn rows v w (log_then (log_in_child i l) (part i (log_below x.logs))) (after i k.0 k.1).way) (some-node k.0 k₀ (sym k.1 ∙ e)) (subst (λ w. ClosedIn rows v k.0 (log_then (log_in_child i l) w) (after i k.0 k.1).way) (sym (below-log x.logs i)) (after i k.0 k.1).closed)
  closed-at i (inr b) k₀ e = absurd (none-node (child_of kids₀ i) k₀ b.0 e)

  under-at : (i : ℕ) (o : Child₀ i) → ways-at i o [] ≡ x.way i
  unfolding Child₀ ways-at
  under-at i (inl k) = (after i k.0 k.1).under
  under-at i (inr b) = sym (x.beyond i (omega (arith, b.1, kids-long))).2

  idle-beyond : (i : ℕ) (p : Path) → length (list_of kids₀) ≤ i → (o : Child₀ i) → ways-at i o p ≡ None
  unfolding Child₀ ways-at
  idle-beyond i p g (inl k) = absurd (omega (arith, g, child-within kids₀ i k.0 k.1))
  idle-beyond i p g (inr b) = refl

  nothing-beyond : (i : ℕ) (p : Path) → length (list_of kids₀) ≤ i → new (i ∷ p) ≡ []
  unfolding new
  nothing-beyond i p g = ap (λ w. w p) (below-log x.logs i) ∙ ap (λ w. w p) (x.beyond i (omega (arith, g, kids-long))).0

  -- the records of each child are its turns
  turns-told : (pick : Firing T → List T) (i : ℕ) (o : Child₀ i) → all_of pick (new (i ∷ [])) ≡ of_turns pick (x.turns i)
  unfolding Child₀ new
  turns-told pick i (inl k) = ap (λ (w : Log T). all_of pick (w [])) (below-log x.logs i) ∙ (after i k.0 k.1).told pick
  turns-told pick i (inr b) = let y = x.beyond i (omega (arith, b.1, kids-long)) in ap (λ (w : Log T). all_of pick (w [])) (below-log x.logs i ∙ y.0) ∙ sym (ap (λ ts. of_turns pick ts) y.1)

  takes-same : (i q : ℕ) → takes_now new all-ways i q ≡ takes_in x.turns x.way i q
  unfolding all-ways
  takes-same i q = ap₂ (λ a b. a ++ begun_at b q) (turns-told (inputs_at q) i (in-children i)) (under-at i (in-children i))

  gives-same : (s : Option Source) → gives_now inputs new s ≡ gives_in inputs x.turns s
  gives-same None = refl
  gives-same (Some (Own port)) = refl
  gives-same (Some (Output j port)) = turns-told (outputs_at port) j (in-children j)

  -- what may be known of a place, as the log tells it
  abbrev top₀ : Node T A
  top₀ = Composite h₀ c₀ d₀ kids₀

  abbrev now : Log T
  now = log_then l (added h.made x.events new)

  all-made : firings_in (l [] ++ x.events) ≡ h.made
  all-made = let a = count-append (l []) x.events in omega (arith, a, kept.0.made, x.quiet)

  own-none : (ns : List ℕ) (f : Firing T) → Has (Finished ns f) x.events → f.number ≡ h.made
  own-none ns f g = absurd (no-finished ns f x.events x.quiet g)

  given-same : (s : Option Source) → given rows top₀ now all-ways [] s h.made h.made ≡ gives_in inputs x.turns s
  unfolding all-ways
  given-same None = refl
  given-same (Some (Own port)) =
      ap₂ (λ a b. a ++ these_if b (at inputs port) [])
      (own-up rows u h₀ c₀ d₀ kids₀ l closed x.events new all-ways h.made kept.0.made kept.0.numbers own-none port h.made h.made (omega arith) (omega arith) ∙
      ap₂ (λ a b. a ++ b) (given-none rows u h₀ c₀ d₀ kids₀ l closed x.events new all-ways h.made kept.0.made kept.0.numbers own-none (Some (Own port))) (all-quiet (inputs_at port) x.events x.quiet))
      (ap (λ w. nat_le w h.made) all-made ∙ le-true h.made h.made (omega arith)) ∙
      append-nil (at inputs port)
  given-same (Some (Output j port)) =
      given-up rows u h₀ c₀ d₀ kids₀ l closed x.events new all-ways h.made kept.0.made kept.0.numbers own-none j port h.made h.made (omega arith) (omega arith) ∙
      ap (λ a. a ++ all_of (outputs_at port) (new (j ∷ []))) (given-none rows u h₀ c₀ d₀ kids₀ l closed x.events new all-ways h.made kept.0.made kept.0.numbers own-none (Some (Output j port))) ∙ turns-told (outputs_at port) j (in-children j)

  -- a library actor's state, where its composite's firing began
  record LedTo (j : ℕ) (s : Child (Node T A)) (port : ℕ) (vs : List (Partial T)) (xs : List T) : Type 0 where
    start : A
    state : A
    before : List (Event T)
    since : List (Event T)
    later : List (Event T)
    is_actor : actor_at (j ∷ []) top₀ ≡ Some start
    events : now (j ∷ []) ≡ before ++ (since ++ later)
    led : state_after rows since start ≡ Some state
    reset : (before ≡ []) ⊎ (v ≡ true)
    early : partial_at (rows.early tag state vs) port ≡ Known xs

  led-to : (j : ℕ) (s : Child (Node T A)) (port : ℕ) (vs : List (Partial T)) (xs : List T) → get (numbered 0 (list_of kids)) j ≡ Some s → partial_at (early_of rows tag s.node vs) port ≡ Known xs → Child₀ j → LedTo j s port vs xs
  unfolding Child₀
  led-to j s port vs xs e g (inr b) = absurd (beyond-get (numbered 0 (list_of kids)) j (omega (arith, b.1, kids-long)) e)
    where
      beyond-get : (ys : List (Child (Node T A))) (j : ℕ) → length ys ≤ j → get ys j ≡ Some s → ⊥
      beyond-get [] j g e = clash e
        where
          clash : None ≡ Some s → ⊥
          clash e = cc
      beyond-get (y ∷ ys) zero g e = omega arith
      beyond-get (y ∷ ys) (suc j) g e = beyond-get ys j (omega (arith, g)) e
  led-to j s port vs xs e g (inl k₀) =
      let zero_j : 0 + j ≡ j = omega arith in
      let k = kept-child rows v kids₀ kids 0 j l k₀.0 kept.1 k₀.1 in
      let same : s.node ≡ k.0 = some-child k.0 (sym e ∙ numbered-get 0 kids j k.0 k.1) in
      by_node k₀.0 k.0 k₀.1 (subst (λ w. KeptIn rows v k₀.0 k.0 (log_in_child w l)) zero_j k.2) (ap (λ (w : Node T A). partial_at (early_of rows tag w vs) port) (sym same) ∙ g)
    where
      some-child : (n : Node T A) → Some s ≡ Some (record { number = 0 + j; node = n }) → s.node ≡ n
      some-child n e = ap (λ w. node_or w) e
        where
          node_or : Option (Child (Node T A)) → Node T A
          node_or None = s.node
          node_or (Some z) = z.node

      from_start : (b bs : List (Event T)) → all_unmarked b ≡ bs → (bs ≡ []) ⊎ (v ≡ true) → (b ≡ []) ⊎ (v ≡ true)
      from_start b bs e (inl g) = inl (unmarked-none b (e ∙ g))
      from_start b bs e (inr g) = inr g

      by_node : (n₀ n : Node T A) → child_of kids₀ j ≡ Some n₀ → KeptIn rows v n₀ n (log_in_child j l) → partial_at (early_of rows tag n vs) port ≡ Known xs → LedTo j s port vs xs
      by_node (Actor q₀ a₀ b₀) (Actor q a b) f m g =
          let w = split-unmarked (l (j ∷ [])) m.2.0 m.2.1 m.2.2 in
          record {
            start = a₀;
            state = b;
            before = w.0;
            since = w.1;
            later = all_marked h.made (new (j ∷ []));
            is_actor = ap (λ o. if_there actor_of (if_there (node_at []) o)) f;
            events = ap (λ es. es ++ all_marked h.made (new (j ∷ []))) w.2 ∙ append_assoc w.0 w.1 (all_marked h.made (new (j ∷ [])));
            led = sym (state-unmarked rows w.1 a₀) ∙ ap (λ es. state_after rows es a₀) w.3 ∙ m.2.3;
            early = g;
            reset = from_start w.0 m.2.0 w.4 m.2.4;
          }
      by_node (Actor q₀ a₀ b₀) (Composite q e d ks) f m g = absurd m
      by_node (Composite q₀ e₀ d₀ ks₀) (Actor q a b) f m g = absurd m
      by_node (Composite q₀ e₀ d₀ ks₀) (Composite q e d ks) f m g = absurd (cc)

  may-know : (i q : ℕ) (w : Partial T) → MaySay (child_facts (facts_of rows)) d (numbered 0 (list_of kids)) inputs x.turns tag i q w → MayKnow rows top₀ now all-ways u [] c₀ h.made tag i q w
  may-know i q w (Nothing a b) = MayKnow.Nothing i q
  may-know i q w (Absence a b) = MayKnow.Absence i q
  may-know i q w (Gives a b) = by_place (same-place c₀ i q)
    where
      by_place : SamePlace c₀ i q → MayKnow rows top₀ now all-ways u [] c₀ h.made tag i q (Known (gives_in inputs x.turns (channels.source_of d i q)))
      by_place (inl e) =
          subst (λ xs. MayKnow rows top₀ now all-ways u [] c₀ h.made tag i q (Known xs)) (given-same (closed_laws.source_of c₀ i q) ∙ ap (λ s. gives_in inputs x.turns s) (e.0 ∙ sym (kept.0.plan.sources i q))) (MayKnow.Gave i q)
      by_place (inr e) = subst (λ s. MayKnow rows top₀ now all-ways u [] c₀ h.made tag i q (Known (gives_in inputs x.turns s))) (sym (kept.0.plan.sources i q ∙ e.0)) (MayKnow.Absence i q)
  may-know i q w (Early a b j port s vs xs f e g t) = by_place (same-place c₀ i q) (λ place. may-know j place (partial_at vs place) (g place))
    where
      no-source : None ≡ Some (Output j port) → ⊥
      no-source e = cc

      by_place : SamePlace c₀ i q → ((place : ℕ) → MayKnow rows top₀ now all-ways u [] c₀ h.made tag j place (partial_at vs place)) → MayKnow rows top₀ now all-ways u [] c₀ h.made tag i q (Known xs)
      by_place (inr y) ih = absurd (no-source (sym y.0 ∙ sym (kept.0.plan.sources i q) ∙ f))
      by_place (inl y) ih =
          let z = led-to j s port vs xs e t (in-children j) in
          MayKnow.Early i q j port z.start z.state z.before z.since z.later vs xs (y.0 ∙ sym (kept.0.plan.sources i q) ∙ f) z.is_actor z.events z.reset z.led ih z.early

  taken-now : (i q : ℕ) → IsPrefix (takes_now new all-ways i q) (on_place d i q ++ gives_now inputs new (channels.source_of d i q)) ⊎ ((keeps_tokens c₀ ≡ false) × (xs : List T) × MayKnow rows top₀ now all-ways u [] c₀ h.made tag i q (Known xs) × IsPrefix (takes_now new all-ways i q) xs)
  taken-now i q = go (x.counted i q)
    where
      go : IsTakenWell (child_facts (facts_of rows)) d (numbered 0 (list_of kids)) inputs x.turns x.way tag i q →
          IsPrefix (takes_now new all-ways i q) (on_place d i q ++ gives_now inputs new (channels.source_of d i q)) ⊎ ((keeps_tokens c₀ ≡ false) × (xs : List T) × MayKnow rows top₀ now all-ways u [] c₀ h.made tag i q (Known xs) × IsPrefix (takes_now new all-ways i q) xs)
      go (inl g) = inl (subst (λ a. IsPrefix a (on_place d i q ++ gives_now inputs new (channels.source_of d i q))) (sym (takes-same i q)) (subst (λ a. IsPrefix (takes_in x.turns x.way i q) (on_place d i q ++ a)) (sym (gives-same (channels.source_of d i q))) g))
      go (inr g) = inr (sym kept.0.plan.keeps ∙ g.0, g.1, may-know i q (Known g.1) g.2, subst (λ a. IsPrefix a g.1) (sym (takes-same i q)) g.3)

  -- while it is under way
  pub composite-under : ClosedIn rows u (Composite h₀ c₀ d₀ kids₀) (log_then l (log_in (as_node tag h c core r))) all-ways
  unfolding all-ways new
  composite-under =
      subst (λ w. ClosedIn rows u (Composite h₀ c₀ d₀ kids₀) (log_then l w) all-ways) (sym (log-as-node tag h c core r ∙ ap (λ w. within_firing h.made w) x.log ∙ within-added h.made x.events x.logs))
      (level-under-way rows u h₀ c₀ d₀ kids₀ h c d (length (list_of kids)) l closed kept.0 x.events x.bare x.quiet new tag inputs all-ways refl (λ i b e. x.tagged i b (sym (under-at i (in-children i)) ∙ e)) (λ i p g. (nothing-beyond i p g, idle-beyond i p g (in-children i)))
      taken-now (λ i k e. closed-at i (in-children i) k e))

  pub composite-way : all-ways [] ≡ Some (record { tag = tag; inputs = inputs })
  unfolding all-ways
  composite-way = refl

  -- What is under way in a child is one firing for which the child was asked, or is within one. So it holds where it holds of what the child's step says.
  module _ (Holds : (child : ℕ) → Path → (count : Path → ℕ) → Node T A → Tag → Streams T → Begun T → Type 0)
      (comes : (i : ℕ) (u : Bool) (n₀ n : Node T A) (l : Log T) (f : IsFitting n) (c : ClosedIn rows u n₀ l idle) (k : KeptIn rows u n₀ n l) (t : Tag) (X : Streams T) (p : Path) (b : Begun T) → ((sound i).under_way u n₀ n l f c k t X).0 p ≡ Some b → Holds i p (λ q. firings_in (log_then l (log_in (steps i t n X)) q)) n t X b) where
    abbrev here : Log T
    here = log_in (as_node tag h c core r)

    -- the firings finished within a child, as the composite's log tells them
    abbrev by_child : ℕ → Path → ℕ
    by_child i = λ q. firings_in (log_then (log_in_child i l) (log_at x.logs i) q)

    abbrev by_all : ℕ → Path → ℕ
    by_all i = λ q. firings_in (log_then l here (i ∷ q))

    child-counts : (i : ℕ) → by_child i ≡ by_all i
    child-counts i = fun_ext (λ q. one q)
      where
        one : (q : Path) → firings_in (log_in_child i l q ++ log_at x.logs i q) ≡ firings_in (l (i ∷ q) ++ here (i ∷ q))
        one q =
            let is : here (i ∷ q) ≡ all_marked h.made (log_below x.logs (i ∷ q)) = ap (λ (w : Log T). w (i ∷ q)) (log-as-node tag h c core r ∙ ap (λ w. within_firing h.made w) x.log) in
            let a = count-append (log_in_child i l q) (log_at x.logs i q) in
            let b = count-append (l (i ∷ q)) (here (i ∷ q)) in
            let old = count-unmarked (l (i ∷ q)) in
            let new : firings_in (here (i ∷ q)) ≡ firings_in (log_at x.logs i q) = ap (λ es. firings_in es) is ∙ sym (count-unmarked (all_marked h.made (log_below x.logs (i ∷ q)))) ∙ ap (λ es. firings_in es) (unmarked-marked h.made (log_below x.logs (i ∷ q)) ∙ ap (λ (w : Log T). w q) (below-log x.logs i)) in
            a ∙ ap₂ (λ v w. v + w) old (sym new) ∙ sym b

    abbrev InChild : (i : ℕ) → Path → Begun T → Type 0
    InChild i p b = (begun : Begun T) × (x.way i ≡ Some begun) × Holds i p (λ q. firings_in (log_then l here (i ∷ q))) (x.ends i).node begun.tag begun.inputs b

    pub composite-comes : (i : ℕ) (p : Path) (b : Begun T) → all-ways (i ∷ p) ≡ Some b → (begun : Begun T) × (x.way i ≡ Some begun) × Holds i p (λ q. firings_in (log_then l here (i ∷ q))) (x.ends i).node begun.tag begun.inputs b
    unfolding all-ways Child₀ ways-at
    composite-comes i p b e = go (in-children i) e
      where
        clash : (o : Option (Begun T)) → o ≡ None → o ≡ Some b → ⊥
        clash o f g = no (sym f ∙ g)
          where
            no : None ≡ Some b → ⊥
            no e = cc

        by_way : (k₀ : Node T A) (f : child_of kids₀ i ≡ Some k₀) → (after i k₀ f).way p ≡ Some b → (o : Option (Begun T)) → x.way i ≡ o → InChild i p b
        by_way k₀ f e None g = absurd (clash ((after i k₀ f).way p) (ap (λ (w : UnderWay T). w p) ((after i k₀ f).idle_if g)) e)
        by_way k₀ f e (Some begun) g =
            let s = (after i k₀ f).of_step begun g in
            let told = comes (x.ends i).number v k₀ (x.ends i).node s.before s.fits s.closed s.kept begun.tag begun.inputs p b (sym (ap (λ (w : UnderWay T). w p) s.is_way) ∙ e) in
            let numbered_so = subst (λ n. Holds n p (λ q. firings_in (log_then s.before (log_in (steps (x.ends i).number begun.tag (x.ends i).node begun.inputs)) q)) (x.ends i).node begun.tag begun.inputs b) s.number told in
            let logged_so = subst (λ (w : Log T). Holds i p (λ q. firings_in (w q)) (x.ends i).node begun.tag begun.inputs b) s.logged numbered_so in
            (begun, g, subst (λ (w : Path → ℕ). Holds i p w (x.ends i).node begun.tag begun.inputs b) (child-counts i) logged_so)

        go : (o : Child₀ i) → ways-at i o p ≡ Some b → InChild i p b
        go (inl k₀) e = by_way k₀.0 k₀.1 e (x.way i) refl
        go (inr m) e = absurd (clash None refl e)

  pub composite-path : IsBare (log_in (as_node tag h c core r) []) × (firings_in (log_in (as_node tag h c core r) []) ≡ 0)
  composite-path =
      let same : log_in (as_node tag h c core r) [] ≡ x.events = ap (λ w. w []) (log-as-node tag h c core r ∙ ap (λ w. within_firing h.made w) x.log) in
      (subst (λ es. IsBare es) (sym same) x.bare, ap (λ es. firings_in es) same ∙ x.quiet)

  -- and where it is done
  module _ (z : Node T A) (out : Streams T) (k : Log T) (e : as_node tag h c core r ≡ Done z out k) where
    inner : DoneWithin tag h c core r z out k
    inner = done-within tag h c core r z out k e

    well : DoneWell (child_facts (facts_of rows)) inputs d core (numbered 0 (list_of kids)) x.turns x.way x.ends inner.inside
    well = subst (λ w. IfDone (child_facts (facts_of rows)) inputs d core (numbered 0 (list_of kids)) x.turns x.way x.ends w) inner.done x.done

    abbrev pub own_firing : Firing T
    own_firing = record { number = h.made; tag = tag; inputs = inputs; outputs = out }

    -- the log with the own record, in one
    whole-log : log_then l (log_then k (own own_firing)) ≡ log_then l (added h.made (x.events ++ (Finished [] own_firing ∷ [])) new)
    unfolding new
    whole-log = fun_ext (λ p. ap (λ w. l p ++ w) (one p))
      where
        same : k ≡ added h.made x.events (log_below x.logs)
        same = inner.marked ∙ ap (λ w. within_firing h.made w) (sym (ap (λ w. log_in w) inner.done) ∙ x.log) ∙ within-added h.made x.events x.logs

        one : (p : Path) → k p ++ own own_firing p ≡ added h.made (x.events ++ (Finished [] own_firing ∷ [])) (log_below x.logs) p
        one [] = ap (λ (w : Log T). w [] ++ (Finished [] own_firing ∷ [])) same
        one (i ∷ p) = append-nil (k (i ∷ p)) ∙ ap (λ (w : Log T). w (i ∷ p)) same

    child-done : (i : ℕ) (k₀ : Node T A) → child_of kids₀ i ≡ Some k₀ → ClosedIn rows v k₀ (log_then (log_in_child i l) (part i new)) idle × KeptIn rows v k₀ (x.ends i).node (log_then (log_in_child i l) (part i new))
    unfolding new
    child-done i k₀ g =
        let f = (after i k₀ g).finished (well.whole i) in
        (subst (λ w. ClosedIn rows v k₀ (log_then (log_in_child i l) w) idle) (sym (below-log x.logs i)) f.0, subst (λ w. KeptIn rows v k₀ (x.ends i).node (log_then (log_in_child i l) w)) (sym (below-log x.logs i)) f.1)

    pub composite-done : ClosedIn rows u (Composite h₀ c₀ d₀ kids₀) (log_then l (log_then k (own own_firing))) idle × KeptIn rows u (Composite h₀ c₀ d₀ kids₀) z (log_then l (log_then k (own own_firing)))
    composite-done = (
      subst (λ w. ClosedIn rows u (Composite h₀ c₀ d₀ kids₀) w idle) (sym whole-log)
          (level-done rows u h₀ c₀ d₀ kids₀ h c d (length (list_of kids)) l closed kept.0 x.events x.bare x.quiet new tag inputs out nothing-beyond takes (λ i k₀ g. (child-done i k₀ g).0)),
      subst (λ w. KeptIn rows u (Composite h₀ c₀ d₀ kids₀) z w) (sym whole-log)
          (subst (λ (w : Node T A). KeptIn rows u (Composite h₀ c₀ d₀ kids₀) w (log_then l (added h.made (x.events ++ (Finished [] own_firing ∷ [])) new))) (sym inner.state)
          (node-kept rows u h₀ c₀ d₀ kids₀ h c d (length (list_of kids)) l closed kept.0 x.events x.bare x.quiet new tag inputs out (fired_at tag h) (core inner.inside.held) (nodes_of (nodes inner.inside.kids)) refl (nodes-long inner.inside.kids ∙ well.count ∙ numbered-length 0 (list_of kids)) well.wired well.same_plan
          left kids-kept)),
    )
      where
        takes : (i q : ℕ) → IsPrefix (all_of (inputs_at q) (new (i ∷ []))) (on_place d i q ++ gives_now inputs new (channels.source_of d i q))
        takes i q =
            subst (λ a. IsPrefix a (on_place d i q ++ gives_now inputs new (channels.source_of d i q))) (sym (turns-told (inputs_at q) i (in-children i)))
            (subst (λ a. IsPrefix (of_turns (inputs_at q) (x.turns i)) (on_place d i q ++ a)) (sym (gives-same (channels.source_of d i q))) (well.counted i q))

        left : keeps_tokens d ≡ true → (i q : ℕ) → all_of (inputs_at q) (new (i ∷ [])) ++ on_place (core inner.inside.held) i q ≡ on_place d i q ++ gives_now inputs new (channels.source_of d i q)
        left t i q = ap (λ a. a ++ on_place (core inner.inside.held) i q) (turns-told (inputs_at q) i (in-children i)) ∙ well.left t i q ∙ ap (λ a. on_place d i q ++ a) (sym (gives-same (channels.source_of d i q)))

        or-right : (a b : Bool) → b ≡ true → (a || b) ≡ true
        or-right true b e = refl
        or-right false b e = e

        kids-kept : (i : ℕ) (k₀ k' : Node T A) → child_of kids₀ i ≡ Some k₀ → child_of (nodes_of (nodes inner.inside.kids)) i ≡ Some k' → KeptIn rows v k₀ k' (log_then (log_in_child i l) (part i new))
        kids-kept i k₀ k' a b = subst (λ (w : Node T A). KeptIn rows v k₀ w (log_then (log_in_child i l) (part i new))) (nodes-get inner.inside.kids i k' b).2 (at_child (nodes-get inner.inside.kids i k' b).0 (well.kids i (nodes-get inner.inside.kids i k' b).0 (nodes-get inner.inside.kids i k' b).1))
          where
            at_child : (s : Child (Node T A)) → (s ≡ x.ends i) ⊎ ((is_modal d ≡ true) × (s ≡ (child_facts (facts_of rows)).reset (x.ends i))) → KeptIn rows v k₀ s.node (log_then (log_in_child i l) (part i new))
            at_child s (inl e) = subst (λ (w : Child (Node T A)). KeptIn rows v k₀ w.node (log_then (log_in_child i l) (part i new))) (sym e) (child-done i k₀ a).1
            at_child s (inr e) = subst (λ (w : Child (Node T A)). KeptIn rows v k₀ w.node (log_then (log_in_child i l) (part i new))) (sym e.1) (reset-kept rows v (or-right u (is_modal c₀) (sym kept.0.plan.modal ∙ e.0)) k₀ (x.ends i).node (log_then (log_in_child i l) (part i new)) (child-done i k₀ a).0 (child-done i k₀ a).1)
