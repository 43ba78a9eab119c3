-- A step at any fuel and below any number of levels keeps logs closed.
use Rattle.std.proofs.Common.{◌≡◌, ◌⊎◌, ℕ, zero, suc, ◌+◌, List, [], ◌∷◌, ◌++◌, Bool, true, false, ◌||◌, length, Option, Some, None, inl, inr, refl, sym, ap, subst, arith, ◌∙◌, append-nil, append_assoc}
use Rattle.std.proofs.Math.Path.{fun_ext}
use Rattle.pt_meaning.specs.Basics.{Tag, Streams, Log, Path, Firing, Event, Finished, Met, firings_in, silent, log_then, own, Meeting}
use Rattle.pt_meaning.specs.Machine.{Outcome, Done, Stuck, Stepping, Facts, Partial, Known, partial_at}
use Rattle.pt_meaning.specs.Dataflow.{Inside, sdf, pn}
use Rattle.pt_meaning.specs.Tick.{sr, sr_active, sr_turn, de, if_whole}
use Rattle.pt_meaning.specs.Modal.{modal}
use Rattle.pt_meaning.specs.Meetings.{Meets, below_child}
use Rattle.pt_meaning.specs.Rendezvous.{rv}
use Rattle.pt_meaning.specs.Children.{Child, numbered, child_facts, child_step}
use Rattle.pt_meaning.specs.Node.{Rows, Answer, Gives, Fails, Core, Sdf, Pn, Sr, De, Rv, Modal, Past, Node, Nodes, Actor, Composite, list_of, facts_of, actor_outcome, as_node, director, fired_at, level, step_at, made_of}
use Rattle.pt_meaning.specs.Lawful.{LawfulRows}
use Rattle.pt_laws.specs.CompositeRuns.{steps_below}
use Rattle.pt_meaning.specs.Asked.{AsksInTick, IsAsked}
use Rattle.pt_meaning.specs.Closed.{Has, Begun, UnderWay, rounds_of, is_modal, state_after, on_answer, ComesTo}
use Rattle.pt_laws.specs.Heights.{IsFitting}
use Rattle.pt_laws.specs.LogsOfRuns.{log_in}
use Rattle.pt_laws.specs.SoundRuns.{log_in_child, idle, IsBare, ClosedIn, IsWired, IsLedTo, KeptIn, SoundStep}
use Rattle.pt_laws.specs.Explained.{Explained}
use Rattle.pt_laws.proofs.HeightLaws.{firing-keeps, numbered-length, sdf-bounds-count, pn-bounds-count}
use Rattle.pt_laws.proofs.TickNodeLaws.{sr-early, de-early}
use Rattle.pt_laws.proofs.ClosedLaws.{child-closed}
use Rattle.pt_laws.proofs.LevelLaws.{added, count-append, level-under-way, has-either}
use Rattle.pt_laws.proofs.SoundLaws.{composite-under, composite-path, composite-way, composite-comes, composite-done, all-ways}
use Rattle.pt_laws.proofs.ExplainRounds.{kahn-explained}
use Rattle.pt_laws.proofs.ExplainModal.{modal-explained}
use Rattle.pt_laws.proofs.ExplainTurns.{sr-turning, sr-begun, de-turning, de-begun}
use Rattle.pt_laws.proofs.ExplainTicks.{tick-explained}
use Rattle.pt_laws.proofs.ExplainMeetings.{rv-explained}

if-early : {T : Type 0} (b : Bool) (vs : List (Partial T)) (port : ℕ) (xs : List T) → partial_at (if_whole b vs) port ≡ Known xs → partial_at vs port ≡ Known xs
if-early true vs port xs e = e
if-early false vs port xs e = absurd (cc)

pub kept-made : {T A : Type 0} (rows : Rows T A) (u : Bool) (n₀ n : Node T A) (l : Log T) → KeptIn rows u n₀ n l → firings_in (l []) ≡ made_of n
kept-made rows u (Actor h₀ a₀ b₀) (Actor h a b) l k = k.0
kept-made rows u (Actor h₀ a₀ b₀) (Composite h c d kids) l k = absurd k
kept-made rows u (Composite h₀ c₀ d₀ kids₀) (Actor h a b) l k = absurd k
kept-made rows u (Composite h₀ c₀ d₀ kids₀) (Composite h c d kids) l k = k.0.made

-- the firing of a composite at any director is one explained
module _ {T A : Type 0} (rows : Rows T A) (law : LawfulRows rows) (k d : ℕ) (m : Meets) (ms : List Meeting) (tag : Tag) (h : Past) (c : Core T) (kids : Nodes T A) (inputs : Streams T) where
  abbrev facts : Facts T (Child (Node T A))
  facts = child_facts (facts_of rows)

  abbrev its : List (Child (Node T A))
  its = numbered 0 (list_of kids)

  count : length its ≡ length (list_of kids)
  count = numbered-length 0 (list_of kids)

  some_child : Core T → Child (Node T A)
  some_child e = record { number = 0; node = Composite h c e kids }

  pub director-explained : (e : Core T) → IsFitting (Composite h c e kids) → IsWired e → (P : Outcome T (Node T A) → Type 0) → ((H : Type 0) (core : H → Core T) (r : Outcome T (Inside H (Child (Node T A)))) → Explained facts (steps_below rows k d m) ms h.made tag inputs e core its r → P (as_node tag h c core r)) →
      P (director facts (steps_below rows k d m) k ms tag h c e its inputs)
  director-explained (Sdf p X) f w P go =
      go (Streams T) (Sdf p) (sdf facts (steps_below rows k d m) p k tag (record { held = X; kids = its }) inputs)
      (kahn-explained facts (steps_below rows k d m) tag p.net _ _ _ its X inputs (Sdf p X) (Sdf p) (some_child (Sdf p X)) k ms h.made (record { core_wired = λ Y g. g; place = λ i q. refl; core_place = λ Y i q. refl; source = λ i q. refl; at_tag = refl; same = λ Y. record { sources = λ i q. refl; modal = refl; keeps = refl }; asks = λ i z got a. (refl, a) })
      (sdf-bounds-count _ p.repetitions p.rates (length p.net.places) (f.1.1 ∙ sym f.1.0) (f.1.2 ∙ sym f.1.0)) (count ∙ sym f.1.0) w)
  director-explained (Pn p X) f w P go =
      go (Streams T) (Pn p) (pn facts (steps_below rows k d m) p k tag (record { held = X; kids = its }) inputs)
      (kahn-explained facts (steps_below rows k d m) tag p.net _ _ _ its X inputs (Pn p X) (Pn p) (some_child (Pn p X)) k ms h.made (record { core_wired = λ Y g. g; place = λ i q. refl; core_place = λ Y i q. refl; source = λ i q. refl; at_tag = refl; same = λ Y. record { sources = λ i q. refl; modal = refl; keeps = refl }; asks = λ i z got a. (refl, a) })
      (pn-bounds-count p.net.places) (count ∙ sym f.1) w)
  director-explained (Sr p) f w P go =
      go (Streams T) (λ X. Sr p) (sr facts (steps_below rows k d m) p k h.made tag its inputs)
      (tick-explained facts (steps_below rows k d m) _ _ _ tag (sr-turning facts (steps_below rows k d m) tag) (sr-early rows law k d m) (λ t s vs port xs e. e) p.net _ its inputs (some_child (Sr p)) k (Sr p) (λ X. Sr p) (λ Y. tt) (λ i q. refl) (λ i q. refl) refl refl (λ Y. record { sources = λ i q. refl; modal = refl; keeps = refl }) (count ∙ sym f.1) ms h.made sr-asks)
    where
      sr-asks : (i : ℕ) (first : Child (Node T A)) (lists : Streams T) (b : Begun T) → AsksInTick facts.early sr_active (sr_turn facts (steps_below rows k d m)) tag p.net its inputs i first lists → sr_active {T = T} tag first lists ≡ true → (sr-turning facts (steps_below rows k d m) tag).way first lists ≡ Some b →
          IsAsked facts (steps_below rows k d m) ms h.made (Sr p) its tag inputs i ((sr-turning facts (steps_below rows k d m) tag).end first lists) b.tag b.inputs
      sr-asks i first lists b a act e =
          let r = sr-begun facts (steps_below rows k d m) tag first lists b e in
          ((((sr-turning facts (steps_below rows k d m) tag).is first lists).begun_tagged b e), record { round = a.round; inputs_known = a.inputs_known ∙ ap (λ v. Option.Some v) (sym r.0); state = a.state ∙ ap (λ v. Option.Some v) (sym r.1) })
  director-explained (De p) f w P go =
      go (Streams T) (λ X. De p) (de facts (steps_below rows k d m) p k tag its inputs)
      (tick-explained facts (steps_below rows k d m) _ _ _ tag (de-turning facts (steps_below rows k d m) tag) (de-early rows law k d m) (λ t s vs port xs e. if-early (facts.whole s) (facts.early t s vs) port xs e) p.net _ its inputs (some_child (De p)) k (De p) (λ X. De p) (λ Y. tt) (λ i q. refl) (λ i q. refl) refl refl (λ Y. record { sources = λ i q. refl; modal = refl; keeps = refl }) (count ∙ sym f.1) ms h.made
      (λ i first lists b a act e. ((((de-turning facts (steps_below rows k d m) tag).is first lists).begun_tagged b e), first, lists, a, act, de-begun facts (steps_below rows k d m) tag first lists b e)))
  director-explained (Rv p X) f w P go =
      go _ (Rv p) (rv facts (steps_below rows k d m) p k h.made ms tag X its inputs) (rv-explained facts (steps_below rows k d m) tag p X inputs its (some_child (Rv p X)) h.made ms k (f.1.0 ∙ sym count) (f.1.1 ∙ sym count) (f.1.2 ∙ sym count) w)
  director-explained (Modal chart n) f w P go = go _ (Modal chart) (modal chart facts (steps_below rows k d m) h.made tag n its inputs) (modal-explained chart facts (steps_below rows k d m) h.made tag n its inputs (some_child (Modal chart n)) ms)

-- a firing of which nothing is made yet
module _ {T A : Type 0} (rows : Rows T A) (t : Tag) (X : Streams T) where
  begun : UnderWay T
  begun [] = Some (record { tag = t; inputs = X })
  begun (i ∷ p) = None

  nothing-more : (l : Log T) → log_then l silent ≡ l
  nothing-more l = fun_ext (λ p. append-nil (l p))

  begun-closed : (u : Bool) (n₀ n : Node T A) (l : Log T) → ClosedIn rows u n₀ l idle → KeptIn rows u n₀ n l → ClosedIn rows u n₀ (log_then l silent) begun
  unfolding begun
  begun-closed u (Actor h₀ a₀ b₀) n l e k = subst (λ v. IsBare (v []) × ((i : ℕ) (p : Path) → (v (i ∷ p) ≡ []) × (begun (i ∷ p) ≡ None))) (sym (nothing-more l)) (e.0, λ i p. ((e.1 i p).0, refl))
  begun-closed u (Composite h₀ c₀ d₀ kids₀) (Actor h a b) l e k = absurd k
  begun-closed u (Composite h₀ c₀ d₀ kids₀) (Composite h c d kids) l e k =
      subst (λ v. ClosedIn rows u (Composite h₀ c₀ d₀ kids₀) (log_then l v) begun) (fun_ext one)
      (level-under-way rows u h₀ c₀ d₀ kids₀ h c d (length (list_of kids)) l e k.0 [] (λ v g. absurd g) refl silent t X begun refl (λ i b g. absurd (none-begun b g)) (λ i p g. (refl, refl)) (λ i q. inl tt)
      (λ i n g. subst (λ v. ClosedIn rows (u || is_modal c₀) n v idle) (sym (nothing-more (log_in_child i l))) (let z : 0 + i ≡ i = omega arith in subst (λ v. ClosedIn rows (u || is_modal c₀) n (log_in_child v l) idle) z (child-closed rows (u || is_modal c₀) kids₀ 0 i n l idle e.2 g))))
    where
      none-begun : (b : Begun T) → None ≡ Some b → ⊥
      none-begun b g = cc

      one : (p : Path) → added {T = T} h.made [] silent p ≡ silent p
      one [] = refl
      one (i ∷ p) = refl

-- the state after events, and then others
state-append : {T A : Type 0} (rows : Rows T A) (xs ys : List (Event T)) (a s : A) → state_after rows xs a ≡ Some s → state_after rows (xs ++ ys) a ≡ state_after rows ys s
state-append {T} {A} rows [] ys a s e = let same : a ≡ s = cc in ap (λ v. state_after rows ys v) same
state-append {T} {A} rows (Finished ns f ∷ xs) ys a s e = go (rows.react f.tag a f.inputs) (λ b g. state-append rows xs ys b s g) e
  where
    none : None ≡ Some s → ⊥
    none g = cc

    go : (o : Answer T A) → ((b : A) → state_after rows xs b ≡ Some s → state_after rows (xs ++ ys) b ≡ state_after rows ys s) → on_answer (state_after rows xs) o ≡ Some s → on_answer (state_after rows (xs ++ ys)) o ≡ state_after rows ys s
    go (Gives b out) ih g = ih b g
    go (Fails code) ih g = absurd (none g)
state-append rows (Met ns i m ∷ xs) ys a s e = state-append rows xs ys a s e

-- a library actor
module _ {T A : Type 0} (rows : Rows T A) (t : Tag) (X : Streams T) where
  pub actor-quiet : (h : Past) (b : A) (r : Answer T A) → log_in (actor_outcome t h b r) ≡ silent
  actor-quiet h b (Gives c out) = refl
  actor-quiet h b (Fails code) = refl

  actor-done : (u : Bool) (h₀ h : Past) (a₀ b₀ a b : A) (l : Log T) → ClosedIn rows u (Actor h₀ a₀ b₀) l idle → KeptIn rows u (Actor h₀ a₀ b₀) (Actor h a b) l → (r : Answer T A) → rows.react t b X ≡ r → (z : Node T A) (out : Streams T) (k : Log T) → actor_outcome t h a r ≡ Done z out k →
      ClosedIn rows u (Actor h₀ a₀ b₀) (log_then l (log_then k (own (record { number = h.made; tag = t; inputs = X; outputs = out })))) idle × KeptIn rows u (Actor h₀ a₀ b₀) z (log_then l (log_then k (own (record { number = h.made; tag = t; inputs = X; outputs = out }))))
  actor-done u h₀ h a₀ b₀ a b l c e (Fails code) reacts z out k g = absurd (cc)
  actor-done u h₀ h a₀ b₀ a b l c e (Gives b' given) reacts z out k g =
      let quiet : k ≡ silent = sym (ap (λ v. log_in v) g) in
      subst (λ (v : Log T). ClosedIn rows u (Actor h₀ a₀ b₀) (log_then l (log_then v (own f))) idle × KeptIn rows u (Actor h₀ a₀ b₀) z (log_then l (log_then v (own f)))) (sym quiet) ((bare, λ i p. (ap (λ v. v ++ []) (c.1 i p).0, refl)), subst (λ (v : Node T A). KeptIn rows u (Actor h₀ a₀ b₀) v (log_then l (log_then silent (own f)))) same (made, e.1, led))
    where
      f : Firing T
      f = record { number = h.made; tag = t; inputs = X; outputs = out }

      same : Actor (fired_at t h) a b' ≡ z
      same = ap (λ v. state_or_z v) g
        where
          state_or_z : Outcome T (Node T A) → Node T A
          state_or_z (Done s o n) = s
          state_or_z (Stuck fs n) = z

      led : IsLedTo rows u a₀ b' (l [] ++ (Finished [] f ∷ []))
      led = (
        e.2.0,
        e.2.1 ++ (Finished [] f ∷ []),
        ap (λ v. v ++ (Finished [] f ∷ [])) e.2.2 ∙ append_assoc e.2.0 e.2.1 (Finished [] f ∷ []),
        state-append rows e.2.1 (Finished [] f ∷ []) a₀ b e.2.3 ∙ ap (λ (o : Answer T A). on_answer (state_after rows []) o) reacts,
        e.2.4,
      )

      made : firings_in (l [] ++ (Finished [] f ∷ [])) ≡ suc h.made
      made = omega (arith, count-append (l []) (Finished [] f ∷ []), e.0)

      bare : IsBare (l [] ++ (Finished [] f ∷ []))
      bare v g = either (has-either v (l []) (Finished [] f ∷ []) g)
        where
          either : Has v (l []) ⊎ Has v (Finished [] f ∷ []) → rounds_of v ≡ []
          either (inl x) = c.0 v x
          either (inr (inl x)) = ap (λ w. rounds_of w) x
          either (inr (inr x)) = absurd x

-- a level above sound steps
module _ {T A : Type 0} (rows : Rows T A) (law : LawfulRows rows) (k d : ℕ) (m : Meets) (sound : (i : ℕ) → SoundStep rows (step_at rows k d (below_child i m))) where
  abbrev below : ℕ → Stepping T (Node T A)
  below i = step_at rows k d (below_child i m)

  abbrev next : Tag → Node T A → Streams T → Outcome T (Node T A)
  next t n X = level rows below k (m []) t n X

  level-path : (u : Bool) (n₀ n : Node T A) (l : Log T) → IsFitting n → ClosedIn rows u n₀ l idle → KeptIn rows u n₀ n l → (t : Tag) (X : Streams T) → IsBare (log_in (next t n X) []) × (firings_in (log_in (next t n X) []) ≡ 0)
  level-path u n₀ (Actor h a b) l f c e t X = subst (λ (v : Log T). IsBare (v []) × (firings_in (v []) ≡ 0)) (sym (actor-quiet rows t X h a (rows.react t b X))) (λ v g. absurd g, refl)
  level-path u (Actor h₀ a₀ b₀) (Composite h s g kids) l f c e t X = absurd e
  level-path u (Composite h₀ c₀ d₀ kids₀) (Composite h s g kids) l f c e t X =
      director-explained rows law k d m (m [] h.made) t h s kids X g f e.0.wired (λ o. IsBare (log_in o []) × (firings_in (log_in o []) ≡ 0))
      (λ H core r x. composite-path rows below sound t u h₀ c₀ d₀ kids₀ h s g kids l c e f X core r x)

  -- a firing under way in a child is one that the child's step comes to
  abbrev pub Comes : Type 0
  Comes = (i : ℕ) (u : Bool) (n₀ n : Node T A) (l : Log T) (f : IsFitting n) (c : ClosedIn rows u n₀ l idle) (e : KeptIn rows u n₀ n l) (t : Tag) (X : Streams T) (p : Path) (b : Begun T) → ((sound i).under_way u n₀ n l f c e t X).0 p ≡ Some b →
      ComesTo rows p (below_child i m) (λ q. firings_in (log_then l (log_in (below i t n X)) q)) n t X b

  abbrev pub InChild : Past → Core T → Nodes T A → Tag → Streams T → Log T → (i : ℕ) (p : Path) (b : Begun T) → Type 0
  InChild h g kids t X all i p b =
      (child : Child (Node T A)) × (within : Tag) × (got : Streams T) × IsAsked (child_facts (facts_of rows)) (child_step below) (m [] h.made) h.made g (numbered 0 (list_of kids)) t X i child within got × ComesTo rows p (below_child i m) (λ q. firings_in (all (i ∷ q))) child.node within got b

  pub level-ways : (u : Bool) (h₀ : Past) (c₀ d₀ : Core T) (kids₀ : Nodes T A) (h : Past) (s g : Core T) (kids : Nodes T A) (l : Log T) → IsFitting (Composite h s g kids) → ClosedIn rows u (Composite h₀ c₀ d₀ kids₀) l idle → KeptIn rows u (Composite h₀ c₀ d₀ kids₀) (Composite h s g kids) l → (t : Tag) (X : Streams T) →
      (way : UnderWay T) × (way [] ≡ Some (record { tag = t; inputs = X })) × ClosedIn rows u (Composite h₀ c₀ d₀ kids₀) (log_then l (log_in (next t (Composite h s g kids) X))) way ×
      (Comes → (i : ℕ) (p : Path) (b : Begun T) → way (i ∷ p) ≡ Some b → InChild h g kids t X (log_then l (log_in (next t (Composite h s g kids) X))) i p b)
  level-ways u h₀ c₀ d₀ kids₀ h s g kids l f c e t X =
      director-explained rows law k d m (m [] h.made) t h s kids X g f e.0.wired
      (λ o. (way : UnderWay T) × (way [] ≡ Some (record { tag = t; inputs = X })) × ClosedIn rows u (Composite h₀ c₀ d₀ kids₀) (log_then l (log_in o)) way × (Comes → (i : ℕ) (p : Path) (b : Begun T) → way (i ∷ p) ≡ Some b → InChild h g kids t X (log_then l (log_in o)) i p b))
      (λ H core r x. (
        all-ways rows below sound t u h₀ c₀ d₀ kids₀ h s g kids l c e f X core r x,
        composite-way rows below sound t u h₀ c₀ d₀ kids₀ h s g kids l c e f X core r x,
        composite-under rows below sound t u h₀ c₀ d₀ kids₀ h s g kids l c e f X core r x,
        λ comes i p b w.
            let y = composite-comes rows below sound t u h₀ c₀ d₀ kids₀ h s g kids l c e f X core r x (λ j q count n v Y z. ComesTo rows q (below_child j m) count n v Y z) comes i p b w in
            (x.ends i, y.0.tag, y.0.inputs, x.asked i y.0 y.1, y.2),
      ))

  level-under : (u : Bool) (n₀ n : Node T A) (l : Log T) → IsFitting n → ClosedIn rows u n₀ l idle → KeptIn rows u n₀ n l → (t : Tag) (X : Streams T) → (way : UnderWay T) × (way [] ≡ Some (record { tag = t; inputs = X })) × ClosedIn rows u n₀ (log_then l (log_in (next t n X))) way
  unfolding begun
  level-under u n₀ (Actor h a b) l f c e t X = (begun rows t X, refl, subst (λ (v : Log T). ClosedIn rows u n₀ (log_then l v) (begun rows t X)) (sym (actor-quiet rows t X h a (rows.react t b X))) (begun-closed rows t X u n₀ (Actor h a b) l c e))
  level-under u (Actor h₀ a₀ b₀) (Composite h s g kids) l f c e t X = absurd e
  level-under u (Composite h₀ c₀ d₀ kids₀) (Composite h s g kids) l f c e t X = let r = level-ways u h₀ c₀ d₀ kids₀ h s g kids l f c e t X in (r.0, r.1, r.2)

  level-done : (u : Bool) (n₀ n z : Node T A) (l : Log T) → IsFitting n → ClosedIn rows u n₀ l idle → KeptIn rows u n₀ n l → (t : Tag) (X out : Streams T) (j : Log T) → next t n X ≡ Done z out j →
      ClosedIn rows u n₀ (log_then l (log_then j (own (record { number = made_of n; tag = t; inputs = X; outputs = out })))) idle × KeptIn rows u n₀ z (log_then l (log_then j (own (record { number = made_of n; tag = t; inputs = X; outputs = out }))))
  level-done u (Actor h₀ a₀ b₀) (Actor h a b) z l f c e t X out j w = actor-done rows t X u h₀ h a₀ b₀ a b l c e (rows.react t b X) refl z out j w
  level-done u (Composite h₀ c₀ d₀ kids₀) (Actor h a b) z l f c e t X out j w = absurd e
  level-done u (Actor h₀ a₀ b₀) (Composite h s g kids) z l f c e t X out j w = absurd e
  level-done u (Composite h₀ c₀ d₀ kids₀) (Composite h s g kids) z l f c e t X out j w =
      director-explained rows law k d m (m [] h.made) t h s kids X g f e.0.wired
      (λ o. o ≡ Done z out j → ClosedIn rows u (Composite h₀ c₀ d₀ kids₀) (log_then l (log_then j (own (record { number = h.made; tag = t; inputs = X; outputs = out })))) idle × KeptIn rows u (Composite h₀ c₀ d₀ kids₀) z (log_then l (log_then j (own (record { number = h.made; tag = t; inputs = X; outputs = out })))))
      (λ H core r x q. composite-done rows below sound t u h₀ c₀ d₀ kids₀ h s g kids l c e f X core r x z out j q) w

-- every step
pub sound-at : {T A : Type 0} (rows : Rows T A) → LawfulRows rows → (k d : ℕ) (m : Meets) → SoundStep rows (step_at rows k d m)
unfolding step_at begun
sound-at rows law k zero m = record {
  own_path = λ u n₀ n l f c e t X. (λ v g. absurd g, refl);
  fits = λ t n z X out l f e. ((firing-keeps rows k 0 m t n z X out l e).1 f).0;
  under_way = λ u n₀ n l f c e t X. (begun rows t X, refl, begun-closed rows t X u n₀ n l c e);
  done = λ u n₀ n z l f c e t X out j w. absurd (cc);
}
sound-at rows law k (suc d) m = record {
  own_path = level-path rows law k d m (λ i. sound-at rows law k d (below_child i m));
  fits = λ t n z X out l f e. ((firing-keeps rows k (suc d) m t n z X out l e).1 f).0;
  under_way = level-under rows law k d m (λ i. sound-at rows law k d (below_child i m));
  done = level-done rows law k d m (λ i. sound-at rows law k d (below_child i m));
}

-- each firing under way in a step is one that the step comes to
pub comes-at : {T A : Type 0} (rows : Rows T A) (law : LawfulRows rows) (k d : ℕ) (m : Meets) (u : Bool) (n₀ n : Node T A) (l : Log T) (f : IsFitting n) (c : ClosedIn rows u n₀ l idle) (e : KeptIn rows u n₀ n l) (t : Tag) (X : Streams T) (p : Path) (b : Begun T) → ((sound-at rows law k d m).under_way u n₀ n l f c e t X).0 p ≡ Some b →
    ComesTo rows p m (λ q. firings_in (log_then l (log_in (step_at rows k d m t n X)) q)) n t X b
unfolding sound-at step_at begun level-under
comes-at {T} {A} rows law k d m u n₀ n l f c e t X [] b g = (made, sym (same (sym (((sound-at rows law k d m).under_way u n₀ n l f c e t X).1) ∙ g)))
  where
    same : Some (record { tag = t; inputs = X }) ≡ Some b → record { tag = t; inputs = X } ≡ b
    same h = cc

    made : made_of n ≡ firings_in (l [] ++ log_in (step_at rows k d m t n X) [])
    made = omega (arith, count-append (l []) (log_in (step_at rows k d m t n X) []), ((sound-at rows law k d m).own_path u n₀ n l f c e t X).1, kept-made rows u n₀ n l e)
comes-at rows law k zero m u n₀ n l f c e t X (i ∷ p) b g = absurd (cc)
comes-at rows law k (suc d) m u n₀ (Actor h a s) l f c e t X (i ∷ p) b g = absurd (cc)
comes-at rows law k (suc d) m u (Actor h₀ a₀ s₀) (Composite h s o kids) l f c e t X (i ∷ p) b g = absurd e
comes-at rows law k (suc d) m u (Composite h₀ c₀ d₀ kids₀) (Composite h s o kids) l f c e t X (i ∷ p) b g =
    let r = (level-ways rows law k d m (λ j. sound-at rows law k d (below_child j m)) u h₀ c₀ d₀ kids₀ h s o kids l f c e t X).3 (λ j. comes-at rows law k d (below_child j m)) i p b g in (
      omega (arith, count-append (l []) (log_in (step_at rows k (suc d) m t (Composite h s o kids) X) []), ((sound-at rows law k (suc d) m).own_path u (Composite h₀ c₀ d₀ kids₀) (Composite h s o kids) l f c e t X).1, e.0.made),
      k,
      d,
      r.0,
      r.1,
      r.2,
      r.3,
      r.4,
    )
