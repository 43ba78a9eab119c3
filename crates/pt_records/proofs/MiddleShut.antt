-- The log of a composite of any director that was left off in the middle of a firing is shut, where those of its children are.
use Rattle.std.proofs.Common.{◌≡◌, ◌⊎◌, ℕ, zero, suc, ◌+◌, ◌≤◌, List, [], ◌∷◌, ◌++◌, Bool, true, false, ◌||◌, nat_le, length, Option, Some, None, inl, inr, refl, sym, ap, ap₂, subst, arith, ◌∙◌, append-nil, append_assoc}
use Rattle.std.proofs.Math.Path.{fun_ext}
use Rattle.pt_meaning.specs.Tag.{Tag}
use Rattle.pt_meaning.specs.Streams as values
use Rattle.pt_meaning.specs.Streams.{IsPrefix, Streams, get}
use Rattle.pt_meaning.specs.Log.{Path, Log, Firing, Event, Finished, firings_in, silent, log_then, log_below, within_firing, all_marked}
use Rattle.pt_meaning.specs.Machine.{Fault, Outcome, Stepping, Facts, Partial, Known, partial_at}
use Rattle.pt_meaning.specs.Net.{Inside, Source, Own, Output}
use Rattle.pt_meaning.specs.Meetings.{Meets, below_child}
use Rattle.pt_meaning.specs.Children.{Child, numbered, child_facts, child_step}
use Rattle.pt_meaning.specs.Tree.{Rows, Core, Past, Node, Nodes, Actor, Composite, list_of, height, heights}
use Rattle.pt_meaning.specs.NodeFacts.{facts_of, early_of}
use Rattle.pt_meaning.specs.Step.{as_node, step_at}
use Rattle.pt_meaning.specs.Lawful.{LawfulRows}
use Rattle.pt_meaning.specs.Closed as closed_laws
use Rattle.pt_meaning.specs.Closed.{Has, child_of, if_there, node_at, actor_of, actor_at, state_after, Begun, UnderWay, these_if, given, is_modal, keeps_tokens, rounds_of, inputs_at, outputs_at, begun_at, ComesTo, MayKnow}
use Rattle.pt_laws.specs.Channels as channels
use Rattle.pt_laws.specs.Heights.{IsFitting}
use Rattle.pt_laws.specs.LogsOfRuns.{log_in, log_at}
use Rattle.pt_laws.specs.SoundRuns.{all_unmarked, log_in_child, idle, ClosedIn, KeptIn, on_place, part, all_of, takes_now, gives_now, SoundStep}
use Rattle.pt_laws.specs.Explained.{Turned, of_turns, gives_in, takes_in, Explained, MaySay, Nothing, Absence, Gives, Early, IsTakenWell}
use Rattle.pt_laws.specs.WholeRuns.{ComesLater, LaterStep}
use Rattle.pt_laws.proofs.JoinLaws.{log-assoc}
use Rattle.pt_laws.proofs.HeightLaws.{numbered-length, levels-agree}
use Rattle.pt_laws.proofs.CompositeLaws.{steps-grow}
use Rattle.pt_laws.proofs.RecordLaws.{le-true, all-append, all-quiet}
use Rattle.pt_laws.proofs.ChannelLaws.{SamePlace, same-place}
use Rattle.pt_laws.proofs.ClosedLaws.{count-unmarked, unmarked-none, split-unmarked, state-unmarked, child-closed, child-or-beyond}
use Rattle.pt_laws.proofs.LevelLaws.{added, count-append, own-up, given-up, given-none, has-left, has-right, level-under-way, unmarked-append, unmarked-marked}
use Rattle.pt_laws.proofs.ChainLaws.{numbered-get, kept-child, fitting-child, ChainSound, chain-sound}
use Rattle.pt_laws.proofs.SoundLaws.{below-log}
use Rattle.pt_laws.proofs.ClosedSteps.{director-explained, sound-at}
use Rattle.pt_laws.proofs.LaterLaws.{later-below, later-nothing}
use Rattle.pt_laws.proofs.LaterSteps.{later-at, composite-inside, none-there, logged}
use Rattle.pt_laws.proofs.WholeSteps.{EndsOff, child-whole, whole-at}
use Rattle.pt_laws.proofs.WholeMeaning.{log-behind}
use Rattle.pt_records.specs.Shut.{HasCome}
use Rattle.pt_records.specs.Middle.{HasMade, IsLeft, IsLeftAt, MiddlesAreShut}
use Rattle.pt_records.proofs.ShutSteps.{from-greater}

child-within : {T A : Type 0} (ks : Nodes T A) (i : ℕ) (k : Node T A) → child_of ks i ≡ Some k → suc i ≤ length (list_of ks)
child-within Nodes.none i k e = absurd (cc)
child-within (Nodes.more x ks) zero k e = omega arith
child-within (Nodes.more x ks) (suc i) k e = omega (arith, child-within ks i k e)

-- all below a composite's number, with nothing of its own
within-none : {T : Type 0} (n : ℕ) (ls : List (Log T)) → within_firing n (log_below ls) ≡ added n [] (log_below ls)
within-none {T} n ls = fun_ext one
  where
    one : (p : Path) → within_firing n (log_below ls) p ≡ added n [] (log_below ls) p
    one [] = refl
    one (i ∷ p) = refl

module _ {T A : Type 0} (rows : Rows T A) (law : LawfulRows rows) (k : ℕ) (m : Meets) (tag : Tag) (h : Past) (c : Core T) (state : Core T) (kids : Nodes T A) (inputs : Streams T) (now : List (Child (Node T A))) (ls logs : List (Log T)) (begun : ℕ → Option (Begun T)) (at : ℕ → Option Fault) (place : Option Fault) (rest : ℕ → Log T)
    (x : IsLeftAt rows k m tag h state kids inputs now ls logs begun at place rest) (u : Bool) (h₀ : Past) (c₀ d₀ : Core T) (kids₀ : Nodes T A) (l : Log T) (come : HasCome rows u (Composite h₀ c₀ d₀ kids₀) (Composite h c state kids) l) where
  abbrev d : ℕ
  d = heights kids

  abbrev steps : ℕ → Stepping T (Node T A)
  steps i = step_at rows k d (below_child i m)

  abbrev facts : Facts T (Child (Node T A))
  facts = child_facts (facts_of rows)

  abbrev its : List (Child (Node T A))
  its = numbered 0 (list_of kids)

  abbrev v : Bool
  v = u || is_modal c₀

  abbrev turns : ℕ → List (Turned T)
  turns i = x.turns i

  sound : (i : ℕ) → SoundStep rows (steps i)
  sound i = sound-at rows law k d (below_child i m)

  later : (i : ℕ) → LaterStep rows (steps i)
  later i = later-at rows law k d (below_child i m)

  counts : length (list_of kids) ≡ length (list_of kids₀)
  counts = come.kept.0.counts

  -- each child with what it has finished
  record FinishedAt (i : ℕ) (k₀ : Node T A) : Type 0 where
    child : Node T A
    fits : IsFitting child
    closed : ClosedIn rows v k₀ (log_in_child i l) idle
    kept : KeptIn rows v k₀ child (log_in_child i l)
    there : get its i ≡ Some (record { number = 0 + i; node = child })
    made : HasMade facts (child_step steps) now ls (record { number = 0 + i; node = child }) i (turns i)
    done : ChainSound rows v k₀ i (log_in_child i l) (log_at ls i) (turns i) made.end

  finished : (i : ℕ) (k₀ : Node T A) → child_of kids₀ i ≡ Some k₀ → FinishedAt i k₀
  finished i k₀ e =
      let zero_i : 0 + i ≡ i = omega arith in
      let y = kept-child rows v kids₀ kids 0 i l k₀ come.kept.1 e in
      let kept : KeptIn rows v k₀ y.0 (log_in_child i l) = subst (λ w. KeptIn rows v k₀ y.0 (log_in_child w l)) zero_i y.2 in
      let closed : ClosedIn rows v k₀ (log_in_child i l) idle = subst (λ w. ClosedIn rows v k₀ (log_in_child w l) idle) zero_i (child-closed rows v kids₀ 0 i k₀ l idle come.closed.2 e) in
      let fits : IsFitting y.0 = fitting-child kids i y.0 come.fitting.2 y.1 in
      let s : Child (Node T A) = record { number = 0 + i; node = y.0 } in
      let there = numbered-get 0 kids i y.0 y.1 in
      let made = x.made i s there in
      record {
        child = y.0;
        fits = fits;
        closed = closed;
        kept = kept;
        there = there;
        made = made;
        done = chain-sound rows steps sound v k₀ i (turns i) s made.end (log_in_child i l) (log_at ls i) zero_i fits closed kept made.chain;
      }

  -- and with what it doesn't finish
  record Left (i : ℕ) (k₀ : Node T A) : Type 0 where
    way : UnderWay T
    under : way [] ≡ begun i
    closed : ClosedIn rows v k₀ (log_then (log_in_child i l) (log_at logs i)) way
    told : (pick : Firing T → List T) → all_of pick (log_at logs i []) ≡ of_turns pick (turns i)
    end : Child (Node T A)
    there : get now i ≡ Some end
    number : end.number ≡ i
    comes : (q : Path) (b : Begun T) → way q ≡ Some b → (asked : Begun T) × (begun i ≡ Some asked) × ComesTo rows q (below_child end.number m) (λ r. firings_in (log_then (log_in_child i l) (log_at logs i) r)) end.node asked.tag asked.inputs b
    placed : (f : Fault) → at i ≡ Some f → (firings_in (log_then (log_in_child i l) (log_at logs i) f.path) ≡ f.firing) × (b : Begun T) × (way f.path ≡ Some b)

  left : (i : ℕ) (k₀ : Node T A) → child_of kids₀ i ≡ Some k₀ → Left i k₀
  left i k₀ e = go (begun i) refl (x.ends i (finished i k₀ e).made.end (finished i k₀ e).made.there)
    where
      y : FinishedAt i k₀
      y = finished i k₀ e

      whole : log_then (log_then (log_in_child i l) (log_at ls i)) (rest i) ≡ log_then (log_in_child i l) (log_at logs i)
      whole = sym (log-assoc (log_in_child i l) (log_at ls i) (rest i)) ∙ ap (λ w. log_then (log_in_child i l) w) (sym (x.joined i))

      told : firings_in (rest i []) ≡ 0 → (pick : Firing T → List T) → all_of pick (log_at logs i []) ≡ of_turns pick (turns i)
      told q pick =
          ap (λ (w : Log T). all_of pick (w [])) (x.joined i) ∙ all-append pick (log_at ls i []) (rest i []) ∙ ap₂ (λ a b. a ++ b) (y.done.told pick) (all-quiet pick (rest i []) q) ∙ append-nil (of_turns pick (turns i))

      none-begun : (b : Begun T) → None ≡ Some b → ⊥
      none-begun b e = cc

      none-placed : (f : Fault) → None ≡ Some f → ⊥
      none-placed f e = cc

      go : (b : Option (Begun T)) → begun i ≡ b → IsLeft rows k d m y.made.end b (at i) (rest i) → Left i k₀
      go None is none = record {
        way = idle;
        under = sym is;
        closed = subst (λ w. ClosedIn rows v k₀ w idle) (sym (ap (λ w. log_then (log_then (log_in_child i l) (log_at ls i)) w) none.0 ∙ fun_ext (λ q. append-nil ((log_then (log_in_child i l) (log_at ls i)) q))) ∙ whole) y.done.closed;
        told = told (ap (λ (w : Log T). firings_in (w [])) none.0);
        end = y.made.end;
        there = y.made.there;
        number = y.done.number;
        comes = λ q b e. absurd (none-begun b e);
        placed = λ f e. absurd (none-placed f (sym none.1 ∙ e));
      }
      go (Some b) is shut =
          let at_end = shut.0 v k₀ (log_then (log_in_child i l) (log_at ls i)) (record { fitting = y.done.fits; closed = y.done.closed; kept = y.done.kept }) in
          record {
            way = at_end.way;
            under = at_end.under ∙ sym is;
            closed = subst (λ w. ClosedIn rows v k₀ w at_end.way) whole at_end.closed;
            told = told at_end.quiet;
            end = y.made.end;
            there = y.made.there;
            number = y.done.number;
            comes = λ q c e. (b, is, subst (λ (w : Log T). ComesTo rows q (below_child y.made.end.number m) (λ r. firings_in (w r)) y.made.end.node b.tag b.inputs c) whole (at_end.comes q c e));
            placed = λ f e. subst (λ (w : Log T). (firings_in (w f.path) ≡ f.firing) × (c : Begun T) × (at_end.way f.path ≡ Some c)) whole (at_end.placed f e);
          }

  -- what is under way
  Child₀ : ℕ → Type 0
  Child₀ i = ((k₀ : Node T A) × (child_of kids₀ i ≡ Some k₀)) ⊎ ((child_of kids₀ i ≡ None) × (length (list_of kids₀) ≤ i))

  in-children : (i : ℕ) → Child₀ i
  unfolding Child₀
  in-children i = child-or-beyond kids₀ i

  ways-at : (i : ℕ) → Child₀ i → UnderWay T
  unfolding Child₀
  ways-at i (inl k₀) = (left i k₀.0 k₀.1).way
  ways-at i (inr b) = idle

  pub all-ways : UnderWay T
  all-ways [] = Some (record { tag = tag; inputs = inputs })
  all-ways (i ∷ q) = ways-at i (in-children i) q

  some-node : (a b : Node T A) → Some a ≡ Some b → a ≡ b
  some-node a b e = cc

  none-node : (o : Option (Node T A)) (n : Node T A) → o ≡ None → o ≡ Some n → ⊥
  none-node o n a b = clash (sym a ∙ b)
    where
      clash : None ≡ Some n → ⊥
      clash e = cc

  silent-beyond : (i : ℕ) → length (list_of kids₀) ≤ i → log_at logs i ≡ silent
  silent-beyond i g =
      let far : length (list_of kids) ≤ i = omega (arith, g, counts) in
      x.joined i ∙ ap₂ (λ (a b : Log T). log_then a b) (x.none i far).0 (x.beyond i far).0

  closed-at : (i : ℕ) (o : Child₀ i) (k₀ : Node T A) → child_of kids₀ i ≡ Some k₀ → ClosedIn rows v k₀ (log_then (log_in_child i l) (part i (log_below logs))) (ways-at i o)
  unfolding Child₀ ways-at
  closed-at i (inl y) k₀ e = subst (λ (n : Node T A). ClosedIn rows v n (log_then (log_in_child i l) (part i (log_below logs))) (left i y.0 y.1).way) (some-node y.0 k₀ (sym y.1 ∙ e)) (subst (λ w. ClosedIn rows v y.0 (log_then (log_in_child i l) w) (left i y.0 y.1).way) (sym (below-log logs i)) (left i y.0 y.1).closed)
  closed-at i (inr b) k₀ e = absurd (none-node (child_of kids₀ i) k₀ b.0 e)

  under-at : (i : ℕ) (o : Child₀ i) → ways-at i o [] ≡ begun i
  unfolding Child₀ ways-at
  under-at i (inl y) = (left i y.0 y.1).under
  under-at i (inr b) = sym ((x.beyond i (omega (arith, b.1, counts))).1)

  idle-beyond : (i : ℕ) (q : Path) → length (list_of kids₀) ≤ i → (o : Child₀ i) → ways-at i o q ≡ None
  unfolding Child₀ ways-at
  idle-beyond i q g (inl y) = absurd (omega (arith, g, child-within kids₀ i y.0 y.1))
  idle-beyond i q g (inr b) = refl

  nothing-beyond : (i : ℕ) (q : Path) → length (list_of kids₀) ≤ i → log_below logs (i ∷ q) ≡ []
  nothing-beyond i q g = ap (λ w. w q) (below-log logs i) ∙ ap (λ w. w q) (silent-beyond i g)

  turns-told : (pick : Firing T → List T) (i : ℕ) (o : Child₀ i) → all_of pick (log_below logs (i ∷ [])) ≡ of_turns pick (turns i)
  unfolding Child₀
  turns-told pick i (inl y) = ap (λ (w : Log T). all_of pick (w [])) (below-log logs i) ∙ (left i y.0 y.1).told pick
  turns-told pick i (inr b) =
      ap (λ (w : Log T). all_of pick (w [])) (below-log logs i ∙ silent-beyond i b.1) ∙
      sym (ap (λ ts. of_turns pick ts) (x.none i (omega (arith, b.1, counts))).1)

  takes-same : (i q : ℕ) → takes_now (log_below logs) all-ways i q ≡ takes_in turns begun i q
  unfolding all-ways
  takes-same i q = ap₂ (λ a b. a ++ begun_at b q) (turns-told (inputs_at q) i (in-children i)) (under-at i (in-children i))

  gives-same : (s : Option Source) → gives_now inputs (log_below logs) s ≡ gives_in inputs turns s
  gives-same None = refl
  gives-same (Some (Own port)) = refl
  gives-same (Some (Output j port)) = turns-told (outputs_at port) j (in-children j)

  pub middle-way : all-ways [] ≡ Some (record { tag = tag; inputs = inputs })
  unfolding all-ways
  middle-way = refl

  -- the firings finished within a child, as the composite's log tells them
  abbrev by_child : ℕ → Path → ℕ
  by_child i = λ r. firings_in (log_then (log_in_child i l) (log_at logs i) r)

  abbrev by_all : ℕ → Path → ℕ
  by_all i = λ r. firings_in (log_then l (within_firing h.made (log_below logs)) (i ∷ r))

  child-counts : (i : ℕ) → by_child i ≡ by_all i
  child-counts i = fun_ext (λ r. one r)
    where
      one : (r : Path) → firings_in (log_in_child i l r ++ log_at logs i r) ≡ firings_in (l (i ∷ r) ++ all_marked h.made (log_below logs (i ∷ r)))
      one r =
          let a = count-append (log_in_child i l r) (log_at logs i r) in
          let b = count-append (l (i ∷ r)) (all_marked h.made (log_below logs (i ∷ r))) in
          let old = count-unmarked (l (i ∷ r)) in
          let new : firings_in (all_marked h.made (log_below logs (i ∷ r))) ≡ firings_in (log_at logs i r) = sym (count-unmarked (all_marked h.made (log_below logs (i ∷ r)))) ∙ ap (λ es. firings_in es) (unmarked-marked h.made (log_below logs (i ∷ r)) ∙ ap (λ (w : Log T). w r) (below-log logs i)) in
          a ∙ ap₂ (λ v w. v + w) old (sym new) ∙ sym b

  -- each firing under way is one that the composite's comes to
  pub middle-comes : (q : Path) (b : Begun T) → all-ways q ≡ Some b → ComesTo rows q m (λ r. firings_in (log_then l (within_firing h.made (log_below logs)) r)) (Composite h c state kids) tag inputs b
  unfolding all-ways Child₀ ways-at
  middle-comes [] b e = (omega (arith, come.kept.0.made, append-count), sym (same e))
    where
      same : Some (record { tag = tag; inputs = inputs }) ≡ Some b → record { tag = tag; inputs = inputs } ≡ b
      same g = cc

      append-count : firings_in (l [] ++ []) ≡ firings_in (l [])
      append-count = ap (λ es. firings_in es) (append-nil (l []))
  middle-comes (i ∷ q) b e = go (in-children i) e
    where
      none-begun : None ≡ Some b → ⊥
      none-begun e = cc

      go : (o : Child₀ i) → ways-at i o q ≡ Some b → ComesTo rows (i ∷ q) m (λ r. firings_in (log_then l (within_firing h.made (log_below logs)) r)) (Composite h c state kids) tag inputs b
      go (inr far) e = absurd (none-begun e)
      go (inl k₀) e =
          let y = left i k₀.0 k₀.1 in
          let w = y.comes q b e in (
            omega (arith, come.kept.0.made, ap (λ es. firings_in es) (append-nil (l []))),
            k,
            d,
            y.end,
            w.0.tag,
            w.0.inputs,
            x.asks i y.end w.0 y.there w.1,
            subst (λ (v : Path → ℕ). ComesTo rows q (below_child i m) v y.end.node w.0.tag w.0.inputs b) (child-counts i) (subst (λ n. ComesTo rows q (below_child n m) (by_child i) y.end.node w.0.tag w.0.inputs b) y.number w.2),
          )

  -- and that of the place is one of them
  pub middle-placed : (f : Fault) → place ≡ Some f → (firings_in (log_then l (within_firing h.made (log_below logs)) f.path) ≡ f.firing) × (b : Begun T) × (all-ways f.path ≡ Some b)
  unfolding all-ways Child₀ ways-at
  middle-placed f e =
      let w = x.placed f e in
      subst (λ (v : Fault). (firings_in (log_then l (within_firing h.made (log_below logs)) v.path) ≡ v.firing) × (b : Begun T) × (all-ways v.path ≡ Some b)) (sym w.3) (go w.0 w.1 w.2 (in-children w.0))
    where
      none-placed : (g : Fault) → None ≡ Some g → ⊥
      none-placed g e = cc

      go : (i : ℕ) (g : Fault) → at i ≡ Some g → (o : Child₀ i) → (firings_in (log_then l (within_firing h.made (log_below logs)) (i ∷ g.path)) ≡ g.firing) × (b : Begun T) × (ways-at i o g.path ≡ Some b)
      go i g a (inl k₀) = let r = (left i k₀.0 k₀.1).placed g a in (ap (λ (v : Path → ℕ). v g.path) (sym (child-counts i)) ∙ r.0, r.1, r.2)
      go i g a (inr far) = absurd (none-placed g (sym ((x.beyond i (omega (arith, far.1, counts))).2) ∙ a))

  -- what may be known of a place, as the log tells it
  abbrev top₀ : Node T A
  top₀ = Composite h₀ c₀ d₀ kids₀

  abbrev new : Log T
  new = log_below logs

  abbrev so_far : Log T
  so_far = log_then l (added h.made [] new)

  all-made : firings_in (l [] ++ []) ≡ h.made
  all-made = let a = count-append (l []) [] in omega (arith, a, come.kept.0.made)

  own-none : (ns : List ℕ) (f : Firing T) → Has (Finished ns f) [] → f.number ≡ h.made
  own-none ns f g = absurd g

  given-same : (s : Option Source) → given rows top₀ so_far all-ways [] s h.made h.made ≡ gives_in inputs turns s
  unfolding all-ways
  given-same None = refl
  given-same (Some (Own port)) =
      ap₂ (λ a b. a ++ these_if b (values.at inputs port) [])
      (own-up rows u h₀ c₀ d₀ kids₀ l come.closed [] new all-ways h.made come.kept.0.made come.kept.0.numbers own-none port h.made h.made (omega arith) (omega arith) ∙
      ap (λ a. a ++ []) (given-none rows u h₀ c₀ d₀ kids₀ l come.closed [] new all-ways h.made come.kept.0.made come.kept.0.numbers own-none (Some (Own port))))
      (ap (λ w. nat_le w h.made) all-made ∙ le-true h.made h.made (omega arith)) ∙
      append-nil (values.at inputs port)
  given-same (Some (Output j port)) =
      given-up rows u h₀ c₀ d₀ kids₀ l come.closed [] new all-ways h.made come.kept.0.made come.kept.0.numbers own-none j port h.made h.made (omega arith) (omega arith) ∙
      ap (λ a. a ++ all_of (outputs_at port) (new (j ∷ []))) (given-none rows u h₀ c₀ d₀ kids₀ l come.closed [] new all-ways h.made come.kept.0.made come.kept.0.numbers own-none (Some (Output j port))) ∙ turns-told (outputs_at port) j (in-children j)

  -- a library actor's state, where its composite's firing began
  record LedTo (j : ℕ) (s : Child (Node T A)) (port : ℕ) (vs : List (Partial T)) (xs : List T) : Type 0 where
    start : A
    led_state : A
    before : List (Event T)
    since : List (Event T)
    after : List (Event T)
    is_actor : actor_at (j ∷ []) top₀ ≡ Some start
    events : so_far (j ∷ []) ≡ before ++ (since ++ after)
    led : state_after rows since start ≡ Some led_state
    reset : (before ≡ []) ⊎ (v ≡ true)
    early : partial_at (rows.early tag led_state vs) port ≡ Known xs

  led-to : (j : ℕ) (s : Child (Node T A)) (port : ℕ) (vs : List (Partial T)) (xs : List T) → get its j ≡ Some s → partial_at (early_of rows tag s.node vs) port ≡ Known xs → Child₀ j → LedTo j s port vs xs
  unfolding Child₀
  led-to j s port vs xs e g (inr b) = absurd (beyond-get its j (omega (arith, b.1, counts, numbered-length 0 (list_of kids))) e)
    where
      beyond-get : (ys : List (Child (Node T A))) (j : ℕ) → length ys ≤ j → get ys j ≡ Some s → ⊥
      beyond-get [] j g e = clash e
        where
          clash : None ≡ Some s → ⊥
          clash e = cc
      beyond-get (y ∷ ys) zero g e = omega arith
      beyond-get (y ∷ ys) (suc j) g e = beyond-get ys j (omega (arith, g)) e
  led-to j s port vs xs e g (inl k₀) =
      let zero_j : 0 + j ≡ j = omega arith in
      let k = kept-child rows v kids₀ kids 0 j l k₀.0 come.kept.1 k₀.1 in
      let same : s.node ≡ k.0 = some-child k.0 (sym e ∙ numbered-get 0 kids j k.0 k.1) in
      by_node k₀.0 k.0 k₀.1 (subst (λ w. KeptIn rows v k₀.0 k.0 (log_in_child w l)) zero_j k.2) (ap (λ (w : Node T A). partial_at (early_of rows tag w vs) port) (sym same) ∙ g)
    where
      some-child : (n : Node T A) → Some s ≡ Some (record { number = 0 + j; node = n }) → s.node ≡ n
      some-child n e = ap (λ w. node_or w) e
        where
          node_or : Option (Child (Node T A)) → Node T A
          node_or None = s.node
          node_or (Some z) = z.node

      from_start : (b bs : List (Event T)) → all_unmarked b ≡ bs → (bs ≡ []) ⊎ (v ≡ true) → (b ≡ []) ⊎ (v ≡ true)
      from_start b bs e (inl g) = inl (unmarked-none b (e ∙ g))
      from_start b bs e (inr g) = inr g

      by_node : (n₀ n : Node T A) → child_of kids₀ j ≡ Some n₀ → KeptIn rows v n₀ n (log_in_child j l) → partial_at (early_of rows tag n vs) port ≡ Known xs → LedTo j s port vs xs
      by_node (Actor q₀ a₀ b₀) (Actor q a b) f kept g =
          let w = split-unmarked (l (j ∷ [])) kept.2.0 kept.2.1 kept.2.2 in
          record {
            start = a₀;
            led_state = b;
            before = w.0;
            since = w.1;
            after = all_marked h.made (new (j ∷ []));
            is_actor = ap (λ o. if_there actor_of (if_there (node_at []) o)) f;
            events = ap (λ es. es ++ all_marked h.made (new (j ∷ []))) w.2 ∙ append_assoc w.0 w.1 (all_marked h.made (new (j ∷ [])));
            led = sym (state-unmarked rows w.1 a₀) ∙ ap (λ es. state_after rows es a₀) w.3 ∙ kept.2.3;
            early = g;
            reset = from_start w.0 kept.2.0 w.4 kept.2.4;
          }
      by_node (Actor q₀ a₀ b₀) (Composite q r s' ks) f kept g = absurd kept
      by_node (Composite q₀ r₀ s₀ ks₀) (Actor q a b) f kept g = absurd kept
      by_node (Composite q₀ r₀ s₀ ks₀) (Composite q r s' ks) f kept g = absurd (cc)

  may-know : (i q : ℕ) (w : Partial T) → MaySay facts state its inputs turns tag i q w → MayKnow rows top₀ so_far all-ways u [] c₀ h.made tag i q w
  may-know i q w (Nothing a b) = MayKnow.Nothing i q
  may-know i q w (Absence a b) = MayKnow.Absence i q
  may-know i q w (Gives a b) = by_place (same-place c₀ i q)
    where
      by_place : SamePlace c₀ i q → MayKnow rows top₀ so_far all-ways u [] c₀ h.made tag i q (Known (gives_in inputs turns (channels.source_of state i q)))
      by_place (inl e) =
          subst (λ xs. MayKnow rows top₀ so_far all-ways u [] c₀ h.made tag i q (Known xs)) (given-same (closed_laws.source_of c₀ i q) ∙ ap (λ s. gives_in inputs turns s) (e.0 ∙ sym (come.kept.0.plan.sources i q))) (MayKnow.Gave i q)
      by_place (inr e) = subst (λ s. MayKnow rows top₀ so_far all-ways u [] c₀ h.made tag i q (Known (gives_in inputs turns s))) (sym (come.kept.0.plan.sources i q ∙ e.0)) (MayKnow.Absence i q)
  may-know i q w (Early a b j port s vs xs f e g t) = by_place (same-place c₀ i q) (λ place. may-know j place (partial_at vs place) (g place))
    where
      no-source : None ≡ Some (Output j port) → ⊥
      no-source e = cc

      by_place : SamePlace c₀ i q → ((place : ℕ) → MayKnow rows top₀ so_far all-ways u [] c₀ h.made tag j place (partial_at vs place)) → MayKnow rows top₀ so_far all-ways u [] c₀ h.made tag i q (Known xs)
      by_place (inr y) ih = absurd (no-source (sym y.0 ∙ sym (come.kept.0.plan.sources i q) ∙ f))
      by_place (inl y) ih =
          let z = led-to j s port vs xs e t (in-children j) in
          MayKnow.Early i q j port z.start z.led_state z.before z.since z.after vs xs (y.0 ∙ sym (come.kept.0.plan.sources i q) ∙ f) z.is_actor z.events z.reset z.led ih z.early

  taken-now : (i q : ℕ) → IsPrefix (takes_now new all-ways i q) (on_place state i q ++ gives_now inputs new (channels.source_of state i q)) ⊎ ((keeps_tokens c₀ ≡ false) × (xs : List T) × MayKnow rows top₀ so_far all-ways u [] c₀ h.made tag i q (Known xs) × IsPrefix (takes_now new all-ways i q) xs)
  taken-now i q = go (x.takes i q)
    where
      go : IsTakenWell facts state its inputs turns begun tag i q →
          IsPrefix (takes_now new all-ways i q) (on_place state i q ++ gives_now inputs new (channels.source_of state i q)) ⊎ ((keeps_tokens c₀ ≡ false) × (xs : List T) × MayKnow rows top₀ so_far all-ways u [] c₀ h.made tag i q (Known xs) × IsPrefix (takes_now new all-ways i q) xs)
      go (inl g) = inl (subst (λ a. IsPrefix a (on_place state i q ++ gives_now inputs new (channels.source_of state i q))) (sym (takes-same i q)) (subst (λ a. IsPrefix (takes_in turns begun i q) (on_place state i q ++ a)) (sym (gives-same (channels.source_of state i q))) g))
      go (inr g) = inr (sym come.kept.0.plan.keeps ∙ g.0, g.1, may-know i q (Known g.1) g.2, subst (λ a. IsPrefix a g.1) (sym (takes-same i q)) g.3)

  pub middle-closed : ClosedIn rows u (Composite h₀ c₀ d₀ kids₀) (log_then l (within_firing h.made (log_below logs))) all-ways
  unfolding all-ways
  middle-closed =
      subst (λ w. ClosedIn rows u (Composite h₀ c₀ d₀ kids₀) (log_then l w) all-ways) (sym (within-none h.made logs))
      (level-under-way rows u h₀ c₀ d₀ kids₀ h c state (length (list_of kids)) l come.closed come.kept.0 [] (λ e g. absurd g) refl (log_below logs) tag inputs all-ways refl
      (λ i b e. x.tagged i b (sym (under-at i (in-children i)) ∙ e)) (λ i q g. (nothing-beyond i q g, idle-beyond i q g (in-children i))) taken-now (λ i n e. closed-at i (in-children i) n e))

  -- what a child has logged of a firing that it doesn't finish
  asked-off : (i : ℕ) (k₀ : Node T A) (z : Child (Node T A)) → z.number ≡ i → (b : Option (Begun T)) → IsLeft rows k d m z b (at i) (rest i) → EndsOff rows steps v k₀ z (rest i)
  asked-off i k₀ z e None none = inl none.0
  asked-off i k₀ z e (Some b) shut = inr (λ lz f s g.
      let at_end = shut.0 v k₀ lz (record { fitting = f; closed = s; kept = g }) in
      let w = log-behind _ _ shut.2 in
      record {
        quiet = at_end.quiet;
        inside = λ j r y t. (later z.number).inside v k₀ z.node lz f s g b.tag b.inputs j r y (subst (λ (n : Log T). Has y (n (j ∷ r))) (sym w.1) (has-left y (rest i (j ∷ r)) (w.0 (j ∷ r)) t));
        whole = λ tag' X' more same. at_end.later k tag' X' more (ap (λ o. log_in o) (levels-agree rows k (height z.node) d (below_child z.number m) tag' z.node X' (omega arith) shut.1) ∙ same);
      })

  -- a firing at this fuel logs later what is behind
  module _ {H : Type 0} (tag' : Tag) (X' : Streams T) (core : H → Core T) (r : Outcome T (Inside H (Child (Node T A)))) (y : Explained facts (child_step steps) (m [] h.made) h.made tag' X' state core its r) (more : Log T) (same : log_in (as_node tag' h c core r) ≡ log_then (within_firing h.made (log_below logs)) more) where
    abbrev here : Log T
    here = within_firing h.made (log_below logs)

    log-of : (i : ℕ) → log_in_child i here ≡ log_at logs i
    log-of i = fun_ext (λ q. unmarked-marked h.made (log_below logs (i ∷ q))) ∙ below-log logs i

    further-log : (i : ℕ) → log_in_child i (log_in (as_node tag' h c core r)) ≡ log_at y.logs i
    further-log i = logged rows steps sound later tag' u h₀ c₀ d₀ kids₀ h c state kids l come.closed come.kept come.fitting X' core r y i

    joined : (i : ℕ) → log_at y.logs i ≡ log_then (log_at logs i) (log_in_child i more)
    joined i = sym (further-log i) ∙ ap (λ w. log_in_child i w) same ∙ fun_ext (λ q. unmarked-append (here (i ∷ q)) (more (i ∷ q))) ∙ ap (λ w. log_then w (log_in_child i more)) (log-of i)

    level : (i : ℕ) (q : Path) (e : Event T) → Has e (more (i ∷ q)) → (n : ℕ) × (ns : List ℕ) × (rounds_of e ≡ n ∷ ns) × (firings_in (l [] ++ here []) ≤ n)
    level i q e g =
        let w = composite-inside rows steps sound later tag' u h₀ c₀ d₀ kids₀ h c state kids l come.closed come.kept come.fitting X' core r y i q e (subst (λ (n : Log T). Has e (n (i ∷ q))) (sym same) (has-right e (here (i ∷ q)) (more (i ∷ q)) g)) in
        (h.made, w.0, w.1, omega (arith, count-append (l []) (here []), come.kept.0.made))

    below : (i : ℕ) → ((k₀ : Node T A) × (child_of kids₀ i ≡ Some k₀)) ⊎ ((child_of kids₀ i ≡ None) × (length (list_of kids₀) ≤ i)) → ComesLater (log_in_child i (log_then l here)) (log_in_child i more)
    below i (inl k₀) =
        let f = finished i k₀.0 k₀.1 in
        let s : Child (Node T A) = record { number = 0 + i; node = f.child } in
        let its_part = y.parts i s f.there in
        let inside = child-whole rows steps steps sound sound later later (λ j. whole-at rows law k k d d (omega arith) (omega arith) (below_child j m)) (steps-grow rows law m k k d d (omega arith) (omega arith)) v k₀.0 (turns i) s f.made.end (log_in_child i l) (log_at ls i) (rest i) f.fits f.closed f.kept f.made.chain
        (asked-off i k₀.0 f.made.end f.done.number (begun i) (x.ends i f.made.end f.made.there)) (y.turns i) (y.ends i) its_part.first its_part.rest (y.way i) its_part.chain its_part.ends (log_in_child i more)
        (sym its_part.whole ∙ joined i ∙ ap (λ w. log_then w (log_in_child i more)) (x.joined i))
        in
        subst (λ w. ComesLater w (log_in_child i more)) (ap (λ w. log_then (log_in_child i l) w) (sym (log-of i ∙ x.joined i)) ∙ sym (fun_ext (λ q. unmarked-append (l (i ∷ q)) (here (i ∷ q))))) inside
    below i (inr b) =
        let none' : log_at y.logs i ≡ silent = none-there rows steps sound later tag' u h₀ c₀ d₀ kids₀ h c state kids l come.closed come.kept come.fitting X' core r y i b.1 in
        let nothing : log_in_child i more ≡ silent = sym (joined i ∙ ap (λ w. log_then w (log_in_child i more)) (silent-beyond i b.1)) ∙ none' in
        subst (λ w. ComesLater (log_in_child i (log_then l here)) w) (sym nothing) (later-nothing (log_in_child i (log_then l here)))

    explained-later : ComesLater (log_then l here) more
    explained-later = later-below (log_then l here) more level (λ i. below i (child-or-beyond kids₀ i))

  pub middle-later : (tag' : Tag) (X' : Streams T) (more : Log T) → log_in (step_at rows k (suc d) m tag' (Composite h c state kids) X') ≡ log_then (within_firing h.made (log_below logs)) more → ComesLater (log_then l (within_firing h.made (log_below logs))) more
  unfolding step_at
  middle-later tag' X' more same =
      director-explained rows law k d m (m [] h.made) tag' h c kids X' state come.fitting come.kept.0.wired (λ o. log_in o ≡ log_then (within_firing h.made (log_below logs)) more → ComesLater (log_then l (within_firing h.made (log_below logs))) more)
      (λ H core r y e. explained-later tag' X' core r y more e) same

-- in the middle from some fuel on
pub middle-is-shut : {T A : Type 0} → MiddlesAreShut T A
middle-is-shut rows law m tag h c state kids inputs now ls logs begun at place rest k₀ x u (Actor h₀ a₀ b₀) l come = absurd come.kept
middle-is-shut rows law m tag h c state kids inputs now ls logs begun at place rest k₀ x u (Composite h₀ c₀ d₀ kids₀) l come =
    let first = x come.fitting k₀ (omega arith) in
    record {
      quiet = refl;
      way = all-ways rows law k₀ m tag h c state kids inputs now ls logs begun at place rest first u h₀ c₀ d₀ kids₀ l come;
      under = middle-way rows law k₀ m tag h c state kids inputs now ls logs begun at place rest first u h₀ c₀ d₀ kids₀ l come;
      closed = middle-closed rows law k₀ m tag h c state kids inputs now ls logs begun at place rest first u h₀ c₀ d₀ kids₀ l come;
      comes = middle-comes rows law k₀ m tag h c state kids inputs now ls logs begun at place rest first u h₀ c₀ d₀ kids₀ l come;
      placed = middle-placed rows law k₀ m tag h c state kids inputs now ls logs begun at place rest first u h₀ c₀ d₀ kids₀ l come;
      later = from-greater rows law m (Composite h c state kids) l (within_firing h.made (log_below logs)) k₀ (suc (heights kids))
          (λ k o. middle-later rows law k m tag h c state kids inputs now ls logs begun at place rest (x come.fitting k o) u h₀ c₀ d₀ kids₀ l come);
    }
