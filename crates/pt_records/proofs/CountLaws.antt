-- The numbers of finished firings grow with the log, under every director.
use Rattle.std.proofs.Common.{◌≡◌, ℕ, zero, suc, ◌+◌, ◌≤◌, List, [], ◌∷◌, ◌++◌, true, length, Option, Some, None, refl, sym, ap, subst, arith, ◌∙◌, ◌⊎◌, inl, inr, append-nil}
use Rattle.std.proofs.Math.Path.{fun_ext}
use Rattle.pt_meaning.specs.Tag.{Tag}
use Rattle.pt_meaning.specs.Streams.{Streams, get}
use Rattle.pt_meaning.specs.Log.{Path, Log, Firing, Meeting, Event, Finished, Met, firings_in, silent, log_then, own, log_below, within_firing, all_marked}
use Rattle.pt_meaning.specs.Machine.{Outcome, Done, Stuck, Stepping, recorded}
use Rattle.pt_meaning.specs.Net.{Inside}
use Rattle.pt_meaning.specs.Meetings.{Meets, below_child}
use Rattle.pt_meaning.specs.Children.{Child, numbered, nodes, child_facts, child_step}
use Rattle.pt_meaning.specs.Tree.{Rows, Answer, Gives, Fails, Core, Past, Node, Nodes, Actor, Composite, none, more, list_of, nodes_of, made_of, fired_at, height, reset_of, reset_all}
use Rattle.pt_meaning.specs.NodeFacts.{facts_of}
use Rattle.pt_meaning.specs.Step.{actor_outcome, as_node, level, step_at, Step}
use Rattle.pt_meaning.specs.Lawful.{LawfulRows}
use Rattle.pt_laws.specs.Heights.{IsFitting}
use Rattle.pt_meaning.specs.Closed.{Begun, child_of, is_modal}
use Rattle.pt_laws.specs.LogsOfRuns.{log_at, log_in}
use Rattle.pt_laws.specs.Explained.{Turned, ChainOf, EndsWith, PartOf, Explained, IfDone, DoneWell}
use Rattle.pt_laws.proofs.LogLaws.{log-with_number}
use Rattle.pt_laws.proofs.LevelLaws.{added, count-append}
use Rattle.pt_laws.proofs.SoundLaws.{below-log, within-added}
use Rattle.pt_laws.proofs.CompositeLaws.{log-as-node}
use Rattle.pt_laws.proofs.FiringLaws.{number-kept, done-within}
use Rattle.pt_laws.proofs.HeightLaws.{with-number-done, firing-keeps, numbered-length}
use Rattle.pt_laws.proofs.ClosedLaws.{child-or-beyond}
use Rattle.pt_laws.proofs.ChainLaws.{numbered-get, fitting-child}
use Rattle.pt_laws.proofs.ClosedSteps.{director-explained}
use Rattle.pt_records.specs.Counts.{made_at, made_below, AreWired, AllWired, AreNumberedFrom, CountsGrow, NumbersGoOn, StaysWired}
use Rattle.pt_records.proofs.SoFarLaws.{recorded-done}

-- numbered events
numbers-append : {T : Type 0} (n : ℕ) (xs ys : List (Event T)) → AreNumberedFrom n xs → AreNumberedFrom (n + firings_in xs) ys → AreNumberedFrom n (xs ++ ys)
numbers-append n [] ys g h = let e : n + 0 ≡ n = omega arith in subst (λ v. AreNumberedFrom v ys) e h
numbers-append n (Finished ns f ∷ xs) ys g h = let e : n + suc (firings_in xs) ≡ suc n + firings_in xs = omega arith in (g.0, numbers-append (suc n) xs ys g.1 (subst (λ v. AreNumberedFrom v ys) e h))
numbers-append n (Met ns i m ∷ xs) ys g h = numbers-append n xs ys g h

numbers-marked : {T : Type 0} (n k : ℕ) (xs : List (Event T)) → AreNumberedFrom n xs → AreNumberedFrom n (all_marked k xs)
numbers-marked n k [] g = tt
numbers-marked n k (Finished ns f ∷ xs) g = (g.0, numbers-marked (suc n) k xs g.1)
numbers-marked n k (Met ns i m ∷ xs) g = numbers-marked n k xs g

numbers-quiet : {T : Type 0} (n : ℕ) (xs : List (Event T)) → firings_in xs ≡ 0 → AreNumberedFrom n xs
numbers-quiet n [] e = tt
numbers-quiet n (Finished ns f ∷ xs) e = absurd (omega (arith, e))
numbers-quiet n (Met ns i m ∷ xs) e = numbers-quiet n xs e

count-marked : {T : Type 0} (n : ℕ) (xs : List (Event T)) → firings_in (all_marked n xs) ≡ firings_in xs
count-marked n [] = refl
count-marked n (Finished ns f ∷ xs) = ap (λ v. suc v) (count-marked n xs)
count-marked n (Met ns i m ∷ xs) = count-marked n xs

-- by paths of children
below-of : {T A : Type 0} (cs : List (Child (Node T A))) (i : ℕ) (p : Path) (s : Child (Node T A)) → get cs i ≡ Some s → made_below (nodes_of (nodes cs)) i p ≡ made_at s.node p
below-of [] i p s e = absurd (cc)
below-of {T} {A} (c ∷ cs) zero p s e = let same : c ≡ s = cc in ap (λ (v : Child (Node T A)). made_at v.node p) same
below-of (c ∷ cs) (suc i) p s e = below-of cs i p s e

below-past : {T A : Type 0} (cs : List (Child (Node T A))) (i : ℕ) (p : Path) → length cs ≤ i → made_below (nodes_of (nodes cs)) i p ≡ 0
below-past [] i p h = refl
below-past (c ∷ cs) zero p h = absurd (omega (arith, h))
below-past (c ∷ cs) (suc i) p h = below-past cs i p (omega (arith, h))

kids-of : {T A : Type 0} (kids : Nodes T A) (i : ℕ) (p : Path) (n : Node T A) → child_of kids i ≡ Some n → made_below kids i p ≡ made_at n p
kids-of none i p n e = absurd (cc)
kids-of {T} {A} (more k kids) zero p n e = let same : k ≡ n = cc in ap (λ (v : Node T A). made_at v p) same
kids-of (more k kids) (suc i) p n e = kids-of kids i p n e

kids-past : {T A : Type 0} (kids : Nodes T A) (i : ℕ) (p : Path) → length (list_of kids) ≤ i → made_below kids i p ≡ 0
kids-past none i p h = refl
kids-past (more k kids) zero p h = absurd (omega (arith, h))
kids-past (more k kids) (suc i) p h = kids-past kids i p (omega (arith, h))

there-or-past : {S : Type 0} (ss : List S) (i : ℕ) → ((s : S) × (get ss i ≡ Some s)) ⊎ (length ss ≤ i)
there-or-past [] i = inr (omega arith)
there-or-past (s ∷ ss) zero = inl (s, refl)
there-or-past {S} (s ∷ ss) (suc i) = go (there-or-past ss i)
  where
    go : ((z : S) × (get ss i ≡ Some z)) ⊎ (length ss ≤ i) → ((z : S) × (get ss i ≡ Some z)) ⊎ (suc (length ss) ≤ suc i)
    go (inl h) = inl h
    go (inr h) = inr (omega (arith, h))

wired-child : {T A : Type 0} (kids : Nodes T A) (i : ℕ) (n : Node T A) → AllWired kids → child_of kids i ≡ Some n → AreWired n
wired-child none i n w e = absurd (cc)
wired-child {T} {A} (more k kids) zero n w e = let same : k ≡ n = cc in subst (λ (v : Node T A). AreWired v) same w.0
wired-child (more k kids) (suc i) n w e = wired-child kids i n w.1 e

wired-all : {T A : Type 0} (cs : List (Child (Node T A))) → ((i : ℕ) (s : Child (Node T A)) → get cs i ≡ Some s → AreWired s.node) → AllWired (nodes_of (nodes cs))
wired-all [] h = tt
wired-all (c ∷ cs) h = (h 0 c refl, wired-all cs (λ i s e. h (suc i) s e))

-- resets
mutual
  reset-made : {T A : Type 0} (n : Node T A) (p : Path) → made_at (reset_of n) p ≡ made_at n p
  reset-made (Actor h a b) [] = refl
  reset-made (Actor h a b) (i ∷ p) = refl
  reset-made (Composite h c d kids) [] = refl
  reset-made (Composite h c d kids) (i ∷ p) = resets-made kids i p

  resets-made : {T A : Type 0} (ns : Nodes T A) (i : ℕ) (p : Path) → made_below (reset_all ns) i p ≡ made_below ns i p
  resets-made none i p = refl
  resets-made (more n ns) zero p = reset-made n p
  resets-made (more n ns) (suc i) p = resets-made ns i p

mutual
  reset-wired : {T A : Type 0} (n : Node T A) → AreWired n → AreWired (reset_of n)
  reset-wired (Actor h a b) w = tt
  reset-wired (Composite h c d kids) w = (w.0, w.0, resets-wired kids w.2)

  resets-wired : {T A : Type 0} (ns : Nodes T A) → AllWired ns → AllWired (reset_all ns)
  resets-wired none w = tt
  resets-wired (more n ns) w = (reset-wired n w.0, resets-wired ns w.1)

-- a node that came to another by a log
abbrev pub CameTo : {T A : Type 0} → Node T A → Log T → Node T A → Type 0
CameTo s l z = (p : Path) → (made_at z p ≡ made_at s p + firings_in (l p)) × AreNumberedFrom (made_at s p) (l p)

came-none : {T A : Type 0} (s : Node T A) → CameTo s silent s
came-none s p = (omega arith, tt)

came-joined : {T A : Type 0} (s y z : Node T A) (l m : Log T) → CameTo s l y → CameTo y m z → CameTo s (log_then l m) z
came-joined s y z l m g h p = (omega (arith, (g p).0, (h p).0, count-append (l p) (m p)), numbers-append (made_at s p) (l p) (m p) (g p).1 (subst (λ v. AreNumberedFrom v (m p)) (g p).0 (h p).1))

-- what a step owes
pub record CountingStep {T A : Type 0} (rows : Rows T A) (step : Stepping T (Node T A)) : Type 0 where
  pub quiet : (tag : Tag) (n : Node T A) (X : Streams T) → IsFitting n → AreWired n → firings_in (log_in (step tag n X) []) ≡ 0
  pub numbers : (tag : Tag) (n : Node T A) (X : Streams T) → IsFitting n → AreWired n → (p : Path) → AreNumberedFrom (made_at n p) (log_in (step tag n X) p)
  pub fits : (tag : Tag) (n z : Node T A) (X out : Streams T) (l : Log T) → IsFitting n → step tag n X ≡ Done z out l → IsFitting z
  pub wired : (tag : Tag) (n z : Node T A) (X out : Streams T) (l : Log T) → IsFitting n → AreWired n → step tag n X ≡ Done z out l → AreWired z
  pub own_path : (tag : Tag) (n z : Node T A) (X out : Streams T) (l : Log T) → IsFitting n → AreWired n → step tag n X ≡ Done z out l → made_at z [] ≡ suc (made_at n [])
  pub below : (tag : Tag) (n z : Node T A) (X out : Streams T) (l : Log T) → IsFitting n → AreWired n → step tag n X ≡ Done z out l → (i : ℕ) (p : Path) → made_at z (i ∷ p) ≡ made_at n (i ∷ p) + firings_in (l (i ∷ p))

made-own : {T A : Type 0} (n : Node T A) → made_at n [] ≡ made_of n
made-own (Actor h a b) = refl
made-own (Composite h c d kids) = refl

-- with its record
came-recorded : {T A : Type 0} (rows : Rows T A) (step : Stepping T (Node T A)) → CountingStep rows step → (tag : Tag) (n z : Node T A) (X out : Streams T) (l : Log T) (f : Firing T) → IsFitting n → AreWired n → step tag n X ≡ Done z out l → f.number ≡ made_of n → CameTo n (log_then l (own f)) z
came-recorded rows step s tag n z X out l f fit w e g [] =
    let none : firings_in (l []) ≡ 0 = subst (λ r. firings_in (log_in r []) ≡ 0) e (s.quiet tag n X fit w) in
    let at_end : f.number ≡ made_at n [] + firings_in (l []) = omega (arith, g, made-own n, none) in (
      omega (arith, s.own_path tag n z X out l fit w e, none, count-append (l []) (own f [])),
      numbers-append (made_at n []) (l []) (own f []) (subst (λ r. AreNumberedFrom (made_at n []) (log_in r [])) e (s.numbers tag n X fit w [])) (at_end, tt),
    )
came-recorded {T} rows step s tag n z X out l f fit w e g (i ∷ p) =
    let same : l (i ∷ p) ++ [] ≡ l (i ∷ p) = append-nil (l (i ∷ p)) in
    subst (λ (es : List (Event T)). (made_at z (i ∷ p) ≡ made_at n (i ∷ p) + firings_in es) × AreNumberedFrom (made_at n (i ∷ p)) es) (sym same)
    (s.below tag n z X out l fit w e i p, subst (λ r. AreNumberedFrom (made_at n (i ∷ p)) (log_in r (i ∷ p))) e (s.numbers tag n X fit w (i ∷ p)))

-- the firings of a child one after another
pub record ChainCounts {T A : Type 0} (s z : Child (Node T A)) (l : Log T) : Type 0 where
  pub came : CameTo s.node l z.node
  pub fits : IsFitting z.node
  pub wired : AreWired z.node
  pub number : z.number ≡ s.number

module _ {T A : Type 0} (rows : Rows T A) (steps : ℕ → Stepping T (Node T A)) (owed : (i : ℕ) → CountingStep rows (steps i)) where
  chain-counts : (ts : List (Turned T)) (s z : Child (Node T A)) (l : Log T) → IsFitting s.node → AreWired s.node → ChainOf (child_facts (facts_of rows)) (child_step steps) s ts z l → ChainCounts s z l
  chain-counts [] s z l fit w h =
      subst (λ (v : Log T). ChainCounts s z v) (sym h.1) (subst (λ (v : Child (Node T A)). ChainCounts s v silent) (sym h.0) (record { came = came-none s.node; fits = fit; wired = w; number = refl }))
  chain-counts (t ∷ ts) s z l fit w h =
      let y : Child (Node T A) = h.0 in
      let bare : steps s.number t.record_of.tag s.node t.record_of.inputs ≡ Done y.node t.record_of.outputs t.inside = with-number-done s.number (steps s.number t.record_of.tag s.node t.record_of.inputs) y t.record_of.outputs t.inside h.3 in
      let now = came-recorded rows (steps s.number) (owed s.number) t.record_of.tag s.node y.node t.record_of.inputs t.record_of.outputs t.inside t.record_of fit w bare h.2 in
      let number : y.number ≡ s.number = number-kept s.number (steps s.number t.record_of.tag s.node t.record_of.inputs) y t.record_of.outputs t.inside h.3 in
      let next = chain-counts ts y z h.1 ((owed s.number).fits t.record_of.tag s.node y.node t.record_of.inputs t.record_of.outputs t.inside fit bare) ((owed s.number).wired t.record_of.tag s.node y.node t.record_of.inputs t.record_of.outputs t.inside fit w bare) h.4 in
      subst (λ (v : Log T). ChainCounts s z v) (sym h.5)
      (record { came = came-joined s.node y.node z.node (log_then t.inside (own t.record_of)) h.1 now next.came; fits = next.fits; wired = next.wired; number = next.number ∙ number })

  part-numbers : (ts : List (Turned T)) (s z : Child (Node T A)) (l : Log T) (way : Option (Begun T)) → IsFitting s.node → AreWired s.node → PartOf (child_facts (facts_of rows)) (child_step steps) s l ts way z → (p : Path) → AreNumberedFrom (made_at s.node p) (l p)
  part-numbers ts s z l way fit w h p =
      let c = chain-counts ts s z h.first fit w h.chain in
      subst (λ (v : Log T). AreNumberedFrom (made_at s.node p) (v p)) (sym h.whole)
      (numbers-append (made_at s.node p) (h.first p) (h.rest p) (c.came p).1 (subst (λ v. AreNumberedFrom v (h.rest p)) (c.came p).0 (rest way h.ends c)))
    where
      rest : (way : Option (Begun T)) → EndsWith (child_step steps) z way h.rest → ChainCounts s z h.first → AreNumberedFrom (made_at z.node p) (h.rest p)
      rest None e c = subst (λ (v : Log T). AreNumberedFrom (made_at z.node p) (v p)) (sym e) tt
      rest (Some b) e c = subst (λ (v : Log T). AreNumberedFrom (made_at z.node p) (v p)) (sym (e ∙ log-with_number z.number (steps z.number b.tag z.node b.inputs))) ((owed z.number).numbers b.tag z.node b.inputs c.fits c.wired p)

  part-came : (ts : List (Turned T)) (s z : Child (Node T A)) (l : Log T) (way : Option (Begun T)) → way ≡ None → IsFitting s.node → AreWired s.node → PartOf (child_facts (facts_of rows)) (child_step steps) s l ts way z → ChainCounts s z l
  part-came ts s z l way without fit w h =
      let c = chain-counts ts s z h.first fit w h.chain in
      let quiet : h.rest ≡ silent = subst (λ v. EndsWith (child_step steps) z v h.rest) without h.ends in
      let same : h.first ≡ l = fun_ext (λ p. sym (append-nil (h.first p)) ∙ ap (λ (v : Log T). h.first p ++ v p) (sym quiet) ∙ ap (λ (v : Log T). v p) (sym h.whole)) in
      subst (λ (v : Log T). ChainCounts s z v) same c

-- the firing of a composite, explained
module _ {T A H : Type 0} {ms : List Meeting} (rows : Rows T A) (steps : ℕ → Stepping T (Node T A)) (owed : (i : ℕ) → CountingStep rows (steps i)) (tag : Tag) (h : Past) (c d : Core T) (kids : Nodes T A) (inputs : Streams T) (fit : IsFitting (Composite h c d kids)) (w : AreWired (Composite h c d kids)) (core : H → Core T) (r : Outcome T (Inside H (Child (Node T A))))
    (x : Explained (child_facts (facts_of rows)) (child_step steps) ms h.made tag inputs d core (numbered 0 (list_of kids)) r) where
  as-added : log_in (as_node tag h c core r) ≡ added h.made x.events (log_below x.logs)
  as-added = log-as-node tag h c core r ∙ ap (λ v. within_firing h.made v) x.log ∙ within-added h.made x.events x.logs

  pub composite-quiet : firings_in (log_in (as_node tag h c core r) []) ≡ 0
  composite-quiet = ap (λ (v : Log T). firings_in (v [])) as-added ∙ x.quiet

  logged : (i : ℕ) (p : Path) → log_in (as_node tag h c core r) (i ∷ p) ≡ all_marked h.made (log_at x.logs i p)
  logged i p = ap (λ (v : Log T). v (i ∷ p)) as-added ∙ ap (λ (v : Log T). all_marked h.made (v p)) (below-log x.logs i)

  beyond-silent : (i : ℕ) → length (list_of kids) ≤ i → log_at x.logs i ≡ silent
  beyond-silent i g = (x.beyond i (omega (arith, g, numbered-length 0 (list_of kids)))).0

  kid-part : (i : ℕ) (n : Node T A) → child_of kids i ≡ Some n → PartOf (child_facts (facts_of rows)) (child_step steps) (record { number = 0 + i; node = n }) (log_at x.logs i) (x.turns i) (x.way i) (x.ends i)
  kid-part i n e = x.parts i (record { number = 0 + i; node = n }) (numbered-get 0 kids i n e)

  pub composite-numbers : (p : Path) → AreNumberedFrom (made_at (Composite h c d kids) p) (log_in (as_node tag h c core r) p)
  composite-numbers [] = numbers-quiet h.made (log_in (as_node tag h c core r) []) composite-quiet
  composite-numbers (i ∷ p) = subst (λ es. AreNumberedFrom (made_below kids i p) es) (sym (logged i p)) (numbers-marked (made_below kids i p) h.made (log_at x.logs i p) (go (child-or-beyond kids i)))
    where
      go : ((n : Node T A) × (child_of kids i ≡ Some n)) ⊎ ((child_of kids i ≡ None) × (length (list_of kids) ≤ i)) → AreNumberedFrom (made_below kids i p) (log_at x.logs i p)
      go (inl n) = subst (λ v. AreNumberedFrom v (log_at x.logs i p)) (sym (kids-of kids i p n.0 n.1)) (part-numbers rows steps owed (x.turns i) (record { number = 0 + i; node = n.0 }) (x.ends i) (log_at x.logs i) (x.way i) (fitting-child kids i n.0 fit.2 n.1) (wired-child kids i n.0 w.2 n.1) (kid-part i n.0 n.1) p)
      go (inr g) = subst (λ (v : Log T). AreNumberedFrom (made_below kids i p) (v p)) (sym (beyond-silent i g.1)) tt

  -- where it is done
  module _ (z : Node T A) (out : Streams T) (l : Log T) (e : as_node tag h c core r ≡ Done z out l) where
    pub record Ended : Type 0 where
      pub inside : Inside H (Child (Node T A))
      pub state : z ≡ Composite (fired_at tag h) c (core inside.held) (nodes_of (nodes inside.kids))
      pub well : DoneWell (child_facts (facts_of rows)) inputs d core (numbered 0 (list_of kids)) x.turns x.way x.ends inside

    ended : Ended
    ended =
        let y = done-within tag h c core r z out l e in
        record { inside = y.inside; state = y.state; well = subst (λ v. IfDone (child_facts (facts_of rows)) inputs d core (numbered 0 (list_of kids)) x.turns x.way x.ends v) y.done x.done }

    pub composite-own : made_at z [] ≡ suc h.made
    composite-own = ap (λ (v : Node T A). made_at v []) ended.state

    long : length ended.inside.kids ≡ length (list_of kids)
    long = ended.well.count ∙ numbered-length 0 (list_of kids)

    -- child i before and after
    pub record KidNow (i : ℕ) (s : Child (Node T A)) : Type 0 where
      pub first : Node T A
      pub there : child_of kids i ≡ Some first
      pub counts : ChainCounts (record { number = 0 + i; node = first }) (x.ends i) (log_at x.logs i)
      pub same : (p : Path) → made_at s.node p ≡ made_at (x.ends i).node p
      pub wired : AreWired s.node

    kid-now : (i : ℕ) (s : Child (Node T A)) → get ended.inside.kids i ≡ Some s → KidNow i s
    kid-now i s g = go (child-or-beyond kids i)
      where
        past : (ss : List (Child (Node T A))) (j : ℕ) → length ss ≤ j → get ss j ≡ Some s → ⊥
        past [] j b q = cc
        past (y ∷ ss) zero b q = omega (arith, b)
        past (y ∷ ss) (suc j) b q = past ss j (omega (arith, b)) q

        made-same : (s ≡ x.ends i) ⊎ ((is_modal d ≡ true) × (s ≡ (child_facts (facts_of rows)).reset (x.ends i))) → (p : Path) → made_at s.node p ≡ made_at (x.ends i).node p
        made-same (inl q) p = ap (λ (v : Child (Node T A)). made_at v.node p) q
        made-same (inr q) p = ap (λ (v : Child (Node T A)). made_at v.node p) q.1 ∙ reset-made (x.ends i).node p

        wired-same : (s ≡ x.ends i) ⊎ ((is_modal d ≡ true) × (s ≡ (child_facts (facts_of rows)).reset (x.ends i))) → AreWired (x.ends i).node → AreWired s.node
        wired-same (inl q) v = subst (λ (y : Child (Node T A)). AreWired y.node) (sym q) v
        wired-same (inr q) v = subst (λ (y : Child (Node T A)). AreWired y.node) (sym q.1) (reset-wired (x.ends i).node v)

        go : ((n : Node T A) × (child_of kids i ≡ Some n)) ⊎ ((child_of kids i ≡ None) × (length (list_of kids) ≤ i)) → KidNow i s
        go (inl n) =
            let counts = part-came rows steps owed (x.turns i) (record { number = 0 + i; node = n.0 }) (x.ends i) (log_at x.logs i) (x.way i) (ended.well.whole i) (fitting-child kids i n.0 fit.2 n.1) (wired-child kids i n.0 w.2 n.1) (kid-part i n.0 n.1) in
            record { first = n.0; there = n.1; counts = counts; same = made-same (ended.well.kids i s g); wired = wired-same (ended.well.kids i s g) counts.wired }
        go (inr b) = absurd (past ended.inside.kids i (omega (arith, b.1, long)) g)

    pub composite-wired : AreWired z
    composite-wired = subst (λ (v : Node T A). AreWired v) (sym ended.state) (w.0, ended.well.wired, wired-all ended.inside.kids (λ i s g. (kid-now i s g).wired))

    pub composite-below : (i : ℕ) (p : Path) → made_at z (i ∷ p) ≡ made_below kids i p + firings_in (l (i ∷ p))
    composite-below i p =
        ap (λ (v : Node T A). made_at v (i ∷ p)) ended.state ∙ go (there-or-past ended.inside.kids i) ∙
        ap (λ n. made_below kids i p + n) (sym (ap (λ (v : Log T). firings_in (v (i ∷ p))) (sym (ap (λ v. log_in v) e)) ∙ ap (λ es. firings_in es) (logged i p) ∙ count-marked h.made (log_at x.logs i p)))
      where
        go : ((s : Child (Node T A)) × (get ended.inside.kids i ≡ Some s)) ⊎ (length ended.inside.kids ≤ i) → made_below (nodes_of (nodes ended.inside.kids)) i p ≡ made_below kids i p + firings_in (log_at x.logs i p)
        go (inl s) =
            let k = kid-now i s.0 s.1 in
            let a = below-of ended.inside.kids i p s.0 s.1 in
            let b = kids-of kids i p k.first k.there in
            let m = (k.counts.came p).0 in
            let q = k.same p in
            omega (arith, a, b, m, q)
        go (inr b) =
            let a = below-past ended.inside.kids i p b in
            let q = kids-past kids i p (omega (arith, b, long)) in
            let m : firings_in (log_at x.logs i p) ≡ 0 = ap (λ (v : Log T). firings_in (v p)) (beyond-silent i (omega (arith, b, long))) in
            omega (arith, a, q, m)

-- a library actor
actor-log : {T A : Type 0} (tag : Tag) (h : Past) (a : A) (r : Answer T A) → log_in (actor_outcome tag h a r) ≡ silent
actor-log tag h a (Gives b out) = refl
actor-log tag h a (Fails code) = refl

actor-after : {T A : Type 0} (tag : Tag) (h : Past) (a : A) (r : Answer T A) (z : Node T A) (out : Streams T) (l : Log T) → actor_outcome tag h a r ≡ Done z out l → (b : A) × (z ≡ Actor (fired_at tag h) a b)
actor-after tag h a (Gives b o) z out l e = (b, cc)
actor-after tag h a (Fails code) z out l e = absurd (cc)

-- one level above steps that owe this
module _ {T A : Type 0} (rows : Rows T A) (law : LawfulRows rows) (k d : ℕ) (m : Meets) (owed : (i : ℕ) → CountingStep rows (step_at rows k d (below_child i m))) where
  abbrev steps : ℕ → Stepping T (Node T A)
  steps i = step_at rows k d (below_child i m)

  level-quiet : (tag : Tag) (n : Node T A) (X : Streams T) → IsFitting n → AreWired n → firings_in (log_in (level rows steps k (m []) tag n X) []) ≡ 0
  level-quiet tag (Actor h a b) X f w = ap (λ (v : Log T). firings_in (v [])) (actor-log tag h a (rows.react tag b X))
  level-quiet tag (Composite h c e kids) X f w = director-explained rows law k d m (m [] h.made) tag h c kids X e f w.1 (λ o. firings_in (log_in o []) ≡ 0) (λ H core r x. composite-quiet rows steps owed tag h c e kids X f w core r x)

  level-numbers : (tag : Tag) (n : Node T A) (X : Streams T) → IsFitting n → AreWired n → (p : Path) → AreNumberedFrom (made_at n p) (log_in (level rows steps k (m []) tag n X) p)
  level-numbers tag (Actor h a b) X f w p = let n : Node T A = Actor h a b in subst (λ (v : Log T). AreNumberedFrom (made_at n p) (v p)) (sym (actor-log tag h a (rows.react tag b X))) tt
  level-numbers tag (Composite h c e kids) X f w p = director-explained rows law k d m (m [] h.made) tag h c kids X e f w.1 (λ o. AreNumberedFrom (made_at (Composite h c e kids) p) (log_in o p)) (λ H core r x. composite-numbers rows steps owed tag h c e kids X f w core r x p)

  level-wired : (tag : Tag) (n z : Node T A) (X out : Streams T) (l : Log T) → IsFitting n → AreWired n → level rows steps k (m []) tag n X ≡ Done z out l → AreWired z
  level-wired tag (Actor h a b) z X out l f w g = let q = actor-after tag h a (rows.react tag b X) z out l g in subst (λ (v : Node T A). AreWired v) (sym q.1) tt
  level-wired tag (Composite h c e kids) z X out l f w g = director-explained rows law k d m (m [] h.made) tag h c kids X e f w.1 (λ o. o ≡ Done z out l → AreWired z) (λ H core r x. composite-wired rows steps owed tag h c e kids X f w core r x z out l) g

  level-own : (tag : Tag) (n z : Node T A) (X out : Streams T) (l : Log T) → IsFitting n → AreWired n → level rows steps k (m []) tag n X ≡ Done z out l → made_at z [] ≡ suc (made_at n [])
  level-own tag (Actor h a b) z X out l f w g = let q = actor-after tag h a (rows.react tag b X) z out l g in ap (λ (v : Node T A). made_at v []) q.1
  level-own tag (Composite h c e kids) z X out l f w g = director-explained rows law k d m (m [] h.made) tag h c kids X e f w.1 (λ o. o ≡ Done z out l → made_at z [] ≡ suc h.made) (λ H core r x. composite-own rows steps owed tag h c e kids X f w core r x z out l) g

  level-below : (tag : Tag) (n z : Node T A) (X out : Streams T) (l : Log T) → IsFitting n → AreWired n → level rows steps k (m []) tag n X ≡ Done z out l → (i : ℕ) (p : Path) → made_at z (i ∷ p) ≡ made_at n (i ∷ p) + firings_in (l (i ∷ p))
  level-below tag (Actor h a b) z X out l f w g i p =
      let q = actor-after tag h a (rows.react tag b X) z out l g in
      let logs : l ≡ silent = sym (ap (λ v. log_in v) g) ∙ actor-log tag h a (rows.react tag b X) in
      let none : firings_in (l (i ∷ p)) ≡ 0 = ap (λ (v : Log T). firings_in (v (i ∷ p))) logs in
      let at_z : made_at z (i ∷ p) ≡ 0 = ap (λ (v : Node T A). made_at v (i ∷ p)) q.1 in
      omega (arith, none, at_z)
  level-below tag (Composite h c e kids) z X out l f w g i p = director-explained rows law k d m (m [] h.made) tag h c kids X e f w.1 (λ o. o ≡ Done z out l → (i : ℕ) (p : Path) → made_at z (i ∷ p) ≡ made_below kids i p + firings_in (l (i ∷ p))) (λ H core r x. composite-below rows steps owed tag h c e kids X f w core r x z out l) g i p

-- every step
pub counting-at : {T A : Type 0} (rows : Rows T A) → LawfulRows rows → (k d : ℕ) (m : Meets) → CountingStep rows (step_at rows k d m)
unfolding step_at
counting-at rows law k zero m = record {
  quiet = λ tag n X f w. refl;
  numbers = λ tag n X f w p. tt;
  fits = λ tag n z X out l f e. absurd (cc);
  wired = λ tag n z X out l f w e. absurd (cc);
  own_path = λ tag n z X out l f w e. absurd (cc);
  below = λ tag n z X out l f w e. absurd (cc);
}
counting-at rows law k (suc d) m =
    let owed = λ (i : ℕ). counting-at rows law k d (below_child i m) in
    record {
      quiet = level-quiet rows law k d m owed;
      numbers = level-numbers rows law k d m owed;
      fits = λ tag n z X out l f e. ((firing-keeps rows k (suc d) m tag n z X out l e).1 f).0;
      wired = level-wired rows law k d m owed;
      own_path = level-own rows law k d m owed;
      below = level-below rows law k d m owed;
    }

-- the whole step
module _ {T A : Type 0} (rows : Rows T A) (law : LawfulRows rows) (k : ℕ) (m : Meets) (node next : Node T A) (tag : Tag) (inputs out : Streams T) (l : Log T) (f : IsFitting node) (w : AreWired node) (e : Step k rows m node tag inputs ≡ Done next out l) where
  abbrev own_firing : Firing T
  own_firing = record { number = made_of node; tag = tag; inputs = inputs; outputs = out }

  pub step-came : CameTo node l next
  step-came =
      let r = recorded-done (made_of node) tag inputs (step_at rows k (height node) m tag node inputs) next out l e in
      subst (λ (v : Log T). CameTo node v next) r.2 (came-recorded rows (step_at rows k (height node) m) (counting-at rows law k (height node) m) tag node next inputs out r.0 own_firing f w r.1 refl)

  pub step-wired : IsFitting next × AreWired next
  step-wired =
      let r = recorded-done (made_of node) tag inputs (step_at rows k (height node) m tag node inputs) next out l e in
      let owed = counting-at rows law k (height node) m in
      (owed.fits tag node next inputs out r.0 f r.1, owed.wired tag node next inputs out r.0 f w r.1)

pub counts-grow : {T A : Type 0} → CountsGrow T A
counts-grow rows law k m node next tag inputs out l f w e p = (step-came rows law k m node next tag inputs out l f w e p).0

pub stays-wired : {T A : Type 0} → StaysWired T A
stays-wired = step-wired

recorded-numbers : {T A : Type 0} (rows : Rows T A) (step : Stepping T (Node T A)) (s : CountingStep rows step) (tag : Tag) (n : Node T A) (X : Streams T) (f : IsFitting n) (w : AreWired n) (r : Outcome T (Node T A)) → step tag n X ≡ r → (p : Path) → AreNumberedFrom (made_at n p) (log_in (recorded (made_of n) tag X r) p)
recorded-numbers rows step s tag n X f w (Done z out l) e p = (came-recorded rows step s tag n z X out l (record { number = made_of n; tag = tag; inputs = X; outputs = out }) f w e refl p).1
recorded-numbers rows step s tag n X f w (Stuck fs l) e p = subst (λ r. AreNumberedFrom (made_at n p) (log_in r p)) e (s.numbers tag n X f w p)

pub numbers-go-on : {T A : Type 0} → NumbersGoOn T A
numbers-go-on rows law k m node tag inputs f w p = recorded-numbers rows (step_at rows k (height node) m) (counting-at rows law k (height node) m) tag node inputs f w (step_at rows k (height node) m tag node inputs) refl p
