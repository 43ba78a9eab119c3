-- A step makes the meetings that are given for it, under every director.
use Rattle.std.proofs.Common.{◌≡◌, ◌⊎◌, ℕ, zero, suc, ◌+◌, ◌≤◌, ◌<◌, List, [], ◌∷◌, ◌++◌, Bool, true, false, nat_eq, length, Option, Some, None, inl, inr, refl, sym, ap, subst, arith, ◌∙◌, append-nil}
use Rattle.std.proofs.lemmas.Bool.Decides.{nat_tests}
use Rattle.std.proofs.Math.Path.{fun_ext}
use Rattle.pt_meaning.specs.Tag.{Tag}
use Rattle.pt_meaning.specs.Streams.{Streams, IsPrefix}
use Rattle.pt_meaning.specs.Log.{Path, Log, Firing, Meeting, Event, Finished, Met, firings_in, meetings_in, silent, log_then, own, log_below, within_firing, all_marked}
use Rattle.pt_meaning.specs.Machine.{Outcome, Done, Stepping}
use Rattle.pt_meaning.specs.Net.{Inside}
use Rattle.pt_meaning.specs.Meetings.{Meets, below_child}
use Rattle.pt_meaning.specs.Children.{Child, numbered, child_facts, child_step}
use Rattle.pt_meaning.specs.Tree.{Rows, Answer, Gives, Fails, Core, Past, Node, Nodes, Actor, Composite, none, more, list_of}
use Rattle.pt_meaning.specs.NodeFacts.{facts_of}
use Rattle.pt_meaning.specs.Step.{actor_outcome, as_node, level, step_at}
use Rattle.pt_meaning.specs.Lawful.{LawfulRows}
use Rattle.pt_meaning.specs.Closed.{Begun, child_of}
use Rattle.pt_laws.specs.Heights.{IsFitting}
use Rattle.pt_laws.specs.LogsOfRuns.{log_at, log_in}
use Rattle.pt_laws.specs.Explained.{Turned, ChainOf, EndsWith, PartOf, Explained, IfDone}
use Rattle.pt_laws.proofs.LogLaws.{log-with_number}
use Rattle.pt_laws.proofs.LevelLaws.{added, count-append}
use Rattle.pt_laws.proofs.SoundLaws.{below-log, within-added}
use Rattle.pt_laws.proofs.CompositeLaws.{log-as-node}
use Rattle.pt_laws.proofs.FiringLaws.{number-kept, done-within}
use Rattle.pt_laws.proofs.HeightLaws.{with-number-done, numbered-length}
use Rattle.pt_laws.proofs.ClosedLaws.{child-or-beyond}
use Rattle.pt_laws.proofs.ChainLaws.{numbered-get, fitting-child}
use Rattle.pt_laws.proofs.ClosedSteps.{director-explained}
use Rattle.pt_records.specs.Counts.{made_at, made_below, AreWired, AllWired}
use Rattle.pt_records.proofs.MadeLaws.{in-marked}
use Rattle.pt_records.proofs.CountLaws.{CountingStep, counting-at}
use Rattle.pt_given.proofs.GivenLogs.{AreGiven, ArePast, CameBy, given-none, given-then, past-then, came-then, given-own, past-own}
use Rattle.pt_given.proofs.OwnPath.{AreFirst, first-own, first-others, director-own}

-- what a step owes under these meetings
pub record GivenStep {T A : Type 0} (rows : Rows T A) (m : Meets) (step : Stepping T (Node T A)) : Type 0 where
  pub given : (tag : Tag) (n : Node T A) (X : Streams T) → IsFitting n → AreWired n → AreGiven m n (log_in (step tag n X))
  pub past : (tag : Tag) (n z : Node T A) (X out : Streams T) (l : Log T) → IsFitting n → AreWired n → step tag n X ≡ Done z out l → ArePast z l

-- the node that a step comes to, with its record
pub came-recorded : {T A : Type 0} (rows : Rows T A) (step : Stepping T (Node T A)) → CountingStep rows step → (tag : Tag) (n z : Node T A) (X out : Streams T) (l : Log T) (f : Firing T) → IsFitting n → AreWired n → step tag n X ≡ Done z out l → CameBy n (log_then l (own f)) z
came-recorded rows step s tag n z X out l f fit w e [] =
    let quiet : firings_in (l []) ≡ 0 = subst (λ r. firings_in (log_in r []) ≡ 0) e (s.quiet tag n X fit w) in
    let one : firings_in (own f []) ≡ 1 = refl in
    let counts = s.own_path tag n z X out l fit w e in
    let joined = count-append (l []) (own f []) in
    omega (arith, quiet, one, counts, joined)
came-recorded rows step s tag n z X out l f fit w e (i ∷ p) = s.below tag n z X out l fit w e i p ∙ ap (λ es. made_at n (i ∷ p) + firings_in es) (sym (append-nil (l (i ∷ p))))

-- ---- the firings of a child one after another

pub record ChainGiven {T A : Type 0} (m : Meets) (s z : Child (Node T A)) (l : Log T) : Type 0 where
  pub given : AreGiven m s.node l
  pub past : ArePast z.node l
  pub came : CameBy s.node l z.node
  pub fits : IsFitting z.node
  pub wired : AreWired z.node
  pub number : z.number ≡ s.number

came-none : {T A : Type 0} (s : Node T A) → CameBy s silent s
came-none s p = omega arith

module _ {T A : Type 0} (rows : Rows T A) (steps : ℕ → Stepping T (Node T A)) (owed : (i : ℕ) → CountingStep rows (steps i)) (ms : ℕ → Meets) (gives : (i : ℕ) → GivenStep rows (ms i) (steps i)) where
  chain-given : (ts : List (Turned T)) (s z : Child (Node T A)) (l : Log T) → IsFitting s.node → AreWired s.node → ChainOf (child_facts (facts_of rows)) (child_step steps) s ts z l → ChainGiven (ms s.number) s z l
  chain-given [] s z l fit w h =
      subst (λ (v : Log T). ChainGiven (ms s.number) s z v) (sym h.1)
      (subst (λ (v : Child (Node T A)). ChainGiven (ms s.number) s v silent) (sym h.0) (record { given = given-none (ms s.number) s.node; past = λ p n late. refl; came = came-none s.node; fits = fit; wired = w; number = refl }))
  chain-given (t ∷ ts) s z l fit w h =
      let y : Child (Node T A) = h.0 in
      let f : Firing T = t.record_of in
      let bare : steps s.number f.tag s.node f.inputs ≡ Done y.node f.outputs t.inside = with-number-done s.number (steps s.number f.tag s.node f.inputs) y f.outputs t.inside h.3 in
      let number : y.number ≡ s.number = number-kept s.number (steps s.number f.tag s.node f.inputs) y f.outputs t.inside h.3 in
      let now : AreGiven (ms s.number) s.node t.inside = subst (λ r. AreGiven (ms s.number) s.node (log_in r)) bare ((gives s.number).given f.tag s.node f.inputs fit w) in
      let past : ArePast y.node t.inside = (gives s.number).past f.tag s.node y.node f.inputs f.outputs t.inside fit w bare in
      let came : CameBy s.node (log_then t.inside (own f)) y.node = came-recorded rows (steps s.number) (owed s.number) f.tag s.node y.node f.inputs f.outputs t.inside f fit w bare in
      let later = chain-given ts y z h.1 ((owed s.number).fits f.tag s.node y.node f.inputs f.outputs t.inside fit bare) ((owed s.number).wired f.tag s.node y.node f.inputs f.outputs t.inside fit w bare) h.4 in
      let next : ChainGiven (ms s.number) y z h.1 = subst (λ i. ChainGiven (ms i) y z h.1) number later in
      subst (λ (v : Log T). ChainGiven (ms s.number) s z v) (sym h.5)
      (record {
        given = given-then (ms s.number) s.node y.node (log_then t.inside (own f)) h.1 (given-own (ms s.number) s.node t.inside f now) (past-own y.node t.inside f past) came next.given;
        past = past-then y.node z.node (log_then t.inside (own f)) h.1 (past-own y.node t.inside f past) next.came next.past;
        came = came-then s.node y.node z.node (log_then t.inside (own f)) h.1 came next.came;
        fits = next.fits;
        wired = next.wired;
        number = next.number ∙ number;
      })

  -- with the firing that it doesn't finish
  part-given : (ts : List (Turned T)) (s z : Child (Node T A)) (l : Log T) (way : Option (Begun T)) → IsFitting s.node → AreWired s.node → PartOf (child_facts (facts_of rows)) (child_step steps) s l ts way z → AreGiven (ms s.number) s.node l
  part-given ts s z l way fit w h =
      let c = chain-given ts s z h.first fit w h.chain in
      subst (λ (v : Log T). AreGiven (ms s.number) s.node v) (sym h.whole) (given-then (ms s.number) s.node z.node h.first h.rest c.given c.past c.came (rest way h.ends c))
    where
      rest : (way : Option (Begun T)) → EndsWith (child_step steps) z way h.rest → ChainGiven (ms s.number) s z h.first → AreGiven (ms s.number) z.node h.rest
      rest None e c = subst (λ (v : Log T). AreGiven (ms s.number) z.node v) (sym e) (given-none (ms s.number) z.node)
      rest (Some b) e c =
          subst (λ (v : Log T). AreGiven (ms s.number) z.node v) (sym (e ∙ log-with_number z.number (steps z.number b.tag z.node b.inputs)))
          (subst (λ i. AreGiven (ms i) z.node (log_in (steps z.number b.tag z.node b.inputs))) c.number ((gives z.number).given b.tag z.node b.inputs c.fits c.wired))

  -- without one
  part-past : (ts : List (Turned T)) (s z : Child (Node T A)) (l : Log T) (way : Option (Begun T)) → way ≡ None → IsFitting s.node → AreWired s.node → PartOf (child_facts (facts_of rows)) (child_step steps) s l ts way z → ChainGiven (ms s.number) s z l
  part-past ts s z l way without fit w h =
      let c = chain-given ts s z h.first fit w h.chain in
      let quiet : h.rest ≡ silent = subst (λ v. EndsWith (child_step steps) z v h.rest) without h.ends in
      let same : h.first ≡ l = fun_ext (λ p. sym (append-nil (h.first p)) ∙ ap (λ (v : Log T). h.first p ++ v p) (sym quiet) ∙ ap (λ (v : Log T). v p) (sym h.whole)) in
      subst (λ (v : Log T). ChainGiven (ms s.number) s z v) same c

-- ---- the firing of a composite

-- by paths of children
kids-of : {T A : Type 0} (kids : Nodes T A) (i : ℕ) (p : Path) (n : Node T A) → child_of kids i ≡ Some n → made_below kids i p ≡ made_at n p
kids-of none i p n e = absurd (cc)
kids-of {T} {A} (more k kids) zero p n e = let same : k ≡ n = cc in ap (λ (v : Node T A). made_at v p) same
kids-of (more k kids) (suc i) p n e = kids-of kids i p n e

wired-child : {T A : Type 0} (kids : Nodes T A) (i : ℕ) (n : Node T A) → AllWired kids → child_of kids i ≡ Some n → AreWired n
wired-child none i n w e = absurd (cc)
wired-child {T} {A} (more k kids) zero n w e = let same : k ≡ n = cc in subst (λ (v : Node T A). AreWired v) same w.0
wired-child (more k kids) (suc i) n w e = wired-child kids i n w.1 e

count-marked : {T : Type 0} (n : ℕ) (xs : List (Event T)) → firings_in (all_marked n xs) ≡ firings_in xs
count-marked n [] = refl
count-marked n (Finished ns f ∷ xs) = ap (λ v. suc v) (count-marked n xs)
count-marked n (Met ns i m ∷ xs) = count-marked n xs

-- what is logged below the composite
pub record BelowGiven {T A : Type 0} (m : Meets) (kids : Nodes T A) (l : Log T) : Type 0 where
  pub first : (i : ℕ) (p : Path) (n : ℕ) → IsPrefix (meetings_in n (l (i ∷ p))) (m (i ∷ p) n)
  pub due : (i : ℕ) (p : Path) (n : ℕ) → n < made_below kids i p → meetings_in n (l (i ∷ p)) ≡ []

module _ {T A H : Type 0} {own_meets : List Meeting} (rows : Rows T A) (steps : ℕ → Stepping T (Node T A)) (owed : (i : ℕ) → CountingStep rows (steps i)) (m : Meets) (gives : (i : ℕ) → GivenStep rows (below_child i m) (steps i)) (tag : Tag) (h : Past) (c d : Core T) (kids : Nodes T A) (inputs : Streams T) (fit : IsFitting (Composite h c d kids)) (w : AreWired (Composite h c d kids))
    (core : H → Core T) (r : Outcome T (Inside H (Child (Node T A)))) (x : Explained (child_facts (facts_of rows)) (child_step steps) own_meets h.made tag inputs d core (numbered 0 (list_of kids)) r) where
  as-added : log_in (as_node tag h c core r) ≡ added h.made x.events (log_below x.logs)
  as-added = log-as-node tag h c core r ∙ ap (λ v. within_firing h.made v) x.log ∙ within-added h.made x.events x.logs

  logged : (i : ℕ) (p : Path) → log_in (as_node tag h c core r) (i ∷ p) ≡ all_marked h.made (log_at x.logs i p)
  logged i p = ap (λ (v : Log T). v (i ∷ p)) as-added ∙ ap (λ (v : Log T). all_marked h.made (v p)) (below-log x.logs i)

  told : (i : ℕ) (p : Path) (n : ℕ) → meetings_in n (log_in (as_node tag h c core r) (i ∷ p)) ≡ meetings_in n (log_at x.logs i p)
  told i p n = ap (λ es. meetings_in n es) (logged i p) ∙ in-marked n h.made (log_at x.logs i p)

  beyond-silent : (i : ℕ) → length (list_of kids) ≤ i → log_at x.logs i ≡ silent
  beyond-silent i g = (x.beyond i (omega (arith, g, numbered-length 0 (list_of kids)))).0

  kid-part : (i : ℕ) (n : Node T A) → child_of kids i ≡ Some n → PartOf (child_facts (facts_of rows)) (child_step steps) (record { number = 0 + i; node = n }) (log_at x.logs i) (x.turns i) (x.way i) (x.ends i)
  kid-part i n e = x.parts i (record { number = 0 + i; node = n }) (numbered-get 0 kids i n e)

  kid-given : (i : ℕ) (n : Node T A) → child_of kids i ≡ Some n → AreGiven (below_child i m) n (log_at x.logs i)
  kid-given i n e =
      let zero_i : 0 + i ≡ i = omega arith in
      subst (λ j. AreGiven (below_child j m) n (log_at x.logs i)) zero_i (part-given rows steps owed (λ j. below_child j m) gives (x.turns i) (record { number = 0 + i; node = n }) (x.ends i) (log_at x.logs i) (x.way i) (fitting-child kids i n fit.2 e) (wired-child kids i n w.2 e) (kid-part i n e))

  abbrev Kid : ℕ → Type 0
  Kid i = ((n : Node T A) × (child_of kids i ≡ Some n)) ⊎ ((child_of kids i ≡ None) × (length (list_of kids) ≤ i))

  pub composite-given : BelowGiven m kids (log_in (as_node tag h c core r))
  composite-given = record {
    first = λ i p n. subst (λ v. IsPrefix v (m (i ∷ p) n)) (sym (told i p n)) (begins i p n (child-or-beyond kids i));
    due = λ i p n less. told i p n ∙ none_due i p n less (child-or-beyond kids i);
  }
    where
      begins : (i : ℕ) (p : Path) (n : ℕ) → Kid i → IsPrefix (meetings_in n (log_at x.logs i p)) (m (i ∷ p) n)
      begins i p n (inl k) = (kid-given i k.0 k.1).first p n
      begins i p n (inr g) = subst (λ (v : Log T). IsPrefix (meetings_in n (v p)) (m (i ∷ p) n)) (sym (beyond-silent i g.1)) tt

      none_due : (i : ℕ) (p : Path) (n : ℕ) → n < made_below kids i p → Kid i → meetings_in n (log_at x.logs i p) ≡ []
      none_due i p n less (inl k) = (kid-given i k.0 k.1).due p n (subst (λ v. n < v) (kids-of kids i p k.0 k.1) less)
      none_due i p n less (inr g) = ap (λ (v : Log T). meetings_in n (v p)) (beyond-silent i g.1)

  -- where it is done
  pub composite-past : (z : Node T A) (out : Streams T) (l : Log T) → as_node tag h c core r ≡ Done z out l → ((i : ℕ) (p : Path) → made_at z (i ∷ p) ≡ made_below kids i p + firings_in (l (i ∷ p))) → (i : ℕ) (p : Path) (n : ℕ) → made_at z (i ∷ p) ≤ n → meetings_in n (l (i ∷ p)) ≡ []
  composite-past z out l e counts i p n late = ap (λ (v : Log T). meetings_in n (v (i ∷ p))) (sym log) ∙ told i p n ∙ go (child-or-beyond kids i)
    where
      log : log_in (as_node tag h c core r) ≡ l
      log = ap (λ v. log_in v) e

      without : x.way i ≡ None
      without =
          let y = done-within tag h c core r z out l e in
          let well = subst (λ v. IfDone (child_facts (facts_of rows)) inputs d core (numbered 0 (list_of kids)) x.turns x.way x.ends v) y.done x.done in
          well.whole i

      fired : firings_in (l (i ∷ p)) ≡ firings_in (log_at x.logs i p)
      fired = ap (λ (v : Log T). firings_in (v (i ∷ p))) (sym log) ∙ ap (λ es. firings_in es) (logged i p) ∙ count-marked h.made (log_at x.logs i p)

      go : ((k : Node T A) × (child_of kids i ≡ Some k)) ⊎ ((child_of kids i ≡ None) × (length (list_of kids) ≤ i)) → meetings_in n (log_at x.logs i p) ≡ []
      go (inl k) =
          let g = part-past rows steps owed (λ j. below_child j m) gives (x.turns i) (record { number = 0 + i; node = k.0 }) (x.ends i) (log_at x.logs i) (x.way i) without (fitting-child kids i k.0 fit.2 k.1) (wired-child kids i k.0 w.2 k.1) (kid-part i k.0 k.1) in
          g.past p n (let a = counts i p in let b = kids-of kids i p k.0 k.1 in let o = g.came p in omega (arith, a, b, o, fired, late))
      go (inr b) = ap (λ (v : Log T). meetings_in n (v p)) (beyond-silent i b.1)

-- ---- a library actor

actor-log : {T A : Type 0} (tag : Tag) (h : Past) (a : A) (r : Answer T A) → log_in (actor_outcome tag h a r) ≡ silent
actor-log tag h a (Gives b out) = refl
actor-log tag h a (Fails code) = refl

-- ---- one level above steps that owe this

module _ {T A : Type 0} (rows : Rows T A) (law : LawfulRows rows) (k d : ℕ) (m : Meets) (gives : (i : ℕ) → GivenStep rows (below_child i m) (step_at rows k d (below_child i m))) where
  abbrev steps : ℕ → Stepping T (Node T A)
  steps i = step_at rows k d (below_child i m)

  abbrev owed : (i : ℕ) → CountingStep rows (steps i)
  owed i = counting-at rows law k d (below_child i m)

  -- the composite's own path
  own-given : (tag : Tag) (h : Past) (c e : Core T) (kids : Nodes T A) (X : Streams T) (n : ℕ) → IsPrefix (meetings_in n (log_in (level rows steps k (m []) tag (Composite h c e kids) X) [])) (m [] n)
  own-given tag h c e kids X n = by_number (nat_eq h.made n) refl
    where
      its : AreFirst h.made (m [] h.made) (log_in (level rows steps k (m []) tag (Composite h c e kids) X) [])
      its = director-own rows (child_step steps) k (m [] h.made) tag h c kids X e

      by_number : (b : Bool) → nat_eq h.made n ≡ b → IsPrefix (meetings_in n (log_in (level rows steps k (m []) tag (Composite h c e kids) X) [])) (m [] n)
      by_number true is = let same : h.made ≡ n = grind (arith, nat_tests, is) in subst (λ i. IsPrefix (meetings_in i (log_in (level rows steps k (m []) tag (Composite h c e kids) X) [])) (m [] i)) same (first-own h.made (m [] h.made) _ its)
      by_number false is = subst (λ v. IsPrefix v (m [] n)) (sym (first-others h.made n (m [] h.made) _ its is)) tt

  own-other : (tag : Tag) (h : Past) (c e : Core T) (kids : Nodes T A) (X : Streams T) (n : ℕ) → nat_eq h.made n ≡ false → meetings_in n (log_in (level rows steps k (m []) tag (Composite h c e kids) X) []) ≡ []
  own-other tag h c e kids X n is = first-others h.made n (m [] h.made) _ (director-own rows (child_step steps) k (m [] h.made) tag h c kids X e) is

  level-given : (tag : Tag) (n : Node T A) (X : Streams T) → IsFitting n → AreWired n → AreGiven m n (log_in (level rows steps k (m []) tag n X))
  level-given tag (Actor h a b) X f w = let n : Node T A = Actor h a b in subst (λ (v : Log T). AreGiven m n v) (sym (actor-log tag h a (rows.react tag b X))) (given-none m n)
  level-given tag (Composite h c e kids) X f w = record { first = begins; due = none_due }
    where
      below : BelowGiven m kids (log_in (level rows steps k (m []) tag (Composite h c e kids) X))
      below = director-explained rows law k d m (m [] h.made) tag h c kids X e f w.1 (λ o. BelowGiven m kids (log_in o)) (λ H core r x. composite-given rows steps owed m gives tag h c e kids X f w core r x)

      begins : (p : Path) (n : ℕ) → IsPrefix (meetings_in n (log_in (level rows steps k (m []) tag (Composite h c e kids) X) p)) (m p n)
      begins [] n = own-given tag h c e kids X n
      begins (i ∷ p) n = below.first i p n

      none_due : (p : Path) (n : ℕ) → n < made_at (Composite h c e kids) p → meetings_in n (log_in (level rows steps k (m []) tag (Composite h c e kids) X) p) ≡ []
      none_due [] n less = own-other tag h c e kids X n (grind (arith, nat_tests, less))
      none_due (i ∷ p) n less = below.due i p n less

  level-past : (counts : CountingStep rows (λ tag n X. level rows steps k (m []) tag n X)) (tag : Tag) (n z : Node T A) (X out : Streams T) (l : Log T) → IsFitting n → AreWired n → level rows steps k (m []) tag n X ≡ Done z out l → ArePast z l
  level-past counts tag (Actor h a b) z X out l f w g = λ p n late. ap (λ (v : Log T). meetings_in n (v p)) (sym (ap (λ v. log_in v) g) ∙ actor-log tag h a (rows.react tag b X))
  level-past counts tag (Composite h c e kids) z X out l f w g = past
    where
      own_count : made_at z [] ≡ suc h.made
      own_count = counts.own_path tag (Composite h c e kids) z X out l f w g

      past : (p : Path) (n : ℕ) → made_at z p ≤ n → meetings_in n (l p) ≡ []
      past [] n late = ap (λ (v : Log T). meetings_in n (v [])) (sym (ap (λ v. log_in v) g)) ∙ own-other tag h c e kids X n (let later : h.made < n = omega (arith, late, own_count) in grind (arith, nat_tests, later))
      past (i ∷ p) n late = director-explained rows law k d m (m [] h.made) tag h c kids X e f w.1 (λ o. o ≡ Done z out l → meetings_in n (l (i ∷ p)) ≡ []) (λ H core r x same. composite-past rows steps owed m gives tag h c e kids X f w core r x z out l same (counts.below tag (Composite h c e kids) z X out l f w g) i p n late) g

-- every step
pub given-at : {T A : Type 0} (rows : Rows T A) → LawfulRows rows → (k d : ℕ) (m : Meets) → GivenStep rows m (step_at rows k d m)
unfolding step_at
given-at rows law k zero m = record { given = λ tag n X f w. given-none m n; past = λ tag n z X out l f w e. absurd (cc) }
given-at rows law k (suc d) m =
    let gives = λ (i : ℕ). given-at rows law k d (below_child i m) in
    record { given = level-given rows law k d m gives; past = level-past rows law k d m gives (counting-at rows law k (suc d) m) }
