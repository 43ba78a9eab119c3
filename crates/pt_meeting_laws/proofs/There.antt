-- Every step tells of each path meetings that the composite there can have, and leaves the channels and the children as many.
use Rattle.std.proofs.Common.{◌≡◌, ◌⊎◌, inl, inr, ℕ, zero, suc, ◌+◌, ◌≤◌, List, [], ◌∷◌, ◌++◌, length, true, Option, Some, None, refl, sym, ap, subst, ◌∙◌, arith}
use Rattle.pt_meaning.specs.Tag.{Tag}
use Rattle.pt_meaning.specs.Streams.{Streams, get}
use Rattle.pt_meaning.specs.Log.{Path, Log, Firing, Meeting, meetings_in, silent, log_then, own}
use Rattle.pt_meaning.specs.Machine.{Outcome, Done, Stuck, Stepping, recorded}
use Rattle.pt_meaning.specs.Net.{Inside}
use Rattle.pt_meaning.specs.Meetings.{Meets, below_child}
use Rattle.pt_meaning.specs.Children.{Child, numbered, nodes, child_facts, child_step}
use Rattle.pt_meaning.specs.Tree.{Rows, Answer, Gives, Fails, Core, Past, Node, Nodes, Actor, Composite, none, more, list_of, nodes_of, made_of, fired_at, height, reset_of, reset_all}
use Rattle.pt_meaning.specs.NodeFacts.{facts_of}
use Rattle.pt_meaning.specs.Step.{actor_outcome, as_node, level, step_at, Step}
use Rattle.pt_meaning.specs.Lawful.{LawfulRows}
use Rattle.pt_meaning.specs.Closed.{Begun, child_of, is_modal}
use Rattle.pt_laws.specs.Heights.{IsFitting}
use Rattle.pt_laws.specs.LogsOfRuns.{log_at, log_in}
use Rattle.pt_laws.specs.Explained.{Turned, ChainOf, EndsWith, PartOf, Explained, IfDone, DoneWell}
use Rattle.pt_laws.proofs.LogLaws.{log-with_number}
use Rattle.pt_laws.proofs.FiringLaws.{number-kept, done-within}
use Rattle.pt_laws.proofs.HeightLaws.{with-number-done, numbered-length}
use Rattle.pt_laws.proofs.ClosedLaws.{child-or-beyond}
use Rattle.pt_laws.proofs.ChainLaws.{fitting-child, nodes-long}
use Rattle.pt_laws.proofs.ClosedSteps.{director-explained, actor-quiet}
use Rattle.pt_records.specs.Counts.{AreWired}
use Rattle.pt_records.proofs.CountLaws.{CountingStep, counting-at}
use Rattle.pt_records.proofs.MadeLaws.{in-append}
use Rattle.pt_records.proofs.SoFarLaws.{recorded-done}
use Rattle.pt_meeting_laws.specs.There.{Extent, extent_of, extent_at, extent_below, AreOf}
use Rattle.pt_meeting_laws.proofs.Scenes.{Behind}
use Rattle.pt_meeting_laws.proofs.Own.{director-own, own-there, CoreAfter, director-core}
use Rattle.pt_meeting_laws.proofs.Firings.{with-own, wired-child, told-below, beyond-silent, kid-part}

of-append : (e : Option Extent) (xs ys : List Meeting) → AreOf e xs → AreOf e ys → AreOf e (xs ++ ys)
of-append e [] ys g h = h
of-append e (x ∷ xs) ys g h = (g.0, of-append e xs ys g.1 h)

-- what each director of a tree holds is of the extent that it has at its start
abbrev mutual
  pub IsAlike : {T A : Type 0} → Node T A → Type 0
  IsAlike (Actor h a b) = Unit {0}
  IsAlike (Composite h c d kids) = (extent_of d (length (list_of kids)) ≡ extent_of c (length (list_of kids))) × AllAlike kids

  pub AllAlike : {T A : Type 0} → Nodes T A → Type 0
  AllAlike none = Unit {0}
  AllAlike (more n ns) = IsAlike n × AllAlike ns

-- ---- resets

resets-long : {T A : Type 0} (ns : Nodes T A) → length (list_of (reset_all ns)) ≡ length (list_of ns)
resets-long none = refl
resets-long (more n ns) = ap (λ k. suc k) (resets-long ns)

mutual
  reset-extent : {T A : Type 0} (n : Node T A) (p : Path) → extent_at (reset_of n) p ≡ extent_at n p
  reset-extent (Actor h a b) p = refl
  reset-extent (Composite h c d kids) [] = ap (λ k. extent_of c k) (resets-long kids)
  reset-extent (Composite h c d kids) (i ∷ p) = resets-extent kids i p

  resets-extent : {T A : Type 0} (ns : Nodes T A) (i : ℕ) (p : Path) → extent_below (reset_all ns) i p ≡ extent_below ns i p
  resets-extent none i p = refl
  resets-extent (more n ns) zero p = reset-extent n p
  resets-extent (more n ns) (suc i) p = resets-extent ns i p

mutual
  reset-alike : {T A : Type 0} (n : Node T A) → IsAlike n → IsAlike (reset_of n)
  reset-alike (Actor h a b) w = tt
  reset-alike (Composite h c d kids) w = (refl, resets-alike kids w.1)

  resets-alike : {T A : Type 0} (ns : Nodes T A) → AllAlike ns → AllAlike (reset_all ns)
  resets-alike none w = tt
  resets-alike (more n ns) w = (reset-alike n w.0, resets-alike ns w.1)

-- ---- children by their numbers

kids-of : {T A : Type 0} (kids : Nodes T A) (i : ℕ) (p : Path) (n : Node T A) → child_of kids i ≡ Some n → extent_below kids i p ≡ extent_at n p
kids-of none i p n e = absurd (cc)
kids-of {T} {A} (more k kids) zero p n e = let same : k ≡ n = cc in ap (λ (v : Node T A). extent_at v p) same
kids-of (more k kids) (suc i) p n e = kids-of kids i p n e

kids-past : {T A : Type 0} (kids : Nodes T A) (i : ℕ) (p : Path) → length (list_of kids) ≤ i → extent_below kids i p ≡ None
kids-past none i p h = refl
kids-past (more k kids) zero p h = absurd (omega (arith, h))
kids-past (more k kids) (suc i) p h = kids-past kids i p (omega (arith, h))

below-of : {T A : Type 0} (cs : List (Child (Node T A))) (i : ℕ) (p : Path) (s : Child (Node T A)) → get cs i ≡ Some s → extent_below (nodes_of (nodes cs)) i p ≡ extent_at s.node p
below-of [] i p s e = absurd (cc)
below-of {T} {A} (c ∷ cs) zero p s e = let same : c ≡ s = cc in ap (λ (v : Child (Node T A)). extent_at v.node p) same
below-of (c ∷ cs) (suc i) p s e = below-of cs i p s e

below-past : {T A : Type 0} (cs : List (Child (Node T A))) (i : ℕ) (p : Path) → length cs ≤ i → extent_below (nodes_of (nodes cs)) i p ≡ None
below-past [] i p h = refl
below-past (c ∷ cs) zero p h = absurd (omega (arith, h))
below-past (c ∷ cs) (suc i) p h = below-past cs i p (omega (arith, h))

alike-child : {T A : Type 0} (kids : Nodes T A) (i : ℕ) (n : Node T A) → AllAlike kids → child_of kids i ≡ Some n → IsAlike n
alike-child none i n w e = absurd (cc)
alike-child {T} {A} (more k kids) zero n w e = let same : k ≡ n = cc in subst (λ (v : Node T A). IsAlike v) same w.0
alike-child (more k kids) (suc i) n w e = alike-child kids i n w.1 e

alike-all : {T A : Type 0} (cs : List (Child (Node T A))) → ((i : ℕ) (s : Child (Node T A)) → get cs i ≡ Some s → IsAlike s.node) → AllAlike (nodes_of (nodes cs))
alike-all [] h = tt
alike-all (c ∷ cs) h = (h 0 c refl, alike-all cs (λ i s e. h (suc i) s e))

there-or-past : {S : Type 0} (ss : List S) (i : ℕ) → ((s : S) × (get ss i ≡ Some s)) ⊎ (length ss ≤ i)
there-or-past [] i = inr (omega arith)
there-or-past (s ∷ ss) zero = inl (s, refl)
there-or-past {S} (s ∷ ss) (suc i) = go (there-or-past ss i)
  where
    go : ((z : S) × (get ss i ≡ Some z)) ⊎ (length ss ≤ i) → ((z : S) × (get ss i ≡ Some z)) ⊎ (suc (length ss) ≤ suc i)
    go (inl h) = inl h
    go (inr h) = inr (omega (arith, h))

-- ---- what a step owes

-- the log tells of each path meetings that the composite there can have
abbrev pub AreThere : {T A : Type 0} → Node T A → Log T → Type 0
AreThere s l = (p : Path) (j : ℕ) → AreOf (extent_at s p) (meetings_in j (l p))

-- the node has the extents of the other
pub record IsLike {T A : Type 0} (s z : Node T A) : Type 0 where
  pub alike : IsAlike z
  pub same : (p : Path) → extent_at z p ≡ extent_at s p

pub record ThereStep {T A : Type 0} (step : Stepping T (Node T A)) : Type 0 where
  pub there : (tag : Tag) (n : Node T A) (X : Streams T) → IsFitting n → AreWired n → IsAlike n → AreThere n (log_in (step tag n X))
  pub stays : (tag : Tag) (n z : Node T A) (X out : Streams T) (l : Log T) → IsFitting n → AreWired n → IsAlike n → step tag n X ≡ Done z out l → IsLike n z

there-own : {T A : Type 0} (s : Node T A) (l : Log T) (f : Firing T) → AreThere s l → AreThere s (log_then l (own f))
there-own s l f h p j = subst (λ ms. AreOf (extent_at s p) ms) (sym (with-own l f p j)) (h p j)

pub there-joined : {T A : Type 0} (s y : Node T A) (l n : Log T) → ((p : Path) → extent_at y p ≡ extent_at s p) → AreThere s l → AreThere y n → AreThere s (log_then l n)
there-joined s y l n same g h p j = subst (λ ms. AreOf (extent_at s p) ms) (sym (in-append j (l p) (n p))) (of-append (extent_at s p) (meetings_in j (l p)) (meetings_in j (n p)) (g p j) (subst (λ e. AreOf e (meetings_in j (n p))) (same p) (h p j)))

-- ---- the firings of a child one after another

pub record ChainThere {T A : Type 0} (s z : Child (Node T A)) (l : Log T) : Type 0 where
  pub there : AreThere s.node l
  pub like : IsLike s.node z.node
  pub fits : IsFitting z.node
  pub wired : AreWired z.node
  pub number : z.number ≡ s.number

module _ {T A : Type 0} (rows : Rows T A) (steps : ℕ → Stepping T (Node T A)) (counting : (i : ℕ) → CountingStep rows (steps i)) (owed : (i : ℕ) → ThereStep (steps i)) where
  chain-there : (ts : List (Turned T)) (s z : Child (Node T A)) (l : Log T) → IsFitting s.node → AreWired s.node → IsAlike s.node → ChainOf (child_facts (facts_of rows)) (child_step steps) s ts z l → ChainThere s z l
  chain-there [] s z l fit w a h =
      subst (λ (v : Log T). ChainThere s z v) (sym h.1)
      (subst (λ (v : Child (Node T A)). ChainThere s v silent) (sym h.0) (record { there = λ p j. tt; like = record { alike = a; same = λ p. refl }; fits = fit; wired = w; number = refl }))
  chain-there (t ∷ ts) s z l fit w a h =
      let y : Child (Node T A) = h.0 in
      let bare : steps s.number t.record_of.tag s.node t.record_of.inputs ≡ Done y.node t.record_of.outputs t.inside = with-number-done s.number (steps s.number t.record_of.tag s.node t.record_of.inputs) y t.record_of.outputs t.inside h.3 in
      let number : y.number ≡ s.number = number-kept s.number (steps s.number t.record_of.tag s.node t.record_of.inputs) y t.record_of.outputs t.inside h.3 in
      let c = counting s.number in
      let fit_y = c.fits t.record_of.tag s.node y.node t.record_of.inputs t.record_of.outputs t.inside fit bare in
      let wired_y = c.wired t.record_of.tag s.node y.node t.record_of.inputs t.record_of.outputs t.inside fit w bare in
      let like : IsLike s.node y.node = (owed s.number).stays t.record_of.tag s.node y.node t.record_of.inputs t.record_of.outputs t.inside fit w a bare in
      let first : AreThere s.node t.inside = subst (λ r. AreThere s.node (log_in r)) bare ((owed s.number).there t.record_of.tag s.node t.record_of.inputs fit w a) in
      let next = chain-there ts y z h.1 fit_y wired_y like.alike h.4 in
      subst (λ (v : Log T). ChainThere s z v) (sym h.5)
      (record {
        there = there-joined s.node y.node (log_then t.inside (own t.record_of)) h.1 like.same (there-own s.node t.inside t.record_of first) next.there;
        like = record { alike = next.like.alike; same = λ p. next.like.same p ∙ like.same p };
        fits = next.fits;
        wired = next.wired;
        number = next.number ∙ number;
      })

  part-there : (ts : List (Turned T)) (s z : Child (Node T A)) (l : Log T) (way : Option (Begun T)) → IsFitting s.node → AreWired s.node → IsAlike s.node → PartOf (child_facts (facts_of rows)) (child_step steps) s l ts way z → AreThere s.node l
  part-there ts s z l way fit w a h =
      let c = chain-there ts s z h.first fit w a h.chain in
      subst (λ (v : Log T). AreThere s.node v) (sym h.whole) (there-joined s.node z.node h.first h.rest c.like.same c.there (rest way h.ends c))
    where
      rest : (way : Option (Begun T)) → EndsWith (child_step steps) z way h.rest → ChainThere s z h.first → AreThere z.node h.rest
      rest None e c = subst (λ (v : Log T). AreThere z.node v) (sym e) (λ p j. tt)
      rest (Some b) e c = subst (λ (v : Log T). AreThere z.node v) (sym (e ∙ log-with_number z.number (steps z.number b.tag z.node b.inputs))) ((owed z.number).there b.tag z.node b.inputs c.fits c.wired c.like.alike)

  part-like : (ts : List (Turned T)) (s z : Child (Node T A)) (l : Log T) (way : Option (Begun T)) → IsFitting s.node → AreWired s.node → IsAlike s.node → PartOf (child_facts (facts_of rows)) (child_step steps) s l ts way z → IsLike s.node z.node
  part-like ts s z l way fit w a h = (chain-there ts s z h.first fit w a h.chain).like

-- ---- the firing of a composite, explained

module _ {T A H : Type 0} {ms : List Meeting} (rows : Rows T A) (steps : ℕ → Stepping T (Node T A)) (counting : (i : ℕ) → CountingStep rows (steps i)) (owed : (i : ℕ) → ThereStep (steps i))
    (tag : Tag) (h : Past) (c d : Core T) (kids : Nodes T A) (inputs : Streams T) (fit : IsFitting (Composite h c d kids)) (w : AreWired (Composite h c d kids)) (a : IsAlike (Composite h c d kids)) (core : H → Core T) (r : Outcome T (Inside H (Child (Node T A))))
    (x : Explained (child_facts (facts_of rows)) (child_step steps) ms h.made tag inputs d core (numbered 0 (list_of kids)) r) where
  pub below-there : (i : ℕ) (p : Path) (j : ℕ) → AreOf (extent_below kids i p) (meetings_in j (log_in (as_node tag h c core r) (i ∷ p)))
  below-there i p j = subst (λ ms. AreOf (extent_below kids i p) ms) (sym (told-below rows steps tag h c d kids inputs core r x i p j)) (go (child-or-beyond kids i))
    where
      go : ((n : Node T A) × (child_of kids i ≡ Some n)) ⊎ ((child_of kids i ≡ None) × (length (list_of kids) ≤ i)) → AreOf (extent_below kids i p) (meetings_in j (log_at x.logs i p))
      go (inl n) =
          subst (λ e. AreOf e (meetings_in j (log_at x.logs i p))) (sym (kids-of kids i p n.0 n.1))
          (part-there rows steps counting owed (x.turns i) (record { number = 0 + i; node = n.0 }) (x.ends i) (log_at x.logs i) (x.way i) (fitting-child kids i n.0 fit.2 n.1) (wired-child kids i n.0 w.2 n.1) (alike-child kids i n.0 a.1 n.1) (kid-part rows steps tag h c d kids inputs core r x i n.0 n.1) p j)
      go (inr b) = subst (λ (v : Log T). AreOf (extent_below kids i p) (meetings_in j (v p))) (sym (beyond-silent rows steps tag h c d kids inputs core r x i b.1)) tt

  -- where it is done, the children are as many and have the extents that they had
  module _ (z : Node T A) (out : Streams T) (l : Log T) (e : as_node tag h c core r ≡ Done z out l) where
    pub record KidsLike : Type 0 where
      pub held : Core T
      pub kids_now : Nodes T A
      pub state : z ≡ Composite (fired_at tag h) c held kids_now
      pub long : length (list_of kids_now) ≡ length (list_of kids)
      pub alike : AllAlike kids_now
      pub same : (i : ℕ) (p : Path) → extent_below kids_now i p ≡ extent_below kids i p

    pub kids-like : KidsLike
    kids-like =
        let y = done-within tag h c core r z out l e in
        let well : DoneWell (child_facts (facts_of rows)) inputs d core (numbered 0 (list_of kids)) x.turns x.way x.ends y.inside = subst (λ v. IfDone (child_facts (facts_of rows)) inputs d core (numbered 0 (list_of kids)) x.turns x.way x.ends v) y.done x.done in
        let long : length y.inside.kids ≡ length (list_of kids) = well.count ∙ numbered-length 0 (list_of kids) in
        record {
          held = core y.inside.held;
          kids_now = nodes_of (nodes y.inside.kids);
          state = y.state;
          long = nodes-long y.inside.kids ∙ long;
          alike = alike-all y.inside.kids (λ i s g. (kid y.inside.kids long well.kids i s g).0);
          same = λ i p. same-below y.inside.kids long well.kids i p (there-or-past y.inside.kids i);
        }
      where
        past : (ss : List (Child (Node T A))) (j : ℕ) (s : Child (Node T A)) → length ss ≤ j → get ss j ≡ Some s → ⊥
        past [] j s b q = cc
        past (y ∷ ss) zero s b q = omega (arith, b)
        past (y ∷ ss) (suc j) s b q = past ss j s (omega (arith, b)) q

        -- child i before and now
        kid : (now : List (Child (Node T A))) → length now ≡ length (list_of kids) → ((i : ℕ) (s : Child (Node T A)) → get now i ≡ Some s → (s ≡ x.ends i) ⊎ ((is_modal d ≡ true) × (s ≡ (child_facts (facts_of rows)).reset (x.ends i)))) →
            (i : ℕ) (s : Child (Node T A)) → get now i ≡ Some s → IsAlike s.node × ((p : Path) → extent_at s.node p ≡ extent_below kids i p)
        kid now long each i s g = go (child-or-beyond kids i)
          where
            after : (n : Node T A) → IsLike n (x.ends i).node → (s ≡ x.ends i) ⊎ ((is_modal d ≡ true) × (s ≡ (child_facts (facts_of rows)).reset (x.ends i))) → IsLike n s.node
            after n like (inl q) = subst (λ (v : Child (Node T A)). IsLike n v.node) (sym q) like
            after n like (inr q) = subst (λ (v : Child (Node T A)). IsLike n v.node) (sym q.1) (record { alike = reset-alike (x.ends i).node like.alike; same = λ p. reset-extent (x.ends i).node p ∙ like.same p })

            go : ((n : Node T A) × (child_of kids i ≡ Some n)) ⊎ ((child_of kids i ≡ None) × (length (list_of kids) ≤ i)) → IsAlike s.node × ((p : Path) → extent_at s.node p ≡ extent_below kids i p)
            go (inl n) =
                let like : IsLike n.0 s.node = after n.0 (part-like rows steps counting owed (x.turns i) (record { number = 0 + i; node = n.0 }) (x.ends i) (log_at x.logs i) (x.way i) (fitting-child kids i n.0 fit.2 n.1) (wired-child kids i n.0 w.2 n.1) (alike-child kids i n.0 a.1 n.1) (kid-part rows steps tag h c d kids inputs core r x i n.0 n.1)) (each i s g) in
                (like.alike, λ p. like.same p ∙ sym (kids-of kids i p n.0 n.1))
            go (inr b) = absurd (past now i s (omega (arith, b.1, long)) g)

        same-below : (now : List (Child (Node T A))) → length now ≡ length (list_of kids) → ((i : ℕ) (s : Child (Node T A)) → get now i ≡ Some s → (s ≡ x.ends i) ⊎ ((is_modal d ≡ true) × (s ≡ (child_facts (facts_of rows)).reset (x.ends i)))) →
            (i : ℕ) (p : Path) → ((s : Child (Node T A)) × (get now i ≡ Some s)) ⊎ (length now ≤ i) → extent_below (nodes_of (nodes now)) i p ≡ extent_below kids i p
        same-below now long each i p (inl s) = below-of now i p s.0 s.1 ∙ (kid now long each i s.0 s.1).1 p
        same-below now long each i p (inr b) = below-past now i p b ∙ sym (kids-past kids i p (omega (arith, b, long)))

-- the children and the core of a composite that it came to
same-parts : {T A : Type 0} (h : Past) (c e f : Core T) (ks js : Nodes T A) (z : Node T A) → z ≡ Composite h c e ks → z ≡ Composite h c f js → e ≡ f
same-parts h c e f ks js z a b = let both : Composite h c e ks ≡ Composite h c f js = sym a ∙ b in cc

-- ---- one level above steps that owe this

module _ {T A : Type 0} (rows : Rows T A) (law : LawfulRows rows) (k d : ℕ) (m : Meets) (owed : (i : ℕ) → ThereStep {T = T} {A = A} (step_at rows k d (below_child i m))) where
  abbrev steps : ℕ → Stepping T (Node T A)
  steps i = step_at rows k d (below_child i m)

  counting : (i : ℕ) → CountingStep rows (steps i)
  counting i = counting-at rows law k d (below_child i m)

  level-there : (tag : Tag) (n : Node T A) (X : Streams T) → IsFitting n → AreWired n → IsAlike n → AreThere n (log_in (level rows steps k (m []) tag n X))
  level-there tag (Actor h a b) X f w l p j = subst (λ (v : Log T). AreOf None (meetings_in j (v p))) (sym (actor-quiet rows tag X h a (rows.react tag b X))) tt
  level-there tag (Composite h c e kids) X f w l [] j =
      let o : Behind (extent_of e (length (numbered 0 (list_of kids)))) h.made (m [] h.made) [] (log_in (level rows steps k (m []) tag (Composite h c e kids) X) []) = director-own (child_facts (facts_of rows)) (child_step steps) k (m [] h.made) tag h c (numbered 0 (list_of kids)) X e in
      subst (λ v. AreOf v (meetings_in j (log_in (level rows steps k (m []) tag (Composite h c e kids) X) []))) (ap (λ v. extent_of e v) (numbered-length 0 (list_of kids)) ∙ l.0) (own-there (extent_of e (length (numbered 0 (list_of kids)))) h.made _ (m [] h.made) o j)
  level-there tag (Composite h c e kids) X f w l (i ∷ p) j = director-explained rows law k d m (m [] h.made) tag h c kids X e f w.1 (λ o. AreOf (extent_below kids i p) (meetings_in j (log_in o (i ∷ p)))) (λ H core r x. below-there rows steps counting owed tag h c e kids X f w l core r x i p j)

  actor-after : (tag : Tag) (h : Past) (a : A) (r : Answer T A) (z : Node T A) (out : Streams T) (l : Log T) → actor_outcome tag h a r ≡ Done z out l → (b : A) × (z ≡ Actor (fired_at tag h) a b)
  actor-after tag h a (Gives b o) z out l e = (b, cc)
  actor-after tag h a (Fails code) z out l e = absurd (cc)

  -- what a composite came to is like it
  composite-like : (h : Past) (c e : Core T) (kids : Nodes T A) (z : Node T A) (held : Core T) (now : Nodes T A) (g : Past) → z ≡ Composite g c held now → ((n : ℕ) → extent_of held n ≡ extent_of e n) → IsAlike (Composite h c e kids) → length (list_of now) ≡ length (list_of kids) → AllAlike now → ((i : ℕ) (p : Path) → extent_below now i p ≡ extent_below kids i p) →
      IsLike (Composite h c e kids) z
  composite-like h c e kids z held now g is core l long alike same = subst (λ (v : Node T A). IsLike (Composite h c e kids) v) (sym is) (record { alike = (own, alike); same = λ p. at p })
    where
      own : extent_of held (length (list_of now)) ≡ extent_of c (length (list_of now))
      own = core (length (list_of now)) ∙ subst (λ v. extent_of e v ≡ extent_of c v) (sym long) l.0

      at : (p : Path) → extent_at (Composite g c held now) p ≡ extent_at (Composite h c e kids) p
      at [] = ap (λ v. extent_of c v) long
      at (i ∷ p) = same i p

  level-stays : (tag : Tag) (n z : Node T A) (X out : Streams T) (l : Log T) → IsFitting n → AreWired n → IsAlike n → level rows steps k (m []) tag n X ≡ Done z out l → IsLike n z
  level-stays tag (Actor h a b) z X out l f w s g =
      let q = actor-after tag h a (rows.react tag b X) z out l g in
      subst (λ (v : Node T A). IsLike (Actor h a b) v) (sym q.1) (record { alike = tt; same = λ p. refl })
  level-stays tag (Composite h c e kids) z X out l f w s g =
      let y : CoreAfter (child_facts (facts_of rows)) (child_step steps) k (m [] h.made) tag h c (numbered 0 (list_of kids)) X e z = director-core (child_facts (facts_of rows)) (child_step steps) k (m [] h.made) tag h c (numbered 0 (list_of kids)) X e z out l g in
      director-explained rows law k d m (m [] h.made) tag h c kids X e f w.1 (λ v. v ≡ Done z out l → IsLike (Composite h c e kids) z)
      (λ H core r x q.
      let ks = kids-like rows steps counting owed tag h c e kids X f w s core r x z out l q in
      let held : y.core ≡ ks.held = same-parts (fired_at tag h) c y.core ks.held y.kids_now ks.kids_now z y.state ks.state in
      composite-like h c e kids z ks.held ks.kids_now (fired_at tag h) ks.state (λ n. ap (λ v. extent_of v n) (sym held) ∙ y.same n) s ks.long ks.alike ks.same) g

-- ---- every step

pub there-at : {T A : Type 0} (rows : Rows T A) → LawfulRows rows → (k d : ℕ) (m : Meets) → ThereStep {T = T} {A = A} (step_at rows k d m)
unfolding step_at
there-at rows law k zero m = record { there = λ tag n X f w a p j. tt; stays = λ tag n z X out l f w a e. absurd (cc) }
there-at rows law k (suc d) m =
    let owed = λ (i : ℕ). there-at rows law k d (below_child i m) in
    record {
      there = λ tag n X f w a p j. level-there rows law k d m owed tag n X f w a p j;
      stays = λ tag n z X out l f w a e. level-stays rows law k d m owed tag n z X out l f w a e;
    }

-- ---- the whole step, with the node's own record

module _ {T A : Type 0} (rows : Rows T A) (law : LawfulRows rows) (k : ℕ) (m : Meets) (node : Node T A) (tag : Tag) (X : Streams T) (f : IsFitting node) (w : AreWired node) (a : IsAlike node) where
  owes : ThereStep {T = T} {A = A} (step_at rows k (height node) m)
  owes = there-at rows law k (height node) m

  pub step-there : AreThere node (log_in (Step k rows m node tag X))
  step-there = by_outcome (step_at rows k (height node) m tag node X) (owes.there tag node X f w a)
    where
      by_outcome : (r : Outcome T (Node T A)) → AreThere node (log_in r) → AreThere node (log_in (recorded (made_of node) tag X r))
      by_outcome (Done z out l) h = there-own node l (record { number = made_of node; tag = tag; inputs = X; outputs = out }) h
      by_outcome (Stuck fs l) h = h

  pub step-like : (z : Node T A) (out : Streams T) (l : Log T) → Step k rows m node tag X ≡ Done z out l → IsLike node z
  step-like z out l e =
      let r = recorded-done (made_of node) tag X (step_at rows k (height node) m tag node X) z out l e in
      owes.stays tag node z X out r.0 f w a r.1
