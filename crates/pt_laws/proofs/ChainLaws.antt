-- The children of a composite: their firings one after another keep logs closed, and a reset keeps what a run has come to.
use Rattle.std.proofs.Common.{◌≡◌, ℕ, zero, suc, ◌+◌, List, [], ◌∷◌, ◌++◌, Bool, true, false, ◌||◌, length, Option, Some, None, inl, inr, refl, sym, ap, ap₂, subst, arith, ◌∙◌, append-nil}
use Rattle.std.proofs.Math.Path.{fun_ext}
use Rattle.pt_meaning.specs.Basics.{Log, Firing, Event, Finished, Met, firings_in, silent, log_then, own}
use Rattle.pt_meaning.specs.Machine.{Done, Stepping}
use Rattle.pt_meaning.specs.Modal.{get}
use Rattle.pt_meaning.specs.Children.{Child, numbered, nodes, child_facts, child_step}
use Rattle.pt_meaning.specs.Node.{Rows, Core, Node, Nodes, Actor, Composite, none, more, list_of, nodes_of, facts_of, made_of, reset_of, reset_all}
use Rattle.pt_meaning.specs.Closed.{Has, child_of, Begun, UnderWay, is_modal}
use Rattle.pt_laws.specs.Channels as channels
use Rattle.pt_laws.specs.Heights.{IsFitting, AllFitting}
use Rattle.pt_laws.specs.LogsOfRuns.{log_in}
use Rattle.pt_laws.specs.SoundRuns.{log_in_child, idle, ClosedIn, AllClosedIn, on_place, IsWired, IsSamePlan, KeptIn, AllKeptIn, all_of, SoundStep}
use Rattle.pt_laws.specs.Explained.{Turned, ChainOf, EndsWith, PartOf, of_turns}
use Rattle.pt_laws.proofs.JoinLaws.{log-assoc}
use Rattle.pt_laws.proofs.LogLaws.{log-with_number}
use Rattle.pt_laws.proofs.FiringLaws.{number-kept}
use Rattle.pt_laws.proofs.HeightLaws.{with-number-done}
use Rattle.pt_laws.proofs.RecordLaws.{all-append, all-quiet}
use Rattle.pt_laws.proofs.LevelLaws.{taken-none, given-none}

-- lists of children
pub numbered-get : {T A : Type 0} (b : ℕ) (kids : Nodes T A) (i : ℕ) (n : Node T A) → child_of kids i ≡ Some n → get (numbered b (list_of kids)) i ≡ Some (record { number = b + i; node = n })
numbered-get b none i n e = absurd (cc)
numbered-get {T} {A} b (more k kids) zero n e =
    let a : b ≡ b + 0 = omega arith in
    let same : k ≡ n = cc in
    ap₂ (λ (u : ℕ) (v : Node T A). let c : Child (Node T A) = record { number = u; node = v } in Option.Some c) a same
numbered-get {T} {A} b (more k kids) (suc i) n e = let a : suc b + i ≡ b + suc i = omega arith in numbered-get (suc b) kids i n e ∙ ap (λ (u : ℕ). let c : Child (Node T A) = record { number = u; node = n } in Option.Some c) a

pub nodes-get : {T A : Type 0} (xs : List (Child (Node T A))) (i : ℕ) (n : Node T A) → child_of (nodes_of (nodes xs)) i ≡ Some n → (c : Child (Node T A)) × (get xs i ≡ Some c) × (c.node ≡ n)
nodes-get [] i n e = absurd (cc)
nodes-get {T} {A} (x ∷ xs) zero n e = let same : x.node ≡ n = some-node x.node n e in (x, refl, same)
  where
    some-node : (u v : Node T A) → Some u ≡ Some v → u ≡ v
    some-node u v e = cc
nodes-get (x ∷ xs) (suc i) n e = nodes-get xs i n e

pub nodes-long : {T A : Type 0} (xs : List (Child (Node T A))) → length (list_of (nodes_of (nodes xs))) ≡ length xs
nodes-long [] = refl
nodes-long (x ∷ xs) = ap (λ n. suc n) (nodes-long xs)

-- the children that a run has come to, by number
pub kept-child : {T A : Type 0} (rows : Rows T A) (u : Bool) (ks₀ ks : Nodes T A) (b i : ℕ) (l : Log T) (k₀ : Node T A) → AllKeptIn rows u ks₀ ks b l → child_of ks₀ i ≡ Some k₀ → (k : Node T A) × (child_of ks i ≡ Some k) × KeptIn rows u k₀ k (log_in_child (b + i) l)
kept-child rows u none none b i l k₀ h e = absurd (cc)
kept-child rows u none (more k ks) b i l k₀ h e = absurd h
kept-child rows u (more x ks₀) none b i l k₀ h e = absurd h
kept-child {T} {A} rows u (more x ks₀) (more k ks) b zero l k₀ h e =
    let a : b ≡ b + 0 = omega arith in
    let same : x ≡ k₀ = cc in
    (k, refl, subst (λ (v : Node T A). KeptIn rows u v k (log_in_child (b + 0) l)) same (subst (λ v. KeptIn rows u x k (log_in_child v l)) a h.0))
kept-child rows u (more x ks₀) (more k ks) b (suc i) l k₀ h e =
    let r = kept-child rows u ks₀ ks (suc b) i l k₀ h.1 e in let a : suc b + i ≡ b + suc i = omega arith in (r.0, r.1, subst (λ v. KeptIn rows u k₀ r.0 (log_in_child v l)) a r.2)

pub fitting-child : {T A : Type 0} (ks : Nodes T A) (i : ℕ) (k : Node T A) → AllFitting ks → child_of ks i ≡ Some k → IsFitting k
fitting-child none i k h e = absurd (cc)
fitting-child {T} {A} (more x ks) zero k h e = let same : x ≡ k = cc in subst (λ (v : Node T A). IsFitting v) same h.0
fitting-child (more x ks) (suc i) k h e = fitting-child ks i k h.1 e

-- a reset keeps what a run has come to, where there may be one
or-true : (a b : Bool) → a ≡ true → (a || b) ≡ true
or-true true b e = refl
or-true false b e = absurd (cc)

mutual
  pub reset-kept : {T A : Type 0} (rows : Rows T A) (u : Bool) → u ≡ true → (n₀ n : Node T A) (l : Log T) → ClosedIn rows u n₀ l idle → KeptIn rows u n₀ n l → KeptIn rows u n₀ (reset_of n) l
  reset-kept rows u t (Actor h₀ a₀ b₀) (Actor h a b) l c k = (k.0, k.1, (l [], [], sym (append-nil (l [])), ap (λ v. Option.Some v) (sym k.1), inr t))
  reset-kept rows u t (Actor h₀ a₀ b₀) (Composite h s d kids) l c k = absurd k
  reset-kept rows u t (Composite h₀ c₀ d₀ kids₀) (Actor h a b) l c k = absurd k
  reset-kept {T} rows u t (Composite h₀ c₀ d₀ kids₀) (Composite h s d kids) l c k = (
    record {
      made = k.0.made;
      start = k.0.start;
      counts = resets-long kids ∙ k.0.counts;
      plan = subst (λ v. IsSamePlan v c₀) (sym k.0.start) (record { sources = λ i q. refl; modal = refl; keeps = refl });
      first = k.0.first;
      wired = subst (λ v. IsWired v) (sym k.0.start) k.0.first_wired;
      first_wired = k.0.first_wired;
      numbers = k.0.numbers;
      since = h.made;
      before = omega arith;
      from = inr t;
      tokens = λ e i q.
          ap₂ (λ (v : List T) (w : Core T). v ++ on_place w i q) (taken-none rows u h₀ c₀ d₀ kids₀ l c [] silent idle h.made k.0.made k.0.numbers (λ ns f g. absurd g) i q) k.0.start ∙ k.0.first i q ∙ sym (append-nil (channels.held_at c₀ i q)) ∙
          ap (λ v. channels.held_at c₀ i q ++ v) (sym (given-none rows u h₀ c₀ d₀ kids₀ l c [] silent idle h.made k.0.made k.0.numbers (λ ns f g. absurd g) (channels.source_of c₀ i q)));
    },
    resets-kept rows (u || is_modal c₀) (or-true u (is_modal c₀) t) kids₀ kids 0 l c.2 k.1,
  )

  resets-kept : {T A : Type 0} (rows : Rows T A) (u : Bool) → u ≡ true → (ks₀ ks : Nodes T A) (b : ℕ) (l : Log T) → AllClosedIn rows u ks₀ b l idle → AllKeptIn rows u ks₀ ks b l → AllKeptIn rows u ks₀ (reset_all ks) b l
  resets-kept rows u t none none b l c k = tt
  resets-kept rows u t none (more n ns) b l c k = absurd k
  resets-kept rows u t (more n ns) none b l c k = absurd k
  resets-kept rows u t (more n₀ ns₀) (more n ns) b l c k = (reset-kept rows u t n₀ n (log_in_child b l) c.0 k.0, resets-kept rows u t ns₀ ns (suc b) l c.1 k.1)

  resets-long : {T A : Type 0} (ks : Nodes T A) → length (list_of (reset_all ks)) ≡ length (list_of ks)
  resets-long none = refl
  resets-long (more n ns) = ap (λ v. suc v) (resets-long ns)

-- an event of which there is none
pub no-finished : {T : Type 0} (ns : List ℕ) (f : Firing T) (es : List (Event T)) → firings_in es ≡ 0 → Has (Finished ns f) es → ⊥
no-finished ns f [] e h = h
no-finished ns f (Finished ms g ∷ es) e h = omega (arith, e)
no-finished {T} ns f (Met ms i m ∷ es) e (inl h) = clash h
  where
    clash : Finished ns f ≡ Met ms i m → ⊥
    clash h = cc
no-finished ns f (Met ms i m ∷ es) e (inr h) = no-finished ns f es e h

-- the firings of a child one after another
pub record ChainSound {T A : Type 0} (rows : Rows T A) (u : Bool) (n₀ : Node T A) (i : ℕ) (l first : Log T) (ts : List (Turned T)) (z : Child (Node T A)) : Type 0 where
  pub closed : ClosedIn rows u n₀ (log_then l first) idle
  pub kept : KeptIn rows u n₀ z.node (log_then l first)
  pub fits : IsFitting z.node
  pub number : z.number ≡ i
  pub told : (pick : Firing T → List T) → all_of pick (first []) ≡ of_turns pick ts

module _ {T A : Type 0} (rows : Rows T A) (steps : ℕ → Stepping T (Node T A)) (sound : (i : ℕ) → SoundStep rows (steps i)) (u : Bool) (n₀ : Node T A) (i : ℕ) where
  pub chain-sound : (ts : List (Turned T)) (s z : Child (Node T A)) (l first : Log T) → s.number ≡ i → IsFitting s.node → ClosedIn rows u n₀ l idle → KeptIn rows u n₀ s.node l → ChainOf (child_facts (facts_of rows)) (child_step steps) s ts z first → ChainSound rows u n₀ i l first ts z
  chain-sound [] s z l first e f c k h =
      let quiet : l ≡ log_then l first = fun_ext (λ p. sym (append-nil (l p)) ∙ ap (λ v. l p ++ v) (ap (λ v. v p) (sym h.1))) in
      record {
        closed = subst (λ v. ClosedIn rows u n₀ v idle) quiet c;
        kept = subst (λ (v : Child (Node T A)). KeptIn rows u n₀ v.node (log_then l first)) (sym h.0) (subst (λ v. KeptIn rows u n₀ s.node v) quiet k);
        fits = subst (λ (v : Child (Node T A)). IsFitting v.node) (sym h.0) f;
        number = ap (λ (v : Child (Node T A)). v.number) h.0 ∙ e;
        told = λ pick. ap (λ (v : Log T). all_of pick (v [])) h.1;
      }
  chain-sound (t ∷ ts) s z l first e f c k h =
      let y : Child (Node T A) = h.0 in
      let bare_step : steps s.number t.record_of.tag s.node t.record_of.inputs ≡ Done y.node t.record_of.outputs t.inside = with-number-done s.number (steps s.number t.record_of.tag s.node t.record_of.inputs) y t.record_of.outputs t.inside h.3 in
      let number : y.number ≡ s.number = number-kept s.number (steps s.number t.record_of.tag s.node t.record_of.inputs) y t.record_of.outputs t.inside h.3 in
      let same_record : record { number = made_of s.node; tag = t.record_of.tag; inputs = t.record_of.inputs; outputs = t.record_of.outputs } ≡ t.record_of =
      ap (λ (v : ℕ). let g : Firing T = record { number = v; tag = t.record_of.tag; inputs = t.record_of.inputs; outputs = t.record_of.outputs } in g) (sym h.2)
      in
      let done = (sound s.number).done u n₀ s.node y.node l f c k t.record_of.tag t.record_of.inputs t.record_of.outputs t.inside bare_step in
      let A : Log T = log_then t.inside (own t.record_of) in
      let closed_next : ClosedIn rows u n₀ (log_then l A) idle = subst (λ (g : Firing T). ClosedIn rows u n₀ (log_then l (log_then t.inside (own g))) idle) same_record done.0 in
      let kept_next : KeptIn rows u n₀ y.node (log_then l A) = subst (λ (g : Firing T). KeptIn rows u n₀ y.node (log_then l (log_then t.inside (own g)))) same_record done.1 in
      let next = chain-sound ts y z (log_then l A) h.1 (number ∙ e) ((sound s.number).fits t.record_of.tag s.node y.node t.record_of.inputs t.record_of.outputs t.inside f bare_step) closed_next kept_next h.4 in
      let whole : log_then (log_then l A) h.1 ≡ log_then l first = sym (log-assoc l A h.1) ∙ ap (λ v. log_then l v) (sym h.5) in
      let quiet : firings_in (t.inside []) ≡ 0 = subst (λ q. firings_in (log_in q []) ≡ 0) bare_step ((sound s.number).own_path u n₀ s.node l f c k t.record_of.tag t.record_of.inputs).1 in
      record {
        closed = subst (λ v. ClosedIn rows u n₀ v idle) whole next.closed;
        kept = subst (λ v. KeptIn rows u n₀ z.node v) whole next.kept;
        fits = next.fits;
        number = next.number;
        told = λ pick.
            ap (λ (v : Log T). all_of pick (v [])) h.5 ∙ all-append pick (t.inside [] ++ own t.record_of []) (h.1 []) ∙
            ap₂ (λ v w. v ++ w) (all-append pick (t.inside []) (own t.record_of []) ∙ ap (λ v. v ++ (pick t.record_of ++ [])) (all-quiet pick (t.inside []) quiet) ∙ append-nil (pick t.record_of)) (next.told pick);
      }

  -- and what it doesn't finish: what is under way in the child is what its step says
  pub record OfStep (l part_log : Log T) (way : UnderWay T) (z : Child (Node T A)) (b : Begun T) : Type 0 where
    pub before : Log T
    pub fits : IsFitting z.node
    pub closed : ClosedIn rows u n₀ before idle
    pub kept : KeptIn rows u n₀ z.node before
    pub is_way : way ≡ ((sound z.number).under_way u n₀ z.node before fits closed kept b.tag b.inputs).0
    pub logged : log_then before (log_in (steps z.number b.tag z.node b.inputs)) ≡ log_then l part_log
    pub number : z.number ≡ i

  pub record ChildAfter (l part_log : Log T) (ts : List (Turned T)) (b : Option (Begun T)) (z : Child (Node T A)) : Type 0 where
    pub way : UnderWay T
    pub under : way [] ≡ b
    pub closed : ClosedIn rows u n₀ (log_then l part_log) way
    pub finished : b ≡ None → ClosedIn rows u n₀ (log_then l part_log) idle × KeptIn rows u n₀ z.node (log_then l part_log)
    pub told : (pick : Firing T → List T) → all_of pick (part_log []) ≡ of_turns pick ts
    pub idle_if : b ≡ None → way ≡ idle
    pub of_step : (begun : Begun T) → b ≡ Some begun → OfStep l part_log way z begun

  pub part-sound : (s z : Child (Node T A)) (l part_log : Log T) (ts : List (Turned T)) (b : Option (Begun T)) → s.number ≡ i → IsFitting s.node → ClosedIn rows u n₀ l idle → KeptIn rows u n₀ s.node l → PartOf (child_facts (facts_of rows)) (child_step steps) s part_log ts b z → ChildAfter l part_log ts b z
  part-sound s z l part_log ts b e f c k p = go b p.first (chain-sound ts s z l p.first e f c k p.chain) p.rest p.ends p.whole
    where
      go : (b : Option (Begun T)) (first : Log T) → ChainSound rows u n₀ i l first ts z → (rest : Log T) → EndsWith (child_step steps) z b rest → part_log ≡ log_then first rest → ChildAfter l part_log ts b z
      go None first ch rest ends whole =
          let same : first ≡ part_log = sym (whole ∙ ap (λ v. log_then first v) ends ∙ fun_ext (λ p. append-nil (first p))) in
          let closed : ClosedIn rows u n₀ (log_then l part_log) idle = subst (λ v. ClosedIn rows u n₀ (log_then l v) idle) same ch.closed in
          record {
            way = idle;
            under = refl;
            closed = closed;
            finished = λ q. (closed, subst (λ v. KeptIn rows u n₀ z.node (log_then l v)) same ch.kept);
            told = λ pick. ap (λ (v : Log T). all_of pick (v [])) (sym same) ∙ ch.told pick;
            idle_if = λ q. refl;
            of_step = λ x q. absurd (none-some x q);
          }
        where
          none-some : (x : Begun T) → None ≡ Some x → ⊥
          none-some x e = cc
      go (Some b) first ch rest ends whole =
          let inner = ends ∙ log-with_number z.number (steps z.number b.tag z.node b.inputs) in
          let under = (sound z.number).under_way u n₀ z.node (log_then l first) ch.fits ch.closed ch.kept b.tag b.inputs in
          let quiet : firings_in (rest []) ≡ 0 = subst (λ (v : Log T). firings_in (v []) ≡ 0) (sym inner) ((sound z.number).own_path u n₀ z.node (log_then l first) ch.fits ch.closed ch.kept b.tag b.inputs).1 in
          let all : log_then (log_then l first) (log_in (steps z.number b.tag z.node b.inputs)) ≡ log_then l part_log = ap (λ v. log_then (log_then l first) v) (sym inner) ∙ sym (log-assoc l first rest) ∙ ap (λ v. log_then l v) (sym whole) in
          record {
            way = under.0;
            under = under.1;
            closed = subst (λ v. ClosedIn rows u n₀ v under.0) all under.2;
            finished = λ q. absurd (some-none b q);
            told = λ pick. ap (λ (v : Log T). all_of pick (v [])) whole ∙ all-append pick (first []) (rest []) ∙ ap₂ (λ v w. v ++ w) (ch.told pick) (all-quiet pick (rest []) quiet) ∙ append-nil (of_turns pick ts);
            idle_if = λ q. absurd (some-none b q);
            of_step = λ x q. subst (λ (y : Begun T). OfStep l part_log under.0 z y) (same-begun x q) (record { before = log_then l first; fits = ch.fits; closed = ch.closed; kept = ch.kept; is_way = refl; logged = all; number = ch.number });
          }
        where
          some-none : (x : Begun T) → Some x ≡ None → ⊥
          some-none x e = cc

          same-begun : (x : Begun T) → Some b ≡ Some x → b ≡ x
          same-begun x e = cc
