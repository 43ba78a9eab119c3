-- A DE composite of a tree in the middle of a reaction, child by child.
use Rattle.std.proofs.Common.{◌≡◌, ◌⊎◌, inl, inr, ⊎_elim, ℕ, zero, suc, ◌+◌, ◌<◌, ◌≤◌, List, [], ◌∷◌, ◌++◌, Bool, true, false, length, get_or, set, map, take, drop, Option, Some, None, refl, sym, ap, subst, ◌∙◌, arith, append-nil}
use Rattle.pt_meaning.specs.Tag.{Tag}
use Rattle.pt_meaning.specs.Streams.{IsPrefix, Streams, at, get}
use Rattle.pt_meaning.specs.Log.{Log, LogBelow, Firing, silent, log_then, own, log_below, within_firing}
use Rattle.pt_meaning.specs.Machine.{Fault, Outcome, Done, Stuck, Stepping, Facts, Partial, Known}
use Rattle.pt_meaning.specs.Net.{Inside}
use Rattle.pt_meaning.specs.Valuation.{TickPlan, known}
use Rattle.pt_meaning.specs.De.{de, by_rows}
use Rattle.pt_meaning.specs.Running.{total}
use Rattle.pt_meaning.specs.Meetings.{Meets, below_child}
use Rattle.pt_meaning.specs.Children.{Child, numbered, child_facts, with_number}
use Rattle.pt_meaning.specs.Tree.{Rows, Core, De, Past, Node, Nodes, Composite, none, list_of, nodes_of, made_of, fired_at, unfired, height, heights}
use Rattle.pt_meaning.specs.NodeFacts.{facts_of, early_of, next_of}
use Rattle.pt_meaning.specs.Step.{as_node, step_at, Step}
use Rattle.pt_meaning.specs.Lawful.{LawfulRows}
use Rattle.pt_meaning.specs.Asked.{IsAsked, known_places, IsTurnAt}
use Rattle.pt_meaning.specs.Closed.{inputs_at}
use Rattle.pt_meaning.specs.Laws.{IsIn}
use Rattle.pt_laws.specs.Channels.{source_in}
use Rattle.pt_laws.specs.CompositeRuns.{steps_below}
use Rattle.pt_laws.specs.Explained.{Turned, ChainOf, of_turns, gives_in, MaySay, IsTakenWell}
use Rattle.pt_laws.specs.LogsOfRuns.{silents, logs_then, log_at, log_in}
use Rattle.pt_laws.specs.SoundRuns.{on_place}
use Rattle.pt_laws.specs.TickRuns.{places_at}
use Rattle.pt_laws.proofs.CompositeLaws.{as-done, as-stuck, log-as-node, below-stuck}
use Rattle.pt_laws.proofs.FuelLaw.{within-below}
use Rattle.pt_laws.proofs.HeightLaws.{levels-agree, firing-keeps, numbered-length}
use Rattle.pt_laws.proofs.Indexed.{drop-more}
use Rattle.pt_laws.proofs.TickNodeLaws.{de-early}
use Rattle.pt_records.specs.Kept.{Kept, Entry, kept_at, kept_by, GrewBy}
use Rattle.pt_records.specs.Fired.{FiresTo, IsStuckAt, SticksAt, LeavesOff}
use Rattle.pt_records.specs.Shut.{IsShut}
use Rattle.pt_records.specs.Middle.{HasMade, IsBetween, below_place}
use Rattle.pt_records.specs.Middle as middle
use Rattle.pt_records.proofs.GrowthLaws.{all-begin, all-go-on, grew-within, all-long}
use Rattle.pt_records.proofs.PauseShut.{pauses-are-shut}
use Rattle.pt_records.proofs.SoFarLaws.{numbered-at, numbered-set, numbered-nodes, low-get, low-set, low-kids, recorded-done}
use Rattle.pt_de_laws.specs.State.{Roles, DeState, Turn, Waits, Answered, Over, Stage, Open, Asked, MayAnswer, IsOver, rows_for, rows_left, partial_of, own_of, begun, asked_on, after_told, after_heard}
use Rattle.pt_de_laws.specs.Lawful.{IsLawful}
use Rattle.pt_de_laws.specs.Chain.{Answers, IsFor, HasTurned, IsAmid, AsksFor, Course, Underway, with_tokens, decided, rounds_of, of_rows}
use Rattle.pt_de_laws.specs.SoFar.{DeSoFar}
use Rattle.pt_de_laws.proofs.PlaceLaws.{get-or-there, get-or-of, get-short}
use Rattle.pt_de_laws.proofs.RowLaws.{first-rows, of-rows-append}
use Rattle.pt_de_laws.proofs.ReadyLaws.{over-waits, over-answered}
use Rattle.pt_de_laws.proofs.SayLaws.{takes-known}
use Rattle.pt_de_laws.proofs.ChainLaws.{its-turn}
use Rattle.pt_de_laws.proofs.LeftLaws.{calls-are-de}

-- children with their numbers
numbered-node : {S : Type 0} (b : ℕ) (ss : List S) (i : ℕ) (d : Child S) → (get_or (numbered b ss) i d).node ≡ get_or ss i d.node
numbered-node b [] i d = refl
numbered-node b (s ∷ ss) zero d = refl
numbered-node b (s ∷ ss) (suc i) d = numbered-node (suc b) ss i d

fits-numbered : {T A : Type 0} (rows : Rows T A) (p : TickPlan) (roles : Roles) (kids : List (Node T A)) → IsFor (facts_of rows) p roles kids → IsFor (child_facts (facts_of rows)) p roles (numbered 0 kids)
fits-numbered rows p roles kids f = record {
  children = numbered-length 0 kids ∙ f.children;
  whole = λ i d l. ap (λ n. (facts_of rows).whole n) (numbered-node 0 kids i d) ∙ f.whole i d.node (omega (arith, l, numbered-length 0 kids));
  answers = λ i d l e. subst (λ n. Answers (facts_of rows) p roles i n) (sym (numbered-node 0 kids i d)) (f.answers i d.node (omega (arith, l, numbered-length 0 kids)) e);
}

pub mapped-numbered : {S B : Type 0} (f : S → B) (b : ℕ) (ss : List S) → map (λ (c : Child S). f c.node) (numbered b ss) ≡ map f ss
mapped-numbered f b [] = refl
mapped-numbered f b (s ∷ ss) = ap (λ xs. f s ∷ xs) (mapped-numbered f (suc b) ss)

past-logs : {T : Type 0} (ls : List (Log T)) (i : ℕ) → length ls ≤ i → log_at ls i ≡ silent
past-logs [] i h = refl
past-logs (l ∷ ls) zero h = absurd (omega (arith, h))
past-logs (l ∷ ls) (suc i) h = past-logs ls i (omega (arith, h))

places-are : {T : Type 0} (ns : List ℕ) (i : ℕ) (V : List (Partial T)) → known_places ns i V ≡ places_at ns i V
places-are [] i V = refl
places-are (n ∷ ns) zero V = refl
places-are {T} (n ∷ ns) (suc i) V = places-are ns i (drop n V) ∙ sym (ap (λ (X : List (Partial T)). take (get_or ns i 0) X) (drop-more n (total (take i ns)) V))

-- of one row there is none before it
none-before : {B : Type 0} (y : B) (before behind : List B) → [] ≡ before ++ (y ∷ behind) → ⊥
none-before y [] behind e = cc
none-before y (b ∷ before) behind e = cc

one-before : {B : Type 0} (x y : B) (before behind : List B) → x ∷ [] ≡ before ++ (y ∷ behind) → (before ≡ []) × (y ≡ x)
one-before x y [] behind e = (refl, cc)
one-before x y (b ∷ before) behind e = absurd (none-before y before behind cc)

-- on its whole lists, or on a row after the firings for those before it
turn-at : {T S : Type 0} (facts : Facts T S) (step : Stepping T S) (tag : Tag) (first : S) (lists : Streams T) (child : S) (X : Streams T) (before behind : List (Streams T)) (out : Streams T) (l : Log T) → rows_for (facts.whole first) lists ≡ before ++ (X ∷ behind) → by_rows facts step tag before first ≡ Done child out l →
    IsTurnAt facts step tag first lists child X
turn-at {T} {S} facts step tag first lists child X before behind out l e f = by (facts.whole first) refl
  where
    done-state : (a b : S) (o : Streams T) → Done a [] silent ≡ Done b o l → b ≡ a
    done-state a b o e = cc

    by : (b : Bool) → facts.whole first ≡ b → IsTurnAt facts step tag first lists child X
    by true w =
        let r = one-before lists X before behind (ap (λ b. rows_for b lists) (sym w) ∙ e) in
        inl (w, done-state first child out (ap (λ Xs. by_rows facts step tag Xs first) (sym r.0) ∙ f), r.1)
    by false w = inr (w, before, behind, out, l, ap (λ b. rows_for b lists) (sym w) ∙ e, f)

-- the composite's step is that of its director
de-at : {T A : Type 0} (rows : Rows T A) (k : ℕ) (m : Meets) (tag : Tag) (h : Past) (c : Core T) (p : TickPlan) (kids : Nodes T A) (inputs : Streams T) →
    step_at rows k (suc (heights kids)) m tag (Composite h c (De p) kids) inputs ≡ as_node tag h c (λ X. De p) (de (child_facts (facts_of rows)) (steps_below rows k (heights kids) m) p k tag (numbered 0 (list_of kids)) inputs)
unfolding step_at
de-at rows k m tag h c p kids inputs = refl

-- in the middle, at a fuel
module _ {T A : Type 0} (rows : Rows T A) (k : ℕ) (m : Meets) (h : Past) (before : DeState T) (kids : Nodes T A) (inputs : Streams T) (any : Child (Node T A)) (s : DeState T) (now : List (Node T A)) (ls : List (Log T))
    (u : Course (child_facts (facts_of rows)) (steps_below rows k (heights kids) m) before (numbered 0 (list_of kids)) inputs any s (numbered 0 now) ls) where
  abbrev facts : Facts T (Child (Node T A))
  facts = child_facts (facts_of rows)

  abbrev step : Stepping T (Child (Node T A))
  step = steps_below rows k (heights kids) m

  abbrev its : List (Child (Node T A))
  its = numbered 0 (list_of kids)

  abbrev places : List ℕ
  places = s.plan.net.places

  abbrev turn : ℕ → Turn
  turn i = get_or s.turns i Waits

  abbrev end : List (Partial T)
  end = decided facts step s its inputs

  rest-chain : (i : ℕ) → i < length places → (turn i ≡ Over → ⊥) → ChainOf facts step (get_or its i any) (u.turned i) (get_or (numbered 0 now) i any) (log_at ls i)
  rest-chain i l n = let r = u.rests i l n in subst (λ (ts : List (Turned T)). ChainOf facts step (get_or its i any) ts (get_or (numbered 0 now) i any) (log_at ls i)) (sym r.2) (r.0, r.1)

  each-chain : (i : ℕ) → i < length places → (t : Turn) → turn i ≡ t → ChainOf facts step (get_or its i any) (u.turned i) (get_or (numbered 0 now) i any) (log_at ls i)
  each-chain i l Over e = (u.over i l e).chain
  each-chain i l Waits e = rest-chain i l (λ o. over-waits (turn i) o e)
  each-chain i l Answered e = rest-chain i l (λ o. over-answered (turn i) o e)

  has-made : (i : ℕ) (c : Child (Node T A)) → get its i ≡ Some c → HasMade facts step (numbered 0 now) ls c i (u.turned i)
  has-made i c e = record {
    end = get_or (numbered 0 now) i any;
    there = get-or-there (numbered 0 now) i any (omega (arith, here, u.wide.news_are));
    chain = subst (λ (x : Child (Node T A)). ChainOf facts step x (u.turned i) (get_or (numbered 0 now) i any) (log_at ls i)) (get-or-of its i any c e) (each-chain i here (turn i) refl);
  }
    where
      here : i < length places
      here = let r = get-short its i c e in omega (arith, r, u.wide.kids_are)

  past-all : (i : ℕ) → length (list_of kids) ≤ i → (log_at ls i ≡ silent) × (u.turned i ≡ [])
  past-all i g = (past-logs ls i (omega (arith, g, u.wide.logs_are, u.wide.kids_are, numbered-length 0 (list_of kids))), u.beyond i (omega (arith, g, u.wide.kids_are, numbered-length 0 (list_of kids))))

  nat-split : (a b : ℕ) → a < b ⊎ (b ≤ a)
  nat-split a zero = inr (omega arith)
  nat-split zero (suc b) = inl (omega arith)
  nat-split (suc a) (suc b) = ⊎_elim (λ (x : a < b). inl (omega (arith, x))) (λ (x : b ≤ a). inr (omega (arith, x))) (nat-split a b)

  nothing-taken : (i q : ℕ) → u.turned i ≡ [] → IsTakenWell facts (De s.plan) its inputs u.turned (λ j. None) s.tag i q
  nothing-taken i q e = inl (subst (λ (ts : List (Turned T)). IsPrefix (of_turns (inputs_at q) ts ++ []) (on_place (De s.plan) i q ++ gives_in inputs u.turned (source_in s.plan.net i q))) (sym e) tt)

  turn-taken : (i q : ℕ) → i < length places → (t : Turn) → turn i ≡ t → IsTakenWell facts (De s.plan) its inputs u.turned (λ j. None) s.tag i q
  turn-taken i q l Over e =
      let h = u.over i l e in
      let same : of_turns (inputs_at q) (u.turned i) ++ [] ≡ of_rows q h.done = append-nil (of_turns (inputs_at q) (u.turned i)) ∙ h.took q in
      let r = takes-known facts step before its inputs any s (numbered 0 now) ls u i l e h.inputs h.on q (of_turns (inputs_at q) (u.turned i) ++ []) (subst (λ xs. IsPrefix xs (at h.inputs q)) (sym same) (first-rows (facts.whole (get_or its i any)) h.inputs h.done (rows_left s.stage i) q h.rows)) in
      inr (refl, r.0, r.1, r.2)
  turn-taken i q l Waits e = nothing-taken i q (u.rests i l (λ o. over-waits (turn i) o e)).2
  turn-taken i q l Answered e = nothing-taken i q (u.rests i l (λ o. over-answered (turn i) o e)).2

  took : (i q : ℕ) → IsTakenWell facts (De s.plan) its inputs u.turned (λ j. None) s.tag i q
  took i q = ⊎_elim (λ l. turn-taken i q l (turn i) refl) (λ g. nothing-taken i q (u.beyond i g)) (nat-split i (length places))

  de-between : IsBetween rows k m s.tag (De s.plan) kids inputs now ls
  de-between = record {
    turns = u.turned;
    made = has-made;
    none = past-all;
    takes = took;
    count = omega (arith, u.wide.news_are, u.wide.kids_are, numbered-length 0 now, numbered-length 0 (list_of kids));
    logged = omega (arith, u.wide.news_are, u.wide.logs_are, numbered-length 0 now);
  }

  pub between-planned : IsBetween rows k m s.tag (De before.plan) kids inputs now ls
  between-planned = subst (λ (p : TickPlan). IsBetween rows k m s.tag (De p) kids inputs now ls) u.plan de-between

  -- child i is asked to fire on a row
  module _ (i : ℕ) (X : Streams T) (Xs : List (Streams T)) (st : s.stage ≡ Asked i (X ∷ Xs)) (child : Node T A) (there : get now i ≡ Some child) where
    abbrev one : Child (Node T A)
    one = record { number = i; node = child }

    one-is : get_or (numbered 0 now) i any ≡ one
    one-is = numbered-at 0 now i i child any (omega arith) there

    amid : IsAmid (length places) s.turns (Asked i (X ∷ Xs))
    amid = subst (λ (x : Stage T). IsAmid (length places) s.turns x) st u.amid

    abbrev turning : HasTurned facts step s.tag (get_or its i any) (places_at places i end) (X ∷ Xs) (get_or (numbered 0 now) i any) (get_or u.outs i []) (log_at ls i) (u.turned i)
    turning = its-turn facts step before its inputs any s (numbered 0 now) ls u i X Xs st

    takes-row : (q : ℕ) → (xs : List T) × MaySay facts (De s.plan) its inputs u.turned s.tag i q (Known xs) × IsPrefix (of_turns (inputs_at q) (u.turned i) ++ at X q) xs
    takes-row q =
        let h = turning in
        let same : of_turns (inputs_at q) (u.turned i) ++ at X q ≡ of_rows q (h.done ++ (X ∷ [])) =
        ap (λ xs. xs ++ at X q) (h.took q) ∙ ap (λ (xs : List T). of_rows q h.done ++ xs) (sym (append-nil (at X q))) ∙ sym (of-rows-append q h.done (X ∷ []))
        in
        takes-known facts step before its inputs any s (numbered 0 now) ls u i amid.0 amid.1 h.inputs h.on q (of_turns (inputs_at q) (u.turned i) ++ at X q)
        (subst (λ xs. IsPrefix xs (at h.inputs q)) (sym same) (first-rows (facts.whole (get_or its i any)) h.inputs (h.done ++ (X ∷ [])) Xs q (h.rows ∙ sym (append-one h.done Xs))))
      where
        append-one : (Ys Zs : List (Streams T)) → (Ys ++ (X ∷ [])) ++ Zs ≡ Ys ++ (X ∷ Zs)
        append-one [] Zs = refl
        append-one (Y ∷ Ys) Zs = ap (λ (Ws : List (Streams T)). Y ∷ Ws) (append-one Ys Zs)

    -- which the composite's firing asks for
    de-asks : IsAsked facts step (m [] h.made) h.made (De s.plan) its s.tag inputs i one s.tag X
    de-asks = let t = turning in (
      refl,
      get_or its i any,
      t.inputs,
      record {
        round = rounds_of s.roles.depths;
        inputs_known = ap (λ v. known v) (places-are places i end) ∙ t.on;
        state = get-or-there its i any (let a = amid.0 in omega (arith, a, u.wide.kids_are));
      },
      t.active,
      subst (λ (c : Child (Node T A)). IsTurnAt facts step s.tag (get_or its i any) t.inputs c X) one-is (turn-at facts step s.tag (get_or its i any) t.inputs (get_or (numbered 0 now) i any) X t.done Xs (get_or u.outs i []) (log_at ls i) t.rows t.fired),
    )

    pub asks-planned : IsAsked facts step (m [] h.made) h.made (De before.plan) its s.tag inputs i one s.tag X
    asks-planned = subst (λ (p : TickPlan). IsAsked facts step (m [] h.made) h.made (De p) its s.tag inputs i one s.tag X) u.plan de-asks

    module _ (place : Option Fault) (inside : Log T) (low : height child ≤ heights kids) (below : LogBelow inside (log_in (step_at rows k (height child) (below_child i m) s.tag child X))) (shut : IsShut rows (below_child i m) child s.tag X place inside) where
      de-in : middle.IsIn rows k m s.tag h (De s.plan) kids inputs now ls u.turned i child s.tag X place inside
      de-in = record {
        there = there;
        low = low;
        at_tag = refl;
        takes = λ q. let r = takes-row q in inr (refl, r.0, r.1, r.2);
        asks = de-asks;
        below = below;
        shut = shut;
      }

      pub in-planned : (b : IsBetween rows k m s.tag (De before.plan) kids inputs now ls) × middle.IsIn rows k m s.tag h (De before.plan) kids inputs now ls b.turns i child s.tag X place inside
      unfolding de-between
      in-planned = subst (λ (p : TickPlan). (b : IsBetween rows k m s.tag (De p) kids inputs now ls) × middle.IsIn rows k m s.tag h (De p) kids inputs now ls b.turns i child s.tag X place inside) u.plan (de-between, de-in)

-- a child past the last
abbrev nobody : {T A : Type 0} → DeState T → Child (Node T A)
nobody s = record { number = 0; node = Composite unfired (De s.plan) (De s.plan) none }

-- a reaction from its beginning
pub de-begins : {T A : Type 0} (rows : Rows T A) → LawfulRows rows → (m : Meets) (tag : Tag) (before : DeState T) (kids : Nodes T A) (inputs : Streams T) (olds : List (Kept T)) → IsLawful before.plan before.roles → IsFor (facts_of rows) before.plan before.roles (list_of kids) → before.wakes ≡ map (next_of rows) (list_of kids) →
    length (list_of kids) ≡ length olds → DeSoFar rows m before kids inputs olds (begun tag inputs before) (list_of kids) olds
de-begins {T} {A} rows law m tag before kids inputs olds lawful fits wakes o = record {
  logs = silents (numbered 0 (list_of kids));
  any = nobody before;
  run = (
    0,
    λ k l.
        calls-are-de.begins (child_facts (facts_of rows)) (steps_below rows k (heights kids) m) before (numbered 0 (list_of kids)) tag inputs (nobody before) (de-early rows law k (heights kids) m) lawful (fits-numbered rows before.plan before.roles (list_of kids) fits)
        (wakes ∙ sym (mapped-numbered (next_of rows) 0 (list_of kids))),
  );
  low = low-kids (heights kids) kids (omega arith);
  kept = all-begin (numbered 0 (list_of kids)) olds (numbered-length 0 (list_of kids) ∙ o);
}

-- in the middle of it
module _ {T A : Type 0} (rows : Rows T A) (m : Meets) (before : DeState T) (kids : Nodes T A) (inputs : Streams T) (olds : List (Kept T)) (s : DeState T) (now : List (Node T A)) (news : List (Kept T)) (x : DeSoFar rows m before kids inputs olds s now news) where
  abbrev its-facts : Facts T (Child (Node T A))
  its-facts = child_facts (facts_of rows)

  abbrev steps : ℕ → Stepping T (Child (Node T A))
  steps k = steps_below rows k (heights kids) m

  abbrev first : List (Child (Node T A))
  first = numbered 0 (list_of kids)

  pub under : Underway its-facts (steps x.run.0) before first inputs x.any s (numbered 0 now) x.logs
  under = x.run.1 x.run.0 (omega arith)

  -- a child is asked to fire on a row
  pub asks : (i : ℕ) → AsksFor s s.stage i → DeSoFar rows m before kids inputs olds (asked_on s.stage i s) now news × ((X : Streams T) × (Xs : List (Streams T)) × ((asked_on s.stage i s).stage ≡ Asked i (X ∷ Xs)))
  asks i a = (
    record {
      logs = x.logs;
      any = x.any;
      run = (x.run.0, λ j o. (calls-are-de.asks its-facts (steps j) before first inputs x.any s (numbered 0 now) x.logs (x.run.1 j o) i a).0);
      low = x.low;
      kept = x.kept;
    },
    (calls-are-de.asks its-facts (steps x.run.0) before first inputs x.any s (numbered 0 now) x.logs under i a).1,
  )

  -- a child has answered early
  pub on-heard : (i : ℕ) (child : Node T A) → get now i ≡ Some child → s.stage ≡ Open → MayAnswer s i → DeSoFar rows m before kids inputs olds (after_heard i (early_of rows s.tag child (partial_of s i)) s) now news
  on-heard i child e o may = record {
    logs = x.logs;
    any = x.any;
    run = (
      x.run.0,
      λ j p.
          subst (λ (c : Child (Node T A)). Underway its-facts (steps j) before first inputs x.any (after_heard i (early_of rows s.tag c.node (partial_of s i)) s) (numbered 0 now) x.logs) (numbered-at 0 now i i child x.any (omega arith) e)
          (calls-are-de.hears its-facts (steps j) before first inputs x.any s (numbered 0 now) x.logs (x.run.1 j p) o i may),
    );
    low = x.low;
    kept = x.kept;
  }

  -- a child that is asked for a row
  module _ (i : ℕ) (X : Streams T) (Xs : List (Streams T)) (st : s.stage ≡ Asked i (X ∷ Xs)) (child : Node T A) (e : get now i ≡ Some child) where
    amid-now : IsAmid (length s.plan.net.places) s.turns (Asked i (X ∷ Xs))
    amid-now = subst (λ (y : Stage T). IsAmid (length s.plan.net.places) s.turns y) st under.course.amid

    short : i < length news
    short = let a = amid-now.0 in omega (arith, a, under.course.wide.logs_are, all-long x.logs olds news x.kept)

    abbrev it : Child (Node T A)
    it = record { number = i; node = child }

    it-is : get_or (numbered 0 now) i x.any ≡ it
    it-is = numbered-at 0 now i i child x.any (omega arith) e

    its-step : (k : ℕ) (r : Outcome T (Node T A)) → step_at rows k (height child) (below_child i m) s.tag child X ≡ r → steps k s.tag (get_or (numbered 0 now) i x.any) X ≡ with_number i r
    its-step k r g = ap (λ c. steps k s.tag c X) it-is ∙ ap (λ v. with_number i v) (levels-agree rows k (heights kids) (height child) (below_child i m) s.tag child X (low-get (heights kids) now i child x.low e) (omega arith) ∙ g)

    its-log : (k : ℕ) → log_in (steps k s.tag (get_or (numbered 0 now) i x.any) X) ≡ log_in (step_at rows k (height child) (below_child i m) s.tag child X)
    its-log k = ap (λ r. log_in r) (its-step k (step_at rows k (height child) (below_child i m) s.tag child X) refl) ∙ numbered-log (step_at rows k (height child) (below_child i m) s.tag child X)
      where
        numbered-log : (r : Outcome T (Node T A)) → log_in (with_number i r) ≡ log_in r
        numbered-log (Done z out l) = refl
        numbered-log (Stuck fs l) = refl

    -- its firing is recorded
    module _ (next : Node T A) (out : Streams T) (k : Kept T) (fires : FiresTo (λ fuel. Step fuel rows (below_child i m) child s.tag X) next out (kept_at news i) k) where
      lower : (j : ℕ) → Step j rows (below_child i m) child s.tag X ≡ Done next out fires.log → height next ≤ heights kids
      lower j g =
          let r = recorded-done (made_of child) s.tag X (step_at rows j (height child) (below_child i m) s.tag child X) next out fires.log g in
          let keeps = firing-keeps rows j (height child) (below_child i m) s.tag child next X out r.0 r.1 in
          let under_low = low-get (heights kids) now i child x.low e in
          omega (arith, keeps.0, under_low)

      gone : (j : ℕ) → Underway its-facts (steps j) before first inputs x.any s (numbered 0 now) x.logs → Step j rows (below_child i m) child s.tag X ≡ Done next out fires.log →
          Underway its-facts (steps j) before first inputs x.any (after_told i out (next_of rows next) s) (numbered 0 (set now i next)) (logs_then i fires.log x.logs)
      gone j u g =
          let r = recorded-done (made_of child) s.tag X (step_at rows j (height child) (below_child i m) s.tag child X) next out fires.log g in
          let z : Child (Node T A) = record { number = i; node = next } in
          let on = calls-are-de.goes_on its-facts (steps j) before first inputs x.any s (numbered 0 now) x.logs u i X Xs st z out r.0 (its-step j (Done next out r.0) r.1) in
          let same : log_then r.0 (own (record { number = made_of (get_or (numbered 0 now) i x.any).node; tag = s.tag; inputs = X; outputs = out })) ≡ fires.log =
          ap (λ (c : Child (Node T A)). let f : Firing T = record { number = made_of c.node; tag = s.tag; inputs = X; outputs = out } in log_then r.0 (own f)) it-is ∙ r.2
          in
          subst (λ (l : Log T). Underway its-facts (steps j) before first inputs x.any (after_told i out (next_of rows next) s) (numbered 0 (set now i next)) (logs_then i l x.logs)) same
          (subst (λ ns. Underway its-facts (steps j) before first inputs x.any (after_told i out (next_of rows next) s) ns (logs_then i (log_then r.0 (own (record { number = made_of (get_or (numbered 0 now) i x.any).node; tag = s.tag; inputs = X; outputs = out }))) x.logs)) (numbered-set 0 now i i next (omega arith)) on)

      pub on-fired : DeSoFar rows m before kids inputs olds (after_told i out (next_of rows next) s) (set now i next) (set news i k)
      on-fired = record {
        logs = logs_then i fires.log x.logs;
        any = x.any;
        run = (x.run.0 + fires.done.0, λ j o. gone j (x.run.1 j (omega (arith, o))) (fires.done.1 j (omega (arith, o))));
        low = low-set (heights kids) now i next x.low (lower fires.done.0 (fires.done.1 fires.done.0 (omega arith)));
        kept = all-go-on i fires.log x.logs olds news k short x.kept fires.kept;
      }

  -- the composite
  module _ (h : Past) (start : Core T) (e : Entry T) where
    abbrev the_node : DeState T → Nodes T A → Node T A
    the_node t ns = Composite h start (De t.plan) ns

    abbrev at_fuel : ℕ → Outcome T (Node T A)
    at_fuel k = step_at rows k (suc (heights kids)) m s.tag (the_node before kids) inputs

    abbrev fired_so : ℕ → Outcome T (Inside (Streams T) (Child (Node T A)))
    fired_so k = de its-facts (steps k) before.plan k s.tag first inputs

    composite-at : (k : ℕ) → at_fuel k ≡ as_node s.tag h start (λ X. De before.plan) (fired_so k)
    composite-at k = de-at rows k m s.tag h start before.plan kids inputs

    log-at : (k : ℕ) (l : Log T) → LogBelow l (log_in (fired_so k)) → LogBelow (within_firing h.made l) (log_in (at_fuel k))
    log-at k l b = subst (λ (r : Outcome T (Node T A)). LogBelow (within_firing h.made l) (log_in r)) (sym (composite-at k)) (subst (λ n. LogBelow (within_firing h.made l) n) (sym (log-as-node s.tag h start (λ X. De before.plan) (fired_so k))) (within-below h.made l (log_in (fired_so k)) b))

    stuck-at : (k i : ℕ) (f : Fault) (l : Log T) (gs : List Fault) (n : Log T) → fired_so k ≡ Stuck gs n → IsIn (record { path = i ∷ f.path; firing = f.firing; code = f.code }) gs → LogBelow l (log_in (fired_so k)) → IsStuckAt (record { path = i ∷ f.path; firing = f.firing; code = f.code }) (within_firing h.made l) (at_fuel k)
    stuck-at k i f l gs n g w b =
        below-stuck (at_fuel k) i f h.made gs n l (composite-at k ∙ as-stuck s.tag h start (λ X. De before.plan) (fired_so k) gs n g) w (subst (λ r. LogBelow l (log_in r)) g b)

    shut-between : LawfulRows rows → IsShut rows m (the_node before kids) s.tag inputs None (within_firing h.made (log_below x.logs))
    shut-between law = pauses-are-shut.between rows law m s.tag h start (De before.plan) kids inputs now x.logs x.run.0 (λ fits k o. between-planned rows k m h before kids inputs x.any (with_tokens (x.run.1 k o).all s) now x.logs (x.run.1 k o).course)

    abbrev many : ℕ
    many = length s.plan.net.sources

    pub over : s.stage ≡ Open → IsOver s → FiresTo at_fuel (Composite (fired_at s.tag h) start (De before.plan) (nodes_of now)) (own_of s) (kept_by e olds) (kept_by e news)
    over o f = record {
      log = within_firing h.made (log_below x.logs);
      done = (
        x.run.0 + many,
        λ k p.
            composite-at k ∙ as-done s.tag h start (λ X. De before.plan) (fired_so k) _ _ _ (calls-are-de.ends its-facts (steps k) before first inputs x.any s (numbered 0 now) x.logs (x.run.1 k (omega (arith, p))) o f k (omega (arith, p))) ∙
            ap (λ (ns : List (Node T A)). let r : Outcome T (Node T A) = Done (Composite (fired_at s.tag h) start (De before.plan) (nodes_of ns)) (own_of s) (within_firing h.made (log_below x.logs)) in r) (numbered-nodes 0 now),
      );
      kept = grew-within h.made x.logs e olds news x.kept;
    }

    pub off-between : LawfulRows rows → LeavesOff at_fuel (IsShut rows m (the_node before kids) s.tag inputs None) (kept_by e olds) (kept_by e news)
    off-between law = record {
      log = within_firing h.made (log_below x.logs);
      beginning = (x.run.0 + many, λ k o. log-at k (log_below x.logs) (calls-are-de.off its-facts (steps k) before first inputs x.any s (numbered 0 now) x.logs (x.run.1 k (omega (arith, o))) k (omega (arith, o))));
      kept = grew-within h.made x.logs e olds news x.kept;
      part = shut-between law;
    }

    -- in the middle of a firing of a child
    module _ (i : ℕ) (X : Streams T) (Xs : List (Streams T)) (st : s.stage ≡ Asked i (X ∷ Xs)) (child : Node T A) (there : get now i ≡ Some child) (k' : Kept T) where
      abbrev so_far : Log T → Log T
      so_far l = within_firing h.made (log_below (logs_then i l x.logs))

      abbrev its_outcome : ℕ → Outcome T (Node T A)
      its_outcome k = step_at rows k (height child) (below_child i m) s.tag child X

      grew : (l : Log T) → GrewBy l (kept_at news i) k' → GrewBy (so_far l) (kept_by e olds) (kept_by e (set news i k'))
      grew l g = grew-within h.made (logs_then i l x.logs) e olds (set news i k') (all-go-on i l x.logs olds news k' (short i X Xs st child there) x.kept g)

      within-one : (k : ℕ) → x.run.0 ≤ k → many ≤ k → (l : Log T) → LogBelow l (log_in (its_outcome k)) → LogBelow (log_below (logs_then i l x.logs)) (log_in (fired_so k))
      within-one k o q l b = calls-are-de.off_within its-facts (steps k) before first inputs x.any s (numbered 0 now) x.logs (x.run.1 k o) i X Xs st l (subst (λ v. LogBelow l v) (sym (its-log i X Xs st child there k)) b) k q

      shut-within : LawfulRows rows → (place : Option Fault) (l : Log T) (k₀ : ℕ) → ((k : ℕ) → k₀ ≤ k → LogBelow l (log_in (its_outcome k))) → IsShut rows (below_child i m) child s.tag X place l → IsShut rows m (the_node before kids) s.tag inputs (below_place i place) (so_far l)
      shut-within law place l k₀ below shut =
          pauses-are-shut.within rows law m s.tag h start (De before.plan) kids inputs now x.logs i child s.tag X place l (x.run.0 + k₀)
          (λ fits k o. in-planned rows k m h before kids inputs x.any (with_tokens (x.run.1 k (omega (arith, o))).all s) now x.logs (x.run.1 k (omega (arith, o))).course i X Xs st child there place l (low-get (heights kids) now i child x.low there) (below k (omega (arith, o))) shut)

      pub off-within : LawfulRows rows → LeavesOff its_outcome (IsShut rows (below_child i m) child s.tag X None) (kept_at news i) k' → LeavesOff at_fuel (IsShut rows m (the_node before kids) s.tag inputs None) (kept_by e olds) (kept_by e (set news i k'))
      off-within law off = record {
        log = so_far off.log;
        beginning = (x.run.0 + off.beginning.0 + many, λ k o. log-at k (log_below (logs_then i off.log x.logs)) (within-one k (omega (arith, o)) (omega (arith, o)) off.log (off.beginning.1 k (omega (arith, o)))));
        kept = grew off.log off.kept;
        part = shut-within law None off.log off.beginning.0 off.beginning.1 off.part;
      }

      pub stuck-within : LawfulRows rows → (f : Fault) → SticksAt its_outcome (IsShut rows (below_child i m) child s.tag X (Some f)) f (kept_at news i) k' →
          SticksAt at_fuel (IsShut rows m (the_node before kids) s.tag inputs (Some (record { path = i ∷ f.path; firing = f.firing; code = f.code }))) (record { path = i ∷ f.path; firing = f.firing; code = f.code }) (kept_by e olds) (kept_by e (set news i k'))
      stuck-within law f sticks = record {
        log = so_far sticks.log;
        stuck = (
          x.run.0 + sticks.stuck.0 + many,
          λ k o.
              let r = sticks.stuck.1 k (omega (arith, o)) in
              let s' = calls-are-de.sticks its-facts (steps k) before first inputs x.any s (numbered 0 now) x.logs (x.run.1 k (omega (arith, o))) i X Xs st r.0 r.1 (its-step i X Xs st child there k (Stuck r.0 r.1) r.2) f r.3 k (omega (arith, o)) in
              stuck-at k i f (log_below (logs_then i sticks.log x.logs)) s'.0 s'.1 s'.2 s'.3 (within-one k (omega (arith, o)) (omega (arith, o)) sticks.log (subst (λ v. LogBelow sticks.log (log_in v)) (sym r.2) r.4)),
        );
        kept = grew sticks.log sticks.kept;
        part = shut-within law (Some f) sticks.log sticks.stuck.0 (λ k o. let r = sticks.stuck.1 k o in subst (λ v. LogBelow sticks.log (log_in v)) (sym r.2) r.4) sticks.part;
      }
