-- An SR composite of a tree in the middle of a firing, child by child.
use Rattle.std.proofs.Common.{◌≡◌, ◌⊎◌, inl, inr, ℕ, zero, suc, ◌+◌, ◌<◌, ◌≤◌, List, [], ◌∷◌, ◌++◌, Bool, true, false, length, get_or, set, take, drop, Option, Some, None, refl, sym, ap, subst, ◌∙◌, arith, append-nil}
use Rattle.std.proofs.Math.Path.{fun_ext}
use Rattle.pt_meaning.specs.Tag.{Tag}
use Rattle.pt_meaning.specs.Streams.{IsPrefix, Streams, at, get}
use Rattle.pt_meaning.specs.Log.{Log, LogBelow, Firing, silent, log_then, own, log_below, within_firing}
use Rattle.pt_meaning.specs.Machine.{second_token_code, causality_code, Fault, Outcome, Done, Stuck, Stepping, Facts, Partial, Unknown, Known, partial_at}
use Rattle.pt_meaning.specs.Net.{Inside}
use Rattle.pt_meaning.specs.Valuation.{TickPlan, known, known_then, valuation}
use Rattle.pt_meaning.specs.Sr.{sr_active, sr_turn, all_single, sr}
use Rattle.pt_meaning.specs.Running.{total}
use Rattle.pt_meaning.specs.Meetings.{Meets, below_child}
use Rattle.pt_meaning.specs.Children.{Child, numbered, child_facts, with_number}
use Rattle.pt_meaning.specs.Tree.{Rows, Core, Sr, Past, Node, Nodes, Composite, none, list_of, nodes_of, made_of, fired_at, unfired, height, heights}
use Rattle.pt_meaning.specs.NodeFacts.{facts_of, early_of}
use Rattle.pt_meaning.specs.Step.{as_node, step_at, Step}
use Rattle.pt_meaning.specs.Lawful.{LawfulRows}
use Rattle.pt_meaning.specs.Asked.{IsAsked, known_places}
use Rattle.pt_meaning.specs.Closed.{inputs_at}
use Rattle.pt_meaning.specs.Laws.{IsIn}
use Rattle.pt_laws.specs.Channels.{source_in}
use Rattle.pt_laws.specs.CompositeRuns.{steps_below}
use Rattle.pt_laws.specs.Explained.{Turned, ChainOf, of_turns, gives_in, MaySay, IsTakenWell}
use Rattle.pt_laws.specs.LogsOfRuns.{silents, logs_then, log_at, log_in}
use Rattle.pt_laws.specs.SoundRuns.{on_place}
use Rattle.pt_laws.specs.TickRuns.{places_at}
use Rattle.pt_laws.proofs.CompositeLaws.{as-done, as-stuck, log-as-node, below-stuck}
use Rattle.pt_laws.proofs.FuelLaw.{within-below}
use Rattle.pt_laws.proofs.HeightLaws.{levels-agree, firing-keeps, numbered-length}
use Rattle.pt_laws.proofs.Indexed.{drop-more}
use Rattle.pt_laws.proofs.Order.{IsPrefix-refl}
use Rattle.pt_laws.proofs.TickLaws.{known-same}
use Rattle.pt_laws.proofs.TickNodeLaws.{sr-early}
use Rattle.pt_records.specs.Kept.{Kept, Entry, kept_at, kept_by, GrewBy}
use Rattle.pt_records.specs.Fired.{FiresTo, IsStuckAt, SticksAt, LeavesOff}
use Rattle.pt_records.specs.Shut.{IsShut}
use Rattle.pt_records.specs.Middle.{HasMade, IsBetween, below_place}
use Rattle.pt_records.specs.Middle as middle
use Rattle.pt_records.proofs.GrowthLaws.{all-begin, all-go-on, grew-within, all-long}
use Rattle.pt_records.proofs.PauseShut.{pauses-are-shut}
use Rattle.pt_records.proofs.ShutSteps.{stepped-is-shut, at-own-place}
use Rattle.pt_records.proofs.SoFarLaws.{numbered-at, numbered-set, numbered-nodes, low-get, low-set, low-kids, recorded-done}
use Rattle.pt_sr.specs.State.{SrState, MayFire, MayAnswer, inputs_of, lent_of, own_of, asked, listening, after_told, after_heard}
use Rattle.pt_sr.specs.Chain.{IsFor, AllFired, NothingComes, HasTurn, Underway}
use Rattle.pt_sr.specs.SoFar.{SrSoFar, sr_node, sr_outcome, SrBegins, SrGoesOn, SrHears, SrIsDone, SrLacks, SrIsStuck, SrGivesTwo, SrIsLeftOff, SrIsLeftOffWithin}
use Rattle.pt_sr.proofs.KnownLaws.{all-known, places-below}
use Rattle.pt_sr.proofs.ChainLaws.{calls-are-sr, get-or-there}

-- children with their numbers
numbered-node : {S : Type 0} (b : ℕ) (ss : List S) (i : ℕ) (d : Child S) → (get_or (numbered b ss) i d).node ≡ get_or ss i d.node
numbered-node b [] i d = refl
numbered-node b (s ∷ ss) zero d = refl
numbered-node b (s ∷ ss) (suc i) d = numbered-node (suc b) ss i d

fits-numbered : {T A : Type 0} (rows : Rows T A) (s : SrState T) (kids : List (Node T A)) → IsFor (facts_of rows) s kids → IsFor (child_facts (facts_of rows)) s (numbered 0 kids)
fits-numbered rows s kids f = record {
  children = numbered-length 0 kids ∙ f.children;
  strict = λ i d l q tag vs e port. subst (λ n. partial_at (early_of rows tag n vs) port ≡ Unknown) (sym (numbered-node 0 kids i d)) (f.strict i d.node (omega (arith, l, numbered-length 0 kids)) q tag vs e port);
}

-- lists by number
get-or-of : {B : Type 0} (xs : List B) (i : ℕ) (d x : B) → get xs i ≡ Some x → get_or xs i d ≡ x
get-or-of [] i d x e = absurd (cc)
get-or-of (y ∷ xs) zero d x e = cc
get-or-of (y ∷ xs) (suc i) d x e = get-or-of xs i d x e

get-short : {B : Type 0} (xs : List B) (i : ℕ) (x : B) → get xs i ≡ Some x → i < length xs
get-short [] i x e = absurd (cc)
get-short (y ∷ xs) zero x e = omega arith
get-short (y ∷ xs) (suc i) x e = let r = get-short xs i x e in omega (arith, r)

past-flags : (fs : List Bool) (i : ℕ) → length fs ≤ i → get_or fs i false ≡ false
past-flags [] i h = refl
past-flags (f ∷ fs) zero h = absurd (omega (arith, h))
past-flags (f ∷ fs) (suc i) h = past-flags fs i (omega (arith, h))

past-logs : {T : Type 0} (ls : List (Log T)) (i : ℕ) → length ls ≤ i → log_at ls i ≡ silent
past-logs [] i h = refl
past-logs (l ∷ ls) zero h = absurd (omega (arith, h))
past-logs (l ∷ ls) (suc i) h = past-logs ls i (omega (arith, h))

places-are : {T : Type 0} (ns : List ℕ) (i : ℕ) (V : List (Partial T)) → known_places ns i V ≡ places_at ns i V
places-are [] i V = refl
places-are (n ∷ ns) zero V = refl
places-are {T} (n ∷ ns) (suc i) V = places-are ns i (drop n V) ∙ sym (ap (λ (X : List (Partial T)). take (get_or ns i 0) X) (drop-more n (total (take i ns)) V))

-- known inputs are what is known, place by place
known-exact : {T : Type 0} (vs : List (Partial T)) (X : Streams T) (q : ℕ) → known vs ≡ Some X → (partial_at vs q ≡ Known (at X q)) ⊎ (at X q ≡ [])
known-exact {T} [] X q e = inr (ap (λ (Y : Streams T). at Y q) (some-same [] X e))
  where
    some-same : (u v : Streams T) → Some u ≡ Some v → v ≡ u
    some-same u v e = cc
known-exact {T} (Unknown ∷ vs) X q e = absurd (no (known vs) e)
  where
    no : (o : Option (Streams T)) → known_then Unknown o ≡ Some X → ⊥
    no None e = cc
    no (Some Y) e = cc
known-exact {T} (Known xs ∷ vs) X q e = go (known vs) e q (λ Y f r. known-exact vs Y r f)
  where
    go : (o : Option (Streams T)) → known_then (Known xs) o ≡ Some X → (q : ℕ) → ((Y : Streams T) → o ≡ Some Y → (r : ℕ) → (partial_at vs r ≡ Known (at Y r)) ⊎ (at Y r ≡ [])) → (partial_at (Known xs ∷ vs) q ≡ Known (at X q)) ⊎ (at X q ≡ [])
    go None e q ih = absurd (cc)
    go (Some Y) e zero ih = let same : X ≡ xs ∷ Y = cc in inl (ap (λ (Z : Streams T). Known (at Z 0)) (sym same))
    go (Some Y) e (suc r) ih = let same : X ≡ xs ∷ Y = cc in subst (λ (Z : Streams T). (partial_at vs r ≡ Known (at Z (suc r))) ⊎ (at Z (suc r) ≡ [])) (sym same) (ih Y refl r)

-- a child that has had its turn has made it
turn-chain : {T S : Type 0} (facts : Facts T S) (step : Stepping T S) (tag : Tag) (c : S) (vs : List (Partial T)) (z : S) (l : Log T) (ts : List (Turned T)) → HasTurn facts step tag c vs z l ts → ChainOf facts step c ts z l
turn-chain {T} facts step tag c vs z l ts h =
    let f : Firing T = record { number = facts.made c; tag = tag; inputs = h.inputs; outputs = h.outputs } in
    subst (λ (ts : List (Turned T)). ChainOf facts step c ts z l) (sym h.turn) (z, silent, refl, h.done, (refl, refl), h.logged ∙ fun_ext (λ p. sym (append-nil (log_then h.inside (own f) p))))

-- the composite's step is that of its director
sr-at : {T A : Type 0} (rows : Rows T A) (k : ℕ) (m : Meets) (tag : Tag) (h : Past) (c : Core T) (p : TickPlan) (kids : Nodes T A) (inputs : Streams T) →
    step_at rows k (suc (heights kids)) m tag (Composite h c (Sr p) kids) inputs ≡ as_node tag h c (λ X. Sr p) (sr (child_facts (facts_of rows)) (steps_below rows k (heights kids) m) p k h.made tag (numbered 0 (list_of kids)) inputs)
unfolding step_at
sr-at rows k m tag h c p kids inputs = refl

-- between two firings of children, at a fuel
module _ {T A : Type 0} (rows : Rows T A) (k : ℕ) (m : Meets) (h : Past) (before : SrState T) (kids : Nodes T A) (inputs : Streams T) (any : Child (Node T A)) (s : SrState T) (now : List (Node T A)) (ls : List (Log T))
    (u : Underway (child_facts (facts_of rows)) (steps_below rows k (heights kids) m) before (numbered 0 (list_of kids)) inputs any s (numbered 0 now) ls) where
  abbrev facts : Facts T (Child (Node T A))
  facts = child_facts (facts_of rows)

  abbrev step : Stepping T (Child (Node T A))
  step = steps_below rows k (heights kids) m

  abbrev its : List (Child (Node T A))
  its = numbered 0 (list_of kids)

  abbrev places : List ℕ
  places = s.tick.plan.net.places

  has-made : (i : ℕ) (c : Child (Node T A)) → get its i ≡ Some c → HasMade facts step (numbered 0 now) ls c i (u.turns i)
  has-made i c e = record { end = get_or (numbered 0 now) i any; there = get-or-there (numbered 0 now) i any (omega (arith, here, u.wide.news_are)); chain = subst (λ (x : Child (Node T A)). ChainOf facts step x (u.turns i) (get_or (numbered 0 now) i any) (log_at ls i)) (get-or-of its i any c e) (by (get_or s.tick.fired i false) refl) }
    where
      here : i < length places
      here = let r = get-short its i c e in omega (arith, r, u.wide.kids_are)

      by : (b : Bool) → get_or s.tick.fired i false ≡ b → ChainOf facts step (get_or its i any) (u.turns i) (get_or (numbered 0 now) i any) (log_at ls i)
      by true f = turn-chain facts step s.tag (get_or its i any) (inputs_of s.tick i) (get_or (numbered 0 now) i any) (log_at ls i) (u.turns i) (u.turned i here f)
      by false f = subst (λ (ts : List (Turned T)). ChainOf facts step (get_or its i any) ts (get_or (numbered 0 now) i any) (log_at ls i)) (sym (u.unturned i f)) (u.rests i here f)

  past-all : (i : ℕ) → length (list_of kids) ≤ i → (log_at ls i ≡ silent) × (u.turns i ≡ [])
  past-all i g = (
    past-logs ls i (omega (arith, g, u.wide.logs_are, u.wide.kids_are, numbered-length 0 (list_of kids))),
    u.unturned i (past-flags s.tick.fired i (omega (arith, g, u.flags, u.wide.kids_are, numbered-length 0 (list_of kids)))),
  )

  -- what is taken of a place may be known of it
  takes-known : (i q : ℕ) (X : Streams T) → known (inputs_of s.tick i) ≡ Some X → (xs : List T) → xs ≡ at X q → IsPrefix xs (on_place (Sr s.tick.plan) i q ++ gives_in inputs u.turns (source_in s.tick.plan.net i q)) ⊎ ((false ≡ false) × (ys : List T) × MaySay facts (Sr s.tick.plan) its inputs u.turns s.tag i q (Known ys) × IsPrefix xs ys)
  takes-known i q X e xs f = by (known-exact (inputs_of s.tick i) X q e)
    where
      by : (partial_at (inputs_of s.tick i) q ≡ Known (at X q)) ⊎ (at X q ≡ []) → IsPrefix xs (on_place (Sr s.tick.plan) i q ++ gives_in inputs u.turns (source_in s.tick.plan.net i q)) ⊎ ((false ≡ false) × (ys : List T) × MaySay facts (Sr s.tick.plan) its inputs u.turns s.tag i q (Known ys) × IsPrefix xs ys)
      by (inl g) = inr (refl, at X q, subst (λ v. MaySay facts (Sr s.tick.plan) its inputs u.turns s.tag i q v) g (u.says i q), subst (λ ys. IsPrefix ys (at X q)) (sym f) (IsPrefix-refl (at X q)))
      by (inr g) = inl (subst (λ ys. IsPrefix ys (on_place (Sr s.tick.plan) i q ++ gives_in inputs u.turns (source_in s.tick.plan.net i q))) (sym (f ∙ g)) tt)

  took : (i q : ℕ) → IsTakenWell facts (Sr s.tick.plan) its inputs u.turns (λ j. None) s.tag i q
  took i q = by (get_or s.tick.fired i false) refl
    where
      within : i < length places ⊎ (length places ≤ i)
      within = nat_split i (length places)
        where
          nat_split : (a b : ℕ) → a < b ⊎ (b ≤ a)
          nat_split a zero = inr (omega arith)
          nat_split zero (suc b) = inl (omega arith)
          nat_split (suc a) (suc b) = later (nat_split a b)
            where
              later : a < b ⊎ (b ≤ a) → suc a < suc b ⊎ (suc b ≤ suc a)
              later (inl x) = inl (omega (arith, x))
              later (inr x) = inr (omega (arith, x))

      nothing : u.turns i ≡ [] → IsTakenWell facts (Sr s.tick.plan) its inputs u.turns (λ j. None) s.tag i q
      nothing e = inl (subst (λ (ts : List (Turned T)). IsPrefix (of_turns (inputs_at q) ts ++ []) (on_place (Sr s.tick.plan) i q ++ gives_in inputs u.turns (source_in s.tick.plan.net i q))) (sym e) tt)

      fired : get_or s.tick.fired i false ≡ true → i < length places ⊎ (length places ≤ i) → IsTakenWell facts (Sr s.tick.plan) its inputs u.turns (λ j. None) s.tag i q
      fired f (inl l) =
          let t = u.turned i l f in
          takes-known i q t.inputs t.on (of_turns (inputs_at q) (u.turns i) ++ []) (append-nil (of_turns (inputs_at q) (u.turns i)) ∙ ap (λ ts. of_turns (inputs_at q) ts) t.turn ∙ append-nil (at t.inputs q))
      fired f (inr g) = absurd (cc (sym f ∙ past-flags s.tick.fired i (omega (arith, g, u.flags))))

      by : (b : Bool) → get_or s.tick.fired i false ≡ b → IsTakenWell facts (Sr s.tick.plan) its inputs u.turns (λ j. None) s.tag i q
      by true f = fired f within
      by false f = nothing (u.unturned i f)

  sr-between : IsBetween rows k m s.tag (Sr s.tick.plan) kids inputs now ls
  sr-between = record {
    turns = u.turns;
    made = has-made;
    none = past-all;
    takes = took;
    count = omega (arith, u.wide.news_are, u.wide.kids_are, numbered-length 0 now, numbered-length 0 (list_of kids));
    logged = omega (arith, u.wide.news_are, u.wide.logs_are, numbered-length 0 now);
  }

  pub between-planned : IsBetween rows k m s.tag (Sr before.tick.plan) kids inputs now ls
  between-planned = subst (λ (p : TickPlan). IsBetween rows k m s.tag (Sr p) kids inputs now ls) u.plan sr-between

  -- child i is asked to fire
  module _ (i : ℕ) (child : Node T A) (there : get now i ≡ Some child) (may : MayFire s.tick i) where
    abbrev one : Child (Node T A)
    one = record { number = i; node = child }

    pub one-is : get_or (numbered 0 now) i any ≡ one
    one-is = numbered-at 0 now i i child any (omega arith) there

    first-is : get its i ≡ Some one
    first-is = get-or-there its i any (omega (arith, may.there, u.wide.kids_are)) ∙ ap (λ x. Option.Some x) (sym (u.rests i may.there may.unfired).0 ∙ one-is)

    knows : known (inputs_of s.tick i) ≡ Some (lent_of s i)
    knows = all-known (inputs_of s.tick i) may.ready

    abbrev val : List (Partial T)
    val = valuation facts.early sr_active (sr_turn facts step) s.tag s.tick.plan.net its inputs u.run.rounds

    -- which the composite's firing asks for
    sr-asks : IsAsked facts step (m [] h.made) h.made (Sr s.tick.plan) its s.tag inputs i one s.tag (lent_of s i)
    sr-asks = (
      refl,
      record {
        round = u.run.rounds;
        inputs_known = ap (λ v. known v) (places-are places i val) ∙ ap (λ v. known v) (known-same (inputs_of s.tick i) (places_at places i val) (lent_of s i) (places-below places i s.tick.known val u.run.caused) knows) ∙ knows;
        state = first-is;
      },
    )

    pub asks-planned : IsAsked facts step (m [] h.made) h.made (Sr before.tick.plan) its s.tag inputs i one s.tag (lent_of s i)
    asks-planned = subst (λ (p : TickPlan). IsAsked facts step (m [] h.made) h.made (Sr p) its s.tag inputs i one s.tag (lent_of s i)) u.plan sr-asks

    module _ (place : Option Fault) (inside : Log T) (low : height child ≤ heights kids) (below : LogBelow inside (log_in (step_at rows k (height child) (below_child i m) s.tag child (lent_of s i)))) (shut : IsShut rows (below_child i m) child s.tag (lent_of s i) place inside) where
      sr-in : middle.IsIn rows k m s.tag h (Sr s.tick.plan) kids inputs now ls u.turns i child s.tag (lent_of s i) place inside
      sr-in = record {
        there = there;
        low = low;
        at_tag = refl;
        takes = λ q. takes-known i q (lent_of s i) knows (of_turns (inputs_at q) (u.turns i) ++ at (lent_of s i) q) (ap (λ (ts : List (Turned T)). of_turns (inputs_at q) ts ++ at (lent_of s i) q) (u.unturned i may.unfired));
        asks = sr-asks;
        below = below;
        shut = shut;
      }

      pub in-planned : (b : IsBetween rows k m s.tag (Sr before.tick.plan) kids inputs now ls) × middle.IsIn rows k m s.tag h (Sr before.tick.plan) kids inputs now ls b.turns i child s.tag (lent_of s i) place inside
      unfolding sr-between
      in-planned = subst (λ (p : TickPlan). (b : IsBetween rows k m s.tag (Sr p) kids inputs now ls) × middle.IsIn rows k m s.tag h (Sr p) kids inputs now ls b.turns i child s.tag (lent_of s i) place inside) u.plan (sr-between, sr-in)

-- a child past the last
abbrev nobody : {T A : Type 0} → SrState T → Child (Node T A)
nobody s = record { number = 0; node = Composite unfired (Sr s.tick.plan) (Sr s.tick.plan) none }

-- a firing from its beginning
pub sr-begins : {T A : Type 0} → SrBegins T A
sr-begins {T} {A} rows law m tag before kids inputs olds fits o = record {
  logs = silents (numbered 0 (list_of kids));
  any = nobody before;
  run = (0, λ k l. calls-are-sr.begins (child_facts (facts_of rows)) (steps_below rows k (heights kids) m) before (numbered 0 (list_of kids)) tag inputs (nobody before) (sr-early rows law k (heights kids) m) (fits-numbered rows before (list_of kids) fits));
  low = low-kids (heights kids) kids (omega arith);
  kept = all-begin (numbered 0 (list_of kids)) olds (numbered-length 0 (list_of kids) ∙ o);
}

-- in the middle of it
module _ {T A : Type 0} (rows : Rows T A) (m : Meets) (before : SrState T) (kids : Nodes T A) (inputs : Streams T) (olds : List (Kept T)) (s : SrState T) (now : List (Node T A)) (news : List (Kept T)) (x : SrSoFar rows m before kids inputs olds s now news) where
  abbrev its-facts : Facts T (Child (Node T A))
  its-facts = child_facts (facts_of rows)

  abbrev steps : ℕ → Stepping T (Child (Node T A))
  steps k = steps_below rows k (heights kids) m

  abbrev first : List (Child (Node T A))
  first = numbered 0 (list_of kids)

  short : (i : ℕ) → i < length s.tick.plan.net.places → i < length news
  short i l = omega (arith, l, (x.run.1 x.run.0 (omega arith)).wide.logs_are, all-long x.logs olds news x.kept)

  -- a child with its step below the composite
  module _ (i : ℕ) (child : Node T A) (e : get now i ≡ Some child) where
    abbrev it : Child (Node T A)
    it = record { number = i; node = child }

    it-is : get_or (numbered 0 now) i x.any ≡ it
    it-is = numbered-at 0 now i i child x.any (omega arith) e

    its-step : (k : ℕ) (r : Outcome T (Node T A)) → step_at rows k (height child) (below_child i m) s.tag child (lent_of s i) ≡ r → steps k s.tag (get_or (numbered 0 now) i x.any) (lent_of s i) ≡ with_number i r
    its-step k r g = ap (λ c. steps k s.tag c (lent_of s i)) it-is ∙ ap (λ v. with_number i v) (levels-agree rows k (heights kids) (height child) (below_child i m) s.tag child (lent_of s i) (low-get (heights kids) now i child x.low e) (omega arith) ∙ g)

    its-log : (k : ℕ) → log_in (steps k s.tag (get_or (numbered 0 now) i x.any) (lent_of s i)) ≡ log_in (step_at rows k (height child) (below_child i m) s.tag child (lent_of s i))
    its-log k = ap (λ r. log_in r) (its-step k (step_at rows k (height child) (below_child i m) s.tag child (lent_of s i)) refl) ∙ numbered-log (step_at rows k (height child) (below_child i m) s.tag child (lent_of s i))
      where
        numbered-log : (r : Outcome T (Node T A)) → log_in (with_number i r) ≡ log_in r
        numbered-log (Done z out l) = refl
        numbered-log (Stuck fs l) = refl

    -- its firing is recorded
    module _ (next : Node T A) (out : Streams T) (k : Kept T) (may : MayFire s.tick i) (fires : FiresTo (λ fuel. Step fuel rows (below_child i m) child s.tag (lent_of s i)) next out (kept_at news i) k) (single : all_single out ≡ true) where
      lower : (j : ℕ) → Step j rows (below_child i m) child s.tag (lent_of s i) ≡ Done next out fires.log → height next ≤ heights kids
      lower j g =
          let r = recorded-done (made_of child) s.tag (lent_of s i) (step_at rows j (height child) (below_child i m) s.tag child (lent_of s i)) next out fires.log g in
          let keeps = firing-keeps rows j (height child) (below_child i m) s.tag child next (lent_of s i) out r.0 r.1 in
          let under = low-get (heights kids) now i child x.low e in
          omega (arith, keeps.0, under)

      gone : (j : ℕ) → Underway its-facts (steps j) before first inputs x.any s (numbered 0 now) x.logs → Step j rows (below_child i m) child s.tag (lent_of s i) ≡ Done next out fires.log →
          Underway its-facts (steps j) before first inputs x.any (after_told i out (asked i s)) (numbered 0 (set now i next)) (logs_then i fires.log x.logs)
      gone j u g =
          let r = recorded-done (made_of child) s.tag (lent_of s i) (step_at rows j (height child) (below_child i m) s.tag child (lent_of s i)) next out fires.log g in
          let z : Child (Node T A) = record { number = i; node = next } in
          let on = calls-are-sr.goes_on its-facts (steps j) before first inputs x.any s (numbered 0 now) x.logs u i may z out r.0 (its-step j (Done next out r.0) r.1) single in
          let same : log_then r.0 (own (record { number = made_of (get_or (numbered 0 now) i x.any).node; tag = s.tag; inputs = lent_of s i; outputs = out })) ≡ fires.log =
          ap (λ (c : Child (Node T A)). let f : Firing T = record { number = made_of c.node; tag = s.tag; inputs = lent_of s i; outputs = out } in log_then r.0 (own f)) it-is ∙ r.2
          in
          subst (λ (l : Log T). Underway its-facts (steps j) before first inputs x.any (after_told i out (asked i s)) (numbered 0 (set now i next)) (logs_then i l x.logs)) same
          (subst (λ ns. Underway its-facts (steps j) before first inputs x.any (after_told i out (asked i s)) ns (logs_then i (log_then r.0 (own (record { number = made_of (get_or (numbered 0 now) i x.any).node; tag = s.tag; inputs = lent_of s i; outputs = out }))) x.logs)) (numbered-set 0 now i i next (omega arith)) on)

      pub on-fired : SrSoFar rows m before kids inputs olds (after_told i out (asked i s)) (set now i next) (set news i k)
      on-fired = record {
        logs = logs_then i fires.log x.logs;
        any = x.any;
        run = (x.run.0 + fires.done.0, λ j o. gone j (x.run.1 j (omega (arith, o))) (fires.done.1 j (omega (arith, o))));
        low = low-set (heights kids) now i next x.low (lower fires.done.0 (fires.done.1 fires.done.0 (omega arith)));
        kept = all-go-on i fires.log x.logs olds news k (short i may.there) x.kept fires.kept;
      }

    pub on-heard : MayAnswer s.tick i → SrSoFar rows m before kids inputs olds (after_heard i (early_of rows s.tag child (inputs_of s.tick i)) (listening i s)) now news
    on-heard may = record {
      logs = x.logs;
      any = x.any;
      run = (
        x.run.0,
        λ j o.
            subst (λ (c : Child (Node T A)). Underway its-facts (steps j) before first inputs x.any (after_heard i (early_of rows s.tag c.node (inputs_of s.tick i)) (listening i s)) (numbered 0 now) x.logs) it-is
            (calls-are-sr.hears its-facts (steps j) before first inputs x.any s (numbered 0 now) x.logs (x.run.1 j o) i may),
      );
      low = x.low;
      kept = x.kept;
    }

  -- the composite
  module _ (h : Past) (start : Core T) (e : Entry T) where
    abbrev at_fuel : ℕ → Outcome T (Node T A)
    at_fuel k = sr_outcome rows m h start before kids s.tag inputs k

    abbrev fired_so : ℕ → Outcome T (Inside (Streams T) (Child (Node T A)))
    fired_so k = sr its-facts (steps k) before.tick.plan k h.made s.tag first inputs

    composite-at : (k : ℕ) → at_fuel k ≡ as_node s.tag h start (λ X. Sr before.tick.plan) (fired_so k)
    composite-at k = sr-at rows k m s.tag h start before.tick.plan kids inputs

    log-at : (k : ℕ) (l : Log T) → LogBelow l (log_in (fired_so k)) → LogBelow (within_firing h.made l) (log_in (at_fuel k))
    log-at k l b = subst (λ (r : Outcome T (Node T A)). LogBelow (within_firing h.made l) (log_in r)) (sym (composite-at k)) (subst (λ n. LogBelow (within_firing h.made l) n) (sym (log-as-node s.tag h start (λ X. Sr before.tick.plan) (fired_so k))) (within-below h.made l (log_in (fired_so k)) b))

    stuck-at : (k i : ℕ) (f : Fault) (l : Log T) (gs : List Fault) (n : Log T) → fired_so k ≡ Stuck gs n → IsIn (record { path = i ∷ f.path; firing = f.firing; code = f.code }) gs → LogBelow l (log_in (fired_so k)) → IsStuckAt (record { path = i ∷ f.path; firing = f.firing; code = f.code }) (within_firing h.made l) (at_fuel k)
    stuck-at k i f l gs n g w b =
        below-stuck (at_fuel k) i f h.made gs n l (composite-at k ∙ as-stuck s.tag h start (λ X. Sr before.tick.plan) (fired_so k) gs n g) w (subst (λ r. LogBelow l (log_in r)) g b)

    pub shut-between : LawfulRows rows → IsShut rows m (sr_node h start before kids) s.tag inputs None (within_firing h.made (log_below x.logs))
    shut-between law = pauses-are-shut.between rows law m s.tag h start (Sr before.tick.plan) kids inputs now x.logs x.run.0 (λ fits k o. between-planned rows k m h before kids inputs x.any s now x.logs (x.run.1 k o))

    abbrev many : ℕ
    many = length s.tick.plan.net.sources

    pub over : AllFired s.tick → FiresTo at_fuel (sr_node (fired_at s.tag h) start before (nodes_of now)) (own_of s) (kept_by e olds) (kept_by e news)
    over f = record {
      log = within_firing h.made (log_below x.logs);
      done = (
        x.run.0 + many,
        λ k o.
            composite-at k ∙
            as-done s.tag h start (λ X. Sr before.tick.plan) (fired_so k) _ _ _ (calls-are-sr.ends its-facts (steps k) before first inputs x.any s (numbered 0 now) x.logs (x.run.1 k (omega (arith, o))) f h.made k (omega (arith, o))) ∙
            ap (λ (ns : List (Node T A)). let r : Outcome T (Node T A) = Done (sr_node (fired_at s.tag h) start before (nodes_of ns)) (own_of s) (within_firing h.made (log_below x.logs)) in r) (numbered-nodes 0 now),
      );
      kept = grew-within h.made x.logs e olds news x.kept;
    }

    pub off-between : LawfulRows rows → LeavesOff at_fuel (IsShut rows m (sr_node h start before kids) s.tag inputs None) (kept_by e olds) (kept_by e news)
    off-between law = record {
      log = within_firing h.made (log_below x.logs);
      beginning = (x.run.0 + many, λ k o. log-at k (log_below x.logs) (calls-are-sr.off its-facts (steps k) before first inputs x.any s (numbered 0 now) x.logs (x.run.1 k (omega (arith, o))) h.made k (omega (arith, o))));
      kept = grew-within h.made x.logs e olds news x.kept;
      part = shut-between law;
    }

    -- nothing more can be learnt
    abbrev blame : Fault
    blame = record { path = []; firing = h.made; code = causality_code }

    pub lacks : LawfulRows rows → NothingComes s.tick → (w : ℕ) → w < length s.tick.plan.net.places → get_or s.tick.fired w false ≡ false → SticksAt at_fuel (IsShut rows m (sr_node h start before kids) s.tag inputs (Some blame)) blame (kept_by e olds) (kept_by e news)
    lacks law nothing w l q = record {
      log = within_firing h.made (log_below x.logs);
      stuck = (
        x.run.0 + many,
        λ k o. (
          blame ∷ [],
          within_firing h.made (log_below x.logs),
          composite-at k ∙ as-stuck s.tag h start (λ X. Sr before.tick.plan) (fired_so k) _ _ (calls-are-sr.lacks its-facts (steps k) before first inputs x.any s (numbered 0 now) x.logs (x.run.1 k (omega (arith, o))) nothing w l q h.made k (omega (arith, o))),
          inl refl,
          λ p. IsPrefix-refl (within_firing h.made (log_below x.logs) p),
        ),
      );
      kept = grew-within h.made x.logs e olds news x.kept;
      part = at-own-place rows m (sr_node h start before kids) s.tag inputs (within_firing h.made (log_below x.logs)) blame refl refl (shut-between law);
    }

    -- in the middle of a firing of a child
    module _ (i : ℕ) (child : Node T A) (there : get now i ≡ Some child) (may : MayFire s.tick i) (k' : Kept T) where
      abbrev so_far : Log T → Log T
      so_far l = within_firing h.made (log_below (logs_then i l x.logs))

      abbrev its_outcome : ℕ → Outcome T (Node T A)
      its_outcome k = step_at rows k (height child) (below_child i m) s.tag child (lent_of s i)

      grew : (l : Log T) → GrewBy l (kept_at news i) k' → GrewBy (so_far l) (kept_by e olds) (kept_by e (set news i k'))
      grew l g = grew-within h.made (logs_then i l x.logs) e olds (set news i k') (all-go-on i l x.logs olds news k' (short i may.there) x.kept g)

      within-one : (k : ℕ) → x.run.0 ≤ k → many ≤ k → (l : Log T) → LogBelow l (log_in (its_outcome k)) → LogBelow (log_below (logs_then i l x.logs)) (log_in (fired_so k))
      within-one k o q l b = calls-are-sr.off_within its-facts (steps k) before first inputs x.any s (numbered 0 now) x.logs (x.run.1 k o) i may l (subst (λ v. LogBelow l v) (sym (its-log i child there k)) b) h.made k q

      shut-within : LawfulRows rows → (place : Option Fault) (l : Log T) (k₀ : ℕ) → ((k : ℕ) → k₀ ≤ k → LogBelow l (log_in (its_outcome k))) → IsShut rows (below_child i m) child s.tag (lent_of s i) place l → IsShut rows m (sr_node h start before kids) s.tag inputs (below_place i place) (so_far l)
      shut-within law place l k₀ below shut =
          pauses-are-shut.within rows law m s.tag h start (Sr before.tick.plan) kids inputs now x.logs i child s.tag (lent_of s i) place l (x.run.0 + k₀)
          (λ fits k o. in-planned rows k m h before kids inputs x.any s now x.logs (x.run.1 k (omega (arith, o))) i child there may place l (low-get (heights kids) now i child x.low there) (below k (omega (arith, o))) shut)

      pub off-within : LawfulRows rows → LeavesOff its_outcome (IsShut rows (below_child i m) child s.tag (lent_of s i) None) (kept_at news i) k' → LeavesOff at_fuel (IsShut rows m (sr_node h start before kids) s.tag inputs None) (kept_by e olds) (kept_by e (set news i k'))
      off-within law off = record {
        log = so_far off.log;
        beginning = (x.run.0 + off.beginning.0 + many, λ k o. log-at k (log_below (logs_then i off.log x.logs)) (within-one k (omega (arith, o)) (omega (arith, o)) off.log (off.beginning.1 k (omega (arith, o)))));
        kept = grew off.log off.kept;
        part = shut-within law None off.log off.beginning.0 off.beginning.1 off.part;
      }

      pub stuck-within : LawfulRows rows → (f : Fault) → SticksAt its_outcome (IsShut rows (below_child i m) child s.tag (lent_of s i) (Some f)) f (kept_at news i) k' →
          SticksAt at_fuel (IsShut rows m (sr_node h start before kids) s.tag inputs (Some (record { path = i ∷ f.path; firing = f.firing; code = f.code }))) (record { path = i ∷ f.path; firing = f.firing; code = f.code }) (kept_by e olds) (kept_by e (set news i k'))
      stuck-within law f sticks = record {
        log = so_far sticks.log;
        stuck = (
          x.run.0 + sticks.stuck.0 + many,
          λ k o.
              let r = sticks.stuck.1 k (omega (arith, o)) in
              let s' = calls-are-sr.sticks its-facts (steps k) before first inputs x.any s (numbered 0 now) x.logs (x.run.1 k (omega (arith, o))) i may r.0 r.1 (its-step i child there k (Stuck r.0 r.1) r.2) f r.3 h.made k (omega (arith, o)) in
              stuck-at k i f (log_below (logs_then i sticks.log x.logs)) s'.0 s'.1 s'.2 s'.3 (within-one k (omega (arith, o)) (omega (arith, o)) sticks.log (subst (λ v. LogBelow sticks.log (log_in v)) (sym r.2) r.4)),
        );
        kept = grew sticks.log sticks.kept;
        part = shut-within law (Some f) sticks.log sticks.stuck.0 (λ k o. let r = sticks.stuck.1 k o in subst (λ v. LogBelow sticks.log (log_in v)) (sym r.2) r.4) sticks.part;
      }

      pub two-within : LawfulRows rows → (next : Node T A) (out : Streams T) → FiresTo its_outcome next out (kept_at news i) k' → all_single out ≡ false →
          SticksAt at_fuel (IsShut rows m (sr_node h start before kids) s.tag inputs (Some (record { path = i ∷ []; firing = made_of child; code = second_token_code }))) (record { path = i ∷ []; firing = made_of child; code = second_token_code }) (kept_by e olds) (kept_by e (set news i k'))
      two-within law next out fires twice = record {
        log = so_far fires.log;
        stuck = (
          x.run.0 + fires.done.0 + many,
          λ k o.
              let r = fires.done.1 k (omega (arith, o)) in
              let z : Child (Node T A) = record { number = i; node = next } in
              let s' = calls-are-sr.gives_two its-facts (steps k) before first inputs x.any s (numbered 0 now) x.logs (x.run.1 k (omega (arith, o))) i may z out fires.log (its-step i child there k (Done next out fires.log) r) twice h.made k (omega (arith, o)) in
              stuck-at k i (record { path = []; firing = made_of child; code = second_token_code }) (log_below (logs_then i fires.log x.logs)) s'.0 s'.1 s'.2
              (subst (λ (c : Child (Node T A)). IsIn (record { path = i ∷ []; firing = made_of c.node; code = second_token_code }) s'.0) (it-is i child there) s'.3)
              (within-one k (omega (arith, o)) (omega (arith, o)) fires.log (subst (λ v. LogBelow fires.log (log_in v)) (sym r) (λ p. IsPrefix-refl (fires.log p)))),
        );
        kept = grew fires.log fires.kept;
        part = shut-within law (Some (record { path = []; firing = made_of child; code = second_token_code })) fires.log fires.done.0 (λ k o. subst (λ v. LogBelow fires.log (log_in v)) (sym (fires.done.1 k o)) (λ p. IsPrefix-refl (fires.log p)))
            (at-own-place rows (below_child i m) child s.tag (lent_of s i) fires.log (record { path = []; firing = made_of child; code = second_token_code }) refl refl
            (subst (λ v. IsShut rows (below_child i m) child s.tag (lent_of s i) None (log_in v)) (fires.done.1 fires.done.0 (omega arith)) (stepped-is-shut rows law (below_child i m) child fires.done.0 (height child) (omega arith) s.tag (lent_of s i))));
      }

pub sr-goes-on : {T A : Type 0} → SrGoesOn T A
sr-goes-on rows m before kids inputs olds s now news x i child next out k there may fires single = on-fired rows m before kids inputs olds s now news x i child there next out k may fires single

pub sr-hears : {T A : Type 0} → SrHears T A
sr-hears rows m before kids inputs olds s now news x i child there may = on-heard rows m before kids inputs olds s now news x i child there may

pub sr-is-done : {T A : Type 0} → SrIsDone T A
sr-is-done rows m h start before kids inputs e olds s now news x f = over rows m before kids inputs olds s now news x h start e f

pub sr-lacks : {T A : Type 0} → SrLacks T A
sr-lacks rows law m h start before kids inputs e olds s now news x nothing w l q = lacks rows m before kids inputs olds s now news x h start e law nothing w l q

pub sr-is-stuck : {T A : Type 0} → SrIsStuck T A
sr-is-stuck rows law m h start before kids inputs e olds s now news x i child k f there may sticks = stuck-within rows m before kids inputs olds s now news x h start e i child there may k law f sticks

pub sr-gives-two : {T A : Type 0} → SrGivesTwo T A
sr-gives-two rows law m h start before kids inputs e olds s now news x i child next out k there may fires twice = two-within rows m before kids inputs olds s now news x h start e i child there may k law next out fires twice

pub sr-is-left-off : {T A : Type 0} → SrIsLeftOff T A
sr-is-left-off rows law m h start before kids inputs e olds s now news x = off-between rows m before kids inputs olds s now news x h start e law

pub sr-is-left-off-within : {T A : Type 0} → SrIsLeftOffWithin T A
sr-is-left-off-within rows law m h start before kids inputs e olds s now news x i child k there may off = off-within rows m before kids inputs olds s now news x h start e i child there may k law off
