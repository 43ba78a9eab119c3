-- Two steps that agree on all states which a firing of the children may come to: then the directors' firings agree, and the children come to such states alone.
use Rattle.std.proofs.Common.{◌≡◌, ℕ, zero, suc, List, [], ◌∷◌, Bool, true, false, ◌&&◌, take, drop, Option, Some, None, refl, sym, ap, ap₂, subst, ◌∙◌}
use Rattle.pt_meaning.specs.Basics.{Tag, Streams, Log, Meeting, log_then, own}
use Rattle.pt_meaning.specs.Machine.{Fault, Outcome, Done, Stuck, Stepping, Facts, Partial, Front, Lacks, Ends, Takes, front, recorded}
use Rattle.pt_meaning.specs.Flow.{Flow, flow, on_outcome, on_front, after_firing}
use Rattle.pt_meaning.specs.Rounds.{Source, Own, Output, Net, Limit, within, rated, rated_outcome, if_rated, has_rates, refill, flows, round}
use Rattle.pt_meaning.specs.Dataflow.{Inside, states_of, Leaving, kahn, settled, if_settled}
use Rattle.pt_meaning.specs.Tick.{Reaction, Activity, Earliness, reacted, if_active, on_known, reactions, reaction_states, known, valued, react_all, valuation, tick, single_outcome, if_single, all_single, sr_turn, by_rows, follows, and_then, whole_or_rows, rows_of, de_turn}
use Rattle.pt_meaning.specs.Modal.{unfired_outputs, Chart, Modes, Choice, Nothing, One, Wrong, Acted, Acts, Fails, chosen, taken, afterwards, below_number, put_state, reset_unless, change_at, change_if, get, on_refinement, at_refinement, with_refinement, preempted, modal, shown, picked, local, lag_of}
use Rattle.pt_meaning.specs.Process.{Put, Party, Next, Puts, Fires, Gets, GetsAny, Joins, Idle, Sticks, next_event, fired, if_fires, advance, advanced, all_advanced, party_states, with_put_made, with_token}
use Rattle.pt_meaning.specs.Meetings.{Scene, offers, Target, Place, Outlet, Hop, hops_in, is_legal, sent, received, passed, meet}
use Rattle.pt_meaning.specs.Rendezvous as rendezvous
use Rattle.pt_meaning.specs.Rendezvous.{RvPlan, Places, ended, if_ended, if_meets, under_meetings, left_in, seated, rv}

-- of states that are from s the step comes only to such states, and there both steps agree
pub record Alike {T S : Type 0} (facts : Facts T S) (step more : Stepping T S) (From : S → S → Type 0) : Type 0 where
  pub steps : (s z : S) → From s z → (tag : Tag) (X : Streams T) (z' : S) (out : Streams T) (l : Log T) → step tag z X ≡ Done z' out l → From s z'
  pub resets : (s z : S) → From s z → From s (facts.reset z)
  pub same : (s z : S) → From s z → (tag : Tag) (X : Streams T) → more tag z X ≡ step tag z X

-- one by one, and no more of them
abbrev pub AllFrom : {S : Type 0} → (S → S → Type 0) → List S → List S → Type 0
AllFrom From ss [] = Unit {0}
AllFrom From [] (z ∷ zs) = ⊥
AllFrom From (s ∷ ss) (z ∷ zs) = From s z × AllFrom From ss zs

-- the children of a firing that is done
abbrev pub KidsFrom : {T H S : Type 0} → (S → S → Type 0) → List S → Outcome T (Inside H S) → Type 0
KidsFrom From ss (Done c out l) = AllFrom From ss c.kids
KidsFrom From ss (Stuck fs l) = Unit {0}

module _ {T S : Type 0} (facts : Facts T S) (step more : Stepping T S) (From : S → S → Type 0) (alike : Alike facts step more From) where
  if_rated-done : (b : Bool) (n : ℕ) (z z' : S) (o out : Streams T) (l k : Log T) → if_rated b n z o l ≡ Done z' out k → z ≡ z'
  if_rated-done true n z z' o out l k e = cc
  if_rated-done false n z z' o out l k e = absurd (cc)

  rated-done : (ns : List ℕ) (n : ℕ) (s z : S) → From s z → (tag : Tag) (X : Streams T) (r : Outcome T S) → step tag z X ≡ r → (z' : S) (out : Streams T) (l : Log T) → rated_outcome ns n r ≡ Done z' out l → From s z'
  rated-done ns n s z f tag X (Done y o k) d z' out l e = subst (λ v. From s v) (if_rated-done (has_rates ns o) n y z' o out k l e) (alike.steps s z f tag X y o k d)
  rated-done ns n s z f tag X (Stuck fs k) d z' out l e = absurd (cc)

  pub rated-alike : (r : Option (List ℕ)) → Alike facts (rated facts r step) (rated facts r more) From
  rated-alike None = alike
  rated-alike (Some ns) = record {
    steps = λ s z f tag X z' out l e. rated-done ns (facts.made z) s z f tag X (step tag z X) refl z' out l e;
    resets = alike.resets;
    same = λ s z f tag X. ap (λ v. rated_outcome ns (facts.made z) v) (alike.same s z f tag X);
  }

  -- stream functions
  on-alike : (tag : Tag) (s : S) (go go' : S → Streams T → Flow T S) → ((z : S) (X : Streams T) → From s z → From s (go z X).state × (go' z X ≡ go z X)) → (z : S) → From s z → (X got left : Streams T) (r : Outcome T S) → step tag z got ≡ r →
      From s (on_outcome facts step tag go z X got left r).state × (on_outcome facts more tag go' z X got left r ≡ on_outcome facts step tag go z X got left r)
  on-alike tag s go go' ih z f X got left (Done y o l) d =
      let h = ih y left (alike.steps s z f tag got y o l d) in (h.0, ap (λ v. after_firing o (log_then l (own (record { number = facts.made z; tag = tag; inputs = got; outputs = o }))) v) h.1)
  on-alike tag s go go' ih z f X got left (Stuck fs l) d = (f, refl)

  front-alike : (tag : Tag) (s : S) (go go' : S → Streams T → Flow T S) → ((z : S) (X : Streams T) → From s z → From s (go z X).state × (go' z X ≡ go z X)) → (z : S) → From s z → (X : Streams T) (w : Front T) →
      From s (on_front facts step tag go z X w).state × (on_front facts more tag go' z X w ≡ on_front facts step tag go z X w)
  front-alike tag s go go' ih z f X Lacks = (f, refl)
  front-alike tag s go go' ih z f X Ends = (f, refl)
  front-alike tag s go go' ih z f X (Takes got left) = let h = on-alike tag s go go' ih z f X got left (step tag z got) refl in (h.0, ap (λ r. on_outcome facts more tag go' z X got left r) (alike.same s z f tag got) ∙ h.1)

  pub flow-alike : (tag : Tag) (n : ℕ) (s z : S) (X : Streams T) → From s z → From s (flow facts step tag n z X).state × (flow facts more tag n z X ≡ flow facts step tag n z X)
  unfolding flow
  flow-alike tag zero s z X f = (f, refl)
  flow-alike tag (suc n) s z X f = front-alike tag s (flow facts step tag n) (flow facts more tag n) (λ y Y g. flow-alike tag n s y Y g) z f X (front (facts.need z) X)

module _ {T S : Type 0} (facts : Facts T S) (step more : Stepping T S) (From : S → S → Type 0) (alike : Alike facts step more From) (tag : Tag) where
  flows-from : (ns : List ℕ) (cs : List Limit) (k : ℕ) (ss zs : List S) (X : Streams T) → AllFrom From ss zs → AllFrom From ss (states_of (flows facts step tag ns cs k zs X))
  flows-from (n ∷ ns) (c ∷ cs) k (s ∷ ss) (z ∷ zs) X f = ((flow-alike facts (rated facts c.rates step) (rated facts c.rates more) From (rated-alike facts step more From alike c.rates) tag (within c.firings k) s z (take n X) f.0).0, flows-from ns cs k ss zs (drop n X) f.1)
  flows-from (n ∷ ns) (c ∷ cs) k [] (z ∷ zs) X f = absurd f
  flows-from [] cs k ss zs X f = tt
  flows-from (n ∷ ns) [] k ss zs X f = tt
  flows-from (n ∷ ns) (c ∷ cs) k ss [] X f = tt

  flows-alike : (ns : List ℕ) (cs : List Limit) (k : ℕ) (ss zs : List S) (X : Streams T) → AllFrom From ss zs → flows facts more tag ns cs k zs X ≡ flows facts step tag ns cs k zs X
  flows-alike (n ∷ ns) (c ∷ cs) k (s ∷ ss) (z ∷ zs) X f =
      ap₂ (λ a b. a ∷ b) (flow-alike facts (rated facts c.rates step) (rated facts c.rates more) From (rated-alike facts step more From alike c.rates) tag (within c.firings k) s z (take n X) f.0).1 (flows-alike ns cs k ss zs (drop n X) f.1)
  flows-alike (n ∷ ns) (c ∷ cs) k [] (z ∷ zs) X f = absurd f
  flows-alike [] cs k ss zs X f = refl
  flows-alike (n ∷ ns) [] k ss zs X f = refl
  flows-alike (n ∷ ns) (c ∷ cs) k ss [] X f = refl

  -- rounds
  module _ (net : Net) (limits : List Limit) (ss kids : List S) (from : AllFrom From ss kids) where
    round-alike : (X : Streams T) (k : ℕ) → round facts more tag net limits kids X k ≡ round facts step tag net limits kids X k
    unfolding round
    round-alike X zero = refl
    round-alike X (suc k) =
        ap (λ Y. refill (flows facts more tag net.places limits (suc k) kids Y) net.sources X) (round-alike X k) ∙
        ap (λ fs. refill fs net.sources X) (flows-alike net.places limits (suc k) ss kids (round facts step tag net limits kids X k) from)

    flows-round : (X : Streams T) (k : ℕ) → flows facts more tag net.places limits k kids (round facts more tag net limits kids X k) ≡ flows facts step tag net.places limits k kids (round facts step tag net limits kids X k)
    flows-round X k = ap (λ Y. flows facts more tag net.places limits k kids Y) (round-alike X k) ∙ flows-alike net.places limits k ss kids (round facts step tag net limits kids X k) from

    settled-alike : (X : Streams T) (k : ℕ) → settled facts more tag net limits kids X k ≡ settled facts step tag net limits kids X k
    settled-alike X k = rw (flows-round X k, round-alike X k, round-alike X (suc k)) refl

    if_settled-from : (b : Bool) (fs : List (Flow T S)) (held out : Streams T) (l : Log T) (gs : List Fault) → AllFrom From ss (states_of fs) → KidsFrom {T = T} From ss (if_settled b (record { held = held; kids = states_of fs }) out l gs)
    if_settled-from true fs held out l gs h = h
    if_settled-from false fs held out l gs h = tt

    pub kahn-alike : (enough : List (Flow T S) → Bool) (leaving : Leaving) (X : Streams T) (k : ℕ) → kahn facts more tag net limits enough leaving kids X k ≡ kahn facts step tag net limits enough leaving kids X k
    unfolding kahn
    kahn-alike enough leaving X k = rw (settled-alike X k, flows-round X k, round-alike X k) refl

    pub kahn-from : (enough : List (Flow T S) → Bool) (leaving : Leaving) (X : Streams T) (k : ℕ) → KidsFrom From ss (kahn facts step tag net limits enough leaving kids X k)
    unfolding kahn
    kahn-from enough leaving X k =
        let Y = round facts step tag net limits kids X k in
        let fs = flows facts step tag net.places limits k kids Y in
        if_settled-from (settled facts step tag net limits kids X k && enough fs) fs _ _ _ _ (flows-from net.places limits k ss kids Y from)

-- ticks
module _ {T S : Type 0} (facts : Facts T S) (early : Earliness T S) (active : Activity T S) (turn more : Stepping T S) (From : S → S → Type 0) (alike : Alike facts turn more From) (tag : Tag) where
  reacted-from : (s z : S) → From s z → (vs : List (Partial T)) (X : Streams T) (r : Outcome T S) → turn tag z X ≡ r → From s (reacted early active turn tag z vs r).state
  reacted-from s z f vs X (Done z' out l) e = alike.steps s z f tag X z' out l e
  reacted-from s z f vs X (Stuck fs l) e = f

  active-alike : (b : Bool) (s z : S) → From s z → (vs : List (Partial T)) (X : Streams T) → From s (if_active early active turn tag b z vs X).state × (if_active early active more tag b z vs X ≡ if_active early active turn tag b z vs X)
  active-alike true s z f vs X = (reacted-from s z f vs X (turn tag z X) refl, ap (λ r. reacted early active turn tag z vs r) (alike.same s z f tag X))
  active-alike false s z f vs X = (f, refl)

  known-alike : (s z : S) → From s z → (vs : List (Partial T)) (o : Option (Streams T)) → From s (on_known early active turn tag z vs o).state × (on_known early active more tag z vs o ≡ on_known early active turn tag z vs o)
  known-alike s z f vs None = (f, refl)
  known-alike s z f vs (Some X) = active-alike (active tag z X) s z f vs X

  reactions-from : (ns : List ℕ) (ss zs : List S) (V : List (Partial T)) → AllFrom From ss zs → AllFrom From ss (reaction_states (reactions early active turn tag ns zs V))
  reactions-from (n ∷ ns) (s ∷ ss) (z ∷ zs) V f = ((known-alike s z f.0 (take n V) (known (take n V))).0, reactions-from ns ss zs (drop n V) f.1)
  reactions-from (n ∷ ns) [] (z ∷ zs) V f = absurd f
  reactions-from [] ss zs V f = tt
  reactions-from (n ∷ ns) ss [] V f = tt

  reactions-alike : (ns : List ℕ) (ss zs : List S) (V : List (Partial T)) → AllFrom From ss zs → reactions early active more tag ns zs V ≡ reactions early active turn tag ns zs V
  reactions-alike (n ∷ ns) (s ∷ ss) (z ∷ zs) V f = ap₂ (λ a b. a ∷ b) (known-alike s z f.0 (take n V) (known (take n V))).1 (reactions-alike ns ss zs (drop n V) f.1)
  reactions-alike (n ∷ ns) [] (z ∷ zs) V f = absurd f
  reactions-alike [] ss zs V f = refl
  reactions-alike (n ∷ ns) ss [] V f = refl

  module _ (net : Net) (ss kids : List S) (from : AllFrom From ss kids) (inputs : Streams T) where
    valuation-alike : (k : ℕ) → valuation early active more tag net kids inputs k ≡ valuation early active turn tag net kids inputs k
    unfolding valuation
    valuation-alike zero = refl
    valuation-alike (suc k) =
        ap (λ V. react_all early active more tag net kids inputs V) (valuation-alike k) ∙ ap (λ rs. valued rs inputs net.sources) (reactions-alike net.places ss kids (valuation early active turn tag net kids inputs k) from)

    reactions-at : (k : ℕ) → reactions early active more tag net.places kids (valuation early active more tag net kids inputs k) ≡ reactions early active turn tag net.places kids (valuation early active turn tag net kids inputs k)
    reactions-at k = ap (λ V. reactions early active more tag net.places kids V) (valuation-alike k) ∙ reactions-alike net.places ss kids (valuation early active turn tag net kids inputs k) from

    pub tick-alike : (blame : List Fault) (k : ℕ) → tick early active more tag net blame kids inputs k ≡ tick early active turn tag net blame kids inputs k
    unfolding tick
    tick-alike blame k = rw (reactions-at k, valuation-alike k, valuation-alike (suc k)) refl

    if_ticked-from : (b : Bool) (rs : List (Reaction T S)) (out : Streams T) (l : Log T) (gs : List Fault) → AllFrom From ss (reaction_states rs) → KidsFrom {T = T} From ss (if_settled b (record { held = []; kids = reaction_states rs }) out l gs)
    if_ticked-from true rs out l gs h = h
    if_ticked-from false rs out l gs h = tt

    pub tick-from : (blame : List Fault) (k : ℕ) → KidsFrom From ss (tick early active turn tag net blame kids inputs k)
    unfolding tick
    tick-from blame k =
        let V = valuation early active turn tag net kids inputs k in
        if_ticked-from _ (reactions early active turn tag net.places kids V) _ _ _ (reactions-from net.places ss kids V from)

-- turns
module _ {T S : Type 0} (facts : Facts T S) (step more : Stepping T S) (From : S → S → Type 0) (alike : Alike facts step more From) where
  if_single-done : (b : Bool) (n : ℕ) (z z' : S) (o out : Streams T) (l k : Log T) → if_single b n z o l ≡ Done z' out k → z ≡ z'
  if_single-done true n z z' o out l k e = cc
  if_single-done false n z z' o out l k e = absurd (cc)

  recorded-done : (n : ℕ) (tag : Tag) (X : Streams T) (r : Outcome T S) (z' : S) (out : Streams T) (l : Log T) → recorded n tag X r ≡ Done z' out l → (k : Log T) × (r ≡ Done z' out k)
  recorded-done n tag X (Done z o k) z' out l e = (k, cc)
  recorded-done n tag X (Stuck fs k) z' out l e = absurd (cc)

  single-done : (n : ℕ) (r : Outcome T S) (z' : S) (out : Streams T) (l : Log T) → single_outcome n r ≡ Done z' out l → (o : Streams T) × (k : Log T) × (r ≡ Done z' o k)
  single-done n (Done z o k) z' out l e = (o, k, ap (λ (v : S). let r : Outcome T S = Done v o k in r) (if_single-done (all_single o) n z z' o out k l e))
  single-done n (Stuck fs k) z' out l e = absurd (cc)

  sr-steps : (s z : S) → From s z → (tag : Tag) (X : Streams T) (z' : S) (out : Streams T) (l : Log T) → sr_turn facts step tag z X ≡ Done z' out l → From s z'
  sr-steps s z f tag X z' out l e =
      let a = recorded-done (facts.made z) tag X (single_outcome (facts.made z) (step tag z X)) z' out l e in
      let b = single-done (facts.made z) (step tag z X) z' out a.0 a.1 in
      alike.steps s z f tag X z' b.0 b.1 b.2

  pub sr-alike : Alike facts (sr_turn facts step) (sr_turn facts more) From
  sr-alike = record { steps = sr-steps; resets = alike.resets; same = λ s z f tag X. ap (λ r. recorded (facts.made z) tag X (single_outcome (facts.made z) r)) (alike.same s z f tag X) }

  recorded-steps : (s z : S) → From s z → (tag : Tag) (X : Streams T) (z' : S) (out : Streams T) (l : Log T) → recorded (facts.made z) tag X (step tag z X) ≡ Done z' out l → From s z'
  recorded-steps s z f tag X z' out l e = let a = recorded-done (facts.made z) tag X (step tag z X) z' out l e in alike.steps s z f tag X z' out a.0 a.1

  -- row by row
  then-done : (s : S) (next : S → Outcome T S) → ((z z' : S) (out : Streams T) (l : Log T) → From s z → next z ≡ Done z' out l → From s z') → (r : Outcome T S) → ((z : S) (out : Streams T) (l : Log T) → r ≡ Done z out l → From s z) →
      (z' : S) (out : Streams T) (l : Log T) → and_then next r ≡ Done z' out l → From s z'
  then-done s next ih (Done z o k) h z' out l e = let w = follows-done o k (next z) e in ih z z' w.0 w.1 (h z o k refl) w.2
    where
      follows-done : (o : Streams T) (k : Log T) (r : Outcome T S) → follows o k r ≡ Done z' out l → (p : Streams T) × (n : Log T) × (r ≡ Done z' p n)
      follows-done o k (Done y p n) e = (p, n, cc)
      follows-done o k (Stuck fs n) e = absurd (cc)
  then-done s next ih (Stuck fs k) h z' out l e = absurd (cc)

  rows-done : (tag : Tag) (s : S) (Xs : List (Streams T)) (z z' : S) (out : Streams T) (l : Log T) → From s z → by_rows facts step tag Xs z ≡ Done z' out l → From s z'
  rows-done tag s [] z z' out l f e = let a : z ≡ z' = cc in subst (λ v. From s v) a f
  rows-done tag s (X ∷ Xs) z z' out l f e =
      then-done s (by_rows facts step tag Xs) (rows-done tag s Xs) (recorded (facts.made z) tag X (step tag z X)) (λ y o k d. recorded-steps s z f tag X y o k d) z' out l e

  then-alike : (s : S) (next next' : S → Outcome T S) → ((z : S) → From s z → next' z ≡ next z) → (r : Outcome T S) → ((z : S) (out : Streams T) (l : Log T) → r ≡ Done z out l → From s z) → and_then next' r ≡ and_then next r
  then-alike s next next' ih (Done z o k) h = ap (λ r. follows o k r) (ih z (h z o k refl))
  then-alike s next next' ih (Stuck fs k) h = refl

  rows-alike : (tag : Tag) (s : S) (Xs : List (Streams T)) (z : S) → From s z → by_rows facts more tag Xs z ≡ by_rows facts step tag Xs z
  rows-alike tag s [] z f = refl
  rows-alike tag s (X ∷ Xs) z f =
      ap (λ r. and_then (by_rows facts more tag Xs) (recorded (facts.made z) tag X r)) (alike.same s z f tag X) ∙
      then-alike s (by_rows facts step tag Xs) (by_rows facts more tag Xs) (rows-alike tag s Xs) (recorded (facts.made z) tag X (step tag z X)) (λ y o k d. recorded-steps s z f tag X y o k d)

  whole-steps : (b : Bool) (s z : S) → From s z → (tag : Tag) (X : Streams T) (z' : S) (out : Streams T) (l : Log T) → whole_or_rows b facts step tag z X ≡ Done z' out l → From s z'
  whole-steps true s z f tag X z' out l e = recorded-steps s z f tag X z' out l e
  whole-steps false s z f tag X z' out l e = rows-done tag s (rows_of X) z z' out l f e

  whole-same : (b : Bool) (s z : S) → From s z → (tag : Tag) (X : Streams T) → whole_or_rows b facts more tag z X ≡ whole_or_rows b facts step tag z X
  whole-same true s z f tag X = ap (λ r. recorded (facts.made z) tag X r) (alike.same s z f tag X)
  whole-same false s z f tag X = rows-alike tag s (rows_of X) z f

  pub de-alike : Alike facts (de_turn facts step) (de_turn facts more) From
  de-alike = record { steps = λ s z f. whole-steps (facts.whole z) s z f; resets = alike.resets; same = λ s z f. whole-same (facts.whole z) s z f }

  -- Modal: only the current refinement fires, and a refinement is reset
  change-from : (i : ℕ) (g : S → S) → ((s z : S) → From s z → From s (g z)) → (ss zs : List S) → AllFrom From ss zs → AllFrom From ss (change_at i g zs)
  change-from i g h ss [] f = tt
  change-from i g h [] (z ∷ zs) f = absurd f
  change-from zero g h (s ∷ ss) (z ∷ zs) f = (h s z f.0, f.1)
  change-from (suc i) g h (s ∷ ss) (z ∷ zs) f = (f.0, change-from i g h ss zs f.1)

  if-from : (o : Option ℕ) (g : S → S) → ((s z : S) → From s z → From s (g z)) → (ss zs : List S) → AllFrom From ss zs → AllFrom From ss (change_if o g zs)
  if-from None g h ss zs f = f
  if-from (Some i) g h ss zs f = change-from i g h ss zs f

  reset-from : (keeps : Bool) (s z : S) → From s z → From s (reset_unless keeps facts.reset z)
  reset-from true s z f = f
  reset-from false s z f = alike.resets s z f

  -- the state that a child comes to is put in its place
  put-from : (i : ℕ) (g : S → S) (ss zs : List S) → AllFrom From ss zs → (z : S) → get zs i ≡ Some z → ((s y : S) → From s z → From s (g y)) → AllFrom From ss (change_at i g zs)
  put-from i g ss [] f z e h = tt
  put-from i g [] (y ∷ zs) f z e h = absurd f
  put-from zero g (s ∷ ss) (y ∷ zs) f z e h = let a : y ≡ z = cc in (h s y (subst (λ v. From s v) a f.0), f.1)
  put-from (suc i) g (s ∷ ss) (y ∷ zs) f z e h = (f.0, put-from i g ss zs f.1 z e h)

  got-from : (i : ℕ) (ss zs : List S) → AllFrom From ss zs → (z : S) → get zs i ≡ Some z → (s : S) × From s z
  got-from i ss [] f z e = absurd (cc)
  got-from i [] (y ∷ zs) f z e = absurd f
  got-from zero (s ∷ ss) (y ∷ zs) f z e = let a : y ≡ z = cc in (s, subst (λ v. From s v) a f.0)
  got-from (suc i) (s ∷ ss) (y ∷ zs) f z e = got-from i ss zs f.1 z e

  module _ (chart : Chart T) (made : ℕ) (tag : Tag) (m : Modes T) (ss : List S) where
    taken-alike : (early : Bool) (n : ℕ) (kids : List S) (l : Log T) (a : Acted T) → taken chart facts more made tag early n m kids l a ≡ taken chart facts step made tag early n m kids l a
    taken-alike early n kids l (Acts out values) = refl
    taken-alike early n kids l (Fails code) = refl

    taken-from : (early : Bool) (n : ℕ) (kids : List S) → AllFrom From ss kids → (l : Log T) (a : Acted T) → KidsFrom From ss (taken chart facts step made tag early n m kids l a)
    taken-from early n kids f l (Acts out values) = if-from (chart.refinement (chart.target early m.mode n)) (reset_unless (chart.keeps_history early m.mode n) facts.reset) (reset-from (chart.keeps_history early m.mode n)) ss kids f
    taken-from early n kids f l (Fails code) = tt

    after-alike : (kids : List S) (inputs out : Streams T) (l : Log T) (c : Choice) → afterwards chart facts more made tag m kids inputs out l c ≡ afterwards chart facts step made tag m kids inputs out l c
    after-alike kids inputs out l Nothing = refl
    after-alike kids inputs out l (One n) = taken-alike false n kids l (chart.act false m.mode n m.values inputs out)
    after-alike kids inputs out l (Wrong code) = refl

    after-from : (kids : List S) → AllFrom From ss kids → (inputs out : Streams T) (l : Log T) (c : Choice) → KidsFrom From ss (afterwards chart facts step made tag m kids inputs out l c)
    after-from kids f inputs out l Nothing = f
    after-from kids f inputs out l (One n) = taken-from false n kids f l (chart.act false m.mode n m.values inputs out)
    after-from kids f inputs out l (Wrong code) = tt

    on-modal-alike : (i : ℕ) (kids : List S) (inputs : Streams T) (r : Outcome T S) → on_refinement chart facts more made tag i m kids inputs r ≡ on_refinement chart facts step made tag i m kids inputs r
    on-modal-alike i kids inputs (Stuck fs l) = refl
    on-modal-alike i kids inputs (Done s out l) = after-alike (change_at i (put_state chart facts step s) kids) inputs (shown (chart.out_ports i) out) (below_number i l) (chosen 0 (chart.others m.mode m.values inputs (shown (chart.out_ports i) out)))

    on-modal-from : (i : ℕ) (kids : List S) → AllFrom From ss kids → (inputs : Streams T) (z : S) → get kids i ≡ Some z → (r : Outcome T S) → ((s z' : S) (out : Streams T) (l : Log T) → From s z → r ≡ Done z' out l → From s z') → KidsFrom From ss (on_refinement chart facts step made tag i m kids inputs r)
    on-modal-from i kids f inputs z e (Stuck fs l) h = tt
    on-modal-from i kids f inputs z e (Done z' out l) h =
        after-from (change_at i (put_state chart facts step z') kids) (put-from i (put_state chart facts step z') ss kids f z e (λ s y g. h s z' out l g refl)) inputs (shown (chart.out_ports i) out) (below_number i l) (chosen 0 (chart.others m.mode m.values inputs (shown (chart.out_ports i) out)))

    at-alike : (kids : List S) → AllFrom From ss kids → (inputs : Streams T) (i : ℕ) (o : Option S) → get kids i ≡ o → at_refinement chart facts more made tag m kids inputs i o ≡ at_refinement chart facts step made tag m kids inputs i o
    at-alike kids f inputs i None e = refl
    at-alike kids f inputs i (Some z) e =
        let s = got-from i ss kids f z e in
        let within = local tag (lag_of m.stays i) in
        let got = picked (chart.in_ports i) inputs in
        ap (λ r. on_refinement chart facts more made tag i m kids inputs (recorded (facts.made z) within got r)) (alike.same s.0 z s.1 within got) ∙ on-modal-alike i kids inputs (recorded (facts.made z) within got (step within z got))

    at-from : (kids : List S) → AllFrom From ss kids → (inputs : Streams T) (i : ℕ) (o : Option S) → get kids i ≡ o → KidsFrom From ss (at_refinement chart facts step made tag m kids inputs i o)
    at-from kids f inputs i None e = tt
    at-from kids f inputs i (Some z) e =
        on-modal-from i kids f inputs z e _ (λ s z' out l g d. recorded-steps s z g (local tag (lag_of m.stays i)) (picked (chart.in_ports i) inputs) z' out l d)

    with-alike : (kids : List S) → AllFrom From ss kids → (inputs : Streams T) (o : Option ℕ) → with_refinement chart facts more made tag m kids inputs o ≡ with_refinement chart facts step made tag m kids inputs o
    with-alike kids f inputs None = after-alike kids inputs (unfired_outputs chart) _ (chosen 0 (chart.others m.mode m.values inputs (unfired_outputs chart)))
    with-alike kids f inputs (Some i) = at-alike kids f inputs i (get kids i) refl

    with-from : (kids : List S) → AllFrom From ss kids → (inputs : Streams T) (o : Option ℕ) → KidsFrom From ss (with_refinement chart facts step made tag m kids inputs o)
    with-from kids f inputs None = after-from kids f inputs (unfired_outputs chart) _ (chosen 0 (chart.others m.mode m.values inputs (unfired_outputs chart)))
    with-from kids f inputs (Some i) = at-from kids f inputs i (get kids i) refl

    modal-cases : (kids : List S) → AllFrom From ss kids → (inputs : Streams T) (c : Choice) → preempted chart facts more made tag m kids inputs c ≡ preempted chart facts step made tag m kids inputs c
    modal-cases kids f inputs Nothing = with-alike kids f inputs (chart.refinement m.mode)
    modal-cases kids f inputs (One n) = taken-alike true n kids _ (chart.act true m.mode n m.values inputs (unfired_outputs chart))
    modal-cases kids f inputs (Wrong code) = refl

    modal-cases-from : (kids : List S) → AllFrom From ss kids → (inputs : Streams T) (c : Choice) → KidsFrom From ss (preempted chart facts step made tag m kids inputs c)
    modal-cases-from kids f inputs Nothing = with-from kids f inputs (chart.refinement m.mode)
    modal-cases-from kids f inputs (One n) = taken-from true n kids f _ (chart.act true m.mode n m.values inputs (unfired_outputs chart))
    modal-cases-from kids f inputs (Wrong code) = tt

    pub modal-alike : (kids : List S) → AllFrom From ss kids → (inputs : Streams T) → modal chart facts more made tag m kids inputs ≡ modal chart facts step made tag m kids inputs
    modal-alike kids f inputs = modal-cases kids f inputs (chosen 0 (chart.preemptive m.mode m.values inputs))

    pub modal-from : (kids : List S) → AllFrom From ss kids → (inputs : Streams T) → KidsFrom From ss (modal chart facts step made tag m kids inputs)
    modal-from kids f inputs = modal-cases-from kids f inputs (chosen 0 (chart.preemptive m.mode m.values inputs))

-- the processes of a Rendezvous firing
abbrev pub PartiesFrom : {T S : Type 0} → (S → S → Type 0) → List S → List (Party T S) → Type 0
PartiesFrom From ss [] = Unit {0}
PartiesFrom From [] (p ∷ ps) = ⊥
PartiesFrom From (s ∷ ss) (p ∷ ps) = From s p.state × PartiesFrom From ss ps

module _ {T S : Type 0} (facts : Facts T S) (step more : Stepping T S) (From : S → S → Type 0) (alike : Alike facts step more From) (tag : Tag) (net : Net) where
  fired-from : (i : ℕ) (s : S) (p : Party T S) (r : Outcome T S) → From s p.state → ((z' : S) (out : Streams T) (l : Log T) → r ≡ Done z' out l → From s z') → From s (fired facts step tag net.sources i p r).state
  fired-from i s p (Done z' out l) f h = h z' out l refl
  fired-from i s p (Stuck fs l) f h = f

  fired-alike : (i : ℕ) (p : Party T S) (r : Outcome T S) → fired facts more tag net.sources i p r ≡ fired facts step tag net.sources i p r
  fired-alike i p (Done z' out l) = refl
  fired-alike i p (Stuck fs l) = refl

  event-alike : (n : Next) (i : ℕ) (s : S) (p : Party T S) → From s p.state → From s (if_fires facts step tag net.sources n i p).state × (if_fires facts more tag net.sources n i p ≡ if_fires facts step tag net.sources n i p)
  event-alike Fires i s p f = (
    fired-from i s p (recorded (facts.made p.state) tag p.got (step tag p.state p.got)) f (λ z' out l e. recorded-steps facts step more From alike s p.state f tag p.got z' out l e),
    ap (λ r. fired facts more tag net.sources i p (recorded (facts.made p.state) tag p.got r)) (alike.same s p.state f tag p.got) ∙ fired-alike i p (recorded (facts.made p.state) tag p.got (step tag p.state p.got)),
  )
  event-alike Puts i s p f = (f, refl)
  event-alike (Gets q) i s p f = (f, refl)
  event-alike GetsAny i s p f = (f, refl)
  event-alike Joins i s p f = (f, refl)
  event-alike Idle i s p f = (f, refl)
  event-alike Sticks i s p f = (f, refl)

  advanced-alike : (k i : ℕ) (s : S) (p : Party T S) → From s p.state → From s (advanced facts step tag net.sources k i p).state × (advanced facts more tag net.sources k i p ≡ advanced facts step tag net.sources k i p)
  unfolding advanced
  advanced-alike zero i s p f = (f, refl)
  advanced-alike (suc k) i s p f =
      let a = event-alike (next_event facts p) i s p f in
      let b = advanced-alike k i s (advance facts step tag net.sources i p) a.0 in
      (b.0, ap (λ q. advanced facts more tag net.sources k i q) a.1 ∙ b.1)

  all-from : (k i : ℕ) (ss : List S) (ps : List (Party T S)) → PartiesFrom From ss ps → PartiesFrom From ss (all_advanced facts step tag net.sources k i ps)
  all-from k i ss [] f = tt
  all-from k i [] (p ∷ ps) f = absurd f
  all-from k i (s ∷ ss) (p ∷ ps) f = ((advanced-alike k i s p f.0).0, all-from k (suc i) ss ps f.1)

  all-alike : (k i : ℕ) (ss : List S) (ps : List (Party T S)) → PartiesFrom From ss ps → all_advanced facts more tag net.sources k i ps ≡ all_advanced facts step tag net.sources k i ps
  all-alike k i ss [] f = refl
  all-alike k i [] (p ∷ ps) f = absurd f
  all-alike k i (s ∷ ss) (p ∷ ps) f = ap₂ (λ a b. a ∷ b) (advanced-alike k i s p f.0).1 (all-alike k (suc i) ss ps f.1)

  -- a meeting changes no state
  changed-from : (j : ℕ) (g : Party T S → Party T S) → ((p : Party T S) → (g p).state ≡ p.state) → (ss : List S) (ps : List (Party T S)) → PartiesFrom From ss ps → PartiesFrom From ss (change_at j g ps)
  changed-from j g h ss [] f = tt
  changed-from j g h [] (p ∷ ps) f = absurd f
  changed-from zero g h (s ∷ ss) (p ∷ ps) f = (subst (λ v. From s v) (sym (h p)) f.0, f.1)
  changed-from (suc j) g h (s ∷ ss) (p ∷ ps) f = (f.0, changed-from j g h ss ps f.1)

  sent-from : (o : Option Source) (ss : List S) (sc : Scene T S) → PartiesFrom From ss sc.parties → PartiesFrom From ss (sent o sc).parties
  sent-from None ss sc f = f
  sent-from (Some (Own j)) ss sc f = f
  sent-from (Some (Output i p)) ss sc f = changed-from i with_put_made (λ p. refl) ss sc.parties f

  received-from : (x : T) (t : Target) (ss : List S) (sc : Scene T S) → PartiesFrom From ss sc.parties → PartiesFrom From ss (received x t sc).parties
  received-from x (Place i q) ss sc f = changed-from i (with_token q x) (λ p. refl) ss sc.parties f
  received-from x (Outlet o) ss sc f = f

  passed-from : (hs : List Hop) (xs : List (Option T)) (ss : List S) (sc : Scene T S) → PartiesFrom From ss sc.parties → PartiesFrom From ss (passed net hs xs sc).parties
  passed-from [] xs ss sc f = f
  passed-from (h ∷ hs) [] ss sc f = f
  passed-from (h ∷ hs) (None ∷ xs) ss sc f = f
  passed-from (h ∷ hs) (Some x ∷ xs) ss sc f = passed-from hs xs ss (received x h.target (sent (get net.sources h.channel) sc)) (received-from x h.target ss (sent (get net.sources h.channel) sc) (sent-from (get net.sources h.channel) ss sc f))

  ended-from : (b : Bool) (ss : List S) (sc : Scene T S) → PartiesFrom From ss sc.parties → KidsFrom From ss (if_ended b sc)
  ended-from true ss sc f = states ss sc.parties f
    where
      states : (ss : List S) (ps : List (Party T S)) → PartiesFrom From ss ps → AllFrom From ss (party_states ps)
      states ss [] f = tt
      states [] (p ∷ ps) f = absurd f
      states (s ∷ ss) (p ∷ ps) f = (f.0, states ss ps f.1)
  ended-from false ss sc f = tt

  module _ (k n : ℕ) where
    settle-alike : (ss : List S) (sc : Scene T S) → PartiesFrom From ss sc.parties → rendezvous.settled facts more tag net k n sc ≡ rendezvous.settled facts step tag net k n sc
    settle-alike ss sc f = ap (λ ps. let t : Scene T S = record { parties = ps; inputs = sc.inputs; outputs = sc.outputs; met = sc.met } in t) (all-alike k 0 ss sc.parties f)

    meets-from : (b : Bool) (next : Scene T S → Outcome T (Inside (Places T) S)) (ss : List S) → ((sc : Scene T S) → PartiesFrom From ss sc.parties → KidsFrom From ss (next sc)) → (m : Meeting) (sc : Scene T S) → PartiesFrom From ss sc.parties → KidsFrom From ss (if_meets facts step tag net k n b next m sc)
    meets-from true next ss h m sc f = h (meet net n m sc) (passed-from (hops_in net m) (offers net sc (hops_in net m)) ss sc f)
    meets-from false next ss h m sc f = tt

    meets-alike : (b : Bool) (next next' : Scene T S → Outcome T (Inside (Places T) S)) (ss : List S) → ((sc : Scene T S) → PartiesFrom From ss sc.parties → next' sc ≡ next sc) → (m : Meeting) (sc : Scene T S) → PartiesFrom From ss sc.parties →
        if_meets facts more tag net k n b next' m sc ≡ if_meets facts step tag net k n b next m sc
    meets-alike true next next' ss h m sc f = h (meet net n m sc) (passed-from (hops_in net m) (offers net sc (hops_in net m)) ss sc f)
    meets-alike false next next' ss h m sc f = refl

    pub under-alike : (ms : List Meeting) (ss : List S) (sc : Scene T S) → PartiesFrom From ss sc.parties → under_meetings facts more tag net k n ms sc ≡ under_meetings facts step tag net k n ms sc
    unfolding under_meetings
    under-alike [] ss sc f = ap (λ v. ended facts step tag net k n v) (settle-alike ss sc f)
    under-alike (m ∷ ms) ss sc f =
        ap (λ v. if_meets facts more tag net k n (is_legal facts net v m) (under_meetings facts more tag net k n ms) m v) (settle-alike ss sc f) ∙
        meets-alike (is_legal facts net (rendezvous.settled facts step tag net k n sc) m) (under_meetings facts step tag net k n ms) (under_meetings facts more tag net k n ms) ss (under-alike ms ss) m (rendezvous.settled facts step tag net k n sc) (all-from k 0 ss sc.parties f)

    pub under-from : (ms : List Meeting) (ss : List S) (sc : Scene T S) → PartiesFrom From ss sc.parties → KidsFrom From ss (under_meetings facts step tag net k n ms sc)
    unfolding under_meetings
    under-from [] ss sc f = ended-from _ ss (rendezvous.settled facts step tag net k n sc) (all-from k 0 ss sc.parties f)
    under-from (m ∷ ms) ss sc f = meets-from (is_legal facts net (rendezvous.settled facts step tag net k n sc) m) (under_meetings facts step tag net k n ms) ss (under-from ms ss) m (rendezvous.settled facts step tag net k n sc) (all-from k 0 ss sc.parties f)

pub seated-from : {T S : Type 0} (From : S → S → Type 0) (bs : List Bool) (gs : List (Streams T)) (us : List (List (Put T))) (ss zs : List S) → AllFrom From ss zs → PartiesFrom From ss (seated bs gs us zs)
seated-from From (b ∷ bs) (g ∷ gs) (u ∷ us) (s ∷ ss) (z ∷ zs) f = (f.0, seated-from From bs gs us ss zs f.1)
seated-from From (b ∷ bs) (g ∷ gs) (u ∷ us) [] (z ∷ zs) f = absurd f
seated-from From [] gs us ss zs f = tt
seated-from From (b ∷ bs) [] us ss zs f = tt
seated-from From (b ∷ bs) (g ∷ gs) [] ss zs f = tt
seated-from From (b ∷ bs) (g ∷ gs) (u ∷ us) ss [] f = tt
