-- The stream function of a child, and the rounds of SDF and PN, only move tokens.
use Rattle.std.proofs.Common.{◌≡◌, ◌⊎◌, ℕ, zero, suc, ◌+◌, ◌≤◌, List, [], ◌∷◌, ◌++◌, Bool, true, false, length, take, drop, Option, Some, None, inl, inr, refl, sym, ap, subst, arith, ◌∙◌, length-append, length-drop, append_assoc}
use Rattle.pt_meaning.specs.Basics.{Tag, Streams, at, Log, Path, Event, silent, own, log_below}
use Rattle.pt_meaning.specs.Streams.{get}
use Rattle.pt_meaning.specs.Machine.{Outcome, Done, Stuck, Stepping, Facts, Front, Lacks, Ends, Takes, front, recorded}
use Rattle.pt_meaning.specs.Flow.{Flow, flow, on_outcome, on_front}
use Rattle.pt_meaning.specs.Net.{Source, Own, Output, Net}
use Rattle.pt_meaning.specs.Running.{total}
use Rattle.pt_meaning.specs.Rounds.{Limit, within, rated, rated_outcome, if_rated, has_rates, gave, fed, refill, flows}
use Rattle.pt_meaning.specs.Kahn.{arrival, arrived, logs_of, states_of, left_by}
use Rattle.pt_meaning.specs.Closed.{Has, first_channel}
use Rattle.pt_laws.specs.SoundRuns.{count_at}
use Rattle.pt_kinds.specs.Moves.{MayCome, given, MayGive, arrives, MayStand, begins, MayTake, takes, MayLog}
use Rattle.pt_kinds.proofs.MemberLaws.{has-append, in-joined, in-first, at-drop, in-append, length-take-within, FrontIn, front-in}
use Rattle.pt_kinds.proofs.TurnMoves.{IsOrStops, is-itself, MayEnd, turn-may, BeginAt, begin-next, first-is, count-is}

-- a child that gives another number of tokens than its rate is stopped
module _ {T S : Type 0} (facts : Facts T S) (step : Stepping T S) where
  if-rated-stops : (b : Bool) (n : ℕ) (z : S) (out : Streams T) (l : Log T) → IsOrStops (Done z out l) (if_rated b n z out l)
  if-rated-stops true n z out l = refl
  if-rated-stops false n z out l = refl

  rated-outcome-stops : (ns : List ℕ) (n : ℕ) (r : Outcome T S) → IsOrStops r (rated_outcome ns n r)
  rated-outcome-stops ns n (Done z out l) = if-rated-stops (has_rates ns out) n z out l
  rated-outcome-stops ns n (Stuck fs l) = refl

  pub rated-stops : (rates : Option (List ℕ)) (tag : Tag) (s : S) (X : Streams T) → IsOrStops (step tag s X) (rated facts rates step tag s X)
  rated-stops None tag s X = is-itself (step tag s X)
  rated-stops (Some ns) tag s X = rated-outcome-stops ns (facts.made s) (step tag s X)

module _ {T S : Type 0} (facts : Facts T S) (step : Stepping T S) (tag : Tag) (net : Net) (kids : List S) (Stands : (channel : ℕ) → T → Type 0) (inputs : Streams T) where
  -- a stream of each place of child i that it left, and what it gave and logged
  pub record FlowMay (i : ℕ) (f : Flow T S) : Type 0 where
    pub outputs : (port : ℕ) (x : T) → Has x (at f.outputs port) → MayGive facts step tag net kids Stands inputs (Output i port) x
    pub state : MayStand facts step tag net kids Stands inputs i f.state
    pub counted : length f.left ≡ count_at net.places i
    pub left : (q : ℕ) (x : T) → Has x (at f.left q) → MayCome facts step tag net kids Stands inputs (first_channel net.places i + q) x
    pub log : (p : Path) (e : Event T) → Has e (f.log p) → MayLog facts step tag net kids Stands inputs i p e

  module _ (rates : Option (List ℕ)) (i : ℕ) where
    halted-may : (s : S) (X : Streams T) → MayTake facts step tag net kids Stands inputs i s X → (l : Log T) → ((p : Path) (e : Event T) → Has e (l p) → MayLog facts step tag net kids Stands inputs i p e) →
        (f : Flow T S) → f.outputs ≡ [] → f.state ≡ s → f.left ≡ X → f.log ≡ l → FlowMay i f
    halted-may s X (takes j z Y stands long come) l logs f o st le lg = record {
      outputs = λ port x h. absurd (subst (λ (Z : Streams T). Has x (at Z port)) o h);
      state = subst (MayStand facts step tag net kids Stands inputs i) (sym st) stands;
      counted = ap length le ∙ long;
      left = λ q x h. come q x (subst (λ (Z : Streams T). Has x (at Z q)) le h);
      log = λ p e h. logs p e (subst (λ (m : Log T). Has e (m p)) lg h);
    }

    outcome-may : (go : S → Streams T → Flow T S) → ((s : S) (X : Streams T) → MayTake facts step tag net kids Stands inputs i s X → FlowMay i (go s X)) → (s : S) (X got left : Streams T) → MayTake facts step tag net kids Stands inputs i s X → length left ≡ length X → ((q : ℕ) (x : T) → Has x (at left q) → Has x (at X q)) →
        (r : Outcome T S) → MayEnd facts step tag net kids Stands inputs i (recorded (facts.made s) tag got r) → FlowMay i (on_outcome facts (rated facts rates step) tag go s X got left r)
    outcome-may go ih s X got left (takes j z' Y stands long come) e lefts (Done z out l) m =
        let w = ih z left (takes i z left m.0 (e ∙ long) (λ q x h. come q x (lefts q x h))) in
        record {
          outputs = λ port x h. elim (in-joined out (go z left).outputs port x h) [ inl k ↦ m.1 port x k | inr k ↦ w.outputs port x k ];
          state = w.state;
          counted = w.counted;
          left = w.left;
          log = λ p ev h. elim (has-append ev (l p ++ own (record { number = facts.made s; tag = tag; inputs = got; outputs = out }) p) ((go z left).log p) h) [ inl k ↦ m.2 p ev k | inr k ↦ w.log p ev k ];
        }
    outcome-may go ih s X got left t e lefts (Stuck fs l) m = halted-may s X t l m _ refl refl refl refl

    front-may : (go : S → Streams T → Flow T S) → ((s : S) (X : Streams T) → MayTake facts step tag net kids Stands inputs i s X → FlowMay i (go s X)) → (s : S) (X : Streams T) (w : Front T) → MayTake facts step tag net kids Stands inputs i s X → FrontIn X w → FlowMay i (on_front facts (rated facts rates step) tag go s X w)
    front-may go ih s X Lacks t f = halted-may s X t silent (λ p e h. absurd h) _ refl refl refl refl
    front-may go ih s X Ends t f = halted-may s X t silent (λ p e h. absurd h) _ refl refl refl refl
    front-may go ih s X (Takes got left) (takes j z Y stands long come) f =
        let t : MayTake facts step tag net kids Stands inputs i s got = takes i s got stands (f.0 ∙ long) (λ q x h. come q x (f.2 q x h)) in
        outcome-may go ih s X got left (takes i s X stands long come) f.1 f.3 (rated facts rates step tag s got) (turn-may facts step tag net kids Stands inputs i s got t (rated facts rates step tag s got) (rated-stops facts step rates tag s got))

    pub flow-may : (n : ℕ) (s : S) (X : Streams T) → MayTake facts step tag net kids Stands inputs i s X → FlowMay i (flow facts (rated facts rates step) tag n s X)
    unfolding flow
    flow-may zero s X t = halted-may s X t silent (λ p e h. absurd h) _ refl refl refl refl
    flow-may (suc n) s X t = front-may (flow facts (rated facts rates step) tag n) (λ z Y u. flow-may n z Y u) s X (front (facts.need s) X) t (front-in (facts.need s) X)

  -- ---- the children from child i on, whose channels are those from b on

  -- what stands on these channels may come there
  abbrev pub AreComing : ℕ → Streams T → Type 0
  AreComing b X = (q : ℕ) (x : T) → Has x (at X q) → MayCome facts step tag net kids Stands inputs (b + q) x

  abbrev pub AreStanding : ℕ → List S → Type 0
  AreStanding i ss = (j : ℕ) (s : S) → get ss j ≡ Some s → MayStand facts step tag net kids Stands inputs (i + j) s

  coming-drop : (n b : ℕ) (X : Streams T) → AreComing b X → AreComing (b + n) (drop n X)
  coming-drop n b X a q x h =
      let e : b + (n + q) ≡ (b + n) + q = omega arith in
      subst (λ c. MayCome facts step tag net kids Stands inputs c x) e (a (n + q) x (subst (λ xs. Has x xs) (at-drop n X q) h))

  standing-next : (i : ℕ) (s : S) (ss : List S) → AreStanding i (s ∷ ss) → AreStanding (suc i) ss
  standing-next i s ss a j z g = let e : i + suc j ≡ suc i + j = omega arith in subst (λ v. MayStand facts step tag net kids Stands inputs v z) e (a (suc j) z g)

  -- the first of them stands so, and may take what is on its channels
  pub first-takes : (i b n : ℕ) (ns : List ℕ) (s : S) (ss : List S) (X : Streams T) → BeginAt facts step tag net kids Stands inputs i b (n ∷ ns) → AreStanding i (s ∷ ss) → n ≤ length X → AreComing b X → MayTake facts step tag net kids Stands inputs i s (take n X)
  first-takes i b n ns s ss X a st r c =
      let e : i + 0 ≡ i = omega arith in
      takes i s (take n X) (subst (λ v. MayStand facts step tag net kids Stands inputs v s) e (st 0 s refl)) (length-take-within n X r ∙ sym (count-is facts step tag net kids Stands inputs i b n ns a))
      (λ q x h. subst (λ v. MayCome facts step tag net kids Stands inputs (v + q) x) (sym (first-is facts step tag net kids Stands inputs i b n ns a)) (c q x (in-first n X q x h)))

  abbrev pub FlowsMay : ℕ → List ℕ → List (Flow T S) → Type 0
  FlowsMay i [] [] = Unit {0}
  FlowsMay i (n ∷ ns) (f ∷ fs) = FlowMay i f × FlowsMay (suc i) ns fs
  FlowsMay i [] (f ∷ fs) = ⊥
  FlowsMay i (n ∷ ns) [] = ⊥

  pub flows-may : (i b : ℕ) (ns : List ℕ) (cs : List Limit) (k : ℕ) (ss : List S) (X : Streams T) → BeginAt facts step tag net kids Stands inputs i b ns → length cs ≡ length ns → length ss ≡ length ns → AreStanding i ss → total ns ≤ length X → AreComing b X → FlowsMay i ns (flows facts step tag ns cs k ss X)
  flows-may i b [] cs k ss X a c e st r m = tt
  flows-may i b (n ∷ ns) [] k ss X a c e st r m = absurd (omega (arith, c))
  flows-may i b (n ∷ ns) (l ∷ cs) k [] X a c e st r m = absurd (omega (arith, e))
  flows-may i b (n ∷ ns) (l ∷ cs) k (s ∷ ss) X a c e st r m = (
    flow-may l.rates i (within l.firings k) s (take n X) (first-takes i b n ns s ss X a st (omega (arith, r)) m),
    flows-may (suc i) (b + n) ns cs k ss (drop n X) (begin-next facts step tag net kids Stands inputs i b n ns a) (omega (arith, c)) (omega (arith, e)) (standing-next i s ss st) (omega (arith, r, length-drop n X)) (coming-drop n b X m),
  )

  -- ---- what they give, leave and log: child j is at number m behind child i

  pub gave-may : (i j m port : ℕ) (x : T) (ns : List ℕ) (fs : List (Flow T S)) → j ≡ i + m → FlowsMay i ns fs → Has x (gave fs m port) → MayGive facts step tag net kids Stands inputs (Output j port) x
  gave-may i j m port x ns [] e g h = absurd h
  gave-may i j m port x [] (f ∷ fs) e g h = absurd g
  gave-may i j zero port x (n ∷ ns) (f ∷ fs) e g h = let same : i ≡ j = omega (arith, e) in subst (λ v. MayGive facts step tag net kids Stands inputs (Output v port) x) same (g.0.outputs port x h)
  gave-may i j (suc m) port x (n ∷ ns) (f ∷ fs) e g h = gave-may (suc i) j m port x ns fs (omega (arith, e)) g.1 h

  pub logs-may : (i j m : ℕ) (p : Path) (ev : Event T) (ns : List ℕ) (fs : List (Flow T S)) → j ≡ i + m → FlowsMay i ns fs → Has ev (log_below (logs_of fs) (m ∷ p)) → MayLog facts step tag net kids Stands inputs j p ev
  logs-may i j m p ev ns [] e g h = absurd h
  logs-may i j m p ev [] (f ∷ fs) e g h = absurd g
  logs-may i j zero p ev (n ∷ ns) (f ∷ fs) e g h = let same : i ≡ j = omega (arith, e) in subst (λ v. MayLog facts step tag net kids Stands inputs v p ev) same (g.0.log p ev h)
  logs-may i j (suc m) p ev (n ∷ ns) (f ∷ fs) e g h = logs-may (suc i) j m p ev ns fs (omega (arith, e)) g.1 h

  pub states-may : (i j m : ℕ) (s : S) (ns : List ℕ) (fs : List (Flow T S)) → j ≡ i + m → FlowsMay i ns fs → get (states_of fs) m ≡ Some s → MayStand facts step tag net kids Stands inputs j s
  states-may i j m s ns [] e g h = absurd (cc)
  states-may i j m s [] (f ∷ fs) e g h = absurd g
  states-may i j zero s (n ∷ ns) (f ∷ fs) e g h =
      let same : i ≡ j = omega (arith, e) in
      let is : f.state ≡ s = cc in
      subst (λ v. MayStand facts step tag net kids Stands inputs v s) same (subst (λ z. MayStand facts step tag net kids Stands inputs i z) is g.0.state)
  states-may i j (suc m) s (n ∷ ns) (f ∷ fs) e g h = states-may (suc i) j m s ns fs (omega (arith, e)) g.1 h

  pub states-counted : (i : ℕ) (ns : List ℕ) (fs : List (Flow T S)) → FlowsMay i ns fs → length (states_of fs) ≡ length ns
  states-counted i [] [] g = refl
  states-counted i [] (f ∷ fs) g = absurd g
  states-counted i (n ∷ ns) [] g = absurd g
  states-counted i (n ∷ ns) (f ∷ fs) g = ap (λ v. suc v) (states-counted (suc i) ns fs g.1)

  pub left-may : (i b : ℕ) (ns : List ℕ) (fs : List (Flow T S)) (Y : Streams T) → BeginAt facts step tag net kids Stands inputs i b ns → FlowsMay i ns fs → AreComing (b + total ns) Y → AreComing b (left_by fs ++ Y)
  left-may i b [] [] Y a g m q x h = let e : (b + 0) + q ≡ b + q = omega arith in subst (λ c. MayCome facts step tag net kids Stands inputs c x) e (m q x h)
  left-may i b [] (f ∷ fs) Y a g m q x h = absurd g
  left-may i b (n ∷ ns) [] Y a g m q x h = absurd g
  left-may i b (n ∷ ns) (f ∷ fs) Y a g m q x h =
      go (in-append f.left (left_by fs ++ Y) q x (subst (λ (Z : Streams T). Has x (at Z q)) (append_assoc f.left (left_by fs) Y) h))
      (left-may (suc i) (b + n) ns fs Y (begin-next facts step tag net kids Stands inputs i b n ns a) g.1
      (λ r y k. let e : b + (n + total ns) + r ≡ ((b + n) + total ns) + r = omega arith in subst (λ c. MayCome facts step tag net kids Stands inputs c y) e (m r y k)))
    where
      long : length f.left ≡ n
      long = g.0.counted ∙ count-is facts step tag net kids Stands inputs i b n ns a

      go : Has x (at f.left q) ⊎ ((d : ℕ) × (q ≡ length f.left + d) × Has x (at (left_by fs ++ Y) d)) → AreComing (b + n) (left_by fs ++ Y) → MayCome facts step tag net kids Stands inputs (b + q) x
      go (inl k) rest = subst (λ v. MayCome facts step tag net kids Stands inputs (v + q) x) (first-is facts step tag net kids Stands inputs i b n ns a) (g.0.left q x k)
      go (inr k) rest = let e : (b + n) + k.0 ≡ b + q = omega (arith, k.1, long) in subst (λ c. MayCome facts step tag net kids Stands inputs c x) e (rest k.0 x k.2)

  pub left-length : (i b : ℕ) (ns : List ℕ) (fs : List (Flow T S)) → BeginAt facts step tag net kids Stands inputs i b ns → FlowsMay i ns fs → length (left_by fs) ≡ total ns
  left-length i b [] [] a g = refl
  left-length i b [] (f ∷ fs) a g = absurd g
  left-length i b (n ∷ ns) [] a g = absurd g
  left-length i b (n ∷ ns) (f ∷ fs) a g =
      omega (arith, length-append f.left (left_by fs), g.0.counted, count-is facts step tag net kids Stands inputs i b n ns a, left-length (suc i) (b + n) ns fs (begin-next facts step tag net kids Stands inputs i b n ns a) g.1)

  -- ---- along channels: those from b on have these sources

  abbrev pub AreSources : ℕ → List Source → Type 0
  AreSources b cs = (j : ℕ) (s : Source) → get cs j ≡ Some s → get net.sources (b + j) ≡ Some s

  sources-next : (b : ℕ) (c : Source) (cs : List Source) → AreSources b (c ∷ cs) → AreSources (suc b) cs
  sources-next b c cs a j s g = let e : suc b + j ≡ b + suc j = omega arith in ap (λ v. get net.sources v) e ∙ a (suc j) s g

  coming-next : (b : ℕ) (xs : List T) (X : Streams T) → AreComing b (xs ∷ X) → AreComing (suc b) X
  coming-next b xs X a q x h = let e : b + suc q ≡ suc b + q = omega arith in subst (λ c. MayCome facts step tag net kids Stands inputs c x) e (a (suc q) x h)

  coming-more : (b : ℕ) (xs : List T) (X : Streams T) → ((x : T) → Has x xs → MayCome facts step tag net kids Stands inputs (b + 0) x) → AreComing (suc b) X → AreComing b (xs ∷ X)
  coming-more b xs X f r zero x h = f x h
  coming-more b xs X f r (suc q) x h = let e : suc b + q ≡ b + suc q = omega arith in subst (λ c. MayCome facts step tag net kids Stands inputs c x) e (r q x h)

  pub arrived-may : (b : ℕ) (cs : List Source) (X : Streams T) → AreSources b cs → AreComing b X → AreComing b (arrived cs inputs X)
  arrived-may b [] X s a = a
  arrived-may b (c ∷ cs) [] s a = λ q x h. absurd h
  arrived-may b (c ∷ cs) (xs ∷ X) s a = coming-more b (xs ++ arrival c inputs) (arrived cs inputs X) (λ x h. elim (has-append x xs (arrival c inputs) h) [ inl k ↦ a 0 x k | inr k ↦ come c (s 0 c refl) x k ]) (arrived-may (suc b) cs X (sources-next b c cs s) (coming-next b xs X a))
    where
      come : (c : Source) → get net.sources (b + 0) ≡ Some c → (x : T) → Has x (arrival c inputs) → MayCome facts step tag net kids Stands inputs (b + 0) x
      come (Own port) g x h = given (b + 0) (Own port) x g (arrives port x h)
      come (Output child port) g x h = absurd h

  pub refill-may : (fs : List (Flow T S)) → FlowsMay 0 net.places fs → (b : ℕ) (cs : List Source) (X : Streams T) → AreSources b cs → AreComing b X → AreComing b (refill fs cs X)
  refill-may fs g b [] X s a = a
  refill-may fs g b (c ∷ cs) [] s a = λ q x h. absurd h
  refill-may fs g b (c ∷ cs) (xs ∷ X) s a = coming-more b (xs ++ fed fs c) (refill fs cs X) (λ x h. elim (has-append x xs (fed fs c) h) [ inl k ↦ a 0 x k | inr k ↦ come c (s 0 c refl) x k ]) (refill-may fs g (suc b) cs X (sources-next b c cs s) (coming-next b xs X a))
    where
      come : (c : Source) → get net.sources (b + 0) ≡ Some c → (x : T) → Has x (fed fs c) → MayCome facts step tag net kids Stands inputs (b + 0) x
      come (Own port) e x h = absurd h
      come (Output child port) e x h = given (b + 0) (Output child port) x e (gave-may 0 child child port x net.places fs (omega arith) g h)

  -- the children and their channels as the firing begins
  pub all-stand : AreStanding 0 kids
  all-stand j s g = let e : j ≡ 0 + j = omega arith in begins (0 + j) s (ap (λ v. get kids v) (sym e) ∙ g)

  pub all-sources : AreSources 0 net.sources
  all-sources j s g = let e : j ≡ 0 + j = omega arith in ap (λ v. get net.sources v) (sym e) ∙ g
