-- A settled round is a run at the end of which no child can fire.
use Rattle.std.proofs.Common.{◌≡◌, ℕ, zero, suc, ◌≤◌, List, [], ◌∷◌, ◌++◌, true, length, take, drop, Option, Some, None, refl, sym, ap, ap₂, subst, arith, ◌∙◌, inl, inr}
use Rattle.std.proofs.lemmas.List.{length-take-le}
use Rattle.pt_meaning.specs.Basics.{Tag, Streams, Log, joined, at, log_then, own}
use Rattle.pt_meaning.specs.Machine.{Outcome, Done, Stuck, Stepping, Facts, Front, Lacks, Ends, Takes, front}
use Rattle.pt_meaning.specs.Flow.{Stop, Lacking, Ended, Capped, Stopped, Flow, flow, on_outcome, on_front, after_firing}
use Rattle.pt_meaning.specs.Rounds.{Source, Net, Limit, within, rated, gave, refill, flows, round, at_rest, all_at_rest}
use Rattle.pt_meaning.specs.Dataflow.{states_of, left_by, logs_of, skip_places}
use Rattle.pt_meaning.specs.Running.{runs, total, MadeAll, WithinAll, Fits, IsDry, CannotFire, NoneCanFire}
use Rattle.pt_laws.specs.SettledRuns.{fired_of, SettledIsRun}
use Rattle.pt_laws.proofs.FlowLaws.{IsFree, IsQuiet}
use Rattle.pt_laws.proofs.RoundLaws.{grows-refl, flow-fired}
use Rattle.pt_laws.proofs.KahnLaws.{and-left, and-right, fixed, at-rest}
use Rattle.pt_laws.proofs.RunLaws.{left-length, take-left, drop-left}
use Rattle.pt_laws.proofs.CountLaws.{same-refill, rounds-count}

-- the flow of exactly the firings that another made
pub record Exact {T S : Type 0} (f g : Flow T S) : Type 0 where
  pub outputs : g.outputs ≡ f.outputs
  pub state : g.state ≡ f.state
  pub left : g.left ≡ f.left
  pub fired : g.fired ≡ f.fired
  pub log : IsFree f.stop → g.log ≡ f.log

module _ {T S : Type 0} (facts : Facts T S) (step : Stepping T S) (tag : Tag) where
  next-exact : (m : ℕ) (s z : S) (X got left out : Streams T) (l : Log T) (f : Front T) (F : Flow T S) → f ≡ Takes got left → step tag s got ≡ Done z out l → Exact F (flow facts step tag m z left) →
      Exact (after_firing out (log_then l (own (record { number = facts.made s; tag = tag; inputs = got; outputs = out }))) F) (on_front facts step tag (flow facts step tag m) s X f)
  next-exact m s z X got left out l f F e d h =
      rw (e, d) (record {
        outputs = ap (λ v. joined out v) h.outputs;
        state = h.state;
        left = h.left;
        fired = ap (λ v. suc v) h.fired;
        log = λ q. ap (λ v. log_then (log_then l (own (record { number = facts.made s; tag = tag; inputs = got; outputs = out }))) v) (h.log q);
      })

  on-exact : (n : ℕ) → ((s : S) (X : Streams T) → Exact (flow facts step tag n s X) (flow facts step tag (flow facts step tag n s X).fired s X)) → (s : S) (X got left : Streams T) → front (facts.need s) X ≡ Takes got left → (r : Outcome T S) → step tag s got ≡ r →
      Exact (on_outcome facts step tag (flow facts step tag n) s X got left r) (flow facts step tag (on_outcome facts step tag (flow facts step tag n) s X got left r).fired s X)
  unfolding flow
  on-exact n ih s X got left e (Done z out l) d = next-exact (flow facts step tag n z left).fired s z X got left out l (front (facts.need s) X) (flow facts step tag n z left) e d (ih z left)
  on-exact n ih s X got left e (Stuck fs l) d = record { outputs = refl; state = refl; left = refl; fired = refl; log = λ q. absurd q }

  front-exact : (n : ℕ) → ((s : S) (X : Streams T) → Exact (flow facts step tag n s X) (flow facts step tag (flow facts step tag n s X).fired s X)) → (s : S) (X : Streams T) (f : Front T) → front (facts.need s) X ≡ f →
      Exact (on_front facts step tag (flow facts step tag n) s X f) (flow facts step tag (on_front facts step tag (flow facts step tag n) s X f).fired s X)
  unfolding flow
  front-exact n ih s X Lacks e = record { outputs = refl; state = refl; left = refl; fired = refl; log = λ q. refl }
  front-exact n ih s X Ends e = record { outputs = refl; state = refl; left = refl; fired = refl; log = λ q. refl }
  front-exact n ih s X (Takes got left) e = on-exact n ih s X got left e (step tag s got) refl

  pub flow-exact : (n : ℕ) (s : S) (X : Streams T) → Exact (flow facts step tag n s X) (flow facts step tag (flow facts step tag n s X).fired s X)
  unfolding flow
  flow-exact zero s X = record { outputs = refl; state = refl; left = refl; fired = refl; log = λ q. refl }
  flow-exact (suc n) s X = front-exact n (flow-exact n) s X (front (facts.need s) X) refl

  -- a flow that is quiet has no front to take
  dry-on : (go : S → Streams T → Flow T S) → ((s : S) (X : Streams T) → IsQuiet (go s X).stop → IsDry (front (facts.need (go s X).state) (go s X).left)) → (s : S) (X got left : Streams T) (r : Outcome T S) →
      IsQuiet (on_outcome facts step tag go s X got left r).stop → IsDry (front (facts.need (on_outcome facts step tag go s X got left r).state) (on_outcome facts step tag go s X got left r).left)
  dry-on go ih s X got left (Done z out l) q = ih z left q
  dry-on go ih s X got left (Stuck fs l) q = absurd q

  dry-front : (go : S → Streams T → Flow T S) → ((s : S) (X : Streams T) → IsQuiet (go s X).stop → IsDry (front (facts.need (go s X).state) (go s X).left)) → (s : S) (X : Streams T) (f : Front T) → front (facts.need s) X ≡ f →
      IsQuiet (on_front facts step tag go s X f).stop → IsDry (front (facts.need (on_front facts step tag go s X f).state) (on_front facts step tag go s X f).left)
  dry-front go ih s X Lacks e q = subst (λ v. IsDry v) (sym e) tt
  dry-front go ih s X Ends e q = subst (λ v. IsDry v) (sym e) tt
  dry-front go ih s X (Takes got left) e q = dry-on go ih s X got left (step tag s got) q

  pub quiet-dry : (n : ℕ) (s : S) (X : Streams T) → IsQuiet (flow facts step tag n s X).stop → IsDry (front (facts.need (flow facts step tag n s X).state) (flow facts step tag n s X).left)
  unfolding flow
  quiet-dry zero s X q = absurd q
  quiet-dry (suc n) s X q = dry-front (flow facts step tag n) (quiet-dry n) s X (front (facts.need s) X) refl q

-- at rest, so it cannot fire and its log is whole
pub rest-free : (c : Option ℕ) (m : ℕ) (stop : Stop) → at_rest c m stop ≡ true → IsFree stop
rest-free c m Lacking e = tt
rest-free c m Ended e = tt
rest-free c m Capped e = tt
rest-free c m (Stopped fs) e = absurd (cc)

rest-cannot : {T S : Type 0} (facts : Facts T S) (c : Option ℕ) (m : ℕ) (s : S) (X : Streams T) (stop : Stop) → (IsQuiet stop → IsDry (front (facts.need s) X)) → at_rest c m stop ≡ true → CannotFire facts c m s X
rest-cannot facts c m s X Lacking h e = inr (h tt)
rest-cannot facts c m s X Ended h e = inr (h tt)
rest-cannot facts c m s X Capped h e = inl e
rest-cannot facts c m s X (Stopped fs) h e = absurd (cc)

-- child by child
abbrev pub AllExact : {T S : Type 0} → List (Flow T S) → List (Flow T S) → Type 0
AllExact [] [] = Unit {0}
AllExact (f ∷ fs) (g ∷ gs) = Exact f g × AllExact fs gs
AllExact [] (g ∷ gs) = ⊥
AllExact (f ∷ fs) [] = ⊥

module _ {T S : Type 0} (facts : Facts T S) (step : Stepping T S) (tag : Tag) where
  runs-exact : (ns : List ℕ) (cs : List Limit) (k : ℕ) (ss : List S) (X : Streams T) → length cs ≡ length ns → length ss ≡ length ns → AllExact (flows facts step tag ns cs k ss X) (runs facts step tag ns cs (fired_of (flows facts step tag ns cs k ss X)) ss X)
  runs-exact [] cs k ss X e f = tt
  runs-exact (n ∷ ns) [] k ss X e f = absurd (omega arith)
  runs-exact (n ∷ ns) (c ∷ cs) k [] X e f = absurd (omega arith)
  runs-exact (n ∷ ns) (c ∷ cs) k (s ∷ ss) X e f = (flow-exact facts (rated facts c.rates step) tag (within c.firings k) s (take n X), runs-exact ns cs k ss (drop n X) (omega arith) (omega arith))

  count-of : (ns : List ℕ) (cs : List Limit) (k : ℕ) (ss : List S) (X : Streams T) → length cs ≡ length ns → length ss ≡ length ns → length (fired_of (flows facts step tag ns cs k ss X)) ≡ length ns
  count-of [] cs k ss X e f = refl
  count-of (n ∷ ns) [] k ss X e f = absurd (omega arith)
  count-of (n ∷ ns) (c ∷ cs) k [] X e f = absurd (omega arith)
  count-of (n ∷ ns) (c ∷ cs) k (s ∷ ss) X e f = ap (λ v. suc v) (count-of ns cs k ss (drop n X) (omega arith) (omega arith))

  exact-made : (fs gs : List (Flow T S)) → AllExact fs gs → MadeAll (fired_of fs) gs
  exact-made [] [] h = tt
  exact-made (f ∷ fs) (g ∷ gs) h = (h.0.fired, exact-made fs gs h.1)
  exact-made [] (g ∷ gs) h = absurd h
  exact-made (f ∷ fs) [] h = absurd h

  exact-states : (fs gs : List (Flow T S)) → AllExact fs gs → states_of fs ≡ states_of gs
  exact-states [] [] h = refl
  exact-states (f ∷ fs) (g ∷ gs) h = ap₂ (λ a b. a ∷ b) (sym h.0.state) (exact-states fs gs h.1)
  exact-states [] (g ∷ gs) h = absurd h
  exact-states (f ∷ fs) [] h = absurd h

  exact-left : (fs gs : List (Flow T S)) → AllExact fs gs → left_by fs ≡ left_by gs
  exact-left [] [] h = refl
  exact-left (f ∷ fs) (g ∷ gs) h = ap₂ (λ a b. a ++ b) (sym h.0.left) (exact-left fs gs h.1)
  exact-left [] (g ∷ gs) h = absurd h
  exact-left (f ∷ fs) [] h = absurd h

  exact-gave : (fs gs : List (Flow T S)) → AllExact fs gs → (i p : ℕ) → gave gs i p ≡ gave fs i p
  exact-gave [] [] h i p = refl
  exact-gave (f ∷ fs) (g ∷ gs) h zero p = ap (λ v. at v p) h.0.outputs
  exact-gave (f ∷ fs) (g ∷ gs) h (suc i) p = exact-gave fs gs h.1 i p
  exact-gave [] (g ∷ gs) h i p = absurd h
  exact-gave (f ∷ fs) [] h i p = absurd h

  exact-logs : (cs : List Limit) (fs gs : List (Flow T S)) → AllExact fs gs → all_at_rest cs fs ≡ true → logs_of fs ≡ logs_of gs
  exact-logs cs [] [] h e = refl
  exact-logs [] (f ∷ fs) (g ∷ gs) h e = absurd (cc)
  exact-logs (c ∷ cs) (f ∷ fs) (g ∷ gs) h e = ap₂ (λ a b. a ∷ b) (sym (h.0.log (rest-free c.firings f.fired f.stop (and-left _ _ e)))) (exact-logs cs fs gs h.1 (and-right _ _ e))
  exact-logs cs [] (g ∷ gs) h e = absurd h
  exact-logs cs (f ∷ fs) [] h e = absurd h

  -- within the bounds, and within as many as are made in all
  within-bounds : (c : Option ℕ) (a k n : ℕ) → a ≤ within c k → a ≤ n → a ≤ within c n
  within-bounds None a k n h l = l
  within-bounds (Some c) a k n h l = omega arith

  few-made : (ns : List ℕ) (cs : List Limit) (k n : ℕ) (ss : List S) (X : Streams T) → total (fired_of (flows facts step tag ns cs k ss X)) ≤ n → WithinAll cs (fired_of (flows facts step tag ns cs k ss X)) n
  few-made [] cs k n ss X h = tt
  few-made (m ∷ ns) [] k n ss X h = tt
  few-made (m ∷ ns) (c ∷ cs) k n [] X h = tt
  few-made (m ∷ ns) (c ∷ cs) k n (s ∷ ss) X h =
      let low = flow-fired facts (rated facts c.rates step) tag (within c.firings k) s (take m X) in
      (within-bounds c.firings _ k n low (omega (arith, h)), few-made ns cs k n ss (drop m X) (omega (arith, h)))

  none-at-rest : (ns : List ℕ) (cs : List Limit) (k : ℕ) (ss : List S) (X own : Streams T) → Fits ns X → all_at_rest cs (flows facts step tag ns cs k ss X) ≡ true →
      NoneCanFire facts ns cs (fired_of (flows facts step tag ns cs k ss X)) (states_of (flows facts step tag ns cs k ss X)) (left_by (flows facts step tag ns cs k ss X) ++ own)
  none-at-rest [] cs k ss X own f e = tt
  none-at-rest (n ∷ ns) [] k ss X own f e = tt
  none-at-rest (n ∷ ns) (c ∷ cs) k [] X own f e = tt
  none-at-rest (n ∷ ns) (c ∷ cs) k (s ∷ ss) X own f e =
      let F = flow facts (rated facts c.rates step) tag (within c.firings k) s (take n X) in
      let R = flows facts step tag ns cs k ss (drop n X) in
      let len : length F.left ≡ n = left-length facts (rated facts c.rates step) tag (within c.firings k) s (take n X) ∙ length-take-le n X f.0 in
      let first : F.left ≡ take n ((F.left ++ left_by R) ++ own) = sym (take-left facts step tag n F.left (left_by R) own _ len refl) in
      let second : left_by R ++ own ≡ drop n ((F.left ++ left_by R) ++ own) = sym (drop-left facts step tag n F.left (left_by R) own _ len refl) in (
        subst (λ Y. CannotFire facts c.firings F.fired F.state Y) first (rest-cannot facts c.firings F.fired F.state F.left F.stop (quiet-dry facts (rated facts c.rates step) tag (within c.firings k) s (take n X)) (and-left _ _ e)),
        subst (λ Y. NoneCanFire facts ns cs (fired_of R) (states_of R) Y) second (none-at-rest ns cs k ss (drop n X) own f.1 (and-right _ _ e)),
      )

fits-longer : {T : Type 0} (ns : List ℕ) (X Y : Streams T) → length X ≤ length Y → Fits ns X → Fits ns Y
fits-longer [] X Y h f = tt
fits-longer (n ∷ ns) X Y h f = (omega (arith, h, f.0), fits-longer ns (drop n X) (drop n Y) (shorter n X Y h) f.1)
  where
    shorter : {A : Type 0} (n : ℕ) (xs ys : List A) → length xs ≤ length ys → length (drop n xs) ≤ length (drop n ys)
    shorter zero xs ys h = h
    shorter (suc n) [] ys h = omega arith
    shorter (suc n) (x ∷ xs) [] h = absurd (omega arith)
    shorter (suc n) (x ∷ xs) (y ∷ ys) h = shorter n xs ys (omega (arith, h))

refill-long : {T S : Type 0} (fs : List (Flow T S)) (cs : List Source) (X : Streams T) → length (refill fs cs X) ≡ length X
refill-long fs [] X = refl
refill-long fs (c ∷ cs) [] = refl
refill-long fs (c ∷ cs) (xs ∷ X) = ap (λ v. suc v) (refill-long fs cs X)

pub round-long : {T S : Type 0} (facts : Facts T S) (step : Stepping T S) (tag : Tag) (net : Net) (limits : List Limit) (kids : List S) (start : Streams T) (k : ℕ) → length (round facts step tag net limits kids start k) ≡ length start
unfolding round
round-long facts step tag net limits kids start zero = refl
round-long facts step tag net limits kids start (suc k) = refill-long (flows facts step tag net.places limits (suc k) kids (round facts step tag net limits kids start k)) net.sources start

pub settled-is-run : {T S : Type 0} → SettledIsRun T S
settled-is-run {T} {S} facts step tag net limits kids start a b f k e =
    let X = round facts step tag net limits kids start k in
    let fs = flows facts step tag net.places limits k kids X in
    let rest = at-rest facts step step tag (grows-refl step) net limits kids start k e in
    let exact = runs-exact facts step tag net.places limits k kids X a b in
    let fits = fits-longer net.places start X (omega (arith, round-long facts step tag net limits kids start k)) f in
    let gs = runs facts step tag net.places limits (fired_of fs) kids X in (
      record {
        running = record {
          all = X;
          each = count-of facts step tag net.places limits k kids X a b;
          fits = fits;
          made = exact-made facts step tag fs gs exact;
          states = exact-states facts step tag fs gs exact;
          left = ap (λ Y. Y ++ skip_places net.places X) (exact-left facts step tag fs gs exact);
          fed = fixed facts step step tag (grows-refl step) net limits kids start k e ∙ sym (same-refill fs gs (exact-gave facts step tag fs gs exact) net.sources start);
          caused = rounds-count facts step tag net limits kids start k;
          few = few-made facts step tag net.places limits k (total (fired_of fs)) kids X (omega arith);
        };
        logs = exact-logs facts step tag limits fs gs exact rest;
      },
      none-at-rest facts step tag net.places limits k kids X (skip_places net.places X) fits rest,
    )
