-- From any place in the middle of a PN firing, the rest of the solution is the solution without what was there before.
use Rattle.std.proofs.Common.{◌≡◌, ℕ, zero, suc, ◌≤◌, ◌<◌, ◌+◌, ◌-◌, List, [], ◌∷◌, ◌++◌, Bool, true, false, nat_le, nat_lt, length, take, drop, refl, sym, ap, ap₂, subst, arith, ◌∙◌, append_assoc}
use Rattle.std.proofs.lemmas.List.{length-take-le, take-append-drop}
use Rattle.std.proofs.lemmas.Bool.{ltb-true, ltb-false}
use Rattle.pt_meaning.specs.Basics.{Tag, Streams, at, Below, own}
use Rattle.pt_meaning.specs.Machine.{Need, Over, Counts, Any, Outcome, Done, Stuck, Stepping, Facts, Front, Lacks, Ends, Takes, front, counted, if_long}
use Rattle.pt_meaning.specs.Flow.{Flow, flow, on_outcome, on_front}
use Rattle.pt_meaning.specs.Rounds.{Source, Own, Output, Net, gave, fed, refill, flows, round}
use Rattle.pt_meaning.specs.Dataflow.{states_of, left_by, skip_places, pn_limits, settled}
use Rattle.pt_meaning.specs.Running.{runs, total, MadeAll, WithinAll, Running, Fits, plus, feeds, added_by}
use Rattle.pt_laws.proofs.Order.{Below-trans, Below-antisym, Below-take, Below-drop, at-joined}
use Rattle.pt_laws.proofs.FlowLaws.{flow-below}
use Rattle.pt_laws.proofs.RoundLaws.{FlowsBelow, flows-rest, round-below, refill-below, below-refill, grows-refl}
use Rattle.pt_laws.proofs.KahnLaws.{stays, at-rest}
use Rattle.pt_laws.proofs.RunLaws.{plus-take, plus-drop, plus-nil, flow-longer, left-length, runs-below, head-is, tail-is, take-left, drop-left}

module _ {T S : Type 0} (facts : Facts T S) (step : Stepping T S) (tag : Tag) where
  -- m firings, and then n more
  on_chain : (m n : ℕ) (go far : S → Streams T → Flow T S) → ((s : S) (X : Streams T) → (go s X).fired ≡ m → (p : ℕ) → at (far s X).outputs p ≡ at (go s X).outputs p ++ at (flow facts step tag n (go s X).state (go s X).left).outputs p) →
      (s : S) (X got left : Streams T) (r : Outcome T S) → (on_outcome facts step tag go s X got left r).fired ≡ suc m → (p : ℕ) →
      at (on_outcome facts step tag far s X got left r).outputs p ≡ at (on_outcome facts step tag go s X got left r).outputs p ++ at (flow facts step tag n (on_outcome facts step tag go s X got left r).state (on_outcome facts step tag go s X got left r).left).outputs p
  on_chain m n go far ih s X got left (Done z out l) e p =
      at-joined out (far z left).outputs p ∙ ap (λ v. at out p ++ v) (ih z left (omega arith) p) ∙ sym (append_assoc (at out p) (at (go z left).outputs p) (at (flow facts step tag n (go z left).state (go z left).left).outputs p)) ∙
      ap (λ v. v ++ at (flow facts step tag n (go z left).state (go z left).left).outputs p) (sym (at-joined out (go z left).outputs p))
  on_chain m n go far ih s X got left (Stuck fs l) e p = absurd (omega arith)

  front-chain : (m n : ℕ) (go far : S → Streams T → Flow T S) → ((s : S) (X : Streams T) → (go s X).fired ≡ m → (p : ℕ) → at (far s X).outputs p ≡ at (go s X).outputs p ++ at (flow facts step tag n (go s X).state (go s X).left).outputs p) →
      (s : S) (X : Streams T) (f : Front T) → (on_front facts step tag go s X f).fired ≡ suc m → (p : ℕ) →
      at (on_front facts step tag far s X f).outputs p ≡ at (on_front facts step tag go s X f).outputs p ++ at (flow facts step tag n (on_front facts step tag go s X f).state (on_front facts step tag go s X f).left).outputs p
  front-chain m n go far ih s X Lacks e p = absurd (omega arith)
  front-chain m n go far ih s X Ends e p = absurd (omega arith)
  front-chain m n go far ih s X (Takes got left) e p = on_chain m n go far ih s X got left (step tag s got) e p

  pub flow-chain : (m n : ℕ) (s : S) (X : Streams T) → (flow facts step tag m s X).fired ≡ m → (p : ℕ) →
      at (flow facts step tag (m + n) s X).outputs p ≡ at (flow facts step tag m s X).outputs p ++ at (flow facts step tag n (flow facts step tag m s X).state (flow facts step tag m s X).left).outputs p
  unfolding flow
  flow-chain zero n s X e p = let a : 0 + n ≡ n = omega arith in ap (λ v. at (flow facts step tag v s X).outputs p) a
  flow-chain (suc m) n s X e p =
      let a : suc m + n ≡ suc (m + n) = omega arith in
      ap (λ v. at (flow facts step tag v s X).outputs p) a ∙ front-chain m n (flow facts step tag m) (flow facts step tag (m + n)) (flow-chain m n) s X (front (facts.need s) X) e p

  -- the same on longer streams
  longer-chain : (m n : ℕ) (s : S) (X E : Streams T) → (flow facts step tag m s X).fired ≡ m → (p : ℕ) →
      at (flow facts step tag (m + n) s (plus X E)).outputs p ≡ at (flow facts step tag m s X).outputs p ++ at (flow facts step tag n (flow facts step tag m s X).state (plus (flow facts step tag m s X).left E)).outputs p
  longer-chain m n s X E e p =
      let l = flow-longer facts step tag m s X E e in
      flow-chain m n s (plus X E) (ap (λ f. f.fired) l ∙ e) p ∙ ap (λ f. at f.outputs p ++ at (flow facts step tag n f.state f.left).outputs p) l

abbrev pub later_by : ℕ → List ℕ → List ℕ
later_by j [] = []
later_by j (m ∷ ms) = (m + j) ∷ later_by j ms

few-later : (j : ℕ) (ns ms : List ℕ) (k : ℕ) → WithinAll (pn_limits ns) ms k → WithinAll (pn_limits ns) (later_by j ms) (k + j)
few-later j [] [] k w = tt
few-later j [] (m ∷ ms) k w = absurd w
few-later j (n ∷ ns) [] k w = tt
few-later j (n ∷ ns) (m ∷ ms) k w = let a = w.0 in (omega (arith, a), few-later j ns ms k w.1)

later-length : (j : ℕ) (ms : List ℕ) → length (later_by j ms) ≡ length ms
later-length j [] = refl
later-length j (m ∷ ms) = ap (λ v. suc v) (later-length j ms)

module _ {T S : Type 0} (facts : Facts T S) (step : Stepping T S) (tag : Tag) where
  runs-chain : (j : ℕ) (ns ms : List ℕ) (ss : List S) (A own E : Streams T) (now : List S) (held : Streams T) → length ms ≡ length ns → Fits ns A → MadeAll ms (runs facts step tag ns (pn_limits ns) ms ss A) →
      now ≡ states_of (runs facts step tag ns (pn_limits ns) ms ss A) → held ≡ left_by (runs facts step tag ns (pn_limits ns) ms ss A) ++ own → (i p : ℕ) →
      gave (runs facts step tag ns (pn_limits ns) (later_by j ms) ss (plus A E)) i p ≡ gave (runs facts step tag ns (pn_limits ns) ms ss A) i p ++ gave (flows facts step tag ns (pn_limits ns) j now (plus held E)) i p
  runs-chain j [] ms ss A own E now held e f h st lf i p = refl
  runs-chain j (n ∷ ns) [] ss A own E now held e f h st lf i p = absurd (omega arith)
  runs-chain j (n ∷ ns) (m ∷ ms) [] A own E now held e f h st lf i p = absurd h
  runs-chain j (n ∷ ns) (m ∷ ms) (s ∷ ss) A own E [] held e f h st lf i p = absurd (cc)
  runs-chain j (n ∷ ns) (m ∷ ms) (s ∷ ss) A own E (z ∷ now) held e f h st lf zero p =
      let F = flow facts step tag m s (take n A) in
      let R = runs facts step tag ns (pn_limits ns) ms ss (drop n A) in
      let len : length F.left ≡ n = left-length facts step tag m s (take n A) ∙ length-take-le n A f.0 in
      let tk : take n held ≡ F.left = take-left facts step tag n F.left (left_by R) own held len lf in
      let zs : z ≡ F.state = head-is facts step tag z F.state now (states_of R) st in
      ap (λ X. at (flow facts step tag (m + j) s X).outputs p) (plus-take n A E) ∙ longer-chain facts step tag m j s (take n A) (take n E) h.0 p ∙
      ap (λ v. at F.outputs p ++ v)
      (ap (λ v. at (flow facts step tag j v (plus F.left (take n E))).outputs p) (sym zs) ∙ ap (λ X. at (flow facts step tag j z (plus X (take n E))).outputs p) (sym tk) ∙ ap (λ X. at (flow facts step tag j z X).outputs p) (sym (plus-take n held E)))
  runs-chain j (n ∷ ns) (m ∷ ms) (s ∷ ss) A own E (z ∷ now) held e f h st lf (suc i) p =
      let F = flow facts step tag m s (take n A) in
      let R = runs facts step tag ns (pn_limits ns) ms ss (drop n A) in
      let len : length F.left ≡ n = left-length facts step tag m s (take n A) ∙ length-take-le n A f.0 in
      ap (λ X. gave (runs facts step tag ns (pn_limits ns) (later_by j ms) ss X) i p) (plus-drop n A E) ∙
      runs-chain j ns ms ss (drop n A) own (drop n E) now (drop n held) (omega arith) f.1 h.1 (tail-is facts step tag z F.state now (states_of R) st) (drop-left facts step tag n F.left (left_by R) own held len lf) i p ∙
      ap (λ X. gave R i p ++ gave (flows facts step tag ns (pn_limits ns) j now X) i p) (sym (plus-drop n held E))

  flows-runs : (j : ℕ) (ns ms : List ℕ) (ss : List S) (X Y : Streams T) → length ms ≡ length ns → Below X Y → FlowsBelow (flows facts step tag ns (pn_limits ns) j ss X) (runs facts step tag ns (pn_limits ns) (later_by j ms) ss Y)
  flows-runs j [] ms ss X Y e b = tt
  flows-runs j (n ∷ ns) [] ss X Y e b = absurd (omega arith)
  flows-runs j (n ∷ ns) (m ∷ ms) [] X Y e b = tt
  flows-runs j (n ∷ ns) (m ∷ ms) (s ∷ ss) X Y e b = (
    flow-below facts step step tag (grows-refl step) j (m + j) (omega arith) s (take n X) (take n Y) (Below-take n X Y b),
    flows-runs j ns ms ss (drop n X) (drop n Y) (omega arith) (Below-drop n X Y b),
  )

refill-feeds : {T S : Type 0} (fs : List (Flow T S)) (cs : List Source) (X : Streams T) → refill fs cs X ≡ plus X (feeds fs cs)
refill-feeds fs [] X = sym (plus-nil X)
refill-feeds fs (c ∷ cs) [] = refl
refill-feeds fs (c ∷ cs) (xs ∷ X) = ap (λ v. (xs ++ fed fs c) ∷ v) (refill-feeds fs cs X)

fed-two : {T S : Type 0} (gs rs fs : List (Flow T S)) → ((i p : ℕ) → gave gs i p ≡ gave rs i p ++ gave fs i p) → (c : Source) → fed gs c ≡ fed rs c ++ fed fs c
fed-two gs rs fs h (Own p) = refl
fed-two gs rs fs h (Output i p) = h i p

refill-two : {T S : Type 0} (gs rs fs : List (Flow T S)) → ((i p : ℕ) → gave gs i p ≡ gave rs i p ++ gave fs i p) → (cs : List Source) (X : Streams T) → refill gs cs X ≡ plus (refill rs cs X) (feeds fs cs)
refill-two gs rs fs h [] X = sym (plus-nil X)
refill-two gs rs fs h (c ∷ cs) [] = refl
refill-two gs rs fs h (c ∷ cs) (xs ∷ X) = ap₂ (λ a b. a ∷ b) (ap (λ v. xs ++ v) (fed-two gs rs fs h c) ∙ sym (append_assoc xs (fed rs c) (fed fs c))) (refill-two gs rs fs h cs X)

module _ {T S : Type 0} (facts : Facts T S) (step : Stepping T S) (tag : Tag) (net : Net) (kids : List S) (start : Streams T) (ms : List ℕ) (now : List S) (held : Streams T) (r : Running facts step tag net (pn_limits net.places) kids start ms now held) where
  abbrev pub new : ℕ → Streams T
  new k = added_by facts step tag net (pn_limits net.places) now held k

  -- a round from here is what the channels hold, and what is new
  pub round-new : (k : ℕ) → round facts step tag net (pn_limits net.places) now held k ≡ plus held (new k)
  unfolding round
  round-new zero = sym (plus-nil held)
  round-new (suc k) =
      ap (λ X. refill (flows facts step tag net.places (pn_limits net.places) (suc k) now X) net.sources held) (round-new k) ∙ refill-feeds _ net.sources held

  all-new : (k : ℕ) → plus r.all (new (suc k)) ≡ refill (runs facts step tag net.places (pn_limits net.places) (later_by (suc k) ms) kids (plus r.all (new k))) net.sources start
  all-new k =
      ap (λ X. plus X (new (suc k))) r.fed ∙
      sym (refill-two (runs facts step tag net.places (pn_limits net.places) (later_by (suc k) ms) kids (plus r.all (new k))) (runs facts step tag net.places (pn_limits net.places) ms kids r.all) (flows facts step tag net.places (pn_limits net.places) (suc k) now (plus held (new k)))
      (runs-chain facts step tag (suc k) net.places ms kids r.all (skip_places net.places r.all) (new k) now held r.each r.fits r.made r.states r.left) net.sources start)

  -- it is within the solution from the start
  pub new-within : (k : ℕ) → Below (plus r.all (new k)) (round facts step tag net (pn_limits net.places) kids start (total ms + k))
  unfolding round
  new-within zero =
      let e : total ms ≡ total ms + 0 = omega arith in
      subst (λ n. Below (plus r.all []) (round facts step tag net (pn_limits net.places) kids start n)) e (subst (λ X. Below X (round facts step tag net (pn_limits net.places) kids start (total ms))) (sym (plus-nil r.all)) r.caused)
  new-within (suc k) =
      let e : suc (total ms + k) ≡ total ms + suc k = omega arith in
      let d : total ms + suc k ≡ suc (total ms + k) = omega arith in
      subst (λ n. Below (plus r.all (new (suc k))) (round facts step tag net (pn_limits net.places) kids start n)) e
      (subst (λ X. Below X (round facts step tag net (pn_limits net.places) kids start (suc (total ms + k)))) (sym (all-new k))
      (refill-below _ _ (runs-below facts step tag net.places (pn_limits net.places) (later_by (suc k) ms) kids (suc (total ms + k)) (plus r.all (new k)) (round facts step tag net (pn_limits net.places) kids start (total ms + k)) (later-length (suc k) ms ∙ r.each)
      (subst (λ n. WithinAll (pn_limits net.places) (later_by (suc k) ms) n) d (few-later (suc k) net.places ms (total ms) r.few)) (new-within k)) net.sources start))

  -- and it is all of it
  pub within-new : (k : ℕ) → Below (round facts step tag net (pn_limits net.places) kids start k) (plus r.all (new k))
  unfolding round
  within-new zero =
      subst (λ X. Below start X) (sym (plus-nil r.all)) (subst (λ X. Below start X) (sym r.fed) (below-refill (runs facts step tag net.places (pn_limits net.places) ms kids r.all) net.sources start))
  within-new (suc k) =
      subst (λ X. Below (round facts step tag net (pn_limits net.places) kids start (suc k)) X) (sym (all-new k))
      (refill-below _ _ (flows-runs facts step tag (suc k) net.places ms kids (round facts step tag net (pn_limits net.places) kids start k) (plus r.all (new k)) r.each (within-new k)) net.sources start)

  -- where a round from here is settled, nothing more is new
  settled-new : (k j : ℕ) → k ≤ j → settled facts step tag net (pn_limits net.places) now held k ≡ true → new (suc j) ≡ new (suc k)
  settled-new k j h e = at-later j h ∙ sym (at-later k (omega arith))
    where
      at-later : (j : ℕ) → k ≤ j → new (suc j) ≡ feeds (flows facts step tag net.places (pn_limits net.places) k now (round facts step tag net (pn_limits net.places) now held k)) net.sources
      at-later j h =
          ap (λ X. feeds (flows facts step tag net.places (pn_limits net.places) (suc j) now X) net.sources) (sym (round-new j) ∙ stays facts step step tag (grows-refl step) net (pn_limits net.places) now held k j h e) ∙
          ap (λ fs. feeds fs net.sources) (flows-rest facts step step tag (grows-refl step) net.places (pn_limits net.places) k (suc j) (omega arith) now _ (at-rest facts step step tag (grows-refl step) net (pn_limits net.places) now held k e))

  pub rest-is : (k : ℕ) → settled facts step tag net (pn_limits net.places) now held k ≡ true → (j : ℕ) → total ms + suc k ≤ j → round facts step tag net (pn_limits net.places) kids start j ≡ plus r.all (new (suc k))
  rest-is k e zero h = absurd (omega arith)
  rest-is k e (suc j) h =
      Below-antisym _ _ (subst (λ X. Below (round facts step tag net (pn_limits net.places) kids start (suc j)) (plus r.all X)) (settled-new k j (omega arith) e) (within-new (suc j)))
      (Below-trans _ _ _ (new-within (suc k)) (round-below facts step step tag (grows-refl step) net (pn_limits net.places) kids start (total ms + suc k) (suc j) h))

-- what a child has used of a channel, and what is left of it
module _ {T S : Type 0} (facts : Facts T S) (step : Stepping T S) (tag : Tag) where
  if_long-used : (b : Bool) (n : ℕ) (xs : List T) (X : Streams T) (f : Front T) (got left : Streams T) → ((g l : Streams T) → f ≡ Takes g l → (q : ℕ) → at X q ≡ at g q ++ at l q) → if_long b n xs f ≡ Takes got left → (q : ℕ) → at (xs ∷ X) q ≡ at got q ++ at left q
  if_long-used false n xs X f got left ih e q = absurd (cc)
  if_long-used true n xs X Lacks got left ih e q = absurd (cc)
  if_long-used true n xs X Ends got left ih e q = absurd (cc)
  if_long-used true n xs X (Takes g l) got left ih e zero = let a : got ≡ take n xs ∷ g = cc in let b : left ≡ drop n xs ∷ l = cc in rw (a, b) (sym (take-append-drop n xs))
  if_long-used true n xs X (Takes g l) got left ih e (suc q) = let a : got ≡ take n xs ∷ g = cc in let b : left ≡ drop n xs ∷ l = cc in rw (a, b) (ih g l refl q)

  counted-used : (ns : List ℕ) (X got left : Streams T) → counted ns X ≡ Takes got left → (q : ℕ) → at X q ≡ at got q ++ at left q
  counted-used [] [] got left e q = let a : got ≡ [] = cc in let b : left ≡ [] = cc in rw (a, b) refl
  counted-used [] (xs ∷ X) got left e q = absurd (cc)
  counted-used (n ∷ ns) [] got left e q = absurd (cc)
  counted-used (n ∷ ns) (xs ∷ X) got left e q = if_long-used (nat_le n (length xs)) n xs X (counted ns X) got left (counted-used ns X) e q

  front-used : (need : Need) (X got left : Streams T) → front need X ≡ Takes got left → (q : ℕ) → at X q ≡ at got q ++ at left q
  front-used Over X got left e q = absurd (cc)
  front-used (Counts ns) X got left e q = counted-used ns X got left e q
  front-used Any X got left e q = absurd (cc)

  on-used : (go : S → Streams T → Flow T S) → ((s : S) (X : Streams T) (q : ℕ) → (u : List T) × (at X q ≡ u ++ at (go s X).left q)) → (s : S) (X got left : Streams T) → ((q : ℕ) → at X q ≡ at got q ++ at left q) → (r : Outcome T S) (q : ℕ) →
      (u : List T) × (at X q ≡ u ++ at (on_outcome facts step tag go s X got left r).left q)
  on-used go ih s X got left h (Done z out l) q = let w = ih z left q in (at got q ++ w.0, h q ∙ ap (λ v. at got q ++ v) w.1 ∙ sym (append_assoc (at got q) w.0 (at (go z left).left q)))
  on-used go ih s X got left h (Stuck fs l) q = ([], refl)

  front_flow-used : (go : S → Streams T → Flow T S) → ((s : S) (X : Streams T) (q : ℕ) → (u : List T) × (at X q ≡ u ++ at (go s X).left q)) → (s : S) (X : Streams T) (f : Front T) → front (facts.need s) X ≡ f → (q : ℕ) →
      (u : List T) × (at X q ≡ u ++ at (on_front facts step tag go s X f).left q)
  front_flow-used go ih s X Lacks e q = ([], refl)
  front_flow-used go ih s X Ends e q = ([], refl)
  front_flow-used go ih s X (Takes got left) e q = on-used go ih s X got left (front-used (facts.need s) X got left e) (step tag s got) q

  flow-used : (n : ℕ) (s : S) (X : Streams T) (q : ℕ) → (u : List T) × (at X q ≡ u ++ at (flow facts step tag n s X).left q)
  unfolding flow
  flow-used zero s X q = ([], refl)
  flow-used (suc n) s X q = front_flow-used (flow facts step tag n) (flow-used n) s X (front (facts.need s) X) refl q

  at-first : (X Y : Streams T) (c : ℕ) → c < length X → at (X ++ Y) c ≡ at X c
  at-first [] Y c l = absurd (omega arith)
  at-first (x ∷ X) Y zero l = refl
  at-first (x ∷ X) Y (suc c) l = at-first X Y c (omega arith)

  at-second : (X Y : Streams T) (c : ℕ) → at (X ++ Y) (length X + c) ≡ at Y c
  at-second [] Y c = let e : 0 + c ≡ c = omega arith in ap (λ v. at Y v) e
  at-second (x ∷ X) Y c = let e : suc (length X) + c ≡ suc (length X + c) = omega arith in ap (λ v. at (x ∷ (X ++ Y)) v) e ∙ at-second X Y c

  at-taken : (n : ℕ) (X : Streams T) (c : ℕ) → c < n → at (take n X) c ≡ at X c
  at-taken zero X c l = absurd (omega arith)
  at-taken (suc n) [] c l = refl
  at-taken (suc n) (x ∷ X) zero l = refl
  at-taken (suc n) (x ∷ X) (suc c) l = at-taken n X c (omega arith)

  at-dropped : (n : ℕ) (X : Streams T) (c : ℕ) → at (drop n X) c ≡ at X (n + c)
  at-dropped zero X c = let e : c ≡ 0 + c = omega arith in ap (λ v. at X v) e
  at-dropped (suc n) [] c = refl
  at-dropped (suc n) (x ∷ X) c = let e : suc (n + c) ≡ suc n + c = omega arith in at-dropped n X c ∙ ap (λ v. at (x ∷ X) v) e

  runs-used : (ns ms : List ℕ) (ss : List S) (A : Streams T) → length ms ≡ length ns → Fits ns A → MadeAll ms (runs facts step tag ns (pn_limits ns) ms ss A) → (c : ℕ) →
      (u : List T) × (at A c ≡ u ++ at (left_by (runs facts step tag ns (pn_limits ns) ms ss A) ++ skip_places ns A) c)
  runs-used [] ms ss A e f h c = ([], refl)
  runs-used (n ∷ ns) [] ss A e f h c = absurd (omega arith)
  runs-used (n ∷ ns) (m ∷ ms) [] A e f h c = absurd h
  runs-used (n ∷ ns) (m ∷ ms) (s ∷ ss) A e f h c = by-part n ns m s A (left_by R) (skip_places ns (drop n A)) f.0 c (nat_lt c n) refl (λ d. runs-used ns ms ss (drop n A) (omega arith) f.1 h.1 d)
    where
      R : List (Flow T S)
      R = runs facts step tag ns (pn_limits ns) ms ss (drop n A)

      by-part : (n : ℕ) (ns : List ℕ) (m : ℕ) (s : S) (A L Y : Streams T) → n ≤ length A → (c : ℕ) (b : Bool) → nat_lt c n ≡ b → ((d : ℕ) → (u : List T) × (at (drop n A) d ≡ u ++ at (L ++ Y) d)) →
          (u : List T) × (at A c ≡ u ++ at (((flow facts step tag m s (take n A)).left ++ L) ++ Y) c)
      by-part n ns m s A L Y f c true e ih =
          let F : Streams T = (flow facts step tag m s (take n A)).left in
          let len : length F ≡ n = left-length facts step tag m s (take n A) ∙ length-take-le n A f in
          let w = flow-used m s (take n A) c in
          let l : c < n = ltb-true c n e in
          (w.0, sym (at-taken n A c l) ∙ w.1 ∙ ap (λ v. w.0 ++ v) (sym (at-first F (L ++ Y) c (omega (arith, l, len))) ∙ ap (λ X. at X c) (sym (append_assoc F L Y))))
      by-part n ns m s A L Y f c false e ih =
          let F : Streams T = (flow facts step tag m s (take n A)).left in
          let len : length F ≡ n = left-length facts step tag m s (take n A) ∙ length-take-le n A f in
          let l : n ≤ c = ltb-false c n e in
          let w = ih (c - n) in
          let x : n + (c - n) ≡ c = omega (arith, l) in
          let y : length F + (c - n) ≡ c = omega (arith, l, len) in
          (w.0, ap (λ v. at A v) (sym x) ∙ sym (at-dropped n A (c - n)) ∙ w.1 ∙ ap (λ v. w.0 ++ v) (sym (at-second F (L ++ Y) (c - n)) ∙ ap (λ v. at (F ++ (L ++ Y)) v) y ∙ ap (λ X. at X c) (sym (append_assoc F L Y))))

-- What a channel has had in all is what its receiver has used, and then what is there.
pub used-before : {T S : Type 0} (facts : Facts T S) (step : Stepping T S) (tag : Tag) (net : Net) (kids : List S) (start : Streams T) (ms : List ℕ) (now : List S) (held : Streams T) (r : Running facts step tag net (pn_limits net.places) kids start ms now held) (c : ℕ) →
    (u : List T) × (at r.all c ≡ u ++ at held c)
used-before facts step tag net kids start ms now held r c =
    let w = runs-used facts step tag net.places ms kids r.all r.each r.fits r.made c in (w.0, w.1 ∙ ap (λ X. w.0 ++ at X c) (sym r.left))
