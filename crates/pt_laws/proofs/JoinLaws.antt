-- A run on A, and then a run on B, are one run on A and B joined.
use Rattle.std.proofs.Common.{◌≡◌, ℕ, zero, suc, ◌≤◌, ◌+◌, List, [], ◌∷◌, ◌++◌, length, take, drop, refl, sym, ap, ap₂, subst, arith, ◌∙◌, append_assoc, append-nil, length-append, ◌-◌}
use Rattle.std.proofs.lemmas.List.{length-take-le, length-drop}
use Rattle.std.proofs.Math.Path.{fun_ext}
use Rattle.pt_meaning.specs.Basics.{Tag, Streams, IsPrefix, Below, Log, joined, at, log_then, own}
use Rattle.pt_meaning.specs.Machine.{Outcome, Done, Stuck, Stepping, Facts, Front, Lacks, Ends, Takes, front}
use Rattle.pt_meaning.specs.Flow.{Stop, Flow, flow, on_outcome, on_front, after_firing}
use Rattle.pt_meaning.specs.Rounds.{Source, Own, Output, Net, gave, fed, refill, flows, round}
use Rattle.pt_meaning.specs.Dataflow.{arrival, arrived, states_of, left_by, logs_of, skip_places, pn_limits}
use Rattle.pt_meaning.specs.Process.{emptied}
use Rattle.pt_meaning.specs.Running.{runs, total, MadeAll, WithinAll, Running, Fits, plus}
use Rattle.pt_laws.specs.CompositeRuns.{outlets_of}
use Rattle.pt_laws.specs.CutLaw.{sums, logs_joined, kept_of, RunsJoin}
use Rattle.pt_laws.proofs.Order.{IsPrefix-refl, IsPrefix-trans, IsPrefix-after, IsPrefix-append, Below-refl, Below-trans, at-joined}
use Rattle.pt_laws.proofs.RoundLaws.{FlowsBelow, flows-below, fed-below, refill-below, grows-refl, round-below}
use Rattle.pt_laws.proofs.RunLaws.{plus-take, plus-drop, plus-nil, plus-length, flow-longer, left-length, runs-below, take-left, drop-left, head-is, tail-is, left-total, fits-plus}
use Rattle.pt_laws.proofs.CompositeLaws.{first-part, second-part}
use Rattle.pt_laws.proofs.Indexed.{drop-more}

-- the outputs of one after those of another
pub joined-assoc : {T : Type 0} (X Y Z : Streams T) → joined X (joined Y Z) ≡ joined (joined X Y) Z
joined-assoc [] Y Z = refl
joined-assoc (x ∷ X) [] Z = refl
joined-assoc (x ∷ X) (y ∷ Y) [] = refl
joined-assoc (x ∷ X) (y ∷ Y) (z ∷ Z) = ap₂ (λ a b. a ∷ b) (sym (append_assoc x y z)) (joined-assoc X Y Z)

pub log-assoc : {T : Type 0} (l m n : Log T) → log_then l (log_then m n) ≡ log_then (log_then l m) n
log-assoc l m n = fun_ext (λ p. sym (append_assoc (l p) (m p) (n p)))

-- one flow, and then another from where it stopped
abbrev pub chained : {T S : Type 0} → Flow T S → Flow T S → Flow T S
chained f g = record { outputs = joined f.outputs g.outputs; state = g.state; left = g.left; fired = f.fired + g.fired; log = log_then f.log g.log; stop = g.stop }

chained-after : {T S : Type 0} (out : Streams T) (l : Log T) (f g : Flow T S) → after_firing out l (chained f g) ≡ chained (after_firing out l f) g
chained-after {T} {S} out l f g =
    let made : suc (f.fired + g.fired) ≡ suc f.fired + g.fired = omega arith in
    ap (λ (v : Streams T). let r : Flow T S = record { outputs = v; state = g.state; left = g.left; fired = suc (f.fired + g.fired); log = log_then l (log_then f.log g.log); stop = g.stop } in r) (joined-assoc out f.outputs g.outputs) ∙
    ap (λ (v : Log T). let r : Flow T S = record { outputs = joined (joined out f.outputs) g.outputs; state = g.state; left = g.left; fired = suc (f.fired + g.fired); log = v; stop = g.stop } in r) (log-assoc l f.log g.log) ∙
    ap (λ (v : ℕ). let r : Flow T S = record { outputs = joined (joined out f.outputs) g.outputs; state = g.state; left = g.left; fired = v; log = log_then (log_then l f.log) g.log; stop = g.stop } in r) made

chained-nothing : {T S : Type 0} (s : S) (X : Streams T) (stop : Stop) (g : Flow T S) → g ≡ chained (record { outputs = []; state = s; left = X; fired = 0; log = λ p. []; stop = stop }) g
chained-nothing {T} {S} s X stop g =
    let made : g.fired ≡ 0 + g.fired = omega arith in ap (λ (v : ℕ). let r : Flow T S = record { outputs = g.outputs; state = g.state; left = g.left; fired = v; log = g.log; stop = g.stop } in r) made

module _ {T S : Type 0} (facts : Facts T S) (step : Stepping T S) (tag : Tag) where
  on-chained : (m n : ℕ) (go far : S → Streams T → Flow T S) → ((s : S) (X : Streams T) → (go s X).fired ≡ m → far s X ≡ chained (go s X) (flow facts step tag n (go s X).state (go s X).left)) → (s : S) (X got left : Streams T) (r : Outcome T S) →
      (on_outcome facts step tag go s X got left r).fired ≡ suc m →
      on_outcome facts step tag far s X got left r ≡ chained (on_outcome facts step tag go s X got left r) (flow facts step tag n (on_outcome facts step tag go s X got left r).state (on_outcome facts step tag go s X got left r).left)
  on-chained m n go far ih s X got left (Done z out l) e =
      let L : Log T = log_then l (own (record { number = facts.made s; tag = tag; inputs = got; outputs = out })) in
      ap (λ v. after_firing out L v) (ih z left (omega arith)) ∙ chained-after out L (go z left) (flow facts step tag n (go z left).state (go z left).left)
  on-chained m n go far ih s X got left (Stuck fs l) e = absurd (omega arith)

  front-chained : (m n : ℕ) (go far : S → Streams T → Flow T S) → ((s : S) (X : Streams T) → (go s X).fired ≡ m → far s X ≡ chained (go s X) (flow facts step tag n (go s X).state (go s X).left)) → (s : S) (X : Streams T) (f : Front T) →
      (on_front facts step tag go s X f).fired ≡ suc m → on_front facts step tag far s X f ≡ chained (on_front facts step tag go s X f) (flow facts step tag n (on_front facts step tag go s X f).state (on_front facts step tag go s X f).left)
  front-chained m n go far ih s X Lacks e = absurd (omega arith)
  front-chained m n go far ih s X Ends e = absurd (omega arith)
  front-chained m n go far ih s X (Takes got left) e = on-chained m n go far ih s X got left (step tag s got) e

  pub flow-chained : (m n : ℕ) (s : S) (X : Streams T) → (flow facts step tag m s X).fired ≡ m → flow facts step tag (m + n) s X ≡ chained (flow facts step tag m s X) (flow facts step tag n (flow facts step tag m s X).state (flow facts step tag m s X).left)
  unfolding flow
  flow-chained zero n s X e = let a : 0 + n ≡ n = omega arith in ap (λ v. flow facts step tag v s X) a ∙ chained-nothing s X Stop.Capped (flow facts step tag n s X)
  flow-chained (suc m) n s X e =
      let a : suc m + n ≡ suc (m + n) = omega arith in
      ap (λ v. flow facts step tag v s X) a ∙ front-chained m n (flow facts step tag m) (flow facts step tag (m + n)) (flow-chained m n) s X (front (facts.need s) X) e

  pub flow-longer-chained : (m n : ℕ) (s : S) (X E : Streams T) → (flow facts step tag m s X).fired ≡ m → flow facts step tag (m + n) s (plus X E) ≡ chained (flow facts step tag m s X) (flow facts step tag n (flow facts step tag m s X).state (plus (flow facts step tag m s X).left E))
  flow-longer-chained m n s X E e =
      let l = flow-longer facts step tag m s X E e in
      flow-chained m n s (plus X E) (ap (λ f. f.fired) l ∙ e) ∙ ap (λ f. chained f (flow facts step tag n f.state f.left)) l

-- child by child
abbrev pub zips : {T S : Type 0} → List (Flow T S) → List (Flow T S) → List (Flow T S)
zips [] gs = []
zips (f ∷ fs) [] = []
zips (f ∷ fs) (g ∷ gs) = chained f g ∷ zips fs gs

module _ {T S : Type 0} (facts : Facts T S) (step : Stepping T S) (tag : Tag) where
  -- so many firings on what there is, and then more on what is left with what is new
  pub runs-joined : (ns ms js : List ℕ) (ss now : List S) (A X W G : Streams T) → length ms ≡ length ns → length js ≡ length ns → Fits ns A → MadeAll ms (runs facts step tag ns (pn_limits ns) ms ss A) → now ≡ states_of (runs facts step tag ns (pn_limits ns) ms ss A) →
      X ≡ left_by (runs facts step tag ns (pn_limits ns) ms ss A) ++ W → runs facts step tag ns (pn_limits ns) (sums ms js) ss (plus A G) ≡ zips (runs facts step tag ns (pn_limits ns) ms ss A) (runs facts step tag ns (pn_limits ns) js now (plus X G))
  runs-joined [] ms js ss now A X W G a b f h st lf = refl
  runs-joined (n ∷ ns) [] js ss now A X W G a b f h st lf = absurd (omega arith)
  runs-joined (n ∷ ns) (m ∷ ms) [] ss now A X W G a b f h st lf = absurd (omega arith)
  runs-joined (n ∷ ns) (m ∷ ms) (j ∷ js) [] now A X W G a b f h st lf = absurd h
  runs-joined (n ∷ ns) (m ∷ ms) (j ∷ js) (s ∷ ss) [] A X W G a b f h st lf = absurd (cc)
  runs-joined (n ∷ ns) (m ∷ ms) (j ∷ js) (s ∷ ss) (z ∷ now) A X W G a b f h st lf =
      let F = flow facts step tag m s (take n A) in
      let R = runs facts step tag ns (pn_limits ns) ms ss (drop n A) in
      let len : length F.left ≡ n = left-length facts step tag m s (take n A) ∙ length-take-le n A f.0 in
      let tk : take n X ≡ F.left = take-left facts step tag n F.left (left_by R) W X len lf in
      let zs : z ≡ F.state = head-is facts step tag z F.state now (states_of R) st in
      ap₂ (λ x y. x ∷ y)
      (ap (λ Y. flow facts step tag (m + j) s Y) (plus-take n A G) ∙ flow-longer-chained facts step tag m j s (take n A) (take n G) h.0 ∙
      ap (λ v. chained F (flow facts step tag j v (plus F.left (take n G)))) (sym zs) ∙ ap (λ Y. chained F (flow facts step tag j z (plus Y (take n G)))) (sym tk) ∙ ap (λ Y. chained F (flow facts step tag j z Y)) (sym (plus-take n X G)))
      (ap (λ Y. runs facts step tag ns (pn_limits ns) (sums ms js) ss Y) (plus-drop n A G) ∙
      runs-joined ns ms js ss now (drop n A) (drop n X) W (drop n G) (omega arith) (omega arith) f.1 h.1 (tail-is facts step tag z F.state now (states_of R) st) (drop-left facts step tag n F.left (left_by R) W X len lf) ∙
      ap (λ Y. zips R (runs facts step tag ns (pn_limits ns) js now Y)) (sym (plus-drop n X G)))

  -- the stream functions at round k as runs of k firings each
  abbrev pub each_of : ℕ → List ℕ → List ℕ
  each_of k [] = []
  each_of k (n ∷ ns) = k ∷ each_of k ns

  pub flows-runs : (k : ℕ) (ns : List ℕ) (ss : List S) (X : Streams T) → flows facts step tag ns (pn_limits ns) k ss X ≡ runs facts step tag ns (pn_limits ns) (each_of k ns) ss X
  flows-runs k [] ss X = refl
  flows-runs k (n ∷ ns) [] X = refl
  flows-runs k (n ∷ ns) (s ∷ ss) X = ap (λ v. flow facts step tag k s (take n X) ∷ v) (flows-runs k ns ss (drop n X))

  pub each-length : (k : ℕ) (ns : List ℕ) → length (each_of k ns) ≡ length ns
  each-length k [] = refl
  each-length k (n ∷ ns) = ap (λ v. suc v) (each-length k ns)

  pub sums-length : (ns ms js : List ℕ) → length ms ≡ length ns → length js ≡ length ns → length (sums ms js) ≡ length ns
  sums-length [] [] js a b = refl
  sums-length [] (m ∷ ms) js a b = absurd (omega arith)
  sums-length (n ∷ ns) [] js a b = absurd (omega arith)
  sums-length (n ∷ ns) (m ∷ ms) [] a b = absurd (omega arith)
  sums-length (n ∷ ns) (m ∷ ms) (j ∷ js) a b = ap (λ v. suc v) (sums-length ns ms js (omega arith) (omega arith))

  pub sums-total : (ns ms js : List ℕ) → length ms ≡ length ns → length js ≡ length ns → total (sums ms js) ≡ total ms + total js
  sums-total [] [] [] a b = omega arith
  sums-total [] [] (j ∷ js) a b = absurd (omega arith)
  sums-total [] (m ∷ ms) js a b = absurd (omega arith)
  sums-total (n ∷ ns) [] js a b = absurd (omega arith)
  sums-total (n ∷ ns) (m ∷ ms) [] a b = absurd (omega arith)
  sums-total (n ∷ ns) (m ∷ ms) (j ∷ js) a b = let h = sums-total ns ms js (omega arith) (omega arith) in omega (arith, h)

  few-sums : (ns ms js : List ℕ) (a b : ℕ) → WithinAll (pn_limits ns) ms a → WithinAll (pn_limits ns) js b → WithinAll (pn_limits ns) (sums ms js) (a + b)
  few-sums ns [] js a b x y = tt
  few-sums [] (m ∷ ms) js a b x y = absurd x
  few-sums (n ∷ ns) (m ∷ ms) [] a b x y = tt
  few-sums (n ∷ ns) (m ∷ ms) (j ∷ js) a b x y = let p = x.0 in let q = y.0 in (omega (arith, p, q), few-sums ns ms js a b x.1 y.1)

  few-each : (ns ms : List ℕ) (k a : ℕ) → WithinAll (pn_limits ns) ms a → WithinAll (pn_limits ns) (sums ms (each_of k ns)) (a + k)
  few-each ns [] k a x = tt
  few-each [] (m ∷ ms) k a x = absurd x
  few-each (n ∷ ns) (m ∷ ms) k a x = let p = x.0 in (omega (arith, p), few-each ns ms k a x.1)

-- what two lists of flows, one after the other, give, leave and come to
zips-gave : {T S : Type 0} (fs gs : List (Flow T S)) → length fs ≡ length gs → (i p : ℕ) → gave (zips fs gs) i p ≡ gave fs i p ++ gave gs i p
zips-gave [] [] e i p = refl
zips-gave [] (g ∷ gs) e i p = absurd (omega arith)
zips-gave (f ∷ fs) [] e i p = absurd (omega arith)
zips-gave (f ∷ fs) (g ∷ gs) e zero p = at-joined f.outputs g.outputs p
zips-gave (f ∷ fs) (g ∷ gs) e (suc i) p = zips-gave fs gs (omega arith) i p

zips-fed : {T S : Type 0} (fs gs : List (Flow T S)) → length fs ≡ length gs → (c : Source) → fed (zips fs gs) c ≡ fed fs c ++ fed gs c
zips-fed fs gs e (Own p) = refl
zips-fed fs gs e (Output i p) = zips-gave fs gs e i p

zips-states : {T S : Type 0} (fs gs : List (Flow T S)) → length fs ≡ length gs → states_of (zips fs gs) ≡ states_of gs
zips-states [] [] e = refl
zips-states [] (g ∷ gs) e = absurd (omega arith)
zips-states (f ∷ fs) [] e = absurd (omega arith)
zips-states (f ∷ fs) (g ∷ gs) e = ap (λ v. g.state ∷ v) (zips-states fs gs (omega arith))

zips-left : {T S : Type 0} (fs gs : List (Flow T S)) → length fs ≡ length gs → left_by (zips fs gs) ≡ left_by gs
zips-left [] [] e = refl
zips-left [] (g ∷ gs) e = absurd (omega arith)
zips-left (f ∷ fs) [] e = absurd (omega arith)
zips-left (f ∷ fs) (g ∷ gs) e = ap (λ v. g.left ++ v) (zips-left fs gs (omega arith))

zips-logs : {T S : Type 0} (fs gs : List (Flow T S)) → length fs ≡ length gs → logs_of (zips fs gs) ≡ logs_joined (logs_of fs) (logs_of gs)
zips-logs [] [] e = refl
zips-logs [] (g ∷ gs) e = absurd (omega arith)
zips-logs (f ∷ fs) [] e = absurd (omega arith)
zips-logs (f ∷ fs) (g ∷ gs) e = ap (λ v. log_then f.log g.log ∷ v) (zips-logs fs gs (omega arith))

zips-made : {T S : Type 0} (ms js : List ℕ) (fs gs : List (Flow T S)) → MadeAll ms fs → MadeAll js gs → length fs ≡ length gs → MadeAll (sums ms js) (zips fs gs)
zips-made [] js [] gs x y e = tt
zips-made [] js (f ∷ fs) gs x y e = absurd x
zips-made (m ∷ ms) js [] gs x y e = absurd x
zips-made (m ∷ ms) js (f ∷ fs) [] x y e = absurd (omega arith)
zips-made (m ∷ ms) [] (f ∷ fs) (g ∷ gs) x y e = absurd y
zips-made (m ∷ ms) (j ∷ js) (f ∷ fs) (g ∷ gs) x y e = (ap₂ (λ a b. a + b) x.0 y.0, zips-made ms js fs gs x.1 y.1 (omega arith))

-- what inputs and flows add to the channels
abbrev pub gains : {T S : Type 0} → List (Flow T S) → Streams T → List Source → Streams T
gains fs B [] = []
gains fs B (c ∷ cs) = (arrival c B ++ fed fs c) ∷ gains fs B cs

gained : {T S : Type 0} (fs : List (Flow T S)) (cs : List Source) (B X : Streams T) → refill fs cs (arrived cs B X) ≡ plus X (gains fs B cs)
gained fs [] B X = sym (plus-nil X)
gained fs (c ∷ cs) B [] = refl
gained fs (c ∷ cs) B (x ∷ X) = ap₂ (λ a b. a ∷ b) (append_assoc x (arrival c B) (fed fs c)) (gained fs cs B X)

-- what inputs alone add
abbrev pub fresh : {T : Type 0} → Streams T → List Source → Streams T
fresh B [] = []
fresh B (c ∷ cs) = arrival c B ∷ fresh B cs

arrived-fresh : {T : Type 0} (cs : List Source) (B X : Streams T) → arrived cs B X ≡ plus X (fresh B cs)
arrived-fresh [] B X = sym (plus-nil X)
arrived-fresh (c ∷ cs) B [] = refl
arrived-fresh (c ∷ cs) B (x ∷ X) = ap (λ v. (x ++ arrival c B) ∷ v) (arrived-fresh cs B X)

-- channel by channel: both inputs and both flows, one after the other
both-gain : {T S : Type 0} (fs gs hs : List (Flow T S)) → ((c : Source) → fed hs c ≡ fed fs c ++ fed gs c) → (cs : List Source) (A B X : Streams T) → refill hs cs (arrived cs (joined A B) X) ≡ plus (refill fs cs (arrived cs A X)) (gains gs B cs)
both-gain fs gs hs h [] A B X = sym (plus-nil X)
both-gain fs gs hs h (c ∷ cs) A B [] = refl
both-gain {T} {S} fs gs hs h (c ∷ cs) A B (x ∷ X) = ap₂ (λ a b. a ∷ b) (ap (λ v. (x ++ arrival c (joined A B)) ++ v) (h c) ∙ one c x) (both-gain fs gs hs h cs A B X)
  where
    one : (c : Source) (x : List T) → (x ++ arrival c (joined A B)) ++ (fed fs c ++ fed gs c) ≡ ((x ++ arrival c A) ++ fed fs c) ++ (arrival c B ++ fed gs c)
    one (Own p) x = append-nil (x ++ at (joined A B) p) ∙ ap (λ v. x ++ v) (at-joined A B p) ∙ sym (append_assoc x (at A p) (at B p)) ∙ ap₂ (λ a b. a ++ b) (sym (append-nil (x ++ at A p))) (sym (append-nil (at B p)))
    one (Output i p) x = sym (append_assoc (x ++ []) (gave fs i p) (gave gs i p))

-- more inputs: the channels from own inputs have more, and the others the same
abbrev pub MoreInputs : {T : Type 0} → List Source → Streams T → Streams T → Type 0
MoreInputs [] X Y = X ≡ Y
MoreInputs (c ∷ cs) [] [] = Unit {0}
MoreInputs (Own p ∷ cs) (x ∷ X) (y ∷ Y) = IsPrefix x y × MoreInputs cs X Y
MoreInputs (Output i p ∷ cs) (x ∷ X) (y ∷ Y) = (x ≡ y) × MoreInputs cs X Y
MoreInputs (c ∷ cs) [] (y ∷ Y) = ⊥
MoreInputs (c ∷ cs) (x ∷ X) [] = ⊥

more-inputs : {T : Type 0} (cs : List Source) (A B X : Streams T) → MoreInputs cs (arrived cs A X) (arrived cs (joined A B) X)
more-inputs [] A B X = refl
more-inputs (Own p ∷ cs) A B [] = tt
more-inputs (Output i p ∷ cs) A B [] = tt
more-inputs (Own p ∷ cs) A B (x ∷ X) = (subst (λ v. IsPrefix (x ++ at A p) (x ++ v)) (sym (at-joined A B p)) (IsPrefix-after x (at A p) (at A p ++ at B p) (IsPrefix-append (at A p) (at B p))), more-inputs cs A B X)
more-inputs (Output i p ∷ cs) A B (x ∷ X) = (refl, more-inputs cs A B X)

-- rounds grow with the inputs
refill-inputs : {T S : Type 0} (fs gs : List (Flow T S)) → FlowsBelow fs gs → (cs : List Source) (X Y : Streams T) → MoreInputs cs X Y → Below (refill fs cs X) (refill gs cs Y)
refill-inputs fs gs h [] X Y m = subst (λ Z. Below X Z) m (Below-refl X)
refill-inputs fs gs h (c ∷ cs) [] [] m = tt
refill-inputs fs gs h (Own p ∷ cs) (x ∷ X) (y ∷ Y) m = (subst (λ v. IsPrefix v (y ++ [])) (sym (append-nil x)) (IsPrefix-trans x y (y ++ []) m.0 (IsPrefix-append y [])), refill-inputs fs gs h cs X Y m.1)
refill-inputs fs gs h (Output i p ∷ cs) (x ∷ X) (y ∷ Y) m = (subst (λ v. IsPrefix (x ++ gave fs i p) (v ++ gave gs i p)) m.0 (IsPrefix-after x (gave fs i p) (gave gs i p) (fed-below fs gs h (Output i p))), refill-inputs fs gs h cs X Y m.1)
refill-inputs {T} {S} fs gs h (c ∷ cs) [] (y ∷ Y) m = absurd (no c m)
  where
    no : (c : Source) → MoreInputs {T = T} (c ∷ cs) [] (y ∷ Y) → ⊥
    no (Own p) m = m
    no (Output i p) m = m
refill-inputs {T} {S} fs gs h (c ∷ cs) (x ∷ X) [] m = absurd (no c m)
  where
    no : (c : Source) → MoreInputs {T = T} (c ∷ cs) (x ∷ X) [] → ⊥
    no (Own p) m = m
    no (Output i p) m = m

-- the same flows on more inputs are below what is above both
refill-below-both : {T S : Type 0} (fs : List (Flow T S)) (cs : List Source) (A B X Z : Streams T) → Below (refill fs cs (arrived cs A X)) Z → Below (arrived cs (joined A B) X) Z → Below (plus (refill fs cs (arrived cs A X)) (fresh B cs)) Z
refill-below-both fs [] A B X Z a b = subst (λ Y. Below Y Z) (sym (plus-nil X)) a
refill-below-both fs (c ∷ cs) A B [] Z a b = a
refill-below-both fs (c ∷ cs) A B (x ∷ X) [] a b = absurd a
refill-below-both fs (Own p ∷ cs) A B (x ∷ X) (z ∷ Z) a b = (
  subst (λ v. IsPrefix v z) (ap (λ v. x ++ v) (at-joined A B p) ∙ sym (append_assoc x (at A p) (at B p)) ∙ ap (λ v. v ++ at B p) (sym (append-nil (x ++ at A p)))) b.0,
  refill-below-both fs cs A B X Z a.1 b.1,
)
refill-below-both fs (Output i p ∷ cs) A B (x ∷ X) (z ∷ Z) a b = (subst (λ v. IsPrefix v z) (sym (append-nil ((x ++ []) ++ gave fs i p))) a.0, refill-below-both fs cs A B X Z a.1 b.1)

-- below as to what is added
plus-below : {T : Type 0} (A X E G : Streams T) → length A ≡ length X → Below (plus X E) (plus X G) → Below (plus A E) (plus A G)
plus-below [] [] E G e h = tt
plus-below [] (x ∷ X) E G e h = absurd (omega arith)
plus-below (a ∷ A) [] E G e h = absurd (omega arith)
plus-below (a ∷ A) (x ∷ X) [] [] e h = Below-refl (a ∷ A)
plus-below (a ∷ A) (x ∷ X) [] (g ∷ G) e h = (IsPrefix-append a g, subst (λ v. Below v (plus A G)) (plus-nil A) (plus-below A X [] G (omega arith) (subst (λ v. Below v (plus X G)) (sym (plus-nil X)) h.1)))
plus-below (a ∷ A) (x ∷ X) (b ∷ E) [] e h = (cut a x b h.0, subst (λ v. Below (plus A E) v) (plus-nil A) (plus-below A X E [] (omega arith) (subst (λ v. Below (plus X E) v) (sym (plus-nil X)) h.1)))
  where
    none : {B : Type 0} (xs ys : List B) → IsPrefix (xs ++ ys) xs → ys ≡ []
    none [] [] p = refl
    none [] (y ∷ ys) p = absurd p
    none (x ∷ xs) ys p = none xs ys p.1

    cut : {B : Type 0} (a x b : List B) → IsPrefix (x ++ b) x → IsPrefix (a ++ b) a
    cut a x b p = subst (λ v. IsPrefix (a ++ v) a) (sym (none x b p)) (subst (λ v. IsPrefix v a) (sym (append-nil a)) (IsPrefix-refl a))
plus-below (a ∷ A) (x ∷ X) (b ∷ E) (g ∷ G) e h = (IsPrefix-after a b g (uncut x b g h.0), plus-below A X E G (omega arith) h.1)
  where
    uncut : {B : Type 0} (x b g : List B) → IsPrefix (x ++ b) (x ++ g) → IsPrefix b g
    uncut [] b g p = p
    uncut (y ∷ x) b g p = uncut x b g p.1

emptied-length : {T : Type 0} (X : Streams T) → length (emptied X) ≡ length X
emptied-length [] = refl
emptied-length (x ∷ X) = ap (λ v. suc v) (emptied-length X)

runs-length : {T S : Type 0} (facts : Facts T S) (step : Stepping T S) (tag : Tag) (ns ms : List ℕ) (ss : List S) (X : Streams T) → length ms ≡ length ns → length ss ≡ length ns → length (runs facts step tag ns (pn_limits ns) ms ss X) ≡ length ns
runs-length facts step tag [] ms ss X a b = refl
runs-length facts step tag (n ∷ ns) [] ss X a b = absurd (omega arith)
runs-length facts step tag (n ∷ ns) (m ∷ ms) [] X a b = absurd (omega arith)
runs-length facts step tag (n ∷ ns) (m ∷ ms) (s ∷ ss) X a b = ap (λ v. suc v) (runs-length facts step tag ns ms ss (drop n X) (omega arith) (omega arith))

pub made-length : {T S : Type 0} (ms : List ℕ) (fs : List (Flow T S)) → MadeAll ms fs → length fs ≡ length ms
made-length [] [] h = refl
made-length [] (f ∷ fs) h = absurd h
made-length (m ∷ ms) [] h = absurd h
made-length (m ∷ ms) (f ∷ fs) h = ap (λ v. suc v) (made-length ms fs h.1)

states-length : {T S : Type 0} (fs : List (Flow T S)) → length (states_of fs) ≡ length fs
states-length [] = refl
states-length (f ∷ fs) = ap (λ v. suc v) (states-length fs)

module _ {T S : Type 0} (facts : Facts T S) (step : Stepping T S) (tag : Tag) (net : Net) (kids : List S) (X A B : Streams T) (ms : List ℕ) (now : List S) (held : Streams T) (r : Running facts step tag net (pn_limits net.places) kids (arrived net.sources A X) ms now held) where
  first : List (Flow T S)
  first = runs facts step tag net.places (pn_limits net.places) ms kids r.all

  -- the rounds on A, on B from what was kept, and on both
  on_A : ℕ → Streams T
  on_A k = round facts step tag net (pn_limits net.places) kids (arrived net.sources A X) k

  on_B : ℕ → Streams T
  on_B k = round facts step tag net (pn_limits net.places) now (arrived net.sources B (kept_of net held)) k

  on_both : ℕ → Streams T
  on_both k = round facts step tag net (pn_limits net.places) kids (arrived net.sources (joined A B) X) k

  left-of-first : length (left_by first) ≡ total net.places
  unfolding first
  left-of-first = left-total facts step tag net.places (pn_limits net.places) ms kids r.all r.each r.fits r.made

  kept-is : kept_of net held ≡ left_by first ++ emptied (outlets_of net held)
  unfolding first
  kept-is = ap (λ Y. Y ++ emptied (outlets_of net held)) (first-part (total net.places) (left_by first) (skip_places net.places r.all) held r.left left-of-first)

  A-below-both : (k : ℕ) → Below (on_A k) (on_both k)
  unfolding on_A on_both round
  A-below-both zero = start net.sources X
    where
      start : (cs : List Source) (X : Streams T) → Below (arrived cs A X) (arrived cs (joined A B) X)
      start [] X = Below-refl X
      start (c ∷ cs) [] = tt
      start (c ∷ cs) (x ∷ X) = (IsPrefix-after x (arrival c A) (arrival c (joined A B)) (one c), start cs X)
        where
          one : (c : Source) → IsPrefix (arrival c A) (arrival c (joined A B))
          one (Own p) = subst (λ v. IsPrefix (at A p) v) (sym (at-joined A B p)) (IsPrefix-append (at A p) (at B p))
          one (Output i p) = tt
  A-below-both (suc k) =
      refill-inputs _ _ (flows-below facts step step tag (grows-refl step) net.places (pn_limits net.places) (suc k) (suc k) (omega arith) kids (on_A k) (on_both k) (A-below-both k)) net.sources (arrived net.sources A X) (arrived net.sources (joined A B) X) (more-inputs net.sources A B X)

  -- what a round on B adds to what was kept
  gains_at : ℕ → Streams T
  gains_at zero = fresh B net.sources
  gains_at (suc k) = gains (flows facts step tag net.places (pn_limits net.places) (suc k) now (on_B k)) B net.sources

  round-gains : (k : ℕ) → on_B k ≡ plus (kept_of net held) (gains_at k)
  unfolding on_B gains_at round
  round-gains zero = arrived-fresh net.sources B (kept_of net held)
  round-gains (suc k) = gained (flows facts step tag net.places (pn_limits net.places) (suc k) now (on_B k)) net.sources B (kept_of net held)

  first-length : (gs : List (Flow T S)) → length gs ≡ length net.places → length first ≡ length gs
  unfolding first
  first-length gs e = made-length ms first r.made ∙ r.each ∙ sym e

  pub now-length : length now ≡ length net.places
  unfolding first
  now-length = ap (λ v. length v) r.states ∙ states-length first ∙ made-length ms first r.made ∙ r.each

  -- so many firings of each, and then gs
  joined-gains : (gs : List (Flow T S)) → length gs ≡ length net.places → plus r.all (gains gs B net.sources) ≡ refill (zips first gs) net.sources (arrived net.sources (joined A B) X)
  unfolding first
  joined-gains gs e = ap (λ Y. plus Y (gains gs B net.sources)) r.fed ∙ sym (both-gain first gs (zips first gs) (zips-fed first gs (first-length gs e)) net.sources A B X)

  -- the rounds on both have what the first run had, and what the rounds on B add
  both-has : (k : ℕ) → Below (plus r.all (gains_at k)) (on_both (total ms + k))
  unfolding gains_at on_both on_A on_B first round
  both-has zero =
      let e : total ms ≡ total ms + 0 = omega arith in
      subst (λ n. Below (plus r.all (fresh B net.sources)) (on_both n)) e
      (subst (λ Y. Below (plus Y (fresh B net.sources)) (on_both (total ms))) (sym r.fed)
      (refill-below-both first net.sources A B X (on_both (total ms)) (subst (λ Y. Below Y (on_both (total ms))) r.fed (Below-trans _ _ _ r.caused (A-below-both (total ms)))) (round-below facts step step tag (grows-refl step) net (pn_limits net.places) kids (arrived net.sources (joined A B) X) 0 (total ms) (omega arith))))
  both-has (suc k) =
      let gs : List (Flow T S) = flows facts step tag net.places (pn_limits net.places) (suc k) now (on_B k) in
      let es : List ℕ = each_of facts step tag (suc k) net.places in
      let count : length es ≡ length net.places = each-length facts step tag (suc k) net.places in
      let here : gs ≡ runs facts step tag net.places (pn_limits net.places) es now (plus (kept_of net held) (gains_at k)) = flows-runs facts step tag (suc k) net.places now (on_B k) ∙ ap (λ Y. runs facts step tag net.places (pn_limits net.places) es now Y) (round-gains k) in
      let wide : length gs ≡ length net.places = ap (λ v. length v) here ∙ runs-length facts step tag net.places es now (plus (kept_of net held) (gains_at k)) count now-length in
      let both : zips first gs ≡ runs facts step tag net.places (pn_limits net.places) (sums ms es) kids (plus r.all (gains_at k)) =
      ap (λ v. zips first v) here ∙ sym (runs-joined facts step tag net.places ms es kids now r.all (kept_of net held) (emptied (outlets_of net held)) (gains_at k) r.each count r.fits r.made r.states kept-is)
      in
      let e : suc (total ms + k) ≡ total ms + suc k = omega arith in
      let d : total ms + suc k ≡ suc (total ms + k) = omega arith in
      subst (λ n. Below (plus r.all (gains_at (suc k))) (on_both n)) e
      (subst (λ Y. Below Y (on_both (suc (total ms + k)))) (sym (joined-gains gs wide))
      (subst (λ fs. Below (refill fs net.sources (arrived net.sources (joined A B) X)) (on_both (suc (total ms + k)))) (sym both)
      (refill-below _ _ (runs-below facts step tag net.places (pn_limits net.places) (sums ms es) kids (suc (total ms + k)) (plus r.all (gains_at k)) (on_both (total ms + k)) (sums-length facts step tag net.places ms es r.each count)
      (subst (λ n. WithinAll (pn_limits net.places) (sums ms es) n) d (few-each facts step tag net.places ms (suc k) (total ms) r.few)) (both-has k)) net.sources (arrived net.sources (joined A B) X))))

  -- the second run
  module _ (js : List ℕ) (later : List S) (after : Streams T) (q : Running facts step tag net (pn_limits net.places) now (arrived net.sources B (kept_of net held)) js later after) where
    second : List (Flow T S)
    second = runs facts step tag net.places (pn_limits net.places) js now q.all

    second-wide : length second ≡ length net.places
    unfolding second
    second-wide = made-length js second q.made ∙ q.each

    more : Streams T
    more = gains second B net.sources

    second-all : q.all ≡ plus (kept_of net held) more
    unfolding second more
    second-all = q.fed ∙ gained second net.sources B (kept_of net held)

    total-all : Streams T
    total-all = plus r.all more

    joined-runs : runs facts step tag net.places (pn_limits net.places) (sums ms js) kids total-all ≡ zips first second
    unfolding first second total-all
    joined-runs =
        runs-joined facts step tag net.places ms js kids now r.all (kept_of net held) (emptied (outlets_of net held)) more r.each q.each r.fits r.made r.states kept-is ∙
        ap (λ Y. zips first (runs facts step tag net.places (pn_limits net.places) js now Y)) (sym second-all)

    same-long : length first ≡ length second
    same-long = first-length second second-wide

    skip-drop : (ns : List ℕ) (Y : Streams T) → skip_places ns Y ≡ drop (total ns) Y
    skip-drop [] Y = refl
    skip-drop (n ∷ ns) Y = skip-drop ns (drop n Y) ∙ sym (drop-more n (total ns) Y)

    -- the own outputs of both
    outlets-join : (O E : Streams T) → joined O (plus (emptied O) E) ≡ plus O E
    outlets-join [] E = refl
    outlets-join (o ∷ O) [] = ap₂ (λ a b. a ∷ b) (append-nil o) (tail O)
      where
        tail : (O : Streams T) → joined O (emptied O) ≡ O
        tail [] = refl
        tail (o ∷ O) = ap₂ (λ a b. a ∷ b) (append-nil o) (tail O)
    outlets-join (o ∷ O) (e ∷ E) = ap (λ v. (o ++ e) ∷ v) (outlets-join O E)

    held-first : outlets_of net held ≡ skip_places net.places r.all
    unfolding first
    held-first = second-part (total net.places) (left_by first) (skip_places net.places r.all) held r.left left-of-first

    left-of-second : length (left_by second) ≡ total net.places
    unfolding second
    left-of-second = left-total facts step tag net.places (pn_limits net.places) js now q.all q.each q.fits q.made

    held-second : outlets_of net after ≡ skip_places net.places q.all
    unfolding second
    held-second = second-part (total net.places) (left_by second) (skip_places net.places q.all) after q.left left-of-second

    outlets-both : joined (outlets_of net held) (outlets_of net after) ≡ skip_places net.places total-all
    unfolding total-all
    outlets-both =
        let O : Streams T = outlets_of net held in
        let kept-outlets : drop (total net.places) (kept_of net held) ≡ emptied O = second-part (total net.places) (left_by first) (emptied O) (kept_of net held) kept-is left-of-first in
        ap (λ v. joined O v) (held-second ∙ ap (λ Y. skip_places net.places Y) second-all ∙ skip-drop net.places (plus (kept_of net held) more) ∙ plus-drop (total net.places) (kept_of net held) more ∙ ap (λ Y. plus Y (drop (total net.places) more)) kept-outlets) ∙
        outlets-join O (drop (total net.places) more) ∙
        ap (λ Y. plus Y (drop (total net.places) more)) (held-first ∙ skip-drop net.places r.all) ∙
        sym (plus-drop (total net.places) r.all more) ∙
        sym (skip-drop net.places (plus r.all more))

    same-width : length r.all ≡ length (kept_of net held)
    unfolding first
    same-width =
        sym (ap (λ v. length v) kept-is ∙ length-append (left_by first) (emptied (outlets_of net held)) ∙ ap (λ n. length (left_by first) + n) (emptied-length (outlets_of net held) ∙ ap (λ v. length v) held-first) ∙
        sym (length-append (left_by first) (skip_places net.places r.all)) ∙ all-long)
      where
        all-long : length (left_by first ++ skip_places net.places r.all) ≡ length r.all
        all-long = length-append (left_by first) (skip_places net.places r.all) ∙ ap₂ (λ a b. a + b) left-of-first (ap (λ v. length v) (skip-drop net.places r.all) ∙ length-drop (total net.places) r.all) ∙ rest (total net.places) r.all (fits-total net.places r.all r.fits)
          where
            rest : (n : ℕ) (Y : Streams T) → n ≤ length Y → n + (length Y - n) ≡ length Y
            rest n Y h = omega arith

            fits-total : (ns : List ℕ) (Y : Streams T) → Fits ns Y → total ns ≤ length Y
            fits-total [] Y f = omega arith
            fits-total (n ∷ ns) Y f = let h = fits-total ns (drop n Y) f.1 in omega (arith, h, f.0, length-drop n Y)

    pub both-run : Running facts step tag net (pn_limits net.places) kids (arrived net.sources (joined A B) X) (sums ms js) later (take (total net.places) after ++ joined (outlets_of net held) (outlets_of net after))
    unfolding first second total-all more on_both on_B
    both-run = record {
      all = total-all;
      each = sums-length facts step tag net.places ms js r.each q.each;
      fits = fits-plus net.places r.all more r.fits;
      made = subst (λ fs. MadeAll (sums ms js) fs) (sym joined-runs) (zips-made ms js first second r.made q.made same-long);
      states = q.states ∙ sym (zips-states first second same-long) ∙ ap (λ fs. states_of fs) (sym joined-runs);
      left = ap₂ (λ a b. a ++ b) (first-part (total net.places) (left_by second) (skip_places net.places q.all) after q.left left-of-second ∙ sym (zips-left first second same-long) ∙ ap (λ fs. left_by fs) (sym joined-runs)) outlets-both;
      fed = joined-gains second second-wide ∙ ap (λ fs. refill fs net.sources (arrived net.sources (joined A B) X)) (sym joined-runs);
      caused =
          subst (λ n. Below total-all (on_both n)) (sym (sums-total facts step tag net.places ms js r.each q.each))
          (Below-trans _ _ _ (plus-below r.all (kept_of net held) more (gains_at (total js)) same-width (subst (λ Y. Below Y (plus (kept_of net held) (gains_at (total js)))) second-all (subst (λ Y. Below q.all Y) (round-gains (total js)) q.caused))) (both-has (total js)));
      few = subst (λ n. WithinAll (pn_limits net.places) (sums ms js) n) (sym (sums-total facts step tag net.places ms js r.each q.each)) (few-sums facts step tag net.places ms js (total ms) (total js) r.few q.few);
    }

    -- both runs leave as many own outputs
    pub outlets-long : length (outlets_of net held) ≡ length (outlets_of net after)
    unfolding total-all
    outlets-long =
        ap (λ v. length v) (held-first ∙ skip-drop net.places r.all) ∙ length-drop (total net.places) r.all ∙ ap (λ n. n - total net.places) (same-width ∙ sym (plus-length (kept_of net held) more) ∙ ap (λ v. length v) (sym second-all)) ∙
        sym (length-drop (total net.places) q.all) ∙
        ap (λ v. length v) (sym (held-second ∙ skip-drop net.places q.all))

    both-logs : logs_of (runs facts step tag net.places (pn_limits net.places) (sums ms js) kids total-all) ≡ logs_joined (logs_of first) (logs_of second)
    both-logs = ap (λ fs. logs_of fs) joined-runs ∙ zips-logs first second same-long

pub runs-join : {T S : Type 0} → RunsJoin T S
unfolding both-run total-all more first second
runs-join facts step tag net kids X A B ms js now later held after ls ks w v = record {
  running = both-run facts step tag net kids X A B ms now held w.running js later after v.running;
  logs = ap₂ (λ a b. logs_joined a b) w.logs v.logs ∙ sym (both-logs facts step tag net kids X A B ms now held w.running js later after v.running);
}
