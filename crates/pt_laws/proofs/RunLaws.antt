-- A run of a dataflow composite, in whatever order its children fire, leads to its settled round.
use Rattle.std.proofs.Common.{◌≡◌, ℕ, zero, suc, ◌≤◌, ◌<◌, ◌+◌, List, [], ◌∷◌, ◌++◌, Bool, true, false, ◌&&◌, nat_le, length, take, drop, Option, Some, None, refl, sym, ap, ap₂, subst, arith, leb-true, le-leb, inl, inr, ◌∙◌, ◌⊎◌, append_assoc, append-nil, nat_eq, if◌then◌else◌, length-append, set, get_or}
use Rattle.std.proofs.lemmas.Bool.Decides.{nat_tests}
use Rattle.std.proofs.lemmas.List.{take-append-le, drop-append-le, take-append-drop, length-take-le}
use Rattle.std.proofs.Math.Seq.{take-append_seam, drop-append_seam}
use Rattle.pt_meaning.specs.Machine.{Over, Counts, Any, counted, if_long}
use Rattle.pt_laws.proofs.KahnLaws.{same-lengths-refl}
use Rattle.pt_meaning.specs.Dataflow.{firsts, behind, lengths}
use Rattle.std.proofs.Math.Path.{fun_ext}
use Rattle.pt_meaning.specs.Basics as basics
use Rattle.pt_meaning.specs.Basics.{Tag, Streams, at, joined, Below, Firing, Log, log_then, silent, own, log_below}
use Rattle.pt_meaning.specs.Machine.{Need, Outcome, Done, Stuck, Stepping, Facts, Front, Lacks, Ends, Takes, front}
use Rattle.pt_meaning.specs.Flow.{Stop, Lacking, Ended, Capped, Stopped, Flow, flow, halted, after_firing, on_outcome, on_front}
use Rattle.pt_meaning.specs.Rounds.{Source, Own, Output, Net, Limit, within, rated, gave, fed, refill, flows, round, at_rest, at_cap, all_at_rest}
use Rattle.pt_meaning.specs.Dataflow.{Inside, states_of, left_by, logs_of, skip_places, Leaving, settled, kahn, firing}
use Rattle.pt_meaning.specs.Running.{runs, zeros, total, MadeAll, WithinAll, Running, Fits, plus, puts, puts_on, Fires, Asks, IsDry, CannotFire, NoneCanFire}
use Rattle.pt_laws.specs.LogsOfRuns.{logs_then, RunningWith, FiresWith, FiringsHaveRecords}
use Rattle.pt_laws.proofs.Order.{IsPrefix-append, Below-refl, Below-trans, Below-antisym, Below-take, Below-drop, at-joined}
use Rattle.pt_laws.proofs.FlowLaws.{flow-below, IsQuiet}
use Rattle.pt_laws.proofs.RoundLaws.{FlowsBelow, flows-below, round-below, refill-below, below-refill, grows-refl, rated-grows}

pub plus-take : {T : Type 0} (n : ℕ) (X E : Streams T) → take n (plus X E) ≡ plus (take n X) (take n E)
plus-take zero X E = refl
plus-take (suc n) [] E = refl
plus-take (suc n) (xs ∷ X) [] = refl
plus-take (suc n) (xs ∷ X) (es ∷ E) = ap (λ v. (xs ++ es) ∷ v) (plus-take n X E)

pub plus-nil : {T : Type 0} (X : Streams T) → plus X [] ≡ X
plus-nil [] = refl
plus-nil (xs ∷ X) = refl

pub plus-drop : {T : Type 0} (n : ℕ) (X E : Streams T) → drop n (plus X E) ≡ plus (drop n X) (drop n E)
plus-drop zero X E = refl
plus-drop (suc n) [] E = refl
plus-drop (suc n) (xs ∷ X) [] = sym (plus-nil (drop n X))
plus-drop (suc n) (xs ∷ X) (es ∷ E) = plus-drop n X E

plus-append : {T : Type 0} (X Y E : Streams T) → plus (X ++ Y) E ≡ plus X (take (length X) E) ++ plus Y (drop (length X) E)
plus-append [] Y E = refl
plus-append (xs ∷ X) Y [] = ap (λ v. (xs ∷ X) ++ v) (sym (plus-nil Y))
plus-append (xs ∷ X) Y (es ∷ E) = ap (λ v. (xs ++ es) ∷ v) (plus-append X Y E)

pub plus-length : {T : Type 0} (X E : Streams T) → length (plus X E) ≡ length X
plus-length [] E = refl
plus-length (xs ∷ X) [] = refl
plus-length (xs ∷ X) (es ∷ E) = ap (λ v. suc v) (plus-length X E)

below-plus : {T : Type 0} (X E : Streams T) → Below X (plus X E)
below-plus [] E = tt
below-plus (xs ∷ X) [] = Below-refl (xs ∷ X)
below-plus (xs ∷ X) (es ∷ E) = (IsPrefix-append xs es, below-plus X E)

-- the front of longer streams
FrontPlus : {T : Type 0} → Front T → Front T → Streams T → Type 0
FrontPlus {T} (Takes got left) g E = (g ≡ Takes got (plus left E)) × Unit {0}
FrontPlus Lacks g E = Unit {0}
FrontPlus Ends g E = Unit {0}

if_long-plus : {T : Type 0} (b : Bool) (n : ℕ) (xs es : List T) (f g : Front T) (E : Streams T) → nat_le n (length xs) ≡ b → FrontPlus f g E → FrontPlus (if_long b n xs f) (if_long (nat_le n (length (xs ++ es))) n (xs ++ es) g) (es ∷ E)
unfolding FrontPlus
if_long-plus false n xs es f g E e h = tt
if_long-plus true n xs es Lacks g E e h = tt
if_long-plus true n xs es Ends g E e h = tt
if_long-plus true n xs es (Takes got left) g E e h =
    let a : n ≤ length xs = leb-true n (length xs) e in
    let b : nat_le n (length (xs ++ es)) ≡ true = le-leb n (length (xs ++ es)) (omega (arith, a, length-append xs es)) in
    (rw (b, h.0) (ap₂ (λ x y. Takes (x ∷ got) (y ∷ plus left E)) (take-append-le n xs es a) (drop-append-le n xs es a)), tt)

front-nil : {T : Type 0} (f : Front T) → FrontPlus f f []
unfolding FrontPlus
front-nil Lacks = tt
front-nil Ends = tt
front-nil (Takes got left) = (ap (λ v. Takes got v) (sym (plus-nil left)), tt)

counted-plus : {T : Type 0} (ns : List ℕ) (X E : Streams T) → FrontPlus (counted ns X) (counted ns (plus X E)) E
unfolding FrontPlus
counted-plus [] [] E = (refl, tt)
counted-plus [] (xs ∷ X) E = tt
counted-plus (n ∷ ns) [] E = tt
counted-plus (n ∷ ns) (xs ∷ X) [] = front-nil (counted (n ∷ ns) (xs ∷ X))
counted-plus (n ∷ ns) (xs ∷ X) (es ∷ E) = if_long-plus (nat_le n (length xs)) n xs es (counted ns X) (counted ns (plus X E)) E refl (counted-plus ns X E)

front-plus : {T : Type 0} (need : Need) (X E : Streams T) → FrontPlus (front need X) (front need (plus X E)) E
unfolding FrontPlus
front-plus Over X E = tt
front-plus (Counts ns) X E = counted-plus ns X E
front-plus Any X E = tt

-- with longer streams a flow that made all its firings leaves more
abbrev pub longer : {T S : Type 0} → Flow T S → Streams T → Flow T S
longer f E = record { outputs = f.outputs; state = f.state; left = plus f.left E; fired = f.fired; log = f.log; stop = f.stop }

-- one firing more at the end of a flow
pub record OneMore {T S : Type 0} (f g : Flow T S) (s' : S) (out rest : Streams T) (l : Log T) : Type 0 where
  pub outputs : (p : ℕ) → at g.outputs p ≡ at f.outputs p ++ at out p
  pub state : g.state ≡ s'
  pub left : g.left ≡ rest
  pub fired : g.fired ≡ suc f.fired
  pub log : g.log ≡ log_then f.log l

-- the same, but for why it stops
pub record StopsAs {T S : Type 0} (f g : Flow T S) : Type 0 where
  pub why : Stop
  pub quiet : IsQuiet why
  pub same : g ≡ record { outputs = f.outputs; state = f.state; left = f.left; fired = f.fired; log = f.log; stop = why }

module _ {T S : Type 0} (facts : Facts T S) (step : Stepping T S) (tag : Tag) where
  on_longer : (n : ℕ) (go : S → Streams T → Flow T S) → ((s : S) (X E : Streams T) → (go s X).fired ≡ n → go s (plus X E) ≡ longer (go s X) E) →
      (s : S) (X Y got left E : Streams T) (r : Outcome T S) → (on_outcome facts step tag go s X got left r).fired ≡ suc n →
      on_outcome facts step tag go s Y got (plus left E) r ≡ longer (on_outcome facts step tag go s X got left r) E
  on_longer n go ih s X Y got left E (Done s' out l) e =
      ap (λ v. after_firing out (log_then l (own (record { number = facts.made s; tag = tag; inputs = got; outputs = out }))) v) (ih s' left E (omega arith))
  on_longer n go ih s X Y got left E (Stuck fs l) e = absurd (omega arith)

  front-longer : (n : ℕ) (go : S → Streams T → Flow T S) → ((s : S) (X E : Streams T) → (go s X).fired ≡ n → go s (plus X E) ≡ longer (go s X) E) →
      (s : S) (X E : Streams T) (f g : Front T) → FrontPlus f g E → (on_front facts step tag go s X f).fired ≡ suc n → on_front facts step tag go s (plus X E) g ≡ longer (on_front facts step tag go s X f) E
  unfolding FrontPlus
  front-longer n go ih s X E Lacks g h e = absurd (omega arith)
  front-longer n go ih s X E Ends g h e = absurd (omega arith)
  front-longer n go ih s X E (Takes got left) g h e = rw h.0 (on_longer n go ih s X (plus X E) got left E (step tag s got) e)

  pub flow-longer : (n : ℕ) (s : S) (X E : Streams T) → (flow facts step tag n s X).fired ≡ n → flow facts step tag n s (plus X E) ≡ longer (flow facts step tag n s X) E
  unfolding flow
  flow-longer zero s X E e = refl
  flow-longer (suc n) s X E e = front-longer n (flow facts step tag n) (flow-longer n) s X E (front (facts.need s) X) (front (facts.need s) (plus X E)) (front-plus (facts.need s) X E) e

  -- how many streams are left
  if_long-length : (b : Bool) (n : ℕ) (xs : List T) (f : Front T) (X got left : Streams T) → ((got' left' : Streams T) → f ≡ Takes got' left' → length left' ≡ length X) → if_long b n xs f ≡ Takes got left → length left ≡ suc (length X)
  if_long-length false n xs f X got left ih e = absurd (cc)
  if_long-length true n xs Lacks X got left ih e = absurd (cc)
  if_long-length true n xs Ends X got left ih e = absurd (cc)
  if_long-length true n xs (Takes g l) X got left ih e = let a : left ≡ drop n xs ∷ l = cc in rw a (ap (λ v. suc v) (ih g l refl))

  counted-length : (ns : List ℕ) (X got left : Streams T) → counted ns X ≡ Takes got left → length left ≡ length X
  counted-length [] [] got left e = let a : left ≡ [] = cc in rw a refl
  counted-length [] (xs ∷ X) got left e = absurd (cc)
  counted-length (n ∷ ns) [] got left e = absurd (cc)
  counted-length (n ∷ ns) (xs ∷ X) got left e = if_long-length (nat_le n (length xs)) n xs (counted ns X) X got left (counted-length ns X) e

  front-length : (need : Need) (X got left : Streams T) → front need X ≡ Takes got left → length left ≡ length X
  front-length Over X got left e = absurd (cc)
  front-length (Counts ns) X got left e = counted-length ns X got left e
  front-length Any X got left e = absurd (cc)

  on_length : (go : S → Streams T → Flow T S) → ((s : S) (X : Streams T) → length (go s X).left ≡ length X) → (s : S) (X got left : Streams T) → length left ≡ length X → (r : Outcome T S) → length (on_outcome facts step tag go s X got left r).left ≡ length X
  on_length go ih s X got left e (Done s' out l) = ih s' left ∙ e
  on_length go ih s X got left e (Stuck fs l) = refl

  front_left-length : (go : S → Streams T → Flow T S) → ((s : S) (X : Streams T) → length (go s X).left ≡ length X) → (s : S) (X : Streams T) (f : Front T) → front (facts.need s) X ≡ f → length (on_front facts step tag go s X f).left ≡ length X
  front_left-length go ih s X Lacks e = refl
  front_left-length go ih s X Ends e = refl
  front_left-length go ih s X (Takes got left) e = on_length go ih s X got left (front-length (facts.need s) X got left e) (step tag s got)

  pub left-length : (n : ℕ) (s : S) (X : Streams T) → length (flow facts step tag n s X).left ≡ length X
  unfolding flow
  left-length zero s X = refl
  left-length (suc n) s X = front_left-length (flow facts step tag n) (left-length n) s X (front (facts.need s) X) refl

  -- one more firing
  joined-nil : (X : Streams T) → joined X [] ≡ X
  joined-nil [] = refl
  joined-nil (xs ∷ X) = refl

  one-first : (s : S) (X got left : Streams T) (s' : S) (out : Streams T) (l : Log T) → (f : Front T) → f ≡ Takes got left → step tag s got ≡ Done s' out l →
      OneMore (halted Capped s X silent) (on_front facts step tag (λ z Z. halted Capped z Z silent) s X f) s' out left (log_then l (own (record { number = facts.made s; tag = tag; inputs = got; outputs = out })))
  one-first s X got left s' out l f e d =
      rw (e, d) (record { outputs = λ p. ap (λ v. at v p) (joined-nil out); state = refl; left = refl; fired = refl; log = fun_ext (λ p. append-nil (log_then l (own (record { number = facts.made s; tag = tag; inputs = got; outputs = out })) p)) })

  on_more : (n : ℕ) (go go' : S → Streams T → Flow T S) (s' : S) (out left' : Streams T) (L : Log T) (Good : Flow T S → Type 0) → ((s : S) (X : Streams T) → (go s X).fired ≡ n → Good (go s X) → OneMore (go s X) (go' s X) s' out left' L) →
      ((o : Streams T) (l : Log T) (f : Flow T S) → Good (after_firing o l f) → Good f) →
      (s : S) (X got left : Streams T) (r : Outcome T S) → (on_outcome facts step tag go s X got left r).fired ≡ suc n → Good (on_outcome facts step tag go s X got left r) →
      OneMore (on_outcome facts step tag go s X got left r) (on_outcome facts step tag go' s X got left r) s' out left' L
  on_more n go go' s' out left' L Good ih inner s X got left (Done z o l) e g =
      let h = ih z left (omega arith) (inner o _ (go z left) g) in
      record {
        outputs = λ p. at-joined o (go' z left).outputs p ∙ ap (λ v. at o p ++ v) (h.outputs p) ∙ sym (append_assoc (at o p) (at (go z left).outputs p) (at out p)) ∙ ap (λ v. v ++ at out p) (sym (at-joined o (go z left).outputs p));
        state = h.state;
        left = h.left;
        fired = ap (λ v. suc v) h.fired;
        log = ap (λ v. log_then (log_then l (own (record { number = facts.made s; tag = tag; inputs = got; outputs = o }))) v) h.log ∙
            fun_ext (λ p. sym (append_assoc (log_then l (own (record { number = facts.made s; tag = tag; inputs = got; outputs = o })) p) ((go z left).log p) (L p)));
      }
  on_more n go go' s' out left' L Good ih inner s X got left (Stuck fs l) e g = absurd (omega arith)

  front_more : (n : ℕ) (go go' : S → Streams T → Flow T S) (s' : S) (out left' : Streams T) (L : Log T) (Good : Flow T S → Type 0) → ((s : S) (X : Streams T) → (go s X).fired ≡ n → Good (go s X) → OneMore (go s X) (go' s X) s' out left' L) →
      ((o : Streams T) (l : Log T) (f : Flow T S) → Good (after_firing o l f) → Good f) →
      (s : S) (X : Streams T) (f : Front T) → (on_front facts step tag go s X f).fired ≡ suc n → Good (on_front facts step tag go s X f) →
      OneMore (on_front facts step tag go s X f) (on_front facts step tag go' s X f) s' out left' L
  front_more n go go' s' out left' L Good ih inner s X Lacks e g = absurd (omega arith)
  front_more n go go' s' out left' L Good ih inner s X Ends e g = absurd (omega arith)
  front_more n go go' s' out left' L Good ih inner s X (Takes got left) e g = on_more n go go' s' out left' L Good ih inner s X got left (step tag s got) e g

  -- what the next firing of a flow is
  abbrev pub NextIs : S → Streams T → Flow T S → Type 0
  NextIs s' out f = (got left : Streams T) × (l : Log T) × (front (facts.need f.state) f.left ≡ Takes got left) × (step tag f.state got ≡ Done s' out l)

  pub flow-more : (n : ℕ) (s : S) (X got left : Streams T) (s' : S) (out : Streams T) (l : Log T) → (flow facts step tag n s X).fired ≡ n →
      front (facts.need (flow facts step tag n s X).state) (flow facts step tag n s X).left ≡ Takes got left → step tag (flow facts step tag n s X).state got ≡ Done s' out l →
      OneMore (flow facts step tag n s X) (flow facts step tag (suc n) s X) s' out left (log_then l (own (record { number = facts.made (flow facts step tag n s X).state; tag = tag; inputs = got; outputs = out })))
  unfolding flow
  flow-more zero s X got left s' out l e f d = one-first s X got left s' out l (front (facts.need s) X) f d
  flow-more (suc n) s X got left s' out l e f d =
      let number : ℕ = facts.made (flow facts step tag (suc n) s X).state in
      front_more n (flow facts step tag n) (flow facts step tag (suc n)) s' out left (log_then l (own (record { number = number; tag = tag; inputs = got; outputs = out })))
      (λ f. (front (facts.need f.state) f.left ≡ Takes got left) × (step tag f.state got ≡ Done s' out l) × (facts.made f.state ≡ number))
      (λ z Z e' g.
      subst (λ j. OneMore (flow facts step tag n z Z) (flow facts step tag (suc n) z Z) s' out left (log_then l (own (record { number = j; tag = tag; inputs = got; outputs = out })))) g.2 (flow-more n z Z got left s' out l e' g.0 g.1))
      (λ o m f g. g) s X (front (facts.need s) X) e (f, d, refl)

  -- no more firing
  on_dry : (n : ℕ) (go go' : S → Streams T → Flow T S) → ((s : S) (X : Streams T) → (go s X).fired ≡ n → IsDry (front (facts.need (go s X).state) (go s X).left) → StopsAs (go s X) (go' s X)) →
      (s : S) (X got left : Streams T) (r : Outcome T S) → (on_outcome facts step tag go s X got left r).fired ≡ suc n →
      IsDry (front (facts.need (on_outcome facts step tag go s X got left r).state) (on_outcome facts step tag go s X got left r).left) →
      StopsAs (on_outcome facts step tag go s X got left r) (on_outcome facts step tag go' s X got left r)
  on_dry n go go' ih s X got left (Done z o l) e g =
      let h = ih z left (omega arith) g in
      record { why = h.why; quiet = h.quiet; same = ap (λ v. after_firing o (log_then l (own (record { number = facts.made s; tag = tag; inputs = got; outputs = o }))) v) h.same }
  on_dry n go go' ih s X got left (Stuck fs l) e g = absurd (omega arith)

  front_dry : (n : ℕ) (go go' : S → Streams T → Flow T S) → ((s : S) (X : Streams T) → (go s X).fired ≡ n → IsDry (front (facts.need (go s X).state) (go s X).left) → StopsAs (go s X) (go' s X)) →
      (s : S) (X : Streams T) (f : Front T) → (on_front facts step tag go s X f).fired ≡ suc n →
      IsDry (front (facts.need (on_front facts step tag go s X f).state) (on_front facts step tag go s X f).left) →
      StopsAs (on_front facts step tag go s X f) (on_front facts step tag go' s X f)
  front_dry n go go' ih s X Lacks e g = absurd (omega arith)
  front_dry n go go' ih s X Ends e g = absurd (omega arith)
  front_dry n go go' ih s X (Takes got left) e g = on_dry n go go' ih s X got left (step tag s got) e g

  dry-first : (go : S → Streams T → Flow T S) (s : S) (X : Streams T) (f : Front T) → IsDry f → StopsAs (halted Capped s X silent) (on_front facts step tag go s X f)
  dry-first go s X Lacks d = record { why = Lacking; quiet = tt; same = refl }
  dry-first go s X Ends d = record { why = Ended; quiet = tt; same = refl }
  dry-first go s X (Takes got left) d = absurd d

  pub flow-dry : (n n' : ℕ) → n < n' → (s : S) (X : Streams T) → (flow facts step tag n s X).fired ≡ n → IsDry (front (facts.need (flow facts step tag n s X).state) (flow facts step tag n s X).left) → StopsAs (flow facts step tag n s X) (flow facts step tag n' s X)
  unfolding flow
  flow-dry n zero h s X e d = absurd (omega arith)
  flow-dry zero (suc n') h s X e d = dry-first (flow facts step tag n') s X (front (facts.need s) X) d
  flow-dry (suc n) (suc n') h s X e d = front_dry n (flow facts step tag n) (flow facts step tag n') (λ z Z e' g. flow-dry n n' (omega arith) z Z e' g) s X (front (facts.need s) X) e d

-- flows on longer streams
longer_all : {T S : Type 0} → List ℕ → List (Flow T S) → Streams T → List (Flow T S)
longer_all [] fs E = fs
longer_all (n ∷ ns) [] E = []
longer_all (n ∷ ns) (f ∷ fs) E = longer f (take n E) ∷ longer_all ns fs (drop n E)

longer-states : {T S : Type 0} (ns : List ℕ) (fs : List (Flow T S)) (E : Streams T) → states_of (longer_all ns fs E) ≡ states_of fs
unfolding longer_all
longer-states [] fs E = refl
longer-states (n ∷ ns) [] E = refl
longer-states (n ∷ ns) (f ∷ fs) E = ap (λ v. f.state ∷ v) (longer-states ns fs (drop n E))

longer-gave : {T S : Type 0} (ns : List ℕ) (fs : List (Flow T S)) (E : Streams T) (i p : ℕ) → gave (longer_all ns fs E) i p ≡ gave fs i p
unfolding longer_all
longer-gave [] fs E i p = refl
longer-gave (n ∷ ns) [] E i p = refl
longer-gave (n ∷ ns) (f ∷ fs) E zero p = refl
longer-gave (n ∷ ns) (f ∷ fs) E (suc i) p = longer-gave ns fs (drop n E) i p

longer-logs : {T S : Type 0} (ns : List ℕ) (fs : List (Flow T S)) (E : Streams T) → logs_of (longer_all ns fs E) ≡ logs_of fs
unfolding longer_all
longer-logs [] fs E = refl
longer-logs (n ∷ ns) [] E = refl
longer-logs (n ∷ ns) (f ∷ fs) E = ap (λ v. f.log ∷ v) (longer-logs ns fs (drop n E))

longer-made : {T S : Type 0} (ns ms : List ℕ) (fs : List (Flow T S)) (E : Streams T) → MadeAll ms fs → MadeAll ms (longer_all ns fs E)
unfolding longer_all
longer-made [] ms fs E h = h
longer-made (n ∷ ns) ms [] E h = h
longer-made (n ∷ ns) [] (f ∷ fs) E h = absurd h
longer-made (n ∷ ns) (m ∷ ms) (f ∷ fs) E h = (h.0, longer-made ns ms fs (drop n E) h.1)

fed-as : {T S : Type 0} (fs gs : List (Flow T S)) → ((i p : ℕ) → gave gs i p ≡ gave fs i p) → (c : Source) → fed gs c ≡ fed fs c
fed-as fs gs h (Own p) = refl
fed-as fs gs h (Output i p) = h i p

refill-as : {T S : Type 0} (fs gs : List (Flow T S)) → ((i p : ℕ) → gave gs i p ≡ gave fs i p) → (cs : List Source) (X : Streams T) → refill gs cs X ≡ refill fs cs X
refill-as fs gs h [] X = refl
refill-as fs gs h (c ∷ cs) [] = refl
refill-as fs gs h (c ∷ cs) (xs ∷ X) = ap₂ (λ a b. (xs ++ a) ∷ b) (fed-as fs gs h c) (refill-as fs gs h cs X)

-- what a firing of child i adds
abbrev pub added : {T : Type 0} → ℕ → Streams T → ℕ → ℕ → List T
added i out j p = if nat_eq j i then at out p else []

fed-more : {T S : Type 0} (fs gs : List (Flow T S)) (i : ℕ) (out : Streams T) → ((j p : ℕ) → gave gs j p ≡ gave fs j p ++ added i out j p) → (c : Source) → fed gs c ≡ fed fs c ++ puts_on i out c
fed-more fs gs i out h (Own p) = refl
fed-more fs gs i out h (Output j p) = h j p

refill-more : {T S : Type 0} (fs gs : List (Flow T S)) (i : ℕ) (out : Streams T) → ((j p : ℕ) → gave gs j p ≡ gave fs j p ++ added i out j p) → (cs : List Source) (X : Streams T) → refill gs cs X ≡ plus (refill fs cs X) (puts i out cs)
refill-more fs gs i out h [] X = sym (plus-nil X)
refill-more fs gs i out h (c ∷ cs) [] = refl
refill-more fs gs i out h (c ∷ cs) (xs ∷ X) = ap₂ (λ a b. a ∷ b) (ap (λ v. xs ++ v) (fed-more fs gs i out h c) ∙ sym (append_assoc xs (fed fs c) (puts_on i out c))) (refill-more fs gs i out h cs X)

pub fits-plus : {T : Type 0} (ns : List ℕ) (X E : Streams T) → Fits ns X → Fits ns (plus X E)
fits-plus [] X E h = tt
fits-plus (n ∷ ns) X E h = (omega (arith, plus-length X E, h.0), subst (λ v. Fits ns v) (sym (plus-drop n X E)) (fits-plus ns (drop n X) (drop n E) h.1))

module _ {T S : Type 0} (facts : Facts T S) (step : Stepping T S) (tag : Tag) where
  runs-longer : (ns : List ℕ) (cs : List Limit) (ms : List ℕ) (ss : List S) (A E : Streams T) → MadeAll ms (runs facts step tag ns cs ms ss A) → runs facts step tag ns cs ms ss (plus A E) ≡ longer_all ns (runs facts step tag ns cs ms ss A) E
  unfolding longer_all
  runs-longer [] cs ms ss A E h = refl
  runs-longer (n ∷ ns) [] ms ss A E h = refl
  runs-longer (n ∷ ns) (c ∷ cs) [] ss A E h = refl
  runs-longer (n ∷ ns) (c ∷ cs) (m ∷ ms) [] A E h = refl
  runs-longer (n ∷ ns) (c ∷ cs) (m ∷ ms) (s ∷ ss) A E h =
      ap₂ (λ a b. a ∷ b)
      (ap (λ Z. flow facts (rated facts c.rates step) tag m s Z) (plus-take n A E) ∙ flow-longer facts (rated facts c.rates step) tag m s (take n A) (take n E) h.0)
      (ap (λ Z. runs facts step tag ns cs ms ss Z) (plus-drop n A E) ∙ runs-longer ns cs ms ss (drop n A) (drop n E) h.1)

  -- what the channels hold with what is put on them
  left-longer : (ns : List ℕ) (cs : List Limit) (ms : List ℕ) (ss : List S) (A E : Streams T) → length ms ≡ length ns → Fits ns A → MadeAll ms (runs facts step tag ns cs ms ss A) →
      left_by (longer_all ns (runs facts step tag ns cs ms ss A) E) ++ skip_places ns (plus A E) ≡ plus (left_by (runs facts step tag ns cs ms ss A) ++ skip_places ns A) E
  unfolding longer_all
  left-longer [] cs ms ss A E e f h = refl
  left-longer (n ∷ ns) [] [] ss A E e f h = absurd (omega arith)
  left-longer (n ∷ ns) [] (m ∷ ms) ss A E e f h = absurd h
  left-longer (n ∷ ns) (c ∷ cs) [] ss A E e f h = absurd (omega arith)
  left-longer (n ∷ ns) (c ∷ cs) (m ∷ ms) [] A E e f h = absurd h
  left-longer (n ∷ ns) (c ∷ cs) (m ∷ ms) (s ∷ ss) A E e f h =
      let L = (flow facts (rated facts c.rates step) tag m s (take n A)).left in
      let R = left_by (runs facts step tag ns cs ms ss (drop n A)) in
      let a : length L ≡ n = left-length facts (rated facts c.rates step) tag m s (take n A) ∙ length-take-le n A f.0 in
      let b = left-longer ns cs ms ss (drop n A) (drop n E) (omega arith) f.1 h.1 in
      append_assoc (plus L (take n E)) (left_by (longer_all ns (runs facts step tag ns cs ms ss (drop n A)) (drop n E))) (skip_places ns (drop n (plus A E))) ∙
      ap (λ Z. plus L (take n E) ++ (left_by (longer_all ns (runs facts step tag ns cs ms ss (drop n A)) (drop n E)) ++ skip_places ns Z)) (plus-drop n A E) ∙
      ap (λ Z. plus L (take n E) ++ Z) b ∙
      ap (λ k. plus L (take k E) ++ plus (R ++ skip_places ns (drop n A)) (drop k E)) (sym a) ∙
      sym (plus-append L (R ++ skip_places ns (drop n A)) E) ∙
      ap (λ Z. plus Z E) (sym (append_assoc L R (skip_places ns (drop n A))))

  -- what a firing of a child does to the flows
  pub record Grown (cs : List Limit) (ms ms' : List ℕ) (fs gs : List (Flow T S)) (now' : List S) (held' own : Streams T) (i : ℕ) (out : Streams T) (l : Log T) : Type 0 where
    pub made : MadeAll ms' gs
    pub states : now' ≡ states_of gs
    pub left : held' ≡ left_by gs ++ own
    pub given : (j p : ℕ) → gave gs j p ≡ gave fs j p ++ added i out j p
    pub summed : total ms' ≡ suc (total ms)
    pub each : length ms' ≡ length ms
    pub few : (k : ℕ) → WithinAll cs ms k → WithinAll cs ms' (suc k)
    pub logs : logs_of gs ≡ logs_then i l (logs_of fs)

  nat-other : (j i : ℕ) → nat_eq (suc j) (suc i) ≡ nat_eq j i
  nat-other j i = grind (arith, nat_tests)

  append-none : (xs : List T) → xs ≡ xs ++ []
  append-none xs = sym (append-nil xs)

  none-added : (j i p : ℕ) (out : Streams T) → nat_eq j i ≡ false → added i out j p ≡ []
  none-added j i p out e = rw e refl

  pub within-step : (c : Option ℕ) (m k : ℕ) → m ≤ within c k → m ≤ within c (suc k)
  within-step None m k h = omega arith
  within-step (Some c) m k h = omega arith

  pub within-one : (c : Option ℕ) (m k : ℕ) → suc m ≤ within c (suc m) → m ≤ within c k → suc m ≤ within c (suc k)
  within-one None m k h g = omega arith
  within-one (Some c) m k h g = omega arith

  pub few-step : (cs : List Limit) (ms : List ℕ) (k : ℕ) → WithinAll cs ms k → WithinAll cs ms (suc k)
  few-step cs [] k h = tt
  few-step [] (m ∷ ms) k h = absurd h
  few-step (c ∷ cs) (m ∷ ms) k h = (within-step c.firings m k h.0, few-step cs ms k h.1)

  shift : (j i : ℕ) (out : Streams T) (p : ℕ) (xs ys : List T) → ys ≡ xs ++ added i out j p → ys ≡ xs ++ added (suc i) out (suc j) p
  shift j i out p xs ys h = rw (nat-other j i) h

  zero-apart : (j : ℕ) → nat_eq (suc j) 0 ≡ false
  zero-apart j = grind (arith, nat_tests)

  zero-below : (i : ℕ) → nat_eq 0 (suc i) ≡ false
  zero-below i = grind (arith, nat_tests)

  -- child 0 fires
  zero-grows : (n : ℕ) (c : Limit) (cs : List Limit) (m : ℕ) (ms : List ℕ) (f g : Flow T S) (rest : List (Flow T S)) (s' : S) (rem out own H : Streams T) (l : Log T) →
      f.fired ≡ m → suc m ≤ within c.firings (suc m) → MadeAll ms rest → OneMore f g s' out rem l → H ≡ left_by rest ++ own →
      Grown (c ∷ cs) (m ∷ ms) (suc m ∷ ms) (f ∷ rest) (g ∷ rest) (s' ∷ states_of rest) (rem ++ H) own 0 out l
  zero-grows n c cs m ms f g rest s' rem out own H l e allowed made one left = record {
    made = (one.fired ∙ ap (λ v. suc v) e, made);
    states = ap (λ v. v ∷ states_of rest) (sym one.state);
    left = ap₂ (λ x y. x ++ y) (sym one.left) left ∙ sym (append_assoc g.left (left_by rest) own);
    given = given;
    summed = omega arith;
    each = refl;
    few = λ k w. (within-one c.firings m k allowed w.0, few-step cs ms k w.1);
    logs = ap (λ v. v ∷ logs_of rest) one.log;
  }
    where
      given : (j p : ℕ) → gave (g ∷ rest) j p ≡ gave (f ∷ rest) j p ++ added 0 out j p
      given zero p = one.outputs p
      given (suc j) p = rw (zero-apart j) (append-none (gave rest j p))

  -- a later child fires
  next-grows : (i : ℕ) (c : Limit) (cs : List Limit) (m : ℕ) (ms ms' : List ℕ) (f : Flow T S) (fs gs : List (Flow T S)) (now' : List S) (held' own out : Streams T) (l : Log T) →
      f.fired ≡ m → Grown cs ms ms' fs gs now' held' own i out l → Grown (c ∷ cs) (m ∷ ms) (m ∷ ms') (f ∷ fs) (f ∷ gs) (f.state ∷ now') (f.left ++ held') own (suc i) out l
  next-grows i c cs m ms ms' f fs gs now' held' own out l e g = record {
    made = (e, g.made);
    states = ap (λ v. f.state ∷ v) g.states;
    left = ap (λ v. f.left ++ v) g.left ∙ sym (append_assoc f.left (left_by gs) own);
    given = given;
    summed = omega (arith, g.summed);
    each = ap (λ v. suc v) g.each;
    few = λ k w. (within-step c.firings m k w.0, g.few k w.1);
    logs = ap (λ v. f.log ∷ v) g.logs;
  }
    where
      given : (j p : ℕ) → gave (f ∷ gs) j p ≡ gave (f ∷ fs) j p ++ added (suc i) out j p
      given zero p = rw (zero-below i) (append-none (at f.outputs p))
      given (suc j) p = shift j i out p (gave fs j p) (gave gs j p) (g.given j p)

  pub head-is : {B : Type 0} (x y : B) (xs ys : List B) → (x ∷ xs) ≡ (y ∷ ys) → x ≡ y
  head-is x y xs ys e = cc

  pub tail-is : {B : Type 0} (x y : B) (xs ys : List B) → (x ∷ xs) ≡ (y ∷ ys) → xs ≡ ys
  tail-is x y xs ys e = cc

  pub take-left : (n : ℕ) (L R own held : Streams T) → length L ≡ n → held ≡ (L ++ R) ++ own → take n held ≡ L
  take-left n L R own held e h = rw (h, append_assoc L R own, ← e) (take-append_seam L (R ++ own))

  pub drop-left : (n : ℕ) (L R own held : Streams T) → length L ≡ n → held ≡ (L ++ R) ++ own → drop n held ≡ R ++ own
  drop-left n L R own held e h = rw (h, append_assoc L R own, ← e) (drop-append_seam L (R ++ own))

  -- a record by its parts
  as-record : (o : Firing T) (number : ℕ) (at : Tag) → number ≡ o.number → at ≡ o.tag → record { number = number; tag = at; inputs = o.inputs; outputs = o.outputs } ≡ o
  as-record o number at e f = ap₂ (λ x y. let z : Firing T = record { number = x; tag = y; inputs = o.inputs; outputs = o.outputs } in z) e f

  pub fires-grow : (i : ℕ) (ns : List ℕ) (cs : List Limit) (ms : List ℕ) (ss : List S) (A own : Streams T) (now : List S) (held : Streams T) (ms' : List ℕ) (now' : List S) (held' : Streams T) (inside : Log T) (o : Firing T) →
      length ms ≡ length ns → Fits ns A → MadeAll ms (runs facts step tag ns cs ms ss A) → now ≡ states_of (runs facts step tag ns cs ms ss A) → held ≡ left_by (runs facts step tag ns cs ms ss A) ++ own →
      FiresWith facts step tag i ns cs ms now held ms' now' held' inside o → Grown cs ms ms' (runs facts step tag ns cs ms ss A) (runs facts step tag ns cs ms' ss A) now' held' own i o.outputs (log_then inside (basics.own o))
  fires-grow i [] cs ms ss A own now held ms' now' held' inside o e f h st lf fi = absurd fi
  fires-grow i (n ∷ ns) [] ms ss A own now held ms' now' held' inside o e f h st lf fi = absurd fi
  fires-grow i (n ∷ ns) (c ∷ cs) [] ss A own now held ms' now' held' inside o e f h st lf fi = absurd (omega arith)
  fires-grow i (n ∷ ns) (c ∷ cs) (m ∷ ms) [] A own now held ms' now' held' inside o e f h st lf fi = absurd h
  fires-grow i (n ∷ ns) (c ∷ cs) (m ∷ ms) (s ∷ ss) A own [] held ms' now' held' inside o e f h st lf fi = absurd (cc)
  fires-grow zero (n ∷ ns) (c ∷ cs) (m ∷ ms) (s ∷ ss) A own (z ∷ now) held ms' now' held' inside o e f h st lf fi =
      let F = flow facts (rated facts c.rates step) tag m s (take n A) in
      let R = runs facts step tag ns cs ms ss (drop n A) in
      let one = fi.2 in
      let len : length F.left ≡ n = left-length facts (rated facts c.rates step) tag m s (take n A) ∙ length-take-le n A f.0 in
      let tk : take n held ≡ F.left = take-left n F.left (left_by R) own held len lf in
      let zs : z ≡ F.state = head-is z F.state now (states_of R) st in
      let there : front (facts.need F.state) F.left ≡ Takes o.inputs fi.1 = subst (λ w. front (facts.need w) F.left ≡ Takes o.inputs fi.1) zs (subst (λ w. front (facts.need z) w ≡ Takes o.inputs fi.1) tk one.there) in
      let done : rated facts c.rates step tag F.state o.inputs ≡ Done fi.0 o.outputs inside = subst (λ w. rated facts c.rates step tag w o.inputs ≡ Done fi.0 o.outputs inside) zs one.done in
      let same : facts.made F.state ≡ o.number = sym (ap (λ w. facts.made w) zs) ∙ sym one.number in
      let more =
      subst (λ (x : Firing T). OneMore F (flow facts (rated facts c.rates step) tag (suc m) s (take n A)) fi.0 o.outputs fi.1 (log_then inside (basics.own x))) (as-record o (facts.made F.state) tag same (sym one.at_tag))
      (flow-more facts (rated facts c.rates step) tag m s (take n A) o.inputs fi.1 fi.0 o.outputs inside h.0 there done)
      in
      let res = zero-grows n c cs m ms F (flow facts (rated facts c.rates step) tag (suc m) s (take n A)) R fi.0 fi.1 o.outputs own (drop n held) (log_then inside (basics.own o)) h.0 one.allowed h.1 more (drop-left n F.left (left_by R) own held len lf) in
      finish ms' now' held' fi.3 (fi.4 ∙ ap (λ v. fi.0 ∷ v) (tail-is z F.state now (states_of R) st)) fi.5 res
    where
      finish : (ms' : List ℕ) (now' : List S) (held' : Streams T) {ms₁ : List ℕ} {now₁ : List S} {held₁ : Streams T} → ms' ≡ ms₁ → now' ≡ now₁ → held' ≡ held₁ →
          Grown (c ∷ cs) (m ∷ ms) ms₁ (runs facts step tag (n ∷ ns) (c ∷ cs) (m ∷ ms) (s ∷ ss) A) (runs facts step tag (n ∷ ns) (c ∷ cs) ms₁ (s ∷ ss) A) now₁ held₁ own 0 o.outputs (log_then inside (basics.own o)) →
          Grown (c ∷ cs) (m ∷ ms) ms' (runs facts step tag (n ∷ ns) (c ∷ cs) (m ∷ ms) (s ∷ ss) A) (runs facts step tag (n ∷ ns) (c ∷ cs) ms' (s ∷ ss) A) now' held' own 0 o.outputs (log_then inside (basics.own o))
      finish ms' now' held' a b d g = rw (a, b, d) g
  fires-grow (suc i) (n ∷ ns) (c ∷ cs) (m ∷ ms) (s ∷ ss) A own (z ∷ now) held ms' now' held' inside o e f h st lf fi =
      let F = flow facts (rated facts c.rates step) tag m s (take n A) in
      let R = runs facts step tag ns cs ms ss (drop n A) in
      let len : length F.left ≡ n = left-length facts (rated facts c.rates step) tag m s (take n A) ∙ length-take-le n A f.0 in
      let tk : take n held ≡ F.left = take-left n F.left (left_by R) own held len lf in
      let zs : z ≡ F.state = head-is z F.state now (states_of R) st in
      let inner = fires-grow i ns cs ms ss (drop n A) own now (drop n held) fi.0 fi.1 fi.2 inside o (omega arith) f.1 h.1 (tail-is z F.state now (states_of R) st) (drop-left n F.left (left_by R) own held len lf) fi.3 in
      let res = next-grows i c cs m ms fi.0 F R (runs facts step tag ns cs fi.0 ss (drop n A)) fi.1 fi.2 own o.outputs (log_then inside (basics.own o)) h.0 inner in
      finish ms' now' held' fi.4 (fi.5 ∙ ap (λ v. v ∷ fi.1) zs) (fi.6 ∙ ap (λ v. v ++ fi.2) tk) res
    where
      finish : (ms' : List ℕ) (now' : List S) (held' : Streams T) {ms₁ : List ℕ} {now₁ : List S} {held₁ : Streams T} → ms' ≡ ms₁ → now' ≡ now₁ → held' ≡ held₁ →
          Grown (c ∷ cs) (m ∷ ms) ms₁ (runs facts step tag (n ∷ ns) (c ∷ cs) (m ∷ ms) (s ∷ ss) A) (runs facts step tag (n ∷ ns) (c ∷ cs) ms₁ (s ∷ ss) A) now₁ held₁ own (suc i) o.outputs (log_then inside (basics.own o)) →
          Grown (c ∷ cs) (m ∷ ms) ms' (runs facts step tag (n ∷ ns) (c ∷ cs) (m ∷ ms) (s ∷ ss) A) (runs facts step tag (n ∷ ns) (c ∷ cs) ms' (s ∷ ss) A) now' held' own (suc i) o.outputs (log_then inside (basics.own o))
      finish ms' now' held' a b d g = rw (a, b, d) g

  pub runs-below : (ns : List ℕ) (cs : List Limit) (ms : List ℕ) (ss : List S) (k : ℕ) (A B : Streams T) → length ms ≡ length ns → WithinAll cs ms k → Below A B → FlowsBelow (runs facts step tag ns cs ms ss A) (flows facts step tag ns cs k ss B)
  runs-below [] cs ms ss k A B e w b = tt
  runs-below (n ∷ ns) [] ms ss k A B e w b = tt
  runs-below (n ∷ ns) (c ∷ cs) [] ss k A B e w b = absurd (omega arith)
  runs-below (n ∷ ns) (c ∷ cs) (m ∷ ms) [] k A B e w b = tt
  runs-below (n ∷ ns) (c ∷ cs) (m ∷ ms) (s ∷ ss) k A B e w b = (
    flow-below facts (rated facts c.rates step) (rated facts c.rates step) tag (rated-grows facts c.rates step step (grows-refl step)) m (within c.firings k) w.0 s (take n A) (take n B) (Below-take n A B b),
    runs-below ns cs ms ss k (drop n A) (drop n B) (omega arith) w.1 (Below-drop n A B b),
  )

-- a firing of a child keeps the run, and its log goes on by what it logged within, and by its record
pub running-step-with : {T S : Type 0} (facts : Facts T S) (step : Stepping T S) (tag : Tag) (net : Net) (limits : List Limit) (kids : List S) (start : Streams T) (ms : List ℕ) (now : List S) (held : Streams T) (ls : List (Log T)) →
    RunningWith facts step tag net limits kids start ms now held ls → (i : ℕ) (ms' : List ℕ) (now' : List S) (held' : Streams T) (inside : Log T) (f : Firing T) → FiresWith facts step tag i net.places limits ms now held ms' now' held' inside f →
    RunningWith facts step tag net limits kids start ms' now' (plus held' (puts i f.outputs net.sources)) (logs_then i (log_then inside (own f)) ls)
unfolding round
running-step-with facts step tag net limits kids start ms now held ls w i ms' now' held' inside f fi =
    let r = w.running in
    let out = f.outputs in
    let g = fires-grow facts step tag i net.places limits ms kids r.all (skip_places net.places r.all) now held ms' now' held' inside f r.each r.fits r.made r.states r.left fi in
    let E = puts i out net.sources in
    let rs = runs facts step tag net.places limits ms kids r.all in
    let gs = runs facts step tag net.places limits ms' kids r.all in
    let len : length ms' ≡ length net.places = g.each ∙ r.each in
    let long = runs-longer facts step tag net.places limits ms' kids r.all E g.made in
    let refilled : plus r.all E ≡ refill gs net.sources start = ap (λ Z. plus Z E) r.fed ∙ sym (refill-more rs gs i out g.given net.sources start) in
    record {
      running = record {
        all = plus r.all E;
        each = len;
        fits = fits-plus net.places r.all E r.fits;
        made = subst (λ fs. MadeAll ms' fs) (sym long) (longer-made net.places ms' gs E g.made);
        states = g.states ∙ sym (longer-states net.places gs E) ∙ ap (λ fs. states_of fs) (sym long);
        left = ap (λ Z. plus Z E) g.left ∙ sym (left-longer facts step tag net.places limits ms' kids r.all E len r.fits g.made) ∙ ap (λ fs. left_by fs ++ skip_places net.places (plus r.all E)) (sym long);
        fed = refilled ∙ sym (refill-as gs (longer_all net.places gs E) (longer-gave net.places gs E) net.sources start) ∙ ap (λ fs. refill fs net.sources start) (sym long);
        caused =
            subst (λ n. Below (plus r.all E) (round facts step tag net limits kids start n)) (sym g.summed)
            (subst (λ Z. Below Z (round facts step tag net limits kids start (suc (total ms)))) (sym refilled)
            (refill-below _ _ (runs-below facts step tag net.places limits ms' kids (suc (total ms)) r.all (round facts step tag net limits kids start (total ms)) len (g.few (total ms) r.few) r.caused) net.sources start));
        few = subst (λ n. WithinAll limits ms' n) (sym g.summed) (g.few (total ms) r.few);
      };
      logs = ap (λ v. logs_then i (log_then inside (own f)) v) w.logs ∙ sym g.logs ∙ sym (longer-logs net.places gs E) ∙ ap (λ fs. logs_of fs) (sym long);
    }

-- each firing has a record
pub fires-with : {T S : Type 0} → FiringsHaveRecords T S
fires-with facts step tag zero (n ∷ ns) (c ∷ cs) (m ∷ ms) (s ∷ ss) held ms' ss' held' out fi =
    let one = fi.2 in
    (one.log, record { number = facts.made s; tag = tag; inputs = one.got; outputs = out }, refl, (fi.0, fi.1, record { allowed = one.allowed; there = one.there; done = one.done; number = refl; at_tag = refl }, fi.3, fi.4, fi.5))
fires-with facts step tag (suc i) (n ∷ ns) (c ∷ cs) (m ∷ ms) (s ∷ ss) held ms' ss' held' out fi =
    let r = fires-with facts step tag i ns cs ms ss (drop n held) fi.0 fi.1 fi.2 out fi.3 in (r.0, r.1, r.2, (fi.0, fi.1, fi.2, r.3, fi.4, fi.5, fi.6))
fires-with facts step tag i [] cs ms ss held ms' ss' held' out fi = absurd fi
fires-with facts step tag i (n ∷ ns) [] ms ss held ms' ss' held' out fi = absurd fi
fires-with facts step tag i (n ∷ ns) (c ∷ cs) [] ss held ms' ss' held' out fi = absurd fi
fires-with facts step tag i (n ∷ ns) (c ∷ cs) (m ∷ ms) [] held ms' ss' held' out fi = absurd fi

pub running-step : {T S : Type 0} (facts : Facts T S) (step : Stepping T S) (tag : Tag) (net : Net) (limits : List Limit) (kids : List S) (start : Streams T) (ms : List ℕ) (now : List S) (held : Streams T) →
    Running facts step tag net limits kids start ms now held → (i : ℕ) (ms' : List ℕ) (now' : List S) (held' out : Streams T) → Fires facts step tag i net.places limits ms now held ms' now' held' out →
    Running facts step tag net limits kids start ms' now' (plus held' (puts i out net.sources))
running-step {T} {S} facts step tag net limits kids start ms now held r i ms' now' held' out fi =
    let one = fires-with facts step tag i net.places limits ms now held ms' now' held' out fi in
    let next = running-step-with facts step tag net limits kids start ms now held (logs_of (runs facts step tag net.places limits ms kids r.all)) (record { running = r; logs = refl }) i ms' now' held' one.0 one.1 one.3 in
    subst (λ o. Running facts step tag net limits kids start ms' now' (plus held' (puts i o net.sources))) one.2 next.running

-- what a flow at rest is, where no child can fire
pub record RestsAs {T S : Type 0} (c : Limit) (f g : Flow T S) : Type 0 where
  pub outputs : g.outputs ≡ f.outputs
  pub state : g.state ≡ f.state
  pub left : g.left ≡ f.left
  pub fired : g.fired ≡ f.fired
  pub log : g.log ≡ f.log
  pub rests : at_rest c.firings g.fired g.stop ≡ true

abbrev pub AllRestAs : {T S : Type 0} → List Limit → List (Flow T S) → List (Flow T S) → Type 0
AllRestAs cs [] [] = Unit {0}
AllRestAs (c ∷ cs) (f ∷ fs) (g ∷ gs) = RestsAs c f g × AllRestAs cs fs gs
AllRestAs [] (f ∷ fs) (g ∷ gs) = ⊥
AllRestAs cs [] (g ∷ gs) = ⊥
AllRestAs cs (f ∷ fs) [] = ⊥

quiet-rests : (c : Option ℕ) (n : ℕ) (why : Stop) → IsQuiet why → at_rest c n why ≡ true
quiet-rests c n Lacking q = refl
quiet-rests c n Ended q = refl
quiet-rests c n Capped q = absurd q
quiet-rests c n (Stopped fs) q = absurd q

module _ {T S : Type 0} (facts : Facts T S) (step : Stepping T S) (tag : Tag) where
  -- a flow that made all its firings stops at that number
  on_capped : (n : ℕ) (go : S → Streams T → Flow T S) → ((s : S) (X : Streams T) → (go s X).fired ≡ n → (go s X).stop ≡ Capped) → (s : S) (X got left : Streams T) (r : Outcome T S) →
      (on_outcome facts step tag go s X got left r).fired ≡ suc n → (on_outcome facts step tag go s X got left r).stop ≡ Capped
  on_capped n go ih s X got left (Done s' o l) e = ih s' left (omega arith)
  on_capped n go ih s X got left (Stuck fs l) e = absurd (omega arith)

  front_capped : (n : ℕ) (go : S → Streams T → Flow T S) → ((s : S) (X : Streams T) → (go s X).fired ≡ n → (go s X).stop ≡ Capped) → (s : S) (X : Streams T) (f : Front T) →
      (on_front facts step tag go s X f).fired ≡ suc n → (on_front facts step tag go s X f).stop ≡ Capped
  front_capped n go ih s X Lacks e = absurd (omega arith)
  front_capped n go ih s X Ends e = absurd (omega arith)
  front_capped n go ih s X (Takes got left) e = on_capped n go ih s X got left (step tag s got) e

  pub flow-capped : (n : ℕ) (s : S) (X : Streams T) → (flow facts step tag n s X).fired ≡ n → (flow facts step tag n s X).stop ≡ Capped
  unfolding flow
  flow-capped zero s X e = refl
  flow-capped (suc n) s X e = front_capped n (flow facts step tag n) (flow-capped n) s X (front (facts.need s) X) e

  rest-capped : (c : Limit) (n m : ℕ) (s : S) (X : Streams T) → n ≡ m → at_cap c.firings m ≡ true → (flow facts step tag m s X).fired ≡ m → RestsAs c (flow facts step tag m s X) (flow facts step tag n s X)
  rest-capped c n m s X e a h = rw e (record { outputs = refl; state = refl; left = refl; fired = refl; log = refl; rests = rw (flow-capped m s X h, h) a })

  rest-dry : (c : Limit) (n m : ℕ) (s : S) (X : Streams T) → m < n → IsDry (front (facts.need (flow facts step tag m s X).state) (flow facts step tag m s X).left) → (flow facts step tag m s X).fired ≡ m → RestsAs c (flow facts step tag m s X) (flow facts step tag n s X)
  rest-dry c n m s X l d h =
      let x = flow-dry facts step tag m n l s X h d in
      rw x.same (record { outputs = refl; state = refl; left = refl; fired = refl; log = refl; rests = quiet-rests c.firings (flow facts step tag m s X).fired x.why x.quiet })

at-cap-within : (c : Option ℕ) (m j k : ℕ) → j ≤ k → m ≤ within c j → at_cap c m ≡ true → within c k ≡ m
at-cap-within None m j k l w a = absurd (cc)
at-cap-within (Some n) m j k l w a = let b : n ≤ m = leb-true n m a in omega arith

cap-or-more : (c : Option ℕ) (m j k : ℕ) → j < k → m ≤ within c j → (at_cap c m ≡ true) ⊎ (m < within c k)
cap-or-more None m j k l w = inr (omega arith)
cap-or-more (Some n) m j k l w = elim (cases n m) [ inl a ↦ inl (le-leb n m a) | inr b ↦ inr (omega arith) ]
  where
    cases : (a b : ℕ) → (a ≤ b) ⊎ (b < a)
    cases a b = grind arith

module _ {T S : Type 0} (facts : Facts T S) (step : Stepping T S) (tag : Tag) where
  rests-one : (c : Limit) (m j k : ℕ) (s : S) (X : Streams T) → j < k → m ≤ within c.firings j → (flow facts (rated facts c.rates step) tag m s X).fired ≡ m →
      CannotFire facts c.firings m (flow facts (rated facts c.rates step) tag m s X).state (flow facts (rated facts c.rates step) tag m s X).left →
      RestsAs c (flow facts (rated facts c.rates step) tag m s X) (flow facts (rated facts c.rates step) tag (within c.firings k) s X)
  rests-one c m j k s X l w h (inl a) = rest-capped facts (rated facts c.rates step) tag c (within c.firings k) m s X (at-cap-within c.firings m j k (omega arith) w a) a h
  rests-one c m j k s X l w h (inr d) = go (cap-or-more c.firings m j k l w)
    where
      go : (at_cap c.firings m ≡ true) ⊎ (m < within c.firings k) → RestsAs c (flow facts (rated facts c.rates step) tag m s X) (flow facts (rated facts c.rates step) tag (within c.firings k) s X)
      go (inl a) = rest-capped facts (rated facts c.rates step) tag c (within c.firings k) m s X (at-cap-within c.firings m j k (omega arith) w a) a h
      go (inr b) = rest-dry facts (rated facts c.rates step) tag c (within c.firings k) m s X b d h

  all-rest : (ns : List ℕ) (cs : List Limit) (ms : List ℕ) (ss : List S) (A own : Streams T) (now : List S) (held : Streams T) (j k : ℕ) → j < k → length ms ≡ length ns → Fits ns A → MadeAll ms (runs facts step tag ns cs ms ss A) →
      now ≡ states_of (runs facts step tag ns cs ms ss A) → held ≡ left_by (runs facts step tag ns cs ms ss A) ++ own → WithinAll cs ms j → NoneCanFire facts ns cs ms now held →
      AllRestAs cs (runs facts step tag ns cs ms ss A) (flows facts step tag ns cs k ss A)
  all-rest [] cs ms ss A own now held j k l e f h st lf w nf = tt
  all-rest (n ∷ ns) [] ms ss A own now held j k l e f h st lf w nf = tt
  all-rest (n ∷ ns) (c ∷ cs) [] ss A own now held j k l e f h st lf w nf = absurd (omega arith)
  all-rest (n ∷ ns) (c ∷ cs) (m ∷ ms) [] A own now held j k l e f h st lf w nf = tt
  all-rest (n ∷ ns) (c ∷ cs) (m ∷ ms) (s ∷ ss) A own [] held j k l e f h st lf w nf = absurd (cc)
  all-rest (n ∷ ns) (c ∷ cs) (m ∷ ms) (s ∷ ss) A own (z ∷ now) held j k l e f h st lf w nf =
      let F = flow facts (rated facts c.rates step) tag m s (take n A) in
      let R = runs facts step tag ns cs ms ss (drop n A) in
      let len : length F.left ≡ n = left-length facts (rated facts c.rates step) tag m s (take n A) ∙ length-take-le n A f.0 in
      let tk : take n held ≡ F.left = take-left facts step tag n F.left (left_by R) own held len lf in
      let zs : z ≡ F.state = head-is facts step tag z F.state now (states_of R) st in
      let cannot : CannotFire facts c.firings m F.state F.left = subst (λ v. CannotFire facts c.firings m v F.left) zs (subst (λ v. CannotFire facts c.firings m z v) tk nf.0) in (
        rests-one c m j k s (take n A) l w.0 h.0 cannot,
        all-rest ns cs ms ss (drop n A) own now (drop n held) j k l (omega arith) f.1 h.1 (tail-is facts step tag z F.state now (states_of R) st) (drop-left facts step tag n F.left (left_by R) own held len lf) w.1 nf.1,
      )

  rest-states : (cs : List Limit) (fs gs : List (Flow T S)) → AllRestAs cs fs gs → states_of gs ≡ states_of fs
  rest-states cs [] [] h = refl
  rest-states (c ∷ cs) (f ∷ fs) (g ∷ gs) h = ap₂ (λ a b. a ∷ b) h.0.state (rest-states cs fs gs h.1)
  rest-states [] (f ∷ fs) (g ∷ gs) h = absurd h
  rest-states cs [] (g ∷ gs) h = absurd h
  rest-states cs (f ∷ fs) [] h = absurd h

  rest-left : (cs : List Limit) (fs gs : List (Flow T S)) → AllRestAs cs fs gs → left_by gs ≡ left_by fs
  rest-left cs [] [] h = refl
  rest-left (c ∷ cs) (f ∷ fs) (g ∷ gs) h = ap₂ (λ a b. a ++ b) h.0.left (rest-left cs fs gs h.1)
  rest-left [] (f ∷ fs) (g ∷ gs) h = absurd h
  rest-left cs [] (g ∷ gs) h = absurd h
  rest-left cs (f ∷ fs) [] h = absurd h

  rest-gave : (cs : List Limit) (fs gs : List (Flow T S)) → AllRestAs cs fs gs → (i p : ℕ) → gave gs i p ≡ gave fs i p
  rest-gave cs [] [] h i p = refl
  rest-gave (c ∷ cs) (f ∷ fs) (g ∷ gs) h zero p = ap (λ v. at v p) h.0.outputs
  rest-gave (c ∷ cs) (f ∷ fs) (g ∷ gs) h (suc i) p = rest-gave cs fs gs h.1 i p
  rest-gave [] (f ∷ fs) (g ∷ gs) h i p = absurd h
  rest-gave cs [] (g ∷ gs) h i p = absurd h
  rest-gave cs (f ∷ fs) [] h i p = absurd h

  rest-logs : (cs : List Limit) (fs gs : List (Flow T S)) → AllRestAs cs fs gs → logs_of gs ≡ logs_of fs
  rest-logs cs [] [] h = refl
  rest-logs (c ∷ cs) (f ∷ fs) (g ∷ gs) h = ap₂ (λ a b. a ∷ b) h.0.log (rest-logs cs fs gs h.1)
  rest-logs [] (f ∷ fs) (g ∷ gs) h = absurd h
  rest-logs cs [] (g ∷ gs) h = absurd h
  rest-logs cs (f ∷ fs) [] h = absurd h

  rest-made : (cs : List Limit) (ms : List ℕ) (fs gs : List (Flow T S)) → AllRestAs cs fs gs → MadeAll ms fs → MadeAll ms gs
  rest-made cs ms [] [] h m = m
  rest-made (c ∷ cs) (n ∷ ms) (f ∷ fs) (g ∷ gs) h m = (h.0.fired ∙ m.0, rest-made cs ms fs gs h.1 m.1)
  rest-made (c ∷ cs) [] (f ∷ fs) (g ∷ gs) h m = absurd m
  rest-made [] ms (f ∷ fs) (g ∷ gs) h m = absurd h
  rest-made cs ms [] (g ∷ gs) h m = absurd h
  rest-made cs ms (f ∷ fs) [] h m = absurd h

  rest-all : (cs : List Limit) (fs gs : List (Flow T S)) → AllRestAs cs fs gs → all_at_rest cs gs ≡ true
  rest-all cs [] [] h = refl
  rest-all (c ∷ cs) (f ∷ fs) (g ∷ gs) h = rw (h.0.rests, rest-all cs fs gs h.1) refl
  rest-all [] (f ∷ fs) (g ∷ gs) h = absurd h
  rest-all cs [] (g ∷ gs) h = absurd h
  rest-all cs (f ∷ fs) [] h = absurd h

  both-true : (a b : Bool) → a ≡ true → b ≡ true → (a && b) ≡ true
  both-true a b p q = rw (p, q) refl

  -- what the children have left fills their places
  pub left-total : (ns : List ℕ) (cs : List Limit) (ms : List ℕ) (ss : List S) (A : Streams T) → length ms ≡ length ns → Fits ns A → MadeAll ms (runs facts step tag ns cs ms ss A) → length (left_by (runs facts step tag ns cs ms ss A)) ≡ total ns
  left-total [] cs ms ss A e f h = refl
  left-total (n ∷ ns) [] [] ss A e f h = absurd (omega arith)
  left-total (n ∷ ns) [] (m ∷ ms) ss A e f h = absurd h
  left-total (n ∷ ns) (c ∷ cs) [] ss A e f h = absurd (omega arith)
  left-total (n ∷ ns) (c ∷ cs) (m ∷ ms) [] A e f h = absurd h
  left-total (n ∷ ns) (c ∷ cs) (m ∷ ms) (s ∷ ss) A e f h =
      let F = flow facts (rated facts c.rates step) tag m s (take n A) in
      let R = left_by (runs facts step tag ns cs ms ss (drop n A)) in
      let a : length F.left ≡ n = left-length facts (rated facts c.rates step) tag m s (take n A) ∙ length-take-le n A f.0 in
      let b : length R ≡ total ns = left-total ns cs ms ss (drop n A) (omega arith) f.1 h.1 in
      length-append F.left R ∙ ap₂ (λ x y. x + y) a b

  -- The end of a run at which no child can fire is the settled round.
  module _ (net : Net) (limits : List Limit) (kids : List S) (start : Streams T) (ms : List ℕ) (now : List S) (held : Streams T) (r : Running facts step tag net limits kids start ms now held) (nf : NoneCanFire facts net.places limits ms now held) where
    resting : (k : ℕ) → total ms < k → AllRestAs limits (runs facts step tag net.places limits ms kids r.all) (flows facts step tag net.places limits k kids r.all)
    resting k l = all-rest net.places limits ms kids r.all (skip_places net.places r.all) now held (total ms) k l r.each r.fits r.made r.states r.left r.few nf

    all-fixed : (k : ℕ) → total ms < k → r.all ≡ refill (flows facts step tag net.places limits k kids r.all) net.sources start
    all-fixed k l = r.fed ∙ sym (refill-as _ _ (rest-gave limits _ _ (resting k l)) net.sources start)

    not-past : (j : ℕ) → Below (round facts step tag net limits kids start j) r.all
    unfolding round
    not-past zero = subst (λ Z. Below start Z) (sym (all-fixed (suc (total ms)) (omega arith))) (below-refill (flows facts step tag net.places limits (suc (total ms)) kids r.all) net.sources start)
    not-past (suc j) =
        subst (λ Z. Below (round facts step tag net limits kids start (suc j)) Z) (sym (all-fixed (suc j + suc (total ms)) (omega arith)))
        (refill-below _ _ (flows-below facts step step tag (grows-refl step) net.places limits (suc j) (suc j + suc (total ms)) (omega arith) kids (round facts step tag net limits kids start j) r.all (not-past j)) net.sources start)

    pub round-is : (k : ℕ) → total ms ≤ k → round facts step tag net limits kids start k ≡ r.all
    round-is k l = Below-antisym _ _ (not-past k) (Below-trans _ _ _ r.caused (round-below facts step step tag (grows-refl step) net limits kids start (total ms) k l))

    pub is-settled : (k : ℕ) → total ms < k → settled facts step tag net limits kids start k ≡ true
    is-settled k l =
        both-true _ _
        (rw (round-is k (omega arith), round-is (suc k) (omega arith)) (same-lengths-refl r.all))
        (subst (λ Z. all_at_rest limits (flows facts step tag net.places limits k kids Z) ≡ true) (sym (round-is k (omega arith))) (rest-all limits _ _ (resting k l)))

    -- with its log
    pub run-done-with : (enough : List (Flow T S) → Bool) (leaving : Leaving) → ((fs : List (Flow T S)) → MadeAll ms fs → enough fs ≡ true) → (k : ℕ) → total ms < k →
        (left own : Streams T) × (held ≡ left ++ own) × (length left ≡ total net.places) ×
        (kahn facts step tag net limits enough leaving kids start k ≡
        Done (record { held = left ++ behind (leaving.gone (lengths own)) own; kids = now }) (firsts (leaving.given (lengths own)) own) (log_below (logs_of (runs facts step tag net.places limits ms kids r.all))))
    unfolding kahn
    run-done-with enough leaving en k l =
        let A = r.all in
        let fs = flows facts step tag net.places limits k kids A in
        let out = firsts (leaving.given (lengths (skip_places net.places A))) (skip_places net.places A) in (
          left_by (runs facts step tag net.places limits ms kids A),
          skip_places net.places A,
          r.left,
          left-total net.places limits ms kids A r.each r.fits r.made,
          ap (λ Z. firing (settled facts step tag net limits kids start k && enough (flows facts step tag net.places limits k kids Z)) leaving net.places (flows facts step tag net.places limits k kids Z) Z) (round-is k (omega arith)) ∙
              ap (λ b. firing b leaving net.places fs A) (both-true _ _ (is-settled k l) (en fs (rest-made limits ms _ _ (resting k l) r.made))) ∙
              ap₂ (λ (x : Streams T) (y : List S). let o : Outcome T (Inside (Streams T) S) = Done (record { held = x ++ behind (leaving.gone (lengths (skip_places net.places A))) (skip_places net.places A); kids = y }) out (log_below (logs_of fs)) in o)
              (rest-left limits _ _ (resting k l)) (rest-states limits _ _ (resting k l) ∙ sym r.states) ∙
              ap (λ (ls : List (Log T)).
              let o : Outcome T (Inside (Streams T) S) = Done (record { held = left_by (runs facts step tag net.places limits ms kids A) ++ behind (leaving.gone (lengths (skip_places net.places A))) (skip_places net.places A); kids = now }) out (log_below ls) in o)
              (rest-logs limits _ _ (resting k l)),
        )

    pub run-done : (enough : List (Flow T S) → Bool) (leaving : Leaving) → ((fs : List (Flow T S)) → MadeAll ms fs → enough fs ≡ true) → (k : ℕ) → total ms < k →
        (left own : Streams T) × (l : Log T) × (held ≡ left ++ own) × (length left ≡ total net.places) ×
        (kahn facts step tag net limits enough leaving kids start k ≡ Done (record { held = left ++ behind (leaving.gone (lengths own)) own; kids = now }) (firsts (leaving.given (lengths own)) own) l)
    run-done enough leaving en k l = let w = run-done-with enough leaving en k l in (w.0, w.1, log_below (logs_of (runs facts step tag net.places limits ms kids r.all)), w.2, w.3, w.4)

-- a child that takes what it needs, and whose step is done, fires
module _ {T S : Type 0} (facts : Facts T S) (step : Stepping T S) (tag : Tag) where
  -- the limit of child i
  abbrev pub RatesAt : ℕ → List Limit → Option (List ℕ) → Type 0
  RatesAt zero (c ∷ cs) r = c.rates ≡ r
  RatesAt (suc i) (c ∷ cs) r = RatesAt i cs r
  RatesAt i [] r = Unit {0}

  pub asks-fires : (i : ℕ) (ns : List ℕ) (cs : List Limit) (ms : List ℕ) (ss : List S) (held got held' : Streams T) (s' : S) (out : Streams T) (l : Log T) (d : S) (r : Option (List ℕ)) → RatesAt i cs r →
      Asks facts i ns cs ms ss held got held' → rated facts r step tag (get_or ss i d) got ≡ Done s' out l → Fires facts step tag i ns cs ms ss held (set ms i (get_or ms i 0 + 1)) (set ss i s') held' out
  asks-fires zero (n ∷ ns) (c ∷ cs) (m ∷ ms) (s ∷ ss) held got held' s' out l d r e a h =
      (s', a.0, record { got = got; log = l; allowed = a.1; there = a.2; done = subst (λ x. rated facts x step tag s got ≡ Done s' out l) (sym e) h }, ap (λ v. v ∷ ms) (omega arith), refl, a.3)
  asks-fires (suc i) (n ∷ ns) (c ∷ cs) (m ∷ ms) (s ∷ ss) held got held' s' out l d r e a h = (_, _, a.0, asks-fires i ns cs ms ss (drop n held) got a.0 s' out l d r e a.1 h, refl, refl, a.2)
  asks-fires i [] cs ms ss held got held' s' out l d r e a h = absurd a
  asks-fires i (n ∷ ns) [] ms ss held got held' s' out l d r e a h = absurd a
  asks-fires i (n ∷ ns) (c ∷ cs) [] ss held got held' s' out l d r e a h = absurd a
  asks-fires i (n ∷ ns) (c ∷ cs) (m ∷ ms) [] held got held' s' out l d r e a h = absurd a

  -- the beginning
  zeros-made : (ns : List ℕ) (cs : List Limit) (ss : List S) (X : Streams T) → length cs ≡ length ns → length ss ≡ length ns → MadeAll (zeros ns) (runs facts step tag ns cs (zeros ns) ss X)
  unfolding flow
  zeros-made [] cs ss X e f = tt
  zeros-made (n ∷ ns) [] ss X e f = absurd (omega arith)
  zeros-made (n ∷ ns) (c ∷ cs) [] X e f = absurd (omega arith)
  zeros-made (n ∷ ns) (c ∷ cs) (s ∷ ss) X e f = (refl, zeros-made ns cs ss (drop n X) (omega arith) (omega arith))

  zeros-states : (ns : List ℕ) (cs : List Limit) (ss : List S) (X : Streams T) → length cs ≡ length ns → length ss ≡ length ns → ss ≡ states_of (runs facts step tag ns cs (zeros ns) ss X)
  unfolding flow
  zeros-states [] cs [] X e f = refl
  zeros-states [] cs (s ∷ ss) X e f = absurd (omega arith)
  zeros-states (n ∷ ns) [] ss X e f = absurd (omega arith)
  zeros-states (n ∷ ns) (c ∷ cs) [] X e f = absurd (omega arith)
  zeros-states (n ∷ ns) (c ∷ cs) (s ∷ ss) X e f = ap (λ v. s ∷ v) (zeros-states ns cs ss (drop n X) (omega arith) (omega arith))

  zeros-left : (ns : List ℕ) (cs : List Limit) (ss : List S) (X : Streams T) → length cs ≡ length ns → length ss ≡ length ns → X ≡ left_by (runs facts step tag ns cs (zeros ns) ss X) ++ skip_places ns X
  unfolding flow
  zeros-left [] cs ss X e f = refl
  zeros-left (n ∷ ns) [] ss X e f = absurd (omega arith)
  zeros-left (n ∷ ns) (c ∷ cs) [] X e f = absurd (omega arith)
  zeros-left (n ∷ ns) (c ∷ cs) (s ∷ ss) X e f =
      sym (take-append-drop n X) ∙ ap (λ v. take n X ++ v) (zeros-left ns cs ss (drop n X) (omega arith) (omega arith)) ∙
      sym (append_assoc (take n X) (left_by (runs facts step tag ns cs (zeros ns) ss (drop n X))) (skip_places ns (drop n X)))

  zeros-gave : (ns : List ℕ) (cs : List Limit) (ss : List S) (X : Streams T) (i p : ℕ) → gave (runs facts step tag ns cs (zeros ns) ss X) i p ≡ []
  unfolding flow
  zeros-gave [] cs ss X i p = refl
  zeros-gave (n ∷ ns) [] ss X i p = refl
  zeros-gave (n ∷ ns) (c ∷ cs) [] X i p = refl
  zeros-gave (n ∷ ns) (c ∷ cs) (s ∷ ss) X zero p = refl
  zeros-gave (n ∷ ns) (c ∷ cs) (s ∷ ss) X (suc i) p = zeros-gave ns cs ss (drop n X) i p

  zeros-fed : (fs : List (Flow T S)) → ((i p : ℕ) → gave fs i p ≡ []) → (c : Source) → fed fs c ≡ []
  zeros-fed fs h (Own p) = refl
  zeros-fed fs h (Output i p) = h i p

  zeros-refill : (fs : List (Flow T S)) → ((i p : ℕ) → gave fs i p ≡ []) → (cs : List Source) (X : Streams T) → X ≡ refill fs cs X
  zeros-refill fs h [] X = refl
  zeros-refill fs h (c ∷ cs) [] = refl
  zeros-refill fs h (c ∷ cs) (xs ∷ X) = ap₂ (λ a b. a ∷ b) (sym (append-nil xs) ∙ ap (λ v. xs ++ v) (sym (zeros-fed fs h c))) (zeros-refill fs h cs X)

  zeros-few : (ns : List ℕ) (cs : List Limit) (k : ℕ) → length cs ≡ length ns → WithinAll cs (zeros ns) k
  zeros-few [] cs k e = tt
  zeros-few (n ∷ ns) [] k e = absurd (omega arith)
  zeros-few (n ∷ ns) (c ∷ cs) k e = (omega arith, zeros-few ns cs k (omega arith))

  zeros-total : (ns : List ℕ) → total (zeros ns) ≡ 0
  zeros-total [] = refl
  zeros-total (n ∷ ns) = omega (arith, zeros-total ns)

  zeros-length : (ns : List ℕ) → length (zeros ns) ≡ length ns
  zeros-length [] = refl
  zeros-length (n ∷ ns) = ap (λ v. suc v) (zeros-length ns)

  pub running-start : (net : Net) (limits : List Limit) (kids : List S) (start : Streams T) → length limits ≡ length net.places → length kids ≡ length net.places → Fits net.places start → Running facts step tag net limits kids start (zeros net.places) kids start
  unfolding round
  running-start net limits kids start e f h = record {
    all = start;
    each = zeros-length net.places;
    fits = h;
    made = zeros-made net.places limits kids start e f;
    states = zeros-states net.places limits kids start e f;
    left = zeros-left net.places limits kids start e f;
    fed = zeros-refill _ (zeros-gave net.places limits kids start) net.sources start;
    caused = subst (λ n. Below start (round facts step tag net limits kids start n)) (sym (zeros-total net.places)) (Below-refl start);
    few = zeros-few net.places limits (total (zeros net.places)) e;
  }

  pub start-all : (net : Net) (limits : List Limit) (kids : List S) (start : Streams T) (e : length limits ≡ length net.places) (f : length kids ≡ length net.places) (h : Fits net.places start) → (running-start net limits kids start e f h).all ≡ start
  unfolding running-start
  start-all net limits kids start e f h = refl
