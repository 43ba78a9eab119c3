-- An SDF or PN firing that is done is a run of its children.
use Rattle.std.proofs.Common.{◌≡◌, ℕ, suc, ◌≤◌, ◌+◌, ◌*◌, List, [], ◌∷◌, ◌++◌, Bool, true, false, ◌&&◌, length, take, drop, refl, sym, ap, ap₂, subst, arith, ◌∙◌, length-append, eqb-true}
use Rattle.std.proofs.lemmas.List.{length-take-le, length-drop}
use Rattle.pt_meaning.specs.Basics.{Tag, Streams, Log, log_below, within_firing}
use Rattle.pt_meaning.specs.Machine.{Fault, Outcome, Done, Stuck, Stepping, Facts}
use Rattle.pt_meaning.specs.Flow.{Flow, flow}
use Rattle.pt_meaning.specs.Rounds.{Source, Net, Limit, within, rated, flows, round}
use Rattle.pt_meaning.specs.Dataflow.{Inside, iterations, pn_limits, settled, kahn, if_settled, always, fired_all, states_of, left_by, logs_of, skip_places, lengths, firsts, behind, arrived, times, Leaving, all_leave, leaving}
use Rattle.pt_meaning.specs.Meetings.{Meets, below_child}
use Rattle.pt_meaning.specs.Children.{Child, numbered, nodes, child_facts, child_step, with_number}
use Rattle.pt_meaning.specs.Node.{Rows, Core, Sdf, Pn, Past, Node, Nodes, Composite, list_of, nodes_of, fired_at, facts_of, as_node, step_at}
use Rattle.pt_meaning.specs.Running.{Fits, NoneCanFire, total}
use Rattle.pt_laws.specs.LogsOfRuns.{RunningWith}
use Rattle.pt_laws.specs.CompositeRuns.{steps_below, sdf_start, sdf_bounds}
use Rattle.pt_laws.specs.SettledRuns.{fired_of, flows_at, held_at, FiringOfRun, PnFiringIsRun, SdfFiringIsRun}
use Rattle.pt_laws.proofs.KahnLaws.{and-left, and-right}
use Rattle.pt_laws.proofs.RunLaws.{left-length}
use Rattle.pt_laws.proofs.AlikeLaws.{Alike, AllFrom, KidsFrom, kahn-from}
use Rattle.pt_laws.proofs.HeightLaws.{KidsCount, kahn-count, sdf-bounds-count, pn-bounds-count, numbered-length}
use Rattle.pt_laws.proofs.CompositeLaws.{first-part, second-part}
use Rattle.pt_laws.proofs.SettledLaws.{settled-is-run, round-long}

-- what a composite's firing is made of, where it is done
pub record DoneWithin {T A H : Type 0} (tag : Tag) (h : Past) (c : Core T) (core : H → Core T) (r : Outcome T (Inside H (Child (Node T A)))) (s : Node T A) (out : Streams T) (l : Log T) : Type 0 where
  pub inside : Inside H (Child (Node T A))
  pub log : Log T
  pub done : r ≡ Done inside out log
  pub state : s ≡ Composite (fired_at tag h) c (core inside.held) (nodes_of (nodes inside.kids))
  pub marked : l ≡ within_firing h.made log

pub done-out : {T S : Type 0} (a b : S) (x y : Streams T) (l m : Log T) → Done a x l ≡ Done b y m → x ≡ y
done-out {T} {S} a b x y l m e = ap out_of e
  where
    out_of : Outcome T S → Streams T
    out_of (Done s out l) = out
    out_of (Stuck fs l) = []

done-state : {T S : Type 0} (a b : S) (x y : Streams T) (l m : Log T) → Done a x l ≡ Done b y m → a ≡ b
done-state {T} {S} a b x y l m e = ap state_of e
  where
    state_of : Outcome T S → S
    state_of (Done s out l) = s
    state_of (Stuck fs l) = a

pub done-log : {T S : Type 0} (a b : S) (x y : Streams T) (l m : Log T) → Done a x l ≡ Done b y m → l ≡ m
done-log {T} {S} a b x y l m e = ap log_of e
  where
    log_of : Outcome T S → Log T
    log_of (Done s out l) = l
    log_of (Stuck fs l) = l

pub done-within : {T A H : Type 0} (tag : Tag) (h : Past) (c : Core T) (core : H → Core T) (r : Outcome T (Inside H (Child (Node T A)))) (s : Node T A) (out : Streams T) (l : Log T) → as_node tag h c core r ≡ Done s out l → DoneWithin tag h c core r s out l
done-within tag h c core (Done x o k) s out l e =
    record { inside = x; log = k; done = ap (λ v. Outcome.Done x v k) (done-out _ _ o out _ _ e); state = sym (done-state _ _ o out _ _ e); marked = sym (done-log _ _ o out _ _ e) }
done-within tag h c core (Stuck fs k) s out l e = absurd (cc)

-- a firing of rounds that is done is settled
pub record SettledWith {T S : Type 0} (b : Bool) (x y : Inside (Streams T) S) (o out : Streams T) (k l : Log T) : Type 0 where
  pub settled : b ≡ true
  pub state : x ≡ y
  pub outputs : o ≡ out
  pub log : k ≡ l

was-settled : {T S : Type 0} (b : Bool) (x y : Inside (Streams T) S) (o out : Streams T) (k l : Log T) (fs : List Fault) → if_settled b x o k fs ≡ Done y out l → SettledWith b x y o out k l
was-settled true x y o out k l fs e = record { settled = refl; state = done-state x y o out k l e; outputs = done-out x y o out k l e; log = done-log x y o out k l e }
was-settled false x y o out k l fs e = absurd (cc)

-- children keep their numbers
SameNumber : {S : Type 0} → Child S → Child S → Type 0
SameNumber s z = z.number ≡ s.number

pub number-kept : {T S : Type 0} (i : ℕ) (r : Outcome T S) (z : Child S) (out : Streams T) (l : Log T) → with_number i r ≡ Done z out l → z.number ≡ i
number-kept {T} {S} i (Done s o k) z out l e = sym (ap (λ (c : Child S). c.number) (done-state (record { number = i; node = s }) z o out k l e))
number-kept i (Stuck fs k) z out l e = absurd (cc)

numbers-alike : {T A : Type 0} (rows : Rows T A) (steps : ℕ → Stepping T (Node T A)) → Alike (child_facts (facts_of rows)) (child_step steps) (child_step steps) SameNumber
unfolding SameNumber
numbers-alike rows steps = record {
  steps = λ s z f tag X z' out l e. number-kept z.number (steps z.number tag z.node X) z' out l e ∙ f;
  resets = λ s z f. f;
  same = λ s z f tag X. refl;
}

all-same : {S : Type 0} (ss : List (Child S)) → AllFrom SameNumber ss ss
unfolding SameNumber
all-same [] = tt
all-same (s ∷ ss) = (refl, all-same ss)

renumbered : {S : Type 0} (i : ℕ) (ss : List S) (zs : List (Child S)) → AllFrom SameNumber (numbered i ss) zs → length zs ≡ length ss → numbered i (nodes zs) ≡ zs
unfolding SameNumber
renumbered i [] [] f e = refl
renumbered i (s ∷ ss) [] f e = refl
renumbered i [] (z ∷ zs) f e = absurd f
renumbered {S} i (s ∷ ss) (z ∷ zs) f e = ap₂ (λ (n : ℕ) (v : List (Child S)). let c : Child S = record { number = n; node = z.node } in c ∷ v) (sym f.0) (renumbered (suc i) ss zs f.1 (omega (arith, e)))

-- places and own outputs
fits-total : {T : Type 0} (ns : List ℕ) (X : Streams T) → total ns ≤ length X → Fits ns X
fits-total [] X h = tt
fits-total (n ∷ ns) X h = (omega (arith, h), fits-total ns (drop n X) (omega (arith, h, length-drop n X)))

pub flows-left : {T S : Type 0} (facts : Facts T S) (step : Stepping T S) (tag : Tag) (ns : List ℕ) (cs : List Limit) (k : ℕ) (ss : List S) (X : Streams T) → length cs ≡ length ns → length ss ≡ length ns → total ns ≤ length X →
    length (left_by (flows facts step tag ns cs k ss X)) ≡ total ns
flows-left facts step tag [] cs k ss X a b h = refl
flows-left facts step tag (n ∷ ns) [] k ss X a b h = absurd (omega arith)
flows-left facts step tag (n ∷ ns) (c ∷ cs) k [] X a b h = absurd (omega arith)
flows-left {T} {S} facts step tag (n ∷ ns) (c ∷ cs) k (s ∷ ss) X a b h =
    let F : Streams T = (flow facts (rated facts c.rates step) tag (within c.firings k) s (take n X)).left in
    let R : Streams T = left_by (flows facts step tag ns cs k ss (drop n X)) in
    let e : length F ≡ n = left-length facts (rated facts c.rates step) tag (within c.firings k) s (take n X) ∙ length-take-le n X (omega (arith, h)) in
    let f : length R ≡ total ns = flows-left facts step tag ns cs k ss (drop n X) (omega (arith, a)) (omega (arith, b)) (omega (arith, h, length-drop n X)) in
    length-append F R ∙ ap₂ (λ x y. x + y) e f

-- the run of a firing of rounds
module _ {T A : Type 0} (rows : Rows T A) (k d : ℕ) (m : Meets) (tag : Tag) (h : Past) (c : Core T) (core : Streams T → Core T) (net : Net) (limits : List Limit) (enough : List (Flow T (Child (Node T A))) → Bool) (leaving : Leaving) (kids : Nodes T A) (start : Streams T) (s : Node T A) (out : Streams T) (l : Log T) (a : length limits ≡ length net.places) (b : length (list_of kids) ≡ length net.places) (w : total net.places ≤ length start) (e : as_node tag h c core (kahn (child_facts (facts_of rows)) (steps_below rows k d m) tag net limits enough leaving (numbered 0 (list_of kids)) start k) ≡ Done s out l) where
  abbrev its : List (Child (Node T A))
  its = numbered 0 (list_of kids)

  its-length : length its ≡ length net.places
  its-length = numbered-length 0 (list_of kids) ∙ b

  abbrev pub end_flows : List (Flow T (Child (Node T A)))
  end_flows = flows_at (child_facts (facts_of rows)) (steps_below rows k d m) tag net limits (numbered 0 (list_of kids)) start k

  abbrev end_round : Streams T
  end_round = round (child_facts (facts_of rows)) (steps_below rows k d m) tag net limits (numbered 0 (list_of kids)) start k

  abbrev pub end_held : Streams T
  end_held = held_at (child_facts (facts_of rows)) (steps_below rows k d m) tag net limits (numbered 0 (list_of kids)) start k

  inner : DoneWithin tag h c core (kahn (child_facts (facts_of rows)) (steps_below rows k d m) tag net limits enough leaving (numbered 0 (list_of kids)) start k) s out l
  inner = done-within tag h c core _ s out l e

  parts : SettledWith (settled (child_facts (facts_of rows)) (steps_below rows k d m) tag net limits (numbered 0 (list_of kids)) start k && enough end_flows) (record { held = left_by end_flows ++ behind (leaving.gone (lengths (skip_places net.places end_round))) (skip_places net.places end_round); kids = states_of end_flows }) inner.inside (firsts (leaving.given (lengths (skip_places net.places end_round))) (skip_places net.places end_round)) out (log_below (logs_of end_flows)) inner.log
  unfolding kahn inner
  parts = was-settled _ _ _ _ _ _ _ _ inner.done

  is-settled : settled (child_facts (facts_of rows)) (steps_below rows k d m) tag net limits (numbered 0 (list_of kids)) start k ≡ true
  is-settled = and-left _ _ parts.settled

  pub has-enough : enough end_flows ≡ true
  has-enough = and-right _ _ parts.settled

  pub run-of : RunningWith (child_facts (facts_of rows)) (steps_below rows k d m) tag net limits (numbered 0 (list_of kids)) start (fired_of end_flows) (states_of end_flows) end_held (logs_of end_flows) × NoneCanFire (child_facts (facts_of rows)) net.places limits (fired_of end_flows) (states_of end_flows) end_held
  run-of = settled-is-run (child_facts (facts_of rows)) (steps_below rows k d m) tag net limits (numbered 0 (list_of kids)) start a its-length (fits-total net.places start w) k is-settled

  left-fits : length (left_by end_flows) ≡ total net.places
  left-fits = flows-left (child_facts (facts_of rows)) (steps_below rows k d m) tag net.places limits k (numbered 0 (list_of kids)) _ a its-length (omega (arith, w, round-long (child_facts (facts_of rows)) (steps_below rows k d m) tag net limits (numbered 0 (list_of kids)) start k))

  kids-from : AllFrom SameNumber (numbered 0 (list_of kids)) inner.inside.kids
  unfolding inner
  kids-from =
      subst (λ r. KidsFrom {T = T} SameNumber (numbered 0 (list_of kids)) r) inner.done
      (kahn-from (child_facts (facts_of rows)) (steps_below rows k d m) (steps_below rows k d m) SameNumber (numbers-alike rows (λ i. step_at rows k d (below_child i m))) tag net limits (numbered 0 (list_of kids)) (numbered 0 (list_of kids)) (all-same (numbered 0 (list_of kids))) enough leaving start k)

  kids-count : length inner.inside.kids ≡ length (list_of kids)
  unfolding inner
  kids-count =
      subst (λ r. KidsCount {T = T} (length net.places) r) inner.done (kahn-count (child_facts (facts_of rows)) (steps_below rows k d m) tag (length net.places) net limits enough leaving (numbered 0 (list_of kids)) start k refl a its-length) ∙ sym b

  pub firing-of : FiringOfRun tag h c core net leaving (states_of end_flows) end_held (logs_of end_flows) s out l
  firing-of =
      let O : Streams T = skip_places net.places end_round in
      let first : take (total net.places) end_held ≡ left_by end_flows = first-part (total net.places) (left_by end_flows) O end_held refl left-fits in
      let second : drop (total net.places) end_held ≡ O = second-part (total net.places) (left_by end_flows) O end_held refl left-fits in
      record {
        state =
            inner.state ∙ ap (λ (x : Inside (Streams T) (Child (Node T A))). let n : Node T A = Composite (fired_at tag h) c (core x.held) (nodes_of (nodes x.kids)) in n) (sym parts.state) ∙
            ap₂ (λ (x y : Streams T). let n : Node T A = Composite (fired_at tag h) c (core (x ++ behind (leaving.gone (lengths y)) y)) (nodes_of (nodes (states_of end_flows))) in n) (sym first) (sym second);
        outputs = sym parts.outputs ∙ ap (λ y. firsts (leaving.given (lengths y)) y) (sym second);
        log = inner.marked ∙ ap (λ v. within_firing h.made v) (sym parts.log);
        numbers = subst (λ (zs : List (Child (Node T A))). numbered 0 (nodes zs) ≡ zs) (ap (λ (x : Inside (Streams T) (Child (Node T A))). x.kids) (sym parts.state)) (renumbered 0 (list_of kids) inner.inside.kids kids-from kids-count);
      }

pub arrived-long : {T : Type 0} (cs : List Source) (inputs X : Streams T) → length (arrived cs inputs X) ≡ length X
arrived-long [] inputs X = refl
arrived-long (c ∷ cs) inputs [] = refl
arrived-long (c ∷ cs) inputs (x ∷ X) = ap (λ v. suc v) (arrived-long cs inputs X)

pub pn-firing-is-run : {T A : Type 0} → PnFiringIsRun T A
unfolding step_at
pn-firing-is-run {T} {A} rows k d m tag h c p X kids inputs s out l b w e =
    let start : Streams T = arrived p.net.sources inputs X in
    let a : length (pn_limits p.net.places) ≡ length p.net.places = pn-bounds-count p.net.places in
    let wide : total p.net.places ≤ length start = omega (arith, w, arrived-long p.net.sources inputs X) in
    let run = run-of rows k d m tag h c (Pn p) p.net (pn_limits p.net.places) always all_leave kids start s out l a b wide e in
    (_, _, _, _, run.0, run.1, firing-of rows k d m tag h c (Pn p) p.net (pn_limits p.net.places) always all_leave kids start s out l a b wide e)

pub all-fired : {T S : Type 0} (m : ℕ) (qs : List ℕ) (fs : List (Flow T S)) → length fs ≡ length qs → fired_all m qs fs ≡ true → fired_of fs ≡ times m qs
all-fired m [] [] e h = refl
all-fired m [] (f ∷ fs) e h = absurd (omega arith)
all-fired m (q ∷ qs) [] e h = absurd (omega arith)
all-fired m (q ∷ qs) (f ∷ fs) e h = ap₂ (λ a b. a ∷ b) (eqb-true f.fired (m * q) (and-left _ _ h)) (all-fired m qs fs (omega (arith, e)) (and-right _ _ h))

pub flows-count : {T S : Type 0} (facts : Facts T S) (step : Stepping T S) (tag : Tag) (ns : List ℕ) (cs : List Limit) (k : ℕ) (ss : List S) (X : Streams T) → length cs ≡ length ns → length ss ≡ length ns → length (flows facts step tag ns cs k ss X) ≡ length ns
flows-count facts step tag [] cs k ss X a b = refl
flows-count facts step tag (n ∷ ns) [] k ss X a b = absurd (omega arith)
flows-count facts step tag (n ∷ ns) (c ∷ cs) k [] X a b = absurd (omega arith)
flows-count facts step tag (n ∷ ns) (c ∷ cs) k (s ∷ ss) X a b = ap (λ v. suc v) (flows-count facts step tag ns cs k ss (drop n X) (omega arith) (omega arith))

pub sdf-firing-is-run : {T A : Type 0} → SdfFiringIsRun T A
unfolding step_at
sdf-firing-is-run {T} {A} rows k d m tag h c p X kids inputs s out l f w e =
    let start : Streams T = sdf_start p X inputs in
    let n : ℕ = iterations p start in
    let limits : List Limit = sdf_bounds p X inputs in
    let facts : Facts T (Child (Node T A)) = child_facts (facts_of rows) in
    let a : length limits ≡ length p.net.places = sdf-bounds-count n p.repetitions p.rates (length p.net.places) (f.1 ∙ sym f.0) (f.2 ∙ sym f.0) in
    let wide : total p.net.places ≤ length start = omega (arith, w, arrived-long p.net.sources inputs X) in
    let enough = has-enough rows k d m tag h c (Sdf p) p.net limits (fired_all n p.repetitions) (leaving n p) kids start s out l a (sym f.0) wide e in
    let run = run-of rows k d m tag h c (Sdf p) p.net limits (fired_all n p.repetitions) (leaving n p) kids start s out l a (sym f.0) wide e in
    let fs = flows_at facts (steps_below rows k d m) tag p.net limits (numbered 0 (list_of kids)) start k in
    let made : fired_of fs ≡ times n p.repetitions = all-fired n p.repetitions fs (flows-count facts (steps_below rows k d m) tag p.net.places limits k (numbered 0 (list_of kids)) _ a (numbered-length 0 (list_of kids) ∙ sym f.0) ∙ f.0 ∙ sym f.1) enough in
    (_, _, _, subst (λ ms. RunningWith facts (steps_below rows k d m) tag p.net limits (numbered 0 (list_of kids)) start ms (states_of fs) (held_at facts (steps_below rows k d m) tag p.net limits (numbered 0 (list_of kids)) start k) (logs_of fs)) made run.0, firing-of rows k d m tag h c (Sdf p) p.net limits (fired_all n p.repetitions) (leaving n p) kids start s out l a (sym f.0) wide e)
