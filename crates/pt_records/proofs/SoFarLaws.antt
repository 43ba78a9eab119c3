-- A dataflow composite in the middle of a firing, child by child.
use Rattle.std.proofs.Common.{◌≡◌, ℕ, zero, suc, ◌+◌, ◌<◌, ◌≤◌, List, [], ◌∷◌, false, length, Option, Some, None, drop, set, get_or, refl, sym, ap, ap₂, subst, arith, ◌∙◌, inl}
use Rattle.pt_meaning.specs.Tag.{Tag}
use Rattle.pt_meaning.specs.Streams.{Streams, get}
use Rattle.pt_meaning.specs.Log.{Log, LogBelow, Firing, log_then, own, log_below, within_firing}
use Rattle.pt_meaning.specs.Machine.{rate_code, Fault, Outcome, Done, Stuck, Stepping, Facts, recorded}
use Rattle.pt_meaning.specs.Rounds.{Net, Limit, rated, rated_outcome, if_rated, has_rates}
use Rattle.pt_meaning.specs.Dataflow.{SdfPlan, iterations, fired_all, times, leaving, firsts}
use Rattle.pt_meaning.specs.Meetings.{Meets, below_child}
use Rattle.pt_meaning.specs.Children.{Child, numbered, nodes, child_facts, with_number}
use Rattle.pt_meaning.specs.Tree.{Rows, Core, Sdf, Past, Node, Nodes, Composite, none, more, list_of, nodes_of, made_of, fired_at, height, heights}
use Rattle.pt_meaning.specs.NodeFacts.{facts_of}
use Rattle.pt_meaning.specs.Step.{step_at, Step}
use Rattle.pt_meaning.specs.Lawful.{LawfulRows}
use Rattle.pt_meaning.specs.Running.{Asks, plus, puts, total}
use Rattle.pt_laws.specs.LogsOfRuns.{RunningWith, SticksWith, silents, logs_then, log_in, rates_at}
use Rattle.pt_laws.specs.CompositeRuns.{steps_below, SdfRun, sdf_start, sdf_bounds, outlets_of}
use Rattle.pt_meaning.specs.Laws.{IsIn}
use Rattle.pt_laws.proofs.FuelLaw.{within-below}
use Rattle.pt_laws.proofs.Order.{IsPrefix-refl}
use Rattle.pt_laws.proofs.HeightLaws.{levels-agree, firing-keeps, numbered-length}
use Rattle.pt_laws.proofs.RunLaws.{running-step-with}
use Rattle.pt_laws.proofs.LogLaws.{begins-with, asked-fires, run-is-prefix}
use Rattle.pt_laws.proofs.CompositeLaws.{sdf-ends, sdf-sticks, sdf-is-prefix, log-as-node}
use Rattle.pt_records.specs.Kept.{Kept, Entry, kept_at, kept_by, GrewBy}
use Rattle.pt_records.specs.Fired.{IsStuckAt}
use Rattle.pt_records.specs.Shut.{IsShut}
use Rattle.pt_records.specs.SoFar.{AllLow, GivesRates, IsAsked, SoFarBegins, SoFarGoesOn, SdfSoFar, sdf_left, SdfIsDone, SdfIsStuck, SdfIsUnrated, SdfIsLeftOff, SdfIsLeftOffWithin}
use Rattle.pt_records.proofs.GrowthLaws.{all-begin, all-go-on, grew-within, all-long}
use Rattle.pt_records.proofs.MiddleLaws.{asks-numbered}
use Rattle.pt_records.proofs.ShutSteps.{stepped-is-shut, at-own-place}
use Rattle.pt_records.specs.Middle.{below_place}
use Rattle.pt_records.proofs.ShutMiddles.{between-is-shut, within-is-shut}

-- lists of children with their numbers
pub numbered-at : {S : Type 0} (b : ℕ) (ss : List S) (i n : ℕ) (s : S) (d : Child S) → n ≡ b + i → get ss i ≡ Some s → get_or (numbered b ss) i d ≡ record { number = n; node = s }
numbered-at b [] i n s d e h = absurd (cc)
numbered-at {S} b (x ∷ ss) zero n s d e h = let same : x ≡ s = cc in ap₂ (λ u v. let c : Child S = record { number = u; node = v } in c) (omega (arith, e)) same
numbered-at b (x ∷ ss) (suc i) n s d e h = numbered-at (suc b) ss i n s d (omega (arith, e)) h

pub numbered-set : {S : Type 0} (b : ℕ) (ss : List S) (i n : ℕ) (s : S) → n ≡ b + i → set (numbered b ss) i (record { number = n; node = s }) ≡ numbered b (set ss i s)
numbered-set b [] i n s e = refl
numbered-set {S} b (x ∷ ss) zero n s e = let same : n ≡ b = omega (arith, e) in ap (λ u. let c : Child S = record { number = u; node = s } in c ∷ numbered (suc b) ss) same
numbered-set {S} b (x ∷ ss) (suc i) n s e = ap (λ cs. let c : Child S = record { number = b; node = x } in c ∷ cs) (numbered-set (suc b) ss i n s (omega (arith, e)))

pub numbered-nodes : {S : Type 0} (b : ℕ) (ss : List S) → nodes (numbered b ss) ≡ ss
numbered-nodes b [] = refl
numbered-nodes b (s ∷ ss) = ap (λ v. s ∷ v) (numbered-nodes (suc b) ss)

-- heights
pub low-get : {T A : Type 0} (d : ℕ) (ns : List (Node T A)) (i : ℕ) (n : Node T A) → AllLow d ns → get ns i ≡ Some n → height n ≤ d
low-get d [] i n l e = absurd (cc)
low-get {T} {A} d (x ∷ ns) zero n l e = let same : x ≡ n = cc in subst (λ (v : Node T A). height v ≤ d) same l.0
low-get d (x ∷ ns) (suc i) n l e = low-get d ns i n l.1 e

pub low-set : {T A : Type 0} (d : ℕ) (ns : List (Node T A)) (i : ℕ) (n : Node T A) → AllLow d ns → height n ≤ d → AllLow d (set ns i n)
low-set d [] i n l h = tt
low-set d (x ∷ ns) zero n l h = (h, l.1)
low-set d (x ∷ ns) (suc i) n l h = (l.0, low-set d ns i n l.1 h)

pub low-kids : {T A : Type 0} (d : ℕ) (kids : Nodes T A) → heights kids ≤ d → AllLow d (list_of kids)
low-kids d none h = tt
low-kids d (more n ns) h = (omega (arith, h), low-kids d ns (omega (arith, h)))

-- a firing with its record, and without
pub recorded-done : {T S : Type 0} (n : ℕ) (tag : Tag) (X : Streams T) (r : Outcome T S) (s : S) (out : Streams T) (l : Log T) → recorded n tag X r ≡ Done s out l → (k : Log T) × (r ≡ Done s out k) × (log_then k (own (record { number = n; tag = tag; inputs = X; outputs = out })) ≡ l)
recorded-done {T} n tag X (Done z o k) s out l e =
    let same : o ≡ out = cc in
    (k, cc, ap (λ (v : Streams T). let f : Firing T = record { number = n; tag = tag; inputs = X; outputs = v } in log_then k (own f)) (sym same) ∙ cc)
recorded-done n tag X (Stuck fs k) s out l e = absurd (cc)

rated-gives : {T S : Type 0} (facts : Facts T S) (step : Stepping T S) (tag : Tag) (s z : S) (X out : Streams T) (l : Log T) (r : Option (List ℕ)) → GivesRates r out → step tag s X ≡ Done z out l → rated facts r step tag s X ≡ Done z out l
rated-gives facts step tag s z X out l None g e = e
rated-gives facts step tag s z X out l (Some ns) g e = ap (λ v. rated_outcome ns (facts.made s) v) e ∙ ap (λ b. if_rated b (facts.made s) z out l) g

rated-lacks : {T S : Type 0} (facts : Facts T S) (step : Stepping T S) (tag : Tag) (s z : S) (X out : Streams T) (l : Log T) (r : Option (List ℕ)) (ns : List ℕ) → r ≡ Some ns → has_rates ns out ≡ false → step tag s X ≡ Done z out l → rated facts r step tag s X ≡ Stuck (record { path = []; firing = facts.made s; code = rate_code } ∷ []) l
rated-lacks facts step tag s z X out l r ns e g d = ap (λ v. rated facts v step tag s X) e ∙ ap (λ v. rated_outcome ns (facts.made s) v) d ∙ ap (λ b. if_rated b (facts.made s) z out l) g

rated-stuck : {T S : Type 0} (facts : Facts T S) (step : Stepping T S) (tag : Tag) (s : S) (X : Streams T) (fs : List Fault) (l : Log T) (r : Option (List ℕ)) → step tag s X ≡ Stuck fs l → rated facts r step tag s X ≡ Stuck fs l
rated-stuck facts step tag s X fs l None e = e
rated-stuck facts step tag s X fs l (Some ns) e = ap (λ v. rated_outcome ns (facts.made s) v) e

asked-sticks : {T S : Type 0} (facts : Facts T S) (step : Stepping T S) (tag : Tag) (i : ℕ) (ns : List ℕ) (cs : List Limit) (ms : List ℕ) (ss : List S) (held got left : Streams T) (d : S) (fs : List Fault) (inside : Log T) (f : Fault) → Asks facts i ns cs ms ss held got left → rated facts (rates_at cs i) step tag (get_or ss i d) got ≡ Stuck fs inside → IsIn f fs → SticksWith facts step tag i ns cs ms ss held inside f
asked-sticks facts step tag zero (n ∷ ns) (c ∷ cs) (m ∷ ms) (s ∷ ss) held got left d fs inside f a e x = (got, a.0, fs, a.1, a.2, e, x)
asked-sticks facts step tag (suc i) (n ∷ ns) (c ∷ cs) (m ∷ ms) (s ∷ ss) held got left d fs inside f a e x = asked-sticks facts step tag i ns cs ms ss (drop n held) got a.0 d fs inside f a.1 e x
asked-sticks facts step tag i [] cs ms ss held got left d fs inside f a e x = absurd a
asked-sticks facts step tag i (n ∷ ns) [] ms ss held got left d fs inside f a e x = absurd a
asked-sticks facts step tag i (n ∷ ns) (c ∷ cs) [] ss held got left d fs inside f a e x = absurd a
asked-sticks facts step tag i (n ∷ ns) (c ∷ cs) (m ∷ ms) [] held got left d fs inside f a e x = absurd a

-- a child that was asked, with its step below the composite
module _ {T A : Type 0} (rows : Rows T A) (m : Meets) (d : ℕ) (tag : Tag) (net : Net) (limits : List Limit) (ms : List ℕ) (now : List (Node T A)) (held : Streams T) (i : ℕ) (child : Node T A) (got left : Streams T) (a : IsAsked rows net limits ms now held i child got left) (low : AllLow d now) where
  abbrev pub its : Child (Node T A)
  its = record { number = i; node = child }

  pub its-place : (c : Child (Node T A)) → get_or (numbered 0 now) i c ≡ its
  its-place c = numbered-at 0 now i i child c (omega arith) a.state

  pub its-asks : Asks (child_facts (facts_of rows)) i net.places limits ms (numbered 0 now) held got left
  its-asks = asks-numbered (facts_of rows) 0 i net.places limits ms now held got left a.asks

  its-step : (k : ℕ) (r : Outcome T (Node T A)) → step_at rows k (height child) (below_child i m) tag child got ≡ r → steps_below rows k d m tag (get_or (numbered 0 now) i its) got ≡ with_number i r
  its-step k r e = ap (λ c. steps_below rows k d m tag c got) (its-place its) ∙ ap (λ v. with_number i v) (levels-agree rows k d (height child) (below_child i m) tag child got (low-get d now i child low a.state) (omega arith) ∙ e)

  pub its-done : (k : ℕ) (next : Node T A) (out : Streams T) (l : Log T) → step_at rows k (height child) (below_child i m) tag child got ≡ Done next out l → GivesRates (rates_at limits i) out →
      rated (child_facts (facts_of rows)) (rates_at limits i) (steps_below rows k d m) tag (get_or (numbered 0 now) i its) got ≡ Done (record { number = i; node = next }) out l
  its-done k next out l e g = rated-gives (child_facts (facts_of rows)) (steps_below rows k d m) tag (get_or (numbered 0 now) i its) (record { number = i; node = next }) got out l (rates_at limits i) g (its-step k (Done next out l) e)

  pub its-unrated : (k : ℕ) (next : Node T A) (out : Streams T) (l : Log T) (ns : List ℕ) → step_at rows k (height child) (below_child i m) tag child got ≡ Done next out l → rates_at limits i ≡ Some ns → has_rates ns out ≡ false →
      rated (child_facts (facts_of rows)) (rates_at limits i) (steps_below rows k d m) tag (get_or (numbered 0 now) i its) got ≡ Stuck (record { path = []; firing = made_of child; code = rate_code } ∷ []) l
  its-unrated k next out l ns e g h =
      rated-lacks (child_facts (facts_of rows)) (steps_below rows k d m) tag (get_or (numbered 0 now) i its) (record { number = i; node = next }) got out l (rates_at limits i) ns g h (its-step k (Done next out l) e) ∙
      ap (λ (c : Child (Node T A)). let r : Outcome T (Child (Node T A)) = Stuck (record { path = []; firing = made_of c.node; code = rate_code } ∷ []) l in r) (its-place its)

  pub its-stuck : (k : ℕ) (fs : List Fault) (l : Log T) → step_at rows k (height child) (below_child i m) tag child got ≡ Stuck fs l → rated (child_facts (facts_of rows)) (rates_at limits i) (steps_below rows k d m) tag (get_or (numbered 0 now) i its) got ≡ Stuck fs l
  its-stuck k fs l e = rated-stuck (child_facts (facts_of rows)) (steps_below rows k d m) tag (get_or (numbered 0 now) i its) got fs l (rates_at limits i) (its-step k (Stuck fs l) e)

  pub its-log : (k : ℕ) → log_in (steps_below rows k d m tag (get_or (numbered 0 now) i its) got) ≡ log_in (step_at rows k (height child) (below_child i m) tag child got)
  its-log k = ap (λ r. log_in r) (its-step k (step_at rows k (height child) (below_child i m) tag child got) refl) ∙ numbered-log (step_at rows k (height child) (below_child i m) tag child got)
    where
      numbered-log : (r : Outcome T (Node T A)) → log_in (with_number i r) ≡ log_in r
      numbered-log (Done s out l) = refl
      numbered-log (Stuck fs l) = refl

-- before any firing
pub so-far-begins : {T A : Type 0} → SoFarBegins T A
so-far-begins {T} {A} rows m tag net limits kids start olds e f h o = record {
  logs = silents (numbered 0 (list_of kids));
  run = (0, λ k l. begins-with (child_facts (facts_of rows)) (steps_below rows k (heights kids) m) tag net limits (numbered 0 (list_of kids)) start e (numbered-length 0 (list_of kids) ∙ f) h);
  low = low-kids (heights kids) kids (omega arith);
  kept = all-begin (numbered 0 (list_of kids)) olds (numbered-length 0 (list_of kids) ∙ o);
}

-- a child's firing
pub so-far-goes-on : {T A : Type 0} → SoFarGoesOn T A
so-far-goes-on {T} {A} rows m d tag net limits kids start olds ms now held news s i child next got left out k a b fires g = record {
  logs = logs_then i fires.log s.logs;
  run = (s.run.0 + fires.done.0, λ j o. gone j (s.run.1 j (omega (arith, o))) (fires.done.1 j (omega (arith, o))));
  low = low-set d now i next s.low (lower (s.run.0 + fires.done.0) (fires.done.1 (s.run.0 + fires.done.0) (omega arith)));
  kept = all-go-on i fires.log s.logs olds news k b s.kept fires.kept;
}
  where
    facts : Facts T (Child (Node T A))
    facts = child_facts (facts_of rows)

    lower : (j : ℕ) → Step j rows (below_child i m) child tag got ≡ Done next out fires.log → height next ≤ d
    lower j e =
        let r = recorded-done (made_of child) tag got (step_at rows j (height child) (below_child i m) tag child got) next out fires.log e in
        let keeps = firing-keeps rows j (height child) (below_child i m) tag child next got out r.0 r.1 in
        let under = low-get d now i child s.low a.state in
        omega (arith, keeps.0, under)

    gone : (j : ℕ) → RunningWith (child_facts (facts_of rows)) (steps_below rows j d m) tag net limits (numbered 0 kids) start ms (numbered 0 now) held s.logs → Step j rows (below_child i m) child tag got ≡ Done next out fires.log →
        RunningWith (child_facts (facts_of rows)) (steps_below rows j d m) tag net limits (numbered 0 kids) start (set ms i (get_or ms i 0 + 1)) (numbered 0 (set now i next)) (plus left (puts i out net.sources)) (logs_then i fires.log s.logs)
    gone j w e =
        let r = recorded-done (made_of child) tag got (step_at rows j (height child) (below_child i m) tag child got) next out fires.log e in
        let c : Child (Node T A) = record { number = i; node = child } in
        let z : Child (Node T A) = record { number = i; node = next } in
        let fired = asked-fires (child_facts (facts_of rows)) (steps_below rows j d m) tag i net.places limits ms (numbered 0 now) held got left z out r.0 c (its-asks rows m d tag net limits ms now held i child got left a s.low) (its-done rows m d tag net limits ms now held i child got left a s.low j next out r.0 r.1 g) in
        let on = running-step-with (child_facts (facts_of rows)) (steps_below rows j d m) tag net limits (numbered 0 kids) start ms (numbered 0 now) held s.logs w i _ _ _ r.0 _ fired in
        let same : log_then r.0 (own (record { number = made_of (get_or (numbered 0 now) i c).node; tag = tag; inputs = got; outputs = out })) ≡ fires.log =
        ap (λ (x : Child (Node T A)). let f : Firing T = record { number = made_of x.node; tag = tag; inputs = got; outputs = out } in log_then r.0 (own f)) (its-place rows m d tag net limits ms now held i child got left a s.low c) ∙ r.2
        in
        subst (λ (l : Log T). RunningWith (child_facts (facts_of rows)) (steps_below rows j d m) tag net limits (numbered 0 kids) start (set ms i (get_or ms i 0 + 1)) (numbered 0 (set now i next)) (plus left (puts i out net.sources)) (logs_then i l s.logs)) same
        (subst (λ ns. RunningWith (child_facts (facts_of rows)) (steps_below rows j d m) tag net limits (numbered 0 kids) start (set ms i (get_or ms i 0 + 1)) ns (plus left (puts i out net.sources)) (logs_then i (log_then r.0 (own (record { number = made_of (get_or (numbered 0 now) i c).node; tag = tag; inputs = got; outputs = out }))) s.logs)) (numbered-set 0 now i i next (omega arith)) on)

-- an SDF composite
pub sdf-is-done : {T A : Type 0} → SdfIsDone T A
sdf-is-done {T} {A} rows m tag h c p X kids inputs e olds ms now held news s q = record {
  log = within_firing h.made (log_below s.logs);
  done = (
    s.run.0 + suc (total ms),
    λ k o. sdf-ends rows k (heights kids) m tag h c p X kids inputs ms (numbered 0 now) held s.logs (s.run.1 k (omega (arith, o))) q (omega (arith, o)) ∙
        ap (λ ns. let r : Outcome T (Node T A) = Done (Composite (fired_at tag h) c (Sdf p (sdf_left p X inputs held)) (nodes_of ns)) (firsts (times (iterations p (sdf_start p X inputs)) p.gives) (outlets_of p.net held)) (within_firing h.made (log_below s.logs)) in r) (numbered-nodes 0 now),
  );
  kept = grew-within h.made s.logs e olds news s.kept;
}

sdf-below : {T A : Type 0} (rows : Rows T A) (m : Meets) (tag : Tag) (h : Past) (c : Core T) (p : SdfPlan) (X : Streams T) (kids : Nodes T A) (inputs : Streams T) (k : ℕ) (ms : List ℕ) (now : List (Child (Node T A))) (held : Streams T) (ls : List (Log T)) → SdfRun rows k (heights kids) m tag p X kids inputs ms now held ls → total ms ≤ k →
    LogBelow (within_firing h.made (log_below ls)) (log_in (step_at rows k (suc (heights kids)) m tag (Composite h c (Sdf p X) kids) inputs))
unfolding step_at
sdf-below rows m tag h c p X kids inputs k ms now held ls w o =
    let n = iterations p (sdf_start p X inputs) in
    subst (λ v. LogBelow (within_firing h.made (log_below ls)) v) (sym (log-as-node tag h c (Sdf p) _))
    (within-below h.made _ _ (run-is-prefix (child_facts (facts_of rows)) (steps_below rows k (heights kids) m) tag p.net (sdf_bounds p X inputs) (numbered 0 (list_of kids)) (sdf_start p X inputs) ms now held ls w (fired_all n p.repetitions) (leaving n p) k o))

pub sdf-is-left-off : {T A : Type 0} → SdfIsLeftOff T A
sdf-is-left-off rows law m tag h c p X kids inputs e olds ms now held news s = record {
  log = within_firing h.made (log_below s.logs);
  beginning = (s.run.0 + total ms, λ k o. sdf-below rows m tag h c p X kids inputs k ms (numbered 0 now) held s.logs (s.run.1 k (omega (arith, o))) (omega (arith, o)));
  kept = grew-within h.made s.logs e olds news s.kept;
  part = between-is-shut rows law m tag h c p X kids inputs ms now held s.logs s.run.0 s.run.1;
}

-- in the middle of a firing of a child
module _ {T A : Type 0} (rows : Rows T A) (m : Meets) (tag : Tag) (h : Past) (c : Core T) (p : SdfPlan) (X : Streams T) (kids : Nodes T A) (inputs : Streams T) (e : Entry T) (olds : List (Kept T)) (ms : List ℕ) (now : List (Node T A)) (held : Streams T) (news : List (Kept T)) (s : SdfSoFar rows m tag p X kids inputs olds ms now held news)
    (i : ℕ) (child : Node T A) (got left : Streams T) (k : Kept T) (a : IsAsked rows p.net (sdf_bounds p X inputs) ms now held i child got left) (b : i < length news) where
  abbrev at_fuel : ℕ → Outcome T (Node T A)
  at_fuel j = step_at rows j (suc (heights kids)) m tag (Composite h c (Sdf p X) kids) inputs

  abbrev so_far : Log T → Log T
  so_far l = within_firing h.made (log_below (logs_then i l s.logs))

  pub within-one : (j : ℕ) → s.run.0 ≤ j → total ms < j → (l : Log T) → LogBelow l (log_in (step_at rows j (height child) (below_child i m) tag child got)) → LogBelow (so_far l) (log_in (at_fuel j))
  within-one j o q l g =
      sdf-is-prefix rows j (heights kids) m tag h c p X kids inputs ms (numbered 0 now) held s.logs (s.run.1 j o) i got left (record { number = i; node = child }) (its-asks rows m (heights kids) tag p.net (sdf_bounds p X inputs) ms now held i child got left a s.low)
      l (subst (λ v. LogBelow l v) (sym (its-log rows m (heights kids) tag p.net (sdf_bounds p X inputs) ms now held i child got left a s.low j)) g) q

  pub stuck-one : (j : ℕ) → s.run.0 ≤ j → total ms < j → (fs : List Fault) (n l : Log T) (f : Fault) → rated (child_facts (facts_of rows)) (rates_at (sdf_bounds p X inputs) i) (steps_below rows j (heights kids) m) tag (get_or (numbered 0 now) i (record { number = i; node = child })) got ≡ Stuck fs n → IsIn f fs →
      LogBelow l (log_in (step_at rows j (height child) (below_child i m) tag child got)) → IsStuckAt (record { path = i ∷ f.path; firing = f.firing; code = f.code }) (so_far l) (at_fuel j)
  stuck-one j o q fs n l f r x g =
      let with_place = asked-sticks (child_facts (facts_of rows)) (steps_below rows j (heights kids) m) tag i p.net.places (sdf_bounds p X inputs) ms (numbered 0 now) held got left (record { number = i; node = child }) fs n f (its-asks rows m (heights kids) tag p.net (sdf_bounds p X inputs) ms now held i child got left a s.low) r x in
      let stuck = sdf-sticks rows j (heights kids) m tag h c p X kids inputs ms (numbered 0 now) held s.logs (s.run.1 j o) i n f with_place q in
      (stuck.0, stuck.1, stuck.2, stuck.3, subst (λ v. LogBelow (so_far l) (log_in v)) stuck.2 (within-one j o q l g))

  pub grew : (l : Log T) → GrewBy l (kept_at news i) k → GrewBy (so_far l) (kept_by e olds) (kept_by e (set news i k))
  grew l g = grew-within h.made (logs_then i l s.logs) e olds (set news i k) (all-go-on i l s.logs olds news k b s.kept g)

  -- what is logged is shut, where the child's part of it is
  pub shut-one : LawfulRows rows → (place : Option Fault) (l : Log T) (k₀ : ℕ) → ((j : ℕ) → k₀ ≤ j → LogBelow l (log_in (step_at rows j (height child) (below_child i m) tag child got))) → IsShut rows (below_child i m) child tag got place l → IsShut rows m (Composite h c (Sdf p X) kids) tag inputs (below_place i place) (so_far l)
  shut-one law place l k₀ below shut =
      within-is-shut rows law m tag h c p X kids inputs ms now held s.logs i child got left place l a.state a.asks (low-get (heights kids) now i child s.low a.state) (omega (arith, b, all-long s.logs olds news s.kept)) shut (s.run.0 + k₀) (λ j o. (s.run.1 j (omega (arith, o)), below j (omega (arith, o))))

pub sdf-is-left-off-within : {T A : Type 0} → SdfIsLeftOffWithin T A
sdf-is-left-off-within rows law m tag h c p X kids inputs e olds ms now held news s i child got left k a b off = record {
  log = within_firing h.made (log_below (logs_then i off.log s.logs));
  beginning = (s.run.0 + off.beginning.0 + suc (total ms), λ j o. within-one rows m tag h c p X kids inputs e olds ms now held news s i child got left k a b j (omega (arith, o)) (omega (arith, o)) off.log (off.beginning.1 j (omega (arith, o))));
  kept = grew rows m tag h c p X kids inputs e olds ms now held news s i child got left k a b off.log off.kept;
  part = shut-one rows m tag h c p X kids inputs e olds ms now held news s i child got left k a b law None off.log off.beginning.0 off.beginning.1 off.part;
}

pub sdf-is-stuck : {T A : Type 0} → SdfIsStuck T A
sdf-is-stuck rows law m tag h c p X kids inputs e olds ms now held news s i child got left k f a b sticks = record {
  log = within_firing h.made (log_below (logs_then i sticks.log s.logs));
  stuck = (
    s.run.0 + sticks.stuck.0 + suc (total ms),
    λ j o.
        let r = sticks.stuck.1 j (omega (arith, o)) in
        stuck-one rows m tag h c p X kids inputs e olds ms now held news s i child got left k a b j (omega (arith, o)) (omega (arith, o)) r.0 r.1 sticks.log f
        (its-stuck rows m (heights kids) tag p.net (sdf_bounds p X inputs) ms now held i child got left a s.low j r.0 r.1 r.2) r.3 (subst (λ v. LogBelow sticks.log (log_in v)) (sym r.2) r.4),
  );
  kept = grew rows m tag h c p X kids inputs e olds ms now held news s i child got left k a b sticks.log sticks.kept;
  part = shut-one rows m tag h c p X kids inputs e olds ms now held news s i child got left k a b law (Some f) sticks.log sticks.stuck.0 (λ j o. let r = sticks.stuck.1 j o in subst (λ v. LogBelow sticks.log (log_in v)) (sym r.2) r.4) sticks.part;
}

pub sdf-is-unrated : {T A : Type 0} → SdfIsUnrated T A
sdf-is-unrated rows law m tag h c p X kids inputs e olds ms now held news s i child next got left out k ns a b fires g lacks = record {
  log = within_firing h.made (log_below (logs_then i fires.log s.logs));
  stuck = (
    s.run.0 + fires.done.0 + suc (total ms),
    λ j o.
        let r = fires.done.1 j (omega (arith, o)) in
        stuck-one rows m tag h c p X kids inputs e olds ms now held news s i child got left k a b j (omega (arith, o)) (omega (arith, o)) (record { path = []; firing = made_of child; code = rate_code } ∷ []) fires.log fires.log (record { path = []; firing = made_of child; code = rate_code })
        (its-unrated rows m (heights kids) tag p.net (sdf_bounds p X inputs) ms now held i child got left a s.low j next out fires.log ns r g lacks) (inl refl) (subst (λ v. LogBelow fires.log (log_in v)) (sym r) (λ q. IsPrefix-refl (fires.log q))),
  );
  kept = grew rows m tag h c p X kids inputs e olds ms now held news s i child got left k a b fires.log fires.kept;
  part = shut-one rows m tag h c p X kids inputs e olds ms now held news s i child got left k a b law (Some (record { path = []; firing = made_of child; code = rate_code })) fires.log fires.done.0 (λ j o. subst (λ v. LogBelow fires.log (log_in v)) (sym (fires.done.1 j o)) (λ q. IsPrefix-refl (fires.log q)))
      (at-own-place rows (below_child i m) child tag got fires.log (record { path = []; firing = made_of child; code = rate_code }) refl refl
      (subst (λ v. IsShut rows (below_child i m) child tag got None (log_in v)) (fires.done.1 fires.done.0 (omega arith)) (stepped-is-shut rows law (below_child i m) child fires.done.0 (height child) (omega arith) tag got)));
}
