-- A stream function explained: the firings that it makes, what they take, and what they give.
use Rattle.std.proofs.Common.{◌≡◌, ℕ, zero, suc, List, [], ◌∷◌, ◌++◌, Bool, true, false, nat_le, length, take, drop, Option, Some, None, ◌≤◌, refl, sym, ap, ap₂, subst, arith, ◌∙◌, append_assoc}
use Rattle.std.proofs.lemmas.List.{take-append-drop}
use Rattle.std.proofs.Math.Path.{fun_ext}
use Rattle.pt_meaning.specs.Basics.{Tag, Streams, at, Log, silent, log_then, own}
use Rattle.pt_meaning.specs.Machine.{Need, Over, Counts, Any, Outcome, Done, Stuck, Stepping, Facts, Front, Lacks, Ends, Takes, front, counted, if_long}
use Rattle.pt_meaning.specs.Flow.{Flow, Stopped, flow, halted, after_firing, on_outcome, on_front}
use Rattle.pt_meaning.specs.Rounds.{rated, rated_outcome, if_rated, has_rates}
use Rattle.pt_meaning.specs.Closed.{Begun}
use Rattle.pt_laws.specs.LogsOfRuns.{log_in}
use Rattle.pt_meaning.specs.Streams.{IsPrefix}
use Rattle.pt_meaning.specs.Closed.{inputs_at, outputs_at, begun_at}
use Rattle.pt_laws.specs.Explained.{Turned, PartOf, of_turns}
use Rattle.pt_laws.proofs.Order.{at-joined, IsPrefix-append}
use Rattle.pt_laws.proofs.FlowLaws.{IsFree}
use Rattle.pt_laws.proofs.LogLaws.{log-rated}

-- what is taken from streams is in them, and so is what is left
module _ {T : Type 0} where
  if_long-parts : (b : Bool) (n : ℕ) (xs : List T) (X : Streams T) (f : Front T) (got left : Streams T) → ((g l : Streams T) → f ≡ Takes g l → (q : ℕ) → at X q ≡ at g q ++ at l q) → if_long b n xs f ≡ Takes got left → (q : ℕ) → at (xs ∷ X) q ≡ at got q ++ at left q
  if_long-parts false n xs X f got left ih e q = absurd (cc)
  if_long-parts true n xs X Lacks got left ih e q = absurd (cc)
  if_long-parts true n xs X Ends got left ih e q = absurd (cc)
  if_long-parts true n xs X (Takes g l) got left ih e zero = let a : got ≡ take n xs ∷ g = cc in let b : left ≡ drop n xs ∷ l = cc in rw (a, b) (sym (take-append-drop n xs))
  if_long-parts true n xs X (Takes g l) got left ih e (suc q) = let a : got ≡ take n xs ∷ g = cc in let b : left ≡ drop n xs ∷ l = cc in rw (a, b) (ih g l refl q)

  counted-parts : (ns : List ℕ) (X got left : Streams T) → counted ns X ≡ Takes got left → (q : ℕ) → at X q ≡ at got q ++ at left q
  counted-parts [] [] got left e q = let a : got ≡ [] = cc in let b : left ≡ [] = cc in rw (a, b) refl
  counted-parts [] (xs ∷ X) got left e q = absurd (cc)
  counted-parts (n ∷ ns) [] got left e q = absurd (cc)
  counted-parts (n ∷ ns) (xs ∷ X) got left e q = if_long-parts (nat_le n (length xs)) n xs X (counted ns X) got left (counted-parts ns X) e q

  pub front-parts : (need : Need) (X got left : Streams T) → front need X ≡ Takes got left → (q : ℕ) → at X q ≡ at got q ++ at left q
  front-parts Over X got left e q = absurd (cc)
  front-parts (Counts ns) X got left e q = counted-parts ns X got left e q
  front-parts Any X got left e q = absurd (cc)

-- the firings of a stream function, and the one that it doesn't finish
module _ {T S : Type 0} (facts : Facts T S) (step : Stepping T S) (tag : Tag) where
  abbrev pub turns_on : (S → Streams T → List (Turned T)) → S → Streams T → Streams T → Outcome T S → List (Turned T)
  turns_on more s got left (Done z out l) = record { record_of = record { number = facts.made s; tag = tag; inputs = got; outputs = out }; inside = l } ∷ more z left
  turns_on more s got left (Stuck fs l) = []

  abbrev pub turns_front : (S → Streams T → List (Turned T)) → S → Front T → List (Turned T)
  turns_front more s Lacks = []
  turns_front more s Ends = []
  turns_front more s (Takes got left) = turns_on more s got left (step tag s got)

  abbrev pub turns_of : ℕ → S → Streams T → List (Turned T)
  turns_of zero s X = []
  turns_of (suc n) s X = turns_front (turns_of n) s (front (facts.need s) X)

  abbrev pub stuck_on : (S → Streams T → Option (Begun T)) → Streams T → Streams T → Outcome T S → Option (Begun T)
  stuck_on more got left (Done z out l) = more z left
  stuck_on more got left (Stuck fs l) = Some (record { tag = tag; inputs = got })

  abbrev pub stuck_front : (S → Streams T → Option (Begun T)) → S → Front T → Option (Begun T)
  stuck_front more s Lacks = None
  stuck_front more s Ends = None
  stuck_front more s (Takes got left) = stuck_on more got left (step tag s got)

  abbrev pub stuck_of : ℕ → S → Streams T → Option (Begun T)
  stuck_of zero s X = None
  stuck_of (suc n) s X = stuck_front (stuck_of n) s (front (facts.need s) X)

-- what holds of a stream function that starts in s on the streams X
pub record FlowIs {T S : Type 0} (facts : Facts T S) (step : Stepping T S) (tag : Tag) (s : S) (X : Streams T) (f : Flow T S) (ts : List (Turned T)) (way : Option (Begun T)) : Type 0 where
  pub part_is : PartOf facts step s f.log ts way f.state
  pub used : (q : ℕ) → at X q ≡ of_turns (inputs_at q) ts ++ at f.left q
  pub begins : (q : ℕ) → IsPrefix (begun_at way q) (at f.left q)
  pub gives : (port : ℕ) → at f.outputs port ≡ of_turns (outputs_at port) ts
  pub tagged : (b : Begun T) → way ≡ Some b → b.tag ≡ tag

log-quiet : {T : Type 0} (l : Log T) → l ≡ log_then silent l
log-quiet l = refl

module _ {T S : Type 0} (facts : Facts T S) (step : Stepping T S) (r : Option (List ℕ)) (tag : Tag) where
  abbrev rated_step : Stepping T S
  rated_step = rated facts r step

  halted-is : (s : S) (X : Streams T) (f : Flow T S) → f.log ≡ silent → f.state ≡ s → f.left ≡ X → f.outputs ≡ [] → FlowIs facts step tag s X f [] None
  halted-is s X f e z l o = record {
    part_is = record { first = silent; rest = silent; chain = (z, refl); ends = refl; whole = e };
    used = λ q. sym (ap (λ (Y : Streams T). at Y q) l);
    begins = λ q. tt;
    gives = λ port. ap (λ (Y : Streams T). at Y port) o;
    tagged = λ b g. absurd (clash b g);
  }
    where
      clash : (b : Begun T) → None ≡ Some b → ⊥
      clash b e = cc

  -- a rated step that is done is a step that is done
  rated-done : (tag : Tag) (s : S) (X : Streams T) (z : S) (out : Streams T) (l : Log T) → rated facts r step tag s X ≡ Done z out l → step tag s X ≡ Done z out l
  rated-done tag s X z out l e = go r e
    where
      if-done : (b : Bool) (n : ℕ) (y : S) (o : Streams T) (k : Log T) → if_rated b n y o k ≡ Done z out l → Done y o k ≡ Done z out l
      if-done true n y o k e = e
      if-done false n y o k e = absurd (cc)

      outcome : (ns : List ℕ) (n : ℕ) (q : Outcome T S) → rated_outcome ns n q ≡ Done z out l → q ≡ Done z out l
      outcome ns n (Done y o k) e = if-done (has_rates ns o) n y o k e
      outcome ns n (Stuck fs k) e = absurd (cc)

      go : (r : Option (List ℕ)) → rated facts r step tag s X ≡ Done z out l → step tag s X ≡ Done z out l
      go None e = e
      go (Some ns) e = outcome ns (facts.made s) (step tag s X) e

  on-is : (n : ℕ) → ((s : S) (X : Streams T) → FlowIs facts step tag s X (flow facts rated_step tag n s X) (turns_of facts rated_step tag n s X) (stuck_of facts rated_step tag n s X)) → (s : S) (X got left : Streams T) → ((q : ℕ) → at X q ≡ at got q ++ at left q) → (o : Outcome T S) → rated_step tag s got ≡ o →
      FlowIs facts step tag s X (on_outcome facts rated_step tag (flow facts rated_step tag n) s X got left o) (turns_on facts rated_step tag (turns_of facts rated_step tag n) s got left o) (stuck_on facts rated_step tag (stuck_of facts rated_step tag n) got left o)
  on-is n ih s X got left used (Done z out l) e =
      let f = ih z left in
      let t : Turned T = record { record_of = record { number = facts.made s; tag = tag; inputs = got; outputs = out }; inside = l } in
      record {
        part_is = record {
          first = log_then (log_then l (own t.record_of)) f.part_is.first;
          rest = f.part_is.rest;
          chain = (z, f.part_is.first, refl, rated-done tag s got z out l e, f.part_is.chain, refl);
          ends = f.part_is.ends;
          whole = ap (λ v. log_then (log_then l (own t.record_of)) v) f.part_is.whole ∙ fun_ext (λ p. sym (append_assoc (log_then l (own t.record_of) p) (f.part_is.first p) (f.part_is.rest p)));
        };
        used = λ q. used q ∙ ap (λ v. at got q ++ v) (f.used q) ∙ sym (append_assoc (at got q) (of_turns (inputs_at q) (turns_of facts rated_step tag n z left)) (at (flow facts rated_step tag n z left).left q));
        begins = f.begins;
        gives = λ port. at-joined out (flow facts rated_step tag n z left).outputs port ∙ ap (λ v. at out port ++ v) (f.gives port);
        tagged = f.tagged;
      }
  on-is n ih s X got left used (Stuck fs l) e = record {
    part_is = record { first = silent; rest = l; chain = (refl, refl); ends = sym (ap (λ v. log_in v) e) ∙ log-rated facts r step tag s got; whole = refl };
    used = λ q. refl;
    begins = λ q. subst (λ v. IsPrefix (at got q) v) (sym (used q)) (IsPrefix-append (at got q) (at left q));
    gives = λ port. refl;
    tagged = λ b g. sym (ap (λ (v : Begun T). v.tag) (same-begun b g));
  }
    where
      same-begun : (b : Begun T) → Some (record { tag = tag; inputs = got }) ≡ Some b → record { tag = tag; inputs = got } ≡ b
      same-begun b g = cc

  front-is : (n : ℕ) → ((s : S) (X : Streams T) → FlowIs facts step tag s X (flow facts rated_step tag n s X) (turns_of facts rated_step tag n s X) (stuck_of facts rated_step tag n s X)) → (s : S) (X : Streams T) (f : Front T) → front (facts.need s) X ≡ f →
      FlowIs facts step tag s X (on_front facts rated_step tag (flow facts rated_step tag n) s X f) (turns_front facts rated_step tag (turns_of facts rated_step tag n) s f) (stuck_front facts rated_step tag (stuck_of facts rated_step tag n) s f)
  front-is n ih s X Lacks e = halted-is s X _ refl refl refl refl
  front-is n ih s X Ends e = halted-is s X _ refl refl refl refl
  front-is n ih s X (Takes got left) e = on-is n ih s X got left (front-parts (facts.need s) X got left e) (rated_step tag s got) refl

  pub flow-is : (n : ℕ) (s : S) (X : Streams T) → FlowIs facts step tag s X (flow facts rated_step tag n s X) (turns_of facts rated_step tag n s X) (stuck_of facts rated_step tag n s X)
  unfolding flow
  flow-is zero s X = halted-is s X _ refl refl refl refl
  flow-is (suc n) s X = front-is n (flow-is n) s X (front (facts.need s) X) refl

-- The firing that a stream function doesn't finish: it made some before, and this is the next one, on the tokens that its need asks for.
pub record Stopping {T S : Type 0} (facts : Facts T S) (step : Stepping T S) (tag : Tag) (n : ℕ) (s : S) (X : Streams T) (z : S) (b : Begun T) : Type 0 where
  pub made : ℕ
  pub left : Streams T
  pub before : suc made ≤ n
  pub fired : (flow facts step tag made s X).fired ≡ made
  pub state : (flow facts step tag made s X).state ≡ z
  pub takes : front (facts.need z) (flow facts step tag made s X).left ≡ Takes b.inputs left

module _ {T S : Type 0} (facts : Facts T S) (step : Stepping T S) (tag : Tag) where
  none-stops : (b : Begun T) → None ≡ Some b → ⊥
  none-stops b e = cc

  pub stopping : (n : ℕ) (s : S) (X : Streams T) (b : Begun T) → stuck_of facts step tag n s X ≡ Some b → Stopping facts step tag n s X (flow facts step tag n s X).state b
  unfolding flow
  stopping zero s X b e = absurd (none-stops b e)
  stopping (suc n) s X b e = by_front (front (facts.need s) X) refl e (λ z left. stopping n z left b)
    where
      some-begun : (got : Streams T) → Some (record { tag = tag; inputs = got }) ≡ Some b → got ≡ b.inputs
      some-begun got g = ap (λ (v : Begun T). v.inputs) (same g)
        where
          same : Some (record { tag = tag; inputs = got }) ≡ Some b → record { tag = tag; inputs = got } ≡ b
          same g = cc

      on-fired : (got left : Streams T) → front (facts.need s) X ≡ Takes got left → (z : S) (out : Streams T) (l : Log T) → step tag s got ≡ Done z out l → (m : ℕ) →
          on_front facts step tag (flow facts step tag m) s X (front (facts.need s) X) ≡ after_firing out (log_then l (own (record { number = facts.made s; tag = tag; inputs = got; outputs = out }))) (flow facts step tag m z left)
      on-fired got left f z out l d m = ap (λ v. on_front facts step tag (flow facts step tag m) s X v) f ∙ ap (λ r. on_outcome facts step tag (flow facts step tag m) s X got left r) d

      by_outcome : (got left : Streams T) → front (facts.need s) X ≡ Takes got left → (o : Outcome T S) → step tag s got ≡ o → stuck_on facts step tag (stuck_of facts step tag n) got left o ≡ Some b → ((z : S) (left : Streams T) → stuck_of facts step tag n z left ≡ Some b → Stopping facts step tag n z left (flow facts step tag n z left).state b) →
          Stopping facts step tag (suc n) s X (on_front facts step tag (flow facts step tag n) s X (front (facts.need s) X)).state b
      by_outcome got left f (Done z out l) d e ih =
          let r = ih z left e in
          let all = on-fired got left f z out l d in
          record {
            made = suc r.made;
            left = r.left;
            before = omega (arith, r.before);
            fired = ap (λ (v : Flow T S). v.fired) (all r.made) ∙ ap (λ v. suc v) r.fired;
            state = ap (λ (v : Flow T S). v.state) (all r.made) ∙ r.state ∙ sym (ap (λ (v : Flow T S). v.state) (all n));
            takes = ap₂ (λ (v : S) (w : Streams T). front (facts.need v) w) (ap (λ (v : Flow T S). v.state) (all n)) (ap (λ (v : Flow T S). v.left) (all r.made)) ∙ r.takes;
          }
      by_outcome got left f (Stuck fs l) d e ih =
          let halts : on_front facts step tag (flow facts step tag n) s X (front (facts.need s) X) ≡ halted (Stopped fs) s X l = ap (λ v. on_front facts step tag (flow facts step tag n) s X v) f ∙ ap (λ r. on_outcome facts step tag (flow facts step tag n) s X got left r) d in
          record {
            made = 0;
            left = left;
            before = omega arith;
            fired = refl;
            state = sym (ap (λ (v : Flow T S). v.state) halts);
            takes = ap (λ (v : S). front (facts.need v) X) (ap (λ (v : Flow T S). v.state) halts) ∙ f ∙ ap (λ v. Takes v left) (some-begun got e);
          }

      by_front : (f : Front T) → front (facts.need s) X ≡ f → stuck_front facts step tag (stuck_of facts step tag n) s f ≡ Some b → ((z : S) (left : Streams T) → stuck_of facts step tag n z left ≡ Some b → Stopping facts step tag n z left (flow facts step tag n z left).state b) →
          Stopping facts step tag (suc n) s X (on_front facts step tag (flow facts step tag n) s X (front (facts.need s) X)).state b
      by_front Lacks f e ih = absurd (none-stops b e)
      by_front Ends f e ih = absurd (none-stops b e)
      by_front (Takes got left) f e ih = by_outcome got left f (step tag s got) refl e ih

-- a stream function that isn't stuck has no unfinished firing
module _ {T S : Type 0} (facts : Facts T S) (step : Stepping T S) (tag : Tag) where
  on-free : (n : ℕ) → ((s : S) (X : Streams T) → IsFree (flow facts step tag n s X).stop → stuck_of facts step tag n s X ≡ None) → (s : S) (X got left : Streams T) (o : Outcome T S) → IsFree (on_outcome facts step tag (flow facts step tag n) s X got left o).stop →
      stuck_on facts step tag (stuck_of facts step tag n) got left o ≡ None
  on-free n ih s X got left (Done z out l) f = ih z left f
  on-free n ih s X got left (Stuck fs l) f = absurd f

  front-free : (n : ℕ) → ((s : S) (X : Streams T) → IsFree (flow facts step tag n s X).stop → stuck_of facts step tag n s X ≡ None) → (s : S) (X : Streams T) (f : Front T) → IsFree (on_front facts step tag (flow facts step tag n) s X f).stop → stuck_front facts step tag (stuck_of facts step tag n) s f ≡ None
  front-free n ih s X Lacks f = refl
  front-free n ih s X Ends f = refl
  front-free n ih s X (Takes got left) f = on-free n ih s X got left (step tag s got) f

  pub free-unstuck : (n : ℕ) (s : S) (X : Streams T) → IsFree (flow facts step tag n s X).stop → stuck_of facts step tag n s X ≡ None
  unfolding flow
  free-unstuck zero s X f = refl
  free-unstuck (suc n) s X f = front-free n (free-unstuck n) s X (front (facts.need s) X) f
