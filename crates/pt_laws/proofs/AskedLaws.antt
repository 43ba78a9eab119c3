-- A child that is asked in a run of firings is asked at a round.
use Rattle.std.proofs.Common.{◌≡◌, ℕ, zero, suc, List, [], ◌∷◌, ◌++◌, length, take, drop, Some, refl, sym, ap, subst, arith, ◌∙◌}
use Rattle.std.proofs.lemmas.List.{length-take-le}
use Rattle.pt_meaning.specs.Basics.{Tag, Streams, Below, own}
use Rattle.pt_meaning.specs.Machine.{Outcome, Done, Stuck, Stepping, Facts, Front, Lacks, Ends, Takes, front}
use Rattle.pt_meaning.specs.Flow.{Flow, flow, on_outcome, on_front}
use Rattle.pt_meaning.specs.Rounds.{Net, Limit, rated, round}
use Rattle.pt_meaning.specs.Dataflow.{states_of, left_by, skip_places}
use Rattle.pt_meaning.specs.Modal.{get}
use Rattle.pt_meaning.specs.Running.{runs, total, MadeAll, Running, Fits, Asks}
use Rattle.pt_meaning.specs.Asked.{AsksOn, AsksInRounds}
use Rattle.pt_laws.proofs.Order.{Below-take, Below-drop}
use Rattle.pt_laws.proofs.FlowLaws.{FrontBelow, front-below}
use Rattle.pt_laws.proofs.RunLaws.{left-length, take-left, drop-left, head-is, tail-is}

-- a stream function that makes all of its firings makes the same ones on longer streams
pub record SameFirings {T S : Type 0} (f g : Flow T S) (n : ℕ) : Type 0 where
  pub fired : g.fired ≡ n
  pub state : g.state ≡ f.state
  pub left : Below f.left g.left

module _ {T S : Type 0} (facts : Facts T S) (step : Stepping T S) (tag : Tag) where
  outcome-more : (n : ℕ) → ((s : S) (X Y : Streams T) → Below X Y → (flow facts step tag n s X).fired ≡ n → SameFirings (flow facts step tag n s X) (flow facts step tag n s Y) n) →
      (s : S) (X Y got left left' : Streams T) → Below left left' → (r : Outcome T S) → (on_outcome facts step tag (flow facts step tag n) s X got left r).fired ≡ suc n →
      SameFirings (on_outcome facts step tag (flow facts step tag n) s X got left r) (on_outcome facts step tag (flow facts step tag n) s Y got left' r) (suc n)
  outcome-more n ih s X Y got left left' b (Done z out l) e = let r = ih z left left' b (omega (arith, e)) in record { fired = ap (λ v. suc v) r.fired; state = r.state; left = r.left }
  outcome-more n ih s X Y got left left' b (Stuck fs l) e = absurd (omega (arith, e))

  front-more : (n : ℕ) → ((s : S) (X Y : Streams T) → Below X Y → (flow facts step tag n s X).fired ≡ n → SameFirings (flow facts step tag n s X) (flow facts step tag n s Y) n) →
      (s : S) (X Y : Streams T) (f g : Front T) → FrontBelow f g → (on_front facts step tag (flow facts step tag n) s X f).fired ≡ suc n → SameFirings (on_front facts step tag (flow facts step tag n) s X f) (on_front facts step tag (flow facts step tag n) s Y g) (suc n)
  front-more n ih s X Y Lacks g b e = absurd (omega (arith, e))
  front-more n ih s X Y Ends g b e = absurd (omega (arith, e))
  front-more n ih s X Y (Takes got left) g b e =
      subst (λ v. SameFirings (on_outcome facts step tag (flow facts step tag n) s X got left (step tag s got)) (on_front facts step tag (flow facts step tag n) s Y v) (suc n)) (sym b.1) (outcome-more n ih s X Y got left b.0 b.2 (step tag s got) e)

  flow-more : (n : ℕ) (s : S) (X Y : Streams T) → Below X Y → (flow facts step tag n s X).fired ≡ n → SameFirings (flow facts step tag n s X) (flow facts step tag n s Y) n
  unfolding flow
  flow-more zero s X Y b e = record { fired = refl; state = refl; left = b }
  flow-more (suc n) s X Y b e = front-more n (flow-more n) s X Y (front (facts.need s) X) (front (facts.need s) Y) (front-below (facts.need s) X Y b) e

module _ {T S : Type 0} (facts : Facts T S) (step : Stepping T S) (tag : Tag) where
  asks-in : (i : ℕ) (ns : List ℕ) (cs : List Limit) (ms : List ℕ) (ss : List S) (A B own : Streams T) (now : List S) (held got held' : Streams T) (z : S) → length ms ≡ length ns → Fits ns A → MadeAll ms (runs facts step tag ns cs ms ss A) → now ≡ states_of (runs facts step tag ns cs ms ss A) →
      held ≡ left_by (runs facts step tag ns cs ms ss A) ++ own → Below A B → Asks facts i ns cs ms now held got held' → get now i ≡ Some z → AsksOn facts step tag i ns cs ss B z got
  asks-in i [] cs ms ss A B own now held got held' z e fit h st lf b x g = absurd x
  asks-in i (n ∷ ns) [] ms ss A B own now held got held' z e fit h st lf b x g = absurd x
  asks-in i (n ∷ ns) (c ∷ cs) [] ss A B own now held got held' z e fit h st lf b x g = absurd (omega arith)
  asks-in i (n ∷ ns) (c ∷ cs) (m ∷ ms) [] A B own now held got held' z e fit h st lf b x g = absurd h
  asks-in i (n ∷ ns) (c ∷ cs) (m ∷ ms) (s ∷ ss) A B own [] held got held' z e fit h st lf b x g = absurd (cc)
  asks-in zero (n ∷ ns) (c ∷ cs) (m ∷ ms) (s ∷ ss) A B own (y ∷ now) held got held' z e fit h st lf b x g =
      let F = flow facts (rated facts c.rates step) tag m s (take n A) in
      let R = runs facts step tag ns cs ms ss (drop n A) in
      let len : length F.left ≡ n = left-length facts (rated facts c.rates step) tag m s (take n A) ∙ length-take-le n A fit.0 in
      let tk : take n held ≡ F.left = take-left facts step tag n F.left (left_by R) own held len lf in
      let ys : y ≡ F.state = head-is facts step tag y F.state now (states_of R) st in
      let zs : z ≡ y = same-state (sym g) in
      let more = flow-more facts (rated facts c.rates step) tag m s (take n A) (take n B) (Below-take n A B b) h.0 in
      let there : front (facts.need z) F.left ≡ Takes got x.0 = subst (λ w. front (facts.need w) F.left ≡ Takes got x.0) (sym zs) (subst (λ w. front (facts.need y) w ≡ Takes got x.0) tk x.2) in
      let further = subst (λ (f : Front T). FrontBelow f (front (facts.need z) (flow facts (rated facts c.rates step) tag m s (take n B)).left)) there (front-below (facts.need z) F.left (flow facts (rated facts c.rates step) tag m s (take n B)).left more.left) in
      record { made = m; left = further.0; fired = more.fired; state = more.state ∙ sym ys ∙ sym zs; takes = further.1; allowed = x.1 }
    where
      same-state : Some z ≡ Some y → z ≡ y
      same-state e = cc
  asks-in (suc i) (n ∷ ns) (c ∷ cs) (m ∷ ms) (s ∷ ss) A B own (y ∷ now) held got held' z e fit h st lf b x g =
      let F = flow facts (rated facts c.rates step) tag m s (take n A) in
      let R = runs facts step tag ns cs ms ss (drop n A) in
      let len : length F.left ≡ n = left-length facts (rated facts c.rates step) tag m s (take n A) ∙ length-take-le n A fit.0 in
      asks-in i ns cs ms ss (drop n A) (drop n B) own now (drop n held) got x.0 z (omega (arith, e)) fit.1 h.1 (tail-is facts step tag y F.state now (states_of R) st) (drop-left facts step tag n F.left (left_by R) own held len lf) (Below-drop n A B b) x.1 g

  pub run-asks : (net : Net) (limits : List Limit) (kids : List S) (start : Streams T) (ms : List ℕ) (now : List S) (held : Streams T) → Running facts step tag net limits kids start ms now held → (i : ℕ) (got held' : Streams T) (z : S) → Asks facts i net.places limits ms now held got held' → get now i ≡ Some z →
      AsksInRounds facts step tag net limits kids start i z got
  run-asks net limits kids start ms now held r i got held' z x g = (total ms, asks-in i net.places limits ms kids r.all (round facts step tag net limits kids start (total ms)) (skip_places net.places r.all) now held got held' z r.each r.fits r.made r.states r.left r.caused x g)
