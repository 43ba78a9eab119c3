-- Rounds and valuations stay below every solution: what they come to is the least one.
use Rattle.std.proofs.Common.{◌≡◌, ◌+◌, ℕ, zero, suc, List, true, sym, subst, arith}
use Rattle.pt_meaning.specs.Basics.{Tag, Streams, Below}
use Rattle.pt_meaning.specs.Machine.{Stepping, Facts, Partial}
use Rattle.pt_meaning.specs.Rounds.{Net, Limit, refill, flows, round}
use Rattle.pt_meaning.specs.Tick.{Activity, Earliness, react_all, valuation, is_least}
use Rattle.pt_meaning.specs.Dataflow as dataflow
use Rattle.pt_laws.specs.Promises.{IsSolution}
use Rattle.pt_laws.proofs.KahnLaws.{fixed, at-rest}
use Rattle.pt_meaning.specs.Laws.{KnownBelow, KeepsEarly}
use Rattle.pt_laws.proofs.Order.{Below-trans, Below-refl}
use Rattle.pt_laws.proofs.RoundLaws.{flows-rest, flows-below, refill-below, below-refill, grows-refl}
use Rattle.pt_laws.proofs.TickLaws.{is-fixed, reactions-below, valued-below, unknowns-below, KnownBelow-trans}

module _ {T S : Type 0} (facts : Facts T S) (step : Stepping T S) (tag : Tag) (net : Net) (limits : List Limit) (kids : List S) (X : Streams T) where
  pub rounds-least : (W : Streams T) → IsSolution facts step tag net limits kids X W → (k : ℕ) → Below (round facts step tag net limits kids X k) W
  unfolding round
  rounds-least W h zero = Below-trans _ _ _ (below-refill (flows facts step tag net.places limits 0 kids W) net.sources X) (h 0)
  rounds-least W h (suc k) = Below-trans _ _ _ (refill-below _ _ (flows-below facts step step tag (grows-refl step) net.places limits (suc k) (suc k) (omega arith) kids _ W (rounds-least W h k)) net.sources X) (h (suc k))

  pub settled-solution : (k : ℕ) → dataflow.settled facts step tag net limits kids X k ≡ true → IsSolution facts step tag net limits kids X (round facts step tag net limits kids X k)
  settled-solution k e n =
      let W : Streams T = round facts step tag net limits kids X k in
      subst (λ V. Below (refill (flows facts step tag net.places limits n kids W) net.sources X) V) (sym (fixed facts step step tag (grows-refl step) net limits kids X k e))
      (subst (λ fs. Below (refill (flows facts step tag net.places limits n kids W) net.sources X) (refill fs net.sources X))
      (flows-rest facts step step tag (grows-refl step) net.places limits k (n + k) (omega arith) kids W (at-rest facts step step tag (grows-refl step) net limits kids X k e))
      (refill-below _ _ (flows-below facts step step tag (grows-refl step) net.places limits n (n + k) (omega arith) kids W W (Below-refl W)) net.sources X))

module _ {T S : Type 0} (early : Earliness T S) (active : Activity T S) (turn : Stepping T S) (tag : Tag) (keeps : KeepsEarly early active turn) (net : Net) (kids : List S) (inputs : Streams T) where
  pub valuation-least : (W : List (Partial T)) → KnownBelow (react_all early active turn tag net kids inputs W) W → (k : ℕ) → KnownBelow (valuation early active turn tag net kids inputs k) W
  unfolding valuation
  valuation-least W h zero = KnownBelow-trans _ _ _ (unknowns-below _ inputs net.sources) h
  valuation-least W h (suc k) = KnownBelow-trans _ _ _ (valued-below _ _ inputs (reactions-below early active turn turn tag (grows-refl turn) keeps net.places kids _ W (valuation-least W h k)) net.sources) h

  pub least-fixed : (k : ℕ) → is_least early active turn tag net kids inputs k ≡ true → valuation early active turn tag net kids inputs k ≡ react_all early active turn tag net kids inputs (valuation early active turn tag net kids inputs k)
  least-fixed k e = is-fixed early active turn turn tag (grows-refl turn) keeps keeps net kids inputs k e
