-- What is known of channels after some rounds, channel by channel.
use Rattle.std.proofs.Common.{◌≡◌, ℕ, zero, suc, ◌<◌, ◌≤◌, List, [], ◌∷◌, length, get_or, drop, Some, refl, sym, ap, ◌∙◌, arith}
use Rattle.pt_meaning.specs.Tag.{Tag}
use Rattle.pt_meaning.specs.Streams.{Streams, at, get}
use Rattle.pt_meaning.specs.Machine.{Stepping, Partial, Unknown, Known, partial_at}
use Rattle.pt_meaning.specs.Net.{Net, Own, Output}
use Rattle.pt_meaning.specs.Valuation.{Activity, Earliness, reaction, reactions, told_by, valuation}
use Rattle.pt_meaning.specs.Laws.{PartialBelow, KnownBelow, KeepsEarly}
use Rattle.pt_laws.specs.TickRuns.{places_at}
use Rattle.pt_laws.proofs.RoundLaws.{grows-refl}
use Rattle.pt_laws.proofs.TickLaws.{valuation-below}
use Rattle.pt_laws.proofs.TickRunLaws.{below-at, value-at}
use Rattle.pt_laws.proofs.UniqueLaws.{width-at}
use Rattle.pt_de_laws.specs.Chain.{rounds_of}
use Rattle.pt_de_laws.proofs.PlaceLaws.{places-later}

known-stays : {T : Type 0} (v w : Partial T) (xs : List T) → v ≡ Known xs → PartialBelow v w → w ≡ Known xs
known-stays Unknown w xs e b = absurd (cc)
known-stays (Known ys) w xs e b = b ∙ e

module _ {T S : Type 0} (early : Earliness T S) (active : Activity T S) (turn : Stepping T S) (tag : Tag) where
  told-at : (ns : List ℕ) (ss : List S) (V : List (Partial T)) (i : ℕ) (port : ℕ) (d : S) → length ss ≡ length ns → i < length ns → told_by (reactions early active turn tag ns ss V) i port ≡ (reaction early active turn tag (get_or ss i d) (places_at ns i V)).outputs port
  told-at [] ss V i port d e l = absurd (omega (arith, l))
  told-at (n ∷ ns) [] V i port d e l = absurd (omega (arith, e))
  told-at (n ∷ ns) (s ∷ ss) V zero port d e l = refl
  told-at (n ∷ ns) (s ∷ ss) V (suc i) port d e l = told-at ns ss (drop n V) i port d (omega (arith, e)) (omega (arith, l)) ∙ ap (λ X. (reaction early active turn tag (get_or ss i d) X).outputs port) (sym (places-later n ns i V))

  module _ (keeps : KeepsEarly early active turn) (net : Net) (kids : List S) (inputs : Streams T) where
    pub val-long : (k : ℕ) → length (valuation early active turn tag net kids inputs k) ≡ length net.sources
    val-long k = width-at early active turn tag keeps net kids inputs k

    pub val-grows : (j k : ℕ) → j ≤ k → KnownBelow (valuation early active turn tag net kids inputs j) (valuation early active turn tag net kids inputs k)
    val-grows j k h = valuation-below early active turn turn tag (grows-refl turn) keeps net kids inputs j k h

    pub val-stays : (j k : ℕ) → j ≤ k → (c : ℕ) (xs : List T) → partial_at (valuation early active turn tag net kids inputs j) c ≡ Known xs → partial_at (valuation early active turn tag net kids inputs k) c ≡ Known xs
    val-stays j k h c xs e = known-stays (partial_at (valuation early active turn tag net kids inputs j) c) (partial_at (valuation early active turn tag net kids inputs k) c) xs e (below-at _ _ (val-grows j k h) c)

    pub val-own : (k c port : ℕ) → get net.sources c ≡ Some (Own port) → partial_at (valuation early active turn tag net kids inputs (suc k)) c ≡ Known (at inputs port)
    unfolding valuation
    val-own k c port e = value-at (reactions early active turn tag net.places kids (valuation early active turn tag net kids inputs k)) inputs net.sources c (Own port) e

    pub val-output : (d : S) → length kids ≡ length net.places → (k c i port : ℕ) → get net.sources c ≡ Some (Output i port) → i < length net.places →
        partial_at (valuation early active turn tag net kids inputs (suc k)) c ≡ (reaction early active turn tag (get_or kids i d) (places_at net.places i (valuation early active turn tag net kids inputs k))).outputs port
    unfolding valuation
    val-output d f k c i port e l =
        value-at (reactions early active turn tag net.places kids (valuation early active turn tag net kids inputs k)) inputs net.sources c (Output i port) e ∙ told-at net.places kids (valuation early active turn tag net kids inputs k) i port d f l

-- enough rounds
pub rounds-enough : (ds : List ℕ) (i : ℕ) → i < length ds → suc (suc (get_or ds i 0)) ≤ rounds_of ds
rounds-enough [] i h = absurd (omega (arith, h))
rounds-enough (d ∷ ds) zero h = omega arith
rounds-enough (d ∷ ds) (suc i) h = let r = rounds-enough ds i (omega (arith, h)) in omega (arith, r)

pub rounds-some : (ds : List ℕ) → 1 ≤ rounds_of ds
rounds-some [] = omega arith
rounds-some (d ∷ ds) = omega arith
