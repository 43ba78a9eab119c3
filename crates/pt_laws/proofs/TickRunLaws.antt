-- A tick whose children fire in any order comes to its least valuation.
use Rattle.std.proofs.Common.{◌≡◌, ℕ, zero, suc, ◌≤◌, ◌<◌, ◌+◌, List, [], ◌∷◌, ◌++◌, Bool, true, false, ◌&&◌, not, length, take, drop, Some, None, get_or, refl, sym, ap, ap₂, subst, arith, ◌∙◌, ◌⊎◌, inl, inr}
use Rattle.pt_meaning.specs.Basics.{Tag, Streams, at, Log, LogBelow, silent, log_below}
use Rattle.pt_meaning.specs.Basics as basics
use Rattle.pt_meaning.specs.Machine.{Fault, Outcome, Done, Stuck, Stepping, Partial, Unknown, Known, partial_at}
use Rattle.pt_meaning.specs.Rounds.{Source, Own, Output, Net}
use Rattle.pt_meaning.specs.Dataflow.{Inside, prefixed, if_settled}
use Rattle.pt_meaning.specs.Tick.{Activity, Earliness, Phase, Waits, Rests, Fired, StuckAt, Reaction, known, reacted, reaction, reactions, told_by, value_of, valued, unknowns, has_fired, is_free, all_fired, all_free, phase_faults, reaction_faults, reaction_logs, reaction_states, tokens_of, skip, told_if, react_all, valuation, is_least, tick}
use Rattle.pt_meaning.specs.Modal.{get}
use Rattle.pt_meaning.specs.Running.{total}
use Rattle.pt_laws.specs.LogsOfRuns.{log_at, log_in}
use Rattle.pt_laws.specs.TickRuns.{places_at, TickRun, HasFired, IsWaiting, told_of, MayKnow, Knows, LoggedAt, TickBegins, TickGoesOn, ReactionIs, TickEnds, TickLacks, TickSticks, TickIsPrefix}
use Rattle.pt_meaning.specs.Laws.{IsIn, PartialBelow, KnownBelow, KeepsEarly}
use Rattle.pt_laws.specs.Uniqueness.{IsLeastValuation}
use Rattle.pt_laws.proofs.Order.{log_below-mono}
use Rattle.pt_laws.proofs.RoundLaws.{grows-refl}
use Rattle.pt_laws.proofs.KahnLaws.{in-left, in-right}
use Rattle.pt_laws.proofs.Indexed.{drop-more}
use Rattle.pt_laws.proofs.TickLaws.{PartialBelow-trans, KnownBelow-refl, KnownBelow-trans, KnownBelow-take, KnownBelow-drop, KnownBelow-antisym, known-same, reactions-below, valued-below, valuation-below, no-more-same, done-clear, ticked}
use Rattle.pt_laws.proofs.LeastLaws.{valuation-least}
use Rattle.pt_laws.proofs.UniqueLaws.{least-is-settled, settles, width-at}
use Rattle.pt_laws.proofs.LogLaws.{log-of-settled, log-refl}
use Rattle.pt_laws.proofs.StuckLaws.{in-prefixed, stuck-at}

-- lists of what is known, by index
pub below-at : {T : Type 0} (V W : List (Partial T)) → KnownBelow V W → (c : ℕ) → PartialBelow (partial_at V c) (partial_at W c)
below-at [] W h c = tt
below-at (v ∷ V) [] h c = absurd h
below-at (v ∷ V) (w ∷ W) h zero = h.0
below-at (v ∷ V) (w ∷ W) h (suc c) = below-at V W h.1 c

below-by : {T : Type 0} (V W : List (Partial T)) → length V ≡ length W → ((c : ℕ) → c < length V → PartialBelow (partial_at V c) (partial_at W c)) → KnownBelow V W
below-by [] [] e h = tt
below-by [] (w ∷ W) e h = absurd (omega arith)
below-by (v ∷ V) [] e h = absurd (omega arith)
below-by (v ∷ V) (w ∷ W) e h = (h 0 (omega arith), below-by V W (omega arith) (λ c l. h (suc c) (omega (arith, l))))

below-long : {T : Type 0} (V W : List (Partial T)) → KnownBelow V W → length V ≡ length W
below-long [] [] h = refl
below-long [] (w ∷ W) h = absurd h
below-long (v ∷ V) [] h = absurd h
below-long (v ∷ V) (w ∷ W) h = ap (λ n. suc n) (below-long V W h.1)

-- each number below the length has an entry
pub there : {B : Type 0} (xs : List B) (c : ℕ) → c < length xs → (x : B) × (get xs c ≡ Some x)
there [] c l = absurd (omega arith)
there (x ∷ xs) zero l = (x, refl)
there (x ∷ xs) (suc c) l = there xs c (omega (arith, l))

pub value-at : {T S : Type 0} (rs : List (Reaction T S)) (inputs : Streams T) (cs : List Source) (c : ℕ) (s : Source) → get cs c ≡ Some s → partial_at (valued rs inputs cs) c ≡ value_of rs inputs s
value-at rs inputs [] c s e = absurd (cc)
value-at rs inputs (x ∷ cs) zero s e = let a : x ≡ s = cc in ap (λ v. value_of rs inputs v) a
value-at rs inputs (x ∷ cs) (suc c) s e = value-at rs inputs cs c s e

-- the places of a later child
places-later : {B : Type 0} (n : ℕ) (ns : List ℕ) (i : ℕ) (V : List B) → places_at (n ∷ ns) (suc i) V ≡ places_at ns i (drop n V)
places-later n ns i V = ap (λ X. take (get_or ns i 0) X) (drop-more n (total (take i ns)) V)

places-below : {T : Type 0} (ns : List ℕ) (i : ℕ) (V W : List (Partial T)) → KnownBelow V W → KnownBelow (places_at ns i V) (places_at ns i W)
places-below ns i V W h = KnownBelow-take (get_or ns i 0) (drop (total (take i ns)) V) (drop (total (take i ns)) W) (KnownBelow-drop (total (take i ns)) V W h)

skip-drop : {T : Type 0} (ns : List ℕ) (V : List (Partial T)) → skip ns V ≡ drop (total ns) V
skip-drop [] V = refl
skip-drop (n ∷ ns) V = skip-drop ns (drop n V) ∙ sym (drop-more n (total ns) V)

module _ {T S : Type 0} (early : Earliness T S) (active : Activity T S) (turn : Stepping T S) (tag : Tag) where
  -- a child's reaction, by its number
  told-at : (ns : List ℕ) (ss : List S) (V : List (Partial T)) (i : ℕ) (port : ℕ) (d : S) → length ss ≡ length ns → i < length ns → told_by (reactions early active turn tag ns ss V) i port ≡ (reaction early active turn tag (get_or ss i d) (places_at ns i V)).outputs port
  told-at [] ss V i port d e l = absurd (omega arith)
  told-at (n ∷ ns) [] V i port d e l = absurd (omega arith)
  told-at (n ∷ ns) (s ∷ ss) V zero port d e l = refl
  told-at (n ∷ ns) (s ∷ ss) V (suc i) port d e l = told-at ns ss (drop n V) i port d (omega arith) (omega arith) ∙ ap (λ X. (reaction early active turn tag (get_or ss i d) X).outputs port) (sym (places-later n ns i V))

  told-beyond : (ns : List ℕ) (ss : List S) (V : List (Partial T)) (i : ℕ) (port : ℕ) → length ns ≤ i → told_by (reactions early active turn tag ns ss V) i port ≡ Unknown
  told-beyond [] ss V i port l = refl
  told-beyond (n ∷ ns) [] V i port l = refl
  told-beyond (n ∷ ns) (s ∷ ss) V zero port l = absurd (omega arith)
  told-beyond (n ∷ ns) (s ∷ ss) V (suc i) port l = told-beyond ns ss (drop n V) i port (omega arith)

  -- what the reaction is of a child that has fired or rests, that waits, and that is stuck
  pub record HasReacted (s : S) (vs : List (Partial T)) (s' : S) (out : Streams T) (l : Log T) : Type 0 where
    pub outputs : (port : ℕ) → (reaction early active turn tag s vs).outputs port ≡ Known (at out port)
    pub state : (reaction early active turn tag s vs).state ≡ s'
    pub log : (reaction early active turn tag s vs).log ≡ l
    pub fired : has_fired (reaction early active turn tag s vs).phase ≡ true
    pub free : is_free (reaction early active turn tag s vs).phase ≡ true

  active-reacted : (s : S) (vs : List (Partial T)) (X : Streams T) (s' : S) (out : Streams T) (l : Log T) → known vs ≡ Some X → active tag s X ≡ true → turn tag s X ≡ Done s' out l → HasReacted s vs s' out l
  active-reacted s vs X s' out l e a d = record { outputs = λ port. rw (e, a, d) refl; state = rw (e, a, d) refl; log = rw (e, a, d) refl; fired = rw (e, a, d) refl; free = rw (e, a, d) refl }

  resting-reacted : (s : S) (vs : List (Partial T)) (X : Streams T) → known vs ≡ Some X → active tag s X ≡ false → HasReacted s vs s [] silent
  resting-reacted s vs X e a = record { outputs = λ port. rw (e, a) refl; state = rw (e, a) refl; log = rw (e, a) refl; fired = rw (e, a) refl; free = rw (e, a) refl }

  pub has-reacted : (s : S) (vs : List (Partial T)) (s' : S) (out : Streams T) (l : Log T) → HasFired active turn tag s vs s' out l → HasReacted s vs s' out l
  has-reacted s vs s' out l h = go h.2
    where
      go : ((active tag s h.0 ≡ true) × (turn tag s h.0 ≡ Done s' out l)) ⊎ ((active tag s h.0 ≡ false) × (s' ≡ s) × (out ≡ []) × (l ≡ silent)) → HasReacted s vs s' out l
      go (inl x) = active-reacted s vs h.0 s' out l h.1 x.0 x.1
      go (inr x) = rw (x.1, x.2, x.3) (resting-reacted s vs h.0 h.1 x.0)

  pub waiting-reacted : (s : S) (vs : List (Partial T)) → known vs ≡ None → (port : ℕ) → (reaction early active turn tag s vs).outputs port ≡ partial_at (early tag s vs) port
  waiting-reacted s vs e port = rw e refl

  logged-reacted : (s : S) (vs : List (Partial T)) (X : Streams T) → known vs ≡ Some X → active tag s X ≡ true → (reaction early active turn tag s vs).log ≡ log_in (turn tag s X)
  logged-reacted s vs X e a = rw (e, a) (go (turn tag s X))
    where
      go : (r : Outcome T S) → (reacted early active turn tag s vs r).log ≡ log_in r
      go (Done s' out l) = refl
      go (Stuck fs l) = refl

  stuck-reacted : (s : S) (vs : List (Partial T)) (X : Streams T) (fs : List Fault) (l : Log T) → known vs ≡ Some X → active tag s X ≡ true → turn tag s X ≡ Stuck fs l → phase_faults (reaction early active turn tag s vs).phase ≡ fs
  stuck-reacted s vs X fs l e a d = rw (e, a, d) refl

pub reaction-is : {T S : Type 0} → ReactionIs T S
reaction-is = record {
  fired = λ early active turn tag s vs s' out l h port. (has-reacted early active turn tag s vs s' out l h).outputs port;
  waiting = λ early active turn tag s vs e port. waiting-reacted early active turn tag s vs e port;
}

pub tick-begins : {T S : Type 0} → TickBegins T S
unfolding valuation
tick-begins early active turn tag net kids inputs = record { rounds = 0; caused = KnownBelow-refl (unknowns net.sources) }

module _ {T S : Type 0} (early : Earliness T S) (active : Activity T S) (turn : Stepping T S) (tag : Tag) (keeps : KeepsEarly early active turn) (net : Net) (kids : List S) (inputs : Streams T) (d : S) (e : length kids ≡ length net.places) where
  val : ℕ → List (Partial T)
  val k = valuation early active turn tag net kids inputs k

  val-long : (k : ℕ) → length (val k) ≡ length net.sources
  unfolding val
  val-long k = width-at early active turn tag keeps net kids inputs k

  rounds-grow : (j k : ℕ) → j ≤ k → KnownBelow (val j) (val k)
  unfolding val
  rounds-grow j k h = valuation-below early active turn turn tag (grows-refl turn) keeps net kids inputs j k h

  -- what is told of a channel from V is no more than what the next round knows
  value-next : (V : List (Partial T)) (j : ℕ) → KnownBelow V (val j) → (c : ℕ) (s : Source) → get net.sources c ≡ Some s → PartialBelow (value_of (reactions early active turn tag net.places kids V) inputs s) (partial_at (val (suc j)) c)
  unfolding val valuation
  value-next V j h c s g =
      subst (λ v. PartialBelow v (partial_at (val (suc j)) c)) (value-at (reactions early active turn tag net.places kids V) inputs net.sources c s g)
      (below-at _ _ (valued-below _ _ inputs (reactions-below early active turn turn tag (grows-refl turn) keeps net.places kids V (val j) h) net.sources) c)

  pub goes-on : (V W : List (Partial T)) → TickRun early active turn tag net kids inputs V → length W ≡ length net.sources → ((c : ℕ) → c < length net.sources → MayKnow early active turn tag net kids inputs d V W c (get net.sources c)) → TickRun early active turn tag net kids inputs W
  unfolding val
  goes-on V W r w h = record { rounds = suc r.rounds; caused = below-by W (val (suc r.rounds)) (w ∙ sym (val-long (suc r.rounds))) (λ c l. one c (omega (arith, l, w))) }
    where
      older : (c : ℕ) → partial_at W c ≡ partial_at V c → PartialBelow (partial_at W c) (partial_at (val (suc r.rounds)) c)
      older c x = subst (λ v. PartialBelow v (partial_at (val (suc r.rounds)) c)) (sym x) (below-at V (val (suc r.rounds)) (KnownBelow-trans _ _ _ r.caused (rounds-grow r.rounds (suc r.rounds) (omega arith))) c)

      choose : (c : ℕ) (s : Source) → get net.sources c ≡ Some s → MayKnow early active turn tag net kids inputs d V W c (Some s) → PartialBelow (partial_at W c) (partial_at (val (suc r.rounds)) c)
      choose c (Own port) g (inl x) = older c x
      choose c (Own port) g (inr y) = PartialBelow-trans (partial_at W c) (Known (at inputs port)) (partial_at (val (suc r.rounds)) c) y (value-next V r.rounds r.caused c (Own port) g)
      choose c (Output i port) g (inl x) = older c x
      choose c (Output i port) g (inr y) =
          PartialBelow-trans (partial_at W c) (told_by (reactions early active turn tag net.places kids V) i port) (partial_at (val (suc r.rounds)) c) (subst (λ v. PartialBelow (partial_at W c) v) (sym (told-at early active turn tag net.places kids V i port d e y.0)) y.1)
          (value-next V r.rounds r.caused c (Output i port) g)

      one : (c : ℕ) → c < length net.sources → PartialBelow (partial_at W c) (partial_at (val (suc r.rounds)) c)
      one c l = let s = there net.sources c l in choose c s.0 s.1 (subst (λ o. MayKnow early active turn tag net kids inputs d V W c o) s.1 (h c l))

  -- where each channel is known as well as its source tells, no more becomes known
  told-below : (V : List (Partial T)) → length V ≡ length net.sources → ((c : ℕ) → c < length net.sources → Knows early active turn tag net kids inputs d V c (get net.sources c)) → KnownBelow (react_all early active turn tag net kids inputs V) V
  told-below V w h = below-by (react_all early active turn tag net kids inputs V) V (wide net.sources ∙ sym w) (λ c l. one c (omega (arith, l, wide net.sources)))
    where
      wide : (cs : List Source) → length (valued (reactions early active turn tag net.places kids V) inputs cs) ≡ length cs
      wide [] = refl
      wide (c ∷ cs) = ap (λ n. suc n) (wide cs)

      far : (i : ℕ) → (i < length net.places) ⊎ (length net.places ≤ i)
      far i = grind arith

      told : (c i port : ℕ) → (i < length net.places → PartialBelow (told_of early active turn tag net kids inputs d V (Output i port)) (partial_at V c)) → (i < length net.places) ⊎ (length net.places ≤ i) → PartialBelow (told_by (reactions early active turn tag net.places kids V) i port) (partial_at V c)
      told c i port k (inl l) = subst (λ v. PartialBelow v (partial_at V c)) (sym (told-at early active turn tag net.places kids V i port d e l)) (k l)
      told c i port k (inr m) = subst (λ v. PartialBelow v (partial_at V c)) (sym (told-beyond early active turn tag net.places kids V i port m)) tt

      choose : (c : ℕ) (s : Source) → Knows early active turn tag net kids inputs d V c (Some s) → PartialBelow (value_of (reactions early active turn tag net.places kids V) inputs s) (partial_at V c)
      choose c (Own port) k = k
      choose c (Output i port) k = told c i port k (far i)

      one : (c : ℕ) → c < length net.sources → PartialBelow (partial_at (react_all early active turn tag net kids inputs V) c) (partial_at V c)
      one c l =
          let s = there net.sources c l in
          subst (λ v. PartialBelow v (partial_at V c)) (sym (value-at (reactions early active turn tag net.places kids V) inputs net.sources c s.0 s.1))
          (choose c s.0 (subst (λ o. Knows early active turn tag net kids inputs d V c o) s.1 (h c l)))

  run-long : (V : List (Partial T)) → TickRun early active turn tag net kids inputs V → length V ≡ length net.sources
  unfolding val
  run-long V r = below-long V (val r.rounds) r.caused ∙ val-long r.rounds

  -- so V is the least valuation
  V-is : (V : List (Partial T)) → TickRun early active turn tag net kids inputs V → KnownBelow (react_all early active turn tag net kids inputs V) V → (k : ℕ) → length net.sources ≤ k → V ≡ val k
  unfolding val valuation
  V-is V r h k l =
      let same : V ≡ val r.rounds = KnownBelow-antisym V (val r.rounds) r.caused (valuation-least early active turn tag keeps net kids inputs V h r.rounds) in
      let least : IsLeastValuation early active turn tag net kids inputs V =
      record {
        fixed = KnownBelow-antisym (react_all early active turn tag net kids inputs V) V h (subst (λ W. KnownBelow W (react_all early active turn tag net kids inputs W)) (sym same) (rounds-grow r.rounds (suc r.rounds) (omega arith)));
        least = λ W f. subst (λ X. KnownBelow X W) (sym same) (valuation-least early active turn tag keeps net kids inputs W (subst (λ X. KnownBelow X W) (sym f) (KnownBelow-refl W)) r.rounds);
      }
      in
      least-is-settled early active turn tag keeps net kids inputs V least k (settles early active turn tag keeps net kids inputs k l)

  pub settled-tick : (blame : List Fault) (V : List (Partial T)) → TickRun early active turn tag net kids inputs V → KnownBelow (react_all early active turn tag net kids inputs V) V → (k : ℕ) → length net.sources ≤ k →
      tick early active turn tag net blame kids inputs k ≡ ticked net.places blame true (reactions early active turn tag net.places kids V) V
  unfolding val tick
  settled-tick blame V r h k l =
      ap (λ b. ticked net.places blame b (reactions early active turn tag net.places kids (val k)) (val k)) (settles early active turn tag keeps net kids inputs k l) ∙
      ap (λ W. ticked net.places blame true (reactions early active turn tag net.places kids W) W) (sym (V-is V r h k l))

  -- what is known under way is known where it is settled
  later : (k i : ℕ) → length net.sources ≤ k → val (k + i) ≡ val k
  unfolding val
  later k zero l = let a : k + 0 ≡ k = omega arith in ap (λ n. val n) a
  later k (suc i) l =
      let a : k + suc i ≡ suc (k + i) = omega arith in
      ap (λ n. val n) a ∙
      sym (no-more-same (val (k + i)) (val (suc (k + i))) (rounds-grow (k + i) (suc (k + i)) (omega arith)) (settles early active turn tag keeps net kids inputs (k + i) (omega (arith, l)))) ∙
      later k i l

  below-settled : (V : List (Partial T)) → TickRun early active turn tag net kids inputs V → (k : ℕ) → length net.sources ≤ k → KnownBelow V (val k)
  unfolding val
  below-settled V r k l = subst (λ X. KnownBelow V X) (later k r.rounds l) (KnownBelow-trans _ _ _ r.caused (rounds-grow r.rounds (k + r.rounds) (omega arith)))

pub tick-goes-on : {T S : Type 0} → TickGoesOn T S
tick-goes-on early active turn tag keeps net kids inputs d e V W r w h = goes-on early active turn tag keeps net kids inputs d e V W r w h

-- how the children stand, one by one
module _ {T S : Type 0} (early : Earliness T S) (active : Activity T S) (turn : Stepping T S) (tag : Tag) where
  AllStand : List ℕ → List S → List (Partial T) → List S → (ℕ → Streams T) → List (Log T) → Type 0
  AllStand [] [] V [] out [] = Unit {0}
  AllStand (n ∷ ns) (s ∷ ss) V (z ∷ zs) out (l ∷ ls) = HasFired active turn tag s (take n V) z (out 0) l × AllStand ns ss (drop n V) zs (λ i. out (suc i)) ls
  AllStand [] (s ∷ ss) V zs out ls = ⊥
  AllStand [] [] V (z ∷ zs) out ls = ⊥
  AllStand [] [] V [] out (l ∷ ls) = ⊥
  AllStand (n ∷ ns) [] V zs out ls = ⊥
  AllStand (n ∷ ns) (s ∷ ss) V [] out ls = ⊥
  AllStand (n ∷ ns) (s ∷ ss) V (z ∷ zs) out [] = ⊥

  stand-by : (ns : List ℕ) (ss : List S) (V : List (Partial T)) (zs : List S) (out : ℕ → Streams T) (ls : List (Log T)) (d : S) → length ss ≡ length ns → length zs ≡ length ns → length ls ≡ length ns →
      ((i : ℕ) → i < length ns → HasFired active turn tag (get_or ss i d) (places_at ns i V) (get_or zs i d) (out i) (log_at ls i)) → AllStand ns ss V zs out ls
  unfolding AllStand
  stand-by [] [] V [] out [] d a b c h = tt
  stand-by [] (s ∷ ss) V zs out ls d a b c h = absurd (omega arith)
  stand-by [] [] V (z ∷ zs) out ls d a b c h = absurd (omega arith)
  stand-by [] [] V [] out (l ∷ ls) d a b c h = absurd (omega arith)
  stand-by (n ∷ ns) [] V zs out ls d a b c h = absurd (omega arith)
  stand-by (n ∷ ns) (s ∷ ss) V [] out ls d a b c h = absurd (omega arith)
  stand-by (n ∷ ns) (s ∷ ss) V (z ∷ zs) out [] d a b c h = absurd (omega arith)
  stand-by (n ∷ ns) (s ∷ ss) V (z ∷ zs) out (l ∷ ls) d a b c h = (
    h 0 (omega arith),
    stand-by ns ss (drop n V) zs (λ i. out (suc i)) ls d (omega arith) (omega arith) (omega arith)
        (λ i m. subst (λ X. HasFired active turn tag (get_or ss i d) X (get_or zs i d) (out (suc i)) (log_at ls i)) (places-later n ns i V) (h (suc i) (omega (arith, m)))),
  )

  -- what the reactions are where all stand so
  pub record AllAre (rs : List (Reaction T S)) (zs : List S) (ls : List (Log T)) : Type 0 where
    pub states : reaction_states rs ≡ zs
    pub logs : reaction_logs rs ≡ ls
    pub fired : all_fired rs ≡ true

  both-true : (a b : Bool) → a ≡ true → b ≡ true → (a && b) ≡ true
  both-true a b p q = rw (p, q) refl

  all-are : (ns : List ℕ) (ss : List S) (V : List (Partial T)) (zs : List S) (out : ℕ → Streams T) (ls : List (Log T)) → AllStand ns ss V zs out ls → AllAre (reactions early active turn tag ns ss V) zs ls
  unfolding AllStand
  all-are [] [] V [] out [] h = record { states = refl; logs = refl; fired = refl }
  all-are [] (s ∷ ss) V zs out ls h = absurd h
  all-are [] [] V (z ∷ zs) out ls h = absurd h
  all-are [] [] V [] out (l ∷ ls) h = absurd h
  all-are (n ∷ ns) [] V zs out ls h = absurd h
  all-are (n ∷ ns) (s ∷ ss) V [] out ls h = absurd h
  all-are (n ∷ ns) (s ∷ ss) V (z ∷ zs) out [] h = absurd h
  all-are (n ∷ ns) (s ∷ ss) V (z ∷ zs) out (l ∷ ls) h =
      let r = has-reacted early active turn tag s (take n V) z (out 0) l h.0 in
      let rest = all-are ns ss (drop n V) zs (λ i. out (suc i)) ls h.1 in
      record { states = ap₂ (λ a b. a ∷ b) r.state rest.states; logs = ap₂ (λ a b. a ∷ b) r.log rest.logs; fired = both-true _ _ r.fired rest.fired }

  -- and where some wait
  AllFree : List ℕ → List S → List (Partial T) → List S → (ℕ → Streams T) → List (Log T) → Type 0
  AllFree [] [] V [] out [] = Unit {0}
  AllFree (n ∷ ns) (s ∷ ss) V (z ∷ zs) out (l ∷ ls) = (HasFired active turn tag s (take n V) z (out 0) l ⊎ IsWaiting s (take n V) z l) × AllFree ns ss (drop n V) zs (λ i. out (suc i)) ls
  AllFree [] (s ∷ ss) V zs out ls = ⊥
  AllFree [] [] V (z ∷ zs) out ls = ⊥
  AllFree [] [] V [] out (l ∷ ls) = ⊥
  AllFree (n ∷ ns) [] V zs out ls = ⊥
  AllFree (n ∷ ns) (s ∷ ss) V [] out ls = ⊥
  AllFree (n ∷ ns) (s ∷ ss) V (z ∷ zs) out [] = ⊥

  free-by : (ns : List ℕ) (ss : List S) (V : List (Partial T)) (zs : List S) (out : ℕ → Streams T) (ls : List (Log T)) (d : S) → length ss ≡ length ns → length zs ≡ length ns → length ls ≡ length ns →
      ((i : ℕ) → i < length ns → HasFired active turn tag (get_or ss i d) (places_at ns i V) (get_or zs i d) (out i) (log_at ls i) ⊎ IsWaiting (get_or ss i d) (places_at ns i V) (get_or zs i d) (log_at ls i)) → AllFree ns ss V zs out ls
  unfolding AllFree
  free-by [] [] V [] out [] d a b c h = tt
  free-by [] (s ∷ ss) V zs out ls d a b c h = absurd (omega arith)
  free-by [] [] V (z ∷ zs) out ls d a b c h = absurd (omega arith)
  free-by [] [] V [] out (l ∷ ls) d a b c h = absurd (omega arith)
  free-by (n ∷ ns) [] V zs out ls d a b c h = absurd (omega arith)
  free-by (n ∷ ns) (s ∷ ss) V [] out ls d a b c h = absurd (omega arith)
  free-by (n ∷ ns) (s ∷ ss) V (z ∷ zs) out [] d a b c h = absurd (omega arith)
  free-by (n ∷ ns) (s ∷ ss) V (z ∷ zs) out (l ∷ ls) d a b c h = (
    h 0 (omega arith),
    free-by ns ss (drop n V) zs (λ i. out (suc i)) ls d (omega arith) (omega arith) (omega arith)
        (λ i m. subst (λ X. HasFired active turn tag (get_or ss i d) X (get_or zs i d) (out (suc i)) (log_at ls i) ⊎ IsWaiting (get_or ss i d) X (get_or zs i d) (log_at ls i)) (places-later n ns i V) (h (suc i) (omega (arith, m)))),
  )

  -- none is stuck
  pub record AllFreeAre (rs : List (Reaction T S)) (ls : List (Log T)) : Type 0 where
    pub logs : reaction_logs rs ≡ ls
    pub free : all_free rs ≡ true
    pub clear : (i : ℕ) → reaction_faults i rs ≡ []

  one-free : (s : S) (vs : List (Partial T)) (z : S) (out : Streams T) (l : Log T) → HasFired active turn tag s vs z out l ⊎ IsWaiting s vs z l → ((reaction early active turn tag s vs).log ≡ l) × (is_free (reaction early active turn tag s vs).phase ≡ true) × (phase_faults (reaction early active turn tag s vs).phase ≡ [])
  one-free s vs z out l (inl h) = let r = has-reacted early active turn tag s vs z out l h in (r.log, r.free, clear (reaction early active turn tag s vs).phase r.free)
    where
      clear : (p : Phase) → is_free p ≡ true → phase_faults p ≡ []
      clear Waits e = refl
      clear Rests e = refl
      clear Fired e = refl
      clear (StuckAt fs) e = absurd (cc)
  one-free s vs z out l (inr h) = (rw (h.0, h.2) refl, rw (h.0) refl, rw (h.0) refl)

  free-are : (ns : List ℕ) (ss : List S) (V : List (Partial T)) (zs : List S) (out : ℕ → Streams T) (ls : List (Log T)) → AllFree ns ss V zs out ls → AllFreeAre (reactions early active turn tag ns ss V) ls
  unfolding AllFree
  free-are [] [] V [] out [] h = record { logs = refl; free = refl; clear = λ i. refl }
  free-are [] (s ∷ ss) V zs out ls h = absurd h
  free-are [] [] V (z ∷ zs) out ls h = absurd h
  free-are [] [] V [] out (l ∷ ls) h = absurd h
  free-are (n ∷ ns) [] V zs out ls h = absurd h
  free-are (n ∷ ns) (s ∷ ss) V [] out ls h = absurd h
  free-are (n ∷ ns) (s ∷ ss) V (z ∷ zs) out [] h = absurd h
  free-are (n ∷ ns) (s ∷ ss) V (z ∷ zs) out (l ∷ ls) h =
      let r = one-free s (take n V) z (out 0) l h.0 in
      let rest = free-are ns ss (drop n V) zs (λ i. out (suc i)) ls h.1 in
      record { logs = ap₂ (λ a b. a ∷ b) r.0 rest.logs; free = both-true _ _ r.1 rest.free; clear = λ i. ap₂ (λ a b. prefixed i a ++ b) r.2 (rest.clear (suc i)) }

  -- a child that waits is not fired
  waits-not : (ns : List ℕ) (ss : List S) (V : List (Partial T)) (w : ℕ) → length ss ≡ length ns → w < length ns → known (places_at ns w V) ≡ None → all_fired (reactions early active turn tag ns ss V) ≡ false
  waits-not [] ss V w a l e = absurd (omega arith)
  waits-not (n ∷ ns) [] V w a l e = absurd (omega arith)
  waits-not (n ∷ ns) (s ∷ ss) V zero a l e = rw e refl
  waits-not (n ∷ ns) (s ∷ ss) V (suc w) a l e = rw (waits-not ns ss (drop n V) w (omega arith) (omega arith) (subst (λ X. known X ≡ None) (places-later n ns w V) e)) (no (has_fired (reaction early active turn tag s (take n V)).phase))
    where
      no : (b : Bool) → (b && false) ≡ false
      no true = refl
      no false = refl

  -- a child that is stuck is among the places, and is not fired
  stuck-in : (ns : List ℕ) (ss : List S) (V : List (Partial T)) (i b : ℕ) (d : S) (X : Streams T) (fs : List Fault) (l : Log T) (f : Fault) → length ss ≡ length ns → i < length ns → known (places_at ns i V) ≡ Some X → active tag (get_or ss i d) X ≡ true → turn tag (get_or ss i d) X ≡ Stuck fs l → IsIn f fs →
      IsIn (record { path = (b + i) ∷ f.path; firing = f.firing; code = f.code }) (reaction_faults b (reactions early active turn tag ns ss V))
  stuck-in [] ss V i b d X fs l f e m k a t h = absurd (omega arith)
  stuck-in (n ∷ ns) [] V i b d X fs l f e m k a t h = absurd (omega arith)
  stuck-in (n ∷ ns) (s ∷ ss) V zero b d X fs l f e m k a t h =
      let same : b + 0 ≡ b = omega arith in
      let x : phase_faults (reaction early active turn tag s (take n V)).phase ≡ fs = stuck-reacted early active turn tag s (take n V) X fs l k a t in
      rw same (in-left _ _ (reaction_faults (suc b) (reactions early active turn tag ns ss (drop n V))) (subst (λ v. IsIn (record { path = b ∷ f.path; firing = f.firing; code = f.code }) (prefixed b v)) (sym x) (in-prefixed b f fs h)))
  stuck-in (n ∷ ns) (s ∷ ss) V (suc i) b d X fs l f e m k a t h =
      let same : b + suc i ≡ suc b + i = omega arith in
      rw same (in-right _ (prefixed b (phase_faults (reaction early active turn tag s (take n V)).phase)) _ (stuck-in ns ss (drop n V) i (suc b) d X fs l f (omega arith) (omega arith) (subst (λ Y. known Y ≡ Some X) (places-later n ns i V) k) a t h))

  -- what the children have logged, beside the reactions
  logs-under : (ns : List ℕ) (ss : List S) (V : List (Partial T)) (ls : List (Log T)) (d : S) → length ss ≡ length ns → length ls ≡ length ns → ((i : ℕ) → i < length ns → LogBelow (log_at ls i) (reaction early active turn tag (get_or ss i d) (places_at ns i V)).log) →
      LogBelow (log_below ls) (log_below (reaction_logs (reactions early active turn tag ns ss V)))
  logs-under [] ss V [] d a b h = log-refl (log_below [])
  logs-under [] ss V (l ∷ ls) d a b h = absurd (omega arith)
  logs-under (n ∷ ns) [] V ls d a b h = absurd (omega arith)
  logs-under (n ∷ ns) (s ∷ ss) V [] d a b h = absurd (omega arith)
  logs-under (n ∷ ns) (s ∷ ss) V (l ∷ ls) d a b h =
      log_below-mono l (reaction early active turn tag s (take n V)).log ls (reaction_logs (reactions early active turn tag ns ss (drop n V))) (h 0 (omega arith))
      (logs-under ns ss (drop n V) ls d (omega arith) (omega arith) (λ i m. subst (λ X. LogBelow (log_at ls i) (reaction early active turn tag (get_or ss i d) X).log) (places-later n ns i V) (h (suc i) (omega (arith, m)))))

pub tick-ends : {T S : Type 0} → TickEnds T S
tick-ends {T} {S} early active turn tag keeps net blame kids inputs d V news outs ls r w told fired k l =
    let rs = reactions early active turn tag net.places kids V in
    let are = all-are early active turn tag net.places kids V news (λ i. get_or outs i []) ls (stand-by early active turn tag net.places kids V news (λ i. get_or outs i []) ls d w.kids_are w.news_are w.logs_are fired) in
    settled-tick early active turn tag keeps net kids inputs d w.kids_are blame V r (told-below early active turn tag keeps net kids inputs d w.kids_are V (run-long early active turn tag keeps net kids inputs d w.kids_are V r) told) k l ∙
    ap (λ b. if_settled b (record { held = []; kids = reaction_states rs }) (tokens_of (skip net.places V)) (log_below (reaction_logs rs)) (reaction_faults 0 rs ++ told_if (true && (all_free rs && not (all_fired rs))) blame)) are.fired ∙
    ap₂ (λ (zs : List S) (ks : List (Log T)). let o : Outcome T (Inside (Streams T) S) = Done (record { held = []; kids = zs }) (tokens_of (skip net.places V)) (log_below ks) in o) are.states are.logs ∙
    ap (λ (W : List (Partial T)). let o : Outcome T (Inside (Streams T) S) = Done (record { held = []; kids = news }) (tokens_of W) (log_below ls) in o) (skip-drop net.places V)

pub tick-lacks : {T S : Type 0} → TickLacks T S
tick-lacks {T} {S} early active turn tag keeps net blame kids inputs d V news outs ls r w told fired i m e k l =
    let rs = reactions early active turn tag net.places kids V in
    let are = free-are early active turn tag net.places kids V news (λ i. get_or outs i []) ls (free-by early active turn tag net.places kids V news (λ i. get_or outs i []) ls d w.kids_are w.news_are w.logs_are fired) in
    let not_all = waits-not early active turn tag net.places kids V i w.kids_are m e in
    settled-tick early active turn tag keeps net kids inputs d w.kids_are blame V r (told-below early active turn tag keeps net kids inputs d w.kids_are V (run-long early active turn tag keeps net kids inputs d w.kids_are V r) told) k l ∙
    rw (not_all, are.free, are.clear 0, are.logs) refl

pub tick-sticks : {T S : Type 0} → TickSticks T S
unfolding tick val
tick-sticks {T} {S} early active turn tag keeps net blame kids inputs d V w r i m X e a fs n t f h k l =
    let W = valuation early active turn tag net kids inputs k in
    let rs = reactions early active turn tag net.places kids W in
    let below = below-settled early active turn tag keeps net kids inputs d w V r k l in
    let same = known-same (places_at net.places i V) (places_at net.places i W) X (places-below net.places i V W below) e in
    let known_now : known (places_at net.places i W) ≡ Some X = ap (λ v. known v) same ∙ e in
    let here = stuck-in early active turn tag net.places kids W i 0 d X fs n f w m known_now a t h in
    let zero_add : 0 + i ≡ i = omega arith in
    stuck-at (is_least early active turn tag net kids inputs k && all_fired rs) _ _ _ _ (record { path = i ∷ f.path; firing = f.firing; code = f.code }) (done-clear blame (is_least early active turn tag net kids inputs k) rs)
    (in-left _ (reaction_faults 0 rs) _ (subst (λ j. IsIn (record { path = j ∷ f.path; firing = f.firing; code = f.code }) (reaction_faults 0 rs)) zero_add here))

pub tick-is-prefix : {T S : Type 0} → TickIsPrefix T S
unfolding tick val
tick-is-prefix {T} {S} early active turn tag keeps net blame kids inputs d V ls w v r logged k l =
    let W = valuation early active turn tag net kids inputs k in
    let rs = reactions early active turn tag net.places kids W in
    let below = below-settled early active turn tag keeps net kids inputs d w V r k l in
    subst (λ n. LogBelow (log_below ls) n) (log-of-settled (is_least early active turn tag net kids inputs k && all_fired rs) _ _ (log_below (reaction_logs rs)) _)
    (logs-under early active turn tag net.places kids W ls d w v (λ i m. one W below i (logged i m)))
  where
    one : (W : List (Partial T)) → KnownBelow V W → (i : ℕ) → LoggedAt early active turn tag net kids inputs d V ls i → LogBelow (log_at ls i) (reaction early active turn tag (get_or kids i d) (places_at net.places i W)).log
    one W b i (inl h) = λ p. nothing (log_at ls i p) ((reaction early active turn tag (get_or kids i d) (places_at net.places i W)).log p) (h p)
      where
        nothing : {B : Type 0} (xs ys : List B) → basics.IsPrefix xs [] → basics.IsPrefix xs ys
        nothing [] ys p = tt
        nothing (x ∷ xs) ys p = absurd p
    one W b i (inr h) =
        let same = known-same (places_at net.places i V) (places_at net.places i W) h.0 (places-below net.places i V W b) h.1 in
        subst (λ n. LogBelow (log_at ls i) n) (sym (logged-reacted early active turn tag (get_or kids i d) (places_at net.places i W) h.0 (ap (λ v. known v) same ∙ h.1) h.2)) h.3
