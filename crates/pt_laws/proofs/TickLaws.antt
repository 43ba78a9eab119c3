-- The scheme of least valuations keeps the fuel law.
use Rattle.std.proofs.Common.{◌≡◌, ℕ, zero, suc, ◌≤◌, List, [], ◌∷◌, ◌++◌, Bool, true, false, not, ◌&&◌, ◌||◌, take, drop, Option, Some, None, refl, sym, ap, ap₂, subst, arith, inl, ◌∙◌}
use Rattle.pt_meaning.specs.Basics.{Tag, Streams, at, Log, LogBelow, log_below}
use Rattle.pt_meaning.specs.Machine.{Fault, Outcome, Done, Stuck, Stepping, Facts, Partial, Unknown, Known, partial_at, recorded}
use Rattle.pt_meaning.specs.Rounds.{Source, Own, Output, Net}
use Rattle.pt_meaning.specs.Dataflow.{Inside, prefixed, if_settled}
use Rattle.pt_meaning.specs.Tick.{Activity, Earliness, all_single, known, known_then, Phase, Waits, Rests, Fired, StuckAt, Reaction, if_single, single_outcome, sr_turn, sr_active, sr, TickPlan, de, de_turn, de_early, de_active, whole_or_rows, if_whole, by_rows, rows_of, and_then, follows, reacted, if_active, on_known, reaction, reactions, told_by, value_of, valued, unknowns, is_known, no_more, has_fired, is_free, all_fired, all_free, phase_faults, reaction_faults, reaction_logs, reaction_states, tokens_of, skip, told_if, valuation, is_least, tick}
use Rattle.pt_meaning.specs.Laws.{AllIn, IsIn, Extends, Grows, PartialBelow, KnownBelow, KeepsEarly}
use Rattle.pt_laws.proofs.Order.{IsPrefix-refl, IsPrefix-trans, IsPrefix-after, IsPrefix-append, log_below-mono}
use Rattle.pt_laws.proofs.RoundLaws.{grows-refl, extends-refl}
use Rattle.pt_laws.proofs.KahnLaws.{all_in-append, all_in-prefixed}

pub PartialBelow-refl : {T : Type 0} (v : Partial T) → PartialBelow v v
PartialBelow-refl Unknown = tt
PartialBelow-refl (Known x) = refl

pub PartialBelow-trans : {T : Type 0} (u v w : Partial T) → PartialBelow u v → PartialBelow v w → PartialBelow u w
PartialBelow-trans Unknown v w p q = tt
PartialBelow-trans (Known x) v w p q = subst (λ y. PartialBelow y w) p q

pub KnownBelow-refl : {T : Type 0} (vs : List (Partial T)) → KnownBelow vs vs
KnownBelow-refl [] = tt
KnownBelow-refl (v ∷ vs) = (PartialBelow-refl v, KnownBelow-refl vs)

pub KnownBelow-trans : {T : Type 0} (us vs ws : List (Partial T)) → KnownBelow us vs → KnownBelow vs ws → KnownBelow us ws
KnownBelow-trans [] [] ws p q = q
KnownBelow-trans [] (v ∷ vs) ws p q = absurd p
KnownBelow-trans (u ∷ us) [] ws p q = absurd p
KnownBelow-trans (u ∷ us) (v ∷ vs) [] p q = absurd q
KnownBelow-trans (u ∷ us) (v ∷ vs) (w ∷ ws) p q = (PartialBelow-trans u v w p.0 q.0, KnownBelow-trans us vs ws p.1 q.1)

pub KnownBelow-take : {T : Type 0} (n : ℕ) (X Y : List (Partial T)) → KnownBelow X Y → KnownBelow (take n X) (take n Y)
KnownBelow-take zero X Y p = tt
KnownBelow-take (suc n) [] [] p = tt
KnownBelow-take (suc n) [] (y ∷ Y) p = absurd p
KnownBelow-take (suc n) (x ∷ X) [] p = absurd p
KnownBelow-take (suc n) (x ∷ X) (y ∷ Y) p = (p.0, KnownBelow-take n X Y p.1)

pub KnownBelow-drop : {T : Type 0} (n : ℕ) (X Y : List (Partial T)) → KnownBelow X Y → KnownBelow (drop n X) (drop n Y)
KnownBelow-drop zero X Y p = p
KnownBelow-drop (suc n) [] [] p = tt
KnownBelow-drop (suc n) [] (y ∷ Y) p = absurd p
KnownBelow-drop (suc n) (x ∷ X) [] p = absurd p
KnownBelow-drop (suc n) (x ∷ X) (y ∷ Y) p = KnownBelow-drop n X Y p.1

tri-antisym : {T : Type 0} (v w : Partial T) → PartialBelow v w → PartialBelow w v → v ≡ w
tri-antisym Unknown Unknown p q = refl
tri-antisym Unknown (Known x) p q = q
tri-antisym (Known x) w p q = sym p

pub KnownBelow-antisym : {T : Type 0} (vs ws : List (Partial T)) → KnownBelow vs ws → KnownBelow ws vs → vs ≡ ws
KnownBelow-antisym [] [] p q = refl
KnownBelow-antisym [] (w ∷ ws) p q = absurd p
KnownBelow-antisym (v ∷ vs) [] p q = absurd p
KnownBelow-antisym (v ∷ vs) (w ∷ ws) p q = ap₂ (λ a b. a ∷ b) (tri-antisym v w p.0 q.0) (KnownBelow-antisym vs ws p.1 q.1)

-- what is known already is known no better
tri-known : {T : Type 0} (v w : Partial T) (o : Option (Streams T)) (X : Streams T) → PartialBelow v w → known_then v o ≡ Some X → w ≡ v
tri-known Unknown w None X p e = absurd (cc)
tri-known Unknown w (Some Y) X p e = absurd (cc)
tri-known (Known x) w o X p e = p

rest-known : {T : Type 0} (v : Partial T) (o : Option (Streams T)) (X : Streams T) → known_then v o ≡ Some X → (Y : Streams T) × (o ≡ Some Y)
rest-known v None X e = absurd (cc)
rest-known v (Some Y) X e = (Y, refl)

pub known-same : {T : Type 0} (vs ws : List (Partial T)) (X : Streams T) → KnownBelow vs ws → known vs ≡ Some X → ws ≡ vs
known-same [] [] X p e = refl
known-same [] (w ∷ ws) X p e = absurd p
known-same (v ∷ vs) [] X p e = absurd p
known-same (v ∷ vs) (w ∷ ws) X p e = let r = rest-known v (known vs) X e in ap₂ (λ a b. a ∷ b) (tri-known v w (known vs) X p.0 e) (known-same vs ws r.0 p.1 r.1)

if_single-extends : {T S : Type 0} (b : Bool) (n : ℕ) (s : S) (out : Streams T) (l m : Log T) → LogBelow l m → Extends (Stuck [] l) (if_single b n s out m)
if_single-extends true n s out l m h = h
if_single-extends false n s out l m h = (λ f x. absurd x, h)

single_outcome-extends : {T S : Type 0} (n : ℕ) (r r' : Outcome T S) → Extends r r' → Extends (single_outcome n r) (single_outcome n r')
single_outcome-extends n (Done s out l) r' e = rw e (extends-refl (single_outcome n (Done s out l)))
single_outcome-extends n (Stuck fs l) (Stuck gs m) e = e
single_outcome-extends n (Stuck [] l) (Done s out m) e = if_single-extends (all_single out) n s out l m e
single_outcome-extends n (Stuck (f ∷ fs) l) (Done s out m) e = absurd e

pub record ReactionBelow {T S : Type 0} (r q : Reaction T S) : Type 0 where
  pub outputs : (p : ℕ) → PartialBelow (r.outputs p) (q.outputs p)
  pub log : LogBelow r.log q.log
  pub faults : AllIn (phase_faults r.phase) (phase_faults q.phase)

module _ {T S : Type 0} (early : Earliness T S) (active : Activity T S) (turn more : Stepping T S) (tag : Tag) (grows : Grows turn more) (keeps : KeepsEarly early active more) where
  -- what a child gave early is kept, whatever it does once its inputs are known
  early-reacted : (s : S) (vs ws : List (Partial T)) (X : Streams T) → KnownBelow vs ws → known ws ≡ Some X → (r : Outcome T S) → more tag s X ≡ r → (p : ℕ) → PartialBelow (partial_at (early tag s vs) p) ((reacted early active more tag s ws r).outputs p)
  early-reacted s vs ws X b e (Done s' out l) h p = PartialBelow-trans _ _ _ (keeps.grows tag s vs ws b p) (keeps.agrees tag s ws X s' out l e h p)
  early-reacted s vs ws X b e (Stuck fs l) h p = keeps.grows tag s vs ws b p

  early-active : (s : S) (vs ws : List (Partial T)) (X : Streams T) → KnownBelow vs ws → known ws ≡ Some X → (a : Bool) → active tag s X ≡ a → (p : ℕ) → PartialBelow (partial_at (early tag s vs) p) ((if_active early active more tag a s ws X).outputs p)
  early-active s vs ws X b e true h p = early-reacted s vs ws X b e _ refl p
  early-active s vs ws X b e false h p = PartialBelow-trans _ _ _ (keeps.grows tag s vs ws b p) (keeps.rests tag s ws X e h p)

  early-known : (s : S) (vs ws : List (Partial T)) → KnownBelow vs ws → (o : Option (Streams T)) → known ws ≡ o → (p : ℕ) → PartialBelow (partial_at (early tag s vs) p) ((on_known early active more tag s ws o).outputs p)
  early-known s vs ws b None e p = keeps.grows tag s vs ws b p
  early-known s vs ws b (Some X) e p = early-active s vs ws X b e _ refl p

  reacted-below : (s : S) (vs : List (Partial T)) (X : Streams T) → known vs ≡ Some X → (r r' : Outcome T S) → more tag s X ≡ r' → Extends r r' → ReactionBelow (reacted early active turn tag s vs r) (reacted early active more tag s vs r')
  reacted-below s vs X e (Done s' out l) r' h x =
      rw x (record { outputs = λ p. PartialBelow-refl (Known (at out p)); log = λ p. IsPrefix-refl (l p); faults = λ f i. i })
  reacted-below s vs X e (Stuck fs l) (Stuck gs m) h x = record { outputs = λ p. PartialBelow-refl (partial_at (early tag s vs) p); log = x.1; faults = x.0 }
  reacted-below s vs X e (Stuck [] l) (Done s' out m) h x =
      record { outputs = λ p. early-reacted s vs vs X (KnownBelow-refl vs) e (Done s' out m) h p; log = x; faults = λ f i. absurd i }
  reacted-below s vs X e (Stuck (f ∷ fs) l) (Done s' out m) h x = absurd x

  active-below : (s : S) (vs : List (Partial T)) (X : Streams T) → known vs ≡ Some X → (a : Bool) → ReactionBelow (if_active early active turn tag a s vs X) (if_active early active more tag a s vs X)
  active-below s vs X e true = reacted-below s vs X e (turn tag s X) (more tag s X) refl (grows tag s X)
  active-below s vs X e false = record { outputs = λ p. refl; log = λ p. tt; faults = λ f i. i }

  known-below : (s : S) (vs ws : List (Partial T)) → KnownBelow vs ws → (o : Option (Streams T)) → known vs ≡ o → ReactionBelow (on_known early active turn tag s vs o) (reaction early active more tag s ws)
  known-below s vs ws b None e = record { outputs = early-known s vs ws b (known ws) refl; log = λ p. tt; faults = λ f i. absurd i }
  known-below s vs ws b (Some X) e =
      subst (λ us. ReactionBelow (if_active early active turn tag (active tag s X) s vs X) (reaction early active more tag s us)) (sym (known-same vs ws X b e))
      (subst (λ o. ReactionBelow (if_active early active turn tag (active tag s X) s vs X) (on_known early active more tag s vs o)) (sym e) (active-below s vs X e (active tag s X)))

  pub reaction-below : (s : S) (vs ws : List (Partial T)) → KnownBelow vs ws → ReactionBelow (reaction early active turn tag s vs) (reaction early active more tag s ws)
  reaction-below s vs ws b = known-below s vs ws b (known vs) refl

  -- a child that is not stuck reacts alike
  reacted-free : (s : S) (vs : List (Partial T)) (r r' : Outcome T S) → Extends r r' → is_free (reacted early active turn tag s vs r).phase ≡ true → reacted early active more tag s vs r' ≡ reacted early active turn tag s vs r
  reacted-free s vs (Done s' out l) r' x e = rw x refl
  reacted-free s vs (Stuck fs l) r' x e = absurd (cc)

  active-free : (s : S) (vs : List (Partial T)) (X : Streams T) (a : Bool) → is_free (if_active early active turn tag a s vs X).phase ≡ true → if_active early active more tag a s vs X ≡ if_active early active turn tag a s vs X
  active-free s vs X true e = reacted-free s vs (turn tag s X) (more tag s X) (grows tag s X) e
  active-free s vs X false e = refl

  known-free : (s : S) (vs : List (Partial T)) (o : Option (Streams T)) → is_free (on_known early active turn tag s vs o).phase ≡ true → on_known early active more tag s vs o ≡ on_known early active turn tag s vs o
  known-free s vs None e = refl
  known-free s vs (Some X) e = active-free s vs X (active tag s X) e

  pub reaction-free : (s : S) (vs : List (Partial T)) → is_free (reaction early active turn tag s vs).phase ≡ true → reaction early active more tag s vs ≡ reaction early active turn tag s vs
  reaction-free s vs e = known-free s vs (known vs) e

abbrev pub ReactionsBelow : {T S : Type 0} → List (Reaction T S) → List (Reaction T S) → Type 0
ReactionsBelow [] [] = Unit {0}
ReactionsBelow (r ∷ rs) (q ∷ qs) = ReactionBelow r q × ReactionsBelow rs qs
ReactionsBelow [] (q ∷ qs) = ⊥
ReactionsBelow (r ∷ rs) [] = ⊥

told-below : {T S : Type 0} (rs qs : List (Reaction T S)) → ReactionsBelow rs qs → (i p : ℕ) → PartialBelow (told_by rs i p) (told_by qs i p)
told-below [] [] h i p = tt
told-below (r ∷ rs) (q ∷ qs) h zero p = h.0.outputs p
told-below (r ∷ rs) (q ∷ qs) h (suc i) p = told-below rs qs h.1 i p
told-below [] (q ∷ qs) h i p = absurd h
told-below (r ∷ rs) [] h i p = absurd h

value-below : {T S : Type 0} (rs qs : List (Reaction T S)) (inputs : Streams T) → ReactionsBelow rs qs → (c : Source) → PartialBelow (value_of rs inputs c) (value_of qs inputs c)
value-below rs qs inputs h (Own p) = PartialBelow-refl (Known (at inputs p))
value-below rs qs inputs h (Output i p) = told-below rs qs h i p

pub valued-below : {T S : Type 0} (rs qs : List (Reaction T S)) (inputs : Streams T) → ReactionsBelow rs qs → (cs : List Source) → KnownBelow (valued rs inputs cs) (valued qs inputs cs)
valued-below rs qs inputs h [] = tt
valued-below rs qs inputs h (c ∷ cs) = (value-below rs qs inputs h c, valued-below rs qs inputs h cs)

pub unknowns-below : {T S : Type 0} (rs : List (Reaction T S)) (inputs : Streams T) (cs : List Source) → KnownBelow (unknowns cs) (valued rs inputs cs)
unknowns-below rs inputs [] = tt
unknowns-below rs inputs (c ∷ cs) = (tt, unknowns-below rs inputs cs)

or-not : (a b : Bool) → (a || not b) ≡ true → b ≡ true → a ≡ true
or-not true b h e = refl
or-not false true h e = h
or-not false false h e = e

and-left : (a b : Bool) → (a && b) ≡ true → a ≡ true
and-left true b h = refl
and-left false b h = h

and-right : (a b : Bool) → (a && b) ≡ true → b ≡ true
and-right true b h = h
and-right false b h = absurd (cc)

both : (a b : Bool) → a ≡ true → b ≡ true → (a && b) ≡ true
both a b p q = rw (p, q) refl

tri-no-more : {T : Type 0} (v w : Partial T) → PartialBelow v w → (is_known v || not (is_known w)) ≡ true → v ≡ w
tri-no-more Unknown Unknown p e = refl
tri-no-more Unknown (Known x) p e = absurd (cc)
tri-no-more (Known x) w p e = sym p

pub no-more-same : {T : Type 0} (vs ws : List (Partial T)) → KnownBelow vs ws → no_more vs ws ≡ true → vs ≡ ws
no-more-same [] [] b e = refl
no-more-same [] (w ∷ ws) b e = absurd b
no-more-same (v ∷ vs) [] b e = absurd b
no-more-same (v ∷ vs) (w ∷ ws) b e = ap₂ (λ x y. x ∷ y) (tri-no-more v w b.0 (and-left _ _ e)) (no-more-same vs ws b.1 (and-right _ _ e))

known-or : {T : Type 0} (v : Partial T) → (is_known v || not (is_known v)) ≡ true
known-or Unknown = refl
known-or (Known x) = refl

pub no-more-refl : {T : Type 0} (vs : List (Partial T)) → no_more vs vs ≡ true
no-more-refl [] = refl
no-more-refl (v ∷ vs) = both _ _ (known-or v) (no-more-refl vs)

module _ {T S : Type 0} (early : Earliness T S) (active : Activity T S) (turn more : Stepping T S) (tag : Tag) (grows : Grows turn more) (keeps : KeepsEarly early active more) where
  pub reactions-below : (ns : List ℕ) (ss : List S) (V W : List (Partial T)) → KnownBelow V W → ReactionsBelow (reactions early active turn tag ns ss V) (reactions early active more tag ns ss W)
  reactions-below (n ∷ ns) (s ∷ ss) V W b = (reaction-below early active turn more tag grows keeps s (take n V) (take n W) (KnownBelow-take n V W b), reactions-below ns ss (drop n V) (drop n W) (KnownBelow-drop n V W b))
  reactions-below [] ss V W b = tt
  reactions-below (n ∷ ns) [] V W b = tt

  pub reactions-free : (ns : List ℕ) (ss : List S) (V : List (Partial T)) → all_free (reactions early active turn tag ns ss V) ≡ true → reactions early active more tag ns ss V ≡ reactions early active turn tag ns ss V
  reactions-free (n ∷ ns) (s ∷ ss) V e = ap₂ (λ x y. x ∷ y) (reaction-free early active turn more tag grows keeps s (take n V) (and-left _ _ e)) (reactions-free ns ss (drop n V) (and-right _ _ e))
  reactions-free [] ss V e = refl
  reactions-free (n ∷ ns) [] V e = refl

  pub valuation-below : (net : Net) (kids : List S) (inputs : Streams T) (k k' : ℕ) → k ≤ k' → KnownBelow (valuation early active turn tag net kids inputs k) (valuation early active more tag net kids inputs k')
  unfolding valuation
  valuation-below net kids inputs zero zero h = KnownBelow-refl _
  valuation-below net kids inputs zero (suc k') h = unknowns-below _ inputs net.sources
  valuation-below net kids inputs (suc k) zero h = absurd (omega arith)
  valuation-below net kids inputs (suc k) (suc k') h = valued-below _ _ inputs (reactions-below net.places kids _ _ (valuation-below net kids inputs k k' (omega arith))) net.sources

module _ {T S : Type 0} (early : Earliness T S) (active : Activity T S) (turn more : Stepping T S) (tag : Tag) (grows : Grows turn more) (before : KeepsEarly early active turn) (keeps : KeepsEarly early active more) (net : Net) (kids : List S) (inputs : Streams T) where
  pub is-fixed : (k : ℕ) → is_least early active turn tag net kids inputs k ≡ true → valuation early active turn tag net kids inputs k ≡ valued (reactions early active turn tag net.places kids (valuation early active turn tag net kids inputs k)) inputs net.sources
  unfolding valuation
  is-fixed k e = no-more-same (valuation early active turn tag net kids inputs k) (valuation early active turn tag net kids inputs (suc k)) (valuation-below early active turn turn tag (grows-refl turn) before net kids inputs k (suc k) (omega arith)) e

  under : (k : ℕ) → is_least early active turn tag net kids inputs k ≡ true → all_free (reactions early active turn tag net.places kids (valuation early active turn tag net kids inputs k)) ≡ true →
      (j : ℕ) → KnownBelow (valuation early active more tag net kids inputs j) (valuation early active turn tag net kids inputs k)
  unfolding valuation
  under k e f zero = valuation-below early active turn turn tag (grows-refl turn) before net kids inputs zero k (omega arith)
  under k e f (suc j) =
      subst (λ V. KnownBelow (valuation early active more tag net kids inputs (suc j)) V) (sym (is-fixed k e))
      (subst (λ rs. KnownBelow (valuation early active more tag net kids inputs (suc j)) (valued rs inputs net.sources)) (reactions-free early active turn more tag grows keeps net.places kids (valuation early active turn tag net kids inputs k) f)
      (valued-below _ _ inputs (reactions-below early active more more tag (grows-refl more) keeps net.places kids _ _ (under k e f j)) net.sources))

  pub valuation-stays : (k k' : ℕ) → k ≤ k' → is_least early active turn tag net kids inputs k ≡ true → all_free (reactions early active turn tag net.places kids (valuation early active turn tag net kids inputs k)) ≡ true →
      valuation early active more tag net kids inputs k' ≡ valuation early active turn tag net kids inputs k
  valuation-stays k k' h e f = KnownBelow-antisym _ _ (under k e f k') (valuation-below early active turn more tag grows keeps net kids inputs k k' h)

  pub reactions-stay : (k k' : ℕ) → k ≤ k' → is_least early active turn tag net kids inputs k ≡ true → all_free (reactions early active turn tag net.places kids (valuation early active turn tag net kids inputs k)) ≡ true →
      reactions early active more tag net.places kids (valuation early active more tag net kids inputs k') ≡ reactions early active turn tag net.places kids (valuation early active turn tag net kids inputs k)
  reactions-stay k k' h e f =
      ap (λ V. reactions early active more tag net.places kids V) (valuation-stays k k' h e f) ∙
      reactions-free early active turn more tag grows keeps net.places kids (valuation early active turn tag net kids inputs k) f

  pub least-stays : (k k' : ℕ) → k ≤ k' → is_least early active turn tag net kids inputs k ≡ true → all_free (reactions early active turn tag net.places kids (valuation early active turn tag net kids inputs k)) ≡ true →
      is_least early active more tag net kids inputs k' ≡ true
  least-stays k k' h e f =
      subst₂' (λ V W. no_more V W ≡ true) (sym (valuation-stays k k' h e f)) (sym (valuation-stays k (suc k') (omega arith) e f)) (no-more-refl (valuation early active turn tag net kids inputs k))
    where
      subst₂' : (P : List (Partial T) → List (Partial T) → Type 0) {a b c d : List (Partial T)} → a ≡ b → c ≡ d → P a c → P b d
      subst₂' P {a} {b} {c} {d} p q h = subst (λ y. P b y) q (subst (λ x. P x c) p h)

reaction_faults-below : {T S : Type 0} (i : ℕ) (rs qs : List (Reaction T S)) → ReactionsBelow rs qs → AllIn (reaction_faults i rs) (reaction_faults i qs)
reaction_faults-below i [] [] h f m = m
reaction_faults-below i (r ∷ rs) (q ∷ qs) h f m = all_in-append (prefixed i (phase_faults r.phase)) (prefixed i (phase_faults q.phase)) (reaction_faults (suc i) rs) (reaction_faults (suc i) qs) (all_in-prefixed i _ _ h.0.faults) (reaction_faults-below (suc i) rs qs h.1) f m
reaction_faults-below i [] (q ∷ qs) h f m = absurd h
reaction_faults-below i (r ∷ rs) [] h f m = absurd h

reaction_logs-below : {T S : Type 0} (rs qs : List (Reaction T S)) → ReactionsBelow rs qs → LogBelow (log_below (reaction_logs rs)) (log_below (reaction_logs qs))
reaction_logs-below [] [] h p = IsPrefix-refl (log_below [] p)
reaction_logs-below (r ∷ rs) (q ∷ qs) h p = log_below-mono r.log q.log (reaction_logs rs) (reaction_logs qs) h.0.log (reaction_logs-below rs qs h.1) p
reaction_logs-below [] (q ∷ qs) h p = absurd h
reaction_logs-below (r ∷ rs) [] h p = absurd h

fired-free : (ph : Phase) → has_fired ph ≡ true → is_free ph ≡ true
fired-free Waits e = refl
fired-free Rests e = refl
fired-free Fired e = refl
fired-free (StuckAt fs) e = e

pub all-fired-free : {T S : Type 0} (rs : List (Reaction T S)) → all_fired rs ≡ true → all_free rs ≡ true
all-fired-free [] e = refl
all-fired-free (r ∷ rs) e = both _ _ (fired-free r.phase (and-left _ _ e)) (all-fired-free rs (and-right _ _ e))

free-clear : (ph : Phase) → is_free ph ≡ true → phase_faults ph ≡ []
free-clear Waits e = refl
free-clear Rests e = refl
free-clear Fired e = refl
free-clear (StuckAt fs) e = absurd (cc)

pub all-free-clear : {T S : Type 0} (i : ℕ) (rs : List (Reaction T S)) → all_free rs ≡ true → reaction_faults i rs ≡ []
all-free-clear i [] e = refl
all-free-clear i (r ∷ rs) e =
    let a : phase_faults r.phase ≡ [] = free-clear r.phase (and-left _ _ e) in
    let b : reaction_faults (suc i) rs ≡ [] = all-free-clear (suc i) rs (and-right _ _ e) in
    ap₂ (λ x y. prefixed i x ++ y) a b

not-and : (a b : Bool) → (a && b) ≡ true → not b ≡ true → ⊥
not-and true true h e = cc
not-and true false h e = cc
not-and false b h e = cc

told-in : (blame : List Fault) (a b : Bool) → (a ≡ true → b ≡ true) → AllIn (told_if a blame) (told_if b blame)
told-in blame false b h f m = absurd m
told-in blame true b h f m = subst (λ x. IsIn f (told_if x blame)) (sym (h refl)) m

pub done-clear : {T S : Type 0} (blame : List Fault) (least : Bool) (rs : List (Reaction T S)) → (least && all_fired rs) ≡ true → (reaction_faults 0 rs ++ told_if (least && (all_free rs && not (all_fired rs))) blame) ≡ []
done-clear blame least rs e =
    let a : all_fired rs ≡ true = and-right _ _ e in
    let b : all_free rs ≡ true = all-fired-free rs a in
    let d : least ≡ true = and-left _ _ e in
    rw (all-free-clear 0 rs b, d, b, a) refl

unsettled-extends : {T S : Type 0} (b : Bool) (fs gs : List Fault) (l m : Log T) (c : Inside (Streams T) S) (out : Streams T) → (b ≡ true → gs ≡ []) → AllIn fs gs → LogBelow l m → Extends {T = T} {S = Inside (Streams T) S} (Stuck fs l) (if_settled b c out m gs)
unsettled-extends false fs gs l m c out clear h k = (h, k)
unsettled-extends true [] gs l m c out clear h k = k
unsettled-extends true (f ∷ fs) gs l m c out clear h k = subst (λ v. IsIn f v) (clear refl) (h f (inl refl))

-- one tick, whose parts are given
abbrev pub ticked : {T S : Type 0} → List ℕ → List Fault → Bool → List (Reaction T S) → List (Partial T) → Outcome T (Inside (Streams T) S)
ticked places blame least rs V =
    if_settled (least && all_fired rs) (record { held = []; kids = reaction_states rs }) (tokens_of (skip places V)) (log_below (reaction_logs rs))
    (reaction_faults 0 rs ++ told_if (least && (all_free rs && not (all_fired rs))) blame)

ticked-extends : {T S : Type 0} (places : List ℕ) (blame : List Fault) (least least' : Bool) (rs qs : List (Reaction T S)) (V W : List (Partial T)) →
    (least ≡ true → all_free rs ≡ true → (least' ≡ true) × (qs ≡ rs) × (W ≡ V)) → ReactionsBelow rs qs → (b : Bool) → (least && all_fired rs) ≡ b → Extends (ticked places blame least rs V) (ticked places blame least' qs W)
ticked-extends places blame least least' rs qs V W same h true e =
    let x = same (and-left _ _ e) (all-fired-free rs (and-right _ _ e)) in
    let y : least ≡ true = and-left _ _ e in
    rw (x.0, x.1, x.2, y) (extends-refl (ticked places blame true rs V))
ticked-extends {T = T} {S = S} places blame least least' rs qs V W same h false e =
    subst (λ b. Extends (if_settled b (record { held = []; kids = reaction_states rs }) (tokens_of (skip places V)) (log_below (reaction_logs rs)) (reaction_faults 0 rs ++ told_if (least && (all_free rs && not (all_fired rs))) blame)) (ticked places blame least' qs W)) (sym e)
    (unsettled-extends (least' && all_fired qs) _ _ _ _ _ _ (done-clear blame least' qs)
    (all_in-append (reaction_faults 0 rs) (reaction_faults 0 qs) (told_if _ blame) (told_if _ blame) (reaction_faults-below 0 rs qs h)
    (told-in blame _ _ (λ c.
    let x = same (and-left _ _ c) (and-left _ _ (and-right least _ c)) in
    both _ _ x.0 (subst (λ zs. (all_free zs && not (all_fired zs)) ≡ true) (sym x.1) (and-right least _ c)))))
    (reaction_logs-below rs qs h))

-- the scheme of least valuations keeps the fuel law
pub tick-extends : {T S : Type 0} (early : Earliness T S) (active : Activity T S) (turn more : Stepping T S) → Grows turn more → KeepsEarly early active turn → KeepsEarly early active more →
    (tag : Tag) (net : Net) (blame : List Fault) (kids : List S) (inputs : Streams T) (k k' : ℕ) → k ≤ k' → Extends (tick early active turn tag net blame kids inputs k) (tick early active more tag net blame kids inputs k')
unfolding tick
tick-extends early active turn more grows before keeps tag net blame kids inputs k k' h =
    ticked-extends net.places blame _ _ _ _ _ _
    (λ e f. (least-stays early active turn more tag grows before keeps net kids inputs k k' h e f, reactions-stay early active turn more tag grows before keeps net kids inputs k k' h e f, valuation-stays early active turn more tag grows before keeps net kids inputs k k' h e f))
    (reactions-below early active turn more tag grows keeps net.places kids _ _ (valuation-below early active turn more tag grows keeps net kids inputs k k' h))
    _ refl

-- turns grow with the step
pub recorded-extends : {T S : Type 0} (n : ℕ) (tag : Tag) (inputs : Streams T) (r r' : Outcome T S) → Extends r r' → Extends (recorded n tag inputs r) (recorded n tag inputs r')
recorded-extends n tag inputs (Done c out l) r' e = rw e refl
recorded-extends n tag inputs (Stuck fs l) (Stuck gs m) e = e
recorded-extends n tag inputs (Stuck [] l) (Done c out m) e = λ p. IsPrefix-trans (l p) (m p) _ (e p) (IsPrefix-append (m p) _)
recorded-extends n tag inputs (Stuck (f ∷ fs) l) (Done c out m) e = absurd e

pub sr_turn-grows : {T S : Type 0} (facts : Facts T S) (step more : Stepping T S) → Grows step more → Grows (sr_turn facts step) (sr_turn facts more)
sr_turn-grows facts step more h tag s X = recorded-extends (facts.made s) tag X _ _ (single_outcome-extends (facts.made s) _ _ (h tag s X))

follows-extends : {T S : Type 0} (out : Streams T) (l : Log T) (r r' : Outcome T S) → Extends r r' → Extends (follows out l r) (follows out l r')
follows-extends out l (Done s o k) r' e = rw e refl
follows-extends out l (Stuck fs k) (Stuck gs m) e = (e.0, λ p. IsPrefix-after (l p) (k p) (m p) (e.1 p))
follows-extends out l (Stuck [] k) (Done s o m) e = λ p. IsPrefix-after (l p) (k p) (m p) (e p)
follows-extends out l (Stuck (f ∷ fs) k) (Done s o m) e = absurd e

follows-above : {T S : Type 0} (out : Streams T) (k l : Log T) (r : Outcome T S) → LogBelow k l → Extends (Stuck [] k) (follows out l r)
follows-above out k l (Done s o m) h = λ p. IsPrefix-trans (k p) (l p) _ (h p) (IsPrefix-append (l p) (m p))
follows-above out k l (Stuck fs m) h = (λ f x. absurd x, λ p. IsPrefix-trans (k p) (l p) _ (h p) (IsPrefix-append (l p) (m p)))

and_then-extends : {T S : Type 0} (go go' : S → Outcome T S) → ((s : S) → Extends (go s) (go' s)) → (r r' : Outcome T S) → Extends r r' → Extends (and_then go r) (and_then go' r')
and_then-extends go go' h (Done s out l) r' e = rw e (follows-extends out l (go s) (go' s) (h s))
and_then-extends go go' h (Stuck fs l) (Stuck gs m) e = e
and_then-extends go go' h (Stuck [] l) (Done s out m) e = follows-above out l m (go' s) e
and_then-extends go go' h (Stuck (f ∷ fs) l) (Done s out m) e = absurd e

by_rows-extends : {T S : Type 0} (facts : Facts T S) (step more : Stepping T S) → Grows step more → (tag : Tag) (Xs : List (Streams T)) (s : S) → Extends (by_rows facts step tag Xs s) (by_rows facts more tag Xs s)
by_rows-extends facts step more h tag [] s = refl
by_rows-extends facts step more h tag (X ∷ Xs) s = and_then-extends _ _ (by_rows-extends facts step more h tag Xs) _ _ (recorded-extends (facts.made s) tag X _ _ (h tag s X))

pub de_turn-grows : {T S : Type 0} (facts : Facts T S) (step more : Stepping T S) → Grows step more → Grows (de_turn facts step) (de_turn facts more)
de_turn-grows facts step more h tag s X = go (facts.whole s)
  where
    go : (b : Bool) → Extends (whole_or_rows b facts step tag s X) (whole_or_rows b facts more tag s X)
    go true = recorded-extends (facts.made s) tag X _ _ (h tag s X)
    go false = by_rows-extends facts step more h tag (rows_of X) s

-- a turn that is done is a step that is done, with the same outputs
recorded-done : {T S : Type 0} (n : ℕ) (tag : Tag) (X : Streams T) (r : Outcome T S) (s : S) (out : Streams T) (l : Log T) → recorded n tag X r ≡ Done s out l → (m : Log T) × (r ≡ Done s out m)
recorded-done n tag X (Done z o m) s out l e = (m, cc)
recorded-done n tag X (Stuck fs m) s out l e = absurd (cc)

single-done : {T S : Type 0} (n : ℕ) (r : Outcome T S) (s : S) (out : Streams T) (l : Log T) → single_outcome n r ≡ Done s out l → r ≡ Done s out l
single-done n (Done s out l) s' out' l' e = go (all_single out) e
  where
    go : (b : Bool) → if_single b n s out l ≡ Done s' out' l' → Done s out l ≡ Done s' out' l'
    go true h = h
    go false h = absurd (cc)
single-done n (Stuck fs l) s' out' l' e = absurd (cc)

-- What a director of ticks asks of its children's early answers, in terms of their steps.
pub record EarlySteps {T S : Type 0} (facts : Facts T S) (step : Stepping T S) : Type 0 where
  pub grows : (tag : Tag) (s : S) (vs ws : List (Partial T)) → KnownBelow vs ws → (p : ℕ) → PartialBelow (partial_at (facts.early tag s vs) p) (partial_at (facts.early tag s ws) p)
  pub agrees : (tag : Tag) (s : S) (vs : List (Partial T)) (X : Streams T) (s' : S) (out : Streams T) (l : Log T) → known vs ≡ Some X → step tag s X ≡ Done s' out l → (p : ℕ) → PartialBelow (partial_at (facts.early tag s vs) p) (Known (at out p))
  pub rests : (tag : Tag) (s : S) (vs : List (Partial T)) (X : Streams T) → facts.whole s ≡ true → known vs ≡ Some X → de_active facts tag s X ≡ false → (p : ℕ) → PartialBelow (partial_at (facts.early tag s vs) p) (Known [])

pub sr-keeps : {T S : Type 0} (facts : Facts T S) (step : Stepping T S) → EarlySteps facts step → KeepsEarly facts.early sr_active (sr_turn facts step)
sr-keeps facts step h = record {
  grows = h.grows;
  agrees = λ tag s vs X s' out l e d p.
      let a = recorded-done (facts.made s) tag X (single_outcome (facts.made s) (step tag s X)) s' out l d in
      h.agrees tag s vs X s' out a.0 e (single-done (facts.made s) (step tag s X) s' out a.0 a.1) p;
  rests = λ tag s vs X e f p. absurd (cc);
}

pub de-keeps : {T S : Type 0} (facts : Facts T S) (step : Stepping T S) → EarlySteps facts step → KeepsEarly (de_early facts) (de_active facts) (de_turn facts step)
de-keeps {T} {S} facts step h = record {
  grows = λ tag s vs ws b p. grow tag s vs ws b p (facts.whole s);
  agrees = λ tag s vs X s' out l e d p. agree tag s vs X s' out l e p (facts.whole s) d;
  rests = λ tag s vs X e f p. rest tag s vs X e f p (facts.whole s) refl;
}
  where
    grow : (tag : Tag) (s : S) (vs ws : List (Partial T)) → KnownBelow vs ws → (p : ℕ) (b : Bool) → PartialBelow (partial_at (if_whole b (facts.early tag s vs)) p) (partial_at (if_whole b (facts.early tag s ws)) p)
    grow tag s vs ws b p true = h.grows tag s vs ws b p
    grow tag s vs ws b p false = tt

    agree : (tag : Tag) (s : S) (vs : List (Partial T)) (X : Streams T) (s' : S) (out : Streams T) (l : Log T) → known vs ≡ Some X → (p : ℕ) (b : Bool) → whole_or_rows b facts step tag s X ≡ Done s' out l → PartialBelow (partial_at (if_whole b (facts.early tag s vs)) p) (Known (at out p))
    agree tag s vs X s' out l e p true d = let a = recorded-done (facts.made s) tag X (step tag s X) s' out l d in h.agrees tag s vs X s' out a.0 e a.1 p
    agree tag s vs X s' out l e p false d = tt

    rest : (tag : Tag) (s : S) (vs : List (Partial T)) (X : Streams T) → known vs ≡ Some X → de_active facts tag s X ≡ false → (p : ℕ) (b : Bool) → facts.whole s ≡ b → PartialBelow (partial_at (if_whole b (facts.early tag s vs)) p) (Known [])
    rest tag s vs X e f p true w = h.rests tag s vs X w e f p
    rest tag s vs X e f p false w = tt

pub sr-extends : {T S : Type 0} (facts : Facts T S) (step more : Stepping T S) → Grows step more → EarlySteps facts step → EarlySteps facts more → (p : TickPlan) (n : ℕ) (tag : Tag) (kids : List S) (inputs : Streams T) (k k' : ℕ) → k ≤ k' →
    Extends (sr facts step p k n tag kids inputs) (sr facts more p k' n tag kids inputs)
sr-extends facts step more g b e p n tag kids inputs k k' h = tick-extends facts.early sr_active (sr_turn facts step) (sr_turn facts more) (sr_turn-grows facts step more g) (sr-keeps facts step b) (sr-keeps facts more e) tag p.net _ kids inputs k k' h

pub de-extends : {T S : Type 0} (facts : Facts T S) (step more : Stepping T S) → Grows step more → EarlySteps facts step → EarlySteps facts more → (p : TickPlan) (tag : Tag) (kids : List S) (inputs : Streams T) (k k' : ℕ) → k ≤ k' →
    Extends (de facts step p k tag kids inputs) (de facts more p k' tag kids inputs)
de-extends facts step more g b e p tag kids inputs k k' h = tick-extends (de_early facts) (de_active facts) (de_turn facts step) (de_turn facts more) (de_turn-grows facts step more g) (de-keeps facts step b) (de-keeps facts more e) tag p.net [] kids inputs k k' h
