-- The ticks of SR and DE explained.
use Rattle.std.proofs.Common.{◌≡◌, ◌⊎◌, ℕ, zero, suc, ◌+◌, ◌≤◌, List, [], ◌∷◌, Bool, true, false, ◌&&◌, length, take, drop, Option, Some, None, nat_lt, ◌++◌, if◌then◌else◌, inl, inr, refl, sym, ap, subst, arith, ◌∙◌}
use Rattle.std.proofs.lemmas.Bool.Decides.{nat_tests}
use Rattle.std.proofs.Math.Path.{fun_ext}
use Rattle.pt_meaning.specs.Basics.{Tag, Streams, at, Log, Path, Meeting, silent, log_below}
use Rattle.pt_meaning.specs.Machine.{Fault, Outcome, Done, Stuck, Stepping, Facts, Partial, Unknown, Known, partial_at}
use Rattle.pt_meaning.specs.Rounds.{Source, Own, Output, Net}
use Rattle.pt_meaning.specs.Dataflow.{if_settled}
use Rattle.pt_meaning.specs.Tick as ticks
use Rattle.pt_meaning.specs.Tick.{Activity, Earliness, known, Phase, Waits, Rests, Fired, StuckAt, Reaction, reacted, if_active, on_known, reaction, reactions, told_by, value_of, valued, unknowns, has_fired, all_fired, all_free, reaction_faults, reaction_logs, reaction_states, tokens_of, skip, told_if, react_all, valuation, is_least, tick}
use Rattle.pt_meaning.specs.Modal.{get}
use Rattle.pt_meaning.specs.Rendezvous.{with_meetings}
use Rattle.pt_meaning.specs.Node.{Core}
use Rattle.pt_laws.specs.LogsOfRuns.{log_at, log_in}
use Rattle.pt_meaning.specs.Streams.{IsPrefix}
use Rattle.pt_meaning.specs.Asked.{known_places, AsksInTick, IsAsked}
use Rattle.pt_laws.specs.Channels as channels
use Rattle.pt_meaning.specs.Closed.{Begun, if_there, inputs_at, outputs_at, begun_at, is_modal, keeps_tokens, IsTagBelow}
use Rattle.pt_laws.specs.Channels.{further, channel_at}
use Rattle.pt_laws.specs.SoundRuns.{on_place, IsWired, IsSamePlan}
use Rattle.pt_meaning.specs.Laws.{KnownBelow, KeepsEarly}
use Rattle.pt_laws.specs.Explained.{Turned, PartOf, IfDone, Explained, of_turns, takes_in, gives_in, IsTakenWell, MaySay, Nothing, Absence, Gives, Early}
use Rattle.pt_laws.proofs.RoundLaws.{grows-refl}
use Rattle.pt_laws.proofs.KahnLaws.{and-left, and-right}
use Rattle.pt_laws.proofs.TickLaws.{KnownBelow-take, KnownBelow-drop, known-same, valuation-below, is-fixed}
use Rattle.pt_laws.proofs.Order.{IsPrefix-refl, IsPrefix-trans, IsPrefix-append}
use Rattle.pt_laws.proofs.LogLaws.{log-of-settled}
use Rattle.pt_laws.proofs.ExplainTurns.{Turning}

-- lists of what is known, by number
known-drop : {T : Type 0} (n : ℕ) (V : List (Partial T)) (q : ℕ) → partial_at (drop n V) q ≡ partial_at V (n + q)
known-drop zero V q = let a : q ≡ 0 + q = omega arith in ap (λ v. partial_at V v) a
known-drop (suc n) [] q = refl
known-drop (suc n) (v ∷ V) q = let a : suc (n + q) ≡ suc n + q = omega arith in known-drop n V q ∙ ap (λ w. partial_at (v ∷ V) w) a

-- what is known of a channel, nothing where there is none
abbrev known_in : {T : Type 0} → List (Partial T) → Option ℕ → Partial T
known_in V None = Unknown
known_in V (Some c) = partial_at V c

within-known : {T : Type 0} (n q : ℕ) (V : List (Partial T)) → nat_lt q n ≡ true → partial_at (take n V) q ≡ partial_at V q
within-known zero q V e = absurd (grind (arith, nat_tests, e))
within-known (suc n) q [] e = refl
within-known (suc n) zero (v ∷ V) e = refl
within-known (suc n) (suc q) (v ∷ V) e = let a : nat_lt q n ≡ true = grind (arith, nat_tests, e) in within-known n q V a

beyond-known : {T : Type 0} (n q : ℕ) (V : List (Partial T)) → nat_lt q n ≡ false → partial_at (take n V) q ≡ Unknown
beyond-known zero q V e = refl
beyond-known (suc n) q [] e = refl
beyond-known (suc n) zero (v ∷ V) e = absurd (grind (arith, nat_tests, e))
beyond-known (suc n) (suc q) (v ∷ V) e = let a : nat_lt q n ≡ false = grind (arith, nat_tests, e) in beyond-known n q V a

known-first : {T : Type 0} (n q : ℕ) (V : List (Partial T)) → partial_at (take n V) q ≡ known_in V (if nat_lt q n then Some q else None)
known-first {T} n q V = go (nat_lt q n) refl
  where
    go : (b : Bool) → nat_lt q n ≡ b → partial_at (take n V) q ≡ known_in V (if b then Some q else None)
    go true e = within-known n q V e
    go false e = beyond-known n q V e

known-further : {T : Type 0} (n : ℕ) (V : List (Partial T)) (o : Option ℕ) → known_in (drop n V) o ≡ known_in V (further n o)
known-further n V None = refl
known-further n V (Some c) = known-drop n V c

-- known inputs are what is known, place by place
known-exact : {T : Type 0} (vs : List (Partial T)) (X : Streams T) (q : ℕ) → known vs ≡ Some X → (partial_at vs q ≡ Known (at X q)) ⊎ (at X q ≡ [])
known-exact {T} [] X q e = inr (ap (λ (Y : Streams T). at Y q) (some-same [] X e))
  where
    some-same : (u v : Streams T) → Some u ≡ Some v → v ≡ u
    some-same u v e = cc
known-exact {T} (Unknown ∷ vs) X q e = absurd (no (known vs) e)
  where
    no : (o : Option (Streams T)) → ticks.known_then Unknown o ≡ Some X → ⊥
    no None e = cc
    no (Some Y) e = cc
known-exact {T} (Known xs ∷ vs) X q e = go (known vs) e q (λ Y f r. known-exact vs Y r f)
  where
    go : (o : Option (Streams T)) → ticks.known_then (Known xs) o ≡ Some X → (q : ℕ) → ((Y : Streams T) → o ≡ Some Y → (r : ℕ) → (partial_at vs r ≡ Known (at Y r)) ⊎ (at Y r ≡ [])) → (partial_at (Known xs ∷ vs) q ≡ Known (at X q)) ⊎ (at X q ≡ [])
    go None e q ih = absurd (cc)
    go (Some Y) e zero ih = let same : X ≡ xs ∷ Y = cc in inl (ap (λ (Z : Streams T). Known (at Z 0)) (sym same))
    go (Some Y) e (suc r) ih = let same : X ≡ xs ∷ Y = cc in subst (λ (Z : Streams T). (partial_at vs r ≡ Known (at Z (suc r))) ⊎ (at Z (suc r) ≡ [])) (sym same) (ih Y refl r)

-- nothing, or the beginning of what is known
abbrev IsOf : {T : Type 0} → List T → Partial T → Type 0
IsOf {T} xs v = (xs ≡ []) ⊎ ((ys : List T) × (v ≡ Known ys) × IsPrefix xs ys)

none-of : {T : Type 0} (xs : List T) → IsPrefix xs [] → xs ≡ []
none-of [] h = refl
none-of (x ∷ xs) h = absurd h

-- how a child has reacted, by what is known of its inputs
module _ {T S : Type 0} (facts : Facts T S) (step : Stepping T S) (early : Earliness T S) (active : Activity T S) (turn : Stepping T S) (tag : Tag) (turning : Turning facts step turn tag) where
  abbrev pub turns_if : S → Streams T → Bool → List (Turned T)
  turns_if s X true = turning.turns s X
  turns_if s X false = []

  abbrev pub turns_known : S → Option (Streams T) → List (Turned T)
  turns_known s None = []
  turns_known s (Some X) = turns_if s X (active tag s X)

  abbrev pub way_if : S → Streams T → Bool → Option (Begun T)
  way_if s X true = turning.way s X
  way_if s X false = None

  abbrev pub way_known : S → Option (Streams T) → Option (Begun T)
  way_known s None = None
  way_known s (Some X) = way_if s X (active tag s X)

  abbrev pub end_if : S → Streams T → Bool → S
  end_if s X true = turning.end s X
  end_if s X false = s

  abbrev pub end_known : S → Option (Streams T) → S
  end_known s None = s
  end_known s (Some X) = end_if s X (active tag s X)

  -- its part, whatever is known
  quiet-part : (s : S) → PartOf facts step s silent [] None s
  quiet-part s = record { first = silent; rest = silent; chain = (refl, refl); ends = refl; whole = refl }

  reacted-log : (s : S) (vs : List (Partial T)) (o : Outcome T S) → (reacted early active turn tag s vs o).log ≡ log_in o
  reacted-log s vs (Done z out l) = refl
  reacted-log s vs (Stuck fs l) = refl

  known-part : (s : S) (vs : List (Partial T)) (o : Option (Streams T)) → PartOf facts step s (on_known early active turn tag s vs o).log (turns_known s o) (way_known s o) (end_known s o)
  known-part s vs None = quiet-part s
  known-part s vs (Some X) = go (active tag s X)
    where
      go : (b : Bool) → PartOf facts step s (if_active early active turn tag b s vs X).log (turns_if s X b) (way_if s X b) (end_if s X b)
      go true = subst (λ l. PartOf facts step s l (turning.turns s X) (turning.way s X) (turning.end s X)) (sym (reacted-log s vs (turn tag s X))) (turning.is s X).part_is
      go false = quiet-part s

  -- where it has fired it is where its turn led, and nothing is under way
  known-fired : (s : S) (vs : List (Partial T)) (o : Option (Streams T)) → has_fired (on_known early active turn tag s vs o).phase ≡ true → ((on_known early active turn tag s vs o).state ≡ end_known s o) × (way_known s o ≡ None)
  known-fired s vs None e = absurd (cc)
  known-fired s vs (Some X) e = go (active tag s X) e
    where
      outcome : (r : Outcome T S) → turn tag s X ≡ r → has_fired (reacted early active turn tag s vs r).phase ≡ true → ((reacted early active turn tag s vs r).state ≡ turning.end s X) × (turning.way s X ≡ None)
      outcome (Done z out l) d e = let w = (turning.is s X).done z out l d in (sym w.0, w.1)
      outcome (Stuck fs l) d e = absurd (cc)

      go : (b : Bool) → has_fired (if_active early active turn tag b s vs X).phase ≡ true → ((if_active early active turn tag b s vs X).state ≡ end_if s X b) × (way_if s X b ≡ None)
      go true e = outcome (turn tag s X) refl e
      go false e = (refl, refl)

  -- child by child
  abbrev pub turns_in : List ℕ → List S → List (Partial T) → ℕ → List (Turned T)
  turns_in (n ∷ ns) (s ∷ ss) V zero = turns_known s (known (take n V))
  turns_in (n ∷ ns) (s ∷ ss) V (suc i) = turns_in ns ss (drop n V) i
  turns_in [] ss V i = []
  turns_in (n ∷ ns) [] V i = []

  abbrev pub way_in : List ℕ → List S → List (Partial T) → ℕ → Option (Begun T)
  way_in (n ∷ ns) (s ∷ ss) V zero = way_known s (known (take n V))
  way_in (n ∷ ns) (s ∷ ss) V (suc i) = way_in ns ss (drop n V) i
  way_in [] ss V i = None
  way_in (n ∷ ns) [] V i = None

  abbrev pub end_in : S → List ℕ → List S → List (Partial T) → ℕ → S
  end_in any (n ∷ ns) (s ∷ ss) V zero = end_known s (known (take n V))
  end_in any (n ∷ ns) (s ∷ ss) V (suc i) = end_in any ns ss (drop n V) i
  end_in any [] ss V i = any
  end_in any (n ∷ ns) [] V i = any

  some-same : (u v : S) → Some u ≡ Some v → u ≡ v
  some-same u v e = cc

  part-in : (any : S) (ns : List ℕ) (ss : List S) (V : List (Partial T)) → length ss ≡ length ns → (i : ℕ) (s : S) → get ss i ≡ Some s → PartOf facts step s (log_at (reaction_logs (reactions early active turn tag ns ss V)) i) (turns_in ns ss V i) (way_in ns ss V i) (end_in any ns ss V i)
  part-in any [] [] V a i s e = absurd (cc)
  part-in any [] (z ∷ ss) V a i s e = absurd (omega arith)
  part-in any (n ∷ ns) [] V a i s e = absurd (omega arith)
  part-in any (n ∷ ns) (z ∷ ss) V a zero s e =
      subst (λ v. PartOf facts step v (reaction early active turn tag z (take n V)).log (turns_known z (known (take n V))) (way_known z (known (take n V))) (end_known z (known (take n V)))) (some-same z s e) (known-part z (take n V) (known (take n V)))
  part-in any (n ∷ ns) (z ∷ ss) V a (suc i) s e = part-in any ns ss (drop n V) (omega (arith, a)) i s e

  beyond-in : (ns : List ℕ) (ss : List S) (V : List (Partial T)) (i : ℕ) → length ss ≤ i → (log_at (reaction_logs (reactions early active turn tag ns ss V)) i ≡ silent) × (turns_in ns ss V i ≡ []) × (way_in ns ss V i ≡ None)
  beyond-in [] ss V i h = (refl, refl, refl)
  beyond-in (n ∷ ns) [] V i h = (refl, refl, refl)
  beyond-in (n ∷ ns) (s ∷ ss) V zero h = absurd (omega arith)
  beyond-in (n ∷ ns) (s ∷ ss) V (suc i) h = beyond-in ns ss (drop n V) i (omega (arith, h))

  begun-tagged-in : (ns : List ℕ) (ss : List S) (V : List (Partial T)) (i : ℕ) (b : Begun T) → way_in ns ss V i ≡ Some b → b.tag ≡ tag
  begun-tagged-in [] ss V i b h = absurd (cc)
  begun-tagged-in (n ∷ ns) [] V i b h = absurd (cc)
  begun-tagged-in (n ∷ ns) (s ∷ ss) V zero b h = go (known (take n V)) h
    where
      clash : None ≡ Some b → ⊥
      clash e = cc

      active_go : (X : Streams T) (c : Bool) → way_if s X c ≡ Some b → b.tag ≡ tag
      active_go X true h = (turning.is s X).begun_tagged b h
      active_go X false h = absurd (clash h)

      go : (o : Option (Streams T)) → way_known s o ≡ Some b → b.tag ≡ tag
      go None h = absurd (clash h)
      go (Some X) h = active_go X (active tag s X) h
  begun-tagged-in (n ∷ ns) (s ∷ ss) V (suc i) b h = begun-tagged-in ns ss (drop n V) i b h

  -- a child that begins a firing which it doesn't finish: its inputs are known, and it is active
  pub record Begins (any : S) (ns : List ℕ) (ss : List S) (V : List (Partial T)) (i : ℕ) (b : Begun T) : Type 0 where
    pub first : S
    pub lists : Streams T
    pub inputs_known : known (known_places ns i V) ≡ Some lists
    pub there : get ss i ≡ Some first
    pub is_active : active tag first lists ≡ true
    pub begun : turning.way first lists ≡ Some b
    pub end : end_in any ns ss V i ≡ turning.end first lists

  begins-in : (any : S) (ns : List ℕ) (ss : List S) (V : List (Partial T)) (i : ℕ) (b : Begun T) → way_in ns ss V i ≡ Some b → Begins any ns ss V i b
  begins-in any [] ss V i b h = absurd (cc)
  begins-in any (n ∷ ns) [] V i b h = absurd (cc)
  begins-in any (n ∷ ns) (s ∷ ss) V zero b h = go (known (take n V)) refl h
    where
      clash : None ≡ Some b → ⊥
      clash e = cc

      active_go : (X : Streams T) → known (take n V) ≡ Some X → (c : Bool) → active tag s X ≡ c → way_if s X c ≡ Some b → Begins any (n ∷ ns) (s ∷ ss) V zero b
      active_go X k true a h = record { first = s; lists = X; inputs_known = k; there = refl; is_active = a; begun = h; end = ap (λ o. end_known s o) k ∙ ap (λ c. end_if s X c) a }
      active_go X k false a h = absurd (clash h)

      go : (o : Option (Streams T)) → known (take n V) ≡ o → way_known s o ≡ Some b → Begins any (n ∷ ns) (s ∷ ss) V zero b
      go None k h = absurd (clash h)
      go (Some X) k h = active_go X k (active tag s X) refl h
  begins-in any (n ∷ ns) (s ∷ ss) V (suc i) b h =
      let r = begins-in any ns ss (drop n V) i b h in record { first = r.first; lists = r.lists; inputs_known = r.inputs_known; there = r.there; is_active = r.is_active; begun = r.begun; end = r.end }

  -- as often as it takes them
  known-takes : (s : S) (vs : List (Partial T)) (q : ℕ) → IsOf (of_turns (inputs_at q) (turns_known s (known vs)) ++ begun_at (way_known s (known vs)) q) (partial_at vs q)
  known-takes s vs q = go (known vs) refl
    where
      active_go : (X : Streams T) → (partial_at vs q ≡ Known (at X q)) ⊎ (at X q ≡ []) → (b : Bool) → IsOf (of_turns (inputs_at q) (turns_if s X b) ++ begun_at (way_if s X b) q) (partial_at vs q)
      active_go X e false = inl refl
      active_go X (inl e) true = inr (at X q, e, (turning.counts s X).takes q)
      active_go X (inr e) true = inl (none-of _ (subst (λ v. IsPrefix (of_turns (inputs_at q) (turning.turns s X) ++ begun_at (turning.way s X) q) v) e ((turning.counts s X).takes q)))

      go : (o : Option (Streams T)) → known vs ≡ o → IsOf (of_turns (inputs_at q) (turns_known s o) ++ begun_at (way_known s o) q) (partial_at vs q)
      go None e = inl refl
      go (Some X) e = active_go X (known-exact vs X q e) (active tag s X)

  takes-of : (ns : List ℕ) (ss : List S) (V : List (Partial T)) (i q : ℕ) → IsOf (of_turns (inputs_at q) (turns_in ns ss V i) ++ begun_at (way_in ns ss V i) q) (known_in V (channel_at ns i q))
  takes-of [] ss V i q = inl refl
  takes-of (n ∷ ns) [] V i q = inl refl
  takes-of (n ∷ ns) (s ∷ ss) V zero q = subst (λ v. IsOf (of_turns (inputs_at q) (turns_known s (known (take n V))) ++ begun_at (way_known s (known (take n V))) q) v) (known-first n q V) (known-takes s (take n V) q)
  takes-of (n ∷ ns) (s ∷ ss) V (suc i) q = subst (λ v. IsOf (of_turns (inputs_at q) (turns_in ns ss (drop n V) i) ++ begun_at (way_in ns ss (drop n V) i) q) v) (known-further n V (channel_at ns i q)) (takes-of ns ss (drop n V) i q)

  -- what a child tells of an output: nothing, absence, what its turn gives, or its early answer
  data Told (ns : List ℕ) (ss : List S) (V W : List (Partial T)) (j port : ℕ) : Partial T → Type 0 where
    TellsNothing : Told ns ss V W j port Unknown
    TellsAbsence : Told ns ss V W j port (Known [])
    TellsTurns : Told ns ss V W j port (Known (of_turns (outputs_at port) (turns_in ns ss W j)))
    TellsEarly : (s : S) (vs : List (Partial T)) → get ss j ≡ Some s → ((place : ℕ) → partial_at vs place ≡ known_in V (channel_at ns j place)) → Told ns ss V W j port (partial_at (early tag s vs) port)

  told-first : (n : ℕ) (ns : List ℕ) (s : S) (ss : List S) (V W : List (Partial T)) (port : ℕ) → KnownBelow V W → Told (n ∷ ns) (s ∷ ss) V W 0 port ((reaction early active turn tag s (take n V)).outputs port)
  told-first n ns s ss V W port b = go (known (take n V)) refl
    where
      by_early : Told (n ∷ ns) (s ∷ ss) V W 0 port (partial_at (early tag s (take n V)) port)
      by_early = TellsEarly s (take n V) refl (λ place. known-first n place V)

      by_turn : (X : Streams T) → known (take n W) ≡ Some X → active tag s X ≡ true → (r : Outcome T S) → turn tag s X ≡ r → Told (n ∷ ns) (s ∷ ss) V W 0 port ((reacted early active turn tag s (take n V) r).outputs port)
      by_turn X e g (Done z out l) d =
          let same : of_turns (outputs_at port) (turning.turns s X) ≡ of_turns (outputs_at port) (turns_known s (known (take n W))) = ap (λ b. of_turns (outputs_at port) (turns_if s X b)) (sym g) ∙ ap (λ o. of_turns (outputs_at port) (turns_known s o)) (sym e) in
          subst (λ v. Told (n ∷ ns) (s ∷ ss) V W 0 port (Known v)) (sym ((turning.counts s X).gives z out l d port ∙ same)) TellsTurns
      by_turn X e g (Stuck fs l) d = by_early

      by_active : (X : Streams T) → known (take n W) ≡ Some X → (b : Bool) → active tag s X ≡ b → Told (n ∷ ns) (s ∷ ss) V W 0 port ((if_active early active turn tag b s (take n V) X).outputs port)
      by_active X e true g = by_turn X e g (turn tag s X) refl
      by_active X e false g = TellsAbsence

      go : (o : Option (Streams T)) → known (take n V) ≡ o → Told (n ∷ ns) (s ∷ ss) V W 0 port ((on_known early active turn tag s (take n V) o).outputs port)
      go None e = by_early
      go (Some X) e = by_active X (ap (λ v. known v) (known-same (take n V) (take n W) X (KnownBelow-take n V W b) e) ∙ e) (active tag s X) refl

  told-later : (n : ℕ) (ns : List ℕ) (s : S) (ss : List S) (V W : List (Partial T)) (j port : ℕ) (v : Partial T) → Told ns ss (drop n V) (drop n W) j port v → Told (n ∷ ns) (s ∷ ss) V W (suc j) port v
  told-later n ns s ss V W j port v TellsNothing = TellsNothing
  told-later n ns s ss V W j port v TellsAbsence = TellsAbsence
  told-later n ns s ss V W j port v TellsTurns = TellsTurns
  told-later n ns s ss V W j port v (TellsEarly z vs e f) = TellsEarly z vs e (λ place. f place ∙ known-further n V (channel_at ns j place))

  told-exact : (ns : List ℕ) (ss : List S) (V W : List (Partial T)) → KnownBelow V W → (j port : ℕ) → Told ns ss V W j port (told_by (reactions early active turn tag ns ss V) j port)
  told-exact [] ss V W b j port = TellsNothing
  told-exact (n ∷ ns) [] V W b j port = TellsNothing
  told-exact (n ∷ ns) (s ∷ ss) V W b zero port = told-first n ns s ss V W port b
  told-exact (n ∷ ns) (s ∷ ss) V W b (suc j) port = told-later n ns s ss V W j port _ (told-exact ns ss (drop n V) (drop n W) (KnownBelow-drop n V W b) j port)

  -- and where all have fired it tells no early answer
  known-tells : (s : S) (vs : List (Partial T)) (o : Option (Streams T)) (port : ℕ) (xs : List T) → has_fired (on_known early active turn tag s vs o).phase ≡ true → (on_known early active turn tag s vs o).outputs port ≡ Known xs → (xs ≡ []) ⊎ (xs ≡ of_turns (outputs_at port) (turns_known s o))
  known-tells s vs None port xs e h = absurd (cc)
  known-tells s vs (Some X) port xs e h = go (active tag s X) e h
    where
      same : (ys : List T) → Known ys ≡ Known xs → xs ≡ ys
      same ys e = cc

      outcome : (r : Outcome T S) → turn tag s X ≡ r → has_fired (reacted early active turn tag s vs r).phase ≡ true → (reacted early active turn tag s vs r).outputs port ≡ Known xs → (xs ≡ []) ⊎ (xs ≡ of_turns (outputs_at port) (turning.turns s X))
      outcome (Done z out l) d e h = inr (same (at out port) h ∙ (turning.counts s X).gives z out l d port)
      outcome (Stuck fs l) d e h = absurd (cc)

      go : (b : Bool) → has_fired (if_active early active turn tag b s vs X).phase ≡ true → (if_active early active turn tag b s vs X).outputs port ≡ Known xs → (xs ≡ []) ⊎ (xs ≡ of_turns (outputs_at port) (turns_if s X b))
      go true e h = outcome (turn tag s X) refl e h
      go false e h = inl (same [] h)

  tells-in : (ns : List ℕ) (ss : List S) (V : List (Partial T)) (j port : ℕ) (xs : List T) → all_fired (reactions early active turn tag ns ss V) ≡ true → told_by (reactions early active turn tag ns ss V) j port ≡ Known xs → (xs ≡ []) ⊎ (xs ≡ of_turns (outputs_at port) (turns_in ns ss V j))
  tells-in [] ss V j port xs e h = absurd (cc)
  tells-in (n ∷ ns) [] V j port xs e h = absurd (cc)
  tells-in (n ∷ ns) (s ∷ ss) V zero port xs e h = known-tells s (take n V) (known (take n V)) port xs (and-left _ _ e) h
  tells-in (n ∷ ns) (s ∷ ss) V (suc j) port xs e h = tells-in ns ss (drop n V) j port xs (and-right _ _ e) h

  -- where all have fired
  fired-in : (any : S) (ns : List ℕ) (ss : List S) (V : List (Partial T)) → all_fired (reactions early active turn tag ns ss V) ≡ true → (i : ℕ) → (way_in ns ss V i ≡ None) × ((z : S) → get (reaction_states (reactions early active turn tag ns ss V)) i ≡ Some z → z ≡ end_in any ns ss V i)
  fired-in any [] ss V e i = (refl, λ z g. absurd (cc))
  fired-in any (n ∷ ns) [] V e i = (refl, λ z g. absurd (cc))
  fired-in any (n ∷ ns) (s ∷ ss) V e zero =
      let w = known-fired s (take n V) (known (take n V)) (and-left _ _ e) in (w.1, λ z g. sym (some-same (reaction early active turn tag s (take n V)).state z g) ∙ w.0)
  fired-in any (n ∷ ns) (s ∷ ss) V e (suc i) = fired-in any ns ss (drop n V) (and-right _ _ e) i

  states-long : (ns : List ℕ) (ss : List S) (V : List (Partial T)) → length ss ≡ length ns → length (reaction_states (reactions early active turn tag ns ss V)) ≡ length ss
  states-long [] [] V a = refl
  states-long [] (s ∷ ss) V a = absurd (omega arith)
  states-long (n ∷ ns) [] V a = refl
  states-long (n ∷ ns) (s ∷ ss) V a = ap (λ m. suc m) (states-long ns ss (drop n V) (omega (arith, a)))

-- early answers are those of the facts, or none
abbrev pub EarlyOf : {T S : Type 0} → Facts T S → Earliness T S → Type 0
EarlyOf {T} {S} facts early = (t : Tag) (s : S) (vs : List (Partial T)) (port : ℕ) (xs : List T) → partial_at (early t s vs) port ≡ Known xs → partial_at (facts.early t s vs) port ≡ Known xs

-- a tick explained
module _ {T S : Type 0} (facts : Facts T S) (step : Stepping T S) (early : Earliness T S) (active : Activity T S) (turn : Stepping T S) (tag : Tag) (turning : Turning facts step turn tag) (keeps : KeepsEarly early active turn) (early_of : EarlyOf facts early) (net : Net) (blame : List Fault) (ks : List S) (inputs : Streams T) (any : S) (k : ℕ) where
  val : ℕ → List (Partial T)
  val j = valuation early active turn tag net ks inputs j

  abbrev pub turns_val : ℕ → ℕ → List (Turned T)
  turns_val j i = turns_in facts step early active turn tag turning net.places ks (valuation early active turn tag net ks inputs j) i

  -- a tick over this director's core
  module _ (d : Core T) (core : Streams T → Core T) (core_wired : (Y : Streams T) → IsWired (core Y)) (source : (i q : ℕ) → channels.source_of d i q ≡ channels.source_in net i q) (place : (i q : ℕ) → on_place d i q ≡ []) (at_tag : IsTagBelow (is_modal d) tag tag) (none_kept : keeps_tokens d ≡ false) (same : (Y : Streams T) → IsSamePlan (core Y) d) (a : length ks ≡ length net.places) (ms : List Meeting) (made : ℕ)
      (asks : (i : ℕ) (first : S) (lists : Streams T) (b : Begun T) → AsksInTick early active turn tag net ks inputs i first lists → active tag first lists ≡ true → turning.way first lists ≡ Some b → IsAsked facts step ms made d ks tag inputs i (turning.end first lists) b.tag b.inputs) where
    -- what may be known of each place
    value-at : (rs : List (Reaction T S)) (cs : List Source) (c : ℕ) → (get cs c ≡ None) × (partial_at (valued rs inputs cs) c ≡ Unknown) ⊎ ((s : Source) × (get cs c ≡ Some s) × (partial_at (valued rs inputs cs) c ≡ value_of rs inputs s))
    value-at rs [] c = inl (refl, refl)
    value-at rs (s ∷ cs) zero = inr (s, refl, refl)
    value-at rs (s ∷ cs) (suc c) = value-at rs cs c

    abbrev Says : ℕ → (child place : ℕ) → Partial T → Type 0
    Says K i q v = MaySay facts d ks inputs (turns_val K) tag i q v

    nothing-known : (cs : List Source) (c : ℕ) → partial_at (unknowns {T = T} cs) c ≡ Unknown
    nothing-known [] c = refl
    nothing-known (s ∷ cs) zero = refl
    nothing-known (s ∷ cs) (suc c) = nothing-known cs c

    says-early : (K i q j port : ℕ) (s : S) (vs : List (Partial T)) → channels.source_of d i q ≡ Some (Output j port) → get ks j ≡ Some s → ((place : ℕ) → Says K j place (partial_at vs place)) → (v : Partial T) → partial_at (early tag s vs) port ≡ v → Says K i q v
    says-early K i q j port s vs f g h Unknown e = Nothing i q
    says-early K i q j port s vs f g h (Known xs) e = Early i q j port s vs xs f g h (early_of tag s vs port xs e)

    says-told : (K i q j port : ℕ) (V : List (Partial T)) → channels.source_of d i q ≡ Some (Output j port) → ((place : ℕ) → Says K j place (known_in V (channel_at net.places j place))) → (v : Partial T) → Told facts step early active turn tag turning net.places ks V (val K) j port v → Says K i q v
    unfolding val
    says-told K i q j port V f h Unknown TellsNothing = Nothing i q
    says-told K i q j port V f h (Known xs) TellsAbsence = Absence i q
    says-told K i q j port V f h v TellsTurns = subst (λ (o : Option Source). Says K i q (Known (gives_in inputs (turns_val K) o))) f (Gives i q)
    says-told K i q j port V f h v (TellsEarly s vs e g) = says-early K i q j port s vs f e (λ place. subst (λ w. Says K j place w) (sym (g place)) (h place)) (partial_at (early tag s vs) port) refl

    says-at : (K j : ℕ) → j ≤ K → (i q : ℕ) → Says K i q (known_in (val j) (channel_at net.places i q))
    unfolding val valuation
    says-at K zero o i q = subst (λ v. Says K i q v) (sym (none (channel_at net.places i q))) (Nothing i q)
      where
        none : (c : Option ℕ) → known_in (unknowns {T = T} net.sources) c ≡ Unknown
        none None = refl
        none (Some c) = nothing-known net.sources c
    says-at K (suc j) o i q = go (channel_at net.places i q) refl (λ i q. says-at K j (omega (arith, o)) i q)
      where
        rs : List (Reaction T S)
        rs = reactions early active turn tag net.places ks (val j)

        by_source : (s : Source) → channels.source_of d i q ≡ Some s → ((i q : ℕ) → Says K i q (known_in (val j) (channel_at net.places i q))) → Says K i q (value_of (reactions early active turn tag net.places ks (val j)) inputs s)
        by_source (Own port) f ih = subst (λ (o : Option Source). Says K i q (Known (gives_in inputs (turns_val K) o))) f (Gives i q)
        by_source (Output n port) f ih = says-told K i q n port (val j) f (λ place. ih n place) _ (told-exact facts step early active turn tag turning net.places ks (val j) (val K) (valuation-below early active turn turn tag (grows-refl turn) keeps net ks inputs j K (omega (arith, o))) n port)

        go : (c : Option ℕ) → channel_at net.places i q ≡ c → ((i q : ℕ) → Says K i q (known_in (val j) (channel_at net.places i q))) → Says K i q (known_in (valued (reactions early active turn tag net.places ks (val j)) inputs net.sources) c)
        go None e ih = Nothing i q
        go (Some c) e ih = at_channel (value-at (reactions early active turn tag net.places ks (val j)) net.sources c)
          where
            at_channel : (get net.sources c ≡ None) × (partial_at (valued (reactions early active turn tag net.places ks (val j)) inputs net.sources) c ≡ Unknown) ⊎ ((s : Source) × (get net.sources c ≡ Some s) × (partial_at (valued (reactions early active turn tag net.places ks (val j)) inputs net.sources) c ≡ value_of (reactions early active turn tag net.places ks (val j)) inputs s)) →
                Says K i q (partial_at (valued (reactions early active turn tag net.places ks (val j)) inputs net.sources) c)
            at_channel (inl g) = subst (λ v. Says K i q v) (sym g.1) (Nothing i q)
            at_channel (inr g) = subst (λ v. Says K i q v) (sym g.2) (by_source g.0 (source i q ∙ ap (λ v. if_there (get net.sources) v) e ∙ g.1) ih)

    abbrev now : List (Partial T)
    now = valuation early active turn tag net ks inputs k

    abbrev now_reactions : List (Reaction T S)
    now_reactions = reactions early active turn tag net.places ks now

    no-meetings : (l : List (Log T)) → log_below l ≡ with_meetings [] (log_below l)
    no-meetings l = fun_ext one
      where
        one : (p : Path) → log_below l p ≡ with_meetings [] (log_below l) p
        one [] = refl
        one (i ∷ p) = refl

    all-takes : (i q : ℕ) → List T
    all-takes i q = takes_in (turns_val k) (λ i. way_in facts step early active turn tag turning net.places ks now i) i q

    all-taken : (i q : ℕ) → IsTakenWell facts d ks inputs (turns_val k) (λ i. way_in facts step early active turn tag turning net.places ks now i) tag i q
    unfolding val
    all-taken i q = go (takes-of facts step early active turn tag turning net.places ks now i q)
      where
        go : IsOf (takes_in (turns_val k) (λ i. way_in facts step early active turn tag turning net.places ks now i) i q) (known_in now (channel_at net.places i q)) → IsTakenWell facts d ks inputs (turns_val k) (λ i. way_in facts step early active turn tag turning net.places ks now i) tag i q
        go (inl e) = inl (subst (λ v. IsPrefix v (on_place d i q ++ gives_in inputs (turns_val k) (channels.source_of d i q))) (sym e) tt)
        go (inr e) = inr (none_kept, e.0, subst (λ v. Says k i q v) e.1 (says-at k k (omega arith) i q), e.2)

    -- in a tick that is done each place has what its source gave
    gave-at : all_fired now_reactions ≡ true → is_least early active turn tag net ks inputs k ≡ true → (o : Option ℕ) (xs : List T) → known_in now o ≡ Known xs → IsPrefix xs (gives_in inputs (turns_val k) (if_there (get net.sources) o))
    gave-at f l None xs e = absurd (cc)
    gave-at f l (Some c) xs e = at_channel (value-at now_reactions net.sources c)
      where
        fixed : partial_at now c ≡ partial_at (valued now_reactions inputs net.sources) c
        fixed = ap (λ v. partial_at v c) (is-fixed early active turn turn tag (grows-refl turn) keeps keeps net ks inputs k l)

        unknown : Unknown ≡ Known xs → ⊥
        unknown e = cc

        same_known : (ys : List T) → Known ys ≡ Known xs → ys ≡ xs
        same_known ys e = cc

        either : (j port : ℕ) → (xs ≡ []) ⊎ (xs ≡ of_turns (outputs_at port) (turns_val k j)) → IsPrefix xs (of_turns (outputs_at port) (turns_val k j))
        either j port (inl g) = subst (λ v. IsPrefix v (of_turns (outputs_at port) (turns_val k j))) (sym g) tt
        either j port (inr g) = subst (λ v. IsPrefix xs v) g (IsPrefix-refl xs)

        by_source : (s : Source) → value_of now_reactions inputs s ≡ Known xs → IsPrefix xs (gives_in inputs (turns_val k) (Some s))
        by_source (Own port) g = subst (λ v. IsPrefix xs v) (sym (same_known (at inputs port) g)) (IsPrefix-refl xs)
        by_source (Output j port) g = either j port (tells-in facts step early active turn tag turning net.places ks now j port xs f g)

        at_channel : (get net.sources c ≡ None) × (partial_at (valued now_reactions inputs net.sources) c ≡ Unknown) ⊎ ((s : Source) × (get net.sources c ≡ Some s) × (partial_at (valued now_reactions inputs net.sources) c ≡ value_of now_reactions inputs s)) → IsPrefix xs (gives_in inputs (turns_val k) (get net.sources c))
        at_channel (inl g) = absurd (unknown (sym (fixed ∙ g.1) ∙ e))
        at_channel (inr g) = subst (λ v. IsPrefix xs (gives_in inputs (turns_val k) v)) (sym g.1) (by_source g.0 (sym g.2 ∙ sym fixed ∙ e))

    well-taken : all_fired now_reactions ≡ true → is_least early active turn tag net ks inputs k ≡ true → (i q : ℕ) → IsPrefix (of_turns (inputs_at q) (turns_val k i)) (on_place d i q ++ gives_in inputs (turns_val k) (channels.source_of d i q))
    well-taken f l i q =
        subst (λ v. IsPrefix (of_turns (inputs_at q) (turns_val k i)) (v ++ gives_in inputs (turns_val k) (channels.source_of d i q))) (sym (place i q))
        (subst (λ v. IsPrefix (of_turns (inputs_at q) (turns_val k i)) (gives_in inputs (turns_val k) v)) (sym (source i q))
        (go (takes-of facts step early active turn tag turning net.places ks now i q)))
      where
        shorter : (ys : List T) → IsPrefix (of_turns (inputs_at q) (turns_val k i)) (of_turns (inputs_at q) (turns_val k i) ++ ys)
        shorter ys = IsPrefix-append (of_turns (inputs_at q) (turns_val k i)) ys

        go : IsOf (takes_in (turns_val k) (λ i. way_in facts step early active turn tag turning net.places ks now i) i q) (known_in now (channel_at net.places i q)) → IsPrefix (of_turns (inputs_at q) (turns_val k i)) (gives_in inputs (turns_val k) (if_there (get net.sources) (channel_at net.places i q)))
        go (inl e) = IsPrefix-trans _ _ _ (shorter _) (subst (λ v. IsPrefix v (gives_in inputs (turns_val k) (if_there (get net.sources) (channel_at net.places i q)))) (sym e) tt)
        go (inr e) = IsPrefix-trans _ _ _ (shorter _) (IsPrefix-trans _ _ _ e.2 (gave-at f l (channel_at net.places i q) e.0 e.1))

    if-well : (b : Bool) → (b ≡ true → all_fired now_reactions ≡ true) → (b ≡ true → is_least early active turn tag net ks inputs k ≡ true) → (out : Streams T) (gs : List Fault) →
        IfDone facts inputs d core ks (turns_val k) (λ i. way_in facts step early active turn tag turning net.places ks now i) (λ i. end_in facts step early active turn tag turning any net.places ks now i) (if_settled b (record { held = []; kids = reaction_states now_reactions }) out (log_below (reaction_logs now_reactions)) gs)
    if-well false e l out gs = tt
    if-well true e l out gs = record {
      whole = λ i. (fired-in facts step early active turn tag turning any net.places ks now (e refl) i).0;
      wired = core_wired [];
      count = states-long facts step early active turn tag turning net.places ks now a;
      kids = λ i z g. inl ((fired-in facts step early active turn tag turning any net.places ks now (e refl) i).1 z g);
      same_plan = same [];
      counted = λ i q. well-taken (e refl) (l refl) i q;
      left = λ g. absurd (clash (sym none_kept ∙ g));
    }
      where
        clash : false ≡ true → ⊥
        clash g = cc

    pub tick-explained : Explained facts step ms made tag inputs d core ks (tick early active turn tag net blame ks inputs k)
    unfolding tick val
    tick-explained = record {
      events = [];
      bare = λ e h. absurd h;
      quiet = refl;
      logs = reaction_logs now_reactions;
      log = sym (log-of-settled (is_least early active turn tag net ks inputs k && all_fired now_reactions) _ _ (log_below (reaction_logs now_reactions)) _) ∙ no-meetings (reaction_logs now_reactions);
      turns = turns_val k;
      way = λ i. way_in facts step early active turn tag turning net.places ks now i;
      ends = λ i. end_in facts step early active turn tag turning any net.places ks now i;
      parts = λ i s e. part-in facts step early active turn tag turning any net.places ks now a i s e;
      beyond = λ i h. beyond-in facts step early active turn tag turning net.places ks now i h;
      tagged = λ i w e. subst (λ v. IsTagBelow (is_modal d) tag v) (sym (begun-tagged-in facts step early active turn tag turning net.places ks now i w e)) at_tag;
      counted = all-taken;
      asked = λ i b e.
          let r = begins-in facts step early active turn tag turning any net.places ks now i b e in
          subst (λ z. IsAsked facts step ms made d ks tag inputs i z b.tag b.inputs) (sym r.end) (asks i r.first r.lists b (record { round = k; inputs_known = r.inputs_known; state = r.there }) r.is_active r.begun);
      done = if-well (is_least early active turn tag net ks inputs k && all_fired now_reactions) (λ e. and-right _ _ e) (λ e. and-left _ _ e) _ _;
    }
