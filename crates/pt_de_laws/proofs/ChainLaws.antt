-- A chain of calls of a core makes the reaction of the composite.
use Rattle.std.proofs.Common.{◌≡◌, ◌⊎◌, inl, inr, ℕ, zero, suc, ◌<◌, ◌≤◌, List, [], ◌∷◌, ◌++◌, true, false, length, get_or, drop, map, Option, Some, None, refl, sym, ap, subst, ◌∙◌, arith}
use Rattle.std.proofs.lemmas.List.{length-map}
use Rattle.std.proofs.lemmas.Bool.{cases_eq}
use Rattle.pt_meaning.specs.Tag.{Tag}
use Rattle.pt_meaning.specs.Streams.{Streams, at, get, any_present}
use Rattle.pt_meaning.specs.Log.{Log, LogBelow, silent, log_then, log_below}
use Rattle.pt_meaning.specs.Machine.{Fault, Stepping, Facts, Partial, Known, partial_at, Done, Stuck}
use Rattle.pt_meaning.specs.Net.{Net, Source, Own, Output}
use Rattle.pt_meaning.specs.Valuation.{TickPlan, tokens_of}
use Rattle.pt_meaning.specs.De.{de, de_early, de_active, de_turn, by_rows}
use Rattle.pt_meaning.specs.Running.{total}
use Rattle.pt_meaning.specs.Laws.{IsIn, PartialBelow, KeepsEarly}
use Rattle.pt_laws.specs.TickRuns.{places_at, TickRun, told_of, Knows, FiredAt, LoggedAt}
use Rattle.pt_laws.specs.LogsOfRuns.{silents, logs_then, log_at, log_in}
use Rattle.pt_laws.specs.Explained.{Turned}
use Rattle.pt_laws.proofs.LogLaws.{log-refl}
use Rattle.pt_laws.proofs.TickLaws.{KnownBelow-refl}
use Rattle.pt_laws.proofs.TickNodeLaws.{rows-go-on}
use Rattle.pt_laws.proofs.TickRunLaws.{tick-ends, tick-sticks, tick-is-prefix}
use Rattle.pt_de_laws.specs.State.{DeState, Turn, Waits, Answered, Over, Stage, Open, Asked, comes, rows_left, inputs_of, delays_of, is_last_in, begun, at_first, IsOver, own_of}
use Rattle.pt_de_laws.specs.Lawful.{IsLawful}
use Rattle.pt_de_laws.specs.Chain.{IsFor, HasTurned, IsAmid, IsPending, Course, decided, rounds_of, firing_from, IsStuckAt}
use Rattle.pt_de_laws.proofs.PlaceLaws.{get-or-any, mapped-at, at-mapped, knowns-by, knowns-tokens}
use Rattle.pt_de_laws.proofs.RowLaws.{turn-is, rows-prefix, rows-within}
use Rattle.pt_de_laws.proofs.EarlyLaws.{all-absent}
use Rattle.pt_de_laws.proofs.ReadyLaws.{clash, over-waits, answered-waits, over-answered, Ready, ready-any, settled, inputs-decided, inactive, no-token, flags-long}
use Rattle.pt_de_laws.proofs.ValueLaws.{val-long, val-stays, val-own, val-output, rounds-some}
use Rattle.pt_de_laws.proofs.AskLaws.{left-same}
use Rattle.pt_de_laws.proofs.ToldLaws.{turn-done}
use Rattle.pt_de_laws.proofs.GainLaws.{then-long, then-same, then-other, silents-long, silents-at}

-- each channel has a source
sourced : (cs : List Source) (c : ℕ) → c < length cs → (x : Source) × (get cs c ≡ Some x)
sourced [] c l = absurd (omega (arith, l))
sourced (x ∷ cs) zero l = (x, refl)
sourced (x ∷ cs) (suc c) l = sourced cs c (omega (arith, l))

module _ {T S : Type 0} (facts : Facts T S) (step : Stepping T S) (before : DeState T) (kids : List S) (inputs : Streams T) (d : S) where
  -- a reaction begins
  pub calls-begin : (tag : Tag) → KeepsEarly (de_early facts) (de_active facts) (de_turn facts step) → IsLawful before.plan before.roles → IsFor facts before.plan before.roles kids → before.wakes ≡ map (λ c. facts.next c) kids → Course facts step before kids inputs d (begun tag inputs before) kids (silents kids)
  calls-begin tag keeps lawful fits wakes =
      let net : Net = before.plan.net in
      let waits : (i : ℕ) → get_or (map (λ n. Waits) net.places) i Waits ≡ Waits = λ i. mapped-at Waits net.places i in
      record {
        keeps = keeps;
        lawful = lawful;
        fitting = fits;
        plan = refl;
        wide = record { kids_are = fits.children; news_are = fits.children; logs_are = silents-long T kids ∙ fits.children };
        channels = length-map net.sources (λ c. at_first inputs c);
        flags = length-map net.places (λ n. Waits);
        wakes = wakes;
        amid = tt;
        arrived = λ c port e. at-mapped (λ x. at_first inputs x) net.sources c (Own port) e;
        outs = map (λ n. let X : Streams T = [] in X) net.places;
        gave = length-map net.places (λ n. let X : Streams T = [] in X);
        turned = λ i. [];
        over = λ i l e. absurd (over-waits (get_or (map (λ n. Waits) net.places) i Waits) e (waits i));
        soon = λ i l e f. absurd (over-waits (get_or (map (λ n. Waits) net.places) i Waits) e (waits i));
        rests = λ i l n. (refl, silents-at kids i, refl, mapped-at (let X : Streams T = [] in X) net.places i);
        beyond = λ i l. refl;
        told = λ i l h c port e. absurd (h.0 (waits i));
        gives = λ i l e f c port g. absurd (over-waits (get_or (map (λ n. Waits) net.places) i Waits) e (waits i));
        quiet = λ i l w c port e. at-mapped (λ x. at_first inputs x) net.sources c (Output i port) e;
        answered = λ i l n f c port e. absurd (n (waits i));
        prompted = λ i l e. absurd (answered-waits (get_or (map (λ n. Waits) net.places) i Waits) e (waits i));
        order = λ i j l m n p. absurd (n (waits i));
        late = λ i j l m e f p. over-waits (get_or (map (λ n. Waits) net.places) i Waits) e (waits i);
      }

  module _ (s : DeState T) (now : List S) (ls : List (Log T)) (u : Course facts step before kids inputs d s now ls) where
    abbrev net : Net
    net = s.plan.net

    abbrev count : ℕ
    count = length net.places

    abbrev kid : ℕ → S
    kid i = get_or kids i d

    abbrev turn : ℕ → Turn
    turn i = get_or s.turns i Waits

    abbrev end : List (Partial T)
    end = decided facts step s kids inputs

    run : TickRun (de_early facts) (de_active facts) (de_turn facts step) s.tag net kids inputs end
    run = record { rounds = rounds_of s.roles.depths; caused = KnownBelow-refl end }

    own-known : (c port : ℕ) → get net.sources c ≡ Some (Own port) → partial_at end c ≡ Known (at inputs port)
    own-known c port e =
        val-stays (de_early facts) (de_active facts) (de_turn facts step) s.tag u.keeps net kids inputs 1 (rounds_of s.roles.depths) (rounds-some s.roles.depths) c (at inputs port)
        (val-own (de_early facts) (de_active facts) (de_turn facts step) s.tag u.keeps net kids inputs 0 c port e)

    -- each child has had its turn, or needs none
    module _ (o : s.stage ≡ Open) (x : IsOver s) where
      none : (p : ℕ) → p < count → IsPending s p → ⊥
      none p l (inl e) = clash (sym e ∙ x.none_due p l)
      none p l (inr b) = let no : length (rows_left s.stage p) ≡ 0 = ap (λ (st : Stage T). length (rows_left st p)) o in let some = b.1 in absurd (omega (arith, no, some))

      ready : (k : ℕ) → k < count → Ready facts step before kids inputs d s now ls u k
      ready k l = ready-any facts step before kids inputs d s now ls u none k l

      all-known : (c : ℕ) (src : Source) → get net.sources c ≡ Some src → partial_at end c ≡ Known (at s.tokens c)
      all-known c (Own port) e = own-known c port e ∙ ap (λ (xs : List T). Known xs) (sym (u.arrived c port e))
      all-known c (Output j port) e = let l : j < count = u.lawful.named c (Output j port) e in settled facts step before kids inputs d s now ls u j l (ready j l) c port e

      end-is : end ≡ map (λ (xs : List T). Known xs) s.tokens
      end-is =
          knowns-by end s.tokens (val-long (de_early facts) (de_active facts) (de_turn facts step) s.tag u.keeps net kids inputs (rounds_of s.roles.depths) ∙ sym u.channels)
          (λ c l. let w = sourced net.sources c (omega (arith, l, u.channels)) in all-known c w.0 w.1)

      knows : (c : ℕ) (src : Option Source) → get net.sources c ≡ src → Knows (de_early facts) (de_active facts) (de_turn facts step) s.tag net kids inputs d end c src
      knows c None e = tt
      knows c (Some (Own port)) e = own-known c port e
      knows c (Some (Output i port)) e = λ l.
          let here : partial_at end c ≡ Known (at s.tokens c) = all-known c (Output i port) e in
          let next : told_of (de_early facts) (de_active facts) (de_turn facts step) s.tag net kids inputs d end (Output i port) ≡ Known (at s.tokens c) =
          sym (val-output (de_early facts) (de_active facts) (de_turn facts step) s.tag u.keeps net kids inputs d u.fitting.children (rounds_of s.roles.depths) c i port e l) ∙
          val-stays (de_early facts) (de_active facts) (de_turn facts step) s.tag u.keeps net kids inputs (rounds_of s.roles.depths) (suc (rounds_of s.roles.depths)) (omega arith) c (at s.tokens c) here
          in
          subst (λ v. PartialBelow v (partial_at end c)) (sym next) here

      last-is : (i : ℕ) → i < count → (t : Turn) → turn i ≡ t → is_last_in t (comes true (delays_of s i) (inputs_of s i)) ≡ false
      last-is i l t e = ap (λ v. is_last_in v (comes true (delays_of s i) (inputs_of s i))) (sym e ∙ get-or-any s.turns i Waits Over (omega (arith, l, u.flags))) ∙ x.none_last i l

      fired : (i : ℕ) → i < count → (t : Turn) → turn i ≡ t → FiredAt (de_early facts) (de_active facts) (de_turn facts step) s.tag net kids inputs d end now u.outs ls i
      fired i l Waits e =
          let r = u.rests i l (λ g. over-waits (turn i) g e) in
          let off = x.none_due i l in
          let absent : any_present (inputs_of s i) ≡ false = all-absent (delays_of s i) (inputs_of s i) (flags-long facts step before kids inputs d s now ls u i) (no-token facts step before kids inputs d s now ls u i l e off) (last-is i l Waits e) in
          (inputs_of s i, inputs-decided facts step before kids inputs d s now ls u i (λ q k port m g. ready k m), inr (inactive facts step before kids inputs d s now ls u i l e off (inputs_of s i) absent, r.0, r.3, r.1))
      fired i l Answered e = clash (last-is i l Answered e)
      fired i l Over e = turn-done facts step s.tag (kid i) (places_at net.places i end) (rows_left s.stage i) (get_or now i d) (get_or u.outs i []) (log_at ls i) (u.turned i) (ap (λ (st : Stage T). length (rows_left st i)) o) (u.over i l e)

      pub calls-end : (k : ℕ) → length net.sources ≤ k → firing_from facts step before kids s.tag inputs k ≡ Done (record { held = []; kids = now }) (own_of s) (log_below ls)
      calls-end k l =
          sym (ap (λ (p : TickPlan). de facts step p k s.tag kids inputs) u.plan) ∙
          tick-ends (de_early facts) (de_active facts) (de_turn facts step) s.tag u.keeps net [] kids inputs d end now u.outs ls run u.wide (λ c h. knows c (get net.sources c) refl) (λ i h. fired i h (turn i) refl) k l ∙
          ap (λ (X : Streams T). Done (record { held = []; kids = now }) X (log_below ls)) (ap (λ (V : List (Partial T)). tokens_of (drop (total net.places) V)) end-is ∙ knowns-tokens (total net.places) s.tokens)

    -- what the children have logged
    turn-logs : (i : ℕ) (left : List (Streams T)) (z : S) (out : Streams T) (l : Log T) (ts : List (Turned T)) → (h : HasTurned facts step s.tag (kid i) (places_at net.places i end) left z out l ts) → by_rows facts step s.tag (h.done ++ left) (kid i) ≡ de_turn facts step s.tag (kid i) h.inputs
    turn-logs i left z out l ts h = ap (λ Xs. by_rows facts step s.tag Xs (kid i)) (sym h.rows) ∙ sym (turn-is facts step s.tag (kid i) h.inputs)

    each-logged : (i : ℕ) → i < count → (t : Turn) → turn i ≡ t → LoggedAt (de_early facts) (de_active facts) (de_turn facts step) s.tag net kids inputs d end ls i
    each-logged i l Over e =
        let h = u.over i l e in
        inr (
          h.inputs,
          h.on,
          h.active,
          subst (λ r. LogBelow (log_at ls i) (log_in r)) (turn-logs i (rows_left s.stage i) (get_or now i d) (get_or u.outs i []) (log_at ls i) (u.turned i) h) (rows-prefix facts step s.tag h.done (rows_left s.stage i) (kid i) (get_or now i d) (get_or u.outs i []) (log_at ls i) h.fired),
        )
    each-logged i l Waits e = inl (subst (λ (m : Log T). LogBelow m silent) (sym (u.rests i l (λ g. over-waits (turn i) g e)).1) (log-refl {T = T} silent))
    each-logged i l Answered e = inl (subst (λ (m : Log T). LogBelow m silent) (sym (u.rests i l (λ g. over-answered (turn i) g e)).1) (log-refl {T = T} silent))

    pub calls-off : (k : ℕ) → length net.sources ≤ k → LogBelow (log_below ls) (log_in (firing_from facts step before kids s.tag inputs k))
    calls-off k l =
        subst (λ (p : TickPlan). LogBelow (log_below ls) (log_in (de facts step p k s.tag kids inputs))) u.plan
        (tick-is-prefix (de_early facts) (de_active facts) (de_turn facts step) s.tag u.keeps net [] kids inputs d end ls u.wide.kids_are u.wide.logs_are run (λ i h. each-logged i h (turn i) refl) k l)

    -- child i is asked to fire on a row
    module _ (i : ℕ) (X : Streams T) (Xs : List (Streams T)) (st : s.stage ≡ Asked i (X ∷ Xs)) where
      amid : IsAmid count s.turns (Asked i (X ∷ Xs))
      amid = subst (λ (x : Stage T). IsAmid count s.turns x) st u.amid

      pub its-turn : HasTurned facts step s.tag (kid i) (places_at net.places i end) (X ∷ Xs) (get_or now i d) (get_or u.outs i []) (log_at ls i) (u.turned i)
      its-turn = subst (λ left. HasTurned facts step s.tag (kid i) (places_at net.places i end) left (get_or now i d) (get_or u.outs i []) (log_at ls i) (u.turned i)) (ap (λ (x : Stage T). rows_left x i) st ∙ left-same i (X ∷ Xs)) (u.over i amid.0 amid.1)

      within-logged : (m : Log T) → LogBelow m (log_in (step s.tag (get_or now i d) X)) → (j : ℕ) → j < count → (j ≡ i) ⊎ (j ≡ i → ⊥) → LoggedAt (de_early facts) (de_active facts) (de_turn facts step) s.tag net kids inputs d end (logs_then i m ls) j
      within-logged m b j h (inl z) =
          let t = its-turn in
          subst (λ n. LoggedAt (de_early facts) (de_active facts) (de_turn facts step) s.tag net kids inputs d end (logs_then i m ls) n) (sym z)
          (inr (
            t.inputs,
            t.on,
            t.active,
            subst (λ n. LogBelow n (log_in (de_turn facts step s.tag (kid i) t.inputs))) (sym (then-same i m ls (let a = amid.0 in omega (arith, a, u.wide.logs_are))))
                (subst (λ r. LogBelow (log_then (log_at ls i) m) (log_in r)) (turn-logs i (X ∷ Xs) (get_or now i d) (get_or u.outs i []) (log_at ls i) (u.turned i) t) (rows-within facts step s.tag t.done X Xs (kid i) (get_or now i d) (get_or u.outs i []) (log_at ls i) m t.fired b)),
          ))
      within-logged m b j h (inr z) = other (each-logged j h (turn j) refl)
        where
          other : LoggedAt (de_early facts) (de_active facts) (de_turn facts step) s.tag net kids inputs d end ls j → LoggedAt (de_early facts) (de_active facts) (de_turn facts step) s.tag net kids inputs d end (logs_then i m ls) j
          other (inl q) = inl (subst (λ (v : Log T). LogBelow v silent) (sym (then-other i j m ls z)) q)
          other (inr q) = inr (q.0, q.1, q.2, subst (λ v. LogBelow v (log_in (de_turn facts step s.tag (kid j) q.0))) (sym (then-other i j m ls z)) q.3)

      within-prefix : (m : Log T) → LogBelow m (log_in (step s.tag (get_or now i d) X)) → (k : ℕ) → length net.sources ≤ k → LogBelow (log_below (logs_then i m ls)) (log_in (de facts step s.plan k s.tag kids inputs))
      within-prefix m b k o = tick-is-prefix (de_early facts) (de_active facts) (de_turn facts step) s.tag u.keeps net [] kids inputs d end (logs_then i m ls) u.wide.kids_are (then-long i m ls ∙ u.wide.logs_are) run (λ j h. within-logged m b j h (cases_eq j i)) k o

      pub calls-off-within : (m : Log T) → LogBelow m (log_in (step s.tag (get_or now i d) X)) → (k : ℕ) → length net.sources ≤ k → LogBelow (log_below (logs_then i m ls)) (log_in (firing_from facts step before kids s.tag inputs k))
      calls-off-within m b k o = subst (λ (p : TickPlan). LogBelow (log_below (logs_then i m ls)) (log_in (de facts step p k s.tag kids inputs))) u.plan (within-prefix m b k o)

      pub calls-stick : (fs : List Fault) (l : Log T) → step s.tag (get_or now i d) X ≡ Stuck fs l → (f : Fault) → IsIn f fs → (k : ℕ) → length net.sources ≤ k → IsStuckAt (firing_from facts step before kids s.tag inputs k) i f (log_below (logs_then i l ls))
      calls-stick fs l e f q k o =
          let t = its-turn in
          let whole : de_turn facts step s.tag (kid i) t.inputs ≡ Stuck fs (log_then (log_at ls i) l) =
          sym (turn-logs i (X ∷ Xs) (get_or now i d) (get_or u.outs i []) (log_at ls i) (u.turned i) t) ∙ rows-go-on.stuck facts step s.tag (kid i) (get_or now i d) t.done X Xs (get_or u.outs i []) (log_at ls i) fs l t.fired e
          in
          let stuck = tick-sticks (de_early facts) (de_active facts) (de_turn facts step) s.tag u.keeps net [] kids inputs d end u.wide.kids_are run i amid.0 t.inputs t.on t.active fs (log_then (log_at ls i) l) whole f q k o in
          let prefix = within-prefix l (subst (λ r. LogBelow l (log_in r)) (sym e) (log-refl {T = T} l)) k o in
          (stuck.0, stuck.1, sym (ap (λ (p : TickPlan). de facts step p k s.tag kids inputs) u.plan) ∙ stuck.2, stuck.3, subst (λ r. LogBelow (log_below (logs_then i l ls)) (log_in r)) stuck.2 prefix)
