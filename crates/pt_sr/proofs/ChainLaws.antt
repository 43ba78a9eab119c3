-- A chain of calls of a core makes the firing of the composite.
use Rattle.std.proofs.Common.{◌≡◌, ◌⊎◌, inl, inr, ⊎_elim, ℕ, zero, suc, ◌+◌, ◌<◌, ◌≤◌, List, [], ◌∷◌, Bool, true, false, length, get_or, set, take, drop, map, nat_eq, Option, Some, None, if◌then◌else◌, refl, sym, ap, subst, ◌∙◌, arith, length-set, append-nil}
use Rattle.std.proofs.lemmas.List.{get_or-set_same, get_or-set_other, length-map}
use Rattle.std.proofs.lemmas.Bool.{cases_eq}
use Rattle.std.proofs.lemmas.Bool.Decides.{nat_tests}
use Rattle.pt_meaning.specs.Tag.{Tag}
use Rattle.pt_meaning.specs.Streams.{Streams, at, get}
use Rattle.pt_meaning.specs.Log.{Log, LogBelow, silent, log_then, log_below, own}
use Rattle.pt_meaning.specs.Machine.{second_token_code, causality_code, Fault, Outcome, Done, Stuck, Stepping, Facts, Partial, Unknown, Known, partial_at}
use Rattle.pt_meaning.specs.Net.{Net, Source, Own, Output}
use Rattle.pt_meaning.specs.Valuation.{TickPlan, known, is_known, unknowns, valuation}
use Rattle.pt_meaning.specs.Sr.{sr_active, sr_turn, all_single, sr}
use Rattle.pt_meaning.specs.Running.{total}
use Rattle.pt_meaning.specs.Laws.{IsIn, PartialBelow, KnownBelow, KeepsEarly}
use Rattle.pt_laws.specs.LogsOfRuns.{silents, logs_then, log_at, log_in}
use Rattle.pt_laws.specs.TickRuns.{places_at, TickRun, HasFired, told_of, MayKnow, Knows, FiredAt, FiredOrWaits, LoggedAt}
use Rattle.pt_laws.proofs.RoundLaws.{grows-refl}
use Rattle.pt_laws.proofs.LogLaws.{log-refl, log-trans}
use Rattle.pt_laws.proofs.Order.{IsPrefix-append}
use Rattle.pt_laws.proofs.TickLaws.{PartialBelow-refl, KnownBelow-trans, known-same, valuation-below}
use Rattle.pt_laws.proofs.TickRunLaws.{below-at, has-reacted, waiting-reacted, tick-begins, tick-goes-on, tick-ends, tick-lacks, tick-sticks, tick-is-prefix}
use Rattle.pt_laws.proofs.TickNodeLaws.{sr-turns}
use Rattle.pt_laws.specs.Channels.{source_in}
use Rattle.pt_laws.specs.Explained.{Turned, of_turns, gives_in, MaySay, Gives, Early}
use Rattle.pt_meaning.specs.Closed.{outputs_at}
use Rattle.pt_meaning.specs.Tree.{Sr}
use Rattle.pt_sr.specs.State.{SrState, MayFire, MayAnswer, HasNothing, HasTold, inputs_of, unknown_in, lent_of, own_of, begun, asked, listening, after_told, if_told, after_heard, waits, learnt, all_of, known_of, after_child, after_children, at_first, unheard}
use Rattle.pt_sr.specs.Chain.{IsFor, AllFired, NothingComes, HasTurn, Underway, firing_from, IsStuckAt, CallsAreSr}
use Rattle.pt_sr.proofs.SayLaws.{says-first, says-grown}
use Rattle.pt_sr.proofs.KnownLaws.{all-known, none-known, unknown-falls, none-learnt, unknown-few, known-stays, known-agrees, learnt-known, learnt-early, learnt-may, if-known-some, after-long, after-at, after-below, places-below, partial-set-same, partial-set-other, first-at, unknowns-at}

-- logs, child by child
module _ {T : Type 0} where
  pub then-long : (i : ℕ) (l : Log T) (ls : List (Log T)) → length (logs_then i l ls) ≡ length ls
  then-long i l [] = refl
  then-long zero l (m ∷ ls) = refl
  then-long (suc i) l (m ∷ ls) = ap (λ n. suc n) (then-long i l ls)

  pub then-same : (i : ℕ) (l : Log T) (ls : List (Log T)) → i < length ls → log_at (logs_then i l ls) i ≡ log_then (log_at ls i) l
  then-same i l [] h = absurd (omega (arith, h))
  then-same zero l (m ∷ ls) h = refl
  then-same (suc i) l (m ∷ ls) h = then-same i l ls (omega (arith, h))

  pub then-other : (i j : ℕ) (l : Log T) (ls : List (Log T)) → (j ≡ i → ⊥) → log_at (logs_then i l ls) j ≡ log_at ls j
  then-other i j l [] z = refl
  then-other zero zero l (m ∷ ls) z = absurd (z refl)
  then-other zero (suc j) l (m ∷ ls) z = refl
  then-other (suc i) zero l (m ∷ ls) z = refl
  then-other (suc i) (suc j) l (m ∷ ls) z = then-other i j l ls (λ e. z (ap (λ n. suc n) e))

  -- where nothing was logged before
  pub then-first : (i : ℕ) (l : Log T) (ls : List (Log T)) → i < length ls → log_at ls i ≡ silent → log_at (logs_then i l ls) i ≡ l
  then-first i l ls h e = then-same i l ls h ∙ ap (λ (m : Log T). log_then m l) e

silents-long : (T : Type 0) {S : Type 0} (kids : List S) → length (silents {T = T} kids) ≡ length kids
silents-long T [] = refl
silents-long T (s ∷ ss) = ap (λ n. suc n) (silents-long T ss)

silents-at : {T S : Type 0} (kids : List S) (i : ℕ) → log_at (silents {T = T} kids) i ≡ silent
silents-at [] i = refl
silents-at (s ∷ ss) zero = refl
silents-at (s ∷ ss) (suc i) = silents-at ss i

lowered-at : (ns : List ℕ) (i : ℕ) → get_or (map (λ n. false) ns) i false ≡ false
lowered-at [] i = refl
lowered-at (n ∷ ns) zero = refl
lowered-at (n ∷ ns) (suc i) = lowered-at ns i

unheard-at : (ns : List ℕ) (i : ℕ) → i < length ns → get_or (unheard ns) i 0 ≡ suc (get_or ns i 0)
unheard-at [] i h = absurd (omega (arith, h))
unheard-at (n ∷ ns) zero h = refl
unheard-at (n ∷ ns) (suc i) h = unheard-at ns i (omega (arith, h))

pub total-set : (ns : List ℕ) (i n : ℕ) → i < length ns → n < get_or ns i 0 → total (set ns i n) < total ns
total-set [] i n h l = absurd (omega (arith, h))
total-set (m ∷ ns) zero n h l = omega (arith, l)
total-set (m ∷ ns) (suc i) n h l = let t = total-set ns i n (omega (arith, h)) l in omega (arith, t)

-- a test of equal numbers
same-test : (i : ℕ) → nat_eq i i ≡ true
same-test i = grind (arith, nat_tests)

equal-by : (j i : ℕ) → nat_eq j i ≡ true → j ≡ i
equal-by j i t = grind (arith, nat_tests, t)

other-test : (j i : ℕ) → (j ≡ i → ⊥) → nat_eq j i ≡ false
other-test j i z = by (nat_eq j i) refl
  where
    by : (b : Bool) → nat_eq j i ≡ b → nat_eq j i ≡ false
    by true t = absurd (z (equal-by j i t))
    by false t = t

pub get-or-there : {B : Type 0} (xs : List B) (i : ℕ) (d : B) → i < length xs → get xs i ≡ Some (get_or xs i d)
get-or-there [] i d h = absurd (omega (arith, h))
get-or-there (x ∷ xs) zero d h = refl
get-or-there (x ∷ xs) (suc i) d h = get-or-there xs i d (omega (arith, h))

-- a child that has had its turn has so where more is known
turn-more : {T S : Type 0} (facts : Facts T S) (step : Stepping T S) (tag : Tag) (c : S) (vs ws : List (Partial T)) (z : S) (l : Log T) (ts : List (Turned T)) → KnownBelow vs ws → HasTurn facts step tag c vs z l ts → HasTurn facts step tag c ws z l ts
turn-more facts step tag c vs ws z l ts b h = record { inputs = h.inputs; outputs = h.outputs; inside = h.inside; on = ap (λ v. known v) (known-same vs ws h.inputs b h.on) ∙ h.on; done = h.done; turn = h.turn; logged = h.logged }

-- a child that has fired has so where more is known
fired-more : {T S : Type 0} (step : Stepping T S) (tag : Tag) (s : S) (vs ws : List (Partial T)) (s' : S) (out : Streams T) (l : Log T) → KnownBelow vs ws → HasFired sr_active step tag s vs s' out l → HasFired sr_active step tag s ws s' out l
fired-more step tag s vs ws s' out l b h = (h.0, ap (λ v. known v) (known-same vs ws h.0 b h.1) ∙ h.1, h.2)

module _ {T S : Type 0} (facts : Facts T S) (step : Stepping T S) (before : SrState T) (kids : List S) (inputs : Streams T) (d : S) where
  -- a firing begins
  pub calls-begin : (tag : Tag) → KeepsEarly facts.early sr_active (sr_turn facts step) → IsFor facts before kids → Underway facts step before kids inputs d (begun tag inputs before) kids (silents kids)
  calls-begin tag keeps h =
      let net : Net = before.tick.plan.net in
      let V : List (Partial T) = map (λ c. at_first inputs c) net.sources in
      record {
        keeps = keeps;
        fitting = record { children = h.children; strict = h.strict };
        plan = refl;
        wide = record { kids_are = h.children; news_are = h.children; logs_are = silents-long T kids ∙ h.children };
        channels = length-map net.sources (λ c. at_first inputs c);
        flags = length-map net.places (λ n. false);
        numbers = length-map net.places (λ n. suc n);
        run =
            tick-goes-on facts.early sr_active (sr_turn facts step) tag keeps net kids inputs d h.children (unknowns net.sources) V (tick-begins facts.early sr_active (sr_turn facts step) tag net kids inputs) (length-map net.sources (λ c. at_first inputs c))
            (λ c l. one tag net c (get net.sources c) refl);
        arrived = λ c port e. first-at inputs net.sources c (Own port) e;
        outs = map (λ n. let X : Streams T = [] in X) net.places;
        gave = length-map net.places (λ n. let X : Streams T = [] in X);
        fired = λ i l e. absurd (cc (sym (lowered-at net.places i) ∙ e));
        rests = λ i l e. (refl, silents-at kids i);
        falls = λ i l. let t = unknown-few (get_or net.places i 0) (drop (total (take i net.places)) V) in let u = unheard-at net.places i l in omega (arith, t, u);
        heard = λ i l m. let t = unknown-few (get_or net.places i 0) (drop (total (take i net.places)) V) in let u = unheard-at net.places i l in absurd (omega (arith, t, u, m));
        turns = λ i. [];
        turned = λ i l e. absurd (cc (sym (lowered-at net.places i) ∙ e));
        unturned = λ i e. refl;
        says = λ i q. says-first facts before.tick.plan kids inputs tag i q;
      }
    where
      one : (tag : Tag) (net : Net) (c : ℕ) (o : Option Source) → get net.sources c ≡ o → MayKnow facts.early sr_active (sr_turn facts step) tag net kids inputs d (unknowns net.sources) (map (λ c. at_first inputs c) net.sources) c o
      one tag net c None e = tt
      one tag net c (Some (Own port)) e = inr (subst (λ v. PartialBelow v (Known (at inputs port))) (sym (first-at inputs net.sources c (Own port) e)) refl)
      one tag net c (Some (Output i port)) e = inl (first-at inputs net.sources c (Output i port) e ∙ sym (unknowns-at net.sources c))

  module _ (s : SrState T) (now : List S) (ls : List (Log T)) (u : Underway facts step before kids inputs d s now ls) where
    abbrev net : Net
    net = s.tick.plan.net

    abbrev V : List (Partial T)
    V = s.tick.known

    -- what a source tells from what is known now
    abbrev tells : ℕ → ℕ → Partial T
    tells i port = told_of facts.early sr_active (sr_turn facts step) s.tag net kids inputs d V (Output i port)

    -- a channel that is known is known as its source tells
    agrees : (c i port : ℕ) → i < length net.places → get net.sources c ≡ Some (Output i port) → is_known (partial_at V c) ≡ true → PartialBelow (tells i port) (partial_at V c)
    agrees c i port l e k =
        let W : List (Partial T) = set V c (tells i port) in
        let run : TickRun facts.early sr_active (sr_turn facts step) s.tag net kids inputs W =
        tick-goes-on facts.early sr_active (sr_turn facts step) s.tag u.keeps net kids inputs d u.wide.kids_are V W u.run (length-set V c (tells i port) ∙ u.channels) (λ j h. one j (cases_eq j c) (get net.sources j) refl)
        in
        let m : ℕ = u.run.rounds + run.rounds in
        let x : Partial T = partial_at (valuation facts.early sr_active (sr_turn facts step) s.tag net kids inputs m) c in
        known-agrees (partial_at V c) (tells i port) x
        (below-at _ _ (KnownBelow-trans _ _ _ u.run.caused (valuation-below facts.early sr_active (sr_turn facts step) (sr_turn facts step) s.tag (grows-refl (sr_turn facts step)) u.keeps net kids inputs u.run.rounds m (omega arith))) c)
        (subst (λ v. PartialBelow v x) (partial-set-same V c (tells i port) (there c net.sources e (omega (arith, u.channels))))
        (below-at _ _ (KnownBelow-trans _ _ _ run.caused (valuation-below facts.early sr_active (sr_turn facts step) (sr_turn facts step) s.tag (grows-refl (sr_turn facts step)) u.keeps net kids inputs run.rounds m (omega arith))) c)) k
      where
        there : (c : ℕ) (cs : List Source) → get cs c ≡ Some (Output i port) → length cs ≤ length V → c < length V
        there c [] e h = absurd (cc)
        there zero (x ∷ cs) e h = omega (arith, h)
        there (suc c) (x ∷ cs) e h = let t = below c cs e in omega (arith, t, h)
          where
            below : (c : ℕ) (cs : List Source) → get cs c ≡ Some (Output i port) → c < length cs
            below c [] e = absurd (cc)
            below zero (x ∷ cs) e = omega arith
            below (suc c) (x ∷ cs) e = let t = below c cs e in omega (arith, t)

        one : (j : ℕ) → (j ≡ c) ⊎ (j ≡ c → ⊥) → (o : Option Source) → get net.sources j ≡ o → MayKnow facts.early sr_active (sr_turn facts step) s.tag net kids inputs d V (set V c (tells i port)) j o
        one j w None g = tt
        one j (inr z) (Some (Own p)) g = inl (partial-set-other V c j (tells i port) z)
        one j (inr z) (Some (Output a p)) g = inl (partial-set-other V c j (tells i port) z)
        one j (inl z) (Some (Own p)) g = absurd (cc (sym (ap (λ n. get net.sources n) z ∙ e) ∙ g))
        one j (inl z) (Some (Output a p)) g =
            let same : Some (Output i port) ≡ Some (Output a p) = sym (ap (λ n. get net.sources n) z ∙ e) ∙ g in
            let ia : i ≡ a = cc in
            let pp : port ≡ p = cc in
            inr (
              subst (λ n. n < length net.places) ia l,
              subst (λ v. PartialBelow v (tells a p)) (sym (ap (λ n. partial_at (set V c (tells i port)) n) z ∙ partial-set-same V c (tells i port) (there c net.sources e (omega (arith, u.channels)))))
                  (subst (λ n. PartialBelow (tells i port) (tells n p)) ia (subst (λ n. PartialBelow (tells i port) (tells i n)) pp (PartialBelow-refl (tells i port)))),
            )

    -- each channel is known as well as its source tells, where each child has fired or has nothing to tell
    unfired-tells : (c i port : ℕ) → i < length net.places → get net.sources c ≡ Some (Output i port) → HasNothing s.tick i → PartialBelow (tells i port) (partial_at V c)
    unfired-tells c i port l e h = by h.why
      where
        early-tells : tells i port ≡ partial_at (facts.early s.tag (get_or kids i d) (inputs_of s.tick i)) port
        early-tells = waiting-reacted facts.early sr_active (sr_turn facts step) s.tag (get_or kids i d) (inputs_of s.tick i) (none-known (inputs_of s.tick i) h.waits) port

        quiet : partial_at (facts.early s.tag (get_or kids i d) (inputs_of s.tick i)) port ≡ Unknown → PartialBelow (tells i port) (partial_at V c)
        quiet q = subst (λ v. PartialBelow v (partial_at V c)) (sym (early-tells ∙ q)) tt

        by : (get_or s.tick.nonstrict i false ≡ false) ⊎ (get_or s.tick.heard i 0 ≤ unknown_in (inputs_of s.tick i)) ⊎ HasTold s.tick i → PartialBelow (tells i port) (partial_at V c)
        by (inl f) = quiet (u.fitting.strict i d (omega (arith, l, u.fitting.children)) f s.tag (inputs_of s.tick i) (none-known (inputs_of s.tick i) h.waits) port)
        by (inr (inl m)) = ⊎_elim (λ k. agrees c i port l e k) (λ q. quiet q) (u.heard i l m c port e)
        by (inr (inr t)) = agrees c i port l e (t c port e)

    settled-knows : NothingComes s.tick → (c : ℕ) → (o : Option Source) → get net.sources c ≡ o → Knows facts.early sr_active (sr_turn facts step) s.tag net kids inputs d V c o
    settled-knows h c None e = tt
    settled-knows h c (Some (Own port)) e = u.arrived c port e
    settled-knows h c (Some (Output i port)) e = λ l. ⊎_elim (λ f. agrees c i port l e ((u.fired i l f).1 c port e)) (λ q. unfired-tells c i port l e q) (h i l)

    pub calls-end : AllFired s.tick → (n k : ℕ) → length net.sources ≤ k → firing_from facts step before kids n s.tag inputs k ≡ Done (record { held = []; kids = now }) (own_of s) (log_below ls)
    calls-end f n k l =
        sym (ap (λ (p : TickPlan). sr facts step p k n s.tag kids inputs) u.plan) ∙
        tick-ends facts.early sr_active (sr_turn facts step) s.tag u.keeps net (record { path = []; firing = n; code = causality_code } ∷ []) kids inputs d V now u.outs ls u.run u.wide
        (λ c h. settled-knows (λ i m. inl (f i m)) c (get net.sources c) refl) (λ i h. (u.fired i h (f i h)).0) k l

    pub calls-lack : NothingComes s.tick → (w : ℕ) → w < length net.places → get_or s.tick.fired w false ≡ false → (n k : ℕ) → length net.sources ≤ k → firing_from facts step before kids n s.tag inputs k ≡ Stuck (record { path = []; firing = n; code = causality_code } ∷ []) (log_below ls)
    calls-lack h w m q n k l =
        sym (ap (λ (p : TickPlan). sr facts step p k n s.tag kids inputs) u.plan) ∙
        tick-lacks facts.early sr_active (sr_turn facts step) s.tag u.keeps net (record { path = []; firing = n; code = causality_code } ∷ []) kids inputs d V now u.outs ls u.run u.wide
        (λ c b. settled-knows h c (get net.sources c) refl) (λ i b. stands i b (h i b)) w m (unready (h w m)) k l
      where
        stands : (i : ℕ) → i < length net.places → (get_or s.tick.fired i false ≡ true) ⊎ HasNothing s.tick i → FiredOrWaits facts.early sr_active (sr_turn facts step) s.tag net kids inputs d V now u.outs ls i
        stands i b (inl f) = inl (u.fired i b f).0
        stands i b (inr g) = let r = u.rests i b g.unfired in inr (none-known (inputs_of s.tick i) g.waits, r.0, r.1)

        unready : (get_or s.tick.fired w false ≡ true) ⊎ HasNothing s.tick w → known (places_at net.places w V) ≡ None
        unready (inl f) = absurd (cc (sym q ∙ f))
        unready (inr g) = none-known (inputs_of s.tick w) g.waits

    -- what the children have logged, with what child i, which was asked to fire, has logged so far
    logged : (i : ℕ) → i < length net.places → get_or s.tick.fired i false ≡ true → LoggedAt facts.early sr_active (sr_turn facts step) s.tag net kids inputs d V ls i
    logged i l f = let h = (u.fired i l f).0 in by h.0 h.1 h.2
      where
        by : (X : Streams T) → known (places_at net.places i V) ≡ Some X →
            ((sr_active s.tag (get_or kids i d) X ≡ true) × (sr_turn facts step s.tag (get_or kids i d) X ≡ Done (get_or now i d) (get_or u.outs i []) (log_at ls i))) ⊎ ((sr_active s.tag (get_or kids i d) X ≡ false) × (get_or now i d ≡ get_or kids i d) × (get_or u.outs i [] ≡ []) × (log_at ls i ≡ silent)) →
            LoggedAt facts.early sr_active (sr_turn facts step) s.tag net kids inputs d V ls i
        by X e (inl g) = inr (X, e, refl, subst (λ m. LogBelow (log_at ls i) m) (sym (ap (λ r. log_in r) g.1)) (log-refl (log_at ls i)))
        by X e (inr g) = let clash : true ≡ false = g.0 in absurd (cc)

    each-logged : (i : ℕ) → i < length net.places → LoggedAt facts.early sr_active (sr_turn facts step) s.tag net kids inputs d V ls i
    each-logged i l = by (get_or s.tick.fired i false) refl
      where
        by : (b : Bool) → get_or s.tick.fired i false ≡ b → LoggedAt facts.early sr_active (sr_turn facts step) s.tag net kids inputs d V ls i
        by true f = logged i l f
        by false f = inl (subst (λ (m : Log T). LogBelow m silent) (sym (u.rests i l f).1) (log-refl {T = T} silent))

    pub calls-off : (n k : ℕ) → length net.sources ≤ k → LogBelow (log_below ls) (log_in (firing_from facts step before kids n s.tag inputs k))
    calls-off n k l =
        subst (λ (p : TickPlan). LogBelow (log_below ls) (log_in (sr facts step p k n s.tag kids inputs))) u.plan
        (tick-is-prefix facts.early sr_active (sr_turn facts step) s.tag u.keeps net (record { path = []; firing = n; code = causality_code } ∷ []) kids inputs d V ls u.wide.kids_are u.wide.logs_are u.run (λ i h. each-logged i h) k l)

    -- child i is asked to fire
    module _ (i : ℕ) (may : MayFire s.tick i) where
      asks : known (places_at net.places i V) ≡ Some (lent_of s i)
      asks = all-known (inputs_of s.tick i) may.ready

      kid-is : get_or now i d ≡ get_or kids i d
      kid-is = (u.rests i may.there may.unfired).0

      -- a step logs no more than the turn
      step-logs : (r : Outcome T S) → step s.tag (get_or kids i d) (lent_of s i) ≡ r → LogBelow (log_in r) (log_in (sr_turn facts step s.tag (get_or kids i d) (lent_of s i)))
      step-logs (Done c out l) e = by (all_single out) refl
        where
          by : (b : Bool) → all_single out ≡ b → LogBelow l (log_in (sr_turn facts step s.tag (get_or kids i d) (lent_of s i)))
          by true a = subst (λ r. LogBelow l (log_in r)) (sym (sr-turns.done facts step s.tag (get_or kids i d) (lent_of s i) c out l e a)) (λ p. IsPrefix-append (l p) (own (record { number = facts.made (get_or kids i d); tag = s.tag; inputs = lent_of s i; outputs = out }) p))
          by false a = subst (λ r. LogBelow l (log_in r)) (sym (sr-turns.twice facts step s.tag (get_or kids i d) (lent_of s i) c out l e a)) (log-refl {T = T} l)
      step-logs (Stuck fs l) e = subst (λ r. LogBelow l (log_in r)) (sym (sr-turns.stuck facts step s.tag (get_or kids i d) (lent_of s i) fs l e)) (log-refl {T = T} l)

      within-logged : (m : Log T) → LogBelow m (log_in (sr_turn facts step s.tag (get_or kids i d) (lent_of s i))) → (j : ℕ) → j < length net.places → (j ≡ i) ⊎ (j ≡ i → ⊥) → LoggedAt facts.early sr_active (sr_turn facts step) s.tag net kids inputs d V (logs_then i m ls) j
      within-logged m b j h (inl z) =
          subst (λ v. LoggedAt facts.early sr_active (sr_turn facts step) s.tag net kids inputs d V (logs_then i m ls) v) (sym z)
          (inr (lent_of s i, asks, refl, subst (λ v. LogBelow v (log_in (sr_turn facts step s.tag (get_or kids i d) (lent_of s i)))) (sym (then-first i m ls (omega (arith, may.there, u.wide.logs_are)) (u.rests i may.there may.unfired).1)) b))
      within-logged m b j h (inr z) = other (each-logged j h)
        where
          other : LoggedAt facts.early sr_active (sr_turn facts step) s.tag net kids inputs d V ls j → LoggedAt facts.early sr_active (sr_turn facts step) s.tag net kids inputs d V (logs_then i m ls) j
          other (inl q) = inl (subst (λ (v : Log T). LogBelow v silent) (sym (then-other i j m ls z)) q)
          other (inr q) = inr (q.0, q.1, q.2, subst (λ v. LogBelow v (log_in (sr_turn facts step s.tag (get_or kids j d) q.0))) (sym (then-other i j m ls z)) q.3)

      pub calls-off-within : (m : Log T) → LogBelow m (log_in (step s.tag (get_or now i d) (lent_of s i))) → (n k : ℕ) → length net.sources ≤ k → LogBelow (log_below (logs_then i m ls)) (log_in (firing_from facts step before kids n s.tag inputs k))
      calls-off-within m b n k o =
          let c : LogBelow m (log_in (step s.tag (get_or kids i d) (lent_of s i))) = subst (λ x. LogBelow m (log_in (step s.tag x (lent_of s i)))) kid-is b in
          let t : LogBelow m (log_in (sr_turn facts step s.tag (get_or kids i d) (lent_of s i))) = log-trans m (log_in (step s.tag (get_or kids i d) (lent_of s i))) (log_in (sr_turn facts step s.tag (get_or kids i d) (lent_of s i))) c (step-logs (step s.tag (get_or kids i d) (lent_of s i)) refl) in
          subst (λ (p : TickPlan). LogBelow (log_below (logs_then i m ls)) (log_in (sr facts step p k n s.tag kids inputs))) u.plan
          (tick-is-prefix facts.early sr_active (sr_turn facts step) s.tag u.keeps net (record { path = []; firing = n; code = causality_code } ∷ []) kids inputs d V (logs_then i m ls) u.wide.kids_are (then-long i m ls ∙ u.wide.logs_are) u.run (λ j h. within-logged m t j h (cases_eq j i)) k o)

      stuck-turn : (fs : List Fault) (l : Log T) → sr_turn facts step s.tag (get_or kids i d) (lent_of s i) ≡ Stuck fs l → (f : Fault) → IsIn f fs → (n k : ℕ) → length net.sources ≤ k → IsStuckAt (firing_from facts step before kids n s.tag inputs k) i f (log_below (logs_then i l ls))
      stuck-turn fs l t f x n k o =
          let stuck = tick-sticks facts.early sr_active (sr_turn facts step) s.tag u.keeps net (record { path = []; firing = n; code = causality_code } ∷ []) kids inputs d V u.wide.kids_are u.run i may.there (lent_of s i) asks refl fs l t f x k o in
          let prefix = tick-is-prefix facts.early sr_active (sr_turn facts step) s.tag u.keeps net (record { path = []; firing = n; code = causality_code } ∷ []) kids inputs d V (logs_then i l ls) u.wide.kids_are (then-long i l ls ∙ u.wide.logs_are) u.run (λ j h. within-logged l (subst (λ r. LogBelow l (log_in r)) (sym t) (log-refl {T = T} l)) j h (cases_eq j i)) k o in
          (stuck.0, stuck.1, sym (ap (λ (p : TickPlan). sr facts step p k n s.tag kids inputs) u.plan) ∙ stuck.2, stuck.3, subst (λ r. LogBelow (log_below (logs_then i l ls)) (log_in r)) stuck.2 prefix)

      pub calls-stick : (fs : List Fault) (l : Log T) → step s.tag (get_or now i d) (lent_of s i) ≡ Stuck fs l → (f : Fault) → IsIn f fs → (n k : ℕ) → length net.sources ≤ k → IsStuckAt (firing_from facts step before kids n s.tag inputs k) i f (log_below (logs_then i l ls))
      calls-stick fs l e f x n k o = stuck-turn fs l (sr-turns.stuck facts step s.tag (get_or kids i d) (lent_of s i) fs l (ap (λ c. step s.tag c (lent_of s i)) (sym kid-is) ∙ e)) f x n k o

      pub calls-give-two : (c : S) (out : Streams T) (l : Log T) → step s.tag (get_or now i d) (lent_of s i) ≡ Done c out l → all_single out ≡ false → (n k : ℕ) → length net.sources ≤ k →
          IsStuckAt (firing_from facts step before kids n s.tag inputs k) i (record { path = []; firing = facts.made (get_or now i d); code = second_token_code }) (log_below (logs_then i l ls))
      calls-give-two c out l e a n k o =
          let g : Fault = record { path = []; firing = facts.made (get_or kids i d); code = second_token_code } in
          subst (λ j. IsStuckAt (firing_from facts step before kids n s.tag inputs k) i (record { path = []; firing = facts.made j; code = second_token_code }) (log_below (logs_then i l ls))) (sym kid-is)
          (stuck-turn (g ∷ []) l (sr-turns.twice facts step s.tag (get_or kids i d) (lent_of s i) c out l (ap (λ c. step s.tag c (lent_of s i)) (sym kid-is) ∙ e) a) g (inl refl) n k o)

    -- child i gave something: what is known then
    module _ (i : ℕ) (there : i < length net.places) (given : ℕ → Option (List T)) (says : (port : ℕ) (xs : List T) → given port ≡ Some xs → tells i port ≡ Known xs) where
      abbrev W : List (Partial T)
      W = after_children i given net.sources V

      grown : KnownBelow V W
      grown = after-below i given net.sources V

      grown-long : length W ≡ length net.sources
      grown-long = after-long i given net.sources V ∙ u.channels

      grown-at : (c : ℕ) (src : Source) → get net.sources c ≡ Some src → partial_at W c ≡ after_child i given src (partial_at V c)
      grown-at c src e = after-at i given net.sources V c src u.channels e

      grown-run : TickRun facts.early sr_active (sr_turn facts step) s.tag net kids inputs W
      grown-run = tick-goes-on facts.early sr_active (sr_turn facts step) s.tag u.keeps net kids inputs d u.wide.kids_are V W u.run grown-long (λ c l. one c (get net.sources c) refl)
        where
          by : (c j port : ℕ) (b : Bool) → nat_eq j i ≡ b → partial_at W c ≡ (if b then learnt (partial_at V c) (given port) else partial_at V c) → (partial_at W c ≡ partial_at V c) ⊎ ((j < length net.places) × PartialBelow (partial_at W c) (tells j port))
          by c j port false t e = inl e
          by c j port true t e =
              let z : j ≡ i = equal-by j i t in
              ⊎_elim (λ a. inl a) (λ a. inr (subst (λ m. m < length net.places) (sym z) there, subst (λ m. PartialBelow (partial_at W c) (tells m port)) (sym z) a)) (learnt-may (partial_at V c) (partial_at W c) (tells i port) (given port) e (says port))

          one : (c : ℕ) (o : Option Source) → get net.sources c ≡ o → MayKnow facts.early sr_active (sr_turn facts step) s.tag net kids inputs d V W c o
          one c None e = tt
          one c (Some (Own port)) e = inl (grown-at c (Own port) e)
          one c (Some (Output j port)) e = by c j port (nat_eq j i) refl (grown-at c (Output j port) e)

      grown-arrived : (c port : ℕ) → get net.sources c ≡ Some (Own port) → partial_at W c ≡ Known (at inputs port)
      grown-arrived c port e = grown-at c (Own port) e ∙ u.arrived c port e

      grown-own : (c port : ℕ) → get net.sources c ≡ Some (Output i port) → partial_at W c ≡ learnt (partial_at V c) (given port)
      grown-own c port e = grown-at c (Output i port) e ∙ ap (λ b. if b then learnt (partial_at V c) (given port) else partial_at V c) (same-test i)

      grown-known : (c : ℕ) → is_known (partial_at V c) ≡ true → is_known (partial_at W c) ≡ true
      grown-known c k = known-stays (partial_at V c) (partial_at W c) (below-at V W grown c) k

      grown-falls : (j : ℕ) → unknown_in (places_at net.places j W) ≤ unknown_in (places_at net.places j V)
      grown-falls j = unknown-falls (places_at net.places j V) (places_at net.places j W) (places-below net.places j V W grown)

      grown-same : (j : ℕ) → unknown_in (places_at net.places j V) ≤ unknown_in (places_at net.places j W) → places_at net.places j W ≡ places_at net.places j V
      grown-same j m = none-learnt (places_at net.places j V) (places_at net.places j W) (places-below net.places j V W grown) m

      -- a child that was heard before is so still, where none of its inputs became known
      grown-heard : (j : ℕ) → j < length net.places → get_or s.tick.heard j 0 ≤ unknown_in (places_at net.places j W) → (c port : ℕ) → get net.sources c ≡ Some (Output j port) →
          (is_known (partial_at W c) ≡ true) ⊎ (partial_at (facts.early s.tag (get_or kids j d) (places_at net.places j W)) port ≡ Unknown)
      grown-heard j l m c port e =
          let f = u.falls j l in
          let g = grown-falls j in
          let same = grown-same j (omega (arith, f, m)) in
          ⊎_elim (λ k. inl (grown-known c k)) (λ q. inr (ap (λ vs. partial_at (facts.early s.tag (get_or kids j d) vs) port) same ∙ q)) (u.heard j l (omega (arith, m, g)) c port e)

    module _ (i : ℕ) (may : MayFire s.tick i) (c : S) (out : Streams T) (l : Log T) (e : step s.tag (get_or now i d) (lent_of s i) ≡ Done c out l) (a : all_single out ≡ true) where
      abbrev fired-log : Log T
      fired-log = log_then l (own (record { number = facts.made (get_or kids i d); tag = s.tag; inputs = lent_of s i; outputs = out }))

      fired-turn : sr_turn facts step s.tag (get_or kids i d) (lent_of s i) ≡ Done c out fired-log
      fired-turn = sr-turns.done facts step s.tag (get_or kids i d) (lent_of s i) c out l (ap (λ c. step s.tag c (lent_of s i)) (sym (kid-is i may)) ∙ e) a

      fired-has : HasFired sr_active (sr_turn facts step) s.tag (get_or kids i d) (places_at net.places i V) c out fired-log
      fired-has = (lent_of s i, asks i may, inl (refl, fired-turn))

      fired-says : (port : ℕ) (xs : List T) → all_of out port ≡ Some xs → tells i port ≡ Known xs
      fired-says port xs q = let z : at out port ≡ xs = cc in (has-reacted facts.early sr_active (sr_turn facts step) s.tag (get_or kids i d) (places_at net.places i V) c out fired-log fired-has).outputs port ∙ ap (λ v. Known v) z

      abbrev fired-after : List (Partial T)
      fired-after = after_children i (all_of out) net.sources V

      abbrev fired-flags : List Bool
      fired-flags = set s.tick.fired i true

      fired-one : (j : ℕ) → j < length net.places → get_or fired-flags j false ≡ true → (j ≡ i) ⊎ (j ≡ i → ⊥) →
          FiredAt facts.early sr_active (sr_turn facts step) s.tag net kids inputs d fired-after (set now i c) (set u.outs i out) (logs_then i fired-log ls) j × ((b port : ℕ) → get net.sources b ≡ Some (Output j port) → is_known (partial_at fired-after b) ≡ true)
      fired-one j h f (inl z) =
          subst (λ k. FiredAt facts.early sr_active (sr_turn facts step) s.tag net kids inputs d fired-after (set now i c) (set u.outs i out) (logs_then i fired-log ls) k × ((b port : ℕ) → get net.sources b ≡ Some (Output k port) → is_known (partial_at fired-after b) ≡ true)) (sym z) (
            subst (λ x. HasFired sr_active (sr_turn facts step) s.tag (get_or kids i d) (places_at net.places i fired-after) x (get_or (set u.outs i out) i []) (log_at (logs_then i fired-log ls) i)) (sym (get_or-set_same now i c d (omega (arith, may.there, u.wide.news_are))))
                (subst (λ x. HasFired sr_active (sr_turn facts step) s.tag (get_or kids i d) (places_at net.places i fired-after) c x (log_at (logs_then i fired-log ls) i)) (sym (get_or-set_same u.outs i out [] (omega (arith, may.there, u.gave))))
                (subst (λ x. HasFired sr_active (sr_turn facts step) s.tag (get_or kids i d) (places_at net.places i fired-after) c out x) (sym (then-first i fired-log ls (omega (arith, may.there, u.wide.logs_are)) (u.rests i may.there may.unfired).1))
                (fired-more (sr_turn facts step) s.tag (get_or kids i d) (places_at net.places i V) (places_at net.places i fired-after) c out fired-log (places-below net.places i V fired-after (grown i may.there (all_of out) fired-says)) fired-has))),
            λ b port g. ap (λ v. is_known v) (grown-own i may.there (all_of out) fired-says b port g) ∙ learnt-known (partial_at V b) (at out port),
          )
      fired-one j h f (inr z) =
          let old = u.fired j h (sym (get_or-set_other s.tick.fired i j true false z) ∙ f) in (
            subst (λ x. HasFired sr_active (sr_turn facts step) s.tag (get_or kids j d) (places_at net.places j fired-after) x (get_or (set u.outs i out) j []) (log_at (logs_then i fired-log ls) j)) (sym (get_or-set_other now i j c d z))
                (subst (λ x. HasFired sr_active (sr_turn facts step) s.tag (get_or kids j d) (places_at net.places j fired-after) (get_or now j d) x (log_at (logs_then i fired-log ls) j)) (sym (get_or-set_other u.outs i j out [] z))
                (subst (λ x. HasFired sr_active (sr_turn facts step) s.tag (get_or kids j d) (places_at net.places j fired-after) (get_or now j d) (get_or u.outs j []) x) (sym (then-other i j fired-log ls z))
                (fired-more (sr_turn facts step) s.tag (get_or kids j d) (places_at net.places j V) (places_at net.places j fired-after) (get_or now j d) (get_or u.outs j []) (log_at ls j) (places-below net.places j V fired-after (grown i may.there (all_of out) fired-says)) old.0))),
            λ b port g. grown-known i may.there (all_of out) fired-says b (old.1 b port g),
          )

      fired-quiet : (j : ℕ) → j < length net.places → get_or fired-flags j false ≡ false → (j ≡ i) ⊎ (j ≡ i → ⊥) → (get_or (set now i c) j d ≡ get_or kids j d) × (log_at (logs_then i fired-log ls) j ≡ silent)
      fired-quiet j h f (inl z) = absurd (cc (sym (get_or-set_same s.tick.fired i true false (omega (arith, may.there, u.flags))) ∙ ap (λ k. get_or fired-flags k false) (sym z) ∙ f))
      fired-quiet j h f (inr z) =
          let old = u.rests j h (sym (get_or-set_other s.tick.fired i j true false z) ∙ f) in
          (get_or-set_other now i j c d z ∙ old.0, then-other i j fired-log ls z ∙ old.1)

      -- its turn, beside those of the others
      abbrev its-turn : Turned T
      its-turn = record { record_of = record { number = facts.made (get_or kids i d); tag = s.tag; inputs = lent_of s i; outputs = out }; inside = l }

      abbrev fired-turns : ℕ → List (Turned T)
      fired-turns j = if nat_eq j i then its-turn ∷ [] else u.turns j

      its-turn-is : fired-turns i ≡ its-turn ∷ []
      its-turn-is = ap (λ b. if b then its-turn ∷ [] else u.turns i) (same-test i)

      other-turn-is : (j : ℕ) → (j ≡ i → ⊥) → fired-turns j ≡ u.turns j
      other-turn-is j z = ap (λ b. if b then its-turn ∷ [] else u.turns j) (other-test j i z)

      turns-grow : (j : ℕ) → (j ≡ i) ⊎ (j ≡ i → ⊥) → (fired-turns j ≡ u.turns j) ⊎ (u.turns j ≡ [])
      turns-grow j (inl z) = inr (ap (λ n. u.turns n) z ∙ u.unturned i may.unfired)
      turns-grow j (inr z) = inl (other-turn-is j z)

      turned-one : (j : ℕ) → j < length net.places → get_or fired-flags j false ≡ true → (j ≡ i) ⊎ (j ≡ i → ⊥) → HasTurn facts step s.tag (get_or kids j d) (places_at net.places j fired-after) (get_or (set now i c) j d) (log_at (logs_then i fired-log ls) j) (fired-turns j)
      turned-one j h f (inl z) =
          subst (λ n. HasTurn facts step s.tag (get_or kids n d) (places_at net.places n fired-after) (get_or (set now i c) n d) (log_at (logs_then i fired-log ls) n) (fired-turns n)) (sym z)
          (record {
            inputs = lent_of s i;
            outputs = out;
            inside = l;
            on = ap (λ v. known v) (known-same (places_at net.places i V) (places_at net.places i fired-after) (lent_of s i) (places-below net.places i V fired-after (grown i may.there (all_of out) fired-says)) (asks i may)) ∙ asks i may;
            done = ap (λ x. step s.tag x (lent_of s i)) (sym (kid-is i may)) ∙ e ∙ ap (λ (x : S). let r : Outcome T S = Done x out l in r) (sym (get_or-set_same now i c d (omega (arith, may.there, u.wide.news_are))));
            turn = its-turn-is;
            logged = then-first i fired-log ls (omega (arith, may.there, u.wide.logs_are)) (u.rests i may.there may.unfired).1;
          })
      turned-one j h f (inr z) =
          let old = u.turned j h (sym (get_or-set_other s.tick.fired i j true false z) ∙ f) in
          subst (λ x. HasTurn facts step s.tag (get_or kids j d) (places_at net.places j fired-after) x (log_at (logs_then i fired-log ls) j) (fired-turns j)) (sym (get_or-set_other now i j c d z))
          (subst (λ x. HasTurn facts step s.tag (get_or kids j d) (places_at net.places j fired-after) (get_or now j d) x (fired-turns j)) (sym (then-other i j fired-log ls z))
          (subst (λ x. HasTurn facts step s.tag (get_or kids j d) (places_at net.places j fired-after) (get_or now j d) (log_at ls j) x) (sym (other-turn-is j z))
          (turn-more facts step s.tag (get_or kids j d) (places_at net.places j V) (places_at net.places j fired-after) (get_or now j d) (log_at ls j) (u.turns j) (places-below net.places j V fired-after (grown i may.there (all_of out) fired-says)) old)))

      unturned-one : (j : ℕ) → get_or fired-flags j false ≡ false → (j ≡ i) ⊎ (j ≡ i → ⊥) → fired-turns j ≡ []
      unturned-one j f (inl z) = absurd (cc (sym (get_or-set_same s.tick.fired i true false (omega (arith, may.there, u.flags))) ∙ ap (λ k. get_or fired-flags k false) (sym z) ∙ f))
      unturned-one j f (inr z) = other-turn-is j z ∙ u.unturned j (sym (get_or-set_other s.tick.fired i j true false z) ∙ f)

      fired-tells : (j q port : ℕ) (xs : List T) → source_in net j q ≡ Some (Output i port) → all_of out port ≡ Some xs → MaySay facts (Sr s.tick.plan) kids inputs fired-turns s.tag j q (Known xs)
      fired-tells j q port xs f g =
          let z : at out port ≡ xs = cc in
          let told : of_turns (outputs_at port) (fired-turns i) ≡ xs = ap (λ ts. of_turns (outputs_at port) ts) its-turn-is ∙ append-nil (at out port) ∙ z in
          subst (λ v. MaySay facts (Sr s.tick.plan) kids inputs fired-turns s.tag j q (Known v)) told
          (subst (λ (o : Option Source). MaySay facts (Sr s.tick.plan) kids inputs fired-turns s.tag j q (Known (gives_in inputs fired-turns o))) f (Gives j q))

      pub calls-go-on : Underway facts step before kids inputs d (after_told i out (asked i s)) (set now i c) (logs_then i (log_then l (own (record { number = facts.made (get_or now i d); tag = s.tag; inputs = lent_of s i; outputs = out }))) ls)
      calls-go-on =
          subst (λ j. Underway facts step before kids inputs d (after_told i out (asked i s)) (set now i c) (logs_then i (log_then l (own (record { number = facts.made j; tag = s.tag; inputs = lent_of s i; outputs = out }))) ls)) (sym (kid-is i may))
          (subst (λ b. Underway facts step before kids inputs d (if_told b i out (asked i s)) (set now i c) (logs_then i fired-log ls)) (sym a)
          (record {
            keeps = u.keeps;
            fitting = record { children = u.fitting.children; strict = u.fitting.strict };
            plan = u.plan;
            wide = record { kids_are = u.wide.kids_are; news_are = length-set now i c ∙ u.wide.news_are; logs_are = then-long i fired-log ls ∙ u.wide.logs_are };
            channels = grown-long i may.there (all_of out) fired-says;
            flags = length-set s.tick.fired i true ∙ u.flags;
            numbers = u.numbers;
            run = grown-run i may.there (all_of out) fired-says;
            arrived = grown-arrived i may.there (all_of out) fired-says;
            outs = set u.outs i out;
            gave = length-set u.outs i out ∙ u.gave;
            fired = λ j h f. fired-one j h f (cases_eq j i);
            rests = λ j h f. fired-quiet j h f (cases_eq j i);
            falls = λ j h. let x = u.falls j h in let y = grown-falls i may.there (all_of out) fired-says j in omega (arith, x, y);
            heard = λ j h q c port e. grown-heard i may.there (all_of out) fired-says j h q c port e;
            turns = fired-turns;
            turned = λ j h f. turned-one j h f (cases_eq j i);
            unturned = λ j f. unturned-one j f (cases_eq j i);
            says = λ j q. says-grown facts s.tick.plan kids inputs s.tag u.turns fired-turns (λ n. turns-grow n (cases_eq n i)) V i (all_of out) u.channels u.says fired-tells j q;
          }))

    module _ (i : ℕ) (may : MayAnswer s.tick i) where
      abbrev answer : List (Partial T)
      answer = facts.early s.tag (get_or kids i d) (inputs_of s.tick i)

      heard-says : (port : ℕ) (xs : List T) → known_of answer port ≡ Some xs → tells i port ≡ Known xs
      heard-says port xs q =
          waiting-reacted facts.early sr_active (sr_turn facts step) s.tag (get_or kids i d) (inputs_of s.tick i) (none-known (inputs_of s.tick i) may.waits) port ∙ if-known-some (partial_at answer port) xs q

      abbrev heard-after : List (Partial T)
      heard-after = after_children i (known_of answer) net.sources V

      abbrev heard-numbers : List ℕ
      heard-numbers = set s.tick.heard i (unknown_in (inputs_of s.tick i))

      now-heard : get_or heard-numbers i 0 ≡ unknown_in (inputs_of s.tick i)
      now-heard = get_or-set_same s.tick.heard i (unknown_in (inputs_of s.tick i)) 0 (omega (arith, may.there, u.numbers))

      heard-less : (j : ℕ) → j < length net.places → (j ≡ i) ⊎ (j ≡ i → ⊥) → unknown_in (places_at net.places j heard-after) ≤ get_or heard-numbers j 0
      heard-less j h (inl z) = subst (λ k. unknown_in (places_at net.places k heard-after) ≤ get_or heard-numbers k 0) (sym z) (subst (λ v. unknown_in (places_at net.places i heard-after) ≤ v) (sym now-heard) (grown-falls i may.there (known_of answer) heard-says i))
      heard-less j h (inr z) =
          let x = u.falls j h in
          let y = grown-falls i may.there (known_of answer) heard-says j in
          subst (λ v. unknown_in (places_at net.places j heard-after) ≤ v) (sym (get_or-set_other s.tick.heard i j (unknown_in (inputs_of s.tick i)) 0 z)) (omega (arith, x, y))

      own-heard : unknown_in (inputs_of s.tick i) ≤ unknown_in (places_at net.places i heard-after) → (c port : ℕ) → get net.sources c ≡ Some (Output i port) →
          (is_known (partial_at heard-after c) ≡ true) ⊎ (partial_at (facts.early s.tag (get_or kids i d) (places_at net.places i heard-after)) port ≡ Unknown)
      own-heard q c port e =
          let same = grown-same i may.there (known_of answer) heard-says i q in
          ⊎_elim (λ k. inl (ap (λ v. is_known v) (grown-own i may.there (known_of answer) heard-says c port e) ∙ k)) (λ n. inr (ap (λ vs. partial_at (facts.early s.tag (get_or kids i d) vs) port) same ∙ n)) (learnt-early (partial_at V c) (partial_at answer port))

      heard-one : (j : ℕ) → j < length net.places → get_or heard-numbers j 0 ≤ unknown_in (places_at net.places j heard-after) → (c port : ℕ) → get net.sources c ≡ Some (Output j port) → (j ≡ i) ⊎ (j ≡ i → ⊥) →
          (is_known (partial_at heard-after c) ≡ true) ⊎ (partial_at (facts.early s.tag (get_or kids j d) (places_at net.places j heard-after)) port ≡ Unknown)
      heard-one j h q c port e (inl z) =
          subst (λ k. (is_known (partial_at heard-after c) ≡ true) ⊎ (partial_at (facts.early s.tag (get_or kids k d) (places_at net.places k heard-after)) port ≡ Unknown)) (sym z)
          (own-heard (subst (λ v. v ≤ unknown_in (places_at net.places i heard-after)) now-heard (subst (λ k. get_or heard-numbers k 0 ≤ unknown_in (places_at net.places k heard-after)) z q)) c port (e ∙ ap (λ k. Some (Output k port)) z))
      heard-one j h q c port e (inr z) =
          grown-heard i may.there (known_of answer) heard-says j h (subst (λ v. v ≤ unknown_in (places_at net.places j heard-after)) (get_or-set_other s.tick.heard i j (unknown_in (inputs_of s.tick i)) 0 z) q) c port e

      heard-tells : (j q port : ℕ) (xs : List T) → source_in net j q ≡ Some (Output i port) → known_of answer port ≡ Some xs → MaySay facts (Sr s.tick.plan) kids inputs u.turns s.tag j q (Known xs)
      heard-tells j q port xs f g =
          Early j q i port (get_or kids i d) (inputs_of s.tick i) xs f (get-or-there kids i d (omega (arith, may.there, u.wide.kids_are))) (λ place. u.says i place) (if-known-some (partial_at answer port) xs g)

      pub calls-hear : Underway facts step before kids inputs d (after_heard i (facts.early s.tag (get_or now i d) (inputs_of s.tick i)) (listening i s)) now ls
      calls-hear =
          subst (λ j. Underway facts step before kids inputs d (after_heard i (facts.early s.tag j (inputs_of s.tick i)) (listening i s)) now ls) (sym (u.rests i may.there may.unfired).0)
          (record {
            keeps = u.keeps;
            fitting = record { children = u.fitting.children; strict = u.fitting.strict };
            plan = u.plan;
            wide = u.wide;
            channels = grown-long i may.there (known_of answer) heard-says;
            flags = u.flags;
            numbers = length-set s.tick.heard i (unknown_in (inputs_of s.tick i)) ∙ u.numbers;
            run = grown-run i may.there (known_of answer) heard-says;
            arrived = grown-arrived i may.there (known_of answer) heard-says;
            outs = u.outs;
            gave = u.gave;
            fired = λ j h f. let old = u.fired j h f in (
              fired-more (sr_turn facts step) s.tag (get_or kids j d) (places_at net.places j V) (places_at net.places j heard-after) (get_or now j d) (get_or u.outs j []) (log_at ls j) (places-below net.places j V heard-after (grown i may.there (known_of answer) heard-says)) old.0,
              λ b port g. grown-known i may.there (known_of answer) heard-says b (old.1 b port g),
            );
            rests = u.rests;
            falls = λ j h. heard-less j h (cases_eq j i);
            heard = λ j h q c port e. heard-one j h q c port e (cases_eq j i);
            turns = u.turns;
            turned = λ j h f. turn-more facts step s.tag (get_or kids j d) (places_at net.places j V) (places_at net.places j heard-after) (get_or now j d) (log_at ls j) (u.turns j) (places-below net.places j V heard-after (grown i may.there (known_of answer) heard-says)) (u.turned j h f);
            unturned = u.unturned;
            says = λ j q. says-grown facts s.tick.plan kids inputs s.tag u.turns u.turns (λ n. inl refl) V i (known_of answer) u.channels u.says heard-tells j q;
          })

    pub calls-learn : (i : ℕ) → MayAnswer s.tick i → (early : List (Partial T)) → waits (after_heard i early (listening i s)) < waits s
    calls-learn i may early = total-set s.tick.heard i (unknown_in (inputs_of s.tick i)) (omega (arith, may.there, u.numbers)) may.news

pub calls-are-sr : {T S : Type 0} → CallsAreSr T S
calls-are-sr = record {
  begins = λ facts step before kids tag inputs d keeps h. calls-begin facts step before kids inputs d tag keeps h;
  goes_on = λ facts step before kids inputs d s now ls u. calls-go-on facts step before kids inputs d s now ls u;
  hears = λ facts step before kids inputs d s now ls u. calls-hear facts step before kids inputs d s now ls u;
  learns = λ facts step before kids inputs d s now ls u. calls-learn facts step before kids inputs d s now ls u;
  ends = λ facts step before kids inputs d s now ls u. calls-end facts step before kids inputs d s now ls u;
  lacks = λ facts step before kids inputs d s now ls u. calls-lack facts step before kids inputs d s now ls u;
  sticks = λ facts step before kids inputs d s now ls u. calls-stick facts step before kids inputs d s now ls u;
  gives_two = λ facts step before kids inputs d s now ls u. calls-give-two facts step before kids inputs d s now ls u;
  off = λ facts step before kids inputs d s now ls u. calls-off facts step before kids inputs d s now ls u;
  off_within = λ facts step before kids inputs d s now ls u. calls-off-within facts step before kids inputs d s now ls u;
}
