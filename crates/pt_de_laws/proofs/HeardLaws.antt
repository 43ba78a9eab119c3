-- A child with delays has answered early.
use Rattle.std.proofs.Common.{◌≡◌, ◌⊎◌, inl, inr, ⊎_elim, ℕ, zero, suc, ◌<◌, ◌≤◌, List, [], ◌∷◌, ◌++◌, Bool, true, false, ◌||◌, length, get_or, set, Some, None, refl, sym, ap, ap₂, subst, ◌∙◌, arith, length-set}
use Rattle.std.proofs.lemmas.List.{get_or-set_same, get_or-set_other}
use Rattle.std.proofs.lemmas.Bool.{cases_eq}
use Rattle.pt_meaning.specs.Tag.{is_due}
use Rattle.pt_meaning.specs.Streams.{Streams, at, get}
use Rattle.pt_meaning.specs.Log.{Log, silent}
use Rattle.pt_meaning.specs.Machine.{Stepping, Facts, Partial, Unknown, Known, partial_at}
use Rattle.pt_meaning.specs.Net.{Net, Output}
use Rattle.pt_meaning.specs.Valuation.{is_known, tokens_of}
use Rattle.pt_meaning.specs.De.{de_early, de_active, de_turn}
use Rattle.pt_laws.specs.TickRuns.{places_at}
use Rattle.pt_laws.specs.LogsOfRuns.{log_at}
use Rattle.pt_de_laws.specs.State.{DeState, Turn, Waits, Answered, Over, Stage, Open, comes, rows_left, inputs_of, delays_of, is_due_in, is_due_child, depth_of, partial_of, MayAnswer, after_heard, waiting_in, waits}
use Rattle.pt_de_laws.specs.Chain.{HasTold, HasTurned, IsBusy, IsPending, Course, after_rounds, decided}
use Rattle.pt_de_laws.proofs.EarlyLaws.{beside-known, beside-below, early-gives, early-same}
use Rattle.pt_de_laws.proofs.ReadyLaws.{clash, over-waits, answered-waits, over-answered, due-is, due-waits, kid-there, flags-long, known-long, place-at, ready-below, settles}
use Rattle.pt_de_laws.proofs.ValueLaws.{val-output, val-stays}
use Rattle.pt_de_laws.proofs.ToldLaws.{below-or}
use Rattle.pt_de_laws.proofs.GainLaws.{gained-own, gained-other, gained-same, more-long, same-comes, same-beside, not-deeper, tokens-known}

-- what is known is known as something
some-known : {T : Type 0} (v : Partial T) → is_known v ≡ true → (xs : List T) × (v ≡ Known xs)
some-known Unknown e = clash (sym e)
some-known (Known xs) e = (xs, refl)

-- one that waited waits no more
pub fewer-wait : (ts : List Turn) (i : ℕ) → i < length ts → get_or ts i Waits ≡ Waits → waiting_in (set ts i Answered) < waiting_in ts
fewer-wait [] i h e = absurd (omega (arith, h))
fewer-wait (Waits ∷ ts) zero h e = omega arith
fewer-wait (Answered ∷ ts) zero h e = absurd (cc)
fewer-wait (Over ∷ ts) zero h e = absurd (cc)
fewer-wait (Waits ∷ ts) (suc i) h e = let r = fewer-wait ts i (omega (arith, h)) e in omega (arith, r)
fewer-wait (Answered ∷ ts) (suc i) h e = fewer-wait ts i (omega (arith, h)) e
fewer-wait (Over ∷ ts) (suc i) h e = fewer-wait ts i (omega (arith, h)) e

module _ {T S : Type 0} (facts : Facts T S) (step : Stepping T S) (before : DeState T) (kids : List S) (inputs : Streams T) (d : S) (s : DeState T) (now : List S) (ls : List (Log T)) (u : Course facts step before kids inputs d s now ls) (i : ℕ) (may : MayAnswer s i) where
  abbrev net : Net
  net = s.plan.net

  abbrev count : ℕ
  count = length net.places

  abbrev kid : ℕ → S
  kid j = get_or kids j d

  abbrev turn : ℕ → Turn
  turn j = get_or s.turns j Waits

  abbrev depth : ℕ → ℕ
  depth j = depth_of s j

  abbrev val : ℕ → List (Partial T)
  val k = after_rounds facts step s kids inputs k

  abbrev end : List (Partial T)
  end = decided facts step s kids inputs

  abbrev early : ℕ → Bool
  early j = get_or s.roles.early j false

  there : i < count
  there = may.0.there

  waits-now : turn i ≡ Waits
  waits-now = due-waits facts step before kids inputs d s now ls u i there may.0.due

  pub calls-learn : (answer : List (Partial T)) → waits (after_heard i answer s) < waits s
  calls-learn answer = fewer-wait s.turns i (omega (arith, there, u.flags)) waits-now

  module _ (o : s.stage ≡ Open) where
    abbrev answer : List (Partial T)
    answer = facts.early s.tag (kid i) (partial_of s i)

    abbrev t : DeState T
    t = after_heard i answer s

    not-busy : (k : ℕ) → IsBusy s k → ⊥
    not-busy k b = let none : length (rows_left s.stage k) ≡ 0 = ap (λ (st : Stage T). length (rows_left st k)) o in let some = b.1 in absurd (omega (arith, none, some))

    least : (p : ℕ) → p < count → IsPending s p → depth i ≤ depth p
    least p l q = ⊎_elim (λ e. may.0.least p l e) (λ b. absurd (not-busy p b)) q

    open-left : (j : ℕ) → rows_left s.stage j ≡ []
    open-left j = ap (λ (st : Stage T). rows_left st j) o

    its-turn : get_or t.turns i Waits ≡ Answered
    its-turn = get_or-set_same s.turns i Answered Waits (omega (arith, there, u.flags))

    other-turn : (j : ℕ) → (j ≡ i → ⊥) → get_or t.turns j Waits ≡ turn j
    other-turn j z = get_or-set_other s.turns i j Answered Waits z

    over-apart : (j : ℕ) → get_or t.turns j Waits ≡ Over → j ≡ i → ⊥
    over-apart j e z = over-answered (get_or t.turns j Waits) e (ap (λ n. get_or t.turns n Waits) z ∙ its-turn)

    was-over : (j : ℕ) → get_or t.turns j Waits ≡ Over → turn j ≡ Over
    was-over j e = sym (other-turn j (over-apart j e)) ∙ e

    waits-apart : (j : ℕ) → get_or t.turns j Waits ≡ Waits → j ≡ i → ⊥
    waits-apart j w z = answered-waits (get_or t.turns j Waits) (ap (λ n. get_or t.turns n Waits) z ∙ its-turn) w

    was-waiting : (j : ℕ) → get_or t.turns j Waits ≡ Waits → turn j ≡ Waits
    was-waiting j w = sym (other-turn j (waits-apart j w)) ∙ w

    -- what it tells
    known-beside : (a port : ℕ) → get net.sources a ≡ Some (Output i port) → is_known (partial_at (de_early facts s.tag (kid i) (partial_of s i)) port) ≡ true
    known-beside a port g =
        u.fitting.answers i d (kid-there facts step before kids inputs d s now ls u i there) may.1 s.tag (partial_of s i)
        (λ q h f. ap (λ v. is_known v) (beside-known (delays_of s i) (inputs_of s i) (flags-long facts step before kids inputs d s now ls u i) q h f)) a port g

    prior : (q : ℕ) → q < length (delays_of s i) → get_or (delays_of s i) q false ≡ false → partial_at (places_at net.places i (val (suc (depth i)))) q ≡ Known (at (inputs_of s i) q)
    prior q h f =
        place-at facts step before kids inputs d s now ls u (suc (depth i)) i q (omega arith) h
        (λ k a p kl g src.
        let less : depth k < depth i = u.lawful.deeper i q k p src f in
        val-stays (de_early facts) (de_active facts) (de_turn facts step) s.tag u.keeps net kids inputs (suc (suc (depth k))) (suc (depth i)) (omega (arith, less)) a (at s.tokens a)
        (settles facts step before kids inputs d s now ls u k kl (ready-below facts step before kids inputs d s now ls u k (depth i) kl less least) a p g))

    -- at its channels is what it told
    told-tokens : (a port : ℕ) → get net.sources a ≡ Some (Output i port) → partial_at (de_early facts s.tag (kid i) (partial_of s i)) port ≡ Known (at t.tokens a)
    told-tokens a port g =
        let k = some-known (partial_at (de_early facts s.tag (kid i) (partial_of s i)) port) (known-beside a port g) in
        let same : partial_at answer port ≡ Known k.0 = early-same facts s.tag (kid i) (partial_of s i) port (known-beside a port g) ∙ k.1 in
        let gain : at t.tokens a ≡ k.0 = gained-same i (tokens_of answer) net.sources s.tokens a port u.channels g ∙ ap (λ xs. xs ++ at (tokens_of answer) port) (u.quiet i there waits-now a port g) ∙ tokens-known answer port k.0 same in
        k.1 ∙ ap (λ (xs : List T). Known xs) (sym gain)

    tells-all : (a port : ℕ) → get net.sources a ≡ Some (Output i port) → partial_at (val (suc (suc (depth i)))) a ≡ Known (at t.tokens a)
    tells-all a port g =
        val-output (de_early facts) (de_active facts) (de_turn facts step) s.tag u.keeps net kids inputs d u.fitting.children (suc (depth i)) a i port g there ∙
        early-gives (de_early facts) (de_active facts) (de_turn facts step) u.keeps s.tag (kid i) (partial_of s i) (places_at net.places i (val (suc (depth i)))) port
        (beside-below (delays_of s i) (inputs_of s i) (places_at net.places i (val (suc (depth i)))) (flags-long facts step before kids inputs d s now ls u i) (known-long facts step before kids inputs d s now ls u i (suc (depth i))) prior) (known-beside a port g) ∙
        told-tokens a port g

    -- what is beside the delays of children that are no deeper stays
    same-prompt : (j : ℕ) → depth j ≤ depth i → comes false (delays_of s j) (inputs_of t j) ≡ comes false (delays_of s j) (inputs_of s j)
    same-prompt j h = same-comes facts step before kids inputs d s now ls u i (tokens_of answer) j (not-deeper facts step before kids inputs d s now ls u i (tokens_of answer) j h)

    same-partial : (j : ℕ) → depth j ≤ depth i → partial_of t j ≡ partial_of s j
    same-partial j h = same-beside facts step before kids inputs d s now ls u i (tokens_of answer) j (not-deeper facts step before kids inputs d s now ls u i (tokens_of answer) j h)

    -- a child that has had its turn is no deeper
    no-deeper : (j : ℕ) → j < count → (get_or t.turns j Waits ≡ Waits → ⊥) → (j ≡ i) ⊎ (j ≡ i → ⊥) → depth j ≤ depth i
    no-deeper j m n (inl z) = subst (λ x. depth j ≤ depth x) z (omega arith)
    no-deeper j m n (inr z) = u.order j i m there (λ w. n (other-turn j z ∙ w)) (inl may.0.due)

    -- who is due now was so before, or is deeper
    due-apart : (k : ℕ) → is_due_child t k ≡ true → k ≡ i → ⊥
    due-apart k g z = clash (sym g ∙ ap (λ n. is_due_child t n) z ∙ ap (λ v. is_due_in v (is_due s.tag (get_or s.wakes i None) || comes false (delays_of s i) (inputs_of t i))) (get_or-set_same s.turns i Answered Over (omega (arith, there, u.flags))))

    due-now : (k : ℕ) → is_due_child t k ≡ true → (is_due_child s k ≡ true) ⊎ (depth i < depth k)
    due-now k g = ⊎_elim (λ (x : depth i < depth k). inr x) (λ (x : depth k ≤ depth i). inl (same x)) (below-or (depth i) (depth k))
      where
        same : depth k ≤ depth i → is_due_child s k ≡ true
        same h = sym (ap₂ (λ (v : Turn) (b : Bool). is_due_in v (is_due s.tag (get_or s.wakes k None) || b)) (get_or-set_other s.turns i k Answered Over (due-apart k g)) (same-prompt k h)) ∙ g

    told-one : (j : ℕ) → j < count → HasTold t j → (a port : ℕ) → get net.sources a ≡ Some (Output j port) → (j ≡ i) ⊎ (j ≡ i → ⊥) → partial_at (val (suc (suc (depth j)))) a ≡ Known (at t.tokens a)
    told-one j m h a port g (inl z) = subst (λ n. partial_at (val (suc (suc (depth n)))) a ≡ Known (at t.tokens a)) (sym z) (tells-all a port (g ∙ ap (λ n. Some (Output n port)) z))
    told-one j m h a port g (inr z) =
        u.told j m (λ w. h.0 (other-turn j z ∙ w), inr (ap (λ (Xs : List (Streams T)). length Xs) (open-left j))) a port g ∙ ap (λ (xs : List T). Known xs) (sym (gained-other i (tokens_of answer) net.sources s.tokens a j port u.channels g z))

    rests-one : (j : ℕ) → j < count → (get_or t.turns j Waits ≡ Over → ⊥) → (j ≡ i) ⊎ (j ≡ i → ⊥) → (get_or now j d ≡ kid j) × (log_at ls j ≡ silent) × (u.turned j ≡ []) × (get_or u.outs j [] ≡ [])
    rests-one j m n (inl z) = u.rests j m (λ e. over-waits (turn j) e (ap (λ x. turn x) z ∙ waits-now))
    rests-one j m n (inr z) = u.rests j m (λ e. n (other-turn j z ∙ e))

    answered-one : (j : ℕ) → j < count → (get_or t.turns j Waits ≡ Waits → ⊥) → early j ≡ true → (a port : ℕ) → get net.sources a ≡ Some (Output j port) → (j ≡ i) ⊎ (j ≡ i → ⊥) → partial_at (de_early facts s.tag (kid j) (partial_of t j)) port ≡ Known (at t.tokens a)
    answered-one j m n f a port g (inl z) =
        subst (λ x. partial_at (de_early facts s.tag (kid x) (partial_of t x)) port ≡ Known (at t.tokens a)) (sym z) (ap (λ vs. partial_at (de_early facts s.tag (kid i) vs) port) (same-partial i (omega arith)) ∙ told-tokens a port (g ∙ ap (λ x. Some (Output x port)) z))
    answered-one j m n f a port g (inr z) =
        ap (λ vs. partial_at (de_early facts s.tag (kid j) vs) port) (same-partial j (no-deeper j m n (inr z))) ∙ u.answered j m (λ w. n (other-turn j z ∙ w)) f a port g ∙
        ap (λ (xs : List T). Known xs) (sym (gained-other i (tokens_of answer) net.sources s.tokens a j port u.channels g z))

    prompted-one : (j : ℕ) → j < count → get_or t.turns j Waits ≡ Answered → (j ≡ i) ⊎ (j ≡ i → ⊥) → (early j ≡ true) × ((is_due s.tag (get_or s.wakes j None) || comes false (delays_of s j) (inputs_of t j)) ≡ true)
    prompted-one j m g (inl z) =
        subst (λ x. (early x ≡ true) × ((is_due s.tag (get_or s.wakes x None) || comes false (delays_of s x) (inputs_of t x)) ≡ true)) (sym z)
        (may.1, ap (λ b. is_due s.tag (get_or s.wakes i None) || b) (same-prompt i (omega arith)) ∙ sym (due-is facts step before kids inputs d s now ls u i there waits-now) ∙ may.0.due)
    prompted-one j m g (inr z) =
        let p = u.prompted j m (sym (other-turn j z) ∙ g) in
        (p.0, ap (λ b. is_due s.tag (get_or s.wakes j None) || b) (same-prompt j (no-deeper j m (λ w. answered-waits (get_or t.turns j Waits) g w) (inr z))) ∙ p.1)

    order-one : (j k : ℕ) → j < count → k < count → (get_or t.turns j Waits ≡ Waits → ⊥) → IsPending t k → depth j ≤ depth k
    order-one j k m l n (inl g) = by (due-now k g)
      where
        by : (is_due_child s k ≡ true) ⊎ (depth i < depth k) → depth j ≤ depth k
        by (inl x) = let a = no-deeper j m n (cases_eq j i) in let b = may.0.least k l x in omega (arith, a, b)
        by (inr x) = let a = no-deeper j m n (cases_eq j i) in omega (arith, a, x)
    order-one j k m l n (inr b) = let some = b.1 in absurd (omega (arith, some))

    late-one : (j k : ℕ) → j < count → k < count → get_or t.turns j Waits ≡ Over → early j ≡ true → IsPending t k → ⊥
    late-one j k m l e f p = u.late j i m there (was-over j e) f (inl may.0.due)

    is-heard : Course facts step before kids inputs d t now ls
    is-heard = record {
      keeps = u.keeps;
      lawful = u.lawful;
      fitting = u.fitting;
      plan = u.plan;
      wide = u.wide;
      channels = more-long facts step before kids inputs d s now ls u i (tokens_of answer);
      flags = length-set s.turns i Answered ∙ u.flags;
      wakes = u.wakes;
      amid = tt;
      arrived = λ a port g. gained-own i (tokens_of answer) net.sources s.tokens a port u.channels g ∙ u.arrived a port g;
      outs = u.outs;
      gave = u.gave;
      turned = u.turned;
      over = λ j m e. subst (λ left. HasTurned facts step s.tag (kid j) (places_at net.places j end) left (get_or now j d) (get_or u.outs j []) (log_at ls j) (u.turned j)) (open-left j) (u.over j m (was-over j e));
      soon = λ j m e f. u.soon j m (was-over j e) f;
      rests = λ j m n. rests-one j m n (cases_eq j i);
      beyond = u.beyond;
      told = λ j m h a port g. told-one j m h a port g (cases_eq j i);
      gives = λ j m e f a port g. gained-other i (tokens_of answer) net.sources s.tokens a j port u.channels g (over-apart j e) ∙ u.gives j m (was-over j e) f a port g;
      quiet = λ j m w a port g. gained-other i (tokens_of answer) net.sources s.tokens a j port u.channels g (waits-apart j w) ∙ u.quiet j m (was-waiting j w) a port g;
      answered = λ j m n f a port g. answered-one j m n f a port g (cases_eq j i);
      prompted = λ j m g. prompted-one j m g (cases_eq j i);
      order = order-one;
      late = late-one;
    }

    pub calls-hear : Course facts step before kids inputs d (after_heard i (facts.early s.tag (get_or now i d) (partial_of s i)) s) now ls
    calls-hear = subst (λ x. Course facts step before kids inputs d (after_heard i (facts.early s.tag x (partial_of s i)) s) now ls) (sym (u.rests i there (λ e. over-waits (turn i) e waits-now)).0) is-heard
