-- A child is asked to fire.
use Rattle.std.proofs.Common.{◌≡◌, ◌⊎◌, inl, inr, ⊎_elim, ℕ, suc, ◌<◌, ◌≤◌, List, [], ◌∷◌, Bool, true, false, ◌||◌, length, get_or, take, drop, Option, Some, None, if◌then◌else◌, refl, sym, ap, subst, ◌∙◌, arith, length-set}
use Rattle.std.proofs.lemmas.List.{get_or-set_same, get_or-set_other}
use Rattle.std.proofs.lemmas.Bool.{cases_eq}
use Rattle.pt_meaning.specs.Tag.{Tag, is_due}
use Rattle.pt_meaning.specs.Streams.{Streams, at, get, any_present}
use Rattle.pt_meaning.specs.Log.{Log, silent}
use Rattle.pt_meaning.specs.Machine.{Stepping, Facts, Partial, Known, partial_at}
use Rattle.pt_meaning.specs.Net.{Net, Output}
use Rattle.pt_meaning.specs.Valuation.{known}
use Rattle.pt_meaning.specs.De.{de_early, de_active}
use Rattle.pt_laws.specs.TickRuns.{places_at}
use Rattle.pt_laws.specs.LogsOfRuns.{log_at}
use Rattle.pt_laws.specs.Explained.{Turned}
use Rattle.pt_laws.proofs.TickLaws.{known-same}
use Rattle.pt_laws.proofs.TickLaws.{KnownBelow-take, KnownBelow-drop}
use Rattle.pt_meaning.specs.Running.{total}
use Rattle.pt_meaning.specs.Laws.{KnownBelow}
use Rattle.pt_de_laws.specs.State.{DeState, Turn, Waits, Answered, Over, Stage, Open, Asked, Between, comes, rows_for, rows_left, inputs_of, delays_of, is_due_in, is_last_in, is_due_child, depth_of, partial_of, IsFirst, IsLast, MayFire, asked_with, in_stage}
use Rattle.pt_de_laws.specs.Chain.{HasTold, HasTurned, IsAmid, IsBusy, IsPending, Course, after_rounds, decided}
use Rattle.pt_de_laws.proofs.PlaceLaws.{get-or-any, same-test, other-test}
use Rattle.pt_de_laws.proofs.RowLaws.{some-row}
use Rattle.pt_de_laws.proofs.EarlyLaws.{some-present, some-delay}
use Rattle.pt_de_laws.proofs.ReadyLaws.{clash, answered-waits, over-waits, over-answered, Ready, due-is, due-waits, wake-is, kid-there, ready-any, settles, inputs-decided, inputs-soon, places-grow, early-nothing}

or-swap : (a b p : Bool) → (a || b) ≡ true → (b ≡ true → p ≡ true) → (p || a) ≡ true
or-swap true b true e h = refl
or-swap true b false e h = refl
or-swap false b p e h = rw (h e) refl

or-first : (p a : Bool) → p ≡ true → (p || a) ≡ true
or-first true a e = refl
or-first false a e = clash (sym e)

-- some rows of other stages
pub left-same : {T : Type 0} (i : ℕ) (rows : List (Streams T)) → rows_left (Asked i rows) i ≡ rows
left-same i rows = ap (λ b. if b then rows else []) (same-test i)

pub left-other : {T : Type 0} (i j : ℕ) (rows : List (Streams T)) → (j ≡ i → ⊥) → rows_left (Asked i rows) j ≡ []
left-other i j rows z = ap (λ b. if b then rows else []) (other-test i j (λ e. z (sym e)))

-- the same turn, told otherwise
pub turned-as : {T S : Type 0} (facts : Facts T S) (step : Stepping T S) (tag : Tag) (c : S) (vs : List (Partial T)) (left left' : List (Streams T)) (z z' : S) (out out' : Streams T) (l l' : Log T) (ts ts' : List (Turned T)) → left ≡ left' → z ≡ z' → out ≡ out' → l ≡ l' → ts ≡ ts' →
    HasTurned facts step tag c vs left z out l ts → HasTurned facts step tag c vs left' z' out' l' ts'
turned-as facts step tag c vs left left' z z' out out' l l' ts ts' e1 e2 e3 e4 e5 h =
    subst (λ x. HasTurned facts step tag c vs x z' out' l' ts') e1
    (subst (λ x. HasTurned facts step tag c vs left x out' l' ts') e2
    (subst (λ x. HasTurned facts step tag c vs left z x l' ts') e3
    (subst (λ x. HasTurned facts step tag c vs left z out x ts') e4
    (subst (λ x. HasTurned facts step tag c vs left z out l x) e5 h))))

module _ {T S : Type 0} (facts : Facts T S) (step : Stepping T S) (before : DeState T) (kids : List S) (inputs : Streams T) (d : S) (s : DeState T) (now : List S) (ls : List (Log T)) (u : Course facts step before kids inputs d s now ls) where
  abbrev net : Net
  net = s.plan.net

  abbrev count : ℕ
  count = length net.places

  abbrev kid : ℕ → S
  kid i = get_or kids i d

  abbrev turn : ℕ → Turn
  turn i = get_or s.turns i Waits

  abbrev depth : ℕ → ℕ
  depth i = depth_of s i

  abbrev val : ℕ → List (Partial T)
  val k = after_rounds facts step s kids inputs k

  abbrev end : List (Partial T)
  end = decided facts step s kids inputs

  abbrev early : ℕ → Bool
  early i = get_or s.roles.early i false

  -- what holds of a child that may be asked to fire
  record Chosen (i : ℕ) : Type 0 where
    there : i < count
    fresh : turn i ≡ Over → ⊥
    on : known (places_at net.places i end) ≡ Some (inputs_of s i)
    soon : early i ≡ false → places_at net.places i end ≡ places_at net.places i (val (suc (depth i)))
    active : de_active facts s.tag (kid i) (inputs_of s i) ≡ true
    told : early i ≡ true → (c port : ℕ) → get net.sources c ≡ Some (Output i port) → partial_at (val (suc (suc (depth i)))) c ≡ Known (at s.tokens c)
    answers : early i ≡ true → (c port : ℕ) → get net.sources c ≡ Some (Output i port) → partial_at (de_early facts s.tag (kid i) (partial_of s i)) port ≡ Known (at s.tokens c)
    quiet : early i ≡ false → (c port : ℕ) → get net.sources c ≡ Some (Output i port) → at s.tokens c ≡ []
    after : early i ≡ false → (j : ℕ) → j < count → (turn j ≡ Waits → ⊥) → depth j ≤ depth i
    ahead : early i ≡ false → (k : ℕ) → k < count → is_due_child s k ≡ true → depth i ≤ depth k
    last : early i ≡ true → (k : ℕ) → k < count → is_due_child s k ≡ true → ⊥
    first : early i ≡ false → (j : ℕ) → j < count → turn j ≡ Over → early j ≡ true → ⊥

  -- where what comes next is open no child is busy
  not-busy : s.stage ≡ Open → (k : ℕ) → IsBusy s k → ⊥
  not-busy e k b = let none : length (rows_left s.stage k) ≡ 0 = ap (λ (st : Stage T). length (rows_left st k)) e in let some = b.1 in absurd (omega (arith, none, some))

  places-below : (i : ℕ) → (V W : List (Partial T)) → KnownBelow V W → KnownBelow (places_at net.places i V) (places_at net.places i W)
  places-below i V W h = KnownBelow-take (get_or net.places i 0) (drop (total (take i net.places)) V) (drop (total (take i net.places)) W) (KnownBelow-drop (total (take i net.places)) V W h)

  first-chosen : s.stage ≡ Open → (i : ℕ) → IsFirst s i → early i ≡ false → Chosen i
  first-chosen o i may f =
      let w : turn i ≡ Waits = due-waits facts step before kids inputs d s now ls u i may.there may.due in
      let least : (p : ℕ) → p < count → IsPending s p → depth i ≤ depth p = λ p l q. ⊎_elim (λ e. may.least p l e) (λ b. absurd (not-busy o p b)) q in
      let at_depth = inputs-soon facts step before kids inputs d s now ls u i may.there f least in
      let same : places_at net.places i end ≡ places_at net.places i (val (suc (depth i))) = known-same (places_at net.places i (val (suc (depth i)))) (places_at net.places i end) (inputs_of s i) (places-below i (val (suc (depth i))) end (places-grow facts step before kids inputs d s now ls u i may.there)) at_depth in
      let fresh : turn i ≡ Over → ⊥ = λ e. over-waits (turn i) e w in
      record {
        there = may.there;
        fresh = fresh;
        on = ap (λ vs. known vs) same ∙ at_depth;
        soon = λ g. same;
        active = or-swap (is_due s.tag (facts.next (kid i))) (comes false (delays_of s i) (inputs_of s i)) (any_present (inputs_of s i)) (ap (λ (x : Option Tag). is_due s.tag x || comes false (delays_of s i) (inputs_of s i)) (sym (wake-is facts step before kids inputs d s now ls u i may.there fresh)) ∙ sym (due-is facts step before kids inputs d s now ls u i may.there w) ∙ may.due) (λ e. some-present false (delays_of s i) (inputs_of s i) e);
        told = λ g. clash (sym g ∙ f);
        answers = λ g. clash (sym g ∙ f);
        quiet = λ g c port e. u.quiet i may.there w c port e;
        after = λ g j l z. u.order j i l may.there z (inl may.due);
        ahead = λ g k l e. may.least k l e;
        last = λ g. clash (sym g ∙ f);
        first = λ g j l z q. u.late j i l may.there z q (inl may.due);
      }

  last-early : (i : ℕ) → IsLast s i → early i ≡ true
  last-early i may = by (turn i) refl
    where
      last-is : (t : Turn) → turn i ≡ t → is_last_in t (comes true (delays_of s i) (inputs_of s i)) ≡ true
      last-is t e = ap (λ v. is_last_in v (comes true (delays_of s i) (inputs_of s i))) (sym e ∙ get-or-any s.turns i Waits Over (omega (arith, may.there, u.flags))) ∙ may.last

      by : (t : Turn) → turn i ≡ t → early i ≡ true
      by Waits e = let q = some-delay (delays_of s i) (inputs_of s i) (last-is Waits e) in u.lawful.delays i q.0 q.1
      by Answered e = (u.prompted i may.there e).0
      by Over e = clash (sym (last-is Over e))

  last-chosen : s.stage ≡ Open → (i : ℕ) → IsLast s i → Chosen i
  last-chosen o i may =
      let f : early i ≡ true = last-early i may in
      let none : (p : ℕ) → p < count → IsPending s p → ⊥ = λ p l q. ⊎_elim (λ (e : is_due_child s p ≡ true). clash (sym e ∙ may.none p l)) (λ b. not-busy o p b) q in
      let ready : (k : ℕ) → k < count → Ready facts step before kids inputs d s now ls u k = ready-any facts step before kids inputs d s now ls u none in
      record {
        there = may.there;
        fresh = fresh;
        on = inputs-decided facts step before kids inputs d s now ls u i (λ q k port l e. ready k l);
        soon = λ g. clash (sym f ∙ g);
        active = acts (turn i) refl;
        told = λ g c port e. settles facts step before kids inputs d s now ls u i may.there (ready i may.there) c port e;
        answers = λ g c port e. told-early f (turn i) refl c port e;
        quiet = λ g. clash (sym f ∙ g);
        after = λ g. clash (sym f ∙ g);
        ahead = λ g. clash (sym f ∙ g);
        last = λ g k l e. clash (sym e ∙ may.none k l);
        first = λ g. clash (sym f ∙ g);
      }
    where
      last-is : (t : Turn) → turn i ≡ t → is_last_in t (comes true (delays_of s i) (inputs_of s i)) ≡ true
      last-is t e = ap (λ v. is_last_in v (comes true (delays_of s i) (inputs_of s i))) (sym e ∙ get-or-any s.turns i Waits Over (omega (arith, may.there, u.flags))) ∙ may.last

      fresh : turn i ≡ Over → ⊥
      fresh e = clash (sym (last-is Over e))

      acts : (t : Turn) → turn i ≡ t → de_active facts s.tag (kid i) (inputs_of s i) ≡ true
      acts Waits e = or-first (any_present (inputs_of s i)) (is_due s.tag (facts.next (kid i))) (some-present true (delays_of s i) (inputs_of s i) (last-is Waits e))
      acts Answered e =
          or-swap (is_due s.tag (facts.next (kid i))) (comes false (delays_of s i) (inputs_of s i)) (any_present (inputs_of s i)) (ap (λ (x : Option Tag). is_due s.tag x || comes false (delays_of s i) (inputs_of s i)) (sym (wake-is facts step before kids inputs d s now ls u i may.there fresh)) ∙ (u.prompted i may.there e).1)
          (λ g. some-present false (delays_of s i) (inputs_of s i) g)
      acts Over e = absurd (fresh e)

      told-early : early i ≡ true → (t : Turn) → turn i ≡ t → (c port : ℕ) → get net.sources c ≡ Some (Output i port) → partial_at (de_early facts s.tag (kid i) (partial_of s i)) port ≡ Known (at s.tokens c)
      told-early f Waits w c port e = early-nothing facts step before kids inputs d s now ls u i may.there w (may.none i may.there) f c port e ∙ ap (λ (xs : List T). Known xs) (sym (u.quiet i may.there w c port e))
      told-early f Answered w c port e = u.answered i may.there (λ v. answered-waits (turn i) w v) f c port e
      told-early f Over w c port e = absurd (fresh w)

  chosen : s.stage ≡ Open → (i : ℕ) → MayFire s i → Chosen i
  chosen o i (inl may) = first-chosen o i may.0 may.1
  chosen o i (inr may) = last-chosen o i may

  -- it is asked
  module _ (o : s.stage ≡ Open) (i : ℕ) (c : Chosen i) where
    abbrev rows : List (Streams T)
    rows = rows_for (get_or s.roles.whole i false) (inputs_of s i)

    abbrev t : DeState T
    t = asked_with s.tokens i s

    some-left : 0 < length rows
    some-left = let r = some-row (get_or s.roles.whole i false) (inputs_of s i) in subst (λ (Xs : List (Streams T)). 0 < length Xs) (sym r.2) (omega arith)

    open-left : (j : ℕ) → rows_left s.stage j ≡ []
    open-left j = ap (λ (st : Stage T). rows_left st j) o

    its-turn : get_or t.turns i Waits ≡ Over
    its-turn = get_or-set_same s.turns i Over Waits (omega (arith, c.there, u.flags))

    other-turn : (j : ℕ) → (j ≡ i → ⊥) → get_or t.turns j Waits ≡ turn j
    other-turn j z = get_or-set_other s.turns i j Over Waits z

    -- who is due then was so before, and isn't the child asked
    due-before : (j : ℕ) → is_due_child t j ≡ true → (j ≡ i) ⊎ (j ≡ i → ⊥) → (j ≡ i → ⊥) × (is_due_child s j ≡ true)
    due-before j e (inl z) = clash (sym e ∙ ap (λ n. is_due_child t n) z ∙ ap (λ v. is_due_in v (is_due s.tag (get_or s.wakes i None) || comes false (delays_of s i) (inputs_of s i))) (get_or-set_same s.turns i Over Over (omega (arith, c.there, u.flags))))
    due-before j e (inr z) = (z, sym (ap (λ v. is_due_in v (is_due s.tag (get_or s.wakes j None) || comes false (delays_of s j) (inputs_of s j))) (get_or-set_other s.turns i j Over Over z)) ∙ e)

    busy-is : (j : ℕ) → IsBusy t j → (j ≡ i) ⊎ (j ≡ i → ⊥) → j ≡ i
    busy-is j b (inl z) = z
    busy-is j b (inr z) = let none : length (rows_left t.stage j) ≡ 0 = ap (λ (Xs : List (Streams T)). length Xs) (left-other i j rows z) in let some = b.1 in absurd (omega (arith, none, some))

    begun-turn : HasTurned facts step s.tag (kid i) (places_at net.places i end) rows (kid i) [] silent []
    begun-turn = record {
      inputs = inputs_of s i;
      on = c.on;
      active = c.active;
      done = [];
      rows = ap (λ b. rows_for b (inputs_of s i)) (u.fitting.whole i d (kid-there facts step before kids inputs d s now ls u i c.there));
      fired = refl;
      chain = (refl, refl);
      took = λ q. refl;
      gave = λ p. refl;
    }

    over-one : (j : ℕ) → j < count → get_or t.turns j Waits ≡ Over → (j ≡ i) ⊎ (j ≡ i → ⊥) → HasTurned facts step s.tag (kid j) (places_at net.places j end) (rows_left t.stage j) (get_or now j d) (get_or u.outs j []) (log_at ls j) (u.turned j)
    over-one j l e (inl z) =
        let r = u.rests i c.there c.fresh in
        subst (λ n. HasTurned facts step s.tag (kid n) (places_at net.places n end) (rows_left t.stage n) (get_or now n d) (get_or u.outs n []) (log_at ls n) (u.turned n)) (sym z)
        (turned-as facts step s.tag (kid i) (places_at net.places i end) rows (rows_left t.stage i) (kid i) (get_or now i d) [] (get_or u.outs i []) silent (log_at ls i) [] (u.turned i) (sym (left-same i rows)) (sym r.0) (sym r.3) (sym r.1) (sym r.2) begun-turn)
    over-one j l e (inr z) =
        subst (λ left. HasTurned facts step s.tag (kid j) (places_at net.places j end) left (get_or now j d) (get_or u.outs j []) (log_at ls j) (u.turned j)) (open-left j ∙ sym (left-other i j rows z)) (u.over j l (sym (other-turn j z) ∙ e))

    soon-one : (j : ℕ) → j < count → get_or t.turns j Waits ≡ Over → early j ≡ false → (j ≡ i) ⊎ (j ≡ i → ⊥) → places_at net.places j end ≡ places_at net.places j (val (suc (depth j)))
    soon-one j l e f (inl z) = subst (λ n. places_at net.places n end ≡ places_at net.places n (val (suc (depth n)))) (sym z) (c.soon (ap (λ n. early n) (sym z) ∙ f))
    soon-one j l e f (inr z) = u.soon j l (sym (other-turn j z) ∙ e) f

    rests-one : (j : ℕ) → j < count → (get_or t.turns j Waits ≡ Over → ⊥) → (j ≡ i) ⊎ (j ≡ i → ⊥) → (get_or now j d ≡ kid j) × (log_at ls j ≡ silent) × (u.turned j ≡ []) × (get_or u.outs j [] ≡ [])
    rests-one j l n (inl z) = absurd (n (ap (λ m. get_or t.turns m Waits) z ∙ its-turn))
    rests-one j l n (inr z) = u.rests j l (λ e. n (other-turn j z ∙ e))

    told-one : (j : ℕ) → j < count → HasTold t j → (a port : ℕ) → get net.sources a ≡ Some (Output j port) → (j ≡ i) ⊎ (j ≡ i → ⊥) → partial_at (val (suc (suc (depth j)))) a ≡ Known (at s.tokens a)
    told-one j l h a port e (inl z) = subst (λ n. partial_at (val (suc (suc (depth n)))) a ≡ Known (at s.tokens a)) (sym z) (c.told (⊎_elim (λ (f : early j ≡ true). ap (λ n. early n) (sym z) ∙ f) (λ g. left-none g) h.1) a port (e ∙ ap (λ n. Some (Output n port)) z))
      where
        left-none : length (rows_left t.stage j) ≡ 0 → early i ≡ true
        left-none g = let all : length (rows_left t.stage j) ≡ length rows = ap (λ n. length (rows_left t.stage n)) z ∙ ap (λ (Xs : List (Streams T)). length Xs) (left-same i rows) in let some = some-left in absurd (omega (arith, g, all, some))
    told-one j l h a port e (inr z) = u.told j l (λ w. h.0 (other-turn j z ∙ w), inr (ap (λ (Xs : List (Streams T)). length Xs) (open-left j))) a port e

    gives-one : (j : ℕ) → j < count → get_or t.turns j Waits ≡ Over → early j ≡ false → (a port : ℕ) → get net.sources a ≡ Some (Output j port) → (j ≡ i) ⊎ (j ≡ i → ⊥) → at s.tokens a ≡ at (get_or u.outs j []) port
    gives-one j l e f a port g (inl z) =
        c.quiet (ap (λ n. early n) (sym z) ∙ f) a port (g ∙ ap (λ n. Some (Output n port)) z) ∙ sym (ap (λ (out : Streams T). at out port) (ap (λ n. get_or u.outs n []) z ∙ (u.rests i c.there c.fresh).3))
    gives-one j l e f a port g (inr z) = u.gives j l (sym (other-turn j z) ∙ e) f a port g

    quiet-one : (j : ℕ) → j < count → get_or t.turns j Waits ≡ Waits → (a port : ℕ) → get net.sources a ≡ Some (Output j port) → (j ≡ i) ⊎ (j ≡ i → ⊥) → at s.tokens a ≡ []
    quiet-one j l w a port e (inl z) = absurd (over-waits (get_or t.turns j Waits) (ap (λ n. get_or t.turns n Waits) z ∙ its-turn) w)
    quiet-one j l w a port e (inr z) = u.quiet j l (sym (other-turn j z) ∙ w) a port e

    answered-one : (j : ℕ) → j < count → (get_or t.turns j Waits ≡ Waits → ⊥) → early j ≡ true → (a port : ℕ) → get net.sources a ≡ Some (Output j port) → (j ≡ i) ⊎ (j ≡ i → ⊥) → partial_at (de_early facts s.tag (kid j) (partial_of s j)) port ≡ Known (at s.tokens a)
    answered-one j l n f a port e (inl z) = subst (λ m. partial_at (de_early facts s.tag (kid m) (partial_of s m)) port ≡ Known (at s.tokens a)) (sym z) (c.answers (ap (λ m. early m) (sym z) ∙ f) a port (e ∙ ap (λ n. Some (Output n port)) z))
    answered-one j l n f a port e (inr z) = u.answered j l (λ w. n (other-turn j z ∙ w)) f a port e

    prompted-one : (j : ℕ) → j < count → get_or t.turns j Waits ≡ Answered → (j ≡ i) ⊎ (j ≡ i → ⊥) → (early j ≡ true) × ((is_due s.tag (get_or s.wakes j None) || comes false (delays_of s j) (inputs_of s j)) ≡ true)
    prompted-one j l a (inl z) = absurd (over-answered (get_or t.turns j Waits) (ap (λ n. get_or t.turns n Waits) z ∙ its-turn) a)
    prompted-one j l a (inr z) = u.prompted j l (sym (other-turn j z) ∙ a)

    order-one : (j k : ℕ) → j < count → k < count → (get_or t.turns j Waits ≡ Waits → ⊥) → IsPending t k → (j ≡ i) ⊎ (j ≡ i → ⊥) → depth j ≤ depth k
    order-one j k l m n (inl e) (inl z) = by (early i) refl
      where
        due : is_due_child s k ≡ true
        due = (due-before k e (cases_eq k i)).1

        by : (b : Bool) → early i ≡ b → depth j ≤ depth k
        by true f = absurd (c.last f k m due)
        by false f = subst (λ x. depth x ≤ depth k) (sym z) (c.ahead f k m due)
    order-one j k l m n (inl e) (inr z) = u.order j k l m (λ w. n (other-turn j z ∙ w)) (inl (due-before k e (cases_eq k i)).1)
    order-one j k l m n (inr b) (inl z) = let same : k ≡ i = busy-is k b (cases_eq k i) in subst (λ x. depth j ≤ depth x) (z ∙ sym same) (omega arith)
    order-one j k l m n (inr b) (inr z) = let same : k ≡ i = busy-is k b (cases_eq k i) in subst (λ x. depth j ≤ depth x) (sym same) (c.after (ap (λ x. early x) (sym same) ∙ b.0) j l (λ w. n (other-turn j z ∙ w)))

    late-one : (j k : ℕ) → j < count → k < count → get_or t.turns j Waits ≡ Over → early j ≡ true → IsPending t k → (j ≡ i) ⊎ (j ≡ i → ⊥) → ⊥
    late-one j k l m e f (inl g) (inl z) = c.last (ap (λ x. early x) (sym z) ∙ f) k m (due-before k g (cases_eq k i)).1
    late-one j k l m e f (inl g) (inr z) = u.late j k l m (sym (other-turn j z) ∙ e) f (inl (due-before k g (cases_eq k i)).1)
    late-one j k l m e f (inr b) (inl z) = let same : k ≡ i = busy-is k b (cases_eq k i) in clash (sym f ∙ ap (λ x. early x) (z ∙ sym same) ∙ b.0)
    late-one j k l m e f (inr b) (inr z) = let same : k ≡ i = busy-is k b (cases_eq k i) in c.first (ap (λ x. early x) (sym same) ∙ b.0) j l (sym (other-turn j z) ∙ e) f

    is-asked : Course facts step before kids inputs d (asked_with s.tokens i s) now ls
    is-asked = record {
      keeps = u.keeps;
      lawful = u.lawful;
      fitting = u.fitting;
      plan = u.plan;
      wide = u.wide;
      channels = u.channels;
      flags = length-set s.turns i Over ∙ u.flags;
      wakes = u.wakes;
      amid = (c.there, its-turn, some-left);
      arrived = u.arrived;
      outs = u.outs;
      gave = u.gave;
      turned = u.turned;
      over = λ j l e. over-one j l e (cases_eq j i);
      soon = λ j l e f. soon-one j l e f (cases_eq j i);
      rests = λ j l n. rests-one j l n (cases_eq j i);
      beyond = u.beyond;
      told = λ j l h a port e. told-one j l h a port e (cases_eq j i);
      gives = λ j l e f a port g. gives-one j l e f a port g (cases_eq j i);
      quiet = λ j l w a port e. quiet-one j l w a port e (cases_eq j i);
      answered = λ j l n f a port e. answered-one j l n f a port e (cases_eq j i);
      prompted = λ j l a. prompted-one j l a (cases_eq j i);
      order = λ j k l m n p. order-one j k l m n p (cases_eq j i);
      late = λ j k l m e f p. late-one j k l m e f p (cases_eq j i);
    }

  -- the stage alone changes
  restaged : (st : Stage T) → IsAmid count s.turns st → ((j : ℕ) → rows_left st j ≡ rows_left s.stage j) → Course facts step before kids inputs d (in_stage st s) now ls
  restaged st a same = record {
    keeps = u.keeps;
    lawful = u.lawful;
    fitting = u.fitting;
    plan = u.plan;
    wide = u.wide;
    channels = u.channels;
    flags = u.flags;
    wakes = u.wakes;
    amid = a;
    arrived = u.arrived;
    outs = u.outs;
    gave = u.gave;
    turned = u.turned;
    over = λ j l e. subst (λ left. HasTurned facts step s.tag (kid j) (places_at net.places j end) left (get_or now j d) (get_or u.outs j []) (log_at ls j) (u.turned j)) (sym (same j)) (u.over j l e);
    soon = u.soon;
    rests = u.rests;
    beyond = u.beyond;
    told = λ j l h a port e. u.told j l (h.0, ⊎_elim (λ f. inl f) (λ g. inr (ap (λ (Xs : List (Streams T)). length Xs) (sym (same j)) ∙ g)) h.1) a port e;
    gives = u.gives;
    quiet = u.quiet;
    answered = u.answered;
    prompted = u.prompted;
    order = λ j k l m n p. u.order j k l m n (pending k p);
    late = λ j k l m e f p. u.late j k l m e f (pending k p);
  }
    where
      pending : (k : ℕ) → IsPending (in_stage st s) k → IsPending s k
      pending k (inl e) = inl e
      pending k (inr b) = inr (b.0, subst (λ (Xs : List (Streams T)). 0 < length Xs) (same k) b.1)

  -- a child that has a row at least
  some-of : (rows : List (Streams T)) → 0 < length rows → (X : Streams T) × (Xs : List (Streams T)) × (rows ≡ X ∷ Xs)
  some-of [] h = absurd (omega (arith, h))
  some-of (X ∷ Xs) h = (X, Xs, refl)

  -- a child that may be asked hasn't been
  pub not-over : s.stage ≡ Open → (i : ℕ) → MayFire s i → turn i ≡ Over → ⊥
  not-over o i may = (chosen o i may).fresh

  pub open-asked : (o : s.stage ≡ Open) (i : ℕ) → MayFire s i → Course facts step before kids inputs d (asked_with s.tokens i s) now ls
  open-asked o i may = is-asked o i (chosen o i may)

  -- the child that has rows left is asked again
  pub next-asked : (i : ℕ) (left : List (Streams T)) → s.stage ≡ Between i left → Course facts step before kids inputs d (in_stage (Asked i left) s) now ls × ((X : Streams T) × (Xs : List (Streams T)) × (left ≡ X ∷ Xs))
  next-asked i left o =
      let amid : IsAmid count s.turns (Between i left) = subst (λ (st : Stage T). IsAmid count s.turns st) o u.amid in
      (restaged (Asked i left) amid (λ j. sym (ap (λ (st : Stage T). rows_left st j) o)), some-of left amid.2)
