-- The inputs of a child leave their channels as it is asked to fire, and nobody misses them.
use Rattle.std.proofs.Common.{◌≡◌, ◌⊎◌, inl, inr, ℕ, zero, suc, ◌+◌, ◌<◌, ◌≤◌, List, [], ◌∷◌, Bool, true, false, ◌||◌, length, get_or, set, map, take, drop, None, refl, sym, ap, ap₂, subst, ◌∙◌, arith}
use Rattle.std.proofs.lemmas.List.{get_or-set_same, get_or-set_other}
use Rattle.std.proofs.lemmas.Bool.{cases_eq}
use Rattle.pt_meaning.specs.Tag.{Tag, is_due}
use Rattle.pt_meaning.specs.Streams.{Streams}
use Rattle.pt_meaning.specs.Log.{Log, log_then, log_below, own}
use Rattle.pt_meaning.specs.Machine.{Stepping, Facts, Partial, Done}
use Rattle.pt_meaning.specs.Net.{Source}
use Rattle.pt_meaning.specs.Valuation.{TickPlan, tokens_of}
use Rattle.pt_meaning.specs.Running.{total}
use Rattle.pt_meaning.specs.De.{de_early, de_active, de_turn}
use Rattle.pt_meaning.specs.Laws.{KeepsEarly}
use Rattle.pt_laws.specs.TickRuns.{places_at}
use Rattle.pt_laws.specs.LogsOfRuns.{silents, logs_then}
use Rattle.pt_de_laws.specs.State.{DeState, Turn, Waits, Answered, Over, Stage, Idle, Open, Listens, Asked, Between, Closed, comes, rows_for, inputs_of, delays_of, is_due_in, is_last_in, is_due_child, is_last_child, IsFirst, MayFire, MayAnswer, IsOver, beside_delays, partial_of, emptied_from, emptied, gained, gained_by, given_by, begun, asked, asked_on, after_told, after_heard}
use Rattle.pt_de_laws.specs.Lawful.{IsLawful}
use Rattle.pt_de_laws.specs.Chain.{IsFor, Course, Underway, IsLeft, with_tokens, AsksFor, CallsAreDe}
use Rattle.pt_de_laws.proofs.PlaceLaws.{get-or-any}
use Rattle.pt_de_laws.proofs.RowLaws.{some-row}
use Rattle.pt_de_laws.proofs.ReadyLaws.{over-waits, over-answered, due-waits}
use Rattle.pt_de_laws.proofs.AskLaws.{not-over, open-asked, next-asked}
use Rattle.pt_de_laws.proofs.ToldLaws.{calls-go-on}
use Rattle.pt_de_laws.proofs.HeardLaws.{calls-hear, calls-learn}
use Rattle.pt_de_laws.proofs.ChainLaws.{calls-begin, calls-end, calls-off, calls-off-within, calls-stick}

-- places of a child are behind those of earlier ones
total-before : (ns : List ℕ) (i j : ℕ) → i < j → total (take i ns) + get_or ns i 0 ≤ total (take j ns)
total-before ns i zero h = absurd (omega (arith, h))
total-before [] zero (suc j) h = omega arith
total-before [] (suc i) (suc j) h = omega arith
total-before (n ∷ ns) zero (suc j) h = omega arith
total-before (n ∷ ns) (suc i) (suc j) h = let r = total-before ns i j (omega (arith, h)) in omega (arith, r)

total-all : (ns : List ℕ) (i : ℕ) → total (take i ns) + get_or ns i 0 ≤ total ns
total-all [] zero = omega arith
total-all [] (suc i) = omega arith
total-all (n ∷ ns) zero = omega arith
total-all (n ∷ ns) (suc i) = let r = total-all ns i in omega (arith, r)

nat-order : (i j : ℕ) → (j ≡ i → ⊥) → i < j ⊎ (j < i)
nat-order zero zero z = absurd (z refl)
nat-order zero (suc j) z = inl (omega arith)
nat-order (suc i) zero z = inr (omega arith)
nat-order (suc i) (suc j) z = up (nat-order i j (λ e. z (ap (λ n. suc n) e)))
  where
    up : i < j ⊎ (j < i) → suc i < suc j ⊎ (suc j < suc i)
    up (inl h) = inl (omega (arith, h))
    up (inr h) = inr (omega (arith, h))

module _ {T : Type 0} where
  -- channels that were emptied
  emptied-long : (o n : ℕ) (X : Streams T) → length (emptied_from o n X) ≡ length X
  emptied-long zero zero X = refl
  emptied-long zero (suc n) [] = refl
  emptied-long zero (suc n) (xs ∷ X) = ap (λ m. suc m) (emptied-long zero n X)
  emptied-long (suc o) n [] = refl
  emptied-long (suc o) n (xs ∷ X) = ap (λ m. suc m) (emptied-long o n X)

  emptied-behind : (o n m : ℕ) (X : Streams T) → o + n ≤ m → drop m (emptied_from o n X) ≡ drop m X
  emptied-behind zero zero m X h = refl
  emptied-behind zero (suc n) m [] h = refl
  emptied-behind zero (suc n) zero (xs ∷ X) h = absurd (omega (arith, h))
  emptied-behind zero (suc n) (suc m) (xs ∷ X) h = emptied-behind zero n m X (omega (arith, h))
  emptied-behind (suc o) n m [] h = refl
  emptied-behind (suc o) n zero (xs ∷ X) h = absurd (omega (arith, h))
  emptied-behind (suc o) n (suc m) (xs ∷ X) h = emptied-behind o n m X (omega (arith, h))

  emptied-before : (o n a b : ℕ) (X : Streams T) → a + b ≤ o → take b (drop a (emptied_from o n X)) ≡ take b (drop a X)
  emptied-before zero n zero zero X h = refl
  emptied-before zero n zero (suc b) X h = absurd (omega (arith, h))
  emptied-before zero n (suc a) b X h = absurd (omega (arith, h))
  emptied-before (suc o) n a b [] h = refl
  emptied-before (suc o) n zero zero (xs ∷ X) h = refl
  emptied-before (suc o) n zero (suc b) (xs ∷ X) h = ap (λ (Y : Streams T). xs ∷ Y) (emptied-before o n zero b X (omega (arith, h)))
  emptied-before (suc o) n (suc a) b (xs ∷ X) h = emptied-before o n a b X (omega (arith, h))

  emptied-other : (ns : List ℕ) (i j : ℕ) (X : Streams T) → (j ≡ i → ⊥) → places_at ns j (emptied ns i X) ≡ places_at ns j X
  emptied-other ns i j X z = by (nat-order i j z)
    where
      by : i < j ⊎ (j < i) → places_at ns j (emptied ns i X) ≡ places_at ns j X
      by (inl h) = ap (λ (Y : Streams T). take (get_or ns j 0) Y) (emptied-behind (total (take i ns)) (get_or ns i 0) (total (take j ns)) X (total-before ns i j h))
      by (inr h) = emptied-before (total (take i ns)) (get_or ns i 0) (total (take j ns)) (get_or ns j 0) X (total-before ns j i h)

  emptied-outlets : (ns : List ℕ) (i : ℕ) (X : Streams T) → drop (total ns) (emptied ns i X) ≡ drop (total ns) X
  emptied-outlets ns i X = emptied-behind (total (take i ns)) (get_or ns i 0) (total ns) X (total-all ns i)

  -- channels that gained, in parts
  module _ (i : ℕ) (out : Streams T) where
    gained-none : (cs : List Source) → gained i out cs [] ≡ []
    gained-none [] = refl
    gained-none (c ∷ cs) = refl

    gained-drop : (n : ℕ) (cs : List Source) (X : Streams T) → drop n (gained i out cs X) ≡ gained i out (drop n cs) (drop n X)
    gained-drop zero cs X = refl
    gained-drop (suc n) [] X = refl
    gained-drop (suc n) (c ∷ cs) [] = sym (gained-none (drop n cs))
    gained-drop (suc n) (c ∷ cs) (xs ∷ X) = gained-drop n cs X

    gained-take : (n : ℕ) (cs : List Source) (X : Streams T) → take n (gained i out cs X) ≡ gained i out (take n cs) (take n X)
    gained-take zero cs X = refl
    gained-take (suc n) [] X = refl
    gained-take (suc n) (c ∷ cs) [] = refl
    gained-take (suc n) (c ∷ cs) (xs ∷ X) = ap (λ (Y : Streams T). gained_by i out c xs ∷ Y) (gained-take n cs X)

    gained-places : (ns : List ℕ) (j : ℕ) (cs : List Source) (X : Streams T) → places_at ns j (gained i out cs X) ≡ gained i out (places_at ns j cs) (places_at ns j X)
    gained-places ns j cs X =
        ap (λ (Y : Streams T). take (get_or ns j 0) Y) (gained-drop (total (take j ns)) cs X) ∙ gained-take (get_or ns j 0) (drop (total (take j ns)) cs) (drop (total (take j ns)) X)

    gained-long : (cs : List Source) (X : Streams T) → length (gained i out cs X) ≡ length X
    gained-long [] X = refl
    gained-long (c ∷ cs) [] = refl
    gained-long (c ∷ cs) (xs ∷ X) = ap (λ n. suc n) (gained-long cs X)

  -- what is left is so once a child gained
  gained-left : (s : DeState T) (all : Streams T) → IsLeft s all → (i : ℕ) (out : Streams T) (t : DeState T) → t.plan ≡ s.plan → t.tokens ≡ gained i out s.plan.net.sources s.tokens → ((j : ℕ) → (get_or t.turns j Waits ≡ Over → ⊥) → get_or s.turns j Waits ≡ Over → ⊥) → IsLeft t (gained i out s.plan.net.sources all)
  gained-left s all l i out t p e n = record {
    long = ap (λ (X : Streams T). length X) e ∙ gained-long i out s.plan.net.sources s.tokens ∙ l.long ∙ sym (gained-long i out s.plan.net.sources all);
    inputs = λ j h o.
        ap₂ (λ (q : TickPlan) (X : Streams T). places_at q.net.places j X) p e ∙ gained-places i out s.plan.net.places j s.plan.net.sources s.tokens ∙
        ap (λ (X : Streams T). gained i out (places_at s.plan.net.places j s.plan.net.sources) X) (l.inputs j (subst (λ (q : TickPlan). j < length q.net.places) p h) (n j o)) ∙
        sym (gained-places i out s.plan.net.places j s.plan.net.sources all) ∙
        ap (λ (q : TickPlan). places_at q.net.places j (gained i out s.plan.net.sources all)) (sym p);
    outlets =
        ap₂ (λ (q : TickPlan) (X : Streams T). drop (total q.net.places) X) p e ∙ gained-drop i out (total s.plan.net.places) s.plan.net.sources s.tokens ∙
        ap (λ (X : Streams T). gained i out (drop (total s.plan.net.places) s.plan.net.sources) X) l.outlets ∙ sym (gained-drop i out (total s.plan.net.places) s.plan.net.sources all) ∙
        ap (λ (q : TickPlan). drop (total q.net.places) (gained i out s.plan.net.sources all)) (sym p);
  }

-- children as they are with all tokens
module _ {T : Type 0} (s : DeState T) (all : Streams T) (l : IsLeft s all) (flags : length s.turns ≡ length s.plan.net.places) where
  abbrev full : DeState T
  full = with_tokens all s

  abbrev count : ℕ
  count = length s.plan.net.places

  turn-any : (j : ℕ) → j < count → get_or s.turns j Over ≡ get_or s.turns j Waits
  turn-any j h = get-or-any s.turns j Over Waits (omega (arith, h, flags))

  due-same : (j : ℕ) → j < count → is_due_child full j ≡ is_due_child s j
  due-same j h = by (get_or s.turns j Waits) refl
    where
      same : (get_or s.turns j Waits ≡ Over → ⊥) → is_due_child full j ≡ is_due_child s j
      same n = ap (λ (X : Streams T). is_due_in (get_or s.turns j Over) (is_due s.tag (get_or s.wakes j None) || comes false (delays_of s j) X)) (sym (l.inputs j h n))

      by : (t : Turn) → get_or s.turns j Waits ≡ t → is_due_child full j ≡ is_due_child s j
      by Waits e = same (λ o. over-waits (get_or s.turns j Waits) o e)
      by Answered e = same (λ o. over-answered (get_or s.turns j Waits) o e)
      by Over e =
          ap (λ t. is_due_in t (is_due s.tag (get_or s.wakes j None) || comes false (delays_of s j) (inputs_of full j))) (turn-any j h ∙ e) ∙
          sym (ap (λ t. is_due_in t (is_due s.tag (get_or s.wakes j None) || comes false (delays_of s j) (inputs_of s j))) (turn-any j h ∙ e))

  last-same : (j : ℕ) → j < count → is_last_child full j ≡ is_last_child s j
  last-same j h = by (get_or s.turns j Waits) refl
    where
      same : (get_or s.turns j Waits ≡ Over → ⊥) → is_last_child full j ≡ is_last_child s j
      same n = ap (λ (X : Streams T). is_last_in (get_or s.turns j Over) (comes true (delays_of s j) X)) (sym (l.inputs j h n))

      by : (t : Turn) → get_or s.turns j Waits ≡ t → is_last_child full j ≡ is_last_child s j
      by Waits e = same (λ o. over-waits (get_or s.turns j Waits) o e)
      by Answered e = same (λ o. over-answered (get_or s.turns j Waits) o e)
      by Over e =
          ap (λ t. is_last_in t (comes true (delays_of s j) (inputs_of full j))) (turn-any j h ∙ e) ∙ sym (ap (λ t. is_last_in t (comes true (delays_of s j) (inputs_of s j))) (turn-any j h ∙ e))

  first-full : (i : ℕ) → IsFirst s i → IsFirst full i
  first-full i m = record { there = m.there; due = due-same i m.there ∙ m.due; least = λ j h e. m.least j h (sym (due-same j h) ∙ e) }

  pub fire-full : (i : ℕ) → MayFire s i → MayFire full i
  fire-full i (inl m) = inl (first-full i m.0, m.1)
  fire-full i (inr m) = inr (record { there = m.there; last = last-same i m.there ∙ m.last; none = λ j h. due-same j h ∙ m.none j h })

  pub answer-full : (i : ℕ) → MayAnswer s i → MayAnswer full i
  answer-full i m = (first-full i m.0, m.1)

  pub over-full : IsOver s → IsOver full
  over-full m = record { none_due = λ j h. due-same j h ∙ m.none_due j h; none_last = λ j h. last-same j h ∙ m.none_last j h }

module _ {T S : Type 0} (facts : Facts T S) (step : Stepping T S) (before : DeState T) (kids : List S) (inputs : Streams T) (d : S) where
  left-begin : (tag : Tag) → KeepsEarly (de_early facts) (de_active facts) (de_turn facts step) → IsLawful before.plan before.roles → IsFor facts before.plan before.roles kids → before.wakes ≡ map (λ c. facts.next c) kids → Underway facts step before kids inputs d (begun tag inputs before) kids (silents kids)
  left-begin tag keeps lawful fits wakes = record { all = (begun tag inputs before).tokens; left = record { long = refl; inputs = λ j h n. refl; outlets = refl }; course = calls-begin facts step before kids inputs d tag keeps lawful fits wakes }

  module _ (s : DeState T) (now : List S) (ls : List (Log T)) (u : Underway facts step before kids inputs d s now ls) where
    abbrev whole : DeState T
    whole = with_tokens u.all s

    abbrev flags : length s.turns ≡ length s.plan.net.places
    flags = u.course.flags

    -- a child is asked to fire on the first of its rows
    open-left : s.stage ≡ Open → (i : ℕ) → MayFire s i → Underway facts step before kids inputs d (asked i s) now ls
    open-left o i may =
        let m = fire-full s u.all u.left flags i may in
        let fresh = not-over facts step before kids inputs d whole now ls u.course o i m in
        record {
          all = u.all;
          left = record {
            long = emptied-long (total (take i s.plan.net.places)) (get_or s.plan.net.places i 0) s.tokens ∙ u.left.long;
            inputs = λ j h n. others j h n (cases_eq j i);
            outlets = emptied-outlets s.plan.net.places i s.tokens ∙ u.left.outlets;
          };
          course = subst (λ (X : Streams T). Course facts step before kids inputs d (record {
            plan = s.plan;
            roles = s.roles;
            wakes = s.wakes;
            tokens = u.all;
            turns = set s.turns i Over;
            tag = s.tag;
            stage = Asked i (rows_for (get_or s.roles.whole i false) X);
          }) now ls) (sym (u.left.inputs i (inside may) fresh)) (open-asked facts step before kids inputs d whole now ls u.course o i m);
        }
      where
        inside : MayFire s i → i < length s.plan.net.places
        inside (inl m) = m.0.there
        inside (inr m) = m.there

        others : (j : ℕ) → j < length s.plan.net.places → (get_or (set s.turns i Over) j Waits ≡ Over → ⊥) → (j ≡ i) ⊎ (j ≡ i → ⊥) → places_at s.plan.net.places j (emptied s.plan.net.places i s.tokens) ≡ places_at s.plan.net.places j u.all
        others j h n (inl z) = absurd (n (ap (λ m. get_or (set s.turns i Over) m Waits) z ∙ get_or-set_same s.turns i Over Waits (let k = inside may in omega (arith, k, flags))))
        others j h n (inr z) = emptied-other s.plan.net.places i j s.tokens z ∙ u.left.inputs j h (λ e. n (get_or-set_other s.turns i j Over Waits z ∙ e))

    left-ask : (i : ℕ) → AsksFor s s.stage i → Underway facts step before kids inputs d (asked_on s.stage i s) now ls × ((X : Streams T) × (Xs : List (Streams T)) × ((asked_on s.stage i s).stage ≡ Asked i (X ∷ Xs)))
    left-ask i a = by s.stage refl a
      where
        by : (st : Stage T) → s.stage ≡ st → AsksFor s st i → Underway facts step before kids inputs d (asked_on st i s) now ls × ((X : Streams T) × (Xs : List (Streams T)) × ((asked_on st i s).stage ≡ Asked i (X ∷ Xs)))
        by Idle o a = absurd a
        by Open o a = let r = some-row (get_or s.roles.whole i false) (inputs_of s i) in (open-left o i a, (r.0, r.1, ap (λ (Xs : List (Streams T)). Asked i Xs) r.2))
        by (Listens child) o a = absurd a
        by (Asked child left) o a = absurd a
        by (Between child left) o a =
            let r = next-asked facts step before kids inputs d whole now ls u.course child left o in
            (record { all = u.all; left = record { long = u.left.long; inputs = u.left.inputs; outlets = u.left.outlets }; course = r.0 }, (r.1.0, r.1.1, ap (λ n. Asked n left) a ∙ ap (λ (Xs : List (Streams T)). Asked i Xs) r.1.2))
        by Closed o a = absurd a

    -- it is told what it gave
    left-go-on : (i : ℕ) (X : Streams T) (Xs : List (Streams T)) → s.stage ≡ Asked i (X ∷ Xs) → (c : S) (out : Streams T) (l : Log T) → step s.tag (get_or now i d) X ≡ Done c out l →
        Underway facts step before kids inputs d (after_told i out (facts.next c) s) (set now i c) (logs_then i (log_then l (own (record { number = facts.made (get_or now i d); tag = s.tag; inputs = X; outputs = out }))) ls)
    left-go-on i X Xs st c out l e = record {
      all = given_by (get_or s.roles.early i false) i out s.plan.net.sources u.all;
      left = by (get_or s.roles.early i false);
      course = calls-go-on facts step before kids inputs d whole now ls u.course i X Xs st c out l e;
    }
      where
        by : (b : Bool) → IsLeft (record {
          plan = s.plan;
          roles = s.roles;
          wakes = set s.wakes i (facts.next c);
          tokens = given_by b i out s.plan.net.sources s.tokens;
          turns = s.turns;
          tag = s.tag;
          stage = (after_told i out (facts.next c) s).stage;
        }) (given_by b i out s.plan.net.sources u.all)
        by true = record { long = u.left.long; inputs = u.left.inputs; outlets = u.left.outlets }
        by false = gained-left s u.all u.left i out (record {
          plan = s.plan;
          roles = s.roles;
          wakes = set s.wakes i (facts.next c);
          tokens = gained i out s.plan.net.sources s.tokens;
          turns = s.turns;
          tag = s.tag;
          stage = (after_told i out (facts.next c) s).stage;
        }) refl refl (λ j n. n)

    -- a child has answered early
    left-hear : s.stage ≡ Open → (i : ℕ) → MayAnswer s i → Underway facts step before kids inputs d (after_heard i (facts.early s.tag (get_or now i d) (partial_of s i)) s) now ls
    left-hear o i may =
        let m = answer-full s u.all u.left flags i may in
        let w : get_or s.turns i Waits ≡ Waits = due-waits facts step before kids inputs d whole now ls u.course i m.0.there m.0.due in
        let same : partial_of whole i ≡ partial_of s i = ap (λ (X : Streams T). beside_delays (delays_of s i) X) (sym (u.left.inputs i may.0.there (λ e. over-waits (get_or s.turns i Waits) e w))) in
        let answer : List (Partial T) = facts.early s.tag (get_or now i d) (partial_of s i) in
        record {
          all = gained i (tokens_of answer) s.plan.net.sources u.all;
          left = gained-left s u.all u.left i (tokens_of answer) (after_heard i answer s) refl refl (λ j n e. n (kept j e w (cases_eq j i)));
          course = subst (λ vs. Course facts step before kids inputs d (after_heard i (facts.early s.tag (get_or now i d) vs) whole) now ls) same (calls-hear facts step before kids inputs d whole now ls u.course i m o);
        }
      where
        kept : (j : ℕ) → get_or s.turns j Waits ≡ Over → get_or s.turns i Waits ≡ Waits → (j ≡ i) ⊎ (j ≡ i → ⊥) → get_or (set s.turns i Answered) j Waits ≡ Over
        kept j e w (inl z) = absurd (over-waits (get_or s.turns j Waits) e (ap (λ n. get_or s.turns n Waits) z ∙ w))
        kept j e w (inr z) = get_or-set_other s.turns i j Answered Waits z ∙ e

pub calls-are-de : {T S : Type 0} → CallsAreDe T S
calls-are-de = record {
  begins = λ facts step before kids tag inputs d keeps lawful fits wakes. left-begin facts step before kids inputs d tag keeps lawful fits wakes;
  asks = λ facts step before kids inputs d s now ls u. left-ask facts step before kids inputs d s now ls u;
  goes_on = λ facts step before kids inputs d s now ls u i X Xs st c out l e. left-go-on facts step before kids inputs d s now ls u i X Xs st c out l e;
  hears = λ facts step before kids inputs d s now ls u o i may. left-hear facts step before kids inputs d s now ls u o i may;
  learns = λ facts step before kids inputs d s now ls u i may early. calls-learn facts step before kids inputs d (with_tokens u.all s) now ls u.course i (answer-full s u.all u.left u.course.flags i may) early;
  ends = λ facts step before kids inputs d s now ls u o x k l. calls-end facts step before kids inputs d (with_tokens u.all s) now ls u.course o (over-full s u.all u.left u.course.flags x) k l ∙ ap (λ X. Done (record { held = []; kids = now }) X (log_below ls)) (sym u.left.outlets);
  sticks = λ facts step before kids inputs d s now ls u i X Xs st. calls-stick facts step before kids inputs d (with_tokens u.all s) now ls u.course i X Xs st;
  off = λ facts step before kids inputs d s now ls u. calls-off facts step before kids inputs d (with_tokens u.all s) now ls u.course;
  off_within = λ facts step before kids inputs d s now ls u i X Xs st. calls-off-within facts step before kids inputs d (with_tokens u.all s) now ls u.course i X Xs st;
}
