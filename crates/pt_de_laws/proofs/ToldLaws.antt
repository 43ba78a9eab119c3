-- A child is told what it gave in a firing.
use Rattle.std.proofs.Common.{◌≡◌, ◌⊎◌, inl, inr, ⊎_elim, ℕ, zero, suc, ◌<◌, ◌≤◌, List, [], ◌∷◌, ◌++◌, Bool, true, false, ◌||◌, length, get_or, set, nat_eq, Option, Some, None, if◌then◌else◌, refl, sym, ap, ap₂, subst, ◌∙◌, arith, length-set, append-nil}
use Rattle.std.proofs.lemmas.List.{get_or-set_same, get_or-set_other, append_assoc}
use Rattle.std.proofs.lemmas.Bool.{cases_eq}
use Rattle.pt_meaning.specs.Tag.{Tag, is_due}
use Rattle.pt_meaning.specs.Streams.{Streams, at, get, joined}
use Rattle.pt_meaning.specs.Log.{Log, Firing, silent, log_then, own}
use Rattle.pt_meaning.specs.Machine.{Stepping, Facts, Partial, Known, partial_at, Done}
use Rattle.pt_meaning.specs.Net.{Net, Own, Output}
use Rattle.pt_meaning.specs.De.{de_early, de_active, de_turn, by_rows}
use Rattle.pt_meaning.specs.Closed.{inputs_at, outputs_at}
use Rattle.pt_laws.specs.TickRuns.{places_at, HasFired}
use Rattle.pt_laws.specs.LogsOfRuns.{logs_then, log_at}
use Rattle.pt_laws.specs.Explained.{Turned}
use Rattle.pt_laws.proofs.Order.{at-joined}
use Rattle.pt_laws.proofs.TickNodeLaws.{rows-go-on}
use Rattle.pt_laws.proofs.TickRunLaws.{has-reacted}
use Rattle.pt_de_laws.specs.State.{DeState, Turn, Waits, Answered, Over, Stage, Asked, comes, rows_left, inputs_of, delays_of, is_due_in, is_due_child, depth_of, partial_of, after_fired, after_row, after_told, given_by, beside_delays}
use Rattle.pt_de_laws.specs.Chain.{HasTold, HasTurned, IsAmid, IsBusy, IsPending, Course, after_rounds, decided}
use Rattle.pt_de_laws.proofs.PlaceLaws.{map-set, get-or-any, same-test, other-test}
use Rattle.pt_de_laws.proofs.RowLaws.{turn-is, chain-more, turns-append, of-rows-append}
use Rattle.pt_de_laws.proofs.ReadyLaws.{clash, over-waits, over-answered}
use Rattle.pt_de_laws.proofs.ValueLaws.{val-output}
use Rattle.pt_de_laws.proofs.AskLaws.{left-same, left-other, turned-as}
use Rattle.pt_de_laws.proofs.GainLaws.{then-long, then-same, then-other, gained-own, gained-other, gained-same, more-long, same-comes, same-beside, not-deeper}

-- a turn goes on by a row
pub turned-on : {T S : Type 0} (facts : Facts T S) (step : Stepping T S) (tag : Tag) (c : S) (vs : List (Partial T)) (X : Streams T) (Xs : List (Streams T)) (z : S) (out : Streams T) (l : Log T) (ts : List (Turned T)) (z' : S) (more : Streams T) (k : Log T) →
    HasTurned facts step tag c vs (X ∷ Xs) z out l ts → step tag z X ≡ Done z' more k →
    let f : Firing T = record { number = facts.made z; tag = tag; inputs = X; outputs = more } in
    let t : Turned T = record { record_of = f; inside = k } in
    HasTurned facts step tag c vs Xs z' (joined out more) (log_then l (log_then k (own f))) (ts ++ (t ∷ []))
turned-on {T} {S} facts step tag c vs X Xs z out l ts z' more k h e =
    let f : Firing T = record { number = facts.made z; tag = tag; inputs = X; outputs = more } in
    let t : Turned T = record { record_of = f; inside = k } in
    record {
      inputs = h.inputs;
      on = h.on;
      active = h.active;
      done = h.done ++ (X ∷ []);
      rows = h.rows ∙ sym (append_assoc h.done (X ∷ []) Xs);
      fired = rows-go-on.done facts step tag c z h.done X out l z' more k h.fired e;
      chain = chain-more facts step tag ts c z z' l X more k h.chain e;
      took = λ q. turns-append (inputs_at q) ts (t ∷ []) ∙ ap (λ xs. xs ++ (at X q ++ [])) (h.took q) ∙ sym (of-rows-append q h.done (X ∷ []));
      gave = λ p. turns-append (outputs_at p) ts (t ∷ []) ∙ ap₂ (λ (xs ys : List T). xs ++ ys) (h.gave p) (append-nil (at more p)) ∙ sym (at-joined out more p);
    }

-- a turn that has no rows left is done
pub turn-done : {T S : Type 0} (facts : Facts T S) (step : Stepping T S) (tag : Tag) (c : S) (vs : List (Partial T)) (left : List (Streams T)) (z : S) (out : Streams T) (l : Log T) (ts : List (Turned T)) → length left ≡ 0 → HasTurned facts step tag c vs left z out l ts → HasFired (de_active facts) (de_turn facts step) tag c vs z out l
turn-done facts step tag c vs [] z out l ts e h = (h.inputs, h.on, inl (h.active, turn-is facts step tag c h.inputs ∙ ap (λ Xs. by_rows facts step tag Xs c) (h.rows ∙ append-nil h.done) ∙ h.fired))
turn-done facts step tag c vs (X ∷ Xs) z out l ts e h = absurd (omega (arith, e))

nat-split : (a b : ℕ) → a < b ⊎ (b ≤ a)
nat-split a zero = inr (omega arith)
nat-split zero (suc b) = inl (omega arith)
nat-split (suc a) (suc b) = ⊎_elim (λ (x : a < b). inl (omega (arith, x))) (λ (x : b ≤ a). inr (omega (arith, x))) (nat-split a b)

pub below-or : (a b : ℕ) → a < b ⊎ (b ≤ a)
below-or a b = nat-split a b

none-if : {B : Type 0} (b : Bool) → let none : List B = [] in (if b then none else none) ≡ none
none-if true = refl
none-if false = refl

-- the rows left after a row
pub row-left : {T : Type 0} (i : ℕ) (Y : Streams T) (Ys : List (Streams T)) (j : ℕ) → rows_left (after_row i (Y ∷ Ys)) j ≡ rows_left (Asked i Ys) j
row-left i Y [] j = sym (none-if (nat_eq i j))
row-left i Y (Z ∷ Zs) j = refl

module _ {T S : Type 0} (facts : Facts T S) (step : Stepping T S) (before : DeState T) (kids : List S) (inputs : Streams T) (d : S) (s : DeState T) (now : List S) (ls : List (Log T)) (u : Course facts step before kids inputs d s now ls)
    (i : ℕ) (Y : Streams T) (Ys : List (Streams T)) (st : s.stage ≡ Asked i (Y ∷ Ys)) (c : S) (out : Streams T) (l : Log T) (e : step s.tag (get_or now i d) Y ≡ Done c out l) where
  abbrev net : Net
  net = s.plan.net

  abbrev count : ℕ
  count = length net.places

  abbrev kid : ℕ → S
  kid j = get_or kids j d

  abbrev turn : ℕ → Turn
  turn j = get_or s.turns j Waits

  abbrev depth : ℕ → ℕ
  depth j = depth_of s j

  abbrev val : ℕ → List (Partial T)
  val k = after_rounds facts step s kids inputs k

  abbrev end : List (Partial T)
  end = decided facts step s kids inputs

  abbrev early : ℕ → Bool
  early j = get_or s.roles.early j false

  abbrev t : DeState T
  t = after_told i out (facts.next c) s

  abbrev firing : Firing T
  firing = record { number = facts.made (get_or now i d); tag = s.tag; inputs = Y; outputs = out }

  abbrev its-log : Log T
  its-log = log_then l (own firing)

  abbrev its-turned : Turned T
  its-turned = record { record_of = firing; inside = l }

  abbrev outs : List (Streams T)
  outs = set u.outs i (joined (get_or u.outs i []) out)

  abbrev turned : ℕ → List (Turned T)
  turned j = if nat_eq j i then u.turned i ++ (its-turned ∷ []) else u.turned j

  amid : IsAmid count s.turns (Asked i (Y ∷ Ys))
  amid = subst (λ (x : Stage T). IsAmid count s.turns x) st u.amid

  there : i < count
  there = amid.0

  its-over : turn i ≡ Over
  its-over = amid.1

  old-left : (j : ℕ) → rows_left s.stage j ≡ rows_left (Asked i (Y ∷ Ys)) j
  old-left j = ap (λ (x : Stage T). rows_left x j) st

  new-left : (j : ℕ) → rows_left t.stage j ≡ rows_left (Asked i Ys) j
  new-left j = ap (λ (x : Stage T). rows_left (after_fired x) j) st ∙ row-left i Y Ys j

  waits-other : (j : ℕ) → turn j ≡ Waits → j ≡ i → ⊥
  waits-other j w z = over-waits (turn j) (ap (λ n. turn n) z ∙ its-over) w

  -- child i is busy, where it has no delays
  busy : early i ≡ false → IsBusy s i
  busy f = (f, subst (λ (Xs : List (Streams T)). 0 < length Xs) (sym (old-left i ∙ left-same i (Y ∷ Ys))) (omega arith))

  -- the channels
  told-long : length t.tokens ≡ length net.sources
  told-long = by (early i)
    where
      by : (b : Bool) → length (given_by b i out net.sources s.tokens) ≡ length net.sources
      by true = u.channels
      by false = more-long facts step before kids inputs d s now ls u i out

  told-own : (a port : ℕ) → get net.sources a ≡ Some (Own port) → at t.tokens a ≡ at s.tokens a
  told-own a port g = by (early i)
    where
      by : (b : Bool) → at (given_by b i out net.sources s.tokens) a ≡ at s.tokens a
      by true = refl
      by false = gained-own i out net.sources s.tokens a port u.channels g

  told-other : (a k port : ℕ) → get net.sources a ≡ Some (Output k port) → (k ≡ i → ⊥) ⊎ (early i ≡ true) → at t.tokens a ≡ at s.tokens a
  told-other a k port g (inr f) = ap (λ b. at (given_by b i out net.sources s.tokens) a) f
  told-other a k port g (inl z) = by (early i)
    where
      by : (b : Bool) → at (given_by b i out net.sources s.tokens) a ≡ at s.tokens a
      by true = refl
      by false = gained-other i out net.sources s.tokens a k port u.channels g z

  told-same : early i ≡ false → (a port : ℕ) → get net.sources a ≡ Some (Output i port) → at t.tokens a ≡ at s.tokens a ++ at out port
  told-same f a port g = ap (λ b. at (given_by b i out net.sources s.tokens) a) f ∙ gained-same i out net.sources s.tokens a port u.channels g

  told-comes : (j : ℕ) → depth j ≤ depth i ⊎ (early i ≡ true) → comes false (delays_of s j) (inputs_of t j) ≡ comes false (delays_of s j) (inputs_of s j)
  told-comes j (inr f) = ap (λ b. comes false (delays_of s j) (places_at net.places j (given_by b i out net.sources s.tokens))) f
  told-comes j (inl h) = by (early i)
    where
      by : (b : Bool) → comes false (delays_of s j) (places_at net.places j (given_by b i out net.sources s.tokens)) ≡ comes false (delays_of s j) (inputs_of s j)
      by true = refl
      by false = same-comes facts step before kids inputs d s now ls u i out j (not-deeper facts step before kids inputs d s now ls u i out j h)

  told-beside : (j : ℕ) → depth j ≤ depth i ⊎ (early i ≡ true) → partial_of t j ≡ partial_of s j
  told-beside j (inr f) = ap (λ b. beside_delays (delays_of s j) (places_at net.places j (given_by b i out net.sources s.tokens))) f
  told-beside j (inl h) = by (early i)
    where
      by : (b : Bool) → beside_delays (delays_of s j) (places_at net.places j (given_by b i out net.sources s.tokens)) ≡ partial_of s j
      by true = refl
      by false = same-beside facts step before kids inputs d s now ls u i out j (not-deeper facts step before kids inputs d s now ls u i out j h)

  -- a child that has had its turn is no deeper, or none gained
  no-deeper : (j : ℕ) → j < count → (turn j ≡ Waits → ⊥) → depth j ≤ depth i ⊎ (early i ≡ true)
  no-deeper j m n = by (early i) refl
    where
      by : (b : Bool) → early i ≡ b → depth j ≤ depth i ⊎ (early i ≡ true)
      by true f = inr f
      by false f = inl (u.order j i m there n (inr (busy f)))

  wake-other : (j : ℕ) → (j ≡ i → ⊥) → get_or t.wakes j None ≡ get_or s.wakes j None
  wake-other j z = get_or-set_other s.wakes i j (facts.next c) None z

  -- who is due now was so before, or is deeper
  due-now : (k : ℕ) → k < count → is_due_child t k ≡ true → (is_due_child s k ≡ true) ⊎ ((early i ≡ false) × (depth i < depth k))
  due-now k m g = by (early i) refl
    where
      w : turn k ≡ Waits
      w = waits (turn k) refl
        where
          is-so : (x : Turn) → turn k ≡ x → is_due_in x (is_due s.tag (get_or t.wakes k None) || comes false (delays_of s k) (inputs_of t k)) ≡ true
          is-so x r = ap (λ v. is_due_in v (is_due s.tag (get_or t.wakes k None) || comes false (delays_of s k) (inputs_of t k))) (sym r ∙ get-or-any s.turns k Waits Over (omega (arith, m, u.flags))) ∙ g

          waits : (x : Turn) → turn k ≡ x → turn k ≡ Waits
          waits Waits r = r
          waits Answered r = clash (sym (is-so Answered r))
          waits Over r = clash (sym (is-so Over r))

      same : depth k ≤ depth i ⊎ (early i ≡ true) → is_due_child s k ≡ true
      same h =
          sym (ap₂ (λ (x : Option Tag) (b : Bool). is_due_in (get_or s.turns k Over) (is_due s.tag x || b)) (wake-other k (waits-other k w)) (told-comes k h)) ∙ g

      by : (b : Bool) → early i ≡ b → (is_due_child s k ≡ true) ⊎ ((early i ≡ false) × (depth i < depth k))
      by true f = inl (same (inr f))
      by false f = ⊎_elim (λ (x : depth i < depth k). inr (f, x)) (λ (x : depth k ≤ depth i). inl (same (inl x))) (below-or (depth i) (depth k))

  busy-now : (k : ℕ) → IsBusy t k → (k ≡ i) ⊎ (k ≡ i → ⊥) → k ≡ i
  busy-now k b (inl z) = z
  busy-now k b (inr z) = let none : length (rows_left t.stage k) ≡ 0 = ap (λ (Xs : List (Streams T)). length Xs) (new-left k ∙ left-other i k Ys z) in let some = b.1 in absurd (omega (arith, none, some))

  its-now : HasTurned facts step s.tag (kid i) (places_at net.places i end) Ys c (joined (get_or u.outs i []) out) (log_then (log_at ls i) its-log) (u.turned i ++ (its-turned ∷ []))
  its-now =
      turned-on facts step s.tag (kid i) (places_at net.places i end) Y Ys (get_or now i d) (get_or u.outs i []) (log_at ls i) (u.turned i) c out l
      (subst (λ left. HasTurned facts step s.tag (kid i) (places_at net.places i end) left (get_or now i d) (get_or u.outs i []) (log_at ls i) (u.turned i)) (old-left i ∙ left-same i (Y ∷ Ys)) (u.over i there its-over)) e

  turned-same : turned i ≡ u.turned i ++ (its-turned ∷ [])
  turned-same = ap (λ b. if b then u.turned i ++ (its-turned ∷ []) else u.turned i) (same-test i)

  turned-other : (j : ℕ) → (j ≡ i → ⊥) → turned j ≡ u.turned j
  turned-other j z = ap (λ b. if b then u.turned i ++ (its-turned ∷ []) else u.turned j) (other-test j i z)

  over-one : (j : ℕ) → j < count → turn j ≡ Over → (j ≡ i) ⊎ (j ≡ i → ⊥) → HasTurned facts step s.tag (kid j) (places_at net.places j end) (rows_left t.stage j) (get_or (set now i c) j d) (get_or outs j []) (log_at (logs_then i its-log ls) j) (turned j)
  over-one j m g (inl z) =
      subst (λ n. HasTurned facts step s.tag (kid n) (places_at net.places n end) (rows_left t.stage n) (get_or (set now i c) n d) (get_or outs n []) (log_at (logs_then i its-log ls) n) (turned n)) (sym z)
      (turned-as facts step s.tag (kid i) (places_at net.places i end) Ys (rows_left t.stage i) c (get_or (set now i c) i d) (joined (get_or u.outs i []) out) (get_or outs i []) (log_then (log_at ls i) its-log) (log_at (logs_then i its-log ls) i) (u.turned i ++ (its-turned ∷ [])) (turned i)
      (sym (new-left i ∙ left-same i Ys)) (sym (get_or-set_same now i c d (omega (arith, there, u.wide.news_are)))) (sym (get_or-set_same u.outs i (joined (get_or u.outs i []) out) [] (omega (arith, there, u.gave)))) (sym (then-same i its-log ls (omega (arith, there, u.wide.logs_are)))) (sym turned-same) its-now)
  over-one j m g (inr z) =
      turned-as facts step s.tag (kid j) (places_at net.places j end) (rows_left s.stage j) (rows_left t.stage j) (get_or now j d) (get_or (set now i c) j d) (get_or u.outs j []) (get_or outs j []) (log_at ls j) (log_at (logs_then i its-log ls) j) (u.turned j) (turned j)
      (old-left j ∙ left-other i j (Y ∷ Ys) z ∙ sym (new-left j ∙ left-other i j Ys z)) (sym (get_or-set_other now i j c d z)) (sym (get_or-set_other u.outs i j (joined (get_or u.outs i []) out) [] z)) (sym (then-other i j its-log ls z)) (sym (turned-other j z)) (u.over j m g)

  rests-one : (j : ℕ) → j < count → (turn j ≡ Over → ⊥) → (j ≡ i) ⊎ (j ≡ i → ⊥) → (get_or (set now i c) j d ≡ kid j) × (log_at (logs_then i its-log ls) j ≡ silent) × (turned j ≡ []) × (get_or outs j [] ≡ [])
  rests-one j m n (inl z) = absurd (n (ap (λ x. turn x) z ∙ its-over))
  rests-one j m n (inr z) =
      let r = u.rests j m n in
      (get_or-set_other now i j c d z ∙ r.0, then-other i j its-log ls z ∙ r.1, turned-other j z ∙ r.2, get_or-set_other u.outs i j (joined (get_or u.outs i []) out) [] z ∙ r.3)

  gives-one : (j : ℕ) → j < count → turn j ≡ Over → early j ≡ false → (a port : ℕ) → get net.sources a ≡ Some (Output j port) → (j ≡ i) ⊎ (j ≡ i → ⊥) → at t.tokens a ≡ at (get_or outs j []) port
  gives-one j m g f a port h (inl z) =
      let fi : early i ≡ false = ap (λ n. early n) (sym z) ∙ f in
      let hi : get net.sources a ≡ Some (Output i port) = h ∙ ap (λ n. Some (Output n port)) z in
      told-same fi a port hi ∙ ap (λ xs. xs ++ at out port) (u.gives i there its-over fi a port hi) ∙ sym (at-joined (get_or u.outs i []) out port) ∙
      sym (ap (λ (o : Streams T). at o port) (ap (λ n. get_or outs n []) z ∙ get_or-set_same u.outs i (joined (get_or u.outs i []) out) [] (omega (arith, there, u.gave))))
  gives-one j m g f a port h (inr z) =
      told-other a j port h (inl z) ∙ u.gives j m g f a port h ∙ sym (ap (λ (o : Streams T). at o port) (get_or-set_other u.outs i j (joined (get_or u.outs i []) out) [] z))

  -- its last row tells all
  tells-all : early i ≡ false → length Ys ≡ 0 → (a port : ℕ) → get net.sources a ≡ Some (Output i port) → partial_at (val (suc (suc (depth i)))) a ≡ Known (at t.tokens a)
  tells-all f none a port h =
      let done : HasFired (de_active facts) (de_turn facts step) s.tag (kid i) (places_at net.places i end) c (joined (get_or u.outs i []) out) (log_then (log_at ls i) its-log) =
      turn-done facts step s.tag (kid i) (places_at net.places i end) Ys c (joined (get_or u.outs i []) out) (log_then (log_at ls i) its-log) (u.turned i ++ (its-turned ∷ [])) none its-now
      in
      let soon : HasFired (de_active facts) (de_turn facts step) s.tag (kid i) (places_at net.places i (val (suc (depth i)))) c (joined (get_or u.outs i []) out) (log_then (log_at ls i) its-log) =
      subst (λ vs. HasFired (de_active facts) (de_turn facts step) s.tag (kid i) vs c (joined (get_or u.outs i []) out) (log_then (log_at ls i) its-log)) (u.soon i there its-over f) done
      in
      val-output (de_early facts) (de_active facts) (de_turn facts step) s.tag u.keeps net kids inputs d u.fitting.children (suc (depth i)) a i port h there ∙
      (has-reacted (de_early facts) (de_active facts) (de_turn facts step) s.tag (kid i) (places_at net.places i (val (suc (depth i)))) c (joined (get_or u.outs i []) out) (log_then (log_at ls i) its-log) soon).outputs port ∙
      ap (λ (xs : List T). Known xs) (at-joined (get_or u.outs i []) out port ∙ sym (told-same f a port h ∙ ap (λ xs. xs ++ at out port) (u.gives i there its-over f a port h)))

  told-one : (j : ℕ) → j < count → HasTold t j → (a port : ℕ) → get net.sources a ≡ Some (Output j port) → (j ≡ i) ⊎ (j ≡ i → ⊥) → partial_at (val (suc (suc (depth j)))) a ≡ Known (at t.tokens a)
  told-one j m h a port g (inr z) =
      u.told j m (h.0, inr (ap (λ (Xs : List (Streams T)). length Xs) (old-left j ∙ left-other i j (Y ∷ Ys) z))) a port g ∙ ap (λ (xs : List T). Known xs) (sym (told-other a j port g (inl z)))
  told-one j m h a port g (inl z) = subst (λ n. partial_at (val (suc (suc (depth n)))) a ≡ Known (at t.tokens a)) (sym z) (by (early i) refl)
    where
      gi : get net.sources a ≡ Some (Output i port)
      gi = g ∙ ap (λ n. Some (Output n port)) z

      none : early i ≡ false → (early j ≡ true) ⊎ (length (rows_left t.stage j) ≡ 0) → length Ys ≡ 0
      none f (inl x) = clash (sym x ∙ ap (λ n. early n) z ∙ f)
      none f (inr x) = sym (ap (λ n. length (rows_left t.stage n)) z ∙ ap (λ (Xs : List (Streams T)). length Xs) (new-left i ∙ left-same i Ys)) ∙ x

      by : (b : Bool) → early i ≡ b → partial_at (val (suc (suc (depth i)))) a ≡ Known (at t.tokens a)
      by true f = u.told i there (λ w. over-waits (turn i) its-over w, inl f) a port gi ∙ ap (λ (xs : List T). Known xs) (sym (told-other a i port gi (inr f)))
      by false f = tells-all f (none f h.1) a port gi

  quiet-one : (j : ℕ) → j < count → turn j ≡ Waits → (a port : ℕ) → get net.sources a ≡ Some (Output j port) → at t.tokens a ≡ []
  quiet-one j m w a port g = told-other a j port g (inl (waits-other j w)) ∙ u.quiet j m w a port g

  answered-one : (j : ℕ) → j < count → (turn j ≡ Waits → ⊥) → early j ≡ true → (a port : ℕ) → get net.sources a ≡ Some (Output j port) → partial_at (de_early facts s.tag (kid j) (partial_of t j)) port ≡ Known (at t.tokens a)
  answered-one j m n f a port g =
      ap (λ vs. partial_at (de_early facts s.tag (kid j) vs) port) (told-beside j (no-deeper j m n)) ∙ u.answered j m n f a port g ∙ ap (λ (xs : List T). Known xs) (sym (told-other a j port g (apart (cases_eq j i))))
    where
      apart : (j ≡ i) ⊎ (j ≡ i → ⊥) → (j ≡ i → ⊥) ⊎ (early i ≡ true)
      apart (inl z) = inr (ap (λ x. early x) (sym z) ∙ f)
      apart (inr z) = inl z

  prompted-one : (j : ℕ) → j < count → turn j ≡ Answered → (early j ≡ true) × ((is_due s.tag (get_or t.wakes j None) || comes false (delays_of s j) (inputs_of t j)) ≡ true)
  prompted-one j m g =
      let p = u.prompted j m g in
      let z : j ≡ i → ⊥ = λ z. over-answered (turn j) (ap (λ n. turn n) z ∙ its-over) g in
      let n : turn j ≡ Waits → ⊥ = λ w. answered-apart (turn j) g w in
      (p.0, ap₂ (λ (x : Option Tag) (b : Bool). is_due s.tag x || b) (wake-other j z) (told-comes j (no-deeper j m n)) ∙ p.1)
    where
      answered-apart : (x : Turn) → x ≡ Answered → x ≡ Waits → ⊥
      answered-apart x a w = absurd (cc)

  order-one : (j k : ℕ) → j < count → k < count → (turn j ≡ Waits → ⊥) → IsPending t k → depth j ≤ depth k
  order-one j k m o n (inl g) = by (due-now k o g)
    where
      by : (is_due_child s k ≡ true) ⊎ ((early i ≡ false) × (depth i < depth k)) → depth j ≤ depth k
      by (inl x) = u.order j k m o n (inl x)
      by (inr x) = let a = u.order j i m there n (inr (busy x.0)) in let b = x.1 in omega (arith, a, b)
  order-one j k m o n (inr b) = let z : k ≡ i = busy-now k b (cases_eq k i) in subst (λ x. depth j ≤ depth x) (sym z) (u.order j i m there n (inr (busy (ap (λ x. early x) (sym z) ∙ b.0))))

  late-one : (j k : ℕ) → j < count → k < count → turn j ≡ Over → early j ≡ true → IsPending t k → ⊥
  late-one j k m o g f (inl x) = by (due-now k o x)
    where
      by : (is_due_child s k ≡ true) ⊎ ((early i ≡ false) × (depth i < depth k)) → ⊥
      by (inl y) = u.late j k m o g f (inl y)
      by (inr y) = u.late j i m there g f (inr (busy y.0))
  late-one j k m o g f (inr b) = let z : k ≡ i = busy-now k b (cases_eq k i) in u.late j i m there g f (inr (busy (ap (λ x. early x) (sym z) ∙ b.0)))

  now-amid : (Xs : List (Streams T)) → Xs ≡ Ys → IsAmid count s.turns (after_row i (Y ∷ Xs))
  now-amid [] x = tt
  now-amid (X ∷ Xs) x = (there, its-over, omega arith)

  pub calls-go-on : Course facts step before kids inputs d (after_told i out (facts.next c) s) (set now i c) (logs_then i (log_then l (own (record { number = facts.made (get_or now i d); tag = s.tag; inputs = Y; outputs = out }))) ls)
  calls-go-on = record {
    keeps = u.keeps;
    lawful = u.lawful;
    fitting = u.fitting;
    plan = u.plan;
    wide = record { kids_are = u.wide.kids_are; news_are = length-set now i c ∙ u.wide.news_are; logs_are = then-long i its-log ls ∙ u.wide.logs_are };
    channels = told-long;
    flags = u.flags;
    wakes = ap (λ ws. set ws i (facts.next c)) u.wakes ∙ sym (map-set (λ x. facts.next x) now i c);
    amid = subst (λ (x : Stage T). IsAmid count s.turns (after_fired x)) (sym st) (now-amid Ys refl);
    arrived = λ a port g. told-own a port g ∙ u.arrived a port g;
    outs = outs;
    gave = length-set u.outs i (joined (get_or u.outs i []) out) ∙ u.gave;
    turned = turned;
    over = λ j m g. over-one j m g (cases_eq j i);
    soon = u.soon;
    rests = λ j m n. rests-one j m n (cases_eq j i);
    beyond = λ j m. turned-other j (λ z. let a = there in absurd (omega (arith, a, m, z))) ∙ u.beyond j m;
    told = λ j m h a port g. told-one j m h a port g (cases_eq j i);
    gives = λ j m g f a port h. gives-one j m g f a port h (cases_eq j i);
    quiet = quiet-one;
    answered = answered-one;
    prompted = prompted-one;
    order = order-one;
    late = late-one;
  }
