-- The firing of a Modal explained: at most its current refinement fires.
use Rattle.std.proofs.Common.{◌≡◌, ◌⊎◌, ℕ, zero, suc, ◌≤◌, List, [], ◌∷◌, ◌++◌, Bool, true, false, nat_eq, length, Option, Some, None, if◌then◌else◌, inl, inr, refl, sym, ap, subst, arith, ◌∙◌, append-nil}
use Rattle.std.proofs.lemmas.Bool.Decides.{nat_tests}
use Rattle.std.proofs.Math.Path.{fun_ext}
use Rattle.pt_meaning.specs.Basics.{Tag, Streams, at, Log, Path, Meeting, silent, log_then, own, log_below}
use Rattle.pt_meaning.specs.Machine.{Fault, Outcome, Done, Stuck, Stepping, Facts, recorded}
use Rattle.pt_meaning.specs.Dataflow.{Inside, prefixed}
use Rattle.pt_meaning.specs.Modal.{unfired_outputs, Chart, Modes, Choice, Nothing, One, Wrong, Acted, Acts, Fails, chosen, change_at, change_if, get, reset_unless, local, lag_of, picked, shown, below_number, stuck, taken, afterwards, put_state, on_refinement, at_refinement, with_refinement, preempted, modal}
use Rattle.pt_meaning.specs.Rendezvous.{with_meetings}
use Rattle.pt_meaning.specs.Node.{Modal}
use Rattle.pt_laws.specs.LogsOfRuns.{log_at, log_in}
use Rattle.pt_meaning.specs.Streams.{IsPrefix}
use Rattle.pt_meaning.specs.Closed.{Begun, as_own, inputs_at, begun_at}
use Rattle.pt_laws.specs.SoundRuns.{IsSamePlan}
use Rattle.pt_meaning.specs.Asked.{IsAsked}
use Rattle.pt_laws.specs.Explained.{Turned, PartOf, IfDone, Explained, of_turns, gives_in}
use Rattle.pt_laws.proofs.Order.{IsPrefix-refl}

some-of : {A : Type 0} (x y : A) → Some x ≡ Some y → x ≡ y
some-of x y e = cc

-- the log of child i alone
alone : {T : Type 0} → ℕ → Log T → List (Log T)
alone zero l = l ∷ []
alone (suc i) l = silent ∷ alone i l

alone-at : {T : Type 0} (i : ℕ) (l : Log T) → log_at (alone i l) i ≡ l
unfolding alone
alone-at zero l = refl
alone-at (suc i) l = alone-at i l

nat-below : (i j : ℕ) → nat_eq (suc i) (suc j) ≡ nat_eq i j
nat-below i j = grind (arith, nat_tests)

zero-not : (j : ℕ) → nat_eq 0 (suc j) ≡ false
zero-not j = grind (arith, nat_tests)

suc-not : (i : ℕ) → nat_eq (suc i) 0 ≡ false
suc-not i = grind (arith, nat_tests)

alone-other : {T : Type 0} (i j : ℕ) (l : Log T) → nat_eq i j ≡ false → log_at (alone i l) j ≡ silent
unfolding alone
alone-other zero zero l e = absurd (cc)
alone-other zero (suc j) l e = refl
alone-other (suc i) zero l e = refl
alone-other (suc i) (suc j) l e = alone-other i j l (sym (nat-below i j) ∙ e)

alone-below : {T : Type 0} (i j : ℕ) (l : Log T) (p : Path) → (if nat_eq i j then l p else []) ≡ log_below (alone i l) (j ∷ p)
unfolding alone
alone-below zero zero l p = refl
alone-below zero (suc j) l p = rw (zero-not j) refl
alone-below (suc i) zero l p = rw (suc-not i) refl
alone-below (suc i) (suc j) l p = ap (λ b. if b then l p else []) (nat-below i j) ∙ alone-below i j l p

alone-log : {T : Type 0} (i : ℕ) (l : Log T) → below_number i l ≡ with_meetings [] (log_below (alone i l))
alone-log {T} i l = fun_ext one
  where
    one : (p : Path) → below_number i l p ≡ with_meetings [] (log_below (alone i l)) p
    one [] = refl
    one (j ∷ p) = alone-below i j l p

no-log : {T : Type 0} → silent {T = T} ≡ with_meetings [] (log_below [])
no-log {T} = fun_ext one
  where
    one : (p : Path) → silent {T = T} p ≡ with_meetings [] (log_below []) p
    one [] = refl
    one (j ∷ p) = refl

-- a child by its number, or any
unfoldable pub state_or : {S : Type 0} → S → List S → ℕ → S
state_or any [] i = any
state_or any (s ∷ ss) zero = s
state_or any (s ∷ ss) (suc i) = state_or any ss i

pub state-of : {S : Type 0} (any : S) (ss : List S) (i : ℕ) (s : S) → get ss i ≡ Some s → s ≡ state_or any ss i
unfolding state_or
state-of any [] i s e = absurd (cc)
state-of any (x ∷ ss) zero s e = some-of s x (sym e)
state-of any (x ∷ ss) (suc i) s e = state-of any ss i s e

-- what a refinement takes came through the own inputs of its ports
picked-exact : {T : Type 0} (ps : List ℕ) (inputs : Streams T) (q : ℕ) (ts : ℕ → List (Turned T)) → IsPrefix (at (picked ps inputs) q) (gives_in inputs ts (as_own (get ps q)))
picked-exact [] inputs q ts = tt
picked-exact (p ∷ ps) inputs zero ts = IsPrefix-refl (at inputs p)
picked-exact (p ∷ ps) inputs (suc q) ts = picked-exact ps inputs q ts

module _ {T S : Type 0} (chart : Chart T) (facts : Facts T S) (step : Stepping T S) (made : ℕ) (tag : Tag) (m : Modes T) (ks : List S) (inputs : Streams T) (any : S) (ms : List Meeting) where
  -- an entry that may be reset
  changed : {B : Type 0} (i : ℕ) (f : B → B) (xs : List B) (j : ℕ) (y : B) → get (change_at i f xs) j ≡ Some y → (x : B) × (get xs j ≡ Some x) × ((y ≡ x) ⊎ ((i ≡ j) × (y ≡ f x)))
  changed i f [] j y e = absurd (cc)
  changed zero f (x ∷ xs) zero y e = (x, refl, inr (refl, some-of y (f x) (sym e)))
  changed zero f (x ∷ xs) (suc j) y e = (y, e, inl refl)
  changed (suc i) f (x ∷ xs) zero y e = (x, refl, inl (some-of y x (sym e)))
  changed {B} (suc i) f (x ∷ xs) (suc j) y e = up (changed i f xs j y e)
    where
      up : ((x : B) × (get xs j ≡ Some x) × ((y ≡ x) ⊎ ((i ≡ j) × (y ≡ f x)))) → (x : B) × (get xs j ≡ Some x) × ((y ≡ x) ⊎ ((suc i ≡ suc j) × (y ≡ f x)))
      up (a, b, inl c) = (a, b, inl c)
      up (a, b, inr c) = (a, b, inr (ap (λ v. suc v) c.0, c.1))

  reset-either : (o : Option ℕ) (keeps : Bool) (xs : List S) (j : ℕ) (y : S) → get (change_if o (reset_unless keeps facts.reset) xs) j ≡ Some y → (x : S) × (get xs j ≡ Some x) × ((y ≡ x) ⊎ (y ≡ facts.reset x))
  reset-either None keeps xs j y e = (y, e, inl refl)
  reset-either (Some i) true xs j y e = let r = changed i (reset_unless true facts.reset) xs j y e in (r.0, r.1, same r.2)
    where
      same : (y ≡ (changed i (reset_unless true facts.reset) xs j y e).0) ⊎ ((i ≡ j) × (y ≡ (changed i (reset_unless true facts.reset) xs j y e).0)) → (y ≡ (changed i (reset_unless true facts.reset) xs j y e).0) ⊎ (y ≡ facts.reset (changed i (reset_unless true facts.reset) xs j y e).0)
      same (inl a) = inl a
      same (inr a) = inl a.1
  reset-either (Some i) false xs j y e = let r = changed i (reset_unless false facts.reset) xs j y e in (r.0, r.1, same r.2)
    where
      same : (y ≡ (changed i (reset_unless false facts.reset) xs j y e).0) ⊎ ((i ≡ j) × (y ≡ facts.reset (changed i (reset_unless false facts.reset) xs j y e).0)) → (y ≡ (changed i (reset_unless false facts.reset) xs j y e).0) ⊎ (y ≡ facts.reset (changed i (reset_unless false facts.reset) xs j y e).0)
      same (inl a) = inl a
      same (inr a) = inr a.1

  change-long : {B : Type 0} (i : ℕ) (f : B → B) (xs : List B) → length (change_at i f xs) ≡ length xs
  change-long i f [] = refl
  change-long zero f (x ∷ xs) = refl
  change-long (suc i) f (x ∷ xs) = ap (λ n. suc n) (change-long i f xs)

  changes-long : {B : Type 0} (o : Option ℕ) (f : B → B) (xs : List B) → length (change_if o f xs) ≡ length xs
  changes-long None f xs = refl
  changes-long (Some i) f xs = change-long i f xs

  abbrev Ends : (ℕ → List (Turned T)) → List S → Outcome T (Inside (Modes T) S) → Type 0
  Ends turns zs r = IfDone facts inputs (Modal chart m) (Modal chart) ks turns (λ i. None) (λ i. state_or any zs i) r

  -- each refinement takes what came through the own inputs of its ports
  AllFed : (ℕ → List (Turned T)) → Type 0
  AllFed turns = (i q : ℕ) → IsPrefix (of_turns (inputs_at q) (turns i)) (gives_in inputs turns (as_own (get (chart.in_ports i) q)))

  same-plan : (x y : Modes T) → IsSamePlan (Modal chart x) (Modal chart y)
  same-plan x y = record { sources = λ i q. refl; modal = refl; keeps = refl }

  not-kept : false ≡ true → ⊥
  not-kept e = cc

  taken-ends : (turns : ℕ → List (Turned T)) → AllFed turns → (zs : List S) → length zs ≡ length ks → (early : Bool) (n : ℕ) (l : Log T) (a : Acted T) → Ends turns zs (taken chart facts step made tag early n m zs l a)
  unfolding AllFed
  taken-ends turns fed zs e early n l (Fails code) = tt
  taken-ends turns fed zs e early n l (Acts out values) = record {
    whole = λ i. refl;
    wired = tt;
    count = changes-long _ _ zs ∙ e;
    kids = λ i y g. let r = reset-either _ _ zs i y g in at_end i y r.0 (state-of any zs i r.0 r.1) r.2;
    same_plan = same-plan _ m;
    counted = fed;
    left = λ g. absurd (not-kept g);
  }
    where
      at_end : (i : ℕ) (y x : S) → x ≡ state_or any zs i → (y ≡ x) ⊎ (y ≡ facts.reset x) → (y ≡ state_or any zs i) ⊎ ((true ≡ true) × (y ≡ facts.reset (state_or any zs i)))
      at_end i y x s (inl a) = inl (a ∙ s)
      at_end i y x s (inr b) = inr (refl, b ∙ ap (λ v. facts.reset v) s)

  after-ends : (turns : ℕ → List (Turned T)) → AllFed turns → (zs : List S) → length zs ≡ length ks → (out : Streams T) (l : Log T) (c : Choice) → Ends turns zs (afterwards chart facts step made tag m zs inputs out l c)
  unfolding AllFed
  after-ends turns fed zs e out l Nothing = record { same_plan = same-plan m m; counted = fed; left = λ g. absurd (not-kept g); whole = λ i. refl; wired = tt; count = e; kids = λ i y g. inl (state-of any zs i y g) }
  after-ends turns fed zs e out l (One n) = taken-ends turns fed zs e false n l (chart.act false m.mode n m.values inputs out)
  after-ends turns fed zs e out l (Wrong code) = tt

  taken-log : (early : Bool) (n : ℕ) (zs : List S) (l : Log T) (a : Acted T) → log_in (taken chart facts step made tag early n m zs l a) ≡ l
  taken-log early n zs l (Acts out values) = refl
  taken-log early n zs l (Fails code) = refl

  after-log : (zs : List S) (out : Streams T) (l : Log T) (c : Choice) → log_in (afterwards chart facts step made tag m zs inputs out l c) ≡ l
  after-log zs out l Nothing = refl
  after-log zs out l (One n) = taken-log false n zs l (chart.act false m.mode n m.values inputs out)
  after-log zs out l (Wrong code) = refl

  Explains : Outcome T (Inside (Modes T) S) → Type 0
  Explains r = Explained facts step ms made tag inputs (Modal chart m) (Modal chart) ks r

  -- no child fires
  none-fires : (r : Outcome T (Inside (Modes T) S)) → log_in r ≡ silent → Ends (λ i. []) ks r → Explains r
  unfolding Explains
  none-fires r e h = record {
    events = [];
    bare = λ v g. absurd g;
    quiet = refl;
    logs = [];
    log = e ∙ no-log;
    turns = λ i. [];
    way = λ i. None;
    ends = λ i. state_or any ks i;
    parts = λ i s g. record { first = silent; rest = silent; chain = (sym (state-of any ks i s g), refl); ends = refl; whole = refl };
    beyond = λ i g. (refl, refl, refl);
    tagged = λ i b g. absurd (no-begun b g);
    counted = λ i q. inl tt;
    asked = λ i b g. absurd (no-begun b g);
    done = h;
  }
    where
      no-begun : (b : Begun T) → None ≡ Some b → ⊥
      no-begun b e = cc

  -- child i alone fires
  one_turn : ℕ → Turned T → ℕ → List (Turned T)
  one_turn i t j = if nat_eq i j then t ∷ [] else []

  one_way : ℕ → Begun T → ℕ → Option (Begun T)
  one_way i b j = if nat_eq i j then Some b else None

  same-number : (i j : ℕ) → nat_eq i j ≡ true → i ≡ j
  same-number i j e = grind (arith, nat_tests, e)

  put-here : (i : ℕ) (z : S) (xs : List S) (s : S) → get xs i ≡ Some s → state_or any (change_at i (put_state chart facts step z) xs) i ≡ z
  unfolding state_or
  put-here i z [] s e = absurd (cc)
  put-here zero z (x ∷ xs) s e = refl
  put-here (suc i) z (x ∷ xs) s e = put-here i z xs s e

  put-there : (i j : ℕ) (z : S) (xs : List S) (s : S) → nat_eq i j ≡ false → get xs j ≡ Some s → state_or any (change_at i (put_state chart facts step z) xs) j ≡ s
  unfolding state_or
  put-there i j z [] s n e = absurd (cc)
  put-there zero zero z (x ∷ xs) s n e = absurd (cc)
  put-there zero (suc j) z (x ∷ xs) s n e = sym (state-of any xs j s e)
  put-there (suc i) zero z (x ∷ xs) s n e = some-of x s e
  put-there (suc i) (suc j) z (x ∷ xs) s n e = put-there i j z xs s (sym (nat-below i j) ∙ n) e

  within-list : (xs : List S) (i j : ℕ) (s : S) → get xs i ≡ Some s → length xs ≤ j → nat_eq i j ≡ false
  within-list [] i j s e h = absurd (cc)
  within-list (x ∷ xs) zero zero s e h = absurd (omega arith)
  within-list (x ∷ xs) zero (suc j) s e h = zero-not j
  within-list (x ∷ xs) (suc i) zero s e h = absurd (omega arith)
  within-list (x ∷ xs) (suc i) (suc j) s e h = nat-below i j ∙ within-list xs i j s e (omega (arith, h))

  module _ (i : ℕ) (s : S) (e : get ks i ≡ Some s) (t : Tag) (lagging : t ≡ local tag (lag_of m.stays i)) (calm : chosen 0 (chart.preemptive m.mode m.values inputs) ≡ Nothing) (current : chart.refinement m.mode ≡ Some i) where
    abbrev got : Streams T
    got = picked (chart.in_ports i) inputs

    quiet-part : (j : ℕ) (z : S) → get ks j ≡ Some z → (y : S) → y ≡ z → (l : Log T) → l ≡ silent → PartOf facts step z l [] None y
    quiet-part j z g y same l quiet = record { first = silent; rest = silent; chain = (same, refl); ends = refl; whole = quiet }

    turn-fed : (i : ℕ) (turn : Turned T) → turn.record_of.inputs ≡ picked (chart.in_ports i) inputs → AllFed (one_turn i turn)
    unfolding AllFed one_turn
    turn-fed i turn w j q = go (nat_eq i j) refl
      where
        go : (b : Bool) → nat_eq i j ≡ b → IsPrefix (of_turns (inputs_at q) (if b then turn ∷ [] else [])) (gives_in inputs (λ j. if nat_eq i j then turn ∷ [] else []) (as_own (get (chart.in_ports j) q)))
        go false n = tt
        go true n =
            subst (λ v. IsPrefix v (gives_in inputs (λ j. if nat_eq i j then turn ∷ [] else []) (as_own (get (chart.in_ports j) q)))) (sym (append-nil (at turn.record_of.inputs q) ∙ ap (λ (Y : Streams T). at Y q) w))
            (subst (λ v. IsPrefix (at (picked (chart.in_ports i) inputs) q) (gives_in inputs (λ j. if nat_eq i j then turn ∷ [] else []) (as_own (get (chart.in_ports v) q)))) (same-number i j n) (picked-exact (chart.in_ports i) inputs q (λ j. if nat_eq i j then turn ∷ [] else [])))

    -- its firing is done
    fires-done : (z : S) (out : Streams T) (l : Log T) → step t s got ≡ Done z out l → (r : Outcome T (Inside (Modes T) S)) → log_in r ≡ below_number i (log_then l (own (record { number = facts.made s; tag = t; inputs = got; outputs = out }))) →
        Ends (one_turn i (record { record_of = record { number = facts.made s; tag = t; inputs = got; outputs = out }; inside = l })) (change_at i (put_state chart facts step z) ks) r → Explains r
    unfolding Explains one_turn AllFed
    fires-done z out l d r log ends = record {
      events = [];
      bare = λ v g. absurd g;
      quiet = refl;
      logs = alone i L;
      log = log ∙ alone-log i L;
      turns = one_turn i turn;
      way = λ j. None;
      ends = λ j. state_or any (change_at i (put_state chart facts step z) ks) j;
      parts = λ j y g. part_by j y g (nat_eq i j) refl;
      beyond = λ j h. let n : nat_eq i j ≡ false = within-list ks i j s e h in (alone-other i j L n, ap (λ b. if b then turn ∷ [] else []) n, refl);
      tagged = λ j b g. absurd (no-begun b g);
      counted = λ j q. inl (subst (λ v. IsPrefix v (gives_in inputs (one_turn i turn) (as_own (get (chart.in_ports j) q)))) (sym (append-nil (of_turns (inputs_at q) (one_turn i turn j)))) (turn-fed i turn refl j q));
      asked = λ j b g. absurd (no-begun b g);
      done = ends;
    }
      where
        no-begun : (b : Begun T) → None ≡ Some b → ⊥
        no-begun b e = cc

        turn : Turned T
        turn = record { record_of = record { number = facts.made s; tag = t; inputs = got; outputs = out }; inside = l }

        L : Log T
        L = log_then l (own turn.record_of)

        part_by : (j : ℕ) (y : S) → get ks j ≡ Some y → (b : Bool) → nat_eq i j ≡ b → PartOf facts step y (log_at (alone i L) j) (if nat_eq i j then turn ∷ [] else []) None (state_or any (change_at i (put_state chart facts step z) ks) j)
        part_by j y g false n =
            subst (λ ts. PartOf facts step y (log_at (alone i L) j) ts None (state_or any (change_at i (put_state chart facts step z) ks) j)) (sym (ap (λ b. if b then turn ∷ [] else []) n))
            (quiet-part j y g (state_or any (change_at i (put_state chart facts step z) ks) j) (put-there i j z ks y n g) (log_at (alone i L) j) (alone-other i j L n))
        part_by j y g true n =
            let same : i ≡ j = same-number i j n in
            let child : s ≡ y = some-of s y (sym e ∙ ap (λ v. get ks v) same ∙ g) in
            subst (λ ts. PartOf facts step y (log_at (alone i L) j) ts None (state_or any (change_at i (put_state chart facts step z) ks) j)) (sym (ap (λ b. if b then turn ∷ [] else []) n))
            (subst (λ v. PartOf facts step y (log_at (alone i L) v) (turn ∷ []) None (state_or any (change_at i (put_state chart facts step z) ks) v)) same
            (subst (λ v. PartOf facts step v (log_at (alone i L) i) (turn ∷ []) None (state_or any (change_at i (put_state chart facts step z) ks) i)) child (record {
              first = log_then L silent;
              rest = silent;
              chain = (z, silent, refl, d, (put-here i z ks s e, refl), refl);
              ends = refl;
              whole = alone-at i L ∙ fun_ext (λ p. sym (append-nil (L p)) ∙ sym (append-nil (L p ++ [])));
            })))

    -- its firing is stuck
    fires-stuck : (fs : List Fault) (l : Log T) → step t s got ≡ Stuck fs l → (gs : List Fault) → Explains (Stuck gs (below_number i l))
    unfolding Explains one_way
    fires-stuck fs l d gs = record {
      events = [];
      bare = λ v g. absurd g;
      quiet = refl;
      logs = alone i l;
      log = alone-log i l;
      turns = λ j. [];
      way = one_way i begun;
      ends = λ j. state_or any ks j;
      parts = λ j y g. part_by j y g (nat_eq i j) refl;
      beyond = λ j h. let n : nat_eq i j ≡ false = within-list ks i j s e h in (alone-other i j l n, refl, ap (λ b. if b then Some begun else None) n);
      tagged = λ j b g. tagged_by j b (nat_eq i j) g;
      counted = λ j q. inl (fed_by j q (nat_eq i j) refl);
      asked = λ j b g. asked_by j b (nat_eq i j) refl g;
      done = tt;
    }
      where
        begun : Begun T
        begun = record { tag = t; inputs = got }

        tagged_by : (j : ℕ) (b : Begun T) (v : Bool) → (if v then Some begun else None) ≡ Some b → (lag : ℕ) × (b.tag ≡ local tag lag)
        tagged_by j b true g = (lag_of m.stays i, ap (λ (w : Begun T). w.tag) (sym (some-of begun b g)) ∙ lagging)
        tagged_by j b false g = absurd (clash g)
          where
            clash : None ≡ Some b → ⊥
            clash e = cc

        asked_by : (j : ℕ) (b : Begun T) (v : Bool) → nat_eq i j ≡ v → (if v then Some begun else None) ≡ Some b → IsAsked facts step ms made (Modal chart m) ks tag inputs j (state_or any ks j) b.tag b.inputs
        asked_by j b true n g =
            let here : IsAsked facts step ms made (Modal chart m) ks tag inputs i (state_or any ks i) begun.tag begun.inputs = (lagging, calm, current, e ∙ ap (λ v. Option.Some v) (state-of any ks i s e), refl) in
            subst (λ (w : Begun T). IsAsked facts step ms made (Modal chart m) ks tag inputs j (state_or any ks j) w.tag w.inputs) (some-of begun b g)
            (subst (λ v. IsAsked facts step ms made (Modal chart m) ks tag inputs v (state_or any ks v) begun.tag begun.inputs) (same-number i j n) here)
        asked_by j b false n g = absurd (clash g)
          where
            clash : None ≡ Some b → ⊥
            clash e = cc

        fed_by : (j q : ℕ) (v : Bool) → nat_eq i j ≡ v → IsPrefix (begun_at (if nat_eq i j then Some begun else None) q) (gives_in inputs (λ k. []) (as_own (get (chart.in_ports j) q)))
        fed_by j q false n = subst (λ b. IsPrefix (begun_at (if b then Some begun else None) q) (gives_in inputs (λ k. []) (as_own (get (chart.in_ports j) q)))) (sym n) tt
        fed_by j q true n =
            subst (λ b. IsPrefix (begun_at (if b then Some begun else None) q) (gives_in inputs (λ k. []) (as_own (get (chart.in_ports j) q)))) (sym n)
            (subst (λ v. IsPrefix (at (picked (chart.in_ports i) inputs) q) (gives_in inputs (λ k. []) (as_own (get (chart.in_ports v) q)))) (same-number i j n) (picked-exact (chart.in_ports i) inputs q (λ k. [])))

        part_by : (j : ℕ) (y : S) → get ks j ≡ Some y → (b : Bool) → nat_eq i j ≡ b → PartOf facts step y (log_at (alone i l) j) [] (if nat_eq i j then Some begun else None) (state_or any ks j)
        part_by j y g false n =
            subst (λ w. PartOf facts step y (log_at (alone i l) j) [] w (state_or any ks j)) (sym (ap (λ b. if b then Some begun else None) n)) (quiet-part j y g (state_or any ks j) (sym (state-of any ks j y g)) (log_at (alone i l) j) (alone-other i j l n))
        part_by j y g true n =
            let same : i ≡ j = same-number i j n in
            let child : s ≡ y = some-of s y (sym e ∙ ap (λ v. get ks v) same ∙ g) in
            subst (λ w. PartOf facts step y (log_at (alone i l) j) [] w (state_or any ks j)) (sym (ap (λ b. if b then Some begun else None) n))
            (subst (λ v. PartOf facts step y (log_at (alone i l) v) [] (Some begun) (state_or any ks v)) same
            (subst (λ v. PartOf facts step v (log_at (alone i l) i) [] (Some begun) (state_or any ks i)) child (record {
              first = silent;
              rest = l;
              chain = (sym (state-of any ks i s e), refl);
              ends = sym (ap (λ v. log_in v) (ap (λ v. step t v got) (sym (state-of any ks i s e)) ∙ d));
              whole = alone-at i l;
            })))

    -- whichever it is
    refinement-explained : (o : Outcome T S) → step t s got ≡ o → Explains (on_refinement chart facts step made tag i m ks inputs (recorded (facts.made s) t got o))
    refinement-explained (Stuck fs l) d = fires-stuck fs l d (prefixed i fs)
    refinement-explained (Done z out l) d =
        let given = shown (chart.out_ports i) out in
        let zs = change_at i (put_state chart facts step z) ks in
        let L : Log T = below_number i (log_then l (own (record { number = facts.made s; tag = t; inputs = got; outputs = out }))) in
        fires-done z out l d (afterwards chart facts step made tag m zs inputs given L (chosen 0 (chart.others m.mode m.values inputs given))) (after-log zs given L (chosen 0 (chart.others m.mode m.values inputs given)))
        (after-ends _ (turn-fed i (record { record_of = record { number = facts.made s; tag = t; inputs = got; outputs = out }; inside = l }) refl) zs (change-long i (put_state chart facts step z) ks) given L (chosen 0 (chart.others m.mode m.values inputs given)))

  none-fed : AllFed (λ i. [])
  unfolding AllFed
  none-fed i q = tt

  Calm : Type 0
  Calm = chosen 0 (chart.preemptive m.mode m.values inputs) ≡ Nothing

  at-explained : (i : ℕ) (o : Option S) → get ks i ≡ o → Calm → chart.refinement m.mode ≡ Some i → Explains (at_refinement chart facts step made tag m ks inputs i o)
  unfolding Calm
  at-explained i None e calm r = none-fires (Stuck [] silent) refl tt
  at-explained i (Some s) e calm r = refinement-explained i s e (local tag (lag_of m.stays i)) refl calm r (step (local tag (lag_of m.stays i)) s (picked (chart.in_ports i) inputs)) refl

  with-explained : (o : Option ℕ) → chart.refinement m.mode ≡ o → Calm → Explains (with_refinement chart facts step made tag m ks inputs o)
  with-explained None r calm = none-fires (afterwards chart facts step made tag m ks inputs (unfired_outputs chart) silent (chosen 0 (chart.others m.mode m.values inputs (unfired_outputs chart)))) (after-log ks (unfired_outputs chart) silent (chosen 0 (chart.others m.mode m.values inputs (unfired_outputs chart)))) (after-ends (λ i. []) none-fed ks refl (unfired_outputs chart) silent (chosen 0 (chart.others m.mode m.values inputs (unfired_outputs chart))))
  with-explained (Some i) r calm = at-explained i (get ks i) refl calm r

  cases-explained : (c : Choice) → chosen 0 (chart.preemptive m.mode m.values inputs) ≡ c → Explains (preempted chart facts step made tag m ks inputs c)
  unfolding Calm
  cases-explained Nothing e = with-explained (chart.refinement m.mode) refl e
  cases-explained (One n) e = none-fires (taken chart facts step made tag true n m ks silent (chart.act true m.mode n m.values inputs (unfired_outputs chart))) (taken-log true n ks silent (chart.act true m.mode n m.values inputs (unfired_outputs chart))) (taken-ends (λ i. []) none-fed ks refl true n silent (chart.act true m.mode n m.values inputs (unfired_outputs chart)))
  cases-explained (Wrong code) e = none-fires (stuck chart facts step made code silent) refl tt

  pub modal-explained : Explained facts step ms made tag inputs (Modal chart m) (Modal chart) ks (modal chart facts step made tag m ks inputs)
  unfolding Explains
  modal-explained = cases-explained (chosen 0 (chart.preemptive m.mode m.values inputs)) refl
