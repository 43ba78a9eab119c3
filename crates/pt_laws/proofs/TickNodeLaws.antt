-- From a tick under way to the firing of its composite, and the turns of the children.
use Rattle.std.proofs.Common.{◌≡◌, ℕ, zero, suc, max, ◌<◌, List, [], ◌∷◌, ◌++◌, length, take, drop, get_or, refl, sym, ap, ap₂, subst, arith, ◌∙◌, append-nil}
use Rattle.std.proofs.Math.Path.{fun_ext}
use Rattle.pt_meaning.specs.Basics.{Tag, Streams, at, joined, Log, LogBelow, silent, log_then, log_below, within_firing}
use Rattle.pt_meaning.specs.Basics as basics
use Rattle.pt_meaning.specs.Machine.{Fault, Outcome, Done, Stuck, Stepping, Facts, recorded}
use Rattle.pt_meaning.specs.Tick.{sr_active, sr_turn, de_early, de_active, de_turn, by_rows, follows, and_then, heads, tails, rows_from, longest}
use Rattle.pt_meaning.specs.Meetings.{Meets, below_child}
use Rattle.pt_meaning.specs.Children.{numbered, child_facts}
use Rattle.pt_meaning.specs.Node.{Rows, Sr, De, list_of, facts_of, step_at}
use Rattle.pt_laws.specs.LogsOfRuns.{log_in}
use Rattle.pt_laws.specs.CompositeRuns.{steps_below}
use Rattle.pt_laws.specs.CompositeTicks.{SrTurns, DeTurns, RowsGoOn, RowsAre, SrEnds, DeEnds, SrLacks, DeLacks, SrSticks, DeSticks, SrIsPrefix, DeIsPrefix}
use Rattle.pt_meaning.specs.Laws.{KeepsEarly}
use Rattle.pt_meaning.specs.Lawful.{LawfulRows}
use Rattle.pt_laws.proofs.JoinLaws.{joined-assoc, log-assoc}
use Rattle.pt_laws.proofs.TickLaws.{EarlySteps, sr-keeps, de-keeps}
use Rattle.pt_laws.proofs.FuelLaw.{keeps, follows-rows, within-below}
use Rattle.pt_laws.proofs.HeightLaws.{numbered-length}
use Rattle.pt_laws.proofs.CompositeLaws.{as-done, as-stuck, log-as-node, below-stuck}
use Rattle.pt_laws.proofs.TickRunLaws.{tick-ends, tick-lacks, tick-sticks, tick-is-prefix}

-- turns
pub sr-turns : {T S : Type 0} → SrTurns T S
sr-turns = record {
  done = λ facts step tag s X s' out l e a. rw (e, a) refl;
  twice = λ facts step tag s X s' out l e a. rw (e, a) refl;
  stuck = λ facts step tag s X fs l e. rw e refl;
}

pub de-turns : {T S : Type 0} → DeTurns T S
de-turns = record { whole = λ facts step tag s X e. rw e refl; rows = λ facts step tag s X e. rw e refl }

-- rows
follows-twice : {T S : Type 0} (out : Streams T) (l : Log T) (o : Streams T) (k : Log T) (r : Outcome T S) → follows out l (follows o k r) ≡ follows (joined out o) (log_then l k) r
follows-twice {T} {S} out l o k (Done s more n) = ap₂ (λ (x : Streams T) (y : Log T). let r : Outcome T S = Done s x y in r) (joined-assoc out o more) (log-assoc l k n)
follows-twice {T} {S} out l o k (Stuck fs n) = ap (λ (y : Log T). let r : Outcome T S = Stuck fs y in r) (log-assoc l k n)

then-then : {T S : Type 0} (f g : S → Outcome T S) (r : Outcome T S) → and_then (λ s. and_then g (f s)) r ≡ and_then g (and_then f r)
then-then {T} {S} f g (Done s out l) = inner (f s)
  where
    inner : (q : Outcome T S) → follows out l (and_then g q) ≡ and_then g (follows out l q)
    inner (Done z o k) = follows-twice out l o k (g z)
    inner (Stuck fs k) = refl
then-then f g (Stuck fs l) = refl

rows-append : {T S : Type 0} (facts : Facts T S) (step : Stepping T S) (tag : Tag) (Xs Ys : List (Streams T)) (s : S) → by_rows facts step tag (Xs ++ Ys) s ≡ and_then (by_rows facts step tag Ys) (by_rows facts step tag Xs s)
rows-append {T} {S} facts step tag [] Ys s = sym (nothing (by_rows facts step tag Ys s))
  where
    nothing : (r : Outcome T S) → follows [] silent r ≡ r
    nothing (Done z o l) = refl
    nothing (Stuck fs l) = refl
rows-append {T} {S} facts step tag (X ∷ Xs) Ys s =
    same (λ z. rows-append facts step tag Xs Ys z) (recorded (facts.made s) tag X (step tag s X)) ∙ then-then (by_rows facts step tag Xs) (by_rows facts step tag Ys) (recorded (facts.made s) tag X (step tag s X))
  where
    same : ((z : S) → by_rows facts step tag (Xs ++ Ys) z ≡ and_then (by_rows facts step tag Ys) (by_rows facts step tag Xs z)) → (r : Outcome T S) → and_then (by_rows facts step tag (Xs ++ Ys)) r ≡ and_then (λ z. and_then (by_rows facts step tag Ys) (by_rows facts step tag Xs z)) r
    same ih (Done z o l) = ap (λ q. follows o l q) (ih z)
    same ih (Stuck fs l) = refl

row-done : {T S : Type 0} (facts : Facts T S) (step : Stepping T S) (tag : Tag) (s z : S) (Xs : List (Streams T)) (X : Streams T) (out : Streams T) (l : Log T) (z' : S) (more : Streams T) (k : Log T) → by_rows facts step tag Xs s ≡ Done z out l → step tag z X ≡ Done z' more k →
    by_rows facts step tag (Xs ++ (X ∷ [])) s ≡ Done z' (joined out more) (log_then l (log_then k (basics.own (record { number = facts.made z; tag = tag; inputs = X; outputs = more }))))
row-done {T} {S} facts step tag s z Xs X out l z' more k e d =
    rows-append facts step tag Xs (X ∷ []) s ∙ ap (λ r. and_then (by_rows facts step tag (X ∷ [])) r) e ∙ ap (λ r. follows out l (and_then (by_rows facts step tag []) (recorded (facts.made z) tag X r))) d ∙
    ap₂ (λ (x : Streams T) (y : Log T). let r : Outcome T S = Done z' (joined out x) (log_then l y) in r) (joined-nothing more) (log-nothing (log_then k (basics.own (record { number = facts.made z; tag = tag; inputs = X; outputs = more }))))
  where
    joined-nothing : (X : Streams T) → joined X [] ≡ X
    joined-nothing [] = refl
    joined-nothing (x ∷ X) = refl

    log-nothing : (n : Log T) → log_then n silent ≡ n
    log-nothing n = fun_ext (λ p. append-nil (n p))

row-stuck : {T S : Type 0} (facts : Facts T S) (step : Stepping T S) (tag : Tag) (s z : S) (Xs : List (Streams T)) (X : Streams T) (Ys : List (Streams T)) (out : Streams T) (l : Log T) (fs : List Fault) (k : Log T) → by_rows facts step tag Xs s ≡ Done z out l → step tag z X ≡ Stuck fs k →
    by_rows facts step tag (Xs ++ (X ∷ Ys)) s ≡ Stuck fs (log_then l k)
row-stuck facts step tag s z Xs X Ys out l fs k e d =
    rows-append facts step tag Xs (X ∷ Ys) s ∙ ap (λ r. and_then (by_rows facts step tag (X ∷ Ys)) r) e ∙ ap (λ r. follows out l (and_then (by_rows facts step tag Ys) (recorded (facts.made z) tag X r))) d

pub rows-go-on : {T S : Type 0} → RowsGoOn T S
rows-go-on = record { begins = λ facts step tag s. refl; done = row-done; stuck = row-stuck }

heads-at : {T : Type 0} (X : Streams T) (p : ℕ) → at (heads X) p ≡ take 1 (at X p)
heads-at [] p = refl
heads-at ([] ∷ X) zero = refl
heads-at ((x ∷ xs) ∷ X) zero = refl
heads-at ([] ∷ X) (suc p) = heads-at X p
heads-at ((x ∷ xs) ∷ X) (suc p) = heads-at X p

tails-at : {T : Type 0} (X : Streams T) (p : ℕ) → at (tails X) p ≡ drop 1 (at X p)
tails-at [] p = refl
tails-at ([] ∷ X) zero = refl
tails-at ((x ∷ xs) ∷ X) zero = refl
tails-at ([] ∷ X) (suc p) = tails-at X p
tails-at ((x ∷ xs) ∷ X) (suc p) = tails-at X p

heads-long : {T : Type 0} (X : Streams T) → length (heads X) ≡ length X
heads-long [] = refl
heads-long ([] ∷ X) = ap (λ n. suc n) (heads-long X)
heads-long ((x ∷ xs) ∷ X) = ap (λ n. suc n) (heads-long X)

tails-long : {T : Type 0} (X : Streams T) → length (tails X) ≡ length X
tails-long [] = refl
tails-long ([] ∷ X) = ap (λ n. suc n) (tails-long X)
tails-long ((x ∷ xs) ∷ X) = ap (λ n. suc n) (tails-long X)

drop-one : {B : Type 0} (j : ℕ) (xs : List B) → drop j (drop 1 xs) ≡ drop (suc j) xs
drop-one zero [] = refl
drop-one (suc j) [] = refl
drop-one j (x ∷ xs) = refl

row-at : {T : Type 0} (n : ℕ) (X : Streams T) (j p : ℕ) → j < n → at (get_or (rows_from n X) j []) p ≡ take 1 (drop j (at X p))
row-at zero X j p l = absurd (omega arith)
row-at (suc n) X zero p l = heads-at X p
row-at (suc n) X (suc j) p l = row-at n (tails X) j p (omega (arith, l)) ∙ ap (λ v. take 1 (drop j v)) (tails-at X p) ∙ ap (λ v. take 1 v) (drop-one j (at X p))

row-long : {T : Type 0} (n : ℕ) (X : Streams T) (j : ℕ) → j < n → length (get_or (rows_from n X) j []) ≡ length X
row-long zero X j l = absurd (omega arith)
row-long (suc n) X zero l = heads-long X
row-long (suc n) X (suc j) l = row-long n (tails X) j (omega (arith, l)) ∙ tails-long X

rows-long : {T : Type 0} (n : ℕ) (X : Streams T) → length (rows_from n X) ≡ n
rows-long zero X = refl
rows-long (suc n) X = ap (λ v. suc v) (rows-long n (tails X))

pub rows-are : {T : Type 0} → RowsAre T
rows-are = record { count = λ X. rows-long (max 1 (longest X)) X; row = λ X j p l. row-at (max 1 (longest X)) X j p l; width = λ X j l. row-long (max 1 (longest X)) X j l }

-- the early answers of the children of a node
module _ {T A : Type 0} (rows : Rows T A) (law : LawfulRows rows) (k d : ℕ) (m : Meets) where
  pub early-steps : EarlySteps (child_facts (facts_of rows)) (steps_below rows k d m)
  early-steps = keeps rows law (λ i. step_at rows k d (below_child i m)) (follows-rows rows k d (λ i. below_child i m))

  pub sr-early : KeepsEarly (child_facts (facts_of rows)).early sr_active (sr_turn (child_facts (facts_of rows)) (steps_below rows k d m))
  sr-early = sr-keeps (child_facts (facts_of rows)) (steps_below rows k d m) early-steps

  pub de-early : KeepsEarly (de_early (child_facts (facts_of rows))) (de_active (child_facts (facts_of rows))) (de_turn (child_facts (facts_of rows)) (steps_below rows k d m))
  de-early = de-keeps (child_facts (facts_of rows)) (steps_below rows k d m) early-steps

pub sr-ends : {T A : Type 0} → SrEnds T A
unfolding step_at
sr-ends rows law k d m tag h c p kids inputs child V news outs ls r w knows fired l =
    as-done tag h c (λ X. Sr p) _ _ _ _ (tick-ends _ _ _ tag (sr-early rows law k d m) p.net (record { path = []; firing = h.made; code = 36 } ∷ []) (numbered 0 (list_of kids)) inputs child V news outs ls r w knows fired k l)

pub de-ends : {T A : Type 0} → DeEnds T A
unfolding step_at
de-ends rows law k d m tag h c p kids inputs child V news outs ls r w knows fired l =
    as-done tag h c (λ X. De p) _ _ _ _ (tick-ends _ _ _ tag (de-early rows law k d m) p.net [] (numbered 0 (list_of kids)) inputs child V news outs ls r w knows fired k l)

pub sr-lacks : {T A : Type 0} → SrLacks T A
unfolding step_at
sr-lacks rows law k d m tag h c p kids inputs child V news outs ls r w knows fired i b e l =
    as-stuck tag h c (λ X. Sr p) _ _ _ (tick-lacks _ _ _ tag (sr-early rows law k d m) p.net (record { path = []; firing = h.made; code = 36 } ∷ []) (numbered 0 (list_of kids)) inputs child V news outs ls r w knows fired i b e k l)

pub de-lacks : {T A : Type 0} → DeLacks T A
unfolding step_at
de-lacks rows law k d m tag h c p kids inputs child V news outs ls r w knows fired i b e l =
    as-stuck tag h c (λ X. De p) _ _ _ (tick-lacks _ _ _ tag (de-early rows law k d m) p.net [] (numbered 0 (list_of kids)) inputs child V news outs ls r w knows fired i b e k l)

pub sr-is-prefix : {T A : Type 0} → SrIsPrefix T A
unfolding step_at
sr-is-prefix rows law k d m tag h c p kids inputs child V ls a b r logged l =
    subst (λ n. LogBelow (within_firing h.made (log_below ls)) n) (sym (log-as-node tag h c (λ X. Sr p) _))
    (within-below h.made _ _ (tick-is-prefix _ _ _ tag (sr-early rows law k d m) p.net (record { path = []; firing = h.made; code = 36 } ∷ []) (numbered 0 (list_of kids)) inputs child V ls (numbered-length 0 (list_of kids) ∙ a) b r logged k l))

pub de-is-prefix : {T A : Type 0} → DeIsPrefix T A
unfolding step_at
de-is-prefix rows law k d m tag h c p kids inputs child V ls a b r logged l =
    subst (λ n. LogBelow (within_firing h.made (log_below ls)) n) (sym (log-as-node tag h c (λ X. De p) _))
    (within-below h.made _ _ (tick-is-prefix _ _ _ tag (de-early rows law k d m) p.net [] (numbered 0 (list_of kids)) inputs child V ls (numbered-length 0 (list_of kids) ∙ a) b r logged k l))

pub sr-sticks : {T A : Type 0} → SrSticks T A
unfolding step_at
sr-sticks rows law k d m tag h c p kids inputs child V ls a b r logged i u X e fs n t f x l =
    let blame : List Fault = record { path = []; firing = h.made; code = 36 } ∷ [] in
    let stuck = tick-sticks _ _ _ tag (sr-early rows law k d m) p.net blame (numbered 0 (list_of kids)) inputs child V (numbered-length 0 (list_of kids) ∙ a) r i u X e refl fs n t f x k l in
    below-stuck _ i f h.made stuck.0 stuck.1 (log_below ls) (as-stuck tag h c (λ X. Sr p) _ _ _ stuck.2) stuck.3
    (subst (λ q. LogBelow (log_below ls) (log_in q)) stuck.2 (tick-is-prefix _ _ _ tag (sr-early rows law k d m) p.net blame (numbered 0 (list_of kids)) inputs child V ls (numbered-length 0 (list_of kids) ∙ a) b r logged k l))

pub de-sticks : {T A : Type 0} → DeSticks T A
unfolding step_at
de-sticks rows law k d m tag h c p kids inputs child V ls a b r logged i u X e active fs n t f x l =
    let stuck = tick-sticks _ _ _ tag (de-early rows law k d m) p.net [] (numbered 0 (list_of kids)) inputs child V (numbered-length 0 (list_of kids) ∙ a) r i u X e active fs n t f x k l in
    below-stuck _ i f h.made stuck.0 stuck.1 (log_below ls) (as-stuck tag h c (λ X. De p) _ _ _ stuck.2) stuck.3
    (subst (λ q. LogBelow (log_below ls) (log_in q)) stuck.2 (tick-is-prefix _ _ _ tag (de-early rows law k d m) p.net [] (numbered 0 (list_of kids)) inputs child V ls (numbered-length 0 (list_of kids) ∙ a) b r logged k l))
