-- A turn, row by row.
use Rattle.std.proofs.Common.{◌≡◌, ℕ, zero, suc, max, List, [], ◌∷◌, ◌++◌, Bool, true, false, take, drop, refl, sym, ap, ap₂, subst, ◌∙◌, arith, append-nil}
use Rattle.std.proofs.Math.Path.{fun_ext}
use Rattle.std.proofs.lemmas.List.{append_assoc}
use Rattle.pt_meaning.specs.Tag.{Tag}
use Rattle.pt_meaning.specs.Streams.{IsPrefix, Streams, at, joined}
use Rattle.pt_meaning.specs.Log.{Log, LogBelow, Firing, silent, log_then, own}
use Rattle.pt_meaning.specs.Machine.{Outcome, Done, Stuck, Stepping, Facts, recorded}
use Rattle.pt_meaning.specs.De.{de_turn, whole_or_rows, by_rows, rows_from, heads, tails, longest, follows, and_then}
use Rattle.pt_laws.specs.LogsOfRuns.{log_in}
use Rattle.pt_laws.specs.Explained.{Turned, ChainOf, of_turns}
use Rattle.pt_laws.proofs.JoinLaws.{joined-assoc, log-assoc}
use Rattle.pt_laws.proofs.Order.{IsPrefix-refl, IsPrefix-trans, IsPrefix-after, IsPrefix-append}
use Rattle.pt_de_laws.specs.State.{rows_for}
use Rattle.pt_de_laws.specs.Chain.{of_rows}

log-nothing : {T : Type 0} (n : Log T) → log_then n silent ≡ n
log-nothing n = fun_ext (λ p. append-nil (n p))

joined-nothing : {T : Type 0} (X : Streams T) → joined X [] ≡ X
joined-nothing [] = refl
joined-nothing (x ∷ X) = refl

-- one firing on the whole lists is that of one row
one-row : {T S : Type 0} (facts : Facts T S) (step : Stepping T S) (tag : Tag) (r : Outcome T S) → and_then (by_rows facts step tag []) r ≡ r
one-row {T} {S} facts step tag (Done s out l) = ap₂ (λ (x : Streams T) (y : Log T). let r : Outcome T S = Done s x y in r) (joined-nothing out) (log-nothing l)
one-row facts step tag (Stuck fs l) = refl

-- a turn is a firing for each of its rows
pub turn-is : {T S : Type 0} (facts : Facts T S) (step : Stepping T S) (tag : Tag) (s : S) (X : Streams T) → de_turn facts step tag s X ≡ by_rows facts step tag (rows_for (facts.whole s) X) s
turn-is facts step tag s X = by (facts.whole s)
  where
    by : (b : Bool) → whole_or_rows b facts step tag s X ≡ by_rows facts step tag (rows_for b X) s
    by true = sym (one-row facts step tag (recorded (facts.made s) tag X (step tag s X)))
    by false = refl

follows-twice : {T S : Type 0} (out : Streams T) (l : Log T) (o : Streams T) (k : Log T) (r : Outcome T S) → follows out l (follows o k r) ≡ follows (joined out o) (log_then l k) r
follows-twice {T} {S} out l o k (Done s more n) = ap₂ (λ (x : Streams T) (y : Log T). let r : Outcome T S = Done s x y in r) (joined-assoc out o more) (log-assoc l k n)
follows-twice {T} {S} out l o k (Stuck fs n) = ap (λ (y : Log T). let r : Outcome T S = Stuck fs y in r) (log-assoc l k n)

then-then : {T S : Type 0} (f g : S → Outcome T S) (r : Outcome T S) → and_then (λ s. and_then g (f s)) r ≡ and_then g (and_then f r)
then-then {T} {S} f g (Done s out l) = inner (f s)
  where
    inner : (q : Outcome T S) → follows out l (and_then g q) ≡ and_then g (follows out l q)
    inner (Done z o k) = follows-twice out l o k (g z)
    inner (Stuck fs k) = refl
then-then f g (Stuck fs l) = refl

pub rows-append : {T S : Type 0} (facts : Facts T S) (step : Stepping T S) (tag : Tag) (Xs Ys : List (Streams T)) (s : S) → by_rows facts step tag (Xs ++ Ys) s ≡ and_then (by_rows facts step tag Ys) (by_rows facts step tag Xs s)
rows-append {T} {S} facts step tag [] Ys s = sym (nothing (by_rows facts step tag Ys s))
  where
    nothing : (r : Outcome T S) → follows [] silent r ≡ r
    nothing (Done z o l) = refl
    nothing (Stuck fs l) = refl
rows-append {T} {S} facts step tag (X ∷ Xs) Ys s =
    same (λ z. rows-append facts step tag Xs Ys z) (recorded (facts.made s) tag X (step tag s X)) ∙ then-then (by_rows facts step tag Xs) (by_rows facts step tag Ys) (recorded (facts.made s) tag X (step tag s X))
  where
    same : ((z : S) → by_rows facts step tag (Xs ++ Ys) z ≡ and_then (by_rows facts step tag Ys) (by_rows facts step tag Xs z)) → (r : Outcome T S) → and_then (by_rows facts step tag (Xs ++ Ys)) r ≡ and_then (λ z. and_then (by_rows facts step tag Ys) (by_rows facts step tag Xs z)) r
    same ih (Done z o l) = ap (λ q. follows o l q) (ih z)
    same ih (Stuck fs l) = refl

-- logs of turns
follows-log : {T S : Type 0} (out : Streams T) (l : Log T) (r : Outcome T S) → log_in (follows out l r) ≡ log_then l (log_in r)
follows-log out l (Done s more m) = refl
follows-log out l (Stuck fs m) = refl

then-below : {T : Type 0} (l m k : Log T) → LogBelow m k → LogBelow (log_then l m) (log_then l k)
then-below l m k h p = IsPrefix-after (l p) (m p) (k p) (h p)

first-below : {T : Type 0} (l k : Log T) → LogBelow l (log_then l k)
first-below l k p = IsPrefix-append (l p) (k p)

-- what the first rows log is the beginning of what all do
pub rows-prefix : {T S : Type 0} (facts : Facts T S) (step : Stepping T S) (tag : Tag) (Xs Ys : List (Streams T)) (s z : S) (out : Streams T) (l : Log T) → by_rows facts step tag Xs s ≡ Done z out l → LogBelow l (log_in (by_rows facts step tag (Xs ++ Ys) s))
rows-prefix facts step tag Xs Ys s z out l e =
    subst (λ n. LogBelow l n) (sym (ap (λ r. log_in r) (rows-append facts step tag Xs Ys s ∙ ap (λ r. and_then (by_rows facts step tag Ys) r) e) ∙ follows-log out l (by_rows facts step tag Ys z)))
    (first-below l (log_in (by_rows facts step tag Ys z)))

-- and so it is with a part of what the next one logs
pub rows-within : {T S : Type 0} (facts : Facts T S) (step : Stepping T S) (tag : Tag) (Xs : List (Streams T)) (X : Streams T) (Ys : List (Streams T)) (s z : S) (out : Streams T) (l m : Log T) → by_rows facts step tag Xs s ≡ Done z out l → LogBelow m (log_in (step tag z X)) →
    LogBelow (log_then l m) (log_in (by_rows facts step tag (Xs ++ (X ∷ Ys)) s))
rows-within {T} {S} facts step tag Xs X Ys s z out l m e b =
    subst (λ n. LogBelow (log_then l m) n) (sym (ap (λ r. log_in r) (rows-append facts step tag Xs (X ∷ Ys) s ∙ ap (λ r. and_then (by_rows facts step tag (X ∷ Ys)) r) e) ∙ follows-log out l (by_rows facts step tag (X ∷ Ys) z)))
    (then-below l m (log_in (by_rows facts step tag (X ∷ Ys) z)) (first (step tag z X) b))
  where
    first : (r : Outcome T S) → LogBelow m (log_in r) → LogBelow m (log_in (and_then (by_rows facts step tag Ys) (recorded (facts.made z) tag X r)))
    first (Done y o k) h =
        let f : Log T = own (record { number = facts.made z; tag = tag; inputs = X; outputs = o }) in
        subst (λ n. LogBelow m n) (sym (follows-log o (log_then k f) (by_rows facts step tag Ys y))) (λ p. IsPrefix-trans (m p) (k p) ((k p ++ f p) ++ log_in (by_rows facts step tag Ys y) p) (h p) (IsPrefix-trans (k p) (k p ++ f p) ((k p ++ f p) ++ log_in (by_rows facts step tag Ys y) p) (IsPrefix-append (k p) (f p)) (IsPrefix-append (k p ++ f p) (log_in (by_rows facts step tag Ys y) p))))
    first (Stuck fs k) h = h

-- firings one after another
pub chain-more : {T S : Type 0} (facts : Facts T S) (step : Stepping T S) (tag : Tag) (ts : List (Turned T)) (s z y : S) (l : Log T) (X out : Streams T) (k : Log T) → ChainOf facts step s ts z l → step tag z X ≡ Done y out k →
    let f : Firing T = record { number = facts.made z; tag = tag; inputs = X; outputs = out } in
    let t : Turned T = record { record_of = f; inside = k } in
    ChainOf facts step s (ts ++ (t ∷ [])) y (log_then l (log_then k (own f)))
chain-more {T} {S} facts step tag [] s z y l X out k c d =
    let f : Firing T = record { number = facts.made z; tag = tag; inputs = X; outputs = out } in
    (y, silent, ap (λ v. facts.made v) c.0, ap (λ v. step tag v X) (sym c.0) ∙ d, (refl, refl), ap (λ (m : Log T). log_then m (log_then k (own f))) c.1 ∙ sym (log-nothing (log_then k (own f))))
chain-more {T} {S} facts step tag (t ∷ ts) s z y l X out k c d =
    let f : Firing T = record { number = facts.made z; tag = tag; inputs = X; outputs = out } in
    let first : Log T = log_then t.inside (own t.record_of) in (
      c.0,
      log_then c.1 (log_then k (own f)),
      c.2,
      c.3,
      chain-more facts step tag ts c.0 z y c.1 X out k c.4 d,
      ap (λ (m : Log T). log_then m (log_then k (own f))) c.5 ∙ sym (log-assoc first c.1 (log_then k (own f))),
    )

pub turns-append : {T : Type 0} (pick : Firing T → List T) (ts us : List (Turned T)) → of_turns pick (ts ++ us) ≡ of_turns pick ts ++ of_turns pick us
turns-append pick [] us = refl
turns-append pick (t ∷ ts) us = ap (λ xs. pick t.record_of ++ xs) (turns-append pick ts us) ∙ sym (append_assoc (pick t.record_of) (of_turns pick ts) (of_turns pick us))

-- the tokens of rows
pub of-rows-append : {T : Type 0} (q : ℕ) (Xs Ys : List (Streams T)) → of_rows q (Xs ++ Ys) ≡ of_rows q Xs ++ of_rows q Ys
of-rows-append q [] Ys = refl
of-rows-append q (X ∷ Xs) Ys = ap (λ xs. at X q ++ xs) (of-rows-append q Xs Ys) ∙ sym (append_assoc (at X q) (of_rows q Xs) (of_rows q Ys))

heads-at : {T : Type 0} (X : Streams T) (p : ℕ) → at (heads X) p ≡ take 1 (at X p)
heads-at [] p = refl
heads-at ([] ∷ X) zero = refl
heads-at ((x ∷ xs) ∷ X) zero = refl
heads-at ([] ∷ X) (suc p) = heads-at X p
heads-at ((x ∷ xs) ∷ X) (suc p) = heads-at X p

tails-at : {T : Type 0} (X : Streams T) (p : ℕ) → at (tails X) p ≡ drop 1 (at X p)
tails-at [] p = refl
tails-at ([] ∷ X) zero = refl
tails-at ((x ∷ xs) ∷ X) zero = refl
tails-at ([] ∷ X) (suc p) = tails-at X p
tails-at ((x ∷ xs) ∷ X) (suc p) = tails-at X p

from-rows : {T : Type 0} (n : ℕ) (X : Streams T) (q : ℕ) → IsPrefix (of_rows q (rows_from n X)) (at X q)
from-rows zero X q = tt
from-rows {T} (suc n) X q =
    subst (λ xs. IsPrefix (xs ++ of_rows q (rows_from n (tails X))) (at X q)) (sym (heads-at X q))
    (one (at X q) (of_rows q (rows_from n (tails X))) (subst (λ xs. IsPrefix (of_rows q (rows_from n (tails X))) xs) (tails-at X q) (from-rows n (tails X) q)))
  where
    one : (xs ys : List T) → IsPrefix ys (drop 1 xs) → IsPrefix (take 1 xs ++ ys) xs
    one [] ys h = h
    one (x ∷ xs) ys h = (refl, h)

rows-tokens : {T : Type 0} (b : Bool) (X : Streams T) (q : ℕ) → IsPrefix (of_rows q (rows_for b X)) (at X q)
rows-tokens true X q = subst (λ xs. IsPrefix xs (at X q)) (sym (append-nil (at X q))) (IsPrefix-refl (at X q))
rows-tokens false X q = from-rows (max 1 (longest X)) X q

-- the first rows of a child have a beginning of its lists
pub first-rows : {T : Type 0} (b : Bool) (X : Streams T) (Xs Ys : List (Streams T)) (q : ℕ) → rows_for b X ≡ Xs ++ Ys → IsPrefix (of_rows q Xs) (at X q)
first-rows b X Xs Ys q e =
    IsPrefix-trans (of_rows q Xs) (of_rows q Xs ++ of_rows q Ys) (at X q) (IsPrefix-append (of_rows q Xs) (of_rows q Ys))
    (subst (λ xs. IsPrefix xs (at X q)) (ap (λ Zs. of_rows q Zs) e ∙ of-rows-append q Xs Ys) (rows-tokens b X q))

-- a child has a row at least
pub some-row : {T : Type 0} (b : Bool) (X : Streams T) → (Y : Streams T) × (Ys : List (Streams T)) × (rows_for b X ≡ Y ∷ Ys)
some-row true X = (X, [], refl)
some-row {T} false X = by (longest X)
  where
    by : (n : ℕ) → (Y : Streams T) × (Ys : List (Streams T)) × (rows_from (max 1 n) X ≡ Y ∷ Ys)
    by zero = (heads X, rows_from 0 (tails X), refl)
    by (suc n) = let e : max 1 (suc n) ≡ suc n = omega arith in (heads X, rows_from n (tails X), ap (λ m. rows_from m X) e)
