-- The meetings that are recorded of finished firings stay as they are.
use Rattle.std.proofs.Common.{◌≡◌, ℕ, zero, suc, ◌+◌, ◌<◌, List, [], ◌∷◌, ◌++◌, length, set, Bool, true, false, nat_eq, Option, Some, None, refl, sym, ap, subst, arith, ◌∙◌, append-nil}
use Rattle.pt_meaning.specs.Log.{Path, Event, Finished, Met, Meeting, Log, all_marked, meetings_in, if_same}
use Rattle.pt_meaning.specs.Meetings.{Meets, below_child}
use Rattle.pt_records.specs.Kept.{Kept, Made, kept_at, met_in, MeetingsGrew, GrewBy}
use Rattle.pt_records.specs.Made.{made_in, made_if, meets_of, IsMade, AreMade, AreMadeBefore, AllMadeBefore, IsUnmet}

-- how meetings are read off events
pub met-append : {T : Type 0} (xs ys : List (Event T)) → met_in (xs ++ ys) ≡ met_in xs ++ met_in ys
met-append [] ys = refl
met-append (Finished ns f ∷ xs) ys = met-append xs ys
met-append (Met ns n m ∷ xs) ys = ap (λ v. (n, m) ∷ v) (met-append xs ys)

pub met-marked : {T : Type 0} (n : ℕ) (xs : List (Event T)) → met_in (all_marked n xs) ≡ met_in xs
met-marked n [] = refl
met-marked n (Finished ns f ∷ xs) = met-marked n xs
met-marked n (Met ns i m ∷ xs) = ap (λ v. (i, m) ∷ v) (met-marked n xs)

if-append : (b : Bool) (m : Meeting) (xs ys : List Meeting) → if_same b m (xs ++ ys) ≡ if_same b m xs ++ ys
if-append true m xs ys = refl
if-append false m xs ys = refl

pub in-append : {T : Type 0} (i : ℕ) (xs ys : List (Event T)) → meetings_in i (xs ++ ys) ≡ meetings_in i xs ++ meetings_in i ys
in-append i [] ys = refl
in-append i (Finished ns f ∷ xs) ys = in-append i xs ys
in-append i (Met ns n m ∷ xs) ys = ap (λ v. if_same (nat_eq n i) m v) (in-append i xs ys) ∙ if-append (nat_eq n i) m (meetings_in i xs) (meetings_in i ys)

pub in-marked : {T : Type 0} (i n : ℕ) (xs : List (Event T)) → meetings_in i (all_marked n xs) ≡ meetings_in i xs
in-marked i n [] = refl
in-marked i n (Finished ns f ∷ xs) = in-marked i n xs
in-marked i n (Met ns j m ∷ xs) = ap (λ v. if_same (nat_eq j i) m v) (in-marked i n xs)

made-append : (n : ℕ) (xs ys : Made) → made_in n (xs ++ ys) ≡ made_in n xs ++ made_in n ys
made-append n [] ys = refl
made-append n (x ∷ xs) ys = ap (λ v. if_same (nat_eq x.0 n) x.1 v) (made-append n xs ys) ∙ if-append (nat_eq x.0 n) x.1 (made_in n xs) (made_in n ys)

pub made-met : {T : Type 0} (n : ℕ) (xs : List (Event T)) → made_in n (met_in xs) ≡ meetings_in n xs
made-met n [] = refl
made-met n (Finished ns f ∷ xs) = made-met n xs
made-met n (Met ns i m ∷ xs) = ap (λ v. if_same (nat_eq i n) m v) (made-met n xs)

-- of one path
entry-back : {T : Type 0} (finished : ℕ) (es : List (Event T)) (old new : Option Made) (n : ℕ) (ms : List Meeting) → n < finished → MeetingsGrew finished es old new → IsMade new n ms → IsMade old n ms
entry-back finished es None new n ms l g h = tt
entry-back finished es (Some old) (Some new) n ms l g h =
    h ∙ ap (λ v. made_in n v) g.0 ∙ made-append n old (met_in es) ∙ ap (λ v. made_in n old ++ v) (made-met n es ∙ g.1 n l) ∙ append-nil (made_in n old)
entry-back finished es (Some old) None n ms l g h = absurd g

pub made-back : {T : Type 0} (m : Meets) (l : Log T) (a b : Kept T) → GrewBy l a b → AreMadeBefore m b → AreMadeBefore m a
made-back m l a b g h p n less = entry-back (a p).count (l p) (a p).meetings (b p).meetings n (m p n) less (g p).meetings (h p n (omega (arith, less, (g p).count)))

-- what grew from no meetings has those that the log tells
entry-met : {T : Type 0} (finished : ℕ) (es : List (Event T)) (old new : Option Made) (n : ℕ) → MeetingsGrew finished es old new → made_if n old ≡ [] → meetings_in n es ≡ made_if n new
entry-met finished es None None n g h = sym (made-met n es) ∙ ap (λ v. made_in n v) g
entry-met finished es (Some old) (Some new) n g h = sym (ap (λ v. made_in n v) g.0 ∙ made-append n old (met_in es) ∙ ap (λ v. v ++ made_in n (met_in es)) h ∙ made-met n es)
entry-met finished es None (Some new) n g h = absurd g
entry-met finished es (Some old) None n g h = absurd g

pub grew-met : {T : Type 0} (l : Log T) (a b : Kept T) → GrewBy l a b → (p : Path) (n : ℕ) → meets_of a p n ≡ [] → meetings_in n (l p) ≡ meets_of b p n
grew-met l a b g p n h = entry-met (a p).count (l p) (a p).meetings (b p).meetings n (g p).meetings h

-- the recorded meetings are those that were recorded
entry-made : (made : Option Made) (n : ℕ) (ms : List Meeting) → ms ≡ made_if n made → IsMade made n ms
entry-made None n ms e = tt
entry-made (Some made) n ms e = e

pub those-made : {T : Type 0} (m : Meets) (k : Kept T) → ((p : Path) (n : ℕ) → m p n ≡ meets_of k p n) → AreMade m k
those-made m k e p n = entry-made (k p).meetings n (m p n) (e p n)

-- where none are recorded every list will do
is-unmet : (made : Option Made) (n : ℕ) (ms : List Meeting) → made ≡ None → IsMade made n ms
is-unmet made n ms e = subst (λ v. IsMade v n ms) (sym e) tt

pub unmet-made : {T : Type 0} (m : Meets) (k : Kept T) → IsUnmet k → AreMade m k
unmet-made m k u p n = is-unmet (k p).meetings n (m p n) (u p)

-- of children, by the meetings that are given below each
EachBefore : {T : Type 0} → (ℕ → Meets) → List (Kept T) → Type 0
EachBefore ms ks = (i : ℕ) → AreMadeBefore (ms i) (kept_at ks i)

each-back : {T : Type 0} (ms : ℕ → Meets) (i : ℕ) (l : Log T) (news : List (Kept T)) (k : Kept T) → i < length news → GrewBy l (kept_at news i) k → EachBefore ms (set news i k) → EachBefore ms news
unfolding EachBefore
each-back ms i l [] k b g h j = absurd (omega (arith, b))
each-back ms zero l (x ∷ xs) k b g h zero = made-back (ms zero) l x k g (h zero)
each-back ms zero l (x ∷ xs) k b g h (suc j) = h (suc j)
each-back ms (suc i) l (x ∷ xs) k b g h zero = h zero
each-back ms (suc i) l (x ∷ xs) k b g h (suc j) = each-back (λ j. ms (suc j)) i l xs k (omega (arith, b)) g (λ j. h (suc j)) j

pub kept-there : {T : Type 0} (i : ℕ) (news : List (Kept T)) (k : Kept T) → i < length news → kept_at (set news i k) i ≡ k
kept-there i [] k b = absurd (omega (arith, b))
kept-there zero (x ∷ xs) k b = refl
kept-there (suc i) (x ∷ xs) k b = kept-there i xs k (omega (arith, b))

pub all-made-back : {T : Type 0} (m : Meets) (i : ℕ) (l : Log T) (news : List (Kept T)) (k : Kept T) → i < length news → GrewBy l (kept_at news i) k → AllMadeBefore m (set news i k) → AllMadeBefore m news
unfolding EachBefore
all-made-back m i l news k b g h = each-back (λ j. below_child j m) i l news k b g h
