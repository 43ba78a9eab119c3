-- What a core sees of the children is enough, and what it tests is what the definition asks.
use Rattle.std.proofs.Common.{◌≡◌, ℕ, zero, suc, ◌≤◌, ◌<◌, ◌+◌, ◌*◌, List, [], ◌∷◌, ◌++◌, inl, length, take, drop, get_or, set, map, refl, sym, ap, ◌∙◌, arith, nat_le, nat_eq, le-leb, true, zero-add, suc-add, Some}
use Rattle.std.proofs.lemmas.Bool.Decides.{nat_tests}
use Rattle.pt_meaning.specs.Streams.{Streams, at}
use Rattle.pt_meaning.specs.Machine.{Need, Counts, Facts, Stepping, Fault, Stuck, Takes, counted}
use Rattle.pt_meaning.specs.Tag.{Tag}
use Rattle.pt_meaning.specs.Log.{Log}
use Rattle.pt_meaning.specs.Rounds.{Limit, rated}
use Rattle.pt_meaning.specs.Flow.{Flow}
use Rattle.pt_meaning.specs.Kahn.{firsts, behind}
use Rattle.pt_meaning.specs.Sdf.{sdf_limits, fired_all}
use Rattle.pt_meaning.specs.Running.{Asks, NoneCanFire, total, MadeAll, Fits}
use Rattle.pt_laws.specs.LogsOfRuns.{rates_at, SticksWith}
use Rattle.pt_meaning.specs.Laws.{IsIn}
use Rattle.pt_laws.proofs.Indexed.{drop-more}
use Rattle.pt_sdf_parts.specs.ByNeed.{by_need, needs_of, planned, place_of, skip_at}

-- what is asked of needs is asked of the children that have them
pub asks-as : {T S : Type 0} (facts : Facts T S) (i : ℕ) (ns : List ℕ) (cs : List Limit) (ms : List ℕ) (ss : List S) (held got held' : Streams T) → Asks by_need i ns cs ms (needs_of facts ss) held got held' → Asks facts i ns cs ms ss held got held'
asks-as facts zero (n ∷ ns) (c ∷ cs) (m ∷ ms) (s ∷ ss) held got held' a = a
asks-as facts (suc i) (n ∷ ns) (c ∷ cs) (m ∷ ms) (s ∷ ss) held got held' a = (a.0, asks-as facts i ns cs ms ss (drop n held) got a.0 a.1, a.2)
asks-as facts i [] cs ms ss held got held' a = absurd a
asks-as facts i (n ∷ ns) [] ms ss held got held' a = absurd a
asks-as facts i (n ∷ ns) (c ∷ cs) [] ss held got held' a = absurd a
asks-as facts i (n ∷ ns) (c ∷ cs) (m ∷ ms) [] held got held' a = absurd a

pub asks-below : {T S : Type 0} (facts : Facts T S) (i : ℕ) (ns : List ℕ) (cs : List Limit) (ms : List ℕ) (ss : List S) (held got held' : Streams T) → Asks facts i ns cs ms ss held got held' → i < length ns
asks-below facts zero (n ∷ ns) (c ∷ cs) (m ∷ ms) (s ∷ ss) held got held' a = omega arith
asks-below facts (suc i) (n ∷ ns) (c ∷ cs) (m ∷ ms) (s ∷ ss) held got held' a = let h = asks-below facts i ns cs ms ss (drop n held) got a.0 a.1 in omega (arith, h)
asks-below facts i [] cs ms ss held got held' a = absurd a
asks-below facts i (n ∷ ns) [] ms ss held got held' a = absurd a
asks-below facts i (n ∷ ns) (c ∷ cs) [] ss held got held' a = absurd a
asks-below facts i (n ∷ ns) (c ∷ cs) (m ∷ ms) [] held got held' a = absurd a

-- a child that was asked for, and is stuck
pub asked-sticks : {T S : Type 0} (facts : Facts T S) (step : Stepping T S) (tag : Tag) (i : ℕ) (ns : List ℕ) (cs : List Limit) (ms : List ℕ) (ss : List S) (held got held' : Streams T) (d : S) (fs : List Fault) (l : Log T) (f : Fault) → Asks facts i ns cs ms ss held got held' →
    rated facts (rates_at cs i) step tag (get_or ss i d) got ≡ Stuck fs l → IsIn f fs → SticksWith facts step tag i ns cs ms ss held l f
asked-sticks facts step tag zero (n ∷ ns) (c ∷ cs) (m ∷ ms) (s ∷ ss) held got held' d fs l f a e x = (got, a.0, fs, a.1, a.2, e, x)
asked-sticks facts step tag (suc i) (n ∷ ns) (c ∷ cs) (m ∷ ms) (s ∷ ss) held got held' d fs l f a e x = asked-sticks facts step tag i ns cs ms ss (drop n held) got a.0 d fs l f a.1 e x
asked-sticks facts step tag i [] cs ms ss held got held' d fs l f a e x = absurd a
asked-sticks facts step tag i (n ∷ ns) [] ms ss held got held' d fs l f a e x = absurd a
asked-sticks facts step tag i (n ∷ ns) (c ∷ cs) [] ss held got held' d fs l f a e x = absurd a
asked-sticks facts step tag i (n ∷ ns) (c ∷ cs) (m ∷ ms) [] held got held' d fs l f a e x = absurd a

-- children that are at their caps can't fire
pub none-at-caps : {T S : Type 0} (facts : Facts T S) (k : ℕ) (ns qs : List ℕ) (rs : List (List ℕ)) (ss : List S) (held : Streams T) → NoneCanFire facts ns (sdf_limits k qs rs) (map (λ q. k * q) qs) ss held
none-at-caps facts k [] qs rs ss held = tt
none-at-caps facts k (n ∷ ns) [] rs ss held = tt
none-at-caps facts k (n ∷ ns) (q ∷ qs) [] ss held = tt
none-at-caps facts k (n ∷ ns) (q ∷ qs) (r ∷ rs) [] held = tt
none-at-caps facts k (n ∷ ns) (q ∷ qs) (r ∷ rs) (s ∷ ss) held = (inl (le-leb (k * q) (k * q) (omega arith)), none-at-caps facts k ns qs rs ss (drop n held))

-- and have fired enough
pub enough-made : {T S : Type 0} (k : ℕ) (qs : List ℕ) (fs : List (Flow T S)) → MadeAll (map (λ q. k * q) qs) fs → fired_all k qs fs ≡ true
enough-made k [] fs h = refl
enough-made k (q ∷ qs) [] h = absurd h
enough-made k (q ∷ qs) (f ∷ fs) h = rw (h.0, same (k * q), enough-made k qs fs h.1) refl
  where
    same : (n : ℕ) → nat_eq n n ≡ true
    same n = grind (arith, nat_tests)

-- enough tokens on each stream
pub counted-takes : {T : Type 0} (ns : List ℕ) (X : Streams T) → length ns ≡ length X → ((k : ℕ) → k < length ns → get_or ns k 0 ≤ length (at X k)) → counted ns X ≡ Takes (firsts ns X) (behind ns X)
counted-takes [] [] e h = refl
counted-takes [] (x ∷ X) e h = absurd (omega arith)
counted-takes (n ∷ ns) [] e h = absurd (omega arith)
counted-takes {T = T} (n ∷ ns) (x ∷ X) e h =
    let a : nat_le n (length x) ≡ true = le-leb n (length x) (h 0 (omega arith)) in
    rw (a, counted-takes ns X (omega arith) (λ k l. h (suc k) (omega arith))) refl

pub needs-length : {T S : Type 0} (facts : Facts T S) (ss : List S) → length (needs_of facts ss) ≡ length ss
needs-length facts [] = refl
needs-length facts (s ∷ ss) = ap (λ k. suc k) (needs-length facts ss)

-- a child that fires keeps the needs where its own stays
pub needs-kept : {T S : Type 0} (facts : Facts T S) (ss : List S) (i : ℕ) (d c : S) → facts.need c ≡ facts.need (get_or ss i d) → needs_of facts (set ss i c) ≡ needs_of facts ss
needs-kept facts [] i d c e = refl
needs-kept facts (s ∷ ss) zero d c e = ap (λ n. n ∷ needs_of facts ss) e
needs-kept facts (s ∷ ss) (suc i) d c e = ap (λ ns. facts.need s ∷ ns) (needs-kept facts ss i d c e)

pub planned-length : (ps ns : List ℕ) → length (planned ps ns) ≡ length ps
planned-length [] ns = refl
planned-length (p ∷ ps) ns = ap (λ k. suc k) (planned-length ps (drop p ns))

pub planned-get : (ps ns : List ℕ) (i : ℕ) (d : Need) → i < length ps → get_or (planned ps ns) i d ≡ Counts (take (get_or ps i 0) (drop (place_of ps i) ns))
planned-get [] ns i d h = absurd (omega arith)
planned-get (p ∷ ps) ns zero d h = refl
planned-get (p ∷ ps) ns (suc i) d h = planned-get ps (drop p ns) i d (omega arith) ∙ ap (λ v. Counts (take (get_or ps i 0) v)) (sym (drop-more p (place_of ps i) ns))

-- the channels without what was taken
pub skip-behind : {T : Type 0} (o : ℕ) (ns : List ℕ) (X : Streams T) → o + length ns ≡ length X → skip_at o ns X ≡ take o X ++ behind ns (drop o X)
skip-behind zero [] [] e = refl
skip-behind zero [] (x ∷ X) e = absurd (omega arith)
skip-behind zero (n ∷ ns) [] e = absurd (omega arith)
skip-behind zero (n ∷ ns) (x ∷ X) e = ap (λ v. drop n x ∷ v) (skip-behind zero ns X (omega arith))
skip-behind (suc o) ns [] e = absurd (omega arith)
skip-behind (suc o) ns (x ∷ X) e = ap (λ v. x ∷ v) (skip-behind o ns X (omega arith))

skip-none : {T : Type 0} (ns : List ℕ) (X : Streams T) → length ns ≤ length X → skip_at 0 ns X ≡ behind ns (take (length ns) X) ++ drop (length ns) X
skip-none [] X h = refl
skip-none (n ∷ ns) [] h = absurd (omega arith)
skip-none (n ∷ ns) (x ∷ X) h = ap (λ v. drop n x ∷ v) (skip-none ns X (omega arith))

pub skip-is : {T : Type 0} (o : ℕ) (ns : List ℕ) (X : Streams T) → o + length ns ≤ length X → skip_at o ns X ≡ take o X ++ (behind ns (take (length ns) (drop o X)) ++ drop (length ns) (drop o X))
skip-is zero ns X h = skip-none ns X (omega arith)
skip-is (suc o) ns [] h = absurd (omega arith)
skip-is (suc o) ns (x ∷ X) h = ap (λ v. x ∷ v) (skip-is o ns X (omega arith))

pub skip-length : {T : Type 0} (o : ℕ) (ns : List ℕ) (X : Streams T) → length (skip_at o ns X) ≡ length X
skip-length zero [] X = refl
skip-length zero (n ∷ ns) [] = refl
skip-length zero (n ∷ ns) (x ∷ X) = ap (λ k. suc k) (skip-length zero ns X)
skip-length (suc o) ns [] = refl
skip-length (suc o) ns (x ∷ X) = ap (λ k. suc k) (skip-length o ns X)

pub limits-length : (k : ℕ) (qs : List ℕ) (rs : List (List ℕ)) → length qs ≡ length rs → length (sdf_limits k qs rs) ≡ length qs
limits-length k [] rs h = refl
limits-length k (q ∷ qs) [] h = absurd (omega arith)
limits-length k (q ∷ qs) (r ∷ rs) h = ap (λ v. suc v) (limits-length k qs rs (omega arith))

pub limits-cap : (k : ℕ) (qs : List ℕ) (rs : List (List ℕ)) (i : ℕ) (d : Limit) → length qs ≡ length rs → i < length qs → (get_or (sdf_limits k qs rs) i d).firings ≡ Some (k * get_or qs i 0)
limits-cap k [] rs i d h l = absurd (omega arith)
limits-cap k (q ∷ qs) [] i d h l = absurd (omega arith)
limits-cap k (q ∷ qs) (r ∷ rs) zero d h l = refl
limits-cap k (q ∷ qs) (r ∷ rs) (suc i) d h l = limits-cap k qs rs i d (omega arith) (omega arith)

pub limits-rates : (k : ℕ) (qs : List ℕ) (rs : List (List ℕ)) (i : ℕ) → length qs ≡ length rs → i < length qs → rates_at (sdf_limits k qs rs) i ≡ Some (get_or rs i [])
limits-rates k [] rs i h l = absurd (omega arith)
limits-rates k (q ∷ qs) [] i h l = absurd (omega arith)
limits-rates k (q ∷ qs) (r ∷ rs) zero h l = refl
limits-rates k (q ∷ qs) (r ∷ rs) (suc i) h l = limits-rates k qs rs i (omega arith) (omega arith)

pub part-fits : (ps : List ℕ) (i : ℕ) → i < length ps → place_of ps i + get_or ps i 0 ≤ total ps
part-fits [] i h = absurd (omega arith)
part-fits (p ∷ ps) zero h = omega arith
part-fits (p ∷ ps) (suc i) h = omega (arith, part-fits ps i (omega arith))

pub all-fit : {T : Type 0} (ps : List ℕ) (X : Streams T) → total ps ≤ length X → Fits ps X
all-fit [] X h = tt
all-fit (p ∷ ps) X h = (omega arith, all-fit ps (drop p X) (omega (arith, drop-long p X)))
  where
    drop-long : {T : Type 0} (p : ℕ) (X : Streams T) → length X ≤ p + length (drop p X)
    drop-long zero X = omega arith
    drop-long (suc p) [] = omega arith
    drop-long (suc p) (x ∷ X) = omega (arith, drop-long p X)

pub length-part : {A : Type 0} (o n : ℕ) (X : List A) → o + n ≤ length X → length (take n (drop o X)) ≡ n
length-part zero zero X h = refl
length-part zero (suc n) [] h = absurd (omega arith)
length-part zero (suc n) (x ∷ X) h = ap (λ k. suc k) (length-part zero n X (omega arith))
length-part (suc o) zero [] h = refl
length-part (suc o) (suc n) [] h = absurd (omega arith)
length-part (suc o) n (x ∷ X) h = length-part o n X (omega arith)

pub at-part : {T : Type 0} (o n k : ℕ) (X : Streams T) → k < n → at (take n (drop o X)) k ≡ at X (o + k)
at-part zero n k X h = at-take n k X h ∙ ap (λ j. at X j) (sym (zero-add k))
  where
    at-take : {T : Type 0} (n k : ℕ) (X : Streams T) → k < n → at (take n X) k ≡ at X k
    at-take zero k X h = absurd (omega arith)
    at-take (suc n) k [] h = refl
    at-take (suc n) zero (x ∷ X) h = refl
    at-take (suc n) (suc k) (x ∷ X) h = at-take n k X (omega arith)
at-part {T = T} (suc o) zero k [] h = absurd (omega arith)
at-part {T = T} (suc o) (suc n) k [] h = refl
at-part (suc o) n k (x ∷ X) h = at-part o n k X h ∙ ap (λ j. at (x ∷ X) j) (sym (suc-add o k))

pub get-part : (o n k : ℕ) (ns : List ℕ) → k < n → get_or (take n (drop o ns)) k 0 ≡ get_or ns (o + k) 0
get-part zero n k ns h = get-take n k ns h ∙ ap (λ j. get_or ns j 0) (sym (zero-add k))
  where
    get-take : (n k : ℕ) (ns : List ℕ) → k < n → get_or (take n ns) k 0 ≡ get_or ns k 0
    get-take zero k ns h = absurd (omega arith)
    get-take (suc n) k [] h = refl
    get-take (suc n) zero (x ∷ ns) h = refl
    get-take (suc n) (suc k) (x ∷ ns) h = get-take n k ns (omega arith)
get-part (suc o) zero k [] h = absurd (omega arith)
get-part (suc o) (suc n) k [] h = refl
get-part (suc o) n k (x ∷ ns) h = get-part o n k ns h ∙ ap (λ j. get_or (x ∷ ns) j 0) (sym (suc-add o k))
