-- Flags and lists of tokens, and what they say of the channels.
use Rattle.std.proofs.Common.{◌≡◌, ℕ, zero, suc, ◌+◌, ◌<◌, ◌≤◌, List, [], ◌∷◌, ◌++◌, Bool, true, false, length, get_or, set, take, drop, replicate, Option, Some, None, if◌then◌else◌, refl, sym, ap, ap₂, subst, ◌∙◌, arith, length-set, append_assoc, append-nil, add-one}
use Rattle.std.proofs.lemmas.List.{drop_more, drop_all, length-replicate}
use Rattle.pt_meaning.specs.Streams.{Streams}
use Rattle.pt_meaning.specs.Machine.{Partial, Unknown, Known, partial_at}
use Rattle.pt_meaning.specs.Valuation.{is_known, tokens_of}
use Rattle.pt_sr.specs.State.{learnt, unknown_in}
use Rattle.pt_sr.proofs.Lists.{read-at}
use Rattle.pt_sr.specs.Signals.{signals_of, AreSignals, count_lowered}

module _ {T : Type 0} where
  pub signals-long : (flags : List Bool) (X : Streams T) → length flags ≡ length X → length (signals_of flags X) ≡ length flags
  signals-long [] X e = refl
  signals-long (f ∷ flags) [] e = absurd (omega (arith, e))
  signals-long (true ∷ flags) (xs ∷ X) e = ap (λ n. suc n) (signals-long flags X (omega (arith, e)))
  signals-long (false ∷ flags) (xs ∷ X) e = ap (λ n. suc n) (signals-long flags X (omega (arith, e)))

  pub known-at : (flags : List Bool) (X : Streams T) (c : ℕ) → length flags ≡ length X → is_known (partial_at (signals_of flags X) c) ≡ get_or flags c false
  known-at [] X c e = refl
  known-at (f ∷ flags) [] c e = absurd (omega (arith, e))
  known-at (true ∷ flags) (xs ∷ X) zero e = refl
  known-at (false ∷ flags) (xs ∷ X) zero e = refl
  known-at (true ∷ flags) (xs ∷ X) (suc c) e = known-at flags X c (omega (arith, e))
  known-at (false ∷ flags) (xs ∷ X) (suc c) e = known-at flags X c (omega (arith, e))

  pub set-known : (flags : List Bool) (X : Streams T) (c : ℕ) (xs : List T) → length flags ≡ length X → signals_of (set flags c true) (set X c xs) ≡ set (signals_of flags X) c (Known xs)
  set-known [] X c xs e = refl
  set-known (f ∷ flags) [] c xs e = absurd (omega (arith, e))
  set-known (true ∷ flags) (ys ∷ X) zero xs e = refl
  set-known (false ∷ flags) (ys ∷ X) zero xs e = refl
  set-known (true ∷ flags) (ys ∷ X) (suc c) xs e = ap (λ V. Known ys ∷ V) (set-known flags X c xs (omega (arith, e)))
  set-known (false ∷ flags) (ys ∷ X) (suc c) xs e = ap (λ V. Unknown ∷ V) (set-known flags X c xs (omega (arith, e)))

  pub tokens-known : (V : List (Partial T)) (c : ℕ) (xs : List T) → tokens_of (set V c (Known xs)) ≡ set (tokens_of V) c xs
  tokens-known [] c xs = refl
  tokens-known (Unknown ∷ V) zero xs = refl
  tokens-known (Known ys ∷ V) zero xs = refl
  tokens-known (Unknown ∷ V) (suc c) xs = ap (λ X. [] ∷ X) (tokens-known V c xs)
  tokens-known (Known ys ∷ V) (suc c) xs = ap (λ X. ys ∷ X) (tokens-known V c xs)

  -- one channel more is known
  pub raised : (flags : List Bool) (X : Streams T) (c : ℕ) (xs : List T) → AreSignals flags X → AreSignals (set flags c true) (set X c xs)
  raised flags X c xs h = record {
    counted = length-set flags c true ∙ h.counted ∙ sym (length-set X c xs);
    clear = ap (λ V. tokens_of V) (set-known flags X c xs h.counted) ∙ tokens-known (signals_of flags X) c xs ∙ ap (λ Y. set Y c xs) h.clear;
  }

  -- nothing is known
  pub none-signals : (n : ℕ) → signals_of (replicate n false) (replicate {A = List T} n []) ≡ replicate n Unknown
  none-signals zero = refl
  none-signals (suc n) = ap (λ V. Unknown ∷ V) (none-signals n)

  none-tokens : (n : ℕ) → tokens_of (replicate {A = Partial T} n Unknown) ≡ replicate n []
  none-tokens zero = refl
  none-tokens (suc n) = ap (λ X. [] ∷ X) (none-tokens n)

  pub none-known : (n : ℕ) → AreSignals (replicate n false) (replicate {A = List T} n [])
  none-known n = record { counted = length-replicate n false ∙ sym (length-replicate {A = List T} n []); clear = ap (λ V. tokens_of V) (none-signals n) ∙ none-tokens n }

  -- some of the channels
  pub take-signals : (n : ℕ) (flags : List Bool) (X : Streams T) → take n (signals_of flags X) ≡ signals_of (take n flags) (take n X)
  take-signals zero flags X = refl
  take-signals (suc n) [] X = refl
  take-signals (suc n) (f ∷ flags) [] = refl
  take-signals (suc n) (true ∷ flags) (xs ∷ X) = ap (λ V. Known xs ∷ V) (take-signals n flags X)
  take-signals (suc n) (false ∷ flags) (xs ∷ X) = ap (λ V. Unknown ∷ V) (take-signals n flags X)

  none-left : (flags : List Bool) → signals_of {T = T} flags [] ≡ []
  none-left [] = refl
  none-left (f ∷ flags) = refl

  pub drop-signals : (n : ℕ) (flags : List Bool) (X : Streams T) → length flags ≡ length X → drop n (signals_of flags X) ≡ signals_of (drop n flags) (drop n X)
  drop-signals zero flags X e = refl
  drop-signals (suc n) [] X e = refl
  drop-signals (suc n) (f ∷ flags) [] e = absurd (omega (arith, e))
  drop-signals (suc n) (true ∷ flags) (xs ∷ X) e = drop-signals n flags X (omega (arith, e))
  drop-signals (suc n) (false ∷ flags) (xs ∷ X) e = drop-signals n flags X (omega (arith, e))

  pub some-signals : (from n : ℕ) (flags : List Bool) (X : Streams T) → length flags ≡ length X → take n (drop from (signals_of flags X)) ≡ signals_of (take n (drop from flags)) (take n (drop from X))
  some-signals from n flags X e = ap (λ V. take n V) (drop-signals from flags X e) ∙ take-signals n (drop from flags) (drop from X)

  pub unknown-lowered : (flags : List Bool) (X : Streams T) → length flags ≡ length X → unknown_in (signals_of flags X) ≡ count_lowered flags
  unknown-lowered [] X e = refl
  unknown-lowered (f ∷ flags) [] e = absurd (omega (arith, e))
  unknown-lowered (true ∷ flags) (xs ∷ X) e = unknown-lowered flags X (omega (arith, e))
  unknown-lowered (false ∷ flags) (xs ∷ X) e = ap (λ n. suc n) (unknown-lowered flags X (omega (arith, e)))

  -- how many are unknown among those from a number on
  pub unknown-among : (from n : ℕ) (flags : List Bool) (X : Streams T) → length flags ≡ length X → count_lowered (take n (drop from flags)) ≡ unknown_in (take n (drop from (signals_of flags X)))
  unknown-among from n flags X e =
      sym (unknown-lowered (take n (drop from flags)) (take n (drop from X)) (take-alike n (drop from flags) (drop from X) (drop-alike from flags X e))) ∙ ap (λ V. unknown_in V) (sym (some-signals from n flags X e))
    where
      drop-alike : {A B : Type 0} (n : ℕ) (xs : List A) (ys : List B) → length xs ≡ length ys → length (drop n xs) ≡ length (drop n ys)
      drop-alike zero xs ys e = e
      drop-alike (suc n) [] [] e = refl
      drop-alike (suc n) [] (y ∷ ys) e = absurd (omega (arith, e))
      drop-alike (suc n) (x ∷ xs) [] e = absurd (omega (arith, e))
      drop-alike (suc n) (x ∷ xs) (y ∷ ys) e = drop-alike n xs ys (omega (arith, e))

      take-alike : {A B : Type 0} (n : ℕ) (xs : List A) (ys : List B) → length xs ≡ length ys → length (take n xs) ≡ length (take n ys)
      take-alike zero xs ys e = refl
      take-alike (suc n) [] [] e = refl
      take-alike (suc n) [] (y ∷ ys) e = absurd (omega (arith, e))
      take-alike (suc n) (x ∷ xs) [] e = absurd (omega (arith, e))
      take-alike (suc n) (x ∷ xs) (y ∷ ys) e = ap (λ k. suc k) (take-alike n xs ys (omega (arith, e)))

  -- the tokens of some of the channels
  pub tokens-long : (V : List (Partial T)) → length (tokens_of V) ≡ length V
  tokens-long [] = refl
  tokens-long (Unknown ∷ V) = ap (λ n. suc n) (tokens-long V)
  tokens-long (Known xs ∷ V) = ap (λ n. suc n) (tokens-long V)

  tokens-take : (n : ℕ) (V : List (Partial T)) → tokens_of (take n V) ≡ take n (tokens_of V)
  tokens-take zero V = refl
  tokens-take (suc n) [] = refl
  tokens-take (suc n) (Unknown ∷ V) = ap (λ X. [] ∷ X) (tokens-take n V)
  tokens-take (suc n) (Known xs ∷ V) = ap (λ X. xs ∷ X) (tokens-take n V)

  pub tokens-drop : (n : ℕ) (V : List (Partial T)) → tokens_of (drop n V) ≡ drop n (tokens_of V)
  tokens-drop zero V = refl
  tokens-drop (suc n) [] = refl
  tokens-drop (suc n) (Unknown ∷ V) = tokens-drop n V
  tokens-drop (suc n) (Known xs ∷ V) = tokens-drop n V

  pub tokens-among : (from n : ℕ) (V : List (Partial T)) → tokens_of (take n (drop from V)) ≡ take n (drop from (tokens_of V))
  tokens-among from n V = tokens-take n (drop from V) ∙ ap (λ X. take n X) (tokens-drop from V)

  -- what is learnt of a channel
  pub set-self : (V : List (Partial T)) (c : ℕ) → set V c (partial_at V c) ≡ V
  set-self [] c = refl
  set-self (v ∷ V) zero = refl
  set-self (v ∷ V) (suc c) = ap (λ W. v ∷ W) (set-self V c)

  pub learnt-nothing : (v : Partial T) → learnt v None ≡ v
  learnt-nothing Unknown = refl
  learnt-nothing (Known xs) = refl

  pub learnt-again : (v : Partial T) (g : Option (List T)) → is_known v ≡ true → learnt v g ≡ v
  learnt-again Unknown g e = absurd (cc)
  learnt-again (Known xs) g e = refl

  pub learnt-first : (v : Partial T) (xs : List T) → is_known v ≡ false → learnt v (Some xs) ≡ Known xs
  learnt-first Unknown xs e = refl
  learnt-first (Known ys) xs e = absurd (cc)

-- read off the flags
module _ {T : Type 0} (flags : List Bool) (X : Streams T) (V : List (Partial T)) (c : ℕ) (h : AreSignals flags X) (e : signals_of flags X ≡ V) (l : c < length V) where
  pub signal-there : c < length flags
  signal-there = let a = signals-long flags X h.counted in let b = ap (λ v. length v) e in omega (arith, a, b, l)

  pub list-there : c < length X
  list-there = let a = signal-there in let b = h.counted in omega (arith, a, b)

  pub flag-known : (flag : Bool) → flag ≡ get_or flags c flag → flag ≡ is_known (partial_at V c)
  flag-known flag f = read-at flags c flag false signal-there f ∙ sym (known-at flags X c h.counted) ∙ ap (λ v. is_known (partial_at v c)) e

-- all flags lowered and all lists emptied
module _ {T : Type 0} (flags fs : List Bool) (X Y : Streams T) (h : AreSignals flags X) (a : fs ≡ replicate (length flags) false) (b : Y ≡ replicate (length X) []) where
  emptied : Y ≡ replicate (length flags) []
  emptied = b ∙ ap (λ n. replicate {A = List T} n []) (sym h.counted)

  pub cleared : AreSignals fs Y
  cleared = subst (λ v. AreSignals v Y) (sym a) (subst (λ v. AreSignals (replicate (length flags) false) v) (sym emptied) (none-known (length flags)))

  pub cleared-is : (V : List (Partial T)) → signals_of flags X ≡ V → signals_of fs Y ≡ replicate (length V) Unknown
  cleared-is V e = ap₂ (λ f Z. signals_of f Z) a emptied ∙ none-signals (length flags) ∙ ap (λ n. replicate n Unknown) (sym (signals-long flags X h.counted) ∙ ap (λ v. length v) e)

-- the same where the lists were emptied in between
module _ {T : Type 0} (flags fs : List Bool) (X Z Y : Streams T) (h : AreSignals flags X) (m : length Z ≡ length X) (a : fs ≡ replicate (length flags) false) (b : Y ≡ replicate (length Z) []) where
  pub handed-signals : AreSignals fs Y
  handed-signals = cleared flags fs X Y h a (b ∙ ap (λ n. replicate {A = List T} n []) m)

  pub handed-is : (V : List (Partial T)) → signals_of flags X ≡ V → signals_of fs Y ≡ replicate (length V) Unknown
  handed-is V e = cleared-is flags fs X Y h a (b ∙ ap (λ n. replicate {A = List T} n []) m) V e

-- how many flags are lowered, one by one
pub count_more : (flags : List Bool) (k : ℕ) → k < length flags → count_lowered (take (k + 1) flags) ≡ (if get_or flags k false then count_lowered (take k flags) else count_lowered (take k flags) + 1)
count_more flags k h = ap (λ n. count_lowered (take n flags)) (add-one k) ∙ next flags k h
  where
    by : (b : Bool) (n m : ℕ) → n ≡ (if b then m else m + 1) → suc n ≡ (if b then suc m else suc m + 1)
    by true n m e = omega (arith, e)
    by false n m e = omega (arith, e)

    next : (flags : List Bool) (k : ℕ) → k < length flags → count_lowered (take (suc k) flags) ≡ (if get_or flags k false then count_lowered (take k flags) else count_lowered (take k flags) + 1)
    next [] k h = absurd (omega (arith, h))
    next (true ∷ flags) zero h = refl
    next (false ∷ flags) zero h = refl
    next (true ∷ flags) (suc k) h = next flags k (omega (arith, h))
    next (false ∷ flags) (suc k) h = by (get_or flags k false) (count_lowered (take (suc k) flags)) (count_lowered (take k flags)) (next flags k (omega (arith, h)))

pub count_few : (flags : List Bool) → count_lowered flags ≤ length flags
count_few [] = omega arith
count_few (true ∷ flags) = let t = count_few flags in omega (arith, t)
count_few (false ∷ flags) = let t = count_few flags in omega (arith, t)

-- a list that is filled from the front
pub filled_more : {A : Type 0} (x : A) (xs ys : List A) (k : ℕ) → k < length xs → ys ≡ replicate k x ++ drop k xs → set ys k x ≡ replicate (k + 1) x ++ drop (k + 1) xs
filled_more {A} x xs ys k h e = ap (λ v. set v k x) e ∙ at-front xs k h ∙ ap (λ n. replicate n x ++ drop n xs) (sym (add-one k))
  where
    at-front : (xs : List A) (k : ℕ) → k < length xs → set (replicate k x ++ drop k xs) k x ≡ replicate (suc k) x ++ drop (suc k) xs
    at-front [] k h = absurd (omega (arith, h))
    at-front (y ∷ xs) zero h = refl
    at-front (y ∷ xs) (suc k) h = ap (λ v. x ∷ v) (at-front xs k (omega (arith, h)))

-- once all of it is filled
pub filled-all : {A : Type 0} (x : A) (xs ys : List A) (k : ℕ) → length xs ≤ k → k ≤ length xs → ys ≡ replicate k x ++ drop k xs → ys ≡ replicate (length xs) x
filled-all {A} x xs ys k h l e = e ∙ ap (λ v. replicate k x ++ v) (drop_all k xs h) ∙ append-nil (replicate k x) ∙ ap (λ n. replicate n x) (same k (length xs) h l)
  where
    same : (a b : ℕ) → b ≤ a → a ≤ b → a ≡ b
    same a b h l = omega (arith, h, l)

-- one list more is taken
pub taken-more : {A : Type 0} (given given' X : List (List A)) (c : ℕ) (v w : List A) (all : List (List A)) → c < length X → v ≡ get_or X c v → given' ≡ given ++ v ∷ [] → given ++ drop c X ≡ all → given' ++ drop (c + 1) (set X c w) ≡ all
taken-more given given' X c v w all h e g t =
    ap₂ (λ x y. x ++ y) g (ap (λ n. drop n (set X c w)) (add-one c) ∙ behind X c w ∙ ap (λ n. drop n X) (sym (add-one c))) ∙ append_assoc given (v ∷ []) (drop (c + 1) X) ∙
    ap (λ x. given ++ x) (ap (λ x. x ∷ drop (c + 1) X) (read-at X c v [] h e) ∙ sym (drop_more X c [] h)) ∙ t
  where
    behind : {A : Type 0} (X : List (List A)) (c : ℕ) (w : List A) → drop (suc c) (set X c w) ≡ drop (suc c) X
    behind [] c w = refl
    behind (x ∷ X) zero w = refl
    behind (x ∷ X) (suc c) w = behind X c w

-- one more at most
pub counted-few : (b : Bool) (n m k : ℕ) → m ≡ (if b then n else n + 1) → n ≤ k → m ≤ k + 1
counted-few true n m k e h = omega (arith, e, h)
counted-few false n m k e h = omega (arith, e, h)

-- what flags and lists say, one channel more
pub states-more : {T : Type 0} (flags : List Bool) (X : Streams T) (k : ℕ) → k < length flags → length flags ≡ length X → signals_of (take k flags) (take k X) ++ (if get_or flags k false then Known (get_or X k []) else Unknown) ∷ [] ≡ signals_of (take (k + 1) flags) (take (k + 1) X)
states-more {T} flags X k h e = next flags X k h e ∙ ap (λ n. signals_of (take n flags) (take n X)) (sym (add-one k))
  where
    next : (flags : List Bool) (X : Streams T) (k : ℕ) → k < length flags → length flags ≡ length X → signals_of (take k flags) (take k X) ++ (if get_or flags k false then Known (get_or X k []) else Unknown) ∷ [] ≡ signals_of (take (suc k) flags) (take (suc k) X)
    next [] X k h e = absurd (omega (arith, h))
    next (f ∷ flags) [] k h e = absurd (omega (arith, e))
    next (true ∷ flags) (xs ∷ X) zero h e = refl
    next (false ∷ flags) (xs ∷ X) zero h e = refl
    next (true ∷ flags) (xs ∷ X) (suc k) h e = ap (λ V. Known xs ∷ V) (next flags X k (omega (arith, h)) (omega (arith, e)))
    next (false ∷ flags) (xs ∷ X) (suc k) h e = ap (λ V. Unknown ∷ V) (next flags X k (omega (arith, h)) (omega (arith, e)))

pub alike : {A B : Type 0} (from n : ℕ) (xs : List A) (ys : List B) → length xs ≡ length ys → length (take n (drop from xs)) ≡ length (take n (drop from ys))
alike from n xs ys e = taken n (drop from xs) (drop from ys) (dropped from xs ys e)
  where
    dropped : {A B : Type 0} (n : ℕ) (xs : List A) (ys : List B) → length xs ≡ length ys → length (drop n xs) ≡ length (drop n ys)
    dropped zero xs ys e = e
    dropped (suc n) [] [] e = refl
    dropped (suc n) [] (y ∷ ys) e = absurd (omega (arith, e))
    dropped (suc n) (x ∷ xs) [] e = absurd (omega (arith, e))
    dropped (suc n) (x ∷ xs) (y ∷ ys) e = dropped n xs ys (omega (arith, e))

    taken : {A B : Type 0} (n : ℕ) (xs : List A) (ys : List B) → length xs ≡ length ys → length (take n xs) ≡ length (take n ys)
    taken zero xs ys e = refl
    taken (suc n) [] [] e = refl
    taken (suc n) [] (y ∷ ys) e = absurd (omega (arith, e))
    taken (suc n) (x ∷ xs) [] e = absurd (omega (arith, e))
    taken (suc n) (x ∷ xs) (y ∷ ys) e = ap (λ k. suc k) (taken n xs ys (omega (arith, e)))
