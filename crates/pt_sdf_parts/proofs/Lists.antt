-- Lists of lists, by number.
use Rattle.std.proofs.Common.{◌≡◌, ℕ, zero, suc, ◌+◌, ◌-◌, ◌<◌, ◌≤◌, max, inl, inr, ⊎_elim, List, [], ◌∷◌, ◌++◌, length, get_or, set, take, drop, Some, None, refl, ap, ap₂, sym, subst, ◌∙◌, arith, append_assoc, length-append, add-one, zero-add, suc-add}
use Rattle.std.specs.List.{slice_get}
use Rattle.std.proofs.lemmas.List.{get_or-set_same, get_or-set_other, set-set, set_past, get_or_past, get_or_append_left, get_or_push, drop-drop, get_or-drop, drop-append-le}
use Rattle.std.proofs.lemmas.Bool.{cases_eq, cases_lt}
use Rattle.pt_meaning.specs.Streams.{Streams, at}
use Rattle.pt_meaning.specs.Kahn.{firsts}
use Rattle.pt_sdf_parts.specs.ByNeed.{skip_at}

-- the element that is read at a number, whatever stands for one past the end
pub read-at : {X : Type 0} (xs : List X) (i : ℕ) (x d : X) → i < length xs → x ≡ get_or xs i x → x ≡ get_or xs i d
read-at [] i x d h e = absurd (omega arith)
read-at (y ∷ xs) zero x d h e = e
read-at (y ∷ xs) (suc i) x d h e = read-at xs i x d (omega arith) e

-- what holds of each element, and of one more behind them
pub each-more : {X : Type 0} (P : ℕ → X → Type 0) (xs : List X) (n : ℕ) (x d : X) → length xs ≡ n → ((i : ℕ) → i < n → P i (get_or xs i d)) → P n x → (i : ℕ) → i < n + 1 → P i (get_or (xs ++ x ∷ []) i d)
each-more P xs n x d long each one i short = elim (cases_lt i n) [
  | inl low ↦ subst (P i) (sym (get_or_append_left xs (x ∷ []) d i (omega (arith, low, long)))) (each i low)
  | inr high ↦ (let e : i ≡ n = omega (arith, short, high) in
      subst (λ k. P k (get_or (xs ++ x ∷ []) k d)) (sym e) (subst (P n) (sym (get_or_push xs x d n long)) one))
]

-- what holds of each element but one, and of what is put in its place
pub set-each : {X : Type 0} (P : ℕ → X → Type 0) (xs : List X) (c : ℕ) (x d : X) → c < length xs → P c x → (j : ℕ) → ((j ≡ c → ⊥) → P j (get_or xs j d)) → P j (get_or (set xs c x) j d)
set-each P xs c x d short one j other =
    ⊎_elim (λ e. subst (λ k. P k (get_or (set xs c x) k d)) (sym e) (subst (P c) (sym (get_or-set_same xs c x d short)) one)) (λ o. subst (P j) (sym (get_or-set_other xs c j x d o)) (other o)) (cases_eq j c)

pub take-plus : {X : Type 0} (k m : ℕ) (xs : List X) → take (k + m) xs ≡ take k xs ++ take m (drop k xs)
take-plus zero m xs = ap (λ j. take j xs) (zero-add m)
take-plus {X = X} (suc k) m [] = ap (λ j. take {A = X} j []) (suc-add k m) ∙ nothing m
  where
    nothing : (m : ℕ) → [] ≡ take {A = X} m []
    nothing zero = refl
    nothing (suc m) = refl
take-plus (suc k) m (x ∷ xs) = ap (λ j. take j (x ∷ xs)) (suc-add k m) ∙ ap (λ v. x ∷ v) (take-plus k m xs)

module _ {T : Type 0} where
  pub at-is : (X : Streams T) (c : ℕ) → at X c ≡ get_or X c []
  at-is [] c = refl
  at-is (x ∷ X) zero = refl
  at-is (x ∷ X) (suc c) = at-is X c

  pub front-taken : (xs : List T) (t : T) → Some t ≡ slice_get xs 0 → t ∷ [] ≡ take 1 xs
  front-taken [] t e = absurd (cc)
  front-taken (x ∷ xs) t e = cc

  pub no-front : (xs : List T) → None ≡ slice_get xs 0 → [] ≡ take 1 xs
  no-front [] e = refl
  no-front (x ∷ xs) e = absurd (cc)

  pub front-more : (k : ℕ) (xs : List T) (t : T) (rest : List T) → drop k xs ≡ t ∷ rest → (take (k + 1) xs ≡ take k xs ++ t ∷ []) × (rest ≡ drop (k + 1) xs)
  front-more k xs t rest e =
      (take-plus k 1 xs ∙ ap (λ v. take k xs ++ take 1 v) e, sym (sym (drop-drop 1 k xs) ∙ ap (λ v. drop 1 v) e))

  -- one of the lists, whose first k are gone, once one more is gone
  pub list-without : (A L : Streams T) (c k : ℕ) → c < length L → A ≡ set L c (drop k (get_or L c [])) → get_or A c [] ≡ drop k (get_or L c [])
  list-without A L c k h e = ap (λ v. get_or v c []) e ∙ get_or-set_same L c (drop k (get_or L c [])) [] h

  pub popped-more : (A L : Streams T) (c k : ℕ) → c < length L → A ≡ set L c (drop k (get_or L c [])) → set A c (drop 1 (get_or A c [])) ≡ set L c (drop (k + 1) (get_or L c []))
  popped-more A L c k h e =
      ap (λ v. set A c (drop 1 v)) (list-without A L c k h e) ∙ ap (λ v. set v c (drop 1 (drop k (get_or L c [])))) e ∙ set-set L c (drop k (get_or L c [])) (drop 1 (drop k (get_or L c []))) ∙
      ap (λ v. set L c v) (drop-drop 1 k (get_or L c []))

  pub taken-more : (A L : Streams T) (c k : ℕ) (ts : List T) → c < length L → A ≡ set L c (drop k (get_or L c [])) → ts ≡ take k (get_or L c []) → ts ++ take 1 (get_or A c []) ≡ take (k + 1) (get_or L c [])
  taken-more A L c k ts h e f = ap₂ (λ x y. x ++ take 1 y) f (list-without A L c k h e) ∙ sym (take-plus k 1 (get_or L c []))

  -- the channels without what some places took, one place further
  pub skip-untouched : (o : ℕ) (ns : List ℕ) (X : Streams T) (c : ℕ) → o + length ns ≤ c → get_or (skip_at o ns X) c [] ≡ get_or X c []
  skip-untouched zero [] X c h = refl
  skip-untouched zero (n ∷ ns) [] c h = refl
  skip-untouched zero (n ∷ ns) (x ∷ X) zero h = absurd (omega arith)
  skip-untouched zero (n ∷ ns) (x ∷ X) (suc c) h = skip-untouched zero ns X c (omega arith)
  skip-untouched (suc o) ns [] c h = refl
  skip-untouched (suc o) ns (x ∷ X) zero h = absurd (omega arith)
  skip-untouched (suc o) ns (x ∷ X) (suc c) h = skip-untouched o ns X c (omega arith)

  pub skip-before : (o : ℕ) (ns : List ℕ) (X : Streams T) (c : ℕ) → c < o → get_or (skip_at o ns X) c [] ≡ get_or X c []
  skip-before zero ns X c h = absurd (omega arith)
  skip-before (suc o) ns [] c h = refl
  skip-before (suc o) ns (x ∷ X) zero h = refl
  skip-before (suc o) ns (x ∷ X) (suc c) h = skip-before o ns X c (omega arith)

  pub skip-there : (o : ℕ) (ns : List ℕ) (X : Streams T) (k : ℕ) → k < length ns → get_or (skip_at o ns X) (o + k) [] ≡ drop (get_or ns k 0) (get_or X (o + k) [])
  skip-there zero ns X k h = ap (λ j. get_or (skip_at 0 ns X) j []) (zero-add k) ∙ first ns X k h ∙ ap (λ j. drop (get_or ns k 0) (get_or X j [])) (sym (zero-add k))
    where
      none : (n : ℕ) → [] ≡ drop {A = T} n []
      none zero = refl
      none (suc n) = refl

      first : (ns : List ℕ) (X : Streams T) (k : ℕ) → k < length ns → get_or (skip_at 0 ns X) k [] ≡ drop (get_or ns k 0) (get_or X k [])
      first [] X k h = absurd (omega arith)
      first (n ∷ ns) [] k h = none (get_or (n ∷ ns) k 0)
      first (n ∷ ns) (x ∷ X) zero h = refl
      first (n ∷ ns) (x ∷ X) (suc k) h = first ns X k (omega arith)
  skip-there (suc o) ns [] k h = none (get_or ns k 0)
    where
      none : (n : ℕ) → [] ≡ drop {A = T} n []
      none zero = refl
      none (suc n) = refl
  skip-there (suc o) ns (x ∷ X) k h =
      ap (λ j. get_or (x ∷ skip_at o ns X) j []) (suc-add o k) ∙ skip-there o ns X k h ∙ ap (λ j. drop (get_or ns k 0) (get_or (x ∷ X) j [])) (sym (suc-add o k))

  pub skip-step : (o k : ℕ) (ns : List ℕ) (X : Streams T) → k < length ns → o + k < length X → set (skip_at o (take k ns) X) (o + k) (drop (get_or ns k 0) (get_or X (o + k) [])) ≡ skip_at o (take (k + 1) ns) X
  skip-step zero k ns X h l =
      ap (λ j. set (skip_at 0 (take k ns) X) j (drop (get_or ns k 0) (get_or X j []))) (zero-add k) ∙ first k ns X h (omega arith) ∙ ap (λ j. skip_at 0 (take j ns) X) (sym (add-one k))
    where
      first : (k : ℕ) (ns : List ℕ) (X : Streams T) → k < length ns → k < length X → set (skip_at 0 (take k ns) X) k (drop (get_or ns k 0) (get_or X k [])) ≡ skip_at 0 (take (suc k) ns) X
      first k [] X h l = absurd (omega arith)
      first k (n ∷ ns) [] h l = absurd (omega arith)
      first zero (n ∷ ns) (x ∷ X) h l = refl
      first (suc k) (n ∷ ns) (x ∷ X) h l = ap (λ v. drop n x ∷ v) (first k ns X (omega arith) (omega arith))
  skip-step (suc o) k ns [] h l = absurd (omega arith)
  skip-step (suc o) k ns (x ∷ X) h l =
      ap (λ j. set (x ∷ skip_at o (take k ns) X) j (drop (get_or ns k 0) (get_or (x ∷ X) j []))) (suc-add o k) ∙ ap (λ v. x ∷ v) (skip-step o k ns X h (omega arith))

  pub firsts-step : (k : ℕ) (ns : List ℕ) (Y : Streams T) → k < length ns → k < length Y → firsts (take k ns) (take k Y) ++ take (get_or ns k 0) (get_or Y k []) ∷ [] ≡ firsts (take (k + 1) ns) (take (k + 1) Y)
  firsts-step k ns Y h l = first k ns Y h l ∙ ap (λ j. firsts (take j ns) (take j Y)) (sym (add-one k))
    where
      first : (k : ℕ) (ns : List ℕ) (Y : Streams T) → k < length ns → k < length Y → firsts (take k ns) (take k Y) ++ take (get_or ns k 0) (get_or Y k []) ∷ [] ≡ firsts (take (suc k) ns) (take (suc k) Y)
      first k [] Y h l = absurd (omega arith)
      first k (n ∷ ns) [] h l = absurd (omega arith)
      first zero (n ∷ ns) (y ∷ Y) h l = refl
      first (suc k) (n ∷ ns) (y ∷ Y) h l = ap (λ v. take n y ∷ v) (first k ns Y (omega arith) (omega arith))

  pub skip-zero : (o : ℕ) (X : Streams T) → skip_at o [] X ≡ X
  skip-zero zero X = refl
  skip-zero (suc o) [] = refl
  skip-zero (suc o) (x ∷ X) = ap (λ v. x ∷ v) (skip-zero o X)

  pub skip-long : (o : ℕ) (ns : List ℕ) (X : Streams T) → length (skip_at o ns X) ≡ length X
  skip-long zero [] X = refl
  skip-long zero (n ∷ ns) [] = refl
  skip-long zero (n ∷ ns) (x ∷ X) = ap (λ k. suc k) (skip-long zero ns X)
  skip-long (suc o) ns [] = refl
  skip-long (suc o) ns (x ∷ X) = ap (λ k. suc k) (skip-long o ns X)

  -- what is put behind a channel that has enough stays when the places take what they need
  pub skip-put : (o : ℕ) (ns : List ℕ) (X : Streams T) (c : ℕ) (ys : List T) → ((k : ℕ) → k < length ns → get_or ns k 0 ≤ length (get_or X (o + k) [])) → skip_at o ns (set X c (get_or X c [] ++ ys)) ≡ set (skip_at o ns X) c (get_or (skip_at o ns X) c [] ++ ys)
  skip-put zero ns X c ys h = first ns X c (λ k l. subst (λ j. get_or ns k 0 ≤ length (get_or X j [])) (zero-add k) (h k l))
    where
      first : (ns : List ℕ) (X : Streams T) (c : ℕ) → ((k : ℕ) → k < length ns → get_or ns k 0 ≤ length (get_or X k [])) → skip_at 0 ns (set X c (get_or X c [] ++ ys)) ≡ set (skip_at 0 ns X) c (get_or (skip_at 0 ns X) c [] ++ ys)
      first [] X c h = refl
      first (n ∷ ns) [] c h = refl
      first (n ∷ ns) (x ∷ X) zero h = ap (λ v. v ∷ skip_at 0 ns X) (drop-append-le n x ys (h 0 (omega arith)))
      first (n ∷ ns) (x ∷ X) (suc c) h = ap (λ v. drop n x ∷ v) (first ns X c (λ k l. h (suc k) (omega arith)))
  skip-put (suc o) ns [] c ys h = refl
  skip-put (suc o) ns (x ∷ X) zero ys h = refl
  skip-put (suc o) ns (x ∷ X) (suc c) ys h =
      ap (λ v. x ∷ v) (skip-put o ns X c ys (λ k l. subst (λ j. get_or ns k 0 ≤ length (get_or (x ∷ X) j [])) (suc-add o k) (h k l)))

  -- no channel has less once something was put behind one
  pub put-keeps : (X : Streams T) (c : ℕ) (ys : List T) (k : ℕ) → length (get_or X k []) ≤ length (get_or (set X c (get_or X c [] ++ ys)) k [])
  put-keeps [] c ys k = omega arith
  put-keeps (x ∷ X) zero ys zero = omega (arith, length-append x ys)
  put-keeps (x ∷ X) zero ys (suc k) = omega arith
  put-keeps (x ∷ X) (suc c) ys zero = omega arith
  put-keeps (x ∷ X) (suc c) ys (suc k) = put-keeps X c ys k

  -- what has been taken from places one after another, as far as place k
  module _ (A X : Streams T) (o k : ℕ) (ns : List ℕ) (e : A ≡ skip_at o (take k ns) X) where
    pub taken-long : length A ≡ length X
    taken-long = ap (λ v. length v) e ∙ skip-long o (take k ns) X

    pub next-list : get_or A (o + k) [] ≡ get_or X (o + k) []
    next-list = ap (λ v. get_or v (o + k) []) e ∙ skip-untouched o (take k ns) X (o + k) (omega (arith, take-short k ns))
      where
        take-short : (k : ℕ) (ns : List ℕ) → length (take k ns) ≤ k
        take-short zero ns = omega arith
        take-short (suc k) [] = omega arith
        take-short (suc k) (n ∷ ns) = omega (arith, take-short k ns)

    pub next-left : (B : Streams T) (n : ℕ) → k < length ns → o + k < length X → n ≡ get_or ns k 0 → B ≡ set A (o + k) (drop n (get_or A (o + k) [])) → B ≡ skip_at o (take (k + 1) ns) X
    next-left B n h l m b =
        b ∙ ap₂ (λ x y. set A (o + k) (drop x y)) m next-list ∙ ap (λ v. set v (o + k) (drop (get_or ns k 0) (get_or X (o + k) []))) e ∙ skip-step o k ns X h l

    pub next-taken : (given : Streams T) (ts : List T) (n : ℕ) → k < length ns → o + k < length X → n ≡ get_or ns k 0 → ts ≡ take n (get_or A (o + k) []) → given ≡ firsts (take k ns) (take k (drop o X)) → given ++ ts ∷ [] ≡ firsts (take (k + 1) ns) (take (k + 1) (drop o X))
    next-taken given ts n h l m t g =
        ap₂ (λ x y. x ++ y ∷ []) g (t ∙ ap₂ (λ x y. take x y) m (next-list ∙ sym (get_or-drop o X k []))) ∙ firsts-step k ns (drop o X) h (omega (arith, drop-short o k X l))
      where
        drop-short : (o k : ℕ) (X : Streams T) → o + k < length X → k < length (drop o X)
        drop-short zero k X h = omega arith
        drop-short (suc o) k [] h = absurd (omega arith)
        drop-short (suc o) k (x ∷ X) h = drop-short o k X (omega arith)

  -- a list that got the first k of some tokens gets one more
  pub put-more : (B A L : Streams T) (c k : ℕ) (S staged : List T) → c < length L → A ≡ set L c (get_or L c [] ++ take k S) → staged ≡ drop k S → B ≡ set A c (get_or A c [] ++ take 1 staged) → B ≡ set L c (get_or L c [] ++ take (k + 1) S)
  put-more B A L c k S staged h a d b =
      let g : get_or A c [] ≡ get_or L c [] ++ take k S = ap (λ v. get_or v c []) a ∙ get_or-set_same L c (get_or L c [] ++ take k S) [] h in
      b ∙ ap₂ (λ x y. set A c (x ++ take 1 y)) g d ∙ ap (λ v. set v c (get_or L c [] ++ take k S ++ take 1 (drop k S))) a ∙ set-set L c (get_or L c [] ++ take k S) (get_or L c [] ++ take k S ++ take 1 (drop k S)) ∙
      ap (λ v. set L c v) (append_assoc (get_or L c []) (take k S) (take 1 (drop k S)) ∙ ap (λ v. get_or L c [] ++ v) (sym (take-plus k 1 S)))

-- the spare of a channel after a put
pub spare-lowered : (S : List ℕ) (c : ℕ) → 0 < get_or S c 0 → get_or (set S c (get_or S c 0 - 1)) c 0 + 1 ≡ get_or S c 0
spare-lowered S c h = ⊎_elim (λ l. rw (get_or-set_same S c (get_or S c 0 - 1) 0 l) (omega arith)) (λ l. absurd (omega (arith, h, get_or_past S c 0 l))) (cases_lt c (length S))

pub spare-other : (S : List ℕ) (c d : ℕ) → (d ≡ c → ⊥) → get_or (set S c (get_or S c 0 - 1)) d 0 ≡ get_or S d 0
spare-other S c d h = get_or-set_other S c d (get_or S c 0 - 1) 0 h

-- no spare falls where a channel is made ready
pub spare-kept : (S : List ℕ) (c n d : ℕ) → get_or S d 0 ≤ get_or (set S c (max n (get_or S c 0))) d 0
spare-kept S c n d = ⊎_elim (λ e. ⊎_elim (λ l. raised e l) (λ l. past l) (cases_lt c (length S))) (λ z. other z) (cases_eq d c)
  where
    raised : d ≡ c → c < length S → get_or S d 0 ≤ get_or (set S c (max n (get_or S c 0))) d 0
    raised e l = subst (λ j. get_or S j 0 ≤ get_or (set S c (max n (get_or S c 0))) j 0) (sym e) (subst (λ v. get_or S c 0 ≤ v) (sym (get_or-set_same S c (max n (get_or S c 0)) 0 l)) (omega arith))

    past : length S ≤ c → get_or S d 0 ≤ get_or (set S c (max n (get_or S c 0))) d 0
    past l = subst (λ v. get_or S d 0 ≤ get_or v d 0) (sym (set_past S c (max n (get_or S c 0)) l)) (omega arith)

    other : (d ≡ c → ⊥) → get_or S d 0 ≤ get_or (set S c (max n (get_or S c 0))) d 0
    other z = subst (λ v. get_or S d 0 ≤ v) (sym (get_or-set_other S c d (max n (get_or S c 0)) 0 z)) (omega arith)

-- nor where tokens are taken
pub spare-raised : (S : List ℕ) (c n d : ℕ) → get_or S d 0 ≤ get_or (set S c (get_or S c 0 + n)) d 0
spare-raised S c n d = ⊎_elim (λ e. ⊎_elim (λ l. raised e l) (λ l. past l) (cases_lt c (length S))) (λ z. other z) (cases_eq d c)
  where
    raised : d ≡ c → c < length S → get_or S d 0 ≤ get_or (set S c (get_or S c 0 + n)) d 0
    raised e l = subst (λ j. get_or S j 0 ≤ get_or (set S c (get_or S c 0 + n)) j 0) (sym e) (subst (λ v. get_or S c 0 ≤ v) (sym (get_or-set_same S c (get_or S c 0 + n) 0 l)) (omega arith))

    past : length S ≤ c → get_or S d 0 ≤ get_or (set S c (get_or S c 0 + n)) d 0
    past l = subst (λ v. get_or S d 0 ≤ get_or v d 0) (sym (set_past S c (get_or S c 0 + n) l)) (omega arith)

    other : (d ≡ c → ⊥) → get_or S d 0 ≤ get_or (set S c (get_or S c 0 + n)) d 0
    other z = subst (λ v. get_or S d 0 ≤ v) (sym (get_or-set_other S c d (get_or S c 0 + n) 0 z)) (omega arith)
