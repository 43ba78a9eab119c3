-- The step of a copy: a list is copied token by token into an empty one of the same number.
use Rattle.std.proofs.Common.{◌≡◌, ℕ, ◌+◌, ◌-◌, ◌<◌, ◌≤◌, zero, suc, List, [], ◌∷◌, ◌++◌, length, get_or, set, take, drop, map, replicate, refl, sym, ap, subst, ◌∙◌, arith, append_assoc, is_some, true, slice_get}
use Rattle.std.proofs.lemmas.List.{append-nil, length-set, get_or-set_same, set-set, take_all, take_more, set_at, length-take-le, get_or_at, map_push, drop-drop}
use Rattle.std.proofs.lemmas.Grind.{common_steps}

module _ {X : Type 0} where
  -- one of the lists, once it has one item more
  pub same-after : (A A0 : List (List X)) (c : ℕ) → c < length A0 → A ≡ set A0 c (get_or A c []) → (ys : List X) → get_or (set A c ys) c [] ≡ ys
  same-after A A0 c h e ys =
      let l : c < length A = omega (arith, ap length e, length-set A0 c (get_or A c [])) in
      get_or-set_same A c ys [] l

  pub set-after : (A A0 : List (List X)) (c : ℕ) → c < length A0 → A ≡ set A0 c (get_or A c []) → (ys : List X) → set A c ys ≡ set A0 c (get_or (set A c ys) c [])
  set-after A A0 c h e ys =
      ap (λ v. set v c ys) e ∙ set-set A0 c (get_or A c []) ys ∙ ap (λ v. set A0 c v) (sym (same-after A A0 c h e ys))

  -- what is copied and what is left, once the front of what is left is copied
  pub rest-after : (A A0 : List (List X)) (c : ℕ) → c < length A0 → A ≡ set A0 c (get_or A c []) → (t : X) (rest next all : List X) → rest ≡ t ∷ next → get_or A c [] ++ rest ≡ all →
      get_or (set A c (get_or A c [] ++ t ∷ [])) c [] ++ next ≡ all
  rest-after A A0 c h e t rest next all r f =
      ap (λ v. v ++ next) (same-after A A0 c h e (get_or A c [] ++ t ∷ [])) ∙ append_assoc (get_or A c []) (t ∷ []) next ∙ ap (λ v. get_or A c [] ++ v) (sym r) ∙ f

  -- the same of what has come of it
  pub lists-step : (B A A0 : List (List X)) (c : ℕ) → c < length A0 → A ≡ set A0 c (get_or A c []) → (ys : List X) → B ≡ set A c ys → B ≡ set A0 c (get_or B c [])
  lists-step B A A0 c h e ys b = subst (λ v. v ≡ set A0 c (get_or v c [])) (sym b) (set-after A A0 c h e ys)

  pub rest-step : (B A A0 : List (List X)) (c : ℕ) → c < length A0 → A ≡ set A0 c (get_or A c []) → (s t : X) (rest next all : List X) → s ≡ t → rest ≡ t ∷ next → get_or A c [] ++ rest ≡ all → B ≡ set A c (get_or A c [] ++ s ∷ []) →
      get_or B c [] ++ next ≡ all
  rest-step B A A0 c h e s t rest next all q r f b =
      ap (λ v. get_or v c [] ++ next) (b ∙ ap (λ v. set A c (get_or A c [] ++ v ∷ [])) q) ∙ rest-after A A0 c h e t rest next all r f

-- the spare after one token more
pub spares-after : (S S0 : List ℕ) (c n m : ℕ) → c < length S0 → S ≡ set S0 c (suc n) → n ≡ m → set S c (get_or S c 0 - 1) ≡ set S0 c m
spares-after S S0 c n m h e f =
    let g : get_or S c 0 ≡ suc n = ap (λ v. get_or v c 0) e ∙ get_or-set_same S0 c (suc n) 0 h in
    ap (λ v. set S c (v - 1)) g ∙ ap (λ v. set v c (suc n - 1)) e ∙ set-set S0 c (suc n) (suc n - 1) ∙ ap (λ v. set S0 c v) (omega arith)

-- all elements are copied
pub copied-all : {X : Type 0} (xs ys : List X) (x : X) (i n : ℕ) → length xs ≡ n → n ≤ i → ys ≡ take i xs ++ replicate (n - i) x → ys ≡ xs
copied-all xs ys x i n long past is =
    let none : n - i ≡ 0 = omega arith in
    is ∙ ap (λ k. take i xs ++ replicate k x) none ∙ append-nil (take i xs) ∙ take_all i xs (omega (arith, long, past))

-- one list more is copied, of those that were empty
pub copied-more : {Y : Type 0} (xs ys : List Y) (c n : ℕ) (d : Y) → length xs ≡ n → c < n → ys ≡ take c xs ++ replicate (n - c) d → set ys c (get_or xs c d) ≡ take (c + 1) xs ++ replicate (n - (c + 1)) d
copied-more xs ys c n d l h e =
    let r : replicate (n - c) d ≡ d ∷ replicate (n - (c + 1)) d = ap (λ k. replicate k d) (split n c h) in
    ap (λ v. set v c (get_or xs c d)) (e ∙ ap (λ v. take c xs ++ v) r) ∙
    set_at (take c xs) d (replicate (n - (c + 1)) d) (get_or xs c d) c (length-take-le c xs (omega arith)) ∙
    sym (append_assoc (take c xs) (get_or xs c d ∷ []) (replicate (n - (c + 1)) d)) ∙
    ap (λ v. v ++ replicate (n - (c + 1)) d) (sym (take_more xs c d (omega arith)))
  where
    split : (n c : ℕ) → c < n → n - c ≡ suc (n - (c + 1))
    split n c h = omega arith

-- the next one is still empty
pub empty-next : {Y : Type 0} (xs ys : List Y) (c n : ℕ) (d : Y) → length xs ≡ n → c < n → ys ≡ take c xs ++ replicate (n - c) d → (get_or ys c d ≡ d) × (length ys ≡ n)
empty-next xs ys c n d l h e =
    let r : replicate (n - c) d ≡ d ∷ replicate (n - (c + 1)) d = ap (λ k. replicate k d) (split n c h) in
    let f : ys ≡ take c xs ++ d ∷ replicate (n - (c + 1)) d = e ∙ ap (λ v. take c xs ++ v) r in
    (ap (λ v. get_or v c d) f ∙ get_or_at (take c xs) d (replicate (n - (c + 1)) d) d c (length-take-le c xs (omega arith)), ap length e ∙ grind (arith, common_steps))
  where
    split : (n c : ℕ) → c < n → n - c ≡ suc (n - (c + 1))
    split n c h = omega arith

-- a place is changed once more
changed-twice : {Y : Type 0} (L : List Y) (c : ℕ) (d x : Y) (f : Y → Y) → set (set L c x) c (f (get_or (set L c x) c d)) ≡ set L c (f x)
changed-twice [] c d x f = refl
changed-twice (y ∷ L) zero d x f = refl
changed-twice (y ∷ L) (suc c) d x f = ap (λ v. y ∷ v) (changed-twice L c d x f)

pub changed-again : {Y : Type 0} (B A L : List Y) (c : ℕ) (d x y : Y) → A ≡ set L c x → (f : Y → Y) → B ≡ set A c (f (get_or A c d)) → f x ≡ y → B ≡ set L c y
changed-again B A L c d x y a f b e = b ∙ ap (λ v. set v c (f (get_or v c d))) a ∙ changed-twice L c d x f ∙ ap (λ v. set L c v) e

-- items are put into an empty list
pub put-first : {X : Type 0} (B A L : List (List X)) (c : ℕ) (xs : List X) → get_or L c [] ≡ [] → A ≡ L → B ≡ set A c (get_or A c [] ++ xs) → B ≡ set L c xs
put-first B A L c xs empty a b = b ∙ ap (λ v. set v c (get_or v c [] ++ xs)) a ∙ ap (λ v. set L c (v ++ xs)) empty

-- one item more is put behind a list
pub put-next : {N X : Type 0} (token : N → X) (B A L : List (List X)) (c k : ℕ) (ns : List N) (d : N) → k < length ns → A ≡ set L c (get_or L c [] ++ map token (take k ns)) → B ≡ set A c (get_or A c [] ++ token (get_or ns k d) ∷ []) → B ≡ set L c (get_or L c [] ++ map token (take (k + 1) ns))
put-next token B A L c k ns d l a b =
    changed-again B A L c [] (get_or L c [] ++ map token (take k ns)) (get_or L c [] ++ map token (take (k + 1) ns)) a (λ v. v ++ token (get_or ns k d) ∷ []) b
    (append_assoc (get_or L c []) (map token (take k ns)) (token (get_or ns k d) ∷ []) ∙ ap (λ v. get_or L c [] ++ v) (sym (map_push token (take k ns) (get_or ns k d)) ∙ ap (λ v. map token v) (sym (take_more ns k d l))))

-- one item more is taken from it
pub taken-next : {X : Type 0} (B A L : List (List X)) (c k : ℕ) → A ≡ set L c (drop k (get_or L c [])) → B ≡ set A c (drop 1 (get_or A c [])) → B ≡ set L c (drop (k + 1) (get_or L c []))
taken-next B A L c k a b = changed-again B A L c [] (drop k (get_or L c [])) (drop (k + 1) (get_or L c [])) a (λ v. drop 1 v) b (drop-drop 1 k (get_or L c []))

-- a list that has an item has a first one
pub has-first : {X : Type 0} (l : List X) → 0 < length l → is_some (slice_get l 0) ≡ true
has-first [] h = absurd (omega (arith, h))
has-first (x ∷ l) h = refl
