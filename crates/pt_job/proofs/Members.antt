-- What is in a list, and two lists place by place.
use Rattle.std.proofs.Common.{◌≡◌, ℕ, zero, suc, ◌+◌, ◌<◌, ◌⊎◌, inl, inr, Bool, true, false, cond, Option, Some, None, List, [], ◌∷◌, ◌++◌, length, get_or, take, map, bytes_eq, refl, sym, ap, subst, ◌∙◌, arith}
use Rattle.std.proofs.lemmas.List.{map_more}
use Rattle.std.proofs.lemmas.List.Elements.{Contains-append_cases}
use Rattle.std.proofs.lemmas.List.Quantifiers.{position-Some}
use Rattle.std.proofs.lemmas.Iterator.Adapters.{position_from-zero}
use Rattle.std.proofs.lemmas.Option.{slice_get-get_or, slice_get_within, get_or_from_slice_get, slice_get-map}
use Rattle.std.proofs.lemmas.Slice.Eq.{bytes_eq-Decides}
use Rattle.std.specs.List.{AllZip, Contains, slice_get, position, position_from}
use Rattle.std.specs.Option.{is_some, option_map}

-- ---- lists

pub contains_here : {X : Type 0} (x : X) (xs : List X) → Contains (x ∷ xs) x
contains_here x xs = (0, omega arith, refl)

pub contains_later : {X : Type 0} (x : X) (xs : List X) (y : X) → Contains xs y → Contains (x ∷ xs) y
contains_later x xs y w = (suc w.0, omega (arith, w.1), w.2)

pub none_in_nil : {X : Type 0} (y : X) → Contains [] y → ⊥
none_in_nil y w = omega (arith, w.1)

pub contains_cases : {X : Type 0} (x : X) (xs : List X) (y : X) → Contains (x ∷ xs) y → (x ≡ y) ⊎ Contains xs y
contains_cases x xs y w = of_one (Contains-append_cases (x ∷ []) xs y w)
  where
    of_one : Contains (x ∷ []) y ⊎ Contains xs y → (x ≡ y) ⊎ Contains xs y
    of_one (inl h) = inl (at h.0 h.1 h.2)
      where
        at : (k : ℕ) → k < 1 → get_or (x ∷ []) k y ≡ y → x ≡ y
        at zero below e = e
        at (suc k) below e = absurd (omega (arith, below))
    of_one (inr h) = inr h

pub contains_slice : {X : Type 0} (xs : List X) (i : ℕ) (x : X) → slice_get xs i ≡ Some x → Contains xs x
contains_slice xs i x e = (i, slice_get_within xs i x e, get_or_from_slice_get xs i x x e)

pub slice_contains : {X : Type 0} (xs : List X) (x : X) → Contains xs x → (i : ℕ) × (slice_get xs i ≡ Some x)
slice_contains xs x w = (w.0, slice_get-get_or xs w.0 x w.1 ∙ ap Some w.2)

-- what is in a view is the view of something
pub unmapped : {X Y : Type 0} (f : X → Y) (xs : List X) (k : ℕ) (y : Y) → slice_get (map f xs) k ≡ Some y → (x : X) × (slice_get xs k ≡ Some x) × (f x ≡ y)
unmapped {X = X} {Y = Y} f xs k y e = go (slice_get xs k) refl
  where
    go : (o : Option X) → slice_get xs k ≡ o → (x : X) × (slice_get xs k ≡ Some x) × (f x ≡ y)
    go None h = let z : option_map f None ≡ Some y = sym (ap (option_map f) h) ∙ sym (slice_get-map f xs k) ∙ e in absurd cc
    go (Some x) h =
        let z : Some (f x) ≡ Some y = sym (ap (option_map f) h) ∙ sym (slice_get-map f xs k) ∙ e in
        let same : f x ≡ y = cc in
        (x, h, same)

-- ---- two lists place by place

pub zip_push : {A B : Type 0} (R : A → B → Type 0) (xs : List A) (ys : List B) (x : A) (y : B) → AllZip R xs ys → R x y → AllZip R (xs ++ x ∷ []) (ys ++ y ∷ [])
zip_push R [] [] x y z r = (r, tt)
zip_push R [] (b ∷ ys) x y z r = absurd z
zip_push R (a ∷ xs) [] x y z r = absurd z
zip_push R (a ∷ xs) (b ∷ ys) x y z r = (z.0, zip_push R xs ys x y z.1 r)

-- one thing more
pub zip_read : {A X B : Type 0} (R : X → B → Type 0) (seen : A → X) (ps : List A) (i : ℕ) (d : A) → i < length ps → (xs : List B) (x : B) → AllZip R (map seen (take i ps)) xs → R (seen (get_or ps i d)) x → AllZip R (map seen (take (i + 1) ps)) (xs ++ x ∷ [])
zip_read {X = X} R seen ps i d short xs x each here = subst (λ (us : List X). AllZip R us (xs ++ x ∷ [])) (sym (map_more seen ps i d short)) (zip_push R (map seen (take i ps)) xs (seen (get_or ps i d)) x each here)

-- what stands at the same place
pub zip_at : {A B C : Type 0} (R : A → B → Type 0) (view : C → B) (xs : List A) (ys : List C) (k : ℕ) (x : A) → AllZip R xs (map view ys) → slice_get xs k ≡ Some x → (y : C) × (slice_get ys k ≡ Some y) × R x (view y)
zip_at R view [] ys k x h e = let z : None ≡ Some x = e in absurd cc
zip_at R view (a ∷ xs) [] k x h e = absurd h
zip_at R view (a ∷ xs) (y ∷ ys) zero x h e = let same : a ≡ x = cc in (y, refl, subst (λ z. R z (view y)) same h.0)
zip_at R view (a ∷ xs) (y ∷ ys) (suc k) x h e = zip_at R view xs ys k x h.1 e

-- ---- the first place of a text

same_text : (a b : List ℕ) → bytes_eq a b ≡ true → a ≡ b
same_text a b e = (bytes_eq-Decides a b).0 e

pub text_same : (a : List ℕ) → bytes_eq a a ≡ true
text_same a = (bytes_eq-Decides a a).1 refl

none_from : {X : Type 0} (p : X → Bool) (n : ℕ) (xs : List X) → position_from p n xs ≡ None → (i : ℕ) (x : X) → slice_get xs i ≡ Some x → p x ≡ true → ⊥
none_from p n [] e i x is holds = let h : None ≡ Some x = is in absurd cc
none_from p n (y ∷ ys) e zero x is holds =
    let same : y ≡ x = cc in
    let t : p y ≡ true = ap p same ∙ holds in
    let h : Some n ≡ None = sym (ap (λ b. cond b (Some n) (position_from p (n + 1) ys)) t) ∙ e in
    absurd cc
none_from p n (y ∷ ys) e (suc i) x is holds = later (p y) e (λ h. none_from p (n + 1) ys h i x is holds)
  where
    later : (b : Bool) → cond b (Some n) (position_from p (n + 1) ys) ≡ None → (position_from p (n + 1) ys ≡ None → ⊥) → ⊥
    later true h rest = absurd cc
    later false h rest = rest h

pub no_position : {X : Type 0} (p : X → Bool) (xs : List X) → position p xs ≡ None → (i : ℕ) (x : X) → slice_get xs i ≡ Some x → p x ≡ true → ⊥
no_position p xs e i x is holds = none_from p 0 xs (sym (position_from-zero p xs) ∙ e) i x is holds

-- the text at the first place that a text has
pub position_text : (text : List ℕ) (texts : List (List ℕ)) (j : ℕ) → position (bytes_eq text) texts ≡ Some j → slice_get texts j ≡ Some text
position_text text texts j e =
    let w = position-Some (bytes_eq text) texts j [] e in
    slice_get-get_or texts j [] w.0 ∙ ap Some (sym (same_text text (get_or texts j []) w.1))

pub contains_position : (text : List ℕ) (texts : List (List ℕ)) → Contains texts text → is_some (position (bytes_eq text) texts) ≡ true
contains_position text texts w = go (position (bytes_eq text) texts) refl
  where
    go : (o : Option ℕ) → position (bytes_eq text) texts ≡ o → is_some (position (bytes_eq text) texts) ≡ true
    go None e = let s = slice_contains texts text w in absurd (no_position (bytes_eq text) texts e s.0 text s.1 (text_same text))
    go (Some j) e = ap is_some e

pub position_contains : (text : List ℕ) (texts : List (List ℕ)) → is_some (position (bytes_eq text) texts) ≡ true → Contains texts text
position_contains text texts h = go (position (bytes_eq text) texts) refl
  where
    go : (o : Option ℕ) → position (bytes_eq text) texts ≡ o → Contains texts text
    go None e = let z : false ≡ true = sym (ap is_some e) ∙ h in absurd cc
    go (Some j) e = contains_slice texts j text (position_text text texts j e)
