-- Flags, and the list of those that are set.
use Rattle.std.proofs.Common.{◌≡◌, ◌≢◌, ◌⊎◌, inl, inr, ℕ, zero, suc, ◌+◌, ◌<◌, ◌≤◌, List, [], ◌∷◌, ◌++◌, Bool, true, false, length, get_or, set, take, replicate, refl, sym, ap, subst, ◌∙◌, arith, length-append, length-set}
use Rattle.std.proofs.Math.Seq.{get_or-append_seam}
use Rattle.std.proofs.lemmas.Bool.{false≢true}
use Rattle.std.proofs.lemmas.List.{get_or-set_same, get_or-set_other, get_or-take, get_or_append_left, length-take-le, length-replicate}
use Rattle.pt_rv_parts.specs.Flags.{one_if_set, set_in, AreListed}

same-or : (i j : ℕ) → (i ≡ j) ⊎ (j ≢ i)
same-or i j = grind arith

before-last : (k n : ℕ) → k < n + 1 → (k < n) ⊎ (n ≡ k)
before-last k n h = grind arith

pub set-there : (fs : List Bool) (i : ℕ) → get_or fs i false ≡ true → i < length fs
set-there [] i e = absurd (false≢true e)
set-there (f ∷ fs) zero e = omega arith
set-there (f ∷ fs) (suc i) e = let r = set-there fs i e in omega (arith, r)

-- how many are set, once one flag is changed
set-more : (fs : List Bool) (i : ℕ) → i < length fs → get_or fs i false ≡ false → set_in (set fs i true) ≡ set_in fs + 1
set-more [] i h e = absurd (omega (arith, h))
set-more (f ∷ fs) zero h e = let a = ap one_if_set e in omega (arith, a)
set-more (f ∷ fs) (suc i) h e = let r = set-more fs i (omega (arith, h)) e in omega (arith, r)

set-fewer : (fs : List Bool) (i : ℕ) → get_or fs i false ≡ true → set_in (set fs i false) + 1 ≡ set_in fs
set-fewer [] i e = absurd (false≢true e)
set-fewer (f ∷ fs) zero e = let a = ap one_if_set e in omega (arith, a)
set-fewer (f ∷ fs) (suc i) e = let r = set-fewer fs i e in omega (arith, r)

set-few : (fs : List Bool) → set_in fs ≤ length fs
set-few [] = omega arith
set-few (true ∷ fs) = let r = set-few fs in omega (arith, r)
set-few (false ∷ fs) = let r = set-few fs in omega (arith, r)

pub listed-few : (fs : List Bool) (ns ps : List ℕ) → AreListed fs ns ps → length ns ≤ length fs
listed-few fs ns ps w = let a = set-few fs in omega (arith, a, w.many)

-- fewer are set than there are, where one isn't
set-under : (fs : List Bool) (i : ℕ) → i < length fs → get_or fs i false ≡ false → set_in fs < length fs
set-under [] i h e = absurd (omega (arith, h))
set-under (f ∷ fs) zero h e = let a = ap one_if_set e in let r = set-few fs in omega (arith, a, r)
set-under (true ∷ fs) (suc i) h e = let r = set-under fs i (omega (arith, h)) e in omega (arith, r)
set-under (false ∷ fs) (suc i) h e = let r = set-under fs i (omega (arith, h)) e in omega (arith, r)

set-none : (n : ℕ) → set_in (replicate n false) ≡ 0
set-none zero = refl
set-none (suc n) = let r = set-none n in omega (arith, r)

none-set : (n i : ℕ) → get_or (replicate n false) i false ≡ false
none-set zero i = refl
none-set (suc n) zero = refl
none-set (suc n) (suc i) = none-set n i

-- no flag is set at first
pub listed-first : (n : ℕ) (fs : List Bool) (ns ps : List ℕ) → fs ≡ replicate n false → ns ≡ [] → length ps ≡ n → AreListed fs ns ps
listed-first n fs ns ps e f h = record {
  counted = let a = ap (λ v. length v) e in let b = length-replicate n false in omega (arith, a, b, h);
  many = ap (λ v. length v) f ∙ sym (ap set_in e ∙ set-none n);
  set = λ k l. absurd (let a = ap (λ v. length v) f in omega (arith, a, l));
  back = λ k l. absurd (let a = ap (λ v. length v) f in omega (arith, a, l));
  listed = λ i s. absurd (false≢true (sym (ap (λ v. get_or v i false) e ∙ none-set n i) ∙ s));
}

-- where the list is empty no flag is set
pub listed-none : (fs : List Bool) (ns ps : List ℕ) → AreListed fs ns ps → length ns ≡ 0 → (i : ℕ) → get_or fs i false ≡ false
listed-none fs ns ps w e i = by (get_or fs i false) refl
  where
    by : (b : Bool) → get_or fs i false ≡ b → get_or fs i false ≡ false
    by true s = absurd (let l = (w.listed i s).0 in omega (arith, l, e))
    by false s = s

-- room for one number more, where a flag isn't set
pub listed-room : (fs : List Bool) (ns ps : List ℕ) (i : ℕ) → AreListed fs ns ps → i < length fs → get_or fs i false ≡ false → length ns < length fs
listed-room fs ns ps i w h e = let a = set-under fs i h e in omega (arith, a, w.many)

-- a flag is set, and its number comes behind the others
module _ (fs : List Bool) (ns ps : List ℕ) (number : ℕ) (w : AreListed fs ns ps) (there : number < length fs) (unset : get_or fs number false ≡ false) where
  new-flag : (i : ℕ) → get_or fs i false ≡ true → get_or (set fs number true) i false ≡ true
  new-flag i e = by (same-or number i)
    where
      by : (number ≡ i) ⊎ (i ≢ number) → get_or (set fs number true) i false ≡ true
      by (inl z) = absurd (false≢true (sym unset ∙ ap (λ j. get_or fs j false) z ∙ e))
      by (inr z) = get_or-set_other fs number i true false z ∙ e

  behind : get_or (ns ++ number ∷ []) (length ns) 0 ≡ number
  behind = get_or-append_seam ns number [] 0

  front : (k : ℕ) → k < length ns → get_or (ns ++ number ∷ []) k 0 ≡ get_or ns k 0
  front k l = get_or_append_left ns (number ∷ []) 0 k l

  apart : (k : ℕ) → k < length ns → get_or ns k 0 ≢ number
  apart k l e = false≢true (sym unset ∙ ap (λ j. get_or fs j false) (sym e) ∙ w.set k l)

  long : length (ns ++ number ∷ []) ≡ length ns + 1
  long = length-append ns (number ∷ [])

  within : number < length ps
  within = omega (arith, there, w.counted)

  entered-set : (k : ℕ) → k < length (ns ++ number ∷ []) → get_or (set fs number true) (get_or (ns ++ number ∷ []) k 0) false ≡ true
  entered-set k l = by (before-last k (length ns) (let a = long in omega (arith, l, a)))
    where
      by : (k < length ns) ⊎ (length ns ≡ k) → get_or (set fs number true) (get_or (ns ++ number ∷ []) k 0) false ≡ true
      by (inl h) = ap (λ j. get_or (set fs number true) j false) (front k h) ∙ new-flag (get_or ns k 0) (w.set k h)
      by (inr z) = ap (λ j. get_or (set fs number true) (get_or (ns ++ number ∷ []) j 0) false) (sym z) ∙ ap (λ j. get_or (set fs number true) j false) behind ∙ get_or-set_same fs number true false there

  entered-back : (k : ℕ) → k < length (ns ++ number ∷ []) → get_or (set ps number (length ns)) (get_or (ns ++ number ∷ []) k 0) 0 ≡ k
  entered-back k l = by (before-last k (length ns) (let a = long in omega (arith, l, a)))
    where
      by : (k < length ns) ⊎ (length ns ≡ k) → get_or (set ps number (length ns)) (get_or (ns ++ number ∷ []) k 0) 0 ≡ k
      by (inl h) = ap (λ j. get_or (set ps number (length ns)) j 0) (front k h) ∙ get_or-set_other ps number (get_or ns k 0) (length ns) 0 (apart k h) ∙ w.back k h
      by (inr z) = ap (λ j. get_or (set ps number (length ns)) (get_or (ns ++ number ∷ []) j 0) 0) (sym z) ∙ ap (λ j. get_or (set ps number (length ns)) j 0) behind ∙ get_or-set_same ps number (length ns) 0 within ∙ z

  entered-listed : (i : ℕ) → get_or (set fs number true) i false ≡ true → (get_or (set ps number (length ns)) i 0 < length (ns ++ number ∷ [])) × (get_or (ns ++ number ∷ []) (get_or (set ps number (length ns)) i 0) 0 ≡ i)
  entered-listed i s = by (same-or number i)
    where
      by : (number ≡ i) ⊎ (i ≢ number) → (get_or (set ps number (length ns)) i 0 < length (ns ++ number ∷ [])) × (get_or (ns ++ number ∷ []) (get_or (set ps number (length ns)) i 0) 0 ≡ i)
      by (inl z) =
          let p : get_or (set ps number (length ns)) i 0 ≡ length ns = ap (λ j. get_or (set ps number (length ns)) j 0) (sym z) ∙ get_or-set_same ps number (length ns) 0 within in
          (let a = long in omega (arith, p, a), ap (λ j. get_or (ns ++ number ∷ []) j 0) p ∙ behind ∙ z)
      by (inr z) =
          let p : get_or (set ps number (length ns)) i 0 ≡ get_or ps i 0 = get_or-set_other ps number i (length ns) 0 z in
          let h = w.listed i (sym (get_or-set_other fs number i true false z) ∙ s) in
          let l = h.0 in
          (let a = long in omega (arith, p, a, l), ap (λ j. get_or (ns ++ number ∷ []) j 0) p ∙ front (get_or ps i 0) l ∙ h.1)

  entered : AreListed (set fs number true) (ns ++ number ∷ []) (set ps number (length ns))
  entered = record {
    counted = length-set ps number (length ns) ∙ w.counted ∙ sym (length-set fs number true);
    many = let a = long in let b = set-more fs number there unset in omega (arith, a, b, w.many);
    set = entered-set;
    back = entered-back;
    listed = entered-listed;
  }

  pub listed-more : (ns' ps' : List ℕ) → ns' ≡ ns ++ number ∷ [] → ps' ≡ set ps number (length ns) → AreListed (set fs number true) ns' ps'
  listed-more ns' ps' e f = subst (λ v. AreListed (set fs number true) v ps') (sym e) (subst (λ v. AreListed (set fs number true) (ns ++ number ∷ []) v) (sym f) entered)

-- a flag is taken back, and the last number comes into the place of its number
module _ (fs : List Bool) (ns ps : List ℕ) (number rest place last : ℕ) (w : AreListed fs ns ps) (marked : get_or fs number false ≡ true) (at_place : get_or ps number 0 ≡ place) (at_last : get_or ns rest 0 ≡ last) (ends : length ns ≡ rest + 1) where
  pub place-there : place < length ns
  place-there = let h = (w.listed number marked).0 in omega (arith, h, at_place)

  number-at : get_or ns place 0 ≡ number
  number-at = ap (λ j. get_or ns j 0) (sym at_place) ∙ (w.listed number marked).1

  last-set : get_or fs last false ≡ true
  last-set = ap (λ j. get_or fs j false) (sym at_last) ∙ w.set rest (omega (arith, ends))

  last-back : get_or ps last 0 ≡ rest
  last-back = ap (λ j. get_or ps j 0) (sym at_last) ∙ w.back rest (omega (arith, ends))

  pub last-there : last < length ps
  last-there = let h = set-there fs last last-set in omega (arith, h, w.counted)

  left-long : length (take rest (set ns place last)) ≡ rest
  left-long = length-take-le rest (set ns place last) (let a = length-set ns place last in omega (arith, a, ends))

  -- the number at a place of the rest
  left-moved : place < rest → get_or (take rest (set ns place last)) place 0 ≡ last
  left-moved l = get_or-take rest (set ns place last) place 0 l ∙ get_or-set_same ns place last 0 place-there

  left-kept : (k : ℕ) → k < rest → k ≢ place → get_or (take rest (set ns place last)) k 0 ≡ get_or ns k 0
  left-kept k l z = get_or-take rest (set ns place last) k 0 l ∙ get_or-set_other ns place k last 0 z

  kept-flag : (i : ℕ) → get_or fs i false ≡ true → i ≢ number → get_or (set fs number false) i false ≡ true
  kept-flag i e z = get_or-set_other fs number i false false z ∙ e

  -- numbers at places before the last are others than the last
  apart-last : (k : ℕ) → k < rest → get_or ns k 0 ≢ last
  apart-last k l e =
      let a : get_or ps (get_or ns k 0) 0 ≡ k = w.back k (omega (arith, l, ends)) in
      let b = ap (λ j. get_or ps j 0) e ∙ last-back in
      omega (arith, a, b, l)

  apart-number : (k : ℕ) → k < length ns → k ≢ place → get_or ns k 0 ≢ number
  apart-number k l z e = z (sym (w.back k l) ∙ ap (λ j. get_or ps j 0) e ∙ at_place)

  last-apart : place < rest → last ≢ number
  last-apart l e =
      let a : rest ≡ place = sym last-back ∙ ap (λ j. get_or ps j 0) e ∙ at_place in
      omega (arith, a, l)

  left-set : (k : ℕ) → k < length (take rest (set ns place last)) → get_or (set fs number false) (get_or (take rest (set ns place last)) k 0) false ≡ true
  left-set k h = by (same-or place k) (let a = left-long in omega (arith, a, h))
    where
      by : (place ≡ k) ⊎ (k ≢ place) → k < rest → get_or (set fs number false) (get_or (take rest (set ns place last)) k 0) false ≡ true
      by (inl z) l = ap (λ j. get_or (set fs number false) (get_or (take rest (set ns place last)) j 0) false) (sym z) ∙ ap (λ j. get_or (set fs number false) j false) (left-moved (omega (arith, z, l))) ∙ kept-flag last last-set (last-apart (omega (arith, z, l)))
      by (inr z) l = ap (λ j. get_or (set fs number false) j false) (left-kept k l z) ∙ kept-flag (get_or ns k 0) (w.set k (omega (arith, l, ends))) (apart-number k (omega (arith, l, ends)) z)

  left-back : (k : ℕ) → k < length (take rest (set ns place last)) → get_or (set ps last place) (get_or (take rest (set ns place last)) k 0) 0 ≡ k
  left-back k h = by (same-or place k) (let a = left-long in omega (arith, a, h))
    where
      by : (place ≡ k) ⊎ (k ≢ place) → k < rest → get_or (set ps last place) (get_or (take rest (set ns place last)) k 0) 0 ≡ k
      by (inl z) l = ap (λ j. get_or (set ps last place) (get_or (take rest (set ns place last)) j 0) 0) (sym z) ∙ ap (λ j. get_or (set ps last place) j 0) (left-moved (omega (arith, z, l))) ∙ get_or-set_same ps last place 0 last-there ∙ z
      by (inr z) l = ap (λ j. get_or (set ps last place) j 0) (left-kept k l z) ∙ get_or-set_other ps last (get_or ns k 0) place 0 (apart-last k l) ∙ w.back k (omega (arith, l, ends))

  left-listed : (i : ℕ) → get_or (set fs number false) i false ≡ true → (get_or (set ps last place) i 0 < length (take rest (set ns place last))) × (get_or (take rest (set ns place last)) (get_or (set ps last place) i 0) 0 ≡ i)
  left-listed i s = by (same-or number i)
    where
      moved : (i ≢ number) → last ≡ i → (get_or (set ps last place) i 0 < length (take rest (set ns place last))) × (get_or (take rest (set ns place last)) (get_or (set ps last place) i 0) 0 ≡ i)
      moved z y =
          let p : get_or (set ps last place) i 0 ≡ place = ap (λ j. get_or (set ps last place) j 0) (sym y) ∙ get_or-set_same ps last place 0 last-there in
          let l : place < rest = by-last (before-last place rest (let a = place-there in omega (arith, a, ends))) in
          (let a = left-long in omega (arith, p, a, l), ap (λ j. get_or (take rest (set ns place last)) j 0) p ∙ left-moved l ∙ y)
        where
          by-last : (place < rest) ⊎ (rest ≡ place) → place < rest
          by-last (inl l) = l
          by-last (inr e) = absurd (z (sym y ∙ sym at_last ∙ ap (λ j. get_or ns j 0) e ∙ number-at))

      kept : (i ≢ number) → (i ≢ last) → (get_or (set ps last place) i 0 < length (take rest (set ns place last))) × (get_or (take rest (set ns place last)) (get_or (set ps last place) i 0) 0 ≡ i)
      kept z y =
          let p : get_or (set ps last place) i 0 ≡ get_or ps i 0 = get_or-set_other ps last i place 0 y in
          let h = w.listed i (sym (get_or-set_other fs number i false false z) ∙ s) in
          let l : get_or ps i 0 < rest = by-last (before-last (get_or ps i 0) rest (let a = h.0 in omega (arith, a, ends))) h.1 in
          let n : get_or ps i 0 ≢ place = λ e. z (sym h.1 ∙ ap (λ j. get_or ns j 0) e ∙ number-at) in
          (let a = left-long in omega (arith, p, a, l), ap (λ j. get_or (take rest (set ns place last)) j 0) p ∙ left-kept (get_or ps i 0) l n ∙ h.1)
        where
          by-last : (get_or ps i 0 < rest) ⊎ (rest ≡ get_or ps i 0) → get_or ns (get_or ps i 0) 0 ≡ i → get_or ps i 0 < rest
          by-last (inl l) e = l
          by-last (inr f) e = absurd (y (sym e ∙ ap (λ j. get_or ns j 0) (sym f) ∙ at_last))

      other : (i ≢ number) → (last ≡ i) ⊎ (i ≢ last) → (get_or (set ps last place) i 0 < length (take rest (set ns place last))) × (get_or (take rest (set ns place last)) (get_or (set ps last place) i 0) 0 ≡ i)
      other z (inl y) = moved z y
      other z (inr y) = kept z y

      by : (number ≡ i) ⊎ (i ≢ number) → (get_or (set ps last place) i 0 < length (take rest (set ns place last))) × (get_or (take rest (set ns place last)) (get_or (set ps last place) i 0) 0 ≡ i)
      by (inl z) = absurd (false≢true (sym (ap (λ j. get_or (set fs number false) j false) (sym z) ∙ get_or-set_same fs number false false (set-there fs number marked)) ∙ s))
      by (inr z) = other z (same-or last i)

  left : AreListed (set fs number false) (take rest (set ns place last)) (set ps last place)
  left = record {
    counted = length-set ps last place ∙ w.counted ∙ sym (length-set fs number false);
    many = let a = left-long in let b = set-fewer fs number marked in omega (arith, a, b, w.many, ends);
    set = left-set;
    back = left-back;
    listed = left-listed;
  }

  pub listed-fewer : (ns' ps' : List ℕ) → ns' ≡ take rest (set ns place last) → ps' ≡ set ps last place → AreListed (set fs number false) ns' ps'
  listed-fewer ns' ps' e f = subst (λ v. AreListed (set fs number false) v ps') (sym e) (subst (λ v. AreListed (set fs number false) (take rest (set ns place last)) v) (sym f) left)
