-- A queue of children as keys: what is put in front, or goes back among the others, changes no other key.
use Rattle.std.proofs.Common.{◌≡◌, ℕ, zero, suc, ◌-◌, ◌<◌, true, false, List, [], ◌∷◌, ◌++◌, length, get_or, set, take, Option, Some, None, IfSome, IfNone, is_some, length-set, refl, sym, ap, subst, ◌∙◌, arith, inl, inr}
use Rattle.std.proofs.lemmas.Bool.{false≢true, ltb-true, ltb-false, cases_eq}
use Rattle.std.proofs.lemmas.List.{get_or-set_other, length-append}
use Rattle.std.proofs.lemmas.Grind.{get_or-set_at}
use Rattle.pt_meaning.specs.Tag.{Tag, earlier, least, is_due}
use Rattle.pt_wakes.specs.Wakes.{wake_of, IsDueAt, NoneIsDue}
use Rattle.pt_wakes.specs.Keys.{key_of}
use Rattle.pt_wakes.specs.Queue.{with_front, IsFront, IsQueue, IsFirstKey, is_before}
use Rattle.pt_wakes.proofs.Earlier.{earlier-self, earlier-comm, earlier-assoc, due-neither, tag-self, first_one, from_numbers}
use Rattle.pt_wakes.proofs.NodeLaws.{absorbed}

set-twice : (xs : List (Option Tag)) (i : ℕ) (v w : Option Tag) → set (set xs i v) i w ≡ set xs i w
set-twice [] i v w = refl
set-twice (x ∷ xs) zero v w = refl
set-twice (x ∷ xs) (suc i) v w = ap (λ ys. x ∷ ys) (set-twice xs i v w)

set-swap : (xs : List (Option Tag)) (i j : ℕ) (v w : Option Tag) → (i ≡ j → ⊥) → set (set xs i v) j w ≡ set (set xs j w) i v
set-swap [] i j v w n = refl
set-swap (x ∷ xs) zero zero v w n = absurd (n refl)
set-swap (x ∷ xs) zero (suc j) v w n = refl
set-swap (x ∷ xs) (suc i) zero v w n = refl
set-swap (x ∷ xs) (suc i) (suc j) v w n = ap (λ ys. x ∷ ys) (set-swap xs i j v w (λ e. n (ap suc e)))

-- a key that is none already
set-none : (xs : List (Option Tag)) (i : ℕ) → wake_of xs i ≡ None → set xs i None ≡ xs
set-none [] i h = refl
set-none (x ∷ xs) zero h = ap (λ y. y ∷ xs) (sym h)
set-none (x ∷ xs) (suc i) h = ap (λ ys. x ∷ ys) (set-none xs i h)

-- the least once there is one more key
pub least-set : (xs : List (Option Tag)) (i : ℕ) (k : Option Tag) → i < length xs → wake_of xs i ≡ None → least (set xs i k) ≡ earlier k (least xs)
least-set [] i k l h = absurd (omega (arith, l))
least-set (x ∷ xs) zero k l h = ap (λ v. earlier k (earlier v (least xs))) (sym h)
least-set (x ∷ xs) (suc i) k l h =
    ap (earlier x) (least-set xs i k (omega (arith, l)) h) ∙ sym (earlier-assoc x k (least xs)) ∙ ap (λ v. earlier v (least xs)) (earlier-comm x k) ∙ earlier-assoc k x (least xs)

-- the last of a list
pub last-split : (xs : List ℕ) (d : ℕ) → 0 < length xs → xs ≡ take (length xs - 1) xs ++ get_or xs (length xs - 1) d ∷ []
last-split [] d l = absurd (omega (arith, l))
last-split (x ∷ []) d l = refl
last-split (x ∷ y ∷ ys) d l =
    let e : suc (suc (length ys)) - 1 ≡ suc (suc (length ys) - 1) = omega arith in
    ap (λ zs. x ∷ zs) (last-split (y ∷ ys) d (omega arith)) ∙ ap (λ n. take n (x ∷ y ∷ ys) ++ get_or (x ∷ y ∷ ys) n d ∷ []) (sym e)

pub with-long : (F : List ℕ) (d : ℕ) (K : List (Option Tag)) → length (with_front F d K) ≡ length K
with-long [] d K = refl
with-long (i ∷ is) d K = with-long is d (set K i (key_of true d)) ∙ length-set K i (key_of true d)

-- one more in front
pub with-snoc : (F : List ℕ) (d : ℕ) (K : List (Option Tag)) (x : ℕ) → with_front (F ++ x ∷ []) d K ≡ set (with_front F d K) x (key_of true d)
with-snoc [] d K x = refl
with-snoc (i ∷ is) d K x = with-snoc is d (set K i (key_of true d)) x

front-snoc : (F : List ℕ) (d : ℕ) (K : List (Option Tag)) (x : ℕ) → IsFront d K F → x < length (with_front F d K) → wake_of (with_front F d K) x ≡ None → IsFront d K (F ++ x ∷ [])
front-snoc [] d K x f l h = (l, h, tt)
front-snoc (i ∷ is) d K x f l h = (f.0, f.1, front-snoc is d (set K i (key_of true d)) x f.2 l h)

record IsLast (F : List ℕ) (d : ℕ) (K : List (Option Tag)) (x : ℕ) : Type 0 where
  pub front : IsFront d K F
  pub there : x < length (with_front F d K)
  pub none : wake_of (with_front F d K) x ≡ None

front-last : (F : List ℕ) (d : ℕ) (K : List (Option Tag)) (x : ℕ) → IsFront d K (F ++ x ∷ []) → IsLast F d K x
front-last [] d K x f = record { front = tt; there = f.0; none = f.1 }
front-last (i ∷ is) d K x f = let r = front-last is d (set K i (key_of true d)) x f.2 in record { front = (f.0, f.1, r.front); there = r.there; none = r.none }

-- a key at the depth of those in front stays
stays : (F : List ℕ) (d : ℕ) (K : List (Option Tag)) (x : ℕ) → x < length K → wake_of K x ≡ key_of true d → wake_of (with_front F d K) x ≡ key_of true d
stays [] d K x l h = h
stays (i ∷ is) d K x l h = stays is d (set K i (key_of true d)) x (subst (λ n. x < n) (sym (length-set K i (key_of true d))) l) (elim (cases_eq x i) [
  | inl e ↦ get_or-set_at K i x (key_of true d) None e (omega (arith, e, l))
  | inr n ↦ get_or-set_other K i x (key_of true d) None n ∙ h
])

-- so one without a key isn't in front
aside : (F : List ℕ) (d : ℕ) (K : List (Option Tag)) (i x : ℕ) → x < length K → wake_of (with_front (i ∷ F) d K) x ≡ None → x ≡ i → ⊥
aside F d K i x l h e =
    let c : Option Tag = key_of true d in
    let k : wake_of (set K i c) x ≡ c = get_or-set_at K i x c None e (omega (arith, e, l)) in
    let s : wake_of (with_front F d (set K i c)) x ≡ c = stays F d (set K i c) x (subst (λ n. x < n) (sym (length-set K i c)) l) k in
    false≢true (ap is_some (sym h ∙ s))

with-set : (F : List ℕ) (d : ℕ) (K : List (Option Tag)) (x : ℕ) (k : Option Tag) → x < length K → wake_of (with_front F d K) x ≡ None → with_front F d (set K x k) ≡ set (with_front F d K) x k
with-set [] d K x k l h = refl
with-set (i ∷ is) d K x k l h =
    let c : Option Tag = key_of true d in
    ap (λ ys. with_front is d ys) (set-swap K x i k c (aside is d K i x l h)) ∙ with-set is d (set K i c) x k (subst (λ n. x < n) (sym (length-set K i c)) l) h

front-set : (F : List ℕ) (d : ℕ) (K : List (Option Tag)) (x : ℕ) (k : Option Tag) → x < length K → wake_of (with_front F d K) x ≡ None → IsFront d K F → IsFront d (set K x k) F
front-set [] d K x k l h f = tt
front-set (i ∷ is) d K x k l h f =
    let c : Option Tag = key_of true d in
    let n : x ≡ i → ⊥ = aside is d K i x l h in
    let there : i < length (set K x k) = subst (λ m. i < m) (sym (length-set K x k)) f.0 in
    let none : wake_of (set K x k) i ≡ None = get_or-set_other K x i k None (λ e. n (sym e)) ∙ f.1 in
    (there, none, subst (λ ys. IsFront d ys is) (sym (set-swap K x i k c n)) (front-set is d (set K i c) x k (subst (λ m. x < m) (sym (length-set K i c)) l) h f.2))

-- one without a key isn't among the others either
pub not-behind : (F : List ℕ) (d : ℕ) (K : List (Option Tag)) (x : ℕ) → x < length K → wake_of (with_front F d K) x ≡ None → wake_of K x ≡ None
not-behind [] d K x l h = h
not-behind (i ∷ is) d K x l h =
    let c : Option Tag = key_of true d in
    sym (get_or-set_other K i x c None (aside is d K i x l h)) ∙ not-behind is d (set K i c) x (subst (λ n. x < n) (sym (length-set K i c)) l) h

-- where no key is of a lesser depth
not-before : (d : ℕ) (k : Option Tag) → is_before d k ≡ false → earlier (key_of true d) k ≡ key_of true d
not-before d None h = refl
not-before d (Some t) h = let a : Tag = record { time = d; step = 0 } in first_one a t (from_numbers a t (record { time = ltb-false t.time d h; step = λ m. omega arith }))

before-key : (d e : ℕ) → is_before d (key_of true e) ≡ true → earlier (key_of true d) (key_of true e) ≡ key_of true e
before-key d e h =
    let a : Tag = record { time = d; step = 0 } in
    let b : Tag = record { time = e; step = 0 } in
    let l : e < d = ltb-true e d h in
    earlier-comm (Some a) (Some b) ∙ first_one b a (from_numbers b a (record { time = omega (arith, l); step = λ m. omega (arith, l, m) }))

-- where there is one in front, the least key is theirs
pub least-front : (F : List ℕ) (d : ℕ) (K : List (Option Tag)) → IsQueue F d K → 0 < length F → least (with_front F d K) ≡ key_of true d
least-front [] d K q l = absurd (omega (arith, l))
least-front (i ∷ is) d K q l =
    let c : Option Tag = key_of true d in
    let V : List (Option Tag) = with_front (i ∷ is) d K in
    let has : wake_of V i ≡ c = stays is d (set K i c) i (subst (λ n. i < n) (sym (length-set K i c)) q.front.0) (get_or-set_at K i i c None refl q.front.0) in
    let there : i < length V = subst (λ n. i < n) (sym (with-long (i ∷ is) d K)) q.front.0 in
    sym (subst (λ v. earlier v (least V) ≡ least V) has (absorbed V i there)) ∙ q.first l

-- a wake that is due nowhere is none
undue : (tag : Tag) (wakes : List (Option Tag)) → NoneIsDue tag wakes → is_due tag (least wakes) ≡ false
undue tag [] h = refl
undue tag (w ∷ wakes) h = due-neither tag w (least wakes) (h 0 (omega arith)) (undue tag wakes (λ i l. h (suc i) (omega (arith, l))))

due-first : (t : Tag) (w : Option Tag) → is_due t w ≡ true → earlier w (Some t) ≡ w
due-first t None h = absurd (false≢true h)
due-first t (Some u) h = first_one u t h

-- a key that is due at the least is the least
pub found : (keys : List (Option Tag)) (t : Tag) → least keys ≡ Some t → (o : Option ℕ) → IfSome o (IsDueAt t keys) → IfSome o (IsFirstKey keys)
found keys t e None d = tt
found keys t e (Some i) d = record {
  there = d.0;
  key = t;
  has = sym (due-first t (wake_of keys i) d.1) ∙ ap (earlier (wake_of keys i)) (sym e) ∙ absorbed keys i d.0 ∙ e;
  first = e;
}

-- and one is
pub is-found : (keys : List (Option Tag)) (t : Tag) → least keys ≡ Some t → (o : Option ℕ) → IfNone o (NoneIsDue t keys) → IfNone o (least keys ≡ None)
is-found keys t e None d = absurd (false≢true (sym (undue t keys d) ∙ ap (is_due t) e ∙ tag-self t))
is-found keys t e (Some i) d = tt

pub not-empty : (F P : List ℕ) (o : Option ℕ) → is_some o ≡ true → IfSome o (λ x. F ≡ P ++ x ∷ []) → 0 < length F
not-empty F P None h e = absurd (false≢true h)
not-empty F P (Some x) h e = let l = ap length e ∙ length-append P (x ∷ []) in omega (arith, l)

module _ (F P : List ℕ) (d : ℕ) (K : List (Option Tag)) (x : ℕ) (e : F ≡ P ++ x ∷ []) where
  snoc-long : 0 < length F
  snoc-long = let l = ap length e ∙ length-append P (x ∷ []) in omega (arith, l)

  seen : with_front F d K ≡ set (with_front P d K) x (key_of true d)
  seen = ap (λ f. with_front f d K) e ∙ with-snoc P d K x

  last : IsFront d K F → IsLast P d K x
  last f = front-last P d K x (subst (λ v. IsFront d K v) e f)

  -- the last in front is first
  pub last-first : IsQueue F d K → IsFirstKey (with_front F d K) x
  last-first q =
      let c : Option Tag = key_of true d in
      let r = last q.front in
      record {
        there = subst (λ v. x < length v) (sym seen) (subst (λ n. x < n) (sym (length-set (with_front P d K) x c)) r.there);
        key = record { time = d; step = 0 };
        has = ap (λ v. wake_of v x) seen ∙ get_or-set_at (with_front P d K) x x c None refl r.there;
        first = least-front F d K q snoc-long;
      }

  -- it leaves
  pub last-left : IsQueue F d K → IsQueue P d K × (with_front P d K ≡ set (with_front F d K) x None)
  last-left q =
      let c : Option Tag = key_of true d in
      let V : List (Option Tag) = with_front P d K in
      let r = last q.front in
      let l : least (with_front F d K) ≡ earlier c (least V) = ap least seen ∙ least-set V x c r.there r.none in
      let f : earlier c (least V) ≡ c = ap (λ v. earlier v (least V)) (sym (earlier-self c)) ∙ earlier-assoc c c (least V) ∙ ap (earlier c) (sym l) ∙ q.first snoc-long in
      (record { front = r.front; first = λ p. f }, sym (ap (λ v. set v x None) seen ∙ set-twice V x c None ∙ set-none V x r.none))

  -- or goes back among the others
  pub last-there : IsFront d K F → x < length K
  last-there f = subst (λ n. x < n) (with-long P d K) (last f).there

  pub last-out : IsFront d K F → wake_of K x ≡ None
  last-out f = not-behind P d K x (last-there f) (last f).none

  pub last-back : IsFront d K F → IsFront d (set K x (key_of true d)) P
  last-back f = let r = last f in front-set P d K x (key_of true d) (last-there f) r.none r.front

  pub last-same : IsFront d K F → with_front P d (set K x (key_of true d)) ≡ with_front F d K
  last-same f = let r = last f in with-set P d K x (key_of true d) (last-there f) r.none ∙ sym seen

module _ (F : List ℕ) (d : ℕ) (K : List (Option Tag)) (x e : ℕ) (l : x < length (with_front F d K)) (h : wake_of (with_front F d K) x ≡ None) where
  there : x < length K
  there = subst (λ n. x < n) (with-long F d K) l

  pub put-out : wake_of K x ≡ None
  put-out = not-behind F d K x there h

  pub put-same : with_front F d (set K x (key_of true e)) ≡ set (with_front F d K) x (key_of true e)
  put-same = with-set F d K x (key_of true e) there h

  -- a child is put among the others where one is less deep
  pub put-behind : IsQueue F d K → is_before e (least (with_front F d K)) ≡ true → IsQueue F d (set K x (key_of true e))
  put-behind q b =
      let c : Option Tag = key_of true d in
      record {
        front = front-set F d K x (key_of true e) there h q.front;
        first = λ p.
            let m : least (with_front F d K) ≡ c = least-front F d K q p in
            let k : earlier (key_of true e) c ≡ c = before-key e d (subst (λ v. is_before e v ≡ true) m b) in
            let n : least (with_front F d (set K x (key_of true e))) ≡ c = ap least put-same ∙ least-set (with_front F d K) x (key_of true e) l h ∙ ap (earlier (key_of true e)) m ∙ k in
            ap (earlier c) n ∙ earlier-self c;
      }

-- or where none is, at their depth
module _ (F : List ℕ) (d : ℕ) (K : List (Option Tag)) (x : ℕ) (l : x < length (with_front F d K)) (h : wake_of (with_front F d K) x ≡ None) (f : IsFront d K F) (b : is_before d (least (with_front F d K)) ≡ false) where
  least-is : (V : List (Option Tag)) → V ≡ set (with_front F d K) x (key_of true d) → earlier (key_of true d) (least V) ≡ key_of true d
  least-is V e =
      let c : Option Tag = key_of true d in
      ap (λ v. earlier c (least v)) e ∙ ap (earlier c) (least-set (with_front F d K) x c l h ∙ not-before d (least (with_front F d K)) b) ∙ earlier-self c

  pub put-front : IsQueue (F ++ x ∷ []) d K
  put-front = record { front = front-snoc F d K x f l h; first = λ p. least-is (with_front (F ++ x ∷ []) d K) (with-snoc F d K x) }

  pub put-beside : IsQueue F d (set K x (key_of true d))
  put-beside = record {
    front = front-set F d K x (key_of true d) (subst (λ n. x < n) (with-long F d K) l) h f;
    first = λ p. least-is (with_front F d (set K x (key_of true d))) (put-same F d K x d l h);
  }

-- the last, once what was asked about it is the list
pub last-is : (F G : List ℕ) (n x y : ℕ) → G ≡ F → length F ≡ n → x ≡ y → G ≡ take (length G - 1) G ++ x ∷ [] → F ≡ take (n - 1) F ++ y ∷ []
last-is F G n x y g l e h = sym g ∙ h ∙ ap (λ v. take (length v - 1) v ++ x ∷ []) g ∙ ap (λ m. take (m - 1) F ++ x ∷ []) l ∙ ap (λ v. take (n - 1) F ++ v ∷ []) e
