-- Lists of children, and what is read off them.
use Rattle.std.proofs.Common.{◌≡◌, ℕ, zero, suc, ◌+◌, ◌<◌, ◌≤◌, max, List, [], ◌∷◌, length, map, get_or, set, Option, Some, refl, sym, ap, subst, ◌∙◌, arith}
use Rattle.pt_meaning.specs.Basics.{Path}
use Rattle.pt_meaning.specs.Streams.{get}
use Rattle.pt_meaning.specs.Tree as tree
use Rattle.pt_records.specs.Kept.{kept_at}
use Rattle.pt_node.specs.Shown.{Shown, all_of}
use Rattle.pt_node.specs.View.{Trees, node_of, nodes_of, kept_of, kepts_of, count_of, counts_of, outline_of, outlines_of, with, depth, depths, text_at, text_below, maximum_at, maximum_below, labels_at, labels_below}
use Rattle.pt_node.specs.Live.{IsFit, AllFit}

pub nodes-set : (ss : List Shown) (i : ℕ) (s : Shown) → tree.list_of (nodes_of (all_of (set ss i s))) ≡ set (tree.list_of (nodes_of (all_of ss))) i (node_of s)
nodes-set [] i s = refl
nodes-set (x ∷ ss) zero s = refl
nodes-set (x ∷ ss) (suc i) s = ap (λ v. node_of x ∷ v) (nodes-set ss i s)

pub kepts-set : (ss : List Shown) (i : ℕ) (s : Shown) → kepts_of (all_of (set ss i s)) ≡ set (kepts_of (all_of ss)) i (kept_of s)
kepts-set [] i s = refl
kepts-set (x ∷ ss) zero s = refl
kepts-set (x ∷ ss) (suc i) s = ap (λ v. kept_of x ∷ v) (kepts-set ss i s)

pub kepts-at : (ss : List Shown) (i : ℕ) (s : Shown) → get ss i ≡ Some s → kept_at (kepts_of (all_of ss)) i ≡ kept_of s
kepts-at [] i s e = absurd (cc)
kepts-at (x ∷ ss) zero s e = let same : x ≡ s = cc in ap (λ v. kept_of v) same
kepts-at (x ∷ ss) (suc i) s e = kepts-at ss i s e

-- one of which as much is kept
pub kepts-same : (ss : List Shown) (i : ℕ) (s t : Shown) → get ss i ≡ Some s → kept_of t ≡ kept_of s → kepts_of (all_of (set ss i t)) ≡ kepts_of (all_of ss)
kepts-same [] i s t e h = refl
kepts-same (x ∷ ss) zero s t e h = let same : x ≡ s = cc in ap (λ k. k ∷ kepts_of (all_of ss)) (h ∙ ap (λ v. kept_of v) (sym same))
kepts-same (x ∷ ss) (suc i) s t e h = ap (λ ks. kept_of x ∷ ks) (kepts-same ss i s t e h)

pub nodes-get : (ss : List Shown) (i : ℕ) (s : Shown) → get ss i ≡ Some s → get (tree.list_of (nodes_of (all_of ss))) i ≡ Some (node_of s)
nodes-get [] i s e = absurd (cc)
nodes-get (x ∷ ss) zero s e = let same : x ≡ s = cc in ap (λ v. Option.Some (node_of v)) same
nodes-get (x ∷ ss) (suc i) s e = nodes-get ss i s e

pub kepts-long : (ss : List Shown) → length (kepts_of (all_of ss)) ≡ length ss
kepts-long [] = refl
kepts-long (x ∷ ss) = ap (λ n. suc n) (kepts-long ss)

pub nodes-long : (ss : List Shown) → length (tree.list_of (nodes_of (all_of ss))) ≡ length ss
nodes-long [] = refl
nodes-long (x ∷ ss) = ap (λ n. suc n) (nodes-long ss)

pub nodes-again : (ns : Trees) → tree.nodes_of (tree.list_of ns) ≡ ns
nodes-again tree.none = refl
nodes-again (tree.more n ns) = ap (λ v. let t : Trees = tree.more n v in t) (nodes-again ns)

pub fit-get : (ss : List Shown) (i : ℕ) (s : Shown) → get ss i ≡ Some s → AllFit (all_of ss) → IsFit s
fit-get [] i s e f = absurd (cc)
fit-get (x ∷ ss) zero s e f = let same : x ≡ s = cc in subst (λ v. IsFit v) same f.0
fit-get (x ∷ ss) (suc i) s e f = fit-get ss i s e f.1

pub fit-set : (ss : List Shown) (i : ℕ) (s : Shown) → IsFit s → AllFit (all_of ss) → AllFit (all_of (set ss i s))
fit-set [] i s g f = tt
fit-set (x ∷ ss) zero s g f = (g, f.1)
fit-set (x ∷ ss) (suc i) s g f = (f.0, fit-set ss i s g f.1)

pub outlines-set : (ss : List Shown) (i : ℕ) (s t : Shown) → get ss i ≡ Some s → outline_of t ≡ outline_of s → outlines_of (all_of (set ss i t)) ≡ outlines_of (all_of ss)
outlines-set [] i s t e h = refl
outlines-set (x ∷ ss) zero s t e h = let same : x ≡ s = cc in ap (λ o. with o (outlines_of (all_of ss))) (h ∙ ap (λ v. outline_of v) (sym same))
outlines-set (x ∷ ss) (suc i) s t e h = ap (λ os. with (outline_of x) os) (outlines-set ss i s t e h)

pub text-get : (ss : List Shown) (i : ℕ) (s : Shown) (p : Path) → get ss i ≡ Some s → text_below (outlines_of (all_of ss)) i p ≡ text_at (outline_of s) p
text-get [] i s p e = absurd (cc)
text-get (x ∷ ss) zero s p e = let same : x ≡ s = cc in ap (λ v. text_at (outline_of v) p) same
text-get (x ∷ ss) (suc i) s p e = text-get ss i s p e

pub labels-get : (ss : List Shown) (i : ℕ) (s : Shown) (p : Path) → get ss i ≡ Some s → labels_below (outlines_of (all_of ss)) i p ≡ labels_at (outline_of s) p
labels-get [] i s p e = absurd (cc)
labels-get (x ∷ ss) zero s p e = let same : x ≡ s = cc in ap (λ v. labels_at (outline_of v) p) same
labels-get (x ∷ ss) (suc i) s p e = labels-get ss i s p e

pub maxima-get : (ss : List Shown) (i : ℕ) (s : Shown) → get ss i ≡ Some s → maximum_below (outlines_of (all_of ss)) i ≡ maximum_at (outline_of s)
maxima-get [] i s e = absurd (cc)
maxima-get (x ∷ ss) zero s e = let same : x ≡ s = cc in ap (λ v. maximum_at (outline_of v)) same
maxima-get (x ∷ ss) (suc i) s e = maxima-get ss i s e

pub depth-get : (ss : List Shown) (i : ℕ) (s : Shown) → get ss i ≡ Some s → depth (outline_of s) ≤ depths (outlines_of (all_of ss))
depth-get [] i s e = absurd (cc)
depth-get (x ∷ ss) zero s e = let same : x ≡ s = cc in subst (λ v. depth (outline_of v) ≤ max (depth (outline_of x)) (depths (outlines_of (all_of ss)))) same (omega arith)
depth-get (x ∷ ss) (suc i) s e = omega (arith, depth-get ss i s e)

pub counts-same : (ss : List Shown) (i : ℕ) (s t : Shown) → get ss i ≡ Some s → count_of t ≡ count_of s → counts_of (all_of (set ss i t)) ≡ counts_of (all_of ss)
counts-same [] i s t e h = refl
counts-same (x ∷ ss) zero s t e h = let same : x ≡ s = cc in ap (λ n. n + counts_of (all_of ss)) (h ∙ ap (λ v. count_of v) (sym same))
counts-same (x ∷ ss) (suc i) s t e h = ap (λ n. count_of x + n) (counts-same ss i s t e h)

pub counts-set : (ss : List Shown) (i : ℕ) (s t : Shown) (l l' n : ℕ) → get ss i ≡ Some s → count_of t + l' ≡ count_of s + l → counts_of (all_of ss) + l ≡ n → counts_of (all_of (set ss i t)) + l' ≡ n
counts-set [] i s t l l' n e h g = absurd (cc)
counts-set (x ∷ ss) zero s t l l' n e h g = let same : x ≡ s = cc in let c : count_of x ≡ count_of s = ap (λ v. count_of v) same in omega (arith, h, g, c)
counts-set (x ∷ ss) (suc i) s t l l' n e h g = let r = counts-set ss i s t l l' (counts_of (all_of ss) + l) e h refl in omega (arith, r, g)

-- an element by its index
pub get-or : {A : Type 0} (xs : List A) (i : ℕ) (d : A) → i < length xs → d ≡ get_or xs i d → get xs i ≡ Some d
get-or [] i d h e = absurd (omega (arith, h))
get-or (x ∷ xs) zero d h e = ap (λ v. Option.Some v) (sym e)
get-or (x ∷ xs) (suc i) d h e = get-or xs i d (omega (arith, h)) e

pub get-map : {A B : Type 0} (f : A → B) (xs : List A) (i : ℕ) (x : A) → get xs i ≡ Some x → get (map f xs) i ≡ Some (f x)
get-map f [] i x e = absurd (cc)
get-map {A} {B} f (y ∷ xs) zero x e = let same : y ≡ x = cc in ap (λ v. Option.Some (f v)) same
get-map f (y ∷ xs) (suc i) x e = get-map f xs i x e

pub map-set : {A B : Type 0} (f : A → B) (xs : List A) (i : ℕ) (x : A) → map f (set xs i x) ≡ set (map f xs) i (f x)
map-set f [] i x = refl
map-set f (y ∷ xs) zero x = refl
map-set f (y ∷ xs) (suc i) x = ap (λ v. f y ∷ v) (map-set f xs i x)

pub set-again : {A : Type 0} (xs : List A) (i : ℕ) (x y : A) → set (set xs i x) i y ≡ set xs i y
set-again [] i x y = refl
set-again (z ∷ xs) zero x y = refl
set-again (z ∷ xs) (suc i) x y = ap (λ v. z ∷ v) (set-again xs i x y)

pub get-again : {A : Type 0} (xs : List A) (i : ℕ) (x : A) → i < length xs → get (set xs i x) i ≡ Some x
get-again [] i x h = absurd (omega (arith, h))
get-again (z ∷ xs) zero x h = refl
get-again (z ∷ xs) (suc i) x h = get-again xs i x (omega (arith, h))

-- one that is put where it is already
pub set-same : {A : Type 0} (xs : List A) (i : ℕ) (x : A) → get xs i ≡ Some x → set xs i x ≡ xs
set-same [] i x e = absurd (cc)
set-same (z ∷ xs) zero x e = let same : z ≡ x = cc in ap (λ v. v ∷ xs) (sym same)
set-same (z ∷ xs) (suc i) x e = ap (λ v. z ∷ v) (set-same xs i x e)

pub get-short : {A : Type 0} (xs : List A) (i : ℕ) (x : A) → get xs i ≡ Some x → i < length xs
get-short [] i x e = absurd (cc)
get-short (z ∷ xs) zero x e = omega arith
get-short (z ∷ xs) (suc i) x e = let r = get-short xs i x e in omega (arith, r)

pub get-some : {A : Type 0} (xs : List A) (i : ℕ) → i < length xs → (x : A) × (get xs i ≡ Some x)
get-some [] i h = absurd (omega (arith, h))
get-some (z ∷ xs) zero h = (z, refl)
get-some (z ∷ xs) (suc i) h = get-some xs i (omega (arith, h))
