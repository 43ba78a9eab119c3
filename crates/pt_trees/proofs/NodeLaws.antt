-- The nodes of the code as children, one after another.
use Rattle.std.proofs.Common.{◌≡◌, ℕ, zero, suc, ◌+◌, ◌<◌, ◌≤◌, List, [], ◌∷◌, ◌++◌, length, take, map, get_or, Option, Some, refl, sym, ap, ◌∙◌, arith}
use Rattle.std.specs.Prelude.{slice_get, None}
use Rattle.std.proofs.lemmas.List.{take_more}
use Rattle.pt_meaning.specs.Streams.{get}
use Rattle.pt_node.specs.declared.node.Node.{Node}
use Rattle.pt_node.specs.Shown.{shown, shown_node}
use Rattle.pt_node.specs.View.{Tree, node_of}
use Rattle.pt_node.proofs.Link.{shown-node}
use Rattle.pt_trees.specs.Composite.{trees_of}

abbrev pub trees : List Node → List Tree
trees kids = trees_of (map shown kids)

pub map-append : {A B : Type 0} (f : A → B) (xs ys : List A) → map f (xs ++ ys) ≡ map f xs ++ map f ys
map-append f [] ys = refl
map-append f (x ∷ xs) ys = ap (λ v. f x ∷ v) (map-append f xs ys)

pub trees-append : (xs ys : List Node) → trees (xs ++ ys) ≡ trees xs ++ trees ys
trees-append xs ys = ap (λ v. map node_of v) (map-append shown xs ys) ∙ map-append node_of (map shown xs) (map shown ys)

pub trees-length : (xs : List Node) → length (trees xs) ≡ length xs
trees-length [] = refl
trees-length (x ∷ xs) = ap (λ n. suc n) (trees-length xs)

pub tree-is : (n : Node) → node_of (shown n) ≡ node_of (shown_node n)
tree-is n = ap (λ s. node_of s) (shown-node n)

pub trees-more : (kids : List Node) (i : ℕ) (d : Node) → i < length kids → d ≡ get_or kids i d → trees (take (i + 1) kids) ≡ trees (take i kids) ++ node_of (shown_node d) ∷ []
trees-more kids i d h is =
    ap trees (take_more kids i d h) ∙ trees-append (take i kids) (get_or kids i d ∷ []) ∙ ap (λ n. trees (take i kids) ++ node_of (shown n) ∷ []) (sym is) ∙ ap (λ t. trees (take i kids) ++ t ∷ []) (tree-is d)

pub get-at : {A : Type 0} (xs : List A) (i : ℕ) (d : A) → i < length xs → get xs i ≡ Some (get_or xs i d)
get-at [] i d h = absurd (omega (arith, h))
get-at (x ∷ xs) zero d h = refl
get-at (x ∷ xs) (suc i) d h = get-at xs i d (omega (arith, h))

pub get-past : {A : Type 0} (xs : List A) (i : ℕ) → length xs ≤ i → get xs i ≡ None
get-past [] i h = refl
get-past (x ∷ xs) zero h = absurd (omega (arith, h))
get-past (x ∷ xs) (suc i) h = get-past xs i (omega (arith, h))

pub get-map : {A B : Type 0} (f : A → B) (xs : List A) (i : ℕ) (x : A) → get xs i ≡ Some x → get (map f xs) i ≡ Some (f x)
get-map f [] i x e = absurd (cc)
get-map {A} {B} f (y ∷ xs) zero x e = let same : y ≡ x = cc in ap (λ v. Option.Some (f v)) same
get-map f (y ∷ xs) (suc i) x e = get-map f xs i x e

pub get-none : {A B : Type 0} (f : A → B) (xs : List A) (i : ℕ) → get xs i ≡ None → get (map f xs) i ≡ None
get-none f [] i e = refl
get-none f (x ∷ xs) zero e = absurd (cc)
get-none f (x ∷ xs) (suc i) e = get-none f xs i e

pub get-slice : {A : Type 0} (xs : List A) (i : ℕ) → slice_get xs i ≡ get xs i
get-slice [] i = refl
get-slice (x ∷ xs) zero = refl
get-slice (x ∷ xs) (suc i) = get-slice xs i

pub tree-at : (kids : List Node) (i : ℕ) (d : Node) → i < length kids → d ≡ get_or kids i d → get (trees kids) i ≡ Some (node_of (shown_node d))
tree-at kids i d h is =
    get-map node_of (map shown kids) i (shown d) (get-map shown kids i d (get-at kids i d h ∙ ap (λ (v : Node). Option.Some v) (sym is))) ∙ ap (λ (v : Tree). Option.Some v) (tree-is d)
