-- The loop over the children that are brought back to their starts, by the code's list of nodes.
use Rattle.std.proofs.Common.{◌≡◌, ℕ, zero, suc, ◌+◌, ◌<◌, ◌≤◌, max, List, [], ◌∷◌, length, map, get_or, set, Option, Some, refl, sym, ap, subst, ◌∙◌, arith}
use Rattle.std.proofs.lemmas.List.{length-map}
use Rattle.pt_meaning.specs.Streams.{get}
use Rattle.pt_node.specs.declared.node.Node.{Node}
use Rattle.pt_node.specs.Shown.{Shown, shown, shown_node, all_of}
use Rattle.pt_node.specs.View.{outline_of, outlines_of, depth, depths}
use Rattle.pt_node.specs.Live.{IsFit, AllFit}
use Rattle.pt_node.specs.Reset.{WasReset, KeepsRecords, KeepRecords, ResetTo}
use Rattle.pt_node.proofs.Link.{shown-node}
use Rattle.pt_node.proofs.ResetLaws.{reset-long, reset-next, reset-more, keep-set, keep-then}

-- a child by its number
get-or : {A : Type 0} (xs : List A) (i : ℕ) (d : A) → i < length xs → d ≡ get_or xs i d → get xs i ≡ Some d
get-or [] i d h e = absurd (omega (arith, h))
get-or (x ∷ xs) zero d h e = ap (λ v. Option.Some v) (sym e)
get-or (x ∷ xs) (suc i) d h e = get-or xs i d (omega (arith, h)) e

get-map : {A B : Type 0} (f : A → B) (xs : List A) (i : ℕ) (x : A) → get xs i ≡ Some x → get (map f xs) i ≡ Some (f x)
get-map f [] i x e = absurd (cc)
get-map f (y ∷ xs) zero x e = let same : y ≡ x = cc in ap (λ v. Option.Some (f v)) same
get-map f (y ∷ xs) (suc i) x e = get-map f xs i x e

map-set : {A B : Type 0} (f : A → B) (xs : List A) (i : ℕ) (x : A) → map f (set xs i x) ≡ set (map f xs) i (f x)
map-set f [] i x = refl
map-set f (y ∷ xs) zero x = refl
map-set f (y ∷ xs) (suc i) x = ap (λ v. f y ∷ v) (map-set f xs i x)

fit-get : (ss : List Shown) (i : ℕ) (s : Shown) → get ss i ≡ Some s → AllFit (all_of ss) → IsFit s
fit-get [] i s e f = absurd (cc)
fit-get (x ∷ ss) zero s e f = let same : x ≡ s = cc in subst (λ v. IsFit v) same f.0
fit-get (x ∷ ss) (suc i) s e f = fit-get ss i s e f.1

depth-get : (ss : List Shown) (i : ℕ) (s : Shown) → get ss i ≡ Some s → depth (outline_of s) ≤ depths (outlines_of (all_of ss))
depth-get [] i s e = absurd (cc)
depth-get (x ∷ ss) zero s e = let same : x ≡ s = cc in subst (λ v. depth (outline_of v) ≤ max (depth (outline_of x)) (depths (outlines_of (all_of ss)))) same (omega arith)
depth-get (x ∷ ss) (suc i) s e = omega (arith, depth-get ss i s e)

-- there are as many as before
pub kids-long : (k : ℕ) (olds kids : List Node) → ResetTo k (map shown olds) (map shown kids) → length kids ≡ length olds
kids-long k olds kids r = sym (length-map kids shown) ∙ reset-long k (map shown olds) (map shown kids) r ∙ length-map olds shown

module _ (k : ℕ) (olds : List Shown) (kids : List Node) (r : ResetTo k olds (map shown kids)) (b : k < length kids) (d : Node) (value : d ≡ get_or kids k d) where
  there : get (map shown kids) k ≡ Some (shown_node d)
  there = get-map shown kids k d (get-or kids k d b value) ∙ ap (λ v. Option.Some v) (shown-node d)

  was : get olds k ≡ Some (shown_node d)
  was = reset-next k olds (map shown kids) r (shown_node d) there

  pub next-fit : AllFit (all_of olds) → IsFit (shown_node d)
  next-fit f = fit-get olds k (shown_node d) was f

  pub next-depth : depth (outline_of (shown_node d)) ≤ depths (outlines_of (all_of olds))
  next-depth = depth-get olds k (shown_node d) was

  module _ (n : Node) where
    set-is : set (map shown kids) k (shown_node n) ≡ map shown (set kids k n)
    set-is = ap (λ v. set (map shown kids) k v) (sym (shown-node n)) ∙ sym (map-set shown kids k n)

    pub next-keeps : KeepRecords (all_of olds) (all_of (map shown kids)) → KeepsRecords (shown_node d) (shown_node n) → KeepRecords (all_of olds) (all_of (map shown (set kids k n)))
    next-keeps p q = subst (λ v. KeepRecords (all_of olds) (all_of v)) set-is (keep-then (all_of olds) (all_of (map shown kids)) (all_of (set (map shown kids) k (shown_node n))) p (keep-set (map shown kids) k (shown_node d) (shown_node n) there q))

    pub next-reset : WasReset (shown_node d) (shown_node n) → ResetTo (k + 1) olds (map shown (set kids k n))
    next-reset w = subst (λ v. ResetTo (k + 1) olds v) set-is (subst (λ m. ResetTo m olds (set (map shown kids) k (shown_node n))) (omega arith) (reset-more k olds (map shown kids) r (shown_node d) (shown_node n) there w))
