-- One step of the loops over children, and over places.
use Rattle.std.proofs.Common.{◌≡◌, ℕ, zero, suc, ◌+◌, ◌<◌, ◌≤◌, List, [], ◌∷◌, ◌++◌, length, take, map, get_or, Bool, Some, refl, sym, ap, ap₂, ◌∙◌, subst, arith}
use Rattle.std.proofs.lemmas.List.{take_all}
use Rattle.std.proofs.lemmas.Option.{none-some, same_Some}
use Rattle.pt_meaning.specs.Machine.{Need}
use Rattle.pt_meaning.specs.NodeFacts.{need_of}
use Rattle.pt_meaning.specs.Running.{total}
use Rattle.pt_meaning.specs.Streams.{get}
use Rattle.pt_library.specs.LibraryActor.{rows}
use Rattle.pt_node.specs.declared.node.Node.{Node}
use Rattle.pt_node.specs.Shown.{shown_node}
use Rattle.pt_node.specs.View.{Tree, node_of}
use Rattle.pt_puts.specs.declared.need.KeptNeed.{KeptNeed}
use Rattle.pt_puts.specs.Need.{need_in}
use Rattle.pt_trees.specs.Rendezvous.{is_barrier, IsPlaced, AllPlaced}
use Rattle.pt_trees.proofs.NodeLaws.{trees, trees-length, trees-more, tree-at, map-append}

-- whether one child more is a Barrier
pub barriers-more : (kids : List Node) (i : ℕ) (d : Node) (flags : List Bool) (flag : Bool) → i < length kids → d ≡ get_or kids i d → flags ≡ map is_barrier (trees (take i kids)) → flag ≡ is_barrier (node_of (shown_node d)) → flags ++ flag ∷ [] ≡ map is_barrier (trees (take (i + 1) kids))
barriers-more kids i d flags flag h is e f =
    ap₂ (λ (v : List Bool) (w : Bool). v ++ w ∷ []) e f ∙ sym (map-append is_barrier (trees (take i kids)) (node_of (shown_node d) ∷ [])) ∙ ap (λ v. map is_barrier v) (sym (trees-more kids i d h is))

-- what one child more needs now
pub needs-more : (kids : List Node) (i : ℕ) (d : Node) (needs : List KeptNeed) (need : KeptNeed) → i < length kids → d ≡ get_or kids i d → map need_in needs ≡ map (need_of rows) (trees (take i kids)) → need_in need ≡ need_of rows (node_of (shown_node d)) →
    map need_in (needs ++ need ∷ []) ≡ map (need_of rows) (trees (take (i + 1) kids))
needs-more kids i d needs need h is e f =
    map-append need_in needs (need ∷ []) ∙ ap₂ (λ (v : List Need) (w : Need). v ++ w ∷ []) e f ∙ sym (map-append (need_of rows) (trees (take i kids)) (node_of (shown_node d) ∷ [])) ∙ ap (λ v. map (need_of rows) v) (sym (trees-more kids i d h is))

-- one child more has its places
pub placed-more : (places : List ℕ) (kids : List Node) (i : ℕ) (d : Node) → i < length kids → d ≡ get_or kids i d → AllPlaced places (trees (take i kids)) → IsPlaced (get_or places i 0) (need_of rows (node_of (shown_node d))) → AllPlaced places (trees (take (i + 1) kids))
placed-more places kids i d h is all one =
    subst (λ (v : List Tree). AllPlaced places v) (sym (trees-more kids i d h is)) (snoc places (trees (take i kids)) (node_of (shown_node d)) all (subst (λ n. IsPlaced (get_or places n 0) (need_of rows (node_of (shown_node d)))) (sym long) one))
  where
    long : length (trees (take i kids)) ≡ i
    long = trees-length (take i kids) ∙ omega (arith, take-long kids i, h)
      where
        take-long : {A : Type 0} (xs : List A) (n : ℕ) → n ≤ length xs → length (take n xs) ≡ n
        take-long xs zero g = refl
        take-long [] (suc n) g = absurd (omega (arith, g))
        take-long (x ∷ xs) (suc n) g = ap (λ k. suc k) (take-long xs n (omega (arith, g)))

    snoc : (ps : List ℕ) (ts : List Tree) (t : Tree) → AllPlaced ps ts → IsPlaced (get_or ps (length ts) 0) (need_of rows t) → AllPlaced ps (ts ++ t ∷ [])
    snoc ps [] t all one zero kid e = subst (λ v. IsPlaced (get_or ps 0 0) (need_of rows v)) (same_Some t kid e) one
    snoc ps [] t all one (suc j) kid e = absurd (none-some kid e)
    snoc ps (s ∷ ts) t all one zero kid e = all zero kid e
    snoc [] (s ∷ ts) t all one (suc j) kid e = snoc [] ts t (λ k x f. all (suc k) x f) one j kid e
    snoc (p ∷ ps) (s ∷ ts) t all one (suc j) kid e = snoc ps ts t (λ k x f. all (suc k) x f) one j kid e

pub placed-all : (places : List ℕ) (kids : List Node) (i : ℕ) → length kids ≤ i → AllPlaced places (trees (take i kids)) → AllPlaced places (trees kids)
placed-all places kids i h all = subst (λ (v : List Node). AllPlaced places (trees v)) (take_all i kids h) all

-- one that hasn't
pub misplaced-at : (places : List ℕ) (kids : List Node) (i : ℕ) (d : Node) → i < length kids → d ≡ get_or kids i d → (IsPlaced (get_or places i 0) (need_of rows (node_of (shown_node d))) → ⊥) → AllPlaced places (trees kids) → ⊥
misplaced-at places kids i d h is not all = not (all i (node_of (shown_node d)) (tree-at kids i d h is))

-- ---- places

-- so many places at the front have no more than all
pub take-total : (ps : List ℕ) (k : ℕ) → total (take k ps) ≤ total ps
take-total ps zero = omega arith
take-total [] (suc k) = omega arith
take-total (p ∷ ps) (suc k) = omega (arith, take-total ps k)

total-next : (ps : List ℕ) (k : ℕ) → k < length ps → total (take (suc k) ps) ≡ total (take k ps) + get_or ps k 0
total-next [] k h = absurd (omega (arith, h))
total-next (p ∷ ps) zero h = omega arith
total-next (p ∷ ps) (suc k) h = omega (arith, total-next ps k (omega (arith, h)))

-- those of one child more
pub total-more : (ps : List ℕ) (k : ℕ) → k < length ps → total (take (k + 1) ps) ≡ total (take k ps) + get_or ps k 0
total-more ps k h = let next : k + 1 ≡ suc k = omega arith in ap (λ n. total (take n ps)) next ∙ total-next ps k h

pub total-all : (ps : List ℕ) (k : ℕ) → length ps ≤ k → total (take k ps) ≡ total ps
total-all ps k h = ap total (take_all k ps h)
