-- The trees of what stands in a composite, and what they need.
use Rattle.std.proofs.Common.{◌≡◌, ℕ, zero, suc, ◌+◌, List, [], ◌∷◌, ◌++◌, length, map, filter, take, drop, Bool, true, false, ◌||◌, cond, Option, Some, bytes_eq, codes, refl, sym, ap, ap₂, subst, ◌∙◌, arith}
use Rattle.std.specs.Prelude.{slice_get, option_map}
use Rattle.std.specs.Option.{is_some}
use Rattle.std.proofs.lemmas.Bool.{both_ways}
use Rattle.std.proofs.lemmas.List.{take-append-le, length-append}
use Rattle.std.proofs.lemmas.Option.{none-some, same_Some}
use Rattle.std.proofs.Math.Seq.{take-length}
use Rattle.pt_meaning.specs.Machine.{Counts}
use Rattle.pt_meaning.specs.NodeFacts.{need_of, facts_of}
use Rattle.pt_meaning.specs.Running.{total}
use Rattle.pt_meaning.specs.Streams.{get}
use Rattle.pt_net.specs.declared.net.Net.{Net}
use Rattle.pt_net.specs.declared.net.NetDirector.{NetDirector}
use Rattle.pt_net.specs.declared.net.NetEntity.{NetEntity}
use Rattle.pt_net.specs.Net.{entity_view, director_view}
use Rattle.pt_net.specs.Inside.{is_child, child_if, children_from}
use Rattle.pt_machine.specs.Children.{stands_in}
use Rattle.pt_machine.specs.Children as machine
use Rattle.pt_sdf_parts.specs.ByNeed.{needs_of, planned}
use Rattle.pt_library.specs.LibraryActor.{rows}
use Rattle.pt_node.specs.View.{Tree}
use Rattle.pt_trees.specs.Modal.{is_opaque}
use Rattle.pt_trees.specs.Trees.{IsEntity, IsUndirected, Starts, IsTree, of_actor, of_composite, AreTrees, no_trees, more_trees}
use Rattle.pt_placed.specs.Counted.{IsCounted}

-- ---- trees by their numbers

pub tree-among : (net : Net) (starts : Starts) {cs : List ℕ} {ts : List Tree} → AreTrees net starts cs ts → (i : ℕ) (kid : Tree) → get ts i ≡ Some kid → (c : ℕ) × (slice_get cs i ≡ Some c) × IsTree net starts c kid
tree-among net starts no_trees i kid at = absurd (none-some kid at)
tree-among net starts (more_trees k ks t ts one all) zero kid at = (k, refl, subst (λ x. IsTree net starts k x) (same_Some t kid at) one)
tree-among net starts (more_trees k ks t ts one all) (suc i) kid at = tree-among net starts all i kid at

pub trees-counted : (net : Net) (starts : Starts) {cs : List ℕ} {ts : List Tree} → AreTrees net starts cs ts → length ts ≡ length cs
trees-counted net starts no_trees = refl
trees-counted net starts (more_trees k ks t ts one all) = ap (λ n. suc n) (trees-counted net starts all)

-- there are as many children as entities that stand there
pub children-counted : (m j : ℕ) (es : List NetEntity) → length (children_from m j es) ≡ length (filter (stands_in m) (map entity_view es))
children-counted m j [] = refl
children-counted m j (e ∷ es) = by_test (children-counted m (suc j) es) (is_child m e)
  where
    by_test : length (children_from m (suc j) es) ≡ length (filter (stands_in m) (map entity_view es)) → (b : Bool) → length (child_if b j (children_from m (suc j) es)) ≡ length (cond b (entity_view e ∷ filter (stands_in m) (map entity_view es)) (filter (stands_in m) (map entity_view es)))
    by_test rest true = ap (λ n. suc n) rest
    by_test rest false = rest

-- ---- refinements

-- an entity that is opaque is no library actor
undirected-plain : (f : NetEntity) → IsUndirected f → machine.is_opaque (entity_view f) ≡ false
undirected-plain f u = ap (λ (o : Option NetDirector). is_some (option_map director_view o) || bytes_eq f.class (codes "Modal")) u.unnamed ∙ u.plain

pub opaque-tree : (net : Net) (starts : Starts) {c : ℕ} {kid : Tree} (f : NetEntity) → IsEntity net c f → machine.is_opaque (entity_view f) ≡ true → IsTree net starts c kid → is_opaque kid ≡ true
opaque-tree net starts f at opaque (of_actor c g a there undirected started) =
    let same : f ≡ g = same_Some f g (sym at ∙ there) in
    absurd (both_ways (machine.is_opaque (entity_view f)) (ap (λ (y : NetEntity). machine.is_opaque (entity_view y)) same ∙ undirected-plain g undirected) opaque)
opaque-tree net starts f at opaque (of_composite c g director kids core there by all is) = refl

-- ---- needs

-- the needs of children by one list of counts, where each needs a count for each of so many places
pub record ArePlanned (places : List ℕ) (kids : List Tree) : Type 0 where
  pub needs : List ℕ
  pub needed : needs_of (facts_of rows) kids ≡ planned places needs
  pub counted : length needs ≡ total places

-- the counts of the first child, then those of the others
pub plan-needs : (places : List ℕ) (kids : List Tree) → length kids ≡ length places → ((i p : ℕ) (kid : Tree) → get kids i ≡ Some kid → slice_get places i ≡ Some p → IsCounted p (need_of rows kid)) → ArePlanned places kids
plan-needs [] [] long each = record { needs = []; needed = refl; counted = refl }
plan-needs [] (kid ∷ kids) long each = absurd (omega (arith, long))
plan-needs (p ∷ places) [] long each = absurd (omega (arith, long))
plan-needs (p ∷ places) (kid ∷ kids) long each =
    let first = each 0 p kid refl refl in
    let rest = plan-needs places kids (omega (arith, long)) (λ i q other at there. each (suc i) q other at there) in
    joined first rest
  where
    joined : IsCounted p (need_of rows kid) → ArePlanned places kids → ArePlanned (p ∷ places) (kid ∷ kids)
    joined first rest =
        let mine : take p (first.counts ++ rest.needs) ≡ first.counts = ap (λ n. take n (first.counts ++ rest.needs)) (sym first.counted) ∙ take-append-le (length first.counts) first.counts rest.needs (omega arith) ∙ take-length first.counts in
        let others : drop p (first.counts ++ rest.needs) ≡ rest.needs = ap (λ n. drop n (first.counts ++ rest.needs)) (sym first.counted) ∙ dropped first.counts rest.needs in
        record {
          needs = first.counts ++ rest.needs;
          needed = ap₂ (λ need needs. need ∷ needs) (first.is ∙ ap Counts (sym mine)) (rest.needed ∙ ap (planned places) (sym others));
          counted = (let one = first.counted in let more = rest.counted in omega (arith, one, more, length-append first.counts rest.needs));
        }
      where
        dropped : (xs ys : List ℕ) → drop (length xs) (xs ++ ys) ≡ ys
        dropped [] ys = refl
        dropped (x ∷ xs) ys = dropped xs ys
