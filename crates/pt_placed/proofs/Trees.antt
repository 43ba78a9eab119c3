-- The trees in a composite with a director, and the composite round them.
use Rattle.std.proofs.Common.{◌≡◌, ◌<◌, ◌≤◌, ◌^◌, ◌+◌, ◌++◌, ℕ, zero, suc, List, [], ◌∷◌, true, Some, length, map, get_or, take, drop, refl, sym, ap, ap₂, subst, ◌∙◌, arith}
use Rattle.std.specs.List.{slice_get}
use Rattle.std.proofs.lemmas.List.{length-append, length-map}
use Rattle.std.proofs.lemmas.Option.{none-some, same_Some}
use Rattle.pt_meaning.specs.Machine.{Need, Counts}
use Rattle.pt_meaning.specs.NodeFacts.{need_of, facts_of}
use Rattle.pt_meaning.specs.Running.{total}
use Rattle.pt_meaning.specs.Streams.{get}
use Rattle.pt_document.specs.declared.classes.Director.{Director}
use Rattle.pt_document.specs.declared.classes.Director.TheVariants.{Rendezvous}
use Rattle.pt_net.specs.declared.net.Net.{Net}
use Rattle.pt_net.specs.declared.net.NetEntity.{NetEntity}
use Rattle.pt_net.specs.Inside.{children_of, place_count}
use Rattle.pt_library.specs.LibraryActor.{rows}
use Rattle.pt_sdf_parts.specs.ByNeed.{needs_of, planned}
use Rattle.pt_node.specs.View.{Tree}
use Rattle.pt_trees.specs.Rendezvous.{IsPlaced}
use Rattle.pt_trees.specs.Trees.{IsEntity, Starts, around_in, IsTree, of_actor, of_composite, AreTrees, no_trees, more_trees}
use Rattle.pt_trees.proofs.DirectorLaws.{is-directed}
use Rattle.pt_order.specs.Wired.{IsWired}
use Rattle.pt_order.proofs.Children.{child-stands}
use Rattle.pt_order.proofs.TreeCover.{directed-class}
use Rattle.pt_placed.specs.Counted.{IsCounted}
use Rattle.pt_placed.specs.Laws.{IsUnder, TreesArePlaced, TreesAreCounted, CompositesAreWired, CompositesAreMet}
use Rattle.pt_placed.proofs.Actors.{counted-placed, actors-placed, actors-counted}
use Rattle.pt_placed.proofs.Composites.{core-counted, inputs-places}

-- ---- one tree

pub trees-counted : TreesAreCounted
trees-counted net values typing starts k e t director allowed order started at under other tree = of-tree tree at
  where
    of-tree : {j : ℕ} {u : Tree} → IsTree net starts j u → IsEntity net j e → IsCounted (place_count net.channels.items j) (need_of rows u)
    of-tree (of_actor j f a there undirected starts_as) here = actors-counted net values typing starts j e a director allowed order started here starts_as under other
    of-tree (of_composite j f inner kids core there by all is) here =
        let same : f ≡ e = same_Some f e (sym there ∙ here) in
        let d = is-directed under.owner director under.by in
        let c = core-counted inner (around_in net starts j f) kids core is in
        let places = inputs-places net order.wired j under.number f under.owner d.director there (directed-class f inner by) (ap (λ (x : NetEntity). x.parent) same ∙ under.parent) under.at d.has in
        record { counts = c.counts; is = c.is; counted = c.counted ∙ places }

pub trees-placed : TreesArePlaced
trees-placed net values typing starts k e t director order started at under tree = of-tree tree at
  where
    of-tree : {j : ℕ} {u : Tree} → IsTree net starts j u → IsEntity net j e → IsPlaced (place_count net.channels.items j) (need_of rows u)
    of-tree (of_actor j f a there undirected starts_as) here = actors-placed net values typing starts j a order started starts_as
    of-tree (of_composite j f inner kids core there by all is) here =
        let same : f ≡ e = same_Some f e (sym there ∙ here) in
        let d = is-directed under.owner director under.by in
        let c = core-counted inner (around_in net starts j f) kids core is in
        let places = inputs-places net order.wired j under.number f under.owner d.director there (directed-class f inner by) (ap (λ (x : NetEntity). x.parent) same ∙ under.parent) under.at d.has in
        subst (IsPlaced (place_count net.channels.items j)) (sym c.is) (c.counted ∙ places)

-- ---- all trees of a composite

-- a number of a child, with its tree, among these
abbrev Kid : Net → Starts → List ℕ → List Tree → ℕ → Tree → Type 0
Kid net starts cs ts c t = (i : ℕ) × (slice_get cs i ≡ Some c) × (get ts i ≡ Some t) × IsTree net starts c t

later : (net : Net) (starts : Starts) (k : ℕ) (t : Tree) (cs : List ℕ) (ts : List Tree) (c : ℕ) (u : Tree) → Kid net starts cs ts c u → Kid net starts (k ∷ cs) (t ∷ ts) c u
later net starts k t cs ts c u w = (suc w.0, w.1, w.2, w.3)

take-front : {X : Type 0} (xs ys : List X) → take (length xs) (xs ++ ys) ≡ xs
take-front [] ys = refl
take-front (x ∷ xs) ys = ap (λ zs. x ∷ zs) (take-front xs ys)

drop-front : {X : Type 0} (xs ys : List X) → drop (length xs) (xs ++ ys) ≡ ys
drop-front [] ys = refl
drop-front (x ∷ xs) ys = drop-front xs ys

-- the needs of some children, with a number for each place
record ArePlanned (places : List ℕ) (ts : List Tree) : Type 0 where
  needs : List ℕ
  needed : needs_of (facts_of rows) ts ≡ planned places needs
  counted : length needs ≡ total places

planned-more : (place : ℕ) (places : List ℕ) (t : Tree) (ts : List Tree) → IsCounted place (need_of rows t) → ArePlanned places ts → ArePlanned (place ∷ places) (t ∷ ts)
planned-more place places t ts c w = record {
  needs = c.counts ++ w.needs;
  needed =
      ap₂ (λ n ns. n ∷ ns) (c.is ∙ ap (λ (ns : List ℕ). Counts ns) (sym (subst (λ n. take n (c.counts ++ w.needs) ≡ c.counts) c.counted (take-front c.counts w.needs))))
      (w.needed ∙ ap (planned places) (sym (subst (λ n. drop n (c.counts ++ w.needs) ≡ w.needs) c.counted (drop-front c.counts w.needs))));
  counted = length-append c.counts w.needs ∙ ap₂ (λ m n. m + n) c.counted w.counted;
}

all-planned : (net : Net) (starts : Starts) {cs : List ℕ} {ts : List Tree} → AreTrees net starts cs ts → ((c : ℕ) (t : Tree) → Kid net starts cs ts c t → IsCounted (place_count net.channels.items c) (need_of rows t)) → ArePlanned (map (place_count net.channels.items) cs) ts
all-planned net starts no_trees h = record { needs = []; needed = refl; counted = refl }
all-planned net starts (more_trees k ks t ts one all) h =
    planned-more (place_count net.channels.items k) (map (place_count net.channels.items) ks) t ts (h k t (0, refl, refl, one)) (all-planned net starts all (λ c u w. h c u (later net starts k t ks ts c u w)))

-- the tree of that number is of the child of that number
kid-of : (net : Net) (starts : Starts) {cs : List ℕ} {ts : List Tree} → AreTrees net starts cs ts → (i : ℕ) (t : Tree) → get ts i ≡ Some t → (c : ℕ) × (slice_get cs i ≡ Some c) × IsTree net starts c t
kid-of net starts no_trees i t at = absurd (none-some t at)
kid-of net starts (more_trees k ks u ts one all) zero t at = (k, refl, subst (λ x. IsTree net starts k x) (same_Some u t at) one)
kid-of net starts (more_trees k ks u ts one all) (suc i) t at = kid-of net starts all i t at

as-many : (net : Net) (starts : Starts) {cs : List ℕ} {ts : List Tree} → AreTrees net starts cs ts → length ts ≡ length cs
as-many net starts no_trees = refl
as-many net starts (more_trees k ks t ts one all) = ap (λ n. suc n) (as-many net starts all)

get-mapped : {A B : Type 0} (f : A → B) (d : B) (xs : List A) (i : ℕ) (x : A) → slice_get xs i ≡ Some x → get_or (map f xs) i d ≡ f x
get-mapped f d [] i x at = absurd (none-some x at)
get-mapped f d (y ∷ xs) zero x at = ap f (same_Some y x at)
get-mapped f d (y ∷ xs) (suc i) x at = get-mapped f d xs i x at

few : (n : ℕ) → n ≤ 100000 → n < 2 ^ 32
few n h = omega (arith, h)

fewer : (n : ℕ) → n ≤ 10000 → n < 2 ^ 32
fewer n h = omega (arith, h)

-- ---- the composite

pub composites-wired : CompositesAreWired
composites-wired net values typing starts k e director kids allowed order started at by other trees channels =
    let es = net.entities.items in
    let w = all-planned net starts trees (λ c t kid.
    let child = child-stands k es kid.0 c kid.1 in
    trees-counted net values typing starts c child.0 t director allowed order started child.1 (record { number = k; parent = child.2; owner = e; at = at; by = by }) other kid.3) in
    record {
      needs = w.needs;
      needed = w.needed;
      counted = w.counted;
      channels = channels.counted;
      there = channels.there;
      few = few (length (around_in net starts k e).sources) channels.few;
      fewer = fewer (length (around_in net starts k e).places) channels.fewer;
    }

pub composites-met : CompositesAreMet
composites-met net values typing starts k e director kids order started at by trees channels =
    let es = net.entities.items in
    record {
      children = as-many net starts trees ∙ sym (length-map (children_of es k) (place_count net.channels.items));
      placed = λ i kid is.
          let w = kid-of net starts trees i kid is in
          let child = child-stands k es i w.0 w.1 in
          subst (λ n. IsPlaced n (need_of rows kid)) (sym (get-mapped (place_count net.channels.items) 0 (children_of es k) i w.0 w.1))
          (trees-placed net values typing starts w.0 child.0 kid director order started child.1 (record { number = k; parent = child.2; owner = e; at = at; by = by }) w.2);
      channels = channels.counted;
      there = channels.there;
      few = few (length (around_in net starts k e).sources) channels.few;
      fewer = fewer (length (around_in net starts k e).places) channels.fewer;
    }
