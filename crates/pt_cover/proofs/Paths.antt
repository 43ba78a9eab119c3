-- To each entity of a net leads one path of the tree that is built, and at that path stands its text.
use Rattle.std.proofs.Common.{◌≡◌, ◌⊎◌, inl, inr, ◌<◌, ℕ, zero, suc, List, [], ◌∷◌, ◌++◌, Bool, true, false, nat_eq, Option, Some, None, length, refl, sym, ap, ap₂, subst, ◌∙◌, arith}
use Rattle.std.specs.Prelude.{option_map, option_and_then}
use Rattle.std.proofs.lemmas.Bool.{eqb-true, eq-eqb}
use Rattle.std.proofs.lemmas.Option.{none-some, same_Some, slice_get_within}
use Rattle.std.specs.List.{slice_get}
use Rattle.pt_meaning.specs.Basics.{Path}
use Rattle.pt_document.specs.Document.{JobTree}
use Rattle.pt_net.specs.declared.net.Net.{Net}
use Rattle.pt_net.specs.declared.net.NetEntity.{NetEntity}
use Rattle.pt_net.specs.Net.{IsNetOf}
use Rattle.pt_net.specs.Inside.{is_number, is_child, children_of}
use Rattle.pt_node.specs.Shown.{Shown, AllShown, Branch, none, more, list_of}
use Rattle.pt_node.specs.View.{outline_of, outlines_of, text_at, text_below}
use Rattle.pt_trees.specs.Composite.{frame_in, children_in}
use Rattle.pt_trees.specs.Trees.{IsEntity, Starts}
use Rattle.pt_trees.specs.Built.{IsBuilt, AreBuilt, built_actor, built_composite, none_built, more_built}
use Rattle.pt_cover.specs.Leaves.{ActorsAreLeaves, AreStartedByClass}
use Rattle.pt_cover.specs.Paths.{entity_at, text_of, HasOnePath, IsCover}
use Rattle.pt_cover.proofs.Matching.{one_if, times_in, matching, children-match, AllPass, matching-none, matching-passes}
use Rattle.pt_cover.proofs.Nesting.{get-within, net-nested, net-rooted}
use Rattle.pt_cover.proofs.Nodes.{AreChildless, AreRooted, among}
use Rattle.pt_cover.proofs.Numbering.{childless, entities-rooted}

-- ---- texts

-- the kids are those of these entities, one by one
abbrev Alike : List NetEntity → List ℕ → List Shown → Type 0
Alike es [] [] = Unit {0}
Alike es [] (s ∷ ss) = ⊥
Alike es (k ∷ ks) [] = ⊥
Alike es (k ∷ ks) (s ∷ ss) = ((p : Path) → text_at (outline_of s) p ≡ text_of es (entity_at es k p)) × Alike es ks ss

kids-texts : (es : List NetEntity) (ks : List ℕ) (kids : AllShown) → Alike es ks (list_of kids) → (i : ℕ) (p : Path) → text_below (outlines_of kids) i p ≡ text_of es (option_and_then (λ c. entity_at es c p) (slice_get ks i))
kids-texts es [] none alike i p = refl
kids-texts es [] (more s ss) alike i p = absurd alike
kids-texts es (k ∷ ks) none alike i p = absurd alike
kids-texts es (k ∷ ks) (more s ss) alike zero p = alike.0 p
kids-texts es (k ∷ ks) (more s ss) alike (suc i) p = kids-texts es ks ss alike.1 i p

node-texts : (es : List NetEntity) (k : ℕ) (e : NetEntity) (s : Shown) (kids : List Shown) → slice_get es k ≡ Some e → (frame_in s).path ≡ e.path → children_in s ≡ kids → Alike es (children_of es k) kids → (p : Path) → text_at (outline_of s) p ≡ text_of es (entity_at es k p)
node-texts es k e (Branch f ks) kids at path_is children alike [] = ap Some path_is ∙ sym (ap (λ (o : Option NetEntity). option_map (λ (d : NetEntity). d.path) o) at)
node-texts es k e (Branch f ks) kids at path_is children alike (i ∷ p) = kids-texts es (children_of es k) ks (subst (Alike es (children_of es k)) (sym children) alike) i p

module _ (net : Net) (starts : Starts) (leaves : AreChildless net starts) where
  abbrev es : List NetEntity
  es = net.entities.items

  nothing-within : (k : ℕ) → ((o : ℕ) (d : NetEntity) → IsEntity net o d → is_child k d ≡ false) → Alike es (children_of es k) []
  nothing-within k fails = subst (λ (ks : List ℕ). Alike es ks []) (sym (children-match k 0 es ∙ matching-none (is_child k) 0 es fails)) tt

  mutual
    texts-at : {k : ℕ} {s : Shown} (b : IsBuilt net starts k s) (p : Path) → text_at (outline_of s) p ≡ text_of es (entity_at es k p)
    texts-at {s = s} (built_actor k e a at undirected is) p = node-texts es k e s [] at refl refl (nothing-within k (leaves k e a at is)) p
    texts-at (built_composite k e director kids s at directed are is) p = node-texts es k e s kids at is.path_is is.children (texts-in are) p

    texts-in : {ks : List ℕ} {kids : List Shown} (bs : AreBuilt net starts ks kids) → Alike es ks kids
    texts-in none_built = tt
    texts-in (more_built k ks s ss b bs) = (λ p. texts-at b p, texts-in bs)

-- ---- the last step of a path

last-step : (q : Path) → (q ≡ []) ⊎ ((p : Path) × (i : ℕ) × (q ≡ p ++ i ∷ []))
last-step [] = inl refl
last-step (j ∷ q) = elim (last-step q) [ inl e ↦ inr ([], j, ap (λ (p : Path). j ∷ p) e) | inr w ↦ inr (j ∷ w.0, w.1, ap (λ (p : Path). j ∷ p) w.2) ]

by-last : (es : List NetEntity) (k i : ℕ) (p : Path) → entity_at es k (p ++ i ∷ []) ≡ option_and_then (λ c. slice_get (children_of es c) i) (entity_at es k p)
by-last es k i [] = kept (slice_get (children_of es k) i)
  where
    kept : (o : Option ℕ) → option_and_then (λ c. Some c) o ≡ o
    kept None = refl
    kept (Some c) = refl
by-last es k i (j ∷ p) = further (slice_get (children_of es k) j) (λ c. by-last es c i p)
  where
    further : (o : Option ℕ) → ((c : ℕ) → entity_at es c (p ++ i ∷ []) ≡ option_and_then (λ d. slice_get (children_of es d) i) (entity_at es c p)) → option_and_then (λ c. entity_at es c (p ++ i ∷ [])) o ≡ option_and_then (λ d. slice_get (children_of es d) i) (option_and_then (λ c. entity_at es c p) o)
    further None rest = refl
    further (Some c) rest = rest c

-- ---- numbers that stand in a list once

never-there : (o : ℕ) (ms : List ℕ) (j : ℕ) → times_in o ms ≡ 0 → slice_get ms j ≡ Some o → ⊥
never-there o [] j zero_times at = none-some o at
never-there o (m ∷ ms) zero zero_times at = let same : one_if (nat_eq o m) ≡ 1 = ap one_if (eq-eqb o m (sym (same_Some m o at))) in omega (arith, zero_times, same)
never-there o (m ∷ ms) (suc j) zero_times at = never-there o ms j (omega (arith, zero_times)) at

record IsOnceIn (o : ℕ) (ms : List ℕ) : Type 0 where
  place : ℕ
  at : slice_get ms place ≡ Some o
  alone : (j : ℕ) → slice_get ms j ≡ Some o → j ≡ place

once-in : (o : ℕ) (ms : List ℕ) → times_in o ms ≡ 1 → IsOnceIn o ms
once-in o [] one = let e : 0 ≡ 1 = one in absurd (omega (arith, e))
once-in o (m ∷ ms) one = chosen (nat_eq o m) refl (λ h. once-in o ms h)
  where
    first : nat_eq o m ≡ true → IsOnceIn o (m ∷ ms)
    first e = record { place = 0; at = ap Some (sym (eqb-true o m e)); alone = first-alone }
      where
        first-alone : (j : ℕ) → slice_get (m ∷ ms) j ≡ Some o → j ≡ 0
        first-alone zero at = refl
        first-alone (suc j) at = let counted = ap one_if e in let rest : times_in o ms ≡ 0 = omega (arith, one, counted) in absurd (never-there o ms j rest at)

    later : nat_eq o m ≡ false → IsOnceIn o ms → IsOnceIn o (m ∷ ms)
    later e rest = record { place = suc rest.place; at = rest.at; alone = later-alone }
      where
        later-alone : (j : ℕ) → slice_get (m ∷ ms) j ≡ Some o → j ≡ suc rest.place
        later-alone zero at = let both : false ≡ true = sym e ∙ eq-eqb o m (sym (same_Some m o at)) in absurd cc
        later-alone (suc j) at = ap suc (rest.alone j at)

    chosen : (b : Bool) → nat_eq o m ≡ b → (times_in o ms ≡ 1 → IsOnceIn o ms) → IsOnceIn o (m ∷ ms)
    chosen true e rest = first e
    chosen false e rest = let counted = ap one_if e in later e (rest (omega (arith, one, counted)))

-- a number that stands in a list of numbers of what passes
passed-at : {X : Type 0} (f : X → Bool) (all : List X) (ms : List ℕ) (i o : ℕ) → AllPass f all ms → slice_get ms i ≡ Some o → (x : X) × (slice_get all o ≡ Some x) × (f x ≡ true)
passed-at f all [] i o pass at = absurd (none-some o at)
passed-at {X = X} f all (m ∷ ms) zero o pass at = subst (λ (n : ℕ). (x : X) × (slice_get all n ≡ Some x) × (f x ≡ true)) (same_Some m o at) pass.0
passed-at f all (m ∷ ms) (suc i) o pass at = passed-at f all ms i o pass.1 at

-- ---- paths

-- the child of that number stands in it
child-parent : (es : List NetEntity) (c i o : ℕ) (d : NetEntity) → slice_get es o ≡ Some d → slice_get (children_of es c) i ≡ Some o → d.parent ≡ Some c
child-parent es c i o d there at =
    let w = passed-at (is_child c) es (matching (is_child c) 0 es) i o (matching-passes (is_child c) es) (sym (ap (λ (ms : List ℕ). slice_get ms i) (children-match c 0 es)) ∙ at) in
    let same : d ≡ w.0 = same_Some d w.0 (sym there ∙ w.1) in
    of-parent d.parent refl (ap (is_child c) same ∙ w.2)
  where
    of-parent : (p : Option ℕ) → d.parent ≡ p → is_number c d.parent ≡ true → d.parent ≡ Some c
    of-parent None e passes = let both : false ≡ true = sym (ap (is_number c) e) ∙ passes in absurd cc
    of-parent (Some j) e passes = e ∙ ap Some (eqb-true j c (sym (ap (is_number c) e) ∙ passes))

module _ (net : Net) (rooted : AreRooted net) where
  abbrev all : List NetEntity
  all = net.entities.items

  -- what leads to an entity leads to what it stands in, and then to the child of a number
  record ComesBy (o : ℕ) (d : NetEntity) (q : Path) : Type 0 where
    before : Path
    step : ℕ
    is : q ≡ before ++ step ∷ []
    over : ℕ
    leads : entity_at all 0 before ≡ Some over
    at : slice_get (children_of all over) step ≡ Some o
    parent_is : d.parent ≡ Some over

  comes-by : (o : ℕ) (d : NetEntity) (p : Path) (i : ℕ) (q : Path) → IsEntity net o d → q ≡ p ++ i ∷ [] → entity_at all 0 q ≡ Some o → ComesBy o d q
  comes-by o d p i q there is leads = by-end (entity_at all 0 p) refl (sym (by-last all 0 i p) ∙ ap (entity_at all 0) (sym is) ∙ leads)
    where
      by-end : (c : Option ℕ) → entity_at all 0 p ≡ c → option_and_then (λ k. slice_get (children_of all k) i) c ≡ Some o → ComesBy o d q
      by-end None e at = absurd (none-some o at)
      by-end (Some c) e at = record { before = p; step = i; is = is; over = c; leads = e; at = at; parent_is = child-parent all c i o d there at }

  top-path : (d : NetEntity) → IsEntity net 0 d → HasOnePath all 0
  top-path d there = record { path = []; leads = refl; alone = alone }
    where
      alone : (q : Path) → entity_at all 0 q ≡ Some 0 → q ≡ []
      alone q leads = elim (last-step q) [ inl e ↦ e | inr w ↦ (let c = comes-by 0 d w.0 w.1 q there w.2 leads in absurd (none-some c.over (sym (rooted.top d there) ∙ c.parent_is))) ]

  next-path : (o j : ℕ) (d : NetEntity) → IsEntity net (suc o) d → d.parent ≡ Some j → HasOnePath all j → IsOnceIn (suc o) (children_of all j) → HasOnePath all (suc o)
  next-path o j d there parent_is above once = record { path = above.path ++ once.place ∷ []; leads = by-last all 0 once.place above.path ∙ ap (option_and_then (λ c. slice_get (children_of all c) once.place)) above.leads ∙ once.at; alone = alone }
    where
      step-alone : (q : Path) → ComesBy (suc o) d q → q ≡ above.path ++ once.place ∷ []
      step-alone q c =
          let same : c.over ≡ j = same_Some c.over j (sym c.parent_is ∙ parent_is) in
          let before : c.before ≡ above.path = above.alone c.before (c.leads ∙ ap Some same) in
          let step : c.step ≡ once.place = once.alone c.step (ap (λ (k : ℕ). slice_get (children_of all k) c.step) (sym same) ∙ c.at) in
          c.is ∙ ap₂ (λ (p : Path) (i : ℕ). p ++ i ∷ []) before step

      alone : (q : Path) → entity_at all 0 q ≡ Some (suc o) → q ≡ above.path ++ once.place ∷ []
      alone q leads = elim (last-step q) [
        | inl e ↦ (let none : 0 ≡ suc o = same_Some 0 (suc o) (ap (entity_at all 0) (sym e) ∙ leads) in absurd (omega (arith, none)))
        | inr w ↦ step-alone q (comes-by (suc o) d w.0 w.1 q there w.2 leads)
      ]

  path-below : (n o : ℕ) (d : NetEntity) → o < n → IsEntity net o d → HasOnePath all o
  path-below zero o d l there = absurd (omega (arith, l))
  path-below (suc n) zero d l there = top-path d there
  path-below (suc n) (suc o) d l there =
      let in_that = rooted.others (suc o) d (omega arith) there in
      let parent = get-within all in_that.0 (omega (arith, in_that.2, slice_get_within all (suc o) d there)) in
      let passes : is_child in_that.0 d ≡ true = ap (is_number in_that.0) in_that.1 ∙ eq-eqb in_that.0 in_that.0 refl in
      next-path o in_that.0 d there in_that.1 (path-below n in_that.0 parent.0 (omega (arith, in_that.2, l)) parent.1) (once-in (suc o) (children_of all in_that.0) (among net (suc o) d there in_that.0 ∙ ap one_if passes))

  one-path : (o : ℕ) → o < length all → HasOnePath all o
  one-path o l = let d = get-within all o l in path-below (suc o) o d.0 (omega arith) d.1

-- ---- the law

pub covers : (job : JobTree) (net : Net) (starts : Starts) (s : Shown) → ActorsAreLeaves job → IsNetOf job net → AreStartedByClass net starts → IsBuilt net starts 0 s → IsCover net s
covers job net starts s leaves is started built = record {
  texts = texts-at net starts (childless net starts (net-nested job net leaves is) started) built;
  paths = one-path net (entities-rooted net (net-rooted job net leaves is));
}
