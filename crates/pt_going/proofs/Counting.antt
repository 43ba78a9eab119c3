-- The number of firings that a tree counts is that of the log by which what is kept of it went on.
use Rattle.std.proofs.Common.{◌≡◌, ℕ, zero, suc, ◌+◌, ◌<◌, ◌≤◌, List, [], ◌∷◌, ◌++◌, refl, sym, ap, ap₂, subst, ◌∙◌, arith}
use Rattle.pt_meaning.specs.Basics.{Tag, Streams, Event, Finished, Met, Firing, Log, Path, firings_in}
use Rattle.pt_meaning.specs.Headline as headline
use Rattle.pt_meaning.specs.Start.{IsAtStart, AllAtStart}
use Rattle.pt_meaning.specs.Tree as tree
use Rattle.pt_meaning.specs.Tree.{below_path, paths_of, paths_from}
use Rattle.pt_meaning.specs.Machine.{Done}
use Rattle.pt_meaning.specs.Meetings.{Meets}
use Rattle.pt_meaning.specs.Step.{step_at, Step}
use Rattle.pt_value.specs.declared.token.Token.{Token}
use Rattle.pt_records.specs.Kept.{Kept, Entry, kept_at, kept_by, GrewBy, count_kept}
use Rattle.pt_records.specs.Fired.{FiresTo}
use Rattle.pt_records.proofs.GrowthLaws.{grew-count}
use Rattle.pt_records.proofs.SoFarLaws.{recorded-done}
use Rattle.pt_node.specs.declared.body.Body.{Body}
use Rattle.pt_node.specs.declared.body.Body.TheVariants.{Actor, Composite}
use Rattle.pt_library.specs.LibraryActor.{rows}
use Rattle.pt_node.specs.Shown.{Shown, AllShown, Branch, none, more}
use Rattle.pt_node.specs.View.{Tree, node_of, nodes_of, node_with, entry_of, kept_of, kepts_of, count_of, counts_of, Outline, Outlines, Named, end, with, outline_of, outlines_of}
use Rattle.pt_trees.specs.Start.{IsBranched, HasLeaves, AllHaveLeaves}

-- the paths of all that has a name
abbrev mutual
  pub paths_in : Outline → List Path
  paths_in (Named text hs most ls os) = [] ∷ paths_under 0 os

  pub paths_under : ℕ → Outlines → List Path
  paths_under i end = []
  paths_under i (with o os) = below_path i (paths_in o) ++ paths_under (suc i) os

kept-append : {T : Type 0} (k : Kept T) (xs ys : List Path) → count_kept k (xs ++ ys) ≡ count_kept k xs + count_kept k ys
kept-append k [] ys = omega arith
kept-append k (x ∷ xs) ys = omega (arith, kept-append k xs ys)

kept-below : {T : Type 0} (e : Entry T) (ks : List (Kept T)) (k : Kept T) (i : ℕ) (ps : List Path) → ((p : Path) → kept_at ks i p ≡ k p) → count_kept (kept_by e ks) (below_path i ps) ≡ count_kept k ps
kept-below e ks k i [] h = refl
kept-below e ks k i (p ∷ ps) h = ap₂ (λ (x : Entry _) n. x.count + n) (h p) (kept-below e ks k i ps h)

-- what is counted at all paths
mutual
  pub counted : (s : Shown) → count_kept (kept_of s) (paths_in (outline_of s)) ≡ count_of s
  counted (Branch f ks) = ap (λ n. f.past.made + n) (counted-below (entry_of f) (kepts_of ks) 0 ks (λ j p. let z : 0 + j ≡ j = omega arith in ap (λ n. kept_at (kepts_of ks) n p) z))

  counted-below : (e : Entry Token) (all : List (Kept Token)) (i : ℕ) (ks : AllShown) → ((j : ℕ) (p : Path) → kept_at all (i + j) p ≡ kept_at (kepts_of ks) j p) → count_kept (kept_by e all) (paths_under i (outlines_of ks)) ≡ counts_of ks
  counted-below e all i none h = refl
  counted-below e all i (more s ss) h =
      let first : count_kept (kept_by e all) (below_path i (paths_in (outline_of s))) ≡ count_of s = kept-below e all (kept_of s) i (paths_in (outline_of s)) (λ p. let z : i + 0 ≡ i = omega arith in ap (λ n. kept_at all n p) (sym z) ∙ h 0 p) ∙ counted s in
      let rest : count_kept (kept_by e all) (paths_under (suc i) (outlines_of ss)) ≡ counts_of ss = counted-below e all (suc i) ss (λ j p. let z : suc i + j ≡ i + suc j = omega arith in ap (λ n. kept_at all n p) z ∙ h (suc j) p) in
      kept-append (kept_by e all) (below_path i (paths_in (outline_of s))) (paths_under (suc i) (outlines_of ss)) ∙ ap₂ (λ a b. a + b) first rest

-- where library actors have no children, these are the paths of the node among the definitions
mutual
  pub paths-are : (s : Shown) → HasLeaves s → paths_in (outline_of s) ≡ paths_of (node_of s)
  paths-are (Branch f ks) h = by_body f.body h.0 (paths-below 0 ks h.1)
    where
      by_body : (b : Body) → IsBranched b ks → paths_under 0 (outlines_of ks) ≡ paths_from 0 (nodes_of ks) → [] ∷ paths_under 0 (outlines_of ks) ≡ paths_of (node_with f.past b (nodes_of ks))
      by_body (Actor held) e below = ap (λ v. [] ∷ paths_under 0 (outlines_of v)) e
      by_body (Composite d) e below = ap (λ ps. [] ∷ ps) below

  paths-below : (i : ℕ) (ks : AllShown) → AllHaveLeaves ks → paths_under i (outlines_of ks) ≡ paths_from i (nodes_of ks)
  paths-below i none h = refl
  paths-below i (more s ss) h = ap₂ (λ ps qs. below_path i ps ++ qs) (paths-are s h.0) (paths-below (suc i) ss h.1)

-- nothing is counted at the start
mutual
  pub none-counted : (s : Shown) → HasLeaves s → IsAtStart rows (node_of s) → count_of s ≡ 0
  none-counted (Branch f ks) h g = by_body f.body h.0 g (λ a. none-below ks h.1 a)
    where
      by_body : (b : Body) → IsBranched b ks → IsAtStart rows (node_with f.past b (nodes_of ks)) → (AllAtStart rows (nodes_of ks) → counts_of ks ≡ 0) → f.past.made + counts_of ks ≡ 0
      by_body (Actor held) e a below = ap₂ (λ (h : tree.Past) v. h.made + counts_of v) a.0 e
      by_body (Composite d) e a below = ap₂ (λ (h : tree.Past) n. h.made + n) a.0 (below a.3)

  none-below : (ks : AllShown) → AllHaveLeaves ks → AllAtStart rows (nodes_of ks) → counts_of ks ≡ 0
  none-below none h g = refl
  none-below (more s ss) h g = ap₂ (λ a b. a + b) (none-counted s h.0 g.0) (none-below ss h.1 g.1)

-- at no path
mutual
  pub none-at : (s : Shown) → HasLeaves s → IsAtStart rows (node_of s) → (p : Path) → (kept_of s p).count ≡ 0
  none-at (Branch f ks) h g [] = by_body f.body g
    where
      by_body : (b : Body) → IsAtStart rows (node_with f.past b (nodes_of ks)) → f.past.made ≡ 0
      by_body (Actor held) a = ap (λ (h : tree.Past). h.made) a.0
      by_body (Composite d) a = ap (λ (h : tree.Past). h.made) a.0
  none-at (Branch f ks) h g (i ∷ p) = by_body f.body h.0 g (λ a. none-at-below ks h.1 a i p)
    where
      by_body : (b : Body) → IsBranched b ks → IsAtStart rows (node_with f.past b (nodes_of ks)) → (AllAtStart rows (nodes_of ks) → (kept_at (kepts_of ks) i p).count ≡ 0) → (kept_at (kepts_of ks) i p).count ≡ 0
      by_body (Actor held) e a below = ap (λ v. (kept_at (kepts_of v) i p).count) e
      by_body (Composite d) e a below = below a.3

  none-at-below : (ks : AllShown) → AllHaveLeaves ks → AllAtStart rows (nodes_of ks) → (i : ℕ) (p : Path) → (kept_at (kepts_of ks) i p).count ≡ 0
  none-at-below none h g i p = refl
  none-at-below (more s ss) h g zero p = none-at s h.0 g.0 p
  none-at-below (more s ss) h g (suc i) p = none-at-below ss h.1 g.1 i p

-- So a tree that went on from its start by a log counts the firings of the log.
pub count-is : (old new : Shown) (log : Log Token) → HasLeaves old → IsAtStart rows (node_of old) → outline_of new ≡ outline_of old → GrewBy log (kept_of old) (kept_of new) → count_of new ≡ headline.count_in log (node_of old)
count-is old new log h g o k =
    sym (counted new) ∙ ap (λ v. count_kept (kept_of new) (paths_in v)) o ∙ grew-count log (kept_of old) (kept_of new) (paths_in (outline_of old)) k ∙
    ap₂ (λ n ps. n + headline.count_of log ps) (counted old ∙ none-counted old h g) (paths-are old h) ∙ none-before (headline.count_in log (node_of old))
  where
    none-before : (n : ℕ) → 0 + n ≡ n
    none-before n = omega arith

-- a log that ends with the own firing has one at least
own-counted : {T : Type 0} (es : List (Event T)) (f : Firing T) → 0 < firings_in (es ++ Finished [] f ∷ [])
own-counted [] f = omega arith
own-counted (Finished ns g ∷ es) f = omega (arith, own-counted es f)
own-counted (Met ns n m ∷ es) f = own-counted es f

-- so has that of a step that is done
pub step-counted : (k : ℕ) (m : Meets) (n z : Tree) (tag : Tag) (X out : Streams Token) (l : Log Token) → Step k rows m n tag X ≡ Done z out l → 0 < firings_in (l [])
step-counted k m n z tag X out l e =
    let r = recorded-done (tree.made_of n) tag X (step_at rows k (tree.height n) m tag n X) z out l e in
    let f : Firing Token = record { number = tree.made_of n; tag = tag; inputs = X; outputs = out } in
    subst (λ (l : Log Token). 0 < firings_in (l [])) r.2 (own-counted (r.0 []) f)

-- So a tree that went on by a log with so many own firings counts so many more at least.
pub counts-more : (old new : Shown) (log : Log Token) (n : ℕ) → outline_of new ≡ outline_of old → GrewBy log (kept_of old) (kept_of new) → n ≤ firings_in (log []) → count_of old + n ≤ count_of new
counts-more old new log n o k some =
    let more : count_kept (kept_of new) (paths_in (outline_of old)) ≡ count_kept (kept_of old) (paths_in (outline_of old)) + headline.count_of log (paths_in (outline_of old)) = grew-count log (kept_of old) (kept_of new) (paths_in (outline_of old)) k in
    let before : count_kept (kept_of old) (paths_in (outline_of old)) ≡ count_of old = counted old in
    let after : count_kept (kept_of new) (paths_in (outline_of old)) ≡ count_of new = ap (λ v. count_kept (kept_of new) (paths_in v)) (sym o) ∙ counted new in
    let first : n ≤ headline.count_of log (paths_in (outline_of old)) = at-top (outline_of old) log some in
    omega (arith, more, before, after, first)
  where
    at-top : (outline : Outline) (l : Log Token) → n ≤ firings_in (l []) → n ≤ headline.count_of l (paths_in outline)
    at-top (Named text hs most ls os) l h = omega (arith, h)

-- a tree of which the same is kept counts the same
pub counts-same : (old new : Shown) → outline_of new ≡ outline_of old → kept_of new ≡ kept_of old → count_of new ≡ count_of old
counts-same old new o k = sym (counted new) ∙ ap₂ (λ x v. count_kept x (paths_in v)) k o ∙ counted old

-- a tree that has fired counts more
pub fires-count : (m : Meets) (old new : Shown) (tag : Tag) (X out : Streams Token) → outline_of new ≡ outline_of old → FiresTo (λ k. Step k rows m (node_of old) tag X) (node_of new) out (kept_of old) (kept_of new) → count_of old < count_of new
fires-count m old new tag X out o f =
    let own : 0 < firings_in (f.log []) = step-counted f.done.0 m (node_of old) (node_of new) tag X out f.log (f.done.1 f.done.0 (omega arith)) in
    let more : count_of old + 1 ≤ count_of new = counts-more old new f.log 1 o f.kept (omega (arith, own)) in
    omega (arith, more)
