-- A run goes on by a block of iterations, and stands as before where none was made.
use Rattle.std.proofs.Common.{◌≡◌, ℕ, zero, suc, ◌+◌, ◌<◌, ◌≤◌, max, List, [], ◌∷◌, true, length, nat_lt, Option, refl, sym, ap, subst, ◌∙◌, arith}
use Rattle.std.proofs.lemmas.Bool.Decides.{nat_tests}
use Rattle.pt_meaning.specs.Basics.{Tag, Streams, log_then}
use Rattle.pt_meaning.specs.Tag.{origin}
use Rattle.pt_meaning.specs.Meetings.{Meets}
use Rattle.pt_meaning.specs.Job.{Fire, Goes, after, begin}
use Rattle.pt_meaning.specs.Schedule.{if_more, sdf_top}
use Rattle.pt_value.specs.declared.token.Token.{Token}
use Rattle.pt_records.specs.Kept.{GrewBy}
use Rattle.pt_records.specs.Made.{meets_of, AreMadeBefore}
use Rattle.pt_records.proofs.GrowthLaws.{grew-joined}
use Rattle.pt_records.proofs.MadeLaws.{made-back}
use Rattle.pt_node.specs.Shown.{Shown}
use Rattle.pt_node.specs.View.{Tree, node_of, kept_of, count_of, outline_of}
use Rattle.pt_trees.specs.declared.top.SdfJob.{SdfJob}
use Rattle.pt_trees.specs.declared.top.Top.{Top}
use Rattle.pt_trees.specs.declared.top.Top.TheVariants.{Sdf}
use Rattle.pt_trees.specs.Top.{IsJobFor, IsWhole}
use Rattle.pt_trees.specs.Run.{schedule}
use Rattle.pt_blocks.specs.Made.{logged_by, MadeInTurn, IsAsBefore}
use Rattle.pt_going.specs.Going.{Reached, Going, last_after}
use Rattle.pt_going.proofs.Counting.{counts-more, counts-same}
use Rattle.pt_going.proofs.InTurn.{firings-logged, comes-to}
use Rattle.pt_going.proofs.Staying.{step-stays}

below-tests : (n m : ℕ) → n < m → nat_lt n m ≡ true
below-tests n m l = grind (arith, nat_tests, l)

-- without inputs each iteration of a job is asked for
pub iteration-fires : (iterations n : ℕ) (takes : List ℕ) (X : Streams Token) → length X ≡ length takes → X ≡ [] → n < iterations → (last : Option Tag) (top : Tree) → sdf_top iterations takes X n last top ≡ Fire origin []
iteration-fires iterations n [] [] e alone few last top = ap (λ b. if_more b true origin []) (below-tests n iterations few)
iteration-fires iterations n [] (xs ∷ X) e alone few last top = absurd (omega (arith, e))
iteration-fires iterations n (t ∷ ts) [] e alone few last top = absurd (omega (arith, e))
iteration-fires iterations n (t ∷ ts) (xs ∷ X) e alone few last top = absurd (cc)

-- so many firings more were made
module _ (j : SdfJob) (whole : IsWhole (Sdf j)) (alone : j.inputs.items ≡ []) (top : Shown) (n : ℕ) (now new : Shown) (o : outline_of new ≡ outline_of now) (count : ℕ) (few : n + count ≤ j.iterations) (b : MadeInTurn count origin now new) where
  stays-fit : (m : Meets) → IsJobFor (Sdf j) (node_of now) → (t : ℕ) → t ≤ count → IsJobFor (Sdf j) (b.tops t)
  stays-fit m f zero l = subst (λ (v : Tree). IsJobFor (Sdf j) v) (sym b.begins) f
  stays-fit m f (suc t) l = step-stays (Sdf j) b.fuel m (b.tops t) (b.tops (suc t)) origin [] [] (b.logs t) (stays-fit m f t (omega (arith, l))) (b.steps m t (omega (arith, l)) b.fuel (omega arith))

  made-more : (m : Meets) → Reached m (Sdf j) top n (last_after n) now → Reached m (Sdf j) top (n + count) (last_after (n + count)) new
  made-more m r = record {
    live = b.live;
    outline = o ∙ r.outline;
    fits = subst (λ (v : Tree). IsJobFor (Sdf j) v) b.ends (stays-fit m r.fits count (omega arith));
    log = log_then r.log (logged_by count b.logs);
    goes = (
      max r.goes.0 b.fuel,
      λ k q.
          comes-to m origin b.tops b.logs k (schedule (Sdf j)) (begin (node_of top)) n last_after r.log count
          (λ t l. iteration-fires j.iterations (n + t) j.takes j.inputs.items whole alone (omega (arith, few, l)) (last_after (n + t)) (b.tops t))
          (λ t. refl)
          (λ t l. b.steps m t l k (omega (arith, q)))
          (r.goes.1 k (omega (arith, q)) ∙ ap (λ (v : Tree). Goes (record { fired = n; last = last_after n; top = v; log = r.log })) (sym b.begins))
          count (omega arith)
          ∙ ap (λ (v : Tree). Goes (record { fired = n + count; last = last_after (n + count); top = v; log = log_then r.log (logged_by count b.logs) })) b.ends,
    );
    kept = grew-joined r.log (logged_by count b.logs) (kept_of top) (kept_of now) (kept_of new) r.kept b.kept;
  }

  -- The run goes on by them.
  pub goes-on-by : (budget left after : ℕ) → Going (Sdf j) top budget n (last_after n) now left → count_of new + after ≡ count_of now + left → Going (Sdf j) top budget (n + count) (last_after (n + count)) new after
  goes-on-by budget left after g h =
      let m : Meets = meets_of (kept_of new) in
      let more : count_of now + count ≤ count_of new = counts-more now new (logged_by count b.logs) count o b.kept (firings-logged m origin b.tops b.logs b.fuel count (λ t l. b.steps m t l b.fuel (omega arith))) in
      record {
        live = b.live;
        outline = o ∙ g.outline;
        reached = λ m made. made-more m (g.reached m (made-back m (logged_by count b.logs) (kept_of now) (kept_of new) b.kept made));
        counted = omega (arith, h, g.counted);
        few = omega (arith, more, g.few);
      }

-- Nothing was made, and so it stands as before.
module _ (j : Top) (top : Shown) (n : ℕ) (last : Option Tag) (now new : Shown) (o : outline_of new ≡ outline_of now) (b : IsAsBefore now new) where
  reached-as-before : (m : Meets) → Reached m j top n last now → Reached m j top n last new
  reached-as-before m r = record {
    live = b.live;
    outline = o ∙ r.outline;
    fits = subst (λ (v : Tree). IsJobFor j v) (sym b.node) r.fits;
    log = r.log;
    goes = (r.goes.0, λ k q. r.goes.1 k q ∙ ap (λ (v : Tree). Goes (record { fired = n; last = last; top = v; log = r.log })) (sym b.node));
    kept = subst (λ v. GrewBy r.log (kept_of top) v) (sym b.kept) r.kept;
  }

  pub stands-as-before : (budget left after : ℕ) → Going j top budget n last now left → count_of new + after ≡ count_of now + left → Going j top budget n last new after
  stands-as-before budget left after g h =
      let same : count_of new ≡ count_of now = counts-same now new o b.kept in
      record {
        live = b.live;
        outline = o ∙ g.outline;
        reached = λ m made. reached-as-before m (g.reached m (subst (λ v. AreMadeBefore m v) b.kept made));
        counted = omega (arith, h, g.counted);
        few = omega (arith, same, g.few);
      }
