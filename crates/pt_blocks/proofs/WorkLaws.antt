-- What the firings of a block ask for, and what they come to.
use Rattle.std.proofs.Common.{◌≡◌, ℕ, ℤ, List, [], length, false, Result, Ok, Err, is_err, OnOk, sym, ap, subst, ◌∙◌}
use Rattle.std.proofs.lemmas.Bool.{false≢true}
use Rattle.std.proofs.lemmas.List.{length-map}
use Rattle.pt_meaning.specs.Running.{total}
use Rattle.pt_meaning.specs.Sdf.{SdfPlan}
use Rattle.pt_core.specs.Source.{source_of}
use Rattle.pt_library.specs.declared.library_actor.LibraryActor.{LibraryActor}
use Rattle.pt_sdf_parts.specs.declared.plan.CorePlan.{CorePlan}
use Rattle.pt_sdf_parts.specs.Plan.{plan_of}
use Rattle.pt_sdf.specs.Clauses.{State}
use Rattle.pt_sdf.specs.Bare.{IsBare}
use Rattle.pt_directors.specs.Directors.{of_sdf}
use Rattle.pt_node.specs.Shown.{Shown, all_of}
use Rattle.pt_node.specs.Live.{IsReady}
use Rattle.pt_block_work.specs.Work.{IsFor, HasWorked}
use Rattle.pt_blocks.specs.Children.{AreOf}
use Rattle.pt_blocks.specs.Block.{IsMade}
use Rattle.pt_blocks.proofs.ChildLaws.{children-long}

-- a result that is no error
pub on-ok : {A E : Type 0} (r : Result A E) (P : Type 0) → is_err r ≡ false → OnOk r P → P
on-ok (Ok a) P e h = h
on-ok (Err x) P e h = absurd (false≢true (sym e))

module _ (s : State) (p : CorePlan) (same : plan_of p ≡ s.plan) (children : List Shown) where
  -- there is an entry for each child
  pub work-fits : IsReady (of_sdf s) (all_of children) → (actors : List LibraryActor) (given : List (List ℤ)) → AreOf children actors → length given ≡ length children → IsFor (plan_of p) actors given
  work-fits fits actors given are rows_long =
      let long = children-long s children fits in
      subst (λ q. IsFor q actors given) (sym same) (record { repetitions = fits.fitting.repetitions; rates = fits.fitting.rates; children = are.count ∙ long; rows = rows_long ∙ long })

  pub work-made : (iterations : ℕ) (olds news : List LibraryActor) (given : List (List ℤ)) → p.needs ≡ s.needs → IsBare s → total p.places ≡ length p.sources.items → total p.places ≡ length p.needs → (children ≡ [] → ⊥) → AreOf children olds → length news ≡ length children → length given ≡ length children →
      HasWorked (plan_of p) p.needs iterations olds news given → IsMade s iterations children news given
  work-made iterations olds news given needs bare sources places some are count rows_long worked = record {
    bare = bare;
    placed = subst (λ (q : SdfPlan). length q.net.sources ≡ total q.net.places) same (length-map p.sources.items source_of ∙ sym sources);
    needed = ap (λ ns. length ns) (sym needs) ∙ sym places ∙ ap (λ (q : SdfPlan). total q.net.places) same;
    some = some;
    count = count;
    rows = rows_long;
    olds = olds;
    are = are;
    worked = subst (λ ns. HasWorked s.plan ns iterations olds news given) needs (subst (λ q. HasWorked q p.needs iterations olds news given) same worked);
  }
