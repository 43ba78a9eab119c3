-- How the scheduler's loop goes on, and how it ends.
use Rattle.std.proofs.Common.{◌≡◌, ℕ, ◌<◌, List, [], length, get_or, sym, ap, subst, ◌∙◌, arith}
use Rattle.pt_sched.specs.Lists.{AreAt, AreListed}
use Rattle.pt_sched.specs.Next.{IsReady}
use Rattle.pt_sched.specs.Plan.{IsDeadlock, IsUnschedulable}
use Rattle.pt_sched.specs.Runs.{IsRun}
use Rattle.pt_sched.specs.State.{IsCounted}
use Rattle.pt_sched.specs.declared.edge.SchedEdge.{SchedEdge}
use Rattle.pt_sched.specs.declared.lists.Side.{Side}
use Rattle.pt_sched.proofs.Confluence.{deadlock-excludes}
use Rattle.pt_sched.proofs.Steps.{lacking-inside, stuck-run}

-- the channels at a child that lacks firings, as the program reads them
pub numbers-at : (n : ℕ) (side : Side) (channels : List SchedEdge) (q fired fired' : List ℕ) (lists slice : List (List ℕ)) (numbers : List ℕ) (child : ℕ) → length q ≡ n → AreListed n side channels lists → fired' ≡ fired → IsReady channels q (λ other. get_or fired' other 0) child → slice ≡ lists → numbers ≡ get_or slice child [] → AreAt side channels child numbers
numbers-at n side channels q fired fired' lists slice numbers child counted listed same ready es en =
    let inside : child < n = omega (arith, counted, lacking-inside q child (get_or fired' child 0) ready.0) in
    subst (λ (xs : List ℕ). AreAt side channels child xs) (sym (en ∙ ap (λ (ls : List (List ℕ)). get_or ls child []) es)) (listed.lists_at child inside)

-- no child that lacks firings has its tokens, so no order is a schedule
pub unschedulable : (channels : List SchedEdge) (q order fired : List ℕ) (child : ℕ) → IsRun channels q order → IsCounted fired order → get_or fired child 0 < get_or q child 0 → ((other : ℕ) → IsReady channels q (λ k. get_or fired k 0) other → ⊥) → IsUnschedulable channels q child
unschedulable channels q order fired child run same lacking none =
    let deadlock : IsDeadlock channels q child = record {
      order = order;
      stuck = stuck-run channels q order fired run same none;
      lacking = omega (arith, lacking, same child);
    }
    in
    record { deadlock = deadlock; none = λ other. deadlock-excludes channels q child other deadlock }
