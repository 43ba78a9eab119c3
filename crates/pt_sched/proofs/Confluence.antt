-- Where the order of firings makes no difference.
use Rattle.std.proofs.Common.{◌≡◌, ℕ, ◌*◌, ◌≤◌, inl, inr, List, [], ◌∷◌, ◌++◌, get_or, All, sym, ap, ◌∙◌, arith}
use Rattle.std.proofs.lemmas.Bool.{cases_eq, cases_lt}
use Rattle.pt_sched.specs.Runs.{firings, put_on, taken_from, HasTokens, IsRun, at_first, fires, IsStuck}
use Rattle.pt_sched.specs.Laws.{StuckRunsAgree, DeadlocksExcludeSchedules, SchedulesRestoreLengths}
use Rattle.pt_sched.specs.declared.edge.SchedEdge.{SchedEdge}
use Rattle.pt_sched.proofs.Counts.{firings-push_same, firings-push_other, firings-push_le, put_on-le}

-- a child that had its tokens has them where it fired as often, and no other child less often
still_there : (channels : List SchedEdge) (f g : ℕ → ℕ) (child : ℕ) → f child ≡ g child → ((other : ℕ) → f other ≤ g other) → HasTokens channels f child → HasTokens channels g child
still_there channels f g child same less tokens k d short to =
    let channel : SchedEdge = get_or channels k d in
    let taken : taken_from channel f ≡ taken_from channel g = ap (λ n. n * channel.edge.consumed) (ap f to ∙ same ∙ ap g (sym to)) in
    omega (arith, taken, tokens k d short to, put_on-le channel f g (less channel.edge.from))

-- no run gets ahead of one that is stuck
pub behind_stuck : (channels : List SchedEdge) (q : List ℕ) {order : List ℕ} (stuck : List ℕ) → IsRun channels q order → IsStuck channels q stuck → (child : ℕ) → firings order child ≤ firings stuck child
behind_stuck channels q stuck at_first s child = omega arith
behind_stuck channels q stuck (fires order c r lacking tokens) s child = elim (cases_eq c child) [
  | inr d ↦ omega (arith, firings-push_other order c child d, behind_stuck channels q stuck r s child)
  | inl e ↦ elim (cases_lt (firings order c) (firings stuck c)) [
    | inl more ↦ omega (arith, firings-push_same order c child e, ap (firings order) e, ap (firings stuck) e)
    | inr level ↦
        let same : firings order c ≡ firings stuck c = omega (arith, behind_stuck channels q stuck r s c) in
        absurd (s.none c (omega (arith, same, lacking)) (still_there channels (firings order) (firings stuck) c same (behind_stuck channels q stuck r s) tokens))
  ]
]

pub stuck-agree : StuckRunsAgree
stuck-agree = record {
  ahead = λ channels q order stuck run s. behind_stuck channels q stuck run s;
  same = λ channels q first second a b child. omega (arith, behind_stuck channels q second a.run b child, behind_stuck channels q first b.run a child);
}

pub deadlock-excludes : DeadlocksExcludeSchedules
deadlock-excludes channels q child order deadlock schedule = omega (arith, behind_stuck channels q deadlock.order schedule.run deadlock.stuck child, schedule.complete child, deadlock.lacking)

pub run-keeps : (channels : List SchedEdge) (q : List ℕ) {order : List ℕ} → IsRun channels q order → All (λ channel. taken_from channel (firings order) ≤ put_on channel (firings order)) channels
run-keeps channels q at_first k d short = omega arith
run-keeps channels q (fires order c r lacking tokens) k d short =
    let channel : SchedEdge = get_or channels k d in
    let put : put_on channel (firings order) ≤ put_on channel (firings (order ++ c ∷ [])) = put_on-le channel (firings order) (firings (order ++ c ∷ [])) (firings-push_le order c channel.edge.from) in
    elim (cases_eq c channel.edge.to) [
      | inl e ↦ omega (arith, put, tokens k d short (sym e), ap (λ n. n * channel.edge.consumed) (firings-push_same order c channel.edge.to e))
      | inr n ↦ omega (arith, put, run-keeps channels q r k d short, ap (λ n. n * channel.edge.consumed) (firings-push_other order c channel.edge.to n))
    ]

pub schedule-restores : SchedulesRestoreLengths
schedule-restores channels q order balanced schedule k d short =
    let channel : SchedEdge = get_or channels k d in
    omega (arith, balanced k d short, ap (λ n. n * channel.edge.produced) (schedule.complete channel.edge.from), ap (λ n. n * channel.edge.consumed) (schedule.complete channel.edge.to))
