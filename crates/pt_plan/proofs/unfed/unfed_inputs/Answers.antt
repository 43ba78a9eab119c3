use Rattle.std.proofs.Common.{◌≡◌, ◌<◌, ◌+◌, ◌++◌, ◌∷◌, [], List, ℕ, Bool, false, cond, not, length, ap, sym, append-nil, ◌∙◌, arith}
use Rattle.std.proofs.lemmas.List.{get_or_read}
use Rattle.pt_plan.specs.Unfed.{feeds, unfed_among}
use Rattle.pt_plan.proofs.UnfedLaws.{unfed-step}
use Rattle.pt_plan.proofs.unfed.unfed_inputs.Goals as goal
use Rattle.pt_plan.proofs.unfed.unfed_inputs.Goals.{then-not-index+in_ok-push, else-not-index}

pub loop-port-preserved : goal.loop-port-preserved
loop-port-preserved c =
    let port : ℕ = c.loop-port.port in
    let before : List ℕ = c.loop-port.unfed.items in
    let short : port < length c.in_ok-fed.fed.items = omega (arith, c.loop-port-test.true, c.in_ok-fed.ensures.count) in
    let is : c.index.result.now ≡ feeds c.args.sources.now port = get_or_read c.in_ok-fed.fed.items port c.index.result.now short c.index.ensures false ∙ c.in_ok-fed.ensures.each port c.loop-port-test.true in
    let step : before ++ cond (not c.index.result.now) (port ∷ []) [] ≡ unfed_among c.args.sources.now (port + 1) = unfed-step c.args.sources.now port c.index.result.now before is c.loop-port.invariant in
    elim c.if-not-index.branch [
      | then-not-index+in_ok-push w ↦ ap (λ v. v.items) w.unfed-is ∙ w.in_ok-push.ensures.items ∙ ap (λ (b : Bool). before ++ cond (not b) (port ∷ []) []) (sym w.if-not-index.true) ∙ step
      | else-not-index w ↦ ap (λ v. v.items) w.unfed-is ∙ sym (append-nil before) ∙ ap (λ (b : Bool). before ++ cond (not b) (port ∷ []) []) (sym w.if-not-index.false) ∙ step
    ]
