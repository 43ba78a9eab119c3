use Rattle.std.proofs.Common.{◌≡◌, ◌+◌, ◌-◌, length, sym, ap, ◌∙◌, arith}
use Rattle.pt_said.specs.SaidWords.{leads, from_next, place_view, next_view}
use Rattle.pt_said.proofs.SaidWords.{turn}
use Rattle.pt_said.proofs.said.type_in.Goals as goal

pub loop-preserved : goal.loop-preserved
loop-preserved c =
    let n = length c.args.text.now + 1 - c.loop.counter in
    let fuel : length c.args.text.now + 1 - (c.loop.counter + 1) ≡ n - 1 = omega arith in
    rw fuel (ap (from_next (λ p. leads (n - 1) p)) (ap next_view (sym c.in-Goes.is) ∙ c.in_ok-next.ensures) ∙ turn n (place_view c.loop.place) _ (omega (arith, c.loop-test.true)) c.loop.invariant)
