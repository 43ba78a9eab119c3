use Rattle.std.proofs.Common.{◌≡◌, ◌<◌, ◌+◌, ◌||◌, drop, length, true, false, sym, ap, ◌∙◌, arith, rules}
use Rattle.pt_firing.specs.Row.{truth_of}
use Rattle.pt_lib_time.specs.Signal.{known_token}
use Rattle.pt_lib_time.specs.NonStrictLogicGate.{decides, is_decided}
use Rattle.pt_lib_time.proofs.Gates.{decided-next, decided-end}
use Rattle.pt_lib_time.proofs.non_strict_logic_gate.Gate.is_decided.Goals as goal

pub returns-then-decides : goal.returns-then-decides
returns-then-decides c =
    let g = c.args.self in
    let vs = c.args.partial.now in
    let n = c.loop-place.place in
    let short : n < length vs = omega arith in
    let here : decides g (truth_of (known_token vs n)) ≡ true = search rules in
    ap (λ b. b || is_decided g (drop (n + 1) vs)) (sym here) ∙ sym (decided-next g vs n short) ∙ c.loop-place.invariant

pub loop-place-preserved : goal.loop-place-preserved
loop-place-preserved c =
    let g = c.args.self in
    let vs = c.args.partial.now in
    let n = c.loop-place.place in
    let short : n < length vs = omega arith in
    let none : decides g (truth_of (known_token vs n)) ≡ false = search rules in
    ap (λ b. b || is_decided g (drop (n + 1) vs)) (sym none) ∙ sym (decided-next g vs n short) ∙ c.loop-place.invariant

pub returns : goal.returns
returns c = sym (decided-end c.args.self c.args.partial.now c.loop-place.place (omega arith)) ∙ c.loop-place.invariant
