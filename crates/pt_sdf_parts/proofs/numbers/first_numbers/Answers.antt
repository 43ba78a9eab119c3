use Rattle.std.proofs.Common.{◌≡◌, ℤ, pos, ◌<◌, ◌++◌, ◌∷◌, [], length, get_or, take, drop, refl, rules, ap, ◌∙◌, arith}
use Rattle.pt_meaning.specs.Kahn.{firsts}
use Rattle.pt_firing.specs.IntInputs.{one_at_each}
use Rattle.pt_sdf_parts.proofs.IntLaws.{row-more}
use Rattle.pt_sdf_parts.proofs.numbers.first_numbers.Goals as goal

pub loop-k-preserved : goal.loop-k-preserved
loop-k-preserved c =
    let m : ℤ = get_or c.numbers-numbers.result.now 0 (pos 0) in
    let some : 0 < length c.numbers-numbers.result.now = search rules in
    let more : c.push.new.self.items ≡ c.loop-k.row.items ++ m ∷ [] = search rules in
    ap one_at_each more
    ∙ row-more c.args.channels.now.lists c.args.from c.loop-k.k c.args.needs.now c.loop-k.row.items c.numbers-numbers.result.now m (omega (arith, c.requires.places, c.loop-k-test.true)) (omega (arith, c.requires.needed, c.loop-k-test.true)) (c.requires.one c.loop-k.k c.loop-k-test.true) c.loop-k.invariant c.numbers-numbers.ensures some refl

pub returns : goal.returns
returns c =
    let all : c.loop-k.k ≡ c.args.n = omega arith in
    λ _. c.loop-k.invariant ∙ ap (λ k. firsts (take k (drop c.args.from c.args.needs.now)) (take k (drop c.args.from c.args.channels.now.lists))) all
