use Rattle.std.proofs.Common.{◌≡◌, ℤ, pos, ◌++◌, ◌∷◌, [], get_or, rules, ◌∙◌}
use Rattle.pt_value.specs.declared.token.Token.TheVariants.{Int}
use Rattle.pt_tagged.proofs.TaggedLaws.{noted-number}
use Rattle.pt_tagged.proofs.tagged.push_each.Goals as goal

pub loop-number-preserved : goal.loop-number-preserved
loop-number-preserved c =
    let m : ℤ = get_or c.args.numbers.now c.loop-number.number-index (pos 0) in
    let more : c.push.new.self.items ≡ c.loop-number.rest.items ++ ((c.args.tag, Int m) ∷ []) = search rules in
    more ∙ noted-number c.args.rest.now.items c.loop-number.rest.items c.args.tag c.args.numbers.now c.loop-number.number-index c.loop-number.invariant c.loop-number-test.true
