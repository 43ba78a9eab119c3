use Rattle.std.proofs.Common.{ap, ◌∙◌, map, arith}
use Rattle.pt_value.specs.declared.token.Token.TheVariants.{Int}
use Rattle.pt_firing.proofs.Integers.{each-here, each-past}
use Rattle.pt_firing.proofs.int_inputs.one_of.Goals as goal

pub returns-in-Some : goal.returns-in-Some
returns-in-Some c =
    let found = c.in-Some.ensures.lookup.3 in
    ap (λ v. map Int v) c.from_ref.ensures.value ∙ each-here c.args.numbers.now c.args.place c.in-Some.number.now found.0 (found.1 c.in-Some.number.now)

pub returns-in-None : goal.returns-in-None
returns-in-None c = each-past c.args.numbers.now c.args.place (omega (arith, c.in-None.ensures.lookup))
