use Rattle.std.proofs.Common.{length, ap, arith}
use Rattle.pt_rv_parts.proofs.FlagLaws.{listed-few}
use Rattle.pt_rv_parts.proofs.flags.Flags.copy.Goals as goal

pub numbers_again-requires : goal.numbers_again-requires
numbers_again-requires c =
    let few = listed-few c.self.inside.flags.items c.self.inside.numbers.items c.self.inside.places.items c.self.invariant.listed in
    let e = ap (λ v. length v) c.deref.ensures.value in
    omega (arith, few, e, c.len.ensures, c.self.inside.flags.ok.0)
