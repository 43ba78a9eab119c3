use Rattle.std.proofs.Common.{◌≡◌, ◌<◌, length, true, false, sym, ◌∙◌, rules, arith}
use Rattle.pt_firing.specs.Row.{is_present}
use Rattle.pt_firing.proofs.Places.{absent-here, present-here}
use Rattle.pt_firing.proofs.inputs.Inputs.all_present.Goals as goal

pub returns-then-not-is_present : goal.returns-then-not-is_present
returns-then-not-is_present c =
    let X = c.args.self.now in
    let short : c.loop-place.place < length X = omega arith in
    let none : is_present X c.loop-place.place ≡ false = search rules in
    sym (absent-here X c.loop-place.place short none) ∙ c.loop-place.invariant

pub loop-place-preserved : goal.loop-place-preserved
loop-place-preserved c =
    let X = c.args.self.now in
    let short : c.loop-place.place < length X = omega arith in
    let some : is_present X c.loop-place.place ≡ true = search rules in
    sym (present-here X c.loop-place.place short some) ∙ c.loop-place.invariant
