use Rattle.std.proofs.Common.{◌≡◌, ℕ, ◌*◌, length, map, get_or, ap, subst, arith}
use Rattle.pt_core.specs.Source.{source_of}
use Rattle.pt_block_work.specs.Work.{IsSource}
use Rattle.pt_block_work.proofs.InputLaws.{inputs-one}
use Rattle.pt_block_work.proofs.inputs.inputs_at.Goals as goal

pub returns : goal.returns
returns c =
    inputs-one (map source_of c.args.plan.now.sources.items) c.args.plan.now.needs c.args.given.now c.args.from c.args.firings (get_or c.as_slice-needs.result.now c.args.from 0) c.in_ok-numbers.numbers.now c.at_one_place.result (ap (λ v. get_or v c.args.from 0) c.as_slice-needs.ensures) (subst (λ v. IsSource (map source_of v) c.args.given.now c.args.from c.in_ok-numbers.numbers.now) c.deref.ensures.value c.in_ok-numbers.ensures) (grind (arith, c.if-ne.ensures, c.checked_mul.ensures)) c.at_one_place.ensures
