use Rattle.std.proofs.Common.{rules}
use Rattle.pt_machine_parts.specs.Told.{IsTold}
use Rattle.pt_machine_parts.specs.Texts.{texts}
use Rattle.pt_machine_parts.specs.Numbered.{numbers_view, IsStrange}
use Rattle.pt_machine_parts.proofs.NameLaws.{strange-at}
use Rattle.pt_machine_parts.proofs.ports.all_numbers.Goals as goal

pub returns-in_err-number-clause-told : goal.returns-in_err-number-clause-told
returns-in_err-number-clause-told c =
    let told : IsTold (IsStrange (numbers_view c.args.numbers.now) (texts c.args.names.now)) c.in_err-number.field-0.0 =
    strange-at (numbers_view c.args.numbers.now) c.args.names.now c.loop-name.name-index _ c.loop-name-test.true c.in_err-number.field-0.0 c.in_err-number.ensures.told in
    let h = c.from_residual-in_err-number.ensures in
    search (rules, told, h)
