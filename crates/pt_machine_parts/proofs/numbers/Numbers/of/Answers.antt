use Rattle.pt_machine.specs.Numbers.{number_of}
use Rattle.pt_machine_parts.specs.Texts.{texts}
use Rattle.pt_machine_parts.specs.Numbered.{numbers_view}
use Rattle.pt_machine_parts.proofs.NameLaws.{numbers-more}
use Rattle.pt_machine_parts.proofs.numbers.Numbers.of.Goals as goal

pub loop-number-preserved : goal.loop-number-preserved
loop-number-preserved c =
    numbers-more c.args.names.now c.loop-number.number _ c.in_ok-number.number (numbers_view c.loop-number.numbers) (numbers_view c.put.new.self) (number_of (texts c.args.names.now)) c.loop-number-test.true c.in_ok-number.ensures c.loop-number.invariant c.in_ok-put.ensures
