use Rattle.std.proofs.Common.{◌≡◌, true, ◌∙◌, rules}
use Rattle.std.specs.Prelude.{option_map, slice_get}
use Rattle.pt_meaning.specs.Tag.{is_due}
use Rattle.pt_value.specs.Token.{token_of}
use Rattle.pt_lib_timed.specs.DiscreteClock.{next}
use Rattle.pt_lib_timed.proofs.ClockLaws.{copied-value, clock-gives}
use Rattle.pt_lib_timed.proofs.discrete_clock.DiscreteClockFires.step.Goals as goal

pub returns-clause-made : goal.returns-clause-made
returns-clause-made c =
    let a = c.args.self.now in
    let due : is_due c.args.tag (next a) ≡ true = first_of (cc, search rules) in
    let given : c.in-Ok.value ≡ option_map token_of (slice_get a.values a.index) = c.in-Ok.ensures ∙ copied-value (λ t. t.now) c.get.result (slice_get a.values a.index) c.get.ensures in
    clock-gives c.args.tag a c.advance.new.self c.args._inputs.now c.in-Ok.value c.outputs_of.result due given c.outputs_of.ensures c.advance.ensures
