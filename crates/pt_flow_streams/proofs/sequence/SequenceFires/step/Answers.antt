use Rattle.std.proofs.Common.{◌≡◌, Some, true, ap, ◌∙◌, slice_get, rules}
use Rattle.pt_value.specs.Token.{value_of}
use Rattle.pt_flow_base.specs.Limit.{is_called}
use Rattle.pt_flow_streams.proofs.Sequences.{sequence-gives}
use Rattle.pt_flow_streams.proofs.sequence.SequenceFires.step.Goals as goal

pub returns-clause-made : goal.returns-clause-made
returns-clause-made c =
    let a = c.args.self.now in
    let called : is_called c.args.inputs.now ≡ true = search rules in
    let due : Some (value_of c.in-Ok.token) ≡ slice_get a.values a.index = ap (λ t. Some (value_of t)) c.in-Ok.ensures.value ∙ c.in-Some.ensures in
    sequence-gives c.args._tag a c.args.inputs.now c.in-Ok.token c.one.result c.moved-self.result due called c.one.ensures c.moved-self.ensures
