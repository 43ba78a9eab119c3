use Rattle.pt_value.specs.Token.{value_of}
use Rattle.pt_readback.proofs.Words.{nothing_open, none_first}
use Rattle.pt_readback.proofs.reading.after_part.Goals as goal

pub returns-in_default-clause-ends : goal.returns-in_default-clause-ends
returns-in_default-clause-ends c = λ v h.
    absurd (nothing_open v (value_of c.args.token) c.args.pending.now.items c.args.words.now (none_first _ _ c.in_default.ensures.items c.in_default.ensures.rest) h c.requires)
