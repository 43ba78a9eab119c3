use Rattle.std.proofs.Common.{◌++◌, ◌∷◌, [], List, append_assoc, subst}
use Rattle.pt_net.specs.declared.net.Channel.{Channel}
use Rattle.pt_net.specs.declared.net.End.{End}
use Rattle.pt_check.specs.Marks.{AreMarks}
use Rattle.pt_check.proofs.marks.mark_channel.Goals as goal

pub returns-clause-marks : goal.returns-clause-marks
returns-clause-marks c = λ es are.
    let k : Channel = c.args.channel.now in
    subst (λ (some : List End). AreMarks some c.mark_end-2.new.rows.items) (append_assoc es (k.from ∷ []) (k.to ∷ [])) (c.mark_end-2.ensures.marks (es ++ k.from ∷ []) (c.mark_end.ensures.marks es are))
