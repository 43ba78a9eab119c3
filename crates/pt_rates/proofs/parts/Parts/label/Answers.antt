use Rattle.std.proofs.Common.{◌<◌, length, sym, subst}
use Rattle.std.proofs.lemmas.List.{get_or_read}
use Rattle.pt_rates.proofs.Merges.{label_inside}
use Rattle.pt_rates.proofs.parts.Parts.label.Goals as goal

pub returns-clause-listed : goal.returns-clause-listed
returns-clause-listed c =
    subst (λ label. label < length c.args.self.now.members.items) (sym (get_or_read c.args.self.now.labels.items c.args.node c.index.result.now c.requires.node c.index.ensures 0)) (label_inside c.args.self.now c.args.node c.requires.held c.requires.node)
