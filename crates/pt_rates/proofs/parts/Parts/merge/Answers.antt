use Rattle.pt_rates.specs.Parts.{AreMerged}
use Rattle.pt_rates.proofs.Merges.{on_ok, merged-swapped}
use Rattle.pt_rates.proofs.parts.Parts.merge.Goals as goal

pub returns-then-len-clause-merged : goal.returns-then-len-clause-merged
returns-then-len-clause-merged c =
    on_ok c.absorb.result (AreMerged c.args.second c.args.second_times c.args.first c.args.first_times c.args.self.now c.absorb.new.self) _
    (merged-swapped c.args.first c.args.first_times c.args.second c.args.second_times c.args.self.now c.absorb.new.self) c.absorb.ensures.merged
