use Rattle.pt_top.proofs.CheckLaws.{told-checks}
use Rattle.pt_top.proofs.check.told.Goals as goal

pub returns : goal.returns
returns c = λ net of. told-checks net c.args.facts.now c.in_ok-check_text.field-0.items of c.in_ok-check_text.ensures
