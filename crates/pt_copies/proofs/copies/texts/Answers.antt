use Rattle.std.proofs.lemmas.Result.{IfOk-weaker}
use Rattle.pt_copies.proofs.SameItems.{same_items}
use Rattle.pt_copies.proofs.copies.texts.Goals as goal

pub returns : goal.returns
returns c = IfOk-weaker c.copies.result _ _ (λ new same. same_items new.items c.args.old.now same) c.copies.ensures
