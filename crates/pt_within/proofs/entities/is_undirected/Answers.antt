use Rattle.std.proofs.Common.{◌≡◌, true, false, sym, ◌∙◌}
use Rattle.pt_within.proofs.entities.is_undirected.Goals as goal

pub returns-then-is_modal-clause-no : goal.returns-then-is_modal-clause-no
returns-then-is_modal-clause-no c = λ result undirected. (let no : true ≡ false = sym c.if-is_modal.true ∙ c.is_modal.ensures ∙ undirected.plain in cc)

pub returns-in-None-clause-yes : goal.returns-in-None-clause-yes
returns-in-None-clause-yes c = λ result. record { unnamed = c.in-None.is; plain = sym c.is_modal.ensures ∙ c.if-is_modal.false }
