-- The tokens of a reaction.
use Rattle.std.specs.Prelude.{◌≡◌, []}
use Rattle.pt_modal.specs.declared.lists.Lists.{Lists}

-- none is under way
pub record IsBare (lists : Lists) : Type 0 where
  pub inputs : lists.inputs.items ≡ []
  pub outputs : lists.outputs.items ≡ []

pub record AreSame (lists copies : Lists) : Type 0 where
  pub inputs : copies.inputs.items ≡ lists.inputs.items
  pub lent : copies.lent.items ≡ lists.lent.items
  pub outputs : copies.outputs.items ≡ lists.outputs.items
