-- What is answered to a net that is checked: the lines of what a check tells of its model, or that of a refusal.
use Rattle.std.specs.Prelude.{◌≡◌, ℕ, List}
use Rattle.pt_document.specs.declared.refusal.Refusal.{Refusal}
use Rattle.pt_net.specs.declared.net.Net.{Net}
use Rattle.pt_node.specs.Shown.{Shown}
use Rattle.pt_trees.specs.declared.top.Top.{Top}
use Rattle.pt_check.specs.Facts.{text_of}
use Rattle.pt_model.specs.Model.{IsModel}
use Rattle.pt_elaboration.specs.Refused as unmodelled
use Rattle.pt_reply.specs.Texts.{refusal_text}
use Rattle.pt_reply.specs.declared.status.Status.{Status}
use Rattle.pt_reply.specs.declared.status.Status.TheVariants.{Done, Document}

-- The check of a net: the types of its ports, and the repetitions and the depths in the tree that is its model.
pub record IsCheck (net : Net) (text : List ℕ) : Type 0 where
  pub top : Shown
  pub job : Top
  pub is_model : IsModel net top job
  pub printed : text ≡ text_of net is_model.typing top

-- A status and its text answer a net that is checked.
abbrev pub ChecksNet : Net → Status → List ℕ → Type 0
ChecksNet net Done text = IsCheck net text
ChecksNet net Document text = (r : Refusal) × unmodelled.IsRefused net r × (text ≡ refusal_text r)
ChecksNet net _ text = ⊥
