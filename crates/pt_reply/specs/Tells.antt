-- What is told of an answer that is due.
use Rattle.std.specs.Prelude.{◌≡◌, ◌⊎◌, ℕ, ◌<◌, ◌≤◌, List, length, take, Option}
use Rattle.std.specs.Io.KnownBytes.{Appends}
use Rattle.pt_io.specs.Causes.{Rose}
use Rattle.pt_reply.specs.declared.status.Status.{Status}
use Rattle.pt_reply.specs.declared.status.Status.TheVariants.{Write}

-- The text went out whole and its status was told, or a write failed behind a part of it.
pub record Tells (before after : ℕ) (old new : Option (List ℕ)) (due : Status) (text : List ℕ) (told : Status) : Type 0 where
  pub later : before ≤ after
  pub written : ((told ≡ due) × Appends old new text) ⊎ ((told ≡ Write) × Rose before after × (n : ℕ) × (n < length text) × Appends old new (take n text))
