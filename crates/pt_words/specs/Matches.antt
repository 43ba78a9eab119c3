-- What the matches of a parse ask for, and what its error is told as.
use Rattle.std.specs.Prelude.{◌||◌, ℕ, Bool, List, Option, Some, None, codes}
use Rattle.std.specs.Str.{bytes_eq}
use Rattle.clap.specs.Walk.{Row, Text, first_of}
use Rattle.clap.specs.declared.error.kind.ErrorKind.{ErrorKind}
use Rattle.clap.specs.declared.error.kind.ErrorKind.TheVariants.{OutOfMemory}
use Rattle.pt_words.specs.declared.parts.Parts.{Parts}
use Rattle.pt_words.specs.declared.line.Line.{Line}
use Rattle.pt_words.specs.declared.fault.WordsFault.{WordsFault}
use Rattle.pt_words.specs.declared.fault.WordsFault.TheVariants.{Refused, Memory}
use Rattle.pt_words.specs.Number.{IsBudget}
use Rattle.pt_words.specs.Parts.{IsWorkers, IsStages, Asks}

-- the text, if there is one, writes the number, and there is a number only then
abbrev pub IsReadBy : (List ℕ → ℕ → Type 0) → Option (List ℕ) → Option ℕ → Type 0
IsReadBy Writes None None = Unit {0}
IsReadBy Writes (Some text) (Some n) = Writes text n
IsReadBy Writes _ _ = ⊥

-- what was found for the arguments of a command gives these parts
pub record AreParts (rows : List Row) (parts : Parts) : Type 0 where
  pub stages : IsReadBy IsStages (first_of (codes "stages") rows) parts.stages
  pub workers : IsReadBy IsWorkers (first_of (codes "workers") rows) parts.workers
  pub budget : IsReadBy IsBudget (first_of (codes "budget") rows) parts.budget

-- the command that was met, with what was found for its arguments, asks for this line
abbrev pub IsTold : Option (Text × List Row) → Line → Type 0
IsTold None line = ⊥
IsTold (Some met) line = (parts : Parts) × AreParts met.1 parts × Asks met.0 parts line

-- a word that ends options, or asks for help or the version
unfoldable pub is_reserved : List ℕ → Bool
is_reserved word =
    bytes_eq word (codes "--") || (bytes_eq word (codes "-h") || (bytes_eq word (codes "--help")
    || (bytes_eq word (codes "-V") || (bytes_eq word (codes "--version") || bytes_eq word (codes "help")))))

-- an error of a parse as a fault of the words
abbrev pub fault_by : ErrorKind → WordsFault
fault_by OutOfMemory = Memory
fault_by _ = Refused
