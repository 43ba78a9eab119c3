-- Which words are a line of the program, and what they ask for.
use Rattle.std.specs.Prelude.{◌≡◌, ℕ, ◌≤◌, ◌⊎◌, List, [], ◌∷◌, ◌++◌, Option, Some, None, IfSome, unwrap_or, codes}
use Rattle.pt_words.specs.declared.parts.Parts.{Parts}
use Rattle.pt_words.specs.declared.line.Line.{Line}
use Rattle.pt_words.specs.declared.line.Task.{Task}
use Rattle.pt_words.specs.declared.line.Task.TheVariants.{Run, Check, Generate, Demonstrate}
use Rattle.pt_words.specs.Number.{IsNumber, IsBudget, usual_budget, greatest_budget}

abbrev pub most_workers : ℕ
most_workers = 64

abbrev pub most_stages : ℕ
most_stages = 9000

-- a number of workers, and of stages: such a number in its range
pub record IsWorkers (text : List ℕ) (n : ℕ) : Type 0 where
  pub number : IsNumber text n
  pub positive : 1 ≤ n
  pub within : n ≤ most_workers

pub record IsStages (text : List ℕ) (n : ℕ) : Type 0 where
  pub number : IsNumber text n
  pub positive : 1 ≤ n
  pub within : n ≤ most_stages

-- what has the property is this, if anything has it
pub record IsTheOne {A : Type 0} (P : A → Type 0) (result : Option A) : Type 0 where
  pub some : IfSome result P
  pub only : (a : A) → P a → result ≡ Some a

-- ---- what stands behind a command

-- nothing
abbrev pub nothing : Parts
nothing = record { stages = None; workers = None; budget = None }

-- the word is a number of stages, which those behind it don't give
pub record GivesStages (word : List ℕ) (rest whole : Parts) : Type 0 where
  pub n : ℕ
  pub is : IsStages word n
  pub once : rest.stages ≡ None
  pub becomes : whole ≡ record { stages = Some n; workers = rest.workers; budget = rest.budget }

-- the text is the value of an option, which those behind it don't give
pub record GivesWorkers (text : List ℕ) (rest whole : Parts) : Type 0 where
  pub n : ℕ
  pub is : IsWorkers text n
  pub once : rest.workers ≡ None
  pub becomes : whole ≡ record { stages = rest.stages; workers = Some n; budget = rest.budget }

pub record GivesBudget (text : List ℕ) (rest whole : Parts) : Type 0 where
  pub n : ℕ
  pub is : IsBudget text n
  pub once : rest.budget ≡ None
  pub becomes : whole ≡ record { stages = rest.stages; workers = rest.workers; budget = Some n }

-- one word gives a part: a number of stages, or an option with its value behind an equals sign
abbrev pub IsOneWord : (word : List ℕ) (rest whole : Parts) → Type 0
IsOneWord word rest whole =
    GivesStages word rest whole ⊎ (((text : List ℕ) × (word ≡ codes "--workers=" ++ text) × GivesWorkers text rest whole) ⊎ ((text : List ℕ) × (word ≡ codes "--budget=" ++ text) × GivesBudget text rest whole))

-- the name of an option
abbrev pub IsOption : List ℕ → Type 0
IsOption word = (word ≡ codes "--workers") ⊎ (word ≡ codes "--budget")

-- two words give a part: an option, and its value
abbrev pub AreTwoWords : (name value : List ℕ) (rest whole : Parts) → Type 0
AreTwoWords name value rest whole = ((name ≡ codes "--workers") × GivesWorkers value rest whole) ⊎ ((name ≡ codes "--budget") × GivesBudget value rest whole)

-- The words give these parts, in any order, each at most once.
abbrev pub Give : List (List ℕ) → Parts → Type 0
Give [] parts = parts ≡ nothing
Give (word ∷ []) parts = IsOneWord word nothing parts
Give (word ∷ next ∷ words) parts = ((rest : Parts) × Give (next ∷ words) rest × IsOneWord word rest parts) ⊎ ((rest : Parts) × Give words rest × AreTwoWords word next rest parts)

-- ---- lines

abbrev pub workers_of : Parts → ℕ
workers_of parts = unwrap_or parts.workers 1

abbrev pub budget_of : Parts → ℕ
budget_of parts = unwrap_or parts.budget usual_budget

-- a run, with options
pub record IsRun (parts : Parts) (line : Line) : Type 0 where
  pub stages : parts.stages ≡ None
  pub asks : line ≡ record { task = Run; workers = workers_of parts; budget = budget_of parts }

-- a check, without anything
pub record IsCheck (parts : Parts) (line : Line) : Type 0 where
  pub bare : parts ≡ nothing
  pub asks : line ≡ record { task = Check; workers = 1; budget = usual_budget }

-- a job to generate, by a number of stages alone
pub record IsGeneration (parts : Parts) (line : Line) : Type 0 where
  pub stages : ℕ
  pub given : parts ≡ record { stages = Some stages; workers = None; budget = None }
  pub asks : line ≡ record { task = Generate stages; workers = 1; budget = usual_budget }

-- a generated job to run, by a number of stages and with options
pub record IsDemonstration (parts : Parts) (line : Line) : Type 0 where
  pub stages : ℕ
  pub given : parts.stages ≡ Some stages
  pub asks : line ≡ record { task = Demonstrate stages; workers = workers_of parts; budget = budget_of parts }

-- the command asks for this with what stands behind it
abbrev pub Asks : (command : List ℕ) → Parts → Line → Type 0
Asks command parts line =
    ((command ≡ codes "run") × IsRun parts line) ⊎ (((command ≡ codes "check") × IsCheck parts line)
    ⊎ (((command ≡ codes "gen") × IsGeneration parts line) ⊎ ((command ≡ codes "demo") × IsDemonstration parts line)))

-- the words are a line, which asks for this
abbrev pub IsLineFor : List (List ℕ) → Line → Type 0
IsLineFor [] line = ⊥
IsLineFor (command ∷ words) line = (parts : Parts) × Give words parts × Asks command parts line

-- ---- ranges

-- a positive number up to this one
abbrev pub IsUpTo : ℕ → ℕ → Type 0
IsUpTo most n = (1 ≤ n) × (n ≤ most)

-- the stages of a job to generate are so many
abbrev pub HasStages : Task → Type 0
HasStages Run = Unit {0}
HasStages Check = Unit {0}
HasStages (Generate n) = IsUpTo most_stages n
HasStages (Demonstrate n) = IsUpTo most_stages n

-- what a line asks for is in its ranges
pub record IsWithin (line : Line) : Type 0 where
  pub task : HasStages line.task
  pub workers : IsUpTo most_workers line.workers
  pub budget : IsUpTo greatest_budget line.budget
