-- What a line asks for is in its ranges.
use Rattle.std.proofs.Common.{◌≡◌, inl, inr, ℕ, List, [], ◌∷◌, Option, Some, None, IfSome, sym, subst, arith}
use Rattle.std.specs.Prelude.{unwrap_or}
use Rattle.pt_words.specs.declared.parts.Parts.{Parts}
use Rattle.pt_words.specs.declared.line.Line.{Line}
use Rattle.pt_words.specs.Number.{greatest_budget}
use Rattle.pt_words.specs.Parts.{most_workers, most_stages, nothing, GivesStages, GivesWorkers, GivesBudget, IsOneWord, AreTwoWords, Give, Asks, IsUpTo, IsWithin, IsLineFor}

-- what words give is in its ranges
record AreWithin (parts : Parts) : Type 0 where
  stages : IfSome parts.stages (IsUpTo most_stages)
  workers : IfSome parts.workers (IsUpTo most_workers)
  budget : IfSome parts.budget (IsUpTo greatest_budget)

none_within : AreWithin nothing
none_within = record { stages = tt; workers = tt; budget = tt }

stages_within : (word : List ℕ) (rest whole : Parts) → AreWithin rest → GivesStages word rest whole → AreWithin whole
stages_within word rest whole h g = subst AreWithin (sym g.becomes) (record { stages = (g.is.positive, g.is.within); workers = h.workers; budget = h.budget })

workers_within : (text : List ℕ) (rest whole : Parts) → AreWithin rest → GivesWorkers text rest whole → AreWithin whole
workers_within text rest whole h g = subst AreWithin (sym g.becomes) (record { stages = h.stages; workers = (g.is.positive, g.is.within); budget = h.budget })

budget_within : (text : List ℕ) (rest whole : Parts) → AreWithin rest → GivesBudget text rest whole → AreWithin whole
budget_within text rest whole h g = subst AreWithin (sym g.becomes) (record { stages = h.stages; workers = h.workers; budget = (g.is.positive, g.is.within) })

one_within : (word : List ℕ) (rest whole : Parts) → AreWithin rest → IsOneWord word rest whole → AreWithin whole
one_within word rest whole h (inl g) = stages_within word rest whole h g
one_within word rest whole h (inr (inl g)) = workers_within g.0 rest whole h g.2
one_within word rest whole h (inr (inr g)) = budget_within g.0 rest whole h g.2

two_within : (name value : List ℕ) (rest whole : Parts) → AreWithin rest → AreTwoWords name value rest whole → AreWithin whole
two_within name value rest whole h (inl g) = workers_within value rest whole h g.1
two_within name value rest whole h (inr g) = budget_within value rest whole h g.1

words_within : (words : List (List ℕ)) (parts : Parts) → Give words parts → AreWithin parts
words_within [] parts g = subst AreWithin (sym g) none_within
words_within (word ∷ []) parts g = one_within word nothing parts none_within g
words_within (word ∷ next ∷ words) parts (inl g) = one_within word g.0 parts (words_within (next ∷ words) g.0 g.1) g.2
words_within (word ∷ next ∷ words) parts (inr g) = two_within word next g.0 parts (words_within words g.0 g.1) g.2

-- a value that isn't given is the usual one
usual_within : (most usual : ℕ) (o : Option ℕ) → IfSome o (IsUpTo most) → IsUpTo most usual → IsUpTo most (unwrap_or o usual)
usual_within most usual None h u = u
usual_within most usual (Some n) h u = h

given_within : (most n : ℕ) (o : Option ℕ) → o ≡ Some n → IfSome o (IsUpTo most) → IsUpTo most n
given_within most n o e h = subst (λ (p : Option ℕ). IfSome p (IsUpTo most)) e h

one_worker : IsUpTo most_workers 1
one_worker = (omega arith, omega arith)

usual_is_within : IsUpTo greatest_budget 1000000
usual_is_within = (omega arith, omega arith)

asked_within : (command : List ℕ) (parts : Parts) (line : Line) → AreWithin parts → Asks command parts line → IsWithin line
asked_within command parts line h (inl g) =
    subst IsWithin (sym g.1.asks) (record { task = tt; workers = usual_within most_workers 1 parts.workers h.workers one_worker; budget = usual_within greatest_budget 1000000 parts.budget h.budget usual_is_within })
asked_within command parts line h (inr (inl g)) = subst IsWithin (sym g.1.asks) (record { task = tt; workers = one_worker; budget = usual_is_within })
asked_within command parts line h (inr (inr (inl g))) =
    let all = subst AreWithin g.1.given h in
    subst IsWithin (sym g.1.asks) (record { task = all.stages; workers = one_worker; budget = usual_is_within })
asked_within command parts line h (inr (inr (inr g))) =
    subst IsWithin (sym g.1.asks) (record {
      task = given_within most_stages g.1.stages parts.stages g.1.given h.stages;
      workers = usual_within most_workers 1 parts.workers h.workers one_worker;
      budget = usual_within greatest_budget 1000000 parts.budget h.budget usual_is_within;
    })

pub line_within : (words : List (List ℕ)) (line : Line) → IsLineFor words line → IsWithin line
line_within [] line h = absurd h
line_within (command ∷ words) line h = asked_within command h.0 line (words_within words h.0 h.1) h.2
