-- The same words ask for one thing.
use Rattle.std.proofs.Common.{◌≡◌, inl, inr, ℕ, List, [], ◌∷◌, ◌++◌, Some, sym, ap, ◌∙◌, subst, codes, arith}
use Rattle.pt_words.specs.declared.parts.Parts.{Parts}
use Rattle.pt_words.specs.declared.line.Line.{Line}
use Rattle.pt_words.specs.declared.line.Task.TheVariants.{Generate, Demonstrate}
use Rattle.pt_words.specs.Number.{usual_budget}
use Rattle.pt_words.specs.Parts.{IsOption, nothing, GivesStages, GivesWorkers, GivesBudget, IsOneWord, AreTwoWords, Give, workers_of, budget_of, Asks, IsLineFor}
use Rattle.pt_words.proofs.PartLaws.{same_number, same_behind, same_behind_budget, apart, no_dash, names_differ, not_one, first_letter}

same_stages : (word : List ℕ) (rest p q : Parts) → GivesStages word rest p → GivesStages word rest q → p ≡ q
same_stages word rest p q g h = g.becomes ∙ ap (λ (n : ℕ). record { stages = Some n; workers = rest.workers; budget = rest.budget }) (same_number word g.n h.n g.is.number h.is.number) ∙ sym h.becomes

same_workers : (text : List ℕ) (rest p q : Parts) → GivesWorkers text rest p → GivesWorkers text rest q → p ≡ q
same_workers text rest p q g h = g.becomes ∙ ap (λ (n : ℕ). record { stages = rest.stages; workers = Some n; budget = rest.budget }) (same_number text g.n h.n g.is.number h.is.number) ∙ sym h.becomes

same_budget : (text : List ℕ) (rest p q : Parts) → GivesBudget text rest p → GivesBudget text rest q → p ≡ q
same_budget text rest p q g h = g.becomes ∙ ap (λ (n : ℕ). record { stages = rest.stages; workers = rest.workers; budget = Some n }) (same_number text g.n h.n g.is.number h.is.number) ∙ sym h.becomes

same_one_word : (word : List ℕ) (rest p q : Parts) → IsOneWord word rest p → IsOneWord word rest q → p ≡ q
same_one_word word rest p q (inl g) (inl h) = same_stages word rest p q g h
same_one_word word rest p q (inl g) (inr (inl h)) = absurd (no_dash word (codes "-workers=" ++ h.0) g.n h.1 g.is.number)
same_one_word word rest p q (inl g) (inr (inr h)) = absurd (no_dash word (codes "-budget=" ++ h.0) g.n h.1 g.is.number)
same_one_word word rest p q (inr (inl g)) (inl h) = absurd (no_dash word (codes "-workers=" ++ g.0) h.n g.1 h.is.number)
same_one_word word rest p q (inr (inl g)) (inr (inl h)) = same_workers g.0 rest p q g.2 (subst (λ (t : List ℕ). GivesWorkers t rest q) (same_behind h.0 g.0 (sym h.1 ∙ g.1)) h.2)
same_one_word word rest p q (inr (inl g)) (inr (inr h)) = absurd (apart g.0 h.0 (sym g.1 ∙ h.1))
same_one_word word rest p q (inr (inr g)) (inl h) = absurd (no_dash word (codes "-budget=" ++ g.0) h.n g.1 h.is.number)
same_one_word word rest p q (inr (inr g)) (inr (inl h)) = absurd (apart h.0 g.0 (sym h.1 ∙ g.1))
same_one_word word rest p q (inr (inr g)) (inr (inr h)) = same_budget g.0 rest p q g.2 (subst (λ (t : List ℕ). GivesBudget t rest q) (same_behind_budget h.0 g.0 (sym h.1 ∙ g.1)) h.2)

same_two_words : (name value : List ℕ) (rest p q : Parts) → AreTwoWords name value rest p → AreTwoWords name value rest q → p ≡ q
same_two_words name value rest p q (inl g) (inl h) = same_workers value rest p q g.1 h.1
same_two_words name value rest p q (inl g) (inr h) = absurd (names_differ (sym g.0 ∙ h.0))
same_two_words name value rest p q (inr g) (inl h) = absurd (names_differ (sym h.0 ∙ g.0))
same_two_words name value rest p q (inr g) (inr h) = same_budget value rest p q g.1 h.1

option_of : (name value : List ℕ) (rest p : Parts) → AreTwoWords name value rest p → IsOption name
option_of name value rest p (inl g) = inl g.0
option_of name value rest p (inr g) = inr g.0

same_parts : (words : List (List ℕ)) (p q : Parts) → Give words p → Give words q → p ≡ q
same_parts [] p q g h = g ∙ sym h
same_parts (word ∷ []) p q g h = same_one_word word nothing p q g h
same_parts (word ∷ next ∷ words) p q (inl g) (inl h) = same_one_word word g.0 p q g.2 (subst (λ (r : Parts). IsOneWord word r q) (sym (same_parts (next ∷ words) g.0 h.0 g.1 h.1)) h.2)
same_parts (word ∷ next ∷ words) p q (inl g) (inr h) = absurd (not_one word g.0 p (option_of word next h.0 q h.2) g.2)
same_parts (word ∷ next ∷ words) p q (inr g) (inl h) = absurd (not_one word h.0 q (option_of word next g.0 p g.2) h.2)
same_parts (word ∷ next ∷ words) p q (inr g) (inr h) = same_two_words word next g.0 p q g.2 (subst (λ (r : Parts). AreTwoWords word next r q) (sym (same_parts words g.0 h.0 g.1 h.1)) h.2)

same_some : (m n : ℕ) → Some m ≡ Some n → m ≡ n
same_some m n e = cc

letters : (c d : ℕ) (xs ys word : List ℕ) → (c ≡ d → ⊥) → word ≡ c ∷ xs → word ≡ d ∷ ys → ⊥
letters c d xs ys word differ e f = first_letter xs ys c d differ (sym e ∙ f)

same_asked : (first : List ℕ) (parts : Parts) (a b : Line) → Asks first parts a → Asks first parts b → a ≡ b
same_asked first parts a b (inl g) (inl h) = g.1.asks ∙ sym h.1.asks
same_asked first parts a b (inl g) (inr (inl h)) = absurd (letters 114 99 (codes "un") (codes "heck") first (λ e. omega (arith, e)) g.0 h.0)
same_asked first parts a b (inl g) (inr (inr (inl h))) = absurd (letters 114 103 (codes "un") (codes "en") first (λ e. omega (arith, e)) g.0 h.0)
same_asked first parts a b (inl g) (inr (inr (inr h))) = absurd (letters 114 100 (codes "un") (codes "emo") first (λ e. omega (arith, e)) g.0 h.0)
same_asked first parts a b (inr (inl g)) (inl h) = absurd (letters 99 114 (codes "heck") (codes "un") first (λ e. omega (arith, e)) g.0 h.0)
same_asked first parts a b (inr (inl g)) (inr (inl h)) = g.1.asks ∙ sym h.1.asks
same_asked first parts a b (inr (inl g)) (inr (inr (inl h))) = absurd (letters 99 103 (codes "heck") (codes "en") first (λ e. omega (arith, e)) g.0 h.0)
same_asked first parts a b (inr (inl g)) (inr (inr (inr h))) = absurd (letters 99 100 (codes "heck") (codes "emo") first (λ e. omega (arith, e)) g.0 h.0)
same_asked first parts a b (inr (inr (inl g))) (inl h) = absurd (letters 103 114 (codes "en") (codes "un") first (λ e. omega (arith, e)) g.0 h.0)
same_asked first parts a b (inr (inr (inl g))) (inr (inl h)) = absurd (letters 103 99 (codes "en") (codes "heck") first (λ e. omega (arith, e)) g.0 h.0)
same_asked first parts a b (inr (inr (inl g))) (inr (inr (inl h))) =
    let same : Some g.1.stages ≡ Some h.1.stages = ap (λ (p : Parts). p.stages) (sym g.1.given ∙ h.1.given) in
    g.1.asks ∙ ap (λ (n : ℕ). record { task = Generate n; workers = 1; budget = usual_budget }) (same_some g.1.stages h.1.stages same) ∙ sym h.1.asks
same_asked first parts a b (inr (inr (inl g))) (inr (inr (inr h))) = absurd (letters 103 100 (codes "en") (codes "emo") first (λ e. omega (arith, e)) g.0 h.0)
same_asked first parts a b (inr (inr (inr g))) (inl h) = absurd (letters 100 114 (codes "emo") (codes "un") first (λ e. omega (arith, e)) g.0 h.0)
same_asked first parts a b (inr (inr (inr g))) (inr (inl h)) = absurd (letters 100 99 (codes "emo") (codes "heck") first (λ e. omega (arith, e)) g.0 h.0)
same_asked first parts a b (inr (inr (inr g))) (inr (inr (inl h))) = absurd (letters 100 103 (codes "emo") (codes "en") first (λ e. omega (arith, e)) g.0 h.0)
same_asked first parts a b (inr (inr (inr g))) (inr (inr (inr h))) =
    g.1.asks ∙ ap (λ (n : ℕ). record { task = Demonstrate n; workers = workers_of parts; budget = budget_of parts }) (same_some g.1.stages h.1.stages (sym g.1.given ∙ h.1.given)) ∙ sym h.1.asks

-- words are one line at most
pub same_line : (words : List (List ℕ)) (a b : Line) → IsLineFor words a → IsLineFor words b → a ≡ b
same_line [] a b g h = absurd g
same_line (first ∷ words) a b g h = same_asked first g.0 a b g.2 (subst (λ (p : Parts). Asks first p b) (sym (same_parts words g.0 h.0 g.1 h.1)) h.2)
