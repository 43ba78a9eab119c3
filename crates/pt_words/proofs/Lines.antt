-- What a parse of the words tells is what they ask for as a line.
use Rattle.std.proofs.Common.{◌≡◌, ◌∙◌, ◌||◌, inl, inr, ℕ, Bool, true, false, refl, sym, ap, ap₂, subst, arith, List, [], ◌∷◌, Option, Some, None, codes, ne_eqb}
use Rattle.std.specs.Prelude.{◌==◌}
use Rattle.std.specs.List.{fold, list_any}
use Rattle.std.specs.Str.{bytes_eq}
use Rattle.std.specs.Str.Parse.{AllDigits}
use Rattle.std.proofs.lemmas.Slice.Eq.{bytes_eq-Decides}
use Rattle.clap.specs.Walk.{Row, Text, idle, nothing_held, rows_after, subcommand_met}
use Rattle.clap.specs.Simple.{subcommand_of}
use Rattle.clap.specs.Kinds.{Kinds}
use Rattle.clap.specs.Faults.{fault_of, level_fault}
use Rattle.pt_words.specs.declared.parts.Parts.{Parts}
use Rattle.pt_words.specs.declared.line.Line.{Line}
use Rattle.pt_words.specs.Command.{program}
use Rattle.pt_words.specs.Matches.{AreParts, IsTold, is_reserved}
use Rattle.pt_words.specs.Number.{IsNumber}
use Rattle.pt_words.specs.Parts.{IsOneWord, AreTwoWords, Give, Asks, IsLineFor, nothing}
use Rattle.pt_words.proofs.PartLaws.{full}
use Rattle.pt_words.proofs.Arguments.{Key, Workers, Budget, Stages, rules, leaf, offers, or_parts}
use Rattle.pt_words.proofs.Turns.{IsFault}
use Rattle.pt_words.proofs.Walks.{State, Idle, Wants, Failed, step, EndsAs, leaf_ends}
use Rattle.pt_words.proofs.Items.{part_of, taken, told}
use Rattle.pt_words.proofs.Programs.{names, rows_met, fault_met, fault_unmet, fault_empty}

-- ---- no line has a reserved word

number_free : (word : Text) (n : ℕ) → IsNumber word n → is_reserved word ≡ false
unfolding is_reserved
number_free [] n h = refl
number_free (x ∷ xs) n h =
    let no_dash : (x == 45) ≡ false = ne_eqb x 45 (λ e. let digits : AllDigits 10 (45 ∷ xs) = subst (λ (y : ℕ). AllDigits 10 (y ∷ xs)) e h.digits.1 in omega (arith, digits.0)) in
    let no_h : (x == 104) ≡ false = ne_eqb x 104 (λ e. let digits : AllDigits 10 (104 ∷ xs) = subst (λ (y : ℕ). AllDigits 10 (y ∷ xs)) e h.digits.1 in omega (arith, digits.0)) in
    rw (no_dash, no_h) refl

one_free : (word : Text) (rest whole : Parts) → IsOneWord word rest whole → is_reserved word ≡ false
unfolding is_reserved
one_free word rest whole (inl g) = number_free word g.n g.is.number
one_free word rest whole (inr (inl (text, e, g))) = ap is_reserved e
one_free word rest whole (inr (inr (text, e, g))) = ap is_reserved e

two_free : (word value : Text) (rest whole : Parts) → AreTwoWords word value rest whole → (is_reserved word ≡ false) × (is_reserved value ≡ false)
unfolding is_reserved
two_free word value rest whole (inl (e, g)) = (ap is_reserved e, number_free value g.n g.is.number)
two_free word value rest whole (inr (e, g)) = (ap is_reserved e, number_free value g.n g.is.number)

parts_free : (words : List Text) (parts : Parts) → Give words parts → list_any is_reserved words ≡ false
parts_free [] parts given = refl
parts_free (word ∷ []) parts given = ap (λ (b : Bool). b || false) (one_free word nothing parts given)
parts_free (word ∷ next ∷ words) parts (inl (rest, given, one)) = ap₂ (λ (a b : Bool). a || b) (one_free word rest parts one) (parts_free (next ∷ words) rest given)
parts_free (word ∷ next ∷ words) parts (inr (rest, given, two)) =
    let free = two_free word next rest parts two in
    ap₂ (λ (a b : Bool). a || b) free.0 (ap₂ (λ (a b : Bool). a || b) free.1 (parts_free words rest given))

command_free : (command : Text) (parts : Parts) (line : Line) → Asks command parts line → is_reserved command ≡ false
unfolding is_reserved
command_free command parts line (inl (e, a)) = ap is_reserved e
command_free command parts line (inr (inl (e, a))) = ap is_reserved e
command_free command parts line (inr (inr (inl (e, a)))) = ap is_reserved e
command_free command parts line (inr (inr (inr (e, a)))) = ap is_reserved e

pub line_free : (words : List Text) (line : Line) → IsLineFor words line → list_any is_reserved words ≡ false
line_free [] line h = absurd h
line_free (command ∷ words) line (parts, given, asks) = ap₂ (λ (a b : Bool). a || b) (command_free command parts line asks) (parts_free words parts given)

-- ---- a subcommand

no_fault : (faults : Kinds) → faults ≡ [] → IsFault faults → ⊥
no_fault faults e h = subst IsFault e h

-- the rows of a subcommand without a fault are parts that its words give
leaf_told : (label : Text) (options stages : Bool) (words : List Text) (parts : Parts) → list_any is_reserved words ≡ false → level_fault (leaf label options stages) [] nothing_held words false [] ≡ []
    → AreParts (rows_after (rules options stages) [] words) parts → Give words parts
leaf_told label options stages words parts free none rows = by_state (fold (step options stages) (Idle []) words) refl (leaf_ends label options stages words free)
  where
    by_state : (state : State) → fold (step options stages) (Idle []) words ≡ state → EndsAs state (level_fault (leaf label options stages) [] nothing_held words false []) (rows_after (rules options stages) [] words) → Give words parts
    by_state (Idle items) e (clean, found) = told options stages words items parts e (subst (λ (rs : List Row). AreParts rs parts) found rows)
    by_state (Wants k items) e fault = absurd (no_fault _ none fault)
    by_state Failed e fault = absurd (no_fault _ none fault)

-- words that give parts that the subcommand has are no fault, and their rows are these parts
leaf_taken : (label : Text) (options stages : Bool) (words : List Text) (parts : Parts) → Give words parts → ((k : Key) (n : ℕ) → part_of k parts ≡ Some n → offers options stages k ≡ true)
    → (level_fault (leaf label options stages) [] nothing_held words false [] ≡ []) × AreParts (rows_after (rules options stages) [] words) parts
leaf_taken label options stages words parts given offered =
    let (items, ends, rows) = taken options stages words parts given offered in
    let (clean, found) = subst (λ (s : State). EndsAs s (level_fault (leaf label options stages) [] nothing_held words false []) (rows_after (rules options stages) [] words)) ends (leaf_ends label options stages words (parts_free words parts given)) in
    (clean, subst (λ (rs : List Row). AreParts rs parts) (sym found) rows)

-- ---- a line

-- the command is one of the program's
data Met (word : Text) : Type 0 where
  is_run : word ≡ codes "run" → Met word
  is_check : word ≡ codes "check" → Met word
  is_generation : word ≡ codes "gen" → Met word
  is_demonstration : word ≡ codes "demo" → Met word
  is_other : subcommand_met names idle word ≡ None → Met word

met : (word : Text) → Met word
met word = by_run (bytes_eq (codes "run") word) refl
  where
    text_is : (name : Text) → bytes_eq name word ≡ true → word ≡ name
    text_is name e = sym ((bytes_eq-Decides name word).0 e)

    by_demonstration : (b : Bool) → bytes_eq (codes "demo") word ≡ b → bytes_eq (codes "run") word ≡ false → bytes_eq (codes "check") word ≡ false → bytes_eq (codes "gen") word ≡ false → Met word
    by_demonstration true e r c g = is_demonstration (text_is (codes "demo") e)
    by_demonstration false e r c g = is_other (rw (r, c, g, e) refl)

    by_generation : (b : Bool) → bytes_eq (codes "gen") word ≡ b → bytes_eq (codes "run") word ≡ false → bytes_eq (codes "check") word ≡ false → Met word
    by_generation true e r c = is_generation (text_is (codes "gen") e)
    by_generation false e r c = by_demonstration (bytes_eq (codes "demo") word) refl r c e

    by_check : (b : Bool) → bytes_eq (codes "check") word ≡ b → bytes_eq (codes "run") word ≡ false → Met word
    by_check true e r = is_check (text_is (codes "check") e)
    by_check false e r = by_generation (bytes_eq (codes "gen") word) refl r e

    by_run : (b : Bool) → bytes_eq (codes "run") word ≡ b → Met word
    by_run true e = is_run (text_is (codes "run") e)
    by_run false e = by_check (bytes_eq (codes "check") word) refl e

-- the rows of a command tell what its words give
met_told : (label : Text) (options stages : Bool) (words : List Text) (line : Line) → subcommand_of program (label ∷ words) ≡ Some (label, rows_after (rules options stages) [] words)
    → fault_of program (label ∷ words) ≡ level_fault (leaf label options stages) [] nothing_held words false [] → list_any is_reserved words ≡ false
    → fault_of program (label ∷ words) ≡ [] → IsTold (subcommand_of program (label ∷ words)) line → IsLineFor (label ∷ words) line
met_told label options stages words line rows faults free none told =
    let (parts, are, asks) = subst (λ (o : Option (Text × List Row)). IsTold o line) rows told in
    (parts, leaf_told label options stages words parts free (sym faults ∙ none) are, asks)

met_line : (label : Text) (options stages : Bool) (words : List Text) (line : Line) → subcommand_of program (label ∷ words) ≡ Some (label, rows_after (rules options stages) [] words)
    → fault_of program (label ∷ words) ≡ level_fault (leaf label options stages) [] nothing_held words false [] → (parts : Parts) → Give words parts → Asks label parts line → ((k : Key) (n : ℕ) → part_of k parts ≡ Some n → offers options stages k ≡ true)
    → (fault_of program (label ∷ words) ≡ []) × IsTold (subcommand_of program (label ∷ words)) line
met_line label options stages words line rows faults parts given asks offered =
    let (clean, are) = leaf_taken label options stages words parts given offered in
    (faults ∙ clean, subst (λ (o : Option (Text × List Row)). IsTold o line) (sym rows) (parts, are, asks))

dashes_free : (word : Text) → is_reserved word ≡ false → bytes_eq word (codes "--") ≡ false
unfolding is_reserved
dashes_free word e = (or_parts (bytes_eq word (codes "--")) _ e).0

-- What a parse without a fault tells is a line.
pub told_line : (words : List Text) (line : Line) → list_any is_reserved words ≡ false → fault_of program words ≡ [] → IsTold (subcommand_of program words) line → IsLineFor words line
told_line [] line free none told = absurd (no_fault _ none fault_empty)
told_line (word ∷ words) line free none told = by_met (met word)
  where
    parts : (is_reserved word ≡ false) × (list_any is_reserved words ≡ false)
    parts = or_parts (is_reserved word) (list_any is_reserved words) free

    at_word : (label : Text) → word ≡ label → (options stages : Bool) → subcommand_of program (label ∷ words) ≡ Some (label, rows_after (rules options stages) [] words)
        → fault_of program (label ∷ words) ≡ level_fault (leaf label options stages) [] nothing_held words false [] → IsLineFor (word ∷ words) line
    at_word label e options stages rows faults =
        subst (λ (w : Text). IsLineFor (w ∷ words) line) (sym e)
        (met_told label options stages words line rows faults parts.1 (subst (λ (w : Text). fault_of program (w ∷ words) ≡ []) e none) (subst (λ (w : Text). IsTold (subcommand_of program (w ∷ words)) line) e told))

    by_met : Met word → IsLineFor (word ∷ words) line
    by_met (is_run e) = at_word (codes "run") e true false (rows_met (codes "run") true false refl refl refl words) (fault_met (codes "run") true false refl refl refl words)
    by_met (is_check e) = at_word (codes "check") e false false (rows_met (codes "check") false false refl refl refl words) (fault_met (codes "check") false false refl refl refl words)
    by_met (is_generation e) = at_word (codes "gen") e false true (rows_met (codes "gen") false true refl refl refl words) (fault_met (codes "gen") false true refl refl refl words)
    by_met (is_demonstration e) = at_word (codes "demo") e true true (rows_met (codes "demo") true true refl refl refl words) (fault_met (codes "demo") true true refl refl refl words)
    by_met (is_other e) = absurd (no_fault _ none (fault_unmet word words (dashes_free word parts.0) e))

-- A line is parsed without a fault, and what is told is the line.
pub line_told : (words : List Text) (line : Line) → IsLineFor words line → (fault_of program words ≡ []) × IsTold (subcommand_of program words) line
line_told [] line h = absurd h
line_told (command ∷ words) line (parts, given, asks) = by_command asks
  where
    at_word : (label : Text) → command ≡ label → (options stages : Bool) → Asks label parts line → ((k : Key) (n : ℕ) → part_of k parts ≡ Some n → offers options stages k ≡ true)
        → subcommand_of program (label ∷ words) ≡ Some (label, rows_after (rules options stages) [] words)
        → fault_of program (label ∷ words) ≡ level_fault (leaf label options stages) [] nothing_held words false [] → (fault_of program (command ∷ words) ≡ []) × IsTold (subcommand_of program (command ∷ words)) line
    at_word label e options stages asks offered rows faults =
        subst (λ (w : Text). (fault_of program (w ∷ words) ≡ []) × IsTold (subcommand_of program (w ∷ words)) line) (sym e) (met_line label options stages words line rows faults parts given asks offered)

    run_offers : parts.stages ≡ None → (k : Key) (n : ℕ) → part_of k parts ≡ Some n → offers true false k ≡ true
    run_offers none Workers n e = refl
    run_offers none Budget n e = refl
    run_offers none Stages n e = absurd (full parts.stages n e none)

    check_offers : parts ≡ nothing → (k : Key) (n : ℕ) → part_of k parts ≡ Some n → offers false false k ≡ true
    check_offers bare Workers n e = absurd (full parts.workers n e (ap (λ (p : Parts). p.workers) bare))
    check_offers bare Budget n e = absurd (full parts.budget n e (ap (λ (p : Parts). p.budget) bare))
    check_offers bare Stages n e = absurd (full parts.stages n e (ap (λ (p : Parts). p.stages) bare))

    generation_offers : (m : ℕ) → parts ≡ record { stages = Some m; workers = None; budget = None } → (k : Key) (n : ℕ) → part_of k parts ≡ Some n → offers false true k ≡ true
    generation_offers m given Workers n e = absurd (full parts.workers n e (ap (λ (p : Parts). p.workers) given))
    generation_offers m given Budget n e = absurd (full parts.budget n e (ap (λ (p : Parts). p.budget) given))
    generation_offers m given Stages n e = refl

    demonstration_offers : (k : Key) (n : ℕ) → part_of k parts ≡ Some n → offers true true k ≡ true
    demonstration_offers Workers n e = refl
    demonstration_offers Budget n e = refl
    demonstration_offers Stages n e = refl

    by_command : Asks command parts line → (fault_of program (command ∷ words) ≡ []) × IsTold (subcommand_of program (command ∷ words)) line
    by_command (inl (e, a)) = at_word (codes "run") e true false (inl (refl, a)) (run_offers a.stages) (rows_met (codes "run") true false refl refl refl words) (fault_met (codes "run") true false refl refl refl words)
    by_command (inr (inl (e, a))) = at_word (codes "check") e false false (inr (inl (refl, a))) (check_offers a.bare) (rows_met (codes "check") false false refl refl refl words) (fault_met (codes "check") false false refl refl refl words)
    by_command (inr (inr (inl (e, a)))) = at_word (codes "gen") e false true (inr (inr (inl (refl, a)))) (generation_offers a.stages a.given) (rows_met (codes "gen") false true refl refl refl words) (fault_met (codes "gen") false true refl refl refl words)
    by_command (inr (inr (inr (e, a)))) = at_word (codes "demo") e true true (inr (inr (inr (refl, a)))) demonstration_offers (rows_met (codes "demo") true true refl refl refl words) (fault_met (codes "demo") true true refl refl refl words)
