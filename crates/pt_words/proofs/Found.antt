-- What the code reads of the matches of a parse.
use Rattle.std.proofs.Common.{◌≡◌, ◌∙◌, inl, inr, ℕ, List, [], codes, Option, Some, None, Result, Ok, Err, IfSome, IfErr, IsErrAnd, sym, ap, ap₂, subst, option_map, Box, box_value, false, true}
use Rattle.std.specs.List.{list_any}
use Rattle.clap.specs.Walk.{Row, Text, first_of}
use Rattle.clap.specs.Simple.{App, HasMatchesOf, is_simple, subcommand_of, subcommand_rows, subcommand_rows_of}
use Rattle.clap.specs.Kinds.{HasKind, Kinds}
use Rattle.clap.specs.Faults.{fault_of, is_simple_and_free}
use Rattle.clap.specs.Values.{kind_of}
use Rattle.clap.specs.declared.error.Error.{Error}
use Rattle.clap.specs.declared.parser.matches.ArgMatches.{ArgMatches}
use Rattle.clap.specs.declared.parser.matches.ArgMatches.TheViews.{out-SubCommand}
use Rattle.clap.specs.declared.parser.matches.SubCommand.{SubCommand}
use Rattle.pt_words.specs.declared.parts.Parts.{Parts}
use Rattle.pt_words.specs.declared.line.Line.{Line}
use Rattle.pt_words.specs.declared.fault.WordsFault.{WordsFault}
use Rattle.pt_words.specs.declared.fault.WordsFault.TheVariants.{Refused, Memory}
use Rattle.pt_words.specs.Command.{program}
use Rattle.pt_words.specs.Matches.{IsReadBy, AreParts, IsTold, is_reserved, fault_by}
use Rattle.pt_words.specs.Number.{IsBudget}
use Rattle.pt_words.specs.Parts.{IsStages, IsTheOne, IsWorkers, Asks, IsLineFor}
use Rattle.pt_words.proofs.PartLaws.{same_one, no_one, full}
use Rattle.pt_words.proofs.Programs.{simple, simple_and_free}
use Rattle.pt_words.proofs.Lines.{told_line, line_told}

-- ---- parts

-- a text that writes no number leaves no parts
pub no_stages : (rows : List Row) (o : Option Text) (r : Option (Option ℕ)) → o ≡ first_of (codes "stages") rows → r ≡ None → IsTheOne (IsReadBy IsStages o) r → IsTheOne (AreParts rows) None
no_stages rows o r is none h = no_one (AreParts rows) (λ parts are. full r parts.stages (h.only parts.stages (subst (λ (t : Option Text). IsReadBy IsStages t parts.stages) (sym is) are.stages)) none)

pub no_workers : (rows : List Row) (o : Option Text) (r : Option (Option ℕ)) → o ≡ first_of (codes "workers") rows → r ≡ None → IsTheOne (IsReadBy IsWorkers o) r → IsTheOne (AreParts rows) None
no_workers rows o r is none h = no_one (AreParts rows) (λ parts are. full r parts.workers (h.only parts.workers (subst (λ (t : Option Text). IsReadBy IsWorkers t parts.workers) (sym is) are.workers)) none)

pub no_budget : (rows : List Row) (o : Option Text) (r : Option (Option ℕ)) → o ≡ first_of (codes "budget") rows → r ≡ None → IsTheOne (IsReadBy IsBudget o) r → IsTheOne (AreParts rows) None
no_budget rows o r is none h = no_one (AreParts rows) (λ parts are. full r parts.budget (h.only parts.budget (subst (λ (t : Option Text). IsReadBy IsBudget t parts.budget) (sym is) are.budget)) none)

same_value : (r : Option (Option ℕ)) (m n : Option ℕ) → r ≡ Some m → r ≡ Some n → m ≡ n
same_value r m n e f = cc

value_of : (W : Option ℕ → Type 0) (r : Option (Option ℕ)) (n : Option ℕ) → r ≡ Some n → IsTheOne W r → W n
value_of W r n is h = subst (λ (o : Option (Option ℕ)). IfSome o W) is h.some

-- three texts that write their numbers are the parts
pub all_parts : (rows : List Row) (s w b : Option Text) (x y z : Option (Option ℕ)) (stages workers budget : Option ℕ) → s ≡ first_of (codes "stages") rows → w ≡ first_of (codes "workers") rows → b ≡ first_of (codes "budget") rows
    → x ≡ Some stages → y ≡ Some workers → z ≡ Some budget → IsTheOne (IsReadBy IsStages s) x → IsTheOne (IsReadBy IsWorkers w) y → IsTheOne (IsReadBy IsBudget b) z
    → IsTheOne (AreParts rows) (Some (record { stages = stages; workers = workers; budget = budget }))
all_parts rows s w b x y z stages workers budget s_is w_is b_is x_is y_is z_is hs hw hb =
    record {
      some = record {
        stages = subst (λ (t : Option Text). IsReadBy IsStages t stages) s_is (value_of (IsReadBy IsStages s) x stages x_is hs);
        workers = subst (λ (t : Option Text). IsReadBy IsWorkers t workers) w_is (value_of (IsReadBy IsWorkers w) y workers y_is hw);
        budget = subst (λ (t : Option Text). IsReadBy IsBudget t budget) b_is (value_of (IsReadBy IsBudget b) z budget z_is hb);
      };
      only = λ parts are.
          let same_stages = same_value x stages parts.stages x_is (hs.only parts.stages (subst (λ (t : Option Text). IsReadBy IsStages t parts.stages) (sym s_is) are.stages)) in
          let same_workers = same_value y workers parts.workers y_is (hw.only parts.workers (subst (λ (t : Option Text). IsReadBy IsWorkers t parts.workers) (sym w_is) are.workers)) in
          let same_budget = same_value z budget parts.budget z_is (hb.only parts.budget (subst (λ (t : Option Text). IsReadBy IsBudget t parts.budget) (sym b_is) are.budget)) in
          (λ i. Some (record { stages = same_stages i; workers = same_workers i; budget = same_budget i }));
    }

-- ---- the command

same_some : {A : Type 0} (a b : A) → Some a ≡ Some b → a ≡ b
same_some a b e = cc

module _ {Z : Type 0} where
  -- the name and the rows of a command are those of one
  pub command_met : (met : Option (Box SubCommand Z)) (command : Text) (rows : List Row) → Some command ≡ option_map (λ (b : Box SubCommand Z). (out-SubCommand (box_value b)).name.now) met
      → Some rows ≡ option_map (λ (p : Text × List Row). p.1) (subcommand_rows met) → subcommand_rows met ≡ Some (command, rows)
  command_met None command rows e f = absurd (cc)
  command_met (Some b) command rows e f =
      ap₂ (λ (n : Text) (rs : List Row). Some (n, rs)) (sym (same_some {A = Text} _ _ e)) (sym (same_some {A = List Row} _ _ f))

-- what a command asks for with its parts is what is told
pub told_by : (told : Option (Text × List Row)) (command : Text) (rows : List Row) (r : Option Parts) (parts : Parts) (line : Option Line) → told ≡ Some (command, rows) → r ≡ Some parts → IsTheOne (AreParts rows) r → IsTheOne (Asks command parts) line → IsTheOne (IsTold told) line
told_by told command rows r parts line is r_is are asks =
    subst (λ (o : Option (Text × List Row)). IsTheOne (IsTold o) line) (sym is)
    (same_one (Asks command parts) (IsTold (Some (command, rows))) (λ l a. (parts, subst (λ (o : Option Parts). IfSome o (AreParts rows)) r_is are.some, a))
    (λ l t. subst (λ (p : Parts). Asks command p l) (sym (same_some parts t.0 (sym r_is ∙ are.only t.0 t.1))) t.2) line asks)

-- ---- a whole read

module _ (app : App) (words : List Text) (is : app ≡ program) where
  -- the parse found no fault
  no_fault : (is_simple_and_free app ≡ true → fault_of app words ≡ []) → fault_of program words ≡ []
  no_fault h = ap (λ (a : App). fault_of a words) (sym is) ∙ h (ap is_simple_and_free is ∙ simple_and_free)

  rows_are : (m : ArgMatches) → HasMatchesOf app words m → subcommand_rows_of m ≡ subcommand_of program words
  rows_are m h = (h (ap is_simple is ∙ simple)).1 ∙ ap (λ (a : App). subcommand_of a words) is

  -- what is told by the matches is the line
  pub reads_line : (m : ArgMatches) (line : Line) → list_any is_reserved words ≡ false → (is_simple_and_free app ≡ true → fault_of app words ≡ []) → HasMatchesOf app words m → IsTold (subcommand_rows_of m) line → IsLineFor words line
  reads_line m line free none matches told = told_line words line free (no_fault none) (subst (λ (o : Option (Text × List Row)). IsTold o line) (rows_are m matches) told)

  -- and a line is told by them
  pub tells_line : (m : ArgMatches) (line : Line) → HasMatchesOf app words m → IsLineFor words line → IsTold (subcommand_rows_of m) line
  tells_line m line matches l = subst (λ (o : Option (Text × List Row)). IsTold o line) (sym (rows_are m matches)) (line_told words line l).1

  -- a parse fails at a line for want of memory alone
  pub fails_unread : {T : Type 0} (r : Result T WordsFault) (e : Error) → (is_simple_and_free app ≡ true → HasKind (fault_of app words) e) → IsErrAnd r (λ fault. fault ≡ fault_by (kind_of e))
      → IfErr r (λ fault. fault ≡ Refused → (line : Line) → IsLineFor words line → ⊥)
  fails_unread (Ok x) e kinds given = tt
  fails_unread (Err fault) e kinds given = λ refused line l.
      by_kind (subst (λ (k : Kinds). HasKind k e) (ap (λ (a : App). fault_of a words) is ∙ (line_told words line l).0) (kinds (ap is_simple_and_free is ∙ simple_and_free))) refused
    where
      by_kind : HasKind [] e → fault ≡ Refused → ⊥
      by_kind (inl memory) refused = let bad : Memory ≡ Refused = ap fault_by (sym memory) ∙ sym given ∙ refused in cc
      by_kind (inr none) refused = none
