-- The program's walk over a whole line: its command, and then the words of that.
use Rattle.std.proofs.Common.{◌≡◌, ◌∙◌, ◌&&◌, ℕ, Bool, cond, true, false, refl, sym, ap, ap₂, subst, List, [], ◌∷◌, map, length, Option, Some, None, codes, option_map, is_some}
use Rattle.std.specs.Prelude.{find, slice_get}
use Rattle.std.specs.List.{fold}
use Rattle.std.specs.Option.{option_map_or}
use Rattle.std.specs.Str.{bytes_eq, chars}
use Rattle.clap.specs.Lexer.{long_of, short_of}
use Rattle.clap.specs.Walk.{Held, Names, Outcome, Text, Walk, after_flag, after_step, answers_to, finished, idle, long_or_other, nothing_held, plain, rows_after, settled, short_or_plain, subcommand_met, subcommand_or_other, value, walk, walk_from, walked}
use Rattle.clap.specs.Simple.{App, Shape, built, entered, is_simple, label_of, rows_at, subcommand_of}
use Rattle.clap.specs.Kinds.{Kinds, or_else}
use Rattle.clap.specs.Faults.{check_fault, defaults_fault, entered_fault, fault_of, flag_word_fault, flags_fault, is_simple_and_free, level_fault, other_fault, settle_fault, step_fault, turn_fault, walk_fault}
use Rattle.clap.specs.declared.error.kind.ErrorKind.TheVariants as kind
use Rattle.clap.proofs.FaultLemmas.{fault_ends, stopped_fault}
use Rattle.clap.proofs.WalkLemmas.{bundle_ends, walk_stopped}
use Rattle.pt_words.specs.Command.{program}
use Rattle.pt_words.proofs.Arguments.{leaf, rules}
use Rattle.pt_words.proofs.Turns.{IsFault, fault_first, or_nothing, turn_is, flags_unknown}

pub simple_and_free : is_simple_and_free program ≡ true
unfolding program
simple_and_free = refl

pub simple : is_simple program ≡ true
unfolding program
simple = refl

-- ---- the built program

abbrev top : Shape
top = record {
  name = codes "ptrun";
  aliases = [];
  rules = [];
  is_plain = true;
  is_leaf = false;
  no_binary_name = true;
  disable_help_flag = true;
  disable_help_subcommand = true;
  disable_version_flag = false;
  propagate_version = false;
  has_version = false;
  has_long_version = false;
  args_override_self = false;
  arg_required_else_help = false;
  subcommand_required = true;
  subcommand_negates_reqs = false;
  is_built = true;
}

abbrev leaves : List Shape
leaves = leaf (codes "run") true false ∷ leaf (codes "check") false false ∷ leaf (codes "gen") false true ∷ leaf (codes "demo") true true ∷ []

abbrev whole : App
whole = record { top = top; subs = leaves }

is_whole : built program ≡ whole
unfolding program
is_whole = refl

abbrev pub names : Names
names = map label_of leaves

-- ---- a line with a command

-- the words after a command are left to it
module _ (label : Text) (options stages : Bool) (met : subcommand_met names idle label ≡ Some label) (sub : find (λ (s : Shape). answers_to label (label_of s)) leaves ≡ Some (leaf label options stages)) (other : bytes_eq label (codes "help") ≡ false) (words : List Text) where
  stopped : walk [] names nothing_held (label ∷ words) ≡ record (walk_from nothing_held) { stopped = Some (label, words) }
  unfolding walked
  stopped =
      ap (λ (o : Option Text). fold (walked [] names) (after_step [] label (walk_from nothing_held) (subcommand_or_other [] o idle 1 label nothing_held).0 (subcommand_or_other [] o idle 1 label nothing_held).1) words) met
      ∙ sym (walk_stopped [] names (walk_from nothing_held) label [] words)

  no_turn_fault : turn_fault top names (walk_from nothing_held) label ≡ []
  no_turn_fault =
      ap (λ (o : Option Text). or_else (other_fault top o label nothing_held) (step_fault top 1 (subcommand_or_other [] o idle 1 label nothing_held).0 (subcommand_or_other [] o idle 1 label nothing_held).1)) met
      ∙ ap (λ (b : Bool). or_else (cond (b && false) (kind.DisplayHelp ∷ kind.InvalidSubcommand ∷ []) []) []) other

  no_walk_fault : walk_fault top names (walk_from nothing_held) (label ∷ words) ≡ []
  unfolding walk_fault walked
  no_walk_fault =
      ap₂ or_else no_turn_fault
      (ap (λ (o : Option Text). walk_fault top names (after_step [] label (walk_from nothing_held) (subcommand_or_other [] o idle 1 label nothing_held).0 (subcommand_or_other [] o idle 1 label nothing_held).1) words) met
      ∙ stopped_fault top names (walk_from nothing_held) (label, []) words)

  pub rows_met : subcommand_of program (label ∷ words) ≡ Some (label, rows_after (rules options stages) [] words)
  unfolding program
  rows_met =
      ap (λ (w : Walk). entered whole w.stopped) stopped
      ∙ ap (option_map (λ (s : Shape). rows_at s words)) sub

  pub fault_met : fault_of program (label ∷ words) ≡ level_fault (leaf label options stages) [] nothing_held words false []
  unfolding program defaults_fault
  fault_met =
      ap₂ (λ (f : Kinds) (w : Walk). or_else f (or_else (entered_fault whole w.stopped) (or_else (settle_fault [] false w.held) (or_else (defaults_fault (settled [] w.held).rows []) (check_fault top (finished [] w.held) (is_some (entered whole w.stopped))))))) no_walk_fault stopped
      ∙ ap (λ (o : Option Shape). or_else (option_map_or (λ (s : Shape). level_fault s [] nothing_held words false []) o []) (check_fault top [] (is_some (option_map (λ (s : Shape). rows_at s words) o)))) sub
      ∙ or_nothing (level_fault (leaf label options stages) [] nothing_held words false [])

-- ---- a line without a command

module _ (word : Text) (words : List Text) (dashes : bytes_eq word (codes "--") ≡ false) (met : subcommand_met names idle word ≡ None) where
  refuses : flag_word_fault [] false (long_of word) word nothing_held ≡ kind.UnknownArgument ∷ [] → IsFault (turn_fault top names (walk_from nothing_held) word)
  refuses faults = subst IsFault (sym (turn_is top names word dashes nothing_held idle 1 met _ _ faults refl)) tt

  strays : flag_word_fault [] false (long_of word) word nothing_held ≡ [] → long_or_other [] idle word (long_of word) nothing_held ≡ (nothing_held, value) → IsFault (turn_fault top names (walk_from nothing_held) word)
  strays faults steps = subst IsFault (sym (turn_is top names word dashes nothing_held idle 1 met _ _ faults steps)) tt

  by_first : (flags : Text) (first : Option ℕ) → long_of word ≡ None → short_of word ≡ Some flags → slice_get (chars flags) 0 ≡ first → IsFault (turn_fault top names (walk_from nothing_held) word)
  by_first flags (Some x) long short is =
      refuses (ap (λ (o : Option (Text × Option Text)). flag_word_fault [] false o word nothing_held) long
      ∙ ap (λ (o : Option Text). option_map_or (λ (fs : Text). flags_fault [] false (length fs) fs 0 nothing_held) o []) short ∙ flags_unknown [] false flags x nothing_held is refl)
  by_first flags None long short is =
      strays (ap (λ (o : Option (Text × Option Text)). flag_word_fault [] false o word nothing_held) long
      ∙ ap (λ (o : Option Text). option_map_or (λ (fs : Text). flags_fault [] false (length fs) fs 0 nothing_held) o []) short ∙ sym (fault_ends [] false (length flags) flags 0 nothing_held (sym is)))
      (ap (λ (o : Option (Text × Option Text)). long_or_other [] idle word o nothing_held) long ∙ ap (λ (o : Option Text). short_or_plain [] idle word o nothing_held) short
      ∙ ap (λ (m : Held × Outcome). after_flag [] idle word m.0 m.1) (sym (bundle_ends [] (length flags) flags 0 plain nothing_held (sym is))))

  by_dash : (dash : Option Text) → long_of word ≡ None → short_of word ≡ dash → IsFault (turn_fault top names (walk_from nothing_held) word)
  by_dash (Some flags) long short = by_first flags (slice_get (chars flags) 0) long short refl
  by_dash None long short =
      strays (ap (λ (o : Option (Text × Option Text)). flag_word_fault [] false o word nothing_held) long ∙ ap (λ (o : Option Text). option_map_or (λ (fs : Text). flags_fault [] false (length fs) fs 0 nothing_held) o []) short)
      (ap (λ (o : Option (Text × Option Text)). long_or_other [] idle word o nothing_held) long ∙ ap (λ (o : Option Text). short_or_plain [] idle word o nothing_held) short)

  by_long : (o : Option (Text × Option Text)) → long_of word ≡ o → IsFault (turn_fault top names (walk_from nothing_held) word)
  by_long (Some p) long = refuses (ap (λ (o : Option (Text × Option Text)). flag_word_fault [] false o word nothing_held) long)
  by_long None long = by_dash (short_of word) long refl

  pub fault_unmet : IsFault (fault_of program (word ∷ words))
  unfolding program walk_fault
  fault_unmet = fault_first _ _ (fault_first _ _ (by_long (long_of word) refl))

-- no words are a fault
pub fault_empty : IsFault (fault_of program [])
unfolding program walk_fault defaults_fault
fault_empty = tt
