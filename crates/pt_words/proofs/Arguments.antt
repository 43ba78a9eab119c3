-- The arguments that a command may have, and the rows of what was found for them.
use Rattle.std.proofs.Common.{◌≡◌, ◌∙◌, ◌&&◌, ◌||◌, ℕ, Bool, cond, true, false, true≢false, not, refl, sym, ap, ap₂, List, [], ◌∷◌, ◌++◌, map, Option, Some, None, codes, option_map, append-nil}
use Rattle.std.specs.Prelude.{find, option_and_then, slice_get}
use Rattle.std.specs.List.{list_any}
use Rattle.std.specs.Str.{bytes_eq}
use Rattle.std.proofs.Math.Bool.{or-false}
use Rattle.std.proofs.lemmas.Bool.{cond-false}
use Rattle.std.proofs.lemmas.List.{map-append}
use Rattle.clap.specs.Walk.{Row, Rule, Text, arg_by_id, arg_by_index, arg_by_long, arg_by_short, at_row, first_of, has_row, more_values, takes_values, used, with_default, with_values, without}
use Rattle.clap.specs.Simple.{Shape, filled, with_index}
use Rattle.clap.specs.Kinds.{Kinds, or_else}
use Rattle.clap.specs.Faults.{use_fault}
use Rattle.clap.specs.declared.builder.value_parser.Reading.TheVariants.{AsWritten}
use Rattle.clap.specs.declared.error.kind.ErrorKind.TheVariants as kind
use Rattle.clap.specs.declared.parser.matches.ValueSource.TheVariants.{CommandLine}
use Rattle.pt_words.specs.Command.{option_rule, stages_rule}

pub data Key : Type 0 where
  Workers : Key
  Budget : Key
  Stages : Key

abbrev pub name_of : Key → Text
name_of Workers = codes "workers"
name_of Budget = codes "budget"
name_of Stages = codes "stages"

abbrev pub same : Key → Key → Bool
same Workers Workers = true
same Budget Budget = true
same Stages Stages = true
same _ _ = false

pub names_same : (j k : Key) → bytes_eq (name_of j) (name_of k) ≡ same j k
names_same Workers Workers = refl
names_same Workers Budget = refl
names_same Workers Stages = refl
names_same Budget Workers = refl
names_same Budget Budget = refl
names_same Budget Stages = refl
names_same Stages Workers = refl
names_same Stages Budget = refl
names_same Stages Stages = refl

pub same-refl : (k : Key) → same k k ≡ true
same-refl Workers = refl
same-refl Budget = refl
same-refl Stages = refl

-- ---- the arguments of a built command

-- the rule of an argument
abbrev pub rule_for : Key → Rule
rule_for Workers = filled (option_rule (codes "workers"))
rule_for Budget = filled (option_rule (codes "budget"))
rule_for Stages = with_index 1 (filled stages_rule)

-- the arguments of a command that may have the options, and may have the number of stages
abbrev pub keys : (options stages : Bool) → List Key
keys options stages = cond options (Workers ∷ Budget ∷ []) [] ++ cond stages (Stages ∷ []) []

abbrev pub rules : (options stages : Bool) → List Rule
rules options stages = map rule_for (keys options stages)

-- the command has the argument
abbrev pub offers : (options stages : Bool) → Key → Bool
offers options stages Workers = options
offers options stages Budget = options
offers options stages Stages = stages

-- the option of this name
abbrev pub option_named : Text → Option Key
option_named name = cond (bytes_eq (codes "workers") name) (Some Workers) (cond (bytes_eq (codes "budget") name) (Some Budget) None)

abbrev pub named : (options : Bool) → Text → Option Key
named options name = cond options (option_named name) None

pub id_for : (k : Key) → (rule_for k).id ≡ name_of k
id_for Workers = refl
id_for Budget = refl
id_for Stages = refl

pub takes_one : (k : Key) → takes_values (rule_for k) ≡ true
takes_one Workers = refl
takes_one Budget = refl
takes_one Stages = refl

pub by_id : (options stages : Bool) (k : Key) → offers options stages k ≡ true → arg_by_id (rules options stages) (name_of k) ≡ Some (rule_for k)
by_id true stages Workers e = refl
by_id true stages Budget e = refl
by_id false stages Workers e = absurd (true≢false (sym e))
by_id false stages Budget e = absurd (true≢false (sym e))
by_id true true Stages e = refl
by_id false true Stages e = refl
by_id options false Stages e = absurd (true≢false (sym e))

pub by_long : (options stages : Bool) (name : Text) → arg_by_long (rules options stages) name ≡ option_map rule_for (named options name)
by_long false false name = refl
by_long false true name = refl
by_long true stages name = go stages (bytes_eq (codes "workers") name) (bytes_eq (codes "budget") name)
  where
    go : (s a b : Bool) → cond (a || false) (Some (rule_for Workers)) (cond (b || false) (Some (rule_for Budget)) (arg_by_long (rules false s) name)) ≡ option_map rule_for (cond a (Some Workers) (cond b (Some Budget) None))
    go s true b = refl
    go s false true = refl
    go true false false = refl
    go false false false = refl

pub by_short : (options stages : Bool) (x : ℕ) → arg_by_short (rules options stages) x ≡ None
by_short true true x = refl
by_short true false x = refl
by_short false true x = refl
by_short false false x = refl

-- the place of the next word that is no option
abbrev pub next_place : (taken : Bool) → ℕ
next_place taken = cond taken 2 1

pub by_index : (options stages taken : Bool) → arg_by_index (rules options stages) (next_place taken) ≡ cond (stages && not taken) (Some (rule_for Stages)) None
by_index true true true = refl
by_index true true false = refl
by_index true false true = refl
by_index true false false = refl
by_index false true true = refl
by_index false true false = refl
by_index false false true = refl
by_index false false false = refl

pub no_default : (k : Key) (rows : List Row) → with_default rows (rule_for k) ≡ rows
no_default k rows = by_key k
  where
    go : (b : Bool) → cond b rows rows ≡ rows
    go true = refl
    go false = refl

    by_key : (k : Key) → with_default rows (rule_for k) ≡ rows
    by_key Workers = go (has_row (codes "workers") rows)
    by_key Budget = go (has_row (codes "budget") rows)
    by_key Stages = go (has_row (codes "stages") rows)

-- a subcommand of the built program
abbrev pub leaf : Text → (options stages : Bool) → Shape
leaf label options stages = record {
  name = label;
  aliases = [];
  rules = rules options stages;
  is_plain = true;
  is_leaf = true;
  no_binary_name = true;
  disable_help_flag = true;
  disable_help_subcommand = true;
  disable_version_flag = false;
  propagate_version = false;
  has_version = false;
  has_long_version = false;
  args_override_self = false;
  arg_required_else_help = false;
  subcommand_required = false;
  subcommand_negates_reqs = false;
  is_built = true;
}

-- ---- what was found

-- an argument and its text
abbrev pub Item : Type 0
Item = Key × Text

abbrev pub row_for : Item → Row
row_for item = record { id = name_of item.0; values = item.1 ∷ []; count = None; source = Some CommandLine; reading = AsWritten }

abbrev pub has_key : Key → List Item → Bool
has_key k items = list_any (λ (item : Item). same item.0 k) items

-- the first text of an argument
abbrev pub text_of : Key → List Item → Option Text
text_of k [] = None
text_of k (item ∷ items) = cond (same item.0 k) (Some item.1) (text_of k items)

or_more : (a b c : Bool) → (a || (b || c)) ≡ ((a || b) || c)
or_more true b c = refl
or_more false b c = refl

pub or_parts : (a b : Bool) → (a || b) ≡ false → (a ≡ false) × (b ≡ false)
or_parts true b e = absurd (true≢false e)
or_parts false b e = (refl, e)

pub has_key-more : (k : Key) (items : List Item) (item : Item) → has_key k (items ++ item ∷ []) ≡ (has_key k items || same item.0 k)
has_key-more k [] item = or-false (same item.0 k)
has_key-more k (first ∷ items) item = ap (λ (b : Bool). same first.0 k || b) (has_key-more k items item) ∙ or_more (same first.0 k) (has_key k items) (same item.0 k)

pub has_row-items : (k : Key) (items : List Item) → has_row (name_of k) (map row_for items) ≡ has_key k items
has_row-items k [] = refl
has_row-items k (item ∷ items) = ap₂ (λ (a b : Bool). a || b) (names_same item.0 k) (has_row-items k items)

pub first_of-items : (k : Key) (items : List Item) → first_of (name_of k) (map row_for items) ≡ text_of k items
first_of-items k [] = refl
first_of-items k (item ∷ items) = ap (λ (b : Bool). option_and_then (λ (r : Row). slice_get r.values 0) (cond b (Some (row_for item)) (find (λ (r : Row). bytes_eq r.id (name_of k)) (map row_for items)))) (names_same item.0 k) ∙ go (same item.0 k) (first_of-items k items)
  where
    go : (b : Bool) → first_of (name_of k) (map row_for items) ≡ text_of k items
        → option_and_then (λ (r : Row). slice_get r.values 0) (cond b (Some (row_for item)) (find (λ (r : Row). bytes_eq r.id (name_of k)) (map row_for items))) ≡ cond b (Some item.1) (text_of k items)
    go true e = refl
    go false e = e

-- no row has the name, so the missing one joins at the end
at_end : (k : Key) (change : Row → List Row) (missing : List Row) (items : List Item) → has_key k items ≡ false → at_row (name_of k) change missing (map row_for items) ≡ map row_for items ++ missing
at_end k change missing [] none = refl
at_end k change missing (item ∷ items) none =
    let parts = or_parts (same item.0 k) (has_key k items) none in
    cond-false (bytes_eq (name_of item.0) (name_of k)) (change (row_for item) ++ map row_for items) (row_for item ∷ at_row (name_of k) change missing (map row_for items)) (names_same item.0 k ∙ parts.0)
    ∙ ap (λ (rows : List Row). row_for item ∷ rows) (at_end k change missing items parts.1)

-- ---- one use of an argument

used_as : (k : Key) (text : Text) (rows : List Row) → used (rule_for k) (text ∷ []) rows ≡ with_values (name_of k) AsWritten CommandLine (text ∷ []) (without (name_of k) rows)
used_as Workers text rows = refl
used_as Budget text rows = refl
used_as Stages text rows = refl

-- an argument that has no row gets one
pub used_items : (k : Key) (text : Text) (items : List Item) → has_key k items ≡ false → used (rule_for k) (text ∷ []) (map row_for items) ≡ map row_for (items ++ (k, text) ∷ [])
used_items k text items none =
    used_as k text (map row_for items)
    ∙ ap (with_values (name_of k) AsWritten CommandLine (text ∷ [])) (at_end k (λ _. []) [] items none ∙ append-nil (map row_for items))
    ∙ at_end k (more_values CommandLine (text ∷ [])) (row_for (k, text) ∷ []) items none
    ∙ sym (map-append row_for items ((k, text) ∷ []))

-- the fault of a use, by whether the argument was used before
abbrev pub repeated : Bool → Kinds
repeated true = kind.ArgumentConflict ∷ []
repeated false = []

use_one : (k : Key) (text : Text) (rows : List Row) → use_fault false (rule_for k) (text ∷ []) rows ≡ repeated (has_row (name_of k) rows)
use_one k text rows = by_key k
  where
    go : (b : Bool) → or_else (cond (b && true) (kind.ArgumentConflict ∷ []) []) [] ≡ repeated b
    go true = refl
    go false = refl

    by_key : (k : Key) → use_fault false (rule_for k) (text ∷ []) rows ≡ repeated (has_row (name_of k) rows)
    by_key Workers = go (has_row (codes "workers") rows)
    by_key Budget = go (has_row (codes "budget") rows)
    by_key Stages = go (has_row (codes "stages") rows)

pub use_items : (k : Key) (text : Text) (items : List Item) → use_fault false (rule_for k) (text ∷ []) (map row_for items) ≡ repeated (has_key k items)
use_items k text items = use_one k text (map row_for items) ∙ ap repeated (has_row-items k items)

-- a use without a value is a fault
pub use_none : (k : Key) (rows : List Row) → use_fault false (rule_for k) [] rows ≡ kind.InvalidValue ∷ []
use_none Workers rows = refl
use_none Budget rows = refl
use_none Stages rows = refl
