-- The walk of a subcommand over its words, told by a machine that knows options and a number of stages alone.
use Rattle.std.proofs.Common.{◌≡◌, ◌∙◌, ◌&&◌, ◌||◌, ℕ, Bool, cond, true, false, true≢false, not, refl, sym, ap, ap₂, subst, subst₂, List, [], ◌∷◌, ◌++◌, map, Option, Some, None, codes}
use Rattle.std.specs.List.{fold, list_any}
use Rattle.std.specs.Option.{option_map_or}
use Rattle.std.specs.Str.{bytes_eq}
use Rattle.std.proofs.Math.Bool.{and-false, or-false}
use Rattle.clap.specs.Walk.{Held, Row, Rule, Text, Waiting, Walk, after_step, arg_by_id, finished, has_row, idle, is_pending, next_position, nothing_held, option, option_word, pushed, reacted, rows_after, settled, settled_rows, to_positional, used, used_by_id, value, walked, with_default}
use Rattle.clap.specs.Kinds.{Kinds, check_kinds, or_else}
use Rattle.clap.specs.Faults.{default_fault, defaults_fault, level_fault, positional_fault, react_fault, settle_fault, step_fault, stray_fault, turn_fault, use_fault, walk_fault}
use Rattle.clap.specs.Takes.{is_given}
use Rattle.clap.specs.declared.error.kind.ErrorKind.TheVariants as kind
use Rattle.pt_words.specs.Matches.{is_reserved}
use Rattle.pt_words.proofs.Arguments.{Key, Workers, Budget, Stages, Item, name_of, same, rule_for, row_for, rules, keys, leaf, offers, has_key, has_key-more, next_place, or_parts, by_id, by_index, id_for, used_items, repeated, use_items, use_none, no_default}
use Rattle.pt_words.proofs.Forms.{Form, Attached, Alone, Plain, Unknown, form_of}
use Rattle.pt_words.proofs.Turns.{IsFault, fault_first, or_nothing, or_next, held, at, Takes, Turn, attached, alone, unflagged, unknown, turn}

-- ---- the machine

-- Between two words: what was found, and maybe an option that wants its value. Or the words were refused.
pub data State : Type 0 where
  Idle : List Item → State
  Wants : Key → List Item → State
  Failed : State

-- each argument is found once at most
abbrev pub added : Key → Text → List Item → State
added k text items = cond (has_key k items) Failed (Idle (items ++ (k, text) ∷ []))

abbrev pub placed : (stages : Bool) → Text → List Item → State
placed stages word items = cond (stages && not (has_key Stages items)) (Idle (items ++ (Stages, word) ∷ [])) Failed

abbrev pub from_idle : (stages : Bool) → Text → List Item → Form → State
from_idle stages word items (Attached k text) = added k text items
from_idle stages word items (Alone k) = Wants k items
from_idle stages word items Plain = placed stages word items
from_idle stages word items Unknown = Failed

abbrev pub from_wanting : Text → Key → List Item → Form → State
from_wanting word k items Plain = added k word items
from_wanting word k items _ = Failed

abbrev pub step : (options stages : Bool) → State → Text → State
step options stages (Idle items) word = from_idle stages word items (form_of options word)
step options stages (Wants k items) word = from_wanting word k items (form_of options word)
step options stages Failed word = Failed

pub stays_failed : (options stages : Bool) (words : List Text) → fold (step options stages) Failed words ≡ Failed
stays_failed options stages [] = refl
stays_failed options stages (word ∷ words) = stays_failed options stages words

-- ---- the walk follows the machine

module _ (label : Text) (options stages : Bool) where
  -- the fault of the words from here on, once what is pending is used
  abbrev fault_from : Walk → List Text → Kinds
  fault_from w words = or_else (walk_fault (leaf label options stages) [] w words) (settle_fault (rules options stages) false (fold (walked (rules options stages) []) w words).held)

  abbrev rows_from : Walk → List Text → List Row
  rows_from w words = (settled (rules options stages) (fold (walked (rules options stages) []) w words).held).rows

  fault_next : (w : Walk) (word : Text) (words : List Text) → fault_from w (word ∷ words) ≡ or_else (turn_fault (leaf label options stages) [] w word) (fault_from (walked (rules options stages) [] w word) words)
  unfolding walk_fault
  fault_next w word words = or_next (turn_fault (leaf label options stages) [] w word) _ _

-- faults and rows are those that the machine's end tells
abbrev pub EndsAs : State → Kinds → List Row → Type 0
EndsAs (Idle items) faults rows = (faults ≡ []) × (rows ≡ map row_for items)
EndsAs (Wants k items) faults rows = IsFault faults
EndsAs Failed faults rows = IsFault faults

module _ (label : Text) (options stages : Bool) where
  -- the words from here on end as the machine does from the state
  abbrev Runs : State → Walk → List Text → Type 0
  Runs state w words = EndsAs (fold (step options stages) state words) (fault_from label options stages w words) (rows_from label options stages w words)

  passes : (state : State) (h : Held) (waiting : Waiting) (place : ℕ) (after : Walk) (word : Text) (words : List Text) → Takes label options stages word h waiting place [] after → Runs (step options stages state word) after words
      → Runs state (at h waiting place) (word ∷ words)
  passes state h waiting place after word words t runs =
      subst₂ (EndsAs (fold (step options stages) (step options stages state word) words))
      (ap (λ (w : Walk). fault_from label options stages w words) (sym t.walks) ∙ ap (λ (f : Kinds). or_else f (fault_from label options stages (walked (rules options stages) [] (at h waiting place) word) words)) (sym t.faults) ∙ sym (fault_next label options stages (at h waiting place) word words))
      (ap (λ (w : Walk). rows_from label options stages w words) (sym t.walks))
      runs

  fails : (state : State) (w : Walk) (word : Text) (words : List Text) → step options stages state word ≡ Failed → IsFault (turn_fault (leaf label options stages) [] w word) → Runs state w (word ∷ words)
  fails state w word words failed fault =
      subst (λ (end : State). EndsAs end (fault_from label options stages w (word ∷ words)) (rows_from label options stages w (word ∷ words)))
      (sym (ap (λ (s : State). fold (step options stages) s words) failed ∙ stays_failed options stages words))
      (subst IsFault (sym (fault_next label options stages w word words)) (fault_first _ _ fault))

-- ---- what is pending

module _ (options stages : Bool) where
  settle_pending : (k : Key) (texts : List Text) (rows : List Row) → offers options stages k ≡ true → settle_fault (rules options stages) false (held rows (Some (name_of k, texts))) ≡ use_fault false (rule_for k) texts rows
  settle_pending k texts rows offered = ap (λ (o : Option Rule). option_map_or (λ (a : Rule). use_fault false a texts rows) o []) (by_id options stages k offered)

  settled_pending : (k : Key) (texts : List Text) (rows : List Row) → offers options stages k ≡ true → settled_rows (rules options stages) (Some (name_of k, texts)) rows ≡ used (rule_for k) texts rows
  settled_pending k texts rows offered = ap (λ (o : Option Rule). used_by_id o texts rows) (by_id options stages k offered)

  -- an option without its value is a fault
  wants_fault : (k : Key) (rows : List Row) → offers options stages k ≡ true → IsFault (settle_fault (rules options stages) false (held rows (Some (name_of k, []))))
  wants_fault k rows offered = subst IsFault (sym (settle_pending k [] rows offered ∙ use_none k rows)) tt

  -- once what is pending is used, these items are found
  record Stands (rows : List Row) (pending : Option (Text × List Text)) (items : List Item) : Type 0 where
    clean : settle_fault (rules options stages) false (held rows pending) ≡ []
    found : settled_rows (rules options stages) pending rows ≡ map row_for items

  given : (k : Key) (text : Text) (items : List Item) → offers options stages k ≡ true → has_key k items ≡ false → Stands (map row_for items) (Some (name_of k, text ∷ [])) (items ++ (k, text) ∷ [])
  given k text items offered none =
      record {
        clean = settle_pending k (text ∷ []) (map row_for items) offered ∙ use_items k text items ∙ ap repeated none;
        found = settled_pending k (text ∷ []) (map row_for items) offered ∙ used_items k text items none;
      }

-- an option leaves the place of the next word
same_place : (k : Key) (text : Text) (items : List Item) → same k Stages ≡ false → has_key Stages (items ++ (k, text) ∷ []) ≡ has_key Stages items
same_place k text items other = has_key-more Stages items (k, text) ∙ ap (λ (b : Bool). has_key Stages items || b) other ∙ or-false (has_key Stages items)

option_word_is : (k : Key) (word : Text) (rows : List Row) → option_word (Some (rule_for k)) (name_of k) word (held rows (Some (name_of k, []))) ≡ (held rows (Some (name_of k, word ∷ [])), idle)
option_word_is Workers word rows = refl
option_word_is Budget word rows = refl
option_word_is Stages word rows = refl

and_parts : (a b : Bool) → (a && not b) ≡ true → (a ≡ true) × (b ≡ false)
and_parts true true e = absurd (true≢false (sym e))
and_parts true false e = (refl, refl)
and_parts false b e = absurd (true≢false (sym e))

no_dashes : (word : Text) (words : List Text) → list_any is_reserved (word ∷ words) ≡ false → bytes_eq word (codes "--") ≡ false
unfolding is_reserved
no_dashes word words free = (or_parts (bytes_eq word (codes "--")) _ (or_parts (is_reserved word) (list_any is_reserved words) free).0).0

-- ---- turns

module _ (label : Text) (options stages : Bool) where
  -- the fault of a word that is no flag and no value
  place_fault : (h : Held) (taken : Bool) → step_fault (leaf label options stages) (next_place taken) h value ≡ cond (stages && not taken) (settle_fault (rules options stages) false h) (kind.UnknownArgument ∷ [])
  place_fault h taken = ap (λ (o : Option Rule). option_map_or (λ (a : Rule). positional_fault (rules options stages) false a h) o (stray_fault (leaf label options stages))) (by_index options stages taken) ∙ go (stages && not taken)
    where
      go : (b : Bool) → option_map_or (λ (a : Rule). positional_fault (rules options stages) false a h) (cond b (Some (rule_for Stages)) None) (stray_fault (leaf label options stages)) ≡ cond b (settle_fault (rules options stages) false h) (kind.UnknownArgument ∷ [])
      go true = ap (λ (b : Bool). cond b [] (settle_fault (rules options stages) false h)) (and-false (is_pending (rule_for Stages) h.pending))
      go false = refl

  -- where what is pending is a fault, the next word is one, or the end
  doomed : (words : List Text) (rows : List Row) (pending : Option (Text × List Text)) (taken : Bool) → list_any is_reserved words ≡ false → IsFault (settle_fault (rules options stages) false (held rows pending))
      → IsFault (fault_from label options stages (at (held rows pending) idle (next_place taken)) words)
  unfolding walk_fault
  doomed [] rows pending taken free fault = fault
  doomed (word ∷ words) rows pending taken free fault =
      subst IsFault (sym (fault_next label options stages (at (held rows pending) idle (next_place taken)) word words)) (fault_first _ _ (by_turn (turn label options stages word (no_dashes word words free) rows pending idle (next_place taken))))
    where
      at_place : (b : Bool) → IsFault (cond b (settle_fault (rules options stages) false (held rows pending)) (kind.UnknownArgument ∷ []))
      at_place true = fault
      at_place false = tt

      by_turn : Turn label options stages word (held rows pending) idle (next_place taken) → IsFault (turn_fault (leaf label options stages) [] (at (held rows pending) idle (next_place taken)) word)
      by_turn (attached k text form offered other t) = subst IsFault (sym t.faults) (fault_first _ _ fault)
      by_turn (alone k form offered other t) = subst IsFault (sym t.faults) fault
      by_turn (unflagged form t) = subst IsFault (sym (t.faults ∙ place_fault (held rows pending) taken)) (at_place (stages && not taken))
      by_turn (unknown form f) = f

  -- the walk over these words follows the machine from each state
  record Follows (words : List Text) : Type 0 where
    when_idle : (rows : List Row) (pending : Option (Text × List Text)) (items : List Item) → Stands options stages rows pending items → Runs label options stages (Idle items) (at (held rows pending) idle (next_place (has_key Stages items))) words
    when_wanting : (k : Key) (items : List Item) → offers options stages k ≡ true → same k Stages ≡ false
        → Runs label options stages (Wants k items) (at (held (map row_for items) (Some (name_of k, []))) (option (name_of k)) (next_place (has_key Stages items))) words

  module _ (word : Text) (words : List Text) (free : list_any is_reserved words ≡ false) (behind : Follows words) where
    -- from a state that stands, with one more option
    one_more : (k : Key) (text : Text) (items : List Item) (rows : List Row) (pending : Option (Text × List Text)) → same k Stages ≡ false → Stands options stages rows pending (items ++ (k, text) ∷ [])
        → Runs label options stages (Idle (items ++ (k, text) ∷ [])) (at (held rows pending) idle (next_place (has_key Stages items))) words
    one_more k text items rows pending other stands =
        subst (λ (taken : Bool). Runs label options stages (Idle (items ++ (k, text) ∷ [])) (at (held rows pending) idle (next_place taken)) words) (same_place k text items other)
        (behind.when_idle rows pending (items ++ (k, text) ∷ []) stands)

    module _ (rows : List Row) (pending : Option (Text × List Text)) (items : List Item) (stands : Stands options stages rows pending items) where
      -- an option with its value
      idle_attached : (k : Key) (text : Text) → form_of options word ≡ Attached k text → same k Stages ≡ false
          → Takes label options stages word (held rows pending) idle (next_place (has_key Stages items)) (react_fault (rules options stages) false (rule_for k) (text ∷ []) (held rows pending)) (at (reacted (rules options stages) (rule_for k) (text ∷ []) (held rows pending)) idle (next_place (has_key Stages items)))
          → Runs label options stages (Idle items) (at (held rows pending) idle (next_place (has_key Stages items))) (word ∷ words)
      idle_attached k text form other t = by_key (has_key k items) refl
        where
          faults : react_fault (rules options stages) false (rule_for k) (text ∷ []) (held rows pending) ≡ repeated (has_key k items)
          faults = ap₂ or_else stands.clean (ap (use_fault false (rule_for k) (text ∷ [])) stands.found ∙ use_items k text items)

          by_key : (b : Bool) → has_key k items ≡ b → Runs label options stages (Idle items) (at (held rows pending) idle (next_place (has_key Stages items))) (word ∷ words)
          by_key true has =
              fails label options stages (Idle items) (at (held rows pending) idle (next_place (has_key Stages items))) word words
              (ap (from_idle stages word items) form ∙ ap (λ (b : Bool). cond b Failed (Idle (items ++ (k, text) ∷ []))) has) (subst IsFault (sym (t.faults ∙ faults ∙ ap repeated has)) tt)
          by_key false has =
              passes label options stages (Idle items) (held rows pending) idle (next_place (has_key Stages items)) _ word words (record { faults = t.faults ∙ faults ∙ ap repeated has; walks = t.walks })
              (subst (λ (s : State). Runs label options stages s (at (reacted (rules options stages) (rule_for k) (text ∷ []) (held rows pending)) idle (next_place (has_key Stages items))) words)
              (sym (ap (from_idle stages word items) form ∙ ap (λ (b : Bool). cond b Failed (Idle (items ++ (k, text) ∷ []))) has))
              (one_more k text items (used (rule_for k) (text ∷ []) (settled_rows (rules options stages) pending rows)) None other (record { clean = refl; found = ap (used (rule_for k) (text ∷ [])) stands.found ∙ used_items k text items has })))

      -- an option that wants its value
      idle_alone : (k : Key) → form_of options word ≡ Alone k → offers options stages k ≡ true → same k Stages ≡ false
          → Takes label options stages word (held rows pending) idle (next_place (has_key Stages items)) (settle_fault (rules options stages) false (held rows pending)) (at (record (settled (rules options stages) (held rows pending)) { pending = Some ((rule_for k).id, []) }) (option (rule_for k).id) (next_place (has_key Stages items)))
          → Runs label options stages (Idle items) (at (held rows pending) idle (next_place (has_key Stages items))) (word ∷ words)
      idle_alone k form offered other t =
          passes label options stages (Idle items) (held rows pending) idle (next_place (has_key Stages items)) _ word words (record { faults = t.faults ∙ stands.clean; walks = t.walks })
          (subst (λ (s : State). Runs label options stages s (at (held (settled_rows (rules options stages) pending rows) (Some ((rule_for k).id, []))) (option (rule_for k).id) (next_place (has_key Stages items))) words) (sym (ap (from_idle stages word items) form))
          (subst₂ (λ (rs : List Row) (id : Text). Runs label options stages (Wants k items) (at (held rs (Some (id, []))) (option id) (next_place (has_key Stages items))) words) (sym stands.found) (sym (id_for k))
          (behind.when_wanting k items offered other)))

      -- a number of stages
      idle_placed : stages ≡ true → has_key Stages items ≡ false → form_of options word ≡ Plain
          → Takes label options stages word (held rows pending) idle (next_place (has_key Stages items)) (step_fault (leaf label options stages) (next_place (has_key Stages items)) (held rows pending) value)
          (after_step (rules options stages) word (at (held rows pending) idle (next_place (has_key Stages items))) (held rows pending) value)
          → Runs label options stages (Idle items) (at (held rows pending) idle (next_place (has_key Stages items))) (word ∷ words)
      idle_placed wanted free_place form t =
          passes label options stages (Idle items) (held rows pending) idle (next_place (has_key Stages items)) _ word words
          (record { faults = t.faults ∙ place_fault (held rows pending) (has_key Stages items) ∙ ap (λ (b : Bool). cond b (settle_fault (rules options stages) false (held rows pending)) (kind.UnknownArgument ∷ [])) may ∙ stands.clean; walks = t.walks ∙ walks })
          (subst (λ (s : State). Runs label options stages s (at (held (settled_rows (rules options stages) pending rows) (Some (name_of Stages, word ∷ []))) idle 2) words)
          (sym (ap (from_idle stages word items) form ∙ ap (λ (b : Bool). cond b (Idle (items ++ (Stages, word) ∷ [])) Failed) may))
          (subst (λ (taken : Bool). Runs label options stages (Idle (items ++ (Stages, word) ∷ [])) (at (held (settled_rows (rules options stages) pending rows) (Some (name_of Stages, word ∷ []))) idle (next_place taken)) words)
          (has_key-more Stages items (Stages, word) ∙ ap (λ (b : Bool). b || true) free_place)
          (behind.when_idle (settled_rows (rules options stages) pending rows) (Some (name_of Stages, word ∷ [])) (items ++ (Stages, word) ∷ [])
          (subst (λ (rs : List Row). Stands options stages rs (Some (name_of Stages, word ∷ [])) (items ++ (Stages, word) ∷ [])) (sym stands.found) (given options stages Stages word items wanted free_place)))))
        where
          may : (stages && not (has_key Stages items)) ≡ true
          may = ap₂ (λ (a b : Bool). a && not b) wanted free_place

          walks : after_step (rules options stages) word (at (held rows pending) idle (next_place (has_key Stages items))) (held rows pending) value ≡ at (held (settled_rows (rules options stages) pending rows) (Some (name_of Stages, word ∷ []))) idle 2
          walks =
              ap (λ (o : Option Rule). to_positional (rules options stages) o word (at (held rows pending) idle (next_place (has_key Stages items))) (held rows pending)) (by_index options stages (has_key Stages items) ∙ ap (λ (b : Bool). cond b (Some (rule_for Stages)) None) may)
              ∙ ap₂ (λ (several taken : Bool). at (pushed (codes "stages") word (cond several (held rows pending) (settled (rules options stages) (held rows pending)))) idle (next_position (rule_for Stages) (next_place taken))) (and-false (is_pending (rule_for Stages) pending)) free_place

      idle_turn : Turn label options stages word (held rows pending) idle (next_place (has_key Stages items)) → Runs label options stages (Idle items) (at (held rows pending) idle (next_place (has_key Stages items))) (word ∷ words)
      idle_turn (attached k text form offered other t) = idle_attached k text form other t
      idle_turn (alone k form offered other t) = idle_alone k form offered other t
      idle_turn (unknown form fault) = fails label options stages (Idle items) (at (held rows pending) idle (next_place (has_key Stages items))) word words (ap (from_idle stages word items) form) fault
      idle_turn (unflagged form t) = by_place (stages && not (has_key Stages items)) refl
        where
          by_place : (b : Bool) → (stages && not (has_key Stages items)) ≡ b → Runs label options stages (Idle items) (at (held rows pending) idle (next_place (has_key Stages items))) (word ∷ words)
          by_place true may = let parts = and_parts stages (has_key Stages items) may in idle_placed parts.0 parts.1 form t
          by_place false shut =
              fails label options stages (Idle items) (at (held rows pending) idle (next_place (has_key Stages items))) word words
              (ap (from_idle stages word items) form ∙ ap (λ (b : Bool). cond b (Idle (items ++ (Stages, word) ∷ [])) Failed) shut)
              (subst IsFault (sym (t.faults ∙ place_fault (held rows pending) (has_key Stages items) ∙ ap (λ (b : Bool). cond b (settle_fault (rules options stages) false (held rows pending)) (kind.UnknownArgument ∷ [])) shut)) tt)

    module _ (k : Key) (items : List Item) (offered : offers options stages k ≡ true) (other : same k Stages ≡ false) where
      -- the word is the value
      wanting_value : form_of options word ≡ Plain
          → Takes label options stages word (held (map row_for items) (Some (name_of k, []))) (option (name_of k)) (next_place (has_key Stages items)) []
          (at (option_word (arg_by_id (rules options stages) (name_of k)) (name_of k) word (held (map row_for items) (Some (name_of k, [])))).0 (option_word (arg_by_id (rules options stages) (name_of k)) (name_of k) word (held (map row_for items) (Some (name_of k, [])))).1 (next_place (has_key Stages items)))
          → Runs label options stages (Wants k items) (at (held (map row_for items) (Some (name_of k, []))) (option (name_of k)) (next_place (has_key Stages items))) (word ∷ words)
      wanting_value form t =
          passes label options stages (Wants k items) (held (map row_for items) (Some (name_of k, []))) (option (name_of k)) (next_place (has_key Stages items)) (at (held (map row_for items) (Some (name_of k, word ∷ []))) idle (next_place (has_key Stages items))) word words
          (record {
            faults = t.faults;
            walks = t.walks ∙ ap (λ (m : Held × Waiting). at m.0 m.1 (next_place (has_key Stages items)))
                (ap (λ (o : Option Rule). option_word o (name_of k) word (held (map row_for items) (Some (name_of k, [])))) (by_id options stages k offered) ∙ option_word_is k word (map row_for items));
          })
          (subst (λ (s : State). Runs label options stages s (at (held (map row_for items) (Some (name_of k, word ∷ []))) idle (next_place (has_key Stages items))) words) (sym (ap (from_wanting word k items) form)) (by_key (has_key k items) refl))
        where
          by_key : (b : Bool) → has_key k items ≡ b → Runs label options stages (added k word items) (at (held (map row_for items) (Some (name_of k, word ∷ []))) idle (next_place (has_key Stages items))) words
          by_key true has =
              let fault : IsFault (settle_fault (rules options stages) false (held (map row_for items) (Some (name_of k, word ∷ [])))) =
              subst IsFault (sym (settle_pending options stages k (word ∷ []) (map row_for items) offered ∙ use_items k word items ∙ ap repeated has)) tt in
              subst (λ (end : State). EndsAs end (fault_from label options stages (at (held (map row_for items) (Some (name_of k, word ∷ []))) idle (next_place (has_key Stages items))) words) (rows_from label options stages (at (held (map row_for items) (Some (name_of k, word ∷ []))) idle (next_place (has_key Stages items))) words))
              (sym (ap (λ (b : Bool). fold (step options stages) (cond b Failed (Idle (items ++ (k, word) ∷ []))) words) has ∙ stays_failed options stages words))
              (doomed words (map row_for items) (Some (name_of k, word ∷ [])) (has_key Stages items) free fault)
          by_key false has =
              subst (λ (s : State). Runs label options stages s (at (held (map row_for items) (Some (name_of k, word ∷ []))) idle (next_place (has_key Stages items))) words)
              (sym (ap (λ (b : Bool). cond b Failed (Idle (items ++ (k, word) ∷ []))) has))
              (one_more k word items (map row_for items) (Some (name_of k, word ∷ [])) other (given options stages k word items offered has))

      wanting_turn : Turn label options stages word (held (map row_for items) (Some (name_of k, []))) (option (name_of k)) (next_place (has_key Stages items))
          → Runs label options stages (Wants k items) (at (held (map row_for items) (Some (name_of k, []))) (option (name_of k)) (next_place (has_key Stages items))) (word ∷ words)
      wanting_turn (attached j text form known least t) = fails label options stages (Wants k items) _ word words (ap (from_wanting word k items) form) (subst IsFault (sym t.faults) (fault_first _ _ (wants_fault options stages k (map row_for items) offered)))
      wanting_turn (alone j form known least t) = fails label options stages (Wants k items) _ word words (ap (from_wanting word k items) form) (subst IsFault (sym t.faults) (wants_fault options stages k (map row_for items) offered))
      wanting_turn (unflagged form t) = wanting_value form t
      wanting_turn (unknown form fault) = fails label options stages (Wants k items) _ word words (ap (from_wanting word k items) form) fault

  follows : (words : List Text) → list_any is_reserved words ≡ false → Follows words
  unfolding walk_fault
  follows [] free =
      record {
        when_idle = λ rows pending items stands. (stands.clean, stands.found);
        when_wanting = λ k items offered other. wants_fault options stages k (map row_for items) offered;
      }
  follows (word ∷ words) free =
      let dashes = no_dashes word words free in
      let rest = (or_parts (is_reserved word) (list_any is_reserved words) free).1 in
      let behind = follows words rest in
      record {
        when_idle = λ rows pending items stands. idle_turn word words rest behind rows pending items stands (turn label options stages word dashes rows pending idle (next_place (has_key Stages items)));
        when_wanting = λ k items offered other. wanting_turn word words rest behind k items offered other (turn label options stages word dashes (map row_for items) (Some (name_of k, [])) (option (name_of k)) (next_place (has_key Stages items)));
      }

-- ---- the whole of a subcommand

no_defaults : (ks : List Key) (rows : List Row) → fold with_default rows (map rule_for ks) ≡ rows
no_defaults [] rows = refl
no_defaults (k ∷ ks) rows = ap (λ (rs : List Row). fold with_default rs (map rule_for ks)) (no_default k rows) ∙ no_defaults ks rows

no_default_fault : (k : Key) (rows : List Row) → default_fault rows (rule_for k) ≡ []
no_default_fault k rows = by_key k
  where
    go : (b : Bool) (faults : Kinds) → cond (b || true) [] faults ≡ []
    go true faults = refl
    go false faults = refl

    by_key : (k : Key) → default_fault rows (rule_for k) ≡ []
    by_key Workers = go (has_row (codes "workers") rows) _
    by_key Budget = go (has_row (codes "budget") rows) _
    by_key Stages = go (has_row (codes "stages") rows) _

no_defaults_fault : (ks : List Key) (rows : List Row) → defaults_fault rows (map rule_for ks) ≡ []
unfolding defaults_fault
no_defaults_fault [] rows = refl
no_defaults_fault (k ∷ ks) rows = ap₂ (λ (f : Kinds) (rs : List Row). or_else f (defaults_fault rs (map rule_for ks))) (no_default_fault k rows) (no_default k rows) ∙ no_defaults_fault ks rows

none_required : (ks : List Key) (rows : List Row) → list_any (λ (a : Rule). a.required && not (is_given a.id rows)) (map rule_for ks) ≡ false
none_required [] rows = refl
none_required (Workers ∷ ks) rows = none_required ks rows
none_required (Budget ∷ ks) rows = none_required ks rows
none_required (Stages ∷ ks) rows = none_required ks rows

-- what a subcommand makes of its words
pub leaf_ends : (label : Text) (options stages : Bool) (words : List Text) → list_any is_reserved words ≡ false
    → EndsAs (fold (step options stages) (Idle []) words) (level_fault (leaf label options stages) [] nothing_held words false []) (rows_after (rules options stages) [] words)
leaf_ends label options stages words free =
    subst₂ (EndsAs (fold (step options stages) (Idle []) words)) (sym faults) (sym (no_defaults (keys options stages) (rows_from label options stages (at (held [] None) idle 1) words)))
    ((follows label options stages words free).when_idle [] None [] (record { clean = refl; found = refl }))
  where
    faults : level_fault (leaf label options stages) [] nothing_held words false [] ≡ fault_from label options stages (at (held [] None) idle 1) words
    faults =
        ap₂ (λ (d c : Kinds). or_else (walk_fault (leaf label options stages) [] (at (held [] None) idle 1) words) (or_else (settle_fault (rules options stages) false (fold (walked (rules options stages) []) (at (held [] None) idle 1) words).held) (or_else d c)))
        (no_defaults_fault (keys options stages) (rows_from label options stages (at (held [] None) idle 1) words))
        (ap (check_kinds false false) (none_required (keys options stages) (finished (rules options stages) (fold (walked (rules options stages) []) (at (held [] None) idle 1) words).held)))
        ∙ ap (or_else (walk_fault (leaf label options stages) [] (at (held [] None) idle 1) words)) (or_nothing (settle_fault (rules options stages) false (fold (walked (rules options stages) []) (at (held [] None) idle 1) words).held))
