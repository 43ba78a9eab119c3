-- One word in the walk of a command over its words.
use Rattle.std.proofs.Common.{◌≡◌, ◌∙◌, ℕ, Bool, cond, true, false, refl, sym, ap, ap₂, subst, List, [], ◌∷◌, length, drop, Option, Some, None, codes, encode_utf8, option_map}
use Rattle.std.specs.Prelude.{slice_get}
use Rattle.std.specs.Option.{option_map_or}
use Rattle.std.specs.Str.{bytes_eq, chars}
use Rattle.std.proofs.lemmas.Str.{chars-nil}
use Rattle.std.proofs.lemmas.Bool.{cond-true}
use Rattle.clap.specs.Lexer.{long_of, short_of}
use Rattle.clap.specs.Walk.{Held, Names, Outcome, Row, Rule, Step, Text, Waiting, Walk, after_flag, after_step, arg_by_long, arg_by_short, done, idle, long_met, long_or_other, next, option, option_met, plain, plain_word, reacted, refused, settled, short_or_plain, subcommand_met, subcommand_or_other, takes_values, trailing, walked}
use Rattle.clap.specs.Simple.{Shape}
use Rattle.clap.specs.Kinds.{Kinds, or_else}
use Rattle.clap.specs.Faults.{bundle_step_fault, flag_word_fault, flags_fault, long_fault, option_fault, other_fault, react_fault, settle_fault, short_fault, step_fault, turn_fault}
use Rattle.clap.specs.declared.error.kind.ErrorKind.TheVariants as kind
use Rattle.clap.proofs.FaultLemmas.{fault_ends}
use Rattle.clap.proofs.WalkLemmas.{bundle_ends}
use Rattle.pt_words.proofs.Arguments.{Key, Stages, same, rule_for, rules, leaf, offers, named, by_long, by_short, takes_one}
use Rattle.pt_words.proofs.Forms.{Attached, Alone, Plain, Unknown, option_form, flag_form, dash_form, form_by, form_of, is_named}

-- ---- kinds of faults

abbrev pub IsFault : Kinds → Type 0
IsFault [] = ⊥
IsFault (k ∷ kinds) = Unit {0}

pub fault_first : (a b : Kinds) → IsFault a → IsFault (or_else a b)
fault_first [] b h = absurd h
fault_first (k ∷ kinds) b h = tt

pub or_nothing : (a : Kinds) → or_else a [] ≡ a
or_nothing [] = refl
or_nothing (k ∷ kinds) = refl

pub or_next : (a b c : Kinds) → or_else (or_else a b) c ≡ or_else a (or_else b c)
or_next [] b c = refl
or_next (k ∷ kinds) b c = refl

-- ---- a turn by its two parts

-- what is held, without flags to pass over
abbrev pub held : List Row → Option (Text × List Text) → Held
held rows pending = record { rows = rows; pending = pending; skip = 0 }

-- the walk between two words
abbrev pub at : Held → Waiting → (place : ℕ) → Walk
at h waiting place = record { held = h; waiting = waiting; position = place; is_trailing = false; stopped = None }

module _ (s : Shape) (names : Names) (word : Text) (dashes : bytes_eq word (codes "--") ≡ false) (h : Held) (waiting : Waiting) (place : ℕ) (met : subcommand_met names waiting word ≡ None) where
  pub turn_is : (f : Kinds) (m : Held × Step) → flag_word_fault s.rules s.args_override_self (long_of word) word h ≡ f → long_or_other s.rules waiting word (long_of word) h ≡ m
      → turn_fault s names (at h waiting place) word ≡ or_else f (step_fault s place m.0 m.1)
  turn_is f m faults steps =
      ap (λ (o : Option Text). or_else (other_fault s o word h) (step_fault s place (subcommand_or_other s.rules o waiting place word h).0 (subcommand_or_other s.rules o waiting place word h).1)) met
      ∙ ap (λ (b : Bool). or_else (cond b [] (flag_word_fault s.rules s.args_override_self (long_of word) word h)) (step_fault s place (cond b (h, trailing place) (long_or_other s.rules waiting word (long_of word) h)).0 (cond b (h, trailing place) (long_or_other s.rules waiting word (long_of word) h)).1)) dashes
      ∙ ap₂ (λ (g : Kinds) (n : Held × Step). or_else g (step_fault s place n.0 n.1)) faults steps

  pub walked_is : (m : Held × Step) → long_or_other s.rules waiting word (long_of word) h ≡ m → walked s.rules names (at h waiting place) word ≡ after_step s.rules word (at h waiting place) m.0 m.1
  unfolding walked
  walked_is m steps =
      ap (λ (o : Option Text). after_step s.rules word (at h waiting place) (subcommand_or_other s.rules o waiting place word h).0 (subcommand_or_other s.rules o waiting place word h).1) met
      ∙ ap (λ (b : Bool). after_step s.rules word (at h waiting place) (cond b (h, trailing place) (long_or_other s.rules waiting word (long_of word) h)).0 (cond b (h, trailing place) (long_or_other s.rules waiting word (long_of word) h)).1) dashes
      ∙ ap (λ (n : Held × Step). after_step s.rules word (at h waiting place) n.0 n.1) steps

-- ---- flags that no command has

-- a character of flags that the command hasn't
pub flags_unknown : (c : List Rule) (again : Bool) (flags : Text) (x : ℕ) (h : Held) → slice_get (chars flags) 0 ≡ Some x → arg_by_short c x ≡ None → flags_fault c again (length flags) flags 0 h ≡ kind.UnknownArgument ∷ []
unfolding flags_fault
flags_unknown c again [] x h first none = let bad : None ≡ Some x = sym (ap (λ (cs : List ℕ). slice_get cs 0) chars-nil) ∙ first in absurd (cc)
flags_unknown c again (y ∷ ys) x h first none =
    let rest = drop (length (encode_utf8 x)) (y ∷ ys) in
    ap (λ (o : Option ℕ). bundle_step_fault c again o (y ∷ ys) 0 h (flags_fault c again (length ys))) first
    ∙ ap (λ (o : Option Rule). short_fault c again o rest h (flags_fault c again (length ys) rest 0)) none

-- ---- a turn at a subcommand, by the form of the word

none_met : (waiting : Waiting) (word : Text) → subcommand_met [] waiting word ≡ None
none_met idle word = refl
none_met _ word = refl

module _ (label : Text) (options stages : Bool) (word : Text) (h : Held) (waiting : Waiting) (place : ℕ) where
  -- the fault of the word, and the walk after it
  pub record Takes (fault : Kinds) (after : Walk) : Type 0 where
    pub faults : turn_fault (leaf label options stages) [] (at h waiting place) word ≡ fault
    pub walks : walked (rules options stages) [] (at h waiting place) word ≡ after

  pub data Turn : Type 0 where
    attached : (k : Key) (text : Text) → form_of options word ≡ Attached k text → offers options stages k ≡ true → same k Stages ≡ false
        → Takes (react_fault (rules options stages) false (rule_for k) (text ∷ []) h) (at (reacted (rules options stages) (rule_for k) (text ∷ []) h) idle place) → Turn
    alone : (k : Key) → form_of options word ≡ Alone k → offers options stages k ≡ true → same k Stages ≡ false
        → Takes (settle_fault (rules options stages) false h) (at (record (settled (rules options stages) h) { pending = Some ((rule_for k).id, []) }) (option (rule_for k).id) place) → Turn
    unflagged : form_of options word ≡ Plain
        → Takes (step_fault (leaf label options stages) place (plain_word (rules options stages) waiting word h).0 (plain_word (rules options stages) waiting word h).1)
        (after_step (rules options stages) word (at h waiting place) (plain_word (rules options stages) waiting word h).0 (plain_word (rules options stages) waiting word h).1) → Turn
    unknown : form_of options word ≡ Unknown → IsFault (turn_fault (leaf label options stages) [] (at h waiting place) word) → Turn

module _ (label : Text) (options stages : Bool) (word : Text) (dashes : bytes_eq word (codes "--") ≡ false) (rows : List Row) (pending : Option (Text × List Text)) (waiting : Waiting) (place : ℕ) where
  takes : (f : Kinds) (m : Held × Step) → flag_word_fault (rules options stages) false (long_of word) word (held rows pending) ≡ f → long_or_other (rules options stages) waiting word (long_of word) (held rows pending) ≡ m
      → Takes label options stages word (held rows pending) waiting place (or_else f (step_fault (leaf label options stages) place m.0 m.1)) (after_step (rules options stages) word (at (held rows pending) waiting place) m.0 m.1)
  takes f m faults steps =
      record {
        faults = turn_is (leaf label options stages) [] word dashes (held rows pending) waiting place (none_met waiting word) f m faults steps;
        walks = walked_is (leaf label options stages) [] word dashes (held rows pending) waiting place (none_met waiting word) m steps;
      }

  refuses : flag_word_fault (rules options stages) false (long_of word) word (held rows pending) ≡ kind.UnknownArgument ∷ [] → IsFault (turn_fault (leaf label options stages) [] (at (held rows pending) waiting place) word)
  refuses faults = subst IsFault (sym (takes _ _ faults refl).faults) tt

  -- without a fault of its own, a step has that of the word
  alone_fault : (f : Kinds) (h : Held) (w : Waiting) → Takes label options stages word (held rows pending) waiting place (or_else f []) (at h w place) → Takes label options stages word (held rows pending) waiting place f (at h w place)
  alone_fault f h w t = record { faults = t.faults ∙ or_nothing f; walks = t.walks }

  by_value : (name : Text) (k : Key) (text : Option Text) → long_of word ≡ Some (name, text) → named options name ≡ Some k → Turn label options stages word (held rows pending) waiting place
  by_value name k (Some text) long is =
      let c = rules options stages in
      let h = held rows pending in
      let found : arg_by_long c name ≡ Some (rule_for k) = by_long options stages name ∙ ap (option_map rule_for) is in
      let faults : flag_word_fault c false (long_of word) word h ≡ react_fault c false (rule_for k) (text ∷ []) h =
      ap (λ (o : Option (Text × Option Text)). flag_word_fault c false o word h) long ∙ ap (λ (o : Option Rule). long_fault c false o (Some text) h) found
      ∙ cond-true (takes_values (rule_for k)) (option_fault c false (rule_for k) (Some text) h) (kind.TooManyValues ∷ []) (takes_one k) in
      let steps : long_or_other c waiting word (long_of word) h ≡ (reacted c (rule_for k) (text ∷ []) h, next idle) =
      ap (λ (o : Option (Text × Option Text)). long_or_other c waiting word o h) long ∙ ap (λ (o : Option Rule). after_flag c waiting word (long_met c o (Some text) h).0 (long_met c o (Some text) h).1) found
      ∙ ap (λ (m : Held × Outcome). after_flag c waiting word m.0 m.1) (cond-true (takes_values (rule_for k)) (option_met c (rule_for k) (Some text) h) (h, refused) (takes_one k)) in
      let n = is_named options stages name k is in
      attached k text (ap (λ (o : Option (Text × Option Text)). form_by options o (short_of word)) long ∙ ap (λ (o : Option Key). option_form o (Some text)) is) n.offered n.option
      (alone_fault _ _ _ (takes _ _ faults steps))
  by_value name k None long is =
      let c = rules options stages in
      let h = held rows pending in
      let found : arg_by_long c name ≡ Some (rule_for k) = by_long options stages name ∙ ap (option_map rule_for) is in
      let faults : flag_word_fault c false (long_of word) word h ≡ settle_fault c false h =
      ap (λ (o : Option (Text × Option Text)). flag_word_fault c false o word h) long ∙ ap (λ (o : Option Rule). long_fault c false o None h) found
      ∙ cond-true (takes_values (rule_for k)) (option_fault c false (rule_for k) None h) (react_fault c false (rule_for k) [] h) (takes_one k) in
      let steps : long_or_other c waiting word (long_of word) h ≡ (record (settled c h) { pending = Some ((rule_for k).id, []) }, next (option (rule_for k).id)) =
      ap (λ (o : Option (Text × Option Text)). long_or_other c waiting word o h) long ∙ ap (λ (o : Option Rule). after_flag c waiting word (long_met c o None h).0 (long_met c o None h).1) found
      ∙ ap (λ (m : Held × Outcome). after_flag c waiting word m.0 m.1) (cond-true (takes_values (rule_for k)) (option_met c (rule_for k) None h) (reacted c (rule_for k) [] h, done) (takes_one k)) in
      let n = is_named options stages name k is in
      alone k (ap (λ (o : Option (Text × Option Text)). form_by options o (short_of word)) long ∙ ap (λ (o : Option Key). option_form o None) is) n.offered n.option
      (alone_fault _ _ _ (takes _ _ faults steps))

  by_name : (name : Text) (text : Option Text) (o : Option Key) → long_of word ≡ Some (name, text) → named options name ≡ o → Turn label options stages word (held rows pending) waiting place
  by_name name text (Some k) long is = by_value name k text long is
  by_name name text None long is =
      let c = rules options stages in
      let h = held rows pending in
      let found : arg_by_long c name ≡ None = by_long options stages name ∙ ap (option_map rule_for) is in
      unknown (ap (λ (o : Option (Text × Option Text)). form_by options o (short_of word)) long ∙ ap (λ (o : Option Key). option_form o text) is)
      (refuses (ap (λ (o : Option (Text × Option Text)). flag_word_fault c false o word h) long ∙ ap (λ (o : Option Rule). long_fault c false o text h) found))

  by_first : (flags : Text) (first : Option ℕ) → long_of word ≡ None → short_of word ≡ Some flags → slice_get (chars flags) 0 ≡ first → Turn label options stages word (held rows pending) waiting place
  by_first flags (Some x) long short is =
      let c = rules options stages in
      let h = held rows pending in
      unknown (ap (λ (o : Option (Text × Option Text)). form_by options o (short_of word)) long ∙ ap dash_form short ∙ ap flag_form is)
      (refuses (ap (λ (o : Option (Text × Option Text)). flag_word_fault c false o word h) long
      ∙ ap (λ (o : Option Text). option_map_or (λ (flags : Text). flags_fault c false (length flags) flags 0 h) o []) short ∙ flags_unknown c false flags x h is (by_short options stages x)))
  by_first flags None long short is =
      let c = rules options stages in
      let h = held rows pending in
      unflagged (ap (λ (o : Option (Text × Option Text)). form_by options o (short_of word)) long ∙ ap dash_form short ∙ ap flag_form is)
      (takes [] (plain_word c waiting word h)
      (ap (λ (o : Option (Text × Option Text)). flag_word_fault c false o word h) long
      ∙ ap (λ (o : Option Text). option_map_or (λ (flags : Text). flags_fault c false (length flags) flags 0 h) o []) short ∙ sym (fault_ends c false (length flags) flags 0 h (sym is)))
      (ap (λ (o : Option (Text × Option Text)). long_or_other c waiting word o h) long ∙ ap (λ (o : Option Text). short_or_plain c waiting word o h) short
      ∙ ap (λ (m : Held × Outcome). after_flag c waiting word m.0 m.1) (sym (bundle_ends c (length flags) flags 0 plain h (sym is)))))

  by_dash : (dash : Option Text) → long_of word ≡ None → short_of word ≡ dash → Turn label options stages word (held rows pending) waiting place
  by_dash (Some flags) long short = by_first flags (slice_get (chars flags) 0) long short refl
  by_dash None long short =
      let c = rules options stages in
      let h = held rows pending in
      unflagged (ap (λ (o : Option (Text × Option Text)). form_by options o (short_of word)) long ∙ ap dash_form short)
      (takes [] (plain_word c waiting word h)
      (ap (λ (o : Option (Text × Option Text)). flag_word_fault c false o word h) long ∙ ap (λ (o : Option Text). option_map_or (λ (flags : Text). flags_fault c false (length flags) flags 0 h) o []) short)
      (ap (λ (o : Option (Text × Option Text)). long_or_other c waiting word o h) long ∙ ap (λ (o : Option Text). short_or_plain c waiting word o h) short))

  by_form : (o : Option (Text × Option Text)) → long_of word ≡ o → Turn label options stages word (held rows pending) waiting place
  by_form (Some p) long = by_name p.0 p.1 (named options p.0) long refl
  by_form None long = by_dash (short_of word) long refl

  pub turn : Turn label options stages word (held rows pending) waiting place
  turn = by_form (long_of word) refl
