-- What a word looks like to a command with or without options.
use Rattle.std.proofs.Common.{◌≡◌, ◌∙◌, ◌||◌, ◌+◌, ℕ, Bool, cond, true, false, true≢false, not, suc, refl, sym, ap, ap₂, subst, arith, [], ◌∷◌, ◌++◌, take, drop, Option, Some, None, codes, eqb-true, ne_eqb, one-add}
use Rattle.std.specs.Prelude.{◌==◌, option_and_then, slice_get}
use Rattle.std.specs.List.{after_first, before_first, prefix_len}
use Rattle.std.specs.Str.{bytes_eq, chars}
use Rattle.std.specs.Str.Parse.{AllDigits}
use Rattle.std.proofs.lemmas.Slice.Eq.{bytes_eq-Decides}
use Rattle.clap.specs.Lexer.{has_byte, long_of, long_of_rest, name_and_value, short_of, short_of_rest, strip_byte}
use Rattle.clap.specs.Walk.{Text}
use Rattle.pt_words.specs.Number.{IsNumber}
use Rattle.pt_words.proofs.Arguments.{Key, Workers, Budget, Stages, name_of, named, offers, same}

-- an option with its value, an option whose value is the next word, a word that is no flag, or a flag that the command hasn't
pub data Form : Type 0 where
  Attached : Key → Text → Form
  Alone : Key → Form
  Plain : Form
  Unknown : Form

abbrev pub option_form : Option Key → Option Text → Form
option_form None value = Unknown
option_form (Some k) (Some text) = Attached k text
option_form (Some k) None = Alone k

-- flags in one word; without a character they are none
abbrev pub flag_form : Option ℕ → Form
flag_form None = Plain
flag_form (Some x) = Unknown

abbrev pub dash_form : Option Text → Form
dash_form None = Plain
dash_form (Some flags) = flag_form (slice_get (chars flags) 0)

abbrev pub form_by : (options : Bool) → Option (Text × Option Text) → Option Text → Form
form_by options (Some p) dash = option_form (named options p.0) p.1
form_by options None dash = dash_form dash

abbrev pub form_of : (options : Bool) → Text → Form
form_of options word = form_by options (long_of word) (short_of word)

-- ---- the option of a name

pub record IsNamed (options stages : Bool) (name : Text) (k : Key) : Type 0 where
  pub is : name ≡ name_of k
  pub offered : offers options stages k ≡ true
  pub option : same k Stages ≡ false

pub is_named : (options stages : Bool) (name : Text) (k : Key) → named options name ≡ Some k → IsNamed options stages name k
is_named false stages name k e = absurd (cc)
is_named true stages name k e = go (bytes_eq (codes "workers") name) (bytes_eq (codes "budget") name) (λ t. sym ((bytes_eq-Decides (codes "workers") name).0 t)) (λ t. sym ((bytes_eq-Decides (codes "budget") name).0 t)) e
  where
    go : (a b : Bool) → (a ≡ true → name ≡ codes "workers") → (b ≡ true → name ≡ codes "budget") → cond a (Some Workers) (cond b (Some Budget) None) ≡ Some k → IsNamed true stages name k
    go true b w u e = let same_key : Workers ≡ k = cc in subst (λ (j : Key). IsNamed true stages name j) same_key (record { is = w refl; offered = refl; option = refl })
    go false true w u e = let same_key : Budget ≡ k = cc in subst (λ (j : Key). IsNamed true stages name j) same_key (record { is = u refl; offered = refl; option = refl })
    go false false w u e = absurd (cc)

-- ---- a long word gives its name and value back

stripped : (word rest : Text) → strip_byte 45 word ≡ Some rest → word ≡ 45 ∷ rest
stripped [] rest e = absurd (cc)
stripped (x ∷ xs) rest e = go (x == 45) refl e
  where
    go : (b : Bool) → (x == 45) ≡ b → cond b (Some xs) None ≡ Some rest → x ∷ xs ≡ 45 ∷ rest
    go true t e = let behind : xs ≡ rest = cc in ap₂ (λ (y : ℕ) (ys : Text). y ∷ ys) (eqb-true x 45 t) behind
    go false t e = absurd (cc)

long_rest : (word : Text) (p : Text × Option Text) → long_of word ≡ Some p → (rest : Text) × (word ≡ codes "--" ++ rest) × (name_and_value rest ≡ p)
long_rest word p e = once (strip_byte 45 word) refl e
  where
    twice : (xs : Text) → word ≡ 45 ∷ xs → (o : Option Text) → strip_byte 45 xs ≡ o → option_and_then long_of_rest o ≡ Some p → (rest : Text) × (word ≡ codes "--" ++ rest) × (name_and_value rest ≡ p)
    twice xs is None t e = absurd (cc)
    twice xs is (Some []) t e = absurd (cc)
    twice xs is (Some (y ∷ ys)) t e = let parts : name_and_value (y ∷ ys) ≡ p = cc in (y ∷ ys, is ∙ ap (λ (zs : Text). 45 ∷ zs) (stripped xs (y ∷ ys) t), parts)

    once : (o : Option Text) → strip_byte 45 word ≡ o → option_and_then long_of_rest (option_and_then (strip_byte 45) o) ≡ Some p → (rest : Text) × (word ≡ codes "--" ++ rest) × (name_and_value rest ≡ p)
    once None t e = absurd (cc)
    once (Some xs) t e = twice xs (stripped word xs t) (strip_byte 45 xs) refl e

abbrev is_equals : ℕ → Bool
is_equals x = x == 61

with_equals : (text : Text) → has_byte 61 text ≡ true → text ≡ before_first is_equals text ++ 61 ∷ after_first is_equals text
with_equals [] e = absurd (true≢false (sym e))
with_equals (x ∷ xs) e = go (x == 61) refl e (with_equals xs)
  where
    go : (b : Bool) → (x == 61) ≡ b → (b || has_byte 61 xs) ≡ true → (has_byte 61 xs ≡ true → xs ≡ before_first is_equals xs ++ 61 ∷ after_first is_equals xs)
        → x ∷ xs ≡ take (cond (not b) (1 + prefix_len (λ y. not (is_equals y)) xs) 0) (x ∷ xs) ++ 61 ∷ drop (cond (not b) (1 + prefix_len (λ y. not (is_equals y)) xs) 0 + 1) (x ∷ xs)
    go true t e behind = ap (λ (y : ℕ). y ∷ xs) (eqb-true x 61 t)
    go false t e behind =
        let n = prefix_len (λ y. not (is_equals y)) xs in
        let more : suc (n + 1) ≡ 1 + n + 1 = omega arith in
        ap (λ (ys : Text). x ∷ ys) (behind e) ∙ ap₂ (λ (i j : ℕ). take i (x ∷ xs) ++ 61 ∷ drop j (x ∷ xs)) (sym (one-add n)) more

without_equals : (text : Text) → has_byte 61 text ≡ false → text ≡ before_first is_equals text
without_equals [] e = refl
without_equals (x ∷ xs) e = go (x == 61) e (without_equals xs)
  where
    go : (b : Bool) → (b || has_byte 61 xs) ≡ false → (has_byte 61 xs ≡ false → xs ≡ before_first is_equals xs) → x ∷ xs ≡ take (cond (not b) (1 + prefix_len (λ y. not (is_equals y)) xs) 0) (x ∷ xs)
    go true e behind = absurd (true≢false e)
    go false e behind = ap (λ (ys : Text). x ∷ ys) (behind e) ∙ ap (λ (i : ℕ). take i (x ∷ xs)) (sym (one-add (prefix_len (λ y. not (is_equals y)) xs)))

parts_with : (rest name text : Text) → name_and_value rest ≡ (name, Some text) → rest ≡ name ++ 61 ∷ text
parts_with rest name text e = go (has_byte 61 rest) refl (ap (λ (p : Text × Option Text). p.0) e) (ap (λ (p : Text × Option Text). p.1) e)
  where
    go : (b : Bool) → has_byte 61 rest ≡ b → before_first is_equals rest ≡ name → cond b (Some (after_first is_equals rest)) None ≡ Some text → rest ≡ name ++ 61 ∷ text
    go true t before after = let behind : after_first is_equals rest ≡ text = cc in with_equals rest t ∙ ap₂ (λ (xs ys : Text). xs ++ 61 ∷ ys) before behind
    go false t before after = absurd (cc)

parts_alone : (rest name : Text) → name_and_value rest ≡ (name, None) → rest ≡ name
parts_alone rest name e = go (has_byte 61 rest) refl (ap (λ (p : Text × Option Text). p.0) e) (ap (λ (p : Text × Option Text). p.1) e)
  where
    go : (b : Bool) → has_byte 61 rest ≡ b → before_first is_equals rest ≡ name → cond b (Some (after_first is_equals rest)) None ≡ None → rest ≡ name
    go true t before after = absurd (cc)
    go false t before after = without_equals rest t ∙ before

long_with : (word name text : Text) → long_of word ≡ Some (name, Some text) → word ≡ codes "--" ++ (name ++ 61 ∷ text)
long_with word name text e = let (rest, is, parts) = long_rest word (name, Some text) e in is ∙ ap (λ (xs : Text). codes "--" ++ xs) (parts_with rest name text parts)

long_alone : (word name : Text) → long_of word ≡ Some (name, None) → word ≡ codes "--" ++ name
long_alone word name e = let (rest, is, parts) = long_rest word (name, None) e in is ∙ ap (λ (xs : Text). codes "--" ++ xs) (parts_alone rest name parts)

-- ---- the word of a form

abbrev pub Said : Text → Form → Type 0
Said word (Attached Workers text) = word ≡ codes "--workers=" ++ text
Said word (Attached Budget text) = word ≡ codes "--budget=" ++ text
Said word (Attached Stages text) = ⊥
Said word (Alone Workers) = word ≡ codes "--workers"
Said word (Alone Budget) = word ≡ codes "--budget"
Said word (Alone Stages) = ⊥
Said word Plain = Unit {0}
Said word Unknown = Unit {0}

pub said : (options : Bool) (word : Text) → Said word (form_of options word)
said options word = by_long (long_of word) refl
  where
    by_flag : (o : Option ℕ) → Said word (flag_form o)
    by_flag None = tt
    by_flag (Some x) = tt

    by_dash : (o : Option Text) → Said word (dash_form o)
    by_dash None = tt
    by_dash (Some flags) = by_flag (slice_get (chars flags) 0)

    by_name : (name : Text) (value : Option Text) (o : Option Key) → long_of word ≡ Some (name, value) → named options name ≡ o → Said word (option_form o value)
    by_name name value None e is = tt
    by_name name (Some text) (Some Workers) e is = long_with word name text e ∙ ap (λ (xs : Text). codes "--" ++ (xs ++ 61 ∷ text)) (is_named options false name Workers is).is
    by_name name (Some text) (Some Budget) e is = long_with word name text e ∙ ap (λ (xs : Text). codes "--" ++ (xs ++ 61 ∷ text)) (is_named options false name Budget is).is
    by_name name (Some text) (Some Stages) e is = true≢false (is_named options false name Stages is).option
    by_name name None (Some Workers) e is = long_alone word name e ∙ ap (λ (xs : Text). codes "--" ++ xs) (is_named options false name Workers is).is
    by_name name None (Some Budget) e is = long_alone word name e ∙ ap (λ (xs : Text). codes "--" ++ xs) (is_named options false name Budget is).is
    by_name name None (Some Stages) e is = true≢false (is_named options false name Stages is).option

    by_long : (o : Option (Text × Option Text)) → long_of word ≡ o → Said word (form_by options o (short_of word))
    by_long None e = by_dash (short_of word)
    by_long (Some p) e = by_name p.0 p.1 (named options p.0) e refl

-- ---- the form of a word

pub workers_attached : (text : Text) → form_of true (codes "--workers=" ++ text) ≡ Attached Workers text
workers_attached text = refl

pub budget_attached : (text : Text) → form_of true (codes "--budget=" ++ text) ≡ Attached Budget text
budget_attached text = refl

pub workers_alone : form_of true (codes "--workers") ≡ Alone Workers
workers_alone = refl

pub budget_alone : form_of true (codes "--budget") ≡ Alone Budget
budget_alone = refl

-- a number doesn't begin with a dash
pub number_plain : (options : Bool) (word : Text) (n : ℕ) → IsNumber word n → form_of options word ≡ Plain
number_plain options [] n h = refl
number_plain options (x ∷ xs) n h =
    let differ : (x == 45) ≡ false = ne_eqb x 45 (λ e. let digits : AllDigits 10 (45 ∷ xs) = subst (λ (y : ℕ). AllDigits 10 (y ∷ xs)) e h.digits.1 in omega (arith, digits.0)) in
    ap (λ (b : Bool). form_by options (option_and_then long_of_rest (option_and_then (strip_byte 45) (cond b (Some xs) None))) (option_and_then short_of_rest (cond b (Some xs) None))) differ
