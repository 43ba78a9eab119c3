-- What is started from a parameter that has its form: an integer, one of a range, a truth value, and what two of them agree in.
use Rattle.std.proofs.Common.{◌≡◌, ℕ, ◌*◌, Bool, true, false, not, ◌&&◌, Option, Some, None, IsTrue, ℤ, pos, negsuc, ◌*ℤ◌, leb, ltb, refl, sym, ap, ◌∙◌, if◌then◌else◌}
use Rattle.std.specs.Prelude.{option_map, int_le, int_lt, nat_le, unsigned_abs}
use Rattle.std.proofs.lemmas.Bool.{and_parts, and_from, ltb-false, le-leb, false≢true}
use Rattle.std.proofs.lemmas.Option.{none-some, same_Some}
use Rattle.pt_value.specs.declared.token.Token.{Token}
use Rattle.pt_value.specs.declared.token.Token.TheVariants as token
use Rattle.pt_value.specs.Token.{value_of}
use Rattle.pt_firing.specs.Params.{as_int, only_within, as_bool}
use Rattle.pt_flow_base.specs.Rates.{phased, repeated_block}
use Rattle.pt_scopes.specs.declared.form.Form.{Form}
use Rattle.pt_scopes.specs.declared.form.Form.TheVariants as form
use Rattle.pt_scopes.specs.Forms.{is_between, fits}
use Rattle.pt_scopes.specs.Agreement.{integer_in}

-- there is one
abbrev pub IsThere : {X : Type 0} → Option X → Type 0
IsThere {X = X} o = (x : X) × (o ≡ Some x)

-- what is found, if anything is, has this form
abbrev pub Fits : Form → Option Token → Type 0
Fits f o = (t : Token) → o ≡ Some t → IsTrue (fits f (value_of t))

pub no-none : {X : Type 0} (o : Option X) → IsThere o → o ≡ None → ⊥
no-none o w none = none-some w.0 (sym none ∙ w.1)

pub mapped-there : {X Y : Type 0} (f : X → Y) (o : Option X) → IsThere o → option_map f o ≡ None → ⊥
mapped-there f o w none = none-some (f w.0) (sym none ∙ ap (option_map f) w.1)

-- ---- integers

flip : (b : Bool) → not b ≡ true → b ≡ false
flip true e = absurd (let h : false ≡ true = e in cc)
flip false e = refl

not-below : (m n : ℕ) → not (ltb m n) ≡ true → leb n m ≡ true
not-below m n e = le-leb n m (ltb-false m n (flip (ltb m n) e))

not-lt : (m n : ℤ) → not (int_lt m n) ≡ true → int_le n m ≡ true
not-lt (pos m) (pos n) e = not-below m n e
not-lt (pos m) (negsuc n) e = refl
not-lt (negsuc m) (pos n) e = absurd (let h : false ≡ true = e in cc)
not-lt (negsuc m) (negsuc n) e = not-below n m e

pub integer-there : (least most default : ℤ) (o : Option Token) → Fits (form.Integer least most) o → IsThere (as_int default o)
integer-there least most default None f = (default, refl)
integer-there least most default (Some (token.Int n)) f = (n, refl)
integer-there least most default (Some (token.Bool b)) f = absurd (let h : false ≡ true = f (token.Bool b) refl in cc)
integer-there least most default (Some (token.Text t)) f = absurd (let h : false ≡ true = f (token.Text t) refl in cc)
integer-there least most default (Some (token.Array ts)) f = absurd (let h : false ≡ true = f (token.Array ts) refl in cc)
integer-there least most default (Some (token.Record fs)) f = absurd (let h : false ≡ true = f (token.Record fs) refl in cc)

-- what is found is between the ends
between : (least most n : ℤ) → is_between least most n ≡ true → (int_le least n && int_le n most) ≡ true
between least most n e =
    let h = and_parts (not (int_lt n least)) (not (int_lt most n)) e in
    and_from (int_le least n) (int_le n most) (not-lt n least h.0) (not-lt most n h.1)

pub ranged-there : (least most default : ℤ) (o : Option Token) → (int_le least default && int_le default most) ≡ true → Fits (form.Integer least most) o → (n : ℤ) × (as_int default o ≡ Some n) × ((int_le least n && int_le n most) ≡ true)
ranged-there least most default None d f = (default, refl, d)
ranged-there least most default (Some (token.Int n)) d f = (n, refl, between least most n (f (token.Int n) refl))
ranged-there least most default (Some (token.Bool b)) d f = absurd (let h : false ≡ true = f (token.Bool b) refl in cc)
ranged-there least most default (Some (token.Text t)) d f = absurd (let h : false ≡ true = f (token.Text t) refl in cc)
ranged-there least most default (Some (token.Array ts)) d f = absurd (let h : false ≡ true = f (token.Array ts) refl in cc)
ranged-there least most default (Some (token.Record fs)) d f = absurd (let h : false ≡ true = f (token.Record fs) refl in cc)

pub within-there : (least most default : ℤ) (o : Option Token) → (int_le least default && int_le default most) ≡ true → Fits (form.Integer least most) o → (n : ℤ) × (as_int default o ≡ Some n) × (only_within least most (as_int default o) ≡ Some n)
within-there least most default o d f =
    let w = ranged-there least most default o d f in
    (w.0, w.1, ap (only_within least most) w.1 ∙ ap (λ b. if b then Some w.0 else None) w.2)

-- so is one that is found, whatever would stand for it
pub held-within : (least most default : ℤ) (o : Option Token) (t : Token) → o ≡ Some t → Fits (form.Integer least most) o → IsThere (only_within least most (as_int default o))
held-within least most default o (token.Int n) e f = (n, ap (λ x. only_within least most (as_int default x)) e ∙ ap (λ b. if b then Some n else None) (between least most n (f (token.Int n) e)))
held-within least most default o (token.Bool b) e f = absurd (false≢true (f (token.Bool b) e))
held-within least most default o (token.Text t) e f = absurd (false≢true (f (token.Text t) e))
held-within least most default o (token.Array ts) e f = absurd (false≢true (f (token.Array ts) e))
held-within least most default o (token.Record fs) e f = absurd (false≢true (f (token.Record fs) e))

-- an integer that is found, or stands for it, is what is compared
pub integer-same : (default : ℤ) (o : Option Token) (n : ℤ) → as_int default o ≡ Some n → integer_in (option_map value_of o) default ≡ n
integer-same default None n e = same_Some default n e
integer-same default (Some (token.Int m)) n e = same_Some m n e
integer-same default (Some (token.Bool b)) n e = absurd (none-some n e)
integer-same default (Some (token.Text t)) n e = absurd (none-some n e)
integer-same default (Some (token.Array ts)) n e = absurd (none-some n e)
integer-same default (Some (token.Record fs)) n e = absurd (none-some n e)

-- ---- truth values

pub truth-there : (default : Bool) (o : Option Token) → Fits form.Truth o → IsThere (as_bool default o)
truth-there default None f = (default, refl)
truth-there default (Some (token.Bool b)) f = (b, refl)
truth-there default (Some (token.Int n)) f = absurd (let h : false ≡ true = f (token.Int n) refl in cc)
truth-there default (Some (token.Text t)) f = absurd (let h : false ≡ true = f (token.Text t) refl in cc)
truth-there default (Some (token.Array ts)) f = absurd (let h : false ≡ true = f (token.Array ts) refl in cc)
truth-there default (Some (token.Record fs)) f = absurd (let h : false ≡ true = f (token.Record fs) refl in cc)

-- ---- what two agree in

-- a phase among those of a factor
pub phase-there : (factor phase : ℤ) → (not (int_lt phase (pos 0)) && int_lt phase factor) ≡ true → IsThere (phased (Some factor) (Some phase))
phase-there factor phase e =
    let h = and_parts (not (int_lt phase (pos 0))) (int_lt phase factor) e in
    ((unsigned_abs factor, unsigned_abs phase), ap (λ b. if b then Some (unsigned_abs factor, unsigned_abs phase) else None) (and_from (int_le (pos 0) phase) (int_lt phase factor) (not-lt phase (pos 0) h.0) h.1))

-- a block of few tokens
few : (m n : ℤ) → int_le (pos 1) m ≡ true → int_le (pos 1) n ≡ true → not (int_lt (pos 1000000) (m *ℤ n)) ≡ true → nat_le (unsigned_abs m * unsigned_abs n) 1000000 ≡ true
few (pos m) (pos n) a b e = not-lt (pos 1000000) (pos m *ℤ pos n) e
few (pos m) (negsuc n) a b e = absurd (let h : false ≡ true = b in cc)
few (negsuc m) n a b e = absurd (let h : false ≡ true = a in cc)

pub block-there : (times size : ℤ) → int_le (pos 1) times ≡ true → int_le (pos 1) size ≡ true → not (int_lt (pos 1000000) (times *ℤ size)) ≡ true → IsThere (repeated_block (Some times) (Some size))
block-there times size a b e = ((unsigned_abs times, unsigned_abs size), ap (λ c. if c then Some (unsigned_abs times, unsigned_abs size) else None) (few times size a b e))

-- the one is at most the other
pub at-most : (lesser greater : ℤ) → not (int_lt greater lesser) ≡ true → int_le lesser greater ≡ true
at-most lesser greater e = not-lt greater lesser e
