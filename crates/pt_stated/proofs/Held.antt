-- What a valued net has as the numbers of a composite of processes.
use Rattle.std.proofs.Common.{◌≡◌, ℕ, zero, suc, ◌<◌, List, [], ◌∷◌, map, Bool, true, false, ℤ, pos, refl, ap, subst, ◌∙◌, arith, bytes_eq, codes, if◌then◌else◌}
use Rattle.std.specs.Prelude.{Option, Some, None, IsTrue, option_map, slice_get}
use Rattle.std.specs.List.{AllZip}
use Rattle.std.proofs.lemmas.Option.{none-some, same_Some}
use Rattle.std.proofs.lemmas.Slice.Eq.{bytes_eq-Decides}
use Rattle.pt_value.specs.declared.token.Token.{Token}
use Rattle.pt_value.specs.declared.token.Token.TheVariants as token
use Rattle.pt_value.specs.Token.{value_of}
use Rattle.pt_value.specs.Value.{Value, Int, Bool as Truth, Words, Array, Record}
use Rattle.pt_language.specs.Scope.{Scope}
use Rattle.pt_document.specs.Document.{PropertyTree, property_name, PortTree}
use Rattle.pt_scopes.specs.declared.form.Form.{Form}
use Rattle.pt_scopes.specs.declared.form.Form.TheVariants as form
use Rattle.pt_scopes.specs.declared.tables.TheConstants.{RATE}
use Rattle.pt_scopes.specs.Forms.{forms, form_of, fits}
use Rattle.pt_scopes.specs.Given.{Held, Token as Valued, Read, Word, IsGiven}
use Rattle.pt_scopes.specs.Agreement.{named, given, value_in, integer_in, standard_of, standard_integer}
use Rattle.pt_scopes.specs.Scopes.{text_of}
use Rattle.pt_scopes.specs.Sites.{rate_of, director_form}
use Rattle.pt_scopes.specs.ClassParameters.{IsParameterOf}
use Rattle.pt_scopes.specs.Valued.{IsRateIn, IsRate}
use Rattle.pt_stated.specs.Numbers.{count_of, rate_in}
use Rattle.pt_stated.proofs.Counts.{is_number, count-least}

-- ---- what is given under a name

given-held : (R : PropertyTree → Held → Type 0) (ps : List PropertyTree) (hs : List Held) → AllZip R ps hs → (name : List ℕ) (h : Held) → given (named ps hs) name ≡ Some h → (p : PropertyTree) × (property_name p ≡ name) × R p h
given-held R [] [] each name h e = absurd (none-some h e)
given-held R [] (g ∷ gs) each name h e = absurd each
given-held R (p ∷ ps) [] each name h e = absurd each
given-held R (p ∷ ps) (g ∷ gs) each name h e = by_test (bytes_eq (property_name p) name) refl e (given-held R ps gs each.1 name h)
  where
    by_test : (b : Bool) → bytes_eq (property_name p) name ≡ b → (if b then Some g else given (named ps gs) name) ≡ Some h → (given (named ps gs) name ≡ Some h → (q : PropertyTree) × (property_name q ≡ name) × R q h) → (q : PropertyTree) × (property_name q ≡ name) × R q h
    by_test true is e rest = (p, (bytes_eq-Decides (property_name p) name).0 is, subst (λ x. R p x) (same_Some g h e) each.0)
    by_test false is e rest = rest e

-- ---- capacities

abbrev pub number : Form
number = form.Integer (pos 1) (pos 1000000)

-- a value of this form is a number
numbered : (is_port : List ℕ → Bool) (scope : Scope) (text : List ℕ) (other : ℤ) (h : Held) → IsGiven is_port scope number text h → is_number (integer_in (value_in (Some h)) other) ≡ true
numbered is_port scope text other (Valued v) g = by_value v g.1
  where
    by_value : (v : Value) → IsTrue (fits number v) → is_number (integer_in (Some v) other) ≡ true
    by_value (Int n) fit = fit
    by_value (Truth b) fit = absurd (let h : false ≡ true = fit in cc)
    by_value (Words s) fit = absurd (let h : false ≡ true = fit in cc)
    by_value (Array vs) fit = absurd (let h : false ≡ true = fit in cc)
    by_value (Record fs) fit = absurd (let h : false ≡ true = fit in cc)
numbered is_port scope text other (Read t) g = absurd g
numbered is_port scope text other Word g = absurd g

-- the integer of a parameter of this form is a number
pub integer-numbered : (is_port : List ℕ → Bool) (scope : Scope) (form_named : List ℕ → Form) (ps : List PropertyTree) (hs : List Held) → AllZip (IsParameterOf is_port scope form_named) ps hs → (name : List ℕ) (other : ℤ) → form_named name ≡ number → is_number other ≡ true → is_number (integer_in (value_in (given (named ps hs) name)) other) ≡ true
integer-numbered is_port scope form_named ps hs each name other is stands = by_given (given (named ps hs) name) refl
  where
    by_given : (o : Option Held) → given (named ps hs) name ≡ o → is_number (integer_in (value_in o) other) ≡ true
    by_given None e = stands
    by_given (Some h) e =
        let w = given-held (IsParameterOf is_port scope form_named) ps hs each name h e in
        numbered is_port scope (text_of w.0) other h (subst (λ f. IsGiven is_port scope f (text_of w.0) h) (ap form_named w.1 ∙ is) w.2)

initial-form : form_of (codes "PN") (codes "initialQueueCapacity") ≡ number
unfolding form_of forms
initial-form = refl

maximum-form : form_of (codes "PN") (codes "maximumQueueCapacity") ≡ number
unfolding form_of forms
maximum-form = refl

pub initial-formed : (parent : Option ℕ) → director_form parent (codes "PN") (codes "initialQueueCapacity") ≡ number
initial-formed None = initial-form
initial-formed (Some k) = initial-form

pub maximum-formed : (parent : Option ℕ) → director_form parent (codes "PN") (codes "maximumQueueCapacity") ≡ number
maximum-formed None = maximum-form
maximum-formed (Some k) = maximum-form

pub initial-standard : is_number (standard_integer (standard_of (codes "PN") (codes "initialQueueCapacity"))) ≡ true
unfolding standard_of forms
initial-standard = refl

pub maximum-standard : is_number (standard_integer (standard_of (codes "PN") (codes "maximumQueueCapacity"))) ≡ true
unfolding standard_of forms
maximum-standard = refl

-- ---- rates

pub rate-least : (ports : List PortTree) (rates : List (Option Token)) → AllZip IsRate ports (map (option_map value_of) rates) → (k : ℕ) → 0 < rate_in (slice_get rates k)
rate-least ports [] h k = let e : 0 < 1 = omega arith in e
rate-least [] (r ∷ rs) h k = absurd h
rate-least (p ∷ ps) (r ∷ rs) h zero = by_rate (rate_of p) r h.0
  where
    by_token : (t : Token) → IsTrue (fits RATE (value_of t)) → 0 < count_of t
    by_token (token.Int n) fit = count-least n fit
    by_token (token.Bool b) fit = absurd (let h : false ≡ true = fit in cc)
    by_token (token.Text s) fit = absurd (let h : false ≡ true = fit in cc)
    by_token (token.Array ts) fit = absurd (let h : false ≡ true = fit in cc)
    by_token (token.Record fs) fit = absurd (let h : false ≡ true = fit in cc)

    by_rate : (text : Option (List ℕ)) (r : Option Token) → IsRateIn text (option_map value_of r) → 0 < rate_in (Some r)
    by_rate text None h = let e : 0 < 1 = omega arith in e
    by_rate None (Some t) h = absurd h
    by_rate (Some text) (Some t) h = by_token t h.1
rate-least (p ∷ ps) (r ∷ rs) h (suc k) = rate-least ps rs h.1 k
