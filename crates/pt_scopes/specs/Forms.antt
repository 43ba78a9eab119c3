-- The forms of parameters, as the table of the program lists them (by the profile).
use Rattle.std.specs.Prelude.{ℕ, ℤ, negsuc, zero, int_lt, List, [], ◌∷◌, map, Bool, true, false, not, ◌&&◌, if◌then◌else◌, bytes_eq, codes}
use Rattle.std.specs.Borrow.{Bor}
use Rattle.pt_value.specs.Value.{Value, Int, Bool as Truth, Array, list_of}
use Rattle.pt_scopes.specs.declared.form.Form.{Form}
use Rattle.pt_scopes.specs.declared.form.Form.TheVariants as form
use Rattle.pt_scopes.specs.declared.form.FormRow.{FormRow}
use Rattle.pt_scopes.specs.declared.tables.TheConstants.{FORMS}

-- what a parameter of a class is: its form, and what it has where it isn't given
abbrev pub ParameterForm : Type 0
ParameterForm = FormRow (List ℕ)

-- a row as the program holds it, behind references
abbrev Name : Type 0
Name = Bor (List ℕ)

abbrev pub row_of : FormRow Name → ParameterForm
row_of r = record { class = r.class.now; name = r.name.now; form = r.form; standard = r.standard }

-- the table
unfoldable pub forms : List ParameterForm
forms = map (λ r. record { class = r.class.now; name = r.name.now; form = r.form; standard = r.standard }) FORMS

abbrev pub form_in : List ParameterForm → List ℕ → List ℕ → Form
form_in [] class name = form.Any
form_in (r ∷ rs) class name = if bytes_eq r.class class && bytes_eq r.name name then r.form else form_in rs class name

-- the form of a parameter of this class
unfoldable pub form_of : List ℕ → List ℕ → Form
form_of class name = form_in forms class name

-- ---- which values have a form

abbrev pub is_between : ℤ → ℤ → ℤ → Bool
is_between least most n = not (int_lt n least) && not (int_lt most n)

-- integers, each greater than the one before, and the first than this
abbrev pub ascend_from : ℤ → List Value → Bool
ascend_from last [] = true
ascend_from last (Int n ∷ vs) = int_lt last n && ascend_from n vs
ascend_from last (v ∷ vs) = false

abbrev pub is_full : List Value → Bool
is_full [] = false
is_full (v ∷ vs) = true

-- a value of this form; a tree and a text that is taken as it is written are no values
abbrev pub fits : Form → Value → Bool
fits form.Any v = true
fits form.Truth (Truth b) = true
fits (form.Integer least most) (Int n) = is_between least most n
fits form.Array (Array vs) = true
fits form.FullArray (Array vs) = is_full (list_of vs)
fits form.Offsets (Array vs) = ascend_from (negsuc zero) (list_of vs)
fits _ v = false

-- ---- texts that are taken as they are written

abbrev pub comparisons : List (List ℕ)
comparisons = codes ">" ∷ codes "<" ∷ codes "<=" ∷ codes ">=" ∷ codes "==" ∷ []

abbrev pub functions : List (List ℕ)
functions = codes "and" ∷ codes "or" ∷ codes "xor" ∷ codes "nand" ∷ codes "nor" ∷ codes "xnor" ∷ []

abbrev pub gates : List (List ℕ)
gates = codes "and" ∷ codes "or" ∷ []
