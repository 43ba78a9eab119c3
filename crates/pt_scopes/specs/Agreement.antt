-- Where parameters of one entity have to agree with one another (by the profile).
use Rattle.std.specs.Prelude.{ℕ, ℤ, pos, ◌*ℤ◌, int_lt, List, [], ◌∷◌, length, map, Option, Some, None, unwrap_or, Bool, true, false, not, ◌&&◌, nat_eq, if◌then◌else◌, bytes_eq, codes}
use Rattle.std.specs.List.{list_all, zip}
use Rattle.pt_document.specs.Document.{PropertyTree, property_name}
use Rattle.pt_value.specs.Value.{Value, Int, Array, list_of}
use Rattle.pt_scopes.specs.declared.form.Standard.{Standard}
use Rattle.pt_scopes.specs.declared.form.Standard.TheVariants as standard
use Rattle.pt_scopes.specs.Forms.{ParameterForm, forms}
use Rattle.pt_scopes.specs.Given.{Held, Token}

-- parameters with their names
abbrev pub Parameters : Type 0
Parameters = List (List ℕ × Held)

abbrev pub named : List PropertyTree → List Held → Parameters
named ps hs = zip (map property_name ps) hs

abbrev pub standard_in : List ParameterForm → List ℕ → List ℕ → Standard
standard_in [] class name = standard.Nothing
standard_in (r ∷ rs) class name = if bytes_eq r.class class && bytes_eq r.name name then r.standard else standard_in rs class name

-- what a parameter of this class has where it isn't given
unfoldable pub standard_of : List ℕ → List ℕ → Standard
standard_of class name = standard_in forms class name

abbrev pub standard_integer : Standard → ℤ
standard_integer (standard.Integer n) = n
standard_integer s = pos 0

abbrev pub standard_elements : Standard → List Value
standard_elements (standard.Single n) = Int n ∷ []
standard_elements s = []

-- what is given under a name
abbrev pub given : Parameters → List ℕ → Option Held
given [] name = None
given (p ∷ ps) name = if bytes_eq p.0 name then Some p.1 else given ps name

-- the value of a parameter that is given one
abbrev pub value_in : Option Held → Option Value
value_in (Some (Token v)) = Some v
value_in h = None

-- an integer that is given, or else the one that stands for it
abbrev pub integer_in : Option Value → ℤ → ℤ
integer_in (Some (Int n)) other = n
integer_in v other = other

-- the integer that a parameter of an entity of this class has
abbrev pub integer_of : List ℕ → Parameters → List ℕ → ℤ
integer_of class ps name = integer_in (value_in (given ps name)) (standard_integer (standard_of class name))

-- the elements of an array
abbrev pub elements : Value → Option (List Value)
elements (Array vs) = Some (list_of vs)
elements v = None

abbrev pub given_elements : Option Value → Option (List Value)
given_elements (Some v) = elements v
given_elements None = None

-- the elements of an array that is given, or else those that stand for it
abbrev pub elements_in : Option Value → List Value → List Value
elements_in v other = unwrap_or (given_elements v) other

abbrev pub elements_of : List ℕ → Parameters → List ℕ → List Value
elements_of class ps name = elements_in (value_in (given ps name)) (standard_elements (standard_of class name))

-- an integer less than this
abbrev pub is_integer_below : ℤ → Value → Bool
is_integer_below bound (Int n) = int_lt n bound
is_integer_below bound v = false

-- the phase is a number of a token among those of the factor
abbrev pub has_phase : List ℕ → Parameters → Bool
has_phase class ps = not (int_lt (integer_of class ps (codes "phase")) (pos 0)) && int_lt (integer_of class ps (codes "phase")) (integer_of class ps (codes "factor"))

-- at most 1,000,000 tokens are given in one firing
abbrev pub has_few_tokens : List ℕ → Parameters → Bool
has_few_tokens class ps = not (int_lt (pos 1000000) (integer_of class ps (codes "numberOfTimes") *ℤ integer_of class ps (codes "blockSize")))

-- the one is at most the other
abbrev pub is_at_most : List ℕ → Parameters → List ℕ → List ℕ → Bool
is_at_most class ps lesser greater = not (int_lt (integer_of class ps greater) (integer_of class ps lesser))

-- each offset is within the period, and there are as many values
abbrev pub has_events : List ℕ → Parameters → Bool
has_events class ps =
    list_all (is_integer_below (integer_of class ps (codes "period"))) (elements_of class ps (codes "offsets")) && nat_eq (length (elements_of class ps (codes "offsets"))) (length (elements_of class ps (codes "values")))

-- the parameters of an entity or a director of this class agree
abbrev pub agree : List ℕ → Parameters → Bool
agree class ps =
    if bytes_eq class (codes "DownSample") then has_phase class ps
    else (if bytes_eq class (codes "UpSample") then has_phase class ps
    else (if bytes_eq class (codes "Repeat") then has_few_tokens class ps
    else (if bytes_eq class (codes "Limiter") then is_at_most class ps (codes "bottom") (codes "top")
    else (if bytes_eq class (codes "DiscreteClock") then has_events class ps
    else (if bytes_eq class (codes "PN") then is_at_most class ps (codes "initialQueueCapacity") (codes "maximumQueueCapacity")
    else true)))))
