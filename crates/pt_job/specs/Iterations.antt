-- How long the top of a net runs: how many iterations, or until which time.
use Rattle.std.specs.Prelude.{ℕ, ℤ, pos, int_lt, nat_abs, List, Bool, Option, Some, None, slice_get, position, bytes_eq, codes, if◌then◌else◌}
use Rattle.pt_value.specs.declared.token.Token.{Token}
use Rattle.pt_value.specs.declared.token.Token.TheVariants as token
use Rattle.pt_document.specs.Document.{PropertyTree, property_name}
use Rattle.pt_net.specs.Net.{NetEntityTree, DirectorTree}
use Rattle.pt_scopes.specs.declared.parameter_value.ParameterValue.{ParameterValue}
use Rattle.pt_scopes.specs.declared.parameter_value.ParameterValue.TheVariants as parameter
use Rattle.pt_scopes.specs.declared.values.EntityValues.{EntityValues}
use Rattle.pt_scopes.specs.declared.values.Values.{Values}
use Rattle.pt_scopes.specs.Scopes.{NetTree}

-- an integer from nought on, as a number
abbrev pub count : ℤ → Option ℕ
count n = if int_lt n (pos 0) then None else Some (nat_abs n)

abbrev pub count_of : Token → Option ℕ
count_of (token.Int n) = count n
count_of (token.Bool b) = None
count_of (token.Text t) = None
count_of (token.Array ts) = None
count_of (token.Record fs) = None

abbrev pub count_in : Option ParameterValue → Option ℕ
count_in (Some (parameter.Token t)) = count_of t
count_in (Some (parameter.Tree e)) = None
count_in (Some parameter.Word) = None
count_in None = None

abbrev pub value_at : List ParameterValue → Option ℕ → Option ParameterValue
value_at vs None = None
value_at vs (Some k) = slice_get vs k

-- the property has this name
abbrev pub sets : List ℕ → PropertyTree → Bool
sets name p = bytes_eq (property_name p) name

-- what parameters have under a name
abbrev pub number_in : List ℕ → List PropertyTree → List ParameterValue → Option ℕ
number_in name ps vs = count_in (value_at vs (position (sets name) ps))

abbrev pub number_by : List ℕ → Option DirectorTree → List ParameterValue → Option ℕ
number_by name None vs = None
number_by name (Some d) vs = number_in name d.parameters vs

abbrev pub number_at : List ℕ → Option NetEntityTree → Option EntityValues → Option ℕ
number_at name None v = None
number_at name (Some e) None = None
number_at name (Some e) (Some v) = number_by name e.director v.director.items

-- the integer of the parameter of this name of the top's director
abbrev pub number_of : List ℕ → NetTree → Values → Option ℕ
number_of name net values = number_at name (slice_get net.entities 0) (slice_get values.entities.items 0)

-- how many iterations or ticks the top makes
abbrev pub iterations : NetTree → Values → Option ℕ
iterations net values = number_of (codes "iterations") net values

-- the last time at which the top fires, where one is stated
abbrev pub stop_time : NetTree → Values → Option ℕ
stop_time net values = number_of (codes "stopTime") net values
