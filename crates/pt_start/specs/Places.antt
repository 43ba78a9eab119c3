-- Which entities of a net stand where they may not.
use Rattle.std.specs.Prelude.{◌≡◌, ℕ, pos, int_lt, List, [], ◌∷◌, Bool, true, false, not, ◌&&◌, ◌||◌, Option, Some, None, option_map, slice_get, bytes_eq, codes, if◌then◌else◌}
use Rattle.std.specs.List.{Contains}
use Rattle.pt_value.specs.declared.token.Token.{Token}
use Rattle.pt_value.specs.declared.token.Token.TheVariants as token
use Rattle.pt_document.specs.declared.classes.Director.{Director}
use Rattle.pt_document.specs.declared.classes.Director.TheVariants.{Sdf, Pn, Rendezvous, Sr, De}
use Rattle.pt_document.specs.Classes.{Class, DirectorClass, class_row, director_row}
use Rattle.pt_net.specs.Net.{NetEntityTree, DirectorTree}
use Rattle.pt_document.specs.Document.{PropertyTree, property_name}
use Rattle.pt_scopes.specs.declared.parameter_value.ParameterValue.{ParameterValue}
use Rattle.pt_scopes.specs.Scopes.{NetTree}
use Rattle.pt_start.specs.Frames.{token_in}

-- ---- directors

abbrev pub director_in : Option DirectorTree → Option Director
director_in None = None
director_in (Some d) = option_map (λ (r : DirectorClass). r.director) (director_row d.class)

-- the director of an entity
abbrev pub director_of : NetEntityTree → Option Director
director_of e = director_in e.director

abbrev pub director_at : Option NetEntityTree → Option Director
director_at None = None
director_at (Some e) = director_of e

abbrev pub director_over : NetTree → Option ℕ → Option Director
director_over net None = None
director_over net (Some k) = director_at (slice_get net.entities k)

-- a director other than DE; a Modal entity has none
abbrev pub is_untimed : Option Director → Bool
is_untimed (Some De) = false
is_untimed (Some Sdf) = true
is_untimed (Some Sr) = true
is_untimed (Some Pn) = true
is_untimed (Some Rendezvous) = true
is_untimed None = false

-- ---- places

-- a library actor, under a director under which its class may not stand
pub record IsBarred (net : NetTree) (e : NetEntityTree) : Type 0 where
  pub class : Class
  pub class_is : class_row e.class ≡ Some class
  pub director : Director
  pub over : director_over net e.parent ≡ Some director
  pub barred : Contains class.directors director → ⊥

-- ---- DE composites

-- one of the opaque composites round something, of which this one is the innermost, has a director other than DE
pub data HasUntimedAbove (net : NetTree) : Option ℕ → Type 0 where
  here : (k : ℕ) (e : NetEntityTree) → slice_get net.entities k ≡ Some e → is_untimed (director_of e) ≡ true → HasUntimedAbove net (Some k)
  further : (k : ℕ) (e : NetEntityTree) → slice_get net.entities k ≡ Some e → HasUntimedAbove net e.parent → HasUntimedAbove net (Some k)

-- ---- sources with a limit

-- the token of the first parameter of a name
abbrev pub token_named : List PropertyTree → List ParameterValue → List ℕ → Option Token
token_named [] vs name = None
token_named (p ∷ ps) [] name = None
token_named (p ∷ ps) (v ∷ vs) name = if bytes_eq (property_name p) name then token_in (Some v) else token_named ps vs name

abbrev pub is_positive : Option Token → Bool
is_positive (Some (token.Int n)) = int_lt (pos 0) n
is_positive (Some (token.Bool b)) = false
is_positive (Some (token.Text t)) = false
is_positive (Some (token.Array ts)) = false
is_positive (Some (token.Record fs)) = false
is_positive None = false

abbrev pub is_truth : Option Token → Bool
is_truth (Some (token.Bool b)) = b
is_truth (Some (token.Int n)) = false
is_truth (Some (token.Text t)) = false
is_truth (Some (token.Array ts)) = false
is_truth (Some (token.Record fs)) = false
is_truth None = false

-- a source fires only so often: it has a positive limit, or is a Sequence that doesn't begin again
abbrev pub limited_by : Option Token → Bool → Option Token → Bool
limited_by limit is_sequence repeat = is_positive limit || (is_sequence && not (is_truth repeat))

-- an actor of this class with these parameters is a source that fires only so often
abbrev pub is_limited : List ℕ → List PropertyTree → List ParameterValue → Bool
is_limited class ps vs = limited_by (token_named ps vs (codes "firingCountLimit")) (bytes_eq class (codes "Sequence")) (token_named ps vs (codes "repeat"))
