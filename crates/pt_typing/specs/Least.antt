-- The least types of variables that meet inequalities (the book, "The Type System").
use Rattle.std.specs.Prelude.{◌≡◌, ℕ, List, All, map, false}
use Rattle.pt_datatypes.specs.Datatype.{Datatype}
use Rattle.pt_datatypes.specs.Normal.{IsType}
use Rattle.pt_datatypes.specs.Order.{IsBelow}
use Rattle.pt_datatypes.specs.Rules.{type_at}
use Rattle.pt_types.specs.Ty.{type_of}
use Rattle.pt_typing.specs.declared.variable.Variable.{Variable}
use Rattle.pt_typing.specs.declared.typing.Typing.{Typing}
use Rattle.pt_typing.specs.Terms.{meaning}
use Rattle.pt_typing.specs.Numbers.{is_there}
use Rattle.pt_typing.specs.Views.{Inequality, assigned}

-- a type for each variable that is there, and one that stands for those that aren't
pub record Assignment : Type 0 where
  pub types : Variable → Datatype
  pub elsewhere : Datatype

-- the term of an inequality is below its variable
abbrev pub IsMet : Assignment → Inequality → Type 0
IsMet a q = IsBelow (meaning a.types q.1) (a.types q.0)

-- types of the variables of entities that have so many ports, which meet all inequalities
pub record Meets (counts : List ℕ) (qs : List Inequality) (a : Assignment) : Type 0 where
  pub are_types : (v : Variable) → IsType (a.types v)
  pub is_type : IsType a.elsewhere
  pub outside : (v : Variable) → is_there counts v ≡ false → a.types v ≡ a.elsewhere
  pub met : All (IsMet a) qs

-- no variable has a greater type in the second
pub record IsUnder (a b : Assignment) : Type 0 where
  pub types : (v : Variable) → IsBelow (a.types v) (b.types v)
  pub elsewhere : IsBelow a.elsewhere b.elsewhere

-- of all types that meet the inequalities the least
pub record IsLeast (counts : List ℕ) (qs : List Inequality) (a : Assignment) : Type 0 where
  pub meets : Meets counts qs a
  pub least : (b : Assignment) → Meets counts qs b → IsUnder a b

-- ---- what the program holds

abbrev pub assignment : Typing → Assignment
assignment t = record { types = assigned t.numbers (map type_of t.types.items); elsewhere = type_at (map type_of t.types.items) t.numbers.all }
