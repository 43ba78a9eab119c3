-- What the type of an expression comes to.
use Rattle.std.specs.Prelude.{Bool, true, false}
use Rattle.pt_datatypes.specs.Datatype.{Datatype, General}
use Rattle.pt_datatypes.specs.Order as order

-- a type (or the types of several parts), or a clash: some operand, wherever it stands, isn't what its operator takes
pub data Typing (A : Type 0) : Type 0 where
  Has : (type_of : A) → Typing A
  Clash : Typing A

-- goes on with the type, where there is no clash
abbrev pub and_then : {A B : Type 0} → Typing A → (A → Typing B) → Typing B
and_then (Has t) go = go t
and_then Clash go = Clash

-- the type where the test holds, else a clash
abbrev pub where_true : {A : Type 0} → Bool → A → Typing A
where_true true t = Has t
where_true false t = Clash

-- the type, which is general where there is a clash
abbrev pub or_general : Typing Datatype → Datatype
or_general (Has t) = t
or_general Clash = General

-- types by their order, and a clash above all of them
abbrev pub IsBelow : Typing Datatype → Typing Datatype → Type 0
IsBelow p Clash = Unit {0}
IsBelow Clash (Has t) = ⊥
IsBelow (Has s) (Has t) = order.IsBelow s t
