-- What a rule makes of types grows with them.
use Rattle.std.specs.Prelude.{List}
use Rattle.pt_datatypes.specs.Datatype.{Datatype}
use Rattle.pt_datatypes.specs.Order.{IsBelow}
use Rattle.pt_datatypes.specs.Rules.{AllBelow}
use Rattle.pt_typing.specs.declared.rule.Bound.{Bound}
use Rattle.pt_typing.specs.Grows.{under-grows}
use Rattle.pt_typing.specs.Numbers.{number_in}
use Rattle.pt_typing.specs.Views.{term_view, assigned, bound_meaning}

pub bound-grows : (b : Bound) (xs ys : List Datatype) → AllBelow xs ys → IsBelow (bound_meaning b xs) (bound_meaning b ys)
bound-grows b xs ys h = under-grows (term_view b.inequality.now.term) (assigned b.numbers.now xs) (assigned b.numbers.now ys) (λ v. h.each (number_in b.numbers.now v))
