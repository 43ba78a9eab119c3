-- MultiplyDivide: 1 times each present multiply input in order, then the truncated quotient by each present divide input. The multiply inputs stand before the divide inputs.
use Rattle.std.specs.Prelude.{ℕ, zero, suc, ℤ, pos, negsuc, ◌*ℤ◌, int_div, List, [], ◌∷◌, Result, Ok, Err, Option, Some, None, take, drop, if◌then◌else◌, ◌+◌, codes}
use Rattle.pt_meaning.specs.Basics.{Tag, Streams}
use Rattle.pt_meaning.specs.Machine.{Need}
use Rattle.pt_meaning.specs.Node.{Answer, Fails, is_none}
use Rattle.pt_value.specs.declared.token.Token.{Token}
use Rattle.pt_value.specs.declared.token.Token.TheVariants.{Int}
use Rattle.pt_firing.specs.RunFault.{code_of}
use Rattle.pt_firing.specs.declared.fault.RunFault.{RunFault}
use Rattle.pt_firing.specs.declared.fault.RunFault.TheVariants.{DivideByZero, Overflow}
use Rattle.pt_flow_numbers.specs.declared.multiply_divide.MultiplyDivide.{MultiplyDivide}
use Rattle.pt_flow_numbers.specs.declared.multiply_divide.Operation.{Operation}
use Rattle.pt_flow_numbers.specs.declared.multiply_divide.Operation.TheVariants.{Times, By}
use Rattle.pt_flow_base.specs.declared.params.Params.{Params}
use Rattle.pt_firing.specs.Params.{channels_to}
use Rattle.pt_flow_base.specs.Row.{one_each, rests, gives, present, fits_i64}

-- a partial result, which has to fit 64 bits
abbrev pub partial : ℤ → Result ℤ RunFault
partial n = if fits_i64 n then Ok n else Err Overflow

-- a partial result and one number
abbrev pub by : ℤ → ℤ → Result ℤ RunFault
by q (pos zero) = Err DivideByZero
by q (pos (suc n)) = partial (int_div q (pos (suc n)))
by q (negsuc n) = partial (int_div q (negsuc n))

abbrev pub of_two : Operation → ℤ → ℤ → Result ℤ RunFault
of_two Times q n = partial (q *ℤ n)
of_two By q n = by q n

-- a result and one number, if there is one: a fault stays
abbrev pub after : Operation → Result ℤ RunFault → Option ℤ → Result ℤ RunFault
after op (Err fault) number = Err fault
after op (Ok q) None = Ok q
after op (Ok q) (Some n) = of_two op q n

-- one number after another
unfoldable pub after_all : Operation → Result ℤ RunFault → List ℤ → Result ℤ RunFault
after_all op r [] = r
after_all op r (n ∷ ns) = after_all op (after op r (Some n)) ns

-- the product of the numbers on so many places, divided by each of the others
unfoldable pub quotient_of : ℕ → Streams Token → Result ℤ RunFault
quotient_of multiply X = after_all By (after_all Times (Ok (pos 1)) (present (take multiply X))) (present (drop multiply X))

-- the result, if any input is present
unfoldable pub ratio_of : ℕ → Streams Token → Option (Result ℤ RunFault)
ratio_of multiply X = if is_none (present X) then None else Some (quotient_of multiply X)

abbrev pub need : MultiplyDivide → Need
need actor = one_each actor.places

abbrev pub on_ratio : MultiplyDivide → Option (Result ℤ RunFault) → Answer Token MultiplyDivide
on_ratio actor None = rests actor
on_ratio actor (Some (Ok n)) = gives actor (Int n)
on_ratio actor (Some (Err fault)) = Fails (code_of fault)

abbrev pub step : Tag → MultiplyDivide → Streams Token → Answer Token MultiplyDivide
step tag actor X = on_ratio actor (ratio_of actor.multiply X)

abbrev pub start : Params → Option MultiplyDivide
start params =
    let multiply = channels_to (codes "multiply") params.ports in
    Some (record { multiply = multiply; places = multiply + channels_to (codes "divide") params.ports })
