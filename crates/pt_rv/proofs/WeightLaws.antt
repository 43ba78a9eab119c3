-- What the puts that wait weigh, as they are made and staged.
use Rattle.std.proofs.Common.{◌≡◌, ℕ, zero, suc, ◌+◌, ◌<◌, List, [], ◌∷◌, ◌++◌, length, get_or, Some, refl, ap, ◌∙◌, arith}
use Rattle.pt_meaning.specs.Streams.{at, change_at}
use Rattle.pt_meaning.specs.Meetings.{Target, Place, Outlet}
use Rattle.pt_meaning.specs.Net.{Source, Own, Output}
use Rattle.pt_meaning.specs.Process.{Put, rest_of}
use Rattle.pt_value.specs.declared.token.Token.{Token}
use Rattle.pt_rv_work.specs.Core.{Standing, Moving, nobody, puts_of_all, puts_at, sent_by, received_by, with_token, with_put_made}
use Rattle.pt_rv_plan.specs.Ends.{Arriving}
use Rattle.pt_rv_parts.proofs.ListLaws.{map-change, map-kept}
use Rattle.pt_rv.specs.Ends.{arrived_in, comings_of}
use Rattle.pt_rv.specs.Parties.{inputs_of, weight_of, weights_of, waiting}

pub weight-append : (f : Put Token → ℕ) (us vs : List (Put Token)) → weight_of f (us ++ vs) ≡ weight_of f us + weight_of f vs
weight-append f [] vs = plus (weight_of f vs)
  where
    plus : (n : ℕ) → n ≡ 0 + n
    plus n = omega arith
weight-append f (u ∷ us) vs = let r = weight-append f us vs in omega (arith, r)

pub weights-append : (f : Put Token → ℕ) (X Y : List (List (Put Token))) → weights_of f (X ++ Y) ≡ weights_of f X + weights_of f Y
weights-append f [] Y = plus (weights_of f Y)
  where
    plus : (n : ℕ) → n ≡ 0 + n
    plus n = omega arith
weights-append f (us ∷ X) Y = let r = weights-append f X Y in omega (arith, r)

-- the first put of one is made
weights-rest : (f : Put Token → ℕ) (puts : List (List (Put Token))) (i : ℕ) (u : Put Token) (us : List (Put Token)) → at puts i ≡ u ∷ us → weights_of f (change_at i rest_of puts) + f u ≡ weights_of f puts
weights-rest f [] i u us e = absurd (cc)
weights-rest f (vs ∷ puts) zero u us e =
    let a = ap (λ v. weight_of f (rest_of v)) e in
    let b = ap (λ v. weight_of f v) e in
    omega (arith, a, b)
weights-rest f (vs ∷ puts) (suc i) u us e = let r = weights-rest f puts i u us e in omega (arith, r)

-- one that had none has these
pub weights-new : (f : Put Token → ℕ) (puts : List (List (Put Token))) (i : ℕ) (us : List (Put Token)) → i < length puts → at puts i ≡ [] → weights_of f (change_at i (λ vs. us) puts) ≡ weights_of f puts + weight_of f us
weights-new f [] i us h e = absurd (omega (arith, h))
weights-new f (vs ∷ puts) zero us h e = let a = ap (λ v. weight_of f v) e in omega (arith, a)
weights-new f (vs ∷ puts) (suc i) us h e = let r = weights-new f puts i us (omega (arith, h)) e in omega (arith, r)

-- what was to come has come
pub weights-arrived : (f : Put Token → ℕ) (is : List Arriving) → weights_of f (arrived_in is) ≡ weights_of f (inputs_of is) + weights_of f (comings_of is)
weights-arrived f [] = refl
weights-arrived f (i ∷ is) = let r = weights-arrived f is in let a = weight-append f i.puts i.coming in omega (arith, r, a)

-- the puts of one process
pub puts-is : (ps : List (Standing Token)) (i : ℕ) → at (puts_of_all ps) i ≡ (get_or ps i nobody).puts
puts-is [] zero = refl
puts-is [] (suc i) = refl
puts-is (p ∷ ps) zero = refl
puts-is (p ∷ ps) (suc i) = puts-is ps i

pub puts-long : (ps : List (Standing Token)) → length (puts_of_all ps) ≡ length ps
puts-long [] = refl
puts-long (p ∷ ps) = ap (λ v. suc v) (puts-long ps)

-- who sends has made a put
pub waiting-sent : (f : Put Token → ℕ) (w : Moving Token) (s : Source) (u : Put Token) (us : List (Put Token)) → puts_at w (Some s) ≡ u ∷ us → waiting f (sent_by (Some s) w) + f u ≡ waiting f w
waiting-sent f w (Own j) u us e = let r = weights-rest f w.inputs j u us e in omega (arith, r)
waiting-sent f w (Output i port) u us e =
    let a = ap (λ v. weights_of f v) (map-change (λ (p : Standing Token). p.puts) with_put_made rest_of w.processes i (λ p. refl)) in
    let r = weights-rest f (puts_of_all w.processes) i u us (puts-is w.processes i ∙ e) in
    omega (arith, a, r)

-- who receives has the same to put
pub waiting-received : (f : Put Token → ℕ) (w : Moving Token) (t : Target) (x : Token) → waiting f (received_by x t w) ≡ waiting f w
waiting-received f w (Place i place) x = ap (λ v. weights_of f v + weights_of f w.inputs) (map-kept (λ (p : Standing Token). p.puts) (with_token place x) w.processes i (λ p. refl))
waiting-received f w (Outlet o) x = refl
