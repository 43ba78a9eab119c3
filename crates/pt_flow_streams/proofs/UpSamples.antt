-- A number among zeros, as a firing gives it.
use Rattle.std.proofs.Common.{◌≡◌, ℕ, ℤ, pos, zero, suc, ◌+◌, List, ◌∷◌, [], ◌++◌, length, map, replicate, Bool, true, false, not, Option, Some, None, is_some, IfSome, refl, sym, ap, subst, ◌∙◌, arith}
use Rattle.std.proofs.lemmas.List.{length-append, length-replicate}
use Rattle.pt_meaning.specs.Basics.{Tag, Streams}
use Rattle.pt_meaning.specs.Node.{Gives}
use Rattle.pt_value.specs.declared.token.Token.{Token}
use Rattle.pt_value.specs.declared.token.Token.TheVariants.{Int}
use Rattle.pt_flow_base.specs.Row.{number_at, on_present}
use Rattle.pt_flow_base.specs.Number.{GivesNumbers}
use Rattle.pt_flow_base.proofs.Zeros.{among-are}
use Rattle.pt_flow_streams.specs.declared.up_sample.UpSample.{UpSample}
use Rattle.pt_flow_streams.specs.UpSample.{among_zeros, number_among, step}

pub among-long : (before after : ℕ) (n : ℤ) → length (number_among before n after) ≡ before + 1 + after
among-long before after n = omega (arith, length-append (replicate before (pos 0)) (n ∷ replicate after (pos 0)), length-replicate before (pos 0), length-replicate after (pos 0))

pub gives-among : (a : UpSample) (X : Streams Token) (n : ℤ) → number_at X 0 ≡ Some n → (tag : Tag) → step tag a X ≡ Gives a (map Int (number_among a.before n a.after) ∷ [])
gives-among a X n read tag =
    ap (λ v. on_present a (λ input. Gives a (among_zeros a.before input a.after ∷ [])) v) read ∙ ap (λ v. Gives a (v ∷ [])) (sym (among-are a.before a.after n))

-- what was put into a buffer, if it was told so
pub put-so : {P : Type 0} (put : Option (Unit {0})) (none : Bool) → is_some put ≡ not none → none ≡ false → IfSome put (λ _. P) → P
put-so None none e f p = absurd (cc)
put-so (Some u) none e f p = p

pub put-none : (put : Option (Unit {0})) (none : Bool) → is_some put ≡ not none → none ≡ true → put ≡ None
put-none None none e f = refl
put-none (Some u) none e f = absurd (cc)

-- a firing whose numbers were put into an empty buffer
pub gave-among : (a : UpSample) (X : Streams Token) (n : ℤ) (put : Option (Unit {0})) (told : Bool) (front ns : List ℤ) → number_at X 0 ≡ Some n → is_some put ≡ told → front ≡ [] → IfSome put (λ _. ns ≡ front ++ number_among a.before n a.after) → GivesNumbers step a X told ns a
gave-among a X n None told front ns read e empty is = subst (λ b. GivesNumbers step a X b ns a) e refl
gave-among a X n (Some u) told front ns read e empty is =
    subst (λ b. GivesNumbers step a X b ns a) e (λ tag. gives-among a X n read tag ∙ ap (λ v. Gives a (map Int v ∷ [])) (sym (is ∙ ap (λ v. v ++ number_among a.before n a.after) empty)))
