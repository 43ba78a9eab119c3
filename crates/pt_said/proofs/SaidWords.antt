-- One word more of the text of a type.
use Rattle.std.proofs.Common.{◌≡◌, ℕ, zero, suc, ◌-◌, ◌<◌, List, [], ◌∷◌, ◌++◌, map, reverse, Option, ap, ◌∙◌, arith}
use Rattle.std.proofs.lemmas.List.{map_push, reverse-append}
use Rattle.pt_datatypes.specs.Datatype.{Datatype}
use Rattle.pt_types.specs.Entry.{typed_entry}
use Rattle.pt_said.specs.declared.said.Open.{Open as GivenOpen}
use Rattle.pt_said.specs.declared.said.Open.TheVariants.{Record}
use Rattle.pt_said.specs.declared.said.OpenRecord.{OpenRecord}
use Rattle.pt_said.specs.SaidWords.{Place, step, leads, from_next, go_on, behind_field, names_view, open_view, stack_view}

-- one word more
pub turn : (n : ℕ) (place : Place) (total : Option Datatype) → 0 < n → leads n place ≡ total → from_next (λ p. leads (n - 1) p) (step place) ≡ total
unfolding leads
turn zero place total h so_far = absurd (omega arith)
turn (suc n) place total h so_far = let same : suc n - 1 ≡ n = omega arith in rw same so_far

stack-top : (around : List GivenOpen) (o : GivenOpen) → stack_view (around ++ o ∷ []) ≡ open_view o ∷ stack_view around
stack-top around o = ap reverse (map_push open_view around o) ∙ reverse-append (map open_view around) (open_view o ∷ [])

-- what is innermost is a record
pub behind-record : (t : Datatype) (around rest : List GivenOpen) (o : OpenRecord) (text : List ℕ) → around ≡ rest ++ Record o ∷ [] → go_on t (stack_view around) text ≡ behind_field (names_view o.names) (map typed_entry o.fields.items ++ (o.name.now, t) ∷ []) (stack_view rest) text
unfolding go_on
behind-record t around rest o text e = ap (λ os. go_on t (stack_view os) text) e ∙ ap (λ os. go_on t os text) (stack-top rest (Record o))
