-- What the plan of a Modal says of its children, as they fire and are reset.
use Rattle.std.proofs.Common.{◌≡◌, ◌⊎◌, inl, inr, ℕ, zero, suc, ◌<◌, List, [], ◌∷◌, length, map, get_or, set, Option, Some, None, refl, sym, ap, subst, ◌∙◌, arith, length-set}
use Rattle.std.proofs.lemmas.Bool.{cases_eq}
use Rattle.std.proofs.lemmas.List.{length-map}
use Rattle.pt_meaning.specs.Tag.{Tag}
use Rattle.pt_meaning.specs.Streams.{get}
use Rattle.pt_meaning.specs.Modal.{Chart}
use Rattle.pt_meaning.specs.Tree.{Rows, Node, nodes_of, reset_of}
use Rattle.pt_meaning.specs.NodeFacts.{next_of, wakes_of}
use Rattle.pt_value.specs.declared.token.Token.{Token}
use Rattle.pt_core.specs.Reached.{Becomes, Stays, Always, AllAlways}
use Rattle.pt_core.proofs.ReachedLaws.{always-reset}
use Rattle.pt_modal_laws.specs.State.{ModalPlan}
use Rattle.pt_modal_laws.specs.ModalActs.{HasPlaces, Suits}

get-set-same : {B : Type 0} (xs : List B) (i : ℕ) (x y : B) → get (set xs i x) i ≡ Some y → y ≡ x
get-set-same [] i x y e = absurd (cc)
get-set-same (z ∷ xs) zero x y e = cc
get-set-same (z ∷ xs) (suc i) x y e = get-set-same xs i x y e

get-set-other : {B : Type 0} (xs : List B) (i j : ℕ) (x : B) → (j ≡ i → ⊥) → get (set xs i x) j ≡ get xs j
get-set-other [] i j x z = refl
get-set-other (y ∷ xs) zero zero x z = absurd (z refl)
get-set-other (y ∷ xs) zero (suc j) x z = refl
get-set-other (y ∷ xs) (suc i) zero x z = refl
get-set-other (y ∷ xs) (suc i) (suc j) x z = get-set-other xs i j x (λ e. z (ap (λ n. suc n) e))

-- what holds of all that a list of nodes becomes holds where one of them has become another
always-set : {T A : Type 0} (rows : Rows T A) (P : ℕ → Node T A → Type 0) (nodes : List (Node T A)) (i : ℕ) (first next : Node T A) → get nodes i ≡ Some first → ((later : Node T A) → Becomes rows next later → Becomes rows first later) → AllAlways rows P nodes → AllAlways rows P (set nodes i next)
always-set {T} {A} rows P nodes i first next e more all j other f = by (cases_eq j i)
  where
    by : (j ≡ i) ⊎ (j ≡ i → ⊥) → Always rows (P j) other
    by (inr z) = all j other (sym (get-set-other nodes i j next z) ∙ f)
    by (inl z) = λ later b. all j first (ap (λ n. get nodes n) z ∙ e) later (more later (subst (λ (n : Node T A). Becomes rows n later) (get-set-same nodes i next other (sym (ap (λ n. get (set nodes i next) n) z) ∙ f)) b))

module _ {A : Type 0} (rows : Rows Token A) where
  pub wakes-are : (kids : List (Node Token A)) → map (next_of rows) kids ≡ wakes_of rows (nodes_of kids)
  wakes-are [] = refl
  wakes-are (n ∷ ns) = ap (λ ws. next_of rows n ∷ ws) (wakes-are ns)

  starts-are : (starts : List (Option Tag)) (kids : List (Node Token A)) → length starts ≡ length kids → ((i : ℕ) (child : Node Token A) → get kids i ≡ Some child → next_of rows (reset_of child) ≡ get_or starts i None) → starts ≡ map (next_of rows) (map reset_of kids)
  starts-are [] [] l h = refl
  starts-are [] (n ∷ ns) l h = absurd (omega (arith, l))
  starts-are (w ∷ ws) [] l h = absurd (omega (arith, l))
  starts-are (w ∷ ws) (n ∷ ns) l h =
      let head : next_of rows (reset_of n) ≡ w = h 0 n refl in
      ap (λ (vs : List (Option Tag)). w ∷ vs) (starts-are ws ns (omega (arith, l)) (λ i child e. h (suc i) child e)) ∙ ap (λ (v : Option Tag). v ∷ map (next_of rows) (map reset_of ns)) (sym head)

module _ {M A : Type 0} (reads : M → Chart Token) (rows : Rows Token A) where
  pub again-starts : (plan : ModalPlan M) (kids : List (Node Token A)) → Suits reads rows plan kids → plan.starts ≡ map (next_of rows) (map reset_of kids)
  again-starts plan kids f = starts-are rows plan.starts kids (sym f.children) (λ i child e. f.starts i child e child (Stays child))

  pub suits-set : (plan : ModalPlan M) (now : List (Node Token A)) (i : ℕ) (child next : Node Token A) → get now i ≡ Some child → ((later : Node Token A) → Becomes rows next later → Becomes rows child later) → Suits reads rows plan now → Suits reads rows plan (set now i next)
  suits-set plan now i child next e becomes f = record {
    children = length-set now i next ∙ f.children;
    named = λ mode r g. subst (λ n. r < n) (sym (length-set now i next)) (f.named mode r g);
    starts = always-set rows (λ j n. next_of rows (reset_of n) ≡ get_or plan.starts j None) now i child next e becomes f.starts;
    places = always-set rows (λ j n. HasPlaces rows (length ((reads plan.machine).in_ports j)) n) now i child next e becomes f.places;
  }

  pub suits-again : (plan : ModalPlan M) (kids : List (Node Token A)) → Suits reads rows plan kids → Suits reads rows plan (map reset_of kids)
  suits-again plan kids f = record {
    children = length-map kids reset_of ∙ f.children;
    named = λ mode r g. subst (λ n. r < n) (sym (length-map kids reset_of)) (f.named mode r g);
    starts = always-reset rows (λ j n. next_of rows (reset_of n) ≡ get_or plan.starts j None) kids f.starts;
    places = always-reset rows (λ j n. HasPlaces rows (length ((reads plan.machine).in_ports j)) n) kids f.places;
  }
