-- The guards and actions of a machine have types, where those of its Modal entity break nowhere.
use Rattle.std.proofs.Common.{◌≡◌, ℕ, zero, suc, List, [], ◌∷◌, length, map, Bool, true, false, Some, refl, sym, ap, subst, ◌∙◌}
use Rattle.std.specs.Prelude.{slice_get}
use Rattle.std.specs.List.{AllZip}
use Rattle.std.proofs.lemmas.Option.{none-some, same_Some}
use Rattle.pt_datatypes.specs.Datatype.{Datatype}
use Rattle.pt_datatypes.specs.Order.{IsBelow, is_below}
use Rattle.pt_datatypes.specs.Token.{type_of_value}
use Rattle.pt_net.specs.declared.net.Net.{Net}
use Rattle.pt_net.specs.declared.net.NetEntity.{NetEntity}
use Rattle.pt_net.specs.Net.{NetEntityTree, entity_view}
use Rattle.pt_scopes.specs.declared.values.Values.{Values}
use Rattle.pt_scopes.specs.Scopes.{net_view, bound}
use Rattle.pt_scopes.specs.Valued.{IsVariable, IsEntityValued, IsValued}
use Rattle.pt_scopes.specs.Valued.{entity_view as valued_view}
use Rattle.pt_start.proofs.Outward.{view-at}
use Rattle.pt_typing.specs.Terms.{has_type}
use Rattle.pt_typing.specs.Least.{Assignment}
use Rattle.pt_inequalities.specs.Frames.{frames_of}
use Rattle.pt_inequalities.specs.ModalScopes.{ModalScope, modal_scope, modal_types}
use Rattle.pt_inequalities.specs.Typing.{IsTyping, of_action}
use Rattle.pt_resolve.specs.Faults.{IsTextIn, of_guard, of_output, of_set, clash_in, set_action, IsWhole}
use Rattle.pt_chart.specs.Machine.{Machine}
use Rattle.pt_chart.specs.Typed.{is_typed_machine}
use Rattle.pt_machine.specs.Children.{kids_in, is_parted}
use Rattle.pt_machine.specs.Machines.{IsMachineIn}
use Rattle.pt_modal_types.specs.Laws.{AreApart, IsClear, IsSound}
use Rattle.pt_modal_types.proofs.MachineLaws.{machines-typed}
use Rattle.pt_trees.specs.Trees.{IsEntity}
use Rattle.pt_cover.proofs.Reading.{documents-leaves}
use Rattle.pt_cover.proofs.Nesting.{net-nested}
use Rattle.pt_order.specs.Laws.{IsNetOfDocument}
use Rattle.pt_typed.proofs.DocumentNames.{documents-named}
use Rattle.pt_typed.proofs.ModalNames.{asked-freely, documents-free}

-- ---- lists

-- what stands at a place of two lists that are alike in some way
zip-both : {A B : Type 0} (R : A → B → Type 0) (xs : List A) (ys : List B) (i : ℕ) (x : A) (y : B) → AllZip R xs ys → slice_get xs i ≡ Some x → slice_get ys i ≡ Some y → R x y
zip-both R [] ys i x y all e g = absurd (none-some x e)
zip-both R (a ∷ xs) [] i x y all e g = absurd all
zip-both {A} {B} R (a ∷ xs) (b ∷ ys) zero x y all e g = subst (λ (v : A). R v y) (same_Some a x e) (subst (λ (v : B). R a v) (same_Some b y g) all.0)
zip-both R (a ∷ xs) (b ∷ ys) (suc i) x y all e g = zip-both R xs ys i x y all.1 e g

zip-length : {A B : Type 0} (R : A → B → Type 0) (xs : List A) (ys : List B) → AllZip R xs ys → length ys ≡ length xs
zip-length R [] [] all = refl
zip-length R [] (b ∷ ys) all = absurd all
zip-length R (a ∷ xs) [] all = absurd all
zip-length R (a ∷ xs) (b ∷ ys) all = ap (λ n. suc n) (zip-length R xs ys all.1)

-- what isn't above another type is below it
below-unless : (t u : Datatype) → (is_below t u ≡ false → ⊥) → IsBelow t u
below-unless t u not_false = by_test (is_below t u) refl
  where
    by_test : (b : Bool) → is_below t u ≡ b → is_below t u ≡ true
    by_test true h = h
    by_test false h = absurd (not_false h)

-- ---- a Modal entity

module _ (net : Net) (values : Values) (typing : Assignment) (doc : IsNetOfDocument net) (valued : IsValued (net_view net) values) (typed : IsTyping net values typing) (whole : IsWhole net values typing) (k : ℕ) (e : NetEntity) (x : Machine) (at : IsEntity net k e) (w : IsMachineIn net values typing k x) where
  abbrev s : ModalScope
  s = modal_scope (frames_of net values) k w.entity w.held

  pub same-entity : entity_view e ≡ w.entity
  same-entity = same_Some (entity_view e) w.entity (sym (view-at entity_view net.entities.items k e at) ∙ w.modal.at)

  -- guards and actions have types
  clear : (text : List ℕ) → IsTextIn w.entity text → IsClear typing s text
  clear text in_it t read = by_test (has_type (modal_types typing s t) t) refl
    where
      by_test : (b : Bool) → has_type (modal_types typing s t) t ≡ b → has_type (modal_types typing s t) t ≡ true
      by_test true h = h
      by_test false h = absurd (whole.entities w.entity (clash_in k w.entity w.held text t w.modal in_it read h))

  -- each Variable has a value
  counted : length w.held.variables ≡ length w.entity.variables
  counted =
      let z = zip-both (IsEntityValued (net_view net)) (net_view net).entities (map valued_view values.entities.items) k w.entity w.held valued.entities w.modal.at w.modal.values_at in
      zip-length (IsVariable (bound z.inner)) w.entity.variables w.held.variables z.variables

  sound : IsSound typing s k w.entity w.held
  sound =
      let named = documents-named doc.bytes doc.job net doc.read doc.made in
      let nested = net-nested doc.job net (documents-leaves doc.bytes doc.job doc.read) doc.made in
      let free = asked-freely net values valued nested named.0 (documents-free doc.bytes doc.job net doc.read doc.made) in
      record {
        guards = λ tr c. clear tr.guard (of_guard tr c);
        clear_outputs = λ tr a c ca. clear a.value (of_output tr a c ca);
        clear_sets = λ tr a c ca. clear a.value (of_set tr a c ca);
        outputs = λ tr a t i c ca own has. typed.above.modal k i t (of_action k i w.entity w.held tr a t w.modal c ca own has);
        sets = λ tr a t first c ca named has. below-unless t (type_of_value first) (λ h. whole.entities w.entity (set_action k w.entity w.held tr a t first w.modal c ca has named h));
        valued = counted;
        apart = subst (λ (t : NetEntityTree). AreApart t.ports) same-entity (named.1 k e at);
        free = λ name port asks. free k w.entity w.held w.modal.at w.modal.is_modal name port asks;
      }

  pub machine-typed : is_typed_machine x ≡ true
  machine-typed = machines-typed typing (frames_of net values) k w.entity w.held (kids_in net k) (is_parted net k) x w.is sound
