-- The machine of a Modal entity is that of its net.
use Rattle.std.proofs.Common.{◌≡◌, ℕ, zero, suc, ◌+◌, ◌<◌, List, [], ◌∷◌, ◌++◌, length, map, get_or, Bool, true, Option, Some, option_map, inl, inr, ◌⊎◌, refl, sym, ap, subst, ◌∙◌, arith}
use Rattle.std.specs.Prelude.{slice_get, All}
use Rattle.std.specs.List.{AllZip}
use Rattle.std.proofs.lemmas.List.{length-map, length-append}
use Rattle.std.proofs.lemmas.Option.{slice_get-map, slice_get_read, same_Some, none-some}
use Rattle.pt_net.specs.declared.net.Net.{Net}
use Rattle.pt_net.specs.declared.net.NetEntity.{NetEntity}
use Rattle.pt_net.specs.Net.{NetEntityTree, entity_view}
use Rattle.pt_scopes.specs.Scopes.{net_view}
use Rattle.pt_scopes.specs.Valued as valued
use Rattle.pt_scopes.specs.Valued.{IsEntityValued}
use Rattle.pt_scopes.specs.declared.values.Values.{Values}
use Rattle.pt_scopes.proofs.Turns.{view-push}
use Rattle.pt_typing.specs.Least.{Assignment, assignment}
use Rattle.pt_inequalities.specs.ModalScopes.{ModalScope, is_modal, modal_scope}
use Rattle.pt_inequalities.specs.Typing.{IsModal, scope_of}
use Rattle.pt_inequalities.proofs.RefinementLaws.{class-modal}
use Rattle.pt_charts.specs.Readable.{IsReadable, texts_of}
use Rattle.pt_chart.specs.Machine.{Machine}
use Rattle.pt_chart.specs.declared.written.Written.{Written}
use Rattle.pt_chart.specs.Views.{machine_of}
use Rattle.pt_machine.specs.declared.cause.Cause.{Cause}
use Rattle.pt_machine.specs.Children.{kids_in, is_parted}
use Rattle.pt_machine.specs.Causes.{IsAtFault, IsFaultIn}
use Rattle.pt_machine.specs.Machines.{IsMachine, IsMachineIn, IsMachineOf, AreMachines}
use Rattle.pt_machine_parts.specs.declared.fault.ModalFault.{ModalFault}
use Rattle.pt_machine_parts.specs.Told.{IsTold}
use Rattle.pt_machine_parts.specs.Own.{IsFaultOf}
use Rattle.pt_machine_parts.proofs.FaultLaws.{weaker}
use Rattle.pt_machines.specs.declared.site.Site.{Site}
use Rattle.pt_machines.specs.declared.ground.Ground.{Ground}
use Rattle.pt_machines.specs.Sites.{entity_at, kids_at, values_at, typing_at, scope_at}
use Rattle.pt_machines.specs.Grounds.{IsReady, IsSiteOf}

zip-length : {A B : Type 0} (R : A → B → Type 0) (xs : List A) (ys : List B) → AllZip R xs ys → length xs ≡ length ys
zip-length R [] [] z = refl
zip-length R [] (y ∷ ys) z = absurd z
zip-length R (x ∷ xs) [] z = absurd z
zip-length R (x ∷ xs) (y ∷ ys) z = ap (λ n. suc n) (zip-length R xs ys z.1)

-- each entity has its values
pub valued-count : (g : Ground) → IsReady g → length g.values.now.entities.items ≡ length g.net.now.entities.items
valued-count g ready =
    let zipped = zip-length (IsEntityValued (net_view g.net.now)) (net_view g.net.now).entities _ ready.valued.entities in
    omega (arith, zipped, length-map g.net.now.entities.items entity_view, length-map g.values.now.entities.items valued.entity_view)

module _ (g : Ground) (m : ℕ) (e : NetEntity) (s : Site) (is : IsSiteOf g m e s) (at : slice_get g.net.now.entities.items m ≡ Some e) (modal : is_modal (entity_view e) ≡ true) where
  entity-there : slice_get (map entity_view g.net.now.entities.items) m ≡ Some (entity_at s)
  entity-there = slice_get-map entity_view g.net.now.entities.items m ∙ ap (option_map entity_view) at ∙ ap (λ (u : NetEntityTree). Some u) (sym is.entity)

  modal-there : IsModal g.net.now g.values.now m (entity_at s) (values_at s)
  modal-there = record {
    at = entity-there;
    is_modal = ap (λ (u : NetEntityTree). u.class) is.entity ∙ class-modal e.class modal;
    values_at = is.values;
  }

  scope-same : scope_of g.net.now g.values.now m (entity_at s) (values_at s) ≡ scope_at s
  scope-same = λ j. modal_scope (sym is.frames j) (sym is.number j) (entity_at s) (values_at s)

  pub site-readable : IsReady g → All (IsReadable (scope_at s)) (texts_of (entity_at s).transitions)
  site-readable ready = subst (λ (sc : ModalScope). All (IsReadable sc) (texts_of (entity_at s).transitions)) scope-same (ready.readable m (entity_at s) (values_at s) modal-there)

  pub site-machine : (x : Machine) → IsMachine (typing_at s) (scope_at s) s.number (entity_at s) (values_at s) (kids_at s) s.modal.is_parted x → IsMachineIn g.net.now g.values.now (assignment g.typing.now) m x
  site-machine x h = record {
    entity = entity_at s;
    held = values_at s;
    modal = modal-there;
    is =
        subst (λ (t : Assignment). IsMachine t (scope_of g.net.now g.values.now m (entity_at s) (values_at s)) m (entity_at s) (values_at s) (kids_in g.net.now m) (is_parted g.net.now m) x) is.typing
        (subst (λ (sc : ModalScope). IsMachine (typing_at s) sc m (entity_at s) (values_at s) (kids_in g.net.now m) (is_parted g.net.now m) x) (sym scope-same)
        (subst (λ (k : ℕ). IsMachine (typing_at s) (scope_at s) k (entity_at s) (values_at s) (kids_in g.net.now m) (is_parted g.net.now m) x) is.number
        (subst (λ (kids : List NetEntityTree). IsMachine (typing_at s) (scope_at s) s.number (entity_at s) (values_at s) kids (is_parted g.net.now m) x) is.kids
        (subst (λ (b : Bool). IsMachine (typing_at s) (scope_at s) s.number (entity_at s) (values_at s) (kids_at s) b x) is.parted h))));
  }

  site-fault : (why : Cause) → IsFaultOf s.modal why → IsFaultIn g.net.now m why
  site-fault why h = record {
    entity = entity_at s;
    at = entity-there;
    modal = ap is_modal is.entity ∙ modal;
    fault =
        subst (λ (kids : List NetEntityTree). IsAtFault (entity_at s) kids (is_parted g.net.now m) why) is.kids
        (subst (λ (b : Bool). IsAtFault (entity_at s) (kids_at s) b why) is.parted h);
  }

  pub site-told : (fault : ModalFault) → IsTold (IsFaultOf s.modal) fault → IsTold (IsFaultIn g.net.now m) fault
  site-told fault h = weaker (IsFaultOf s.modal) (IsFaultIn g.net.now m) site-fault fault h

-- ---- all entities

-- those before this place have their machines
pub record AreMachinesBefore (net : Net) (values : Values) (typing : Assignment) (n : ℕ) (xs : List (Option Machine)) : Type 0 where
  pub counted : length xs ≡ n
  pub each : (m : ℕ) (e : NetEntityTree) (x : Option Machine) → slice_get (map entity_view net.entities.items) m ≡ Some e → slice_get xs m ≡ Some x → IsMachineOf net values typing m e x

pub machines-none : (net : Net) (values : Values) (typing : Assignment) (ws : List (Option Written)) → ws ≡ [] → AreMachinesBefore net values typing 0 (map (option_map machine_of) ws)
machines-none net values typing ws none = record {
  counted = ap (λ (us : List (Option Written)). length (map (option_map machine_of) us)) none;
  each = λ m e x at there. absurd (nothing m x (sym (ap (λ (us : List (Option Written)). slice_get (map (option_map machine_of) us) m) none) ∙ there));
}
  where
    nothing : (m : ℕ) (x : Option Machine) → slice_get [] m ≡ Some x → ⊥
    nothing m x h = none-some x h

last-at : {A : Type 0} (xs : List A) (y : A) (m : ℕ) (x : A) → slice_get (xs ++ y ∷ []) m ≡ Some x → (slice_get xs m ≡ Some x) ⊎ ((m ≡ length xs) × (y ≡ x))
last-at [] y zero x h = inr (refl, same_Some y x h)
last-at [] y (suc m) x h = absurd (none-some x h)
last-at (z ∷ xs) y zero x h = inl h
last-at (z ∷ xs) y (suc m) x h = elim (last-at xs y m x h) [ inl before ↦ inl before | inr last ↦ inr (ap (λ n. suc n) last.0, last.1) ]

pub machines-more : (net : Net) (values : Values) (typing : Assignment) (n : ℕ) (e : NetEntity) (ws new : List (Option Written)) (w : Option Written) → slice_get net.entities.items n ≡ Some e → IsMachineOf net values typing n (entity_view e) (option_map machine_of w) → new ≡ ws ++ w ∷ [] → AreMachinesBefore net values typing n (map (option_map machine_of) ws) → AreMachinesBefore net values typing (n + 1) (map (option_map machine_of) new)
machines-more net values typing n e ws new w at here more was =
    subst (AreMachinesBefore net values typing (n + 1)) (sym (ap (map (option_map machine_of)) more ∙ view-push (option_map machine_of) ws w)) (record {
      counted = length-append (map (option_map machine_of) ws) (option_map machine_of w ∷ []) ∙ (let counted : length (map (option_map machine_of) ws) + 1 ≡ n + 1 = omega (arith, was.counted) in counted);
      each = λ m f x given there. elim (last-at (map (option_map machine_of) ws) (option_map machine_of w) m x there) [
        | inl before ↦ was.each m f x given before
        | inr last ↦ newest m f x given (last.0 ∙ was.counted) last.1
      ];
    })
  where
    newest : (m : ℕ) (f : NetEntityTree) (x : Option Machine) → slice_get (map entity_view net.entities.items) m ≡ Some f → m ≡ n → option_map machine_of w ≡ x → IsMachineOf net values typing m f x
    newest m f x given same made =
        let seen : slice_get (map entity_view net.entities.items) n ≡ Some (entity_view e) = slice_get-map entity_view net.entities.items n ∙ ap (option_map entity_view) at in
        let entity : entity_view e ≡ f = same_Some (entity_view e) f (sym seen ∙ ap (slice_get (map entity_view net.entities.items)) (sym same) ∙ given) in
        subst (λ (k : ℕ). IsMachineOf net values typing k f x) (sym same)
        (subst (λ (g : NetEntityTree). IsMachineOf net values typing n g x) entity
        (subst (IsMachineOf net values typing n (entity_view e)) made here))

pub machines-all : (net : Net) (values : Values) (typing : Assignment) (n : ℕ) (xs : List (Option Machine)) → n ≡ length net.entities.items → AreMachinesBefore net values typing n xs → AreMachines net values typing xs
machines-all net values typing n xs whole are = record { counted = are.counted ∙ whole; each = are.each }

pub read-entity : (es all : List NetEntity) (n : ℕ) (e : NetEntity) → es ≡ all → n < length es → e ≡ get_or es n e → slice_get all n ≡ Some e
read-entity es all n e same short is = subst (λ (us : List NetEntity). slice_get us n ≡ Some e) same (slice_get_read es (length es) n e refl short is)
