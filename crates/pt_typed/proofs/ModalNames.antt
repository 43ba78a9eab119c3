-- No name that asks about a port is that of a port, of a Variable or of a parameter of a Modal entity.
use Rattle.std.proofs.Common.{◌≡◌, inl, inr, ℕ, zero, suc, List, [], ◌∷◌, map, filter, Bool, true, false, not, Option, Some, None, codes, bytes_eq, refl, sym, ap, subst, ◌∙◌, if◌then◌else◌, slice_get}
use Rattle.std.specs.Option.{option_eq}
use Rattle.std.specs.List.{AllByRecursion, AllZip}
use Rattle.std.proofs.lemmas.Bool.{both_ways}
use Rattle.std.proofs.lemmas.Option.{none-some, same_Some}
use Rattle.std.proofs.lemmas.Slice.Eq.{bytes_eq-Decides}
use Rattle.pt_value.specs.Value.{Value}
use Rattle.pt_datatypes.proofs.Fields.{and_left, and_right}
use Rattle.pt_document.specs.declared.code.Code.TheVariants as code
use Rattle.pt_document.specs.Classes.{Kind, Modal, kind_of}
use Rattle.pt_document.specs.Document.{PropertyTree, property_name, property_class, PortTree, Parts, parts, JobTree}
use Rattle.pt_document.specs.Names.{is_layout, is_reserved}
use Rattle.pt_moml.specs.Reading.{IsJobOf}
use Rattle.pt_moml.specs.Rules.{is_of_modal}
use Rattle.pt_moml.specs.Stands.{IsIn, BreaksRule, reserved_name, in_variable, in_property, in_port_of_modal, reserved_port}
use Rattle.pt_net.specs.declared.net.Net.{Net}
use Rattle.pt_net.specs.Standing.{Standing, is_kept, entities}
use Rattle.pt_net.specs.Net.{NetEntityTree, is_variable, net_ports_of_kind, net_ports, entity_tree, entity_view, IsNetOf}
use Rattle.pt_scopes.specs.declared.values.Values.{Values}
use Rattle.pt_scopes.specs.Scopes.{net_view, Sees, in_opaque, is_composite_class}
use Rattle.pt_scopes.specs.Valued.{EntityView, IsEntityValued, IsValued}
use Rattle.pt_scopes.specs.Valued.{entity_view as valued_view}
use Rattle.pt_scopes.proofs.SeenLaws.{own-extends}
use Rattle.pt_start.specs.Nested.{AreRound, IsNested}
use Rattle.pt_inequalities.specs.Frames.{Names, no_names, put, with_given, frames_of, seen_within}
use Rattle.pt_modal_types.proofs.NameLaws.{number_from, number-found, ports-are}
use Rattle.pt_order.proofs.ReadParts.{IsRead}
use Rattle.pt_order.proofs.Standings.{documents-seen}
use Rattle.pt_typed.specs.OwnNames.{AreFreelyNamed, HaveClassParameters}
use Rattle.pt_typed.proofs.DocumentNames.{kept-all, not-true, not-reserved, unbroken, all-at, all-from, all-kept}
use Rattle.pt_typed.proofs.FormulaNames.{asking-reserved}
use Rattle.pt_typed.proofs.ModalsMet.{AreAskedFreely}
use Rattle.pt_typed.proofs.SeenFrames.{unviewed, seen-is-bound, seen-free}

-- ---- a document

-- the ports and the Variables of each Modal entity have names that aren't reserved
pub record AreFreelyModal (e : NetEntityTree) : Type 0 where
  pub ports : AllByRecursion (λ (p : PortTree). is_reserved p.name ≡ false) e.ports
  pub variables : AreFreelyNamed e.variables

abbrev pub HaveFreeModals : Net → Type 0
HaveFreeModals net = (m : ℕ) (e : NetEntityTree) → slice_get (map entity_view net.entities.items) m ≡ Some e → e.class ≡ codes "Modal" → AreFreelyModal e

all-in : (Q : PortTree → Type 0) (ps : List PortTree) → ((p : PortTree) → IsIn p ps → Q p) → AllByRecursion Q ps
all-in Q [] h = tt
all-in Q (p ∷ ps) h = (h p (inl refl), all-in Q ps (λ q i. h q (inr i)))

-- what is a Variable is so of a Modal entity
variable-plain : (p : PropertyTree) → is_variable p ≡ true → (is_layout (property_name p) ≡ false) × (is_of_modal (property_class p) ≡ true)
variable-plain p e = (not-true (is_layout (property_name p)) (and_left (not (is_layout (property_name p))) (option_eq bytes_eq (property_class p) (Some (codes "Variable"))) e), by_class (property_class p) (and_right (not (is_layout (property_name p))) (option_eq bytes_eq (property_class p) (Some (codes "Variable"))) e))
  where
    by_class : (o : Option (List ℕ)) → option_eq bytes_eq o (Some (codes "Variable")) ≡ true → is_of_modal o ≡ true
    by_class None h = refl
    by_class (Some c) h = h

module _ (own : Parts) (r : IsRead own) (modal : kind_of own.class ≡ Some Modal) where
  kind : Modal ≡ r.kind
  kind = same_Some Modal r.kind (sym modal ∙ r.kind_is)

  free-variables : AreFreelyNamed (filter is_variable own.properties)
  free-variables =
      kept-all (λ (p : PropertyTree). is_reserved (property_name p) ≡ false) is_variable own.properties (λ p there passes.
      not-reserved (is_reserved (property_name p)) (λ reserved. (
      let plain = variable-plain p passes in
      unbroken own r code.Name r.here (subst (λ (k : Kind). BreaksRule r.here own.properties own.ports k code.Name r.here) kind (in_property p there (in_variable plain.0 plain.1 (reserved_name reserved)))))))

  free-ports : AllByRecursion (λ (p : PortTree). is_reserved p.name ≡ false) (net_ports own)
  free-ports =
      subst (λ (ps : List PortTree). AllByRecursion (λ (p : PortTree). is_reserved p.name ≡ false) ps) (sym (ap (λ (o : Option Kind). net_ports_of_kind o own.ports) modal))
      (all-in (λ (p : PortTree). is_reserved p.name ≡ false) own.ports (λ p there. not-reserved (is_reserved p.name) (λ reserved. unbroken own r code.Name r.here (subst (λ (k : Kind). BreaksRule r.here own.properties own.ports k code.Name r.here) kind (in_port_of_modal p there (reserved_port reserved))))))

pub documents-free : (bytes : List ℕ) (job : JobTree) (net : Net) → IsJobOf bytes job → IsNetOf job net → HaveFreeModals net
unfolding kind_of
documents-free bytes job net is of m e at class =
    let read = all-from (λ (s : Standing). IsRead (parts s.tree)) (entities job) (λ n s at. (documents-seen bytes job is n s at).read) in
    let kept = all-kept (λ (s : Standing). IsRead (parts s.tree)) is_kept (entities job) read in
    let w = unviewed entity_tree (filter is_kept (entities job)) m e (ap (λ es. slice_get es m) (sym of.each_entity) ∙ at) in
    let r = (all-at (λ (s : Standing). (is_kept s ≡ true) × IsRead (parts s.tree)) (filter is_kept (entities job)) m w.0 kept w.1).1 in
    let modal : kind_of (parts w.0.tree).class ≡ Some Modal = ap (λ (t : NetEntityTree). kind_of t.class) w.2 ∙ ap kind_of class in
    subst AreFreelyModal w.2 (record { ports = free-ports (parts w.0.tree) r modal; variables = free-variables (parts w.0.tree) r modal })

-- ---- names

port-free : (ps : List PortTree) (n : ℕ) (p : PortTree) → AllByRecursion (λ (q : PortTree). is_reserved q.name ≡ false) ps → slice_get ps n ≡ Some p → is_reserved p.name ≡ false
port-free [] n p all e = absurd (none-some p e)
port-free (q ∷ ps) zero p all e = subst (λ (x : PortTree). is_reserved x.name ≡ false) (same_Some q p e) all.0
port-free (q ∷ ps) (suc n) p all e = port-free ps n p all.1 e

no-port : (ps : List PortTree) (name : List ℕ) → AllByRecursion (λ (q : PortTree). is_reserved q.name ≡ false) ps → is_reserved name ≡ true → number_from 0 ps name ≡ None
no-port ps name all reserved = by_number (number_from 0 ps name) refl
  where
    by_number : (o : Option ℕ) → number_from 0 ps name ≡ o → number_from 0 ps name ≡ None
    by_number None is = is
    by_number (Some i) is =
        let w = number-found 0 ps name i is in
        absurd (both_ways (is_reserved name) (ap is_reserved (sym w.3) ∙ port-free ps w.0 w.1 all w.2) reserved)

no-variable : (f : Names) (ps : List PropertyTree) (vs : List Value) (name : List ℕ) → f name ≡ None → AreFreelyNamed ps → is_reserved name ≡ true → with_given f ps (map Some vs) name ≡ None
no-variable f [] vs name none free reserved = none
no-variable f (p ∷ ps) [] name none free reserved = no-variable f ps [] name none free.1 reserved
no-variable f (p ∷ ps) (v ∷ vs) name none free reserved = no-variable (put (property_name p) v f) ps vs name (by_name (bytes_eq (property_name p) name) refl) free.1 reserved
  where
    by_name : (b : Bool) → bytes_eq (property_name p) name ≡ b → (if b then Some v else f name) ≡ None
    by_name true same = absurd (both_ways (is_reserved name) (ap is_reserved (sym ((bytes_eq-Decides (property_name p) name).0 same)) ∙ free.0) reserved)
    by_name false other = none

valued-at : (net : Net) (xs : List NetEntityTree) (ys : List EntityView) (i : ℕ) (x : NetEntityTree) → AllZip (IsEntityValued (net_view net)) xs ys → slice_get xs i ≡ Some x → (y : EntityView) × IsEntityValued (net_view net) x y
valued-at net [] ys i x all g = absurd (none-some x g)
valued-at net (a ∷ xs) [] i x all g = absurd all
valued-at net (a ∷ xs) (b ∷ ys) zero x all g = (b, subst (λ (t : NetEntityTree). IsEntityValued (net_view net) t b) (same_Some a x g) all.0)
valued-at net (a ∷ xs) (b ∷ ys) (suc i) x all g = valued-at net xs ys i x all.1 g

pub asked-freely : (net : Net) (values : Values) → IsValued (net_view net) values → IsNested (net_view net) → HaveClassParameters (net_view net) → HaveFreeModals net → AreAskedFreely net values
asked-freely net values valued nested have modals m e v at class name port asks =
    let reserved = asking-reserved name port asks in
    let free = modals m e at class in (
      ports-are e.ports name ∙ no-port e.ports name free.ports reserved,
      no-variable no_names e.variables v.variables name refl free.variables reserved,
      by_seen (seen_within 16 (frames_of net values) None (Some m) name) refl reserved,
    )
  where
    composite : is_composite_class e.class ≡ true
    composite = ap is_composite_class class

    held : (y : EntityView) × IsEntityValued (net_view net) e y
    held = valued-at net (net_view net).entities (map valued_view values.entities.items) m e valued.entities at

    sees : Sees (net_view net) None (Some m) held.1.inner
    sees = in_opaque m e held.1.around held.1.inner at held.1.sees (own-extends e held.1.around held.1.inner held.0.parameters held.1.parameters)

    round : AreRound (net_view net) None (Some m)
    round = record {
      transparent = λ t none. absurd (none-some t none);
      opaque = λ k x number there. (
          let here : m ≡ k = same_Some m k number in
          let same : e ≡ x = same_Some e x (sym at ∙ ap (slice_get (map entity_view net.entities.items)) here ∙ there) in
          subst (λ (t : NetEntityTree). is_composite_class t.class ≡ true) same composite);
    }

    by_seen : (o : Option Value) → seen_within 16 (frames_of net values) None (Some m) name ≡ o → is_reserved name ≡ true → seen_within 16 (frames_of net values) None (Some m) name ≡ None
    by_seen None is reserved = is
    by_seen (Some u) is reserved =
        absurd (both_ways (is_reserved name) (seen-free (net_view net) None (Some m) held.1.inner nested have round sees name (Some u) (seen-is-bound net values valued nested 16 None (Some m) held.1.inner sees round name u is)) reserved)
