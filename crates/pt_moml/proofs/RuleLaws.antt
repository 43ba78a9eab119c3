-- What is refused by the rules on properties and ports stands there, and where they are kept nothing stands.
use Rattle.std.proofs.Common.{◌≡◌, ◌&&◌, inl, inr, List, [], ◌∷◌, ℕ, Result, Ok, Err, Option, Some, None, Bool, true, false, not, cond, map, refl, sym, ap, ◌∙◌, subst}
use Rattle.std.specs.Prelude.{is_some}
use Rattle.pt_document.specs.declared.code.Code.{Code}
use Rattle.pt_document.specs.declared.code.Code.TheVariants as code
use Rattle.pt_document.specs.declared.refusal.Refusal.{Refusal}
use Rattle.pt_document.specs.Document.{PropertyTree, property_name, property_value, property_class, inner_properties, PortTree}
use Rattle.pt_document.specs.Classes.{ClassParameter, Class, DirectorClass, director_row, Kind, Composite, Modal, Actor}
use Rattle.pt_document.specs.Names.{below, is_among, is_layout, is_reserved}
use Rattle.pt_document.specs.Outcome.{refused}
use Rattle.pt_moml.specs.Rules.{each, parameter_names, parameter_fits, is_needed, parameter_given, parameters_fit, value_fits, director_fits, classed_fits, composite_property, is_of_modal, modal_property, directors_among, at_most_one, director_at, rate_rows, port_fits, is_direction, declared_fits, enough_ports, parts_fit}
use Rattle.pt_moml.specs.Stands.{IsIn, BreaksParameter, with_class, unknown_parameter, without_value, BreaksParameters, in_parameter, missing_parameter, BreaksValue, reserved_name, no_value, BreaksProperty, in_value, no_director, in_director, no_variable, in_variable, BreaksPort, reserved_port, in_rate, BreaksRule, in_property, two_directors, in_port_of_composite, in_port_of_modal, in_parameters, no_ports, other_direction, port_is_there, in_port_of_actor}
use Rattle.pt_document.proofs.Chains.{Is, is_refused, bind_err, bind_ok, never_err, never_ok}

abbrev Checked : Type 0
Checked = Result (Unit {0}) Refusal

abbrev kept : Checked
kept = Ok tt

-- a refusal of this cause and path
at_refusal : (F : Code → List ℕ → Type 0) (r : Refusal) (c : Code) (path : List ℕ) → Is r c path → F c path → F r.code r.path
at_refusal F r c path is h = subst (λ (d : Code). F d r.path) (sym is.0) (subst (λ (p : List ℕ). F c p) (sym is.1) h)

told_at : (F : Code → List ℕ → Type 0) (r : Refusal) (c : Code) (path : List ℕ) → refused {A = Unit {0}} c path ≡ Err r → F c path → F r.code r.path
told_at F r c path e h = at_refusal F r c path (is_refused c path r e) h

none_of : {A : Type 0} (o : Option A) → is_some o ≡ false → o ≡ None
none_of None h = refl
none_of (Some a) h = absurd cc

-- ---- each of a list

each_told : {A : Type 0} (rule : A → Checked) (xs : List A) (r : Refusal) → each rule xs ≡ Err r → (x : A) × IsIn x xs × (rule x ≡ Err r)
each_told rule [] r e = absurd (never_err tt r e)
each_told rule (x ∷ xs) r e =
    elim (bind_err (rule x) (λ _. each rule xs) r e) [
      | inl h ↦ (x, inl refl, h)
      | inr h ↦ (let t = each_told rule xs r h.2 in (t.0, inr t.1, t.2))
    ]

each_clean : {A : Type 0} (rule : A → Checked) (xs : List A) (u : Unit {0}) → each rule xs ≡ Ok u → (x : A) → IsIn x xs → (v : Unit {0}) × (rule x ≡ Ok v)
each_clean rule [] u e x is_in = absurd is_in
each_clean rule (y ∷ xs) u e x (inl same) = let h = bind_ok (rule y) (λ _. each rule xs) u e in (h.0, ap rule same ∙ h.1)
each_clean rule (y ∷ xs) u e x (inr later) = let h = bind_ok (rule y) (λ _. each rule xs) u e in each_clean rule xs u h.2 x later

-- ---- parameters

abbrev parameter_chosen : List ℕ → List ℕ → Bool → Bool → Bool → Bool → Checked
parameter_chosen here path layout classed known given = cond layout kept (cond classed (refused code.Class here) (cond (known && given) kept (refused code.Parameter path)))

parameter_told : (here : List ℕ) (rows : List ClassParameter) (p : PropertyTree) (r : Refusal) → parameter_fits here rows p ≡ Err r → BreaksParameter here rows p r.code r.path
unfolding parameter_fits
parameter_told here rows p r e =
    chosen (is_layout (property_name p)) (is_some (property_class p)) (is_among (parameter_names rows) (property_name p)) (is_some (property_value p)) refl refl refl refl e
  where
    chosen : (l c k g : Bool) → is_layout (property_name p) ≡ l → is_some (property_class p) ≡ c → is_among (parameter_names rows) (property_name p) ≡ k → is_some (property_value p) ≡ g → parameter_chosen here (below here (property_name p)) l c k g ≡ Err r → BreaksParameter here rows p r.code r.path
    chosen true c k g layout classed known given e = absurd (never_err tt r e)
    chosen false true k g layout classed known given e = told_at (λ c q. BreaksParameter here rows p c q) r code.Class here e (with_class layout classed)
    chosen false false true true layout classed known given e = absurd (never_err tt r e)
    chosen false false true false layout classed known given e = told_at (λ c q. BreaksParameter here rows p c q) r code.Parameter (below here (property_name p)) e (without_value layout (none_of (property_value p) given))
    chosen false false false g layout classed known given e = told_at (λ c q. BreaksParameter here rows p c q) r code.Parameter (below here (property_name p)) e (unknown_parameter layout known)

parameter_clean : (here : List ℕ) (rows : List ClassParameter) (p : PropertyTree) (c : Code) (path : List ℕ) → BreaksParameter here rows p c path → (u : Unit {0}) → parameter_fits here rows p ≡ Ok u → ⊥
unfolding parameter_fits
parameter_clean here rows p c path (with_class layout classed) u e = never_ok code.Class here u (sym (rw (layout, classed) refl) ∙ e)
parameter_clean here rows p c path (unknown_parameter layout unknown) u e =
    chosen (is_some (property_class p)) (is_some (property_value p)) (sym (rw (layout, unknown) refl) ∙ e)
  where
    chosen : (k g : Bool) → parameter_chosen here (below here (property_name p)) false k false g ≡ Ok u → ⊥
    chosen true g e = never_ok code.Class here u e
    chosen false g e = never_ok code.Parameter (below here (property_name p)) u e
parameter_clean here rows p c path (without_value layout none) u e =
    chosen (is_some (property_class p)) (is_among (parameter_names rows) (property_name p)) (sym (rw (layout, none) refl) ∙ e)
  where
    chosen : (k m : Bool) → parameter_chosen here (below here (property_name p)) false k m false ≡ Ok u → ⊥
    chosen true m e = never_ok code.Class here u e
    chosen false true e = never_ok code.Parameter (below here (property_name p)) u e
    chosen false false e = never_ok code.Parameter (below here (property_name p)) u e

given_told : (here : List ℕ) (rows : List ClassParameter) (ps : List PropertyTree) (row : ClassParameter) (r : Refusal) → IsIn row rows → parameter_given here ps row ≡ Err r → BreaksParameters here rows ps r.code r.path
unfolding parameter_given
given_told here rows ps row r is_in e = chosen (is_needed here row.need) (is_among (map property_name ps) row.name) refl refl e
  where
    chosen : (n m : Bool) → is_needed here row.need ≡ n → is_among (map property_name ps) row.name ≡ m → cond (n && not m) (refused code.Parameter (below here row.name)) kept ≡ Err r → BreaksParameters here rows ps r.code r.path
    chosen true true needed there e = absurd (never_err tt r e)
    chosen true false needed there e = told_at (λ c q. BreaksParameters here rows ps c q) r code.Parameter (below here row.name) e (missing_parameter row is_in needed there)
    chosen false m needed there e = absurd (never_err tt r e)

given_clean : (here : List ℕ) (ps : List PropertyTree) (row : ClassParameter) → is_needed here row.need ≡ true → is_among (map property_name ps) row.name ≡ false → (u : Unit {0}) → parameter_given here ps row ≡ Ok u → ⊥
unfolding parameter_given
given_clean here ps row needed there u e = never_ok code.Parameter (below here row.name) u (sym (rw (needed, there) refl) ∙ e)

parameters_told : (here : List ℕ) (rows : List ClassParameter) (ps : List PropertyTree) (r : Refusal) → parameters_fit here rows ps ≡ Err r → BreaksParameters here rows ps r.code r.path
unfolding parameters_fit
parameters_told here rows ps r e =
    elim (bind_err (each (parameter_fits here rows) ps) (λ _. each (parameter_given here ps) rows) r e) [
      | inl h ↦ (let t = each_told (parameter_fits here rows) ps r h in in_parameter t.0 t.1 (parameter_told here rows t.0 r t.2))
      | inr h ↦ (let t = each_told (parameter_given here ps) rows r h.2 in given_told here rows ps t.0 r t.1 t.2)
    ]

parameters_clean : (here : List ℕ) (rows : List ClassParameter) (ps : List PropertyTree) (c : Code) (path : List ℕ) → BreaksParameters here rows ps c path → (u : Unit {0}) → parameters_fit here rows ps ≡ Ok u → ⊥
unfolding parameters_fit
parameters_clean here rows ps c path (in_parameter p is_in stands) u e =
    let h = bind_ok (each (parameter_fits here rows) ps) (λ _. each (parameter_given here ps) rows) u e in
    let t = each_clean (parameter_fits here rows) ps h.0 h.1 p is_in in
    parameter_clean here rows p c path stands t.0 t.1
parameters_clean here rows ps c path (missing_parameter row is_in needed there) u e =
    let h = bind_ok (each (parameter_fits here rows) ps) (λ _. each (parameter_given here ps) rows) u e in
    let t = each_clean (parameter_given here ps) rows u h.2 row is_in in
    given_clean here ps row needed there t.0 t.1

-- ---- properties of composites and modal models

value_told : (here : List ℕ) (p : PropertyTree) (r : Refusal) → value_fits here p ≡ Err r → BreaksValue here p r.code r.path
unfolding value_fits
value_told here p r e = chosen (is_reserved (property_name p)) (is_some (property_value p)) refl refl e
  where
    chosen : (b g : Bool) → is_reserved (property_name p) ≡ b → is_some (property_value p) ≡ g → cond b (refused code.Name here) (cond g kept (refused code.Parameter (below here (property_name p)))) ≡ Err r → BreaksValue here p r.code r.path
    chosen true g reserved given e = told_at (λ c q. BreaksValue here p c q) r code.Name here e (reserved_name reserved)
    chosen false true reserved given e = absurd (never_err tt r e)
    chosen false false reserved given e = told_at (λ c q. BreaksValue here p c q) r code.Parameter (below here (property_name p)) e (no_value (none_of (property_value p) given))

value_clean : (here : List ℕ) (p : PropertyTree) (c : Code) (path : List ℕ) → BreaksValue here p c path → (u : Unit {0}) → value_fits here p ≡ Ok u → ⊥
unfolding value_fits
value_clean here p c path (reserved_name reserved) u e = never_ok code.Name here u (sym (rw reserved refl) ∙ e)
value_clean here p c path (no_value none) u e = chosen (is_reserved (property_name p)) (sym (rw none refl) ∙ e)
  where
    chosen : (b : Bool) → cond b (refused code.Name here) (cond false kept (refused code.Parameter (below here (property_name p)))) ≡ Ok u → ⊥
    chosen true e = never_ok code.Name here u e
    chosen false e = never_ok code.Parameter (below here (property_name p)) u e

classed_told : (here : List ℕ) (p : PropertyTree) (r : Refusal) → is_layout (property_name p) ≡ false → classed_fits here p (property_class p) ≡ Err r → BreaksProperty here p Composite r.code r.path
classed_told here p r layout e = by_class (property_class p) refl e
  where
    by_row : (class : List ℕ) (row : Option DirectorClass) → property_class p ≡ Some class → director_row class ≡ row → director_fits here p row ≡ Err r → BreaksProperty here p Composite r.code r.path
    by_row class None is none e = told_at (λ c q. BreaksProperty here p Composite c q) r code.Class here e (no_director class layout is none)
    by_row class (Some row) is some e = in_director class row layout is some (parameters_told here row.parameters (inner_properties p) r e)

    by_class : (class : Option (List ℕ)) → property_class p ≡ class → classed_fits here p class ≡ Err r → BreaksProperty here p Composite r.code r.path
    by_class None is e = in_value layout is (value_told here p r e)
    by_class (Some class) is e = by_row class (director_row class) is refl e

composite_told : (here : List ℕ) (p : PropertyTree) (r : Refusal) → composite_property here p ≡ Err r → BreaksProperty here p Composite r.code r.path
unfolding composite_property
composite_told here p r e = chosen (is_layout (property_name p)) refl e
  where
    chosen : (l : Bool) → is_layout (property_name p) ≡ l → cond l kept (classed_fits here p (property_class p)) ≡ Err r → BreaksProperty here p Composite r.code r.path
    chosen true layout e = absurd (never_err tt r e)
    chosen false layout e = classed_told here p r layout e

modal_told : (here : List ℕ) (p : PropertyTree) (r : Refusal) → modal_property here p ≡ Err r → BreaksProperty here p Modal r.code r.path
unfolding modal_property
modal_told here p r e = chosen (is_layout (property_name p)) (is_of_modal (property_class p)) refl refl e
  where
    chosen : (l m : Bool) → is_layout (property_name p) ≡ l → is_of_modal (property_class p) ≡ m → cond l kept (cond m (value_fits here p) (refused code.Class here)) ≡ Err r → BreaksProperty here p Modal r.code r.path
    chosen true m layout modal e = absurd (never_err tt r e)
    chosen false true layout modal e = in_variable layout modal (value_told here p r e)
    chosen false false layout modal e = told_at (λ c q. BreaksProperty here p Modal c q) r code.Class here e (no_variable layout modal)

composite_clean : (here : List ℕ) (p : PropertyTree) (c : Code) (path : List ℕ) → BreaksProperty here p Composite c path → (u : Unit {0}) → composite_property here p ≡ Ok u → ⊥
unfolding composite_property
composite_clean here p c path (in_value layout none stands) u e = value_clean here p c path stands u (sym (rw (layout, none) refl) ∙ e)
composite_clean here p c path (no_director class layout is none) u e = never_ok code.Class here u (sym (rw (layout, is, none) refl) ∙ e)
composite_clean here p c path (in_director class row layout is some stands) u e = parameters_clean here row.parameters (inner_properties p) c path stands u (sym (rw (layout, is, some) refl) ∙ e)

modal_clean : (here : List ℕ) (p : PropertyTree) (c : Code) (path : List ℕ) → BreaksProperty here p Modal c path → (u : Unit {0}) → modal_property here p ≡ Ok u → ⊥
unfolding modal_property
modal_clean here p c path (no_variable layout other) u e = never_ok code.Class here u (sym (rw (layout, other) refl) ∙ e)
modal_clean here p c path (in_variable layout modal stands) u e = value_clean here p c path stands u (sym (rw (layout, modal) refl) ∙ e)

-- ---- ports

port_told : (here : List ℕ) (rows : List ClassParameter) (p : PortTree) (r : Refusal) → port_fits here rows p ≡ Err r → BreaksPort here rows p r.code r.path
unfolding port_fits
port_told here rows p r e = chosen (is_reserved p.name) refl e
  where
    chosen : (b : Bool) → is_reserved p.name ≡ b → cond b (refused code.Name here) (each (parameter_fits here rows) p.properties) ≡ Err r → BreaksPort here rows p r.code r.path
    chosen true reserved e = told_at (λ c q. BreaksPort here rows p c q) r code.Name here e (reserved_port reserved)
    chosen false reserved e = let t = each_told (parameter_fits here rows) p.properties r e in in_rate t.0 t.1 (parameter_told here rows t.0 r t.2)

port_clean : (here : List ℕ) (rows : List ClassParameter) (p : PortTree) (c : Code) (path : List ℕ) → BreaksPort here rows p c path → (u : Unit {0}) → port_fits here rows p ≡ Ok u → ⊥
unfolding port_fits
port_clean here rows p c path (reserved_port reserved) u e = never_ok code.Name here u (sym (rw reserved refl) ∙ e)
port_clean here rows p c path (in_rate q is_in stands) u e = chosen (is_reserved p.name) e
  where
    chosen : (b : Bool) → cond b (refused code.Name here) (each (parameter_fits here rows) p.properties) ≡ Ok u → ⊥
    chosen true e = never_ok code.Name here u e
    chosen false e = let t = each_clean (parameter_fits here rows) p.properties u e q is_in in parameter_clean here rows q c path stands t.0 t.1

declared_told : (here : List ℕ) (class : Class) (ps : List PropertyTree) (qs : List PortTree) (q : PortTree) (r : Refusal) → IsIn q qs → declared_fits here class q ≡ Err r → BreaksRule here ps qs (Actor class) r.code r.path
unfolding declared_fits
declared_told here class ps qs q r is_in e = chosen (is_direction class.declares q.direction) (is_among (map (λ port. port.name) class.ports) q.name) refl refl e
  where
    chosen : (d t : Bool) → is_direction class.declares q.direction ≡ d → is_among (map (λ port. port.name) class.ports) q.name ≡ t → cond d (cond t (refused code.Name here) (port_fits here [] q)) (refused code.Shape here) ≡ Err r → BreaksRule here ps qs (Actor class) r.code r.path
    chosen true true direction there e = told_at (λ c v. BreaksRule here ps qs (Actor class) c v) r code.Name here e (port_is_there class q is_in there)
    chosen true false direction there e = in_port_of_actor class q is_in (port_told here [] q r e)
    chosen false t direction there e = told_at (λ c v. BreaksRule here ps qs (Actor class) c v) r code.Shape here e (other_direction class q is_in direction)

enough_told : (here : List ℕ) (class : Class) (ps : List PropertyTree) (qs : List PortTree) (r : Refusal) → enough_ports here class qs ≡ Err r → BreaksRule here ps qs (Actor class) r.code r.path
enough_told here class ps [] r e = chosen class.is_declaring refl e
  where
    chosen : (b : Bool) → class.is_declaring ≡ b → cond (b && true) (refused code.Shape here) kept ≡ Err r → BreaksRule here ps [] (Actor class) r.code r.path
    chosen true declaring e = told_at (λ c v. BreaksRule here ps [] (Actor class) c v) r code.Shape here e (no_ports class declaring refl)
    chosen false declaring e = absurd (never_err tt r e)
enough_told here class ps (q ∷ qs) r e = chosen class.is_declaring e
  where
    chosen : (b : Bool) → cond (b && false) (refused code.Shape here) kept ≡ Err r → BreaksRule here ps (q ∷ qs) (Actor class) r.code r.path
    chosen true e = absurd (never_err tt r e)
    chosen false e = absurd (never_err tt r e)

-- ---- the whole

one_told : (here : List ℕ) (rows : List DirectorClass) (r : Refusal) → at_most_one here rows ≡ Err r → Is r code.Shape here × ((first : DirectorClass) × (second : DirectorClass) × (others : List DirectorClass) × (rows ≡ first ∷ second ∷ others))
one_told here [] r e = absurd (never_err None r e)
one_told here (row ∷ []) r e = absurd (never_err (Some row) r e)
one_told here (first ∷ second ∷ others) r e = (is_refused code.Shape here r e, (first, second, others, refl))

two_clean : (here : List ℕ) (rows : List DirectorClass) (first second : DirectorClass) (others : List DirectorClass) → rows ≡ first ∷ second ∷ others → (d : Option DirectorClass) → at_most_one here rows ≡ Ok d → ⊥
two_clean here rows first second others is d e = never_ok code.Shape here d (sym (ap (at_most_one here) is) ∙ e)

director_told : (here : List ℕ) (ps : List PropertyTree) (qs : List PortTree) (r : Refusal) → director_at here ps ≡ Err r → BreaksRule here ps qs Composite r.code r.path
unfolding director_at
director_told here ps qs r e =
    let t = one_told here (directors_among ps) r e in
    at_refusal (λ c v. BreaksRule here ps qs Composite c v) r code.Shape here t.0 (two_directors t.1.0 t.1.1 t.1.2 t.1.3)

director_clean : (here : List ℕ) (ps : List PropertyTree) (first second : DirectorClass) (others : List DirectorClass) → directors_among ps ≡ first ∷ second ∷ others → (d : Option DirectorClass) → director_at here ps ≡ Ok d → ⊥
unfolding director_at
director_clean here ps first second others is d e = two_clean here (directors_among ps) first second others is d e

-- A rule that is broken is told where it is.
pub rules_told : (here : List ℕ) (kind : Kind) (ps : List PropertyTree) (qs : List PortTree) (r : Refusal) → parts_fit here kind ps qs ≡ Err r → BreaksRule here ps qs kind r.code r.path
unfolding parts_fit
rules_told here Composite ps qs r e =
    elim (bind_err (each (composite_property here) ps) _ r e) [
      | inl h ↦ (let t = each_told (composite_property here) ps r h in in_property t.0 t.1 (composite_told here t.0 r t.2))
      | inr h ↦ elim (bind_err (director_at here ps) _ r h.2) [
        | inl g ↦ director_told here ps qs r g
        | inr g ↦ (let t = each_told (port_fits here (rate_rows g.0)) qs r g.2 in in_port_of_composite g.0 t.0 g.1 t.1 (port_told here (rate_rows g.0) t.0 r t.2))
      ]
    ]
rules_told here Modal ps qs r e =
    elim (bind_err (each (modal_property here) ps) _ r e) [
      | inl h ↦ (let t = each_told (modal_property here) ps r h in in_property t.0 t.1 (modal_told here t.0 r t.2))
      | inr h ↦ (let t = each_told (port_fits here []) qs r h.2 in in_port_of_modal t.0 t.1 (port_told here [] t.0 r t.2))
    ]
rules_told here (Actor class) ps qs r e =
    elim (bind_err (parameters_fit here class.parameters ps) _ r e) [
      | inl h ↦ in_parameters class (parameters_told here class.parameters ps r h)
      | inr h ↦ elim (bind_err (enough_ports here class qs) _ r h.2) [
        | inl g ↦ enough_told here class ps qs r g
        | inr g ↦ (let t = each_told (declared_fits here class) qs r g.2 in declared_told here class ps qs t.0 r t.1 t.2)
      ]
    ]

declared_clean : (here : List ℕ) (class : Class) (q : PortTree) (u : Unit {0}) → declared_fits here class q ≡ Ok u → (is_direction class.declares q.direction ≡ true) × (is_among (map (λ port. port.name) class.ports) q.name ≡ false) × (port_fits here [] q ≡ Ok u)
unfolding declared_fits
declared_clean here class q u e = chosen (is_direction class.declares q.direction) (is_among (map (λ port. port.name) class.ports) q.name) refl refl e
  where
    chosen : (d t : Bool) → is_direction class.declares q.direction ≡ d → is_among (map (λ port. port.name) class.ports) q.name ≡ t → cond d (cond t (refused code.Name here) (port_fits here [] q)) (refused code.Shape here) ≡ Ok u
        → (is_direction class.declares q.direction ≡ true) × (is_among (map (λ port. port.name) class.ports) q.name ≡ false) × (port_fits here [] q ≡ Ok u)
    chosen true true direction there e = absurd (never_ok code.Name here u e)
    chosen true false direction there e = (direction, there, e)
    chosen false t direction there e = absurd (never_ok code.Shape here u e)

enough_clean : (here : List ℕ) (class : Class) → class.is_declaring ≡ true → (u : Unit {0}) → enough_ports here class [] ≡ Ok u → ⊥
enough_clean here class declaring u e = never_ok code.Shape here u (sym (rw declaring refl) ∙ e)

no_actor : (here : List ℕ) (class : Class) (p : PropertyTree) (c : Code) (path : List ℕ) → BreaksProperty here p (Actor class) c path → ⊥
no_actor here class p c path h = elim h [ ]

-- Where the rules are kept none is broken.
pub rules_clean : (here : List ℕ) (kind : Kind) (ps : List PropertyTree) (qs : List PortTree) (c : Code) (path : List ℕ) → BreaksRule here ps qs kind c path → (u : Unit {0}) → parts_fit here kind ps qs ≡ Ok u → ⊥
unfolding parts_fit
rules_clean here Composite ps qs c path (in_property p is_in stands) u e =
    let h = bind_ok (each (composite_property here) ps) _ u e in
    let t = each_clean (composite_property here) ps h.0 h.1 p is_in in
    composite_clean here p c path stands t.0 t.1
rules_clean here Modal ps qs c path (in_property p is_in stands) u e =
    let h = bind_ok (each (modal_property here) ps) _ u e in
    let t = each_clean (modal_property here) ps h.0 h.1 p is_in in
    modal_clean here p c path stands t.0 t.1
rules_clean here (Actor class) ps qs c path (in_property p is_in stands) u e = no_actor here class p c path stands
rules_clean here Composite ps qs c path (two_directors first second others is) u e =
    let h = bind_ok (each (composite_property here) ps) _ u e in
    let g = bind_ok (director_at here ps) _ u h.2 in
    director_clean here ps first second others is g.0 g.1
rules_clean here Composite ps qs c path (in_port_of_composite director q is is_in stands) u e =
    let h = bind_ok (each (composite_property here) ps) _ u e in
    let g = bind_ok (director_at here ps) _ u h.2 in
    let same : g.0 ≡ director = (let both : Ok g.0 ≡ Ok director = sym g.1 ∙ is in cc) in
    let t = each_clean (port_fits here (rate_rows g.0)) qs u g.2 q is_in in
    port_clean here (rate_rows g.0) q c path (subst (λ d. BreaksPort here (rate_rows d) q c path) (sym same) stands) t.0 t.1
rules_clean here Modal ps qs c path (in_port_of_modal q is_in stands) u e =
    let h = bind_ok (each (modal_property here) ps) _ u e in
    let t = each_clean (port_fits here []) qs u h.2 q is_in in
    port_clean here [] q c path stands t.0 t.1
rules_clean here (Actor class) ps qs c path (in_parameters _ stands) u e =
    let h = bind_ok (parameters_fit here class.parameters ps) _ u e in parameters_clean here class.parameters ps c path stands h.0 h.1
rules_clean here (Actor class) ps qs c path (no_ports _ declaring empty) u e =
    let h = bind_ok (parameters_fit here class.parameters ps) _ u e in
    let g = bind_ok (enough_ports here class qs) _ u h.2 in
    enough_clean here class declaring g.0 (ap (enough_ports here class) (sym empty) ∙ g.1)
rules_clean here (Actor class) ps qs c path (other_direction _ q is_in direction) u e =
    let h = bind_ok (parameters_fit here class.parameters ps) _ u e in
    let g = bind_ok (enough_ports here class qs) _ u h.2 in
    let t = each_clean (declared_fits here class) qs u g.2 q is_in in
    let k = declared_clean here class q t.0 t.1 in
    let both : true ≡ false = sym k.0 ∙ direction in cc
rules_clean here (Actor class) ps qs c path (port_is_there _ q is_in there) u e =
    let h = bind_ok (parameters_fit here class.parameters ps) _ u e in
    let g = bind_ok (enough_ports here class qs) _ u h.2 in
    let t = each_clean (declared_fits here class) qs u g.2 q is_in in
    let k = declared_clean here class q t.0 t.1 in
    let both : false ≡ true = sym k.1 ∙ there in cc
rules_clean here (Actor class) ps qs c path (in_port_of_actor _ q is_in stands) u e =
    let h = bind_ok (parameters_fit here class.parameters ps) _ u e in
    let g = bind_ok (enough_ports here class qs) _ u h.2 in
    let t = each_clean (declared_fits here class) qs u g.2 q is_in in
    let k = declared_clean here class q t.0 t.1 in
    port_clean here [] q c path stands t.0 k.2
