-- The names of the parameters and the ports in the net of a document.
use Rattle.std.proofs.Common.{◌≡◌, ◌⊎◌, inl, inr, ℕ, zero, suc, ◌+◌, List, [], ◌∷◌, ◌++◌, length, map, Bool, true, false, not, ◌||◌, Option, Some, None, refl, sym, ap, subst, ◌∙◌, slice_get, if◌then◌else◌, codes, bytes_eq, arith}
use Rattle.std.specs.Prelude.{option_map, filter, IsTrue}
use Rattle.std.specs.List.{AllByRecursion, list_all}
use Rattle.std.specs.Option.{is_none}
use Rattle.std.proofs.lemmas.Option.{same_Some}
use Rattle.std.proofs.lemmas.Slice.Eq.{bytes_eq-Decides}
use Rattle.pt_datatypes.proofs.Fields.{and_left, and_right}
use Rattle.pt_document.specs.declared.code.Code.{Code}
use Rattle.pt_document.specs.declared.code.Code.TheVariants as code
use Rattle.pt_document.specs.declared.job.Direction.{Direction}
use Rattle.pt_document.specs.declared.job.Direction.TheVariants.{Input, Output}
use Rattle.pt_document.specs.Document.{PropertyTree, property_name, property_class, PortTree, Parts, parts}
use Rattle.pt_document.specs.Classes.{Class, ClassPort, Kind, Composite, Modal, Actor, classes, class_in, class_row, kind_of}
use Rattle.pt_document.specs.Names.{is_among, is_layout, is_reserved, are_distinct, below}
use Rattle.pt_moml.specs.Rules.{parameter_names, is_of_modal}
use Rattle.pt_moml.proofs.RuleLaws.{rules_clean}
use Rattle.pt_moml.specs.Stands.{IsIn, BreaksRule, unknown_parameter, in_parameter, reserved_name, in_value, in_variable, in_property, in_parameters, port_is_there}
use Rattle.pt_net.specs.Standing.{Standing, is_kept, is_composite, entities}
use Rattle.pt_net.specs.Table.{joined_ports}
use Rattle.pt_net.specs.Net.{NetEntityTree, TransparentTree, is_parameter, row_port, net_ports_of_kind, net_ports, entity_tree, transparent_tree, entity_view}
use Rattle.pt_scopes.specs.Scopes.{is_composite_class}
use Rattle.pt_order.proofs.ReadParts.{IsRead}
use Rattle.pt_order.proofs.Standings.{documents-seen}
use Rattle.pt_order.proofs.PortRules.{own-names}
use Rattle.pt_typed.specs.InputLaw.{HaveOwnNames}
use Rattle.pt_typed.specs.OwnNames.{AreFreelyNamed}
use Rattle.pt_typed.specs.DocumentLaw.{DocumentsAreNamed}
use Rattle.pt_typed.proofs.RowsMet.{viewed}
use Rattle.pt_typed.proofs.SeenFrames.{unviewed}

-- ---- lists

pub all-at : {X : Type 0} (P : X → Type 0) (xs : List X) (n : ℕ) (x : X) → AllByRecursion P xs → slice_get xs n ≡ Some x → P x
all-at P [] n x a e = absurd (cc)
all-at P (y ∷ xs) zero x a e = subst P (same_Some y x e) a.0
all-at P (y ∷ xs) (suc n) x a e = all-at P xs n x a.1 e

pub all-from : {X : Type 0} (P : X → Type 0) (xs : List X) → ((n : ℕ) (x : X) → slice_get xs n ≡ Some x → P x) → AllByRecursion P xs
all-from P [] h = tt
all-from P (x ∷ xs) h = (h 0 x refl, all-from P xs (λ n y e. h (suc n) y e))

pub all-kept : {X : Type 0} (P : X → Type 0) (test : X → Bool) (xs : List X) → AllByRecursion P xs → AllByRecursion (λ x. (test x ≡ true) × P x) (filter test xs)
all-kept P test [] a = tt
all-kept P test (x ∷ xs) a = by_test (test x) refl (all-kept P test xs a.1)
  where
    by_test : (b : Bool) → test x ≡ b → AllByRecursion (λ y. (test y ≡ true) × P y) (filter test xs) → AllByRecursion (λ y. (test y ≡ true) × P y) (if b then x ∷ filter test xs else filter test xs)
    by_test true e rest = ((e, a.0), rest)
    by_test false e rest = rest

-- what holds of each that passes holds of all that are kept
pub kept-all : {X : Type 0} (Q : X → Type 0) (test : X → Bool) (xs : List X) → ((x : X) → IsIn x xs → test x ≡ true → Q x) → AllByRecursion Q (filter test xs)
kept-all Q test [] h = tt
kept-all Q test (x ∷ xs) h = by_test (test x) refl (kept-all Q test xs (λ y i. h y (inr i)))
  where
    by_test : (b : Bool) → test x ≡ b → AllByRecursion Q (filter test xs) → AllByRecursion Q (if b then x ∷ filter test xs else filter test xs)
    by_test true e rest = (h x (inl refl) e, rest)
    by_test false e rest = rest

-- ---- parameters

pub not-true : (b : Bool) → not b ≡ true → b ≡ false
not-true true e = absurd (cc)
not-true false e = refl

none-is : {X : Type 0} (o : Option X) → is_none o ≡ true → o ≡ None
none-is None e = refl
none-is (Some x) e = absurd (cc)

parameter-plain : (p : PropertyTree) → is_parameter p ≡ true → (is_layout (property_name p) ≡ false) × (property_class p ≡ None)
parameter-plain p e = (not-true (is_layout (property_name p)) (and_left (not (is_layout (property_name p))) (is_none (property_class p)) e), none-is (property_class p) (and_right (not (is_layout (property_name p))) (is_none (property_class p)) e))

not-false : (b : Bool) → (b ≡ false → ⊥) → b ≡ true
not-false true h = refl
not-false false h = absurd (h refl)

pub not-reserved : (b : Bool) → (b ≡ true → ⊥) → b ≡ false
not-reserved true h = absurd (h refl)
not-reserved false h = refl

-- a class of composites is that of a Composite or of a Modal entity
composite-kind : (class : List ℕ) (kind : Kind) → IsTrue (is_composite_class class) → kind_of class ≡ Some kind → (kind ≡ Composite) ⊎ (kind ≡ Modal)
unfolding kind_of
composite-kind class kind composite e = by_name (bytes_eq class (codes "Composite")) (bytes_eq class (codes "Modal")) composite e
  where
    by_name : (b c : Bool) → (b || c) ≡ true → (if b then Some Composite else (if c then Some Modal else option_map Actor (class_row class))) ≡ Some kind → (kind ≡ Composite) ⊎ (kind ≡ Modal)
    by_name true c one e = inl (sym (same_Some Composite kind e))
    by_name false true one e = inr (sym (same_Some Modal kind e))
    by_name false false one e = absurd (cc)

-- no refusal stands in an entity that is read
pub unbroken : (own : Parts) (r : IsRead own) (cause : Code) (path : List ℕ) → BreaksRule r.here own.properties own.ports r.kind cause path → ⊥
unbroken own r cause path b = rules_clean r.here r.kind own.properties own.ports cause path b r.given r.rules

module _ (own : Parts) (r : IsRead own) where
  abbrev Breaks : Kind → Code → List ℕ → Type 0
  Breaks kind cause path = BreaksRule r.here own.properties own.ports kind cause path

  -- of an actor
  class-parameters : (class : Class) → kind_of own.class ≡ Some (Actor class) → AllByRecursion (λ (p : PropertyTree). is_among (parameter_names class.parameters) (property_name p) ≡ true) (filter is_parameter own.properties)
  class-parameters class e =
      let kind : Actor class ≡ r.kind = same_Some (Actor class) r.kind (sym e ∙ r.kind_is) in
      kept-all (λ (p : PropertyTree). is_among (parameter_names class.parameters) (property_name p) ≡ true) is_parameter own.properties (λ p there passes.
      not-false (is_among (parameter_names class.parameters) (property_name p)) (λ strange.
      unbroken own r code.Parameter (below r.here (property_name p)) (subst (λ k. Breaks k code.Parameter (below r.here (property_name p))) kind (in_parameters class (in_parameter p there (unknown_parameter (parameter-plain p passes).0 strange))))))

  -- of a composite
  free-parameters : IsTrue (is_composite_class own.class) → AreFreelyNamed (filter is_parameter own.properties)
  free-parameters composite =
      kept-all (λ (p : PropertyTree). is_reserved (property_name p) ≡ false) is_parameter own.properties (λ p there passes.
      not-reserved (is_reserved (property_name p)) (λ reserved. unbroken own r code.Name r.here (broken p there (parameter-plain p passes) reserved (composite-kind own.class r.kind composite r.kind_is))))
    where
      broken : (p : PropertyTree) → IsIn p own.properties → (is_layout (property_name p) ≡ false) × (property_class p ≡ None) → is_reserved (property_name p) ≡ true → (r.kind ≡ Composite) ⊎ (r.kind ≡ Modal) → Breaks r.kind code.Name r.here
      broken p there plain reserved (inl is) = subst (λ k. Breaks k code.Name r.here) (sym is) (in_property p there (in_value plain.0 plain.1 (reserved_name reserved)))
      broken p there plain reserved (inr is) = subst (λ k. Breaks k code.Name r.here) (sym is) (in_property p there (in_variable plain.0 (ap is_of_modal plain.1) (reserved_name reserved)))

-- ---- names of ports

-- two lists of ports, where no name stands in both
get-either : {X : Type 0} (xs ys : List X) (n : ℕ) (x : X) → slice_get (xs ++ ys) n ≡ Some x → (slice_get xs n ≡ Some x) ⊎ ((m : ℕ) × (n ≡ length xs + m) × (slice_get ys m ≡ Some x))
get-either [] ys n x e = inr (n, (let z : n ≡ 0 + n = omega arith in z), e)
get-either (y ∷ xs) ys zero x e = inl e
get-either (y ∷ xs) ys (suc n) x e = elim (get-either xs ys n x e) [ inl h ↦ inl h | inr h ↦ (let l = h.1 in inr (h.0, (let z : suc n ≡ suc (length xs) + h.0 = omega (arith, l) in z), h.2)) ]

abbrev AreOtherNames : List PortTree → List PortTree → Type 0
AreOtherNames xs ys = (i j : ℕ) (p q : PortTree) → slice_get xs i ≡ Some p → slice_get ys j ≡ Some q → p.name ≡ q.name → ⊥

both-own : (xs ys : List PortTree) → HaveOwnNames xs → HaveOwnNames ys → AreOtherNames xs ys → HaveOwnNames (xs ++ ys)
both-own xs ys f g other i j p q at there same = elim (get-either xs ys i p at) [
  | inl a ↦ elim (get-either xs ys j q there) [
    | inl b ↦ f i j p q a b same
    | inr b ↦ absurd (other i b.0 p q a b.2 same)
  ]
  | inr a ↦ elim (get-either xs ys j q there) [
    | inl b ↦ absurd (other j a.0 q p b a.2 (sym same))
    | inr b ↦ (let e = g a.0 b.0 p q a.2 b.2 same in let l = a.1 in let k = b.1 in omega (arith, e, l, k))
  ]
]

-- the ports of a class have names of their own
abbrev named_apart : Class → Bool
named_apart c = are_distinct (map (λ (p : ClassPort). p.name) c.ports)

class-apart : (rows : List Class) (name : List ℕ) (c : Class) → list_all named_apart rows ≡ true → class_in rows name ≡ Some c → named_apart c ≡ true
class-apart [] name c a e = absurd (cc)
class-apart (r ∷ rows) name c a e = by_test (bytes_eq r.name name) e (class-apart rows name c (and_right (named_apart r) (list_all named_apart rows) a))
  where
    by_test : (b : Bool) → (if b then Some r else class_in rows name) ≡ Some c → (class_in rows name ≡ Some c → named_apart c ≡ true) → named_apart c ≡ true
    by_test true g more = ap named_apart (sym (same_Some r c g)) ∙ and_left (named_apart r) (list_all named_apart rows) a
    by_test false g more = more g

all-classes-apart : (name : List ℕ) (c : Class) → class_row name ≡ Some c → named_apart c ≡ true
unfolding class_row classes
all-classes-apart name c e = class-apart classes name c refl e

kind-apart : (name : List ℕ) (c : Class) → kind_of name ≡ Some (Actor c) → named_apart c ≡ true
unfolding kind_of
kind-apart name c e = by_name (bytes_eq name (codes "Composite")) (bytes_eq name (codes "Modal")) (class_row name) refl e
  where
    by_name : (b d : Bool) (o : Option Class) → class_row name ≡ o → (if b then Some Composite else (if d then Some Modal else option_map Actor o)) ≡ Some (Actor c) → named_apart c ≡ true
    by_name true d o is g = absurd (cc)
    by_name false true o is g = absurd (cc)
    by_name false false None is g = absurd (cc)
    by_name false false (Some x) is g = let same : x ≡ c = (let h : Actor x ≡ Actor c = same_Some (Actor x) (Actor c) g in cc) in all-classes-apart name c (is ∙ ap (λ y. Some y) same)

rows-named : (ps : List ClassPort) → map (λ (p : PortTree). p.name) (map row_port ps) ≡ map (λ (p : ClassPort). p.name) ps
rows-named [] = refl
rows-named (p ∷ ps) = ap (λ ns. p.name ∷ ns) (rows-named ps)

among-at : (ps : List ClassPort) (n : ℕ) (p : PortTree) → slice_get (map row_port ps) n ≡ Some p → is_among (map (λ (q : ClassPort). q.name) ps) p.name ≡ true
among-at [] n p e = absurd (cc)
among-at (q ∷ ps) zero p e = ap (λ b. if b then true else is_among (map (λ (r : ClassPort). r.name) ps) p.name) ((bytes_eq-Decides q.name p.name).1 (ap (λ (r : PortTree). r.name) (same_Some (row_port q) p e)))
among-at (q ∷ ps) (suc n) p e = by_test (bytes_eq q.name p.name) (among-at ps n p e)
  where
    by_test : (b : Bool) → is_among (map (λ (r : ClassPort). r.name) ps) p.name ≡ true → (if b then true else is_among (map (λ (r : ClassPort). r.name) ps) p.name) ≡ true
    by_test true h = refl
    by_test false h = h

in-at : (ps : List PortTree) (n : ℕ) (p : PortTree) → slice_get ps n ≡ Some p → IsIn p ps
in-at [] n p e = absurd (cc)
in-at (q ∷ ps) zero p e = inl (sym (same_Some q p e))
in-at (q ∷ ps) (suc n) p e = inr (in-at ps n p e)

module _ (own : Parts) (r : IsRead own) where
  declared-own : HaveOwnNames own.ports
  declared-own = own-names own.ports r.distinct

  -- what is declared has other names than the ports of the class
  declared-other : (class : Class) → kind_of own.class ≡ Some (Actor class) → AreOtherNames own.ports (map row_port class.ports)
  declared-other class e i j p q at there same =
      let kind : Actor class ≡ r.kind = same_Some (Actor class) r.kind (sym e ∙ r.kind_is) in
      unbroken own r code.Name r.here (subst (λ k. BreaksRule r.here own.properties own.ports k code.Name r.here) kind (port_is_there class p (in-at own.ports i p at) (ap (is_among (map (λ (x : ClassPort). x.name) class.ports)) same ∙ among-at class.ports j q there)))

  joined-own : (o : Option Direction) (xs ys : List PortTree) → HaveOwnNames xs → HaveOwnNames ys → AreOtherNames xs ys → HaveOwnNames (joined_ports o xs ys)
  joined-own None xs ys f g other = both-own xs ys f g other
  joined-own (Some Input) xs ys f g other = both-own xs ys f g other
  joined-own (Some Output) xs ys f g other = both-own ys xs g f (λ i j p q at there same. other j i q p there at (sym same))

  ports-own : HaveOwnNames (net_ports own)
  ports-own = by_kind (kind_of own.class) refl
    where
      by_kind : (o : Option Kind) → kind_of own.class ≡ o → HaveOwnNames (net_ports_of_kind o own.ports)
      by_kind None e = declared-own
      by_kind (Some Composite) e = declared-own
      by_kind (Some Modal) e = declared-own
      by_kind (Some (Actor class)) e =
          let rows : HaveOwnNames (map row_port class.ports) = own-names (map row_port class.ports) (ap are_distinct (rows-named class.ports) ∙ kind-apart own.class class e) in
          joined-own class.declares own.ports (map row_port class.ports) declared-own rows (declared-other class e)

-- ---- the net

-- the parts of an entity are as they are read
abbrev StandsRead : Standing → Type 0
StandsRead s = IsRead (parts s.tree)

-- what is left out of the net is a Composite
left-out : (outer directed composite : Bool) → not (outer || not composite || directed) ≡ true → composite ≡ true
left-out true directed composite e = absurd (cc)
left-out false directed true e = refl
left-out false directed false e = absurd (cc)

pub documents-named : DocumentsAreNamed
documents-named bytes job net is of =
    let read = all-from StandsRead (entities job) (λ n s at. (documents-seen bytes job is n s at).read) in
    let kept = all-kept StandsRead is_kept (entities job) read in
    let left = all-kept StandsRead (λ s. not (is_kept s)) (entities job) read in
    let entity : (k : ℕ) (e : NetEntityTree) → slice_get (map entity_view net.entities.items) k ≡ Some e → (s : Standing) × IsRead (parts s.tree) × (entity_tree s ≡ e) =
    λ k e at. (let w = unviewed entity_tree (filter is_kept (entities job)) k e (ap (λ es. slice_get es k) (sym of.each_entity) ∙ at) in (w.0, (all-at (λ s. (is_kept s ≡ true) × StandsRead s) (filter is_kept (entities job)) k w.0 kept w.1).1, w.2)) in (
      record {
        actors = λ k e class at kind. (let w = entity k e at in
            subst (λ (t : NetEntityTree). AllByRecursion (λ (p : PropertyTree). is_among (parameter_names class.parameters) (property_name p) ≡ true) t.parameters) w.2 (class-parameters (parts w.0.tree) w.1 class (ap (λ (t : NetEntityTree). kind_of t.class) w.2 ∙ kind)));
        composites = λ k e at composite. (let w = entity k e at in
            subst (λ (t : NetEntityTree). AreFreelyNamed t.parameters) w.2 (free-parameters (parts w.0.tree) w.1 (ap (λ (t : NetEntityTree). is_composite_class t.class) w.2 ∙ composite)));
        transparent = λ t c at. (let w = unviewed transparent_tree (filter (λ s. not (is_kept s)) (entities job)) t c (ap (λ cs. slice_get cs t) (sym of.each_transparent) ∙ at) in
            let a = all-at (λ s. (not (is_kept s) ≡ true) × StandsRead s) (filter (λ s. not (is_kept s)) (entities job)) t w.0 left w.1 in
            let composite : bytes_eq (parts w.0.tree).class (codes "Composite") ≡ true = left-out (is_none w.0.round.outer) w.0.is_directed (is_composite (parts w.0.tree)) a.0 in
            subst (λ (x : TransparentTree). AreFreelyNamed x.parameters) w.2 (free-parameters (parts w.0.tree) a.1 (ap (λ b. b || bytes_eq (parts w.0.tree).class (codes "Modal")) composite)));
      },
      λ k e at. (let w = entity k (entity_view e) (viewed entity_view net.entities.items k e at) in
          subst (λ (t : NetEntityTree). HaveOwnNames t.ports) w.2 (ports-own (parts w.0.tree) w.1)),
    )
