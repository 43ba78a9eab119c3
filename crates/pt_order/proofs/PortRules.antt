-- What the rules of documents say of the ports of an entity.
use Rattle.std.proofs.Common.{◌≡◌, ℕ, zero, suc, List, [], ◌∷◌, ◌++◌, Bool, true, false, cond, Option, Some, None, Ok, map, bytes_eq, refl, sym, ap, ◌∙◌, subst}
use Rattle.std.proofs.lemmas.Bool.{both_ways, false_from_ne_true}
use Rattle.std.proofs.lemmas.Option.{none-some, same_Some}
use Rattle.std.proofs.lemmas.Slice.Eq.{bytes_eq-Decides}
use Rattle.std.specs.List.{AllByRecursion, slice_get}
use Rattle.pt_document.specs.declared.code.Code.TheVariants.{Shape, Name}
use Rattle.pt_document.specs.declared.job.Direction.{Direction}
use Rattle.pt_document.specs.declared.job.Direction.TheVariants.{Input, Output}
use Rattle.pt_document.specs.Document.{PortTree, Parts}
use Rattle.pt_document.specs.Classes.{ClassPort, Class, Kind, Actor, kind_of}
use Rattle.pt_document.specs.Names.{is_among, has_name, are_distinct, are_distinct_after}
use Rattle.pt_document.specs.Outcome.{refused}
use Rattle.pt_moml.specs.Rules.{each, parameters_fit, enough_ports, is_direction, declared_fits, port_fits, parts_fit}
use Rattle.pt_document.proofs.Chains.{good, bind_ok, never_ok}
use Rattle.pt_moml.proofs.ItemLists.{has_name-new, has_name-old}
use Rattle.pt_order.proofs.ReadParts.{IsRead}

-- ---- names that differ

-- a name that was seen is none of those that follow
seen-before : (seen : List (List ℕ)) (n m : List ℕ) (ms : List (List ℕ)) (j : ℕ) → has_name seen n ≡ true → are_distinct_after seen ms ≡ true → slice_get ms j ≡ Some m → n ≡ m → ⊥
seen-before seen n m [] j here e at same = none-some m at
seen-before seen n m (k ∷ ms) zero here e at same = chosen (has_name seen k) (ap (has_name seen) (same ∙ sym (same_Some k m at))) e
  where
    chosen : (b : Bool) → has_name seen n ≡ b → cond b false (are_distinct_after (seen ++ k ∷ []) ms) ≡ true → ⊥
    chosen true is e = let h : false ≡ true = e in cc
    chosen false is e = both_ways (has_name seen n) is here
seen-before seen n m (k ∷ ms) (suc j) here e at same = chosen (has_name seen k) e (λ h. seen-before (seen ++ k ∷ []) n m ms j (has_name-old seen k n here) h at same)
  where
    chosen : (b : Bool) → cond b false (are_distinct_after (seen ++ k ∷ []) ms) ≡ true → (are_distinct_after (seen ++ k ∷ []) ms ≡ true → ⊥) → ⊥
    chosen true e rest = let h : false ≡ true = e in cc
    chosen false e rest = rest e

-- of such names equal ones stand in one place
abbrev HaveOwnPlaces : List (List ℕ) → List ℕ → List (List ℕ) → Type 0
HaveOwnPlaces seen n ns = are_distinct_after seen ns ≡ true → (i j : ℕ) → slice_get ns i ≡ Some n → slice_get ns j ≡ Some n → i ≡ j

distinct-places : (seen : List (List ℕ)) (n : List ℕ) (ns : List (List ℕ)) → HaveOwnPlaces seen n ns
distinct-places seen n [] e i j at there = absurd (none-some n at)
distinct-places seen n (k ∷ ns) e i j at there = chosen (has_name seen k) e i j at there (distinct-places (seen ++ k ∷ []) n ns)
  where
    later : are_distinct_after (seen ++ k ∷ []) ns ≡ true → (a : ℕ) → slice_get ns a ≡ Some n → k ≡ n → ⊥
    later e a f same = seen-before (seen ++ k ∷ []) k n ns a (has_name-new seen k) e f same

    places : are_distinct_after (seen ++ k ∷ []) ns ≡ true → (i j : ℕ) → slice_get (k ∷ ns) i ≡ Some n → slice_get (k ∷ ns) j ≡ Some n → HaveOwnPlaces (seen ++ k ∷ []) n ns → i ≡ j
    places e zero zero f g rest = refl
    places e zero (suc b) f g rest = absurd (later e b g (same_Some k n f))
    places e (suc a) zero f g rest = absurd (later e a f (same_Some k n g))
    places e (suc a) (suc b) f g rest = ap (λ m. suc m) (rest e a b f g)

    chosen : (b : Bool) → cond b false (are_distinct_after (seen ++ k ∷ []) ns) ≡ true → (i j : ℕ) → slice_get (k ∷ ns) i ≡ Some n → slice_get (k ∷ ns) j ≡ Some n → HaveOwnPlaces (seen ++ k ∷ []) n ns → i ≡ j
    chosen true e i j f g rest = absurd (let h : false ≡ true = e in cc)
    chosen false e i j f g rest = places e i j f g rest

named-at : (ps : List PortTree) (i : ℕ) (p : PortTree) → slice_get ps i ≡ Some p → slice_get (map (λ (q : PortTree). q.name) ps) i ≡ Some p.name
named-at [] i p e = absurd (none-some p e)
named-at (q ∷ ps) zero p e = ap (λ (r : PortTree). Some r.name) (same_Some q p e)
named-at (q ∷ ps) (suc i) p e = named-at ps i p e

pub own-names : (ps : List PortTree) → are_distinct (map (λ (p : PortTree). p.name) ps) ≡ true → (i j : ℕ) (p q : PortTree) → slice_get ps i ≡ Some p → slice_get ps j ≡ Some q → p.name ≡ q.name → i ≡ j
own-names ps distinct i j p q at there same = distinct-places [] p.name (map (λ (p : PortTree). p.name) ps) distinct i j (named-at ps i p at) (named-at ps j q there ∙ ap (λ n. Some n) (sym same))

-- ---- what an actor declares

-- a port that a class allows: of its direction, and under another name than its own ports
abbrev pub IsAllowed : Class → PortTree → Type 0
IsAllowed class p = (class.declares ≡ Some p.direction) × AllByRecursion (λ (q : ClassPort). bytes_eq p.name q.name ≡ false) class.ports

in-direction : (o : Option Direction) (d : Direction) → is_direction o d ≡ true → o ≡ Some d
in-direction (Some Input) Input e = refl
in-direction (Some Output) Output e = refl
in-direction (Some Input) Output e = absurd (let h : false ≡ true = e in cc)
in-direction (Some Output) Input e = absurd (let h : false ≡ true = e in cc)
in-direction None Input e = absurd (let h : false ≡ true = e in cc)
in-direction None Output e = absurd (let h : false ≡ true = e in cc)

other-name : (n m : List ℕ) → bytes_eq n m ≡ false → bytes_eq m n ≡ false
other-name n m e = false_from_ne_true (bytes_eq m n) (λ h. both_ways (bytes_eq n m) e ((bytes_eq-Decides n m).1 (sym ((bytes_eq-Decides m n).0 h))))

not-among : (name : List ℕ) (ps : List ClassPort) → is_among (map (λ (q : ClassPort). q.name) ps) name ≡ false → AllByRecursion (λ (q : ClassPort). bytes_eq name q.name ≡ false) ps
not-among name [] e = tt
not-among name (q ∷ ps) e = chosen (bytes_eq q.name name) refl e (λ h. not-among name ps h)
  where
    chosen : (b : Bool) → bytes_eq q.name name ≡ b → cond b true (is_among (map (λ (r : ClassPort). r.name) ps) name) ≡ false → (is_among (map (λ (r : ClassPort). r.name) ps) name ≡ false → AllByRecursion (λ (r : ClassPort). bytes_eq name r.name ≡ false) ps) → AllByRecursion (λ (r : ClassPort). bytes_eq name r.name ≡ false) (q ∷ ps)
    chosen true is e rest = absurd (let h : true ≡ false = e in cc)
    chosen false is e rest = (other-name q.name name is, rest e)

declared-allowed : (here : List ℕ) (class : Class) (p : PortTree) (u : Unit {0}) → declared_fits here class p ≡ Ok u → IsAllowed class p
unfolding declared_fits
declared-allowed here class p u e = by-direction (is_direction class.declares p.direction) refl e
  where
    by-name : class.declares ≡ Some p.direction → (b : Bool) → is_among (map (λ (q : ClassPort). q.name) class.ports) p.name ≡ b → cond b (refused Name here) (port_fits here [] p) ≡ good u → IsAllowed class p
    by-name way true is e = absurd (never_ok Name here u e)
    by-name way false is e = (way, not-among p.name class.ports is)

    by-direction : (b : Bool) → is_direction class.declares p.direction ≡ b → cond b (cond (is_among (map (λ (q : ClassPort). q.name) class.ports) p.name) (refused Name here) (port_fits here [] p)) (refused Shape here) ≡ good u → IsAllowed class p
    by-direction true is e = by-name (in-direction class.declares p.direction is) (is_among (map (λ (q : ClassPort). q.name) class.ports) p.name) refl e
    by-direction false is e = absurd (never_ok Shape here u e)

each-allowed : (here : List ℕ) (class : Class) (ps : List PortTree) (u : Unit {0}) → each (declared_fits here class) ps ≡ Ok u → AllByRecursion (IsAllowed class) ps
each-allowed here class [] u e = tt
each-allowed here class (p ∷ ps) u e =
    let a = bind_ok (declared_fits here class p) (λ _. each (declared_fits here class) ps) u e in
    (declared-allowed here class p a.0 a.1, each-allowed here class ps u a.2)

rules-allow : (here : List ℕ) (class : Class) (own : Parts) (u : Unit {0}) → parts_fit here (Actor class) own.properties own.ports ≡ Ok u → AllByRecursion (IsAllowed class) own.ports
unfolding parts_fit
rules-allow here class own u e =
    let a = bind_ok (parameters_fit here class.parameters own.properties) _ u e in
    let b = bind_ok (enough_ports here class own.ports) _ u a.2 in
    each-allowed here class own.ports u b.2

-- an actor declares what its class allows
pub actor-declares : (own : Parts) (class : Class) → IsRead own → kind_of own.class ≡ Some (Actor class) → AllByRecursion (IsAllowed class) own.ports
actor-declares own class r kind =
    let same : r.kind ≡ Actor class = same_Some r.kind (Actor class) (sym r.kind_is ∙ kind) in
    rules-allow r.here class own r.given (subst (λ (k : Kind). parts_fit r.here k own.properties own.ports ≡ Ok r.given) same r.rules)

-- and nothing where its class allows none
pub declares-none : (class : Class) (ps : List PortTree) → AllByRecursion (IsAllowed class) ps → class.declares ≡ None → ps ≡ []
declares-none class [] all none = refl
declares-none class (p ∷ ps) all none = absurd (none-some p.direction (sym none ∙ all.0.0))
