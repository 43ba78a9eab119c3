-- The inputs that an Expression is started with: those of its entity, each with the type of its port.
use Rattle.std.proofs.Common.{◌≡◌, ℕ, zero, suc, ◌+◌, ◌<◌, List, [], ◌∷◌, ◌++◌, map, Bool, true, false, Some, refl, sym, ap, ◌∙◌, slice_get, if◌then◌else◌, arith}
use Rattle.std.specs.Prelude.{codes, bytes_eq}
use Rattle.std.specs.List.{AllByRecursion, enumerate_from}
use Rattle.std.proofs.lemmas.Option.{same_Some}
use Rattle.std.proofs.lemmas.Slice.Eq.{bytes_eq-Decides}
use Rattle.pt_datatypes.specs.Datatype.{Datatype}
use Rattle.pt_document.specs.declared.job.Direction.TheVariants.{Input, Output}
use Rattle.pt_document.specs.Document.{PortTree}
use Rattle.pt_net.specs.declared.net.Channel.{Channel}
use Rattle.pt_net.specs.Inside.{is_inward}
use Rattle.pt_scopes.specs.Sites.{port_name}
use Rattle.pt_scopes.proofs.Document.{get-left}
use Rattle.pt_typing.specs.declared.variable.Variable.TheVariants as variable
use Rattle.pt_typing.specs.Least.{Assignment}
use Rattle.pt_typing.specs.Terms.{entry_in}
use Rattle.pt_inequalities.specs.Inequalities.{inputs_from}
use Rattle.pt_start.specs.Started.{PortTyping, counted_port, typed_port}
use Rattle.pt_firing.specs.Params.{names_but}
use Rattle.pt_flow_base.specs.PortTypes.{type_named, with_typed, typed_names}
use Rattle.pt_typed.specs.InputLaw.{HaveOwnNames}
use Rattle.pt_typed.proofs.RecordRows.{input-test}

-- ports with their types, numbered from here on
abbrev pub typed_from : (ℕ → Datatype) → ℕ → List PortTree → List (List ℕ × Datatype)
typed_from types i [] = []
typed_from types i (p ∷ ps) = (p.name, types i) ∷ typed_from types (suc i) ps

differ : (m n : List ℕ) → (m ≡ n → ⊥) → bytes_eq m n ≡ false
differ m n h = by_test (bytes_eq m n) refl
  where
    by_test : (b : Bool) → bytes_eq m n ≡ b → b ≡ false
    by_test true t = absurd (h ((bytes_eq-Decides m n).0 t))
    by_test false t = refl

-- the names of all ports but the output, which stands last
names-kept : (ks : List Channel) (k m : ℕ) (other : List ℕ) (ds : List PortTree) (q : PortTree) → AllByRecursion (λ (p : PortTree). bytes_eq p.name other ≡ false) ds → bytes_eq q.name other ≡ true → names_but other (map (counted_port ks k) (enumerate_from m (ds ++ (q ∷ [])))) ≡ map port_name ds
unfolding names_but
names-kept ks k m other [] q a e = ap (λ b. if b then [] else q.name ∷ []) e
names-kept ks k m other (p ∷ ds) q a e =
    let rest = names_but other (map (counted_port ks k) (enumerate_from (m + 1) (ds ++ (q ∷ [])))) in
    ap (λ b. if b then rest else p.name ∷ rest) a.0 ∙ ap (λ ns. p.name ∷ ns) (names-kept ks k (m + 1) other ds q a.1 e)

-- the inputs of the entity as the typing of the net has them
inputs-are : (typing : Assignment) (k i : ℕ) (ds : List PortTree) (q : PortTree) → AllByRecursion (λ (p : PortTree). Input ≡ p.direction) ds → q.direction ≡ Output → map (entry_in typing.types) (inputs_from k i (ds ++ (q ∷ []))) ≡ typed_from (λ n. typing.types (variable.Port k n)) i ds
inputs-are typing k i [] q a out = ap (λ b. map (entry_in typing.types) ((if b then (q.name, variable.Port k i) ∷ [] else []) ++ [])) (input-test q q.direction ∙ ap is_inward out)
inputs-are typing k i (p ∷ ds) q a out =
    let rest = inputs_from k (suc i) (ds ++ (q ∷ [])) in
    ap (λ b. map (entry_in typing.types) ((if b then (p.name, variable.Port k i) ∷ [] else []) ++ rest)) (input-test p p.direction ∙ ap is_inward (sym a.0))
    ∙ ap (λ es. (p.name, typing.types (variable.Port k i)) ∷ es) (inputs-are typing k (suc i) ds q a.1 out)

-- the type under the name of a port, before which none has this name
type-at : (types : PortTyping) (k i : ℕ) (ps : List PortTree) (n : ℕ) (p : PortTree) → slice_get ps n ≡ Some p → ((m : ℕ) (q : PortTree) → m < n → slice_get ps m ≡ Some q → q.name ≡ p.name → ⊥) → type_named p.name (map (typed_port types k) (enumerate_from i ps)) ≡ Some (types k (i + n))
unfolding type_named
type-at types k i [] n p e h = absurd (cc)
type-at types k i (q ∷ ps) zero p e h =
    ap (λ b. if b then Some (types k i) else type_named p.name (map (typed_port types k) (enumerate_from (i + 1) ps))) ((bytes_eq-Decides q.name p.name).1 (ap (λ (r : PortTree). r.name) (same_Some q p e)))
    ∙ ap (λ m. Some (types k m)) (let z : i ≡ i + 0 = omega arith in z)
type-at types k i (q ∷ ps) (suc n) p e h =
    ap (λ b. if b then Some (types k i) else type_named p.name (map (typed_port types k) (enumerate_from (i + 1) ps))) (differ q.name p.name (h 0 q (omega arith) refl))
    ∙ type-at types k (i + 1) ps n p e (λ m r l g. h (suc m) r (omega (arith, l)) g)
    ∙ ap (λ m. Some (types k m)) (let z : (i + 1) + n ≡ i + suc n = omega arith in z)

types-from : (table : List (List ℕ × Datatype)) (types : ℕ → Datatype) (i : ℕ) (ds : List PortTree) → ((n : ℕ) (p : PortTree) → slice_get ds n ≡ Some p → type_named p.name table ≡ Some (types (i + n))) → typed_names table (map port_name ds) ≡ Some (typed_from types i ds)
types-from table types i [] h = refl
types-from table types i (p ∷ ds) h =
    ap (λ o. with_typed p.name o (typed_names table (map port_name ds))) (h 0 p refl ∙ ap (λ m. Some (types m)) (let z : i + 0 ≡ i = omega arith in z))
    ∙ ap (with_typed p.name (Some (types i))) (types-from table types (suc i) ds (λ n q e. h (suc n) q e ∙ ap (λ m. Some (types m)) (let z : i + suc n ≡ suc i + n = omega arith in z)))

module _ (ks : List Channel) (typing : Assignment) (k : ℕ) (ds : List PortTree) (q : PortTree) (ins : AllByRecursion (λ (p : PortTree). Input ≡ p.direction) ds) (out : q.direction ≡ Output) (others : AllByRecursion (λ (p : PortTree). bytes_eq p.name (codes "output") ≡ false) ds) (named : bytes_eq q.name (codes "output") ≡ true)
    (own : HaveOwnNames (ds ++ (q ∷ []))) where
  abbrev ports : PortTyping
  ports j i = typing.types (variable.Port j i)

  -- the inputs that are found by their names are those of the typing
  pub inputs-typed : typed_names (map (typed_port ports k) (enumerate_from 0 (ds ++ (q ∷ [])))) (names_but (codes "output") (map (counted_port ks k) (enumerate_from 0 (ds ++ (q ∷ []))))) ≡ Some (map (entry_in typing.types) (inputs_from k 0 (ds ++ (q ∷ []))))
  inputs-typed =
      let all = ds ++ (q ∷ []) in
      let table = map (typed_port ports k) (enumerate_from 0 all) in
      ap (typed_names table) (names-kept ks k 0 (codes "output") ds q others named)
      ∙ types-from table (ports k) 0 ds (λ n p e. type-at ports k 0 all n p (get-left ds (q ∷ []) n p e) (λ m r l g same. let i = own m n r p g (get-left ds (q ∷ []) n p e) same in omega (arith, l, i)))
      ∙ ap Some (sym (inputs-are typing k 0 ds q ins out))
