-- What is declared that an entity of a net gives: from 1 to 1,000,000 tokens on each of its outputs.
use Rattle.std.proofs.Common.{◌≡◌, ◌+◌, ℕ, zero, suc, List, [], ◌∷◌, Bool, true, false, not, cond, Option, Some, None, length, map, get_or, refl, sym, ap, subst, ◌∙◌, arith, if◌then◌else◌}
use Rattle.std.specs.Prelude.{slice_get}
use Rattle.std.specs.List.{filter, filter_map, cons_option, enumerate_from, count_by}
use Rattle.std.proofs.lemmas.List.{length-replicate}
use Rattle.std.proofs.lemmas.List.Sums.{length-filter}
use Rattle.std.proofs.lemmas.Option.{none-some, same_Some}
use Rattle.pt_document.specs.declared.job.Direction.{Direction}
use Rattle.pt_document.specs.declared.job.Direction.TheVariants.{Input, Output}
use Rattle.pt_document.specs.declared.job.Port.{Port}
use Rattle.pt_document.specs.Document.{PropertyTree, PortTree}
use Rattle.pt_document.specs.View.{port_view}
use Rattle.pt_net.specs.declared.net.Net.{Net}
use Rattle.pt_net.specs.declared.net.NetEntity.{NetEntity}
use Rattle.pt_net.specs.Net.{NetEntityTree, entity_view}
use Rattle.pt_net.specs.Inside.{is_inward, is_output}
use Rattle.pt_scopes.specs.declared.values.Values.{Values}
use Rattle.pt_scopes.specs.Scopes.{net_view}
use Rattle.pt_scopes.specs.Sites.{is_input_port}
use Rattle.pt_typing.specs.declared.variable.Variable.TheVariants as variable
use Rattle.pt_typing.specs.Least.{Assignment}
use Rattle.pt_chart.specs.Machine.{Machine}
use Rattle.pt_machine.specs.Machines.{AreMachines}
use Rattle.pt_machine.specs.Typed.{typed_if, typed_along}
use Rattle.pt_start.proofs.Outward.{view-at}
use Rattle.pt_stated.specs.declared.stated.Stated.{Stated}
use Rattle.pt_stated.specs.Networks.{stated_of, AreStated}
use Rattle.pt_stated.specs.Laws.{StatedIsLawful}
use Rattle.pt_trees.specs.Around.{ones_of, declared_as}
use Rattle.pt_trees.specs.Trees.{IsEntity, Starts, stated_at, machine_at, declared_by}
use Rattle.pt_plannable.proofs.Counts.{AreRates, ones-rates, stated-rates}

-- ---- outputs, as they are seen

outward : (name : List ℕ) (d : Direction) (declared : Option (List ℕ)) (properties : List PropertyTree) → not (is_input_port (record { name = name; direction = d; declared = declared; properties = properties })) ≡ not (is_inward d)
outward name Input declared properties = refl
outward name Output declared properties = refl

outputs-viewed : (ps : List Port) → length (filter (λ (p : PortTree). not (is_input_port p)) (map port_view ps)) ≡ length (filter is_output ps)
outputs-viewed [] = refl
outputs-viewed (p ∷ ps) = (let v : PortTree = port_view p in chosen (not (is_input_port v)) (is_output p) (outward v.name v.direction v.declared v.properties) (outputs-viewed ps))
  where
    chosen : (a b : Bool) → a ≡ b → length (filter (λ (q : PortTree). not (is_input_port q)) (map port_view ps)) ≡ length (filter is_output ps) → length (cond a (port_view p ∷ filter (λ (q : PortTree). not (is_input_port q)) (map port_view ps)) (filter (λ (q : PortTree). not (is_input_port q)) (map port_view ps))) ≡ length (cond b (p ∷ filter is_output ps) (filter is_output ps))
    chosen true true same e = ap (λ n. suc n) e
    chosen false false same e = e
    chosen true false same e = absurd (cc)
    chosen false true same e = absurd (cc)

typed-long : (typing : Assignment) (m i : ℕ) (ps : List Port) → length (filter_map (typed_if Output typing m) (enumerate_from i (map port_view ps))) ≡ length (filter is_output ps)
typed-long typing m i [] = refl
typed-long typing m i (p ∷ ps) = chosen (is_output p) (typed-long typing m (i + 1) ps)
  where
    chosen : (b : Bool) → length (filter_map (typed_if Output typing m) (enumerate_from (i + 1) (map port_view ps))) ≡ length (filter is_output ps) →
        length (cons_option (if b then Some (p.name, typing.types (variable.Port m i)) else None) (filter_map (typed_if Output typing m) (enumerate_from (i + 1) (map port_view ps)))) ≡ length (cond b (p ∷ filter is_output ps) (filter is_output ps))
    chosen true e = ap (λ n. suc n) e
    chosen false e = e

-- ---- what a list has at a number

mapped-at : {A B : Type 0} (f : ℕ × A → B) (d : B) (n : ℕ) (xs : List A) (k : ℕ) (x : A) → slice_get xs k ≡ Some x → get_or (map f (enumerate_from n xs)) k d ≡ f (n + k, x)
mapped-at f d n [] k x at = absurd (none-some x at)
mapped-at f d n (y ∷ xs) zero x at = let z : n ≡ n + 0 = omega arith in ap (λ m. f (m, y)) z ∙ ap (λ v. f (n + 0, v)) (same_Some y x at)
mapped-at f d n (y ∷ xs) (suc k) x at = let z : (n + 1) + k ≡ n + suc k = omega arith in mapped-at f d (n + 1) xs k x at ∙ ap (λ m. f (m, x)) z

there-at : {X : Type 0} (xs : List (Option X)) (k : ℕ) (x : X) → get_or xs k None ≡ Some x → slice_get xs k ≡ Some (Some x)
there-at [] k x e = absurd (none-some x e)
there-at (y ∷ xs) zero x e = ap (λ o. Some o) e
there-at (y ∷ xs) (suc k) x e = there-at xs k x e

-- ---- what is declared

-- these are rates, one for each output
pub record AreGiven (e : NetEntity) (rs : List ℕ) : Type 0 where
  pub rates : AreRates rs
  pub counted : length rs ≡ count_by is_output e.ports.items

module _ (law : StatedIsLawful) (net : Net) (values : Values) (typing : Assignment) (starts : Starts) (stated : AreStated (net_view net) values starts.stated) (machines : AreMachines net values typing starts.machines) where
  stated-is : (k : ℕ) (e : NetEntity) → IsEntity net k e → stated_at starts k ≡ stated_of values k (entity_view e)
  stated-is k e at =
      let z : 0 + k ≡ k = omega arith in
      ap (λ (xs : List (Option Stated)). get_or xs k None) stated ∙ mapped-at (λ (q : ℕ × NetEntityTree). stated_of values q.0 q.1) None 0 (map entity_view net.entities.items) k (entity_view e) (view-at entity_view net.entities.items k e at)
      ∙ ap (λ m. stated_of values m (entity_view e)) z

  -- what a composite of processes states is lawful
  pub stated-takes : (k : ℕ) (e : NetEntity) (s : Stated) → IsEntity net k e → stated_at starts k ≡ Some s → AreRates s.takes
  stated-takes k e s at is = stated-rates s.takes (law values k (entity_view e) s (sym (stated-is k e at) ∙ is)).takes

  stated-gives : (k : ℕ) (e : NetEntity) (s : Stated) → IsEntity net k e → stated_at starts k ≡ Some s → AreGiven e s.gives
  stated-gives k e s at is =
      let l = law values k (entity_view e) s (sym (stated-is k e at) ∙ is) in
      record { rates = stated-rates s.gives l.gives; counted = l.outputs ∙ outputs-viewed e.ports.items ∙ length-filter is_output e.ports.items }

  -- and a Modal entity has one for each output of its machine
  machine-gives : (k : ℕ) (e : NetEntity) (m : Machine) → IsEntity net k e → machine_at starts k ≡ Some m → AreGiven e (ones_of m)
  machine-gives k e m at is =
      let own = machines.each k (entity_view e) (Some m) (view-at entity_view net.entities.items k e at) (there-at starts.machines k m is) in
      let same : own.entity ≡ entity_view e = same_Some own.entity (entity_view e) (sym own.modal.at ∙ view-at entity_view net.entities.items k e at) in
      let names : length m.names.outputs ≡ length (typed_along Output typing k (entity_view e).ports) = ap (λ ts. length ts) own.is.outputs ∙ ap (λ (x : NetEntityTree). length (typed_along Output typing k x.ports)) same in
      record { rates = ones-rates (length m.names.outputs); counted = length-replicate (length m.names.outputs) 1 ∙ names ∙ typed-long typing k 0 e.ports.items ∙ length-filter is_output e.ports.items }

  declared-as : (k : ℕ) (e : NetEntity) (rs : List ℕ) → IsEntity net k e → (o : Option Stated) → stated_at starts k ≡ o → (x : Option Machine) → machine_at starts k ≡ x → declared_as o x ≡ Some rs → AreGiven e rs
  declared-as k e rs at (Some s) is x machine given = subst (AreGiven e) (same_Some s.gives rs given) (stated-gives k e s at is)
  declared-as k e rs at None is (Some m) machine given = subst (AreGiven e) (same_Some (ones_of m) rs given) (machine-gives k e m at machine)
  declared-as k e rs at None is None machine given = absurd (none-some rs given)

  pub declared-gives : (k : ℕ) (e : NetEntity) (rs : List ℕ) → IsEntity net k e → declared_by starts k ≡ Some rs → AreGiven e rs
  declared-gives k e rs at given = declared-as k e rs at (stated_at starts k) refl (machine_at starts k) refl given
