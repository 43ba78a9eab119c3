-- What the composites of processes of a net state, by the numbers of its entities.
use Rattle.std.proofs.Common.{◌≡◌, ℕ, zero, suc, ◌+◌, List, [], ◌∷◌, map, get_or, Bool, true, false, ◌||◌, refl, sym, ap, subst, ◌∙◌, arith}
use Rattle.std.specs.Prelude.{Option, Some, None, option_map, slice_get, count_by, bytes_eq, codes}
use Rattle.std.specs.List.{enumerate_from}
use Rattle.std.proofs.lemmas.Option.{none-some, same_Some}
use Rattle.std.proofs.Math.Bool.{or-true}
use Rattle.pt_document.specs.declared.classes.Director.{Director}
use Rattle.pt_document.specs.declared.classes.Director.TheVariants.{Sdf, Pn, Rendezvous, Sr, De}
use Rattle.pt_net.specs.declared.net.Net.{Net}
use Rattle.pt_net.specs.declared.net.NetDirector.{NetDirector}
use Rattle.pt_net.specs.declared.net.NetEntity.{NetEntity}
use Rattle.pt_net.specs.Net.{NetEntityTree, director_view, entity_view}
use Rattle.pt_net.specs.Inside.{is_input, is_output}
use Rattle.pt_scopes.specs.declared.values.Values.{Values}
use Rattle.pt_scopes.specs.Scopes.{net_view}
use Rattle.pt_scopes.specs.Valued.{IsValued}
use Rattle.pt_start.proofs.Outward.{view-at}
use Rattle.pt_stated.specs.declared.capacities.Capacities.{Capacities}
use Rattle.pt_stated.specs.declared.stated.Stated.{Stated}
use Rattle.pt_stated.specs.Networks.{is_network, has_processes, stated_of, AreStated}
use Rattle.pt_stated.specs.Laws.{AreCapacities, AreCapacitiesIf, IsLawful, StatedIsLawful, ProcessesAreStated}
use Rattle.pt_trees.specs.declared.directing.Directing.{Directing}
use Rattle.pt_trees.specs.declared.directing.Directing.TheVariants.{By, Modal}
use Rattle.pt_trees.specs.Directors.{named, IsDirectedBy}
use Rattle.pt_trees.specs.Pn.{IsStatedFor}
use Rattle.pt_trees.specs.Rendezvous.{HasRates}
use Rattle.pt_trees.specs.Trees.{IsEntity, Starts, stated_at}
use Rattle.pt_trees.proofs.DirectorLaws.{named-of, is-directed}
use Rattle.pt_buildable.specs.Composites as composites
use Rattle.pt_model.proofs.TopLaws.{pn-class, rv-class, inputs-viewed, outputs-viewed}

-- what is made of each element with its number, at one number
mapped-at : {A B : Type 0} (f : ℕ × A → B) (d : B) (n : ℕ) (xs : List A) (k : ℕ) (x : A) → slice_get xs k ≡ Some x → get_or (map f (enumerate_from n xs)) k d ≡ f (n + k, x)
mapped-at f d n [] k x at = absurd (none-some x at)
mapped-at f d n (y ∷ xs) zero x at = let z : n ≡ n + 0 = omega arith in ap (λ m. f (m, y)) z ∙ ap (λ v. f (n + 0, v)) (same_Some y x at)
mapped-at f d n (y ∷ xs) (suc k) x at = let z : (n + 1) + k ≡ n + suc k = omega arith in mapped-at f d (n + 1) xs k x at ∙ ap (λ m. f (m, x)) z

-- the director of a composite of processes has one of these classes
processes-class : (by : Director) (d : NetDirector) → named (Some d) ≡ Some by → composites.has_processes (By by) ≡ true → has_processes (director_view d) ≡ true
processes-class Sdf d e is = absurd (let h : false ≡ true = is in cc)
processes-class Sr d e is = absurd (let h : false ≡ true = is in cc)
processes-class De d e is = absurd (let h : false ≡ true = is in cc)
processes-class Pn d e is = ap (λ b. b || bytes_eq d.class (codes "Rendezvous")) (pn-class d e)
processes-class Rendezvous d e is = ap (λ b. bytes_eq d.class (codes "PN") || b) (rv-class d e) ∙ or-true (bytes_eq d.class (codes "PN"))

there-are : (o : Option Capacities) → AreCapacitiesIf true o → (c : Capacities) × (o ≡ Some c) × AreCapacities c
there-are None h = absurd h
there-are (Some c) h = (c, refl, h)

module _ (lawful : StatedIsLawful) (stated : ProcessesAreStated) (net : Net) (values : Values) (starts : Starts) (are : AreStated (net_view net) values starts.stated) where
  stated-is : (k : ℕ) (e : NetEntity) → IsEntity net k e → stated_at starts k ≡ stated_of values k (entity_view e)
  stated-is k e at =
      let z : 0 + k ≡ k = omega arith in
      ap (λ (xs : List (Option Stated)). get_or xs k None) are ∙ mapped-at (λ (q : ℕ × NetEntityTree). stated_of values q.0 q.1) None 0 (map entity_view net.entities.items) k (entity_view e) (view-at entity_view net.entities.items k e at)
      ∙ ap (λ m. stated_of values m (entity_view e)) z

  -- where the texts of the net have values, a composite of processes states its numbers
  states : IsValued (net_view net) values → (k : ℕ) (e : NetEntity) → IsEntity net k e → (by : Director) → IsDirectedBy e (By by) → composites.has_processes (By by) ≡ true → (s : Stated) × (stated_at starts k ≡ Some s)
  states valued k e at by directed processes =
      let d = is-directed e by directed in
      let own : (entity_view e).director ≡ Some (director_view d.director) = ap (λ (o : Option NetDirector). option_map director_view o) d.has in
      let class : has_processes (director_view d.director) ≡ true = processes-class by d.director (ap named (sym d.has) ∙ named-of e by directed) processes in
      let s = stated (net_view net) values valued k (entity_view e) (director_view d.director) (view-at entity_view net.entities.items k e at) own class in
      (s.0, stated-is k e at ∙ s.1)

  pub processes-state : IsValued (net_view net) values → (k : ℕ) (e : NetEntity) → IsEntity net k e → (by : Directing) → IsDirectedBy e by → composites.has_processes by ≡ true → (s : Stated) × (stated_at starts k ≡ Some s)
  processes-state valued k e at (By by) directed processes = states valued k e at by directed processes
  processes-state valued k e at Modal directed processes = absurd (let h : false ≡ true = processes in cc)

  of-entity : (k : ℕ) (e : NetEntity) (s : Stated) → IsEntity net k e → stated_at starts k ≡ Some s → IsLawful (entity_view e) s
  of-entity k e s at is = lawful values k (entity_view e) s (sym (stated-is k e at) ∙ is)

  -- what a process network states is lawful for its ports
  pub lawful-for : (k : ℕ) (e : NetEntity) (s : Stated) → IsEntity net k e → IsDirectedBy e (By Pn) → stated_at starts k ≡ Some s → IsStatedFor (count_by is_input e.ports.items) (count_by is_output e.ports.items) s
  lawful-for k e s at directed is =
      let l = of-entity k e s at is in
      let d = is-directed e Pn directed in
      let own : (entity_view e).director ≡ Some (director_view d.director) = ap (λ (o : Option NetDirector). option_map director_view o) d.has in
      let network : is_network (director_view d.director) ≡ true = pn-class d.director (ap named (sym d.has) ∙ named-of e Pn directed) in
      let c = there-are s.capacities (subst (λ (b : Bool). AreCapacitiesIf b s.capacities) network (l.capacities (director_view d.director) own)) in
      record { capacities = c.0; are = c.1; holds = c.2.room; grows = c.2.ordered; takes = l.inputs ∙ inputs-viewed e.ports.items; gives = l.outputs ∙ outputs-viewed e.ports.items }

  -- and what one of Rendezvous states has a number for each of them
  pub rated-for : (k : ℕ) (e : NetEntity) (s : Stated) → IsEntity net k e → stated_at starts k ≡ Some s → HasRates (count_by is_input e.ports.items) (count_by is_output e.ports.items) s
  rated-for k e s at is = let l = of-entity k e s at is in record { takes = l.inputs ∙ inputs-viewed e.ports.items; gives = l.outputs ∙ outputs-viewed e.ports.items }
