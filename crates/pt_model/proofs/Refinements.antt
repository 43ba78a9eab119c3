-- What stands in a Modal entity of a net with machines is a composite with a director, or a Modal entity.
use Rattle.std.proofs.Common.{◌≡◌, ℕ, suc, zero, ◌<◌, List, [], ◌∷◌, Bool, true, false, ◌||◌, cond, Option, Some, None, length, map, filter, get_or, codes, bytes_eq, refl, sym, ap, subst, ◌∙◌, arith}
use Rattle.std.specs.Option.{is_some}
use Rattle.std.specs.List.{Contains}
use Rattle.std.proofs.lemmas.Bool.{both_ways, eq-eqb}
use Rattle.std.proofs.lemmas.Option.{slice_get_within}
use Rattle.pt_net.specs.declared.net.Net.{Net}
use Rattle.pt_net.specs.declared.net.NetDirector.{NetDirector}
use Rattle.pt_net.specs.declared.net.NetEntity.{NetEntity}
use Rattle.pt_net.specs.Net.{entity_view}
use Rattle.pt_net.specs.Inside.{is_number}
use Rattle.pt_net.proofs.Members.{contains_slice}
use Rattle.pt_scopes.specs.declared.values.Values.{Values}
use Rattle.pt_scopes.specs.Scopes.{is_composite_class}
use Rattle.pt_typing.specs.Least.{Assignment}
use Rattle.pt_start.proofs.Outward.{view-at}
use Rattle.pt_chart.specs.Machine.{Machine}
use Rattle.pt_machine.specs.Children.{stands_in, is_opaque, kids_in}
use Rattle.pt_machine.specs.Machines.{IsMachineOf, AreMachines}
use Rattle.pt_machine.proofs.Clean.{all-of}
use Rattle.pt_trees.specs.Trees.{IsEntity, Starts}
use Rattle.pt_trees.proofs.DirectorLaws.{is-modal}
use Rattle.pt_order.specs.Laws.{IsNetOfDocument}
use Rattle.std.proofs.Math.Bool.{or-true}
use Rattle.pt_buildable.specs.Composites.{HasOpaqueRefinements}
use Rattle.pt_buildable.proofs.Joined.{directors-of-composites}
use Rattle.pt_elaboration.proofs.Lists.{read}

-- what passes a test among others is among those that do
kept : {A : Type 0} (test : A → Bool) (xs : List A) (x : A) → Contains xs x → test x ≡ true → Contains (filter test xs) x
kept {A} test xs x c passes = by-place xs c.0 c.1 c.2
  where
    later : (y : A) (ys : List A) → Contains (filter test ys) x → (b : Bool) → Contains (cond b (y ∷ filter test ys) (filter test ys)) x
    later y ys c true = (suc c.0, omega (arith, c.1), c.2)
    later y ys c false = c

    by-place : (xs : List A) (k : ℕ) → k < length xs → get_or xs k x ≡ x → Contains (filter test xs) x
    by-place [] k short is = absurd (omega (arith, short))
    by-place (y ∷ xs) zero short is = subst (λ (b : Bool). Contains (cond b (y ∷ filter test xs) (filter test xs)) x) (sym (ap test is ∙ passes)) (0, omega arith, is)
    by-place (y ∷ xs) (suc k) short is = later y xs (by-place xs k (omega (arith, short)) is) (test y)

module _ (net : Net) (values : Values) (typing : Assignment) (starts : Starts) (doc : IsNetOfDocument net) (machines : AreMachines net values typing starts.machines) where
  -- what is opaque is of a class of composites
  opaque-class : (k : ℕ) (e : NetEntity) → IsEntity net k e → is_opaque (entity_view e) ≡ true → is_composite_class e.class ≡ true
  opaque-class k e at opaque = by-director e.director refl
    where
      by-director : (o : Option NetDirector) → e.director ≡ o → is_composite_class e.class ≡ true
      by-director (Some d) is = directors-of-composites net k e d doc at is
      by-director None is =
          let modal : bytes_eq e.class (codes "Modal") ≡ true = ap (λ (o : Option NetDirector). is_some (entity_view (record e { director = o })).director || bytes_eq e.class (codes "Modal")) (sym is) ∙ opaque in
          ap (λ b. bytes_eq e.class (codes "Composite") || b) modal ∙ or-true (bytes_eq e.class (codes "Composite"))

  by-machine : (k j : ℕ) (e f : NetEntity) → IsEntity net k e → e.parent ≡ Some j → IsEntity net j f → bytes_eq f.class (codes "Modal") ≡ true → (x : Option Machine) → IsMachineOf net values typing j (entity_view f) x → is_opaque (entity_view e) ≡ true
  by-machine k j e f at round there modal None is = absurd (both_ways (bytes_eq f.class (codes "Modal")) is modal)
  by-machine k j e f at round there modal (Some x) is =
      all-of (λ kid. is_opaque kid ≡ true) (kids_in net j) is.is.refinements.opaque (entity_view e)
      (kept (stands_in j) (map entity_view net.entities.items) (entity_view e) (contains_slice (map entity_view net.entities.items) k (entity_view e) (view-at entity_view net.entities.items k e at)) (ap (is_number j) round ∙ eq-eqb j j refl))

  pub opaque-refinements : HasOpaqueRefinements net
  opaque-refinements k j e f at round there modal =
      let short : j < length starts.machines = (let h = slice_get_within net.entities.items j f there in omega (arith, h, machines.counted)) in
      let x = read starts.machines j short in
      opaque-class k e at (by-machine k j e f at round there (is-modal f modal).modal x.0 (machines.each j (entity_view f) x.0 (view-at entity_view net.entities.items j f there) x.1))
