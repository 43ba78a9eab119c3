-- What is stated is lawful.
use Rattle.std.proofs.Common.{◌≡◌, ℕ, suc, ◌+◌, ◌<◌, List, [], ◌∷◌, length, map, filter, Bool, true, false, not, ◌&&◌, cond, refl, sym, ap, subst, ◌∙◌, arith, codes, if◌then◌else◌}
use Rattle.std.specs.Prelude.{Option, Some, None, nat_lt, nat_le, slice_get}
use Rattle.std.specs.List.{list_all, filter_map, cons_option, enumerate_from, All}
use Rattle.std.proofs.lemmas.Bool.{and_parts, ltb-true, leb-true}
use Rattle.std.proofs.lemmas.List.Elements.{All-nil, All-cons}
use Rattle.std.proofs.lemmas.Option.{none-some, same_Some}
use Rattle.pt_value.specs.declared.token.Token.{Token}
use Rattle.pt_document.specs.declared.job.Direction.{Direction}
use Rattle.pt_document.specs.declared.job.Direction.TheVariants.{Input, Output}
use Rattle.pt_document.specs.Document.{PropertyTree, PortTree}
use Rattle.pt_net.specs.Net.{NetEntityTree, DirectorTree}
use Rattle.pt_scopes.specs.declared.values.EntityValues.{EntityValues}
use Rattle.pt_scopes.specs.declared.values.Values.{Values}
use Rattle.pt_scopes.specs.Given.{held_view}
use Rattle.pt_scopes.specs.Sites.{is_input_port}
use Rattle.pt_scopes.specs.Agreement.{named, integer_of}
use Rattle.pt_stated.specs.declared.capacities.Capacities.{Capacities}
use Rattle.pt_stated.specs.declared.stated.Stated.{Stated}
use Rattle.pt_stated.specs.Numbers.{capacity, rate_in, is_along, rate_along}
use Rattle.pt_stated.specs.Networks.{is_network, has_processes, capacities_of, numbers_of, are_lawful, is_lawful, lawful, stated_by, stated_of}
use Rattle.pt_stated.specs.Laws.{IsRate, AreCapacitiesIf, IsLawful}
use Rattle.pt_stated.proofs.Counts.{count-most, rate-most}

-- ---- rates

module _ (direction : Direction) (rates : List (Option Token)) where
  abbrev from : ℕ → List PortTree → List ℕ
  from i ports = filter_map (rate_along direction rates) (enumerate_from i ports)

  rates-lawful : (i : ℕ) (ports : List PortTree) → list_all (nat_lt 0) (from i ports) ≡ true → All IsRate (from i ports)
  rates-lawful i [] h = All-nil IsRate
  rates-lawful i (p ∷ ps) h = by_test (is_along p.direction direction) h (rates-lawful (i + 1) ps)
    where
      by_test : (b : Bool) → list_all (nat_lt 0) (cons_option (if b then Some (rate_in (slice_get rates i)) else None) (from (i + 1) ps)) ≡ true → (list_all (nat_lt 0) (from (i + 1) ps) ≡ true → All IsRate (from (i + 1) ps)) → All IsRate (cons_option (if b then Some (rate_in (slice_get rates i)) else None) (from (i + 1) ps))
      by_test true h rest =
          let w = and_parts (nat_lt 0 (rate_in (slice_get rates i))) (list_all (nat_lt 0) (from (i + 1) ps)) h in
          let least : 0 < rate_in (slice_get rates i) = ltb-true 0 (rate_in (slice_get rates i)) w.0 in
          All-cons IsRate (rate_in (slice_get rates i)) (from (i + 1) ps) (record { least = omega (arith, least); most = rate-most (slice_get rates i) }) (rest w.1)
      by_test false h rest = rest h

  rates-count : (test : PortTree → Bool) → ((p : PortTree) → is_along p.direction direction ≡ test p) → (i : ℕ) (ports : List PortTree) → length (from i ports) ≡ length (filter test ports)
  rates-count test same i [] = refl
  rates-count test same i (p ∷ ps) = ap (λ b. length (cons_option (if b then Some (rate_in (slice_get rates i)) else None) (from (i + 1) ps))) (same p) ∙ by_test (test p) (rates-count test same (i + 1) ps)
    where
      by_test : (b : Bool) → length (from (i + 1) ps) ≡ length (filter test ps) → length (cons_option (if b then Some (rate_in (slice_get rates i)) else None) (from (i + 1) ps)) ≡ length (cond b (p ∷ filter test ps) (filter test ps))
      by_test true rest = ap (λ n. suc n) rest
      by_test false rest = rest

-- the ports of a direction are the inputs or the others
along-input : (name : List ℕ) (direction : Direction) (declared : Option (List ℕ)) (properties : List PropertyTree) → is_along direction Input ≡ is_input_port (record { name = name; direction = direction; declared = declared; properties = properties })
along-input name Input declared properties = refl
along-input name Output declared properties = refl

along-output : (name : List ℕ) (direction : Direction) (declared : Option (List ℕ)) (properties : List PropertyTree) → is_along direction Output ≡ not (is_input_port (record { name = name; direction = direction; declared = declared; properties = properties }))
along-output name Input declared properties = refl
along-output name Output declared properties = refl

-- ---- a composite of processes

capacities-lawful : (d : DirectorTree) (v : EntityValues) → are_lawful (capacities_of d v) ≡ true → AreCapacitiesIf (is_network d) (capacities_of d v)
capacities-lawful d v h = by_test (is_network d) h
  where
    c : Capacities
    c = record { initial = capacity d v.director.items (codes "initialQueueCapacity"); maximum = capacity d v.director.items (codes "maximumQueueCapacity") }

    by_test : (b : Bool) → are_lawful (if b then Some c else None) ≡ true → AreCapacitiesIf b (if b then Some c else None)
    by_test true h =
        let w = and_parts (nat_lt 0 c.initial) (nat_le c.initial c.maximum) h in
        record { room = ltb-true 0 c.initial w.0; ordered = leb-true c.initial c.maximum w.1; bounded = count-most (integer_of d.class (named d.parameters (map held_view v.director.items)) (codes "maximumQueueCapacity")) }
    by_test false h = tt

numbers-lawful : (d : DirectorTree) (e : NetEntityTree) (v : EntityValues) → e.director ≡ Some d → is_lawful (numbers_of d e.ports v) ≡ true → IsLawful e (numbers_of d e.ports v)
numbers-lawful d e v directed h =
    let n = numbers_of d e.ports v in
    let to_gives = and_parts (are_lawful n.capacities && list_all (nat_lt 0) n.takes) (list_all (nat_lt 0) n.gives) h in
    let to_takes = and_parts (are_lawful n.capacities) (list_all (nat_lt 0) n.takes) to_gives.0 in
    record {
      takes = rates-lawful Input v.rates.items 0 e.ports to_takes.1;
      gives = rates-lawful Output v.rates.items 0 e.ports to_gives.1;
      inputs = rates-count Input v.rates.items is_input_port (λ p. along-input p.name p.direction p.declared p.properties) 0 e.ports;
      outputs = rates-count Output v.rates.items (λ p. not (is_input_port p)) (λ p. along-output p.name p.direction p.declared p.properties) 0 e.ports;
      capacities = λ other is. subst (λ (x : DirectorTree). AreCapacitiesIf (is_network x) (capacities_of d v)) (same_Some d other (sym directed ∙ is)) (capacities-lawful d v to_takes.0);
    }

chosen : (n s : Stated) (b : Bool) → is_lawful n ≡ b → (if b then Some n else None) ≡ Some s → (n ≡ s) × (is_lawful n ≡ true)
chosen n s true is h = (same_Some n s h, is)
chosen n s false is h = absurd (none-some s h)

pub stated-lawful : (values : Values) (k : ℕ) (e : NetEntityTree) (s : Stated) → stated_of values k e ≡ Some s → IsLawful e s
stated-lawful values k e s h = by_director e.director (slice_get values.entities.items k) refl h
  where
    by_class : (d : DirectorTree) (v : EntityValues) (b : Bool) → e.director ≡ Some d → (if b then lawful (numbers_of d e.ports v) else None) ≡ Some s → IsLawful e s
    by_class d v true directed h =
        let w = chosen (numbers_of d e.ports v) s (is_lawful (numbers_of d e.ports v)) refl h in
        subst (IsLawful e) w.0 (numbers-lawful d e v directed w.1)
    by_class d v false directed h = absurd (none-some s h)

    by_director : (o : Option DirectorTree) (v : Option EntityValues) → e.director ≡ o → stated_by o e.ports v ≡ Some s → IsLawful e s
    by_director None v directed h = absurd (none-some s h)
    by_director (Some d) None directed h = absurd (none-some s h)
    by_director (Some d) (Some v) directed h = by_class d v (has_processes d) directed h
