-- What the children of a composite of SDF need, give and have at first, in one list each.
use Rattle.std.proofs.Common.{◌≡◌, ◌≤◌, ◌<◌, ◌^◌, ℕ, zero, suc, List, [], ◌∷◌, Option, Some, None, length, map, take, drop, get_or, refl, sym, ap, ap₂, subst, ◌∙◌, arith}
use Rattle.std.specs.Prelude.{slice_get, count_by}
use Rattle.std.specs.List.{AllByRecursion}
use Rattle.std.proofs.lemmas.List.{length-drop, take-append-drop}
use Rattle.std.proofs.lemmas.Option.{none-some, same_Some}
use Rattle.pt_meaning.specs.Machine.{Need, Counts}
use Rattle.pt_meaning.specs.Net as net_spec
use Rattle.pt_meaning.specs.NodeFacts.{facts_of, need_of}
use Rattle.pt_meaning.specs.Running.{total}
use Rattle.pt_meaning.specs.Start.{first_of, first_of_node}
use Rattle.pt_meaning.specs.Streams.{get}
use Rattle.pt_net.specs.declared.net.Net.{Net}
use Rattle.pt_net.specs.declared.net.NetEntity.{NetEntity}
use Rattle.pt_net.specs.Inside.{is_output}
use Rattle.pt_sdf_parts.specs.ByNeed.{needs_of, planned}
use Rattle.pt_library.specs.LibraryActor.{rows}
use Rattle.pt_node.specs.View.{Tree}
use Rattle.pt_trees.specs.Around.{declared_at}
use Rattle.pt_trees.specs.Rates.{rates_given, all_given}
use Rattle.pt_trees.specs.Sdf.{first_counts}
use Rattle.pt_trees.specs.Trees.{IsEntity, Starts, declared_by, IsTree, AreTrees, no_trees, more_trees}
use Rattle.pt_order.proofs.Blocks.{all-append}
use Rattle.pt_plannable.proofs.Counts.{AreRates}
use Rattle.pt_plannable.proofs.Declared.{AreGiven}
use Rattle.pt_plannable.proofs.Kids.{IsPlannable}

module _ (net : Net) (starts : Starts) where
  -- ---- children

  -- the tree of the entity of this number is plannable
  pub record IsPlannableAt (c : ℕ) (kid : Tree) : Type 0 where
    pub entity : NetEntity
    pub there : IsEntity net c entity
    pub is : IsPlannable entity (declared_by starts c) kid

  -- so is each of these
  abbrev pub ArePlannable : List ℕ → List Tree → Type 0
  ArePlannable [] [] = Unit {0}
  ArePlannable [] (t ∷ ts) = ⊥
  ArePlannable (c ∷ cs) [] = ⊥
  ArePlannable (c ∷ cs) (t ∷ ts) = IsPlannableAt c t × ArePlannable cs ts

  pub all-plannable : {cs : List ℕ} {ts : List Tree} → AreTrees net starts cs ts → ((i c : ℕ) (kid : Tree) → slice_get cs i ≡ Some c → IsTree net starts c kid → IsPlannableAt c kid) → ArePlannable cs ts
  all-plannable no_trees h = tt
  all-plannable (more_trees c cs t ts one all) h = (h 0 c t refl one, all-plannable all (λ i d kid at is. h (suc i) d kid at is))

  pub plannable-long : (cs : List ℕ) (ts : List Tree) → ArePlannable cs ts → length ts ≡ length cs
  plannable-long [] [] a = refl
  plannable-long [] (t ∷ ts) a = absurd a
  plannable-long (c ∷ cs) [] a = absurd a
  plannable-long (c ∷ cs) (t ∷ ts) a = ap (λ n. suc n) (plannable-long cs ts a.1)

  -- ---- needs

  counts-same : (ms ns : List ℕ) → Counts ms ≡ Counts ns → ms ≡ ns
  counts-same ms ns e = cc

  head-same : (m n : Need) (ms ns : List Need) → m ∷ ms ≡ n ∷ ns → m ≡ n
  head-same m n ms ns e = cc

  tail-same : (m n : Need) (ms ns : List Need) → m ∷ ms ≡ n ∷ ns → ms ≡ ns
  tail-same m n ms ns e = cc

  none-left : (ns : List ℕ) → length ns ≡ 0 → AreRates ns
  none-left [] e = tt
  none-left (n ∷ ns) e = absurd (omega (arith, e))

  -- the numbers by which the children are planned are such as they need
  pub needs-rates : (cs : List ℕ) (ts : List Tree) (places ns : List ℕ) → ArePlannable cs ts → needs_of (facts_of rows) ts ≡ planned places ns → length ns ≡ total places → AreRates ns
  needs-rates [] [] [] ns a e counted = none-left ns counted
  needs-rates [] [] (p ∷ ps) ns a e counted = absurd (cc)
  needs-rates [] (t ∷ ts) places ns a e counted = absurd a
  needs-rates (c ∷ cs) [] places ns a e counted = absurd a
  needs-rates (c ∷ cs) (t ∷ ts) [] ns a e counted = absurd (cc)
  needs-rates (c ∷ cs) (t ∷ ts) (p ∷ ps) ns a e counted =
      let here : need_of rows t ≡ Counts (take p ns) = head-same (need_of rows t) (Counts (take p ns)) (needs_of (facts_of rows) ts) (planned ps (drop p ns)) e in
      let later : needs_of (facts_of rows) ts ≡ planned ps (drop p ns) = tail-same (need_of rows t) (Counts (take p ns)) (needs_of (facts_of rows) ts) (planned ps (drop p ns)) e in
      let shorter = length-drop p ns in
      let rest : length (drop p ns) ≡ total ps = omega (arith, shorter, counted) in
      subst AreRates (take-append-drop p ns) (all-append (λ (n : ℕ). (0 < n) × (n ≤ 1000000)) (take p ns) (drop p ns) (a.0.is.needs (take p ns) here) (needs-rates cs ts ps (drop p ns) a.1 later rest))

  -- ---- rates

  -- these are the rates of the entity of that number
  pub record IsGivenAt (c : ℕ) (rs : List ℕ) : Type 0 where
    pub entity : NetEntity
    pub there : IsEntity net c entity
    pub is : AreGiven entity rs

  abbrev pub AllGiven : List ℕ → List (List ℕ) → Type 0
  AllGiven [] [] = Unit {0}
  AllGiven [] (rs ∷ rates) = ⊥
  AllGiven (c ∷ cs) [] = ⊥
  AllGiven (c ∷ cs) (rs ∷ rates) = IsGivenAt c rs × AllGiven cs rates

  -- rates of the children, and that each is given
  pub record HasRates (cs : List ℕ) (ts : List Tree) : Type 0 where
    pub rates : List (List ℕ)
    pub are : map (λ (rs : List ℕ). Some rs) rates ≡ all_given (map (declared_by starts) cs) ts
    pub given : AllGiven cs rates

  with-rates : (c : ℕ) (t : Tree) (cs : List ℕ) (ts : List Tree) → IsPlannableAt c t → (o : Option (List ℕ)) → rates_given (declared_by starts c) t ≡ o → (o ≡ None → ⊥) → HasRates cs ts → HasRates (c ∷ cs) (t ∷ ts)
  with-rates c t cs ts is None given some more = absurd (some refl)
  with-rates c t cs ts is (Some rs) given some more = record { rates = rs ∷ more.rates; are = ap₂ (λ o os. o ∷ os) (sym given) more.are; given = (record { entity = is.entity; there = is.there; is = is.is.gives rs given }, more.given) }

  pub rates-there : (cs : List ℕ) (ts : List Tree) → ArePlannable cs ts → ((i : ℕ) (kid : Tree) → get ts i ≡ Some kid → rates_given (declared_at (map (declared_by starts) cs) i) kid ≡ None → ⊥) → HasRates cs ts
  rates-there [] [] a some = record { rates = []; are = refl; given = tt }
  rates-there [] (t ∷ ts) a some = absurd a
  rates-there (c ∷ cs) [] a some = absurd a
  rates-there (c ∷ cs) (t ∷ ts) a some = with-rates c t cs ts a.0 (rates_given (declared_by starts c) t) refl (some 0 t refl) (rates-there cs ts a.1 (λ i kid at none. some (suc i) kid at none))

  pub given-long : (cs : List ℕ) (rates : List (List ℕ)) → AllGiven cs rates → length rates ≡ length cs
  given-long [] [] a = refl
  given-long [] (rs ∷ rates) a = absurd a
  given-long (c ∷ cs) [] a = absurd a
  given-long (c ∷ cs) (rs ∷ rates) a = ap (λ n. suc n) (given-long cs rates a.1)

  pub given-rates : (cs : List ℕ) (rates : List (List ℕ)) → AllGiven cs rates → AllByRecursion AreRates rates
  given-rates [] [] a = tt
  given-rates [] (rs ∷ rates) a = absurd a
  given-rates (c ∷ cs) [] a = absurd a
  given-rates (c ∷ cs) (rs ∷ rates) a = (a.0.is.rates, given-rates cs rates a.1)

  -- the entity at a number among the children has a rate for each output
  pub given-outputs : (cs : List ℕ) (rates : List (List ℕ)) (i c : ℕ) (e : NetEntity) → AllGiven cs rates → get cs i ≡ Some c → IsEntity net c e → length (get_or rates i []) ≡ count_by is_output e.ports.items
  given-outputs [] rates i c e a at there = absurd (none-some c at)
  given-outputs (d ∷ cs) [] i c e a at there = absurd a
  given-outputs (d ∷ cs) (rs ∷ rates) zero c e a at there =
      let same : a.0.entity ≡ e = same_Some a.0.entity e (sym a.0.there ∙ ap (λ m. slice_get net.entities.items m) (same_Some d c at) ∙ there) in
      a.0.is.counted ∙ ap (λ (x : NetEntity). count_by is_output x.ports.items) same
  given-outputs (d ∷ cs) (rs ∷ rates) (suc i) c e a at there = given-outputs cs rates i c e a.1 at there

  -- ---- first tokens

  first-at : (cs : List ℕ) (ts : List Tree) (i : ℕ) → ArePlannable cs ts → length (first_of_node rows (get ts i)) ≤ 65536
  first-at [] [] i a = omega arith
  first-at [] (t ∷ ts) i a = absurd a
  first-at (c ∷ cs) [] i a = absurd a
  first-at (c ∷ cs) (t ∷ ts) zero a = a.0.is.first
  first-at (c ∷ cs) (t ∷ ts) (suc i) a = first-at cs ts i a.1

  first-by : (cs : List ℕ) (ts : List Tree) (s : net_spec.Source) → ArePlannable cs ts → length (first_of rows ts s) ≤ 2 ^ 32
  first-by cs ts (net_spec.Own port) a = omega arith
  first-by cs ts (net_spec.Output child port) a = let few = first-at cs ts child a in omega (arith, few)

  pub firsts-few : (cs : List ℕ) (ts : List Tree) (sources : List net_spec.Source) → ArePlannable cs ts → AllByRecursion (λ n. n ≤ 2 ^ 32) (first_counts ts sources)
  firsts-few cs ts [] a = tt
  firsts-few cs ts (s ∷ sources) a = (first-by cs ts s a, firsts-few cs ts sources a)

  pub firsts-long : (ts : List Tree) (sources : List net_spec.Source) → length (first_counts ts sources) ≡ length sources
  firsts-long ts [] = refl
  firsts-long ts (s ∷ sources) = ap (λ n. suc n) (firsts-long ts sources)
