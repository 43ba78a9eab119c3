-- Who gives to each group, one gift on.
use Rattle.std.proofs.Common.{◌≡◌, ◌≢◌, ℕ, ◌+◌, ◌<◌, ◌≤◌, inl, inr, Bool, Option, Some, None, List, ◌++◌, length, get_or, set, take, map, sym, ap, subst, ◌∙◌, arith, get_or-set_same, get_or-set_other, length-set}
use Rattle.std.proofs.lemmas.Bool.{cases_eq}
use Rattle.std.proofs.lemmas.List.{get_or_default}
use Rattle.std.specs.List.{Contains}
use Rattle.pt_net.specs.declared.wire.Wire.{Wire}
use Rattle.pt_net.specs.Table.{PortAt}
use Rattle.pt_graph.specs.Sources.{giving, gifts_among, HasOneGiver, HasTwoGivers, AreGivers}
use Rattle.pt_net.proofs.Members.{flat_more}

abbrev pub Gift : Type 0
Gift = ℕ × ℕ

module _ (count i : ℕ) (group : List ℕ) (given : List Gift) (givers : List (Option ℕ)) (so_far : AreGivers count i group given givers) (within : i < length given) where
  abbrev g : ℕ
  g = (get_or given i (0, 0)).0

  abbrev r : ℕ
  r = (get_or given i (0, 0)).1

  abbrev c : ℕ
  c = get_or group r 0

  here : Contains given (g, r)
  here = (i, within, get_or_default given i (g, r) (0, 0) within)

  pub two_givers : (other : ℕ) → get_or givers c None ≡ Some other → other ≢ g → HasTwoGivers group given r
  two_givers other e ne =
      let w = so_far.sound c other e in
      record { first = g; second = other; other = w.0; gives_first = here; gives_second = w.1; together = sym w.2; apart = λ h. ne (sym h) }

  pub one_more : c < count → ((other : ℕ) → get_or givers c None ≡ Some other → other ≡ g) → AreGivers count (i + 1) group given (set givers c (Some g))
  one_more below free = record { each = length-set givers c (Some g) ∙ so_far.each; sound = sound; complete = complete }
    where
      at_c : get_or (set givers c (Some g)) c None ≡ Some g
      at_c = get_or-set_same givers c (Some g) None (omega (arith, so_far.each))

      sound : (c' g' : ℕ) → get_or (set givers c (Some g)) c' None ≡ Some g' → (s : ℕ) × Contains given (g', s) × (get_or group s 0 ≡ c')
      sound c' g' e = elim (cases_eq c' c) [ inl same ↦ same_group same | inr ne ↦ so_far.sound c' g' (sym (get_or-set_other givers c c' (Some g) None ne) ∙ e) ]
        where
          same_group : c' ≡ c → (s : ℕ) × Contains given (g', s) × (get_or group s 0 ≡ c')
          same_group same =
              let a : Some g ≡ Some g' = sym at_c ∙ ap (λ k. get_or (set givers c (Some g)) k None) (sym same) ∙ e in
              let b : g ≡ g' = cc in
              (r, subst (λ h. Contains given (h, r)) b here, sym same)

      complete : (k : ℕ) → k < i + 1 → get_or (set givers c (Some g)) (get_or group (get_or given k (0, 0)).1 0) None ≡ Some (get_or given k (0, 0)).0
      complete k lt = elim (cases_eq k i) [ inl e ↦ newest e | inr ne ↦ earlier (omega arith) ]
        where
          newest : k ≡ i → get_or (set givers c (Some g)) (get_or group (get_or given k (0, 0)).1 0) None ≡ Some (get_or given k (0, 0)).0
          newest e = subst (λ j. get_or (set givers c (Some g)) (get_or group (get_or given j (0, 0)).1 0) None ≡ Some (get_or given j (0, 0)).0) (sym e) at_c

          earlier : k < i → get_or (set givers c (Some g)) (get_or group (get_or given k (0, 0)).1 0) None ≡ Some (get_or given k (0, 0)).0
          earlier lt' =
              elim (cases_eq (get_or group (get_or given k (0, 0)).1 0) c) [
                | inl same ↦ (let had = so_far.complete k lt' in
                    let f : (get_or given k (0, 0)).0 ≡ g = free (get_or given k (0, 0)).0 (ap (λ j. get_or givers j None) (sym same) ∙ had) in
                    ap (λ j. get_or (set givers c (Some g)) j None) same ∙ at_c ∙ ap Some (sym f))
                | inr ne ↦ get_or-set_other givers c _ (Some g) None ne ∙ so_far.complete k lt'
              ]

pub one_giver : (count i : ℕ) (group : List ℕ) (given : List Gift) (givers : List (Option ℕ)) → length given ≤ i → AreGivers count i group given givers → HasOneGiver group given
one_giver count i group given givers whole all g r h s x y together =
    let a : get_or given x.0 (0, 0) ≡ (g, r) = get_or_default given x.0 (0, 0) (g, r) x.1 ∙ x.2 in
    let b : get_or given y.0 (0, 0) ≡ (h, s) = get_or_default given y.0 (0, 0) (h, s) y.1 ∙ y.2 in
    let p : get_or givers (get_or group r 0) None ≡ Some g = subst (λ (q : Gift). get_or givers (get_or group q.1 0) None ≡ Some q.0) a (all.complete x.0 (omega (arith, x.1))) in
    let q : get_or givers (get_or group s 0) None ≡ Some h = subst (λ (q : Gift). get_or givers (get_or group q.1 0) None ≡ Some q.0) b (all.complete y.0 (omega (arith, y.1))) in
    let k : get_or givers (get_or group r 0) None ≡ get_or givers (get_or group s 0) None = ap (λ j. get_or givers j None) together in
    cc

-- the gifts of one port more
pub gifts_more : (ws : List Wire) (kept_only : Bool) (ports : List PortAt) (i : ℕ) (p : PortAt) → i < length ports → get_or ports i p ≡ p → gifts_among ws kept_only (take (i + 1) ports) ≡ gifts_among ws kept_only (take i ports) ++ map (λ r. (i, r)) (giving ws kept_only (i, p))
gifts_more ws kept_only ports i p within is = flat_more (λ q. map (λ r. (q.0, r)) (giving ws kept_only q)) ports i p within is
