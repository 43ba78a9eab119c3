-- A region with one more cell, with one more queue, and with a spare that has risen.
use Rattle.std.proofs.Common.{◌≡◌, ◌≢◌, ◌⊎◌, inl, inr, ℕ, zero, suc, ◌+◌, ◌-◌, ◌<◌, ◌≤◌, List, [], ◌∷◌, ◌++◌, length, get_or, set, map, sum_by, refl, sym, ap, ap₂, ◌∙◌, subst, arith, eqb, true, false, length-append, length-set, le_refl}
use Rattle.std.proofs.lemmas.List.{get_or-map, get_or_default, map-set, map-append}
use Rattle.std.proofs.lemmas.List.Sums.{sum_by-set, sum_by_push}
use Rattle.std.proofs.lemmas.Bool.Decides.{eqb_tells}
use Rattle.std.proofs.Math.Seq.{map-set_same, get_or-append_seam}
use Rattle.pt_pool.specs.declared.links.Ends.{Ends}
use Rattle.pt_pool.specs.Chains.{chain, times, times_in}
use Rattle.pt_pool.specs.Linked.{chain_of, chains_of, EndsAtTail, IsRegion, no_ends}
use Rattle.pt_pool.specs.Queues.{spare_at}
use Rattle.pt_pool.proofs.Counts.{times-self, times-le, times_in-append}
use Rattle.pt_pool.proofs.ChainLaws.{AgreeBut, chain-kept, tail-kept}
use Rattle.pt_pool.proofs.Lists.{map-same_each, each-set, each-push}
use Rattle.pt_pool.proofs.Regions.{total, chain-at}
use Rattle.pt_pool.proofs.LinkSteps.{spares_of}

get_or-push_other : (xs : List ℕ) (v i : ℕ) → i ≢ length xs → get_or (xs ++ v ∷ []) i 0 ≡ get_or xs i 0
get_or-push_other [] v zero other = absurd (other refl)
get_or-push_other [] v (suc i) other = refl
get_or-push_other (x ∷ xs) v zero other = refl
get_or-push_other (x ∷ xs) v (suc i) other = get_or-push_other xs v i (λ same. other (omega (arith, same)))

module _ (next : List ℕ) (queues : List Ends) (free free_len reserved : ℕ) (region : IsRegion next queues free free_len reserved) where
  abbrev C : List (List ℕ)
  C = chains_of next queues

  abbrev F : List ℕ
  F = chain next free_len free

  -- one more cell, at the front of the free list
  abbrev c₀ : ℕ
  c₀ = length next

  abbrev next' : List ℕ
  next' = next ++ free ∷ []

  agree : AgreeBut c₀ next next'
  agree i other = get_or-push_other next free i other

  none : times c₀ F + times_in c₀ C ≡ 0
  none = region.within c₀ (le_refl c₀)

  no_free : times c₀ F ≡ 0
  no_free = omega (arith, none)

  no_queue : (r : ℕ) → r < length queues → times c₀ (chain_of next (get_or queues r no_ends)) ≡ 0
  no_queue r within = omega (arith, none, times-le c₀ C r, ap (times c₀) (chain-at next queues r within))

  free' : chain next' (suc free_len) c₀ ≡ c₀ ∷ F
  free' = rw (get_or-append_seam next free [] 0) (ap (λ w. c₀ ∷ w) (chain-kept c₀ next next' agree free_len free no_free))

  pub added-chains : chains_of next' queues ≡ C
  added-chains = map-same_each (chain_of next) (chain_of next') queues no_ends (λ r within. let e = get_or queues r no_ends in chain-kept c₀ next next' agree e.len e.head (no_queue r within))

  all' : (c : ℕ) → total next' queues c₀ (suc free_len) c ≡ times c (c₀ ∷ F) + times_in c C
  all' c = ap₂ (λ v w. times c v + times_in c w) free' added-chains

  at_new : total next' queues c₀ (suc free_len) c₀ ≡ 1
  at_new = omega (arith, all' c₀, none, times-self c₀ F)

  at_old : (c : ℕ) → c ≢ c₀ → total next' queues c₀ (suc free_len) c ≡ total next queues free free_len c
  at_old c other = go (eqb_tells c c₀)
    where
      go : ((eqb c c₀ ≡ true) × (c ≡ c₀)) ⊎ ((eqb c c₀ ≡ false) × (c ≢ c₀)) → total next' queues c₀ (suc free_len) c ≡ total next queues free free_len c
      go (inl same) = absurd (other same.1)
      go (inr apart) = all' c ∙ rw apart.0 (omega arith)

  once' : (c : ℕ) → c < length next' → total next' queues c₀ (suc free_len) c ≡ 1
  once' c within = go (eqb_tells c c₀)
    where
      go : ((eqb c c₀ ≡ true) × (c ≡ c₀)) ⊎ ((eqb c c₀ ≡ false) × (c ≢ c₀)) → total next' queues c₀ (suc free_len) c ≡ 1
      go (inl same) = ap (total next' queues c₀ (suc free_len)) same.1 ∙ at_new
      go (inr apart) = at_old c apart.1 ∙ region.once c (omega (arith, within, length-append next (free ∷ []), apart.1))

  pub added : IsRegion next' queues c₀ (free_len + 1) reserved
  added = record {
    once = λ c within. let e : free_len + 1 ≡ suc free_len = omega arith in rw e (once' c within);
    within = λ c past. let e : free_len + 1 ≡ suc free_len = omega arith in rw e (at_old c (λ same. omega (arith, past, same, length-append next (free ∷ []))) ∙ region.within c (omega (arith, past, length-append next (free ∷ []))));
    tails = λ r within. let e = get_or queues r no_ends in tail-kept c₀ next next' agree e.len e.head e.tail (no_queue r within) (region.tails r within);
    counted = omega (arith, region.counted, length-append next (free ∷ []));
    promised = region.promised;
    covered = omega (arith, region.covered);
  }

  -- one more queue, which is empty
  pub opened-chains : chains_of next (queues ++ no_ends ∷ []) ≡ C ++ [] ∷ []
  opened-chains = map-append (chain_of next) queues (no_ends ∷ [])

  pub opened-spares : spares_of (queues ++ no_ends ∷ []) ≡ spares_of queues ++ 0 ∷ []
  opened-spares = map-append (λ e. e.spare) queues (no_ends ∷ [])

  still : (c : ℕ) → total next (queues ++ no_ends ∷ []) free free_len c ≡ total next queues free free_len c
  still c = omega (arith, ap (times_in c) opened-chains, times_in-append c C ([] ∷ []))

  pub opened : IsRegion next (queues ++ no_ends ∷ []) free free_len reserved
  opened = record {
    once = λ c within. still c ∙ region.once c within;
    within = λ c past. still c ∙ region.within c past;
    tails = each-push (EndsAtTail next) queues no_ends no_ends (λ some. omega (arith, some)) region.tails;
    counted = omega (arith, region.counted, sum_by_push (λ e. e.len) queues no_ends);
    promised = omega (arith, region.promised, sum_by_push (λ e. e.spare) queues no_ends);
    covered = region.covered;
  }

  -- the spare of queue q is now n
  module _ (q : ℕ) (given : q < length queues) (e : Ends) (is : e ≡ get_or queues q e) where
    ends : get_or queues q no_ends ≡ e
    ends = get_or_default queues q no_ends e given ∙ sym is

    pub spare-is : spare_at (spares_of queues) q ≡ e.spare
    spare-is = get_or-map (λ x. x.spare) queues q no_ends 0 given ∙ ap (λ x. x.spare) ends

    module _ (n : ℕ) where
      abbrev e' : Ends
      e' = record { head = e.head; tail = e.tail; len = e.len; spare = n }

      pub promised-chains : chains_of next (set queues q e') ≡ C
      promised-chains = map-set_same (chain_of next) queues q e' no_ends (sym (ap (chain_of next) ends))

      pub promised-spares : spares_of (set queues q e') ≡ set (spares_of queues) q n
      promised-spares = map-set (λ x. x.spare) queues q e'

      pub promised : (more : ℕ) → e.spare + more ≡ n → reserved + more ≤ free_len → IsRegion next (set queues q e') free free_len (reserved + more)
      promised more sum room = record {
        once = λ c within. ap (λ w. times c F + times_in c w) promised-chains ∙ region.once c within;
        within = λ c past. ap (λ w. times c F + times_in c w) promised-chains ∙ region.within c past;
        tails = each-set (EndsAtTail next) queues q e' no_ends given (let was : EndsAtTail next e = subst (λ x. EndsAtTail next x) ends (region.tails q given) in was) (λ r within other. region.tails r within);
        counted = omega (arith, region.counted, sum_by-set (λ x. x.len) queues q e' no_ends given, ap (λ x. x.len) ends);
        promised = omega (arith, region.promised, sum_by-set (λ x. x.spare) queues q e' no_ends given, ap (λ x. x.spare) ends, sum);
        covered = room;
      }
