-- Which own inputs feed nothing, one channel and one input more at a time.
use Rattle.std.proofs.Common.{◌≡◌, ℕ, ◌+◌, ◌<◌, ◌≤◌, Bool, true, false, cond, not, ◌||◌, List, [], ◌∷◌, ◌++◌, length, get_or, take, map, filter, All, refl, ap, ap₂, sym, ◌∙◌, arith, length-append}
use Rattle.std.specs.List.{range_with_len}
use Rattle.std.proofs.lemmas.List.{map-id, length-map, take_more}
use Rattle.std.proofs.lemmas.List.Elements.{All-append, All-filter, All-map}
use Rattle.std.proofs.lemmas.List.FromFn.{filter_of_map_range_with_len_more, length-range_with_len, get_or-range_with_len}
use Rattle.pt_core.specs.declared.source.Source.{Source}
use Rattle.pt_plan.specs.Inside.{IsThere}
use Rattle.pt_plan.specs.Unfed.{is_own, feeds, is_unfed, unfed_among, unfed, own, sources_of, no_tokens, first_of}
use Rattle.pt_plan.specs.declared.inside.Inside.{Inside}

or-none : (b : Bool) → (b || false) ≡ b
or-none true = refl
or-none false = refl

or-three : (a b c : Bool) → (a || (b || c)) ≡ ((a || b) || c)
or-three true b c = refl
or-three false b c = refl

feeds-push : (sources : List Source) (source : Source) (port : ℕ) → feeds (sources ++ source ∷ []) port ≡ (feeds sources port || is_own port source)
feeds-push [] source port = or-none (is_own port source)
feeds-push (s ∷ sources) source port = ap (λ b. is_own port s || b) (feeds-push sources source port) ∙ or-three (is_own port s) (feeds sources port) (is_own port source)

-- one channel more
pub feeds-more : (sources : List Source) (i : ℕ) (d : Source) (port : ℕ) → i < length sources → feeds (take (i + 1) sources) port ≡ (feeds (take i sources) port || is_own port (get_or sources i d))
feeds-more sources i d port h = ap (λ v. feeds v port) (take_more sources i d h) ∙ feeds-push (take i sources) (get_or sources i d) port

-- one own input more
pub unfed-more : (sources : List Source) (n : ℕ) → unfed_among sources (n + 1) ≡ unfed_among sources n ++ cond (is_unfed sources n) (n ∷ []) []
unfed-more sources n =
    ap (filter (is_unfed sources)) (sym (map-id (range_with_len 0 (n + 1)))) ∙ filter_of_map_range_with_len_more (is_unfed sources) (λ k. k) 0 n n (omega arith) ∙
    ap (λ v. filter (is_unfed sources) v ++ cond (is_unfed sources n) (n ∷ []) []) (map-id (range_with_len 0 n))

-- the list goes on with an own input that isn't fed
pub unfed-step : (sources : List Source) (n : ℕ) (b : Bool) (list : List ℕ) → b ≡ feeds sources n → list ≡ unfed_among sources n → list ++ cond (not b) (n ∷ []) [] ≡ unfed_among sources (n + 1)
unfed-step sources n b list is before = ap₂ (λ v w. v ++ cond (not w) (n ∷ []) []) before is ∙ sym (unfed-more sources n)

below-all : (n : ℕ) → All (λ port. port < n) (range_with_len 0 n)
below-all n k d h = omega (arith, h, length-range_with_len 0 n, get_or-range_with_len 0 n k d (omega (arith, h, length-range_with_len 0 n)))

-- each is one of the own inputs
pub unfed-below : (sources : List Source) (n : ℕ) → All (λ port. port < n) (unfed_among sources n)
unfed-below sources n = All-filter (is_unfed sources) (λ port. port < n) (range_with_len 0 n) (below-all n)

cond-fewer : (b : Bool) (n : ℕ) (ports : List ℕ) → length (cond b (n ∷ ports) ports) ≤ length ports + 1
cond-fewer true n ports = omega arith
cond-fewer false n ports = omega arith

filter-fewer : (p : ℕ → Bool) (ports : List ℕ) → length (filter p ports) ≤ length ports
filter-fewer p [] = omega arith
filter-fewer p (n ∷ ports) = omega (arith, cond-fewer (p n) n (filter p ports), filter-fewer p ports)

-- there are no more than own inputs
pub unfed-few : (sources : List Source) (n : ℕ) → length (unfed_among sources n) ≤ n
unfed-few sources n = omega (arith, filter-fewer (is_unfed sources) (range_with_len 0 n), length-range_with_len 0 n)

module _ (x : Inside) where
  -- a channel more for each
  pub sources-long : length (sources_of x) ≡ length x.sources.items + length (unfed x)
  sources-long = length-append x.sources.items (map own (unfed x)) ∙ ap (λ n. length x.sources.items + n) (length-map (unfed x) own)

  pub first-long : length (first_of x) ≡ length x.first + length (unfed x)
  first-long = length-append x.first (map no_tokens (unfed x)) ∙ ap (λ n. length x.first + n) (length-map (unfed x) no_tokens)

  -- each channel of the plan begins at something that is there
  pub sources-there : All (IsThere x) x.sources.items → All (IsThere x) (sources_of x)
  sources-there there = All-append (IsThere x) x.sources.items (map own (unfed x)) there (All-map (IsThere x) own (unfed x) (unfed-below x.sources.items x.inputs))
