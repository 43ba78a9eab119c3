-- States with the refinements that they name.
use Rattle.std.proofs.Common.{◌≡◌, ℕ, ◌+◌, ◌<◌, List, [], ◌∷◌, length, map, Bool, Option, Some, None, option_map, refl, sym, ap, subst, ◌∙◌, arith}
use Rattle.std.specs.Prelude.{slice_get}
use Rattle.std.specs.List.{All, Contains, enumerate_from}
use Rattle.std.proofs.lemmas.List.{length-map}
use Rattle.std.proofs.lemmas.Option.{slice_get-map, slice_get-get_or, same_Some, none-some}
use Rattle.pt_document.specs.declared.job.State.{State}
use Rattle.pt_document.specs.Names.{below}
use Rattle.pt_net.specs.Net.{NetEntityTree}
use Rattle.pt_chart.specs.Machine.{ModeTree}
use Rattle.pt_machine.specs.declared.cause.Cause.{Cause}
use Rattle.pt_machine.specs.Numbers.{number_of}
use Rattle.pt_machine.specs.Names.{path_of, refinement_path, refinement_of, number_if}
use Rattle.pt_machine.specs.Causes.{IsAtFault, refinement, shared as shared_by, idle as idle_at}
use Rattle.pt_machine.specs.Machines as machines
use Rattle.pt_machine.specs.Machines.{IsRefined, mode_of}
use Rattle.pt_machine.specs.declared.cause.Cause.TheVariants as cause
use Rattle.pt_machine.proofs.NumberLaws.{number-short}
use Rattle.pt_machine_parts.specs.Claims.{AreWithin, AreApart, IsClaimed, IsMisclaimed, shared, idle, bare_mode, AreNamedOnce}
use Rattle.pt_machine_parts.proofs.NameLaws.{not-among}

-- what is in a view is the view of something
unmapped : {X Y : Type 0} (f : X → Y) (xs : List X) (k : ℕ) (y : Y) → slice_get (map f xs) k ≡ Some y → (x : X) × (slice_get xs k ≡ Some x) × (f x ≡ y)
unmapped {X} {Y} f xs k y e = by_element (slice_get xs k) refl
  where
    by_element : (o : Option X) → slice_get xs k ≡ o → (x : X) × (slice_get xs k ≡ Some x) × (f x ≡ y)
    by_element None h = absurd (none-some y (sym (ap (option_map f) h) ∙ sym (slice_get-map f xs k) ∙ e))
    by_element (Some x) h = (x, h, same_Some (f x) y (sym (ap (option_map f) h) ∙ sym (slice_get-map f xs k) ∙ e))

-- ---- one state

module _ (e : NetEntityTree) (kids : List NetEntityTree) (s : State) where
  pub named-refinement : (name : List ℕ) (r : ℕ) → s.refinement ≡ Some name → number_of (map path_of kids) (below e.path name) ≡ Some r → refinement_of e kids s ≡ Some r
  named-refinement name r is number = ap (λ (o : Option (List ℕ)). number_if (map path_of kids) (option_map (below e.path) o)) is ∙ number

  pub no-refinement : s.refinement ≡ None → None ≡ refinement_of e kids s
  no-refinement is = sym (ap (λ (o : Option (List ℕ)). number_if (map path_of kids) (option_map (below e.path) o)) is)

  pub is-refined : (r : ℕ) → refinement_of e kids s ≡ Some r → IsRefined e kids s
  is-refined r number path named = (r, number)

  pub not-refined : s.refinement ≡ None → IsRefined e kids s
  not-refined is path named = absurd (none-some path (sym (ap (option_map (below e.path)) is) ∙ named))

  pub missing : (parted : Bool) (name : List ℕ) → Contains e.states s → s.refinement ≡ Some name → (why : Cause) → (why ≡ cause.Refinement) × (number_of (map path_of kids) (below e.path name) ≡ None) → IsAtFault e kids parted why
  missing parted name there is why w =
      subst (IsAtFault e kids parted) (sym w.0)
      (refinement s (below e.path name) there (ap (option_map (below e.path)) is) (not-among (map path_of kids) (below e.path name) w.1))

-- ---- all states

module _ (e : NetEntityTree) (kids : List NetEntityTree) where
  abbrev claims : List (Option ℕ)
  claims = map (refinement_of e kids) e.states

  short-if : (o : Option (List ℕ)) (r : ℕ) → number_if (map path_of kids) o ≡ Some r → r < length kids
  short-if None r h = absurd (none-some r h)
  short-if (Some path) r h = let short = number-short (map path_of kids) path r h in omega (arith, short, length-map kids path_of)

  pub claims-within : (count : ℕ) → count ≡ length kids → (cs : List (Option ℕ)) → cs ≡ map (refinement_of e kids) e.states → AreWithin count cs
  claims-within count is cs same i r at =
      let w = unmapped (refinement_of e kids) e.states i (Some r) (ap (λ (os : List (Option ℕ)). slice_get os i) (sym same) ∙ at) in
      let short = short-if (refinement_path e w.0) r w.2 in
      omega (arith, short, is)

  mapped-at : (i r : ℕ) (s : State) → slice_get e.states i ≡ Some s → refinement_of e kids s ≡ Some r → slice_get claims i ≡ Some (Some r)
  mapped-at i r s at names = slice_get-map (refinement_of e kids) e.states i ∙ ap (option_map (refinement_of e kids)) at ∙ ap (λ (o : Option ℕ). Some o) names

  state-at : (s : State) → Contains e.states s → (i : ℕ) × (slice_get e.states i ≡ Some s)
  state-at s c = (c.0, slice_get-get_or e.states c.0 s c.1 ∙ ap (λ (t : State). Some t) c.2)

  misclaimed-here : (parted : Bool) (count : ℕ) → count ≡ length kids → (why : Cause) → IsMisclaimed count claims why → IsAtFault e kids parted why
  misclaimed-here parted count is why (shared s) =
      let one = unmapped (refinement_of e kids) e.states s.first (Some s.number) s.one in
      let two = unmapped (refinement_of e kids) e.states s.second (Some s.number) s.two in
      shared_by s.first s.second s.number one.0 two.0 s.differ one.1 two.1 one.2 two.2
  misclaimed-here parted count is why (idle w) =
      idle_at w.number (omega (arith, w.short, is)) (λ s there names. let at = state-at s there in w.none at.0 (mapped-at at.0 w.number s at.1 names))

  pub misclaimed : (parted : Bool) (count : ℕ) → count ≡ length kids → (cs : List (Option ℕ)) → cs ≡ map (refinement_of e kids) e.states → (why : Cause) → IsMisclaimed count cs why → IsAtFault e kids parted why
  misclaimed parted count is cs same why m = misclaimed-here parted count is why (subst (λ (os : List (Option ℕ)). IsMisclaimed count os why) same m)

  pub named-once : (count : ℕ) → count ≡ length kids → (cs : List (Option ℕ)) → cs ≡ map (refinement_of e kids) e.states → All (IsRefined e kids) e.states → AreApart cs → ((r : ℕ) → r < count → IsClaimed cs r) → AreNamedOnce e kids
  named-once count is cs same named apart each = record {
    named = named;
    each = λ r short.
        let c = each r (omega (arith, short, is)) in
        let w = unmapped (refinement_of e kids) e.states c.0 (Some r) (ap (λ (os : List (Option ℕ)). slice_get os c.0) (sym same) ∙ c.1) in
        record { number = c.0; state = w.0; at = w.1; names = w.2 };
    apart = λ i j r s t at at' names names'.
        let apart-here : AreApart (map (refinement_of e kids) e.states) = subst AreApart same apart in
        apart-here i j r (mapped-at i r s at names) (mapped-at j r t at' names');
  }

  bare : (k : ℕ) (states : List State) → map bare_mode (map (refinement_of e kids) states) ≡ map (mode_of e kids []) (enumerate_from k states)
  bare k [] = refl
  bare k (s ∷ states) = ap (λ (ms : List ModeTree). bare_mode (refinement_of e kids s) ∷ ms) (bare (k + 1) states)

  pub bare-modes : (modes : List ModeTree) (cs : List (Option ℕ)) → modes ≡ map bare_mode cs → cs ≡ map (refinement_of e kids) e.states → modes ≡ machines.modes_of e kids []
  bare-modes modes cs made same = made ∙ ap (map bare_mode) same ∙ bare 0 e.states
