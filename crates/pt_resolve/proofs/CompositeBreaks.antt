-- The tests tell at which transparent composites the typing breaks.
use Rattle.std.proofs.Common.{◌≡◌, ◌⊎◌, inl, inr, ℕ, zero, suc, ◌+◌, ◌<◌, Bool, true, false, if◌then◌else◌, List, [], ◌∷◌, length, map, drop, get_or, Option, Some, None, refl, sym, ap, subst, ◌∙◌, arith}
use Rattle.std.proofs.lemmas.Bool.{both_ways, or_cases, or_parts, cond-true, cond-false}
use Rattle.std.specs.Prelude.{slice_get}
use Rattle.pt_document.specs.Document.{PortTree}
use Rattle.pt_datatypes.specs.Order.{is_below}
use Rattle.pt_language.specs.Comparable.{is_general}
use Rattle.pt_net.specs.declared.net.Net.{Net}
use Rattle.pt_net.specs.declared.net.Transparent.{Transparent}
use Rattle.pt_net.specs.Net.{TransparentTree, transparent_view}
use Rattle.pt_typing.specs.declared.variable.Variable.TheVariants.{Port}
use Rattle.pt_typing.specs.Least.{Assignment}
use Rattle.pt_inequalities.specs.Passing.{first_composite, composite_port}
use Rattle.pt_resolve.specs.Faults.{IsBrokenComposite, general_port, over_declared}
use Rattle.pt_resolve.specs.Broken.{has_port_over, has_general, first_such}
use Rattle.pt_inequalities.proofs.Steps.{some-same, none-more, from-next, one-more, drop-one}
use Rattle.pt_resolve.proofs.DeclaredBounds.{port-over, no-port-over}

-- ---- ports

general-port : (a : Assignment) (k i : ℕ) (ps : List PortTree) → has_general a k i ps ≡ true → (j : ℕ) × (p : PortTree) × (slice_get ps j ≡ Some p) × (is_general (a.types (Port k (i + j))) ≡ true)
general-port a k i [] h = cc
general-port a k i (p ∷ ps) h =
    elim (or_cases (is_general (a.types (Port k i))) (has_general a k (suc i) ps) h) [
      | inl here ↦ (0, p, refl, subst (λ n. is_general (a.types (Port k n)) ≡ true) (none-more i) here)
      | inr later ↦ let r = general-port a k (suc i) ps later in (suc r.0, r.1, r.2, subst (λ n. is_general (a.types (Port k n)) ≡ true) (from-next i r.0) r.3)
    ]

no-general-port : (a : Assignment) (k i : ℕ) (ps : List PortTree) → has_general a k i ps ≡ false → (j : ℕ) (p : PortTree) → slice_get ps j ≡ Some p → is_general (a.types (Port k (i + j))) ≡ false
no-general-port a k i [] h zero p e = cc
no-general-port a k i [] h (suc j) p e = cc
no-general-port a k i (q ∷ ps) h zero p e = ap (λ n. is_general (a.types (Port k n))) (sym (none-more i)) ∙ (or_parts (is_general (a.types (Port k i))) (has_general a k (suc i) ps) h).0
no-general-port a k i (q ∷ ps) h (suc j) p e =
    ap (λ n. is_general (a.types (Port k n))) (sym (from-next i j)) ∙ no-general-port a k (suc i) ps (or_parts (is_general (a.types (Port k i))) (has_general a k (suc i) ps) h).1 j p e

-- ---- composites

some-now : (b : Bool) (c k : ℕ) (rest : Option ℕ) → (if b then Some c else rest) ≡ Some k → ((b ≡ true) × (c ≡ k)) ⊎ (rest ≡ Some k)
some-now true c k rest h = inl (refl, some-same c k h)
some-now false c k rest h = inr h

none-now : (b : Bool) (c : ℕ) (rest : Option ℕ) → (if b then Some c else rest) ≡ None → (b ≡ false) × (rest ≡ None)
none-now true c rest h = let wrong : ⊥ = cc in absurd wrong
none-now false c rest h = (refl, h)

module _ (test : ℕ → List PortTree → Bool) (first : ℕ) where
  record Found (c : ℕ) (es : List TransparentTree) (k : ℕ) : Type 0 where
    at : ℕ
    composite : TransparentTree
    number : k ≡ c + at
    is : slice_get es at ≡ Some composite
    holds : test (first + k) composite.ports ≡ true

  found : (c : ℕ) (es : List TransparentTree) (k : ℕ) → first_such test first c es ≡ Some k → Found c es k
  found c [] k h = cc
  found c (e ∷ es) k h =
      elim (some-now (test (first + c) e.ports) c k (first_such test first (suc c) es) h) [
        | inl b ↦ record { at = 0; composite = e; number = sym b.1 ∙ none-more c; is = refl; holds = ap (λ n. test (first + n) e.ports) (sym b.1) ∙ b.0 }
        | inr rest ↦ let r = found (suc c) es k rest in record { at = suc r.at; composite = r.composite; number = r.number ∙ from-next c r.at; is = r.is; holds = r.holds }
      ]

  none : (c : ℕ) (es : List TransparentTree) → first_such test first c es ≡ None → (j : ℕ) (e : TransparentTree) → slice_get es j ≡ Some e → test (first + (c + j)) e.ports ≡ false
  none c [] h zero e is = cc
  none c [] h (suc j) e is = cc
  none c (f ∷ es) h zero e is =
      let n = none-now (test (first + c) f.ports) c (first_such test first (suc c) es) h in
      (λ m. test (first + sym (none-more c) m) (sym (some-same f e is) m).ports) ∙ n.0
  none c (f ∷ es) h (suc j) e is =
      let n = none-now (test (first + c) f.ports) c (first_such test first (suc c) es) h in
      ap (λ m. test (first + m) e.ports) (sym (from-next c j)) ∙ none (suc c) es n.1 j e is

  -- ---- one composite after the other

  such-split : (es : List Transparent) (i : ℕ) (e : Transparent) → i < length es → e ≡ get_or es i e → first_such test first i (map transparent_view (drop i es)) ≡ (if test (first + i) (transparent_view e).ports then Some i else first_such test first (i + 1) (map transparent_view (drop (i + 1) es)))
  such-split es i e short is =
      ap (λ fs. first_such test first i (map transparent_view fs)) (drop-one es i e short is)
      ∙ (λ j. if test (first + i) (transparent_view e).ports then Some i else first_such test first (one-more i j) (map transparent_view (drop (i + 1) es)))

  pub such-here : (es : List Transparent) (i : ℕ) (e : Transparent) (whole : Option ℕ) → i < length es → e ≡ get_or es i e → whole ≡ first_such test first i (map transparent_view (drop i es)) → test (first + i) (transparent_view e).ports ≡ true → Some i ≡ whole
  such-here es i e whole short is h b = sym (h ∙ such-split es i e short is ∙ cond-true (test (first + i) (transparent_view e).ports) (Some i) (first_such test first (i + 1) (map transparent_view (drop (i + 1) es))) b)

  pub such-later : (es : List Transparent) (i : ℕ) (e : Transparent) (whole : Option ℕ) → i < length es → e ≡ get_or es i e → whole ≡ first_such test first i (map transparent_view (drop i es)) → test (first + i) (transparent_view e).ports ≡ false → whole ≡ first_such test first (i + 1) (map transparent_view (drop (i + 1) es))
  such-later es i e whole short is h b = h ∙ such-split es i e short is ∙ cond-false (test (first + i) (transparent_view e).ports) (Some i) (first_such test first (i + 1) (map transparent_view (drop (i + 1) es))) b

-- ---- the net

module _ (net : Net) (a : Assignment) where
  abbrev composites : List TransparentTree
  composites = map transparent_view net.transparent.items

  -- the first with a port that isn't below what it declares, and the first with a general port
  abbrev pub over : Option ℕ
  over = first_such (λ k ps. has_port_over a k 0 ps) (first_composite net) 0 composites

  abbrev pub general : Option ℕ
  general = first_such (λ k ps. has_general a k 0 ps) (first_composite net) 0 composites

  abbrev IsAt : ℕ → Type 0
  IsAt c = (e : TransparentTree) × (slice_get composites c ≡ Some e) × IsBrokenComposite net a e

  from-none : (j : ℕ) → 0 + j ≡ j
  from-none j = omega arith

  pub over-broken : (c : ℕ) → over ≡ Some c → IsAt c
  over-broken c h =
      let r = found (λ k ps. has_port_over a k 0 ps) (first_composite net) 0 composites c h in
      let at : slice_get composites c ≡ Some r.composite = ap (slice_get composites) (r.number ∙ from-none r.at) ∙ r.is in
      let p = port-over a (first_composite net + c) 0 r.composite.ports r.holds in
      (r.composite, at, over_declared c p.at r.composite p.port p.over.bound at p.is p.over.declares (ap (λ n. is_below (a.types (Port (first_composite net + c) n)) p.over.bound) (sym (from-none p.at)) ∙ p.over.over))

  pub general-broken : (c : ℕ) → general ≡ Some c → IsAt c
  general-broken c h =
      let r = found (λ k ps. has_general a k 0 ps) (first_composite net) 0 composites c h in
      let at : slice_get composites c ≡ Some r.composite = ap (slice_get composites) (r.number ∙ from-none r.at) ∙ r.is in
      let p = general-port a (first_composite net + c) 0 r.composite.ports r.holds in
      (r.composite, at, general_port c p.0 r.composite p.1 at p.2 (ap (λ n. is_general (a.types (Port (first_composite net + c) n))) (sym (from-none p.0)) ∙ p.3))

  pub none-broken : over ≡ None → general ≡ None → (e : TransparentTree) → IsBrokenComposite net a e → ⊥
  none-broken o g e (general_port c i e' p at there wrong) =
      let none-here : has_general a (first_composite net + c) 0 e'.ports ≡ false = ap (λ n. has_general a (first_composite net + n) 0 e'.ports) (sym (from-none c)) ∙ none (λ k ps. has_general a k 0 ps) (first_composite net) 0 composites g c e' at in
      both_ways (is_general (a.types (composite_port net c i))) (ap (λ n. is_general (a.types (Port (first_composite net + c) n))) (sym (from-none i)) ∙ no-general-port a (first_composite net + c) 0 e'.ports none-here i p there) wrong
  none-broken o g e (over_declared c i e' p t at there d wrong) =
      let none-here : has_port_over a (first_composite net + c) 0 e'.ports ≡ false = ap (λ n. has_port_over a (first_composite net + n) 0 e'.ports) (sym (from-none c)) ∙ none (λ k ps. has_port_over a k 0 ps) (first_composite net) 0 composites o c e' at in
      both_ways (is_below (a.types (composite_port net c i)) t) wrong (ap (λ n. is_below (a.types (Port (first_composite net + c) n)) t) (sym (from-none i)) ∙ no-port-over a (first_composite net + c) 0 e'.ports none-here i p t there d)

  -- what the program finds among what it holds is the first of the net
  pub over-told : (first : ℕ) (cs : List Transparent) (o : Option ℕ) → first ≡ first_composite net → cs ≡ net.transparent.items → o ≡ first_such (λ k ps. has_port_over a k 0 ps) first 0 (map transparent_view cs) → over ≡ o
  over-told first cs o f s h = sym (h ∙ (λ j. first_such (λ k ps. has_port_over a k 0 ps) (f j) 0 (map transparent_view (s j))))

  pub general-told : (first : ℕ) (cs : List Transparent) (o : Option ℕ) → first ≡ first_composite net → cs ≡ net.transparent.items → o ≡ first_such (λ k ps. has_general a k 0 ps) first 0 (map transparent_view cs) → general ≡ o
  general-told first cs o f s h = sym (h ∙ (λ j. first_such (λ k ps. has_general a k 0 ps) (f j) 0 (map transparent_view (s j))))
