-- How full the channels are, and that the order never lacks a token.
use Rattle.std.proofs.Common.{◌≡◌, ℕ, zero, suc, ◌+◌, ◌-◌, ◌*◌, ◌/◌, ◌<◌, ◌≤◌, List, [], ◌∷◌, Bool, true, false, length, get_or, take, nat_eq, if◌then◌else◌, refl, ap, ap₂, sym, subst, ◌∙◌, arith, min}
use Rattle.pt_meaning.specs.Streams.{Streams, at}
use Rattle.pt_meaning.specs.Net.{Source, Own, Output}
use Rattle.pt_meaning.specs.Sdf.{SdfPlan, number_at}
use Rattle.pt_sdf_parts.specs.Lawful.{occurs, rate_at, IsSupplied}
use Rattle.pt_sdf.specs.Core.{IsLevel}
use Rattle.pt_sdf_parts.proofs.FeedLaws.{IsWithin}
use Rattle.pt_meaning.specs.Sdf.{allows, all_allow}
use Rattle.pt_meaning.specs.Running.{puts_on}
use Rattle.std.proofs.lemmas.Bool.Decides.{nat_tests}
use Rattle.std.proofs.Common.{Option, Some, None}
use Rattle.std.proofs.Math.Nat.{le_trans, mul-le-mul_right, div-mul-le_self}

module _ (p : SdfPlan) (order : List ℕ) (turns first held need i : ℕ) where
  -- where child i is next there are as many tokens as it needs
  pub enough-there : (w n : ℕ) (taken fired : List ℕ) (s : Source) → IsSupplied p order first i need s → IsLevel p turns first held need i taken fired s → n < length order → get_or order n 0 ≡ i → w < turns →
      i < length p.net.places → IsWithin (length p.net.places) s → ((j : ℕ) → j < length p.net.places → get_or fired j 0 ≡ w * get_or p.repetitions j 0 + occurs j (take n order)) → get_or taken i 0 ≡ get_or fired i 0 → occurs i (take n order) + 1 ≤ get_or p.repetitions i 0 → need ≤ held
  enough-there w n taken fired (Own port) a l h e t b u f g o =
      let q : ℕ = get_or p.repetitions i 0 in
      let x : ℕ = occurs i (take n order) in
      let y : get_or taken i 0 ≡ w * q + x = g ∙ f i b in
      let z : need * (w * q + x + 1) ≤ need * (turns * q) = more need (w * q + x + 1) (turns * q) (turn w q x turns t o) in
      omega (arith, subst (λ v. need * (turns * q) ≤ held + need * v) y l, z, spread need (w * q + x))
    where
      more : (n a b : ℕ) → a ≤ b → n * a ≤ n * b
      more n a b h = grind arith

      turn : (w q x t : ℕ) → w < t → x + 1 ≤ q → w * q + x + 1 ≤ t * q
      turn w q x t h o = let k : (w + 1) * q ≤ t * q = grind arith in omega (arith, k)

      spread : (n a : ℕ) → n * (a + 1) ≡ n * a + n
      spread n a = omega arith
  enough-there w n taken fired (Output j port) a l h e t c u f g o =
      let q : ℕ = get_or p.repetitions i 0 in
      let x : ℕ = occurs i (take n order) in
      let r : ℕ = rate_at p.rates j port in
      let y : get_or taken i 0 ≡ w * q + x = g ∙ f i c in
      let b : held + need * (w * q + x) ≡ first + r * (w * get_or p.repetitions j 0 + occurs j (take n order)) = subst (λ v. held + need * v ≡ first + r * (w * get_or p.repetitions j 0 + occurs j (take n order))) y (l ∙ ap (λ v. first + r * v) (f j u)) in
      settle held need first r w q x (get_or p.repetitions j 0) (occurs j (take n order)) b (a.1 n h e) a.0
    where
      settle : (held need first r w q x p y : ℕ) → held + need * (w * q + x) ≡ first + r * (w * p + y) → need * (x + 1) ≤ first + r * y → need * q ≡ r * p → need ≤ held
      settle held need first r w q x p y b c d =
          let e : need * (w * q + x) ≡ w * (need * q) + need * x = omega arith in
          let f : r * (w * p + y) ≡ w * (r * p) + r * y = omega arith in
          let g : w * (need * q) ≡ w * (r * p) = ap (λ v. w * v) d in
          omega (arith, b, c, e, f, g)

  -- the child takes what it needs
  pub level-taken : (taken taken' fired : List ℕ) (s : Source) → IsLevel p turns first held need i taken fired s → need ≤ held → get_or taken' i 0 ≡ get_or taken i 0 + 1 → IsLevel p turns first (held - need) need i taken' fired s
  level-taken taken taken' fired (Own port) l h e =
      subst (λ v. need * (turns * get_or p.repetitions i 0) ≤ held - need + need * v) (sym e) (omega (arith, l, h, spread need (get_or taken i 0)))
    where
      spread : (n a : ℕ) → n * (a + 1) ≡ n * a + n
      spread n a = omega arith
  level-taken taken taken' fired (Output j port) l h e =
      subst (λ v. held - need + need * v ≡ first + rate_at p.rates j port * get_or fired j 0) (sym e) (omega (arith, l, h, spread need (get_or taken i 0)))
    where
      spread : (n a : ℕ) → n * (a + 1) ≡ n * a + n
      spread n a = omega arith

  -- the count of another child doesn't matter
  pub level-same : (held' : ℕ) (taken taken' fired fired' : List ℕ) (s : Source) → IsLevel p turns first held need i taken fired s → held' ≡ held → get_or taken' i 0 ≡ get_or taken i 0 → ((j : ℕ) → get_or fired' j 0 ≡ get_or fired j 0) → IsLevel p turns first held' need i taken' fired' s
  level-same held' taken taken' fired fired' (Own port) l h e f = subst (λ v. need * (turns * get_or p.repetitions i 0) ≤ held' + need * v) (sym e) (subst (λ v. need * (turns * get_or p.repetitions i 0) ≤ v + need * get_or taken i 0) (sym h) l)
  level-same held' taken taken' fired fired' (Output j port) l h e f =
      ap₂ (λ x y. x + need * y) h e ∙ l ∙ ap (λ v. first + rate_at p.rates j port * v) (sym (f j))

  -- child x was told what it gave
  pub level-told : {T : Type 0} (x : ℕ) (out : Streams T) (taken fired fired' : List ℕ) (s : Source) → IsLevel p turns first held need i taken fired s → ((port : ℕ) → s ≡ Output x port → length (at out port) ≡ rate_at p.rates x port) → get_or fired' i 0 ≡ get_or taken i 0 →
      get_or fired' x 0 ≡ get_or fired x 0 + 1 → ((j : ℕ) → (j ≡ x → ⊥) → get_or fired' j 0 ≡ get_or fired j 0) → IsLevel p turns first (held + length (puts_on x out s)) need i fired' fired' s
  level-told x out taken fired fired' (Own port) l r e a b = subst (λ v. need * (turns * get_or p.repetitions i 0) ≤ held + 0 + need * v) (sym e) (omega (arith, l))
  level-told {T} x out taken fired fired' (Output j port) l r e a b = told-by (nat_eq j x) refl
    where
      told-by : (c : Bool) → nat_eq j x ≡ c → held + length (if c then at out port else []) + need * get_or fired' i 0 ≡ first + rate_at p.rates j port * get_or fired' j 0
      told-by true t =
          let z : j ≡ x = grind (arith, nat_tests, t) in
          let g : length (at out port) ≡ rate_at p.rates j port = r port (ap (λ v. Output v port) z) ∙ ap (λ v. rate_at p.rates v port) (sym z) in
          let h : get_or fired' j 0 ≡ get_or fired j 0 + 1 = ap (λ v. get_or fired' v 0) z ∙ a ∙ ap (λ v. get_or fired v 0 + 1) (sym z) in
          given held need first (rate_at p.rates j port) (get_or taken i 0) (get_or fired' i 0) (get_or fired j 0) (get_or fired' j 0) (length (at out port)) l g e h
        where
          given : (held need first r t t' f f' n : ℕ) → held + need * t ≡ first + r * f → n ≡ r → t' ≡ t → f' ≡ f + 1 → held + n + need * t' ≡ first + r * f'
          given held need first r t t' f f' n l g e h = ap₂ (λ u v. held + u + need * v) g e ∙ joined held (need * t) r first (r * f) l ∙ sym (ap (λ v. first + r * v) h ∙ ap (λ v. first + v) (spread r f))
            where
              joined : (a b r c d : ℕ) → a + b ≡ c + d → a + r + b ≡ c + (d + r)
              joined a b r c d h = omega arith

              spread : (n a : ℕ) → n * (a + 1) ≡ n * a + n
              spread n a = omega arith
      told-by false t =
          let h : get_or fired' j 0 ≡ get_or fired j 0 = b j (λ z. absurd (grind (arith, nat_tests, t, z))) in
          ap (λ v. held + 0 + need * v) e ∙ ap (λ v. v + need * get_or taken i 0) (none held) ∙ l ∙ ap (λ v. first + rate_at p.rates j port * v) (sym h)
        where
          none : (n : ℕ) → n + 0 ≡ n
          none n = omega arith

  -- nothing has happened yet
  pub level-start : (zeros' : List ℕ) (s : Source) → held ≡ first → turns ≡ 0 → ((j : ℕ) → get_or zeros' j 0 ≡ 0) → IsLevel p turns first held need i zeros' zeros' s
  level-start zeros' (Own port) h t z = let k : turns * get_or p.repetitions i 0 ≡ 0 = ap (λ v. v * get_or p.repetitions i 0) t ∙ omega arith in subst (λ v. need * v ≤ held + need * get_or zeros' i 0) (sym k) (omega arith)
  level-start zeros' (Output j port) h t z = ap₂ (λ x y. x + need * y) h (z i) ∙ nothing first need (rate_at p.rates j port) ∙ ap (λ v. first + rate_at p.rates j port * v) (sym (z j))
    where
      nothing : (a b c : ℕ) → a + b * 0 ≡ a + c * 0
      nothing a b c = omega arith

  -- whole turns were made, so that the channels from children hold what they held first; and then the inputs of as many turns as they allow arrive
  pub level-begun : (turns' held' : ℕ) (fired zeros' : List ℕ) (s : Source) → IsSupplied p order first i need s → IsLevel p turns first held need i fired fired s → ((j : ℕ) → get_or fired j 0 ≡ turns * get_or p.repetitions j 0) → ((j : ℕ) → get_or zeros' j 0 ≡ 0) →
      ((child port : ℕ) → s ≡ Output child port → held' ≡ held) → ((port : ℕ) → s ≡ Own port → turns' ≤ held' / number_at p.takes port) → IsLevel p turns' first held' need i zeros' zeros' s
  level-begun turns' held' fired zeros' (Own port) a l f z g h =
      let q : ℕ = get_or p.repetitions i 0 in
      let b : turns' * number_at p.takes port ≤ held' = within turns' held' (number_at p.takes port) (h port refl) in
      let c : need * (turns' * q) ≡ turns' * number_at p.takes port = shift need turns' q ∙ ap (λ v. turns' * v) a in
      omega (arith, b, c)
    where
      shift : (n t q : ℕ) → n * (t * q) ≡ t * (n * q)
      shift n t q = omega arith

      within : (t a n : ℕ) → t ≤ a / n → t * n ≤ a
      within t a n h = le_trans (mul-le-mul_right n h) (div-mul-le_self a n)
  level-begun turns' held' fired zeros' (Output j port) a l f z g h =
      let q : ℕ = get_or p.repetitions i 0 in
      let r : ℕ = rate_at p.rates j port in
      let y : ℕ = get_or p.repetitions j 0 in
      let b : held + need * (turns * q) ≡ first + r * (turns * y) = ap (λ v. held + need * v) (sym (f i)) ∙ l ∙ ap (λ v. first + r * v) (f j) in
      let c : need * (turns * q) ≡ r * (turns * y) = shift need turns q ∙ ap (λ v. turns * v) a.0 ∙ sym (shift r turns y) in
      ap₂ (λ u v. u + need * v) (g j port refl) (z i) ∙ same held first need r (need * (turns * q)) (r * (turns * y)) b c ∙ ap (λ v. first + r * v) (sym (z j))
    where
      shift : (n t q : ℕ) → n * (t * q) ≡ t * (n * q)
      shift n t q = omega arith

      same : (held first n r x y : ℕ) → held + x ≡ first + y → x ≡ y → held + n * 0 ≡ first + r * 0
      same held first n r x y h e = omega arith

-- the iterations are no more than each own input allows
pub allow-bound : {T : Type 0} (takes : List ℕ) (ss : List Source) (X : Streams T) (c port : ℕ) (d : Source) → c < length ss → c < length X → get_or ss c d ≡ Own port → (k : ℕ) × (all_allow takes ss X ≡ Some k) × (k ≤ length (at X c) / number_at takes port)
allow-bound takes [] X c port d h l e = absurd (omega arith)
allow-bound takes (s ∷ ss) [] c port d h l e = absurd (omega arith)
allow-bound {T} takes (s ∷ ss) (x ∷ X) zero port d h l e = first (all_allow takes ss X)
  where
    first : (m : Option ℕ) → (k : ℕ) × (allows takes s x m ≡ Some k) × (k ≤ length x / number_at takes port)
    first None = (length x / number_at takes port, ap (λ v. allows takes v x None) e, omega arith)
    first (Some m) = (min (length x / number_at takes port) m, ap (λ v. allows takes v x (Some m)) e, omega arith)
allow-bound {T} takes (s ∷ ss) (x ∷ X) (suc c) port d h l e =
    let r = allow-bound takes ss X c port d (omega arith) (omega arith) e in
    let q = less s r.0 in (q.0, ap (λ m. allows takes s x m) r.1 ∙ q.1, omega (arith, q.2, r.2))
  where
    less : (s : Source) (k : ℕ) → (m : ℕ) × (allows takes s x (Some k) ≡ Some m) × (m ≤ k)
    less (Own p) k = (min (length x / number_at takes p) k, refl, omega arith)
    less (Output child p) k = (k, refl, omega arith)
