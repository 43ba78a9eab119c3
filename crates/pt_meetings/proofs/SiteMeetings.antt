-- The meetings of the composite at a path are those of the site there.
use Rattle.std.proofs.Common.{◌≡◌, ℕ, zero, suc, ◌+◌, ◌<◌, List, [], ◌∷◌, ◌++◌, Bool, true, false, Option, Some, None, refl, sym, ap, ap₂, ◌∙◌, arith, append_assoc}
use Rattle.std.specs.Prelude.{bytes_eq}
use Rattle.std.specs.Bool.{Decides}
use Rattle.std.proofs.lemmas.List.{append-nil}
use Rattle.std.proofs.lemmas.Slice.Eq.{bytes_eq-Decides}
use Rattle.pt_meaning.specs.Basics.{Path}
use Rattle.pt_meaning.specs.Log.{Meeting}
use Rattle.pt_records.specs.Kept.{Made, kept_at}
use Rattle.pt_records.specs.Made.{made_in, made_if}
use Rattle.pt_net.specs.declared.net.NetEntity.{NetEntity}
use Rattle.pt_net.specs.Inside.{children_of}
use Rattle.pt_node.specs.Shown.{Shown, AllShown, Branch, none, more}
use Rattle.pt_node.specs.View.{outline_of, outlines_of, kept_of, kepts_of}
use Rattle.pt_meetings.specs.Sites.{Site, own_site, seen_below, sites_in, sites_below}
use Rattle.pt_meetings.specs.Standing.{StandsFor, AllStandFor}

abbrev pub if_at : Bool → List Meeting → List Meeting → List Meeting
if_at true ms rest = ms ++ rest
if_at false ms rest = rest

-- the meetings of a firing of the composite at a path, by a list of sites
abbrev pub met_at : Path → ℕ → List Site → List Meeting
met_at p n [] = []
met_at p n (x ∷ xs) = if_at (bytes_eq x.path p) (made_in n x.made) (met_at p n xs)

pub same-test : {P Q : Type 0} (b c : Bool) → Decides b P → Decides c Q → (P → Q) → (Q → P) → b ≡ c
same-test true c d e f g = sym (e.1 (f (d.0 refl)))
same-test false true d e f g = d.1 (g (e.0 refl))
same-test false false d e f g = refl

met-append : (p : Path) (n : ℕ) (xs ys : List Site) → met_at p n (xs ++ ys) ≡ met_at p n xs ++ met_at p n ys
met-append p n [] ys = refl
met-append p n (x ∷ xs) ys = by_test (bytes_eq x.path p) (met-append p n xs ys)
  where
    by_test : (b : Bool) → met_at p n (xs ++ ys) ≡ met_at p n xs ++ met_at p n ys → if_at b (made_in n x.made) (met_at p n (xs ++ ys)) ≡ if_at b (made_in n x.made) (met_at p n xs) ++ met_at p n ys
    by_test true e = ap (λ v. made_in n x.made ++ v) e ∙ sym (append_assoc (made_in n x.made) (met_at p n xs) (met_at p n ys))
    by_test false e = e

-- ---- sites at other paths

abbrev pub NotAt : Path → List Site → Type 0
NotAt p [] = Unit {0}
NotAt p (x ∷ xs) = (x.path ≡ p → ⊥) × NotAt p xs

pub none-at : (p : Path) (n : ℕ) (xs : List Site) → NotAt p xs → met_at p n xs ≡ []
none-at p n [] h = refl
none-at p n (x ∷ xs) h = by_test (bytes_eq x.path p) (bytes_eq-Decides x.path p) (none-at p n xs h.1)
  where
    by_test : (b : Bool) → Decides b (x.path ≡ p) → met_at p n xs ≡ [] → if_at b (made_in n x.made) (met_at p n xs) ≡ []
    by_test true d e = absurd (h.0 (d.0 refl))
    by_test false d e = e

not-append : (p : Path) (xs ys : List Site) → NotAt p xs → NotAt p ys → NotAt p (xs ++ ys)
not-append p [] ys g h = h
not-append p (x ∷ xs) ys g h = (g.0, not-append p xs ys g.1 h)

not-empty : (i : ℕ) (p : Path) → i ∷ p ≡ [] → ⊥
not-empty i p e = cc

same-head : (i j : ℕ) (p q : Path) → i ∷ p ≡ j ∷ q → i ≡ j
same-head i j p q e = cc

same-tail : (i j : ℕ) (p q : Path) → i ∷ p ≡ j ∷ q → p ≡ q
same-tail i j p q e = cc

seen-top : (i : ℕ) (xs : List Site) → NotAt [] (seen_below i xs)
seen-top i [] = tt
seen-top i (x ∷ xs) = (λ e. not-empty i x.path e, seen-top i xs)

seen-other : (i m : ℕ) (q : Path) (xs : List Site) → (i ≡ m → ⊥) → NotAt (m ∷ q) (seen_below i xs)
seen-other i m q [] h = tt
seen-other i m q (x ∷ xs) h = (λ e. h (same-head i m x.path q e), seen-other i m q xs h)

seen-same : (i m : ℕ) (q : Path) (n : ℕ) (xs : List Site) → m ≡ i → met_at (m ∷ q) n (seen_below i xs) ≡ met_at q n xs
seen-same i m q n [] e = refl
seen-same i m q n (x ∷ xs) e =
    ap₂ (λ b v. if_at b (made_in n x.made) v)
    (same-test (bytes_eq (i ∷ x.path) (m ∷ q)) (bytes_eq x.path q) (bytes_eq-Decides (i ∷ x.path) (m ∷ q)) (bytes_eq-Decides x.path q) (λ f. same-tail i m x.path q f) (λ f. ap₂ (λ a b. a ∷ b) (sym e) f))
    (seen-same i m q n xs e)

below-top : (es : List NetEntity) (i : ℕ) (cs : List ℕ) (ks : AllShown) → NotAt [] (sites_below es i cs ks)
below-top es i cs none = tt
below-top es i [] (more s ss) = tt
below-top es i (c ∷ cs) (more s ss) = not-append [] (seen_below i (sites_in es c s)) (sites_below es (suc i) cs ss) (seen-top i (sites_in es c s)) (below-top es (suc i) cs ss)

below-past : (es : List NetEntity) (i m : ℕ) (q : Path) (cs : List ℕ) (ks : AllShown) → m < i → NotAt (m ∷ q) (sites_below es i cs ks)
below-past es i m q cs none l = tt
below-past es i m q [] (more s ss) l = tt
below-past es i m q (c ∷ cs) (more s ss) l =
    not-append (m ∷ q) (seen_below i (sites_in es c s)) (sites_below es (suc i) cs ss) (seen-other i m q (sites_in es c s) (λ e. absurd (omega (arith, l, e)))) (below-past es (suc i) m q cs ss (omega (arith, l)))

-- ---- what is kept

own-at : (n k : ℕ) (kept : Option Made) → met_at [] n (own_site k kept) ≡ made_if n kept
own-at n k None = refl
own-at n k (Some made) = ap (λ b. if_at b (made_in n made) []) ((bytes_eq-Decides [] []).1 refl) ∙ append-nil (made_in n made)

own-other : (n k j : ℕ) (q : Path) (kept : Option Made) → met_at (j ∷ q) n (own_site k kept) ≡ []
own-other n k j q None = refl
own-other n k j q (Some made) = none-at (j ∷ q) n (own_site k (Some made)) (λ e. not-empty j q (sym e), tt)

mutual
  pub kept-met : (es : List NetEntity) (k : ℕ) (s : Shown) (p : Path) (n : ℕ) → StandsFor es k (outline_of s) → met_at p n (sites_in es k s) ≡ made_if n (kept_of s p).meetings
  kept-met es k (Branch f ks) [] n st =
      met-append [] n (own_site k f.meetings) (sites_below es 0 (children_of es k) ks) ∙
      ap₂ (λ a b. a ++ b) (own-at n k f.meetings) (none-at [] n (sites_below es 0 (children_of es k) ks) (below-top es 0 (children_of es k) ks)) ∙ append-nil (made_if n f.meetings)
  kept-met es k (Branch f ks) (j ∷ q) n st =
      met-append (j ∷ q) n (own_site k f.meetings) (sites_below es 0 (children_of es k) ks) ∙
      ap₂ (λ a b. a ++ b) (own-other n k j q f.meetings) (kepts-met es 0 j j (children_of es k) ks q n (omega arith) st.1)

  kepts-met : (es : List NetEntity) (i j m : ℕ) (cs : List ℕ) (ks : AllShown) (q : Path) (n : ℕ) → m ≡ i + j → AllStandFor es cs (outlines_of ks) → met_at (m ∷ q) n (sites_below es i cs ks) ≡ made_if n (kept_at (kepts_of ks) j q).meetings
  kepts-met es i j m cs none q n e st = refl
  kepts-met es i j m [] (more s ss) q n e st = absurd st
  kepts-met es i zero m (c ∷ cs) (more s ss) q n e st =
      met-append (m ∷ q) n (seen_below i (sites_in es c s)) (sites_below es (suc i) cs ss) ∙
      ap₂ (λ a b. a ++ b) (seen-same i m q n (sites_in es c s) (omega (arith, e)) ∙ kept-met es c s q n st.0) (none-at (m ∷ q) n (sites_below es (suc i) cs ss) (below-past es (suc i) m q cs ss (omega (arith, e)))) ∙
      append-nil (made_if n (kept_of s q).meetings)
  kepts-met es i (suc j) m (c ∷ cs) (more s ss) q n e st =
      met-append (m ∷ q) n (seen_below i (sites_in es c s)) (sites_below es (suc i) cs ss) ∙
      ap₂ (λ a b. a ++ b) (none-at (m ∷ q) n (seen_below i (sites_in es c s)) (seen-other i m q (sites_in es c s) (λ f. absurd (omega (arith, e, f))))) (kepts-met es (suc i) j m cs ss q n (omega (arith, e)) st.1)
