-- The path of each site has the text of the site's entity.
use Rattle.std.proofs.Common.{◌≡◌, ℕ, suc, ◌+◌, List, [], ◌∷◌, ◌++◌, Option, Some, None, sym, ap, ◌∙◌, arith}
use Rattle.std.specs.Prelude.{slice_get}
use Rattle.pt_meaning.specs.Basics.{Path}
use Rattle.pt_records.specs.Kept.{Made}
use Rattle.pt_net.specs.declared.net.NetEntity.{NetEntity}
use Rattle.pt_net.specs.Inside.{children_of}
use Rattle.pt_node.specs.Shown.{Shown, AllShown, Branch, none, more}
use Rattle.pt_node.specs.View.{outline_of, outlines_of, text_at, text_below}
use Rattle.pt_meetings.specs.Sites.{Site, own_site, seen_below, sites_in, sites_below}
use Rattle.pt_meetings.specs.Standing.{StandsFor, AllStandFor}

-- the text that is found at a path of a site is the path of its entity
abbrev pub HasText : List NetEntity → (Path → Option (List ℕ)) → Site → Type 0
HasText es look x = (e : NetEntity) × (slice_get es x.number ≡ Some e) × (look x.path ≡ Some e.path)

abbrev pub HaveTexts : List NetEntity → (Path → Option (List ℕ)) → List Site → Type 0
HaveTexts es look [] = Unit {0}
HaveTexts es look (x ∷ xs) = HasText es look x × HaveTexts es look xs

texts-append : (es : List NetEntity) (look : Path → Option (List ℕ)) (xs ys : List Site) → HaveTexts es look xs → HaveTexts es look ys → HaveTexts es look (xs ++ ys)
texts-append es look [] ys g h = h
texts-append es look (x ∷ xs) ys g h = (g.0, texts-append es look xs ys g.1 h)

texts-seen : (es : List NetEntity) (look : Path → Option (List ℕ)) (i : ℕ) (xs : List Site) → HaveTexts es (λ p. look (i ∷ p)) xs → HaveTexts es look (seen_below i xs)
texts-seen es look i [] h = tt
texts-seen es look i (x ∷ xs) h = (h.0, texts-seen es look i xs h.1)

texts-own : (es : List NetEntity) (look : Path → Option (List ℕ)) (k : ℕ) (e : NetEntity) (kept : Option Made) → slice_get es k ≡ Some e → look [] ≡ Some e.path → HaveTexts es look (own_site k kept)
texts-own es look k e None there text = tt
texts-own es look k e (Some made) there text = ((e, there, text), tt)

mutual
  pub texts-in : (es : List NetEntity) (k : ℕ) (s : Shown) (look : Path → Option (List ℕ)) → ((p : Path) → look p ≡ text_at (outline_of s) p) → StandsFor es k (outline_of s) → HaveTexts es look (sites_in es k s)
  texts-in es k (Branch f ks) look h st =
      texts-append es look (own_site k f.meetings) (sites_below es 0 (children_of es k) ks)
      (texts-own es look k st.0.0 f.meetings st.0.1 (h [] ∙ ap (λ v. Option.Some v) (sym st.0.2)))
      (texts-below es 0 (children_of es k) ks look (λ j m p e. h (m ∷ p) ∙ ap (λ v. text_below (outlines_of ks) v p) (omega (arith, e))) st.1)

  texts-below : (es : List NetEntity) (i : ℕ) (cs : List ℕ) (ks : AllShown) (look : Path → Option (List ℕ)) → ((j m : ℕ) (p : Path) → m ≡ i + j → look (m ∷ p) ≡ text_below (outlines_of ks) j p) → AllStandFor es cs (outlines_of ks) → HaveTexts es look (sites_below es i cs ks)
  texts-below es i cs none look h st = tt
  texts-below es i [] (more s ss) look h st = tt
  texts-below es i (c ∷ cs) (more s ss) look h st =
      texts-append es look (seen_below i (sites_in es c s)) (sites_below es (suc i) cs ss)
      (texts-seen es look i (sites_in es c s) (texts-in es c s (λ p. look (i ∷ p)) (λ p. h 0 i p (omega arith)) st.0))
      (texts-below es (suc i) cs ss look (λ j m p e. h (suc j) m p (omega (arith, e))) st.1)
