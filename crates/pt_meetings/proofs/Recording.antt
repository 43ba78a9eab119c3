-- Trees of which no node records meetings.
use Rattle.std.proofs.Common.{◌≡◌, ℕ, zero, suc, ◌+◌, ◌<◌, ◌≤◌, List, [], ◌∷◌, ◌++◌, Option, Some, None, false, map, take, length, get_or, refl, sym, ap, ap₂, subst, ◌∙◌, arith, true≢false}
use Rattle.std.specs.List.{AllZip}
use Rattle.std.specs.Prelude.{MatchOption, is_some}
use Rattle.pt_records.specs.Kept.{Made}
use Rattle.pt_net.specs.declared.net.Net.{Net}
use Rattle.pt_net.specs.declared.net.NetEntity.{NetEntity}
use Rattle.pt_net.specs.Inside.{children_of}
use Rattle.pt_trace.specs.Report.{Meetings}
use Rattle.pt_node.specs.declared.node.Node.{Node}
use Rattle.pt_node.specs.Shown.{Shown, AllShown, Branch, shown, shown_node, all_of, none, more}
use Rattle.pt_node.specs.Unmet.{RecordsNone, AllRecordNone}
use Rattle.pt_node.proofs.Link.{shown-node}
use Rattle.pt_meetings.specs.Sites.{Site, IsToldAs, own_site, seen_below, sites_in, sites_below}
use Rattle.pt_meetings.specs.Laws.{AreListed}

-- ---- the loop over the children

pub none-next : (xs : List Node) (i : ℕ) (d : Node) → AllRecordNone (all_of (map shown (take i xs))) → i < length xs → d ≡ get_or xs i d → RecordsNone (shown_node d) → AllRecordNone (all_of (map shown (take (i + 1) xs)))
none-next [] i d h l e r = absurd (omega (arith, l))
none-next (x ∷ xs) zero d h l e r = let same : shown_node d ≡ shown x = sym (shown-node d) ∙ ap (λ v. shown v) e in (subst RecordsNone same r, tt)
none-next (x ∷ xs) (suc i) d h l e r =
    let s : suc i + 1 ≡ suc (i + 1) = omega arith in
    subst (λ n. AllRecordNone (all_of (map shown (take n (x ∷ xs))))) (sym s) (h.0, none-next xs i d h.1 (omega (arith, l)) e r)

pub none-all : (xs : List Node) (i : ℕ) → AllRecordNone (all_of (map shown (take i xs))) → length xs ≤ i → AllRecordNone (all_of (map shown xs))
none-all [] i h l = tt
none-all (x ∷ xs) zero h l = absurd (omega (arith, l))
none-all (x ∷ xs) (suc i) h l = (h.0, none-all xs i h.1 (omega (arith, l)))

-- what is not there
pub none-kept : {A : Type 0} (o : Option A) (P : Type 0) (Q : A → Type 0) → MatchOption o P Q → false ≡ is_some o → P
none-kept None P Q h e = h
none-kept (Some a) P Q h e = absurd (true≢false (sym e))

-- ---- such a tree has no sites

own-none : (k : ℕ) (made : Option Made) → made ≡ None → own_site k made ≡ []
own-none k made e = ap (λ v. own_site k v) e

mutual
  pub sites-none : (es : List NetEntity) (k : ℕ) (s : Shown) → RecordsNone s → sites_in es k s ≡ []
  sites-none es k (Branch f ks) r = ap₂ (λ (a b : List Site). a ++ b) (own-none k f.meetings r.0) (below-none es 0 (children_of es k) ks r.1)

  below-none : (es : List NetEntity) (i : ℕ) (cs : List ℕ) (ks : AllShown) → AllRecordNone ks → sites_below es i cs ks ≡ []
  below-none es i cs none r = refl
  below-none es i [] (more s ss) r = refl
  below-none es i (c ∷ cs) (more s ss) r = ap₂ (λ (a b : List Site). seen_below i a ++ b) (sites-none es c s r.0) (below-none es (suc i) cs ss r.1)

-- so nothing is listed
pub none-listed : (net : Net) (s : Shown) (told : List Meetings) → RecordsNone s → told ≡ [] → AreListed net s told
none-listed net s told r e = subst (λ (xs : List Site). AllZip (IsToldAs net) told xs) (sym (sites-none net.entities.items 0 s r)) (subst (λ (ts : List Meetings). AllZip (IsToldAs net) ts []) (sym e) tt)
