-- The channels that end nowhere, and what leaves them.
use Rattle.std.proofs.Common.{◌≡◌, ℕ, ◌+◌, ◌-◌, ◌*◌, ◌<◌, ◌≤◌, List, [], ◌∷◌, ◌++◌, length, get_or, take, drop, map, refl, ap, ap₂, sym, ◌∙◌, arith, length-append, length-drop}
use Rattle.std.proofs.lemmas.List.{length-map, get_or-map, get_or-drop, map-append, drop-drop}
use Rattle.pt_meaning.specs.Streams.{Streams}
use Rattle.pt_meaning.specs.Net.{Source}
use Rattle.pt_meaning.specs.Kahn.{skip_places, behind}
use Rattle.pt_meaning.specs.Sdf.{SdfPlan, times, taken_from, unfed, leaves}
use Rattle.pt_meaning.specs.Running.{total}
use Rattle.pt_core.specs.declared.source.Source as declared
use Rattle.pt_sdf_parts.specs.ByNeed.{skip_at}
use Rattle.pt_core.specs.Source.{source_of}
use Rattle.pt_sdf_parts.proofs.OutletLaws.{skip-more, times-long}
use Rattle.pt_sdf_parts.proofs.NeedLaws.{skip-behind}

-- how many tokens leave each of the channels from a number on
abbrev pub counts_of : (takes : List ℕ) (sources : List declared.Source) (from : ℕ) → List ℕ
counts_of takes sources from = map (taken_from takes) (drop from (map source_of sources))

module _ (takes : List ℕ) (sources : List declared.Source) (from : ℕ) where
  pub counts-long : length (counts_of takes sources from) ≡ length sources - from
  counts-long = length-map (drop from (map source_of sources)) (taken_from takes) ∙ length-drop from (map source_of sources) ∙ ap (λ n. n - from) (length-map sources source_of)

  pub counts-fit : {T : Type 0} (X : Streams T) → length sources ≡ length X → from ≤ length sources → from + length (counts_of takes sources from) ≤ length X
  counts-fit X e h = omega (arith, e, h, counts-long)

  pub count-at : (k : ℕ) (d : declared.Source) → from + k < length sources → taken_from takes (source_of (get_or sources (from + k) d)) ≡ get_or (counts_of takes sources from) k 0
  count-at k d h =
      ap (λ v. taken_from takes v) (sym (get_or-map source_of sources (from + k) d (source_of d) h) ∙ sym (get_or-drop from (map source_of sources) k (source_of d))) ∙
      sym (get_or-map (taken_from takes) (drop from (map source_of sources)) k (source_of d) 0 (omega (arith, h, length-drop from (map source_of sources), length-map sources source_of)))

-- what is behind the places of all children
pub skip-places : {A : Type 0} (ns : List ℕ) (xs : List A) → skip_places ns xs ≡ drop (total ns) xs
skip-places [] xs = refl
skip-places (n ∷ ns) xs = skip-places ns (drop n xs) ∙ drop-drop (total ns) n xs

module _ (p : SdfPlan) (fits : total p.net.places + length p.gives ≤ length p.net.sources) where
  unfed-are : unfed p ≡ drop (total p.net.places + length p.gives) p.net.sources
  unfed-are = ap (λ v. drop (length p.gives) v) (skip-places p.net.places p.net.sources) ∙ drop-drop (length p.gives) (total p.net.places) p.net.sources

  leaves-long : total p.net.places + length (leaves p) ≡ length p.net.sources
  leaves-long =
      let behind-long : length (map (taken_from p.takes) (unfed p)) ≡ length p.net.sources - (total p.net.places + length p.gives) =
      length-map (unfed p) (taken_from p.takes) ∙ ap (λ v. length v) unfed-are ∙ length-drop (total p.net.places + length p.gives) p.net.sources
      in omega (arith, fits, length-append p.gives (map (taken_from p.takes) (unfed p)), behind-long)

  module _ {T : Type 0} (turns : ℕ) (held given : Streams T) (long : length held ≡ length p.net.sources) (g : given ≡ skip_at (total p.net.places) (times turns p.gives) held) where
    -- the own outputs gave what they are to, and then the own inputs that feed nothing lost what was taken
    pub all-left : (left : Streams T) → left ≡ skip_at (total p.net.places + length p.gives) (times turns (map (taken_from p.takes) (drop (total p.net.places + length p.gives) p.net.sources))) given → left ≡ skip_at (total p.net.places) (times turns (leaves p)) held
    all-left left l =
        l ∙ ap₂ (λ (u : List Source) (v : Streams T). skip_at (total p.net.places + length p.gives) (times turns (map (taken_from p.takes) u)) v) (sym unfed-are) g ∙
        ap (λ n. skip_at (total p.net.places + n) (times turns (map (taken_from p.takes) (unfed p))) (skip_at (total p.net.places) (times turns p.gives) held)) (sym (times-long turns p.gives)) ∙
        skip-more (total p.net.places) (times turns p.gives) (times turns (map (taken_from p.takes) (unfed p))) held ∙
        ap (λ v. skip_at (total p.net.places) v held) (sym (map-append (λ n. turns * n) p.gives (map (taken_from p.takes) (unfed p))))

  pub left-is : {T : Type 0} (turns : ℕ) (held : Streams T) → length held ≡ length p.net.sources → skip_at (total p.net.places) (times turns (leaves p)) held ≡ take (total p.net.places) held ++ behind (times turns (leaves p)) (drop (total p.net.places) held)
  left-is turns held long = skip-behind (total p.net.places) (times turns (leaves p)) held (omega (arith, leaves-long, times-long turns (leaves p), long))
