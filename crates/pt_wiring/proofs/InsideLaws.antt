-- The insides of entities, from their parts.
use Rattle.std.proofs.Common.{◌≡◌, ℕ, suc, ◌+◌, ◌<◌, List, [], ◌∷◌, Bool, true, false, length, get_or, refl, ap, ap₂, ◌∙◌, arith}
use Rattle.std.specs.Prelude.{map}
use Rattle.pt_meaning.specs.Net as net
use Rattle.pt_net.specs.declared.net.Channel.{Channel}
use Rattle.pt_net.specs.declared.net.NetEntity.{NetEntity}
use Rattle.pt_net.specs.Inside.{is_child, child_if, children_from, ports_at, place_count, AreInsides}
use Rattle.pt_wiring.specs.Ports.{ArePortNumbers}
use Rattle.pt_wiring.specs.Children.{AreChildren}
use Rattle.pt_wiring.specs.Channels.{AreNumbers, AreSources, AreArrivals, counts_at}

map-if : (f g : ℕ → ℕ) (b : Bool) (i : ℕ) (xs : List ℕ) → f i ≡ g i → map f xs ≡ map g xs → map f (child_if b i xs) ≡ map g (child_if b i xs)
map-if f g true i xs here more = ap₂ (λ x ys. x ∷ ys) here more
map-if f g false i xs here more = more

map-children : (f g : ℕ → ℕ) (c i : ℕ) (es : List NetEntity) → ((j : ℕ) → j < i + length es → f j ≡ g j) → map f (children_from c i es) ≡ map g (children_from c i es)
map-children f g c i [] same = refl
map-children f g c i (e ∷ es) same = map-if f g (is_child c e) i (children_from c (suc i) es) (same i (omega arith)) (map-children f g c (suc i) es (λ j h. same j (omega (arith, h))))

pub numbers-are : (es : List NetEntity) (lists : List (List ℕ)) (numbers : List ℕ) (rows : List (List ℕ)) → AreChildren (length es) es lists numbers → length rows ≡ length es →
    ((i : ℕ) → i < length es → ArePortNumbers (ports_at es i) (get_or rows i [])) → AreNumbers es numbers rows
numbers-are es lists numbers rows are counted ports = record { counted = are.numbered; children = are.each; rows_counted = counted; ports = ports }

pub insides-are : (es : List NetEntity) (ks : List Channel) (lists : List (List ℕ)) (numbers arrivals : List ℕ) (places : List (List ℕ)) (sources : List (List net.Source)) →
    AreChildren (length es) es lists numbers → AreSources es ks sources → AreArrivals (length es) ks arrivals → length places ≡ length lists →
    ((c : ℕ) → c < length lists → get_or places c [] ≡ counts_at arrivals (get_or lists c [])) → AreInsides es ks lists places sources
insides-are es ks lists numbers arrivals places sources children from to counted each = record {
  children_counted = children.counted;
  places_counted = counted ∙ children.counted;
  sources_counted = from.counted;
  each = λ c h. record {
    children_are = children.listed c h;
    places_are = each c (omega (arith, h, children.counted)) ∙ ap (counts_at arrivals) (children.listed c h) ∙ map-children (λ i. get_or arrivals i 0) (place_count ks) c 0 es (λ j below. to.each j (omega (arith, below)));
    sources_are = from.each c h;
  };
}
