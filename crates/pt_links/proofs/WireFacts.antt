-- What the wires of a job name.
use Rattle.std.proofs.Common.{◌≡◌, ℕ, ◌<◌, Bool, Option, Some, None, List, [], ◌∷◌, length, map, refl, sym, ap, subst, ◌∙◌}
use Rattle.std.proofs.lemmas.List.Elements.{All-nil, All-cons, All-weaker}
use Rattle.std.proofs.lemmas.List.Quantifiers.{position-Some}
use Rattle.std.proofs.lemmas.Option.{slice_get-get_or, slice_get-map}
use Rattle.std.specs.Option.{option_map}
use Rattle.std.specs.List.{All, Contains, filter_map, cons_option, position, slice_get}
use Rattle.pt_document.specs.declared.job.Link.{Link}
use Rattle.pt_document.specs.declared.job.Link.TheVariants as link
use Rattle.pt_net.specs.declared.wire.Wire.{Wire}
use Rattle.pt_net.specs.declared.wire.Wire.TheVariants.{Outside, Inside, Bond}
use Rattle.pt_net.specs.Table.{PortAt, RelationAt, Tables}
use Rattle.pt_net.specs.Wires.{names_inside, names_outside, names_relation, relation_named, end_of_text, joined_at, bonded_at, wire_between, wire_of}
use Rattle.pt_links.specs.Ties.{IsWithin, IsPortWithin}
use Rattle.pt_net.specs.Net.{wires}

All-filter_map : {X Y : Type 0} (f : X → Option Y) (P : Y → Type 0) → ((x : X) (y : Y) → f x ≡ Some y → P y) → (xs : List X) → All P (filter_map f xs)
All-filter_map f P holds [] = All-nil P
All-filter_map {Y = Y} f P holds (x ∷ xs) = chosen (f x) refl (All-filter_map f P holds xs)
  where
    chosen : (o : Option Y) → f x ≡ o → All P (filter_map f xs) → All P (cons_option o (filter_map f xs))
    chosen None e rest = rest
    chosen (Some y) e rest = All-cons P y (filter_map f xs) (holds x y e) rest

-- each thing gives something, and those are all
pub filter_map_all : {X Y : Type 0} (f : X → Option Y) (xs : List X) (ys : List Y) → map f xs ≡ map Some ys → filter_map f xs ≡ ys
filter_map_all f [] [] e = refl
filter_map_all f [] (y ∷ ys) e = absurd cc
filter_map_all f (x ∷ xs) [] e = absurd cc
filter_map_all f (x ∷ xs) (y ∷ ys) e =
    let h : f x ≡ Some y = cc in
    let r : map f xs ≡ map Some ys = cc in
    ap (λ o. cons_option o (filter_map f xs)) h ∙ ap (λ zs. y ∷ zs) (filter_map_all f xs ys r)

pub gives_some : {X Y : Type 0} (f : X → Option Y) (xs : List X) (ys : List Y) → map f xs ≡ map Some ys → (x : X) → Contains xs x → f x ≡ None → ⊥
gives_some {Y = Y} f xs ys e x w none =
    go (slice_get ys w.0) (ap Some (sym none ∙ ap f (sym w.2)) ∙ sym (ap (option_map f) (slice_get-get_or xs w.0 x w.1)) ∙ sym (slice_get-map f xs w.0) ∙ ap (λ zs. slice_get zs w.0) e ∙ slice_get-map (λ (y : Y). Some y) ys w.0)
  where
    go : (o : Option Y) → Some None ≡ option_map (λ (y : Y). Some y) o → ⊥
    go None h = absurd cc
    go (Some y) h = absurd cc

position_within : {X : Type 0} (p : X → Bool) (xs : List X) (o : Option ℕ) (i : ℕ) → position p xs ≡ o → o ≡ Some i → i < length xs
position_within p [] o i e f = let h : None ≡ o = e in absurd cc
position_within p (x ∷ xs) o i e f = (position-Some p (x ∷ xs) i x (e ∙ f)).0

joined_within : (n m : ℕ) (a b r : Option ℕ) (w : Wire) → ((i : ℕ) → a ≡ Some i → i < n) → ((i : ℕ) → b ≡ Some i → i < n) → ((i : ℕ) → r ≡ Some i → i < m) → joined_at (end_of_text a b) r ≡ Some w → IsWithin n m w
joined_within n m (Some g) b (Some r) w ha hb hr e = let h : Inside g r ≡ w = cc in subst (IsWithin n m) h (ha g refl, hr r refl)
joined_within n m None (Some g) (Some r) w ha hb hr e = let h : Outside g r ≡ w = cc in subst (IsWithin n m) h (hb g refl, hr r refl)
joined_within n m (Some g) b None w ha hb hr e = absurd cc
joined_within n m None (Some g) None w ha hb hr e = absurd cc
joined_within n m None None r w ha hb hr e = absurd cc

bonded_within : (n m : ℕ) (a b : Option ℕ) (w : Wire) → ((i : ℕ) → a ≡ Some i → i < m) → ((i : ℕ) → b ≡ Some i → i < m) → bonded_at a b ≡ Some w → IsWithin n m w
bonded_within n m (Some x) (Some y) w ha hb e = let h : Bond x y ≡ w = cc in subst (IsWithin n m) h (ha x refl, hb y refl)
bonded_within n m (Some x) None w ha hb e = absurd cc
bonded_within n m None b w ha hb e = absurd cc

between_within : (ports : List PortAt) (relations : List RelationAt) (c : ℕ) (l : Link) (w : Wire) → wire_between ports relations c l ≡ Some w → IsWithin (length ports) (length relations) w
between_within ports relations c (link.Port port relation) w e =
    joined_within (length ports) (length relations) (position (names_inside c port) ports) (position (names_outside c port) ports) (relation_named ports relations c relation) w (λ i h. position_within (names_inside c port) ports _ i refl h) (λ i h. position_within (names_outside c port) ports _ i refl h) (λ i h. position_within (names_relation c relation) relations _ i refl h) e
between_within ports relations c (link.Relations first second) w e =
    bonded_within (length ports) (length relations) (relation_named ports relations c first) (relation_named ports relations c second) w (λ i h. position_within (names_relation c first) relations _ i refl h) (λ i h. position_within (names_relation c second) relations _ i refl h) e

pub wires_within : (t : Tables) → All (IsWithin (length t.ports) (length t.relations)) (wires t)
wires_within t = All-filter_map (wire_of t.ports t.relations) (IsWithin (length t.ports) (length t.relations)) (λ l w e. between_within t.ports t.relations l.composite l.link w e) t.links

port_within : (n m : ℕ) (w : Wire) → IsWithin n m w → IsPortWithin n w
port_within n m (Outside p r) h = h.0
port_within n m (Inside p r) h = h.0
port_within n m (Bond a b) h = tt

pub ports_within : (n m : ℕ) (ws : List Wire) → All (IsWithin n m) ws → All (IsPortWithin n) ws
ports_within n m ws all = All-weaker (IsWithin n m) (IsPortWithin n) (port_within n m) ws all

pub wires_are : (t : Tables) (ws : List Wire) → map (wire_of t.ports t.relations) t.links ≡ map Some ws → ws ≡ wires t
wires_are t ws e = sym (filter_map_all (wire_of t.ports t.relations) t.links ws e)
