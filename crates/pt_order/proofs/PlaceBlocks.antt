-- The channels to the places of one side, in blocks: one for each entity that stays in the net.
use Rattle.std.proofs.Common.{◌≡◌, ℕ, zero, suc, ◌+◌, Bool, true, false, cond, List, [], ◌∷◌, ◌++◌, Some, length, map, take, replicate, filter, refl, sym, ap, ap₂, subst, ◌∙◌, arith}
use Rattle.std.proofs.lemmas.List.{map-append}
use Rattle.std.proofs.lemmas.List.Concat.{flat_map-append}
use Rattle.std.proofs.lemmas.List.Sums.{sum_by-cons}
use Rattle.std.proofs.lemmas.Option.{none-some, same_Some}
use Rattle.std.specs.List.{AllByRecursion, AllZip, Contains, count_by, enumerate_from, flat_map, slice_get}
use Rattle.pt_document.specs.declared.job.Direction.{Direction}
use Rattle.pt_document.specs.Classes.{ClassPort}
use Rattle.pt_document.specs.Document.{parts}
use Rattle.pt_net.specs.declared.net.Channel.{Channel}
use Rattle.pt_net.specs.Standing.{Standing, is_kept}
use Rattle.pt_net.specs.Table.{PortAt, ports_of, numbered_ports, ports_from}
use Rattle.pt_net.specs.Wires.{Place, places_along}
use Rattle.pt_net.specs.Net.{composite_of}
use Rattle.pt_net.proofs.Members.{contains_here}
use Rattle.pt_order.proofs.Blocks.{all-append, all-by, AreBlocks}
use Rattle.pt_order.proofs.Ends.{spread}

-- the direction of a port of a class
abbrev pub way : ClassPort → Direction
way p = p.direction

-- the channel ends at this place
pub record EndsAt (place : Place) (k : Channel) : Type 0 where
  pub composite_is : k.composite ≡ composite_of place.at
  pub entity_is : k.to.entity ≡ place.at.standing.number
  pub port_is : k.to.port ≡ place.at.number

abbrev pub to_entity : Channel → ℕ
to_entity k = k.to.entity

abbrev pub to_port : Channel → ℕ
to_port k = k.to.port

-- ---- lists

pub zip-split : {A B : Type 0} (R : A → B → Type 0) (xs ys : List A) (zs : List B) → AllZip R (xs ++ ys) zs → (us : List B) × (vs : List B) × (zs ≡ us ++ vs) × AllZip R xs us × AllZip R ys vs
zip-split R [] ys zs h = ([], zs, refl, tt, h)
zip-split R (x ∷ xs) ys [] h = absurd h
zip-split R (x ∷ xs) ys (z ∷ zs) h = let r = zip-split R xs ys zs h.1 in (z ∷ r.0, r.1, ap (λ ws. z ∷ ws) r.2, (h.0, r.3), r.4)

zip-none : {A B : Type 0} (R : A → B → Type 0) (zs : List B) → AllZip R [] zs → zs ≡ []
zip-none R [] h = refl
zip-none R (z ∷ zs) h = absurd h

enumerate-append : {X : Type 0} (n : ℕ) (xs ys : List X) → enumerate_from n (xs ++ ys) ≡ enumerate_from n xs ++ enumerate_from (n + length xs) ys
enumerate-append n [] ys = ap (λ m. enumerate_from m ys) (let z : n ≡ n + 0 = omega arith in z)
enumerate-append n (x ∷ xs) ys = ap (λ zs. (n, x) ∷ zs) (enumerate-append (n + 1) xs ys ∙ ap (λ m. enumerate_from (n + 1) xs ++ enumerate_from m ys) (let z : n + 1 + length xs ≡ n + suc (length xs) = omega arith in z))

get-right : {X : Type 0} (xs ys : List X) (i : ℕ) (x : X) → slice_get ys i ≡ Some x → slice_get (xs ++ ys) (length xs + i) ≡ Some x
get-right [] ys i x e = ap (slice_get ys) (let z : 0 + i ≡ i = omega arith in z) ∙ e
get-right (y ∷ xs) ys i x e = ap (slice_get (y ∷ (xs ++ ys))) (let z : suc (length xs) + i ≡ suc (length xs + i) = omega arith in z) ∙ get-right xs ys i x e

get-first : {X : Type 0} (xs ys : List X) (i : ℕ) (x : X) → slice_get xs i ≡ Some x → slice_get (xs ++ ys) i ≡ Some x
get-first [] ys i x e = absurd (none-some x e)
get-first (y ∷ xs) ys zero x e = e
get-first (y ∷ xs) ys (suc i) x e = get-first xs ys i x e

numbered-at : (e : ℕ) (s : Standing) (n : ℕ) (ps : List ClassPort) (i : ℕ) (q : ClassPort) → slice_get ps i ≡ Some q → slice_get (numbered_ports e s n ps) i ≡ Some (record { entity = e; standing = s; number = n + i; port = q })
numbered-at e s n [] i q h = absurd (none-some q h)
numbered-at e s n (p ∷ ps) zero q h = ap₂ (λ (m : ℕ) (r : ClassPort). Some (record { entity = e; standing = s; number = m; port = r })) (let z : n ≡ n + 0 = omega arith in z) (same_Some p q h)
numbered-at e s n (p ∷ ps) (suc i) q h = numbered-at e s (n + 1) ps i q h ∙ ap (λ (m : ℕ). Some (record { entity = e; standing = s; number = m; port = q })) (let z : n + 1 + i ≡ n + suc i = omega arith in z)

-- ---- numbers of entities

-- those that stay in the net are numbered from here on
abbrev pub AreCounted : ℕ → List Standing → Type 0
AreCounted j [] = Unit {0}
AreCounted j (s ∷ ss) = (s.number ≡ j) × AreCounted (cond (is_kept s) (suc j) j) ss

pub counted-from : (j : ℕ) (ss : List Standing) → ((n : ℕ) (s : Standing) → slice_get ss n ≡ Some s → s.number ≡ j + count_by is_kept (take n ss)) → AreCounted j ss
counted-from j [] h = tt
counted-from j (s ∷ ss) h = (
  h 0 s refl ∙ (let z : j + 0 ≡ j = omega arith in z),
  counted-from (cond (is_kept s) (suc j) j) ss (λ n t at. (let more = sum_by-cons (λ y. cond (is_kept y) 1 0) s (take n ss) in h (suc n) t at ∙ ap (λ m. j + m) more ∙ chosen (is_kept s) (count_by is_kept (take n ss)))),
)
  where
    chosen : (b : Bool) (m : ℕ) → j + (cond b 1 0 + m) ≡ cond b (suc j) j + m
    chosen true m = omega arith
    chosen false m = omega arith

-- ---- one side

-- the channel ends at the entity
abbrev pub IsOf : (Standing → Channel → Type 0) → Standing → Channel → Type 0
IsOf Holds s k = (k.to.entity ≡ s.number) × Holds s k

-- of places like these, and of what the composite of each is
pub record IsSide (ports : List PortAt) (of : ℕ × PortAt → List Place) (links : ℕ → List ℕ) (test : Direction → Bool) (Holds : Standing → Channel → Type 0) : Type 0 where
  pub kept : (q : ℕ × PortAt) → is_kept q.1.standing ≡ true → of q ≡ cond (test q.1.port.direction) (places_along q.0 q.1 0 (links q.0)) []
  pub left : (q : ℕ × PortAt) → is_kept q.1.standing ≡ false → of q ≡ []
  pub holds : (g r : ℕ) (p : PortAt) (k : Channel) → slice_get ports g ≡ Some p → is_kept p.standing ≡ true → test p.port.direction ≡ true → Contains (links g) r → k.composite ≡ composite_of p → Holds p.standing k

-- the channels to the places of one entity, whose ports stand from some number on: at each port as many as it has links
pub record IsPortBlock (ports : List PortAt) (links : ℕ → List ℕ) (test : Direction → Bool) (j : ℕ) (s : Standing) (b : List Channel) : Type 0 where
  pub place : ℕ
  pub first : ℕ
  pub ports_at : (i : ℕ) (q : ClassPort) → slice_get (ports_of (parts s.tree)) i ≡ Some q → slice_get ports (first + i) ≡ Some (record { entity = place; standing = s; number = i; port = q })
  pub ends : map to_port b ≡ spread test (λ m. length (links (first + m))) 0 (map way (ports_of (parts s.tree)))

module _ (ports : List PortAt) (of : ℕ × PortAt → List Place) (links : ℕ → List ℕ) (test : Direction → Bool) (Holds : Standing → Channel → Type 0) (side : IsSide ports of links test Holds) where
  -- these stand in the table from this number on
  abbrev StandFrom : ℕ → List PortAt → Type 0
  StandFrom g ps = (i : ℕ) (x : PortAt) → slice_get ps i ≡ Some x → slice_get ports (g + i) ≡ Some x

  -- the channels to the places at one port
  along : (g : ℕ) (p : PortAt) (n : ℕ) (rs : List ℕ) (b : List Channel) → ((k : Channel) → k.composite ≡ composite_of p → Holds p.standing k) → AllZip EndsAt (places_along g p n rs) b → AllByRecursion (IsOf Holds p.standing) b × (map to_port b ≡ replicate (length rs) p.number)
  along g p n [] [] h z = (tt, refl)
  along g p n [] (k ∷ b) h z = absurd z
  along g p n (r ∷ rs) [] h z = absurd z
  along g p n (r ∷ rs) (k ∷ b) h z =
      let rest = along g p (n + 1) rs b h z.1 in
      (((z.0.entity_is, h k z.0.composite_is), rest.0), ap₂ (λ (m : ℕ) (ms : List ℕ). m ∷ ms) z.0.port_is rest.1)

  at-port : (g : ℕ) (p : PortAt) (b : List Channel) → slice_get ports g ≡ Some p → is_kept p.standing ≡ true → AllZip EndsAt (of (g, p)) b → AllByRecursion (IsOf Holds p.standing) b × (map to_port b ≡ cond (test p.port.direction) (replicate (length (links g)) p.number) [])
  at-port g p b at kept z = chosen (test p.port.direction) refl (subst (λ qs. AllZip EndsAt qs b) (side.kept (g, p) kept) z)
    where
      linked : test p.port.direction ≡ true → (rs : List ℕ) → links g ≡ rs → AllZip EndsAt (places_along g p 0 rs) b → AllByRecursion (IsOf Holds p.standing) b × (map to_port b ≡ replicate (length rs) p.number)
      linked t [] is w = (let none = zip-none EndsAt b w in (subst (AllByRecursion (IsOf Holds p.standing)) (sym none) tt, ap (map to_port) none))
      linked t (r ∷ rs) is w = along g p 0 (r ∷ rs) b (λ k e. side.holds g r p k at kept t (subst (λ ls. Contains ls r) (sym is) (contains_here r rs)) e) w

      chosen : (c : Bool) → test p.port.direction ≡ c → AllZip EndsAt (cond c (places_along g p 0 (links g)) []) b → AllByRecursion (IsOf Holds p.standing) b × (map to_port b ≡ cond c (replicate (length (links g)) p.number) [])
      chosen true t w = linked t (links g) refl w
      chosen false t w = (let none = zip-none EndsAt b w in (subst (AllByRecursion (IsOf Holds p.standing)) (sym none) tt, ap (map to_port) none))

  -- those at the ports of one entity, from port n on
  at-ports : (e : ℕ) (s : Standing) → is_kept s ≡ true → (n : ℕ) (ps : List ClassPort) (g first : ℕ) → g ≡ first + n → StandFrom g (numbered_ports e s n ps) → (b : List Channel) → AllZip EndsAt (flat_map of (enumerate_from g (numbered_ports e s n ps))) b
      → AllByRecursion (IsOf Holds s) b × (map to_port b ≡ spread test (λ m. length (links (first + m))) n (map way ps))
  at-ports e s kept n [] g first is stand b z = (let none = zip-none EndsAt b z in (subst (AllByRecursion (IsOf Holds s)) (sym none) tt, ap (map to_port) none))
  at-ports e s kept n (q ∷ ps) g first is stand b z =
      let p : PortAt = record { entity = e; standing = s; number = n; port = q } in
      let r = zip-split EndsAt (of (g, p)) (flat_map of (enumerate_from (g + 1) (numbered_ports e s (n + 1) ps))) b z in
      let there : slice_get ports g ≡ Some p = ap (slice_get ports) (let y : g ≡ g + 0 = omega arith in y) ∙ stand 0 p refl in
      let here = at-port g p r.0 there kept r.3 in
      let rest = at-ports e s kept (n + 1) ps (g + 1) first (omega (arith, is)) (λ i x at. ap (slice_get ports) (let y : g + 1 + i ≡ g + suc i = omega arith in y) ∙ stand (suc i) x at) r.1 r.4 in (
        subst (AllByRecursion (IsOf Holds s)) (sym r.2) (all-append (IsOf Holds s) r.0 r.1 here.0 rest.0),
        ap (map to_port) r.2 ∙ map-append to_port r.0 r.1
            ∙ ap₂ (λ (xs ys : List ℕ). xs ++ ys) (here.1 ∙ ap (λ m. cond (test q.direction) (replicate (length (links m)) n) []) is)
            (rest.1 ∙ ap (λ m. spread test (λ m. length (links (first + m))) m (map way ps)) (let y : n + 1 ≡ suc n = omega arith in y)),
      )

  -- a transparent composite has none
  none-at-ports : (e : ℕ) (s : Standing) → is_kept s ≡ false → (n : ℕ) (ps : List ClassPort) (g : ℕ) → flat_map of (enumerate_from g (numbered_ports e s n ps)) ≡ []
  none-at-ports e s out n [] g = refl
  none-at-ports e s out n (q ∷ ps) g = ap₂ (λ (xs ys : List Place). xs ++ ys) (side.left (g, record { entity = e; standing = s; number = n; port = q }) out) (none-at-ports e s out (n + 1) ps (g + 1))

  pub blocks : (e : ℕ) (ss : List Standing) (g j : ℕ) (xs : List Channel) → AreCounted j ss → StandFrom g (ports_from e ss) → AllZip EndsAt (flat_map of (enumerate_from g (ports_from e ss))) xs → AreBlocks to_entity (IsOf Holds) (IsPortBlock ports links test) j (filter is_kept ss) xs
  blocks e [] g j xs counted stand z = zip-none EndsAt xs z
  blocks e (s ∷ ss) g j xs counted stand z =
      let own = numbered_ports e s 0 (ports_of (parts s.tree)) in
      let more = ports_from (e + 1) ss in
      let both : flat_map of (enumerate_from g (own ++ more)) ≡ flat_map of (enumerate_from g own) ++ flat_map of (enumerate_from (g + length own) more) = ap (flat_map of) (enumerate-append g own more) ∙ flat_map-append of (enumerate_from g own) (enumerate_from (g + length own) more) in
      let r = zip-split EndsAt (flat_map of (enumerate_from g own)) (flat_map of (enumerate_from (g + length own) more)) xs (subst (λ qs. AllZip EndsAt qs xs) both z) in
      let tail : StandFrom (g + length own) more = (λ i x at. ap (slice_get ports) (let y : g + length own + i ≡ g + (length own + i) = omega arith in y) ∙ stand (length own + i) x (get-right own more i x at)) in
      chosen r.0 r.1 r.2 r.3 (is_kept s) refl counted.0 counted.1 (λ i c. blocks (e + 1) ss (g + length own) i r.1 c tail r.4)
    where
      chosen : (u v : List Channel) → xs ≡ u ++ v → AllZip EndsAt (flat_map of (enumerate_from g (numbered_ports e s 0 (ports_of (parts s.tree))))) u → (b : Bool) → is_kept s ≡ b → s.number ≡ j → AreCounted (cond b (suc j) j) ss
          → ((i : ℕ) → AreCounted i ss → AreBlocks to_entity (IsOf Holds) (IsPortBlock ports links test) i (filter is_kept ss) v) → AreBlocks to_entity (IsOf Holds) (IsPortBlock ports links test) j (cond b (s ∷ filter is_kept ss) (filter is_kept ss)) xs
      chosen u v is w true kept number rest next =
          let stand-own : StandFrom g (numbered_ports e s 0 (ports_of (parts s.tree))) = (λ i x at. stand i x (get-first (numbered_ports e s 0 (ports_of (parts s.tree))) (ports_from (e + 1) ss) i x at)) in
          let own = at-ports e s kept 0 (ports_of (parts s.tree)) g g (omega arith) stand-own u w in
          let all = all-by (IsOf Holds s) (λ k. (k.to.entity ≡ j) × IsOf Holds s k) (λ k h. (h.0 ∙ number, h)) u own.0 in
          let at : (i : ℕ) (q : ClassPort) → slice_get (ports_of (parts s.tree)) i ≡ Some q → slice_get ports (g + i) ≡ Some (record { entity = e; standing = s; number = i; port = q }) =
          (λ i q h. stand-own i (record { entity = e; standing = s; number = i; port = q }) (numbered-at e s 0 (ports_of (parts s.tree)) i q h ∙ ap (λ (m : ℕ). Some (record { entity = e; standing = s; number = m; port = q })) (let y : 0 + i ≡ i = omega arith in y))) in
          (u, v, is, all, record { place = e; first = g; ports_at = at; ends = own.1 }, next (suc j) rest)
      chosen u v is w false out number rest next =
          let none : u ≡ [] = zip-none EndsAt u (subst (λ qs. AllZip EndsAt qs u) (none-at-ports e s out 0 (ports_of (parts s.tree)) g) w) in
          subst (AreBlocks to_entity (IsOf Holds) (IsPortBlock ports links test) j (filter is_kept ss)) (sym (is ∙ ap (λ us. us ++ v) none)) (next j rest)
