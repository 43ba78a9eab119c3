-- The channels to the inputs of each entity, port by port.
use Rattle.std.proofs.Common.{◌≡◌, ◌≢◌, ℕ, ◌+◌, ◌-◌, ◌^◌, ◌<◌, ◌≤◌, min, Bool, cond, List, [], ◌∷◌, ◌++◌, length, get_or, set, take, nat_eq, inl, inr, add-zero, refl, sym, ap, subst, ◌∙◌, arith, get_or-set_same, get_or-set_other, length-set}
use Rattle.std.proofs.lemmas.Bool.{cases_eq, eq-eqb, ne_eqb}
use Rattle.std.proofs.lemmas.List.{take_more, length-take-le, take_all, get_or_default}
use Rattle.std.proofs.lemmas.List.Elements.{All-nil, All-cons, All-head, All-tail, All-append, All-contains_itself}
use Rattle.std.proofs.lemmas.List.Sums.{sum_by_push}
use Rattle.std.specs.List.{All, Contains, sum_by, enumerate_from}
use Rattle.pt_net.proofs.Members.{enumerate-push}
use Rattle.pt_document.specs.Document.{parts}
use Rattle.pt_document.specs.Classes.{ClassPort}
use Rattle.pt_net.specs.declared.wire.Wire.{Wire}
use Rattle.pt_net.specs.Standing.{Standing}
use Rattle.pt_net.specs.Table.{PortAt, Tables, numbered_ports, ports_from, ports_of, tables_from}
use Rattle.pt_net.specs.Net.{wires}
use Rattle.pt_net.specs.Stands.{input_channels, channels_in}
use Rattle.pt_links.specs.Wiring.{IsOwned, AreOwned, AreCounts}

numbered_owned : (m e : ℕ) (s : Standing) (n : ℕ) (ps all : List ClassPort) → e < m → All (Contains all) ps → all ≡ ports_of (parts s.tree) → All (IsOwned m) (numbered_ports e s n ps)
numbered_owned m e s n [] all below in' is = All-nil (IsOwned m)
numbered_owned m e s n (p ∷ ps) all below in' is =
    All-cons (IsOwned m) _ (numbered_ports e s (n + 1) ps) (below, subst (λ qs. Contains qs p) is (All-head (Contains all) p ps in')) (numbered_owned m e s (n + 1) ps all below (All-tail (Contains all) p ps in') is)

ports_owned : (e m : ℕ) (all : List Standing) → e + length all ≤ m → All (IsOwned m) (ports_from e all)
ports_owned e m [] h = All-nil (IsOwned m)
ports_owned e m (s ∷ ss) h =
    All-append (IsOwned m) (numbered_ports e s 0 (ports_of (parts s.tree))) (ports_from (e + 1) ss)
    (numbered_owned m e s 0 (ports_of (parts s.tree)) (ports_of (parts s.tree)) (omega (arith, h)) (All-contains_itself (ports_of (parts s.tree))) refl)
    (ports_owned (e + 1) m ss (omega (arith, h)))

pub owned : (all : List Standing) → AreOwned (tables_from all)
owned all = ports_owned 0 (length all) all (omega arith)

-- one port more
channels_in-push : (ps : List PortAt) (ws : List Wire) (e : ℕ) (p : PortAt) → channels_in (ps ++ p ∷ []) ws e ≡ channels_in ps ws e + cond (nat_eq p.entity e) (input_channels ws (length ps, p)) 0
channels_in-push ps ws e p =
    let f : ℕ × PortAt → ℕ = λ q. cond (nat_eq q.1.entity e) (input_channels ws q) 0 in
    ap (λ (qs : List (ℕ × PortAt)). sum_by f qs) (enumerate-push 0 ps p)
    ∙ sum_by_push f (enumerate_from 0 ps) (0 + length ps, p)
    ∙ ap (λ (n : ℕ). channels_in ps ws e + cond (nat_eq p.entity e) (input_channels ws (n, p)) 0) (let z : 0 + length ps ≡ length ps = omega arith in z)

module _ (t : Tables) (i : ℕ) (d : PortAt) (within : i < length t.ports) where
  abbrev port : PortAt
  port = get_or t.ports i d

  more : (e : ℕ) → channels_in (take (i + 1) t.ports) (wires t) e ≡ channels_in (take i t.ports) (wires t) e + cond (nat_eq port.entity e) (input_channels (wires t) (i, port)) 0
  more e =
      ap (λ (ps : List PortAt). channels_in ps (wires t) e) (take_more t.ports i d within)
      ∙ channels_in-push (take i t.ports) (wires t) e port
      ∙ ap (λ (n : ℕ). channels_in (take i t.ports) (wires t) e + cond (nat_eq port.entity e) (input_channels (wires t) (n, port)) 0) (length-take-le i t.ports (omega arith))

  capped : (c x y z : ℕ) → c ≡ min y (2 ^ 64 - 1) → z ≡ min (c + x) (2 ^ 64 - 1) → z ≡ min (y + x) (2 ^ 64 - 1)
  capped c x y z e f = omega (arith, e, f)

  pub counts_more : (counts : List ℕ) (x y : ℕ) → port.entity < length t.entities → x ≡ input_channels (wires t) (i, port) → y ≡ min (get_or counts port.entity 0 + x) (2 ^ 64 - 1) → AreCounts t i counts → AreCounts t (i + 1) (set counts port.entity y)
  counts_more counts x y own is_x is_y so_far = record { each = length-set counts port.entity y ∙ so_far.each; count = count }
    where
      count : (e : ℕ) → e < length t.entities → get_or (set counts port.entity y) e 0 ≡ min (channels_in (take (i + 1) t.ports) (wires t) e) (2 ^ 64 - 1)
      count e below = elim (cases_eq port.entity e) [ inl same ↦ here same | inr ne ↦ other ne ]
        where
          here : port.entity ≡ e → get_or (set counts port.entity y) e 0 ≡ min (channels_in (take (i + 1) t.ports) (wires t) e) (2 ^ 64 - 1)
          here same =
              let a : get_or (set counts port.entity y) e 0 ≡ y = ap (λ (k : ℕ). get_or (set counts port.entity y) k 0) (sym same) ∙ get_or-set_same counts port.entity y 0 (omega (arith, so_far.each)) in
              let b : channels_in (take (i + 1) t.ports) (wires t) e ≡ channels_in (take i t.ports) (wires t) e + x = more e ∙ ap (λ (q : Bool). channels_in (take i t.ports) (wires t) e + cond q (input_channels (wires t) (i, port)) 0) (eq-eqb port.entity e same) ∙ ap (λ (n : ℕ). channels_in (take i t.ports) (wires t) e + n) (sym is_x) in
              let k : get_or counts port.entity 0 ≡ min (channels_in (take i t.ports) (wires t) e) (2 ^ 64 - 1) = ap (λ (j : ℕ). get_or counts j 0) same ∙ so_far.count e below in
              a ∙ capped (get_or counts port.entity 0) x (channels_in (take i t.ports) (wires t) e) y k is_y ∙ ap (λ (n : ℕ). min n (2 ^ 64 - 1)) (sym b)

          other : port.entity ≢ e → get_or (set counts port.entity y) e 0 ≡ min (channels_in (take (i + 1) t.ports) (wires t) e) (2 ^ 64 - 1)
          other ne =
              let b : channels_in (take (i + 1) t.ports) (wires t) e ≡ channels_in (take i t.ports) (wires t) e = more e ∙ ap (λ (q : Bool). channels_in (take i t.ports) (wires t) e + cond q (input_channels (wires t) (i, port)) 0) (ne_eqb port.entity e ne) ∙ add-zero (channels_in (take i t.ports) (wires t) e) in
              get_or-set_other counts port.entity e y 0 (λ h. ne (sym h)) ∙ so_far.count e below ∙ ap (λ (n : ℕ). min n (2 ^ 64 - 1)) (sym b)

-- no port was counted yet
pub no_counts : (t : Tables) (counts : List ℕ) → length counts ≡ length t.entities → ((e : ℕ) → e < length t.entities → get_or counts e 0 ≡ 0) → AreCounts t 0 counts
no_counts t counts each none = record { each = each; count = λ e below. none e below }

-- the same, where the port was read
pub counts_read : (t : Tables) (i : ℕ) (p : PortAt) → i < length t.ports → get_or t.ports i p ≡ p → (counts : List ℕ) (x y : ℕ) → p.entity < length t.entities → x ≡ input_channels (wires t) (i, p) → y ≡ min (get_or counts p.entity 0 + x) (2 ^ 64 - 1) → AreCounts t i counts → AreCounts t (i + 1) (set counts p.entity y)
counts_read t i p within is counts x y own is_x is_y so_far =
    subst (λ (q : PortAt). AreCounts t (i + 1) (set counts q.entity y)) is
    (counts_more t i p within counts x y (subst (λ (q : PortAt). q.entity < length t.entities) (sym is) own) (subst (λ (q : PortAt). x ≡ input_channels (wires t) (i, q)) (sym is) is_x) (subst (λ (q : PortAt). y ≡ min (get_or counts q.entity 0 + x) (2 ^ 64 - 1)) (sym is) is_y) so_far)

-- a port that was read is one of an entity of the tables
pub owned_read : (t : Tables) (i : ℕ) (p : PortAt) → i < length t.ports → get_or t.ports i p ≡ p → AreOwned t → p.entity < length t.entities
owned_read t i p within is all = subst (λ (q : PortAt). q.entity < length t.entities) is (all i p within).0

-- what the count of an entity is once all ports are counted
pub counted : (t : Tables) (counts : List ℕ) (e c : ℕ) → AreCounts t (length t.ports) counts → e < length t.entities → c ≡ get_or counts e c → c ≡ min (channels_in t.ports (wires t) e) (2 ^ 64 - 1)
counted t counts e c all below is =
    is ∙ get_or_default counts e c 0 (omega (arith, all.each)) ∙ all.count e below
    ∙ ap (λ (ps : List PortAt). min (channels_in ps (wires t) e) (2 ^ 64 - 1)) (take_all (length t.ports) t.ports (omega arith))

pub too_few : (c channels least : ℕ) → c ≡ min channels (2 ^ 64 - 1) → c < least → least < 256 → channels < least
too_few c channels least is few small = omega (arith, is)

pub enough : (c channels least : ℕ) → c ≡ min channels (2 ^ 64 - 1) → least ≤ c → least ≤ channels
enough c channels least is many = omega (arith, is)
