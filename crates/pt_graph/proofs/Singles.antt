-- The ports of a transparent composite, which are single.
use Rattle.std.proofs.Common.{◌≡◌, ℕ, ◌≤◌, Bool, true, false, not, ◌||◌, IsTrue, cond, Some, List, length, get_or, map, bytes_eq, codes, sym, ap, subst, ◌∙◌, arith}
use Rattle.std.proofs.lemmas.Bool.{or_parts, not-true, not-false}
use Rattle.std.proofs.lemmas.List.{get_or_default}
use Rattle.std.proofs.lemmas.List.Elements.{All-contains}
use Rattle.std.specs.List.{Contains}
use Rattle.std.specs.Option.{is_none, option_map}
use Rattle.pt_document.specs.Document.{Parts, parts}
use Rattle.pt_document.specs.Classes.{ClassPort, Composite, Modal, Actor, class_row, kind_of}
use Rattle.pt_net.specs.Standing.{Standing, is_kept, is_composite}
use Rattle.pt_net.specs.Table.{PortAt, Tables, declared_port, ports_of_kind, ports_of}
use Rattle.pt_net.specs.Wires.{outside_of, inside_of, is_input}
use Rattle.pt_net.specs.Net.{wires}
use Rattle.pt_net.specs.Stands.{is_single, has_one_at_most}
use Rattle.pt_links.specs.Wiring.{IsOwned, AreOwned, AreFine}
use Rattle.pt_net.proofs.Members.{map_contains, contains_slice}
use Rattle.pt_graph.proofs.OneSource.{AreSingle}

composite_ports : (own : Parts) → is_composite own ≡ true → ports_of own ≡ map declared_port own.ports
unfolding ports_of kind_of
composite_ports own e = ap (λ (b : Bool). ports_of_kind (cond b (Some Composite) (cond (bytes_eq own.class (codes "Modal")) (Some Modal) (option_map Actor (class_row own.class)))) (map declared_port own.ports)) e

composite_of : (s : Standing) → IsTrue (not (is_kept s)) → is_composite (parts s.tree) ≡ true
composite_of s free =
    let a = or_parts (is_none s.round.outer || not (is_composite (parts s.tree))) s.is_directed (not-true (is_kept s) free) in
    not-false (is_composite (parts s.tree)) (or_parts (is_none s.round.outer) (not (is_composite (parts s.tree))) a.0).1

pub transparent_single : (n : ℕ) (p : PortAt) → IsOwned n p → IsTrue (not (is_kept p.standing)) → is_single p ≡ true
transparent_single n p own free =
    let ports = composite_ports (parts p.standing.tree) (composite_of p.standing free) in
    let w = map_contains declared_port (parts p.standing.tree).ports p.port (subst (λ ps. Contains ps p.port) ports own.1) in
    ap (λ (q : ClassPort). has_one_at_most q.arity) (sym w.2)

pub one_of : (xs : List ℕ) (a b : ℕ) → length xs ≤ 1 → Contains xs a → Contains xs b → a ≡ b
one_of xs a b short x y =
    let i : x.0 ≡ 0 = omega (arith, x.1) in
    let j : y.0 ≡ 0 = omega (arith, y.1) in
    let p : get_or xs x.0 a ≡ get_or xs y.0 a = ap (λ k. get_or xs k a) (i ∙ sym j) in
    sym x.2 ∙ p ∙ get_or_default xs y.0 a b y.1 ∙ y.2

-- where the links of each port are as they have to be, a port of a transparent composite has one on each side at most
pub are_single : (t : Tables) → AreOwned t → AreFine t → AreSingle t.ports (wires t)
are_single t own fine g p is free a b x y =
    let f = fine g p is in
    let o = All-contains (IsOwned (length t.entities)) t.ports p own (contains_slice t.ports g p is) in
    either (is_input p) (f.single (transparent_single (length t.entities) p o free)) f.single_inside x y
  where
    either : (input : Bool) → length (outside_of (wires t) g) ≤ 1 → length (inside_of (wires t) g) ≤ 1 → Contains (cond input (outside_of (wires t) g) (inside_of (wires t) g)) a → Contains (cond input (outside_of (wires t) g) (inside_of (wires t) g)) b → a ≡ b
    either true out ins x y = one_of (outside_of (wires t) g) a b out x y
    either false out ins x y = one_of (inside_of (wires t) g) a b ins x y
