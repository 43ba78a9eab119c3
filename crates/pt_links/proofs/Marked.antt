-- Which entities are marked, and the numbers of ports by their names within those.
use Rattle.std.proofs.Common.{◌≡◌, ℕ, ◌+◌, Bool, true, false, cond, Option, Some, None, List, [], ◌∷◌, ◌++◌, ◌&&◌, nat_eq, bytes_eq, suc, length, refl, sym, ap, subst, ◌∙◌, arith}
use Rattle.std.proofs.lemmas.Bool.{eqb-true}
use Rattle.std.proofs.lemmas.List.Elements.{All-contains, All-map}
use Rattle.std.proofs.lemmas.Iterator.Adapters.{position_from-zero}
use Rattle.std.specs.List.{All, position, position_from}
use Rattle.std.specs.Map.{lookup}
use Rattle.pt_survey.specs.declared.tables.PlacedLink.{PlacedLink}
use Rattle.pt_survey.specs.declared.tables.PlacedPort.{PlacedPort}
use Rattle.pt_survey.specs.Survey.{link_at, links_view, port_at}
use Rattle.pt_net.specs.Table.{PortAt}
use Rattle.pt_net.specs.Wires.{names_inside}
use Rattle.pt_links.specs.Resolve.{Name, pair_eq, is_marked, HasLinks}

-- a composite of one of the links is marked
pub linked_marked : (marks : List Bool) (links : List PlacedLink) (c : ℕ) → All (λ (l : PlacedLink). is_marked marks l.composite ≡ true) links → HasLinks (links_view links) c → is_marked marks c ≡ true
linked_marked marks links c each has =
    subst (λ n. is_marked marks n ≡ true) has.2 (All-contains (λ l. is_marked marks l.composite ≡ true) (links_view links) has.0 (All-map (λ l. is_marked marks l.composite ≡ true) link_at links each) has.1)

-- ---- one more at the end

abbrev or_else : {A : Type 0} → Option A → Option A → Option A
or_else (Some a) other = Some a
or_else None other = other

behind : {A : Type 0} (b : Bool) (a : A) (l rest : Option A) → cond b (Some a) (or_else l rest) ≡ or_else (cond b (Some a) l) rest
behind true a l rest = refl
behind false a l rest = refl

lookup-push : {K : Type 0} (test : K → Bool) (ps : List (K × ℕ)) (p : K × ℕ) → lookup test (ps ++ p ∷ []) ≡ or_else (lookup test ps) (cond (test p.0) (Some p.1) None)
lookup-push test [] p = refl
lookup-push test (q ∷ ps) p = ap (cond (test q.0) (Some q.1)) (lookup-push test ps p) ∙ behind (test q.0) q.1 (lookup test ps) (cond (test p.0) (Some p.1) None)

position_from-push : {X : Type 0} (test : X → Bool) (n : ℕ) (xs : List X) (x : X) → position_from test n (xs ++ x ∷ []) ≡ or_else (position_from test n xs) (cond (test x) (Some (n + length xs)) None)
position_from-push test n [] x = ap (λ m. cond (test x) (Some m) None) (let e : n ≡ n + 0 = omega arith in e)
position_from-push test n (y ∷ xs) x =
    ap (cond (test y) (Some n)) (position_from-push test (n + 1) xs x)
    ∙ behind (test y) n (position_from test (n + 1) xs) (cond (test x) (Some (n + 1 + length xs)) None)
    ∙ ap (λ m. or_else (cond (test y) (Some n) (position_from test (n + 1) xs)) (cond (test x) (Some m) None)) (let e : n + 1 + length xs ≡ n + suc (length xs) = omega arith in e)

position-push : {X : Type 0} (test : X → Bool) (xs : List X) (x : X) → position test (xs ++ x ∷ []) ≡ or_else (position test xs) (cond (test x) (Some (length xs)) None)
position-push test xs x =
    position_from-zero test (xs ++ x ∷ []) ∙ position_from-push test 0 xs x
    ∙ ap (λ n. or_else (position_from test 0 xs) (cond (test x) (Some n) None)) (let e : 0 + length xs ≡ length xs = omega arith in e)
    ∙ ap (λ o. or_else o (cond (test x) (Some (length xs)) None)) (sym (position_from-zero test xs))

-- a port of a marked entity is added
pub inside-added : (pairs : List ((ℕ × Name) × ℕ)) (name : Name) (number : ℕ) (port : PlacedPort) (c : ℕ) (text : Name) (ports : List PortAt) → name.now ≡ (port_at port).port.name → length ports ≡ number → lookup (pair_eq (c, text)) pairs ≡ position (names_inside c text.now) ports →
    lookup (pair_eq (c, text)) (pairs ++ ((port.entity, name), number) ∷ []) ≡ position (names_inside c text.now) (ports ++ port_at port ∷ [])
inside-added pairs name number port c text ports named counted so_far =
    lookup-push (pair_eq (c, text)) pairs ((port.entity, name), number)
    ∙ ap (λ o. or_else o (cond (pair_eq (c, text) (port.entity, name)) (Some number) None)) so_far
    ∙ ap (λ n. or_else (position (names_inside c text.now) ports) (cond (pair_eq (c, text) (port.entity, name)) (Some n) None)) (sym counted)
    ∙ ap (λ bytes. or_else (position (names_inside c text.now) ports) (cond (nat_eq c port.entity && bytes_eq text.now bytes) (Some (length ports)) None)) named
    ∙ sym (position-push (names_inside c text.now) ports (port_at port))

never : (b : Bool) → (b ≡ true → ⊥) → b ≡ false
never true h = absurd (h refl)
never false h = refl

none-more : (o : Option ℕ) → o ≡ or_else o None
none-more (Some n) = refl
none-more None = refl

-- and one of another entity isn't one that a link names
pub inside-left : (pairs : List ((ℕ × Name) × ℕ)) (marks : List Bool) (port : PlacedPort) (c : ℕ) (text : Name) (ports : List PortAt) → is_marked marks port.entity ≡ false → is_marked marks c ≡ true → lookup (pair_eq (c, text)) pairs ≡ position (names_inside c text.now) ports →
    lookup (pair_eq (c, text)) pairs ≡ position (names_inside c text.now) (ports ++ port_at port ∷ [])
inside-left pairs marks port c text ports unmarked marked so_far =
    so_far ∙ none-more (position (names_inside c text.now) ports)
    ∙ ap (λ b. or_else (position (names_inside c text.now) ports) (cond b (Some (length ports)) None)) (sym no)
    ∙ sym (position-push (names_inside c text.now) ports (port_at port))
  where
    apart : nat_eq c port.entity ≡ false
    apart = never (nat_eq c port.entity) (λ e. let same : true ≡ false = sym marked ∙ ap (is_marked marks) (eqb-true c port.entity e) ∙ unmarked in cc)

    no : names_inside c text.now (port_at port) ≡ false
    no = ap (λ b. b && bytes_eq text.now (port_at port).port.name) apart
