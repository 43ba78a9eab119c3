-- The keys of ports and relations.
use Rattle.std.proofs.Common.{◌≡◌, ℕ, ◌+◌, ◌<◌, List, [], ◌∷◌, ◌++◌, Option, length, get_or, take, map, sym, ap, ◌∙◌, arith}
use Rattle.std.proofs.lemmas.List.{map_push, map_more, get_or-map, length-map}
use Rattle.pt_survey.specs.declared.tables.PlacedPort.{PlacedPort}
use Rattle.pt_survey.specs.Survey.{port_at, ports_view}
use Rattle.pt_net.specs.Table.{PortAt, RelationAt}
use Rattle.pt_links.specs.Resolve.{Name, outside_text}

abbrev pub pair_view : ℕ × Name → ℕ × List ℕ
pair_view k = (k.0, k.1.now)

abbrev pub child_view : Option ℕ × Name → Option ℕ × List ℕ
child_view k = (k.0, k.1.now)

abbrev pub inside_key : PortAt → ℕ × List ℕ
inside_key p = (p.entity, p.port.name)

abbrev pub outside_key : PortAt → Option ℕ × List ℕ
outside_key p = (p.standing.round.outer, outside_text p)

abbrev pub relation_key : RelationAt → ℕ × List ℕ
relation_key r = (r.composite, r.name)

-- one key more
pub outside_next : (keys : List (Option ℕ × Name)) (ports : List PlacedPort) (texts : List (List ℕ)) (i : ℕ) (p : PlacedPort) (text : List ℕ) (s : Name) → i < length ports → p ≡ get_or ports i p → text ≡ get_or texts i text → s.now ≡ text → texts ≡ map outside_text (ports_view ports) → map child_view keys ≡ map outside_key (ports_view (take i ports)) → map child_view (keys ++ (p.placed.now.round.outer, s) ∷ []) ≡ map outside_key (ports_view (take (i + 1) ports))
outside_next keys ports texts i p text s within is is_text is_s all so_far =
    map_push child_view keys (p.placed.now.round.outer, s)
    ∙ ap (λ (t : List ℕ). map child_view keys ++ (p.placed.now.round.outer, t) ∷ []) named
    ∙ ap (λ (ks : List (Option ℕ × List ℕ)). ks ++ outside_key (port_at p) ∷ []) so_far
    ∙ ap (λ (q : PlacedPort). map outside_key (ports_view (take i ports)) ++ outside_key (port_at q) ∷ []) is
    ∙ sym (map_push outside_key (ports_view (take i ports)) (port_at (get_or ports i p)))
    ∙ ap (map outside_key) (sym (map_more port_at ports i p within))
  where
    named : s.now ≡ outside_text (port_at p)
    named =
        is_s ∙ is_text ∙ ap (λ (ts : List (List ℕ)). get_or ts i text) all
        ∙ get_or-map outside_text (ports_view ports) i (port_at p) text (omega (arith, length-map ports port_at))
        ∙ ap outside_text (get_or-map port_at ports i p (port_at p) within)
        ∙ sym (ap (λ (q : PlacedPort). outside_text (port_at q)) is)
