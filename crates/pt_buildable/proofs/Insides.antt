-- The channels of a composite of a net in order: there is one for each place of its children and one for each own output, and each begins at an own input or at a child.
use Rattle.std.proofs.Common.{◌≡◌, ◌<◌, ◌+◌, ℕ, suc, List, [], ◌∷◌, Bool, true, false, cond, Some, length, map, filter, take, refl, sym, ap, ap₂, subst, ◌∙◌, arith, if◌then◌else◌}
use Rattle.std.specs.List.{Contains, slice_get, flat_map, count_by}
use Rattle.std.proofs.lemmas.Bool.{eq-eqb, ne_eqb, eqb-true}
use Rattle.std.proofs.lemmas.List.{length-map, length-append}
use Rattle.std.proofs.lemmas.List.Sums.{length-filter}
use Rattle.std.proofs.lemmas.Option.{same_Some, slice_get_within}
use Rattle.pt_meaning.specs.Net as net_spec
use Rattle.pt_meaning.specs.Running.{total}
use Rattle.pt_laws.specs.StartedRuns.{IsThere, AllThere}
use Rattle.pt_document.specs.declared.job.Port.{Port}
use Rattle.pt_net.specs.declared.net.Channel.{Channel}
use Rattle.pt_net.specs.declared.net.Net.{Net}
use Rattle.pt_net.specs.declared.net.NetDirector.{NetDirector}
use Rattle.pt_net.specs.declared.net.NetEntity.{NetEntity}
use Rattle.pt_net.specs.Inside.{children_of, child_number, is_input, is_output, number_by, port_number, ports_in, ports_at, source_of, is_within, channels_in, comes_to, place_count}
use Rattle.pt_scopes.proofs.Places.{count-below}
use Rattle.pt_trees.specs.Around.{Around}
use Rattle.pt_trees.specs.Trees.{IsEntity, Starts, around_in}
use Rattle.pt_order.specs.Wired.{arrivals, departures, number_if, port_numbers, BeginsIn, at_own, at_child, IsWired}
use Rattle.pt_order.proofs.Children.{get-is, child-number}

-- ---- how many

flat-length : (ks : List Channel) (cs : List ℕ) → length (flat_map (arrivals ks) cs) ≡ total (map (place_count ks) cs)
flat-length ks [] = refl
flat-length ks (c ∷ cs) = length-append (arrivals ks c) (flat_map (arrivals ks) cs) ∙ ap₂ (λ m n. m + n) (length-filter (comes_to c) ks) (flat-length ks cs)

numbers-length : (test : Port → Bool) (n : ℕ) (ps : List Port) → length (port_numbers test n ps) ≡ length (filter test ps)
numbers-length test n [] = refl
numbers-length test n (p ∷ ps) = chosen (test p) (port_numbers test (suc n) ps) (filter test ps) (numbers-length test (suc n) ps)
  where
    chosen : (b : Bool) (xs : List ℕ) (ys : List Port) → length xs ≡ length ys → length (number_if b n xs) ≡ length (cond b (p ∷ ys) ys)
    chosen true xs ys e = ap (λ m. suc m) e
    chosen false xs ys e = e

pub channels-counted : (net : Net) (starts : Starts) (k : ℕ) (e : NetEntity) (d : NetDirector) → IsWired net → IsEntity net k e → e.director ≡ Some d → length (around_in net starts k e).sources ≡ total (around_in net starts k e).places + (around_in net starts k e).outputs
channels-counted net starts k e d wired at directed =
    let ks = net.channels.items in
    let cs = children_of net.entities.items k in
    let outs : length (departures ks k) ≡ count_by is_output e.ports.items =
    sym (length-map (departures ks k) (λ (x : Channel). x.to.port)) ∙ ap (λ (ns : List ℕ). length ns) (wired.outputs k e d at directed) ∙ numbers-length is_output 0 e.ports.items ∙ length-filter is_output e.ports.items in
    length-map (channels_in ks k) (source_of net.entities.items) ∙ ap (λ (xs : List Channel). length xs) (wired.grouped k e d at directed)
    ∙ length-append (flat_map (arrivals ks) cs) (departures ks k) ∙ ap₂ (λ m n. m + n) (flat-length ks cs) outs

-- ---- from where

there-all : (es : List NetEntity) (inputs children k : ℕ) (xs : List Channel) → ((x : Channel) → Contains xs x → is_within k x ≡ true → IsThere inputs children (source_of es x)) → AllThere inputs children (map (source_of es) (filter (is_within k) xs))
there-all es inputs children k [] h = tt
there-all es inputs children k (x ∷ xs) h = chosen (is_within k x) refl (there-all es inputs children k xs (λ y c. h y (suc c.0, omega (arith, c.1), c.2)))
  where
    chosen : (b : Bool) → is_within k x ≡ b → AllThere inputs children (map (source_of es) (filter (is_within k) xs)) → AllThere inputs children (map (source_of es) (cond b (x ∷ filter (is_within k) xs) (filter (is_within k) xs)))
    chosen true is rest = (h x (0, omega arith, refl) is, rest)
    chosen false is rest = rest

-- the number of an input among the inputs
input-number : (ports : List Port) (i : ℕ) (p : Port) → slice_get ports i ≡ Some p → is_input p ≡ true → port_number ports i < count_by is_input ports
input-number ports i p at input =
    let is : port_number ports i ≡ count_by is_input (take i ports) = ap (number_by (take i ports)) at ∙ ap (λ b. if b then count_by is_input (take i ports) else count_by is_output (take i ports)) input in
    let below = count-below is_input ports i p at input in
    let all = length-filter is_input ports in
    omega (arith, is, below, all)

module _ (net : Net) (starts : Starts) (k : ℕ) (owner : NetEntity) (there : IsEntity net k owner) where
  abbrev es : List NetEntity
  es = net.entities.items

  abbrev around : Around
  around = around_in net starts k owner

  source-there : (x : Channel) → x.composite ≡ k → BeginsIn net x → IsThere around.inputs (length around.places) (source_of es x)
  source-there x in_k (at_own e p own at at-port input) =
      let same : e ≡ owner = same_Some e owner (sym at ∙ ap (slice_get es) (own ∙ in_k) ∙ there) in
      let ports : ports_at es x.from.entity ≡ owner.ports.items = ap ports_in at ∙ ap (λ (y : NetEntity). y.ports.items) same in
      let at-owner : slice_get owner.ports.items x.from.port ≡ Some p = ap (λ (y : NetEntity). slice_get y.ports.items x.from.port) (sym same) ∙ at-port in
      let is : source_of es x ≡ net_spec.Own (port_number (ports_at es x.from.entity) x.from.port) = ap (λ b. if b then net_spec.Own (port_number (ports_at es x.from.entity) x.from.port) else net_spec.Output (child_number es x.from.entity) (port_number (ports_at es x.from.entity) x.from.port)) (eq-eqb x.from.entity x.composite own) in
      subst (IsThere around.inputs (length around.places)) (sym is) (subst (λ (ps : List Port). port_number ps x.from.port < around.inputs) (sym ports) (input-number owner.ports.items x.from.port p at-owner input))
  source-there x in_k (at_child e p other at parent at-port output) =
      let is : source_of es x ≡ net_spec.Output (child_number es x.from.entity) (port_number (ports_at es x.from.entity) x.from.port) = ap (λ b. if b then net_spec.Own (port_number (ports_at es x.from.entity) x.from.port) else net_spec.Output (child_number es x.from.entity) (port_number (ports_at es x.from.entity) x.from.port)) (ne_eqb x.from.entity x.composite other) in
      let number = child-number es x.from.entity k e owner at (parent ∙ ap (λ c. Some c) in_k) there in
      let below = slice_get_within (children_of es k) (child_number es x.from.entity) x.from.entity (sym (get-is (children_of es k) (child_number es x.from.entity)) ∙ number) in
      let counted : length around.places ≡ length (children_of es k) = length-map (children_of es k) (place_count net.channels.items) in
      let h : child_number es x.from.entity < length around.places = omega (arith, below, counted) in
      subst (IsThere around.inputs (length around.places)) (sym is) h

  pub sources-there : IsWired net → AllThere around.inputs (length around.places) around.sources
  sources-there wired = there-all es around.inputs (length around.places) k net.channels.items (λ x c within. source-there x (eqb-true x.composite k within) (wired.begin x c))
