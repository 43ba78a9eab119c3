-- There is a line for each recorded meeting.
use Rattle.std.proofs.Common.{◌≡◌, ◌⊎◌, inl, inr, ℕ, suc, ◌+◌, List, [], ◌∷◌, ◌++◌, Bool, true, false, nat_eq, Option, Some, None, refl, sym, ap, subst, ◌∙◌, arith}
use Rattle.std.proofs.lemmas.Bool.Decides.{nat_tests}
use Rattle.std.proofs.lemmas.List.Elements.{All-from_recursion}
use Rattle.std.proofs.lemmas.Option.{same_Some}
use Rattle.std.specs.List.{AllByRecursion}
use Rattle.std.specs.Prelude.{slice_get, option_and_then}
use Rattle.pt_meaning.specs.Basics.{Path}
use Rattle.pt_meaning.specs.Log.{Meeting, Channel, Barrier, if_same}
use Rattle.pt_records.specs.Kept.{Made, kept_at}
use Rattle.pt_records.specs.Made.{made_in, made_if, meets_of}
use Rattle.pt_meeting_laws.specs.There.{Extent, IsOf, AreOf, extent_at}
use Rattle.pt_net.specs.declared.net.Channel as link
use Rattle.pt_net.specs.declared.net.Net.{Net}
use Rattle.pt_net.specs.declared.net.NetEntity.{NetEntity}
use Rattle.pt_net.specs.Inside.{children_of, channels_in}
use Rattle.pt_trace.specs.declared.meetings.Met.{Met}
use Rattle.pt_trace.specs.declared.meetings.Met.TheVariants as met
use Rattle.pt_trace.specs.ReportForm.{joined}
use Rattle.pt_node.specs.Shown.{Shown, AllShown, Branch, none, more}
use Rattle.pt_node.specs.View.{node_of, kept_of, kepts_of}
use Rattle.pt_trees.specs.Trees.{Starts}
use Rattle.pt_trees.specs.Built.{IsBuilt}
use Rattle.pt_cover.specs.Paths.{entity_at}
use Rattle.pt_cover.proofs.Nesting.{get-within}
use Rattle.pt_order.specs.Laws.{IsNetOfDocument, IsInOrder}
use Rattle.pt_order.proofs.Children.{child-stands}
use Rattle.pt_meeting_lines.specs.Tells.{Tells}
use Rattle.pt_meetings.specs.Sites.{Site, CanBeTold, own_site, seen_below, sites_in, sites_below}
use Rattle.pt_tellable.specs.Laws.{MeetingsCanBeTold}
use Rattle.pt_tellable.proofs.Extents.{IsRvAt, extent-found}
use Rattle.pt_tellable.proofs.Ends.{EndsOut, EndsIn, channel-ends}
use Rattle.pt_tellable.proofs.Naming.{IsNamed}
use Rattle.pt_tellable.proofs.NetPaths.{net-named}

-- ---- a meeting of a Rendezvous composite

module _ (net : Net) (doc : IsNetOfDocument net) (order : IsInOrder net) (k : ℕ) (x : Extent) (at : IsRvAt net k x) where
  abbrev CanTell : Meeting → Type 0
  CanTell m = (what : Met) × Tells net k at.round what m

  -- a child of it is named below it
  below-it : (j : ℕ) (e : NetEntity) → slice_get net.entities.items j ≡ Some e → e.parent ≡ Some k → IsNamed at.round.path e.path
  below-it j e there parent = net-named net doc k j at.round e at.at there parent

  pub told-of : (m : Meeting) → IsOf (Some x) m → CanTell m
  told-of (Channel c) l =
      let found = get-within (channels_in net.channels.items k) c (let e = at.channels in omega (arith, l, e)) in
      by_end found.0 found.1 (channel-ends net order k at.round at.director at.at at.directed c found.0 found.1)
    where
      by_end : (y : link.Channel) → slice_get (channels_in net.channels.items k) c ≡ Some y → EndsOut net k at.round y ⊎ EndsIn net k y → CanTell (Channel c)
      by_end y there (inl e) = (met.Out e.port.name, (y, there, (e.own, (e.port, e.there, refl))))
      by_end y there (inr e) =
          let n : IsNamed at.round.path e.child.path = below-it y.to.entity e.child e.at e.parent in
          (met.Meet (record { child = joined n.first n.rest; port = e.port.name; channel = y.to.index }), (y, there, (e.apart, (e.child, (e.at, sym n.is), (e.port, e.there, refl), refl))))
  told-of (Barrier b) l =
      let found = get-within (children_of net.entities.items k) b (let e = at.children in omega (arith, l, e)) in
      let child = child-stands k net.entities.items b found.0 found.1 in
      let n : IsNamed at.round.path child.0.path = below-it found.0 child.0 child.1 child.2 in
      (met.Barrier (joined n.first n.rest), (found.0, found.1, (child.0, (child.1, sym n.is))))

-- ---- each entry of a record

pub entries-of : (e : Option Extent) (made : Made) → ((n : ℕ) → AreOf e (made_in n made)) → AllByRecursion (λ (m : ℕ × Meeting). IsOf e m.1) made
entries-of e [] h = tt
entries-of e (m ∷ made) h = (first, entries-of e made (λ n. rest (nat_eq m.0 n) n (h n)))
  where
    first : IsOf e m.1
    first = let same : nat_eq m.0 m.0 ≡ true = grind (arith, nat_tests) in (subst (λ b. AreOf e (if_same b m.1 (made_in m.0 made))) same (h m.0)).0

    rest : (b : Bool) (n : ℕ) → AreOf e (if_same b m.1 (made_in n made)) → AreOf e (made_in n made)
    rest true n g = g.1
    rest false n g = g

-- ---- the sites of a tree

-- which entity a site is of, and what is recorded there
pub record IsSiteOf (es : List NetEntity) (at : Path → Option ℕ) (kept : Path → Option Made) (x : Site) : Type 0 where
  pub number : at x.path ≡ Some x.number
  pub record_is : kept x.path ≡ Some x.made

abbrev pub AreSitesOf : List NetEntity → (Path → Option ℕ) → (Path → Option Made) → List Site → Type 0
AreSitesOf es at kept xs = AllByRecursion (IsSiteOf es at kept) xs

all-append : {A : Type 0} (P : A → Type 0) (xs ys : List A) → AllByRecursion P xs → AllByRecursion P ys → AllByRecursion P (xs ++ ys)
all-append P [] ys g h = h
all-append P (x ∷ xs) ys g h = (g.0, all-append P xs ys g.1 h)

seen-sites : (es : List NetEntity) (at : Path → Option ℕ) (kept : Path → Option Made) (i : ℕ) (xs : List Site) → AreSitesOf es (λ p. at (i ∷ p)) (λ p. kept (i ∷ p)) xs → AreSitesOf es at kept (seen_below i xs)
seen-sites es at kept i [] h = tt
seen-sites es at kept i (x ∷ xs) h = (record { number = h.0.number; record_is = h.0.record_is }, seen-sites es at kept i xs h.1)

own-sites : (es : List NetEntity) (at : Path → Option ℕ) (kept : Path → Option Made) (k : ℕ) (made : Option Made) → at [] ≡ Some k → kept [] ≡ made → AreSitesOf es at kept (own_site k made)
own-sites es at kept k None a b = tt
own-sites es at kept k (Some made) a b = (record { number = a; record_is = b }, tt)

mutual
  pub sites-of : (es : List NetEntity) (k : ℕ) (s : Shown) (at : Path → Option ℕ) (kept : Path → Option Made) → ((p : Path) → at p ≡ entity_at es k p) → ((p : Path) → kept p ≡ (kept_of s p).meetings) → AreSitesOf es at kept (sites_in es k s)
  sites-of es k (Branch f ks) at kept a b =
      all-append (IsSiteOf es at kept) (own_site k f.meetings) (sites_below es 0 (children_of es k) ks) (own-sites es at kept k f.meetings (a []) (b []))
      (sites-below es 0 (children_of es k) ks at kept (λ j m p e. a (m ∷ p) ∙ ap (λ n. option_and_then (λ c. entity_at es c p) (slice_get (children_of es k) n)) (omega (arith, e))) (λ j m p e. b (m ∷ p) ∙ ap (λ n. (kept_at (kepts_of ks) n p).meetings) (omega (arith, e))))

  sites-below : (es : List NetEntity) (i : ℕ) (cs : List ℕ) (ks : AllShown) (at : Path → Option ℕ) (kept : Path → Option Made) → ((j m : ℕ) (p : Path) → m ≡ i + j → at (m ∷ p) ≡ option_and_then (λ c. entity_at es c p) (slice_get cs j)) →
      ((j m : ℕ) (p : Path) → m ≡ i + j → kept (m ∷ p) ≡ (kept_at (kepts_of ks) j p).meetings) → AreSitesOf es at kept (sites_below es i cs ks)
  sites-below es i cs none at kept a b = tt
  sites-below es i [] (more s ss) at kept a b = tt
  sites-below es i (c ∷ cs) (more s ss) at kept a b =
      all-append (IsSiteOf es at kept) (seen_below i (sites_in es c s)) (sites_below es (suc i) cs ss)
      (seen-sites es at kept i (sites_in es c s) (sites-of es c s (λ p. at (i ∷ p)) (λ p. kept (i ∷ p)) (λ p. a 0 i p (omega arith)) (λ p. b 0 i p (omega arith))))
      (sites-below es (suc i) cs ss at kept (λ j m p e. a (suc j) m p (omega (arith, e))) (λ j m p e. b (suc j) m p (omega (arith, e))))

-- ---- the law

module _ (net : Net) (starts : Starts) (s after : Shown) (doc : IsNetOfDocument net) (order : IsInOrder net) (built : IsBuilt net starts 0 s) (all : (p : Path) (n : ℕ) → AreOf (extent_at (node_of s) p) (meets_of (kept_of after) p n)) where
  site-told : (x : Site) → IsSiteOf net.entities.items (λ p. entity_at net.entities.items 0 p) (λ p. (kept_of after p).meetings) x → CanBeTold net x
  site-told x is round there = All-from_recursion (λ (m : ℕ × Meeting). (what : Met) × Tells net x.number round what m.1) x.made (each (extent_at (node_of s) x.path) refl x.made (entries-of (extent_at (node_of s) x.path) x.made (λ n. subst (λ made. AreOf (extent_at (node_of s) x.path) (made_if n made)) is.record_is (all x.path n))))
    where
      each : (e : Option Extent) → extent_at (node_of s) x.path ≡ e → (made : Made) → AllByRecursion (λ (m : ℕ × Meeting). IsOf (extent_at (node_of s) x.path) m.1) made → AllByRecursion (λ (m : ℕ × Meeting). (what : Met) × Tells net x.number round what m.1) made
      each e same [] h = tt
      each None same (m ∷ made) h = absurd (subst (λ v. IsOf v m.1) same h.0)
      each (Some e) same (m ∷ made) h =
          let found = extent-found net starts built x.path e same in
          let number : found.0 ≡ x.number = same_Some found.0 x.number (sym found.1 ∙ is.number) in
          let at : IsRvAt net x.number e = subst (λ v. IsRvAt net v e) number found.2 in
          let entity : at.round ≡ round = same_Some at.round round (sym at.at ∙ there) in
          (subst (λ (r : NetEntity). (what : Met) × Tells net x.number r what m.1) entity (told-of net doc order x.number e at m.1 (subst (λ v. IsOf v m.1) same h.0)), each (Some e) same made h.1)

  sites-told : (xs : List Site) → AreSitesOf net.entities.items (λ p. entity_at net.entities.items 0 p) (λ p. (kept_of after p).meetings) xs → AllByRecursion (CanBeTold net) xs
  sites-told [] h = tt
  sites-told (x ∷ xs) h = (site-told x h.0, sites-told xs h.1)

pub can-be-told : MeetingsCanBeTold
can-be-told net starts s after doc order built all =
    let es : List NetEntity = net.entities.items in
    All-from_recursion (CanBeTold net) (sites_in es 0 after) (sites-told net starts s after doc order built all (sites_in es 0 after) (sites-of es 0 after (λ p. entity_at es 0 p) (λ p. (kept_of after p).meetings) (λ p. refl) (λ p. refl)))
