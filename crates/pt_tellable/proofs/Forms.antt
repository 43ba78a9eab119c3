-- Lists of meetings have the form of a report.
use Rattle.std.proofs.Common.{◌≡◌, ◌⊎◌, inl, inr, ℕ, List, [], ◌∷◌, Option, Some, None, refl, sym, ap, subst, ◌∙◌}
use Rattle.std.proofs.lemmas.List.Elements.{All-from_recursion}
use Rattle.std.proofs.lemmas.Option.{same_Some}
use Rattle.std.specs.List.{AllZip, AllByRecursion}
use Rattle.std.specs.Prelude.{slice_get}
use Rattle.pt_meaning.specs.Basics.{Path}
use Rattle.pt_meaning.specs.Log.{Meeting, Channel, Barrier}
use Rattle.pt_records.specs.Kept.{Made}
use Rattle.pt_records.specs.Made.{made_if, meets_of}
use Rattle.pt_meeting_laws.specs.There.{Extent, IsOf, AreOf, extent_at}
use Rattle.pt_net.specs.declared.net.Channel as link
use Rattle.pt_net.specs.declared.net.Net.{Net}
use Rattle.pt_net.specs.declared.net.NetDirector.{NetDirector}
use Rattle.pt_net.specs.declared.net.NetEntity.{NetEntity}
use Rattle.pt_net.specs.Inside.{children_of}
use Rattle.pt_trace.specs.declared.meetings.Met.{Met}
use Rattle.pt_trace.specs.declared.meetings.Met.TheVariants as met
use Rattle.pt_trace.specs.declared.meetings.MeetingLine.{MeetingLine}
use Rattle.pt_trace.specs.Report.{Meetings}
use Rattle.pt_trace.specs.ReportForm.{IsName, IsPath, IsMeeting, AreMeetings}
use Rattle.pt_node.specs.Shown.{Shown}
use Rattle.pt_node.specs.View.{node_of, kept_of}
use Rattle.pt_trees.specs.Trees.{Starts}
use Rattle.pt_trees.specs.Built.{IsBuilt}
use Rattle.pt_cover.specs.Paths.{entity_at}
use Rattle.pt_order.specs.Laws.{IsNetOfDocument, IsInOrder}
use Rattle.pt_order.proofs.Children.{child-stands}
use Rattle.pt_meeting_lines.specs.Tells.{OnChannel, OfBarrier, Tells}
use Rattle.pt_meeting_lines.specs.Lines.{IsLine}
use Rattle.pt_meetings.specs.Sites.{Site, IsToldAs, sites_in}
use Rattle.pt_tellable.specs.Laws.{ListsHaveForm}
use Rattle.pt_tellable.proofs.Ends.{EndsOut, EndsIn, channel-ends}
use Rattle.pt_tellable.proofs.Extents.{IsRvAt, extent-found}
use Rattle.pt_tellable.proofs.Naming.{inner-names}
use Rattle.pt_tellable.proofs.NetPaths.{net-path, net-named}
use Rattle.pt_tellable.proofs.PortNames.{port-named}
use Rattle.pt_tellable.proofs.Telling.{entries-of, IsSiteOf, AreSitesOf, sites-of}

module _ (net : Net) (doc : IsNetOfDocument net) (order : IsInOrder net) (k : ℕ) (round : NetEntity) (director : NetDirector) (at : slice_get net.entities.items k ≡ Some round) (directed : round.director ≡ Some director) where
  -- on a channel
  on-channel : (what : Met) (x : link.Channel) → EndsOut net k round x ⊎ EndsIn net k x → OnChannel net k round what x → IsMeeting what
  on-channel (met.Meet place) x (inl e) t = absurd (t.0 e.own)
  on-channel (met.Meet place) x (inr e) t =
      let same : t.1.0 ≡ e.child = same_Some t.1.0 e.child (sym t.1.1.0 ∙ e.at) in
      let parent : t.1.0.parent ≡ Some k = ap (λ (c : NetEntity). c.parent) same ∙ e.parent in
      record {
        child = inner-names round.path t.1.0.path place.child (net-named net doc k x.to.entity round t.1.0 at t.1.1.0 parent) t.1.1.1;
        port = subst IsName t.1.2.2 (port-named net doc x.to.entity t.1.0 x.to.port t.1.2.0 t.1.1.0 t.1.2.1);
      }
  on-channel (met.Out port) x e t = subst IsName t.1.2 (port-named net doc k round x.to.port t.1.0 at t.1.1)
  on-channel (met.Barrier path) x e t = absurd t

  -- of a Barrier
  of-barrier : (what : Met) (b number : ℕ) → slice_get (children_of net.entities.items k) b ≡ Some number → OfBarrier net round what number → IsMeeting what
  of-barrier (met.Meet place) b number e t = absurd t
  of-barrier (met.Out port) b number e t = absurd t
  of-barrier (met.Barrier path) b number e t =
      let child = child-stands k net.entities.items b number e in
      let same : t.0 ≡ child.0 = same_Some t.0 child.0 (sym t.1.0 ∙ child.1) in
      inner-names round.path t.0.path path (net-named net doc k number round t.0 at t.1.0 (ap (λ (c : NetEntity). c.parent) same ∙ child.2)) t.1.1

  pub told-formed : (what : Met) (m : Meeting) → Tells net k round what m → IsMeeting what
  told-formed what (Channel c) t = on-channel what t.0 (channel-ends net order k round director at directed c t.0 t.1) t.2
  told-formed what (Barrier b) t = of-barrier what b t.0 t.1 t.2

module _ (net : Net) (starts : Starts) (s after : Shown) (doc : IsNetOfDocument net) (order : IsInOrder net) (built : IsBuilt net starts 0 s) (all : (p : Path) (n : ℕ) → AreOf (extent_at (node_of s) p) (meets_of (kept_of after) p n)) where
  abbrev IsHere : Site → Type 0
  IsHere x = IsSiteOf net.entities.items (λ p. entity_at net.entities.items 0 p) (λ p. (kept_of after p).meetings) x

  lines-formed : (x : Site) (round : NetEntity) → IsHere x → slice_get net.entities.items x.number ≡ Some round → (e : Option Extent) → extent_at (node_of s) x.path ≡ e → (made : Made) → AllByRecursion (λ (m : ℕ × Meeting). IsOf e m.1) made →
      (lines : List MeetingLine) → AllZip (IsLine net x.number round) lines made → AllByRecursion (λ (l : MeetingLine). IsMeeting l.what) lines
  lines-formed x round is at e same made h [] z = tt
  lines-formed x round is at e same [] h (l ∷ lines) z = absurd z
  lines-formed x round is at None same (m ∷ made) h (l ∷ lines) z = absurd h.0
  lines-formed x round is at (Some e) same (m ∷ made) h (l ∷ lines) z =
      let found = extent-found net starts built x.path e same in
      let number : found.0 ≡ x.number = same_Some found.0 x.number (sym found.1 ∙ is.number) in
      let there : IsRvAt net x.number e = subst (λ v. IsRvAt net v e) number found.2 in
      let entity : there.round ≡ round = same_Some there.round round (sym there.at ∙ at) in
      let directed : round.director ≡ Some there.director = ap (λ (r : NetEntity). r.director) (sym entity) ∙ there.directed in
      (told-formed net doc order x.number round there.director at directed l.what m.1 z.0.1, lines-formed x round is at (Some e) same made h.1 lines z.1)

  site-formed : (t : Meetings) (x : Site) → IsHere x → IsToldAs net t x → AreMeetings t
  site-formed t x is told =
      let entries = entries-of (extent_at (node_of s) x.path) x.made (λ n. subst (λ made. AreOf (extent_at (node_of s) x.path) (made_if n made)) is.record_is (all x.path n)) in
      record {
        path = subst IsPath (sym told.2.0) (net-path net doc x.number told.0 told.1);
        lines = All-from_recursion (λ (l : MeetingLine). IsMeeting l.what) t.lines (lines-formed x told.0 is told.1 (extent_at (node_of s) x.path) refl x.made entries t.lines told.2.1);
      }

  all-formed : (told : List Meetings) (xs : List Site) → AllZip (IsToldAs net) told xs → AreSitesOf net.entities.items (λ p. entity_at net.entities.items 0 p) (λ p. (kept_of after p).meetings) xs → AllByRecursion AreMeetings told
  all-formed [] [] z h = tt
  all-formed [] (x ∷ xs) z h = tt
  all-formed (t ∷ told) [] z h = absurd z
  all-formed (t ∷ told) (x ∷ xs) z h = (site-formed t x h.0 z.0, all-formed told xs z.1 h.1)

pub have-form : ListsHaveForm
have-form net starts s after told doc order built all listed =
    let es : List NetEntity = net.entities.items in
    All-from_recursion AreMeetings told (all-formed net starts s after doc order built all told (sites_in es 0 after) listed (sites-of es 0 after (λ p. entity_at es 0 p) (λ p. (kept_of after p).meetings) (λ p. refl) (λ p. refl)))
