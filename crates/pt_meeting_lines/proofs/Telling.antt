-- What is known of a meeting that some line tells, and what the line of it tells.
use Rattle.std.proofs.Common.{◌≡◌, ◌≢◌, ℕ, List, Option, Some, sym, ap, ◌∙◌}
use Rattle.std.specs.Prelude.{slice_get}
use Rattle.pt_net.specs.declared.net.Channel as joined
use Rattle.pt_net.specs.declared.net.Net.{Net}
use Rattle.pt_net.specs.declared.net.NetEntity.{NetEntity}
use Rattle.pt_trace.specs.declared.meetings.ChildPlace.{ChildPlace}
use Rattle.pt_trace.specs.declared.meetings.Met.{Met}
use Rattle.pt_trace.specs.declared.meetings.Met.TheVariants as met
use Rattle.pt_document.specs.Names.{below}
use Rattle.pt_meeting_lines.specs.Tells.{IsPortOf, IsChildOf, EndsAt, OnChannel, OfBarrier}

pub same-of : {A : Type 0} {x y : A} → Option.Some x ≡ Option.Some y → x ≡ y
same-of e = cc

-- the port at an own end
pub own-port : (net : Net) (k : ℕ) (round : NetEntity) (x : joined.Channel) (what : Met) → OnChannel net k round what x → x.to.entity ≡ k → (name : List ℕ) × IsPortOf round x.to.port name
own-port net k round x (met.Meet place) t e = absurd (t.0 e)
own-port net k round x (met.Out port) t e = (port, t.1)
own-port net k round x (met.Barrier path) t e = absurd t

-- the place at the end of another channel
pub other-place : (net : Net) (k : ℕ) (round : NetEntity) (x : joined.Channel) (what : Met) → OnChannel net k round what x → x.to.entity ≢ k → (place : ChildPlace) × EndsAt net round place x.to
other-place net k round x (met.Meet place) t e = (place, t.1)
other-place net k round x (met.Out port) t e = absurd (e t.0)
other-place net k round x (met.Barrier path) t e = absurd t

-- the child that is a Barrier
pub barrier-child : (net : Net) (round : NetEntity) (number : ℕ) (what : Met) → OfBarrier net round what number → (path : List ℕ) × (child : NetEntity) × IsChildOf net round number path child
barrier-child net round number (met.Meet place) t = absurd t
barrier-child net round number (met.Out port) t = absurd t
barrier-child net round number (met.Barrier path) t = (path, t.0, t.1)

-- what is below the composite as the path of the child that is there
pub child-below : (net : Net) (round : NetEntity) (number : ℕ) (given : NetEntity) (path inner : List ℕ) (found : NetEntity) → IsChildOf net round number path given → slice_get net.entities.items number ≡ Some found →
    ((rest : List ℕ) → below round.path rest ≡ found.path → below round.path inner ≡ found.path) → IsChildOf net round number inner found
child-below net round number given path inner found is there h =
    let same : given ≡ found = same-of (sym is.0 ∙ there) in
    (there, h path (is.1 ∙ ap (λ (e : NetEntity). e.path) same))
