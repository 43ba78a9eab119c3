-- What a core notes of its processes, from the fields of the core.
use Rattle.std.proofs.Common.{◌≡◌, ℕ, ◌+◌, ◌<◌, List, true, false, length, get_or, sym, ap, subst, ◌∙◌, arith}
use Rattle.pt_meaning.specs.Streams.{Streams}
use Rattle.pt_value.specs.declared.token.Token.{Token}
use Rattle.pt_recv.specs.Lines.{list_at}
use Rattle.pt_pn_laws.specs.State.{Network, AllStopped, has_room, offset_of}
use Rattle.pt_process.specs.Process.{Standing}
use Rattle.pt_pn_work.specs.Core.{State, PutsOn, LacksAt}
use Rattle.pt_pn_work.proofs.CoreLaws.{puts-is, list-is}
use Rattle.pt_pn.specs.declared.pn.Core.TheInside.{Inside}
use Rattle.pt_pn.specs.Waiting.{NonePut}
use Rattle.pt_pn.specs.Noted.{Noted, AreSettled, IsTokenNoted, IsRoomNoted}
use Rattle.pt_pn.specs.Core.{IsSound, stage_of, seen_core}
use Rattle.pt_pn.proofs.SettledLaws.{token-noted, room-noted, all-stopped, none-putting, no-room}
use Rattle.pt_pn.proofs.StepLaws.{lacks-so}

module _ (c : Inside) (w : IsSound c) (s : State) (v : seen_core c ≡ s) where
  abbrev n : Network Token
  n = c.network

  abbrev ps : List Standing
  ps = c.processes.items

  abbrev K : List ℕ
  K = c.capacity.items

  abbrev L : Streams Token
  L = c.queues.lists

  -- each process is noted as settled
  pub all-stop : ((i : ℕ) → i < length c.notes.settled → get_or c.notes.settled i false ≡ true) → AllStopped s
  all-stop e = subst (λ (x : State). AllStopped x) v (all-stopped n ps K L c.tag (stage_of c.stage) w.kept.placed c.notes w.settled e)

  -- none is noted as one that waits to put
  pub none-puts : ((i : ℕ) → i < length c.notes.resting → get_or c.notes.resting i false ≡ true) → NonePut s.halfway.puts
  none-puts e = subst (λ (x : State). NonePut x.halfway.puts) v (none-putting n ps K L c.tag (stage_of c.stage) w.kept.placed c.notes w.settled e)

  -- a process waits for room
  pub room-now : (i channel capacity : ℕ) → PutsOn s i channel → has_room s channel ≡ false → capacity ≡ get_or K channel 0 → (m : Noted) → IsRoomNoted i channel capacity c.notes m → AreSettled n ps K L m
  room-now i channel capacity p f k m o =
      let q = subst (λ (x : State). PutsOn x i channel) (sym v) p in
      let r = no-room (seen_core c) channel (subst (λ (x : State). has_room x channel ≡ false) (sym v) f) in
      let full = r.1 in
      let e = ap (λ (xs : List Token). length xs) (list-is L channel) in
      room-noted n ps K L c.notes m i channel capacity q.first q.rest (sym (puts-is ps i) ∙ q.next) q.on r.0 (omega (arith, full, e)) k o w.settled

  -- a process waits for a token
  pub token-now : (i place channel held : ℕ) → i < length s.network.plan.net.places → LacksAt s i place → channel ≡ offset_of n.plan.net.places i + place → held ≡ length (list_at L channel) → held ≡ 0 → (m : Noted) → IsTokenNoted i channel c.notes m → AreSettled n ps K L m
  token-now i place channel held h l k e z m o =
      let q = subst (λ (x : State). LacksAt x i place) (sym v) l in
      token-noted n ps K L c.notes m i channel place (sym (puts-is ps i) ∙ q.none) (lacks-so c w s v i place h l) q.within k (sym e ∙ z) o w.settled
