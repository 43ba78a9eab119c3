-- Gets and puts that a core makes one after another.
use Rattle.std.proofs.Common.{◌≡◌, ℕ, ◌<◌, List, [], ◌∷◌, ◌++◌, length, Option, Some, None, refl, sym, ap, subst, ◌∙◌}
use Rattle.pt_firing.specs.declared.ask.Ask.{Ask}
use Rattle.pt_firing.specs.declared.ask.Ask.TheVariants as ask
use Rattle.pt_pn_laws.specs.State.{Open}
use Rattle.pt_pn_laws.specs.PnActs.{asking, pn_calls}
use Rattle.pt_pn_work.specs.Core.{State}
use Rattle.pt_pn.specs.Moves.{IsTransfer, MovesBy, Moves, ComesOn}
use Rattle.pt_pn.specs.Core.{Comes, Looks, GoesOn, IsSomeTransfer}

-- they change neither the network nor the stage
transfer-keeps : (next : Ask) (s : State) → IsTransfer next → ((asking next s).network ≡ s.network) × ((asking next s).stage ≡ s.stage)
transfer-keeps (ask.Get child) s m = (refl, refl)
transfer-keeps (ask.Put child) s m = (refl, refl)
transfer-keeps ask.Grow s m = absurd m
transfer-keeps (ask.Meet meeting) s m = absurd m
transfer-keeps (ask.Fire child tag) s m = absurd m
transfer-keeps (ask.Early child tag) s m = absurd m
transfer-keeps (ask.Reset child) s m = absurd m
transfer-keeps ask.Finished s m = absurd m
transfer-keeps (ask.Faulted kind child) s m = absurd m
transfer-keeps ask.Full s m = absurd m
transfer-keeps ask.Await s m = absurd m

moves-keep : (moves : List Ask) (s t : State) → MovesBy pn_calls moves s t → (t.network ≡ s.network) × (t.stage ≡ s.stage)
moves-keep [] s t e = (ap (λ (v : State). v.network) e, ap (λ (v : State). v.stage) e)
moves-keep (next ∷ more) s t m =
    let r = moves-keep more (asking next s) t m.2 in
    let k = transfer-keeps next s m.0 in
    (r.0 ∙ k.0, r.1 ∙ k.1)

pub stays-open : (s t : State) → Moves pn_calls s t → s.stage ≡ Open → t.stage ≡ Open
stays-open s t m o = (moves-keep m.moves s t m.made).1 ∙ o

pub stays-there : (s t : State) (i : ℕ) → Moves pn_calls s t → i < length s.network.plan.net.places → i < length t.network.plan.net.places
stays-there s t i m h = subst (λ n. i < length n.plan.net.places) (sym (moves-keep m.moves s t m.made).0) h

pub not-moved : (s t : State) → t ≡ s → Moves pn_calls s t
not-moved s t e = record { moves = []; made = e }

moves-join : (moves more : List Ask) (s t u : State) → MovesBy pn_calls moves s t → MovesBy pn_calls more t u → MovesBy pn_calls (moves ++ more) s u
moves-join [] more s t u e n = subst (λ v. MovesBy pn_calls more v u) e n
moves-join (next ∷ moves) more s t u m n = (m.0, m.1, moves-join moves more (asking next s) t u m.2 n)

pub join : (s t u : State) → Moves pn_calls s t → Moves pn_calls t u → Moves pn_calls s u
join s t u m n = record { moves = m.moves ++ n.moves; made = moves-join m.moves n.moves s t u m.made n.made }

-- a get or a put more
pub moves-more : (s t u : State) (i : ℕ) (o : Option Ask) → IsSomeTransfer o → Moves pn_calls s t → Looks t i o u → Moves pn_calls s u
moves-more s t u i None a m l = absurd a
moves-more s t u i (Some answer) a m l = join s t u m (record { moves = answer ∷ []; made = (a, l.0, l.1) })

pub comes-after : (s t u : State) (answer : Ask) → Moves pn_calls s t → Comes t answer u → ComesOn pn_calls s answer u
comes-after s t u answer m c = record { mid = t; moved = m; gives = c.0; state = c.1 }

-- what comes of a look then
pub goes-on : (s t u : State) (i : ℕ) (o : Option Ask) → Moves pn_calls s t → Looks t i o u → GoesOn s o u
goes-on s t u i None m l = join s t u m (not-moved t u l.1)
goes-on s t u i (Some answer) m l = comes-after s t u answer m l

pub goes-after : (s t u : State) (answer : Ask) → Moves pn_calls s t → ComesOn pn_calls t answer u → ComesOn pn_calls s answer u
goes-after s t u answer m c = record { mid = c.mid; moved = join s t c.mid m c.moved; gives = c.gives; state = c.state }
