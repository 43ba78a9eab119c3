-- The rows of all libraries are lawful, since those of each are.
use Rattle.std.proofs.Common.{◌≡◌, ℕ, List, [], true, false, ◌||◌, Some, ap}
use Rattle.pt_meaning.specs.Basics.{Tag, Streams, at}
use Rattle.pt_meaning.specs.Tag.{is_due}
use Rattle.pt_meaning.specs.Streams.{any_present}
use Rattle.pt_meaning.specs.Machine.{Partial, Known, partial_at}
use Rattle.pt_meaning.specs.Laws.{PartialBelow, KnownBelow}
use Rattle.pt_meaning.specs.Valuation.{known}
use Rattle.pt_meaning.specs.Node.{Answer, Gives, Fails}
use Rattle.pt_meaning.specs.Lawful.{LawfulRows}
use Rattle.pt_value.specs.declared.token.Token.{Token}
use Rattle.pt_lib_data.specs.DataActor as data_actor
use Rattle.pt_lib_data.proofs.RowLaws as data_laws
use Rattle.pt_lib_flow.specs.FlowActor as flow_actor
use Rattle.pt_lib_flow.proofs.RowLaws as flow_laws
use Rattle.pt_lib_time.specs.TimeActor as time_actor
use Rattle.pt_lib_time.proofs.RowLaws as time_laws
use Rattle.pt_lib_timed.specs.TimedActor as timed_actor
use Rattle.pt_lib_timed.proofs.RowLaws as timed_laws
use Rattle.pt_library.specs.declared.library_actor.LibraryActor.{LibraryActor}
use Rattle.pt_library.specs.declared.library_actor.LibraryActor.TheVariants.{Flow, Data, Time, Timed}
use Rattle.pt_library.specs.LibraryActor.{rows, held_as}

-- an actor that gives, as one of its library, gives the same there
pub held-gives : {S : Type 0} (held : S → LibraryActor) (r : Answer Token S) (b : LibraryActor) (out : Streams Token) → held_as held r ≡ Gives b out → (after : S) × (held after ≡ b) × (r ≡ Gives after out)
held-gives held (Gives after given) b out e =
    let same : held after ≡ b = cc in
    let gave : given ≡ out = cc in
    (after, same, ap (λ X. Gives after X) gave)
held-gives held (Fails code) b out e = absurd (cc)

grows : (tag : Tag) (a : LibraryActor) (vs ws : List (Partial Token)) → KnownBelow vs ws → (p : ℕ) → PartialBelow (partial_at (rows.early tag a vs) p) (partial_at (rows.early tag a ws) p)
grows tag (Flow a) vs ws b p = flow_laws.rows_lawful.grows tag a vs ws b p
grows tag (Data a) vs ws b p = data_laws.rows_lawful.grows tag a vs ws b p
grows tag (Time a) vs ws b p = time_laws.rows_lawful.grows tag a vs ws b p
grows tag (Timed a) vs ws b p = timed_laws.rows_lawful.grows tag a vs ws b p

agrees : (tag : Tag) (a : LibraryActor) (vs : List (Partial Token)) (X : Streams Token) (b : LibraryActor) (out : Streams Token) → known vs ≡ Some X → rows.react tag a X ≡ Gives b out → (p : ℕ) → PartialBelow (partial_at (rows.early tag a vs) p) (Known (at out p))
agrees tag (Flow a) vs X b out k e p =
    let gave = held-gives Flow (flow_actor.step tag a X) b out e in
    flow_laws.rows_lawful.agrees tag a vs X gave.0 out k gave.2 p
agrees tag (Data a) vs X b out k e p =
    let gave = held-gives Data (data_actor.step tag a X) b out e in
    data_laws.rows_lawful.agrees tag a vs X gave.0 out k gave.2 p
agrees tag (Time a) vs X b out k e p =
    let gave = held-gives Time (time_actor.step tag a X) b out e in
    time_laws.rows_lawful.agrees tag a vs X gave.0 out k gave.2 p
agrees tag (Timed a) vs X b out k e p =
    let gave = held-gives Timed (timed_actor.step tag a X) b out e in
    timed_laws.rows_lawful.agrees tag a vs X gave.0 out k gave.2 p

rests : (tag : Tag) (a : LibraryActor) (vs : List (Partial Token)) (X : Streams Token) → rows.whole a ≡ true → known vs ≡ Some X → (any_present X || is_due tag (rows.next a)) ≡ false → (p : ℕ) → PartialBelow (partial_at (rows.early tag a vs) p) (Known [])
rests tag (Flow a) vs X w k n p = flow_laws.rows_lawful.rests tag a vs X w k n p
rests tag (Data a) vs X w k n p = data_laws.rows_lawful.rests tag a vs X w k n p
rests tag (Time a) vs X w k n p = time_laws.rows_lawful.rests tag a vs X w k n p
rests tag (Timed a) vs X w k n p = timed_laws.rows_lawful.rests tag a vs X w k n p

waits : (a : LibraryActor) → rows.whole a ≡ true → rows.begins a ≡ false
waits (Flow a) w = flow_laws.rows_lawful.waits a w
waits (Data a) w = data_laws.rows_lawful.waits a w
waits (Time a) w = time_laws.rows_lawful.waits a w
waits (Timed a) w = timed_laws.rows_lawful.waits a w

pub rows_lawful : LawfulRows rows
rows_lawful = record { grows = grows; agrees = agrees; rests = rests; waits = waits }
