-- An actor is after a firing as it was.
use Rattle.std.proofs.Common.{◌≡◌, true, refl, ap}
use Rattle.pt_meaning.specs.Basics.{Tag, Streams}
use Rattle.pt_meaning.specs.Node.{Gives}
use Rattle.pt_value.specs.declared.token.Token.{Token}
use Rattle.pt_lib_data.specs.declared.data_actor.DataActor.{DataActor}
use Rattle.pt_lib_data.specs.Reply as reply
use Rattle.pt_lib_data.specs.Reply.{Reply, answer}
use Rattle.pt_lib_data.specs.Function as function
use Rattle.pt_lib_data.specs.DataActor.{need, is_steady, step}

-- it stays, and gives what the reply gives
pub as-answered : (a b : DataActor) (r : Reply) (out : Streams Token) → answer a r ≡ Gives b out → (b ≡ a) × (r ≡ reply.Gives out)
as-answered a b (reply.Gives X) out e =
    let same : b ≡ a = cc in
    let given : X ≡ out = cc in
    (same, ap reply.Gives given)
as-answered a b (reply.Fails fault) out e = absurd (cc)

pub steady-stay : (tag : Tag) (a b : DataActor) (X out : Streams Token) → is_steady a ≡ true → step tag a X ≡ Gives b out → (need b ≡ need a) × (is_steady b ≡ true)
steady-stay tag a b X out e gave = (ap need (as-answered a b (function.give a.function X) out gave).0, refl)
