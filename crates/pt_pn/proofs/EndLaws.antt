-- What comes where no process goes further.
use Rattle.std.proofs.Common.{◌≡◌, List, [], ◌∷◌, None, refl, subst}
use Rattle.pt_meaning.specs.Streams.{at}
use Rattle.pt_meaning.specs.Process.{Put}
use Rattle.pt_value.specs.declared.token.Token.{Token}
use Rattle.pt_firing.specs.declared.ask.Ask.TheVariants as ask
use Rattle.pt_pn_laws.specs.State.{Open, AllStopped, least_full}
use Rattle.pt_pn_laws.specs.PnActs.{Gives}
use Rattle.pt_pn_work.specs.Core.{State}
use Rattle.pt_pn.specs.Waiting.{SomePuts, NonePut}

-- some process waits to put on a channel that can't grow
pub full-now : (s : State) (puts : List (List (Put Token))) → puts ≡ s.halfway.puts → s.stage ≡ Open → AllStopped s → least_full s ≡ None → SomePuts puts → Gives s ask.Full
full-now s puts e o a n (i, u, us, p) = (o, record { stopped = a; process = i; channel = u.channel; waits = (u, us, subst (λ v. at v i ≡ u ∷ us) e p, refl); none = n })

-- none waits to put
pub over-now : (s : State) (puts : List (List (Put Token))) → puts ≡ s.halfway.puts → s.stage ≡ Open → AllStopped s → NonePut puts → Gives s ask.Finished
over-now s puts e o a h = (o, record { stopped = a; none = λ i. subst (λ v. at v i ≡ []) e (h i) })
