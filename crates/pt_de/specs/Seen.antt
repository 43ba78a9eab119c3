-- What contracts see of a core, and what its fields keep.
use Rattle.std.specs.Prelude.{◌≡◌, ℕ, ◌<◌, ◌≤◌, List, [], ◌∷◌, length, get_or}
use Rattle.pt_meaning.specs.Streams.{Streams}
use Rattle.pt_value.specs.declared.token.Token.{Token}
use Rattle.pt_de_laws.specs.State.{Waits, Over, Stage, Idle, Open, Listens, Asked, Between, Closed, DeState, IsOver, in_stage}
use Rattle.pt_de_parts.specs.Rows.{Rowing}
use Rattle.pt_de.specs.declared.de.Stage as declared
use Rattle.pt_de.specs.declared.de.Stage.TheVariants as code
use Rattle.pt_de.specs.declared.de.DeCore.TheInside.{Inside}

-- the stage of the code, with the rows of the child that was asked to fire
abbrev pub stage_of : declared.Stage → Rowing Token → Stage Token
stage_of code.Idle r = Idle
stage_of code.Open r = Open
stage_of (code.Listens child) r = Listens child
stage_of (code.Asked child) r = Asked child (r.row ∷ r.rest)
stage_of (code.Between child) r = Between child r.rest
stage_of code.Closed r = Closed

-- where a firing stands once a child has fired on a row and these are left
abbrev pub stage_left : ℕ → List (Streams Token) → declared.Stage
stage_left child [] = code.Open
stage_left child (X ∷ Xs) = code.Between child

-- the stage, over the reaction: there what comes next is open from its beginning to its end
abbrev pub seen_core : Inside → DeState Token
seen_core c = in_stage (stage_of c.stage c.rows) c.reaction.state

-- a child of a reaction that is under way has had no turn, or was asked for its turn
pub record IsListening (s : DeState Token) (child : ℕ) : Type 0 where
  pub running : s.stage ≡ Open
  pub there : child < length s.plan.net.places
  pub waits : get_or s.turns child Over ≡ Waits

pub record HasTurn (s : DeState Token) (child : ℕ) : Type 0 where
  pub running : s.stage ≡ Open
  pub there : child < length s.plan.net.places
  pub over : get_or s.turns child Waits ≡ Over

-- A reaction is under way where a firing is. A child that was asked for an early answer has had no turn, and one that was asked to fire was asked for its turn; between two of its rows there is a row left, and at the end no turn is.
abbrev pub StageFits : declared.Stage → DeState Token → Rowing Token → Type 0
StageFits code.Idle s r = s.stage ≡ Idle
StageFits code.Open s r = s.stage ≡ Open
StageFits (code.Listens child) s r = IsListening s child
StageFits (code.Asked child) s r = HasTurn s child
StageFits (code.Between child) s r = HasTurn s child × (0 < length r.rest)
StageFits code.Closed s r = (s.stage ≡ Open) × IsOver s

-- What the fields keep: the stage fits, there is room for the places of each child, and a firing needs one token at most from each own input.
pub record IsSound (stage : declared.Stage) (s : DeState Token) (r : Rowing Token) (need : ℕ) : Type 0 where
  pub fits : StageFits stage s r
  pub room : (i : ℕ) → get_or s.plan.net.places i 0 ≤ r.width
  pub needs : need ≡ s.plan.inputs

abbrev pub IsCore : Inside → Type 0
IsCore c = IsSound c.stage c.reaction.state c.rows c.need
