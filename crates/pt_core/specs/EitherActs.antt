-- The calls of one of two directors, each by its own.
use Rattle.std.specs.Prelude.{ℕ, List, Option, Bool}
use Rattle.pt_meaning.specs.Tag.{Tag}
use Rattle.pt_meaning.specs.Streams.{Streams}
use Rattle.pt_meaning.specs.Log.{Meeting}
use Rattle.pt_meaning.specs.Machine.{Need, Partial}
use Rattle.pt_meaning.specs.Tree.{Rows, Core, Node}
use Rattle.pt_value.specs.declared.token.Token.{Token}
use Rattle.pt_firing.specs.declared.ask.Ask.{Ask}
use Rattle.pt_firing.specs.declared.fault.RunFault.{RunFault}
use Rattle.pt_records.specs.Kept.{Kept}
use Rattle.pt_core.specs.declared.either.Either.{Either}
use Rattle.pt_core.specs.declared.either.Either.TheVariants.{First, Other}
use Rattle.pt_core.specs.Acts.{Beginning, Calls, Acts}

module _ {A B : Type 0} (a : Calls A) (b : Calls B) where
  abbrev pub start_of : Either A B → Core Token
  start_of (First s) = a.start_of s
  start_of (Other s) = b.start_of s

  abbrev pub core_of : Either A B → Core Token
  core_of (First s) = a.core_of s
  core_of (Other s) = b.core_of s

  abbrev pub IsIdle : Either A B → Type 0
  IsIdle (First s) = a.IsIdle s
  IsIdle (Other s) = b.IsIdle s

  abbrev pub MayAsk : Either A B → Type 0
  MayAsk (First s) = a.MayAsk s
  MayAsk (Other s) = b.MayAsk s

  abbrev pub asked_of : Either A B → Option ℕ
  asked_of (First s) = a.asked_of s
  asked_of (Other s) = b.asked_of s

  abbrev pub lent_of : Either A B → Streams Token
  lent_of (First s) = a.lent_of s
  lent_of (Other s) = b.lent_of s

  abbrev pub MayLend : Either A B → Type 0
  MayLend (First s) = a.MayLend s
  MayLend (Other s) = b.MayLend s

  abbrev pub listened_of : Either A B → Option ℕ
  listened_of (First s) = a.listened_of s
  listened_of (Other s) = b.listened_of s

  abbrev pub partial_of : Either A B → List (Partial Token)
  partial_of (First s) = a.partial_of s
  partial_of (Other s) = b.partial_of s

  abbrev pub refusal : Either A B → RunFault
  refusal (First s) = a.refusal s
  refusal (Other s) = b.refusal s

  abbrev pub is_wrong : Either A B → Bool
  is_wrong (First s) = a.is_wrong s
  is_wrong (Other s) = b.is_wrong s

  abbrev pub MayFinish : Either A B → Type 0
  MayFinish (First s) = a.MayFinish s
  MayFinish (Other s) = b.MayFinish s

  abbrev pub own_of : Either A B → Streams Token
  own_of (First s) = a.own_of s
  own_of (Other s) = b.own_of s

  abbrev pub waits : Either A B → ℕ
  waits (First s) = a.waits s
  waits (Other s) = b.waits s

  abbrev pub Takes : Either A B → Streams Token → Type 0
  Takes (First s) inputs = a.Takes s inputs
  Takes (Other s) inputs = b.Takes s inputs

  abbrev pub Gives : Either A B → Ask → Type 0
  Gives (First s) answer = a.Gives s answer
  Gives (Other s) answer = b.Gives s answer

  abbrev pub accepts : Either A B → ℕ → Streams Token → Bool
  accepts (First s) child out = a.accepts s child out
  accepts (Other s) child out = b.accepts s child out

  abbrev pub begun : Tag → Streams Token → Either A B → Either A B
  begun tag inputs (First s) = First (a.begun tag inputs s)
  begun tag inputs (Other s) = Other (b.begun tag inputs s)

  abbrev pub asking : Ask → Either A B → Either A B
  asking answer (First s) = First (a.asking answer s)
  asking answer (Other s) = Other (b.asking answer s)

  abbrev pub handed : Either A B → Either A B
  handed (First s) = First (a.handed s)
  handed (Other s) = Other (b.handed s)

  abbrev pub told : ℕ → Streams Token → Option Tag → Need → Either A B → Either A B
  told child out wake need (First s) = First (a.told child out wake need s)
  told child out wake need (Other s) = Other (b.told child out wake need s)

  abbrev pub heard : ℕ → List (Partial Token) → Either A B → Either A B
  heard child early (First s) = First (a.heard child early s)
  heard child early (Other s) = Other (b.heard child early s)

  abbrev pub closed : Either A B → Either A B
  closed (First s) = First (a.closed s)
  closed (Other s) = Other (b.closed s)

  abbrev pub wake : Either A B → Option Tag
  wake (First s) = a.wake s
  wake (Other s) = b.wake s

  abbrev pub restarted : Either A B → Either A B
  restarted (First s) = First (a.restarted s)
  restarted (Other s) = Other (b.restarted s)

  abbrev pub maximum : Either A B → ℕ
  maximum (First s) = a.maximum s
  maximum (Other s) = b.maximum s

  abbrev pub blocked : Either A B → List (ℕ × ℕ)
  blocked (First s) = a.blocked s
  blocked (Other s) = b.blocked s

  abbrev pub met : Either A B → Option (List Meeting)
  met (First s) = a.met s
  met (Other s) = b.met s

  abbrev pub either_calls : Calls (Either A B)
  either_calls = record {
    start_of = start_of;
    core_of = core_of;
    IsIdle = IsIdle;
    Takes = Takes;
    begun = begun;
    MayAsk = MayAsk;
    Gives = Gives;
    asking = asking;
    asked_of = asked_of;
    lent_of = lent_of;
    handed = handed;
    MayLend = MayLend;
    listened_of = listened_of;
    partial_of = partial_of;
    accepts = accepts;
    refusal = refusal;
    told = told;
    is_wrong = is_wrong;
    heard = heard;
    MayFinish = MayFinish;
    own_of = own_of;
    closed = closed;
    wake = wake;
    restarted = restarted;
    waits = waits;
    maximum = maximum;
    blocked = blocked;
    met = met;
  }

-- a beginning, as one of a director of another kind
abbrev pub begun_as : {N C D : Type 0} → Beginning N C → D → Beginning N D
begun_as b before = record { meets = b.meets; tag = b.tag; before = before; kids = b.kids; inputs = b.inputs; olds = b.olds }

module _ {N A B : Type 0} {rows : Rows Token N} (a : Acts rows A) (b : Acts rows B) where
  abbrev pub Fits : Either A B → List (Node Token N) → Type 0
  Fits (First s) kids = a.Fits s kids
  Fits (Other s) kids = b.Fits s kids

  abbrev pub UnderwayFrom : Beginning N (Either A B) → (before now : Either A B) → List (Node Token N) → List (Kept Token) → Type 0
  UnderwayFrom start (First f) (First s) now news = a.Underway (begun_as start f) s now news
  UnderwayFrom start (First f) (Other s) now news = ⊥
  UnderwayFrom start (Other f) (First s) now news = ⊥
  UnderwayFrom start (Other f) (Other s) now news = b.Underway (begun_as start f) s now news

  abbrev pub either_acts : Acts rows (Either A B)
  either_acts = record { calls = either_calls a.calls b.calls; Fits = Fits; Underway = λ start s now news. UnderwayFrom start start.before s now news }
