-- What is simple of the children of a plan, so that their firings need no walk.
use Rattle.std.specs.Prelude.{◌≡◌, ℕ, ◌+◌, ◌*◌, ◌<◌, ◌≤◌, List, [], ◌∷◌, length, map, get_or, set, drop, Option, Some, None, Vec}
use Rattle.pt_meaning.specs.Streams.{Streams}
use Rattle.pt_value.specs.declared.token.Token.{Token}
use Rattle.std.specs.Global.{Global}
use Rattle.pt_sdf_parts.specs.declared.feeds.Feed.{Feed}
use Rattle.pt_sdf_parts.specs.declared.lanes.Lane.{Lane}
use Rattle.pt_sdf_parts.specs.declared.lanes.Inlet.{Inlet}
use Rattle.pt_sdf_parts.specs.declared.lanes.Inlet.TheVariants as inlet
use Rattle.pt_sdf_parts.specs.declared.lanes.Outlet.{Outlet}
use Rattle.pt_sdf_parts.specs.declared.lanes.Outlet.TheVariants.{Nothing, One, Burst, Several}
use Rattle.pt_sdf_parts.specs.declared.plan.CorePlan.{CorePlan}
use Rattle.pt_sdf_parts.specs.declared.tables.Tables.{Tables}
use Rattle.pt_sdf_parts.specs.ByNeed.{place_of}
use Rattle.pt_core.specs.Source.{source_of}
use Rattle.pt_sdf_parts.specs.Feeds.{Target, target_of, rows_in, AreFeeds}

-- where the places of each child begin
abbrev pub begins : ℕ → List ℕ → List ℕ
begins o [] = []
begins o (p ∷ ps) = o ∷ begins (o + p) ps

-- each of the places of a child needs one token
abbrev pub NeedsOneEach : (needs : List ℕ) → (from places : ℕ) → Type 0
NeedsOneEach needs from places = (k : ℕ) → k < places → get_or needs (from + k) 0 ≡ 1

-- the child has one place, and needs so many tokens there
pub record IsInlet (needs : List ℕ) (from places c need : ℕ) : Type 0 where
  pub place : c ≡ from
  pub alone : places ≡ 1
  pub needed : get_or needs from 0 ≡ need

-- what is told of its places is so
abbrev pub FitsInlet : (needs : List ℕ) → (from places : ℕ) → Inlet → Type 0
FitsInlet needs from places inlet.Nothing = places ≡ 0
FitsInlet needs from places (inlet.Alone c need) = IsInlet needs from places c need
FitsInlet needs from places inlet.Each = NeedsOneEach needs from places
FitsInlet needs from places inlet.Several = Unit {0}

-- what an outlet feeds
abbrev pub targets_of : Outlet → List Target
targets_of Nothing = []
targets_of (One c) = record { channel = c; port = 0 } ∷ []
targets_of (Burst c rate) = record { channel = c; port = 0 } ∷ []
targets_of Several = []

-- how many tokens the child gives, where that is told
abbrev pub count_of : Outlet → Option ℕ
count_of Nothing = Some 1
count_of (One c) = Some 1
count_of (Burst c rate) = Some rate
count_of Several = None

-- the child gives so many tokens on its one port, which feeds these channels alone
pub record IsOutlet (rates : List ℕ) (feeds : List Feed) (count : ℕ) (targets : List Target) : Type 0 where
  pub rate : rates ≡ count ∷ []
  pub fed : map target_of feeds ≡ targets

abbrev pub FitsOutlet : (rates : List ℕ) → List Feed → Outlet → Type 0
FitsOutlet rates feeds Nothing = IsOutlet rates feeds 1 (targets_of Nothing)
FitsOutlet rates feeds (One c) = IsOutlet rates feeds 1 (targets_of (One c))
FitsOutlet rates feeds (Burst c rate) = IsOutlet rates feeds rate (targets_of (Burst c rate))
FitsOutlet rates feeds Several = Unit {0}

-- its channel is one of so many
abbrev pub IsOutletIn : (channel_count : ℕ) → Outlet → Type 0
IsOutletIn n Nothing = Unit {0}
IsOutletIn n (One c) = c < n
IsOutletIn n (Burst c rate) = c < n
IsOutletIn n Several = Unit {0}

-- what is told of a child is so
pub record IsLane (needs : List ℕ) (from places : ℕ) (rates : List ℕ) (feeds : List Feed) (lane : Lane) : Type 0 where
  pub inlet : FitsInlet needs from places lane.inlet
  pub outlet : FitsOutlet rates feeds lane.outlet

abbrev pub no_lane : Lane
no_lane = record { inlet = inlet.Several; outlet = Several }

-- and of each of some children
pub record AreLanes (places needs : List ℕ) (rates : List (List ℕ)) (feeds : List (Vec Feed Global)) (lanes : List Lane) : Type 0 where
  pub counted : length lanes ≡ length places
  pub each : (i : ℕ) → i < length places → IsLane needs (place_of places i) (get_or places i 0) (get_or rates i []) (get_or (rows_in feeds) i []) (get_or lanes i no_lane)

-- what is worked out of a plan
pub record AreTables (plan : CorePlan) (tables : Tables) : Type 0 where
  pub begin : tables.offsets.items ≡ begins 0 plan.places
  pub fed : AreFeeds (length plan.places) (map source_of plan.sources.items) tables.feeds.items
  pub lanes : AreLanes plan.places plan.needs plan.rates.items tables.feeds.items tables.lanes.items

-- the channels without what so many firings need of a child with one place or none
abbrev pub row_left : Inlet → ℕ → Streams Token → Streams Token
row_left inlet.Nothing firings X = X
row_left (inlet.Alone c need) firings X = set X c (drop (firings * need) (get_or X c []))
row_left inlet.Each firings X = X
row_left inlet.Several firings X = X

-- they have that
abbrev pub HasRow : Inlet → ℕ → Streams Token → Type 0
HasRow inlet.Nothing firings X = Unit {0}
HasRow (inlet.Alone c need) firings X = firings * need ≤ length (get_or X c [])
HasRow inlet.Each firings X = ⊥
HasRow inlet.Several firings X = ⊥

-- its one place is a channel of so many
abbrev pub IsInletIn : (channel_count : ℕ) → Inlet → Type 0
IsInletIn n inlet.Nothing = Unit {0}
IsInletIn n (inlet.Alone c need) = c < n
IsInletIn n inlet.Each = Unit {0}
IsInletIn n inlet.Several = Unit {0}
