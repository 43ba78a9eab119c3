-- The channels within each composite.
use Rattle.std.specs.Prelude.{◌≡◌, ℕ, ◌<◌, List, [], length, get_or}
use Rattle.pt_net.specs.declared.net.Channel.{Channel}
use Rattle.pt_net.specs.Inside.{channels_in}

-- so many entities have these lists of channels
pub record AreWithin (count : ℕ) (ks : List Channel) (lists : List (List Channel)) : Type 0 where
  pub counted : length lists ≡ count
  pub each : (c : ℕ) → c < count → get_or lists c [] ≡ channels_in ks c
