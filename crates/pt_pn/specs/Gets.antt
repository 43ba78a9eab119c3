-- A get from the front of a channel.
use Rattle.std.specs.Prelude.{◌≡◌, ℕ, List, Some, slice_get}
use Rattle.pt_meaning.specs.Streams.{change_at}
use Rattle.pt_value.specs.declared.token.Token.{Token}
use Rattle.pt_recv.specs.Lines.{Lines, list_at, popped, raised}
use Rattle.pt_process.specs.Process.{Standing, with_token}

-- A token is at the front of the channel. Then the channel is without it, and process i has it at this place.
pub record GetsFirst (channel i place : ℕ) (before after : Lines Token) (ps ps' : List Standing) : Type 0 where
  pub token : Token
  pub first : slice_get (list_at before.lists channel) 0 ≡ Some token
  pub lists : after.lists ≡ popped before.lists channel
  pub spares : after.spares ≡ raised before.spares channel
  pub got : ps' ≡ change_at i (with_token place token) ps
