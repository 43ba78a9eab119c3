-- The events of the inputs of a DE top: each has a token at a tag, and is after the one before it.
use Rattle.std.specs.Prelude.{◌≡◌, ℕ, ◌<◌, ◌≤◌, List, length, map, get_or, Bool, true, false, Option, Some, Vec}
use Rattle.std.specs.Global.{Global}
use Rattle.std.specs.List.{All}
use Rattle.pt_meaning.specs.Tag.{Tag, tag_le}
use Rattle.pt_value.specs.declared.token.Token.{Token}

-- a token at a tag
abbrev pub Event : Type 0
Event = Tag × Token

-- the tags of events, and their tokens, each of which is there
abbrev pub tags_in : List Event → List Tag
tags_in es = map (λ (e : Event). e.0) es

abbrev pub tokens_in : List Event → List (Option Token)
tokens_in es = map (λ (e : Event). Some e.1) es

-- no event is at or before one that stands before it
abbrev pub Ascend : List Event → Type 0
Ascend es = (i j : ℕ) (d : Event) → i < j → j < length es → tag_le (get_or es j d).0 (get_or es i d).0 ≡ false

-- just so many of the events, the first ones, aren't after what the test tells
pub record ArePast (is_after : Tag → Bool) (es : List Event) (n : ℕ) : Type 0 where
  pub within : n ≤ length es
  pub past : (k : ℕ) (d : Event) → k < n → is_after (get_or es k d).0 ≡ false
  pub to_come : (k : ℕ) (d : Event) → n ≤ k → k < length es → is_after (get_or es k d).0 ≡ true

-- the events of an input as the code has them, and those of each input
abbrev pub Input : Type 0
Input = Vec Event Global

abbrev pub events_of : List Input → List (List Event)
events_of inputs = map (λ (input : Input). input.items) inputs

-- so it is on each input
abbrev pub AllAscend : List Input → Type 0
AllAscend inputs = All Ascend (events_of inputs)
