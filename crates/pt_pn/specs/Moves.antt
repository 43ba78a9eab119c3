-- Gets and puts that a director makes one after another, and tells in one answer with what comes after them.
use Rattle.std.specs.Prelude.{◌≡◌, List, [], ◌∷◌}
use Rattle.pt_firing.specs.declared.ask.Ask.{Ask}
use Rattle.pt_firing.specs.declared.ask.Ask.TheVariants as ask
use Rattle.pt_core.specs.Acts.{Calls}

-- a process takes a token, or gives one
abbrev pub IsTransfer : Ask → Type 0
IsTransfer (ask.Get child) = Unit {0}
IsTransfer (ask.Put child) = Unit {0}
IsTransfer ask.Grow = ⊥
IsTransfer (ask.Meet m) = ⊥
IsTransfer (ask.Fire child tag) = ⊥
IsTransfer (ask.Early child tag) = ⊥
IsTransfer (ask.Reset child) = ⊥
IsTransfer ask.Finished = ⊥
IsTransfer (ask.Faulted kind child) = ⊥
IsTransfer ask.Full = ⊥
IsTransfer ask.Await = ⊥

module _ {C : Type 0} (c : Calls C) where
  -- these may be answered one after another, and lead from one state to the other
  abbrev pub MovesBy : List Ask → C → C → Type 0
  MovesBy [] s t = t ≡ s
  MovesBy (next ∷ more) s t = IsTransfer next × c.Gives s next × MovesBy more (c.asking next s) t

  pub record Moves (s t : C) : Type 0 where
    pub moves : List Ask
    pub made : MovesBy moves s t

  -- after some of them this may be answered, and then the director stands so
  pub record ComesOn (before : C) (answer : Ask) (after : C) : Type 0 where
    pub mid : C
    pub moved : Moves before mid
    pub gives : c.Gives mid answer
    pub state : after ≡ c.asking answer mid
