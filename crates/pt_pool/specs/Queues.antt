-- What a contract sees of a pool.
use Rattle.std.specs.Prelude.{◌≡◌, ℕ, ◌+◌, ◌-◌, List, [], ◌∷◌, ◌++◌, drop, take, slice_index_or, slice_set, refl}
use Rattle.std.specs.Coded.{Coded, code_by, coded×, coded_ℕ, coded_list}

-- the items of each queue from front to back, the spare of each, and how many free cells no queue has reserved
pub record Queues (T : Type 0) : Type 0 where
  pub lists : List (List T)
  pub spares : List ℕ
  pub unreserved : ℕ

-- queues are stored as the tuple of their fields
abbrev pub queues_code : {T : Type 0} → Coded T → Coded (Queues T)
queues_code {T} code =
    code_by
    (List (List T) × (List ℕ × ℕ))
    (coded× (coded_list (coded_list code)) (coded× (coded_list coded_ℕ) coded_ℕ))
    (λ s. (s.lists, (s.spares, s.unreserved)))
    (λ p. record { lists = p.0; spares = p.1.0; unreserved = p.1.1 })
    (λ _. refl)

module _ {T : Type 0} where
  -- the list of queue q
  abbrev pub list_at : List (List T) → ℕ → List T
  list_at lists q = slice_index_or lists q []

  -- the item goes to the back of queue q
  abbrev pub pushed : List (List T) → ℕ → T → List (List T)
  pushed lists q item = slice_set lists q (list_at lists q ++ item ∷ [])

  -- the front of queue q is gone
  abbrev pub popped : List (List T) → ℕ → List (List T)
  popped lists q = slice_set lists q (drop 1 (list_at lists q))

  -- the front of one queue goes to the back of another, or of the same one
  abbrev pub moved : List (List T) → ℕ → ℕ → List (List T)
  moved lists from to = slice_set (popped lists from) to (list_at (popped lists from) to ++ take 1 (list_at lists from))

-- the spare of queue q
abbrev pub spare_at : List ℕ → ℕ → ℕ
spare_at spares q = slice_index_or spares q 0

-- the spare of queue q is one more
abbrev pub raised : List ℕ → ℕ → List ℕ
raised spares q = slice_set spares q (spare_at spares q + 1)

-- the spare of queue q is one less
abbrev pub lowered : List ℕ → ℕ → List ℕ
lowered spares q = slice_set spares q (spare_at spares q - 1)
