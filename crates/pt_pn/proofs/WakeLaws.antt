-- What a token or room that comes on a channel makes of the notes.
use Rattle.std.proofs.Common.{◌≡◌, ℕ, List, Bool, true, false, get_or, set, sym, ap, ap₂, ◌∙◌}
use Rattle.pt_pn.specs.Noted.{Noted, awake, without_token, without_room, woken_if, token_came, room_came}

abbrev pub with_tokens : List Bool → Noted → Noted
with_tokens T m = record { settled = m.settled; resting = m.resting; tokens = T; rooms = m.rooms; writers = m.writers; readers = m.readers; ranks = m.ranks }

abbrev pub with_rooms : List Bool → Noted → Noted
with_rooms R m = record { settled = m.settled; resting = m.resting; tokens = m.tokens; rooms = R; writers = m.writers; readers = m.readers; ranks = m.ranks }

module _ (s m : Noted) (v : s ≡ m) (c : ℕ) (b : Bool) where
  pub no-token : (T : List Bool) → b ≡ get_or s.tokens c false → b ≡ false → T ≡ set s.tokens c false → with_tokens T s ≡ token_came c m
  no-token T w e t = ap (λ X. with_tokens X s) t ∙ sym (ap (λ x. woken_if x (get_or s.readers c 0) (without_token c s)) (sym w ∙ e)) ∙ ap (λ x. token_came c x) v

  pub some-token : (T : List Bool) (r : ℕ) → b ≡ get_or s.tokens c false → b ≡ true → T ≡ set s.tokens c false → r ≡ get_or s.readers c 0 → awake r (with_tokens T s) ≡ token_came c m
  some-token T r w e t q = ap₂ (λ x X. awake x (with_tokens X s)) q t ∙ sym (ap (λ x. woken_if x (get_or s.readers c 0) (without_token c s)) (sym w ∙ e)) ∙ ap (λ x. token_came c x) v

  pub no-room : (R : List Bool) → b ≡ get_or s.rooms c false → b ≡ false → R ≡ set s.rooms c false → with_rooms R s ≡ room_came c m
  no-room R w e t = ap (λ X. with_rooms X s) t ∙ sym (ap (λ x. woken_if x (get_or s.writers c 0) (without_room c s)) (sym w ∙ e)) ∙ ap (λ x. room_came c x) v

  pub some-room : (R : List Bool) (r : ℕ) → b ≡ get_or s.rooms c false → b ≡ true → R ≡ set s.rooms c false → r ≡ get_or s.writers c 0 → awake r (with_rooms R s) ≡ room_came c m
  some-room R r w e t q = ap₂ (λ x X. awake x (with_rooms X s)) q t ∙ sym (ap (λ x. woken_if x (get_or s.writers c 0) (without_room c s)) (sym w ∙ e)) ∙ ap (λ x. room_came c x) v
