-- How many lines each seat may put together, along the loop over the nodes.
use Rattle.std.proofs.Common.{◌≡◌, ℕ, suc, ◌+◌, ◌<◌, List, [], ◌∷◌, ◌++◌, length, map, refl, sym, ap, ◌∙◌, arith, append_assoc, append-nil, length-append}
use Rattle.std.proofs.lemmas.List.{length-map, map-append}

module _ {S R : Type 0} (f : S → R) where
  -- one seat more, with the next room
  pub room_next : (old new : List S) (s : S) (r : R) (later rest all : List R) → rest ≡ r ∷ later → new ≡ old ++ s ∷ [] → f s ≡ r → map f old ++ rest ≡ all → map f new ++ later ≡ all
  room_next old new s r later rest all next is same h =
      ap (λ (l : List S). map f l ++ later) is ∙ ap (λ (l : List R). l ++ later) (map-append f old (s ∷ [])) ∙ append_assoc (map f old) (f s ∷ []) later
      ∙ ap (λ (x : R). map f old ++ x ∷ later) same ∙ ap (λ (l : List R). map f old ++ l) (sym next) ∙ h

  pub count_next : {N : Type 0} (old new : List S) (s : S) (n : N) (later rest : List N) (all : ℕ) → rest ≡ n ∷ later → new ≡ old ++ s ∷ [] → length old + length rest ≡ all → length new + length later ≡ all
  count_next old new s n later rest all next is h =
      let one : length new ≡ length old + 1 = ap length is ∙ length-append old (s ∷ []) in
      let less : length rest ≡ suc (length later) = ap length next in
      omega (arith, one, less, h)

  -- there is a room for each node that is left
  pub rooms_left : {N : Type 0} (seats : List S) (n : N) (later rest : List N) (rooms all : List R) (len : ℕ) (many : ℕ) → rest ≡ n ∷ later → map f seats ++ rooms ≡ all → length seats + length rest ≡ many → len ≡ length rooms → length all ≡ many → 0 < len
  rooms_left seats n later rest rooms all len many next is count len_is same =
      let parts : length (map f seats ++ rooms) ≡ length all = ap length is in
      let less : length rest ≡ suc (length later) = ap length next in
      omega (arith, parts, less, count, len_is, same, length-append (map f seats) rooms, length-map seats f)

  -- and none behind them
  pub rooms_end : {N : Type 0} (seats : List S) (rest : List N) (rooms all : List R) (many : ℕ) → rest ≡ [] → map f seats ++ rooms ≡ all → length seats + length rest ≡ many → length all ≡ many → map f seats ≡ all
  rooms_end seats rest rooms all many none is count same =
      let parts : length (map f seats ++ rooms) ≡ length all = ap length is in
      let empty : length rest ≡ 0 = ap length none in
      sym (append-nil (map f seats)) ∙ ap (λ (l : List R). map f seats ++ l) (sym (no_rooms rooms (omega (arith, parts, empty, count, same, length-append (map f seats) rooms, length-map seats f)))) ∙ is
    where
      no_rooms : (l : List R) → length l ≡ 0 → l ≡ []
      no_rooms [] h = refl
      no_rooms (x ∷ l) h = absurd (omega (arith, h))
