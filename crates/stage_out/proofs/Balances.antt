-- What each output of a balance is sent by its moves, as more comes and more moves are made.
use Rattle.std.specs.Prelude.{◌==◌, if◌then◌else◌}
use Rattle.std.proofs.Common.{◌≡◌, ℕ, ◌+◌, ◌≤◌, Bool, true, false, List, [], ◌∷◌, ◌++◌, length, drop, refl, ap, arith, length-append}
use Rattle.elem_core.specs.Tree.{Tree}
use Rattle.stream_model.specs.Outlook.{End, unended, ended, failed}
use Rattle.stream_model.specs.FanIn.{Inflow}
use Rattle.stream_model.specs.Picks.{sent_to}
use Rattle.stage_core.specs.Inflows.{joined_at}

by_if : (b : Bool) (t : Tree) (u v : List Tree) → u ≡ v → (if b then t ∷ u else u) ≡ (if b then t ∷ v else v)
by_if true t u v h = ap (λ (l : List Tree). t ∷ l) h
by_if false t u v h = h

app_if : (b : Bool) (t : Tree) (u v w : List Tree) → u ≡ v ++ w → (if b then t ∷ u else u) ≡ (if b then t ∷ v else v) ++ w
app_if true t u v w h = ap (λ (l : List Tree). t ∷ l) h
app_if false t u v w h = h

pub sent_more : (j : ℕ) (moves : List ℕ) (l k : List Tree) → length moves ≤ length l → sent_to j moves (l ++ k) ≡ sent_to j moves l
sent_more j [] l k h = refl
sent_more j (m ∷ moves) [] k h = absurd (omega (arith, h))
sent_more j (m ∷ moves) (t ∷ l) k h = by_if (m == j) t (sent_to j moves (l ++ k)) (sent_to j moves l) (sent_more j moves l k (omega (arith, h)))

pub sent_then : (j : ℕ) (moves more : List ℕ) (l : List Tree) → length moves ≤ length l → sent_to j (moves ++ more) l ≡ sent_to j moves l ++ sent_to j more (drop (length moves) l)
sent_then j [] more l h = refl
sent_then j (m ∷ moves) more [] h = absurd (omega (arith, h))
sent_then j (m ∷ moves) more (t ∷ l) h = app_if (m == j) t (sent_to j (moves ++ more) l) (sent_to j moves l) (sent_to j more (drop (length moves) l)) (sent_then j moves more l (omega (arith, h)))

pub drop_more : (moves : List ℕ) (l k : List Tree) → length moves ≤ length l → drop (length moves) (l ++ k) ≡ drop (length moves) l ++ k
drop_more [] l k h = refl
drop_more (m ∷ moves) [] k h = absurd (omega (arith, h))
drop_more (m ∷ moves) (t ∷ l) k h = drop_more moves l k (omega (arith, h))

pub drop_then : (moves more : List ℕ) (l : List Tree) → length moves ≤ length l → drop (length (moves ++ more)) l ≡ drop (length more) (drop (length moves) l)
drop_then [] more l h = refl
drop_then (m ∷ moves) more [] h = absurd (omega (arith, h))
drop_then (m ∷ moves) more (t ∷ l) h = drop_then moves more l (omega (arith, h))

pub drop_length : (moves : List ℕ) (l : List Tree) → length moves ≤ length l → length moves + length (drop (length moves) l) ≡ length l
drop_length [] l h = omega arith
drop_length (m ∷ moves) [] h = absurd (omega (arith, h))
drop_length (m ∷ moves) (t ∷ l) h = let r = drop_length moves l (omega (arith, h)) in omega (arith, r)

pub within_more : (moves : List ℕ) (l r : List Tree) → length moves ≤ length l → length moves ≤ length (l ++ r)
within_more moves l r h = let a = length-append l r in omega (arith, a, h)

-- how an input stands once more came does not hang on what came before
pub joined_end : (e : End) (l k : List Tree) (r : Inflow) → (joined_at e l r).end ≡ (joined_at e k r).end
joined_end unended l k r = refl
joined_end ended l k r = refl
joined_end (failed c) l k r = refl
