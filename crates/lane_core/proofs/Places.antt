-- Places in turn.
use Rattle.std.proofs.Common.{◌≡◌, ℕ, ◌+◌, ◌*◌, ◌%◌, ◌<◌, ◌≤◌, ap, sym, ◌∙◌, arith}
use Rattle.std.proofs.Math.Nat.{mod-add-mod}
use Rattle.std.proofs.lemmas.Nat.{mod_below, mod-mul-add}

-- the next place, where this one is not the last
pub next_inside : (k place last : ℕ) → place ≡ k % (last + 1) → place < last → place + 1 ≡ (k + 1) % (last + 1)
next_inside k place last is lt =
    let small : (0 * (last + 1) + (place + 1)) % (last + 1) ≡ place + 1 = mod-mul-add 0 (last + 1) (place + 1) (omega arith) in
    let zero_times : 0 * (last + 1) + (place + 1) ≡ place + 1 = omega arith in
    sym small ∙ ap (λ x. x % (last + 1)) zero_times ∙ ap (λ x. (x + 1) % (last + 1)) is ∙ mod-add-mod k (last + 1) 1

-- and where it is
pub next_around : (k place last : ℕ) → place ≡ k % (last + 1) → last ≤ place → 0 ≡ (k + 1) % (last + 1)
next_around k place last is le =
    let below : k % (last + 1) < last + 1 = mod_below k (last + 1) (omega arith) in
    let whole : (1 * (last + 1) + 0) % (last + 1) ≡ 0 = mod-mul-add 1 (last + 1) 0 (omega arith) in
    let one_turn : 1 * (last + 1) + 0 ≡ place + 1 = omega arith in
    sym whole ∙ ap (λ x. x % (last + 1)) one_turn ∙ ap (λ x. (x + 1) % (last + 1)) is ∙ mod-add-mod k (last + 1) 1
