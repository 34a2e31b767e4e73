use Rattle.std.proofs.Common.{◌≡◌, ℕ, ◌+◌, ◌≤◌, List, [], ◌++◌, vec_len, length, take, drop, ap, subst, sym, ◌∙◌, arith}
use Rattle.std.specs.Option.{option_or}
use Rattle.std.proofs.lemmas.Bool.{eqb-true}
use Rattle.std.proofs.lemmas.List.{nil_from_length}
use Rattle.elem_core.specs.Sort.{Sort}
use Rattle.blue_types.specs.Net.{type_at}
use Rattle.blue_types.specs.Would.{would}
use Rattle.blue_types.proofs.Settling.{Settles, Settles-next, Settles-early, written_back}
use Rattle.blue_types.proofs.rounds.settle_types.Goals as goal

pub returns-then-is_empty : goal.returns-then-is_empty
returns-then-is_empty c =
    let none : vec_len c.rounds.front ≡ 0 = eqb-true (vec_len c.rounds.front) 0 (sym c.is_empty.ensures ∙ c.if-is_empty.true) in
    let items : length c.rounds.front.items ≡ 0 = omega (arith, c.rounds.front.ok.0) in
    let e : c.rounds.front.items ≡ [] = nil_from_length c.rounds.front.items items in
    Settles-early c.args.library.now c.args.net.now c.rounds.types.items c.rounds.counter (subst (λ xs. Settles c.args.library.now c.args.net.now c.rounds.types.items xs c.rounds.counter) e c.rounds.invariant) (omega arith)

pub rounds-preserved : goal.rounds-preserved
rounds-preserved c =
    let l = c.args.library.now in
    let n = c.args.net.now in
    let value : c.deref_mut.result.now ≡ c.rounds.types.items = c.deref_mut.ensures.value in
    let count : length c.types_round.new.types ≡ length c.rounds.types.items = c.types_round.auto.types ∙ ap length value in
    let back : take c.rounds.types.len (c.types_round.new.types ++ drop (length c.types_round.new.types) c.rounds.types.items) ≡ c.types_round.new.types = written_back c.rounds.types.items c.types_round.new.types c.rounds.types.len c.rounds.types.ok.0 count in
    subst (λ xs. Settles l n xs c.in_ok-front-2.front.items (c.rounds.counter + 1)) (sym back)
    (Settles-next l n c.rounds.types.items c.types_round.new.types c.rounds.front.items c.in_ok-front-2.front.items c.rounds.counter c.rounds.invariant count
    (subst (λ xs. (i : ℕ) → type_at c.types_round.new.types i ≡ option_or (type_at xs i) (would l n (type_at xs) i)) value c.in_ok-front-2.ensures.next)
    c.in_ok-front-2.ensures.rests)
