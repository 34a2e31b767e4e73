-- What the next move says: those behind it name inputs too; and where it is lost, its input has ended and nothing of it waits.
use Rattle.std.specs.Prelude.{slice_get, slice_set, slice_index_or, Option, None}
use Rattle.std.proofs.Common.{◌≡◌, ℕ, zero, suc, ◌+◌, Bool, true, false, List, [], ◌∷◌, ◌++◌, length, refl, sym, ap, ◌∙◌, arith, rules, Some}
use Rattle.elem_core.specs.Tree.{Tree}
use Rattle.stream_model.specs.Outlook.{ended}
use Rattle.stream_model.specs.FanIn.{Inflow}
use Rattle.stream_model.specs.Picks.{all_below}
use Rattle.port_core.specs.Picks.{next_move, behind_next}
use Rattle.port_core.specs.declared.pick_log.Next.TheVariants.{Free, Move, UsedUp}
use Rattle.stage_core.specs.Seats.{end_by}
use Rattle.stage_merge.specs.declared.merging.Queued.{Queued}
use Rattle.stage_merge.specs.Mergings.{of_port, first_queued, goes_next, lost, waiting, NamesInputs, LostAt}
use Rattle.stage_merge.proofs.Choosing.{none_of}

pub named_behind : (n : ℕ) (left : Option (List ℕ)) → NamesInputs n left → NamesInputs n (behind_next left)
named_behind n None h = tt
named_behind n (Some []) h = h
named_behind n (Some (m ∷ l)) h = search rules

waiting_at : (n m : ℕ) (over : List Bool) (q : List Queued) → slice_index_or over m false ≡ true → of_port (n + m) q ≡ [] → slice_get (waiting n over q) m ≡ Some (record { list = []; end = ended })
waiting_at n m [] q h e = cc
waiting_at n zero (b ∷ over) q h e =
    let z : n + 0 ≡ n = omega arith in
    let l : of_port n q ≡ [] = (let r = e in rw z at r) in
    rw (h, l) refl
waiting_at n (suc m) (b ∷ over) q h e =
    let z : n + suc m ≡ n + 1 + m = omega arith in
    waiting_at (n + 1) m over q h (let r = e in rw z at r)

pub lost_one : (left : Option (List ℕ)) (over : List Bool) (q : List Queued) → goes_next (next_move left) q ≡ None → lost (next_move left) over ≡ true → LostAt (next_move left) (waiting 0 over q)
lost_one None over q c h = cc
lost_one (Some []) over q c h = cc
lost_one (Some (m ∷ l)) over q c h = let z : 0 + m ≡ m = omega arith in waiting_at 0 m over q h (rw z (none_of m q c))
