-- The history of a lane tells what is known of its two ends, and an input boundary what is kept of the one.
use Rattle.std.proofs.Common.{◌≡◌, ◌≤◌, ◌+◌, ◌*◌, ◌/◌, max, ℕ, zero, suc, Bool, true, false, cond, List, sym, ap, subst, ◌∙◌, arith}
use Rattle.lane_core.specs.declared.lane_out.LaneOut.{LaneOut}
use Rattle.lane_core.specs.declared.lane_in.LaneIn.{LaneIn}
use Rattle.lane_core.specs.Ends.{IsLaneHistory, in_size, sent, taken_items, asked_in_all, ask_calls, has_cancelled}
use Rattle.lane_core.specs.Flow.{AsksByHalves}
use Rattle.elem_core.specs.Tree.{Tree}
use Rattle.elem_core.specs.Items.{elements}
use Rattle.port_core.specs.Cell.{WireState}
use Rattle.stream_model.specs.Outlook.{End}
use Rattle.stage_core.specs.Held.{told}
use Rattle.stage_core.specs.Law.{GaveAs}
use Rattle.run_laws.specs.Items.{end_of_items}
use Rattle.run_laws.proofs.Histories.{standing_told}
use Rattle.lane_core.specs.declared.boundary.InputBoundary.{InputBoundary}
use Rattle.lane_core.specs.Boundary.{given, keeps_all, BoundaryKeeps}
use Rattle.run_laws.specs.Ends.{InKeeps, AskedInRounds, Met}
use Rattle.bodies_run.specs.Ends.{out_end, in_end}

zero_or_one : (b : Bool) (n : ℕ) → n ≡ cond b 1 0 → n ≤ 1
zero_or_one true n e = omega (arith, e)
zero_or_one false n e = omega (arith, e)

pub are_met : (o : LaneOut) (i : LaneIn) → IsLaneHistory o i → Met (in_size i) (out_end o) (in_end i)
are_met o i h = record {
  taken = h.prefix;
  sent = h.used;
  seen = h.seen_asked;
  bound = h.bound;
  finds = h.finds;
  once = zero_or_one i.cancelled (has_cancelled i) i.asked_is.1;
}

one_round : (m half : ℕ) → suc m * half ≡ m * half + half
one_round m half = omega arith

-- one call less
one_less : (m half a b : ℕ) → a + half ≡ suc m * half + b → a ≡ m * half + b
one_less m half a b h = let more : suc m * half ≡ m * half + half = one_round m half in omega (arith, h, more)

one_fewer : (m half a b : ℕ) → a + half ≡ b + suc m * half → a ≡ b + m * half
one_fewer m half a b h = let more : suc m * half ≡ m * half + half = one_round m half in omega (arith, h, more)

-- it asked by halves, so in rounds
rounds_of : (s asked calls pushed passed : ℕ) → AsksByHalves s (max 1 (s / 2)) asked calls pushed passed → AskedInRounds s asked pushed
rounds_of s asked zero pushed passed a = let some : 1 ≤ 0 = a.begun in absurd (omega (arith, some))
rounds_of s asked (suc m) pushed passed a = record { rounds = m; over = passed; pushed_is = one_less m (max 1 (s / 2)) pushed passed a.pushed_is; few = a.less; asked_is = one_fewer m (max 1 (s / 2)) asked s a.asked_is }

pub boundary_keeps : (b : InputBoundary) (c : WireState) (l : List Tree) (e : End) → BoundaryKeeps b → c.wire.sent ≡ given b → c.wire.sent ≡ told l e → GaveAs c.wire.out e → InKeeps (keeps_all b) (in_size b.lane) c (in_end b.lane)
boundary_keeps b c l e k is told_is as_known =
    let same : e ≡ k.given_end = sym (standing_told l e) ∙ (ap end_of_items (sym told_is ∙ (is ∙ k.given_is)) ∙ standing_told k.given_list k.given_end) in
    let count : elements c.wire.sent ≡ elements (given b) = ap elements is in
    record {
      taken_list = k.taken_list;
      taken_end = k.taken_end;
      pushed_list = k.given_list;
      pushed_end = k.given_end;
      taken_is = k.taken_is;
      pushed_is = is ∙ k.given_is;
      pushed_as = subst (λ (x : End). GaveAs c.wire.out x) same as_known;
      carries = k.carries;
      asks = let a = k.asked_for in omega (arith, a, count);
      in_rounds = subst (λ (n : ℕ). AskedInRounds (in_size b.lane) (asked_in_all b.lane) n) (sym count) (rounds_of (in_size b.lane) (asked_in_all b.lane) (ask_calls b.lane) (elements (given b)) k.since k.by_halves);
      least = k.least;
      calls = let a = k.calls in omega (arith, a, count);
    }
