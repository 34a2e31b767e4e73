-- What the cause of a misfit tells of the moves that are left; and a picture that rests where no node follows moves.
use Rattle.std.proofs.Common.{◌≡◌, ◌⊎◌, inl, inr, ◌<◌, ◌+◌, ℕ, zero, suc, Bool, true, false, List, [], ◌∷◌, length, drop, Option, Some, None, refl, sym, ap, subst, arith, ◌∙◌}
use Rattle.std.specs.Prelude.{slice_get}
use Rattle.elem_core.specs.declared.why.Decider.{Decider}
use Rattle.port_core.specs.Picks.{IsMove, next_move, second_move}
use Rattle.port_core.specs.declared.pick_log.Next.{Next}
use Rattle.port_core.specs.declared.pick_log.Next.TheVariants.{Free, Move, UsedUp}
use Rattle.stream_model.specs.declared.kind.Joining.{Joining}
use Rattle.stream_model.specs.declared.kind.Joining.TheVariants as joining
use Rattle.stream_model.specs.declared.kind.Policy.{Policy}
use Rattle.stream_model.specs.declared.kind.Policy.TheVariants.{Backpressure, DropHead, DropTail, DropBuffer, DropNew, Fail}
use Rattle.stream_model.specs.declared.outcome.WireCount.{WireCount}
use Rattle.stream_model.specs.Composed.{count_from, inputs_of, ports_of}
use Rattle.stream_model.specs.Graph.{Graph, Node, steps_of}
use Rattle.stream_model.specs.Linear.{Role, a_flow, a_fan_in, a_fan_out, role_of, merges, gathers, balances, buffers, recovers, obeys, groups_by, splits_when, splits_after}
use Rattle.stream_model.specs.Node.{World, chain_of}
use Rattle.stream_model.specs.Outlook.{Outlook}
use Rattle.stream_model.specs.Rests.{Rests, RoleRests, RowRests, IsShut}
use Rattle.stream_model.specs.Substreams.{Opening, by_key, before, behind, through}
use Rattle.stream_model.specs.View.{SeenWire, EachWire, ins, outs}
use Rattle.stage_dropping.specs.Drops.{DropMisfits}
use Rattle.stage_dropping.specs.Recovers.{RecoverCause}
use Rattle.stage_merge.specs.Rows.{MergeMisfits}
use Rattle.run_laws.specs.Replayed.{Plans, left, left_behind, BalanceCause, DropCause, OrderCause, SubsCause, subs_misfit, subs_rest, RoleMisfits, RoleRestsBy, RowRestsBy, RestsBy, MisfitsOver}

-- ---- a move is to be made next

merge_moves : (b : Bool) (next : Next) (moves : List ℕ) (os : List Outlook) → MergeMisfits b next moves os → IsMove next
merge_moves b Free moves os h = h
merge_moves b (Move m) moves os h = tt
merge_moves b UsedUp moves os h = h

balance_moves : (next : Next) (moves : List ℕ) (os : List Outlook) → BalanceCause next moves os → IsMove next
balance_moves next moves [] h = absurd h
balance_moves next moves (o ∷ q ∷ os) h = absurd h
balance_moves Free moves (o ∷ []) h = h
balance_moves (Move m) moves (o ∷ []) h = tt
balance_moves UsedUp moves (o ∷ []) h = h

dropped : (p : Policy) (n : ℕ) (next : Next) (moves : List ℕ) (o : Outlook) → DropMisfits p n next moves o → IsMove next
dropped p n Free moves o h = h
dropped p n (Move m) moves o h = tt
dropped p n UsedUp moves o h = h

drop_moves : (p : Policy) (n : ℕ) (next : Next) (moves : List ℕ) (os : List Outlook) → DropCause p n next moves os → IsMove next
drop_moves Backpressure n next moves os h = absurd h
drop_moves DropHead n next moves [] h = absurd h
drop_moves DropHead n next moves (o ∷ []) h = dropped DropHead n next moves o h
drop_moves DropHead n next moves (o ∷ q ∷ os) h = absurd h
drop_moves DropTail n next moves [] h = absurd h
drop_moves DropTail n next moves (o ∷ []) h = dropped DropTail n next moves o h
drop_moves DropTail n next moves (o ∷ q ∷ os) h = absurd h
drop_moves DropBuffer n next moves [] h = absurd h
drop_moves DropBuffer n next moves (o ∷ []) h = dropped DropBuffer n next moves o h
drop_moves DropBuffer n next moves (o ∷ q ∷ os) h = absurd h
drop_moves DropNew n next moves [] h = absurd h
drop_moves DropNew n next moves (o ∷ []) h = dropped DropNew n next moves o h
drop_moves DropNew n next moves (o ∷ q ∷ os) h = absurd h
drop_moves Fail n next moves [] h = absurd h
drop_moves Fail n next moves (o ∷ []) h = dropped Fail n next moves o h
drop_moves Fail n next moves (o ∷ q ∷ os) h = absurd h

recover_moves : (next : Next) (os : List Outlook) → RecoverCause next os → IsMove next
recover_moves Free os h = h
recover_moves (Move m) os h = tt
recover_moves UsedUp os h = h

order_moves : (rest : Option (List ℕ)) (os : List Outlook) → OrderCause (second_move rest) os → IsMove (next_move rest)
order_moves None os h = h
order_moves (Some []) os h = h
order_moves (Some (m ∷ [])) os h = absurd h
order_moves (Some (m ∷ k ∷ l)) os h = tt

module _ (g : Graph) (w : World) (k : ℕ) where
  joined_moves : (rest : Option (List ℕ)) (j : Joining) (o : Opening) (c : List ℕ) (os : List Outlook) → subs_misfit g w rest k j o c os → IsMove (next_move rest)
  joined_moves rest joining.Concat o c os h = absurd h
  joined_moves None joining.Merge o c os h = h
  joined_moves (Some []) joining.Merge o c os h = h
  joined_moves (Some (m ∷ l)) joining.Merge o c os h = tt

  cause_moves : (rest : Option (List ℕ)) (r : Role) (os : List Outlook) → RoleMisfits g w rest k r os → IsMove (next_move rest)
  cause_moves rest (a_fan_in (merges n)) os h = merge_moves false (next_move rest) (w.moves k) os h
  cause_moves rest (a_fan_in (gathers n)) os h = merge_moves true (next_move rest) (w.moves k) os h
  cause_moves rest (a_fan_out (balances n)) os h = balance_moves (next_move rest) (w.moves k) os h
  cause_moves rest (a_flow (buffers n p)) os h = drop_moves p n (next_move rest) (w.moves k) os h
  cause_moves rest (a_flow (recovers t)) os h = recover_moves (next_move rest) os h
  cause_moves rest (a_flow (obeys name)) os h = order_moves rest os h
  cause_moves rest (a_flow (groups_by n f chain)) os h = joined_moves rest joining.Merge (by_key n f) chain os h
  cause_moves rest (a_flow (splits_when p chain j)) os h = joined_moves rest j (before p) chain os h
  cause_moves rest (a_flow (splits_after p chain j)) os h = joined_moves rest j (behind p) chain os h
  cause_moves rest r os h = absurd h

-- ---- so there is one more than was made

-- a node has a plan, which is longer than what it made
pub record HasMore (plan : Option (List ℕ)) (made : ℕ) : Type 0 where
  pub moves : List ℕ
  pub is : plan ≡ Some moves
  pub more : made < length moves

longer : (n : ℕ) (l : List ℕ) → IsMove (next_move (Some (drop n l))) → n < length l
longer zero [] h = absurd h
longer zero (m ∷ l) h = omega arith
longer (suc n) [] h = absurd h
longer (suc n) (m ∷ l) h = let rest = longer n l h in omega (arith, rest)

has_more : (plan : Option (List ℕ)) (n : ℕ) → IsMove (next_move (left_behind n plan)) → HasMore plan n
has_more None n h = absurd h
has_more (Some l) n h = record { moves = l; is = refl; more = longer n l h }

pub misfit_has_more : (g : Graph) (w : World) (plans : Plans) (outlook : ℕ → Outlook) (k : ℕ) (n : Node) → MisfitsOver g w plans outlook k n → HasMore (plans k) (length (w.moves k))
misfit_has_more g w plans outlook k n h = has_more (plans k) (length (w.moves k)) (cause_moves g w k (left g w plans k) (role_of n.kind) _ h)

-- ---- where no node follows moves

module _ (g : Graph) (w : World) (k : ℕ) (d : Decider) (comes : List Outlook) (is os : List SeenWire) where
  split_free : (j : Joining) (own : Type 0) → subs_rest g w comes Free j own os → own
  split_free joining.Merge own h = h
  split_free joining.Concat own h = h

  buffer_free : (n : ℕ) (p : Policy) → RoleRestsBy g w comes Free k (a_flow (buffers n p)) d is os → RoleRests g w k (a_flow (buffers n p)) d is os
  buffer_free n Backpressure h = h
  buffer_free n p h = h

  role_free : (r : Role) → RoleRestsBy g w comes Free k r d is os → RoleRests g w k r d is os
  role_free (a_flow (buffers n p)) h = buffer_free n p h
  role_free (a_flow (splits_when p chain j)) h = split_free j (RoleRests g w k (a_flow (splits_when p chain j)) d is os) h
  role_free (a_flow (splits_after p chain j)) h = split_free j (RoleRests g w k (a_flow (splits_after p chain j)) d is os) h
  role_free r h = h

pub rests_freely : (g : Graph) (w : World) (plans : Plans) → ((k : ℕ) → plans k ≡ None) → (counts : List WireCount) (outlook : ℕ → Outlook) → RestsBy g w plans counts outlook → Rests g w counts outlook
rests_freely g w plans none counts outlook rests k n at = by (rests k n at)
  where
    free : left g w plans k ≡ None
    free = ap (left_behind (length (w.moves k))) (none k)

    by : (EachWire IsShut (ins g counts outlook k n) × EachWire IsShut (outs g counts outlook k n)) ⊎ RowRestsBy g w plans k n.kind n.decider (ports_of g w outlook k (count_from 0 (inputs_of n))) (ins g counts outlook k n) (outs g counts outlook k n)
        → (EachWire IsShut (ins g counts outlook k n) × EachWire IsShut (outs g counts outlook k n)) ⊎ RowRests g w k n.kind n.decider (ins g counts outlook k n) (outs g counts outlook k n)
    by (inl shut) = inl shut
    by (inr (inl row)) = inr (role_free g w k n.decider (ports_of g w outlook k (count_from 0 (inputs_of n))) (ins g counts outlook k n) (outs g counts outlook k n) (role_of n.kind)
        (subst (λ (l : Option (List ℕ)). RoleRestsBy g w (ports_of g w outlook k (count_from 0 (inputs_of n))) (next_move l) k (role_of n.kind) n.decider (ins g counts outlook k n) (outs g counts outlook k n)) free row))
    by (inr (inr cause)) = absurd (subst (λ (l : Option (List ℕ)). IsMove (next_move l)) free (cause_moves g w k (left g w plans k) (role_of n.kind) (ports_of g w outlook k (count_from 0 (inputs_of n))) cause))
