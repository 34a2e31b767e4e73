-- What a node tells of a picture that follows no moves, where others may follow some.
use Rattle.std.proofs.Common.{◌≡◌, ℕ, ◌⊎◌, inl, inr, ◌∙◌, refl, Bool, List, Option, None, Some, length, map, ap, sym, subst}
use Rattle.elem_core.specs.declared.item.Item.{Item}
use Rattle.elem_core.specs.declared.why.Decider.{Decider}
use Rattle.std.proofs.Math.Seq.{drop-append_seam}
use Rattle.port_core.specs.Picks.{next_move, plan_of}
use Rattle.port_core.specs.View.{View}
use Rattle.port_core.specs.declared.pick_log.Next.TheVariants.{Free}
use Rattle.stream_model.specs.declared.kind.Policy.{Policy}
use Rattle.stream_model.specs.declared.kind.Policy.TheVariants.{Backpressure}
use Rattle.stream_model.specs.declared.kind.Joining.{Joining}
use Rattle.stream_model.specs.declared.kind.Joining.TheVariants as joining
use Rattle.stream_model.specs.Graph.{Graph}
use Rattle.stream_model.specs.Graph as graph
use Rattle.stream_model.specs.Lawful.{RoleLawful}
use Rattle.stream_model.specs.Linear.{Role, a_flow, a_fan_out, buffers, splits_when, splits_after, balances, role_of}
use Rattle.stream_model.specs.Node.{World}
use Rattle.stream_model.specs.Outlook.{Outlook}
use Rattle.stream_model.specs.Rests.{RoleRests, RowRests, OneToMany, IsShut}
use Rattle.stream_model.specs.View.{SeenWire, EachWire}
use Rattle.run_laws.specs.KindLaws.{PictureLaws, PictureLawsBy}
use Rattle.run_laws.specs.Ports.{InPort, OutPort}
use Rattle.run_laws.specs.Replayed.{Plans, left, left_behind, subs_rest, BalanceLawfulBy, RoleLawfulBy, RoleRestsBy, RowRestsBy}

module _ (g : Graph) (w : World) (k : ℕ) (d : Decider) (comes : List Outlook) (is os : List SeenWire) where
  -- substreams, by how they are joined
  split_rests : (j : Joining) (own : Type 0) → own → subs_rest g w comes Free j own os
  split_rests joining.Merge own h = h
  split_rests joining.Concat own h = h

  -- a buffer, by its policy
  buffer_rests_own : (n : ℕ) (p : Policy) → RoleRests g w k (a_flow (buffers n p)) d is os → RoleRestsBy g w comes Free k (a_flow (buffers n p)) d is os
  buffer_rests_own n Backpressure h = h
  buffer_rests_own n p h = h

  -- its row of a picture that rests is that of a stage that chooses
  pub rests_own : (r : Role) → RoleRests g w k r d is os → RoleRestsBy g w comes Free k r d is os
  rests_own (a_flow (buffers n p)) h = buffer_rests_own n p h
  rests_own (a_flow (splits_when p chain j)) h = split_rests j (RoleRests g w k (a_flow (splits_when p chain j)) d is os) h
  rests_own (a_flow (splits_after p chain j)) h = split_rests j (RoleRests g w k (a_flow (splits_after p chain j)) d is os) h
  rests_own r h = h

-- behind the moves that were made is left what was not
pub left_is : (plan rest : Option (List ℕ)) (moves made : List ℕ) → plan ≡ plan_of moves rest → made ≡ moves → left_behind (length made) plan ≡ rest
left_is plan rest moves made p m = ap (λ (ms : List ℕ). left_behind (length ms) plan) m ∙ ap (left_behind (length moves)) p ∙ behind rest
  where
    behind : (l : Option (List ℕ)) → left_behind (length moves) (plan_of moves l) ≡ l
    behind None = refl
    behind (Some l) = ap Some (drop-append_seam moves l)

module _ (g : Graph) (w : World) (plans : Plans) (k : ℕ) (free : plans k ≡ None) where
  none_left : left g w plans k ≡ None
  none_left = ap (left_behind (length (w.moves k))) free

  -- and so is that of a lawful one
  pub lawful_own : (r : Role) (d : Decider) (is os : List SeenWire) → RoleLawful g w k r d is os → RoleLawfulBy g w plans k r d is os
  lawful_own (a_fan_out (balances n)) d is os h = subst (λ (p : Option (List ℕ)). OneToMany (BalanceLawfulBy p (w.moves k)) is os) (sym free) h
  lawful_own r d is os h = h

  pub freely : {N : Type 0} (port_state : N → View → Type 0) (law : N → N → View → List (List Item) → List (List Item) → Type 0) (asking : N → View → Type 0) (moves : N → List ℕ) (ended : N → Bool) (n : graph.Node) (first now : N) (is : List InPort) (os : List OutPort)
      → PictureLaws port_state law asking moves ended g w k n first now is os → PictureLawsBy port_state law asking moves ended g w plans k n first now is os
  freely port_state law asking moves ended n first now is os p = record {
    lawful = λ s so m. lawful_own (role_of n.kind) n.decider (map (λ (i : InPort). i.wire) is) (map (λ (o : OutPort). o.wire) os) (p.lawful s so m);
    rests = λ comes may s so ri ro. by comes (map (λ (i : InPort). i.wire) is) (map (λ (o : OutPort). o.wire) os) (p.rests s so ri ro);
    matches = p.matches;
  }
    where
      by : (comes : List Outlook) (ins outs : List SeenWire) → (EachWire IsShut ins × EachWire IsShut outs) ⊎ RowRests g w k n.kind n.decider ins outs → (EachWire IsShut ins × EachWire IsShut outs) ⊎ RowRestsBy g w plans k n.kind n.decider comes ins outs
      by comes ins outs (inl shut) = inl shut
      by comes ins outs (inr row) =
          inr (inl (subst (λ (l : Option (List ℕ)). RoleRestsBy g w comes (next_move l) k (role_of n.kind) n.decider ins outs) (sym none_left) (rests_own g w k n.decider comes ins outs (role_of n.kind) row)))
