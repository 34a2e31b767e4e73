-- A sink whose write failed had not asked again, so nothing was sent behind the element that it took last; or it was of lines that it had
-- put off, and then one element may have been.
use Rattle.std.proofs.Common.{◌≡◌, ◌⊎◌, inl, inr, ℕ, suc, ◌+◌, ◌<◌, ◌≤◌, Bool, true, false, if◌then◌else◌, List, [], ◌∷◌, length, refl, ap, ◌∙◌, arith}
use Rattle.std.specs.Prelude.{slice_index_or}
use Rattle.elem_core.specs.Tree.{Tree}
use Rattle.elem_core.specs.Items.{elements}
use Rattle.elem_core.proofs.Prefixes.{prefix_length, prefix_whole}
use Rattle.elem_core.specs.declared.item.Item.{Item}
use Rattle.elem_core.specs.declared.item.Item.TheVariants as item
use Rattle.stream_model.specs.Outlook.{unended}
use Rattle.stream_model.specs.declared.outcome.EndState.TheVariants.{WriteFault}
use Rattle.stream_io.specs.State.{SourceState, DrainState}
use Rattle.stage_core.specs.Held.{told}
use Rattle.fused_net.proofs.Reading.{same_or_not}
use Rattle.nodes.specs.declared.node.IslandNode.{IslandNode}
use Rattle.nodes.specs.declared.node.IslandNode.TheVariants.{Writing}
use Rattle.nodes.specs.Nodes.{node_port_state, node_law, node_asking, node_moves}
use Rattle.nodes.specs.Sink.{Sink, SinkAsking}
use Rattle.run_laws.specs.Account.{Earlier}
use Rattle.run_laws.proofs.Coming.{elements_told}
use Rattle.run_laws.proofs.Nodes.{begins_one}
use Rattle.stream_model.specs.Linear.{Book}

-- a history has no more elements than items, and as many where no end passed
elements_most : (s : List Item) → elements s ≤ length s
elements_most [] = omega arith
elements_most (item.Elem t ∷ s) = omega (arith, elements_most s)
elements_most (item.Ended ∷ s) = omega (arith, elements_most s)
elements_most (item.Failed c ∷ s) = omega (arith, elements_most s)

length_told : (l : List Tree) → length (told l unended) ≡ length l
length_told [] = refl
length_told (t ∷ l) = ap suc (length_told l)

-- no element is sent that was not asked for
pub sent_wanted : (n : ℕ) (b : Bool) → n ≤ (if b then n + 1 else n)
sent_wanted n true = omega arith
sent_wanted n false = omega arith

module _ {S D L H B : Type 0} (sources : S → SourceState) (drains : D → DrainState) (book : Book) (first now : Sink D) (fault : now.end ≡ WriteFault) (got : List Item) (ins_want outs_want : List ℕ) (outs_closed : List Bool)
    (e : Earlier {N = IslandNode S D L H B} node_port_state (node_law sources drains book) node_asking node_moves 0 (Writing first) (Writing now) (got ∷ []) [] ins_want outs_want outs_closed) where
  -- it took an element since its last ask, and no more was asked for; or the write that failed was of lines that it had put off, and the
  -- next line did not fill a round
  pub few_behind : (elems : List Tree) → got ≡ told elems unended → (slice_index_or ins_want 0 0 ≤ elements got) ⊎ ((now.gather.passed + 1 < now.gather.room) × (slice_index_or ins_want 0 0 ≤ elements got + 1))
  few_behind elems is =
      let b = begins_one e.had got e.took_on in
      let all : elements got ≡ length elems = ap elements is ∙ elements_told elems unended in
      let items : length got ≡ length elems = ap (λ (l : List Item). length l) is ∙ length_told elems in
      let one : slice_index_or e.had 0 [] ≡ b.part = ap (λ (l : List (List Item)). slice_index_or l 0 []) b.is in
      let asks : slice_index_or ins_want 0 0 ≡ elements b.part + 1 = e.one_more ∙ ap (λ (l : List Item). elements l + 1) one in
      elim (same_or_not (length b.part) (length got)) [
        | inl same ↦
            let whole : e.had ≡ got ∷ [] = b.is ∙ ap (λ (l : List Item). l ∷ []) (prefix_whole b.begins (omega (arith, same))) in
            let told_still : SinkAsking now = e.stays refl refl whole in
            inr (told_still fault, omega (arith, asks, same, items, all, elements_most b.part))
        | inr other ↦ inl (omega (arith, items, all, asks, prefix_length b.begins, other, elements_most b.part))
      ]
