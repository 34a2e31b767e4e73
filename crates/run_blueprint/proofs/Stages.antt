-- What a node of any kind gives is of its type, by what the check of a blueprint says of types at its kind.
use Rattle.std.proofs.Common.{◌≡◌, ℕ, zero, suc, Bool, true, false, List, [], ◌∷◌, map, Some, None, sym, ap, ◌∙◌, subst}
use Rattle.std.specs.Prelude.{if◌then◌else◌, ◌==◌, ℤ, pos, ◌+ℤ◌, unwrap_or}
use Rattle.std.specs.List.{take_while, list_all}
use Rattle.elem_core.specs.Sort.{Sort, num_type, text_type, pair_type, same_sort}
use Rattle.elem_core.specs.SortLaws.{sort_from_same}
use Rattle.elem_core.specs.Text.{lines}
use Rattle.elem_core.specs.Tree.{num, text}
use Rattle.elem_core.specs.declared.why.Decider.{Decider}
use Rattle.elem_core.specs.declared.why.Decider.TheVariants.{Stop}
use Rattle.stream_model.specs.declared.kind.Joining.TheVariants as join
use Rattle.stream_model.specs.declared.kind.Kind.{Kind}
use Rattle.stream_model.specs.declared.kind.Kind.TheVariants.{Lines, Range, Empty, Failed, Buffer, RecoverNum, RecoverText, Valve, Custom, GroupBy, SplitWhen, SplitAfter, Merge, MergeHub, Concat, Interleave, MergeSorted, Zip, Broadcast, BroadcastHub, Balance, Partition, Unzip}
use Rattle.stream_model.specs.declared.kind.Policy.TheVariants.{Backpressure}
use Rattle.stream_model.specs.FanIn.{concat_of, interleave_of, inlets, turns_of, sorted_of, merge_of}
use Rattle.stream_model.specs.FanOut.{left_outlook, right_outlook}
use Rattle.stream_model.specs.Graph.{Graph, steps_of}
use Rattle.stream_model.specs.Linear.{numbering, passing, work_of}
use Rattle.stream_model.specs.Node.{World, head_of, second_of, chain_of, node_outlook}
use Rattle.stream_model.specs.Outlook.{Outlook}
use Rattle.stream_model.specs.Picks.{acted, acted_outlook, sent_to, recover_outlook, buffered, empty_buffer}
use Rattle.stream_model.specs.Sources.{short, count_up, span_of}
use Rattle.stream_model.specs.Substreams.{Opening, by_key, before, behind, through, concat_subs, merge_subs}
use Rattle.stream_model.specs.declared.blueprint.ChainDecl.{ChainDecl}
use Rattle.stream_model.specs.declared.blueprint.Step.{Step}
use Rattle.stream_model.specs.Known.{HeadLists}
use Rattle.blue_names.specs.declared.typed.Typed.TheVariants.{Gives}
use Rattle.blue_names.specs.declared.want.Want.TheVariants.{Is, AnyPair}
use Rattle.blue_names.specs.FnTypes.{map_want, map_gives, pred_want, left_type, right_type}
use Rattle.blue_names.specs.Rounds.{half_type}
use Rattle.blue_names.specs.StageTypes.{source_type, stage_typed, parted, keyed, chain_typed, chain_named}
use Rattle.materializer.specs.Graphs.{graph_chain as declared_chain}
use Rattle.line_chain.specs.Line.{model_step}
use Rattle.run_blueprint.specs.Kinds.{joining, single, shape_of, is_known}
use Rattle.run_blueprint.specs.Plugs.{KeepsPlugTypes}
use Rattle.run_blueprint.specs.Types.{AllTyped, OutlooksTyped, TakesSort}
use Rattle.run_blueprint.proofs.Lists.{retype_all}
use Rattle.run_blueprint.proofs.Given.{given, wanted, parted_by, keyed_is}
use Rattle.run_blueprint.proofs.Machines.{output_typed}
use Rattle.run_blueprint.proofs.Chains.{work_typed, ChainTyped, chain_typed_by, steps_are, steps_known}
use Rattle.run_blueprint.proofs.Substreams.{concat_subs_typed, merge_subs_typed}
use Rattle.run_blueprint.proofs.Fans.{items_typed, concat_typed, inlets_typed, interleave_typed, sorted_typed, lists_typed, merge_typed, pairs_typed}
use Rattle.run_blueprint.proofs.Choices.{lefts_typed, rights_typed, sent_typed, acted_typed, recover_typed, buffered_typed}

-- the outputs of an unzip
unzip_by : (b : Bool) (t : Sort) (o : Outlook) → TakesSort (Some AnyPair) t → AllTyped t o.list → AllTyped (if b then left_type t else right_type t) (if b then left_outlook o else right_outlook o).list
unzip_by true (pair_type t u) o w h = lefts_typed t u o.list h
unzip_by true _ o w h = cc
unzip_by false (pair_type t u) o w h = rights_typed t u o.list h
unzip_by false _ o w h = cc

-- ---- sources

pub lines_typed : (l : List (List ℕ)) → AllTyped text_type (map text l)
lines_typed [] = tt
lines_typed (x ∷ l) = (tt, lines_typed l)

numbers_typed : (n : ℕ) (z : ℤ) → AllTyped num_type (count_up n z)
numbers_typed zero z = tt
numbers_typed (suc n) z = (tt, numbers_typed n (z +ℤ pos 1))

head_typed : (u : Sort) (os : List Outlook) → OutlooksTyped u os → AllTyped u (head_of os).list
head_typed u [] h = tt
head_typed u (o ∷ os) h = h.0

second_typed : (u : Sort) (os : List Outlook) → OutlooksTyped u os → AllTyped u (second_of os).list
second_typed u [] h = tt
second_typed u (o ∷ os) h = head_typed u os h.1

module _ (g : Graph) (w : World) (node : ℕ) (d : Decider) (is : List Outlook) where
  -- a source gives its type
  pub source_keeps : (k : Kind) (u : Sort) → source_type k ≡ Some u → (p : ℕ) → AllTyped u (node_outlook g w node k d is p).list
  source_keeps (Lines name) u h p =
      let same : text_type ≡ u = cc in
      retype_all text_type u (map text (take_while short (lines (w.file name).bytes))) same (lines_typed (take_while short (lines (w.file name).bytes)))
  source_keeps (Range low high) u h p =
      let same : num_type ≡ u = cc in
      retype_all num_type u (count_up (span_of low high) low) same (numbers_typed (span_of low high) low)
  source_keeps (Empty b) u h p = tt
  source_keeps (Failed b) u h p = tt
  source_keeps _ u h p = cc

  -- the inputs of a node that joins are all of its type
  pub joining_keeps : (k : Kind) (u : Sort) → shape_of k ≡ joining → OutlooksTyped u is → (p : ℕ) → AllTyped u (node_outlook g w node k d is p).list
  joining_keeps (Merge n) u j a p = items_typed u (merge_of (w.moves node) (map (λ o. o.list) is)) (merge_typed u (w.moves node) (map (λ o. o.list) is) (lists_typed u is a))
  joining_keeps (MergeHub m n) u j a p = items_typed u (merge_of (w.moves node) (map (λ o. o.list) is)) (merge_typed u (w.moves node) (map (λ o. o.list) is) (lists_typed u is a))
  joining_keeps (Concat n) u j a p = items_typed u (concat_of 0 is) (concat_typed u 0 is a)
  joining_keeps (Interleave n s) u j a p =
      items_typed u (interleave_of s (turns_of is) s (inlets 0 is)) (interleave_typed u s (turns_of is) s (inlets 0 is) (inlets_typed u 0 is a))
  joining_keeps MergeSorted u j a p =
      items_typed u (sorted_of (head_of is).ends (second_of is).ends (head_of is).list (second_of is).list)
      (sorted_typed u (head_of is).ends (second_of is).ends (head_of is).list (second_of is).list (head_typed u is a) (second_typed u is a))
  joining_keeps _ u j a p = cc

  -- a zip gives pairs
  pub zip_keeps : (t u : Sort) → AllTyped t (head_of is).list → AllTyped u (second_of is).list → (p : ℕ) → AllTyped (pair_type t u) (node_outlook g w node Zip d is p).list
  zip_keeps t u h k p = pairs_typed t u (head_of is).list (second_of is).list h k

  -- ---- a node with one input

  module _ (heads : HeadLists) (chains : List ChainDecl) (keeps : KeepsPlugTypes heads w.book) (chains_are : g.chains ≡ map declared_chain chains)
      (steps : list_all (λ (c : ChainDecl). list_all (λ (s : Step). is_known heads s.kind) c.steps.items) chains ≡ true) (t u : Sort) (h : AllTyped t (head_of is).list) where
    -- the chain of a node with substreams
    chain_at : (name : List ℕ) → chain_typed heads (chain_named name chains) t ≡ Gives u → ChainTyped heads t u (chain_of node (steps_of name g.chains))
    chain_at name e =
        let are : steps_of name g.chains ≡ map model_step (chain_named name chains) = ap (steps_of name) chains_are ∙ steps_are name chains in
        subst (λ ss. ChainTyped heads t u (chain_of node ss)) (sym are) (chain_typed_by heads node (chain_named name chains) t u (steps_known heads name chains steps) e)

    merged : (o : Opening) (name : List ℕ) → chain_typed heads (chain_named name chains) t ≡ Gives u → AllTyped u (merge_subs (through w.book (chain_of node (steps_of name g.chains))) node o (w.moves node) (head_of is)).list
    merged o name e = merge_subs_typed heads w.book keeps (chain_of node (steps_of name g.chains)) t u (chain_at name e) node o (w.moves node) (head_of is) h

    in_turn : (o : Opening) (name : List ℕ) → chain_typed heads (chain_named name chains) t ≡ Gives u → AllTyped u (concat_subs (through w.book (chain_of node (steps_of name g.chains))) node o (head_of is)).list
    in_turn o name e = concat_subs_typed heads w.book keeps (chain_of node (steps_of name g.chains)) t u (chain_at name e) node o (head_of is) h

    pub single_keeps : (k : Kind) → is_known heads k ≡ true → shape_of k ≡ single → stage_typed heads chains k t ≡ Gives u → (p : ℕ) → AllTyped (half_type heads k p u) (node_outlook g w node k d is p).list
    single_keeps (Lines name) a s e p = cc
    single_keeps (Range low high) a s e p = cc
    single_keeps (Empty b) a s e p = cc
    single_keeps (Failed b) a s e p = cc
    single_keeps (Merge n) a s e p = cc
    single_keeps (MergeHub m n) a s e p = cc
    single_keeps (Concat n) a s e p = cc
    single_keeps (Interleave n m) a s e p = cc
    single_keeps MergeSorted a s e p = cc
    single_keeps Zip a s e p = cc
    single_keeps (Custom name) a s e p = cc
    single_keeps (Buffer n Backpressure) a s e p = retype_all t u (head_of is).list (given None t t u e).1 h
    single_keeps (Buffer n q) a s e p =
        retype_all t u (buffered q n (w.moves node) (head_of is).list empty_buffer).gave (given None t t u e).1
        (buffered_typed t q n (w.moves node) (head_of is).list empty_buffer h (record { gave = tt; held = tt })).gave
    single_keeps (RecoverNum k) a s e p =
        let r = given (Some (Is num_type)) t num_type u e in
        let same : t ≡ num_type = sym (sort_from_same num_type t r.0) in
        retype_all num_type u (recover_outlook (num k) (w.moves node) (head_of is)).list r.1
        (recover_typed num_type (num k) (w.moves node) (head_of is) tt (retype_all t num_type (head_of is).list same h))
    single_keeps (RecoverText l) a s e p =
        let r = given (Some (Is text_type)) t text_type u e in
        let same : t ≡ text_type = sym (sort_from_same text_type t r.0) in
        retype_all text_type u (recover_outlook (text l) (w.moves node) (head_of is)).list r.1
        (recover_typed text_type (text l) (w.moves node) (head_of is) tt (retype_all t text_type (head_of is).list same h))
    single_keeps (Valve name) a s e p =
        retype_all t u (acted_outlook node (acted (w.moves node)) (head_of is)).list (given None t t u e).1 (acted_typed t node (acted (w.moves node)) (head_of is) h)
    single_keeps (GroupBy n q name) a s e p =
        let r = wanted (map_want q) t (keyed heads (map_gives q t) (chain_typed heads (chain_named name chains) t)) u e in
        merged (by_key n q) name (keyed_is heads (map_gives q t) (chain_typed heads (chain_named name chains) t) u r.1)
    single_keeps (SplitWhen q name join.Merge) a s e p = merged (before q) name (wanted (Some (pred_want q)) t (chain_typed heads (chain_named name chains) t) u e).1
    single_keeps (SplitWhen q name join.Concat) a s e p = in_turn (before q) name (wanted (Some (pred_want q)) t (chain_typed heads (chain_named name chains) t) u e).1
    single_keeps (SplitAfter q name join.Merge) a s e p = merged (behind q) name (wanted (Some (pred_want q)) t (chain_typed heads (chain_named name chains) t) u e).1
    single_keeps (SplitAfter q name join.Concat) a s e p = in_turn (behind q) name (wanted (Some (pred_want q)) t (chain_typed heads (chain_named name chains) t) u e).1
    single_keeps (Broadcast n) a s e p = retype_all t u (head_of is).list (given None t t u e).1 h
    single_keeps (BroadcastHub m n) a s e p = retype_all t u (head_of is).list (given None t t u e).1 h
    single_keeps (Balance n) a s e p = retype_all t u (sent_to p (w.moves node) (head_of is).list) (given None t t u e).1 (sent_typed t p (w.moves node) (head_of is).list h)
    single_keeps (Partition n q) a s e p =
        let r = wanted (map_want q) t (parted heads (map_gives q t) t) u e in
        output_typed heads w.book keeps (numbering n q p) t u node Stop (numbering n q p) (head_of is) (parted_by (same_sort num_type (map_gives q t)) t (map_gives q t) u r.1) h
    single_keeps Unzip a s e p =
        let r = given (Some AnyPair) t t u e in
        subst (λ v. AllTyped (if p == 0 then left_type v else right_type v) (if p == 0 then left_outlook (head_of is) else right_outlook (head_of is)).list) r.1
        (unzip_by (p == 0) t (head_of is) r.0 h)
    single_keeps k a s e p = output_typed heads w.book keeps (unwrap_or (work_of k) passing) t u node d (unwrap_or (work_of k) passing) (head_of is) (work_typed heads t u k a e) h
