-- What a stage with substreams gave is what the model lets it: joined by `concat`, and joined by `merge` by its moves.
use Rattle.std.proofs.Common.{◌≡◌, ℕ, ◌≤◌, Bool, List, length, take, Some, refl, sym, ap, ◌∙◌, subst, arith}
use Rattle.stage_core.specs.Fans.{untagged}
use Rattle.std.proofs.lemmas.List.{length-map, take-map}
use Rattle.elem_core.specs.Prefix.{IsPrefix}
use Rattle.elem_core.specs.Tree.{Tree}
use Rattle.elem_core.specs.declared.item.Item.{Item}
use Rattle.elem_core.specs.declared.why.Cause.{Cause}
use Rattle.elem_core.proofs.Prefixes.{prefix_take}
use Rattle.port_core.specs.ListFunction.{ListFunction}
use Rattle.port_core.specs.View.{View, in_at, out_at}
use Rattle.stream_model.specs.FanIn.{Tagged, merge_of, Finds}
use Rattle.stream_model.specs.Machine.{Run, Given, run, close, Fails, Stands}
use Rattle.stream_model.specs.Outlook.{End, unended, ended, failed}
use Rattle.stream_model.specs.Substreams.{Opening, Subs, substreams, begin_subs, by_sub, sub_count, MergedStands}
use Rattle.stage_core.proofs.Whole.{stage_stands}
use Rattle.stage_sub.specs.Joined.{untag, joined_machine}
use Rattle.stage_sub.specs.KeptSubs.{opening_of}
use Rattle.stage_sub.specs.Handling.{ports_given, ready_of, TellsMachine}
use Rattle.stage_sub.specs.States.{Logic}
use Rattle.stage_sub.proofs.Fifo.{given_by_moves, found_by_moves}
use Rattle.stage_sub.proofs.Untagging.{stands_tagged, ready_part}

module _ (yields : List Tree → End → Given Tree) (node : ℕ) (o : Opening) where
  abbrev begin : Run Subs Tagged
  begin = begin_subs yields node

  -- by moves that are the substreams of the first outputs that are ready, as many as were given
  merged : (ms : List ℕ) (l : List Tree) (e : End) (g : List Tree) (f : End) → length ms ≡ length g → ms ≡ take (length g) (ports_given (ready_of yields o begin l e)) → Stands (joined_machine yields o) (untag begin) l e g f → MergedStands yields node o ms l e g f
  merged ms l e g f count is stands =
      let all : List Tagged = ready_of yields o begin l e in
      let gave : List Tagged = take (length g) all in
      let part = ready_part yields o begin l e g f stands in
      let first : IsPrefix gave all = prefix_take (length g) all in
      let same : ports_given gave ≡ ms = sym (take-map (λ (x : Tagged). x.port) (length g) all) ∙ sym is in
      record {
        ready = all;
        are = refl;
        finds = subst (λ (k : List ℕ). Finds k (by_sub yields (sub_count yields all) 0 all)) same (found_by_moves yields gave all first);
        gave = sym part ∙ ap untagged (sym (given_by_moves yields gave all first)) ∙ ap (λ (k : List ℕ). untagged (merge_of k (by_sub yields (sub_count yields all) 0 all))) same;
        ends = λ d. at_end f ms count stands d;
        fails = λ c d. at_failure f ms count stands c d;
      }
    where
      at_end : (f : End) (ms : List ℕ) → length ms ≡ length g → Stands (joined_machine yields o) (untag begin) l e g f → f ≡ ended
          → ((close (substreams yields o) (run (substreams yields o) begin l) e).end ≡ ended) × (length ms ≡ length (ready_of yields o begin l e))
      at_end ended ms count s d =
          let t = stands_tagged yields o begin l e g ended s in
          let whole : ready_of yields o begin l e ≡ t.0 = ap (λ (x : Given Tagged). x.list) t.1.1 in
          (ap (λ (x : Given Tagged). x.end) t.1.1, count ∙ ap length (sym t.1.0) ∙ length-map t.0 (λ (x : Tagged). x.item) ∙ ap length (sym whole))
      at_end unended ms count s d = cc
      at_end (failed c) ms count s d = cc

      at_failure : (f : End) (ms : List ℕ) → length ms ≡ length g → Stands (joined_machine yields o) (untag begin) l e g f → (c : Cause) → f ≡ failed c → (t : List Tagged) × Fails (substreams yields o) begin l e t c × (length t ≤ length ms)
      at_failure (failed d) ms count s c q =
          let t = stands_tagged yields o begin l e g (failed d) s in
          let long : length t.0 ≡ length ms = sym (length-map t.0 (λ (x : Tagged). x.item)) ∙ ap length t.1.0 ∙ sym count in
          let same : d ≡ c = cc in
          (t.0, subst (Fails (substreams yields o) begin l e t.0) same t.1.1, omega (arith, long))
      at_failure unended ms count s c q = cc
      at_failure ended ms count s c q = cc

module _ {C : Type 0} (rest : C → ListFunction) (is_open : C → Bool) (f : ListFunction) (yields : List Tree → End → Given Tree) (node : ℕ) (first now : Logic C) (v : View) (took gave : List Item) where
  pub concat_stands : (t : TellsMachine rest is_open f yields (begin_subs yields node) first now v took gave)
      → (g : List Tagged) × ((untagged g ≡ t.law.out_list) × Stands (substreams yields (opening_of first.how)) (begin_subs yields node) t.law.in_list t.law.in_end g t.law.out_end)
  concat_stands t =
      stands_tagged yields (opening_of first.how) (begin_subs yields node) t.law.in_list t.law.in_end t.law.out_list t.law.out_end
      (stage_stands (joined_machine yields (opening_of first.how)) (untag (begin_subs yields node)) t.held (in_at v 0) (out_at v 0) took gave t.law)

  pub merge_stands : (t : TellsMachine rest is_open f yields (begin_subs yields node) first now v took gave) (ms : List ℕ) → now.moves ≡ Some ms
      → MergedStands yields node (opening_of first.how) ms t.law.in_list t.law.in_end t.law.out_list t.law.out_end
  merge_stands t ms e =
      merged yields node (opening_of first.how) ms t.law.in_list t.law.in_end t.law.out_list t.law.out_end (t.counts ms e) (t.moves ms e)
      (stage_stands (joined_machine yields (opening_of first.how)) (untag (begin_subs yields node)) t.held (in_at v 0) (out_at v 0) took gave t.law)
