-- What the steps of a buffer that drops are by its law: each is a step, and steps compose.
use Rattle.std.proofs.Common.{◌≡◌, ℕ, ◌+◌, List, [], ◌∷◌, ◌++◌, Some, refl, sym, ap, ◌∙◌, append-nil, append_assoc, arith}
use Rattle.std.proofs.lemmas.List.{length-append}
use Rattle.std.specs.Option.{option_to_list}
use Rattle.elem_core.specs.Tree.{Tree}
use Rattle.port_core.specs.Picks.{logged}
use Rattle.stream_model.specs.FanIn.{Inflow}
use Rattle.stream_model.specs.declared.kind.Policy.{Policy}
use Rattle.stream_model.specs.Picks.{after_coming, leaves, comes}
use Rattle.stage_dropping.specs.Drops.{buffer_at, BufferStep}
use Rattle.stage_dropping.specs.Droppings.{Dropping, pending, took}
use Rattle.stage_dropping.proofs.DropSplits.{split}

pub compose : (p : Policy) (n came : ℕ) (moves : List ℕ) (held : List Tree) (w : Inflow) (given : List Tree) (mid : ℕ) (between : List ℕ) (some : List Tree) (v : Inflow) (more : List Tree) (last : ℕ) (now : List ℕ) (items : List Tree) (us : Inflow)
    → BufferStep p n came moves held w given mid between some v → BufferStep p n mid between some v more last now items us → BufferStep p n came moves held w (given ++ more) last now items us
compose p n came moves held w given mid between some v more last now items us s r = record {
  more = s.more ++ r.more;
  taken = s.taken ++ r.taken;
  parts = s.parts ∙ ap (λ (l : List Tree). s.taken ++ l) r.parts ∙ sym (append_assoc s.taken r.taken us.list);
  same = r.same ∙ s.same;
  now_is = r.now_is ∙ ap (λ (l : List ℕ). l ++ r.more) s.now_is ∙ append_assoc moves s.more r.more;
  then_is = let a = s.then_is in let b = r.then_is in let l = length-append s.taken r.taken in omega (arith, a, b, l);
  moved = λ g.
      split p n s.more r.more s.taken r.taken (buffer_at g held came) (buffer_at (g ++ given) some mid) (s.moved g) refl s.then_is
      ∙ r.moved (g ++ given) ∙ ap (λ (l : List Tree). buffer_at l items last) (append_assoc g given more);
}

pub take_step : (l : Dropping) (t : Tree) (items : List Tree) → l.waiting ≡ Some t → comes l.policy l.size l.held t ≡ Some items
    → BufferStep l.policy l.size l.came l.log.moves l.held (pending l) [] (took items l).came (took items l).log.moves (took items l).held (pending (took items l))
take_step l t items w c = record {
  more = 0 ∷ [];
  taken = t ∷ [];
  parts = ap option_to_list w;
  same = refl;
  now_is = refl;
  then_is = omega arith;
  moved = λ g. ap (after_coming (buffer_at g l.held l.came)) c ∙ ap (λ (x : List Tree). buffer_at x items (l.came + 1)) (sym (append-nil g));
}

pub give_step : (l : Dropping) (t : Tree) (items : List Tree) → l.held ≡ t ∷ items
    → BufferStep l.policy l.size l.came l.log.moves l.held (pending l) (t ∷ []) l.came (logged 1 l.log).moves items (pending l)
give_step l t items h = record {
  more = 1 ∷ [];
  taken = [];
  parts = refl;
  same = refl;
  now_is = refl;
  then_is = omega arith;
  moved = λ g. ap (leaves (buffer_at g l.held l.came)) h;
}
