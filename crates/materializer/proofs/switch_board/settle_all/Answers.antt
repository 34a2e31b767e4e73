-- The goals of `board::settle_all` that the search leaves.
use Rattle.std.proofs.Common.{◌≡◌, ◌∙◌, refl, sym, ap, Some, length, arith}
use Rattle.std.specs.Prelude.{slice_get}
use Rattle.materializer.proofs.Places.{is_within}
use Rattle.materializer.proofs.Put.{settled_start, settled_next, last_there, whole_at, settled_at, read_at}
use Rattle.materializer.proofs.switch_board.settle_all.Goals as goal

pub loop-list-init : goal.loop-list-init
loop-list-init c = settled_start _ _ _ refl

pub settle_at-requires : goal.settle_at-requires
settle_at-requires c =
    let lists = c.args.lists.items in
    let left = c.pop.new.self.items in
    let inv = c.loop-list.invariant in
    let last : slice_get lists (length left) ≡ Some c.in-Some.list = last_there lists _ left inv.done c.in-Some.list inv.are c.in-Some.ensures.items in
    let within = is_within lists (length left) c.in-Some.list last in
    let at : c.len.result ≡ length left = c.len.ensures ∙ c.pop.new.self.ok.0 in
    let there : slice_get c.args.switches.now c.len.result ≡ Some c.index-switches-len.result = read_at c.args.switches.now c.len.result c.index-switches-len.result (omega (arith, within, at, c.requires.many)) c.index-switches-len.is in
    whole_at c.args.switches.now lists (length left) _ c.in-Some.list c.requires.whole (ap (slice_get c.args.switches.now) (sym at) ∙ there) last

pub loop-list-preserved : goal.loop-list-preserved
loop-list-preserved c =
    let lists = c.args.lists.items in
    let left = c.pop.new.self.items in
    let inv = c.loop-list.invariant in
    let last : slice_get lists (length left) ≡ Some c.in-Some.list = last_there lists _ left inv.done c.in-Some.list inv.are c.in-Some.ensures.items in
    let within = is_within lists (length left) c.in-Some.list last in
    let at : c.len.result ≡ length left = c.len.ensures ∙ c.pop.new.self.ok.0 in
    let there : slice_get c.args.switches.now c.len.result ≡ Some c.index-switches-len.result = read_at c.args.switches.now c.len.result c.index-switches-len.result (omega (arith, within, at, c.requires.many)) c.index-switches-len.is in
    settled_next c.args.switches.now lists _ left c.in-Some.list inv c.in-Some.ensures.items (settled_at _ c.in-Some.list c.args.switches.now (length left) (ap (slice_get c.args.switches.now) (sym at) ∙ there) c.settle_at.ensures)
