-- The goals of `body::Body::new` that the search leaves.
use Rattle.std.proofs.Common.{List, ap, ◌∙◌, subst, arith}
use Rattle.std.specs.declared.vec.Vec.{Vec}
use Rattle.island_body.specs.declared.output.OutputBoundary.{OutputBoundary}
use Rattle.island_body.specs.declared.input.IslandInput.{IslandInput}
use Rattle.island_body.specs.Ends.{in_wires, out_wires, all_taken, all_finds, IsTable}
use Rattle.island_body.specs.Lasting.{goes_on}
use Rattle.island_body.proofs.body.Body.new.Goals as goal

pub serve_ins-requires : goal.serve_ins-requires
serve_ins-requires g c =
    let first = subst (λ (l : List IslandInput). IsTable c.args.island (in_wires l) (out_wires c.deref-2.result.now) c.mark.new.ways.items) c.deref.ensures.value c.mark.ensures in
    let both = subst (λ (l : List OutputBoundary). IsTable c.args.island (in_wires c.args.ins.items) (out_wires l) c.mark.new.ways.items) c.deref-2.ensures.value first in
    record { stands = record { whole = c.requires.begins.whole; stand = c.requires.begins.stand; apart = c.requires.begins.apart; table = both } }

pub returns-clause-keeps : goal.returns-clause-keeps
returns-clause-keeps g c =
    let s = c.serve_outs.ensures in
    let p = c.put_off.ensures in
    let r = c.serve_ins.ensures.rest in
    let taken = ap (λ (v : Vec IslandInput _). all_taken v.items) p.lanes.0 in
    let finds = ap (λ (v : Vec OutputBoundary _). all_finds v.items) p.lanes.1 in
    record {
      laws = c.laws.ensures p.stands.whole;
      stands = record { whole = p.stands.whole; stand = p.stands.stand; apart = p.stands.apart; table = p.stands.table };
      served = p.served;
      charged = let a = s.rest.0 in let b = r.0 in let d = c.requires.begins.unused in let i = c.serve_ins.ensures.costs in let o = s.costs in let t = i.0 in let f = i.1 in let u = o.0 in let v = o.1 in let x = c.requires.begins.untaken in let y = c.requires.begins.unfound in let z = p.used in omega (arith, a, b, d, t, f, u, v, x, y, z, taken, finds);
      paid = let a = s.rest.1 in let b = r.1 in let z = p.lanes.3 in omega (arith, a, b, z);
      calm = p.calm;
    }

pub returns-clause-goes : goal.returns-clause-goes
returns-clause-goes g c =
    let i = (goes_on _ _ _ c.serve_ins.ensures.goes (goes_on _ _ _ c.serve_outs.ensures.goes c.put_off.ensures.goes)).island in
    record { on = i.on; ins = i.ins; outs = i.outs; numbers = i.numbers; places = i.places }

pub returns-clause-lanes : goal.returns-clause-lanes
returns-clause-lanes g c = (goes_on _ _ _ c.serve_ins.ensures.goes (goes_on _ _ _ c.serve_outs.ensures.goes c.put_off.ensures.goes)).lanes

pub returns-clause-spent : goal.returns-clause-spent
returns-clause-spent g c = c.put_off.ensures.lanes.3 ∙ (c.serve_outs.ensures.rest.1 ∙ c.serve_ins.ensures.rest.1)

pub returns-clause-peers : goal.returns-clause-peers
returns-clause-peers g c =
    let k = c.clear.ensures in
    let o = c.serve_outs.ensures.peers in
    let i = c.serve_ins.ensures.peers in
    let p = c.put_off.ensures.lanes.4 in
    (k.same.0 ∙ (ap (λ x. x.ins) p ∙ (o.0 ∙ i.0)), k.same.1 ∙ (ap (λ x. x.outs) p ∙ (o.1 ∙ i.1)), k.none)
