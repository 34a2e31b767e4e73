-- A body whose ends tell the other ends of their lanes something, and the islands that it wakes for it.
use Rattle.std.proofs.Common.{◌≡◌, inl, inr, ℕ, ◌<◌, Bool, true, false, List, [], Some, length, set, slice_get, refl, sym, ap, ◌∙◌, subst, arith}
use Rattle.std.proofs.lemmas.List.{length-set}
use Rattle.std.proofs.lemmas.Option.{slice_get_within}
use Rattle.std.specs.declared.vec.Vec.{Vec}
use Rattle.fused_net.proofs.Reading.{get_there, get_set_same}
use Rattle.port_core.specs.Ring.{is_queued}
use Rattle.lane_core.specs.Ends.{sent, ask_calls, has_cancelled}
use Rattle.island_body.specs.declared.output.OutputBoundary.{OutputBoundary}
use Rattle.island_body.specs.declared.input.IslandInput.{IslandInput}
use Rattle.island_body.specs.declared.peers.Peers.{Peers}
use Rattle.island_body.specs.declared.body.Body.{Body}
use Rattle.island_body.specs.Waked.{Added}
use Rattle.island_body.specs.Telling.{TellsIn, TellsOut, IsToldBy, IsSentBy, TellsNoLess, ToldIn, ToldOut, HasTold, Wakes, WakesOn}
use Rattle.island_body.proofs.Lists.{some_same, at_set, at_one}
use Rattle.island_body.proofs.Wakes.{added_none}

tells_in_still : (x : IslandInput) → TellsIn x x
tells_in_still x = record { asks_more = omega arith; cancels = omega arith }

tells_in_on : (x y z : IslandInput) → TellsIn x y → TellsIn y z → TellsIn x z
tells_in_on x y z f g = let a = f.asks_more in let b = g.asks_more in let c = f.cancels in let d = g.cancels in record { asks_more = omega (arith, a, b); cancels = omega (arith, c, d) }

-- what was told before is told still, and what is told now was not told before
told_then : (x y z : IslandInput) → IsToldBy x y → TellsIn y z → IsToldBy x z
told_then x y z t g = let b = g.asks_more in let d = g.cancels in elim t [ inl a ↦ inl (omega (arith, a, b)) | inr c ↦ inr (omega (arith, c, d)) ]

told_now : (x y z : IslandInput) → TellsIn x y → IsToldBy y z → IsToldBy x z
told_now x y z g t = let b = g.asks_more in let d = g.cancels in elim t [ inl a ↦ inl (omega (arith, a, b)) | inr c ↦ inr (omega (arith, c, d)) ]

told_back : (x y z : IslandInput) → IsToldBy x z → ask_calls z.boundary.lane ≡ ask_calls y.boundary.lane → has_cancelled z.boundary.lane ≡ has_cancelled y.boundary.lane → IsToldBy x y
told_back x y z t e f = elim t [ inl a ↦ inl (omega (arith, a, e)) | inr c ↦ inr (omega (arith, c, f)) ]

told_none : (x : IslandInput) → IsToldBy x x → ⊥
told_none x t = elim t [ inl a ↦ omega (arith, a) | inr c ↦ omega (arith, c) ]

-- the one that stood at the place of another
end_before : {A : Type 0} (xs ys : List A) (k : ℕ) (y : A) → length ys ≡ length xs → slice_get ys k ≡ Some y → (x : A) × (slice_get xs k ≡ Some x)
end_before xs ys k y e at = get_there xs k (subst (λ (n : ℕ). k < n) e (slice_get_within ys k y at))

end_after : {A : Type 0} (xs ys : List A) (k : ℕ) (x : A) → length ys ≡ length xs → slice_get xs k ≡ Some x → (y : A) × (slice_get ys k ≡ Some y)
end_after xs ys k x e at = get_there ys k (subst (λ (n : ℕ). k < n) (sym e) (slice_get_within xs k x at))

module _ {S D L H B : Type 0} where
  -- ---- no end tells less

  tells_on : (a b c : Body S D L H B) → TellsNoLess a b → TellsNoLess b c → TellsNoLess a c
  tells_on a b c f g = record {
    ins_many = g.ins_many ∙ f.ins_many;
    outs_many = g.outs_many ∙ f.outs_many;
    ins = λ k x z ex ez. let y = end_after a.ins.items b.ins.items k x f.ins_many ex in tells_in_on x y.0 z (f.ins k x y.0 ex y.1) (g.ins k y.0 z y.1 ez);
    outs = λ k o q eo eq. let p = end_after a.outs.items b.outs.items k o f.outs_many eo in let l = f.outs k o p.0 eo p.1 in let m = g.outs k p.0 q p.1 eq in omega (arith, l, m);
    in_peers = g.in_peers ∙ f.in_peers;
    out_peers = g.out_peers ∙ f.out_peers;
  }

  -- what was told before is told still
  has_told_on : (a b c : Body S D L H B) (w : ℕ) → TellsNoLess b c → HasTold a b w → HasTold a c w
  has_told_on a b c w g t = elim t [
    | inl i ↦ (let z = end_after b.ins.items c.ins.items i.place i.after g.ins_many i.after_at in inl (record {
      place = i.place;
      before = i.before;
      after = z.0;
      before_at = i.before_at;
      after_at = z.1;
      peer = ap (λ (v : Vec ℕ _). slice_get v.items i.place) g.in_peers ∙ i.peer;
      told = told_then i.before i.after z.0 i.told (g.ins i.place i.after z.0 i.after_at z.1);
    }))
    | inr o ↦ (let z = end_after b.outs.items c.outs.items o.place o.after g.outs_many o.after_at in let l = o.told in let m = g.outs o.place o.after z.0 o.after_at z.1 in inr (record {
      place = o.place;
      before = o.before;
      after = z.0;
      before_at = o.before_at;
      after_at = z.1;
      peer = ap (λ (v : Vec ℕ _). slice_get v.items o.place) g.out_peers ∙ o.peer;
      told = omega (arith, l, m);
    }))
  ]

  -- ---- the same ends

  tells_same : (b c : Body S D L H B) → c.ins ≡ b.ins → c.outs ≡ b.outs → c.peers.ins ≡ b.peers.ins → c.peers.outs ≡ b.peers.outs → TellsNoLess b c
  tells_same b c ins_is outs_is ip op = record {
    ins_many = ap (λ (v : Vec IslandInput _). length v.items) ins_is;
    outs_many = ap (λ (v : Vec OutputBoundary _). length v.items) outs_is;
    ins = λ k x y ex ey. let is : x ≡ y = some_same x y (sym ex ∙ (ap (λ (v : Vec IslandInput _). slice_get v.items k) (sym ins_is) ∙ ey)) in subst (λ (z : IslandInput). TellsIn x z) is (tells_in_still x);
    outs = λ k o p eo ep. let is : o ≡ p = some_same o p (sym eo ∙ (ap (λ (v : Vec OutputBoundary _). slice_get v.items k) (sym outs_is) ∙ ep)) in subst (λ (z : OutputBoundary). TellsOut o z) is (omega arith);
    in_peers = ip;
    out_peers = op;
  }

  -- an end that is as it was told what it had told
  in_back : (a b c : Body S D L H B) (w : ℕ) → c.ins ≡ b.ins → c.peers.ins ≡ b.peers.ins → ToldIn a c w → ToldIn a b w
  in_back a b c w ins_is ip t = record {
    place = t.place;
    before = t.before;
    after = t.after;
    before_at = t.before_at;
    after_at = ap (λ (v : Vec IslandInput _). slice_get v.items t.place) (sym ins_is) ∙ t.after_at;
    peer = ap (λ (v : Vec ℕ _). slice_get v.items t.place) (sym ip) ∙ t.peer;
    told = t.told;
  }

  out_back : (a b c : Body S D L H B) (w : ℕ) → c.outs ≡ b.outs → c.peers.outs ≡ b.peers.outs → ToldOut a c w → ToldOut a b w
  out_back a b c w outs_is op t = record {
    place = t.place;
    before = t.before;
    after = t.after;
    before_at = t.before_at;
    after_at = ap (λ (v : Vec OutputBoundary _). slice_get v.items t.place) (sym outs_is) ∙ t.after_at;
    peer = ap (λ (v : Vec ℕ _). slice_get v.items t.place) (sym op) ∙ t.peer;
    told = t.told;
  }

  pub wakes_same : (b c : Body S D L H B) → c.ins ≡ b.ins → c.outs ≡ b.outs → c.peers ≡ b.peers → WakesOn b c
  wakes_same b c ins_is outs_is peers_is a w =
      let ip : c.peers.ins ≡ b.peers.ins = ap (λ (p : Peers). p.ins) peers_is in
      let op : c.peers.outs ≡ b.peers.outs = ap (λ (p : Peers). p.outs) peers_is in
      let q : c.peers.woken.queue ≡ b.peers.woken.queue = ap (λ (p : Peers). p.woken.queue) peers_is in
      let g = tells_same b c ins_is outs_is ip op in
      record {
        tells = tells_on a b c w.tells g;
        once = rw q w.once;
        each = λ i h. has_told_on a b c i g (w.each i (rw q at h));
        all = λ i t. rw q (w.all i (elim t [ inl x ↦ inl (in_back a b c i ins_is ip x) | inr o ↦ inr (out_back a b c i outs_is op o) ]));
      }

  pub wakes_still : (b : Body S D L H B) → WakesOn b b
  wakes_still b a w = w

  pub wakes_on : (a b c : Body S D L H B) → WakesOn a b → WakesOn b c → WakesOn a c
  wakes_on a b c f g first w = g first (f first w)

  -- a turn begins
  pub wakes_none : (a b : Body S D L H B) → b.ins ≡ a.ins → b.outs ≡ a.outs → b.peers.ins ≡ a.peers.ins → b.peers.outs ≡ a.peers.outs → b.peers.woken.queue ≡ [] → Wakes a b
  wakes_none a b ins_is outs_is ip op none = record {
    tells = tells_same a b ins_is outs_is ip op;
    once = rw none tt;
    each = λ i h. let no : is_queued [] i ≡ true = rw none at h in absurd cc;
    all = λ i t. absurd (elim t [
      | inl x ↦ (let is : x.before ≡ x.after = some_same x.before x.after (sym x.before_at ∙ (ap (λ (v : Vec IslandInput _). slice_get v.items x.place) (sym ins_is) ∙ x.after_at)) in told_none x.after (subst (λ (z : IslandInput). IsToldBy z x.after) is x.told))
      | inr o ↦ (let is : o.before ≡ o.after = some_same o.before o.after (sym o.before_at ∙ (ap (λ (v : Vec OutputBoundary _). slice_get v.items o.place) (sym outs_is) ∙ o.after_at)) in let l : length (sent o.after.lane) < length (sent o.after.lane) = subst (λ (z : OutputBoundary). IsSentBy z o.after) is o.told in omega (arith, l))
    ]);
  }

  -- ---- one end acts

  -- the input end at place k told its other end something, or not
  pub wakes_in : (b c : Body S D L H B) (k : ℕ) (x y : IslandInput) (told : Bool) → slice_get b.ins.items k ≡ Some x → c.ins.items ≡ set b.ins.items k y → c.outs ≡ b.outs → c.peers.ins ≡ b.peers.ins → c.peers.outs ≡ b.peers.outs → Added b.peers.ins.items k told b.peers.woken.queue c.peers.woken.queue
      → TellsIn x y → (told ≡ true → IsToldBy x y) → (told ≡ false → (ask_calls y.boundary.lane ≡ ask_calls x.boundary.lane) × (has_cancelled y.boundary.lane ≡ has_cancelled x.boundary.lane)) → WakesOn b c
  wakes_in b c k x y told at ins_is outs_is ip op added more says quiet a w = record {
    tells = tells_on a b c w.tells g;
    once = added.once w.once;
    each = λ i h. elim (added.only i h) [ inl was ↦ has_told_on a b c i g (w.each i was) | inr new ↦ inl (now i new.0 new.1) ];
    all = λ i t. elim t [
      | inl u ↦ elim (at_set b.ins.items k u.place x y u.after at (ap (λ (l : List IslandInput). slice_get l u.place) (sym ins_is) ∙ u.after_at)) [
        | inl here ↦ by_told told refl i u here.0 here.1
        | inr there ↦ added.still i (w.all i (inl (record {
          place = u.place;
          before = u.before;
          after = u.after;
          before_at = u.before_at;
          after_at = there.1;
          peer = ap (λ (v : Vec ℕ _). slice_get v.items u.place) (sym ip) ∙ u.peer;
          told = u.told;
        })))
      ]
      | inr o ↦ added.still i (w.all i (inr (out_back a b c i outs_is op o)))
    ];
  }
    where
      g : TellsNoLess b c
      g = record {
        ins_many = ap length ins_is ∙ length-set b.ins.items k y;
        outs_many = ap (λ (v : Vec OutputBoundary _). length v.items) outs_is;
        ins = rw ins_is (at_one TellsIn b.ins.items k x y at tells_in_still more);
        outs = λ j o p eo ep. let is : o ≡ p = some_same o p (sym eo ∙ (ap (λ (v : Vec OutputBoundary _). slice_get v.items j) (sym outs_is) ∙ ep)) in subst (λ (z : OutputBoundary). TellsOut o z) is (omega arith);
        in_peers = ip;
        out_peers = op;
      }

      after_at : slice_get c.ins.items k ≡ Some y
      after_at = ap (λ (l : List IslandInput). slice_get l k) ins_is ∙ get_set_same b.ins.items k y (slice_get_within b.ins.items k x at)

      now : (i : ℕ) → told ≡ true → slice_get b.peers.ins.items k ≡ Some i → ToldIn a c i
      now i t peer = let z = end_before a.ins.items b.ins.items k x w.tells.ins_many at in record {
        place = k;
        before = z.0;
        after = y;
        before_at = z.1;
        after_at = after_at;
        peer = ap (λ (v : Vec ℕ _). slice_get v.items k) ip ∙ peer;
        told = told_now z.0 x y (w.tells.ins k z.0 x z.1 at) (says t);
      }

      by_told : (t : Bool) → told ≡ t → (i : ℕ) (u : ToldIn a c i) → u.place ≡ k → u.after ≡ y → is_queued c.peers.woken.queue i ≡ true
      by_told true t i u here is = added.here i t (ap (λ (v : Vec ℕ _). slice_get v.items k) (sym ip) ∙ (ap (λ (n : ℕ). slice_get c.peers.ins.items n) (sym here) ∙ u.peer))
      by_told false t i u here is = let q = quiet t in added.still i (w.all i (inl (record {
        place = u.place;
        before = u.before;
        after = x;
        before_at = u.before_at;
        after_at = ap (λ (n : ℕ). slice_get b.ins.items n) here ∙ at;
        peer = ap (λ (v : Vec ℕ _). slice_get v.items u.place) (sym ip) ∙ u.peer;
        told = told_back u.before x u.after u.told (ap (λ (z : IslandInput). ask_calls z.boundary.lane) is ∙ q.0) (ap (λ (z : IslandInput). has_cancelled z.boundary.lane) is ∙ q.1);
      })))

  -- the output end at place k sent something, or not
  pub wakes_out : (b c : Body S D L H B) (k : ℕ) (x y : OutputBoundary) (told : Bool) → slice_get b.outs.items k ≡ Some x → c.outs.items ≡ set b.outs.items k y → c.ins ≡ b.ins → c.peers.ins ≡ b.peers.ins → c.peers.outs ≡ b.peers.outs → Added b.peers.outs.items k told b.peers.woken.queue c.peers.woken.queue
      → (told ≡ true → IsSentBy x y) → (told ≡ false → sent y.lane ≡ sent x.lane) → WakesOn b c
  wakes_out b c k x y told at outs_is ins_is ip op added says quiet a w = record {
    tells = tells_on a b c w.tells g;
    once = added.once w.once;
    each = λ i h. elim (added.only i h) [ inl was ↦ has_told_on a b c i g (w.each i was) | inr new ↦ inr (now i new.0 new.1) ];
    all = λ i t. elim t [
      | inl u ↦ added.still i (w.all i (inl (in_back a b c i ins_is ip u)))
      | inr u ↦ elim (at_set b.outs.items k u.place x y u.after at (ap (λ (l : List OutputBoundary). slice_get l u.place) (sym outs_is) ∙ u.after_at)) [
        | inl here ↦ by_told told refl i u here.0 here.1
        | inr there ↦ added.still i (w.all i (inr (record {
          place = u.place;
          before = u.before;
          after = u.after;
          before_at = u.before_at;
          after_at = there.1;
          peer = ap (λ (v : Vec ℕ _). slice_get v.items u.place) (sym op) ∙ u.peer;
          told = u.told;
        })))
      ]
    ];
  }
    where
      more : (t : Bool) → told ≡ t → TellsOut x y
      more true t = let l = says t in omega (arith, l)
      more false t = let e = ap length (quiet t) in omega (arith, e)

      g : TellsNoLess b c
      g = record {
        ins_many = ap (λ (v : Vec IslandInput _). length v.items) ins_is;
        outs_many = ap length outs_is ∙ length-set b.outs.items k y;
        ins = λ j o p eo ep. let is : o ≡ p = some_same o p (sym eo ∙ (ap (λ (v : Vec IslandInput _). slice_get v.items j) (sym ins_is) ∙ ep)) in subst (λ (z : IslandInput). TellsIn o z) is (tells_in_still o);
        outs = rw outs_is (at_one TellsOut b.outs.items k x y at (λ z. omega arith) (more told refl));
        in_peers = ip;
        out_peers = op;
      }

      after_at : slice_get c.outs.items k ≡ Some y
      after_at = ap (λ (l : List OutputBoundary). slice_get l k) outs_is ∙ get_set_same b.outs.items k y (slice_get_within b.outs.items k x at)

      now : (i : ℕ) → told ≡ true → slice_get b.peers.outs.items k ≡ Some i → ToldOut a c i
      now i t peer = let z = end_before a.outs.items b.outs.items k x w.tells.outs_many at in let l = w.tells.outs k z.0 x z.1 at in let m = says t in record {
        place = k;
        before = z.0;
        after = y;
        before_at = z.1;
        after_at = after_at;
        peer = ap (λ (v : Vec ℕ _). slice_get v.items k) op ∙ peer;
        told = omega (arith, l, m);
      }

      by_told : (t : Bool) → told ≡ t → (i : ℕ) (u : ToldOut a c i) → u.place ≡ k → u.after ≡ y → is_queued c.peers.woken.queue i ≡ true
      by_told true t i u here is = added.here i t (ap (λ (v : Vec ℕ _). slice_get v.items k) (sym op) ∙ (ap (λ (n : ℕ). slice_get c.peers.outs.items n) (sym here) ∙ u.peer))
      by_told false t i u here is = let q = ap length (quiet t) in let l : length (sent u.before.lane) < length (sent y.lane) = subst (λ (z : OutputBoundary). IsSentBy u.before z) is u.told in added.still i (w.all i (inr (record {
        place = u.place;
        before = u.before;
        after = x;
        before_at = u.before_at;
        after_at = ap (λ (n : ℕ). slice_get b.outs.items n) here ∙ at;
        peer = ap (λ (v : Vec ℕ _). slice_get v.items u.place) (sym op) ∙ u.peer;
        told = omega (arith, l, q);
      })))

  -- one that only looked
  pub wakes_looked_in : (b c : Body S D L H B) (k : ℕ) (x y : IslandInput) → slice_get b.ins.items k ≡ Some x → c.ins.items ≡ set b.ins.items k y → c.outs ≡ b.outs → c.peers ≡ b.peers → ask_calls y.boundary.lane ≡ ask_calls x.boundary.lane → has_cancelled y.boundary.lane ≡ has_cancelled x.boundary.lane → WakesOn b c
  wakes_looked_in b c k x y at ins_is outs_is peers_is e f =
      let q : c.peers.woken.queue ≡ b.peers.woken.queue = ap (λ (p : Peers). p.woken.queue) peers_is in
      wakes_in b c k x y false at ins_is outs_is (ap (λ (p : Peers). p.ins) peers_is) (ap (λ (p : Peers). p.outs) peers_is) (rw q (added_none b.peers.ins.items b.peers.woken.queue k false refl)) (record { asks_more = omega (arith, e); cancels = omega (arith, f) }) (λ t. cc) (λ t. (e, f))

  pub wakes_looked_out : (b c : Body S D L H B) (k : ℕ) (x y : OutputBoundary) → slice_get b.outs.items k ≡ Some x → c.outs.items ≡ set b.outs.items k y → c.ins ≡ b.ins → c.peers ≡ b.peers → sent y.lane ≡ sent x.lane → WakesOn b c
  wakes_looked_out b c k x y at outs_is ins_is peers_is e =
      let q : c.peers.woken.queue ≡ b.peers.woken.queue = ap (λ (p : Peers). p.woken.queue) peers_is in
      wakes_out b c k x y false at outs_is ins_is (ap (λ (p : Peers). p.ins) peers_is) (ap (λ (p : Peers). p.outs) peers_is) (rw q (added_none b.peers.outs.items b.peers.woken.queue k false refl)) (λ t. cc) (λ t. e)
