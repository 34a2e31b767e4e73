-- A node that wrote outside of its handlers what it had put off: the graph's laws stand.
use Rattle.std.proofs.Common.{◌≡◌, ◌≢◌, ◌⊎◌, inl, inr, ℕ, ◌+◌, ◌<◌, ◌≤◌, Bool, true, false, None, Some, List, [], ◌∷◌, length, map, get_or, slice_get, refl, sym, ap, ◌∙◌, subst, arith}
use Rattle.std.proofs.lemmas.List.{length-set}
use Rattle.elem_core.proofs.Prefixes.{prefix_refl}
use Rattle.elem_core.specs.declared.item.Item.{Item}
use Rattle.elem_core.specs.declared.count.TheConstants.{MOST_COUNT}
use Rattle.port_core.specs.View.{View}
use Rattle.port_core.specs.Asking.{PullsStand}
use Rattle.port_core.specs.declared.act.Act.{Act}
use Rattle.port_core.specs.declared.act.Act.TheVariants.{Cancel}
use Rattle.stage_core.specs.Handing.{PutsOff, cancel_first}
use Rattle.stage_core.specs.Handling.{Pulls, StaysPassive}
use Rattle.fused_net.specs.Net.{Net, Able, view_of, took, gave, acted_all, with_node}
use Rattle.fused_net.specs.Laws.{MovesGrow, Minds, Settled, Busy, AllAsked, NetGoesOn}
use Rattle.fused_net.specs.Costs.{Uses, all_asks}
use Rattle.fused_net.specs.Poking.{AtNode}
use Rattle.fused_net.specs.Outside.{StandsStill, Untouched}
use Rattle.fused_net.proofs.Reading.{same_or_not, some_same, get_there, get_within, get_set_same, get_set_other}
use Rattle.fused_net.proofs.Ongoing.{nodes-acts}
use Rattle.fused_net.proofs.Acting.{busy_any, next_able}
use Rattle.fused_net.proofs.Asking.{moves_node, swap_asked}
use Rattle.fused_net.proofs.Moments.{node_moments}
use Rattle.fused_net.proofs.Going.{Responds, response_goes, response_settled, response_uses}
use Rattle.fused_net.proofs.Responding.{node_is}
use Rattle.fused_net.proofs.Poking.{gone_acts}
use Rattle.fused_net.proofs.Still.{HeardBy, still_acts, heard_acts}

cancel_stands : (b : Bool) → PullsStand (cancel_first b)
cancel_stands true = tt
cancel_stands false = tt

cancel_asks : (b : Bool) → Pulls (cancel_first b) → ⊥
cancel_asks true p = p
cancel_asks false p = p

module _ {N : Type 0} (port_state : N → View → Type 0) (law : N → N → View → List (List Item) → List (List Item) → Type 0) (asking : N → View → Type 0) (moves : N → List ℕ) (gone : N → List Item) (passive : N → Bool) where
  kept_passive : (p : Bool) → StaysPassive p p []
  kept_passive true = (refl, refl)
  kept_passive false = refl

  -- one that had put nothing off
  puts_nothing : (x : N) → PutsOff port_state law asking moves gone passive x [] x
  puts_nothing x = record {
    allowed = λ first v took gave h l. tt;
    port_state_holds = λ first v took gave h l. h;
    law_holds = λ first v took gave h l. l;
    asks = λ first v u took gave h l a. a;
    grows = prefix_refl (moves x);
    gone_is = refl;
    passive_is = kept_passive (passive x);
    still = λ p. refl;
  }

  puts_by : (x y : N) (b : Bool) → ((y ≡ x) × (b ≡ false)) ⊎ PutsOff port_state law asking moves gone passive x (cancel_first b) y → PutsOff port_state law asking moves gone passive x (cancel_first b) y
  puts_by x y b (inr p) = p
  puts_by x y true (inl e) = absurd (let t : true ≡ false = e.1 in cc)
  puts_by x y false (inl e) = subst (λ (z : N). PutsOff port_state law asking moves gone passive x [] z) (sym e.0) (puts_nothing x)

  -- the node that did, with what it has to do then
  put_minds : (x y first : N) (acts : List Act) (v : View) (t g : List (List Item)) → PutsOff port_state law asking moves gone passive x acts y → Minds port_state law x first v t g [] → Minds port_state law y first v t g acts
  put_minds x y first acts v t g p m = record {
    allowed = p.allowed first v t g m.port_state_holds m.law_holds;
    port_state_holds = p.port_state_holds first v t g m.port_state_holds m.law_holds;
    law_holds = p.law_holds first v t g m.port_state_holds m.law_holds;
  }

  put_busy : (net : Net N) (n : ℕ) (x y : N) (b : Bool) → Settled port_state law asking moves net → n < length net.nodes → slice_get net.nodes n ≡ Some x → PutsOff port_state law asking moves gone passive x (cancel_first b) y → Busy port_state law (with_node net n y) n (cancel_first b)
  put_busy net n x y b s h at p = record {
    wired = rw length-set s.wired;
    each_first = rw length-set s.each_first;
    sound = s.sound;
    marked = s.marked;
    within = rw length-set h;
    stands = cancel_stands b;
    here = λ z first zi fi.
        let same : y ≡ z = some_same y z (sym (get_set_same net.nodes n y h) ∙ zi) in
        subst (λ (a : N). Minds port_state law a first (view_of net n) (took net n) (gave net n) (cancel_first b)) same
        (put_minds x y first (cancel_first b) (view_of net n) (took net n) (gave net n) p (s.minded n h x first at fi));
    others = λ k l ne z first zi fi. s.minded k (rw length-set at l) z first (sym (get_set_other net.nodes n k y ne) ∙ zi) fi;
  }

  put_moved : (net : Net N) (n : ℕ) (x y : N) (acts : List Act) → n < length net.nodes → slice_get net.nodes n ≡ Some x → PutsOff port_state law asking moves gone passive x acts y → MovesGrow moves net (with_node net n y)
  put_moved net n x y acts h at p = moves_node moves net n y h (λ z zi. let same : x ≡ z = some_same x z (sym at ∙ zi) in rw same at p.grows)

  put_asked : (net : Net N) (n : ℕ) (x y : N) (acts : List Act) → Settled port_state law asking moves net → n < length net.nodes → slice_get net.nodes n ≡ Some x → PutsOff port_state law asking moves gone passive x acts y → AllAsked port_state law asking moves (with_node net n y)
  put_asked net n x y acts s h at p =
      let first = get_there net.firsts n (rw s.each_first h) in
      let m = s.minded n h x first.0 at first.1 in
      swap_asked port_state law asking moves net n x y h at (λ u a. p.asks first.0 (view_of net n) u (took net n) (gave net n) m.port_state_holds m.law_holds a) (put_moved net n x y acts h at p) s.asked

  put_responds : (net new : Net N) (n : ℕ) (x y : N) (b : Bool) → Settled port_state law asking moves net → n < length net.nodes → slice_get net.nodes n ≡ Some x → PutsOff port_state law asking moves gone passive x (cancel_first b) y → new ≡ acted_all (with_node net n y) n (cancel_first b) → Responds port_state law asking moves net new n
  put_responds net new n x y b s h at p is = record {
    node = y;
    acts = cancel_first b;
    busy = put_busy net n x y b s h at p;
    asks = λ a. absurd (cancel_asks b a);
    grows = λ z zi. let same : x ≡ z = some_same x z (sym at ∙ zi) in rw same at p.grows;
    is = is;
  }

  -- what it leaves
  pub record PutDone (net new : Net N) : Type 0 where
    pub laws : Settled port_state law asking moves new
    pub on : NetGoesOn net new
    pub uses : Uses net new 0
    pub gone_is : map gone new.nodes ≡ map gone net.nodes
    pub still : StandsStill passive net new
    pub untouched : Untouched passive None net new

  -- a passive node has put nothing off, and one that is not is none of those of which is told
  put_untouched : (net new : Net N) (n : ℕ) (x y : N) (b : Bool) → n < length net.nodes → slice_get net.nodes n ≡ Some x → PutsOff port_state law asking moves gone passive x (cancel_first b) y → new ≡ acted_all (with_node net n y) n (cancel_first b) → HeardBy passive n net new → Untouched passive None net new
  put_untouched net new n x y b h at p is heard = record {
    outs = λ u e q. heard.outs u q;
    ins = λ u e q. heard.ins u q;
    nodes = λ u k e q only. elim (same_or_not k n) [
      | inl here ↦
          let same : y ≡ x = p.still (q x (ap (slice_get net.nodes) here ∙ at)) in
          ap (λ (a : Net N). slice_get a.nodes k) is
          ∙ ap (λ (l : List N). slice_get l k) (nodes-acts (cancel_first b) (with_node net n y) n)
          ∙ ap (slice_get (with_node net n y).nodes) here
          ∙ get_set_same net.nodes n y h
          ∙ ap (λ (z : N). Some z) same
          ∙ sym at
          ∙ ap (slice_get net.nodes) (sym here)
      | inr there ↦ heard.nodes k there
    ];
  }

  put_done : (net v new : Net N) (n : ℕ) (x y : N) (b : Bool) → v ≡ net → n < length net.nodes → x ≡ get_or v.nodes n x → Settled port_state law asking moves net → PutsOff port_state law asking moves gone passive x (cancel_first b) y → new ≡ acted_all (with_node v n y) n (cancel_first b) → PutDone net new
  unfolding put_responds
  put_done net v new n x y b e h is s p on =
      let at = node_is net v n x e h is in
      let to : new ≡ acted_all (with_node net n y) n (cancel_first b) = on ∙ ap (λ (a : Net N). acted_all (with_node a n y) n (cancel_first b)) e in
      let r = put_responds net new n x y b s h at p to in
      let any = busy_any port_state law (with_node net n y) n (cancel_first b) (put_busy net n x y b s h at p) in
      let read : x ≡ get_or net.nodes n x = is ∙ ap (λ (a : Net N). get_or a.nodes n x) e in
      let heard = heard_acts passive net net new n x y (cancel_first b) refl h read any p.passive_is to in
      record {
        laws = response_settled port_state law asking moves net new n r (put_asked net n x y (cancel_first b) s h at p) (node_moments port_state law asking moves net n y (put_moved net n x y (cancel_first b) h at p) s.moments);
        on = response_goes port_state law asking moves net new n r;
        uses = response_uses port_state law asking moves net new n r;
        gone_is = gone_acts gone net net new n x y (cancel_first b) refl h read p.gone_is to;
        still = still_acts passive net net new n x y (cancel_first b) refl h read any p.passive_is to;
        untouched = put_untouched net new n x y b h at p to heard;
      }

  -- what the code leaves once it called the node
  pub settled_by : (net v new : Net N) (n : ℕ) (x y : N) (b : Bool) → v ≡ net → n < length net.nodes → x ≡ get_or v.nodes n x → Settled port_state law asking moves net → ((y ≡ x) × (b ≡ false)) ⊎ PutsOff port_state law asking moves gone passive x (cancel_first b) y → new ≡ acted_all (with_node v n y) n (cancel_first b) → PutDone net new
  settled_by net v new n x y b e h is s p on = put_done net v new n x y b e h is s (puts_by x y b p) on

  -- it can cancel
  pub settled_able : (net v : Net N) (n : ℕ) (x y : N) (b : Bool) → v ≡ net → n < length net.nodes → x ≡ get_or v.nodes n x → Settled port_state law asking moves net → all_asks net ≤ MOST_COUNT → ((y ≡ x) × (b ≡ false)) ⊎ PutsOff port_state law asking moves gone passive x (cancel_first b) y → b ≡ true → Able (with_node v n y) n (Cancel 0)
  settled_able net v n x y b e h is s few p failed =
      let at = node_is net v n x e h is in
      let busy : Busy port_state law (with_node net n y) n (Cancel 0 ∷ []) = subst (λ (c : Bool). Busy port_state law (with_node net n y) n (cancel_first c)) failed (put_busy net n x y b s h at (puts_by x y b p)) in
      rw e (next_able port_state law (with_node net n y) n (Cancel 0) (Cancel 0 ∷ []) [] refl busy few)

-- the node that did is there, and the others are as they were
pub settled_here : {N : Type 0} (late : N → ℕ) (net v new : Net N) (n : ℕ) (y : N) (b : Bool) → v ≡ net → n < length net.nodes → late y ≡ 0 → new ≡ acted_all (with_node v n y) n (cancel_first b) → AtNode new n (λ z. late z ≡ 0)
settled_here late net v new n y b e h none on z zi =
    let within : n < length v.nodes = rw e h in
    let nodes : new.nodes ≡ (with_node v n y).nodes = ap (λ (a : Net _). a.nodes) on ∙ nodes-acts (cancel_first b) (with_node v n y) n in
    let same : y ≡ z = some_same y z (sym (get_set_same v.nodes n y within) ∙ ap (λ (l : List _). slice_get l n) (sym nodes) ∙ zi) in
    ap late (sym same) ∙ none

pub settled_others : {N : Type 0} (net v new : Net N) (n : ℕ) (y : N) (b : Bool) → v ≡ net → new ≡ acted_all (with_node v n y) n (cancel_first b) → (k : ℕ) → k ≢ n → slice_get new.nodes k ≡ slice_get net.nodes k
settled_others net v new n y b e on k other =
    let nodes : new.nodes ≡ (with_node v n y).nodes = ap (λ (a : Net _). a.nodes) on ∙ nodes-acts (cancel_first b) (with_node v n y) n in
    ap (λ (l : List _). slice_get l k) nodes ∙ get_set_other v.nodes n k y other ∙ ap (λ (a : Net _). slice_get a.nodes k) e

-- ---- one node after the other

pub few_put : {N : Type 0} (net new : Net N) → Uses net new 0 → all_asks net ≤ MOST_COUNT → all_asks new ≤ MOST_COUNT
few_put net new u few = omega (arith, u.most, few)

pub done_next : {N : Type 0} (late : N → ℕ) (net new : Net N) (n : ℕ) → ((k : ℕ) → k < n → AtNode net k (λ x. late x ≡ 0)) → AtNode new n (λ x. late x ≡ 0) → ((k : ℕ) → k ≢ n → slice_get new.nodes k ≡ slice_get net.nodes k)
    → (k : ℕ) → k < n + 1 → AtNode new k (λ x. late x ≡ 0)
done_next late net new n below here others k less z zi = elim (same_or_not k n) [
  | inl e ↦ here z (ap (slice_get new.nodes) (sym e) ∙ zi)
  | inr ne ↦ below k (omega (arith, less, ne)) z (sym (others k ne) ∙ zi)
]

pub done_all : {N : Type 0} (late : N → ℕ) (net : Net N) (n : ℕ) → length net.nodes ≤ n → ((k : ℕ) → k < n → AtNode net k (λ x. late x ≡ 0)) → (k : ℕ) → AtNode net k (λ x. late x ≡ 0)
done_all late net n most below k z zi = let h = get_within net.nodes k z zi in below k (omega (arith, h, most)) z zi
