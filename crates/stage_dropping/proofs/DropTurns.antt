-- A turn of a buffer that drops keeps its law, also where it follows moves; and the law says what it may have given.
use Rattle.std.proofs.Common.{◌≡◌, ℕ, zero, suc, ◌+◌, true, IsTrue, List, [], ◌∷◌, ◌++◌, length, refl, sym, ap, ◌∙◌, subst, append-nil, append_assoc, arith, inl, inr}
use Rattle.std.proofs.lemmas.List.{length-append}
use Rattle.elem_core.specs.Tree.{Tree}
use Rattle.elem_core.specs.declared.item.Item.{Item}
use Rattle.elem_core.specs.declared.why.Cause.{Cause}
use Rattle.stream_model.specs.Outlook.{Outlook, End, unended, ended, failed, Agrees}
use Rattle.stream_model.specs.FanIn.{Inflow, AllAgree}
use Rattle.stream_model.specs.declared.kind.Policy.{Policy}
use Rattle.stream_model.specs.Picks.{Buffered, buffered, after_coming, empty_buffer, nothing_held, BufferStands}
use Rattle.stream_model.proofs.PickTraces.{agrees_prefix, buffered_same}
use Rattle.port_core.specs.declared.act.Act.{Act}
use Rattle.port_core.specs.View.{View, out_at, ActsAllowed, acted_all}
use Rattle.port_core.specs.Call.{Call, starts, pulls, arrives, cancels, AllIdle, CallAllowed, seen, brought_to, given_on}
use Rattle.stage_core.specs.Law.{GaveAs}
use Rattle.stage_core.specs.Inflows.{PortsLaw, nothing_came, joined, joined_at, joined_all, coming}
use Rattle.stage_core.proofs.Inflows.{Stepped, ports_law, new_ports, joined_all-nothing_came}
use Rattle.port_core.specs.declared.pick_log.Next.{Next}
use Rattle.port_core.specs.declared.pick_log.Next.TheVariants.{Free, Move, UsedUp}
use Rattle.stage_dropping.specs.Drops.{DropHeld, holds, shut, buffer_at, overflow_at, overflow_of, BufferStep, completes, fails, overflows, Goes, DropStep, DropRefused, DropTurnAt, DropGiven, DropKeeps, LostAt, Obligation, serves, stopped, OwesAt, Keeps, DropLaw, drop_moves, DropStandsOf, DropRest, RestGiven, DropMisfits}
use Rattle.stage_dropping.proofs.DropSplits.{split}

-- what comes goes behind what waits
behind_taken : (l : List Tree) (e : End) (ws : List Tree) (r : Inflow) → joined_at e (l ++ ws) r ≡ record { list = l ++ (joined_at e ws r).list; end = (joined_at e ws r).end }
behind_taken l unended ws r = ap (λ (x : List Tree). record { list = x; end = r.end }) (append_assoc l ws r.list)
behind_taken l ended ws r = refl
behind_taken l (failed c) ws r = refl

joined_behind : (l : List Tree) (w r f : Inflow) → f ≡ record { list = l ++ w.list; end = w.end } → joined f r ≡ record { list = l ++ (joined w r).list; end = (joined w r).end }
joined_behind l w r f is = ap (λ (x : Inflow). joined x r) is ∙ behind_taken l w.end w.list r

failed_is : {x y : Cause} → failed x ≡ failed y → x ≡ y
failed_is {x} {y} h = cc

module _ (node : ℕ) (p : Policy) (n : ℕ) where
  module _ (came : ℕ) (moves : List ℕ) (held l g : List Tree) (many : came ≡ length l) (was : buffered p n moves l empty_buffer ≡ buffer_at g held came) where
    -- the moves so far, and further ones over what is taken in behind
    joins : (more : List ℕ) (k : List Tree) → buffered p n (moves ++ more) (l ++ k) empty_buffer ≡ buffered p n more k (buffer_at g held came)
    joins more k = split p n moves more l k empty_buffer (buffer_at g held came) was refl (omega (arith, many))

    -- a step over what waits
    module _ (w : Inflow) (given : List Tree) (later : ℕ) (now : List ℕ) (items : List Tree) (us : Inflow) (s : BufferStep p n came moves held w given later now items us) where
      goes : buffered p n now (l ++ s.taken) empty_buffer ≡ buffer_at (g ++ given) items later
      goes = ap (λ (m : List ℕ). buffered p n m (l ++ s.taken) empty_buffer) s.now_is ∙ joins s.more s.taken ∙ s.moved g

      counted : later ≡ length (l ++ s.taken)
      counted = let a = length-append l s.taken in let b = s.then_is in omega (arith, a, b, many)

      whole : l ++ w.list ≡ (l ++ s.taken) ++ us.list
      whole = ap (λ (x : List Tree). l ++ x) s.parts ∙ sym (append_assoc l s.taken us.list)

      all_taken : us.list ≡ [] → l ++ w.list ≡ l ++ s.taken
      all_taken none = whole ∙ ap (λ (x : List Tree). (l ++ s.taken) ++ x) none ∙ append-nil (l ++ s.taken)

      over_all : us.list ≡ [] → buffered p n now (l ++ w.list) empty_buffer ≡ buffer_at (g ++ given) items later
      over_all none = ap (λ (x : List Tree). buffered p n now x empty_buffer) (all_taken none) ∙ goes

      -- what it may have given, whatever waits
      over_any : buffered p n now (l ++ w.list) empty_buffer ≡ buffer_at (g ++ given) items later
      over_any =
          let ok : (buffered p n now (l ++ s.taken) empty_buffer).ok ≡ true = ap (λ (b : Buffered). b.ok) goes in
          ap (λ (x : List Tree). buffered p n now x empty_buffer) whole ∙ buffered_same p n now (l ++ s.taken) us.list empty_buffer ok ∙ goes

      keeps_on : DropKeeps node p n (holds later now items us) (record { list = l ++ w.list; end = w.end } ∷ []) (g ++ given) unended
      keeps_on = (
        refl,
        record {
          taken = l ++ s.taken;
          flow_is = ap (λ (x : List Tree). record { list = x; end = w.end }) whole ∙ ap (λ (e : End). record { list = (l ++ s.taken) ++ us.list; end = e }) (sym s.same);
          many = counted;
          buffer_is = goes;
        },
      )

    steps : (w : Inflow) (out : List Item) (new : DropHeld) → DropStep node p n came moves held w out new → Stepped (DropKeeps node p n new) (record { list = l ++ w.list; end = w.end } ∷ []) g out
    steps w out (holds later now items us) s = record { list = s.given; end = unended; out_is = s.out_is; keeps = keeps_on w s.given later now items us s.step }
    steps w out (shut now) (completes given later us s none over is) =
        let all = over_all w given later now [] us s none in
        let many_all : later ≡ length (l ++ w.list) = counted w given later now [] us s ∙ ap length (sym (all_taken w given later now [] us s none)) in
        record {
          list = given;
          end = ended;
          out_is = is;
          keeps = record {
            fits = ap (λ (x : Buffered). x.ok) all;
            gave = sym (ap (λ (x : Buffered). x.gave) all);
            ends = rw all (λ _. (over, many_all, refl, refl));
            fails = λ x h. cc;
          };
        }
    steps w out (shut now) (fails given later items us x s none over is) =
        let all = over_all w given later now items us s none in
        let many_all : later ≡ length (l ++ w.list) = counted w given later now items us s ∙ ap length (sym (all_taken w given later now items us s none)) in
        record {
          list = given;
          end = failed x;
          out_is = is;
          keeps = record {
            fits = ap (λ (b : Buffered). b.ok) all;
            gave = sym (ap (λ (b : Buffered). b.gave) all);
            ends = λ h. cc;
            fails = rw all (λ y h. inr (refl, over ∙ h, omega (arith, many_all)));
          };
        }
    steps w out (shut now) (overflows given later before items us t rest s one miss same is) =
        let at : buffered p n (before ++ 0 ∷ []) ((l ++ s.taken) ++ t ∷ rest) empty_buffer ≡ buffered p n (0 ∷ []) (t ∷ rest) (buffer_at (g ++ given) items later) =
        split p n before (0 ∷ []) (l ++ s.taken) (t ∷ rest) empty_buffer (buffer_at (g ++ given) items later) (goes w given later before items us s) refl (let m = counted w given later before items us s in omega (arith, m)) in
        let lost : buffered p n (0 ∷ []) (t ∷ rest) (buffer_at (g ++ given) items later) ≡ overflow_at (g ++ given) items (later + 1) = ap (after_coming (buffer_at (g ++ given) items later)) miss in
        let list : l ++ w.list ≡ (l ++ s.taken) ++ t ∷ rest = whole w given later before items us s ∙ ap (λ (x : List Tree). (l ++ s.taken) ++ x) one in
        let all : buffered p n now (l ++ w.list) empty_buffer ≡ overflow_at (g ++ given) items (later + 1) =
        ap (λ (m : List ℕ). buffered p n m (l ++ w.list) empty_buffer) same ∙ ap (λ (x : List Tree). buffered p n (before ++ 0 ∷ []) x empty_buffer) list ∙ at ∙ lost in
        record {
          list = given;
          end = failed (overflow_of node (later + 1));
          out_is = is;
          keeps = record {
            fits = ap (λ (b : Buffered). b.ok) all;
            gave = sym (ap (λ (b : Buffered). b.gave) all);
            ends = λ h. cc;
            fails = rw all (λ y h. inl (refl, failed_is (sym h)));
          };
        }

  -- one that is open may have given what it gave
  stood : (came : ℕ) (moves : List ℕ) (held : List Tree) (w f : Inflow) (g : List Tree) (x : End) → x ≡ unended → DropGiven p n came moves held w f g → BufferStands node p n moves f g x
  stood came moves held w f g x u k =
      let ok : (buffered p n moves k.taken empty_buffer).ok ≡ true = ap (λ (b : Buffered). b.ok) k.buffer_is in
      let all : buffered p n moves f.list empty_buffer ≡ buffer_at g held came =
      ap (λ (y : Inflow). buffered p n moves y.list empty_buffer) k.flow_is ∙ buffered_same p n moves k.taken w.list empty_buffer ok ∙ k.buffer_is in
      record {
        fits = ap (λ (b : Buffered). b.ok) all;
        gave = sym (ap (λ (b : Buffered). b.gave) all);
        ends = λ h. absurd (let y : ended ≡ unended = sym h ∙ u in cc);
        fails = λ c h. absurd (let y : failed c ≡ unended = sym h ∙ u in cc);
      }

  leaves_so : (came : ℕ) (moves : List ℕ) (held : List Tree) (w f : Inflow) (g : List Tree) (x : End) (out : List Item) (new : DropHeld) → DropKeeps node p n (holds came moves held w) (f ∷ []) g x → DropRefused moves out new → Stepped (DropKeeps node p n new) (f ∷ []) g out
  leaves_so came moves held w f g x out (holds a b c d) k r = absurd r
  leaves_so came moves held w f g x out (shut now) k r = record {
    list = [];
    end = unended;
    out_is = r.0;
    keeps = subst (λ (l : List Tree). BufferStands node p n now f l unended) (sym (append-nil g)) (subst (λ (m : List ℕ). BufferStands node p n m f g unended) (sym r.1) (stood came moves held w f g unended refl k.1));
  }

  by_step : (call : Call) (came : ℕ) (moves : List ℕ) (held : List Tree) (w : Inflow) (new : DropHeld) (f : Inflow) (g : List Tree) (x : End) (out : List Item) → DropKeeps node p n (holds came moves held w) (f ∷ []) g x
      → DropStep node p n came moves held (joined w (coming call 0)) out new → Stepped (DropKeeps node p n new) (joined f (coming call 0) ∷ []) g out
  by_step call came moves held w new f g x out k s =
      let q = k.1 in
      rw (joined_behind q.taken w (coming call 0) f q.flow_is) (steps came moves held q.taken g q.many q.buffer_is (joined w (coming call 0)) out new s)

  stepped : (call : Call) (came : ℕ) (moves : List ℕ) (held : List Tree) (w : Inflow) (new : DropHeld) (f : Inflow) (g : List Tree) (x : End) (out : List Item) → DropKeeps node p n (holds came moves held w) (f ∷ []) g x
      → DropTurnAt node p n call (holds came moves held w) out new → Stepped (DropKeeps node p n new) (joined_all 0 (f ∷ []) (coming call)) g out
  stepped starts came moves held w new f g x out k s = by_step starts came moves held w new f g x out k s
  stepped (pulls j) came moves held w new f g x out k s = by_step (pulls j) came moves held w new f g x out k s
  stepped (arrives i b) came moves held w new f g x out k s = by_step (arrives i b) came moves held w new f g x out k s
  stepped (cancels j) came moves held w new f g x out k s = subst (λ (fs : List Inflow). Stepped (DropKeeps node p n new) fs g out) (sym (joined_all-nothing_came 0 (f ∷ []))) (leaves_so came moves held w f g x out new k s)

  -- a call keeps the law
  pub drop_call : (call : Call) (old new : DropHeld) (v : View) (took : ℕ → List Item) (gave : List Item) (acts : List Act) → CallAllowed call v → ActsAllowed (seen call v) acts → DropTurnAt node p n call old (given_on 0 acts) new
      → PortsLaw (DropKeeps node p n old) v took gave → PortsLaw (DropKeeps node p n new) (acted_all (seen call v) acts) (λ i. took i ++ brought_to i call) (gave ++ given_on 0 acts)
  drop_call call (shut m) new v took gave acts may allowed turn law = absurd turn
  drop_call call (holds came moves held w) new v took gave acts may allowed turn law = by_ports law.ins refl law.keeps
    where
      by_ports : (ins : List Inflow) → law.ins ≡ ins → DropKeeps node p n (holds came moves held w) ins law.out_list law.out_end → PortsLaw (DropKeeps node p n new) (acted_all (seen call v) acts) (λ i. took i ++ brought_to i call) (gave ++ given_on 0 acts)
      by_ports [] is k = absurd k
      by_ports (f ∷ h ∷ fs) is k = absurd k
      by_ports (f ∷ []) is k =
          ports_law (DropKeeps node p n (holds came moves held w)) (DropKeeps node p n new) call v took gave acts may allowed law k.0
          (subst (λ (fs : List Inflow). Stepped (DropKeeps node p n new) (joined_all 0 fs (coming call)) law.out_list (given_on 0 acts)) (sym is) (stepped call came moves held w new f law.out_list law.out_end (given_on 0 acts) k turn))

  -- before anything came
  pub drop_new : (v : View) → length v.ins ≡ 1 → AllIdle v.ins → GaveAs (out_at v 0) unended → PortsLaw (DropKeeps node p n (holds 0 [] [] nothing_came)) v (λ _. []) []
  drop_new v one idle open_out = new_ports (DropKeeps node p n (holds 0 [] [] nothing_came)) v idle open_out (rw one (refl, record { taken = []; flow_is = refl; many = refl; buffer_is = refl }))

  -- ---- one that stops, and one that has stopped

  kept_as : (K L : List Inflow → List Tree → End → Type 0) (v : View) (took : ℕ → List Item) (gave : List Item) (law : PortsLaw K v took gave) → L law.ins law.out_list law.out_end → PortsLaw L v took gave
  kept_as K L v took gave law k = record { ins = law.ins; out_list = law.out_list; out_end = law.out_end; ports = law.ports; took_is = law.took_is; took_as = law.took_as; gave_is = law.gave_is; gave_as = law.gave_as; keeps = k }

  -- nothing is done with what waits
  none_done : (came : ℕ) (moves : List ℕ) (held : List Tree) (w : Inflow) → Goes p n came moves held w [] came moves held w
  none_done came moves held w = record {
    given = [];
    step = record { more = []; taken = []; parts = refl; same = refl; now_is = sym (append-nil moves); then_is = omega arith; moved = λ g. ap (λ (l : List Tree). buffer_at l held came) (sym (append-nil g)) };
    out_is = refl;
  }

  still_lost : (next : Next) (held : List Tree) (w r : Inflow) → LostAt next held w → LostAt next held (joined w r)
  still_lost Free held w r h = h
  still_lost UsedUp held w r h = h
  still_lost (Move zero) held w r h = subst (λ (x : Inflow). (x.list ≡ []) × (x.end ≡ ended)) (ap (λ (e : End). joined_at e w.list r) (sym h.1)) (h.0, refl)
  still_lost (Move (suc k)) held w r h = h

  module _ (next : Next) (moves : List ℕ) (v : View) (took : ℕ → List Item) (gave : List Item) where
    waits_on : (call : Call) → CallAllowed call v → (law : PortsLaw (Keeps node p n (stopped next moves)) v took gave)
        → DropTurnAt node p n call (holds law.keeps.came moves law.keeps.items law.keeps.left) [] (holds law.keeps.came moves law.keeps.items (joined law.keeps.left (coming call 0)))
        → PortsLaw (Keeps node p n (stopped next moves)) (seen call v) (λ i. took i ++ brought_to i call) (gave ++ [])
    waits_on call may law turn =
        let s = law.keeps in
        let w : PortsLaw (DropKeeps node p n (holds s.came moves s.items s.left)) v took gave = kept_as (Keeps node p n (stopped next moves)) (DropKeeps node p n (holds s.came moves s.items s.left)) v took gave law s.keeps in
        let k = drop_call call (holds s.came moves s.items s.left) (holds s.came moves s.items (joined s.left (coming call 0))) v took gave [] may tt turn w in
        kept_as (DropKeeps node p n (holds s.came moves s.items (joined s.left (coming call 0)))) (Keeps node p n (stopped next moves)) (seen call v) (λ i. took i ++ brought_to i call) (gave ++ []) k
        (record { came = s.came; items = s.items; left = joined s.left (coming call 0); keeps = k.keeps; lost = still_lost next s.items s.left (coming call 0) s.lost })

    unended_of : (law : PortsLaw (Keeps node p n (stopped next moves)) v took gave) → law.out_end ≡ unended
    unended_of law = by_ins law.ins law.keeps.keeps
      where
        by_ins : (ins : List Inflow) → DropKeeps node p n (holds law.keeps.came moves law.keeps.items law.keeps.left) ins law.out_list law.out_end → law.out_end ≡ unended
        by_ins [] k = absurd k
        by_ins (f ∷ []) k = k.0
        by_ins (f ∷ h ∷ fs) k = absurd k

    pub still_stopped : (call : Call) → CallAllowed call v → PortsLaw (Keeps node p n (stopped next moves)) v took gave → PortsLaw (Keeps node p n (stopped next moves)) (seen call v) (λ i. took i ++ brought_to i call) (gave ++ [])
    still_stopped starts may law = waits_on starts may law (none_done law.keeps.came moves law.keeps.items (joined law.keeps.left (coming starts 0)))
    still_stopped (pulls j) may law = waits_on (pulls j) may law (none_done law.keeps.came moves law.keeps.items (joined law.keeps.left (coming (pulls j) 0)))
    still_stopped (arrives i b) may law = waits_on (arrives i b) may law (none_done law.keeps.came moves law.keeps.items (joined law.keeps.left (coming (arrives i b) 0)))
    still_stopped (cancels j) may law =
        let s = law.keeps in
        ports_law (Keeps node p n (stopped next moves)) (Keeps node p n (stopped next moves)) (cancels j) v took gave [] may tt law (unended_of law) (record {
          list = [];
          end = unended;
          out_is = refl;
          keeps = rw (joined_all-nothing_came 0 law.ins, append-nil) (record { came = s.came; items = s.items; left = s.left; keeps = subst (λ (e : End). DropKeeps node p n (holds s.came moves s.items s.left) law.ins law.out_list e) (unended_of law) s.keeps; lost = s.lost });
        })

  -- a call, by what a handler owes
  pub any_call : (c : Call) (old new : Obligation) (v : View) (took : ℕ → List Item) (given : List Item) (acts : List Act) → CallAllowed c v → ActsAllowed (seen c v) acts → OwesAt node p n c old (given_on 0 acts) new → ((next : Next) (moves : List ℕ) → old ≡ stopped next moves → acts ≡ [])
      → PortsLaw (Keeps node p n old) v took given → PortsLaw (Keeps node p n new) (acted_all (seen c v) acts) (λ i. took i ++ brought_to i c) (given ++ given_on 0 acts)
  any_call c (serves h) (serves k) v took given acts may allowed turn none law = drop_call c h k v took given acts may allowed turn law
  any_call c (serves h) (stopped next now) v took given acts may allowed turn none law =
      let k = drop_call c h (holds turn.then now turn.items turn.left) v took given acts may allowed turn.turn law in
      kept_as (DropKeeps node p n (holds turn.then now turn.items turn.left)) (Keeps node p n (stopped next now)) (acted_all (seen c v) acts) (λ i. took i ++ brought_to i c) (given ++ given_on 0 acts) k
      (record { came = turn.then; items = turn.items; left = turn.left; keeps = k.keeps; lost = turn.lost })
  any_call c (stopped next moves) (serves k) v took given acts may allowed turn none law = absurd turn
  any_call c (stopped next moves) (stopped m now) v took given acts may allowed turn none law =
      let e : acts ≡ [] = none next moves refl in
      rw (turn.1.0, turn.1.1, e) (still_stopped next moves v took given c may law)

  -- ---- what it may have given

  stands_in : (x : DropHeld) (ins : List Inflow) (g : List Tree) (e : End) → DropKeeps node p n x ins g e → DropStandsOf node p n (drop_moves (serves x)) ins g e
  stands_in (shut m) [] g e k = k
  stands_in (shut m) (f ∷ []) g e k = k
  stands_in (shut m) (f ∷ h ∷ fs) g e k = k
  stands_in (holds came moves held w) [] g e k = k
  stands_in (holds came moves held w) (f ∷ h ∷ fs) g e k = k
  stands_in (holds came moves held w) (f ∷ []) g e k = stood came moves held w f g e k.0 k.1

  pub drop_stands : (x : Obligation) (v : View) (took : ℕ → List Item) (gave : List Item) → (law : PortsLaw (Keeps node p n x) v took gave) → DropStandsOf node p n (drop_moves x) law.ins law.out_list law.out_end
  drop_stands (serves x) v took gave law = stands_in x law.ins law.out_list law.out_end law.keeps
  drop_stands (stopped next moves) v took gave law = stands_in (holds law.keeps.came moves law.keeps.items law.keeps.left) law.ins law.out_list law.out_end law.keeps.keeps

  -- ---- the cause of a misfit

  cause_in : (next : Next) (moves : List ℕ) (came : ℕ) (held : List Tree) (w f : Inflow) (o : Outlook) (g : List Tree) → LostAt next held w → DropGiven p n came moves held w f g → Agrees o f.list f.end → DropMisfits p n next moves o
  cause_in Free moves came held w f o g lost k a = lost
  cause_in UsedUp moves came held w f o g lost k a = lost
  cause_in (Move zero) moves came held w f o g lost k a =
      let ends : f.end ≡ ended = ap (λ (x : Inflow). x.end) k.flow_is ∙ lost.1 in
      let all : Agrees o f.list ended = subst (λ (e : End). Agrees o f.list e) ends a in
      let list : f.list ≡ k.taken = ap (λ (x : Inflow). x.list) k.flow_is ∙ ap (λ (x : List Tree). k.taken ++ x) lost.0 ∙ append-nil k.taken in
      let same : o.list ≡ k.taken = sym all.1 ∙ list in
      (ends_true all.0, ap (λ (x : List Tree). (buffered p n moves x empty_buffer).came) same ∙ ap (λ (b : Buffered). b.came) k.buffer_is ∙ k.many ∙ ap length (sym same))
    where
      ends_true : IsTrue o.ends → o.ends ≡ true
      ends_true h = h
  cause_in (Move (suc j)) moves came held w f o g lost k a =
      let q = agrees_prefix o f.list f.end a in
      let ok : (buffered p n moves k.taken empty_buffer).ok ≡ true = ap (λ (b : Buffered). b.ok) k.buffer_is in
      let list : o.list ≡ k.taken ++ (w.list ++ q.rest) = q.is ∙ ap (λ (x : Inflow). x.list ++ q.rest) k.flow_is ∙ append_assoc k.taken w.list q.rest in
      let all : buffered p n moves o.list empty_buffer ≡ buffer_at g held came = ap (λ (x : List Tree). buffered p n moves x empty_buffer) list ∙ buffered_same p n moves k.taken (w.list ++ q.rest) empty_buffer ok ∙ k.buffer_is in
      ap (λ (b : Buffered). nothing_held b.held) all ∙ ap nothing_held lost

  pub has_cause : (next : Next) (moves : List ℕ) (is : List Outlook) (v : View) (took : ℕ → List Item) (gave : List Item) → (law : PortsLaw (Keeps node p n (stopped next moves)) v took gave) → AllAgree is law.ins → (o : Outlook) × ((is ≡ o ∷ []) × DropMisfits p n next moves o)
  has_cause next moves is v took gave law a = by_ports is law.ins law.keeps.keeps a
    where
      by_ports : (is : List Outlook) (ins : List Inflow) → DropKeeps node p n (holds law.keeps.came moves law.keeps.items law.keeps.left) ins law.out_list law.out_end → AllAgree is ins → (o : Outlook) × ((is ≡ o ∷ []) × DropMisfits p n next moves o)
      by_ports is [] k a = absurd k
      by_ports is (f ∷ h ∷ fs) k a = absurd k
      by_ports [] (f ∷ []) k a = absurd a
      by_ports (o ∷ q ∷ os) (f ∷ []) k a = absurd a.1
      by_ports (o ∷ []) (f ∷ []) k a = (o, (refl, cause_in next moves law.keeps.came law.keeps.items law.keeps.left f o law.out_list law.keeps.lost k.1 a.0))

  -- ---- for every rest

  rest_in : (x : DropHeld) (ins : List Inflow) (g : List Tree) (e : End) → DropKeeps node p n x ins g e → DropRest p n x ins g
  rest_in (shut m) ins g e k = tt
  rest_in (holds came moves held w) [] g e k = k
  rest_in (holds came moves held w) (f ∷ h ∷ fs) g e k = k
  rest_in (holds came moves held w) (f ∷ []) g e k = λ further r.
      let q = k.1 in
      ap (λ (i : Inflow). buffered p n (moves ++ further) i.list empty_buffer) (joined_behind q.taken w r f q.flow_is) ∙ joins came moves held q.taken g q.many q.buffer_is further (joined w r).list

  pub rest_given : (x : Obligation) (v : View) (took : ℕ → List Item) (gave : List Item) → (law : DropLaw node p n x v took gave) → RestGiven p n x law.ins law.out_list
  rest_given (serves x) v took gave law = rest_in x law.ins law.out_list law.out_end law.keeps
  rest_given (stopped next moves) v took gave law = tt
