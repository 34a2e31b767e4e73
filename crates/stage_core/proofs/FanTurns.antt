-- A turn of a stage with several inputs keeps its law, and the law says what the stage may have given.
use Rattle.std.specs.Prelude.{◌==◌, if◌then◌else◌, slice_get, ◌&&◌}
use Rattle.std.specs.Option.{option_map}
use Rattle.std.proofs.Common.{◌≡◌, ℕ, zero, suc, ◌+◌, ◌-◌, ◌≤◌, Bool, true, false, List, [], ◌∷◌, ◌++◌, length, map, refl, sym, ap, ◌∙◌, arith, append_assoc, append-nil, length-append, Option, Some}
use Rattle.std.proofs.lemmas.List.{length-map, map-append}
use Rattle.elem_core.specs.Prefix.{IsPrefix}
use Rattle.elem_core.specs.Tree.{Tree}
use Rattle.elem_core.specs.declared.item.Item.{Item}
use Rattle.elem_core.specs.declared.why.Cause.{Cause}
use Rattle.stream_model.specs.Outlook.{End, unended, ended, failed}
use Rattle.stream_model.specs.Machine.{is_ended}
use Rattle.stream_model.specs.FanIn.{Tagged, Inflow, flow, all_end, reach, FanStands, FailsFrom}
use Rattle.stream_model.proofs.FanTraces.{reach-append}
use Rattle.port_core.specs.declared.act.Act.{Act}
use Rattle.stage_core.specs.Law.{GaveAs}
use Rattle.port_core.specs.View.{View, out_at, ActsAllowed, acted_all}
use Rattle.port_core.specs.Call.{Call, starts, pulls, arrives, cancels, AllIdle, CallAllowed, seen, brought_to, given_on}
use Rattle.stage_core.specs.Inflows.{nothing_came, joined_at, joined, joined_all, coming, untouched}
use Rattle.stage_core.specs.Fans.{Fan, FanHeld, waits, shut, untagged, used, UsesInputs, AllFew, fan_gives, FanTurn, FanClose, completes, fails, FanTurnAt, FanKept, FanKeeps, FanLaw}
use Rattle.stage_core.proofs.Inflows.{joined_all-assoc, joined_all-nothing_came, Stepped, ports_law, new_ports}

-- ---- how many elements of an input are used

used_if : (t : Bool) (a b c : ℕ) → (if t then suc (a + c) else (b + c)) ≡ (if t then suc a else b) + c
used_if true a b c = omega arith
used_if false a b c = refl

pub used-append : (n : ℕ) (l r : List Tagged) → used n (l ++ r) ≡ used n l + used n r
used-append n [] r = omega arith
used-append n (x ∷ l) r =
    let ih : used n (l ++ r) ≡ used n l + used n r = used-append n l r in
    rw ih (used_if (x.port == n) (used n l) (used n l) (used n r))

-- some number, at most k
record Within (o : Option ℕ) (k : ℕ) : Type 0 where
  value : ℕ
  is : o ≡ Some value
  less : value ≤ k

one_further : (o : Option ℕ) (k : ℕ) → Within o k → Within (option_map (λ k. k + 1) o) (suc k)
one_further o k w = record { value = w.value + 1; is = ap (λ o. option_map (λ k. k + 1) o) w.is; less = let l = w.less in omega arith }

within_if : (t : Bool) (n u : ℕ) (a b : Option ℕ) (k : ℕ) → suc n ≤ (if t then suc u else u) → (n ≤ u → Within a k) → (suc n ≤ u → Within b k) → Within (if t then a else b) k
within_if true n u a b k h f g = let l : n ≤ u = omega (arith, h) in f l
within_if false n u a b k h f g = g h

-- a list that uses so many elements of an input reaches them
reach_within : (i n : ℕ) (l : List Tagged) → n ≤ used i l → Within (reach i n l) (length l)
reach_within i zero [] h = record { value = 0; is = refl; less = omega arith }
reach_within i zero (x ∷ l) h = record { value = 0; is = refl; less = omega arith }
reach_within i (suc n) [] h = absurd (omega (arith, h))
reach_within i (suc n) (x ∷ l) h =
    one_further (if x.port == i then reach i n l else reach i (suc n) l) (length l)
    (within_if (x.port == i) n (used i l) (reach i n l) (reach i (suc n) l) (length l) h (λ k. reach_within i n l k) (λ k. reach_within i (suc n) l k))

-- ---- what is used and what waits

joined_ends : (e : End) (l k : List Tree) (r : Inflow) → (joined_at e l r).end ≡ (joined_at e k r).end
joined_ends unended l k r = refl
joined_ends ended l k r = refl
joined_ends (failed c) l k r = refl

joined_uses : (e : End) (n : ℕ) (l k : List Tree) (r : Inflow) → n + length l ≡ length k → n + length (joined_at e l r).list ≡ length (joined_at e k r).list
joined_uses unended n l k r h = omega (arith, h, length-append l r.list, length-append k r.list)
joined_uses ended n l k r h = h
joined_uses (failed c) n l k r h = h

uses_more : (n : ℕ) (l : List Tagged) (ws fs : List Inflow) (more : ℕ → Inflow) → UsesInputs n l ws fs → UsesInputs n l (joined_all n ws more) (joined_all n fs more)
uses_more n l [] [] more u = tt
uses_more n l [] (f ∷ fs) more u = absurd u
uses_more n l (w ∷ ws) [] more u = absurd u
uses_more n l (w ∷ ws) (f ∷ fs) more u = (
  (rw (← u.0.1) (joined_uses w.end (used n l) w.list f.list (more n) u.0.0), rw (← u.0.1) (joined_ends w.end w.list f.list (more n))),
  uses_more (n + 1) l ws fs more u.1,
)

uses_then : (n : ℕ) (l k : List Tagged) (us ws fs : List Inflow) → UsesInputs n l ws fs → UsesInputs n k us ws → UsesInputs n (l ++ k) us fs
uses_then n l k [] [] [] u v = tt
uses_then n l k [] [] (f ∷ fs) u v = absurd u
uses_then n l k [] (w ∷ ws) fs u v = absurd v
uses_then n l k (x ∷ us) [] fs u v = absurd v
uses_then n l k (x ∷ us) (w ∷ ws) [] u v = absurd u
uses_then n l k (x ∷ us) (w ∷ ws) (f ∷ fs) u v = (
  (omega (arith, used-append n l k, u.0.0, v.0.0), v.0.1 ∙ u.0.1),
  uses_then (n + 1) l k us ws fs u.1 v.1,
)

-- an input at which something waits
record There (l : List Tagged) (n i : ℕ) (w : Inflow) (fs : List Inflow) : Type 0 where
  inflow : Inflow
  at : slice_get fs i ≡ Some inflow
  count : used (n + i) l + length w.list ≡ length inflow.list
  ends : w.end ≡ inflow.end

there : (l : List Tagged) (n i : ℕ) (w : Inflow) (ws fs : List Inflow) → UsesInputs n l ws fs → slice_get ws i ≡ Some w → There l n i w fs
there l n i w [] fs u h = cc
there l n i w (x ∷ ws) [] u h = absurd u
there l n zero w (x ∷ ws) (f ∷ fs) u h =
    let e : n + 0 ≡ n = omega arith in
    let same : x ≡ w = cc in
    record { inflow = f; at = refl; count = rw (e, ← same) u.0.0; ends = rw (← same) u.0.1 }
there l n (suc i) w (x ∷ ws) (f ∷ fs) u h =
    let r = there l (n + 1) i w ws fs u.1 h in
    let e : n + suc i ≡ n + 1 + i = omega arith in
    record { inflow = r.inflow; at = r.at; count = rw e r.count; ends = r.ends }

-- every input ends where all that waits does
ends_alike : (n : ℕ) (l : List Tagged) (ws fs : List Inflow) → UsesInputs n l ws fs → all_end (map flow fs) ≡ all_end (map flow ws)
ends_alike n l [] [] u = refl
ends_alike n l [] (f ∷ fs) u = absurd u
ends_alike n l (w ∷ ws) [] u = absurd u
ends_alike n l (w ∷ ws) (f ∷ fs) u =
    let ih : all_end (map flow fs) ≡ all_end (map flow ws) = ends_alike (n + 1) l ws fs u.1 in
    ap (λ b. is_ended f.end && b) ih ∙ ap (λ e. is_ended e && all_end (map flow ws)) (sym u.0.1)

untouched_uses : (n m : ℕ) → UsesInputs m [] (untouched n) (untouched n)
untouched_uses zero m = tt
untouched_uses (suc n) m = ((refl, refl), untouched_uses n (m + 1))

untouched_few : (n h : ℕ) → AllFew h (untouched n)
untouched_few zero h = tt
untouched_few (suc n) h = (omega arith, untouched_few n h)

-- ---- the law

module _ {S : Type 0} (k : Fan S) (start : S) where
  -- all that it gives of what came is what it gave, and what it gives from now on
  now_gives : (s : S) (ws ins : List Inflow) (g : List Tree) → (kept : FanKept k start s ws ins g) → k.from start (map flow ins) ≡ kept.given ++ k.from s (map flow ws)
  now_gives s ws ins g kept =
      ap (λ fs. k.from start (map flow fs)) (sym (joined_all-nothing_came 0 ins)) ∙ kept.rest (λ _. nothing_came)
      ∙ ap (λ fs. kept.given ++ k.from s (map flow fs)) (joined_all-nothing_came 0 ws)

  prefix_now : (s : S) (ws ins : List Inflow) (g : List Tree) → (kept : FanKept k start s ws ins g) → IsPrefix g (untagged (k.from start (map flow ins)))
  prefix_now s ws ins g kept = record {
    rest = untagged (k.from s (map flow ws));
    is = ap untagged (now_gives s ws ins g kept) ∙ map-append (λ (x : Tagged). x.item) kept.given (k.from s (map flow ws)) ∙ ap (λ l. l ++ untagged (k.from s (map flow ws))) (sym kept.gave_is);
  }

  -- at any moment: what it gave stands, over what it took
  pub fan_stands : (x : FanHeld S) (ins : List Inflow) (g : List Tree) (f : End) → FanKeeps k start x ins g f → FanStands k.hold (k.from start) ins g f
  fan_stands (waits s ws) ins g unended h = prefix_now s ws ins g h.1
  fan_stands (waits s ws) ins g ended h = let e = h.0 in cc
  fan_stands (waits s ws) ins g (failed c) h = let e = h.0 in cc
  fan_stands shut ins g f h = h

  -- more came
  kept_more : (s : S) (ws ins : List Inflow) (g : List Tree) (more : ℕ → Inflow) → (kept : FanKept k start s ws ins g) → (rest : ℕ → Inflow)
      → fan_gives k start (joined_all 0 (joined_all 0 ins more) rest) ≡ kept.given ++ fan_gives k s (joined_all 0 (joined_all 0 ws more) rest)
  kept_more s ws ins g more kept rest =
      ap (λ fs. fan_gives k start fs) (joined_all-assoc 0 ins more rest) ∙ kept.rest (λ i. joined (more i) (rest i))
      ∙ ap (λ fs. kept.given ++ fan_gives k s fs) (sym (joined_all-assoc 0 ws more rest))

  turned : (s : S) (ws ins : List Inflow) (g : List Tree) (more : ℕ → Inflow) (out : List Item) (t : S) (us : List Inflow) → FanKept k start s ws ins g → FanTurn k s (joined_all 0 ws more) out t us
      → Stepped (FanKeeps k start (waits t us)) (joined_all 0 ins more) g out
  turned s ws ins g more out t us kept turn = record {
    list = untagged turn.given;
    end = unended;
    out_is = turn.out_is;
    keeps = (
      refl,
      record {
        given = kept.given ++ turn.given;
        gave_is = ap (λ l. l ++ untagged turn.given) kept.gave_is ∙ sym (map-append (λ (x : Tagged). x.item) kept.given turn.given);
        uses = uses_then 0 kept.given turn.given us (joined_all 0 ws more) (joined_all 0 ins more) (uses_more 0 kept.given ws ins more kept.uses) turn.uses;
        few = turn.few;
        rest = λ rest. kept_more s ws ins g more kept rest ∙ ap (λ l. kept.given ++ l) (turn.same rest) ∙ sym (append_assoc kept.given turn.given (fan_gives k t (joined_all 0 us rest)));
      },
    );
  }

  -- all that it gives, once more came
  gives_now : (s : S) (ws ins : List Inflow) (g : List Tree) (more : ℕ → Inflow) → (kept : FanKept k start s ws ins g) → k.from start (map flow (joined_all 0 ins more)) ≡ kept.given ++ k.from s (map flow (joined_all 0 ws more))
  gives_now s ws ins g more kept = kept.rest more

  all_items : (s : S) (ws ins : List Inflow) (g : List Tree) (more : ℕ → Inflow) → (kept : FanKept k start s ws ins g)
      → untagged (k.from start (map flow (joined_all 0 ins more))) ≡ g ++ untagged (k.from s (map flow (joined_all 0 ws more)))
  all_items s ws ins g more kept =
      ap untagged (kept.rest more) ∙ map-append (λ (x : Tagged). x.item) kept.given (k.from s (map flow (joined_all 0 ws more)))
      ∙ ap (λ l. l ++ untagged (k.from s (map flow (joined_all 0 ws more)))) (sym kept.gave_is)

  -- the first elements that were given use all of a failed input but what waits
  failed_from : (s : S) (ws ins : List Inflow) (g : List Tree) (more : ℕ → Inflow) (i : ℕ) (w : Inflow) (c : Cause) → (kept : FanKept k start s ws ins g) → slice_get (joined_all 0 ws more) i ≡ Some w → w.end ≡ failed c → length w.list ≤ k.hold
      → FailsFrom k.hold (k.from start (map flow (joined_all 0 ins more))) (joined_all 0 ins more) (length g) c
  failed_from s ws ins g more i w c kept at is few =
      let t = there kept.given 0 i w (joined_all 0 ws more) (joined_all 0 ins more) (uses_more 0 kept.given ws ins more kept.uses) at in
      let e : 0 + i ≡ i = omega arith in
      let count : used i kept.given + length w.list ≡ length t.inflow.list = rw e at t.count in
      let enough : length t.inflow.list - k.hold ≤ used i kept.given = omega (arith, count, few) in
      let r = reach_within i (length t.inflow.list - k.hold) kept.given enough in
      let long : length g ≡ length kept.given = ap length kept.gave_is ∙ length-map kept.given (λ (x : Tagged). x.item) in
      let less = r.less in
      record {
        port = i;
        inflow = t.inflow;
        at = t.at;
        fails = sym t.ends ∙ is;
        reached_at = r.value;
        uses = rw (kept.rest more) (reach-append i (length t.inflow.list - k.hold) kept.given (k.from s (map flow (joined_all 0 ws more))) r.value r.is);
        enough = omega arith;
      }

  closed : (s : S) (ws ins : List Inflow) (g : List Tree) (more : ℕ → Inflow) (out : List Item) → FanKept k start s ws ins g → FanClose k s (joined_all 0 ws more) out → Stepped (FanKeeps k start shut) (joined_all 0 ins more) g out
  closed s ws ins g more out kept (completes all is) = record {
    list = untagged (k.from s (map flow (joined_all 0 ws more)));
    end = ended;
    out_is = is;
    keeps = (ends_alike 0 kept.given (joined_all 0 ws more) (joined_all 0 ins more) (uses_more 0 kept.given ws ins more kept.uses) ∙ all, sym (all_items s ws ins g more kept));
  }
  closed s ws ins g more out kept (fails i w c at bad few is) = record {
    list = [];
    end = failed c;
    out_is = is;
    keeps = rw append-nil (
      record { rest = untagged (k.from s (map flow (joined_all 0 ws more))); is = all_items s ws ins g more kept },
      failed_from s ws ins g more i w c kept at bad few,
    );
  }

  -- the output was cancelled
  refused : (s : S) (ws ins : List Inflow) (g : List Tree) (more : ℕ → Inflow) (out : List Item) → FanKept k start s ws ins g → out ≡ [] → Stepped (FanKeeps k start shut) (joined_all 0 ins more) g out
  refused s ws ins g more out kept is = record {
    list = [];
    end = unended;
    out_is = is;
    keeps = rw append-nil (record { rest = untagged (k.from s (map flow (joined_all 0 ws more))); is = all_items s ws ins g more kept });
  }

  stepped : (call : Call) (s : S) (ws : List Inflow) (new : FanHeld S) (ins : List Inflow) (g : List Tree) (out : List Item) → FanKept k start s ws ins g → FanTurnAt k call (waits s ws) out new
      → Stepped (FanKeeps k start new) (joined_all 0 ins (coming call)) g out
  stepped starts s ws (waits t us) ins g out kept turn = turned s ws ins g (coming starts) out t us kept turn
  stepped starts s ws shut ins g out kept turn = closed s ws ins g (coming starts) out kept turn
  stepped (pulls j) s ws (waits t us) ins g out kept turn = turned s ws ins g (coming (pulls j)) out t us kept turn
  stepped (pulls j) s ws shut ins g out kept turn = closed s ws ins g (coming (pulls j)) out kept turn
  stepped (arrives i b) s ws (waits t us) ins g out kept turn = turned s ws ins g (coming (arrives i b)) out t us kept turn
  stepped (arrives i b) s ws shut ins g out kept turn = closed s ws ins g (coming (arrives i b)) out kept turn
  stepped (cancels j) s ws new ins g out kept turn = rw turn.1 (refused s ws ins g (coming (cancels j)) out kept turn.0)

  -- before anything came
  pub fan_new : (v : View) → AllIdle v.ins → GaveAs (out_at v 0) unended → FanLaw k start (waits start (untouched (length v.ins))) v (λ _. []) []
  fan_new v idle open_out = new_ports (FanKeeps k start (waits start (untouched (length v.ins)))) v idle open_out (
    refl,
    record {
      given = [];
      gave_is = refl;
      uses = untouched_uses (length v.ins) 0;
      few = untouched_few (length v.ins) k.hold;
      rest = λ more. refl;
    },
  )

  -- a call keeps the law
  pub fan_call : (call : Call) (old new : FanHeld S) (v : View) (took : ℕ → List Item) (gave : List Item) (acts : List Act) → CallAllowed call v → ActsAllowed (seen call v) acts → FanTurnAt k call old (given_on 0 acts) new
      → FanLaw k start old v took gave → FanLaw k start new (acted_all (seen call v) acts) (λ i. took i ++ brought_to i call) (gave ++ given_on 0 acts)
  fan_call call shut new v took gave acts may allowed turn law = absurd turn
  fan_call call (waits s ws) new v took gave acts may allowed turn law =
      ports_law (FanKeeps k start (waits s ws)) (FanKeeps k start new) call v took gave acts may allowed law law.keeps.0 (stepped call s ws new law.ins law.out_list (given_on 0 acts) law.keeps.1 turn)

  -- over its whole history
  pub fan_rest : (s : S) (ws : List Inflow) (v : View) (took : ℕ → List Item) (gave : List Item) → (law : FanLaw k start (waits s ws) v took gave) → (more : ℕ → Inflow)
      → untagged (fan_gives k start (joined_all 0 law.ins more)) ≡ law.out_list ++ untagged (fan_gives k s (joined_all 0 ws more))
  fan_rest s ws v took gave law more = all_items s ws law.ins law.out_list more law.keeps.1

  pub fan_history_stands : (x : FanHeld S) (v : View) (took : ℕ → List Item) (gave : List Item) → (law : FanLaw k start x v took gave) → FanStands k.hold (k.from start) law.ins law.out_list law.out_end
  fan_history_stands x v took gave law = fan_stands x law.ins law.out_list law.out_end law.keeps
