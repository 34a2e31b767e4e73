-- A turn of a merge keeps its law, and the law says what the merge may have given by its moves.
use Rattle.std.specs.Prelude.{slice_get, slice_set, ◌==◌, ◌&&◌, if◌then◌else◌, cond}
use Rattle.std.proofs.Common.{◌≡◌, ℕ, zero, suc, ◌+◌, ◌<◌, Bool, true, false, IsTrue, ◌⊎◌, inl, inr, List, [], ◌∷◌, ◌++◌, length, map, get_or, refl, sym, ap, ◌∙◌, subst, arith, append-nil, Some}
use Rattle.std.proofs.lemmas.Bool.{cases_eq, and_from, and_parts}
use Rattle.std.proofs.lemmas.Bool.Decides.{nat_tests}
use Rattle.std.proofs.lemmas.List.{map-append, get_or-set_same, get_or-set_other}
use Rattle.std.proofs.lemmas.List.Sums.{sum_by-cons, sum_by-append}
use Rattle.elem_core.specs.Tree.{Tree}
use Rattle.elem_core.specs.declared.item.Item.{Item}
use Rattle.elem_core.specs.declared.item.Item.TheVariants as item
use Rattle.elem_core.specs.declared.why.Cause.{Cause}
use Rattle.stream_model.specs.Outlook.{End, unended, ended, failed}
use Rattle.stream_model.specs.Machine.{is_ended}
use Rattle.stream_model.specs.FanIn.{Tagged, tag, Inflow, flow, merge_of, Finds}
use Rattle.stream_model.specs.Picks.{count_of, used_up, FailsWithin, MergeStands, soft, softened, softened_by}
use Rattle.stream_model.proofs.Fitting.{at_get, yes_one, no_one}
use Rattle.port_core.specs.declared.act.Act.{Act}
use Rattle.port_core.specs.View.{View, out_at, ActsAllowed, acted_all}
use Rattle.port_core.specs.Call.{Call, starts, pulls, arrives, cancels, AllIdle, CallAllowed, seen, brought_to, given_on}
use Rattle.stage_core.specs.Law.{GaveAs}
use Rattle.stage_core.specs.Inflows.{nothing_came, flow_of, joined_at, joined_all, coming, untouched}
use Rattle.stage_core.specs.Fans.{untagged}
use Rattle.stage_core.specs.Merges.{MergeHeld, waits, shut, lists_of, left_at, left_by, SameEnds, Merged, MergeTurn, MergeClose, completes, fails, MergeTurnAt, MergeKeeps, GathersAs, item_by, call_by, moves_of, MergeLaw}
use Rattle.stage_core.proofs.Inflows.{Stepped, ports_law, new_ports}

-- ---- more behind each list

app : List (List Tree) → List (List Tree) → List (List Tree)
app [] rs = []
app (l ∷ ls) [] = l ∷ ls
app (l ∷ ls) (r ∷ rs) = (l ++ r) ∷ app ls rs

record AppAt (ls rs : List (List Tree)) (i : ℕ) (t : Tree) (ts : List Tree) : Type 0 where
  rest : List Tree
  at : slice_get (app ls rs) i ≡ Some (t ∷ rest)
  set : slice_set (app ls rs) i rest ≡ app (slice_set ls i ts) rs

app_at : (ls rs : List (List Tree)) (i : ℕ) (t : Tree) (ts : List Tree) → slice_get ls i ≡ Some (t ∷ ts) → AppAt ls rs i t ts
unfolding app
app_at [] rs i t ts h = cc
app_at (l ∷ ls) [] zero t ts h = record { rest = ts; at = h; set = refl }
app_at (l ∷ ls) [] (suc i) t ts h = record { rest = ts; at = h; set = refl }
app_at (l ∷ ls) (r ∷ rs) zero t ts h =
    let e : l ≡ t ∷ ts = cc in
    record { rest = ts ++ r; at = ap (λ x. Some (x ++ r)) e; set = refl }
app_at (l ∷ ls) (r ∷ rs) (suc i) t ts h =
    let a = app_at ls rs i t ts h in
    record { rest = a.rest; at = a.at; set = ap (λ x. (l ++ r) ∷ x) a.set }

app_finds : (moves : List ℕ) (ls rs : List (List Tree)) → Finds moves ls → Finds moves (app ls rs)
app_finds [] ls rs f = tt
app_finds (i ∷ is) ls rs f =
    let a = app_at ls rs i f.0 f.1 f.2 in
    (f.0, a.rest, a.at, rw a.set (app_finds is (slice_set ls i f.1) rs f.3))

app_merge : (moves : List ℕ) (ls rs : List (List Tree)) → Finds moves ls → merge_of moves (app ls rs) ≡ merge_of moves ls
app_merge [] ls rs f = refl
app_merge (i ∷ is) ls rs f =
    let a = app_at ls rs i f.0 f.1 f.2 in
    rw (f.2, a.at, a.set) (ap (λ l. tag i f.0 ∷ l) (app_merge is (slice_set ls i f.1) rs f.3))

app_left : (moves : List ℕ) (ls rs : List (List Tree)) → Finds moves ls → left_by moves (app ls rs) ≡ app (left_by moves ls) rs
app_left [] ls rs f = refl
app_left (i ∷ is) ls rs f =
    let a = app_at ls rs i f.0 f.1 f.2 in
    rw (f.2, a.at, a.set) (app_left is (slice_set ls i f.1) rs f.3)

-- ---- moves behind moves

then_finds : (moves more : List ℕ) (ls : List (List Tree)) → Finds moves ls → Finds more (left_by moves ls) → Finds (moves ++ more) ls
then_finds [] more ls f g = g
then_finds (i ∷ is) more ls f g =
    let h : Finds more (left_by is (slice_set ls i f.1)) = rw f.2 at g in
    (f.0, f.1, f.2, then_finds is more (slice_set ls i f.1) f.3 h)

then_merge : (moves more : List ℕ) (ls : List (List Tree)) → Finds moves ls → merge_of (moves ++ more) ls ≡ merge_of moves ls ++ merge_of more (left_by moves ls)
then_merge [] more ls f = refl
then_merge (i ∷ is) more ls f = rw f.2 (ap (λ l. tag i f.0 ∷ l) (then_merge is more (slice_set ls i f.1) f.3))

then_left : (moves more : List ℕ) (ls : List (List Tree)) → left_by (moves ++ more) ls ≡ left_by more (left_by moves ls)
then_left [] more ls = refl
then_left (i ∷ is) more ls = then_left is more (left_at i ls (slice_get ls i))

-- ---- what comes to inputs

rest_at : End → Inflow → List Tree
rest_at unended r = r.list
rest_at ended r = []
rest_at (failed c) r = []

rests : ℕ → List Inflow → (ℕ → Inflow) → List (List Tree)
rests n [] more = []
rests n (f ∷ fs) more = rest_at f.end (more n) ∷ rests (n + 1) fs more

joined_list : (e : End) (l : List Tree) (r : Inflow) → (joined_at e l r).list ≡ l ++ rest_at e r
unfolding rest_at
joined_list unended l r = refl
joined_list ended l r = sym (append-nil l)
joined_list (failed c) l r = sym (append-nil l)

lists_joined : (n : ℕ) (fs : List Inflow) (more : ℕ → Inflow) → lists_of (joined_all n fs more) ≡ app (lists_of fs) (rests n fs more)
unfolding app rests
lists_joined n [] more = refl
lists_joined n (f ∷ fs) more =
    ap (λ x. x ∷ lists_of (joined_all (n + 1) fs more)) (joined_list f.end f.list (more n)) ∙ ap (λ xs. (f.list ++ rest_at f.end (more n)) ∷ xs) (lists_joined (n + 1) fs more)

rests_same : (n : ℕ) (ws fs : List Inflow) (more : ℕ → Inflow) → SameEnds ws fs → rests n ws more ≡ rests n fs more
unfolding rests
rests_same n [] [] more s = refl
rests_same n [] (f ∷ fs) more s = absurd s
rests_same n (w ∷ ws) [] more s = absurd s
rests_same n (w ∷ ws) (f ∷ fs) more s =
    ap (λ e. rest_at e (more n) ∷ rests (n + 1) ws more) s.0 ∙ ap (λ xs. rest_at f.end (more n) ∷ xs) (rests_same (n + 1) ws fs more s.1)

joined_end : (e : End) (l k : List Tree) (r : Inflow) → (joined_at e l r).end ≡ (joined_at e k r).end
joined_end unended l k r = refl
joined_end ended l k r = refl
joined_end (failed c) l k r = refl

joined_ends : (n : ℕ) (ws fs : List Inflow) (more : ℕ → Inflow) → SameEnds ws fs → SameEnds (joined_all n ws more) (joined_all n fs more)
joined_ends n [] [] more s = tt
joined_ends n [] (f ∷ fs) more s = absurd s
joined_ends n (w ∷ ws) [] more s = absurd s
joined_ends n (w ∷ ws) (f ∷ fs) more s = (rw s.0 (joined_end f.end w.list f.list (more n)), joined_ends (n + 1) ws fs more s.1)

same_ends : (us ws fs : List Inflow) → SameEnds us ws → SameEnds ws fs → SameEnds us fs
same_ends [] [] [] a b = tt
same_ends [] [] (f ∷ fs) a b = absurd b
same_ends [] (w ∷ ws) fs a b = absurd a
same_ends (u ∷ us) [] fs a b = absurd a
same_ends (u ∷ us) (w ∷ ws) [] a b = absurd b
same_ends (u ∷ us) (w ∷ ws) (f ∷ fs) a b = (a.0 ∙ b.0, same_ends us ws fs a.1 b.1)

more_merged : (moves : List ℕ) (ins ws : List Inflow) (g : List Tree) (more : ℕ → Inflow) → Merged moves ins g ws → Merged moves (joined_all 0 ins more) g (joined_all 0 ws more)
more_merged moves ins ws g more m =
    let is = lists_joined 0 ins more in
    record {
      finds = rw is (app_finds moves (lists_of ins) (rests 0 ins more) m.finds);
      gave = m.gave ∙ ap untagged (sym (ap (merge_of moves) is ∙ app_merge moves (lists_of ins) (rests 0 ins more) m.finds));
      left =
          ap (left_by moves) is ∙ app_left moves (lists_of ins) (rests 0 ins more) m.finds ∙ ap (λ l. app l (rests 0 ins more)) m.left
          ∙ ap (λ r. app (lists_of ws) r) (sym (rests_same 0 ws ins more m.ends)) ∙ sym (lists_joined 0 ws more);
      ends = joined_ends 0 ws ins more m.ends;
    }

then_merged : (moves more : List ℕ) (ins ws us : List Inflow) (g h : List Tree) → Merged moves ins g ws → Merged more ws h us → Merged (moves ++ more) ins (g ++ h) us
then_merged moves more ins ws us g h m k = record {
  finds = then_finds moves more (lists_of ins) m.finds (rw m.left k.finds);
  gave =
      ap (λ l. l ++ h) m.gave ∙ ap (λ l. untagged (merge_of moves (lists_of ins)) ++ l) (k.gave ∙ ap (λ ls. untagged (merge_of more ls)) (sym m.left))
      ∙ sym (map-append (λ (x : Tagged). x.item) (merge_of moves (lists_of ins)) (merge_of more (left_by moves (lists_of ins)))) ∙ ap untagged (sym (then_merge moves more (lists_of ins) m.finds));
  left = then_left moves more (lists_of ins) ∙ ap (left_by more) m.left ∙ k.left;
  ends = same_ends us ws ins k.ends m.ends;
}

-- ---- how many moves an input has

count_left : (moves : List ℕ) (ls : List (List Tree)) (n : ℕ) → Finds moves ls → count_of n moves + length (get_or (left_by moves ls) n []) ≡ length (get_or ls n [])
count_left [] ls n f = omega arith
count_left (i ∷ is) ls n f = by_place (cases_eq i n) (count_left is (slice_set ls i f.1) n f.3)
  where
    there : (i < length ls) × (get_or ls i [] ≡ f.0 ∷ f.1)
    there = at_get ls i (f.0 ∷ f.1) [] f.2

    step : count_of n (i ∷ is) ≡ cond (i == n) 1 0 + count_of n is
    step = sum_by-cons (λ j. cond (j == n) 1 0) i is

    by_place : (i ≡ n) ⊎ (i ≡ n → ⊥) → count_of n is + length (get_or (left_by is (slice_set ls i f.1)) n []) ≡ length (get_or (slice_set ls i f.1) n [])
        → count_of n (i ∷ is) + length (get_or (left_by is (left_at i ls (slice_get ls i))) n []) ≡ length (get_or ls n [])
    by_place (inl e) h =
        let new : get_or (slice_set ls i f.1) n [] ≡ f.1 = ap (λ k. get_or (slice_set ls i f.1) k []) (sym e) ∙ get_or-set_same ls i f.1 [] there.0 in
        let old : get_or ls n [] ≡ f.0 ∷ f.1 = ap (λ k. get_or ls k []) (sym e) ∙ there.1 in
        let one = yes_one i n e in
        rw (f.2, old) (let g : count_of n is + length (get_or (left_by is (slice_set ls i f.1)) n []) ≡ length f.1 = rw new at h in omega (arith, step, one, g))
    by_place (inr e) h =
        let new : get_or (slice_set ls i f.1) n [] ≡ get_or ls n [] = get_or-set_other ls i n f.1 [] (λ k. e (sym k)) in
        let none = no_one i n e in
        rw f.2 (let g : count_of n is + length (get_or (left_by is (slice_set ls i f.1)) n []) ≡ length (get_or ls n []) = rw new at h in omega (arith, step, none, g))

-- of each input from n on: as many as its moves went out, and the others wait
Counts : ℕ → List ℕ → List Inflow → List Inflow → Type 0
Counts n moves [] [] = Unit {0}
Counts n moves (w ∷ ws) (f ∷ fs) = ((count_of n moves + length w.list ≡ length f.list) × (w.end ≡ f.end)) × Counts (n + 1) moves ws fs
Counts n moves _ _ = ⊥

counts_from : (n : ℕ) (moves : List ℕ) (ws fs : List Inflow) → SameEnds ws fs → ((k : ℕ) → count_of (n + k) moves + length (get_or (lists_of ws) k []) ≡ length (get_or (lists_of fs) k [])) → Counts n moves ws fs
unfolding Counts
counts_from n moves [] [] s h = tt
counts_from n moves [] (f ∷ fs) s h = absurd s
counts_from n moves (w ∷ ws) [] s h = absurd s
counts_from n moves (w ∷ ws) (f ∷ fs) s h =
    let here : count_of (n + 0) moves + length w.list ≡ length f.list = h 0 in
    let e : n + 0 ≡ n = omega arith in
    ((rw e at here, s.0), counts_from (n + 1) moves ws fs s.1 (λ k. let q : count_of (n + suc k) moves + length (get_or (lists_of ws) k []) ≡ length (get_or (lists_of fs) k []) = h (suc k) in let d : n + suc k ≡ n + 1 + k = omega arith in rw d at q))

merged_counts : (moves : List ℕ) (ins ws : List Inflow) (g : List Tree) → Merged moves ins g ws → Counts 0 moves ws ins
merged_counts moves ins ws g m =
    counts_from 0 moves ws ins m.ends (λ k. let e : 0 + k ≡ k = omega arith in rw (e, ← m.left) (count_left moves (lists_of ins) k m.finds))

count_append : (n : ℕ) (moves more : List ℕ) → count_of n (moves ++ more) ≡ count_of n moves + count_of n more
count_append n moves more = sum_by-append (λ j. cond (j == n) 1 0) moves more

same_count : (a b : ℕ) → (a == b) ≡ true → a ≡ b
same_count a b h = grind (arith, nat_tests)

equal : (a b : ℕ) → a ≡ b → (a == b) ≡ true
equal a b h = grind (arith, nat_tests)

-- where the last moves use up what waited, all moves use up what came
used_all : (n : ℕ) (moves more : List ℕ) (ws fs : List Inflow) → Counts n moves ws fs → IsTrue (used_up more n (map flow ws)) → IsTrue (used_up (moves ++ more) n (map flow fs))
unfolding Counts
used_all n moves more [] [] c h = refl
used_all n moves more [] (f ∷ fs) c h = absurd c
used_all n moves more (w ∷ ws) [] c h = absurd c
used_all n moves more (w ∷ ws) (f ∷ fs) c h =
    let p = and_parts (is_ended w.end && (count_of n more == length w.list)) (used_up more (n + 1) (map flow ws)) h in
    let q = and_parts (is_ended w.end) (count_of n more == length w.list) p.0 in
    let same : count_of n more ≡ length w.list = same_count (count_of n more) (length w.list) q.1 in
    let all : count_of n (moves ++ more) ≡ length f.list = omega (arith, count_append n moves more, c.0.0, same) in
    and_from (is_ended f.end && (count_of n (moves ++ more) == length f.list)) (used_up (moves ++ more) (n + 1) (map flow fs))
    (and_from (is_ended f.end) (count_of n (moves ++ more) == length f.list) (ap is_ended (sym c.0.1) ∙ q.0) (equal (count_of n (moves ++ more)) (length f.list) all))
    (used_all (n + 1) moves more ws fs c.1 p.1)

failed_within : (n : ℕ) (moves : List ℕ) (ws fs : List Inflow) (c : Cause) → Counts n moves ws fs → FailsWithin [] n ws c → FailsWithin moves n fs c
unfolding Counts
failed_within n moves [] [] c k h = h
failed_within n moves [] (f ∷ fs) c k h = absurd k
failed_within n moves (w ∷ ws) [] c k h = absurd k
failed_within n moves (w ∷ ws) (f ∷ fs) c k (inl h) = inl (sym k.0.1 ∙ h.0, omega (arith, k.0.0, h.1))
failed_within n moves (w ∷ ws) (f ∷ fs) c k (inr h) = inr (failed_within (n + 1) moves ws fs c k.1 h)

-- ---- the law

merged_stands : (moves : List ℕ) (ins ws : List Inflow) (g : List Tree) → Merged moves ins g ws → MergeStands moves ins g unended
merged_stands moves ins ws g m = record { finds = m.finds; gave = m.gave; ends = λ e. cc; fails = λ c e. cc }

-- at any moment: what it gave stands, over what it took
pub merge_stands : (x : MergeHeld) (ins : List Inflow) (g : List Tree) (f : End) → MergeKeeps x ins g f → MergeStands (moves_of x) ins g f
merge_stands (waits moves ws) ins g unended h = merged_stands moves ins ws g h.1
merge_stands (waits moves ws) ins g ended h = let e = h.0 in cc
merge_stands (waits moves ws) ins g (failed c) h = let e = h.0 in cc
merge_stands (shut moves) ins g f h = h

module _ (moves : List ℕ) (ins ws : List Inflow) (g : List Tree) (call : Call) (m : Merged moves ins g ws) where
  abbrev more_came : Merged moves (joined_all 0 ins (coming call)) g (joined_all 0 ws (coming call))
  more_came = more_merged moves ins ws g (coming call) m

  turned : (out : List Item) (now : List ℕ) (us : List Inflow) → MergeTurn moves (joined_all 0 ws (coming call)) out now us → Stepped (MergeKeeps (waits now us)) (joined_all 0 ins (coming call)) g out
  turned out now us t = record {
    list = t.given;
    end = unended;
    out_is = t.out_is;
    keeps = rw t.now_is (refl, then_merged moves t.more (joined_all 0 ins (coming call)) (joined_all 0 ws (coming call)) us g t.given more_came t.merged);
  }

  closed : (out : List Item) (now : List ℕ) → MergeClose moves (joined_all 0 ws (coming call)) out now → Stepped (MergeKeeps (shut now)) (joined_all 0 ins (coming call)) g out
  closed out now (completes more given us now_is is k all) =
      let both = then_merged moves more (joined_all 0 ins (coming call)) (joined_all 0 ws (coming call)) us g given more_came k in
      record {
        list = given;
        end = ended;
        out_is = is;
        keeps = rw now_is (record {
          finds = both.finds;
          gave = both.gave;
          ends = λ e. used_all 0 moves more (joined_all 0 ws (coming call)) (joined_all 0 ins (coming call)) (merged_counts moves (joined_all 0 ins (coming call)) (joined_all 0 ws (coming call)) g more_came) all;
          fails = λ c e. cc;
        });
      }
  closed out now (fails c now_is is bad) = record {
    list = [];
    end = failed c;
    out_is = is;
    keeps = rw (now_is, append-nil) (record {
      finds = more_came.finds;
      gave = more_came.gave;
      ends = λ e. cc;
      fails = λ d e. subst (λ x. FailsWithin moves 0 (joined_all 0 ins (coming call)) x) (let k : c ≡ d = cc in k) (failed_within 0 moves (joined_all 0 ws (coming call)) (joined_all 0 ins (coming call)) c (merged_counts moves (joined_all 0 ins (coming call)) (joined_all 0 ws (coming call)) g more_came) bad);
    });
  }

  refused : (out : List Item) → out ≡ [] → Stepped (MergeKeeps (shut moves)) (joined_all 0 ins (coming call)) g out
  refused out is = record {
    list = [];
    end = unended;
    out_is = is;
    keeps = rw append-nil (merged_stands moves (joined_all 0 ins (coming call)) (joined_all 0 ws (coming call)) g more_came);
  }

stepped : (call : Call) (moves : List ℕ) (ws : List Inflow) (new : MergeHeld) (ins : List Inflow) (g : List Tree) (out : List Item) → Merged moves ins g ws → MergeTurnAt call (waits moves ws) out new
    → Stepped (MergeKeeps new) (joined_all 0 ins (coming call)) g out
stepped starts moves ws (waits now us) ins g out m t = turned moves ins ws g starts m out now us t
stepped starts moves ws (shut now) ins g out m t = closed moves ins ws g starts m out now t
stepped (pulls j) moves ws (waits now us) ins g out m t = turned moves ins ws g (pulls j) m out now us t
stepped (pulls j) moves ws (shut now) ins g out m t = closed moves ins ws g (pulls j) m out now t
stepped (arrives i b) moves ws (waits now us) ins g out m t = turned moves ins ws g (arrives i b) m out now us t
stepped (arrives i b) moves ws (shut now) ins g out m t = closed moves ins ws g (arrives i b) m out now t
stepped (cancels j) moves ws new ins g out m t = rw t.1 (refused moves ins ws g (cancels j) m out t.0)

-- ---- one that gathers: a merge to which each failure came as an end

soft_flow : Inflow → Inflow
soft_flow f = record { list = f.list; end = soft f.end }

soft_joined : (e : End) (l : List Tree) (r : Inflow) → soft_flow (joined_at e l r) ≡ joined_at (soft e) l (soft_flow r)
unfolding soft_flow
soft_joined unended l r = refl
soft_joined ended l r = refl
soft_joined (failed c) l r = refl

soft_one : (x : Item) → soft_flow (flow_of x) ≡ flow_of (item_by true x)
unfolding soft_flow
soft_one (item.Elem t) = refl
soft_one item.Ended = refl
soft_one (item.Failed c) = refl

soft_nothing : soft_flow nothing_came ≡ nothing_came
unfolding soft_flow
soft_nothing = refl

soft_either : (b : Bool) (x : Item) → soft_flow (if b then flow_of x else nothing_came) ≡ (if b then flow_of (item_by true x) else nothing_came)
soft_either true x = soft_one x
soft_either false x = soft_nothing

soft_coming : (call : Call) (k : ℕ) → soft_flow (coming call k) ≡ coming (call_by true call) k
soft_coming starts k = soft_nothing
soft_coming (pulls j) k = soft_nothing
soft_coming (arrives i x) k = soft_either (i == k) x
soft_coming (cancels j) k = soft_nothing

soft_all : (n : ℕ) (ins : List Inflow) (call : Call) → softened (joined_all n ins (coming call)) ≡ joined_all n (softened ins) (coming (call_by true call))
unfolding soft_flow
soft_all n [] call = refl
soft_all n (f ∷ fs) call =
    let one = soft_joined f.end f.list (coming call n) ∙ ap (joined_at (soft f.end) f.list) (soft_coming call n) in
    let more = soft_all (n + 1) fs call in
    λ i. one i ∷ more i

plain_item : (x : Item) → x ≡ item_by false x
plain_item (item.Elem t) = refl
plain_item item.Ended = refl
plain_item (item.Failed c) = refl

plain_call : (call : Call) → call ≡ call_by false call
plain_call starts = refl
plain_call (pulls j) = refl
plain_call (arrives i x) = ap (arrives i) (plain_item x)
plain_call (cancels j) = refl

soft_came : (gathers : Bool) (ins : List Inflow) (call : Call) → softened_by gathers (joined_all 0 ins (coming call)) ≡ joined_all 0 (softened_by gathers ins) (coming (call_by gathers call))
soft_came false ins call = ap (λ (c : Call). joined_all 0 ins (coming c)) (plain_call call)
soft_came true ins call = soft_all 0 ins call

-- the elements are the same
pub soft_lists : (gathers : Bool) (fs : List Inflow) → lists_of (softened_by gathers fs) ≡ lists_of fs
soft_lists false fs = refl
soft_lists true [] = refl
soft_lists true (f ∷ fs) = ap (λ (ls : List (List Tree)). f.list ∷ ls) (soft_lists true fs)

gathered : (gathers : Bool) (new : MergeHeld) (call : Call) (ins : List Inflow) (g : List Tree) (out : List Item) → Stepped (MergeKeeps new) (joined_all 0 (softened_by gathers ins) (coming (call_by gathers call))) g out
    → Stepped (GathersAs gathers new) (joined_all 0 ins (coming call)) g out
gathered gathers new call ins g out s = record { list = s.list; end = s.end; out_is = s.out_is; keeps = subst (λ fs. MergeKeeps new fs (g ++ s.list) s.end) (sym (soft_came gathers ins call)) s.keeps }

no_turn : (c : Call) (moves : List ℕ) (out : List Item) (new : MergeHeld) → MergeTurnAt c (shut moves) out new → ⊥
no_turn c moves out new t = t

-- a call keeps the law
pub merge_call : (gathers : Bool) (call : Call) (old new : MergeHeld) (v : View) (took : ℕ → List Item) (gave : List Item) (acts : List Act) → CallAllowed call v → ActsAllowed (seen call v) acts → MergeTurnAt (call_by gathers call) old (given_on 0 acts) new
    → MergeLaw gathers old v took gave → MergeLaw gathers new (acted_all (seen call v) acts) (λ i. took i ++ brought_to i call) (gave ++ given_on 0 acts)
merge_call gathers call (shut moves) new v took gave acts may allowed turn law = absurd (no_turn (call_by gathers call) moves (given_on 0 acts) new turn)
merge_call gathers call (waits moves ws) new v took gave acts may allowed turn law =
    ports_law (GathersAs gathers (waits moves ws)) (GathersAs gathers new) call v took gave acts may allowed law law.keeps.0
    (gathered gathers new call law.ins law.out_list (given_on 0 acts) (stepped (call_by gathers call) moves ws new (softened_by gathers law.ins) law.out_list (given_on 0 acts) law.keeps.1 turn))

untouched_ends : (n : ℕ) → SameEnds (untouched n) (untouched n)
untouched_ends zero = tt
untouched_ends (suc n) = (refl, untouched_ends n)

untouched_soft : (gathers : Bool) (n : ℕ) → softened_by gathers (untouched n) ≡ untouched n
untouched_soft false n = refl
untouched_soft true zero = refl
untouched_soft true (suc n) = ap (λ (fs : List Inflow). nothing_came ∷ fs) (untouched_soft true n)

-- before anything came
pub merge_new : (gathers : Bool) (v : View) → AllIdle v.ins → GaveAs (out_at v 0) unended → MergeLaw gathers (waits [] (untouched (length v.ins))) v (λ _. []) []
merge_new gathers v idle open_out =
    new_ports (GathersAs gathers (waits [] (untouched (length v.ins)))) v idle open_out
    (subst (λ (fs : List Inflow). MergeKeeps (waits [] (untouched (length v.ins))) fs [] unended) (sym (untouched_soft gathers (length v.ins)))
    (refl, record { finds = tt; gave = refl; left = refl; ends = untouched_ends (length v.ins) }))

-- over its whole history
pub merge_history_stands : (gathers : Bool) (x : MergeHeld) (v : View) (took : ℕ → List Item) (gave : List Item) → (law : MergeLaw gathers x v took gave) → MergeStands (moves_of x) (softened_by gathers law.ins) law.out_list law.out_end
merge_history_stands gathers x v took gave law = merge_stands x (softened_by gathers law.ins) law.out_list law.out_end law.keeps

-- for every further list of moves and every rest: what all moves give is what was given and what the further ones give of what waits
pub merge_rest : (moves : List ℕ) (ins ws : List Inflow) (g : List Tree) → Merged moves ins g ws → (more : ℕ → Inflow) (further : List ℕ)
    → untagged (merge_of (moves ++ further) (lists_of (joined_all 0 ins more))) ≡ g ++ untagged (merge_of further (lists_of (joined_all 0 ws more)))
merge_rest moves ins ws g m more further =
    let k = more_merged moves ins ws g more m in
    ap untagged (then_merge moves further (lists_of (joined_all 0 ins more)) k.finds) ∙ map-append (λ (x : Tagged). x.item) (merge_of moves (lists_of (joined_all 0 ins more))) (merge_of further (left_by moves (lists_of (joined_all 0 ins more))))
    ∙ ap (λ l. l ++ untagged (merge_of further (left_by moves (lists_of (joined_all 0 ins more))))) (sym k.gave) ∙ ap (λ ls. g ++ untagged (merge_of further ls)) k.left
