-- What a logic with several outputs owes by its calls at each of them, and how a new one begins.
use Rattle.std.specs.Prelude.{replicate, IfOk, Ok, Err}
use Rattle.std.specs.declared.result.Result.{Result}
use Rattle.std.proofs.Common.{◌≡◌, ℕ, zero, suc, ◌+◌, ◌≤◌, Bool, true, false, List, [], ◌∷◌, length, map, refl, sym, ap, ◌∙◌, subst, arith}
use Rattle.elem_core.specs.Tree.{Tree}
use Rattle.elem_core.specs.declared.function.MapFn.{MapFn}
use Rattle.elem_core.specs.declared.why.Decider.TheVariants.{Stop}
use Rattle.port_core.specs.declared.act.Act.{Act}
use Rattle.port_core.specs.Call.{Call}
use Rattle.stream_model.specs.declared.kind.Kind.{Kind}
use Rattle.stream_model.specs.declared.kind.Kind.TheVariants.{Broadcast, BroadcastHub, Partition, Unzip}
use Rattle.stream_model.specs.Linear.{Book, Stage, numbering, linear, begin_work}
use Rattle.stream_model.specs.Machine.{Stands, output}
use Rattle.stream_model.specs.Node.{World, head_of}
use Rattle.stream_model.specs.Outlook.{Outlook, End, Agrees}
use Rattle.stream_model.proofs.Traces.{trace_output}
use Rattle.stage_core.specs.Held.{Held}
use Rattle.stage_core.specs.Outs.{TurnsAt, owe}
use Rattle.stage_core.specs.declared.outs.OutputState.{OutputState}
use Rattle.stage_core.specs.declared.outs.OutputState.TheVariants.{Quiet}
use Rattle.stage_out.specs.declared.machines.OutMachines.{OutMachines}
use Rattle.stage_out.specs.declared.machines.OutMachines.TheVariants.{Copies, Deals}
use Rattle.stage_out.specs.Copies.{copying, nothing_owed, outlets}
use Rattle.stage_out.specs.Copies as copies
use Rattle.stage_out.specs.CopyStates.{part_by}
use Rattle.stage_out.specs.PartitionStates.{PartitionLogic, dealers, dues, then_of}
use Rattle.stage_out.specs.PartitionStates as part
use Rattle.stage_out.specs.Machines.{is_live, Turned, no_stage, copiers, TurnsEach, IsMachines, copy_starts, number_starts, IsMade, EachStarts, EachAgrees, Begins}
use Rattle.stage_out.proofs.Agreeing.{copies_agree}
use Rattle.stage_out.proofs.Begins.{partition_begins, copy_begins}

pub if_ok : {A E : Type 0} {P Q : A → Type 0} → (r : Result A E) → ((x : A) → P x → Q x) → IfOk r P → IfOk r Q
if_ok (Ok x) f p = f x p
if_ok (Err e) f p = tt

-- ---- a turn at each output

pub copiers_are : (part : ℕ → Tree → Tree) (n : ℕ) (ws : List OutputState) → copiers part true n ws ≡ outlets part n no_stage ws
copiers_are part n [] = refl
copiers_are part n (w ∷ ws) = rw (copiers_are part (n + 1) ws) refl

pub owe_copies : (part : ℕ → Tree → Tree) (a b : Bool) (n : ℕ) (ws vs : List OutputState) → length vs ≡ length ws → owe (copiers part a n ws) (copies.owed b no_stage vs) ≡ copiers part b n vs
owe_copies part a true n [] [] e = refl
owe_copies part a false n [] [] e = refl
owe_copies part a b n [] (v ∷ vs) e = absurd (omega (arith, e))
owe_copies part a b n (w ∷ ws) [] e = absurd (omega (arith, e))
owe_copies part a true n (w ∷ ws) (v ∷ vs) e = rw (owe_copies part a true (n + 1) ws vs (omega (arith, e))) refl
owe_copies part a false n (w ∷ ws) (v ∷ vs) e = rw (owe_copies part a false (n + 1) ws vs (omega (arith, e))) refl

pub owe_deals : (book : Book) (l : PartitionLogic) (h k : ℕ → OutputState → Held Stage) (n : ℕ) (ws vs : List OutputState) → length vs ≡ length ws → owe (dealers book l h n ws) (dues k n vs) ≡ dealers book l k n vs
owe_deals book l h k n [] [] e = refl
owe_deals book l h k n [] (v ∷ vs) e = absurd (omega (arith, e))
owe_deals book l h k n (w ∷ ws) [] e = absurd (omega (arith, e))
owe_deals book l h k n (w ∷ ws) (v ∷ vs) e = rw (owe_deals book l h k (n + 1) ws vs (omega (arith, e))) refl

same_dealers : (book : Book) (old new : PartitionLogic) (h : ℕ → OutputState → Held Stage) (n : ℕ) (ws : List OutputState) → new.node ≡ old.node → new.parts ≡ old.parts → new.fun ≡ old.fun → dealers book new h n ws ≡ dealers book old h n ws
same_dealers book old new h n [] a b c = refl
same_dealers book old new h n (w ∷ ws) a b c = rw (same_dealers book old new h (n + 1) ws a b c, a, b, c) refl

pub length-owed : (b : Bool) (ws : List OutputState) → length (copies.owed b no_stage ws) ≡ length ws
length-owed true [] = refl
length-owed false [] = refl
length-owed true (w ∷ ws) = ap suc (length-owed true ws)
length-owed false (w ∷ ws) = ap suc (length-owed false ws)

pub length-dues : (h : ℕ → OutputState → Held Stage) (n : ℕ) (ws : List OutputState) → length (dues h n ws) ≡ length ws
length-dues h n [] = refl
length-dues h n (w ∷ ws) = ap suc (length-dues h (n + 1) ws)

pub turns_of : (call : Call) (old new : OutMachines) (acts : List Act) → is_live old ≡ true → Turned call old acts new → TurnsEach call old acts new
turns_of call (Copies l) (Copies m) acts h t = record {
  turns = λ book. rw (h, copiers_are (part_by l.halves) 0 l.outs) (t.turns no_stage);
  same = λ book. rw t.halves (owe_copies (part_by l.halves) l.live m.live 0 l.outs m.outs t.outputs);
  outputs = length-owed m.live m.outs ∙ t.outputs ∙ sym (length-owed l.live l.outs);
  rests = λ is os r. r;
  stands = t.stands;
}
turns_of call (Deals l) (Deals m) acts h t = record {
  turns = λ book. subst (λ b. TurnsAt 0 call (dealers book l (then_of b l) 0 l.outs) acts (dues (then_of m.live m) 0 m.outs)) (sym h) (t.turns book);
  same = λ book. owe_deals book l (then_of l.live l) (then_of m.live m) 0 l.outs m.outs t.outputs ∙ sym (same_dealers book l m (then_of m.live m) 0 m.outs t.node t.parts t.fun);
  outputs = length-dues (then_of m.live m) 0 m.outs ∙ t.outputs ∙ sym (length-dues (then_of l.live l) 0 l.outs);
  rests = λ is os r. r;
  stands = t.stands;
}
turns_of call (Copies l) (Deals m) acts h t = absurd t
turns_of call (Deals l) (Copies m) acts h t = absurd t

-- ---- a new logic

copies_begun : (part : ℕ → Tree → Tree) (j k : ℕ) → copiers part true j (replicate k Quiet) ≡ copy_starts part j k
copies_begun part j zero = refl
copies_begun part j (suc k) = rw (copies_begun part (j + 1) k) refl

deals_begun : (book : Book) (node n : ℕ) (f : MapFn) (j k : ℕ) → dealers book (part.begun node n f) (then_of true (part.begun node n f)) j (replicate k Quiet) ≡ number_starts book node n f j k
deals_begun book node n f j zero = refl
deals_begun book node n f j (suc k) = rw (deals_begun book node n f (j + 1) k) refl

copies_start : (part : ℕ → Tree → Tree) (j k : ℕ) → EachStarts (copy_starts part j k)
copies_start part j zero = tt
copies_start part j (suc k) = ((refl, refl), copies_start part (j + 1) k)

numbers_start : (book : Book) (node n : ℕ) (f : MapFn) (j k : ℕ) → EachStarts (number_starts book node n f j k)
numbers_start book node n f j zero = tt
numbers_start book node n f j (suc k) = ((refl, refl), numbers_start book node n f (j + 1) k)

-- ---- outlooks

map_all : (l : List Tree) → map (λ (t : Tree). t) l ≡ l
map_all [] = refl
map_all (t ∷ l) = ap (λ (k : List Tree). t ∷ k) (map_all l)

whole_agree : (o : Outlook) (l : List Tree) (e : End) (g : List Tree) (h : End) → Agrees o l e → Stands (copying (part_by false 0)) (nothing_owed no_stage) l e g h → Agrees o g h
whole_agree o l e g h a st = subst (λ (k : List Tree). Agrees (record { list = k; ends = o.ends; fails = o.fails }) g h) (map_all o.list) (copies_agree (λ t. t) no_stage o l e g h a st)

whole_each : (j k : ℕ) → EachAgrees j (λ i is. head_of is) (copy_starts (part_by false) j k)
whole_each j zero = tt
whole_each j (suc k) = (λ is. whole_agree (head_of is), whole_each (j + 1) k)

numbers_each : (w : World) (node n : ℕ) (f : MapFn) (j k : ℕ) → EachAgrees j (λ i is. output (linear w.book (numbering n f i)) (begin_work node Stop (numbering n f i)) (head_of is)) (number_starts w.book node n f j k)
numbers_each w node n f j zero = tt
numbers_each w node n f j (suc k) = (λ is l e g h a st. trace_output (linear w.book (numbering n f j)) (begin_work node Stop (numbering n f j)) (head_of is) l e g h a st, numbers_each w node n f (j + 1) k)

-- ---- by kinds

pub begins : (node : ℕ) (kind : Kind) (new : OutMachines) → IsMachines kind → IsMade node kind new → Begins node kind new
begins node (Broadcast n) new ok is = rw is (record {
  live = refl;
  of_kind = tt;
  ready = copy_begins n false (let two : 2 ≤ n = ok.0 in omega (arith, two)) ok.1 (λ e. cc);
  outputs = λ book. copies_begun (part_by false) 0 n;
  agrees = λ g w d. rw (copies_begun (part_by false) 0 n) (whole_each 0 n);
  fresh = record { live = refl; starts = λ book. rw (copies_begun (part_by false) 0 n) (copies_start (part_by false) 0 n) };
  rests = λ g w d is os r. r;
})
begins node (BroadcastHub s n) new ok is = rw is (record {
  live = refl;
  of_kind = tt;
  ready = copy_begins n false ok.0 ok.1 (λ e. cc);
  outputs = λ book. copies_begun (part_by false) 0 n;
  agrees = λ g w d. rw (copies_begun (part_by false) 0 n) (whole_each 0 n);
  fresh = record { live = refl; starts = λ book. rw (copies_begun (part_by false) 0 n) (copies_start (part_by false) 0 n) };
  rests = λ g w d is os r. r;
})
begins node Unzip new ok is = rw is (record {
  live = refl;
  of_kind = tt;
  ready = copy_begins 2 true (omega arith) (omega arith) (λ e. refl);
  outputs = λ book. refl;
  agrees = λ g w d. (λ is. copies_agree (part_by true 0) no_stage (head_of is), (λ is. copies_agree (part_by true 1) no_stage (head_of is), tt));
  fresh = record { live = refl; starts = λ book. copies_start (part_by true) 0 2 };
  rests = λ g w d is os r. r;
})
begins node (Partition n f) new ok is = rw is (record {
  live = refl;
  of_kind = tt;
  ready = partition_begins node n f ok.0 ok.1;
  outputs = λ book. deals_begun book node n f 0 n;
  agrees = λ g w d. rw (deals_begun w.book node n f 0 n) (numbers_each w node n f 0 n);
  fresh = record { live = refl; starts = λ book. rw (deals_begun book node n f 0 n) (numbers_start book node n f 0 n) };
  rests = λ g w d is os r. tt;
})
begins node kind new ok is = absurd is
