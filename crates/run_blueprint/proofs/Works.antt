-- What a work gives of elements of one type, and what it holds, is of its type.
use Rattle.std.proofs.Common.{◌≡◌, ℕ, zero, suc, ◌+◌, Bool, true, false, List, [], ◌∷◌, ◌++◌, length, Option, Some, None, Result, Ok, Err, refl, sym}
use Rattle.std.specs.Prelude.{if◌then◌else◌, ◌==◌, nat_le}
use Rattle.elem_core.specs.Sort.{Sort, seq_type}
use Rattle.elem_core.specs.Tree.{Tree, seq, row}
use Rattle.elem_core.specs.Values.{map_value, pred_value, fold_zero, fold_step, reduce_step, expansion, part_of}
use Rattle.elem_core.specs.declared.why.Why.{Why}
use Rattle.elem_core.specs.declared.why.Decider.{Decider}
use Rattle.elem_core.specs.declared.why.Decider.TheVariants.{Stop, Resume, Restart}
use Rattle.stream_model.specs.Machine.{Run, Finish, adds, refuses}
use Rattle.stream_model.specs.Linear.{Book, Work, Reaction, Stage, mapping, filtering, taking, taking_while, dropping, dropping_while, passing, limiting, grouping, expanding, folding, scanning, reducing, heading, lasting, numbering, plugged, gives, ends, blames, breaks, on_value, on_test, on_number, on_reply, Reply, Verdict, go, finish, fail, blame_end, reaction, restarted, first_of, decided, reacts, step, finish_of, begin_work}
use Rattle.elem_core.specs.declared.why.Why.TheVariants.{Plug}
use Rattle.stream_model.specs.Known.{HeadLists}
use Rattle.stream_model.specs.declared.head.PlugHead.{PlugHead}
use Rattle.blue_names.specs.StageTypes.{plug_named}
use Rattle.blue_names.specs.FnTypes.{map_want, map_gives, expand_want, expand_gives, fold_gives, reduce_want}
use Rattle.run_blueprint.specs.Types.{HasType, AllTyped, TakesSort}
use Rattle.run_blueprint.specs.Plugs.{KeepsPlugTypes}
use Rattle.run_blueprint.proofs.Keeping.{RunKeeps, FinishKeeps}
use Rattle.run_blueprint.proofs.Lists.{retype, retype_all, typed_append, typed_row}
use Rattle.run_blueprint.proofs.Functions.{map_typed, expansion_typed, zero_typed, step_typed, reduced_typed}

-- what is held, where anything is
abbrev pub IfHeld : Sort → Option Tree → Type 0
IfHeld t None = Unit {0}
IfHeld t (Some a) = HasType t a

-- a plug by its name, and what it has taken
pub record PlugTyped (heads : HeadLists) (t u : Sort) (name : List ℕ) (taken : List Tree) : Type 0 where
  pub plug : PlugHead
  pub named : plug_named name heads.plugs ≡ Some plug
  pub held : AllTyped plug.input taken
  pub takes : t ≡ plug.input
  pub gives : plug.output ≡ u

-- the work is for elements of type t, gives elements of type u, and holds what it may
abbrev pub WorkTyped : HeadLists → Sort → Sort → Work → Type 0
WorkTyped heads t u (mapping g) = TakesSort (map_want g) t × (map_gives g t ≡ u)
WorkTyped heads t u (grouping n held) = AllTyped t held × (seq_type t ≡ u)
WorkTyped heads t u (expanding g) = TakesSort (expand_want g) t × (expand_gives g t ≡ u)
WorkTyped heads t u (folding g a) = HasType u a × (fold_gives g t ≡ u)
WorkTyped heads t u (scanning g a) = HasType u a × (fold_gives g t ≡ u)
WorkTyped heads t u (reducing g held) = IfHeld t held × TakesSort (reduce_want g) t × (t ≡ u)
WorkTyped heads t u (lasting held) = IfHeld t held × (t ≡ u)
WorkTyped heads t u (plugged name taken) = PlugTyped heads t u name taken
WorkTyped heads t u _ = t ≡ u

abbrev pub ReactionTyped : HeadLists → Sort → Sort → Reaction → Type 0
ReactionTyped heads t u (gives o w) = AllTyped u o × WorkTyped heads t u w
ReactionTyped heads t u (ends o) = AllTyped u o
ReactionTyped heads t u (blames why) = Unit {0}
ReactionTyped heads t u (breaks why) = Unit {0}

module _ (heads : HeadLists) (t u : Sort) where
  on_value_typed : (r : Result Tree Why) (g : Tree → Reaction) → ((y : Tree) → r ≡ Ok y → ReactionTyped heads t u (g y)) → ReactionTyped heads t u (on_value r g)
  on_value_typed (Ok y) g h = h y refl
  on_value_typed (Err w) g h = tt

  on_test_typed : (r : Result Bool Why) (a b : Reaction) → ReactionTyped heads t u a → ReactionTyped heads t u b → ReactionTyped heads t u (on_test r a b)
  on_test_typed (Ok true) a b h k = h
  on_test_typed (Ok false) a b h k = k
  on_test_typed (Err w) a b h k = tt

  on_number_typed : (r : Result ℕ Why) (g : ℕ → Reaction) → ((n : ℕ) → ReactionTyped heads t u (g n)) → ReactionTyped heads t u (on_number r g)
  on_number_typed (Ok n) g h = h n
  on_number_typed (Err w) g h = tt

  if_typed : (b : Bool) (x y : Reaction) → ReactionTyped heads t u x → ReactionTyped heads t u y → ReactionTyped heads t u (if b then x else y)
  if_typed true x y h k = h
  if_typed false x y h k = k

  chosen : (b : Bool) (x : Tree) → HasType u x → AllTyped u (if b then x ∷ [] else [])
  chosen true x h = (h, tt)
  chosen false x h = tt

  reply_typed : (r : Reply) (w : Work) → AllTyped u r.gave → WorkTyped heads t u w → ReactionTyped heads t u (on_reply r w)
  reply_typed r w a i = by_verdict r.verdict
    where
      by_verdict : (v : Verdict) → ReactionTyped heads t u (elim v as (λ _. Reaction) [ go ↦ gives r.gave w | finish ↦ ends r.gave | fail n ↦ breaks (Plug n) ])
      by_verdict go = (a, i)
      by_verdict finish = a
      by_verdict (fail n) = tt

  -- one more element
  pub reaction_typed : (book : Book) (keeps : KeepsPlugTypes heads book) (w : Work) (x : Tree) → WorkTyped heads t u w → HasType t x → ReactionTyped heads t u (reaction book w x)
  reaction_typed book keeps (mapping g) x i h =
      on_value_typed (map_value g x) (λ y. gives (y ∷ []) (mapping g)) (λ y v. ((retype (map_gives g t) u y i.1 (map_typed g t x y i.0 h v), tt), i))
  reaction_typed book keeps (filtering p true) x i h =
      on_test_typed (pred_value p x) (gives (x ∷ []) (filtering p true)) (gives [] (filtering p true)) ((retype t u x i h, tt), i) (tt, i)
  reaction_typed book keeps (filtering p false) x i h =
      on_test_typed (pred_value p x) (gives [] (filtering p false)) (gives (x ∷ []) (filtering p false)) (tt, i) ((retype t u x i h, tt), i)
  reaction_typed book keeps (taking zero) x i h = tt
  reaction_typed book keeps (taking (suc zero)) x i h = (retype t u x i h, tt)
  reaction_typed book keeps (taking (suc (suc n))) x i h = ((retype t u x i h, tt), i)
  reaction_typed book keeps (taking_while p) x i h = on_test_typed (pred_value p x) (gives (x ∷ []) (taking_while p)) (ends []) ((retype t u x i h, tt), i) tt
  reaction_typed book keeps (dropping zero) x i h = ((retype t u x i h, tt), i)
  reaction_typed book keeps (dropping (suc n)) x i h = (tt, i)
  reaction_typed book keeps (dropping_while p) x i h = on_test_typed (pred_value p x) (gives [] (dropping_while p)) (gives (x ∷ []) passing) (tt, i) ((retype t u x i h, tt), i)
  reaction_typed book keeps passing x i h = ((retype t u x i h, tt), i)
  reaction_typed book keeps (limiting zero) x i h = tt
  reaction_typed book keeps (limiting (suc n)) x i h = ((retype t u x i h, tt), i)
  reaction_typed book keeps (grouping n held) x i h =
      let all = typed_append t held (x ∷ []) i.0 (h, tt) in
      if_typed (nat_le n (length held + 1)) (gives (seq (row (held ++ x ∷ [])) ∷ []) (grouping n [])) (gives [] (grouping n (held ++ x ∷ [])))
      ((retype (seq_type t) u (seq (row (held ++ x ∷ []))) i.1 (typed_row t (held ++ x ∷ []) all), tt), (tt, i.1)) (tt, (all, i.1))
  reaction_typed book keeps (expanding g) x i h = (retype_all (expand_gives g t) u (expansion g x) i.1 (expansion_typed g t x i.0 h), i)
  reaction_typed book keeps (folding g a) x i h =
      on_value_typed (fold_step g a x) (λ b. gives [] (folding g b))
      (λ y v. (tt, (retype (fold_gives g t) u y i.1 (step_typed g t a x y (retype u (fold_gives g t) a (sym i.1) i.0) h v), i.1)))
  reaction_typed book keeps (scanning g a) x i h =
      on_value_typed (fold_step g a x) (λ b. gives (b ∷ []) (scanning g b))
      (λ y v.
      let next = retype (fold_gives g t) u y i.1 (step_typed g t a x y (retype u (fold_gives g t) a (sym i.1) i.0) h v) in
      ((next, tt), (next, i.1)))
  reaction_typed book keeps (reducing g None) x i h = (tt, (h, i.1, i.2))
  reaction_typed book keeps (reducing g (Some a)) x i h =
      on_value_typed (reduce_step g a x) (λ b. gives [] (reducing g (Some b))) (λ y v. (tt, (reduced_typed g t a x y i.1 i.0 h v, i.1, i.2)))
  reaction_typed book keeps heading x i h = (retype t u x i h, tt)
  reaction_typed book keeps (lasting held) x i h = (tt, (h, i.1))
  reaction_typed book keeps (numbering n g k) x i h =
      on_number_typed (part_of n (map_value g x)) (λ m. gives (if m == k then x ∷ [] else []) (numbering n g k)) (λ m. (chosen (m == k) x (retype t u x i h), i))
  reaction_typed book keeps (plugged name taken) x i h =
      let y : HasType i.plug.input x = retype t i.plug.input x i.takes h in
      reply_typed (book.reply name taken x) (plugged name (taken ++ x ∷ [])) (retype_all i.plug.output u (book.reply name taken x).gave i.gives (keeps.reply name i.plug i.named taken x i.held y))
      (record { plug = i.plug; named = i.named; held = typed_append i.plug.input taken (x ∷ []) i.held (y, tt); takes = i.takes; gives = i.gives })

  -- from its start again
  restarted_typed : (w : Work) → WorkTyped heads t u w → WorkTyped heads t u (restarted w)
  restarted_typed (folding g a) i = (retype (fold_gives g t) u (fold_zero g) i.1 (zero_typed g t), i.1)
  restarted_typed (scanning g a) i = (retype (fold_gives g t) u (fold_zero g) i.1 (zero_typed g t), i.1)
  restarted_typed (reducing g a) i = (tt, i.1, i.2)
  restarted_typed _ i = i

  first_typed : (w : Work) → WorkTyped heads t u w → AllTyped u (first_of w)
  first_typed (scanning g a) i = (i.0, tt)
  first_typed _ i = tt

  -- ---- as a stage

  -- where it stands, and what it gave
  abbrev pub RunTyped : Run Stage Tree → Type 0
  RunTyped x = RunKeeps (λ (s : Stage). WorkTyped heads t u s.work) (HasType u) x

  decided_typed : (d : Decider) (s : Stage) (why : Why) → WorkTyped heads t u s.work → RunTyped (decided d s why)
  decided_typed Stop s why i = record { gave = tt; state = tt }
  decided_typed Resume s why i = record { gave = tt; state = i }
  decided_typed Restart s why i =
      let again = restarted_typed s.work i in
      record { gave = first_typed (restarted s.work) again; state = again }

  reacts_typed : (s : Stage) (r : Reaction) → WorkTyped heads t u s.work → ReactionTyped heads t u r → RunTyped (reacts s r)
  reacts_typed s (gives o w) i h = record { gave = h.0; state = h.1 }
  reacts_typed s (ends o) i h = record { gave = h; state = tt }
  reacts_typed s (blames why) i h = decided_typed s.decider s why i
  reacts_typed s (breaks why) i h = record { gave = tt; state = tt }

  pub stage_step_typed : (book : Book) (keeps : KeepsPlugTypes heads book) (s : Stage) (x : Tree) → WorkTyped heads t u s.work → HasType t x → RunTyped (step book s x)
  stage_step_typed book keeps s x i h = reacts_typed s (reaction book s.work x) i (reaction_typed book keeps s.work x i h)

  -- at the end of its input
  abbrev FinishTyped : Finish Tree → Type 0
  FinishTyped f = FinishKeeps {S = Stage} (λ (s : Stage). WorkTyped heads t u s.work) (HasType u) f

  closing_typed : (r : Reply) (stops : ℕ → Finish Tree) → ((n : ℕ) → FinishTyped (stops n)) → AllTyped u r.gave
      → FinishTyped (elim r.verdict as (λ _. Finish Tree) [ go ↦ adds r.gave | finish ↦ adds r.gave | fail n ↦ stops n ])
  closing_typed r stops h a = by_verdict r.verdict
    where
      by_verdict : (v : Verdict) → FinishTyped (elim v as (λ _. Finish Tree) [ go ↦ adds r.gave | finish ↦ adds r.gave | fail n ↦ stops n ])
      by_verdict go = a
      by_verdict finish = a
      by_verdict (fail n) = h n

  pub finish_typed : (book : Book) (keeps : KeepsPlugTypes heads book) (s : Stage) (w : Work) → WorkTyped heads t u w → FinishTyped (finish_of book s w)
  finish_typed book keeps s (grouping n []) i = tt
  finish_typed book keeps s (grouping n (x ∷ held)) i = (retype (seq_type t) u (seq (row (x ∷ held))) i.1 (typed_row t (x ∷ held) i.0), tt)
  finish_typed book keeps s (folding g a) i = (i.0, tt)
  finish_typed book keeps s (reducing g None) i = tt
  finish_typed book keeps s (reducing g (Some a)) i = (retype t u a i.2 i.0, tt)
  finish_typed book keeps s heading i = tt
  finish_typed book keeps s (lasting None) i = tt
  finish_typed book keeps s (lasting (Some a)) i = (retype t u a i.1 i.0, tt)
  finish_typed book keeps s (plugged name taken) i =
      closing_typed (book.closing name taken) (λ n. refuses (blame_end s (Plug n))) (λ n. tt) (retype_all i.plug.output u (book.closing name taken).gave i.gives (keeps.closing name i.plug i.named taken i.held))
  finish_typed book keeps s _ i = tt

  -- at its beginning
  pub begin_typed : (node : ℕ) (d : Decider) (w : Work) → WorkTyped heads t u w → RunTyped (begin_work node d w)
  begin_typed node d (taking zero) i = record { gave = tt; state = tt }
  begin_typed node d (taking (suc n)) i = record { gave = tt; state = i }
  begin_typed node d (scanning g a) i = record { gave = (i.0, tt); state = i }
  begin_typed node d _ i = record { gave = tt; state = i }
