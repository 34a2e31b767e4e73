-- Looks for the files of nodes, one after the other.
use Rattle.std.proofs.Common.{◌≡◌, ◌≢◌, ◌∙◌, ◌⊎◌, ◌&&◌, ◌≤◌, ◌<◌, ◌+◌, inl, inr, ℕ, Bool, true, false, List, [], drop, length, get_or, refl, sym, ap, subst, arith}
use Rattle.std.specs.Prelude.{IsTrue, Option, Some, None, is_some}
use Rattle.std.proofs.lemmas.List.{at_drop_more}
use Rattle.stream_model.specs.declared.blueprint.Blueprint.{Blueprint}
use Rattle.stream_model.specs.declared.blueprint.Node.{Node}
use Rattle.stream_model.specs.Shape.{IsPolytree}
use Rattle.blue_check.specs.Forest.{wiring}
use Rattle.blue_check.specs.Wires.{blueprint_wires}
use Rattle.workbench_draw.specs.Judging.{IsFitText}
use Rattle.stream_io.specs.Counts.{last_count, Rose}
use Rattle.stream_io.specs.State.{SourceState, FolderState, SameFiles, SameRefusals, RefusesName, LacksFile, ClosesSource}
use Rattle.stream_io.proofs.Counts.{same_name}
use Rattle.stream_io.proofs.Quiets.{files_two, tells_behind}
use Rattle.workbench_top.specs.Files.{read_by, has_named, has_files, HasRefused, LacksNamed, MissesOne, OpensFiles, ChecksFiles}
use Rattle.workbench_top.specs.declared.answer.Answer.{Answer}
use Rattle.workbench_top.specs.declared.answer.Ending.TheVariants as ending

-- a folder whose files no step changed has a file as before
named_same : (s t : FolderState) (o : Option (List ℕ)) → SameFiles s t → IsTrue s.tells → has_named t o ≡ has_named s o
named_same s t None same tells = refl
named_same s t (Some name) same tells = ap is_some (same.files tells name)

-- the files of the nodes that are left are that of the next, and those behind it
rest_more : (s : FolderState) (nodes : List Node) (i : ℕ) (n : Node) → i < length nodes → n ≡ get_or nodes i n → has_files s (drop i nodes) ≡ (has_named s (read_by n.kind) && has_files s (drop (i + 1) nodes))
rest_more s nodes i n lt at = at_drop_more (has_files s) nodes i n lt ∙ ap (λ (x : Node). has_named s (read_by x.kind) && has_files s (drop (i + 1) nodes)) (sym at)

-- no count of refusals falls
pub refuses_rises : (s t : FolderState) (name n : List ℕ) → RefusesName s t name → s.refusals n ≤ t.refusals n
refuses_rises s t name n refuses = elim (same_name n name) [
  | inl e ↦ subst (λ m. s.refusals m ≤ t.refusals m) (sym e) refuses.stays
  | inr differs ↦ omega (arith, refuses.others n differs)
]

-- what is known once some nodes were looked at
pub record Looked (s t : FolderState) (nodes left : List Node) (all : Bool) (before out : List ℕ) : Type 0 where
  pub files : SameFiles s t
  pub left_is : all ≡ true → IsTrue s.tells → has_files s nodes ≡ has_files s left
  pub refusals : all ≡ true → SameRefusals s t
  pub told : all ≡ true → out ≡ before
  pub rises : (n : List ℕ) → s.refusals n ≤ t.refusals n
  pub missing : all ≡ false → MissesOne nodes s t

-- a refusal stays one
refused_more : (s t u : FolderState) → ((n : List ℕ) → t.refusals n ≤ u.refusals n) → HasRefused s t → HasRefused s u
refused_more s t u rises r = record {
  name = r.name;
  rose = λ below.
      let before : t.refusals r.name < last_count = omega (arith, rises r.name, below) in
      omega (arith, r.rose before, rises r.name);
}

refused_later : (s t u : FolderState) → ((n : List ℕ) → s.refusals n ≤ t.refusals n) → HasRefused t u → HasRefused s u
refused_later s t u rises r = record { name = r.name; rose = λ below. omega (arith, r.rose below, rises r.name) }

misses_more : (s t u : FolderState) (nodes : List Node) → ((n : List ℕ) → t.refusals n ≤ u.refusals n) → MissesOne nodes s t → MissesOne nodes s u
misses_more s t u nodes rises misses = elim misses [
  | inl lacks ↦ inl lacks
  | inr refused ↦ inr (refused_more s t u rises refused)
]

-- the file of one more node was opened
pub opened_more : (s t u : FolderState) (nodes : List Node) (i : ℕ) (n : Node) (all : Bool) (before out new : List ℕ) → i < length nodes → n ≡ get_or nodes i n
    → Looked s t nodes (drop i nodes) all before out → (IsTrue t.tells → has_named t (read_by n.kind) ≡ true) → SameRefusals t u → new ≡ out → SameFiles t u
    → Looked s u nodes (drop (i + 1) nodes) all before new
opened_more s t u nodes i n all before out new lt at known there refusals is same = record {
  files = files_two s t u known.files same;
  left_is = λ a tells. known.left_is a tells ∙ (rest_more s nodes i n lt at
      ∙ ap (λ b. b && has_files s (drop (i + 1) nodes)) (sym (named_same s t (read_by n.kind) known.files tells) ∙ there (tells_behind s t known.files tells)));
  refusals = λ a m. refusals m ∙ known.refusals a m;
  told = λ a. is ∙ known.told a;
  rises = λ m. subst (λ x. s.refusals m ≤ x) (sym (refusals m)) (known.rises m);
  missing = λ a. misses_more s t u nodes (λ m. omega (arith, refusals m)) (known.missing a);
}

first_missing : (s t u : FolderState) (nodes : List Node) (i : ℕ) (n : Node) (all : Bool) (before out : List ℕ) → i < length nodes → n ≡ get_or nodes i n
    → Looked s t nodes (drop i nodes) all before out → LacksNamed (read_by n.kind) t u → ((m : List ℕ) → t.refusals m ≤ u.refusals m) → MissesOne nodes s u
first_missing s t u nodes i n false before out lt at known lacks rises = misses_more s t u nodes rises (known.missing refl)
first_missing s t u nodes i n true before out lt at known lacks rises = elim lacks [
  | inl l ↦ (let tells : IsTrue s.tells = subst (λ b. IsTrue b) known.files.telling l.0 in
      inl (
        tells,
        known.left_is refl tells ∙ (rest_more s nodes i n lt at
            ∙ ap (λ b. b && has_files s (drop (i + 1) nodes)) (sym (named_same s t (read_by n.kind) known.files tells) ∙ l.1)),
      ))
  | inr refused ↦ inr (refused_later s t u known.rises refused)
]

-- the file of one more node was not opened
pub missing_more : (s t u : FolderState) (nodes : List Node) (i : ℕ) (n : Node) (all : Bool) (before out new : List ℕ) → i < length nodes → n ≡ get_or nodes i n
    → Looked s t nodes (drop i nodes) all before out → LacksNamed (read_by n.kind) t u → ((m : List ℕ) → t.refusals m ≤ u.refusals m) → SameFiles t u
    → Looked s u nodes (drop (i + 1) nodes) false before new
missing_more s t u nodes i n all before out new lt at known lacks rises same = record {
  files = files_two s t u known.files same;
  left_is = λ a. absurd cc;
  refusals = λ a. absurd cc;
  told = λ a. absurd cc;
  rises = λ m. omega (arith, known.rises m, rises m);
  missing = λ _. first_missing s t u nodes i n all before out lt at known lacks rises;
}

-- each file was opened
pub opened_all : (s t : FolderState) (nodes left : List Node) (all : Bool) (before out : List ℕ) → left ≡ [] → Looked s t nodes left all before out → all ≡ true → OpensFiles nodes s t
opened_all s t nodes left all before out none known a = record {
  there = λ tells. known.left_is a tells ∙ ap (has_files s) none;
  refusals = known.refusals a;
}

-- ---- one file

-- no count of refusals falls where a file was opened and closed
pub closed_rises : (s t u : FolderState) (h : SourceState) → SameRefusals s t → ClosesSource t u h → (n : List ℕ) → s.refusals n ≤ u.refusals n
closed_rises s t u h same closed n = omega (arith, closed.refusals n, same n)

pub closed_same : (s t u : FolderState) (h : SourceState) → SameRefusals s t → ClosesSource t u h → SameRefusals s u
closed_same s t u h same closed = λ n. closed.refusals n ∙ same n

-- a file that was not opened
pub named_missing : (s t : FolderState) (name : List ℕ) → LacksFile s name ⊎ Rose (s.refusals name) (t.refusals name) → LacksNamed (Some name) s t
named_missing s t name why = elim why [
  | inl lacks ↦ inl (lacks.0, ap is_some lacks.1)
  | inr rose ↦ inr (record { name = name; rose = rose })
]

-- ---- the answers

-- each file was opened
pub finds : (text file before told : List ℕ) (b : Blueprint) (old new : FolderState) (a : Answer) → IsFitText text file b → a.ending ≡ ending.Done → a.said.items ≡ [] → a.told.items ≡ told
    → told ≡ before → (IsPolytree (wiring (blueprint_wires b)) → before ≡ []) → OpensFiles b.nodes.items old new → ChecksFiles text file old new a
finds text file before told b old new a fit done said is same none opens = inl (record {
  passes = record { ending = done; blueprint = b; fit = fit; said = said; told = λ tree. is ∙ (same ∙ none tree) };
  opens = opens;
})

-- a file is missing
pub misses : (text file : List ℕ) (b : Blueprint) (old new : FolderState) (a : Answer) → IsFitText text file b → a.ending ≡ ending.Missing → a.said.items ≡ []
    → MissesOne b.nodes.items old new → ChecksFiles text file old new a
misses text file b old new a fit missing said one = inr (inl (record { ending = missing; blueprint = b; fit = fit; said = said; misses = one }))
