-- What came of reading the file of moves, and what is told of a run by them where another file was read before.
use Rattle.std.proofs.Common.{◌≡◌, ◌≢◌, ℕ, zero, suc, ◌<◌, ◌≤◌, List, [], ◌∷◌, ◌++◌, length, map, take, ◌⊎◌, inl, inr, refl, sym, ap, ◌∙◌, subst, arith, length-take}
use Rattle.std.specs.Prelude.{replicate, IsTrue, Option, Some, None, Result, Ok, Err}
use Rattle.std.specs.List.{Contains}
use Rattle.std.specs.Option.{option_map, option_to_list}
use Rattle.std.specs.declared.vec.Vec.{Vec}
use Rattle.std.specs.declared.alloc.Global.{Global}
use Rattle.std.proofs.lemmas.List.{take_all}
use Rattle.stream_io.specs.Counts.{Grew, GrewAtMost}
use Rattle.stream_io.specs.Quiet.{Quiet}
use Rattle.stream_io.specs.State.{FolderState, SameFiles}
use Rattle.stream_io.specs.Text.{ReadsUpTo}
use Rattle.stream_io.proofs.Counts.{grew_same, quiet_same}
use Rattle.stream_io.proofs.Quiets.{files_two, most_later, tells_before, tells_behind}
use Rattle.stream_model.specs.declared.blueprint.Blueprint.{Blueprint}
use Rattle.stream_model.specs.declared.blueprint.Node.{Node}
use Rattle.plan_reader.specs.Plans.{IsFault}
use Rattle.materializer.specs.Choosers.{NoneFollow, choosers_in, moves_of}
use Rattle.materializer.specs.Files.{inputs_of_nodes}
use Rattle.run_report.specs.Answer.{Answer}
use Rattle.run_report.specs.declared.outcome.Status.{Status}
use Rattle.run_report.specs.declared.outcome.Status.TheVariants as status
use Rattle.stream_command.specs.Asked.{Plugged}
use Rattle.stream_command.specs.Outcome.{Blank, RanNothing, IsAbsent, EndedRun, EndedReplay, EndedChecked, FollowsFile, IsBadTrace, QuietButAll, ReadsMost, RunCauses, plan_limit}
use Rattle.stream_command.specs.Replays.{IsReadApart, ReadsMoves, ReadsPlans, SaysOf, plans_status}
use Rattle.stream_command.specs.Texts.{CausesChecked, CausesReplay}
use Rattle.stream_command.specs.declared.replays.PlansEnd.{PlansEnd}
use Rattle.stream_command.specs.declared.replays.PlansEnd.TheVariants.{Missing, ReadFault, BadTrace, NoMemory}
use Rattle.stream_command.proofs.ReadBefore.{ReadOne, read_one, grew_from, rose_later, absent_later, run_later, causes_later}

-- ---- counts of reads

-- of no other file anything was read
pub unread_but : (file : List ℕ) (old new : List ℕ → ℕ) → ((n : List ℕ) → n ≢ file → new n ≡ old n) → QuietButAll (file ∷ []) old new
unread_but file old new same n never = grew_same _ _ (same n (λ e. never (0, omega arith, sym e)))

-- what was read since that file was, and the file itself
pub reads_since : (file : List ℕ) (names : List (List ℕ)) (old mid new : List ℕ → ℕ) → ((n : List ℕ) → n ≢ file → mid n ≡ old n) → QuietButAll names mid new → QuietButAll (file ∷ names) old new
reads_since file names old mid new same quiet n never =
    grew_from (old n) (mid n) (new n) 0 (same n (λ e. never (0, omega arith, sym e)))
    (quiet n (λ c. let at : c.0 < length names = c.1 in never (suc c.0, omega (arith, at), c.2)))

-- ---- a file was read before

pub nothing_later : (old mid new : FolderState) → SameFiles old mid → (a : Answer) → RanNothing mid new a → RanNothing old new a
nothing_later old mid new same a h = record { files = files_two old mid new same h.files; blank = h.blank }

pub follows_later : (old mid : FolderState) → SameFiles old mid → IsTrue old.tells → (replay : Option (List ℕ)) (nodes : List Node) (plans : List (Option (List ℕ))) → FollowsFile mid replay nodes plans → FollowsFile old replay nodes plans
follows_later old mid same tells None nodes plans h = h
follows_later old mid same tells (Some name) nodes plans h = (h.0, (sym (same.files tells name) ∙ h.1.0, h.1.1))

module _ (plugged : Plugged) (old mid new : FolderState) (file : List ℕ) (r : ReadOne old mid file) (b : Blueprint) (trace replay : Option (List ℕ)) (apart : Contains (inputs_of_nodes b.nodes.items) file → ⊥) (turns : ℕ) (a : Answer) (tells : IsTrue old.tells) where
  replay_later : (s : Status) (moves : Option (List ℕ)) → EndedReplay s a b.nodes.items moves mid new → EndedReplay s a b.nodes.items moves old new
  replay_later (status.Missing n) (Some f) h = (nothing_later old mid new r.files a h.0, h.1, absent_later old mid new f r.files r.refusals h.2)
  replay_later status.ReadFault (Some f) h = (nothing_later old mid new r.files a h.0, rose_later (old.rfaults f) (mid.rfaults f) (new.rfaults f) (r.rfaults f) h.1)
  replay_later (status.BadTrace line) (Some f) h = (nothing_later old mid new r.files a h.0, (h.1.0, (sym (r.files.files tells f) ∙ h.1.1.0, h.1.1.1)))
  replay_later status.NoMemory moves h = nothing_later old mid new r.files a h
  replay_later (status.Missing n) None h = absurd h
  replay_later status.ReadFault None h = absurd h
  replay_later (status.BadTrace line) None h = absurd h
  replay_later status.Done moves h = absurd h
  replay_later status.StreamFailed moves h = absurd h
  replay_later status.Stalled moves h = absurd h
  replay_later status.OutOfTurns moves h = absurd h
  replay_later (status.Misfit stage place) moves h = absurd h
  replay_later status.WriteFault moves h = absurd h
  replay_later status.Usage moves h = absurd h
  replay_later (status.Refused f) moves h = absurd h
  replay_later (status.Unfit f) moves h = absurd h

  -- what a blueprint that breaks no rule comes to is told of the folder before that file was read
  pub checked_later : (s : Status) → EndedChecked plugged s a b trace replay turns mid new → EndedChecked plugged s a b trace replay turns old new
  checked_later s (inl h) = inl (replay_later s replay h)
  checked_later s (inr h) = inr (h.0, (follows_later old mid r.files tells replay b.nodes.items h.0 h.1.0, run_later plugged old mid new file r b h.0 trace apart turns a tells s h.1.1))

-- ---- the text of the file of moves

whole_of : (o : Option (List ℕ)) (t : List ℕ) → option_map (λ (w : List ℕ). take plan_limit w) o ≡ Some t → (whole : List ℕ) × ((o ≡ Some whole) × (t ≡ take plan_limit whole))
whole_of None t e = cc
whole_of (Some whole) t e = (whole, (refl, cc))

-- a text that is short enough is the whole file
short_whole : (whole t : List ℕ) → t ≡ take plan_limit whole → length t < plan_limit → t ≡ whole
short_whole whole t e short =
    let l : length t ≡ length (take plan_limit whole) = ap length e in
    let small : length whole ≤ plan_limit = omega (arith, l, short, length-take plan_limit whole) in
    e ∙ take_all plan_limit whole small

-- a file of moves that is too long, or is at fault
bad_whole : (nodes : List Node) (line : ℕ) (whole t : List ℕ) → t ≡ take plan_limit whole → IsBadTrace t nodes line → IsBadTrace whole nodes line
bad_whole nodes line whole t e (inl h) =
    let l : length t ≡ length (take plan_limit whole) = ap length e in
    let long : plan_limit ≤ length t = h.1 in
    inl (h.0, omega (arith, l, long, length-take plan_limit whole))
bad_whole nodes line whole t e (inr h) = subst (λ (x : List ℕ). IsBadTrace x nodes line) (short_whole whole t e h.0) (inr h)

-- what came of the text that was read
pub reads_said : (old new : FolderState) (name text : List ℕ) (nodes : List Node) (r : Result (Vec (Option (Vec ℕ Global)) Global) PlansEnd) → ReadsUpTo plan_limit old new name text → SaysOf text nodes r → ReadsMoves old new name nodes r
reads_said old new name text nodes (Ok plans) h says = (text, (h, says))
reads_said old new name text nodes (Err (BadTrace line)) h says = (text, (h, says))
reads_said old new name text nodes (Err NoMemory) h says = record { files = h.files; read = h.read; refusals = h.refusals; rfaults = h.rfaults; wfaults = h.wfaults }
reads_said old new name text nodes (Err Missing) h says = absurd says
reads_said old new name text nodes (Err ReadFault) h says = absurd says

nothing_here : (old mid : FolderState) (a : Answer) → SameFiles old mid → Blank a → RanNothing old mid a
nothing_here old mid a same blank = record { files = same; blank = blank }

same_files : (old mid : FolderState) → mid ≡ old → SameFiles old mid
same_files old mid e = subst (λ (f : FolderState). SameFiles old f) (sym e) (record { telling = refl; files = λ h n. refl })

-- ---- there were no moves to follow

ended_by : (replay : Option (List ℕ)) (nodes : List Node) (end : PlansEnd) (a : Answer) (old mid : FolderState) → ReadsPlans old mid replay nodes (Err end) → IsTrue old.tells → Blank a → EndedReplay (plans_status replay end) a nodes replay old mid
ended_by None nodes Missing a old mid h tells blank = absurd (let z : Missing ≡ NoMemory = h.1 in cc)
ended_by None nodes ReadFault a old mid h tells blank = absurd (let z : ReadFault ≡ NoMemory = h.1 in cc)
ended_by None nodes (BadTrace line) a old mid h tells blank = absurd (let z : BadTrace line ≡ NoMemory = h.1 in cc)
ended_by None nodes NoMemory a old mid h tells blank = nothing_here old mid a (same_files old mid h.0) blank
ended_by (Some name) nodes Missing a old mid h tells blank = (nothing_here old mid a h.files blank, refl, h.why)
ended_by (Some name) nodes ReadFault a old mid h tells blank = (nothing_here old mid a h.files blank, h.rose)
ended_by (Some name) nodes (BadTrace line) a old mid h tells blank =
    let w = whole_of (old.file name) h.0 (h.1.0.text_is tells) in
    (nothing_here old mid a h.1.0.files blank, (w.0, (w.1.0, bad_whole nodes line w.0 h.0 w.1.1 h.1.1)))
ended_by (Some name) nodes NoMemory a old mid h tells blank = nothing_here old mid a h.files blank

pub ended_checked : (plugged : Plugged) (b : Blueprint) (trace replay : Option (List ℕ)) (turns : ℕ) (end : PlansEnd) (a : Answer) (s : Status) (old mid : FolderState) → ReadsPlans old mid replay b.nodes.items (Err end) → Blank a → s ≡ plans_status replay end → IsTrue old.tells
    → EndedChecked plugged s a b trace replay turns old mid
ended_checked plugged b trace replay turns end a s old mid h blank is tells = inl (subst (λ (x : Status). EndedReplay x a b.nodes.items replay old mid) (sym is) (ended_by replay b.nodes.items end a old mid h tells blank))

-- of no other file anything was read
none_read : (old mid : FolderState) (replay : Option (List ℕ)) (nodes : List Node) (names : List (List ℕ)) (end : PlansEnd) → ReadsPlans old mid replay nodes (Err end) → QuietButAll (option_to_list replay ++ names) old.read mid.read
none_read old mid None nodes names end h = λ n never. quiet_same old.read mid.read (λ m. ap (λ (f : FolderState). f.read m) h.0) n
none_read old mid (Some name) nodes names Missing h = λ n never. quiet_same old.read mid.read h.read n
none_read old mid (Some name) nodes names ReadFault h = reads_since name names old.read mid.read mid.read h.read (λ n never. grew_same (mid.read n) (mid.read n) refl)
none_read old mid (Some name) nodes names (BadTrace line) h = reads_since name names old.read mid.read mid.read h.1.0.read (λ n never. grew_same (mid.read n) (mid.read n) refl)
none_read old mid (Some name) nodes names NoMemory h = reads_since name names old.read mid.read mid.read h.read (λ n never. grew_same (mid.read n) (mid.read n) refl)

raised_by : (replay : Option (List ℕ)) (nodes : List Node) (end : PlansEnd) (old mid : FolderState) → ReadsPlans old mid replay nodes (Err end) → CausesReplay (plans_status replay end) replay old mid
raised_by None nodes Missing old mid h = absurd (let z : Missing ≡ NoMemory = h.1 in cc)
raised_by None nodes ReadFault old mid h = absurd (let z : ReadFault ≡ NoMemory = h.1 in cc)
raised_by None nodes (BadTrace line) old mid h = absurd (let z : BadTrace line ≡ NoMemory = h.1 in cc)
raised_by None nodes NoMemory old mid h = (
  quiet_same old.refusals mid.refusals (λ n. ap (λ (f : FolderState). f.refusals n) h.0),
  quiet_same old.rfaults mid.rfaults (λ n. ap (λ (f : FolderState). f.rfaults n) h.0),
  quiet_same old.wfaults mid.wfaults (λ n. ap (λ (f : FolderState). f.wfaults n) h.0),
  λ n never. quiet_same old.read mid.read (λ m. ap (λ (f : FolderState). f.read m) h.0) n,
)
raised_by (Some name) nodes Missing old mid h = (refl, h.why, h.refusals, h.rfaults, h.wfaults, quiet_same old.read mid.read h.read)
raised_by (Some name) nodes ReadFault old mid h = (h.refusals, (name, (refl, h.rose, h.rfaults)), h.wfaults, unread_but name old.read mid.read h.read)
raised_by (Some name) nodes (BadTrace line) old mid h = (refl, h.1.0.refusals, h.1.0.rfaults, h.1.0.wfaults, unread_but name old.read mid.read h.1.0.read)
raised_by (Some name) nodes NoMemory old mid h = (h.refusals, h.rfaults, h.wfaults, unread_but name old.read mid.read h.read)

pub raised_checked : (plugged : Plugged) (b : Blueprint) (trace replay : Option (List ℕ)) (turns : ℕ) (end : PlansEnd) (a : Answer) (s : Status) (old mid : FolderState) → ReadsPlans old mid replay b.nodes.items (Err end) → s ≡ plans_status replay end → CausesChecked plugged s a b trace replay turns old mid
raised_checked plugged b trace replay turns end a s old mid h is = inl (subst (λ (x : Status). CausesReplay x replay old mid) (sym is) (raised_by replay b.nodes.items end old mid h))

-- ---- there were

none_follow : (n : ℕ) → NoneFollow (replicate n None)
none_follow zero = tt
none_follow (suc n) = (refl, none_follow n)

module _ (plugged : Plugged) (old mid new : FolderState) (b : Blueprint) (trace : Option (List ℕ)) (plans : Vec (Option (Vec ℕ Global)) Global) (turns : ℕ) (a : Answer) (s : Status) where
  abbrev By : List (Option (List ℕ))
  By = map moves_of plans.items

  follows_of : (replay : Option (List ℕ)) → ReadsPlans old mid replay b.nodes.items (Ok plans) → IsTrue old.tells → FollowsFile old replay b.nodes.items By
  follows_of None h tells = h.1
  follows_of (Some name) h tells =
      let w = whole_of (old.file name) h.0 (h.1.0.text_is tells) in
      let short : length h.0 < plan_limit = h.1.1.0 in
      let is : h.0 ≡ w.0 = short_whole w.0 h.0 w.1.1 short in
      (h.0, (w.1.0 ∙ ap Some (sym is), (short, h.1.1.1)))

  -- the run by these moves
  pub told_checked : (replay : Option (List ℕ)) → ReadsPlans old mid replay b.nodes.items (Ok plans) → IsReadApart b replay → (IsTrue mid.tells → EndedRun plugged s a b By trace turns mid new) → IsTrue old.tells → EndedChecked plugged s a b trace replay turns old new
  told_checked None h apart run tells =
      inr (By, (follows_of None h tells, subst (λ (f : FolderState). EndedRun plugged s a b By trace turns f new) h.0 (run (subst (λ (f : FolderState). IsTrue f.tells) (sym h.0) tells))))
  told_checked (Some name) h apart run tells =
      inr (By, (follows_of (Some name) h tells, run_later plugged old mid new name (read_one plan_limit old mid name h.0 h.1.0) b By trace (apart name refl) turns a tells s (run (tells_behind old mid h.1.0.files tells))))

  pub tells_checked : (replay : Option (List ℕ)) → ReadsPlans old mid replay b.nodes.items (Ok plans) → IsTrue mid.tells → IsTrue old.tells
  tells_checked None h tells = subst (λ (f : FolderState). IsTrue f.tells) h.0 tells
  tells_checked (Some name) h tells = tells_before old mid h.1.0.files tells

  pub reads_moved : (replay : Option (List ℕ)) → ReadsPlans old mid replay b.nodes.items (Ok plans) → QuietButAll (inputs_of_nodes b.nodes.items) mid.read new.read → QuietButAll (option_to_list replay ++ inputs_of_nodes b.nodes.items) old.read new.read
  reads_moved None h quiet = subst (λ (f : FolderState). QuietButAll (inputs_of_nodes b.nodes.items) f.read new.read) h.0 quiet
  reads_moved (Some name) h quiet = reads_since name (inputs_of_nodes b.nodes.items) old.read mid.read new.read h.1.0.read quiet

  pub causes_checked : (replay : Option (List ℕ)) → ReadsPlans old mid replay b.nodes.items (Ok plans) → QuietButAll (inputs_of_nodes b.nodes.items) mid.read new.read → RunCauses plugged s a b By trace turns mid new → CausesChecked plugged s a b trace replay turns old new
  causes_checked None h quiet c = inr (record {
    plans = By;
    follows = follows_of None h;
    free = λ e. subst NoneFollow (sym h.1) (none_follow (length b.nodes.items));
    reads = reads_moved None h quiet;
    causes = subst (λ (f : FolderState). RunCauses plugged s a b By trace turns f new) h.0 c;
  })
  causes_checked (Some name) h quiet c = inr (record {
    plans = By;
    follows = follows_of (Some name) h;
    free = λ e. absurd (let z : Some name ≡ None = e in cc);
    reads = reads_moved (Some name) h quiet;
    causes = causes_later plugged old mid new name (read_one plan_limit old mid name h.0 h.1.0) b By trace turns a s c;
  })

  -- how much of the file of moves was read
  pub moves_read : (replay : Option (List ℕ)) → ((t : List ℕ) → replay ≡ Some t → GrewAtMost (old.read t) plan_limit (mid.read t)) → IsReadApart b replay → QuietButAll (inputs_of_nodes b.nodes.items) mid.read new.read → ReadsMost replay old.read new.read
  moves_read replay most apart quiet t e = most_later (old.read t) (mid.read t) (new.read t) plan_limit (most t e) (quiet t (apart t e))

-- ---- where the names and the nodes are lent

reads_as : (old mid : FolderState) (lent replay : Option (List ℕ)) (nodes : List Node) (b : Blueprint) (r : Result (Vec (Option (Vec ℕ Global)) Global) PlansEnd) → lent ≡ replay → nodes ≡ b.nodes.items → ReadsPlans old mid lent nodes r → ReadsPlans old mid replay b.nodes.items r
reads_as old mid lent replay nodes b r e f h = subst (λ (o : Option (List ℕ)). ReadsPlans old mid o b.nodes.items r) e (subst (λ (ns : List Node). ReadsPlans old mid lent ns r) f h)

module _ (plugged : Plugged) (old mid new : FolderState) (b checked : Blueprint) (trace lent replay : Option (List ℕ)) (nodes : List Node) (turns : ℕ) (a : Answer) (s : Status) (same : b ≡ checked) (named : lent ≡ replay) (listed : nodes ≡ b.nodes.items) where
  -- there were no moves
  pub without_told : (end : PlansEnd) → ReadsPlans old mid lent nodes (Err end) → Blank a → s ≡ plans_status replay end → IsTrue old.tells → EndedChecked plugged s a checked trace replay turns old mid
  without_told end h blank is tells =
      subst (λ (x : Blueprint). EndedChecked plugged s a x trace replay turns old mid) same
      (ended_checked plugged b trace replay turns end a s old mid (reads_as old mid lent replay nodes b (Err end) named listed h) blank is tells)

  pub without_raised : (end : PlansEnd) → ReadsPlans old mid lent nodes (Err end) → s ≡ plans_status replay end → CausesChecked plugged s a checked trace replay turns old mid
  without_raised end h is =
      subst (λ (x : Blueprint). CausesChecked plugged s a x trace replay turns old mid) same
      (raised_checked plugged b trace replay turns end a s old mid (reads_as old mid lent replay nodes b (Err end) named listed h) is)

  pub without_reads : (end : PlansEnd) → ReadsPlans old mid lent nodes (Err end) → QuietButAll (option_to_list replay ++ inputs_of_nodes checked.nodes.items) old.read mid.read
  without_reads end h = subst (λ (o : Option (List ℕ)). QuietButAll (option_to_list o ++ inputs_of_nodes checked.nodes.items) old.read mid.read) named (none_read old mid lent nodes (inputs_of_nodes checked.nodes.items) end h)

  pub without_tells : (end : PlansEnd) → ReadsPlans old mid lent nodes (Err end) → IsTrue mid.tells → IsTrue old.tells
  without_tells end h tells = by lent end h
    where
      by : (moves : Option (List ℕ)) (e : PlansEnd) → ReadsPlans old mid moves nodes (Err e) → IsTrue old.tells
      by None e r = subst (λ (f : FolderState). IsTrue f.tells) r.0 tells
      by (Some name) Missing r = tells_before old mid r.files tells
      by (Some name) ReadFault r = tells_before old mid r.files tells
      by (Some name) (BadTrace line) r = tells_before old mid r.1.0.files tells
      by (Some name) NoMemory r = tells_before old mid r.files tells

  -- there were
  module _ (plans : Vec (Option (Vec ℕ Global)) Global) (h : ReadsPlans old mid lent nodes (Ok plans)) where
    own : ReadsPlans old mid replay b.nodes.items (Ok plans)
    own = reads_as old mid lent replay nodes b (Ok plans) named listed h

    pub run_told : IsReadApart checked replay → (IsTrue mid.tells → EndedRun plugged s a b (map moves_of plans.items) trace turns mid new) → IsTrue old.tells → EndedChecked plugged s a checked trace replay turns old new
    run_told apart run tells =
        subst (λ (x : Blueprint). EndedChecked plugged s a x trace replay turns old new) same
        (told_checked plugged old mid new b trace plans turns a s replay own (subst (λ (x : Blueprint). IsReadApart x replay) (sym same) apart) run tells)

    pub run_tells : IsTrue mid.tells → IsTrue old.tells
    run_tells tells = tells_checked plugged old mid new b trace plans turns a s replay own tells

    pub run_reads : QuietButAll (inputs_of_nodes b.nodes.items) mid.read new.read → QuietButAll (option_to_list replay ++ inputs_of_nodes checked.nodes.items) old.read new.read
    run_reads quiet = subst (λ (x : Blueprint). QuietButAll (option_to_list replay ++ inputs_of_nodes x.nodes.items) old.read new.read) same (reads_moved plugged old mid new b trace plans turns a s replay own quiet)

    pub run_raised : QuietButAll (inputs_of_nodes b.nodes.items) mid.read new.read → RunCauses plugged s a b (map moves_of plans.items) trace turns mid new → CausesChecked plugged s a checked trace replay turns old new
    run_raised quiet c = subst (λ (x : Blueprint). CausesChecked plugged s a x trace replay turns old new) same (causes_checked plugged old mid new b trace plans turns a s replay own quiet c)

    pub run_moves : ((t : List ℕ) → lent ≡ Some t → GrewAtMost (old.read t) plan_limit (mid.read t)) → IsReadApart checked replay → QuietButAll (inputs_of_nodes b.nodes.items) mid.read new.read → ReadsMost replay old.read new.read
    run_moves most apart quiet = moves_read plugged old mid new b trace plans turns a s replay (λ t e. most t (named ∙ e)) (subst (λ (x : Blueprint). IsReadApart x replay) (sym same) apart) quiet
