-- What came of a folder since the blueprint's file was read came of it since before.
use Rattle.std.proofs.Common.{◌≡◌, ◌≢◌, ℕ, ◌<◌, ◌≤◌, Bool, true, false, List, ◌⊎◌, inl, inr, sym, ap, ◌∙◌, subst, arith}
use Rattle.std.specs.Prelude.{slice_index_or, IsTrue, IsSome, Option, Some, None}
use Rattle.std.specs.List.{All, Contains}
use Rattle.stream_model.specs.declared.outcome.WireCount.{WireCount}
use Rattle.stream_model.specs.declared.outcome.EndState.{EndState}
use Rattle.stream_model.specs.declared.outcome.EndState.TheVariants as state
use Rattle.stream_io.specs.Counts.{Rose, Grew}
use Rattle.stream_io.specs.State.{FolderState, SameFiles}
use Rattle.stream_model.specs.declared.blueprint.Blueprint.{Blueprint}
use Rattle.stream_model.specs.declared.blueprint.Node.{Node}
use Rattle.materializer.specs.Files.{source_file, inputs_of_nodes}
use Rattle.stream_io.specs.Quiet.{Quiet, QuietBut}
use Rattle.stream_io.specs.Opening.{Empties}
use Rattle.interpreter.specs.Picks.{Pick}
use Rattle.run_blueprint.specs.Drawing.{IsSource, WasRead}
use Rattle.run_blueprint.specs.Stands.{SinkStand}
use Rattle.run_blueprint.specs.Running.{LeavesFiles, FailedWritesOf, BreaksFiles}
use Rattle.run_blueprint.specs.Tracing.{Traces}
use Rattle.stream_io.proofs.Counts.{quiet_two}
use Rattle.run_blueprint.proofs.Counts.{grew_behind}
use Rattle.run_blueprint.proofs.Places.{contains_at, filtered_at}
use Rattle.run_report.specs.Answer.{Answer}
use Rattle.run_report.specs.declared.outcome.Status.{Status}
use Rattle.run_report.specs.declared.outcome.Status.TheVariants as status
use Rattle.stream_command.specs.AfterRun.{no_event_left}
use Rattle.stream_command.specs.Asked.{Plugged}
use Rattle.stream_io.specs.Text.{ReadsUpTo}
use Rattle.stream_command.specs.Outcome.{RanTo, SinksWrote, SomeCountRose, SomeWriteFailed, GaveUp, LacksInput, LacksOutput, IsAbsent, EndedRun, QuietButAll, RunCauses, MissesFile}
use Rattle.stream_io.proofs.Quiets.{tells_before, files_two}

-- a count that stood and then rose rose
pub rose_later : (a b c : ℕ) → Grew a 0 b → Rose b c → Rose a c
rose_later a b c p q = let stays : a ≤ b = p.stays in λ h. let more : b < c = q h in omega (arith, stays, more)

pub quiet_but_later : (name : List ℕ) (f g h : List ℕ → ℕ) → Quiet f g → QuietBut name g h → QuietBut name f h
quiet_but_later name f g h p q = record {
  stays = let first : f name ≤ g name = (p name).stays in let later : g name ≤ h name = q.stays in omega (arith, first, later);
  others = λ n differs. grew_behind (f n) (g n) (h n) 0 (p n) (q.others n differs);
}

pub absent_later : (old mid new : FolderState) (n : List ℕ) → SameFiles old mid → Quiet old.refusals mid.refusals → IsAbsent mid new n → IsAbsent old new n
absent_later old mid new n same quiet (inl h) = (let tells = tells_before old mid same h.0 in inl (tells, sym (same.files tells n) ∙ h.1))
absent_later old mid new n same quiet (inr h) = inr (rose_later (old.refusals n) (mid.refusals n) (new.refusals n) (quiet n) h)

pub grew_from : (a b c n : ℕ) → b ≡ a → Grew b n c → Grew a n c
grew_from a b c n e g = subst (λ x. Grew x n c) e g

writes_later : (e : EndState) (a b c : ℕ) → Grew a 0 b → FailedWritesOf e b c → FailedWritesOf e a c
writes_later state.Ended a b c p q = grew_behind a b c 0 p q
writes_later (state.Failed x) a b c p q = grew_behind a b c 0 p q
writes_later state.Unended a b c p q = grew_behind a b c 0 p q
writes_later state.WriteFault a b c p q = rose_later a b c p q

quiet_all_later : (names : List (List ℕ)) (f g h : List ℕ → ℕ) → Quiet f g → QuietButAll names g h → QuietButAll names f h
quiet_all_later names f g h p q n never = grew_behind (f n) (g n) (h n) 0 (p n) (q n never)

some_rose_later : (old mid new : FolderState) (b : Blueprint) (trace : Option (List ℕ)) → Quiet old.wfaults mid.wfaults → SomeCountRose mid new b trace → SomeCountRose old new b trace
some_rose_later old mid new b trace q s = record { file = s.file; written = s.written; rose = rose_later (old.wfaults s.file) (mid.wfaults s.file) (new.wfaults s.file) (q s.file) s.rose }

traces_later : (old mid new : FolderState) (b : Blueprint) (trace : Option (List ℕ)) (picks : List Pick) (how : Bool) → Quiet old.wfaults mid.wfaults → Traces mid new b trace picks how → Traces old new b trace picks how
traces_later old mid new b None picks false q h = h
traces_later old mid new b None picks true q h = h
traces_later old mid new b (Some t) picks false q h = record { holds = h.holds; calm = grew_behind (old.wfaults t) (mid.wfaults t) (new.wfaults t) 0 (q t) h.calm }
traces_later old mid new b (Some t) picks true q h = record { part = h.part; is_part = h.is_part; not_all = h.not_all; holds = h.holds; rose = rose_later (old.wfaults t) (mid.wfaults t) (new.wfaults t) (q t) h.rose }

failure_later : (old mid new : FolderState) (b : Blueprint) (trace : Option (List ℕ)) (a : Answer) → Quiet old.wfaults mid.wfaults → SomeWriteFailed mid new b trace a → SomeWriteFailed old new b trace a
failure_later old mid new b trace a q (inl h) = inl (h.0, traces_later old mid new b trace a.picks false q h.1)
failure_later old mid new b trace a q (inr h) = inr (traces_later old mid new b trace a.picks true q h)

-- no file is changed, of this one alone something may have been read, and no count rose
pub record ReadOne (old mid : FolderState) (file : List ℕ) : Type 0 where
  pub files : SameFiles old mid
  pub read : (n : List ℕ) → n ≢ file → mid.read n ≡ old.read n
  pub refusals : Quiet old.refusals mid.refusals
  pub rfaults : Quiet old.rfaults mid.rfaults
  pub wfaults : Quiet old.wfaults mid.wfaults

-- a file that was read up to a limit
pub read_one : (limit : ℕ) (old mid : FolderState) (file text : List ℕ) → ReadsUpTo limit old mid file text → ReadOne old mid file
read_one limit old mid file text r = record { files = r.files; read = r.read; refusals = r.refusals; rfaults = r.rfaults; wfaults = r.wfaults }

module _ (plugged : Plugged) (old mid new : FolderState) (file : List ℕ) (r : ReadOne old mid file) (b : Blueprint) (plans : List (Option (List ℕ))) (trace : Option (List ℕ)) (apart : Contains (inputs_of_nodes b.nodes.items) file → ⊥) (turns : ℕ) (a : Answer) where
  module _ (tells : IsTrue old.tells) where
    -- the file that was read is none of the sources'
    read_apart : (k : ℕ) (n : List ℕ) → IsSource b.nodes.items k n → mid.read n ≡ old.read n
    read_apart k n is =
        r.read n (λ same.
        let at = filtered_at (λ (m : Node). source_file m.kind) b.nodes.items k is.node n is.at (ap source_file is.kind_is) in
        apart (subst (λ x. Contains (inputs_of_nodes b.nodes.items) x) same (contains_at (inputs_of_nodes b.nodes.items) at.0 n at.1)))

    read_later : (n bytes : List ℕ) (given : ℕ) (faulted : Bool) → mid.read n ≡ old.read n → WasRead mid new n bytes given faulted → WasRead old new n bytes given faulted
    read_later n bytes given faulted apart w = record {
      there = sym (r.files.files tells n) ∙ w.there;
      read = grew_from (old.read n) (mid.read n) (new.read n) given apart w.read;
      rose = λ h. rose_later (old.rfaults n) (mid.rfaults n) (new.rfaults n) (r.rfaults n) (w.rose h);
      calm = λ h. grew_behind (old.rfaults n) (mid.rfaults n) (new.rfaults n) 0 (r.rfaults n) (w.calm h);
    }

    empties_later : (names : List (List ℕ)) → Empties mid new names → Empties old new names
    empties_later names h = record { told = λ x. tells_before old mid r.files (h.told x); still = λ e. h.still e ∙ r.files.telling; emptied = h.emptied; others = λ x m never. h.others x m never ∙ r.files.files tells m }

    abbrev leaves_later : (ends : List SinkStand) (picks : List Pick) (wires : List WireCount) (rest : Bool) → LeavesFiles plugged.book plugged.heads mid new b plans trace ends picks wires rest → LeavesFiles plugged.book plugged.heads old new b plans trace ends picks wires rest
    leaves_later ends picks wires rest l = record {
      drawn = l.drawn;
      chose = l.chose;
      read = λ k n is. read_later n (l.drawn.bytes k) (l.drawn.given k) (l.drawn.faulted k) (read_apart k n is) (l.read k n is);
      world = l.world;
      has_files = l.has_files;
      sink = l.sink;
      ignores = l.ignores;
      others = λ still n never aside. l.others still n never aside ∙ r.files.files tells n;
      draws = l.draws;
      fits = l.fits;
      carries = l.carries;
      passed = l.passed;
      customs = l.customs;
      lawful = l.lawful;
      rest = l.rest;
      matching = l.matching;
      ending = l.ending;
      made = l.made;
      served = l.served;
      blames = l.blames;
      needed = l.needed;
    }

    abbrev ran_later : RanTo plugged mid new b plans trace turns a → RanTo plugged old new b plans trace turns a
    ran_later ran = record {
      stands = ran.stands;
      stands_are = ran.stands_are;
      sinks = ran.sinks;
      picks_are = ran.picks_are;
      leaves = leaves_later ran.stands a.picks a.wires (no_event_left a turns) ran.leaves;
      writes = λ i s n f at here shape. writes_later s.2 (old.wfaults f) (mid.wfaults f) (new.wfaults f) (r.wfaults f) (ran.writes i s n f at here shape);
      within = ran.within;
      pays = ran.pays;
      ending = ran.ending;
      enough = λ none own tree w is suffices i s n f at here shape fails calm. ran.enough none own tree w is suffices i s n f at here shape fails (λ rose. calm (rose_later (old.wfaults f) (mid.wfaults f) (new.wfaults f) (r.wfaults f) rose));
    }

    there_later : (names : List (List ℕ)) → All (λ m. IsSome (mid.file m)) names → All (λ m. IsSome (old.file m)) names
    there_later names all = λ k d h. subst (λ o. IsSome o) (r.files.files tells (slice_index_or names k d)) (all k d h)

    missing_later : (n : List ℕ) → LacksInput mid new b n a ⊎ LacksOutput mid new b trace n a → LacksInput old new b n a ⊎ LacksOutput old new b trace n a
    missing_later n (inl h) = inl (record {
      before = h.before;
      after = h.after;
      place = h.place;
      there = there_later h.before h.there;
      absent = absent_later old mid new n r.files r.refusals h.absent;
      nothing = record { files = files_two old mid new r.files h.nothing.files; blank = h.nothing.blank };
    })
    missing_later n (inr h) = inr (record {
      before = h.before;
      after = h.after;
      place = h.place;
      there = there_later (inputs_of_nodes b.nodes.items) h.there;
      refused = rose_later (old.refusals n) (mid.refusals n) (new.refusals n) (r.refusals n) h.refused;
      files = empties_later h.before h.files;
      blank = h.blank;
    })

    breaks_later : BreaksFiles plugged.book mid new b trace → BreaksFiles plugged.book old new b trace
    breaks_later l = record {
      drawn = l.drawn;
      chose = l.chose;
      read = λ k n is.
          let w = l.read k n is in
          record {
            more = w.more;
            given_less = w.given_less;
            ahead = w.ahead;
            read = read_later n (l.drawn.bytes k) w.more (l.drawn.faulted k) (read_apart k n is) w.read;
          };
      world = l.world;
      has_files = l.has_files;
      sink = λ k n f at shape.
          let w = l.sink k n f at shape in
          record {
            held = w.held;
            end = w.end;
            there = w.there;
            tells = w.tells;
            part = w.part;
            writes = writes_later w.end (old.wfaults f) (mid.wfaults f) (new.wfaults f) (r.wfaults f) w.writes;
          };
      others = λ still n never aside. l.others still n never aside ∙ r.files.files tells n;
      empty = l.empty;
    }

    gave_later : GaveUp plugged mid new b trace → GaveUp plugged old new b trace
    gave_later (inl h) = inl (record { before = h.before; after = h.after; place = h.place; files = empties_later h.before h.files })
    gave_later (inr h) = inr (breaks_later h)

    -- what a run answers is told of the folder before the blueprint was read
    pub run_later : (s : Status) → EndedRun plugged s a b plans trace turns mid new → EndedRun plugged s a b plans trace turns old new
    run_later status.Done e = (ran_later e.0, traces_later old mid new b trace a.picks false r.wfaults e.1, e.2)
    run_later status.StreamFailed e = (ran_later e.0, traces_later old mid new b trace a.picks false r.wfaults e.1, e.2, e.3, e.4)
    run_later status.Stalled e = (ran_later e.0, traces_later old mid new b trace a.picks false r.wfaults e.1, e.2, e.3, e.4)
    run_later status.OutOfTurns e = (ran_later e.0, traces_later old mid new b trace a.picks false r.wfaults e.1, e.2, e.3, e.4)
    run_later status.WriteFault e = (ran_later e.0, failure_later old mid new b trace a r.wfaults e.1, some_rose_later old mid new b trace r.wfaults e.2)
    run_later (status.Missing n) e = missing_later n e
    run_later status.NoMemory e = (e.0, gave_later e.1)
    run_later status.ReadFault e = e
    run_later (status.Refused f) e = e
    run_later (status.Unfit f) e = e
    run_later status.Usage e = e
    run_later (status.BadTrace line) e = e
    run_later (status.Misfit stage place) e = (ran_later e.0, traces_later old mid new b trace a.picks false r.wfaults e.1, e.2, e.3)

-- what rose in the run rose in the call
module _ (plugged : Plugged) (old mid new : FolderState) (file : List ℕ) (r : ReadOne old mid file) (b : Blueprint) (plans : List (Option (List ℕ))) (trace : Option (List ℕ)) (turns : ℕ) (a : Answer) where
  abbrev wrote_later : SinksWrote plugged mid new b plans turns a → SinksWrote plugged old new b plans turns a
  wrote_later w = record {
    stands = w.stands;
    stands_are = w.stands_are;
    sinks = w.sinks;
    picks_are = w.picks_are;
    writes = λ i s n f at here shape. writes_later s.2 (old.wfaults f) (mid.wfaults f) (new.wfaults f) (r.wfaults f) (w.writes i s n f at here shape);
    within = w.within;
    pays = w.pays;
    picture = w.picture;
    ending = w.ending;
  }

  misses_later : (n : List ℕ) → MissesFile mid new b trace n → MissesFile old new b trace n
  misses_later n (inl h) = inl (h.0, absent_later old mid new n r.files r.refusals h.1)
  misses_later n (inr h) = inr (h.0, rose_later (old.refusals n) (mid.refusals n) (new.refusals n) (r.refusals n) h.1)

  pub causes_later : (s : Status) → RunCauses plugged s a b plans trace turns mid new → RunCauses plugged s a b plans trace turns old new
  causes_later (status.Missing n) c = (misses_later n c.0, quiet_but_later n _ _ _ r.refusals c.1, quiet_two _ _ _ r.rfaults c.2, quiet_two _ _ _ r.wfaults c.3)
  causes_later status.WriteFault c = (quiet_two _ _ _ r.refusals c.0, quiet_all_later _ _ _ _ r.rfaults c.1, some_rose_later old mid new b trace r.wfaults c.2, quiet_all_later _ _ _ _ r.wfaults c.3, wrote_later c.4)
  causes_later status.Done c = (quiet_two _ _ _ r.refusals c.0, quiet_all_later _ _ _ _ r.rfaults c.1, quiet_two _ _ _ r.wfaults c.2, wrote_later c.3)
  causes_later status.StreamFailed c = (quiet_two _ _ _ r.refusals c.0, quiet_all_later _ _ _ _ r.rfaults c.1, quiet_two _ _ _ r.wfaults c.2, wrote_later c.3)
  causes_later status.Stalled c = (quiet_two _ _ _ r.refusals c.0, quiet_all_later _ _ _ _ r.rfaults c.1, quiet_two _ _ _ r.wfaults c.2, wrote_later c.3, c.4)
  causes_later status.OutOfTurns c = (quiet_two _ _ _ r.refusals c.0, quiet_all_later _ _ _ _ r.rfaults c.1, quiet_two _ _ _ r.wfaults c.2, wrote_later c.3, c.4)
  causes_later status.NoMemory c = (quiet_two _ _ _ r.refusals c.0, quiet_all_later _ _ _ _ r.rfaults c.1, quiet_all_later _ _ _ _ r.wfaults c.2)
  causes_later (status.Misfit stage place) c = (quiet_two _ _ _ r.refusals c.0, quiet_all_later _ _ _ _ r.rfaults c.1, quiet_two _ _ _ r.wfaults c.2, (wrote_later c.3.0, c.3.1))
  causes_later status.Usage c = c
  causes_later (status.BadTrace line) c = c
  causes_later status.ReadFault c = c
  causes_later (status.Refused f) c = c
  causes_later (status.Unfit f) c = c
