-- The trace's file beside those of the nodes: opened last, written after the run and closed last.
use Rattle.std.proofs.Common.{◌≡◌, ◌≢◌, ◌⊎◌, inl, inr, ℕ, zero, suc, ◌+◌, ◌<◌, ◌≤◌, Bool, true, false, List, [], ◌∷◌, ◌++◌, map, length, slice_get, refl, sym, ap, ◌∙◌, subst, arith}
use Rattle.std.specs.Prelude.{IsTrue, Option, Some, None, slice_index_or, is_some}
use Rattle.std.specs.Option.{option_map, option_to_list}
use Rattle.std.specs.List.{All, Contains}
use Rattle.std.proofs.lemmas.List.{append-nil, length-map, length-append}
use Rattle.stream_io.specs.Counts.{Rose, Grew}
use Rattle.stream_io.specs.State.{FolderState, SourceState, DrainState, ClosesDrain}
use Rattle.stream_model.specs.declared.outcome.PickList.{PickList}
use Rattle.interpreter.specs.Picks.{Pick, pick_of}
use Rattle.stream_model.specs.declared.blueprint.Blueprint.{Blueprint}
use Rattle.materializer.specs.Choices.{pick_names}
use Rattle.materializer.specs.Files.{inputs_of_nodes, outputs_of_nodes}
use Rattle.stream_io.specs.Quiet.{Quiet}
use Rattle.stream_io.specs.Names.{drain_names}
use Rattle.stream_io.specs.Opening.{HoldsNone, OpensAll}
use Rattle.stream_io.specs.Closing.{ClosesAll}
use Rattle.stream_io.proofs.Counts.{rose_after}
use Rattle.plan_reader.specs.Text.{trace_text}
use Rattle.run_report.specs.Trace.{moves_in}
use Rattle.stream_io.specs.Putting.{Puts, PutsPart}
use Rattle.run_blueprint.specs.Opening.{Opens, OpensTrace, OpensAs, WritesAs, ClosesAs}
use Rattle.run_blueprint.specs.Tracing.{written_files, IsApart, picks_text, HoldsTrace, BreaksTrace, Traces}
use Rattle.run_blueprint.proofs.Counts.{grew_behind, rose_by, rose_from_none}
use Rattle.run_blueprint.proofs.Places.{all_at, contained_at, map_two}
use Rattle.run_blueprint.proofs.Shuts.{NameAmong}

-- ---- one name, or none

pub listed : (o : Option (List ℕ)) (n : List ℕ) → Contains (option_to_list o) n → o ≡ Some n
listed None n c = absurd (omega (arith, c.1))
listed (Some t) n c = listed_at t n (contained_at (t ∷ []) n c).0 (contained_at (t ∷ []) n c).1
  where
    listed_at : (t n : List ℕ) (i : ℕ) → slice_get (t ∷ []) i ≡ Some n → Some t ≡ Some n
    listed_at t n zero e = e
    listed_at t n (suc i) e = absurd cc

pub unlisted : (o : Option (List ℕ)) (n : List ℕ) → o ≢ Some n → Contains (option_to_list o) n → ⊥
unlisted o n differs c = differs (listed o n c)

pub in_list : (t : List ℕ) → Contains (t ∷ []) t
in_list t = (0, omega arith, refl)

-- the trace's file is none of the sinks'
pub lone_of : (b : Blueprint) (trace : Option (List ℕ)) → IsApart b trace → (n : List ℕ) → Contains (outputs_of_nodes b.nodes.items) n → Contains (option_to_list trace) n → ⊥
lone_of b trace separate n c d = (separate n (listed trace n d)).1 c

-- ---- a list with one more at its end

index_front : {X : Type 0} (xs ys : List X) (k : ℕ) (d : X) → k < length xs → slice_index_or (xs ++ ys) k d ≡ slice_index_or xs k d
index_front [] ys k d h = absurd (omega (arith, h))
index_front (x ∷ xs) ys zero d h = refl
index_front (x ∷ xs) ys (suc k) d h = index_front xs ys k d (omega (arith, h))

length_front : {X : Type 0} (xs ys : List X) (k : ℕ) → k < length xs → k < length (xs ++ ys)
length_front [] ys k h = absurd (omega (arith, h))
length_front (x ∷ xs) ys zero h = omega arith
length_front (x ∷ xs) ys (suc k) h = let later : k < length (xs ++ ys) = length_front xs ys k (omega (arith, h)) in omega (arith, later)

all_front : {X : Type 0} (P : X → Type 0) (xs ys : List X) → All P (xs ++ ys) → All P xs
all_front P xs ys all = λ k d h. subst P (index_front xs ys k d h) (all k d (length_front xs ys k h))

at_end : {X : Type 0} (xs : List X) (x : X) → slice_get (xs ++ x ∷ []) (length xs) ≡ Some x
at_end [] x = refl
at_end (y ∷ ys) x = at_end ys x

all_end : {X : Type 0} (P : X → Type 0) (xs : List X) (x : X) → All P (xs ++ x ∷ []) → P x
all_end P xs x all = all_at P (xs ++ x ∷ []) (length xs) x all (at_end xs x)

same_ends : (xs ys : List (List ℕ)) (x y : List ℕ) → xs ++ x ∷ [] ≡ ys ++ y ∷ [] → (xs ≡ ys) × (x ≡ y)
same_ends [] [] x y e = (refl, cc)
same_ends [] (z ∷ []) x y e = absurd cc
same_ends [] (z ∷ w ∷ zs) x y e = absurd cc
same_ends (z ∷ []) [] x y e = absurd cc
same_ends (z ∷ w ∷ zs) [] x y e = absurd cc
same_ends (z ∷ zs) (w ∷ ws) x y e =
    let rest : zs ++ x ∷ [] ≡ ws ++ y ∷ [] = cc in
    let first : z ≡ w = cc in
    let later = same_ends zs ws x y rest in
    (cc (first, later.0), later.1)

names_both : (xs ys : List DrainState) → drain_names (xs ++ ys) ≡ drain_names xs ++ drain_names ys
names_both [] ys = refl
names_both (x ∷ xs) ys = ap (λ (l : List (List ℕ)). x.name ∷ l) (names_both xs ys)

split_at : (xs ys : List (List ℕ)) (n : List ℕ) (k : ℕ) → k < length (xs ++ ys) → slice_index_or (xs ++ ys) k n ≡ n → Contains xs n ⊎ Contains ys n
split_at [] ys n k h e = inr (k, h, e)
split_at (x ∷ xs) ys n zero h e = inl (0, omega arith, e)
split_at (x ∷ xs) ys n (suc k) h e = elim (split_at xs ys n k (omega (arith, h)) e) as (λ _. Contains (x ∷ xs) n ⊎ Contains ys n) [
  | inl c ↦ inl (suc c.0, omega (arith, c.1), c.2)
  | inr c ↦ inr c
]

neither : (xs ys : List (List ℕ)) (n : List ℕ) → (Contains xs n → ⊥) → (Contains ys n → ⊥) → Contains (xs ++ ys) n → ⊥
neither xs ys n p q c = elim (split_at xs ys n c.0 c.1 c.2) [ inl d ↦ p d | inr d ↦ q d ]

-- ---- what was opened

-- the drains of the nodes, and that of the trace
pub record Parted (mid : FolderState) (outs : List (List ℕ)) (trace : Option (List ℕ)) (os : List DrainState) (o : Option DrainState) : Type 0 where
  pub names : drain_names os ≡ outs
  pub drains : All (HoldsNone mid) os
  pub opened : OpensAs mid trace o

pub parted : (mid : FolderState) (outs : List (List ℕ)) (trace : Option (List ℕ)) (os : List DrainState) (o : Option DrainState) → is_some o ≡ is_some trace → drain_names (os ++ option_to_list o) ≡ outs ++ option_to_list trace → All (HoldsNone mid) (os ++ option_to_list o) → Parted mid outs trace os o
parted mid outs None os None same e all = record {
  names = ap drain_names (sym (append-nil os)) ∙ e ∙ append-nil outs;
  drains = subst (All (HoldsNone mid)) (append-nil os) all;
  opened = tt;
}
parted mid outs (Some t) os (Some o) same e all =
    let ends = same_ends (drain_names os) outs o.name t (sym (names_both os (o ∷ [])) ∙ e) in
    record {
      names = ends.0;
      drains = all_front (HoldsNone mid) os (o ∷ []) all;
      opened = record { named = ends.1; start = all_end (HoldsNone mid) os o all };
    }
parted mid outs None os (Some o) same e all = absurd cc
parted mid outs (Some t) os None same e all = absurd cc

pub opens_of : (old mid : FolderState) (ins outs : List (List ℕ)) (trace : Option (List ℕ)) (is : List SourceState) (all os : List DrainState) (o : Option DrainState) → OpensAll old mid ins (outs ++ option_to_list trace) is all → all ≡ os ++ option_to_list o → is_some o ≡ is_some trace
    → Opens old mid ins outs (option_to_list trace) is os × OpensAs mid trace o
opens_of old mid ins outs trace is all os o h e same =
    let p = parted mid outs trace os o same (ap drain_names (sym e) ∙ h.output_names) (subst (All (HoldsNone mid)) e h.drains) in (
      record {
        input_names = h.input_names;
        sources = h.sources;
        output_names = p.names;
        drains = p.drains;
        told = h.files.told;
        apart = λ tells n never aside. h.files.others tells n (neither outs (option_to_list trace) n never aside);
        read = h.read;
        refusals = h.refusals;
        rfaults = h.rfaults;
        wfaults = h.wfaults;
      },
      p.opened,
    )

pub map_taken : {D : Type 0} (f : D → DrainState) (ys : List D) (o : Option D) → map f (ys ++ option_to_list o) ≡ map f ys ++ option_to_list (option_map f o)
map_taken f [] None = refl
map_taken f [] (Some d) = refl
map_taken f (y ∷ ys) o = ap (λ (l : List DrainState). f y ∷ l) (map_taken f ys o)

is_some_map : {D : Type 0} (f : D → DrainState) (o : Option D) → is_some (option_map f o) ≡ is_some o
is_some_map f None = refl
is_some_map f (Some d) = refl

-- the files of the nodes and that of the trace, as they were opened by one list of names
pub opened_apart : {D : Type 0} (drains : D → DrainState) (old mid : FolderState) (b : Blueprint) (trace : Option (List ℕ)) (is : List SourceState) (all rest : List D) (o : Option D) (wanted : Bool) (ins outs : List (List ℕ))
    → ins ≡ inputs_of_nodes b.nodes.items → outs ≡ written_files b trace → OpensAll old mid ins outs is (map drains all) → all ≡ rest ++ option_to_list o → is_some o ≡ wanted → wanted ≡ is_some trace
    → Opens old mid (inputs_of_nodes b.nodes.items) (outputs_of_nodes b.nodes.items) (option_to_list trace) is (map drains rest) × OpensAs mid trace (option_map drains o)
opened_apart drains old mid b trace is all rest o wanted ins outs i e h taken w t =
    opens_of old mid (inputs_of_nodes b.nodes.items) (outputs_of_nodes b.nodes.items) trace is (map drains all) (map drains rest) (option_map drains o)
    (subst (λ names. OpensAll old mid (inputs_of_nodes b.nodes.items) names is (map drains all)) e (subst (λ names. OpensAll old mid names outs is (map drains all)) i h))
    (ap (map drains) taken ∙ map_taken drains rest o)
    (is_some_map drains o ∙ w ∙ t)

-- so there are as many drains of nodes as they have outputs
pub as_many_drains : {D : Type 0} (drains : D → DrainState) (os : List D) (outs : List (List ℕ)) → drain_names (map drains os) ≡ outs → length os ≡ length outs
as_many_drains drains os outs e = sym (length-map os drains) ∙ sym (length-map (map drains os) (λ (o : DrainState). o.name)) ∙ ap length e

never_true : (b : Bool) → IsTrue b → b ≡ false → ⊥
never_true b h e = cc

-- and the trace's file is the last of them
some_last : (outs : List (List ℕ)) (trace : Option (List ℕ)) → IsTrue (is_some trace) → 1 ≤ length (outs ++ option_to_list trace)
some_last outs None h = absurd (never_true (is_some {T = List ℕ} None) h refl)
some_last outs (Some t) h = let size : length (outs ++ t ∷ []) ≡ length outs + 1 = length-append outs (t ∷ []) in omega (arith, size)

pub last_there : {D : Type 0} (drains : D → DrainState) (old mid : FolderState) (b : Blueprint) (trace : Option (List ℕ)) (is : List SourceState) (all : List D) (wanted : Bool) (ins outs : List (List ℕ))
    → outs ≡ written_files b trace → OpensAll old mid ins outs is (map drains all) → wanted ≡ is_some trace → IsTrue wanted → 1 ≤ length all
last_there drains old mid b trace is all wanted ins outs e opens w h =
    let many : length all ≡ length (written_files b trace) = as_many_drains drains all outs opens.output_names ∙ ap length e in
    let some : 1 ≤ length (written_files b trace) = some_last (outputs_of_nodes b.nodes.items) trace (subst IsTrue w h) in
    omega (arith, many, some)

-- ---- what was written

-- what was told of the trace's count where no write to it failed
pub calm_trace : (old new : FolderState) (b : Blueprint) (trace : Option (List ℕ)) (picks : List Pick) (failed : Bool) → Traces old new b trace picks failed → failed ≡ false → (n : List ℕ) → Contains (option_to_list trace) n → Grew (old.wfaults n) 0 (new.wfaults n)
calm_trace old new b None picks failed h e n c = absurd (omega (arith, c.1))
calm_trace old new b (Some t) picks true h e n c = absurd cc
calm_trace old new b (Some t) picks false h e n c =
    let same : t ≡ n = some_text (listed (Some t) n c) in
    subst (λ (x : List ℕ). Grew (old.wfaults x) 0 (new.wfaults x)) same h.calm
  where
    some_text : {x y : List ℕ} → Some x ≡ Some y → x ≡ y
    some_text e = cc

-- the trace's file is empty, and no write to it failed
pub record LeftEmpty (old new : FolderState) (t : List ℕ) : Type 0 where
  pub empty : IsTrue new.tells → new.file t ≡ Some []
  pub calm : Grew (old.wfaults t) 0 (new.wfaults t)

module _ (old mid between new : FolderState) (t : List ℕ) (o p : DrainState) (opened : OpensTrace mid t o) (quiet : Quiet old.wfaults mid.wfaults) (is : List SourceState) (os : List DrainState) (shut : ClosesAll mid between is os) (closed : ClosesDrain between new p) (named : p.name ≡ o.name) (never : Contains (drain_names os) t → ⊥) where
  name : p.name ≡ t
  name = named ∙ opened.named

  -- where these bytes were put it holds them
  holds_put : (bytes : List ℕ) → p.holds ≡ option_map (λ held. held ++ bytes) o.holds → IsTrue new.tells → new.file t ≡ Some bytes
  holds_put bytes put tells =
      let start : o.holds ≡ Some [] = opened.start.holds (shut.files.told (closed.told tells)) in
      ap new.file (sym name) ∙ closed.file tells ∙ put ∙ ap (option_map (λ held. held ++ bytes)) start

  -- the count of failed writes of its name was not touched before it was closed
  count_same : between.wfaults t ≡ mid.wfaults t
  count_same = shut.wfaults.others t never

  grew : Grew (mid.wfaults t) p.faults (new.wfaults t)
  grew = subst (λ (n : ℕ). Grew n p.faults (new.wfaults t)) count_same (subst (λ (n : List ℕ). Grew (between.wfaults n) p.faults (new.wfaults n)) name closed.wfaults)

  calm_put : p.faults ≡ o.faults → Grew (old.wfaults t) 0 (new.wfaults t)
  calm_put same = grew_behind (old.wfaults t) (mid.wfaults t) (new.wfaults t) 0 (quiet t) (subst (λ (n : ℕ). Grew (mid.wfaults t) n (new.wfaults t)) (same ∙ opened.start.faults) grew)

  rose_put : Rose o.faults p.faults → Rose (old.wfaults t) (new.wfaults t)
  rose_put rose =
      let above : 0 < p.faults = rose_from_none o.faults p.faults opened.start.faults rose in
      rose_after (old.wfaults t) (mid.wfaults t) (new.wfaults t) (new.wfaults t) (quiet t).stays (rose_by (mid.wfaults t) p.faults (new.wfaults t) grew above) refl

  holds_trace : (b : Blueprint) (picks : List Pick) → Puts o p (picks_text b picks) → HoldsTrace old new b t picks
  holds_trace b picks puts = record { holds = holds_put (picks_text b picks) puts.holds; calm = calm_put puts.faults }

  breaks_trace : (b : Blueprint) (picks : List Pick) → PutsPart o p (picks_text b picks) → BreaksTrace old new b t picks
  breaks_trace b picks puts = record {
    part = puts.part;
    is_part = puts.is_part;
    not_all = puts.not_all;
    holds = holds_put puts.part puts.holds;
    rose = rose_put puts.faults;
  }

nothing_put : (o : Option (List ℕ)) → o ≡ option_map (λ held. held ++ []) o
nothing_put None = refl
nothing_put (Some h) = ap Some (sym (append-nil h))

-- what is left of the trace, wherever a run wrote its moves
pub traces_of : (old mid between new : FolderState) (b : Blueprint) (picks : List Pick) (is : List SourceState) (os : List DrainState) (trace : Option (List ℕ)) (o p : Option DrainState) (failed : Bool)
    → OpensAs mid trace o → Quiet old.wfaults mid.wfaults → WritesAs o p (picks_text b picks) failed → ClosesAll mid between is os → ClosesAs between new p
    → ((n : List ℕ) → Contains (option_to_list trace) n → Contains (drain_names os) n → ⊥) → Traces old new b trace picks failed
traces_of old mid between new b picks is os None None None false opened quiet writes shut closed never = tt
traces_of old mid between new b picks is os None None None true opened quiet writes shut closed never = absurd writes
traces_of old mid between new b picks is os None None (Some p) failed opened quiet writes shut closed never = absurd writes
traces_of old mid between new b picks is os None (Some o) p failed opened quiet writes shut closed never = absurd opened
traces_of old mid between new b picks is os (Some t) None p failed opened quiet writes shut closed never = absurd opened
traces_of old mid between new b picks is os (Some t) (Some o) None failed opened quiet writes shut closed never = absurd writes
traces_of old mid between new b picks is os (Some t) (Some o) (Some p) false opened quiet writes shut closed never =
    holds_trace old mid between new t o p opened quiet is os shut closed writes.name (never t (in_list t)) b picks writes
traces_of old mid between new b picks is os (Some t) (Some o) (Some p) true opened quiet writes shut closed never =
    breaks_trace old mid between new t o p opened quiet is os shut closed writes.name (never t (in_list t)) b picks writes

-- and where nothing was written
empty_at : (old mid between new : FolderState) (is : List SourceState) (os : List DrainState) (t u : List ℕ) (o : Option DrainState)
    → OpensAs mid (Some t) o → Quiet old.wfaults mid.wfaults → ClosesAll mid between is os → ClosesAs between new o → (Contains (drain_names os) t → ⊥) → t ≡ u → LeftEmpty old new u
empty_at old mid between new is os t u None opened quiet shut closed never e = absurd opened
empty_at old mid between new is os t u (Some o) opened quiet shut closed never e = subst (LeftEmpty old new) e (record {
  empty = holds_put old mid between new t o o opened quiet is os shut closed refl never [] (nothing_put o.holds);
  calm = calm_put old mid between new t o o opened quiet is os shut closed refl never refl;
})

pub empty_of : (old mid between new : FolderState) (is : List SourceState) (os : List DrainState) (trace : Option (List ℕ)) (o : Option DrainState)
    → OpensAs mid trace o → Quiet old.wfaults mid.wfaults → ClosesAll mid between is os → ClosesAs between new o
    → ((n : List ℕ) → Contains (option_to_list trace) n → Contains (drain_names os) n → ⊥) → (t : List ℕ) → trace ≡ Some t → LeftEmpty old new t
empty_of old mid between new is os None o opened quiet shut closed never t e = absurd cc
empty_of old mid between new is os (Some u) o opened quiet shut closed never t e = empty_at old mid between new is os u t o opened quiet shut closed (never u (in_list u)) cc

-- the drain of the trace has its name, before it was written and behind that
pub name_opened : (mid : FolderState) (trace : Option (List ℕ)) (o : Option DrainState) → OpensAs mid trace o → NameAmong (option_to_list trace) o
name_opened mid None None h t e = absurd cc
name_opened mid None (Some o) h t e = absurd h
name_opened mid (Some n) None h t e = absurd h
name_opened mid (Some n) (Some o) h t e =
    let same : o ≡ t = cc in
    subst (λ (x : DrainState). Contains (n ∷ []) x.name) same (subst (Contains (n ∷ [])) (sym h.named) (in_list n))

pub name_written : (others : List (List ℕ)) (o p : Option DrainState) (text : List ℕ) (failed : Bool) → WritesAs o p text failed → NameAmong others o → NameAmong others p
name_written others o None text failed w h t e = absurd cc
name_written others None (Some p) text failed w h t e = absurd w
name_written others (Some o) (Some p) text false w h t e =
    let same : p ≡ t = cc in
    subst (λ (x : DrainState). Contains others x.name) same (subst (Contains others) (sym w.name) (h o refl))
name_written others (Some o) (Some p) text true w h t e =
    let same : p ≡ t = cc in
    subst (λ (x : DrainState). Contains others x.name) same (subst (Contains others) (sym w.name) (h o refl))

-- the text that was put is that of the moves
pub moves_text : (b : Blueprint) (names : List (List ℕ)) (picks : List PickList) → names ≡ pick_names b.nodes.items → trace_text names (map moves_in picks) ≡ picks_text b (map pick_of picks)
moves_text b names picks e = ap (λ (l : List (List ℕ)). trace_text l (map moves_in picks)) e ∙ ap (trace_text (pick_names b.nodes.items)) (sym (map_two (λ (p : Pick). p.1) pick_of picks))

pub text_written : (b : Blueprint) (o p : Option DrainState) (failed : Bool) (names : List (List ℕ)) (shown picks : List PickList) → names ≡ pick_names b.nodes.items → shown ≡ picks
    → WritesAs o p (trace_text names (map moves_in shown)) failed → WritesAs o p (picks_text b (map pick_of picks)) failed
text_written b o p failed names shown picks named same h =
    subst (λ (text : List ℕ). WritesAs o p text failed) (ap (λ (l : List PickList). trace_text names (map moves_in l)) same ∙ moves_text b names picks named) h
