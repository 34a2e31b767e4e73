-- What a sink with a file was to write, by the outlook of its wire.
use Rattle.std.specs.Prelude.{Option, None, Some}
use Rattle.std.proofs.Common.{◌≡◌, ℕ, ◌+◌, ◌-◌, inl, inr, List, [], ◌∷◌, length, take, refl, ap, ◌∙◌, arith}
use Rattle.elem_core.specs.Tree.{Tree}
use Rattle.elem_core.specs.declared.why.Decider.{Decider}
use Rattle.elem_core.specs.declared.why.Cause.{Cause}
use Rattle.elem_core.proofs.Prefixes.{prefix_refl, prefix_nil}
use Rattle.stream_model.specs.declared.kind.Kind.{Kind}
use Rattle.stream_model.specs.declared.kind.Kind.TheVariants as kind
use Rattle.stream_model.specs.declared.outcome.EndState.{EndState}
use Rattle.stream_model.specs.declared.outcome.EndState.TheVariants.{Ended, Failed, Unended, WriteFault}
use Rattle.stream_model.specs.Outlook.{Outlook, End, unended, ended, failed, Agrees}
use Rattle.stream_model.specs.Machine.{going, run, CutBy, of_input, at_finish, Stands, output}
use Rattle.stream_model.specs.Linear.{Book, Stage, Work, passing, heading, lasting, linear, begin_work, work_of}
use Rattle.stream_model.proofs.Traces.{trace_output}
use Rattle.nodes.specs.declared.sink.Writes.{Writes}
use Rattle.nodes.specs.declared.sink.Writes.TheVariants.{Each, First, Last}
use Rattle.nodes.specs.Kinds.{IsFileSink, writes_of}
use Rattle.nodes.specs.Sink.{last_of, FailsBy, WritesEach, WritesFirst, WritesLast, WritesOf}
use Rattle.run_laws.proofs.Passing.{passing_stands, passing_part}

-- the work of a sink with a file
abbrev pub work_by : Writes → Work
work_by Each = passing
work_by First = heading
work_by Last = lasting None

pub file_sink_work : (shape : Kind) → IsFileSink shape → work_of shape ≡ Some (work_by (writes_of shape))
file_sink_work (kind.ToLines name) h = refl
file_sink_work (kind.Head name) h = refl
file_sink_work (kind.Last name) h = refl
file_sink_work _ h = absurd h

-- how what was to be written stands
abbrev pub end_by : EndState → Writes → End
end_by Ended wr = ended
end_by (Failed c) wr = failed c
end_by Unended wr = unended
end_by WriteFault Each = unended
end_by WriteFault First = ended
end_by WriteFault Last = ended

-- the last element of a list, or this one where there is none
abbrev last_or : Option Tree → List Tree → Option Tree
last_or o [] = o
last_or o (t ∷ l) = last_or (Some t) l

last_some : (t : Tree) (l : List Tree) → last_or (Some t) l ≡ last_of (t ∷ l)
last_some t [] = refl
last_some t (u ∷ l) = last_some u l

last_all : (l : List Tree) → last_or None l ≡ last_of l
last_all [] = refl
last_all (t ∷ l) = last_some t l

module _ (book : Book) (k : ℕ) (d : Decider) where
  -- whatever its end is, what came is a first part of what may come
  each_part : (l : List Tree) (e : End) → Stands (linear book passing) (begin_work k d passing) l e l unended
  each_part l unended = passing_stands book k d l unended
  each_part l ended = rw (passing_stands book k d l ended) (prefix_refl l)
  each_part l (failed c) = passing_part book k d l c

  each_stands : (s : EndState) (l : List Tree) (e : End) (w : List Tree) → WritesEach s l e w → Stands (linear book passing) (begin_work k d passing) l e w (end_by s Each)
  each_stands Ended l e w h = rw (h.0, h.1) (passing_stands book k d l ended)
  each_stands (Failed c) l e w h = rw (h.0, h.1) (passing_stands book k d l (failed c))
  each_stands Unended l e w h = rw (h.0, h.1) (passing_stands book k d l unended)
  each_stands WriteFault l e w h = rw h (each_part l e)

  -- ---- the first

  first_wrote : (l : List Tree) (e : End) (w : List Tree) (t : Tree) → l ≡ t ∷ [] → w ≡ t ∷ [] → e ≡ unended → Stands (linear book heading) (begin_work k d heading) l e w ended
  first_wrote l e w t a b c = rw (a, b) refl

  no_cut : CutBy (linear book heading) 0 (begin_work k d heading) [] []
  no_cut = record { part = prefix_refl []; enough = omega arith }

  first_failed : (c : Cause) (l : List Tree) (e : End) (w : List Tree) → l ≡ [] → w ≡ [] → FailsBy k c l e → Stands (linear book heading) (begin_work k d heading) l e w (failed c)
  first_failed c l e w a b (inl h) = rw (a, b, h) (of_input refl no_cut)
  first_failed c l e w a b (inr h) = rw (a, b, h.0, h.1.1) (at_finish refl refl no_cut)

  first_stands : (s : EndState) (l : List Tree) (e : End) (w : List Tree) → WritesFirst k s l e w → Stands (linear book heading) (begin_work k d heading) l e w (end_by s First)
  first_stands Unended l e w h = rw (h.0, h.1.0, h.1.1) (prefix_refl [])
  first_stands Ended l e w h = first_wrote l e w h.0 h.1.0 h.1.1.0 h.1.1.1
  first_stands WriteFault l e w h = first_wrote l e w h.0 h.1.0 h.1.1.0 h.1.1.1
  first_stands (Failed c) l e w h = first_failed c l e w h.0 h.1.0 h.1.1

  -- ---- the last

  abbrev keeper : ℕ → Option Tree → Stage
  keeper n o = record { node = k; decider = d; taken = n; work = lasting o }

  keeps : (o : Option Tree) (n : ℕ) (l : List Tree) → (m : ℕ) × (run (linear book (lasting None)) (record { gave = []; state = going (keeper n o) }) l ≡ record { gave = []; state = going (keeper m (last_or o l)) })
  keeps o n [] = (n, refl)
  keeps o n (t ∷ l) = keeps (Some t) (n + 1) l

  kept : (l : List Tree) → (m : ℕ) × (run (linear book (lasting None)) (begin_work k d (lasting None)) l ≡ record { gave = []; state = going (keeper m (last_of l)) })
  kept l = let r = keeps None 0 l in (r.0, r.1 ∙ ap (λ (o : Option Tree). record { gave = []; state = going (keeper r.0 o) }) (last_all l))

  last_wrote : (l : List Tree) (e : End) (w : List Tree) (t : Tree) → last_of l ≡ Some t → w ≡ t ∷ [] → e ≡ ended → Stands (linear book (lasting None)) (begin_work k d (lasting None)) l e w ended
  last_wrote l e w t a b c = let r = kept l in rw (b, c, r.1, a) refl

  last_cut : (l : List Tree) (h : ℕ) → CutBy (linear book (lasting None)) h (begin_work k d (lasting None)) l []
  last_cut l h =
      let r = kept l in
      let some = kept (take (length l - h) l) in
      record { part = rw r.1 (prefix_refl []); enough = rw some.1 (omega arith) }

  last_failed : (c : Cause) (l : List Tree) (e : End) (w : List Tree) → w ≡ [] → FailsBy k c l e → Stands (linear book (lasting None)) (begin_work k d (lasting None)) l e w (failed c)
  last_failed c l e w b (inl h) = let r = kept l in rw (b, h) (of_input (rw r.1 refl) (last_cut l 0))
  last_failed c l e w b (inr h) = rw (b, h.0, h.1.0, h.1.1) (at_finish refl refl (last_cut [] 0))

  last_stands : (o : Option Tree) (s : EndState) (l : List Tree) (e : End) (w : List Tree) → WritesLast k o s l e w → Stands (linear book (lasting None)) (begin_work k d (lasting None)) l e w (end_by s Last)
  last_stands o Unended l e w h = rw (h.1.0, h.1.1) (prefix_nil _)
  last_stands o Ended l e w h = last_wrote l e w h.0 h.1.0 h.1.1.0 h.1.1.1
  last_stands o WriteFault l e w h = last_wrote l e w h.0 h.1.0 h.1.1.0 h.1.1.1
  last_stands o (Failed c) l e w h = last_failed c l e w h.0 h.1

  -- ---- any of them

  written_stands : (wr : Writes) (o : Option Tree) (s : EndState) (l : List Tree) (e : End) (w : List Tree) → WritesOf wr k o s l e w → Stands (linear book (work_by wr)) (begin_work k d (work_by wr)) l e w (end_by s wr)
  written_stands Each o s l e w h = each_stands s l e w h
  written_stands First o s l e w h = first_stands s l e w h
  written_stands Last o s l e w h = last_stands o s l e w h

  -- what was to be written is a list that may pass and stand so, where what came agrees
  pub written_agrees : (wr : Writes) (o : Option Tree) (s : EndState) (l : List Tree) (e : End) (w : List Tree) (x : Outlook) → WritesOf wr k o s l e w → Agrees x l e → Agrees (output (linear book (work_by wr)) (begin_work k d (work_by wr)) x) w (end_by s wr)
  written_agrees wr o s l e w x h a = trace_output (linear book (work_by wr)) (begin_work k d (work_by wr)) x l e w (end_by s wr) a (written_stands wr o s l e w h)
