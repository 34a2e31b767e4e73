-- What came of one element, and of the end of the input, as steps of the model.
use Rattle.std.proofs.Common.{◌≡◌, ℕ, ◌+◌, List, [], refl, sym, ap, ◌∙◌}
use Rattle.elem_core.specs.Tree.{Tree}
use Rattle.elem_core.specs.declared.why.Decider.{Decider}
use Rattle.elem_core.specs.declared.why.Decider.TheVariants.{Stop, Resume, Restart}
use Rattle.elem_core.specs.declared.why.Why.{Why}
use Rattle.step_work.specs.declared.task.LinearReaction.{LinearReaction}
use Rattle.step_work.specs.declared.task.LinearReaction.TheVariants.{Gives, GivesAll, Skips, EndsWith, EndsWithAll, Ends, Blames, Fails}
use Rattle.step_work.specs.Tasks.{ReactedBy, Stays}
use Rattle.step_work.specs.Keeping.{stage_of}
use Rattle.stream_model.specs.Machine.{going}
use Rattle.stream_model.specs.Linear.{Work, reacts, decided, restarted, first_of}
use Rattle.line_chain.specs.Line.{no_plugs}
use Rattle.line_chain.specs.Steps.{step_decided, Replies}

-- an element that the function has no value for, where the work has no state to begin again
blamed : (d : Decider) (old new : Work) (why : Why) (node n : ℕ) → Stays old new → decided d (stage_of node d n old) why ≡ step_decided d node (n + 1) new why
blamed Stop old new why node n s = refl
blamed Resume old new why node n s = ap (λ (w : Work). record { gave = []; state = going (stage_of node Resume (n + 1) w) }) (sym s.0)
blamed Restart old new why node n s =
    ap (λ (l : List Tree). record { gave = l; state = going (stage_of node Restart (n + 1) (restarted old)) }) (ap first_of s.1.0 ∙ s.1.1)
    ∙ ap (λ (w : Work). record { gave = []; state = going (stage_of node Restart (n + 1) w) }) (s.1.0 ∙ sym s.0)

-- what a task came to is the step of the model
pub replies : (d : Decider) (old : Work) (t : Tree) (new : Work) (o : LinearReaction) → ReactedBy no_plugs old t new o → Replies d old t new o
replies d old t new (Gives u) r = λ node n. ap (reacts (stage_of node d n old)) r.0
replies d old t new (GivesAll us) r = λ node n. ap (reacts (stage_of node d n old)) r.0
replies d old t new Skips r = λ node n. ap (reacts (stage_of node d n old)) r.0
replies d old t new (EndsWith u) r = λ node n. ap (reacts (stage_of node d n old)) r.0
replies d old t new (EndsWithAll us) r = λ node n. ap (reacts (stage_of node d n old)) r.0
replies d old t new Ends r = λ node n. ap (reacts (stage_of node d n old)) r.0
replies d old t new (Blames why) r = λ node n. ap (reacts (stage_of node d n old)) r.0 ∙ blamed d old new why node n r.1
replies d old t new (Fails why) r = λ node n. ap (reacts (stage_of node d n old)) r.0
