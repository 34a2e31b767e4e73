-- The goals of `run::run` that the search leaves.
use Rattle.std.proofs.Common.{◌≡◌, ◌∙◌, inl, inr, ℕ, Bool, Err, Result, refl, sym, ap, map, length, subst}
use Rattle.stream_model.specs.declared.blueprint.Blueprint.{Blueprint}
use Rattle.island_runs.specs.declared.ran.Ran.{Ran}
use Rattle.stream_io.specs.Opening.{OpensAll, GivesUp, MissesInput, RefusesOutput}
use Rattle.stream_io.proofs.Stoppings.{gives_up_first}
use Rattle.materializer.specs.Choosers.{moves_of}
use Rattle.materializer.specs.Files.{inputs_of_nodes, outputs_of_nodes}
use Rattle.materializer.specs.HandedCustoms.{handed_heads}
use Rattle.materializer.specs.Seats.{place_plan, place_types}
use Rattle.island_runs.specs.Leaving.{RunLeaves, LeavesBrokenAs}
use Rattle.island_runs.specs.Receipt.{IsReceipt}
use Rattle.run_blueprint.specs.Tracing.{written_files}
use Rattle.run_blueprint.proofs.Breaking.{unmade, closes_unmade, none_open}
use Rattle.run_blueprint.proofs.Places.{all_unmapped}
use Rattle.run_blueprint.proofs.Traces.{opened_apart, as_many_drains, last_there}
use Rattle.run_blueprint.proofs.ToldTypes.{handed_told}
use Rattle.run_blueprint.proofs.run.run.Goals as goal

receipt_as : (b : Blueprint) (workers m n : ℕ) (p q : Bool) (r t : Ran) → m ≡ n → p ≡ q → r ≡ t → IsReceipt b workers n q t → IsReceipt b workers m p r
receipt_as b workers m n p q r t e f h its = subst (λ (x : ℕ). IsReceipt b workers x p r) (sym e) (subst (λ (x : Bool). IsReceipt b workers n x r) (sym f) (subst (λ (x : Ran). IsReceipt b workers n q x) (sym h) its))

-- what is left of one blueprint, and what its nodes follow, is so of the same one
with_plan : {T U : Type 0} (R : Blueprint → Type 0) (f : (p : Blueprint) → R p → T) (h : (p : Blueprint) → R p → U) (t : T) (u : U) (x y : Blueprint) → x ≡ y
    → (l : R x) × (f x l ≡ t) × (h x l ≡ u) → (l : R y) × (f y l ≡ t) × (h y l ≡ u)
with_plan R f h t u x y e both = subst (λ p. (l : R p) × (f p l ≡ t) × (h p l ≡ u)) e both

err_same : {T E : Type 0} (x y : Result T E) (a b : E) → x ≡ Err a → y ≡ Err b → x ≡ y → a ≡ b
err_same x y a b p q e = cc

pub returns-in_default-clause-no_memory : goal.returns-in_default-clause-no_memory
returns-in_default-clause-no_memory g c = λ e. inl (gives_up_first (g.F.Folder.state c.args.folder.now) (written_files c.args.b c.args.trace))

pub returns-in_default-prepare-clause-no_memory : goal.returns-in_default-prepare-clause-no_memory
returns-in_default-prepare-clause-no_memory g c = λ e. inl (gives_up_first (g.F.Folder.state c.args.folder.now) (written_files c.args.b c.args.trace))

pub returns-in-Err-clause-no_input : goal.returns-in-Err-clause-no_input
returns-in-Err-clause-no_input g c =
    λ n e. subst (λ names. MissesInput (g.F.Folder.state c.args.folder.now) (g.F.Folder.state c.open_all.new.folder) names n) c.in-Ok.ensures.inputs (c.in-Err.ensures.no_input n (ap Err (err_same _ _ _ _ refl refl e)))

pub returns-in-Err-clause-no_output : goal.returns-in-Err-clause-no_output
returns-in-Err-clause-no_output g c =
    let old = g.F.Folder.state c.args.folder.now in
    let mid = g.F.Folder.state c.open_all.new.folder in
    λ n e. subst (λ names. RefusesOutput old mid (inputs_of_nodes c.args.b.nodes.items) names n) c.in-Ok.ensures.outputs
    (subst (λ names. RefusesOutput old mid names c.in-Ok.named.outputs.items n) c.in-Ok.ensures.inputs (c.in-Err.ensures.no_output n (ap Err (err_same _ _ _ _ refl refl e))))

pub returns-in-Err-clause-no_memory : goal.returns-in-Err-clause-no_memory
returns-in-Err-clause-no_memory g c =
    λ e. inl
    (subst (λ names. GivesUp (g.F.Folder.state c.args.folder.now) (g.F.Folder.state c.open_all.new.folder) names) c.in-Ok.ensures.outputs (c.in-Err.ensures.no_memory (ap Err (err_same _ _ _ _ refl refl e))))

pub take_last-drain-requires : goal.take_last-drain-requires
take_last-drain-requires g c = last_there g.F.Out.Drain.state (g.F.Folder.state c.args.folder.now) (g.F.Folder.state c.open_all.new.folder) c.args.b c.args.trace (map g.F.Inp.Source.state c.in-Ok-open_all.opened.inputs.items) c.in-Ok-open_all.opened.outputs.items _ _ _ c.in-Ok.ensures.outputs c.in-Ok-open_all.ensures.opened c.is_some-wanted.ensures

pub run-requires-clause-drains : goal.run-requires-clause-drains
run-requires-clause-drains g c = λ κs lives.
    let old = g.F.Folder.state c.args.folder.now in
    let mid = g.F.Folder.state c.open_all.new.folder in
    let ss = c.in-Ok-open_all.opened.inputs.items in
    let all = c.in-Ok-open_all.opened.outputs.items in
    let ds = c.take_last-drain.new.drains.items in
    let drain = c.take_last-drain.result in
    let both = opened_apart g.F.Out.Drain.state old mid c.args.b c.args.trace (map g.F.Inp.Source.state ss) all ds drain _ _ _ c.in-Ok.ensures.inputs c.in-Ok.ensures.outputs c.in-Ok-open_all.ensures.opened c.take_last-drain.ensures.all c.take_last-drain.ensures.wanted c.is_some-wanted.ensures in
    c.take_last-drain.new.drains.ok.0 ∙ as_many_drains g.F.Out.Drain.state ds _ both.0.output_names ∙ ap (λ (p : Blueprint). length (outputs_of_nodes p.nodes.items)) (sym c.in-Ok-prepare.ensures.blueprint)

pub run-requires-clause-unread : goal.run-requires-clause-unread
run-requires-clause-unread g c = λ κs lives.
    let old = g.F.Folder.state c.args.folder.now in
    let mid = g.F.Folder.state c.open_all.new.folder in
    let ss = c.in-Ok-open_all.opened.inputs.items in
    let all = c.in-Ok-open_all.opened.outputs.items in
    let ds = c.take_last-drain.new.drains.items in
    let drain = c.take_last-drain.result in
    let both = opened_apart g.F.Out.Drain.state old mid c.args.b c.args.trace (map g.F.Inp.Source.state ss) all ds drain _ _ _ c.in-Ok.ensures.inputs c.in-Ok.ensures.outputs c.in-Ok-open_all.ensures.opened c.take_last-drain.ensures.all c.take_last-drain.ensures.wanted c.is_some-wanted.ensures in
    all_unmapped (λ i. i.given ≡ 0) g.F.Inp.Source.state ss (λ k d h. (both.0.sources k d h).given)

pub returns-in-Ok-run-clause-ran : goal.returns-in-Ok-run-clause-ran
returns-in-Ok-run-clause-ran g c =
    let old = g.F.Folder.state c.args.folder.now in
    let mid = g.F.Folder.state c.open_all.new.folder in
    let ss = c.in-Ok-open_all.opened.inputs.items in
    let all = c.in-Ok-open_all.opened.outputs.items in
    let ds = c.take_last-drain.new.drains.items in
    let drain = c.take_last-drain.result in
    let both = opened_apart g.F.Out.Drain.state old mid c.args.b c.args.trace (map g.F.Inp.Source.state ss) all ds drain _ _ _ c.in-Ok.ensures.inputs c.in-Ok.ensures.outputs c.in-Ok-open_all.ensures.opened c.take_last-drain.ensures.all c.take_last-drain.ensures.wanted c.is_some-wanted.ensures in
    let leaves = with_plan (λ p. RunLeaves g.row.L.Denot g.row.H.Denot g.row.B.Denot g.F.Inp.Source.state g.F.Out.Drain.state g.B.PlugBook.lists p ss ds c.args.budget c.in-Ok-run.stopped) (λ p l. map place_plan l.moment.places) (λ p l. map place_types l.moment.places) _ _ _ _ c.in-Ok-prepare.ensures.blueprint c.in-Ok-run.ensures.leaves in
    c.close.ensures.runs old c.args.b (map moves_of c.args.plans.items) c.args.trace c.args.budget ss ds c.requires.runs c.requires.apart (c.deref.ensures.value ∙ c.in-Ok.ensures.choosers) both.0 both.1 leaves.0 (leaves.1 ∙ c.in-Ok-prepare.ensures.led)
    (handed_heads c.args.plugs.items c.args.customs.items) (leaves.2 ∙ c.in-Ok-prepare.ensures.types)
    (handed_told g.H.Handlers.tells g.B.PlugBook.lists c.args.plugs.items c.args.customs.items c.requires.customs)

pub returns-in-Ok-run-clause-handles : goal.returns-in-Ok-run-clause-handles
returns-in-Ok-run-clause-handles g c =
    let old = g.F.Folder.state c.args.folder.now in
    let mid = g.F.Folder.state c.open_all.new.folder in
    let ss = c.in-Ok-open_all.opened.inputs.items in
    let all = c.in-Ok-open_all.opened.outputs.items in
    let ds = c.take_last-drain.new.drains.items in
    let drain = c.take_last-drain.result in
    let both = opened_apart g.F.Out.Drain.state old mid c.args.b c.args.trace (map g.F.Inp.Source.state ss) all ds drain _ _ _ c.in-Ok.ensures.inputs c.in-Ok.ensures.outputs c.in-Ok-open_all.ensures.opened c.take_last-drain.ensures.all c.take_last-drain.ensures.wanted c.is_some-wanted.ensures in
    let leaves = with_plan (λ p. RunLeaves g.row.L.Denot g.row.H.Denot g.row.B.Denot g.F.Inp.Source.state g.F.Out.Drain.state g.B.PlugBook.lists p ss ds c.args.budget c.in-Ok-run.stopped) (λ p l. map place_plan l.moment.places) (λ p l. map place_types l.moment.places) _ _ _ _ c.in-Ok-prepare.ensures.blueprint c.in-Ok-run.ensures.leaves in
    none_open ss all ds drain _ _ _ _ c.in-Ok-open_all.ensures.handles c.take_last-drain.ensures.all (c.close.ensures.all old c.args.b c.args.trace c.args.budget ss ds c.requires.runs c.requires.apart both.0 both.1 leaves.0) c.close.ensures.handles

pub returns-in-Err-Unmade-clause-no_memory : goal.returns-in-Err-Unmade-clause-no_memory
returns-in-Err-Unmade-clause-no_memory g c =
    let old = g.F.Folder.state c.args.folder.now in
    let mid = g.F.Folder.state c.open_all.new.folder in
    let ss = c.in-Ok-open_all.opened.inputs.items in
    let all = c.in-Ok-open_all.opened.outputs.items in
    let ds = c.take_last-drain.new.drains.items in
    let is = map g.F.Inp.Source.state ss in
    let os = map g.F.Out.Drain.state all in
    let opens = subst (λ names. OpensAll old mid (inputs_of_nodes c.args.b.nodes.items) names is os) c.in-Ok.ensures.outputs
    (subst (λ names. OpensAll old mid names c.in-Ok.named.outputs.items is os) c.in-Ok.ensures.inputs c.in-Ok-open_all.ensures.opened) in
    let told = subst (λ p. LeavesBrokenAs g.row.L.Denot g.row.H.Denot g.row.B.Denot g.F.Inp.Source.state g.F.Out.Drain.state g.B.PlugBook.lists p ss ds c.in-Err-Unmade.field-0) c.in-Ok-prepare.ensures.blueprint c.in-Err-Unmade.ensures.breaks in
    let broken = subst (λ x. LeavesBrokenAs g.row.L.Denot g.row.H.Denot g.row.B.Denot g.F.Inp.Source.state g.F.Out.Drain.state g.B.PlugBook.lists c.args.b ss ds x) c.in-Err-Unmade.field-0-is told in
    λ e. inl (unmade g.F.Inp.Source.state g.F.Out.Drain.state old mid _ c.args.b c.args.trace ss all ds c.take_last-drain.result _ opens c.take_last-drain.ensures.all broken c.close_unmade.ensures.closes)

pub returns-in-Err-Unmade-clause-handles : goal.returns-in-Err-Unmade-clause-handles
returns-in-Err-Unmade-clause-handles g c =
    let ss = c.in-Ok-open_all.opened.inputs.items in
    let ds = c.take_last-drain.new.drains.items in
    let told = subst (λ p. LeavesBrokenAs g.row.L.Denot g.row.H.Denot g.row.B.Denot g.F.Inp.Source.state g.F.Out.Drain.state g.B.PlugBook.lists p ss ds c.in-Err-Unmade.field-0) c.in-Ok-prepare.ensures.blueprint c.in-Err-Unmade.ensures.breaks in
    let broken = subst (λ x. LeavesBrokenAs g.row.L.Denot g.row.H.Denot g.row.B.Denot g.F.Inp.Source.state g.F.Out.Drain.state g.B.PlugBook.lists c.args.b ss ds x) c.in-Err-Unmade.field-0-is told in
    none_open ss c.in-Ok-open_all.opened.outputs.items ds c.take_last-drain.result _ _ _ _ c.in-Ok-open_all.ensures.handles c.take_last-drain.ensures.all (closes_unmade g.F.Inp.Source.state g.F.Out.Drain.state ss ds _ broken) c.close_unmade.ensures.handles

pub returns-clause-no_memory : goal.returns-clause-no_memory
returns-clause-no_memory g c =
    let old = g.F.Folder.state c.args.folder.now in
    let mid = g.F.Folder.state c.open_all.new.folder in
    let ss = c.in-Ok-open_all.opened.inputs.items in
    let all = c.in-Ok-open_all.opened.outputs.items in
    let ds = c.take_last-drain.new.drains.items in
    let drain = c.take_last-drain.result in
    let both = opened_apart g.F.Out.Drain.state old mid c.args.b c.args.trace (map g.F.Inp.Source.state ss) all ds drain _ _ _ c.in-Ok.ensures.inputs c.in-Ok.ensures.outputs c.in-Ok-open_all.ensures.opened c.take_last-drain.ensures.all c.take_last-drain.ensures.wanted c.is_some-wanted.ensures in
    let told = subst (λ p. LeavesBrokenAs g.row.L.Denot g.row.H.Denot g.row.B.Denot g.F.Inp.Source.state g.F.Out.Drain.state g.B.PlugBook.lists p ss ds c.in-Err-Within.field-0) c.in-Ok-prepare.ensures.blueprint c.in-Err-Within.ensures.breaks in
    let broken = subst (λ x. LeavesBrokenAs g.row.L.Denot g.row.H.Denot g.row.B.Denot g.F.Inp.Source.state g.F.Out.Drain.state g.B.PlugBook.lists c.args.b ss ds x) c.in-Err-Within.field-0-is told in
    λ e. inr (c.give_up.ensures.wants old c.args.b c.args.trace ss ds c.requires.runs c.requires.apart both.0 both.1 broken)

pub returns-clause-handles : goal.returns-clause-handles
returns-clause-handles g c =
    let old = g.F.Folder.state c.args.folder.now in
    let mid = g.F.Folder.state c.open_all.new.folder in
    let ss = c.in-Ok-open_all.opened.inputs.items in
    let all = c.in-Ok-open_all.opened.outputs.items in
    let ds = c.take_last-drain.new.drains.items in
    let drain = c.take_last-drain.result in
    let both = opened_apart g.F.Out.Drain.state old mid c.args.b c.args.trace (map g.F.Inp.Source.state ss) all ds drain _ _ _ c.in-Ok.ensures.inputs c.in-Ok.ensures.outputs c.in-Ok-open_all.ensures.opened c.take_last-drain.ensures.all c.take_last-drain.ensures.wanted c.is_some-wanted.ensures in
    let told = subst (λ p. LeavesBrokenAs g.row.L.Denot g.row.H.Denot g.row.B.Denot g.F.Inp.Source.state g.F.Out.Drain.state g.B.PlugBook.lists p ss ds c.in-Err-Within.field-0) c.in-Ok-prepare.ensures.blueprint c.in-Err-Within.ensures.breaks in
    let broken = subst (λ x. LeavesBrokenAs g.row.L.Denot g.row.H.Denot g.row.B.Denot g.F.Inp.Source.state g.F.Out.Drain.state g.B.PlugBook.lists c.args.b ss ds x) c.in-Err-Within.field-0-is told in
    none_open ss all ds drain _ _ _ _ c.in-Ok-open_all.ensures.handles c.take_last-drain.ensures.all (c.give_up.ensures.all old c.args.b c.args.trace ss ds c.requires.runs c.requires.apart both.0 both.1 broken) c.give_up.ensures.handles

pub returns-in-Ok-run-clause-receipt : goal.returns-in-Ok-run-clause-receipt
returns-in-Ok-run-clause-receipt g c =
    let same = c.close.ensures.same in
    let its = subst (λ p. IsReceipt p c.args.workers c.in-Ok-run.stopped.used c.in-Ok-run.stopped.at_rest c.in-Ok-run.stopped.ran) c.in-Ok-prepare.ensures.blueprint c.in-Ok-run.ensures.receipt in
    receipt_as c.args.b c.args.workers _ _ _ _ _ _ same.0 same.1 same.2 its
