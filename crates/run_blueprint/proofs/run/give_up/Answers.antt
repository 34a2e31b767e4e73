-- The goals of `run::give_up` that the search leaves.
use Rattle.run_blueprint.proofs.Breaking.{wants_within, closes_broken}
use Rattle.std.specs.Option.{option_to_list}
use Rattle.run_blueprint.proofs.Shuts.{shuts_of}
use Rattle.run_blueprint.proofs.Traces.{empty_of, name_opened}
use Rattle.run_blueprint.proofs.run.give_up.Goals as goal

pub returns-clause-wants : goal.returns-clause-wants
returns-clause-wants g c = λ old b trace ss ds can separate opens opened leaves.
    let shut = c.close_broken.ensures.closes in
    let closed = c.close_trace.ensures.closes in
    wants_within g.F.Inp.Source.state g.F.Out.Drain.state g.B.PlugBook.lists
    (record {
      reads_law = c.parts_hold_their_files.ensures.sources;
      writes_law = c.parts_hold_their_files.ensures.files;
      source_there = c.every_source_reads_little_ahead.ensures.there;
      sink_there = c.every_sink_agrees.ensures.there;
    })
    c.every_sink_writes.ensures c.fit_blueprints_are_whole.ensures.ranked b can ss ds _ leaves old _ trace separate opens _
    (shuts_of _ _ _ (option_to_list trace) _ _ _ shut closed (name_opened _ trace _ opened))
    (empty_of old _ _ _ _ _ trace _ opened opens.wfaults shut closed)

pub returns-clause-all : goal.returns-clause-all
returns-clause-all g c = λ old b trace ss ds can separate opens opened leaves.
    closes_broken g.F.Inp.Source.state g.F.Out.Drain.state g.B.PlugBook.lists
    (record {
      reads_law = c.parts_hold_their_files.ensures.sources;
      writes_law = c.parts_hold_their_files.ensures.files;
      source_there = c.every_source_reads_little_ahead.ensures.there;
      sink_there = c.every_sink_agrees.ensures.there;
    })
    c.every_sink_writes.ensures c.fit_blueprints_are_whole.ensures.ranked b can ss ds _ leaves old _ trace separate opens _
    (shuts_of _ _ _ (option_to_list trace) _ _ _ c.close_broken.ensures.closes c.close_trace.ensures.closes (name_opened _ trace _ opened))
