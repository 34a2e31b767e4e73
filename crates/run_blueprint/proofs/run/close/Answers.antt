-- The goals of `run::close` that the search leaves.
use Rattle.std.proofs.Common.{refl}
use Rattle.std.specs.Option.{option_to_list}
use Rattle.run_blueprint.proofs.Closing.{runs_of, closes_run}
use Rattle.run_blueprint.proofs.Shuts.{shuts_of}
use Rattle.run_blueprint.proofs.Traces.{traces_of, text_written, name_opened, name_written}
use Rattle.run_blueprint.proofs.run.close.Goals as goal

pub returns-clause-runs : goal.returns-clause-runs
returns-clause-runs g c = λ old b plans trace budget ss ds can separate named opens opened leaves led heads typed told.
    let wrote = c.write_trace-drain.ensures.writes in
    let shut = c.close_all.ensures.closes in
    let closed = c.close_trace.ensures.closes in
    runs_of g.F.Inp.Source.state g.F.Out.Drain.state g.B.PlugBook.lists
    (record {
      reads_law = c.parts_hold_their_files.ensures.sources;
      writes_law = c.parts_hold_their_files.ensures.files;
      source_there = c.every_source_reads_little_ahead.ensures.there;
      sink_there = c.every_sink_agrees.ensures.there;
    })
    (record {
      fits = c.fit_blueprints_pass_the_rules.ensures;
      types = c.every_wire_carries_its_type.ensures.run;
      texts = c.every_node_gives_of_what_came.ensures.lines;
      customs = c.every_node_gives_of_what_came.ensures.customs;
      typed = c.every_node_gives_of_what_came.ensures.typed;
      gives = c.every_node_gives_of_what_came.ensures.others;
      ranked = c.fit_blueprints_are_whole.ensures.ranked;
      agree = c.every_wire_agrees.ensures;
      blames = c.customs_blame_themselves.ensures;
      trees = c.polytrees_end.ensures;
      wrote = c.every_sink_writes.ensures;
      sent = c.every_sink_counts_its_lines.ensures.sent;
      rest = c.every_sink_counts_its_lines.ensures.rest;
      reads = c.every_source_reads_little_ahead.ensures.reads;
      lawful = c.every_picture_is_lawful.ensures.composed;
      lawful_by = c.every_picture_is_lawful.ensures.any;
      rests = c.a_picture_without_events_rests.ensures.composed;
      rests_by = c.a_picture_without_events_rests.ensures.any;
      moves = c.every_move_fits.ensures;
      begins = c.every_node_begins_its_plan.ensures;
      misfit = c.every_misfit_has_its_cause.ensures.any;
      serves = c.every_plan_is_served.ensures.wires;
      match = c.a_picture_without_events_rests.ensures.sinks;
      ignorer = c.every_sink_agrees.ensures.ignorer;
      took = c.every_sink_agrees.ensures.took;
    })
    b can ss ds budget _ leaves plans led old _ trace separate opens _
    (shuts_of _ _ _ (option_to_list trace) _ _ _ shut closed (name_written (option_to_list trace) _ _ _ _ wrote (name_opened _ trace _ opened)))
    heads (typed, told) _ _
    (traces_of old _ _ _ b _ _ _ trace _ _ _ opened opens.wfaults (text_written b _ _ _ _ _ _ named c.deref.ensures.value wrote) shut closed)

pub returns-clause-all : goal.returns-clause-all
returns-clause-all g c = λ old b trace budget ss ds can separate opens opened leaves.
    closes_run g.F.Inp.Source.state g.F.Out.Drain.state g.B.PlugBook.lists
    (record {
      reads_law = c.parts_hold_their_files.ensures.sources;
      writes_law = c.parts_hold_their_files.ensures.files;
      source_there = c.every_source_reads_little_ahead.ensures.there;
      sink_there = c.every_sink_agrees.ensures.there;
    })
    (record {
      fits = c.fit_blueprints_pass_the_rules.ensures;
      types = c.every_wire_carries_its_type.ensures.run;
      texts = c.every_node_gives_of_what_came.ensures.lines;
      customs = c.every_node_gives_of_what_came.ensures.customs;
      typed = c.every_node_gives_of_what_came.ensures.typed;
      gives = c.every_node_gives_of_what_came.ensures.others;
      ranked = c.fit_blueprints_are_whole.ensures.ranked;
      agree = c.every_wire_agrees.ensures;
      blames = c.customs_blame_themselves.ensures;
      trees = c.polytrees_end.ensures;
      wrote = c.every_sink_writes.ensures;
      sent = c.every_sink_counts_its_lines.ensures.sent;
      rest = c.every_sink_counts_its_lines.ensures.rest;
      reads = c.every_source_reads_little_ahead.ensures.reads;
      lawful = c.every_picture_is_lawful.ensures.composed;
      lawful_by = c.every_picture_is_lawful.ensures.any;
      rests = c.a_picture_without_events_rests.ensures.composed;
      rests_by = c.a_picture_without_events_rests.ensures.any;
      moves = c.every_move_fits.ensures;
      begins = c.every_node_begins_its_plan.ensures;
      misfit = c.every_misfit_has_its_cause.ensures.any;
      serves = c.every_plan_is_served.ensures.wires;
      match = c.a_picture_without_events_rests.ensures.sinks;
      ignorer = c.every_sink_agrees.ensures.ignorer;
      took = c.every_sink_agrees.ensures.took;
    })
    b can ss ds budget _ leaves _ refl old _ trace separate opens _
    (shuts_of _ _ _ (option_to_list trace) _ _ _ c.close_all.ensures.closes c.close_trace.ensures.closes (name_written (option_to_list trace) _ _ _ _ c.write_trace-drain.ensures.writes (name_opened _ trace _ opened)))
