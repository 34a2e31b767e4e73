use Rattle.std.proofs.Common.{◌≡◌, ℕ, true, take, Some}
use Rattle.std.specs.Prelude.{slice_get}
use Rattle.stream_model.specs.Graph.{Edge}
use Rattle.blue_names.specs.Links.{wires_of_links}
use Rattle.blue_names.specs.Members.{is_in}
use Rattle.blue_types.proofs.NewsLists.{Leads}
use Rattle.blue_types.proofs.news.add_targets.Given as goal

abbrev pub invariant-loop-i : goal.invariant-loop-i
invariant-loop-i l = Leads (wires_of_links l.links) l.initial.front.items l.front.items (take l.i-index l.i-items)
