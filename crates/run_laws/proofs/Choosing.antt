-- The world in which each node has made the moves of an account's tells what its stages chose.
use Rattle.std.proofs.Common.{◌∙◌, ℕ, List, [], ap}
use Rattle.std.specs.Prelude.{Option}
use Rattle.std.specs.Option.{unwrap_or}
use Rattle.stream_model.specs.Linear.{Book}
use Rattle.stream_model.specs.Sources.{File}
use Rattle.nodes.specs.declared.node.IslandNode.{IslandNode}
use Rattle.run_laws.specs.Account.{Account}
use Rattle.run_laws.specs.Telling.{moves_at, TellsPicks, chosen_world}

pub chosen_told : {S D L H B : Type 0} (book : Book) (file : List ℕ → File) (a : Account (IslandNode S D L H B)) → TellsPicks (chosen_world book file a) a
chosen_told book file a k now at moves picks = ap moves_at at ∙ ap (λ (o : Option (List ℕ)). unwrap_or o []) picks
