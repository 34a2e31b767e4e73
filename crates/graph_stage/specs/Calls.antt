-- The calls that a custom stage had, one after another, and what passed at its ports by them.
use Rattle.std.specs.Prelude.{◌≡◌, List, [], ◌∷◌, ⊤}
use Rattle.elem_core.specs.declared.item.Item.{Item}
use Rattle.port_core.specs.declared.act.Act.{Act}
use Rattle.port_core.specs.View.{View, acted_all}
use Rattle.port_core.specs.Call.{Call, starts, pulls, arrives, cancels, CallAllowed, seen}
use Rattle.stream_model.specs.Linear.{Book}
use Rattle.stage_core.specs.Histories.{given_all, brought_by}
use Rattle.graph_stage.specs.State.{CustomState, RuledAs}

-- a call, the actions that came of it, and the stage behind it
pub record CallMade : Type 0 where
  pub call : Call
  pub acts : List Act
  pub after : CustomState

-- the call is not that of the start
abbrev pub IsLater : Call → Type 0
IsLater starts = ⊥
IsLater (pulls j) = ⊤
IsLater (arrives i x) = ⊤
IsLater (cancels j) = ⊤

-- none of them is the start
abbrev pub AllLater : List CallMade → Type 0
AllLater [] = ⊤
AllLater (c ∷ calls) = IsLater c.call × AllLater calls

-- the first of them alone is the start
abbrev pub BeginsOnce : List CallMade → Type 0
BeginsOnce [] = ⊥
BeginsOnce (c ∷ calls) = (c.call ≡ starts) × AllLater calls

-- what is known of the ports once their actions are done
abbrev pub ports_behind : View → List CallMade → View
ports_behind v [] = v
ports_behind v (c ∷ calls) = ports_behind (acted_all (seen c.call v) c.acts) calls

-- the port rules allow each in its turn
abbrev pub CallsAllowed : View → List CallMade → Type 0
CallsAllowed v [] = ⊤
CallsAllowed v (c ∷ calls) = CallAllowed c.call v × CallsAllowed (acted_all (seen c.call v) c.acts) calls

-- what passed at the inputs with what they brought
abbrev pub brought_by_calls : List CallMade → List (List Item) → List (List Item)
brought_by_calls [] took = took
brought_by_calls (c ∷ calls) took = brought_by_calls calls (brought_by c.call took)

-- what passed at the outputs with what their actions gave
abbrev pub given_by_calls : List CallMade → List (List Item) → List (List Item)
given_by_calls [] gave = gave
given_by_calls (c ∷ calls) gave = given_by_calls calls (given_all c.acts gave)

-- From the first stage on each call was one call of its handler, by this book of lists, and the last one left this stage.
abbrev pub CalledOn : Book → CustomState → List CallMade → CustomState → Type 0
CalledOn b first [] now = now ≡ first
CalledOn b first (c ∷ calls) now = RuledAs b c.call first c.after c.acts × CalledOn b c.after calls now
