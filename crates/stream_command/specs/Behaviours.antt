-- How the custom stages that the program hands in behave, each by its name. Rule: own.
use Rattle.std.specs.Prelude.{◌≡◌, ◌==◌, if◌then◌else◌, ℕ, Bool, false, List, codes}
use Rattle.std.specs.Cmp.Lexicographic.{pointwise}
use Rattle.graph_stage.specs.declared.ask.Ask.{Ask}
use Rattle.graph_stage.specs.OwnView.{Called}
use Rattle.graph_stage.specs.Shipped.{alternate_asks, turn_after, rude_asks}

-- what a stage asks for in a call, by whether it is its second output's turn; and whether it is that output's turn then
pub record Behaviour : Type 0 where
  pub asks : Bool → Called → List Ask
  pub turn : Bool → Called → Bool

-- the two outputs of `alternate` have their turns
abbrev pub alternate_behaviour : Behaviour
alternate_behaviour = record { asks = λ second heard. alternate_asks second heard.sight heard.call; turn = λ second heard. turn_after second heard.call }

-- `rude` has no turns
abbrev pub rude_behaviour : Behaviour
rude_behaviour = record { asks = λ second heard. rude_asks heard.call; turn = λ second heard. second }

-- the behaviour of the program's custom stage of this name
abbrev pub shipped_behaviour : List ℕ → Behaviour
shipped_behaviour name = if pointwise ◌==◌ name (codes "alternate") then alternate_behaviour else rude_behaviour

-- A stage of this meaning behaves so from where it stands: its state tells whose turn it is, that of the first output at first, and each
-- call asks for just what the behaviour has for it, and turns as that does.
pub record Behaves {S : Type 0} (does : S → Called → List Ask → S → Type 0) (now : S) (behaviour : Behaviour) : Type 0 where
  pub second : S → Bool
  pub first : second now ≡ false
  pub asks : (old : S) (heard : Called) (asks : List Ask) (new : S) → does old heard asks new → asks ≡ behaviour.asks (second old) heard
  pub turns : (old : S) (heard : Called) (asks : List Ask) (new : S) → does old heard asks new → second new ≡ behaviour.turn (second old) heard
