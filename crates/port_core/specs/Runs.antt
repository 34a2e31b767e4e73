-- What happens at a connection over time: a list of moves, each allowed when it comes.
use Rattle.std.specs.Prelude.{Bool, true, false, List, [], ◌∷◌, ⊤}
use Rattle.elem_core.specs.Tree.{Tree}
use Rattle.port_core.specs.Connection.{Connection}
use Rattle.port_core.specs.PortRules.{Move, on_pull, push, on_push, grab, complete, fail, cancel, on_cancel, on_finish, on_fail, Allowed, after_move}

-- from p on, the table allows each move in its turn
abbrev pub AllowedRun : Connection → List Move → Type 0
AllowedRun p [] = ⊤
AllowedRun p (m ∷ ms) = Allowed m p × AllowedRun (after_move m p) ms

-- the connection that they lead to
abbrev pub led : Connection → List Move → Connection
led p [] = p
led p (m ∷ ms) = led (after_move m p) ms

-- a pull comes to the output
abbrev pub is_on_pull : Move → Bool
is_on_pull on_pull = true
is_on_pull _ = false

-- an element comes to the input
abbrev pub is_on_push : Move → Bool
is_on_push (on_push e) = true
is_on_push _ = false

-- the input takes the element that came
abbrev pub is_grab : Move → Bool
is_grab (grab e) = true
is_grab _ = false

-- a call that closes a side, or the delivery of one
abbrev pub is_closing : Move → Bool
is_closing complete = true
is_closing (fail c) = true
is_closing cancel = true
is_closing on_cancel = true
is_closing on_finish = true
is_closing (on_fail c) = true
is_closing _ = false

-- the end of the output comes to the input
abbrev pub is_ending : Move → Bool
is_ending on_finish = true
is_ending (on_fail c) = true
is_ending _ = false

-- the elements that were pushed, in their order
abbrev pub pushed_in : List Move → List Tree
pushed_in [] = []
pushed_in (push e ∷ ms) = e ∷ pushed_in ms
pushed_in (_ ∷ ms) = pushed_in ms

-- the elements that were grabbed in them, in their order
abbrev pub grabbed_in : List Move → List Tree
grabbed_in [] = []
grabbed_in (grab e ∷ ms) = e ∷ grabbed_in ms
grabbed_in (_ ∷ ms) = grabbed_in ms
