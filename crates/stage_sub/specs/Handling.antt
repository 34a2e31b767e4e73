-- A stage with substreams as the interpreter calls it: what it knows of its ports, the law of its output, and its moves.
use Rattle.std.specs.Prelude.{◌≡◌, ◌≢◌, ℕ, Bool, List, [], ◌∷◌, ◌++◌, length, take, map, Option, Some, None, ⊤}
use Rattle.std.specs.Option.{unwrap_or}
use Rattle.elem_core.specs.Tree.{Tree}
use Rattle.elem_core.specs.declared.item.Item.{Item}
use Rattle.port_core.specs.ListFunction.{ListFunction, Same}
use Rattle.port_core.specs.View.{View, in_at, out_at, unpulled_ports}
use Rattle.port_core.specs.declared.view.OutView.{OutView}
use Rattle.port_core.specs.declared.view.OutView.TheVariants.{Available}
use Rattle.stream_model.specs.declared.kind.Kind.{Kind}
use Rattle.stream_model.specs.declared.kind.Kind.TheVariants.{GroupBy, SplitWhen, SplitAfter}
use Rattle.stream_model.specs.declared.kind.Joining.{Joining}
use Rattle.stream_model.specs.declared.kind.Joining.TheVariants as joining
use Rattle.stream_model.specs.FanIn.{Tagged}
use Rattle.stream_model.specs.Machine.{going, Run, Machine, Given, run, close}
use Rattle.stream_model.specs.Outlook.{End}
use Rattle.stream_model.specs.Substreams.{Subs, Opening, substreams}
use Rattle.stage_core.specs.Held.{Held, owing}
use Rattle.stage_core.specs.Law.{Law}
use Rattle.stage_core.specs.declared.phase.Phase.TheVariants.{New, Closed}
use Rattle.step_work.specs.Means.{Means}
use Rattle.stage_sub.specs.declared.opening.OpenBy.TheVariants.{Before, Behind, Key}
use Rattle.stage_sub.specs.Joined.{untag, joined_machine}
use Rattle.stage_sub.specs.KeptSubs.{opening_of}
use Rattle.stage_sub.specs.States.{Logic, port_state, Owes, Ready, begun}

-- the moves that it has recorded, where its substreams are joined by `merge`
abbrev pub sub_picks : {C : Type 0} → Logic C → Option (List ℕ)
sub_picks l = l.moves

-- the moves that it has recorded, and none where it does not choose
abbrev pub sub_moves : {C : Type 0} → Logic C → List ℕ
sub_moves l = unwrap_or (sub_picks l) []

-- it has recorded none
abbrev pub IsUnmoved : Option (List ℕ) → Type 0
IsUnmoved None = ⊤
IsUnmoved (Some ms) = ms ≡ []

-- it keeps a log, or none, as before
abbrev pub ChoosesAs : Option (List ℕ) → Option (List ℕ) → Type 0
ChoosesAs None None = ⊤
ChoosesAs (Some first) (Some now) = ⊤
ChoosesAs _ _ = ⊥

-- the substreams of some outputs, in order
abbrev pub ports_given : List Tagged → List ℕ
ports_given l = map (λ x. x.port) l

-- what is ready to be given of a list that stands so
abbrev pub ready_of : (List Tree → End → Given Tree) → Opening → Run Subs Tagged → List Tree → End → List Tagged
ready_of yields o start l e = (close (substreams yields o) (run (substreams yields o) start l) e).list

module _ {C : Type 0} (rest : C → ListFunction) (is_open : C → Bool) where
  -- it was not started, made no move, its chains may be called, and its port state holds
  pub record SubFresh (l : Logic C) (v : View) : Type 0 where
    pub fresh : l.phase ≡ New
    pub unmoved : IsUnmoved l.moves
    pub ready : Ready rest is_open l
    pub ports : port_state l v

  -- it was started, its chains may be called, and its port state holds
  pub record SubPortState (l : Logic C) (v : View) : Type 0 where
    pub started : l.phase ≢ New
    pub ready : Ready rest is_open l
    pub ports : port_state l v

  -- At what a chain with the list function f yields in the model, from a start that the first one owed: what it owes now, the law
  -- of the machine that joins its substreams, and that the moves of a merge are the substreams of what it gave, in order. While
  -- it is not closed, the substreams of all that is ready are those of what it gave and then of what it holds.
  pub record TellsMachine (f : ListFunction) (yields : List Tree → End → Given Tree) (start : Run Subs Tagged) (first now : Logic C) (v : View)
      (took gave : List Item) : Type 0 where
    pub held : Held Subs
    pub owes : Owes rest is_open f yields now held
    pub law : Law (joined_machine yields (opening_of first.how)) (untag start) held (in_at v 0) (out_at v 0) took gave
    pub counts : (ms : List ℕ) → now.moves ≡ Some ms → length ms ≡ length law.out_list
    pub moves : (ms : List ℕ) → now.moves ≡ Some ms → ms ≡ take (length law.out_list)
        (ports_given (ready_of yields (opening_of first.how) start law.in_list law.in_end))
    pub queued : (ms : List ℕ) → now.moves ≡ Some ms → now.phase ≢ Closed → ports_given
        (ready_of yields (opening_of first.how) start law.in_list law.in_end) ≡ ms ++ ports_given now.pending

  -- The law of its output, by the stage as it was at first and as it is now, whatever its chains come to in the model.
  pub record SubLaw (whole : C → ListFunction) (first now : Logic C) (v : View) (took gave : List (List Item)) : Type 0 where
    pub took_list : List Item
    pub gave_list : List Item
    pub took_is : took ≡ took_list ∷ []
    pub gave_is : gave ≡ gave_list ∷ []
    pub node : now.node ≡ first.node
    pub how : now.how ≡ first.how
    pub chain : now.chain ≡ first.chain
    pub chooses : ChoosesAs first.moves now.moves
    pub tells : (f : ListFunction) → Same (whole first.chain) f → (yields : List Tree → End → Given Tree) → Means yields f → (start : Run Subs Tagged)
        → Owes rest is_open f yields first (owing (untag start))
        → TellsMachine f yields start first now v took_list gave_list

-- A stage that waits for its input: it is asked, its machine gave just this for what the stage took, and goes on.
pub record GaveAll (m : Machine Subs Tree) (start : Run Subs Tree) (out : OutView) (took gave : List Tree) : Type 0 where
  pub asked : out ≡ Available
  pub state : Subs
  pub runs : run m start took ≡ record { gave = gave; state = going state }

-- the kinds with substreams
abbrev pub IsSub : Kind → Type 0
IsSub (GroupBy n f name) = ⊤
IsSub (SplitWhen p name j) = ⊤
IsSub (SplitAfter p name j) = ⊤
IsSub _ = ⊥

-- the log of a new stage, by the way of joining
abbrev pub new_log : Joining → Option (List ℕ)
new_log joining.Merge = Some []
new_log joining.Concat = None

-- a new stage of node `node` is of its kind, and each of its substreams goes through such a chain
abbrev pub BeginsAs : {C : Type 0} → Kind → ℕ → C → Logic C → Type 0
BeginsAs (GroupBy n f name) node chain new = new ≡ begun node (Key n f) (new_log joining.Merge) chain
BeginsAs (SplitWhen p name j) node chain new = new ≡ begun node (Before p) (new_log j) chain
BeginsAs (SplitAfter p name j) node chain new = new ≡ begun node (Behind p) (new_log j) chain
BeginsAs _ node chain new = ⊥

-- and may be started
pub record Begins {C : Type 0} (rest : C → ListFunction) (is_open : C → Bool) (node : ℕ) (kind : Kind) (chain : C) (new : Logic C) : Type 0 where
  pub as_kind : BeginsAs kind node chain new
  pub fresh : SubFresh rest is_open new unpulled_ports
