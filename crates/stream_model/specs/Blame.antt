-- Which node a failure blames, and how it came from there.
use Rattle.std.specs.Prelude.{◌≡◌, ◌⊎◌, ℕ, true, List, [], ◌∷◌, map, slice_get, Some}
use Rattle.elem_core.specs.declared.why.Cause.{Cause}
use Rattle.elem_core.specs.declared.why.Why.{Why}
use Rattle.elem_core.specs.declared.why.Why.TheVariants.{Plug, IllegalCall}
use Rattle.stream_model.specs.Composed.{composed, count_from, ports_of}
use Rattle.stream_model.specs.Fits.{inputs}
use Rattle.stream_model.specs.Graph.{Graph, Node, Edge}
use Rattle.stream_model.specs.Linear.{work_of}
use Rattle.stream_model.specs.Listed.{tells_none}
use Rattle.stream_model.specs.Node.{World, node_outlook, of_work}
use Rattle.stream_model.specs.Outlook.{Outlook, Entry}

-- one of these entries has this cause
abbrev pub HasCause : Cause → List Entry → Type 0
HasCause c [] = ⊥
HasCause c (e ∷ es) = (e.cause ≡ c) ⊎ HasCause c es

-- the same may pass, but no failure may come
abbrev pub calm : Outlook → Outlook
calm o = record { list = o.list; ends = o.ends; fails = [] }

-- a custom stage fails of its own with a number that its handlers ask for, or by the rule of ports that they broke
abbrev pub IsCustomWhy : Why → Type 0
IsCustomWhy why = ((n : ℕ) × (why ≡ Plug n)) ⊎ ((n : ℕ) × (why ≡ IllegalCall n))

module _ (g : Graph) (w : World) where
  -- A failure arises at node k, on this output: it blames the node, and may come there though none may come in; one of a custom stage that
  -- tells no list is of its own.
  pub record Arises (k : ℕ) (n : Node) (port : ℕ) (c : Cause) : Type 0 where
    pub blames : c.stage ≡ k
    pub alone : HasCause c (node_outlook g w k n.kind n.decider (map calm (inputs g w k n)) port).fails
    pub custom : tells_none w.book n.kind ≡ true → IsCustomWhy c.why

  -- a failure may come on a wire into node k
  pub record ComesIn (k : ℕ) (c : Cause) : Type 0 where
    pub wire : ℕ
    pub edge : Edge
    pub at : slice_get g.wires wire ≡ Some edge
    pub to : edge.to ≡ k
    pub may_come : HasCause c (composed g w wire).fails

  -- what custom stages that tell no list failed with on their wires was of their own, or came to them
  abbrev pub GivenLeads : Type 0
  GivenLeads = (i : ℕ) (v : Edge) (n : Node) (c : Cause) → slice_get g.wires i ≡ Some v → slice_get g.nodes v.from ≡ Some n → tells_none w.book n.kind ≡ true
      → HasCause c (w.given v.from v.output).fails → ((c.stage ≡ v.from) × IsCustomWhy c.why) ⊎ ComesIn v.from c

  -- a failure came to wire i: it may come there and arises where the wire begins, or it came to a wire into that node
  pub data ComesBy (c : Cause) : ℕ → Type 0 where
    arises : (i : ℕ) (v : Edge) (n : Node) → slice_get g.wires i ≡ Some v → slice_get g.nodes v.from ≡ Some n → HasCause c (composed g w i).fails
        → Arises v.from n v.output c → ComesBy c i
    comes_on : (i j : ℕ) (u v : Edge) → slice_get g.wires i ≡ Some u → slice_get g.wires j ≡ Some v → u.to ≡ v.from → ComesBy c i → ComesBy c j

  -- a failure of a sink: the sink's own, though none may come in, or one that came to a wire into it
  abbrev pub EndsSink : ℕ → Node → Cause → Type 0
  EndsSink k n c =
      ((c.stage ≡ k) × HasCause c (of_work w.book k n.decider (work_of n.kind) (map calm (ports_of g w (composed g w) k (count_from 0 1)))).fails)
      ⊎ ((i : ℕ) × ((v : Edge) × ((slice_get g.wires i ≡ Some v) × ((v.to ≡ k) × ComesBy c i))))
