-- How an open stage that tells a list may stand: what it holds, what is known of its ports, and what it sees of them.
use Rattle.std.proofs.Common.{◌≡◌, ℕ, zero, suc, ◌<◌, Bool, true, false, List, [], ◌∷◌, length, refl, sym, ap, ◌∙◌, subst, arith}
use Rattle.elem_core.specs.Tree.{Tree}
use Rattle.port_core.specs.View.{View, OneOneOf}
use Rattle.port_core.specs.declared.view.InView.{InView}
use Rattle.port_core.specs.declared.view.InView.TheVariants.{Idle, Pulled, Finished, Cancelled}
use Rattle.port_core.specs.declared.view.OutView.{OutView}
use Rattle.port_core.specs.declared.view.OutView.TheVariants as outlet
use Rattle.stream_model.specs.Linear.{plugged}
use Rattle.stage_core.specs.declared.phase.Phase.TheVariants.{New, Open}
use Rattle.stage_linear.specs.declared.course.Course.{Course}
use Rattle.stage_linear.specs.declared.course.Course.TheVariants.{Waits, Idles, Leaves, Closes, Ends}
use Rattle.stage_linear.specs.States.{port_state_in}
use Rattle.graph_stage.specs.declared.sight.InSight.{InSight}
use Rattle.graph_stage.specs.declared.sight.OutSight.{OutSight}
use Rattle.graph_stage.specs.OwnView.{Seen}
use Rattle.graph_stage.specs.Ports.{SeesIns, SeesOuts, Sees}

-- what is known of one input and one output
abbrev pub ports : InView → OutView → View
ports x y = record { ins = x ∷ []; outs = y ∷ [] }

-- what is seen of an input that is asked or not, and closed or not, and of an output
abbrev pub sight : Bool → Bool → Bool → Bool → Seen
sight a c e f = record { ins = record { asked = a; closed = c } ∷ []; outs = record { asked = e; closed = f } ∷ [] }

pub data Shape (held : List Tree) (c : Course) (v : View) (s : Seen) : Type 0 where
  waits : held ≡ [] → c ≡ Waits → v ≡ ports Pulled outlet.Available → s ≡ sight true false true false → Shape held c v s
  idles : c ≡ Idles → v ≡ ports Idle outlet.Unpulled → s ≡ sight false false false false → Shape held c v s
  leaves : (t : Tree) (l : List Tree) → held ≡ t ∷ l → c ≡ Leaves → v ≡ ports Idle outlet.Unpulled → s ≡ sight false false false false → Shape held c v s
  closes : (t : Tree) (l : List Tree) (a : Bool) → held ≡ t ∷ l → c ≡ Closes → v ≡ ports Finished outlet.Unpulled → s ≡ sight a true false false → Shape held c v s
  ends : (t : Tree) (l : List Tree) (a : Bool) → held ≡ t ∷ l → c ≡ Ends → v ≡ ports Finished outlet.Unpulled → s ≡ sight a true false false → Shape held c v s

pub record Holds (held : List Tree) : Type 0 where
  pub first : Tree
  pub rest : List Tree
  pub is : held ≡ first ∷ rest

holds : (held : List Tree) → 0 < length held → Holds held
holds [] h = absurd (omega (arith, h))
holds (t ∷ l) h = record { first = t; rest = l; is = refl }

-- the marks of both ports
marks : (x : InSight) (y : OutSight) (a c e f : Bool) → x.asked ≡ a → x.closed ≡ c → y.asked ≡ e → y.closed ≡ f
    → record { ins = x ∷ []; outs = y ∷ [] } ≡ sight a c e f
marks x y a c e f i j k l = rw (sym i, sym j, sym k, sym l) refl

module _ (name : List ℕ) (took : List Tree) (g : Bool) where
  at_ports : (held : List Tree) (c : Course) (i : InView) (o : OutView) (x : InSight) (y : OutSight) → port_state_in Open c held (plugged name took) g i o
      → SeesIns (i ∷ []) (x ∷ []) → SeesOuts (o ∷ []) (y ∷ []) → Shape held c (ports i o) (record { ins = x ∷ []; outs = y ∷ [] })
  at_ports held Waits Pulled outlet.Available x y r i o = waits r.0 refl refl (marks x y true false true false i.0.0 i.0.1 o.0.0 o.0.1)
  at_ports held Idles Idle outlet.Unpulled x y r i o = idles refl refl (marks x y false false false false i.0.0 i.0.1 o.0.0 o.0.1)
  at_ports held Leaves Idle outlet.Unpulled x y r i o = let h = holds held r.0 in leaves h.first h.rest h.is refl refl (marks x y false false false false i.0.0 i.0.1 o.0.0 o.0.1)
  at_ports held Closes Finished outlet.Unpulled x y r i o = let h = holds held r.0.0 in closes h.first h.rest x.asked h.is refl refl (marks x y x.asked true false false refl i.0 o.0.0 o.0.1)
  at_ports held Ends Finished outlet.Unpulled x y r i o = let h = holds held r.0 in ends h.first h.rest x.asked h.is refl refl (marks x y x.asked true false false refl i.0 o.0.0 o.0.1)
  at_ports held Waits Pulled outlet.Unpulled x y r i o = absurd r
  at_ports held Waits Pulled outlet.Closed x y r i o = absurd r
  at_ports held Waits Pulled outlet.Cancelled x y r i o = absurd r
  at_ports held Waits Idle p x y r i o = absurd r
  at_ports held Waits Finished p x y r i o = absurd r
  at_ports held Waits Cancelled p x y r i o = absurd r
  at_ports held Idles Idle outlet.Available x y r i o = absurd r
  at_ports held Idles Idle outlet.Closed x y r i o = absurd r
  at_ports held Idles Idle outlet.Cancelled x y r i o = absurd r
  at_ports held Idles Pulled p x y r i o = absurd r
  at_ports held Idles Finished p x y r i o = absurd r
  at_ports held Idles Cancelled p x y r i o = absurd r
  at_ports held Leaves Idle outlet.Available x y r i o = absurd r
  at_ports held Leaves Idle outlet.Closed x y r i o = absurd r
  at_ports held Leaves Idle outlet.Cancelled x y r i o = absurd r
  at_ports held Leaves Pulled p x y r i o = absurd r
  at_ports held Leaves Finished p x y r i o = absurd r
  at_ports held Leaves Cancelled p x y r i o = absurd r
  at_ports held Closes Finished outlet.Available x y r i o = absurd r
  at_ports held Closes Finished outlet.Closed x y r i o = absurd r
  at_ports held Closes Finished outlet.Cancelled x y r i o = absurd r
  at_ports held Closes Idle p x y r i o = absurd r
  at_ports held Closes Pulled p x y r i o = absurd r
  at_ports held Closes Cancelled p x y r i o = absurd r
  at_ports held Ends Finished outlet.Available x y r i o = absurd r
  at_ports held Ends Finished outlet.Closed x y r i o = absurd r
  at_ports held Ends Finished outlet.Cancelled x y r i o = absurd r
  at_ports held Ends Idle p x y r i o = absurd r
  at_ports held Ends Pulled p x y r i o = absurd r
  at_ports held Ends Cancelled p x y r i o = absurd r

  at_lists : (held : List Tree) (c : Course) (is : List InView) (os : List OutView) (xs : List InSight) (ys : List OutSight)
      → OneOneOf (port_state_in Open c held (plugged name took) g) is os → SeesIns is xs → SeesOuts os ys → Shape held c (record { ins = is; outs = os }) (record { ins = xs; outs = ys })
  at_lists held c (i ∷ []) (o ∷ []) (x ∷ []) (y ∷ []) r p q = at_ports held c i o x y r p q
  at_lists held c (i ∷ []) (o ∷ []) [] ys r p q = absurd p
  at_lists held c (i ∷ []) (o ∷ []) (x ∷ z ∷ xs) ys r p q = absurd p.1
  at_lists held c (i ∷ []) (o ∷ []) (x ∷ []) [] r p q = absurd q
  at_lists held c (i ∷ []) (o ∷ []) (x ∷ []) (y ∷ z ∷ ys) r p q = absurd q.1
  at_lists held c [] os xs ys r p q = absurd r
  at_lists held c (i ∷ []) [] xs ys r p q = absurd r
  at_lists held c (i ∷ []) (o ∷ u ∷ os) xs ys r p q = absurd r
  at_lists held c (i ∷ u ∷ is) os xs ys r p q = absurd r

  -- so it stands where its port state holds, and what it sees of its ports agrees with what is known of them
  pub shape_at : (held : List Tree) (c : Course) (v : View) (s : Seen) → OneOneOf (port_state_in Open c held (plugged name took) g) v.ins v.outs → Sees v s → Shape held c v s
  shape_at held c v s r h = at_lists held c v.ins v.outs s.ins s.outs r h.ins h.outs

-- what a new stage sees of its ports
fresh_lists : (xs : List InSight) (ys : List OutSight) → SeesIns (Idle ∷ []) xs → SeesOuts (outlet.Unpulled ∷ []) ys → record { ins = xs; outs = ys } ≡ sight false false false false
fresh_lists (x ∷ []) (y ∷ []) i o = marks x y false false false false i.0.0 i.0.1 o.0.0 o.0.1
fresh_lists [] ys i o = absurd i
fresh_lists (x ∷ z ∷ xs) ys i o = absurd i.1
fresh_lists (x ∷ []) [] i o = absurd o
fresh_lists (x ∷ []) (y ∷ z ∷ ys) i o = absurd o.1

pub fresh_sight : (s : Seen) → Sees (ports Idle outlet.Unpulled) s → s ≡ sight false false false false
fresh_sight s h = fresh_lists s.ins s.outs h.ins h.outs
