-- How many ports a node has, where nodes and wires name each other and the wires join every port.
use Rattle.std.proofs.Common.{◌≡◌, ℕ, zero, suc, ◌<◌, List, length, ap, sym, ◌∙◌, refl, arith}
use Rattle.std.specs.Prelude.{slice_get}
use Rattle.std.proofs.lemmas.Option.{slice_get_within}
use Rattle.fused_net.specs.PortLists.{PortLists}
use Rattle.fused_net.specs.declared.net.WireEnds.{WireEnds}
use Rattle.fused_net.specs.Net.{end_at, port_at}
use Rattle.fused_net.specs.Laws.{Wired}
use Rattle.interpreter.specs.Parts.{IsWiring}
use Rattle.island_parts.proofs.Wiring.{there}

same_size : (a b : ℕ) → ((i : ℕ) → i < a → i < b) → ((i : ℕ) → i < b → i < a) → a ≡ b
same_size zero zero f g = refl
same_size zero (suc b) f g = let x = g 0 (omega arith) in absurd (omega (arith, x))
same_size (suc a) zero f g = let x = f 0 (omega arith) in absurd (omega (arith, x))
same_size (suc a) (suc b) f g = let x = f a (omega arith) in let y = g b (omega arith) in omega (arith, x, y)

module _ (ins outs : ℕ → ℕ) (places : ℕ) (ends : List WireEnds) (ports : List PortLists) (nodes wires n : ℕ) (wired : Wired ends ports nodes wires) (is : IsWiring ins outs places ends) (place : n < places) (node : n < nodes) where
  pub ins_count : length (port_at ports n).ins ≡ ins n
  ins_count = same_size (length (port_at ports n).ins) (ins n) there_is has
    where
      has : (i : ℕ) → i < ins n → i < length (port_at ports n).ins
      has i lt =
          let e = is.each_input n i place lt in
          let u : ℕ = e.0 in
          let here : slice_get (port_at ports n).ins i ≡ slice_get (port_at ports (end_at ends u).to).ins (end_at ends u).input = sym (ap (λ k. slice_get (port_at ports k).ins (end_at ends u).input) e.1.1.0 ∙ ap (slice_get (port_at ports n).ins) e.1.1.1) in
          slice_get_within (port_at ports n).ins i u (here ∙ wired.to_input u (omega (arith, e.1.0, wired.each_wire)))

      there_is : (i : ℕ) → i < length (port_at ports n).ins → i < ins n
      there_is i lt =
          let x = there (port_at ports n).ins i lt in
          let t = wired.input_to n i x.0 node x.1 in
          let b = is.input_within x.0 (omega (arith, t.0, wired.each_wire)) in
          let f : ins (end_at ends x.0).to ≡ ins n = ap ins t.1.0 in
          omega (arith, b, f, t.1.1)

  pub outs_count : length (port_at ports n).outs ≡ outs n
  outs_count = same_size (length (port_at ports n).outs) (outs n) there_is has
    where
      has : (i : ℕ) → i < outs n → i < length (port_at ports n).outs
      has i lt =
          let e = is.each_output n i place lt in
          let u : ℕ = e.0 in
          let here : slice_get (port_at ports n).outs i ≡ slice_get (port_at ports (end_at ends u).from).outs (end_at ends u).output = sym (ap (λ k. slice_get (port_at ports k).outs (end_at ends u).output) e.1.1.0 ∙ ap (slice_get (port_at ports n).outs) e.1.1.1) in
          slice_get_within (port_at ports n).outs i u (here ∙ wired.from_output u (omega (arith, e.1.0, wired.each_wire)))

      there_is : (i : ℕ) → i < length (port_at ports n).outs → i < outs n
      there_is i lt =
          let x = there (port_at ports n).outs i lt in
          let t = wired.output_from n i x.0 node x.1 in
          let b = is.output_within x.0 (omega (arith, t.0, wired.each_wire)) in
          let f : outs (end_at ends x.0).from ≡ outs n = ap outs t.1.0 in
          omega (arith, b, f, t.1.1)
