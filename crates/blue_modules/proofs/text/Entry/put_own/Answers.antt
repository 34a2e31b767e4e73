use Rattle.std.proofs.Common.{◌≡◌, [], ◌∷◌, ◌++◌, ap, sym, ◌∙◌}
use Rattle.blue_modules.specs.Flatten.{entry_parts, replaced, part_wires}
use Rattle.blue_modules.proofs.text.Entry.put_own.Goals as goal

pub returns-in_ok-push-in-Wire-clause-wires : goal.returns-in_ok-push-in-Wire-clause-wires
returns-in_ok-push-in-Wire-clause-wires c = λ body.
    let one : part_wires (entry_parts [] (replaced []) body [] c.args.around c.args.self) ≡ c.in_ok-wire-in-Wire.wire ∷ [] =
    ap (λ e. part_wires (entry_parts [] (replaced []) body [] c.args.around e)) c.in-Wire.is ∙ ap (λ w. w ∷ []) (sym (c.in_ok-wire-in-Wire.ensures body)) in
    c.in_ok-push-in-Wire.ensures.items ∙ ap (λ l. c.args.parts.now.wires.items ++ l) (sym one)
