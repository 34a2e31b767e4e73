use Rattle.std.proofs.Common.{◌≡◌, true, sym, ap, ◌∙◌}
use Rattle.std.specs.List.{list_all}
use Rattle.blue_modules.specs.Rules.{names_no_port}
use Rattle.blue_modules.specs.Scopes.{body_in}
use Rattle.blue_modules.proofs.PortNames.{right_wires}
use Rattle.blue_modules.proofs.ports.wrong_in_wires.Goals as goal

pub returns-then-name_no_ports : goal.returns-then-name_no_ports
returns-then-name_no_ports c =
    let all : list_all names_no_port (body_in c.args.scope.now).entries ≡ true = ap (list_all names_no_port) (sym c.all.ensures) ∙ (sym c.name_no_ports.ensures ∙ c.if-name_no_ports.true) in
    right_wires (body_in c.args.scope.now) all
