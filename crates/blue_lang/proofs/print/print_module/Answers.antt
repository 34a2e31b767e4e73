use Rattle.std.proofs.Common.{◌≡◌, ◌++◌, map, rules}
use Rattle.blue_modules.specs.Text.{plain_module}
use Rattle.blue_lang.specs.Declarations.{opens, port, part, ends}
use Rattle.blue_lang.specs.Canonical.{declaration_words, line_text, declared_text}
use Rattle.blue_lang.proofs.Printing.{module_text}
use Rattle.blue_lang.proofs.print.print_module.Goals as goal

pub returns : goal.returns
returns c =
    let m = plain_module c.args.of.now in
    let line : c.print_opening.new.out.items ≡ c.args.out.now.items ++ line_text (declaration_words (opens m.name m.attrs)) = search rules in
    let ports : c.print_ports.new.out.items ≡ c.print_opening.new.out.items ++ declared_text (map port m.ports) = search rules in
    let body : c.print_entries.new.out.items ≡ c.print_ports.new.out.items ++ declared_text (map part m.body) = search rules in
    let last : c.extend_from_slice.new.self.items ≡ c.print_entries.new.out.items ++ line_text (declaration_words ends) = search rules in
    module_text _ _ _ _ _ m line ports body last
