-- Declarations as plain values.
use Rattle.blue_modules.specs.Text.{plain_chain_text}
use Rattle.blue_lang.specs.declared.declarations.Declaration as declared
use Rattle.blue_lang.specs.declared.declarations.Declaration.TheVariants.{Default, Switch, Chain, Opens, Port, Part, Ends}
use Rattle.blue_lang.specs.Declarations.{Declaration, sets, switch, chain, opens, port, part, ends}

-- the plain value of a declaration
abbrev pub plain_declaration : declared.Declaration → Declaration
plain_declaration (Default a) = sets a
plain_declaration (Switch n) = switch n
plain_declaration (Chain c) = chain (plain_chain_text c)
plain_declaration (Opens n a) = opens n a
plain_declaration (Port p) = port p
plain_declaration (Part e) = part e
plain_declaration Ends = ends
