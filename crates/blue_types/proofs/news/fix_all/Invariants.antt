use Rattle.std.proofs.Common.{◌≡◌, ℕ, take}
use Rattle.std.specs.Option.{option_or}
use Rattle.blue_names.specs.Links.{wires_of_links}
use Rattle.blue_types.specs.Net.{type_at}
use Rattle.blue_types.specs.News.{AreReached, news_at}
use Rattle.blue_types.proofs.news.fix_all.Given as goal

abbrev pub invariant-loop-fixed : goal.invariant-loop-fixed
invariant-loop-fixed l =
    ((i : ℕ) → type_at l.types i ≡ option_or (type_at l.initial.types i) (news_at (take l.fixed-index l.news) i))
    × AreReached (wires_of_links l.links) (type_at l.initial.types) (take l.fixed-index l.news) l.front.items
