use Rattle.std.proofs.Common.{length, take}
use Rattle.blue_types.specs.Net.{type_at}
use Rattle.blue_types.specs.News.{AreNews, AreBelow}
use Rattle.blue_types.specs.Would.{would}
use Rattle.blue_types.proofs.news.news_of.Given as goal

abbrev pub invariant-loop-node : goal.invariant-loop-node
invariant-loop-node l = AreNews (type_at l.types) (would l.library l.net (type_at l.types)) (take l.node-index l.front) l.news.items × AreBelow (length l.net.nodes.now) l.news.items
