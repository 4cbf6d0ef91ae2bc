use Rattle.seat_views.proofs.KeepLemmas.{kept_news, kept_split, kept_join}
use Rattle.seat_views.proofs.laws.views_keep_things.Goals as goal

pub returns-clause-news : goal.returns-clause-news
returns-clause-news g c = kept_news

pub returns-clause-split : goal.returns-clause-split
returns-clause-split g c = kept_split

pub returns-clause-join : goal.returns-clause-join
returns-clause-join g c = kept_join
