use Rattle.dict_meaning.proofs.FeedLaws.{feeds_by_mentions}
use Rattle.dict_meaning.proofs.feed_laws.slots_feed_by_mentions.Goals as goal

pub returns : goal.returns
returns c = feeds_by_mentions
