use Rattle.dep_index.proofs.FeedLaws.{feeds_by_readers}
use Rattle.dep_index.proofs.laws.slots_feed_readers.Goals as goal

pub returns : goal.returns
returns c = feeds_by_readers
