use Rattle.dict_meaning.proofs.FeedLaws.{feeds_fall}
use Rattle.dict_meaning.proofs.feed_laws.feeding_slots_are_lower.Goals as goal

pub returns : goal.returns
returns c = feeds_fall
