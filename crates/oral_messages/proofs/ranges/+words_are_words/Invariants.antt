use Rattle.std.proofs.Common.{length}
use Rattle.oral_messages.proofs.ranges.+words_are_words.Given as goal

abbrev pub decreases-words_are_words : goal.decreases-words_are_words
decreases-words_are_words l = length l.words.now
