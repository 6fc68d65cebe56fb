use Rattle.std.proofs.Common.{◌≡◌, ◌-◌, length, take}
use Rattle.guards_model.specs.Fields.{many, word_at}
use Rattle.icn_frames.proofs.Loops.{with_front}
use Rattle.icn_frames.proofs.reading.Reader.fill_words.Given as goal

abbrev pub invariant-loop-i : goal.invariant-loop-i
invariant-loop-i l = record {
  so_far : with_front (take l.i l.words) (many word_at (length l.fn.words - l.i) l.self)
      ≡ many word_at (length l.fn.words) l.fn.self;
  places : length l.words ≡ length l.fn.words;
}
