use Rattle.std.proofs.Common.{map}
use Rattle.picture_marks.specs.Shown.{lane_shown_in}
use Rattle.picture_marks.proofs.MarksReadBack.{all_maximal}
use Rattle.picture_marks.proofs.spans_are_maximal.Goals as goal

pub returns : goal.returns
returns c = λ limits told lane. all_maximal lane (map (lane_shown_in limits lane) told)
