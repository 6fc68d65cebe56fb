use Rattle.picture_marks.specs.Marks.{lanes_of}
use Rattle.picture_marks.proofs.MarksReadBack.{all_read}
use Rattle.picture_marks.proofs.pictures_tell_reports.Goals as goal

pub returns : goal.returns
returns c = λ limits channels outputs told lane at. all_read limits told lane at (lanes_of channels outputs)
