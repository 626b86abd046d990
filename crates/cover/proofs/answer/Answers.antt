-- `cover::answer`: case by case.
use Rattle.cover.proofs.Laws.{told_line, told_long, told_failed, told_end}
use Rattle.cover.proofs.answer.Goals as goal

pub returns-in-Line : goal.returns-in-Line
returns-in-Line c =
    told_line _ _ _ _ _ _ _ _ _ _ _ _ _ _ c.in-Line.is (rw c.of.ensures at c.answer.ensures)

pub returns-in-TooLong : goal.returns-in-TooLong
returns-in-TooLong c =
    told_long _ _ _ _ _ _ _ _ _ _ c.requires.1 c.in-TooLong.is c.put_error.ensures

pub returns-in-Failed : goal.returns-in-Failed
returns-in-Failed c =
    told_failed _ _ _ _ _ _ _ _ _ _ c.requires.1 c.in-Failed.is c.put_error-in-Failed.ensures

pub returns-in-End : goal.returns-in-End
returns-in-End c =
    told_end _ _ _ _ _ _ _ _ _ _ c.requires.1 c.in-End.is c.put_end.ensures
