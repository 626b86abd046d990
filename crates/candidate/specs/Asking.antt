-- The run that is asked for. Assumes nothing.
use Rattle.region.specs.Region.{area_of}
use Rattle.run.specs.Run.{Task}
use Rattle.candidate.specs.declared.asking.Asking.{Asking}
use Rattle.candidate.specs.Candidate.{task_of}

abbrev pub asked : Asking → Task
asked a = task_of a.request (area_of a.region)
