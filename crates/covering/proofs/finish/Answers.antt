-- `covering::finish` meets its contract: the list is laid from the part of the memory that holds the raw list, then its words are cleared. Assumes nothing.
use Rattle.covering.proofs.Answers.{lay_asks, finish_gives}
use Rattle.covering.proofs.finish.Goals as goal

pub lay_list-laid-requires : goal.lay_list-laid-requires
lay_list-laid-requires c = lay_asks c.args.e c.args.c _ _ c.requires.memory_words_in_bounds

pub returns : goal.returns
returns c =
    let z = c.requires in
    finish_gives _ _ _ _ z.memory_words_in_bounds z.mem_value _ _ _ _ _ _ _ _ c.lay_list-laid.ensures c.laid_answer.ensures c.clear.ensures
