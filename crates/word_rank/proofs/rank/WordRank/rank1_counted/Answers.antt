use Rattle.word_rank.proofs.Names.{◌-◌, true, false, length, arith, cases_Bool, cases_lt, count_more_no, count_more_yes, count_past, get_or}
use Rattle.word_rank.proofs.rank.WordRank.rank1_counted.Goals as goal

pub returns-clause-value : goal.returns-clause-value
returns-clause-value g c =
    let l = c.args.self.now in
    let last = length l - 1 in
    grind (arith, cases_lt last c.args.position, cases_Bool (get_or l last false), count_more_yes true l last, count_more_no true l last, count_past true l c.args.position)
