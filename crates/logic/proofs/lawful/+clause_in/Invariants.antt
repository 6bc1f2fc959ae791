use Rattle.logic.proofs.lawful.+clause_in.Given as goal

abbrev pub decreases-clause_in : goal.decreases-clause_in
decreases-clause_in l = l.most
