use Rattle.spelling.proofs.Exact.{rules_are_read_as_spelled, rules_are_spelled_one_way, spelled_rules_are_lawful}
use Rattle.spelling.proofs.SomeLine.{lawful_clauses_are_spelled}
use Rattle.spelling.proofs.rules_are_read_as_spelled.Goals as goal

pub returns : goal.returns
returns c =
    record {
      exact = rules_are_read_as_spelled;
      unique = rules_are_spelled_one_way;
      lawful = spelled_rules_are_lawful;
      all = lawful_clauses_are_spelled;
    }
