use Rattle.spelling.proofs.StepExact.{steps_are_read_as_spelled, spelled_steps_are_lawful}
use Rattle.spelling.proofs.StepUnique.{steps_are_spelled_one_way}
use Rattle.spelling.proofs.steps_are_read_as_spelled.Goals as goal

pub returns : goal.returns
returns c = record { exact = steps_are_read_as_spelled; unique = steps_are_spelled_one_way; lawful = spelled_steps_are_lawful }
