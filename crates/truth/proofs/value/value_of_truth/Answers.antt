use Rattle.truth.proofs.value.value_of_truth.Goals as goal

pub returns-in-False : goal.returns-in-False
returns-in-False c = rw c.in-False.is

pub returns-in-True : goal.returns-in-True
returns-in-True c = rw c.in-True.is
