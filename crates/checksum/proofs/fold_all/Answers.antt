use Rattle.checksum.proofs.Words.{folded_thrice}
use Rattle.checksum.proofs.fold_all.Goals as goal

-- the clauses by their names
named : {A0 A1 : Type 0} → A0 × A1 → record { value : A0; upper_bound : A1 }
named p = record { value = p.0; upper_bound = p.1 }

pub returns : goal.returns
returns c =
    named (folded_thrice _ _ _ _ c.requires c.fold_once-once.ensures c.fold_once-twice.ensures c.fold_once.ensures)
