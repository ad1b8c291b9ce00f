-- The list of violations is empty exactly where each demand holds.
--
-- From the empty list: a demand holds or has its record there, and nothing stands there. The other way no record is in the list,
-- and each demand holds.
use Rattle.std.proofs.Common.{inl, inr, List}
use Rattle.core_term.specs.Process.{Process}
use Rattle.core_term.specs.Violations.{HasNoViolations}
use Rattle.run_laws.specs.Accepted.{AllKeepDemands}

pub from_empty : (file : List Process) → HasNoViolations file → AllKeepDemands file
from_empty file empty i p is j thread of rule first second claim demand =
    elim (empty.whole i j p thread is of rule first second claim demand) [
      | inl holds ↦ holds
      | inr record_there ↦ elim record_there [ ]
    ]

pub to_empty : (file : List Process) → AllKeepDemands file → HasNoViolations file
to_empty file accepted = record {
  sound = λ v there. elim there [ ];
  whole = λ i j p thread is of rule first second claim demand. inl (accepted i p is j thread of rule first second claim demand);
  ascending = tt;
}
