use Rattle.formatter.proofs.JudgeLaws.{behind-command, told-absent, told-import}
use Rattle.formatter.proofs.stop.Goals as goal

pub overflow_sub-result : goal.overflow_sub-result
overflow_sub-result c = behind-command (rw c.in-Import.is at c.in-Err.is) c.requires

pub returns-in-Absent : goal.returns-in-Absent
returns-in-Absent c = told-absent (rw c.in-Absent.is at c.in-Err.is)

pub returns-in-Import : goal.returns-in-Import
returns-in-Import c = told-import (rw c.in-Import.is at c.in-Err.is)
