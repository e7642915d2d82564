-- `fields`, `item` and `items` meet their contracts. They end because the record left falls.
use Prim.Native.Nat.{◌+◌, ◌*◌, ◌-◌}
use lib.ListN.{length}
use Rattle.reader.specs.Promises.Grammar.{node}
use Rattle.reader.proofs.FieldLaws.{Passed, Counted}
use Rattle.reader.proofs.tree.Tree.+fields.Given as goal

abbrev pub decreases-fields : goal.decreases-fields
decreases-fields l = 3 * (length l.self.rec.now - l.at) + 2

abbrev pub decreases-item : goal.decreases-item
decreases-item l = 3 * (length l.self.rec.now - l.at) + 0

abbrev pub decreases-items : goal.decreases-items
decreases-items l = 3 * (length l.self.rec.now - l.run.at) + 1

abbrev pub invariant-fields-loop-rest : goal.invariant-fields-loop-rest
invariant-fields-loop-rest l = Passed l.self.rec.now l.self.count l.self.nesting l.codes l.at l.rest l.next

abbrev pub decreases-fields-loop-rest : goal.decreases-fields-loop-rest
decreases-fields-loop-rest l = l.rest

abbrev pub invariant-items-loop : goal.invariant-items-loop
invariant-items-loop l = Counted l.self.rec.now l.self.count l.self.nesting l.run.n (node l.run.code) l.run.at l.counter l.next
