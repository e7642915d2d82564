-- `doc_comment::find` meets its contract. Assumes nothing.
use Rattle.std.proofs.Common.{◌≡◌, rules, tests}
use Rattle.std.proofs.lemmas.Iterator.{YieldsList-from_slice, IsFirst-from_position}
use Rattle.doc_comment.proofs.Scan.{first-is}
use Rattle.doc_comment.proofs.find.Goals as goal

pub returns : goal.returns
returns c = first-is _ _ _ (IsFirst-from_position _ _ c.position.result (λ x. x ≡ c.args.b) (λ x. x ≡ c.args.b → ⊥) c.position.ensures.ran (YieldsList-from_slice c.args.s.now c.iter.ensures.rest) (λ x q k. search (rules, tests)) (λ x q k. search (rules, tests)))
