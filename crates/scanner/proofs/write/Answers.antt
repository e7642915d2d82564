use native.Mathlib.Omega.{arith}
use Prim.Native.Nat.{ℕ, ◌/◌, ◌%◌}
use mathlib.Core.Path.{◌≡◌, sym, ap, ◌∙◌}
use mathlib.Core.List.{List}
use lib.ListN.{get_or}
use Rattle.std.proofs.lemmas.Iterator.{YieldsList-from_slice, YieldsList-from_zip}
use Rattle.std.proofs.lemmas.Iterator.Consumers.{YieldsList-from_enumerate, YieldsList-turn}
use Rattle.std.proofs.lemmas.List.{length_push}
use Rattle.scanner.proofs.WriteLaws.{wrote_none, wrote-turn}
use Rattle.scanner.proofs.write.Goals as goal

pub loop-k-init : goal.loop-k-init
loop-k-init c = wrote_none _ _ _

pub loop-k-preserved : goal.loop-k-preserved
loop-k-preserved c =
    let kinds = c.kinds.result.now in
    let spans = c.spans.result.now in
    let road = YieldsList-from_enumerate (YieldsList-from_zip (YieldsList-from_slice kinds (cc)) (YieldsList-from_slice spans (cc))) (cc) in
    let t = YieldsList-turn road c.loop-k.yielded _ c.loop-k.yielded_by c.next.result c.next.new.self (c.in-Some.k, (c.in-Some.kind, c.in-Some.span)) c.in-Some.is c.next.ensures.steps in
    let p = rw (← c.kinds.ensures.0) at c.loop-k.invariant in
    let low : get_or c.to_le_bytes.result 0 0 ≡ c.in-Some.span.now.len % 256 = ap (λ (l : List ℕ). get_or l 0 0) c.to_le_bytes.ensures in
    let high : get_or c.to_le_bytes.result 1 0 ≡ c.in-Some.span.now.len / 256 = ap (λ (l : List ℕ). get_or l 1 0) c.to_le_bytes.ensures ∙ omega arith in
    rw (← c.kinds.ensures.0, length_push c.loop-k.yielded (c.in-Some.k, (c.in-Some.kind, c.in-Some.span)))
    (wrote-turn spans p c.spans.ensures.1 (c.spans.ensures.2 ∙ sym c.kinds.ensures.1) (omega (arith, c.requires, c.kinds.ensures.1)) t low high)
