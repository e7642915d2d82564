-- `run_length` meets its contract: the run ends before the first byte that fails the test. Assumes nothing.
use Rattle.std.proofs.Common.{ℕ, List, ◌≡◌, Bool, true, false, refl, sym, ◌∙◌, ◌∷◌, ◌+◌, add-one, rules}
use Rattle.std.proofs.lemmas.Iterator.{IsFirst-from_position, index_from_first, YieldsList-from_slice}
use Rattle.scanner.specs.Promises.Reach.{run}
use Rattle.scanner.proofs.ReachLaws.{run-yes, run-no}
use Rattle.scanner.proofs.runs.run_length.Goals as goal

miss : (test : ℕ → Bool) (b : ℕ) (s : List ℕ) → test b ≡ true → run test (b ∷ s) ≡ run test s + 1
miss test b s e = rw add-one (run-yes test b s e)

pub returns-clause-counts : goal.returns-clause-counts
unfolding run
returns-clause-counts g c = λ test d.
    c.unwrap_or.ensures
    ∙ sym (index_from_first (run test) (λ b. test b ≡ false) (λ b. test b ≡ true) refl (run-no test) (miss test) _ _
    (IsFirst-from_position _ _ _ (λ b. test b ≡ false) (λ b. test b ≡ true) c.position.ensures.ran (YieldsList-from_slice c.args.s.now (cc)) (λ x q k. let e = d x.now false in search rules) (λ x q k. let e = d x.now true in search rules)))
