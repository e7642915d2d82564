-- What declarations in sequence pay.
use native.Mathlib.Omega.{arith}
use mathlib.Core.Path.{refl}
use mathlib.Core.Bool.{false}
use Prim.Native.Nat.{ℕ, ◌+◌, ◌≤◌}
use Rattle.text.specs.Bytes.{bytes}
use Rattle.layout.specs.Meaning.{Page}
use Rattle.layout.specs.Helpers.{Cfg, Walkers, deeper, with_extra_blank}
use Rattle.layout.specs.GetDec.{dec_in_seq, dec_in_seqs, sharing_tail, sharing_tails, dec, get_dec, dec_arg}
use Rattle.measures.proofs.Paying.{Paid, Short, eased, fixed, ◌then◌, groups}
use Rattle.measures.proofs.Helpers.{each, seps, deepened, at-depth, lines, semicolons, paths}
use Rattle.measures.proofs.Arms.{Walks}

module _ {p : Page} (short : Short p) {top : ℕ} {ws : Walkers} (go : Walks p top ws) (low : top ≤ 400) where
  module _ (c : Cfg) (h : c.depth ≤ top) where
    seq-item : Paid p 0 76 (dec_in_seq ws c)
    unfolding dec_in_seq with_extra_blank
    seq-item = groups (go.dec_one (with_extra_blank false c) h then semicolons)

    tail : Paid p 0 32 (sharing_tail ws c)
    unfolding sharing_tail bytes
    tail =
        eased (omega arith) (omega arith)
        (groups (fixed refl then at-depth c (omega arith) then fixed refl then seps (fixed refl) refl (groups (paths short))))

    one-dec-paid : Paid p 0 32 (dec ws c)
    unfolding dec dec_in_seqs sharing_tails bytes
    one-dec-paid =
        eased (omega arith) (omega arith)
        (groups (lines c (omega arith) (fixed refl) refl seq-item then each refl tail) then semicolons)

    pub get-decs : Paid p 0 32 (get_dec ws c)
    unfolding get_dec bytes
    get-decs = eased (omega arith) (omega arith) (lines c (omega arith) (fixed refl) refl (groups one-dec-paid))

  pub dec-args : (c : Cfg) → c.depth + 1 ≤ top → Paid p 2 0 (dec_arg ws c)
  unfolding dec_arg bytes
  dec-args c h =
      eased (omega arith) (omega arith)
      (fixed refl then deepened c (omega arith) then at-depth (deeper c) (omega arith) then one-dec-paid (deeper c) h then fixed refl)
