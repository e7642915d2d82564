use Rattle.std.proofs.Common.{◌≡◌, ℕ, ◌+◌, ◌-◌, ◌≤◌, List, ◌++◌, rules, length, take, sym, ap, ◌∙◌, subst, length-take-le}
use Rattle.std.proofs.Math.Seq.{take-append-add}
use Rattle.std.proofs.lemmas.List.{take-append-le}
use Rattle.std.specs.declared.option.Option.{Option}
use Rattle.std.specs.Io.KnownBytes.{Consumes}
use Rattle.std.proofs.KnownBytes.{Consumes-trans}
use borrow.Rule.Slice.PartMut.{put_mid, post_of}
use Rattle.input.proofs.read_full.Goals as goal

-- The first bytes after a write behind some of them.
take_behind : (a k n : ℕ) (xs ys : List ℕ) → a ≤ length xs → n ≤ length ys → take (a + n) (put_mid a k xs ys) ≡ take a xs ++ take n ys
take_behind a k n xs ys within fits =
    ap (λ m. take (m + n) (put_mid a k xs ys)) (sym (length-take-le a xs within))
    ∙ take-append-add (take a xs) (ys ++ post_of a k xs) n
    ∙ ap (λ l. take a xs ++ l) (take-append-le n ys (post_of a k xs) fits)

-- What a read put behind the first bytes is what the reader lost with them.
read_behind :
    (old mid new : Option (List ℕ)) (from k room : ℕ) (buffer buf : List ℕ)
    → from ≤ length buffer → k ≤ length buf → Consumes old mid (take from buffer) → Consumes mid new (take k buf)
    → Consumes old new (take (from + k) (put_mid from room buffer buf))
read_behind old mid new from k room buffer buf within fits before read =
    subst (Consumes old new) (sym (take_behind from room k buffer buf within fits)) (Consumes-trans _ _ _ _ _ before read)

pub loop-n-preserved : goal.loop-n-preserved
loop-n-preserved g c = (
  search rules,
  search rules,
  read_behind _ _ _ c.loop-n.n c.in_ok-k.k (length c.loop-n.buffer - c.loop-n.n) c.loop-n.buffer c.read.new.buf c.loop-n.invariant.1 c.in_ok-k.ensures.bound.0 c.loop-n.invariant.2 c.in_ok-k.ensures.bytes.0,
)
