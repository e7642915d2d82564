-- `is_alphanumeric` meets its contract. Assumes nothing.
use Prim.Native.Nat.{ℕ}
use mathlib.Core.Path.{◌≡◌, refl, sym, ◌∙◌}
use mathlib.Core.Bool.{Bool, ◌||◌, or-false, false≢true}
use mathlib.Core.Logic.{inl, inr}
use borrow.Author.Tests.{ne_eqb}
use Rattle.text.specs.Bytes.{bytes, between, is_letter, is_digit}
use Rattle.scanner.specs.Parts.{is_one_of}
use Rattle.scanner.specs.Lexical.{is_alphanumeric_byte}
use Rattle.scanner.proofs.runs.is_alphanumeric.Goals as goal
use Rattle.scanner.proofs.runs.is_alphanumeric.Goals.{then-is_alphanumeric, else-is_alphanumeric}

-- Letters and digits, and the two others.
byte_is : (b : ℕ) {r : Bool} → r ≡ (is_letter b || is_digit b) → (r || is_one_of (bytes "'_") b) ≡ is_alphanumeric_byte b
unfolding is_alphanumeric_byte
byte_is b e = rw e refl

pub returns-then-b-eq39 : goal.returns-then-b-eq39
unfolding is_alphanumeric_byte is_one_of bytes is_letter is_digit between
returns-then-b-eq39 c =
    elim c.if-is_alphanumeric.branch [
      | then-is_alphanumeric w ↦
          w.t-3-is ∙ w.if-is_alphanumeric.true ∙ byte_is c.args.b (sym w.if-is_alphanumeric.true ∙ c.is_alphanumeric.ensures)
      | else-is_alphanumeric w ↦
          w.t-3-is
          ∙ elim c.if-b-eq39.either [ inl e ↦ absurd (false≢true (sym w.if-is_alphanumeric.false ∙ e)) | inr e ↦ rw e.1 refl ]
    ]

pub returns-else-b-eq39 : goal.returns-else-b-eq39
unfolding is_one_of bytes
returns-else-b-eq39 c =
    sym (or-false _)
    ∙ rw (ne_eqb c.args.b 39 c.if-b-eq39.false.1) at (byte_is c.args.b (sym c.if-b-eq39.false.0 ∙ c.is_alphanumeric.ensures))
