-- Laws of what is printed: the digits of a number, bytes written one after another, the line of a verdict. Assumes nothing.
use Prim.Native.Nat.{ℕ, zero, suc, ◌+◌, ◌*◌, ◌/◌, ◌%◌, ◌^◌, ◌≤◌, ◌<◌}
use native.Mathlib.Omega.{arith}
use mathlib.Core.Path.{◌≡◌, refl, sym, ap, ap₂, ◌∙◌}
use mathlib.Core.Bool.{Bool, true, false}
use mathlib.Core.List.{List, [], ◌∷◌, ◌++◌, append_assoc, append-nil}
use lib.ListN.{length, take, drop, length-append}
use lib.Seq.{append_snoc, take_at, drop_at, drop-drop, length-take-le}
use lib.Dec.{ltb, eqb}
use borrow.Author.Tests.{lt-ltb, le-ltb, ltb-false}
use Rattle.formatter.specs.declared.Measures.{Measures}
use Rattle.std.specs.Prelude.{Ok, Err}
use Rattle.reader.specs.declared.Refusal.TheVariants.{TooLong, NotUtf8, Malformed, TooDeep}
use Rattle.layout.specs.declared.Stop.TheVariants.{Absent, Import}
use Rattle.formatter.specs.declared.FormatError.{FormatError}
use Rattle.formatter.specs.declared.FormatError.TheVariants.{Refused, Stopped, CommentsLeft, IndentTooWide, OutputTooShort}
use Rattle.formatter.specs.Verdict.{Verdict, number_of}
use Rattle.std.specs.Fmt as Fmt
use Rattle.std.proofs.lemmas.Fmt.{decimal_from_appends, length-decimal-le_succ}
use Rattle.program.specs.Program.{digits, decimal, line}
use Rattle.program.specs.Printing.{Prints}
use Rattle.program.specs.Promises.Printing.{Answer, said, said_with, shown, Puts}

-- ---- digits

-- More digits than there are change nothing.
digits_enough : (k m n : ℕ) → n < k → n < m → digits k n ≡ digits m n
unfolding digits
digits_enough zero m n h l = absurd (omega arith)
digits_enough (suc k) zero n h l = absurd (omega arith)
digits_enough (suc k) (suc m) n h l = go (ltb n 10) refl (λ more. digits_enough k m (n / 10) (omega arith) (omega arith))
  where
    go : (t : Bool) → ltb n 10 ≡ t → (10 ≤ n → digits k (n / 10) ≡ digits m (n / 10)) → digits (suc k) n ≡ digits (suc m) n
    go true e same = rw (digits, e)
    go false e same = rw (digits, e) (ap (λ (ds : List ℕ). ds ++ (48 + n % 10) ∷ []) (same (ltb-false _ _ e)))

pub decimal_more : (n : ℕ) → 10 ≤ n → decimal n ≡ decimal (n / 10) ++ (48 + n % 10) ∷ []
unfolding decimal digits
decimal_more n h =
    rw (decimal, digits, le-ltb _ _ h) (ap (λ (ds : List ℕ). ds ++ (48 + n % 10) ∷ []) (digits_enough n (suc (n / 10)) (n / 10) (omega arith) (omega arith)))

pub length_more : (n : ℕ) → 10 ≤ n → length (decimal n) ≡ length (decimal (n / 10)) + 1
length_more n h = rw (decimal_more n h) (length-append (decimal (n / 10)) ((48 + n % 10) ∷ []))

-- The digits of a u64 are those that std writes.
pub decimal-is : (n : ℕ) → n < 2 ^ 64 → decimal n ≡ Fmt.decimal n
unfolding decimal digits
decimal-is n h = decimal_from_appends digits (record { one = one; more = more }) (suc n) n h (omega (arith, length-decimal-le_succ n h))
  where
    one : (k m : ℕ) → m < 10 → digits (suc k) m ≡ (48 + m) ∷ []
    one k m l = rw (digits, lt-ltb _ _ l) refl

    more : (k m : ℕ) → 10 ≤ m → digits (suc k) m ≡ digits k (m / 10) ++ (48 + m % 10) ∷ []
    more k m l = rw (digits, le-ltb _ _ l) refl

-- ---- bytes written one after another

module _ {out mid out' a b : List ℕ} {at r s : ℕ} (p : Puts out at a mid r) (q : Puts mid r b out' s) (room : at ≤ length out) where
  head : length (take at out ++ a) ≡ r
  head = length-append (take at out) a ∙ omega (arith, length-take-le at out room, p.next)

  rest : drop s mid ≡ drop s out
  rest =
      rw q.next
      (sym (drop-drop (length b) r mid)
      ∙ ap (λ (l : List ℕ). drop (length b) l) (ap (λ (l : List ℕ). drop r l) p.written ∙ drop_at (take at out ++ a) (drop r out) r head)
      ∙ drop-drop (length b) r out)

  -- Bytes behind bytes.
  pub puts-both : Puts out at (a ++ b) out' s
  puts-both =
      record {
        next = q.next ∙ omega (arith, p.next, length-append a b);
        written = q.written
            ∙ ap₂ (λ (u v : List ℕ). u ++ b ++ v) (ap (λ (l : List ℕ). take r l) p.written ∙ take_at (take at out ++ a) (drop r out) r head) rest
            ∙ ap (λ (l : List ℕ). l ++ drop s out) (append_assoc (take at out) a b);
      }

-- ---- the line

-- The byte behind a number goes to the next one.
behind : (x d : List ℕ) (s e : ℕ) → (x ++ s ∷ []) ++ (d ++ e ∷ []) ≡ (x ++ s ∷ d) ++ e ∷ []
behind x d s e = sym (append_assoc (x ++ s ∷ []) d (e ∷ [])) ∙ ap (λ (l : List ℕ). l ++ e ∷ []) (append_snoc x s d)

-- The line by its numbers, each with the byte behind it.
pub line-parts : (v : Verdict)
    → line v
    ≡ (decimal v.number ++ 32 ∷ [])
    ++ (decimal v.place ++ 32 ∷ [])
    ++ (decimal v.measures.deepest ++ 32 ∷ [])
    ++ (decimal v.measures.letters ++ 32 ∷ [])
    ++ (decimal v.measures.units ++ 10 ∷ [])
unfolding line
line-parts v = rw (behind, behind, behind, behind)

-- ---- the line and the text

-- An error's number is not 0.
error_number : (why : FormatError) → eqb (number_of why) 0 ≡ false
error_number (Refused TooLong) = refl
error_number (Refused (NotUtf8 at)) = refl
error_number (Refused (Malformed at)) = refl
error_number (Refused (TooDeep at)) = refl
error_number (Stopped (Absent at)) = refl
error_number (Stopped (Import at)) = refl
error_number (CommentsLeft at) = refl
error_number (IndentTooWide m) = refl
error_number (OutputTooShort m) = refl

module _ (tab : ℕ) {a : Answer} (page : List ℕ) where
  pub shown-declined : {why : FormatError} → a ≡ Err why → shown tab (said_with a page) ≡ line (said a)
  unfolding shown
  shown-declined {why} e = rw e (rw (shown, error_number why) (append-nil (line (said (Err why)))))

  pub shown-accepted : {m : Measures} → a ≡ Ok m → shown tab (said_with a page) ≡ line (said a) ++ take (m.letters + tab * m.units) page
  unfolding shown
  shown-accepted {m} e = ap (λ x. shown tab (said_with x page)) e ∙ ap (λ x. line (said x) ++ take (m.letters + tab * m.units) page) (sym e)

-- What is written from the start on is printed.
pub puts_prints : {out new out' : List ℕ} {r : ℕ} → Puts out 0 new out' r → Prints new out out' r
puts_prints {out} {new} {out'} {r} p =
    let w : r ≤ length out' = omega (arith, p.next, ap length p.written, length-append new (drop r out)) in
    record { within = w; long = sym (length-take-le r out' w); is = p.written }
