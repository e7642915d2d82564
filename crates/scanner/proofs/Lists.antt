-- Document 02, Ticket 2: "Tokens tile the text, and there is just one such list". Assumes nothing.
use Prim.Native.Nat.{ℕ, zero, suc, ◌+◌, ◌≤◌, ◌<◌}
use native.Mathlib.Omega.{arith}
use native.Mathlib.Nat.{add-zero}
use mathlib.Core.Path.{◌≡◌, refl, sym, ap, ap₂, subst₂, ◌∙◌}
use mathlib.Core.List.{List, [], ◌∷◌, ◌++◌, append_assoc, append-nil}
use mathlib.Core.Bool.{Bool, true, false, false≢true}
use mathlib.Core.Logic.{◌↔◌}
use lib.ListN.{length, get_or, take, drop, length-append, length-drop, take-append-drop}
use lib.Seq.{length-take-le, drop-cons, take_at, drop_at, get_or_at}
use lib.Dec.{eqb}
use borrow.Author.Tests.{eqb-true}
use Rattle.text.proofs.Laws.{never}
use Rattle.reader.specs.Tokens.{Tokens}
use Rattle.scanner.specs.Lexical.{opens_comment, token_of, longest, kind_of}
use Rattle.scanner.specs.Scan.{Scanned, refused, tokens, number_at, before, scan_from, scan_text}
use Rattle.scanner.specs.ListOf.{joined, Longest, AllLongest, tokens_of, ListOf, Stops}
use Rattle.scanner.proofs.CutLaws.{token_cut, bracket_token}
use Rattle.scanner.proofs.LongestLaws.{longest-within, longest-some, longest-none, longest-is}
use Rattle.scanner.proofs.ScanLaws.{scan-over, scan-none, scan-more}

-- ---- what scanning gives: pieces, each the longest token where it stands, and a tail that begins none

-- Each piece is the longest token, with a tail behind all of them.
abbrev LongestBefore : List ℕ → List (List ℕ) → Type 0
LongestBefore tail [] = Unit {0}
LongestBefore tail (piece ∷ more) = Longest (piece ++ (joined more ++ tail)) (length piece) × LongestBefore tail more

-- What is told of pieces from an offset on, and of a tail.
abbrev told : ℕ → List (List ℕ) → List ℕ → Scanned
told at pieces [] = tokens (tokens_of at pieces)
told at pieces (b ∷ tail) = refused (number_at b) (at + length (joined pieces))

record Run (at : ℕ) (rest : List ℕ) (s : Scanned) : Type 0 where
  pub pieces : List (List ℕ)
  pub tail : List ℕ
  pub joins : joined pieces ++ tail ≡ rest
  pub all : LongestBefore tail pieces
  pub none : longest tail ≡ 0
  pub says : s ≡ told at pieces tail

told_more : (piece : List ℕ) (pieces : List (List ℕ)) (tail : List ℕ) (at : ℕ)
    → before (kind_of piece) at (length piece) (told (at + length piece) pieces tail) ≡ told at (piece ∷ pieces) tail
unfolding before tokens_of joined
told_more piece pieces [] at = refl
told_more piece pieces (b ∷ tail) at = ap (refused (number_at b)) (omega (arith, length-append piece (joined pieces)))

run-over : (at : ℕ) → Run at [] (scan_from 0 at [])
unfolding joined tokens_of
run-over at =
    record { pieces = []; tail = []; joins = refl; all = tt; none = omega (arith, longest-within []); says = scan-over at }

run_none : (at b : ℕ) (rest : List ℕ) → longest (b ∷ rest) ≡ 0 → Run at (b ∷ rest) (scan_from 0 at (b ∷ rest))
unfolding joined
run_none at b rest e =
    record {
      pieces = [];
      tail = b ∷ rest;
      joins = refl;
      all = tt;
      none = e;
      says = scan-none at (b ∷ rest) (omega arith) e ∙ ap (refused (number_at b)) (sym (add-zero at));
    }

run_more : {at : ℕ} {rest : List ℕ} {s : Scanned} (piece : List ℕ) → Longest (piece ++ rest) (length piece) → Run (at + length piece) rest s
    → Run at (piece ++ rest) (before (kind_of piece) at (length piece) s)
unfolding joined
run_more {at} piece p r =
    record {
      pieces = piece ∷ r.pieces;
      tail = r.tail;
      joins = append_assoc piece (joined r.pieces) r.tail ∙ ap (λ (l : List ℕ). piece ++ l) r.joins;
      all = (rw r.joins p, r.all);
      none = r.none;
      says = ap (before (kind_of piece) at (length piece)) r.says ∙ told_more piece r.pieces r.tail at;
    }

-- A token of n bytes, which a text that is left begins with.
run-token : (at n : ℕ) (rest : List ℕ) → 0 < n → longest rest ≡ n → Run (at + n) (drop n rest) (scan_from 0 (at + n) (drop n rest)) → Run at rest (scan_from 0 at rest)
run-token at n rest h e r =
    let l : length (take n rest) ≡ n = length-take-le n rest (omega (arith, longest-within rest)) in
    let s : take n rest ++ drop n rest ≡ rest = take-append-drop n rest in
    rw (scan-more at rest n h e)
    (subst₂ (λ (k : ℕ) (u : List ℕ). Run at u (before (kind_of (take n rest)) at k (scan_from 0 (at + n) (drop n rest)))) l s
    (run_more (take n rest) (rw (s, l) (longest-some e h)) (rw l r)))

run_step : (at : ℕ) (rest : List ℕ) → ((n : ℕ) → 0 < n → 0 < length rest → Run (at + n) (drop n rest) (scan_from 0 (at + n) (drop n rest)))
    → Run at rest (scan_from 0 at rest)
run_step at [] next = run-over at
run_step at (b ∷ rest) next = go (longest (b ∷ rest)) refl
  where
    go : (n : ℕ) → longest (b ∷ rest) ≡ n → Run at (b ∷ rest) (scan_from 0 at (b ∷ rest))
    go zero e = run_none at b rest e
    go (suc n) e = run-token at (suc n) (b ∷ rest) (omega arith) e (next (suc n) (omega arith) (omega arith))

run : (size at : ℕ) (rest : List ℕ) → length rest ≤ size → Run at rest (scan_from 0 at rest)
run zero at rest h = run_step at rest (λ n p q. absurd (omega arith))
run (suc size) at rest h = run_step at rest (λ n p q. run size (at + n) (drop n rest) (omega (arith, length-drop n rest)))

-- ---- pieces, each the longest token where it stands, are what scanning gives
listed : (at : ℕ) (pieces : List (List ℕ)) → AllLongest pieces → scan_from 0 at (joined pieces) ≡ tokens (tokens_of at pieces)
unfolding AllLongest joined tokens_of before
listed at [] a = scan-over at
listed at (piece ∷ more) a =
    let n = length piece in
    let w : n ≤ length (piece ++ joined more) = omega (arith, length-append piece (joined more)) in
    scan-more at (piece ++ joined more) n a.0.some (longest-is a.0 w)
    ∙ ap₂ (λ (p r : List ℕ). before (kind_of p) at n (scan_from 0 (at + n) r)) (take_at piece (joined more) n refl) (drop_at piece (joined more) n refl)
    ∙ ap (before (kind_of piece) at n) (listed (at + n) more a.1)

-- ---- the theorems
whole : (pieces : List (List ℕ)) → LongestBefore [] pieces → AllLongest pieces
unfolding AllLongest
whole [] a = tt
whole (piece ∷ more) a = (rw append-nil at a.0, whole more a.1)

-- What scanning a text tells of its pieces.
scanned : (text : List ℕ) → Run 0 text (scan_text text)
unfolding scan_text
scanned text = run (length text) 0 text (omega arith)

tokens_are : {ts us : Tokens} → tokens ts ≡ tokens us → ts ≡ us
tokens_are e = cc

-- The tokens that scanning gives are the text's list, and the text's list is what scanning gives.
pub list_of-scan : {text : List ℕ} {ts : Tokens} → scan_text text ≡ tokens ts → ListOf text ts
list_of-scan {text} {ts} e = go (scanned text) (scanned text).tail refl
  where
    go : (r : Run 0 text (scan_text text)) (tail : List ℕ) → r.tail ≡ tail → ListOf text ts
    go r [] t =
        record {
          pieces = r.pieces;
          joins = sym (append-nil (joined r.pieces)) ∙ rw t at r.joins;
          longest = whole r.pieces (rw t at r.all);
          are = tokens_are (sym e ∙ rw t at r.says);
        }
    go r (b ∷ tail) t = let says = rw t at r.says in never (cc)

pub scan-of_list : {text : List ℕ} {ts : Tokens} → ListOf text ts → scan_text text ≡ tokens ts
unfolding scan_text
scan-of_list l = ap (scan_from 0 0) (sym l.joins) ∙ listed 0 l.pieces l.longest ∙ ap tokens (sym l.are)

pub lists : (text : List ℕ) (ts : Tokens) → scan_text text ≡ tokens ts ↔ ListOf text ts
lists text ts = (list_of-scan, scan-of_list)

-- There is just one list.
pub one_list : {text : List ℕ} {ts us : Tokens} → ListOf text ts → ListOf text us → ts ≡ us
one_list l m = tokens_are (sym (scan-of_list l) ∙ scan-of_list m)

-- Where 10, 11 or 12 is told there is none.
pub no_list : {text : List ℕ} {ts : Tokens} {number place : ℕ} → scan_text text ≡ refused number place → ListOf text ts → ⊥
no_list e l = let f = scan-of_list l in never (cc)

longest-cut : (left right : List ℕ) {n : ℕ} → Longest (left ++ right) n → n ≤ length left → Longest left n
longest-cut left right {n} p h =
    let same : (m : ℕ) → m ≤ length left → token_of (left ++ right) m ≡ token_of left m = λ m. token_cut left right n m p.some h p.token in
    record {
      some = p.some;
      token = sym (same n h) ∙ p.token;
      greatest = λ m g l. sym (same m l) ∙ p.greatest m g (omega (arith, length-append left right));
    }

cut : (tail : List ℕ) (pieces : List (List ℕ)) → LongestBefore tail pieces → AllLongest pieces
unfolding AllLongest
cut tail [] a = tt
cut tail (piece ∷ more) a = (
  longest-cut (piece ++ joined more) tail (rw append_assoc a.0) (omega (arith, length-append piece (joined more))),
  cut tail more a.1,
)

stops_at : {text : List ℕ} {place : ℕ} (pieces : List (List ℕ)) (b : ℕ) (tail : List ℕ) → joined pieces ++ b ∷ tail ≡ text → LongestBefore (b ∷ tail) pieces
    → longest (b ∷ tail) ≡ 0 → place ≡ length (joined pieces) → Stops text (number_at b) place
stops_at {text} {place} pieces b tail j a e l =
    let t : take place text ≡ joined pieces = rw (← j) (take_at (joined pieces) (b ∷ tail) place (sym l)) in
    let d : drop place text ≡ b ∷ tail = rw (← j) (drop_at (joined pieces) (b ∷ tail) place (sym l)) in
    let g : get_or text place 0 ≡ b = rw (← j) (get_or_at (joined pieces) b tail 0 place (sym l)) in
    record {
      before = tokens_of 0 pieces;
      list = record { pieces = pieces; joins = sym t; longest = cut (b ∷ tail) pieces a; are = refl };
      within = omega (arith, ap length j, length-append (joined pieces) (b ∷ tail));
      none = rw d (longest-none (b ∷ tail) e);
      byte = ap number_at (sym g);
    }

-- The place is where the list of the part before it ends.
pub stops : {text : List ℕ} {number place : ℕ} → scan_text text ≡ refused number place → Stops text number place
stops {text} {number} {place} e = go (scanned text) (scanned text).tail refl
  where
    go : (r : Run 0 text (scan_text text)) (tail : List ℕ) → r.tail ≡ tail → Stops text number place
    go r [] t = let says = rw t at r.says in never (cc)
    go r (b ∷ tail) t =
        let says : refused number place ≡ refused (number_at b) (0 + length (joined r.pieces)) = sym e ∙ rw t at r.says in
        let n : number ≡ number_at b = cc in
        let p : place ≡ 0 + length (joined r.pieces) = cc in
        rw n (stops_at r.pieces b tail (rw t at r.joins) (rw t at r.all) (rw t at r.none) (omega arith))

-- 10 is told of a comment: the text opens one at the place, and by `Stops` it has no end.
number_10 : (b : ℕ) → 10 ≡ number_at b → b ≡ 40
unfolding number_at
number_10 b e = go (eqb b 40) refl (eqb b 34) e
  where
    go : (s : Bool) → eqb b 40 ≡ s → (t : Bool) → ◌≡◌ {A = ℕ} 10 (elim s as (λ x. ℕ) [ true ↦ 10 | false ↦ elim t as (λ x. ℕ) [ true ↦ 11 | false ↦ 12 ] ]) → b ≡ 40
    go true q t f = eqb-true b 40 q
    go false q true f = absurd (omega (arith, f))
    go false q false f = absurd (omega (arith, f))

pub open_comment : (text : List ℕ) {place : ℕ} → scan_text text ≡ refused 10 place → opens_comment (drop place text) ≡ true
open_comment text {place} e = rw starts (go (opens_comment (40 ∷ drop (suc place) text)) refl)
  where
    s : Stops text 10 place
    s = stops e

    starts : drop place text ≡ 40 ∷ drop (suc place) text
    starts = drop-cons text place 0 s.within ∙ ap (λ (b : ℕ). b ∷ drop (suc place) text) (number_10 (get_or text place 0) s.byte)

    go : (t : Bool) → opens_comment (40 ∷ drop (suc place) text) ≡ t → opens_comment (40 ∷ drop (suc place) text) ≡ true
    go true q = q
    go false q =
        let none : token_of (40 ∷ drop (suc place) text) 1 ≡ false = rw starts at (s.none 1 (omega arith) (omega (arith, length-drop place text, s.within))) in
        absurd (false≢true (sym none ∙ bracket_token (drop (suc place) text) q))
