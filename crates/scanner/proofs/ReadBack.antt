-- Document 02, Ticket 2: the tokens are "written as 0x05 commands", which the reader reads as exactly these tokens. Assumes nothing.
use Prim.Native.Nat.{ℕ, zero, suc, ◌+◌, ◌*◌, ◌≤◌, ◌<◌}
use native.Mathlib.Omega.{arith}
use native.Mathlib.Nat.{add-zero}
use mathlib.Core.Path.{◌≡◌, refl, sym, ap, ap₂, ◌∙◌}
use mathlib.Core.List.{List, [], ◌∷◌, ◌++◌, append_assoc}
use mathlib.Core.Bool.{Bool, true, false, not, false≢true}
use lib.ListN.{length, get_or, take, drop, length-append, length-drop}
use lib.Dec.{leb, eqb}
use lib.Seq.{get_or-drop, drop-drop, drop-append_seam}
use borrow.Author.Tests.{le-leb, eq-eqb, leb-true}
use Rattle.text.specs.Bytes.{bytes, between, is_space, is_letter, is_digit}
use Rattle.text.specs.Utf8.{continuation, is_in, is_inside, boundary}
use Rattle.reader.specs.Commands as Reader
use Rattle.reader.specs.Tokens.{Tokens, no_tokens, token∷, tiled, end_tokens, with_token, tokens_from}
use Rattle.reader.specs.Tokens as Reading
use Rattle.reader.proofs.TokenLaws.{next-end, next-token, from_is, from_end}
use Rattle.scanner.specs.Parts.{is_one_of}
use Rattle.scanner.specs.Lexical.{is_symbol, is_token, token_of, kind_of}
use Rattle.scanner.specs.Scan.{command, commands}
use Rattle.scanner.specs.ListOf.{joined, AllLongest, tokens_of, ListOf}
use Rattle.text.proofs.Computed.{and_left, and_right, all_below, same}
use Rattle.scanner.proofs.Bytes.{decides, between-keys, by-range}
use Rattle.scanner.proofs.TokenLaws.{starts_name, token_none, opens_not}
use Rattle.scanner.proofs.CutLaws.{kind_known}
use Rattle.scanner.proofs.WriteLaws.{length-commands}

-- A byte of what follows an offset.
byte_at : (rec : List ℕ) (at i : ℕ) {rest : List ℕ} → drop at rec ≡ rest → get_or rec (at + i) 0 ≡ get_or rest i 0
byte_at rec at i e = sym (get_or-drop at rec i 0) ∙ ap (λ (l : List ℕ). get_or l i 0) e

first-at : (rec : List ℕ) (at : ℕ) {rest : List ℕ} → drop at rec ≡ rest → get_or rec at 0 ≡ get_or rest 0 0
first-at rec at e = ap (λ (i : ℕ). get_or rec i 0) (sym (add-zero at)) ∙ byte_at rec at 0 e

-- ---- one token
module _ (ends : ℕ → Bool) (size : ℕ) (rec : List ℕ) (start at kind len : ℕ) (rest : List ℕ) (e : drop at rec ≡ command kind len ++ rest) where
  kind_at : get_or rec (at + 1) 0 ≡ kind
  unfolding command
  kind_at = byte_at rec at 1 e

  length_at : Reader.u16 rec (at + 2) ≡ len
  unfolding command Reader.u16
  length_at =
      let high : at + 2 + 1 ≡ at + 3 = omega arith in
      ap₂ (λ (l h : ℕ). l + 256 * h) (byte_at rec at 2 e) (ap (λ (i : ℕ). get_or rec i 0) high ∙ byte_at rec at 3 e)
      ∙ omega arith

  stands : Reader.command rec 5 4 at ≡ true
  unfolding command Reader.command
  stands =
      let whole : at + 4 ≤ length rec = omega (arith, ap length e, length-drop at rec) in
      rw (le-leb (at + 4) (length rec) whole, eq-eqb (get_or rec at 0) 5 (first-at rec at e))

  behind : drop (at + 4) rec ≡ rest
  unfolding command
  behind = sym (drop-drop 4 at rec) ∙ ap (drop 4) e

  read-token : (n : ℕ) {ts : Tokens} {end : ℕ} → kind ≤ 20 → 1 ≤ len → start + len ≤ size → ends (start + len) ≡ true → tokens_from ends size rec n (start + len) (at + 4) ≡ tiled ts end
      → tokens_from ends size rec (suc n) start at ≡ tiled (token∷ kind start len ts) end
  unfolding command with_token
  read-token n {ts} {end} k l w i more =
      from_is ends size rec start at
      (next-token ends size rec start at (first-at rec at e) stands (sym kind_at) k (sym length_at) l w i) n
      ∙ ap (with_token size rec start at) more
      ∙ ap₂ (λ (x y : ℕ). tiled (token∷ x start y ts) end) kind_at length_at

-- ---- no token ends inside a character
-- A byte that is not the first of a character begins no token.
module _ (b : ℕ) (e : is_in continuation b ≡ true) where
  not_in : (test : ℕ → Bool) → all_below 256 (decides (between-keys [] 128 192) test false) ≡ true → test b ≡ false
  unfolding is_in
  not_in test h =
      let low : 128 ≤ b = leb-true 128 b (and_left (leb 128 b) (leb b 191) e) in
      let high : b ≤ 191 = leb-true b 191 (and_right (leb 128 b) (leb b 191) e) in
      sym (by-range [] 128 192 test false h b (omega arith) low (omega arith) (λ n. n))

  inside-none : (t : List ℕ) → is_token (b ∷ t) ≡ false
  unfolding all_below same decides between-keys is_space is_letter is_digit is_symbol is_one_of bytes between
  inside-none t =
      token_none b (not_in is_space refl) (not_in starts_name refl) (not_in is_digit refl) (not_in is_symbol refl) (not_in (is_one_of (bytes "()[]{},;._\"")) refl) t

  token-of-none : (t : List ℕ) (n : ℕ) → token_of (b ∷ t) (suc n) ≡ false
  unfolding token_of all_below same decides between-keys
  token-of-none t n = rw (token_of, opens_not (b ∷ t) b refl (not_in (λ x. eqb x 40) refl)) (inside-none (take n t))

begins_outside : (rest : List ℕ) (n : ℕ) → 0 < n → token_of rest n ≡ true → is_inside rest ≡ false
unfolding is_inside
begins_outside [] n h e = refl
begins_outside (b ∷ t) zero h e = absurd (omega arith)
begins_outside (b ∷ t) (suc n) h e = go (is_in continuation b) refl
  where
    go : (x : Bool) → is_in continuation b ≡ x → x ≡ false
    go true f = absurd (false≢true (sym (token-of-none b f t n) ∙ e))
    go false f = refl

outside : (pieces : List (List ℕ)) → AllLongest pieces → is_inside (joined pieces) ≡ false
unfolding is_inside joined AllLongest
outside [] a = refl
outside (piece ∷ more) a = begins_outside (piece ++ joined more) (length piece) a.0.some a.0.token

ends_outside : (text : List ℕ) (i : ℕ) (more : List (List ℕ)) → AllLongest more → drop i text ≡ joined more → boundary text i ≡ true
unfolding boundary
ends_outside text i more a d = ap (λ (l : List ℕ). not (is_inside l)) d ∙ ap not (outside more a)

-- ---- all tokens, then a part that does not start with a token
module _ (text rec tree : List ℕ) (other : get_or tree 0 0 ≡ 5 → ⊥) where
  abbrev ends : ℕ → Bool
  ends = boundary text

  abbrev size : ℕ
  size = length text

  read-end : (n start at : ℕ) → drop at rec ≡ tree → start ≡ size → tokens_from ends size rec n start at ≡ tiled no_tokens at
  unfolding end_tokens
  read-end n start at e s =
      from_end ends size rec start at n (next-end ends size rec start at (λ q. other (sym (first-at rec at e) ∙ q)))
      ∙ rw (eq-eqb start size s, end_tokens)

  read-pieces : (pieces : List (List ℕ)) (n start at : ℕ) → drop at rec ≡ commands (tokens_of start pieces).kinds (tokens_of start pieces).lengths ++ tree
      → AllLongest pieces → drop start text ≡ joined pieces → start + length (joined pieces) ≡ size → length pieces ≤ n
      → tokens_from ends size rec n start at ≡ tiled (tokens_of start pieces) (at + 4 * length pieces)
  unfolding commands tokens_of AllLongest joined
  read-pieces [] n start at e a d s l = read-end n start at e (omega arith) ∙ ap (tiled no_tokens) (omega arith)
  read-pieces (piece ∷ more) zero start at e a d s l = absurd (omega arith)
  read-pieces (piece ∷ more) (suc n) start at e a d s l =
      let ts = tokens_of (start + length piece) more in
      let kind = kind_of piece in
      let rest = commands ts.kinds ts.lengths ++ tree in
      let e' : drop at rec ≡ command kind (length piece) ++ rest = e ∙ append_assoc (command kind (length piece)) (commands ts.kinds ts.lengths) tree in
      let end : at + 4 + 4 * length more ≡ at + 4 * suc (length more) = omega arith in
      let d' : drop (start + length piece) text ≡ joined more = sym (drop-drop (length piece) start text) ∙ ap (drop (length piece)) d ∙ drop-append_seam piece (joined more) in
      read-token ends size rec start at kind (length piece) rest e' n (kind_known piece) a.0.some (omega (arith, length-append piece (joined more))) (ends_outside text (start + length piece) more a.1 d')
      (read-pieces more n (start + length piece) (at + 4) (behind ends size rec start at kind (length piece) rest e') a.1 d'
      (omega (arith, length-append piece (joined more))) (omega arith)
      ∙ ap (tiled ts) end)

length_kinds : (at : ℕ) (pieces : List (List ℕ)) → length (tokens_of at pieces).kinds ≡ length pieces
unfolding tokens_of
length_kinds at [] = refl
length_kinds at (piece ∷ more) = ap suc (length_kinds (at + length piece) more)

length_lengths : (at : ℕ) (pieces : List (List ℕ)) → length (tokens_of at pieces).lengths ≡ length pieces
unfolding tokens_of
length_lengths at [] = refl
length_lengths at (piece ∷ more) = ap suc (length_lengths (at + length piece) more)

-- Four bytes a token.
pub length_list : {text : List ℕ} {ts : Tokens} → ListOf text ts → length (commands ts.kinds ts.lengths) ≡ 4 * length ts.kinds
length_list l =
    rw l.are
    (length-commands (tokens_of 0 l.pieces).kinds (tokens_of 0 l.pieces).lengths
    (length_lengths 0 l.pieces ∙ sym (length_kinds 0 l.pieces)))

-- In front of any part of a record that does not start with a token.
pub tokens-read : {text : List ℕ} {ts : Tokens} → ListOf text ts → length ts.kinds ≤ 4096 → (tree : List ℕ) → (get_or tree 0 0 ≡ 5 → ⊥)
    → Reading.tokens (boundary text) (length text) (commands ts.kinds ts.lengths ++ tree) ≡ tiled ts (4 * length ts.kinds)
unfolding Reading.tokens
tokens-read {text} {ts} l few tree other =
    let us = tokens_of 0 l.pieces in
    let count : length us.kinds ≡ length l.pieces = length_kinds 0 l.pieces in
    let n : length us.kinds ≤ 4096 = rw l.are at few in
    rw l.are
    (read-pieces text (commands us.kinds us.lengths ++ tree) tree other l.pieces 4096 0 0 refl l.longest (sym l.joins)
    (omega (arith, ap length l.joins)) (omega arith)
    ∙ ap (tiled us) (omega arith))
