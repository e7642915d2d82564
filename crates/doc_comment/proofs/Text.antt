-- Laws of the doc text: the last line, the lines joined and their length, how they are written, and the answer. Assumes nothing.
use Prim.Native.Nat.{ℕ, zero, suc, ◌+◌, ◌-◌, ◌≤◌, ◌<◌}
use native.Mathlib.Omega.{arith}
use mathlib.Core.Path.{◌≡◌, refl, sym, ap, ap₂, ◌∙◌}
use mathlib.Core.Bool.{Bool, true, false, false≢true}
use mathlib.Core.List.{List, [], ◌∷◌, ◌++◌, append_assoc, append-nil, reverse, reverse_aux, reverse-append, reverse-reverse}
use Rattle.std.specs.Prelude.{None, Some, Ok, Err, MatchOption}
use Rattle.std.specs.Bool.{then_some}
use lib.ListN.{length, get_or, take, drop, set, length-append}
use lib.Seq.{paste, append_snoc, drop-cons, drop-drop, set_at, take_at, drop_at, take-length}
use borrow.Author.Tests.{le-leb, lt-leb}
use Rattle.text.specs.Bytes.{bytes, same_bytes}
use Rattle.text.proofs.Laws.{never, same_true, same_refl}
use Rattle.doc_comment.specs.Doc.{joined, closed, opened, doc_text, put, doc_of, doc_said}
use Rattle.doc_comment.specs.Promises.Lines.{kept, FirstKept, size, Closes, IsOpen, Joins, Holds, fed}
use Rattle.doc_comment.specs.declared.OutputTooShort.{OutputTooShort}

-- ---- lists of lines

head_of : {l m : List ℕ} {ls ms : List (List ℕ)} → ◌≡◌ {A = List (List ℕ)} (l ∷ ls) (m ∷ ms) → l ≡ m
head_of e = cc

tail_of : {l m : List ℕ} {ls ms : List (List ℕ)} → ◌≡◌ {A = List (List ℕ)} (l ∷ ls) (m ∷ ms) → ls ≡ ms
tail_of e = cc

size-append : (ls ms : List (List ℕ)) → size (ls ++ ms) ≡ size ls + size ms
unfolding size
size-append [] ms = omega arith
size-append (l ∷ ls) ms = omega (arith, size-append ls ms)

size_back : (ls ms : List (List ℕ)) → size (reverse_aux ls ms) ≡ size ls + size ms
unfolding size
size_back [] ms = omega arith
size_back (l ∷ ls) ms = omega (arith, size_back ls (l ∷ ms))

size_none : (ls : List (List ℕ)) → size ls ≡ 0 → ls ≡ []
unfolding size
size_none [] h = refl
size_none (l ∷ ls) h = absurd (omega arith)

size-one : (l : List ℕ) → size (l ∷ []) ≡ length l + 1
unfolding size
size-one l = omega arith

size-more : (l : List ℕ) (ls : List (List ℕ)) → size (l ∷ ls) ≡ length l + 1 + size ls
unfolding size
size-more l ls = refl

size-nil : size [] ≡ 0
unfolding size
size-nil = refl

-- ---- the last line

closing_some : bytes ")" ≡ [] → ⊥
unfolding bytes
closing_some e = never (cc)

-- The line read last, and what the lines before it take.
abbrev Pending : List (List ℕ) → List ℕ → ℕ → Type 0
Pending [] last m = (last ≡ []) × (m ≡ 0)
Pending (l ∷ ls) last m = (last ≡ l) × (m ≡ size ls)

-- The lines read so far, the last first.
pub record Seen (comment rest last : List ℕ) (total between : ℕ) : Type 0 where
  pub back : List (List ℕ)
  pub rows : reverse (kept comment) ≡ reverse_aux (kept rest) back
  pub all : total ≡ size back
  pub pending : Pending back last between
  pub within : total + length rest ≤ length comment

pub seen_none : (comment : List ℕ) → Seen comment comment [] 0 0
seen_none comment = record { back = []; rows = refl; all = sym size-nil; pending = (refl, refl); within = omega arith }

pub seen_more : {comment rest last line behind : List ℕ} {total between : ℕ} → Seen comment rest last total between → FirstKept rest line behind → Seen comment behind line (total + (length line + 1)) total
seen_more {line = line} seen first =
    record {
      back = line ∷ seen.back;
      rows = seen.rows ∙ ap (λ (l : List (List ℕ)). reverse_aux l seen.back) first.line;
      all = omega (arith, size-more line seen.back, seen.all);
      pending = (refl, seen.all);
      within = omega (arith, seen.within, first.room);
    }

module _ {comment rest last : List ℕ} {total between : ℕ} (seen : Seen comment rest last total between) (over : kept rest ≡ []) where
  back_is : reverse (kept comment) ≡ seen.back
  back_is = seen.rows ∙ ap (λ (l : List (List ℕ)). reverse_aux l seen.back) over

  pub seen-closed : same_bytes last (bytes ")") ≡ true → Closes (kept comment) between
  seen-closed t = go seen.back back_is seen.pending (same_true last (bytes ")") t)
    where
      go : (back : List (List ℕ)) → reverse (kept comment) ≡ back → Pending back last between → last ≡ bytes ")" → Closes (kept comment) between
      go [] e p q = absurd (closing_some (sym q ∙ p.0))
      go (l ∷ ls) e p q =
          record {
            between = reverse ls;
            last = sym (reverse-reverse (kept comment)) ∙ ap reverse e ∙ reverse-append (l ∷ []) ls ∙ ap (λ (u : List ℕ). reverse ls ++ (u ∷ [])) (sym p.0 ∙ q);
            takes = size_back ls [] ∙ omega (arith, size-nil, p.1);
          }

  pub seen_open : same_bytes last (bytes ")") ≡ false → IsOpen (kept comment)
  seen_open f m c = go seen.back (sym back_is ∙ ap reverse c.last ∙ reverse-append c.between (bytes ")" ∷ [])) seen.pending
    where
      go : {ls : List (List ℕ)} (back : List (List ℕ)) → back ≡ bytes ")" ∷ ls → Pending back last between → ⊥
      go [] e p = never (cc)
      go (l ∷ back) e p =
          false≢true (sym f ∙ ap (λ (u : List ℕ). same_bytes u (bytes ")")) (p.0 ∙ head_of e) ∙ same_refl (bytes ")"))

  pub seen-then : (t : Bool) → t ≡ same_bytes last (bytes ")") → MatchOption (then_some t between) (IsOpen (kept comment)) (λ m. Closes (kept comment) m)
  seen-then true e = seen-closed (sym e)
  seen-then false e = seen_open (sym e)

-- ---- the lines joined

pub length-joined : (ls : List (List ℕ)) → length (joined ls) ≡ size ls - 1
unfolding joined size
length-joined [] = refl
length-joined (l ∷ []) = omega arith
length-joined (l ∷ k ∷ ls) = omega (arith, length-append l (10 ∷ joined (k ∷ ls)), length-joined (k ∷ ls))

joined_snoc : (ls : List (List ℕ)) (d l : List ℕ) → joined ((d ∷ ls) ++ (l ∷ [])) ≡ joined (d ∷ ls) ++ (10 ∷ l)
unfolding joined
joined_snoc [] d l = refl
joined_snoc (k ∷ ls) d l =
    ap (λ (u : List ℕ). d ++ (10 ∷ u)) (joined_snoc ls k l) ∙ sym (append_assoc d (10 ∷ joined (k ∷ ls)) (10 ∷ l))

-- ---- a line feed, and a copied line

pub fed-start : (out : List ℕ) (t : ℕ) → t ≤ 0 → out ≡ fed out t
unfolding fed
fed-start out zero h = refl
fed-start out (suc t) h = absurd (omega arith)

pub fed-later : (out : List ℕ) (t : ℕ) → 0 < t → set out (t - 1) 10 ≡ fed out t
unfolding fed
fed-later out zero h = absurd (omega arith)
fed-later out (suc t) h = let e : suc t - 1 ≡ t = omega arith in ap (λ (i : ℕ). set out i 10) e

-- A line behind j, which has q bytes and a line feed behind them.
module _ (j l out : List ℕ) (q : ℕ) (is : length j ≡ q) (room : suc q + length l ≤ length out) where
  line-fed : set (j ++ drop q out) q 10 ≡ j ++ 10 ∷ drop (suc q) out
  line-fed =
      ap (λ (u : List ℕ). set (j ++ u) q 10) (drop-cons out q 0 (omega arith)) ∙ set_at j (get_or out q 0) (drop (suc q) out) 10 q is

  ended : length (j ++ (10 ∷ [])) ≡ suc q
  ended = length-append j (10 ∷ []) ∙ omega (arith, is)

  line-copied : paste (set (j ++ drop q out) q 10) (suc q) l (length l) ≡ (j ++ 10 ∷ l) ++ drop (suc q + length l) out
  line-copied =
      ap (λ (u : List ℕ). paste u (suc q) l (length l)) (line-fed ∙ sym (append_snoc j 10 (drop (suc q) out)))
      ∙ ap₂ (λ (u v : List ℕ). u ++ take (length l) l ++ v)
      (take_at (j ++ (10 ∷ [])) (drop (suc q) out) (suc q) ended)
      (sym (drop-drop (length l) (suc q) ((j ++ (10 ∷ [])) ++ drop (suc q) out))
      ∙ ap (λ (u : List ℕ). drop (length l) u) (drop_at (j ++ (10 ∷ [])) (drop (suc q) out) (suc q) ended)
      ∙ drop-drop (length l) (suc q) out)
      ∙ ap (λ (u : List ℕ). (j ++ (10 ∷ [])) ++ u ++ drop (suc q + length l) out) (take-length l)
      ∙ ap (λ (u : List ℕ). u ++ drop (suc q + length l) out) (append_snoc j 10 l)

pub line-written : (done : List (List ℕ)) (l out out' : List ℕ) (t : ℕ) → t ≡ size done → out' ≡ joined done ++ drop (t - 1) out → t + length l ≤ length out → paste (fed out' t) t l (length l) ≡ joined (done ++ (l ∷ [])) ++ drop (t + length l) out
unfolding joined fed
line-written [] l out out' zero e w h =
    ap (λ (o : List ℕ). paste o 0 l (length l)) w ∙ ap (λ (u : List ℕ). u ++ drop (0 + length l) out) (take-length l)
line-written [] l out out' (suc t) e w h = absurd (omega (arith, size-nil))
line-written (d ∷ ds) l out out' zero e w h = absurd (omega (arith, size-more d ds))
line-written (d ∷ ds) l out out' (suc q) e w h =
    let n : suc q - 1 ≡ q = omega arith in
    let is : length (joined (d ∷ ds)) ≡ q = length-joined (d ∷ ds) ∙ omega arith in
    ap (λ (o : List ℕ). paste (set o q 10) (suc q) l (length l)) (w ∙ ap (λ (i : ℕ). joined (d ∷ ds) ++ drop i out) n)
    ∙ line-copied (joined (d ∷ ds)) l out q is h
    ∙ ap (λ (u : List ℕ). u ++ drop (suc q + length l) out) (sym (joined_snoc ds d l))

-- The lines that are written, and those that are still to be.
pub record Writing (comment : List ℕ) (m : ℕ) (out rest : List ℕ) (t : ℕ) (out' : List ℕ) : Type 0 where
  pub done : List (List ℕ)
  pub todo : List (List ℕ)
  pub lines : kept comment ≡ (done ++ todo) ++ (bytes ")" ∷ [])
  pub left : kept rest ≡ todo ++ (bytes ")" ∷ [])
  pub takes : size done + size todo ≡ m
  pub here : t ≡ size done
  pub written : out' ≡ joined done ++ drop (t - 1) out
  pub long : length out' ≡ length out

pub writing_none : {comment : List ℕ} {m : ℕ} (out : List ℕ) → Closes (kept comment) m → Writing comment m out comment 0 out
unfolding joined
writing_none out c =
    record {
      done = [];
      todo = c.between;
      lines = c.last;
      left = c.last;
      takes = omega (arith, size-nil, c.takes);
      here = sym size-nil;
      written = refl;
      long = refl;
    }

module _ {comment : List ℕ} {m : ℕ} {out rest : List ℕ} {t : ℕ} {out' : List ℕ} (w : Writing comment m out rest t out') where
  -- A line is left.
  pub writing-some : kept rest ≡ [] → ⊥
  writing-some e = go w.todo (sym w.left ∙ e)
    where
      go : (todo : List (List ℕ)) → todo ++ (bytes ")" ∷ []) ≡ [] → ⊥
      go [] f = never (cc)
      go (l ∷ todo) f = never (cc)

  pub writing-all : m ≤ t → Joins (kept comment) m out out'
  writing-all h =
      let z : w.todo ≡ [] = size_none w.todo (omega (arith, w.takes, w.here)) in
      let e : w.done ++ w.todo ≡ w.done = ap (λ (u : List (List ℕ)). w.done ++ u) z ∙ append-nil w.done in
      record {
        closes = record { between = w.done; last = w.lines ∙ ap (λ (u : List (List ℕ)). u ++ (bytes ")" ∷ [])) e; takes = omega (arith, w.takes, w.here, ap size z, size-nil) };
        written = w.written ∙ ap (λ (i : ℕ). joined w.done ++ drop i out) (let n : t - 1 ≡ m - 1 = omega (arith, w.takes, w.here, ap size z, size-nil) in n);
      }

  module _ {line behind : List ℕ} (less : t < m) (first : FirstKept rest line behind) where
    -- The next line is the first of those to be written.
    split : (more : List (List ℕ)) × (w.todo ≡ line ∷ more) × (kept behind ≡ more ++ (bytes ")" ∷ []))
    split = go w.todo refl
      where
        go : (todo : List (List ℕ)) → w.todo ≡ todo → (more : List (List ℕ)) × (todo ≡ line ∷ more) × (kept behind ≡ more ++ (bytes ")" ∷ []))
        go [] e = absurd (omega (arith, w.takes, w.here, ap size e, size-nil))
        go (l ∷ more) e =
            let f : ◌≡◌ {A = List (List ℕ)} (l ∷ (more ++ (bytes ")" ∷ []))) (line ∷ kept behind) = ap (λ (u : List (List ℕ)). u ++ (bytes ")" ∷ [])) (sym e) ∙ sym w.left ∙ first.line in
            (more, ap (λ (u : List ℕ). u ∷ more) (head_of f), sym (tail_of f))

    fits : size w.done + (length line + 1) + size split.0 ≡ m
    fits = omega (arith, w.takes, ap size split.1, size-more line split.0)

    pub writing-room : m ≤ length out + 1 → t + length line ≤ length out'
    writing-room h = omega (arith, fits, w.here, w.long)

    pub writing_more : m ≤ length out + 1 → {fed' copied : List ℕ} → fed' ≡ fed out' t → copied ≡ paste fed' t line (length line) → length copied ≡ length out' → Writing comment m out behind (t + (length line + 1)) copied
    writing_more h f c k =
        let s : size (w.done ++ (line ∷ [])) ≡ size w.done + (length line + 1) = size-append w.done (line ∷ []) ∙ ap (λ (i : ℕ). size w.done + i) (size-one line) in
        let i : t + length line ≡ t + (length line + 1) - 1 = omega arith in
        record {
          done = w.done ++ (line ∷ []);
          todo = split.0;
          lines = w.lines
              ∙ ap (λ (u : List (List ℕ)). u ++ (bytes ")" ∷ []))
              (ap (λ (u : List (List ℕ)). w.done ++ u) split.1 ∙ sym (append_snoc w.done line split.0));
          left = split.2;
          takes = omega (arith, s, fits);
          here = omega (arith, s, w.here);
          written = c
              ∙ ap (λ (o : List ℕ). paste o t line (length line)) f
              ∙ line-written w.done line out out' t w.here w.written (omega (arith, writing-room h, w.long))
              ∙ ap (λ (i : ℕ). joined (w.done ++ (line ∷ [])) ++ drop i out) i;
          long = k ∙ w.long;
        }

-- ---- the answer

doc-kept : (comment : List ℕ) → doc_text comment ≡ opened (kept comment)
unfolding doc_text kept
doc-kept comment = refl

opened-nil : opened [] ≡ None
unfolding opened
opened-nil = refl

opened-no : (l : List ℕ) (ls : List (List ℕ)) → same_bytes l (bytes "!") ≡ false → opened (l ∷ ls) ≡ None
unfolding opened
opened-no l ls e = rw (opened, e)

opened-yes : (l : List ℕ) (ls : List (List ℕ)) → same_bytes l (bytes "!") ≡ true → opened (l ∷ ls) ≡ closed (reverse ls)
unfolding opened
opened-yes l ls e = rw (opened, e)

closed-yes : (l : List ℕ) (ls : List (List ℕ)) → same_bytes l (bytes ")") ≡ true → closed (l ∷ ls) ≡ Some (joined (reverse ls))
unfolding closed
closed-yes l ls e = rw (closed, e)

closed-no : (l : List ℕ) (ls : List (List ℕ)) → same_bytes l (bytes ")") ≡ false → closed (l ∷ ls) ≡ None
unfolding closed
closed-no l ls e = rw (closed, e)

closed-nil : closed [] ≡ None
unfolding closed
closed-nil = refl

closed_some : {ls : List (List ℕ)} {m : ℕ} (c : Closes ls m) → closed (reverse ls) ≡ Some (joined c.between)
closed_some c =
    ap (λ (u : List (List ℕ)). closed (reverse u)) c.last
    ∙ ap closed (reverse-append c.between (bytes ")" ∷ []))
    ∙ closed-yes (bytes ")") (reverse c.between) (same_refl (bytes ")"))
    ∙ ap (λ (u : List (List ℕ)). Some (joined u)) (reverse-reverse c.between)

closed_none : (ls : List (List ℕ)) → ((m : ℕ) → Closes ls m → ⊥) → closed (reverse ls) ≡ None
closed_none ls h = go (reverse ls) refl
  where
    go : (back : List (List ℕ)) → reverse ls ≡ back → closed back ≡ None
    go [] e = closed-nil
    go (l ∷ back) e = by (same_bytes l (bytes ")")) refl
      where
        by : (t : Bool) → same_bytes l (bytes ")") ≡ t → closed (l ∷ back) ≡ None
        by true f =
            absurd
            (h (size (reverse back))
            (record {
              between = reverse back;
              last = sym (reverse-reverse ls)
                  ∙ ap reverse e
                  ∙ reverse-append (l ∷ []) back
                  ∙ ap (λ (u : List ℕ). reverse back ++ (u ∷ [])) (same_true l (bytes ")") f);
              takes = refl;
            }))
        by false f = closed-no l back f

module _ (comment : List ℕ) where
  pub body-empty : kept comment ≡ [] → doc_text comment ≡ None
  body-empty e = doc-kept comment ∙ ap opened e ∙ opened-nil

  module _ {line rest : List ℕ} (first : FirstKept comment line rest) where
    pub body-plain : same_bytes line (bytes "!") ≡ false → doc_text comment ≡ None
    body-plain f = doc-kept comment ∙ ap opened first.line ∙ opened-no line (kept rest) f

    module _ (t : same_bytes line (bytes "!") ≡ true) where
      body : doc_text comment ≡ closed (reverse (kept rest))
      body = doc-kept comment ∙ ap opened first.line ∙ opened-yes line (kept rest) t

      pub body-open : IsOpen (kept rest) → doc_text comment ≡ None
      body-open h = body ∙ closed_none (kept rest) h

      pub body-holds : {m : ℕ} → Closes (kept rest) m → Holds comment rest m
      body-holds c = record { closes = c; text = body }

module _ (comment out : List ℕ) where
  pub said-none : doc_text comment ≡ None → doc_said (Ok None) out ≡ doc_of comment out
  unfolding doc_of doc_said
  said-none e = rw (doc_of, e)

  short-said : (text : List ℕ) (e : OutputTooShort) → doc_text comment ≡ Some text → length out < length text → doc_said (Err e) out ≡ doc_of comment out
  unfolding doc_of doc_said put
  short-said text e t h = rw (doc_of, t, put, lt-leb _ _ h)

  found-said : (text : List ℕ) → doc_text comment ≡ Some text → length text ≤ length out → doc_said (Ok (Some (length text))) (text ++ drop (length text) out) ≡ doc_of comment out
  unfolding doc_of doc_said put
  found-said text t h = rw (doc_of, t, put, le-leb _ _ h)

  module _ {lines : List ℕ} {m : ℕ} (h : Holds comment lines m) (n : ℕ) (less : n ≡ m - 1) where
    is_long : (c : Closes (kept lines) m) → n ≡ length (joined c.between)
    is_long c = omega (arith, length-joined c.between, c.takes)

    pub said-short : (e : OutputTooShort) → length out < n → doc_said (Err e) out ≡ doc_of comment out
    said-short e l = short-said (joined h.closes.between) e (h.text ∙ closed_some h.closes) (omega (arith, is_long h.closes))

    pub said-found : {out' : List ℕ} → Joins (kept lines) m out out' → n ≤ length out → doc_said (Ok (Some n)) out' ≡ doc_of comment out
    said-found j l =
        let e = is_long j.closes in
        ap₂ (λ (i : ℕ) (o : List ℕ). doc_said (Ok (Some i)) o) e (j.written ∙ ap (λ (i : ℕ). joined j.closes.between ++ drop i out) (let k : m - 1 ≡ length (joined j.closes.between) = omega (arith, e) in k))
        ∙ found-said (joined j.closes.between) (h.text ∙ closed_some j.closes) (omega (arith, e))
