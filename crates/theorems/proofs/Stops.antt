-- 13 and 14 point to what they say, and 5 is never told, for every text and record. Each theorem stands under its sentence.
use Prim.Native.Nat.{ℕ, ◌+◌, ◌*◌, ◌-◌, ◌≤◌}
use native.Mathlib.Omega.{arith}
use mathlib.Core.Path.{◌≡◌, refl, ap, ◌∙◌, subst}
use mathlib.Core.Logic.{◌⊎◌, inl, inr}
use mathlib.Core.Bool.{Bool, true, false, ◌&&◌}
use mathlib.Core.List.{List}
use Rattle.std.specs.Prelude.{Option, None, Some}
use lib.ListN.{length, get_or}
use lib.Dec.{leb, ltb}
use Rattle.text.specs.Utf8.{first_broken, boundary}
use Rattle.reader.specs.Forms.{EsImportDec, dec_number}
use Rattle.reader.specs.Fields.{DecOne, first_form, forms}
use Rattle.reader.specs.Commands.{u16, absent_at, list_at, form_at, form_width}
use Rattle.reader.specs.Tokens.{Tokens, count_of, Tiling, tiled, untiled, tokens}
use Rattle.reader.specs.Check.{Checked, ok, malformed, too_deep, tree_check}
use Rattle.reader.specs.Reading.{Read, refused, sheet, read_tree, read_record, read_text, read, max_text, max_record}
use Rattle.reader.proofs.CommandLaws.{some_true, command-byte, absent-fits, list-fits, form-fits}
use Rattle.comments.specs.Above.{found_above}
use Rattle.comments.specs.Above as Above
use Rattle.comments.specs.Set.{first}
use Rattle.layout.specs.Meaning.{Page, Event, Outcome, done, stopped, Stop, absent, imported}
use Rattle.layout.specs.Events.{deepest, formatted, is_left}
use Rattle.layout.specs.Walk.{walk}
use Rattle.agreement.specs.Agreement.{EmptyPath, Proper, EndsAt}
use Rattle.formatter.specs.declared.Measures.{Measures}
use Rattle.formatter.specs.Verdict.{Verdict, measures_of, Judged, declined, accepted, comments, stop_verdict, walked, judge, check, max_width, put, format, get}
use Rattle.formatter.specs.Lookup.{Looked, Asked, asked, ask, told, lookup}
use Rattle.formatter.specs.Lookup as Lookup
use Rattle.theorems.specs.Stops.{Has, MissingAt, ImportAt}
use Rattle.theorems.proofs.InStep.{page, passes-walks}

-- ---- bytes of commands
module _ (rec : List ℕ) (at : ℕ) where
  absent-byte : absent_at rec at ≡ true → Has rec at 0x00
  unfolding absent_at
  absent-byte e = record { within = omega (arith, absent-fits rec at e); is = command-byte rec at 0x00 1 e }

  list-bytes : list_at rec at ≡ Some 0 → Has rec at 0x02 × Has rec (at + 1) 0x00 × Has rec (at + 2) 0x00
  unfolding list_at u16
  list-bytes e =
      let fits : at + 3 ≤ length rec = list-fits rec at 0 e in
      let parts = some_true _ _ 0 e in
      let zeros : get_or rec (at + 1) 0 + 256 * get_or rec (at + 1 + 1) 0 ≡ 0 = parts.1 in
      let next : at + 2 ≡ at + 1 + 1 = omega arith in (
        record { within = omega (arith, fits); is = command-byte rec at 0x02 3 parts.0 },
        record { within = omega (arith, fits); is = omega (arith, zeros) },
        record { within = omega (arith, fits); is = ap (λ n. get_or rec n 0) next ∙ omega (arith, zeros) },
      )

  import-byte : form_at rec DecOne at ≡ Some (dec_number EsImportDec) → ImportAt rec at
  unfolding form_at form_width first_form dec_number
  import-byte e =
      let fits : at + 3 ≤ length rec = form-fits rec at DecOne 19 e in
      let tests = leb (at + 3) (length rec) && leb 0x10 (get_or rec at 0) && ltb (get_or rec at 0) (0x10 + length (forms DecOne)) in
      let number : get_or rec at 0 - 0x10 ≡ 19 = (some_true tests (get_or rec at 0 - 0x10) 19 e).1 in
      record { within = omega (arith, fits); is = omega (arith, number) }

missing_at : (rec : List ℕ) (place : ℕ) → (absent_at rec place ≡ true) ⊎ EmptyPath rec place → MissingAt rec place
missing_at rec place (inl e) = inl (absent-byte rec place e)
missing_at rec place (inr e) = let b = list-bytes rec place e.3 in inr (b.0, b.1, b.2, e)

-- ---- numbers 1 to 4
abbrev Low : Read → Type 0
Low (refused number place) = number ≤ 4
Low (sheet ts tree) = Unit {0}

module _ (text rec : List ℕ) where
  tree-low : (ts : Tokens) (tree : ℕ) (c : Checked) → tree_check rec (count_of ts) tree ≡ c → Low (read_tree rec ts tree)
  unfolding read_tree
  tree-low ts tree (ok end) e = rw (e, read_tree) tt
  tree-low ts tree (malformed place) e = rw (e, read_tree) (omega arith)
  tree-low ts tree (too_deep place) e = rw (e, read_tree) (omega arith)

  record-low : (t : Tiling) → tokens (boundary text) (length text) rec ≡ t → Low (read_record rec (boundary text) (length text))
  unfolding read_record
  record-low (tiled ts tree) e = rw (e, read_record) (tree-low ts tree (tree_check rec (count_of ts) tree) refl)
  record-low (untiled place) e = rw (e, read_record) (omega arith)

  text-low : (o : Option ℕ) → first_broken text ≡ o → Low (read_text text rec)
  unfolding read_text
  text-low None e = rw (e, read_text) (record-low (tokens (boundary text) (length text) rec) refl)
  text-low (Some place) e = rw (e, read_text) (omega arith)

  lengths-low : (b : Bool) → (leb (length text) max_text && leb (length rec) max_record) ≡ b → Low (read text rec)
  unfolding read
  lengths-low true e = rw (e, read) (text-low (first_broken text) refl)
  lengths-low false e = rw (e, read) (omega arith)

  read_low : {number place : ℕ} → read text rec ≡ refused number place → number ≤ 4
  read_low e = rw e at (lengths-low (leb (length text) max_text && leb (length rec) max_record) refl)

-- ---- verdicts
-- A verdict's number is not 5; where it is 13 or 14, its place is right.
record Right (rec : List ℕ) (v : Verdict) : Type 0 where
  not-5 : v.number ≡ 5 → ⊥
  missing : v.number ≡ 13 → MissingAt rec v.place
  import : v.number ≡ 14 → ImportAt rec v.place

-- Any number below 13 but 5.
other : {rec : List ℕ} (v : Verdict) → (v.number ≡ 5 → ⊥) → v.number ≤ 12 → Right rec v
other v ne h = record { not-5 = ne; missing = λ e. absurd (omega (arith, h, e)); import = λ e. absurd (omega (arith, h, e)) }

stop_right : (p : Page) (why : Stop) → Proper p why → Right p.rec (stop_verdict why)
unfolding stop_verdict
stop_right p (absent place) h =
    record {
      not-5 = λ e. omega (arith, e);
      missing = λ e. missing_at p.rec place h;
      import = λ e. absurd (omega (arith, e));
    }
stop_right p (imported next) h =
    let before : h.0 ≡ next - form_width DecOne = omega (arith, h.1) in
    record {
      not-5 = λ e. omega (arith, e);
      missing = λ e. absurd (omega (arith, e));
      import = λ e. subst (λ at. ImportAt p.rec at) before (import-byte p.rec h.0 h.2);
    }

abbrev JudgedRight : List ℕ → Judged → Type 0
JudgedRight rec (declined v) = Right rec v
JudgedRight rec (accepted p es) = Unit {0}

comments-right : (rec : List ℕ) (p : Page) (es : List Event) → JudgedRight rec (comments p es)
unfolding comments
comments-right rec p es = go (first (is_left p.tokens.kinds es) 0 (length p.tokens.kinds)) refl
  where
    go : (o : Option ℕ) → first (is_left p.tokens.kinds es) 0 (length p.tokens.kinds) ≡ o → JudgedRight rec (comments p es)
    go (Some k) f = rw (f, comments) (other _ (λ e. omega (arith, e)) (omega arith))
    go None f = rw (f, comments) tt

module _ (text rec : List ℕ) where
  walked-right : (ts : Tokens) (tree : ℕ) → read text rec ≡ sheet ts tree → (o : Outcome) → walk (page text rec ts) tree ≡ o
      → JudgedRight rec (walked (page text rec ts) tree)
  unfolding walked
  walked-right ts tree e (done end es) f = rw (f, walked) (comments-right rec (page text rec ts) es)
  walked-right ts tree e (stopped why es) f =
      let h : Proper (page text rec ts) why = subst (λ o. EndsAt (page text rec ts) (length rec) o) f (passes-walks text rec e) in
      rw (f, walked) (stop_right (page text rec ts) why h)

  judge-right : (r : Read) → read text rec ≡ r → JudgedRight rec (judge text rec)
  unfolding judge
  judge-right (refused number place) e =
      let low : number ≤ 4 = read_low text rec e in
      rw (e, judge) (other _ (λ f. omega (arith, low, f)) (omega (arith, low)))
  judge-right (sheet ts tree) e = rw (e, judge) (walked-right ts tree e (walk (page text rec ts) tree) refl)

  check-right : (j : Judged) → judge text rec ≡ j → Right rec (check text rec)
  unfolding check
  check-right (declined v) e = let r : Right rec v = rw e at (judge-right (read text rec) refl) in rw (e, check) r
  check-right (accepted p es) e = rw (e, check) (other _ (λ f. omega (arith, f)) (omega arith))

  put_right : (m : Measures) (bytes out : List ℕ) → Right rec (put m bytes out).verdict
  unfolding put
  put_right m bytes out = go (leb (length bytes) (length out)) refl
    where
      go : (b : Bool) → leb (length bytes) (length out) ≡ b → Right rec (put m bytes out).verdict
      go true e = rw (e, put) (other _ (λ f. omega (arith, f)) (omega arith))
      go false e = rw (e, put) (other _ (λ f. omega (arith, f)) (omega arith))

  format-right : (tab : ℕ) (p : Page) (es : List Event) (out : List ℕ) (b : Bool) → leb (deepest es * tab) max_width ≡ b
      → Right rec (format tab p es out).verdict
  unfolding format
  format-right tab p es out true e = rw (e, format) (put_right (measures_of p es) (formatted p tab es) out)
  format-right tab p es out false e = rw (e, format) (other _ (λ f. omega (arith, f)) (omega arith))

  get-right : (tab : ℕ) (out : List ℕ) (j : Judged) → judge text rec ≡ j → Right rec (get text rec tab out).verdict
  unfolding get
  get-right tab out (declined v) e = let r : Right rec v = rw e at (judge-right (read text rec) refl) in rw (e, get) r
  get-right tab out (accepted p es) e = rw (e, get) (format-right tab p es out (leb (deepest es * tab) max_width) refl)

  -- The check: with 13 the record has 00 at the place, or the list 02 00 00 of AppExp's path.
  pub check-missing : (check text rec).number ≡ 13 → MissingAt rec (check text rec).place
  check-missing = (check-right (judge text rec) refl).missing

  -- With 14 it has 23 there.
  pub check-import : (check text rec).number ≡ 14 → ImportAt rec (check text rec).place
  check-import = (check-right (judge text rec) refl).import

  -- 5 is never its number.
  pub check-not-5 : (check text rec).number ≡ 5 → ⊥
  check-not-5 = (check-right (judge text rec) refl).not-5

  -- The same of formatting, at every tab size and output.
  module _ (tab : ℕ) (out : List ℕ) where
    pub get-missing : (get text rec tab out).verdict.number ≡ 13 → MissingAt rec (get text rec tab out).verdict.place
    get-missing = (get-right tab out (judge text rec) refl).missing

    pub get-import : (get text rec tab out).verdict.number ≡ 14 → ImportAt rec (get text rec tab out).verdict.place
    get-import = (get-right tab out (judge text rec) refl).import

    pub get-not-5 : (get text rec tab out).verdict.number ≡ 5 → ⊥
    get-not-5 = (get-right tab out (judge text rec) refl).not-5

-- ---- lookups
module _ (text rec : List ℕ) (token : ℕ) where
  abbrev IsNot5 : Asked → Type 0
  IsNot5 (Lookup.declined l) = l.number ≡ 5 → ⊥
  IsNot5 (asked ts) = Unit {0}

  ask-cases : (r : Read) → read text rec ≡ r → IsNot5 (ask text rec token)
  unfolding ask
  ask-cases (refused number place) e = let low : number ≤ 4 = read_low text rec e in rw (e, ask) (λ f. omega (arith, low, f))
  ask-cases (sheet ts tree) e = go (ltb token (length ts.kinds)) refl
    where
      go : (b : Bool) → ltb token (length ts.kinds) ≡ b → IsNot5 (ask text rec token)
      go true f = rw (e, ask, f) tt
      go false f = rw (e, ask, f) (λ g. omega (arith, g))

  -- The refusals of lookups do not have the number 5.
  pub ask-not-5 : {l : Looked} → ask text rec token ≡ Lookup.declined l → l.number ≡ 5 → ⊥
  ask-not-5 e = rw e at (ask-cases (read text rec) refl)

  told-not-5 : (o : Option Above.Found) → (told o).number ≡ 5 → ⊥
  unfolding told
  told-not-5 None e = omega (arith, e)
  told-not-5 (Some f) e = omega (arith, e)

  -- `comment_above` never gives 5.
  pub lookup-not-5 : (lookup text rec token).number ≡ 5 → ⊥
  unfolding lookup
  lookup-not-5 = go (ask text rec token) refl
    where
      go : (a : Asked) → ask text rec token ≡ a → (lookup text rec token).number ≡ 5 → ⊥
      go (Lookup.declined l) e = rw (e, lookup) (ask-not-5 e)
      go (asked ts) e = rw (e, lookup) (told-not-5 (found_above ts.kinds token))
