-- The sheets that document 01 marks *, A to L, with all that their lines say (L by document 02, Ticket 4), as theorems about the definitions, closed by computation.
-- A text stands as quoted text, a record as document 01 writes it: its bytes in hexadecimal.
use Prim.Native.Nat.{ℕ, ◌+◌, ◌-◌, ◌*◌}
use Prim.Native.String.{String}
use mathlib.Core.List.{List, [], ◌∷◌, ◌++◌}
use mathlib.Core.Bool.{Bool, true, false}
use Rattle.std.specs.Prelude.{None, Some}
use mathlib.Core.Path.{◌≡◌, refl}
use lib.ListN.{length, replicate, drop}
use native.Mathlib.Omega.{arith}
use Rattle.formatter.specs.declared.Measures.{Measures}
use lib.Dec.{leb}
use Rattle.text.specs.Bytes.{bytes}
use Rattle.layout.specs.Meaning.{Page, Event}
use Rattle.layout.specs.Events.{deepest}
use Rattle.formatter.specs.Verdict.{Verdict, Result, verdict, no_measures, check, get, judge, accepted, format, put, max_width}
use Rattle.formatter.specs.Lookup.{lookup, told}
use Rattle.program.specs.Program.{program}
use Rattle.theorems.proofs.Run.{run}

-- The value of a hexadecimal digit: `0` to `9`, `A` to `F`.
unfoldable pub digit : ℕ → ℕ
digit b = elim (leb b 57) [ true ↦ b - 48 | false ↦ b - 55 ]

-- The bytes that pairs of digits spell, one space between.
unfoldable pub pairs : List ℕ → List ℕ
pairs [] = []
pairs (h ∷ []) = []
pairs (h ∷ l ∷ []) = (16 * digit h + digit l) ∷ []
pairs (h ∷ l ∷ space ∷ more) = (16 * digit h + digit l) ∷ pairs more

unfoldable pub hex : String → List ℕ
hex s = pairs (bytes s)

abbrev result : Verdict → List ℕ → Result
result v out = record { verdict = v; out = out }

-- Accepted with these measures; at the tab size the text is this one, in an output of its length.
abbrev pub Accepts : List ℕ → List ℕ → ℕ → ℕ → ℕ → ℕ → String → Type 0
Accepts text rec deepest letters units tab formatted =
    (check text rec ≡ verdict 0 0 (record { deepest = deepest; letters = letters; units = units }))
    × (get text rec tab (replicate (length (bytes formatted)) 0)
    ≡ result (verdict 0 0 (record { deepest = deepest; letters = letters; units = units })) (bytes formatted))

-- Declined with this verdict, by the check and at every tab size and output, which stays unchanged.
abbrev pub Declines : List ℕ → List ℕ → Verdict → Type 0
Declines text rec v = (check text rec ≡ v) × ((tab : ℕ) (out : List ℕ) → get text rec tab out ≡ result v out)

-- A: unchanged, (0, 9, 0).
abbrev pub text_a : List ℕ
text_a = bytes "val x = 1"

abbrev rec_a : List ℕ
rec_a =
    hex "05 04 03 00 05 00 01 00 05 00 01 00 05 00 01 00 05 00 01 00 05 00 01 00 05 00 01 00"
    ++ hex "02 01 00 03 03 02 01 00 03 11 00 00 02 01 00 03 00 62 00 03 02 01 00 03 01 02 00 00 03 44 01 06 00 00 02 00 00 00"

abbrev A-says : Type 0
A-says = Accepts text_a rec_a 0 9 0 2 "val x = 1"

A : A-says
unfolding run hex pairs digit
A = (refl, refl)

-- The program on A at tab 2.
abbrev A-program-says : Type 0
A-program-says = program (hex "02 00 00 00 09 00" ++ text_a ++ rec_a) ≡ bytes "0 0 0 9 0\nval x = 1"

A-program : A-program-says
unfolding run hex pairs digit
A-program = refl

-- B: (1, 11, 0), a depth that is formed and not written.
abbrev text_b : List ℕ
text_b = bytes "fun f x = 1"

abbrev rec_b : List ℕ
rec_b =
    hex "05 05 03 00 05 00 01 00 05 00 01 00 05 00 01 00 05 00 01 00 05 00 01 00 05 00 01 00 05 00 01 00 05 00 01 00"
    ++ hex "02 01 00 03 03 02 01 00 03 12 00 00 00 02 01 00 03 02 01 00 03 04 00 00 01 02 00 02 01 00 62 00 03 02 01 00 03 01 04 00 00 00 03 44 01 08 00 00 02 00 00 00"

abbrev B-says : Type 0
B-says = Accepts text_b rec_b 1 11 0 2 "fun f x = 1"

B : B-says
unfolding run hex pairs digit
B = (refl, refl)

-- C: five lines at depths 0, 1, 2, 1, 2; (2, 26, 6). Tab 2 is 38 bytes.
abbrev text_c : List ℕ
text_c = bytes "val x = if a then b else c"

abbrev rec_c : List ℕ
rec_c =
    hex "05 04 03 00 05 00 01 00 05 00 01 00 05 00 01 00 05 00 01 00 05 00 01 00 05 00 02 00 05 00 01 00 05 00 01 00 05 00 01 00 05 00 04 00 05 00 01 00 05 00 01 00 05 00 01 00 05 00 04 00 05 00 01 00 05 00 01 00"
    ++ hex "02 01 00 03 03 02 01 00 03 11 00 00 02 01 00 03 00 62 00 03 02 01 00 03 01 02 00 00 03 55 45 00 03 02 01 00 03 01 08 00 45 00 03 02 01 00 03 01 0C 00 45 00 03 02 01 00 03 01 10 00 00 02 00 00 00"

abbrev C-says : Type 0
C-says = Accepts text_c rec_c 2 26 6 2 "val x =\n  if a then\n    b\n  else\n    c"

C : C-says
unfolding run hex pairs digit
C = (refl, refl)

-- C at tab 2 into 37 bytes: 8.
abbrev C-short-says : Type 0
C-short-says =
    get text_c rec_c 2 (replicate 37 0)
    ≡ result (verdict 8 0 (record { deepest = 2; letters = 26; units = 6 })) (replicate 37 0)

C-short : C-short-says
unfolding run hex pairs digit
C-short = refl

-- Whatever is put into an output, the number is not 7.
put-not_7 : (m : Measures) (text out : List ℕ) → (put m text out).verdict.number ≡ 7 → ⊥
unfolding put
put-not_7 m text out = go (leb (length text) (length out))
  where
    go : (b : Bool) → ◌≡◌ {A = ℕ} (elim b as (λ x. Result) [ true ↦ result (verdict 0 0 m) (text ++ drop (length text) out) | false ↦ result (verdict 8 0 m) out ]).verdict.number 7 → ⊥
    go true e = omega (arith, e)
    go false e = omega (arith, e)

-- A sheet that is accepted is not 7 at a tab size at which its deepest depth fits.
not_7 : (text rec : List ℕ) {p : Page} {es : List Event} (tab : ℕ) (out : List ℕ) → judge text rec ≡ accepted p es → leb (deepest es * tab) max_width ≡ true → (get text rec tab out).verdict.number ≡ 7 → ⊥
unfolding get format
not_7 text rec tab out e f = rw (e, get, f, format) (put-not_7 _ _ out)

-- C at tab 2,147,483,647: not 7.
abbrev C-fits-says : Type 0
C-fits-says = (out : List ℕ) → (get text_c rec_c 2_147_483_647 out).verdict.number ≡ 7 → ⊥

C-fits : C-fits-says
unfolding run hex pairs digit
C-fits out = not_7 text_c rec_c 2_147_483_647 out refl refl

-- C at tab 2,147,483,648: 7.
abbrev C-wide-says : Type 0
C-wide-says =
    (out : List ℕ)
    → get text_c rec_c 2_147_483_648 out ≡ result (verdict 7 0 (record { deepest = 2; letters = 26; units = 6 })) out

C-wide : C-wide-says
unfolding run hex pairs digit
C-wide out = refl

-- D: one line, (0, 14, 0).
abbrev text_d : List ℕ
text_d = bytes "datatype t = A"

abbrev rec_d : List ℕ
rec_d =
    hex "05 08 08 00 05 00 01 00 05 00 01 00 05 00 01 00 05 00 01 00 05 00 01 00 05 00 01 00"
    ++ hex "02 01 00 03 03 02 01 00 03 14 00 00 02 01 00 03 00 01 02 00 03 02 01 00 03 01 06 00 00 00 00 02 00 00 00"

abbrev D-says : Type 0
D-says = Accepts text_d rec_d 0 14 0 2 "datatype t = A"

D : D-says
unfolding run hex pairs digit
D = (refl, refl)

-- E: the bar stands at depth 0; (1, 18, 1).
abbrev text_e : List ℕ
text_e = bytes "datatype t = A | B"

abbrev rec_e : List ℕ
rec_e =
    hex "05 08 08 00 05 00 01 00 05 00 01 00 05 00 01 00 05 00 01 00 05 00 01 00 05 00 01 00 05 00 01 00 05 00 01 00 05 00 01 00 05 00 01 00"
    ++ hex "02 01 00 03 03 02 01 00 03 14 00 00 02 01 00 03 00 01 02 00 03 02 02 00 03 01 06 00 00 03 01 0A 00 00 00 00 02 00 00 00"

abbrev E-says : Type 0
E-says = Accepts text_e rec_e 1 18 1 2 "datatype t =\n  A\n| B"

E : E-says
unfolding run hex pairs digit
E = (refl, refl)

-- F: the comment, then its line; (0, 17, 0).
abbrev text_f : List ℕ
text_f = bytes "(* c *) val x = 1"

abbrev rec_f : List ℕ
rec_f =
    hex "05 01 07 00 05 00 01 00 05 04 03 00 05 00 01 00 05 00 01 00 05 00 01 00 05 00 01 00 05 00 01 00 05 00 01 00"
    ++ hex "02 01 00 03 03 02 01 00 03 11 02 00 02 01 00 03 00 62 00 03 02 01 00 03 01 04 00 00 03 44 01 08 00 00 02 00 00 00"

abbrev F-says : Type 0
F-says = Accepts text_f rec_f 0 17 0 2 "(* c *)\nval x = 1"

F : F-says
unfolding run hex pairs digit
F = (refl, refl)

-- The comment above `val`, token 2, is token 0, across `val` itself; from the comment the search passes nothing, from `x`, token 4, it passes `val`.
abbrev F-above-says : Type 0
F-above-says =
    (lookup text_f rec_f 0 ≡ told (Some (record { comment = 0; keyword = None })))
    × (lookup text_f rec_f 2 ≡ told (Some (record { comment = 0; keyword = Some 2 })))
    × (lookup text_f rec_f 4 ≡ told (Some (record { comment = 0; keyword = Some 2 })))

F-above : F-above-says
unfolding run hex pairs digit
F-above = (refl, refl, refl)

-- G: 6, place 8; the set holds the comment, token 6.
abbrev text_g : List ℕ
text_g = bytes "val x = (* c *) 1"

abbrev rec_g : List ℕ
rec_g =
    hex "05 04 03 00 05 00 01 00 05 00 01 00 05 00 01 00 05 00 01 00 05 00 01 00 05 01 07 00 05 00 01 00 05 00 01 00"
    ++ hex "02 01 00 03 03 02 01 00 03 11 00 00 02 01 00 03 00 62 00 03 02 01 00 03 01 02 00 00 03 44 01 08 00 00 02 00 00 00"

abbrev G-says : Type 0
G-says = Declines text_g rec_g (record { number = 6; place = 8; measures = no_measures; left = 64 ∷ replicate 63 0 })

G : G-says
unfolding run hex pairs digit
G = (refl, λ tab out. refl)

-- G followed by ` val y = 2`: the comment stands above y; (0, 28, 0).
abbrev text_g_above : List ℕ
text_g_above = bytes "val x = (* c *) 1 val y = 2"

abbrev rec_g_above : List ℕ
rec_g_above =
    hex "05 04 03 00 05 00 01 00 05 00 01 00 05 00 01 00 05 00 01 00 05 00 01 00 05 01 07 00 05 00 01 00 05 00 01 00 05 00 01 00 05 04 03 00 05 00 01 00 05 00 01 00 05 00 01 00 05 00 01 00 05 00 01 00 05 00 01 00"
    ++ hex "02 02 00 03 03 02 01 00 03 11 00 00 02 01 00 03 00 62 00 03 02 01 00 03 01 02 00 00 03 44 01 08 00 00 02 00 00 00 03 03 02 01 00 03 11 0A 00 02 01 00 03 00 62 00 03 02 01 00 03 01 0C 00 00 03 44 01 10 00 00 02 00 00 00"

abbrev G-above-says : Type 0
G-above-says = Accepts text_g_above rec_g_above 0 28 0 2 "val x = 1\n\n(* c *)\nval y = 2"

G-above : G-above-says
unfolding run hex pairs digit
G-above = (refl, refl)

-- H: the comment is written twice; (0, 28, 0).
abbrev text_h : List ℕ
text_h = bytes "(* c *) val x = 1 f"

abbrev rec_h : List ℕ
rec_h =
    hex "05 01 07 00 05 00 01 00 05 04 03 00 05 00 01 00 05 00 01 00 05 00 01 00 05 00 01 00 05 00 01 00 05 00 01 00 05 00 01 00 05 00 01 00"
    ++ hex "02 02 00 03 03 02 01 00 03 11 02 00 02 01 00 03 00 62 00 03 02 01 00 03 01 04 00 00 03 44 01 08 00 00 02 00 00 00 03 03 02 01 00 03 21 0A 00 45 00 03 02 01 00 03 01 0A 00 00 02 00 00 00"

abbrev H-says : Type 0
H-says = Accepts text_h rec_h 0 28 0 2 "(* c *)\nval x = 1\n\n(* c *)\nf"

H : H-says
unfolding run hex pairs digit
H = (refl, refl)

-- I: no space after `op`; (0, 11, 0).
abbrev text_i : List ℕ
text_i = bytes "val p = op +"

abbrev rec_i : List ℕ
rec_i =
    hex "05 04 03 00 05 00 01 00 05 00 01 00 05 00 01 00 05 00 01 00 05 00 01 00 05 00 02 00 05 00 01 00 05 00 01 00"
    ++ hex "02 01 00 03 03 02 01 00 03 11 00 00 02 01 00 03 00 62 00 03 02 01 00 03 01 02 00 00 03 45 01 06 00 03 02 01 00 03 01 08 00 00 02 00 00 00"

abbrev I-says : Type 0
I-says = Accepts text_i rec_i 0 11 0 2 "val p = op+"

I : I-says
unfolding run hex pairs digit
I = (refl, refl)

-- J: the semicolon vanishes; (2, 30, 7).
abbrev text_j : List ℕ
text_j = bytes "val x = let val y = 1 in y; end"

abbrev rec_j : List ℕ
rec_j =
    hex "05 04 03 00 05 00 01 00 05 00 01 00 05 00 01 00 05 00 01 00 05 00 01 00 05 00 03 00 05 00 01 00 05 04 03 00 05 00 01 00 05 00 01 00 05 00 01 00 05 00 01 00 05 00 01 00 05 00 01 00 05 00 01 00 05 00 02 00 05 00 01 00 05 00 01 00 05 00 01 00 05 00 01 00 05 00 03 00"
    ++ hex "02 01 00 03 03 02 01 00 03 11 00 00 02 01 00 03 00 62 00 03 02 01 00 03 01 02 00 00 03 4D 02 01 00 03 03 02 01 00 03 11 08 00 02 01 00 03 00 62 00 03 02 01 00 03 01 0A 00 00 03 44 01 0E 00 00 02 00 00 00 02 01 00 03 45 00 03 02 01 00 03 01 12 00 01 13 00 00 02 00 00 00"

abbrev J-says : Type 0
J-says = Accepts text_j rec_j 2 30 7 2 "val x =\n  let\n    val y = 1\n  in\n    y\n  end"

J : J-says
unfolding run hex pairs digit
J = (refl, refl)

-- K: the tuple type drops its stopped first part; (0, 16, 0).
abbrev pub text_k : List ℕ
text_k = bytes "type t = () * int"

abbrev rec_k : List ℕ
rec_k =
    hex "05 06 04 00 05 00 01 00 05 00 01 00 05 00 01 00 05 00 01 00 05 00 01 00 05 00 01 00 05 00 01 00 05 00 01 00 05 00 01 00 05 00 01 00 05 00 03 00"
    ++ hex "02 01 00 03 03 02 01 00 03 13 00 00 01 00 00 02 01 00 03 00 01 02 00 03 76 78 00 02 01 00 03 74 00 03 02 01 00 03 01 0B 00 00 02 00 00 00"

abbrev K-says : Type 0
K-says = Accepts text_k rec_k 0 16 0 2 "type t = ( * int"

K : K-says
unfolding run hex pairs digit
K = (refl, refl)

-- L: an import alone: 14 at its command.
abbrev text_l : List ℕ
text_l = bytes "import x"

abbrev rec_l : List ℕ
rec_l =
    hex "05 00 06 00 05 00 01 00 05 00 01 00"
    ++ hex "02 01 00 03 03 02 01 00 03 23 00 00 00 02 00 00 00"

abbrev L-says : Type 0
L-says = Declines text_l rec_l (verdict 14 21 no_measures)

L : L-says
unfolding run hex pairs digit
L = (refl, λ tab out. refl)

-- The program on L at tab 2.
abbrev L-program-says : Type 0
L-program-says = program (hex "02 00 00 00 08 00" ++ text_l ++ rec_l) ≡ bytes "14 21 0 0 0\n"

L-program : L-program-says
unfolding run hex pairs digit
L-program = refl

-- L with a comment: 14 at the command, behind two tokens more, and the set is empty.
abbrev text_l_comment : List ℕ
text_l_comment = bytes "(* c *) import x"

abbrev rec_l_comment : List ℕ
rec_l_comment =
    hex "05 01 07 00 05 00 01 00 05 00 06 00 05 00 01 00 05 00 01 00"
    ++ hex "02 01 00 03 03 02 01 00 03 23 02 00 00 02 00 00 00"

abbrev L-comment-says : Type 0
L-comment-says = Declines text_l_comment rec_l_comment (verdict 14 29 no_measures)

L-comment : L-comment-says
unfolding run hex pairs digit
L-comment = (refl, λ tab out. refl)

-- L without declarations and comments: accepted, empty.
abbrev text_l_empty : List ℕ
text_l_empty = bytes ""

abbrev rec_l_empty : List ℕ
rec_l_empty = hex "02 00 00"

abbrev L-empty-says : Type 0
L-empty-says = Accepts text_l_empty rec_l_empty 0 0 0 2 ""

L-empty : L-empty-says
unfolding run hex pairs digit
L-empty = (refl, refl)

-- All of them.
sheets :
    A-says
    × A-program-says
    × B-says
    × C-says
    × C-short-says
    × C-wide-says
    × C-fits-says
    × D-says
    × E-says
    × F-says
    × F-above-says
    × G-says
    × G-above-says
    × H-says
    × I-says
    × J-says
    × K-says
    × L-says
    × L-program-says
    × L-comment-says
    × L-empty-says
sheets = (A, A-program, B, C, C-short, C-wide, C-fits, D, E, F, F-above, G, G-above, H, I, J, K, L, L-program, L-comment, L-empty)
