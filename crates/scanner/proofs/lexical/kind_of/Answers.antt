-- `kind_of` meets its contract, by the first byte. Assumes nothing.
use native.Mathlib.Omega.{arith}
use Prim.Native.Nat.{ℕ}
use mathlib.Core.Path.{refl, sym, ap, ◌∙◌}
use mathlib.Core.List.{◌∷◌}
use lib.ListN.{get_or, drop}
use borrow.Author.Tests.{ne_eqb}
use Rattle.text.specs.Bytes.{bytes, same_bytes}
use Rattle.scanner.specs.Parts.{behind, is_one_of}
use Rattle.scanner.specs.Lexical.{opens_comment, keywords, numbered, kind_of}
use Rattle.scanner.specs.Promises.Reach.{kind_if}
use Rattle.scanner.proofs.KindLaws.{kind_short, begins, by_first, kind_comment, kind-bracket, kind_none}
use Rattle.scanner.proofs.lexical.kind_of.Goals as goal

pub returns-then-token-lt2 : goal.returns-then-token-lt2
returns-then-token-lt2 c = sym (kind_short c.args.token.now c.if-token-lt2.true)

pub returns-then-stands : goal.returns-then-stands
returns-then-stands c = let a = c.args in sym (kind_comment a.token.now ((begins a.token.now c.if-token-lt2.false) ∙ ap (λ (x : ℕ). x ∷ drop 1 a.token.now) c.in-40.is) (sym c.stands.ensures ∙ c.if-stands.true))

pub returns-else-stands : goal.returns-else-stands
returns-else-stands c = let a = c.args in sym (kind-bracket a.token.now ((begins a.token.now c.if-token-lt2.false) ∙ ap (λ (x : ℕ). x ∷ drop 1 a.token.now) c.in-40.is) (sym c.stands.ensures ∙ c.if-stands.false))

pub returns-in-46 : goal.returns-in-46
unfolding kind_of opens_comment behind bytes keywords numbered same_bytes kind_if
returns-in-46 c = let a = c.args in c.kind_if.ensures ∙ by_first a.token.now 46 (λ t. (kind_if t (bytes "...") 2 0)) ((begins a.token.now c.if-token-lt2.false) ∙ ap (λ (x : ℕ). x ∷ drop 1 a.token.now) c.in-46.is) (λ t. refl)

pub returns-in-97 : goal.returns-in-97
unfolding kind_of opens_comment behind bytes keywords numbered same_bytes kind_if
returns-in-97 c = let a = c.args in c.kind_if-in-97-2.ensures ∙ ap (λ (x : ℕ). (kind_if a.token.now (bytes "and") 3 x)) c.kind_if-in-97.ensures ∙ by_first a.token.now 97 (λ t. (kind_if t (bytes "and") 3 (kind_if t (bytes "abstype") 9 0))) ((begins a.token.now c.if-token-lt2.false) ∙ ap (λ (x : ℕ). x ∷ drop 1 a.token.now) c.in-97.is) (λ t. refl)

pub returns-in-100 : goal.returns-in-100
unfolding kind_of opens_comment behind bytes keywords numbered same_bytes kind_if
returns-in-100 c = let a = c.args in c.kind_if-in-100-2.ensures ∙ ap (λ (x : ℕ). (kind_if a.token.now (bytes "datatype") 8 x)) c.kind_if-in-100.ensures ∙ by_first a.token.now 100 (λ t. (kind_if t (bytes "datatype") 8 (kind_if t (bytes "do") 15 0))) ((begins a.token.now c.if-token-lt2.false) ∙ ap (λ (x : ℕ). x ∷ drop 1 a.token.now) c.in-100.is) (λ t. refl)

pub returns-in-101 : goal.returns-in-101
unfolding kind_of opens_comment behind bytes keywords numbered same_bytes kind_if
returns-in-101 c = let a = c.args in c.kind_if-in-101-2.ensures ∙ ap (λ (x : ℕ). (kind_if a.token.now (bytes "eqtype") 7 x)) c.kind_if-in-101.ensures ∙ by_first a.token.now 101 (λ t. (kind_if t (bytes "eqtype") 7 (kind_if t (bytes "exception") 10 0))) ((begins a.token.now c.if-token-lt2.false) ∙ ap (λ (x : ℕ). x ∷ drop 1 a.token.now) c.in-101.is) (λ t. refl)

pub returns-in-102 : goal.returns-in-102
unfolding kind_of opens_comment behind bytes keywords numbered same_bytes kind_if
returns-in-102 c = let a = c.args in c.kind_if-in-102-2.ensures ∙ ap (λ (x : ℕ). (kind_if a.token.now (bytes "fun") 5 x)) c.kind_if-in-102.ensures ∙ by_first a.token.now 102 (λ t. (kind_if t (bytes "fun") 5 (kind_if t (bytes "functor") 19 0))) ((begins a.token.now c.if-token-lt2.false) ∙ ap (λ (x : ℕ). x ∷ drop 1 a.token.now) c.in-102.is) (λ t. refl)

pub returns-in-105 : goal.returns-in-105
unfolding kind_of opens_comment behind bytes keywords numbered same_bytes kind_if
returns-in-105 c = let a = c.args in c.kind_if-in-105-3.ensures ∙ ap (λ (x : ℕ). (kind_if a.token.now (bytes "infix") 12 x)) c.kind_if-in-105-2.ensures ∙ ap (λ (x : ℕ). (kind_if a.token.now (bytes "infix") 12 (kind_if a.token.now (bytes "infixr") 13 x))) c.kind_if-in-105.ensures ∙ by_first a.token.now 105 (λ t. (kind_if t (bytes "infix") 12 (kind_if t (bytes "infixr") 13 (kind_if t (bytes "include") 20 0)))) ((begins a.token.now c.if-token-lt2.false) ∙ ap (λ (x : ℕ). x ∷ drop 1 a.token.now) c.in-105.is) (λ t. refl)

pub returns-in-108 : goal.returns-in-108
unfolding kind_of opens_comment behind bytes keywords numbered same_bytes kind_if
returns-in-108 c = let a = c.args in c.kind_if-in-108.ensures ∙ by_first a.token.now 108 (λ t. (kind_if t (bytes "local") 16 0)) ((begins a.token.now c.if-token-lt2.false) ∙ ap (λ (x : ℕ). x ∷ drop 1 a.token.now) c.in-108.is) (λ t. refl)

pub returns-in-110 : goal.returns-in-110
unfolding kind_of opens_comment behind bytes keywords numbered same_bytes kind_if
returns-in-110 c = let a = c.args in c.kind_if-in-110.ensures ∙ by_first a.token.now 110 (λ t. (kind_if t (bytes "nonfix") 14 0)) ((begins a.token.now c.if-token-lt2.false) ∙ ap (λ (x : ℕ). x ∷ drop 1 a.token.now) c.in-110.is) (λ t. refl)

pub returns-in-111 : goal.returns-in-111
unfolding kind_of opens_comment behind bytes keywords numbered same_bytes kind_if
returns-in-111 c = let a = c.args in c.kind_if-in-111.ensures ∙ by_first a.token.now 111 (λ t. (kind_if t (bytes "open") 11 0)) ((begins a.token.now c.if-token-lt2.false) ∙ ap (λ (x : ℕ). x ∷ drop 1 a.token.now) c.in-111.is) (λ t. refl)

pub returns-in-115 : goal.returns-in-115
unfolding kind_of opens_comment behind bytes keywords numbered same_bytes kind_if
returns-in-115 c = let a = c.args in c.kind_if-in-115-2.ensures ∙ ap (λ (x : ℕ). (kind_if a.token.now (bytes "structure") 17 x)) c.kind_if-in-115.ensures ∙ by_first a.token.now 115 (λ t. (kind_if t (bytes "structure") 17 (kind_if t (bytes "signature") 18 0))) ((begins a.token.now c.if-token-lt2.false) ∙ ap (λ (x : ℕ). x ∷ drop 1 a.token.now) c.in-115.is) (λ t. refl)

pub returns-in-116 : goal.returns-in-116
unfolding kind_of opens_comment behind bytes keywords numbered same_bytes kind_if
returns-in-116 c = let a = c.args in c.kind_if-in-116.ensures ∙ by_first a.token.now 116 (λ t. (kind_if t (bytes "type") 6 0)) ((begins a.token.now c.if-token-lt2.false) ∙ ap (λ (x : ℕ). x ∷ drop 1 a.token.now) c.in-116.is) (λ t. refl)

pub returns-in-118 : goal.returns-in-118
unfolding kind_of opens_comment behind bytes keywords numbered same_bytes kind_if
returns-in-118 c = let a = c.args in c.kind_if-in-118.ensures ∙ by_first a.token.now 118 (λ t. (kind_if t (bytes "val") 4 0)) ((begins a.token.now c.if-token-lt2.false) ∙ ap (λ (x : ℕ). x ∷ drop 1 a.token.now) c.in-118.is) (λ t. refl)

pub returns-in_default : goal.returns-in_default
unfolding is_one_of
returns-in_default c = let a = c.args in let b = get_or a.token.now 0 0 in sym (kind_none a.token.now b (begins a.token.now c.if-token-lt2.false) (ne_eqb b 40 (λ e. omega arith)) (rw (ne_eqb b 46 (λ e. omega arith), ne_eqb b 97 (λ e. omega arith), ne_eqb b 100 (λ e. omega arith), ne_eqb b 101 (λ e. omega arith), ne_eqb b 102 (λ e. omega arith), ne_eqb b 105 (λ e. omega arith), ne_eqb b 108 (λ e. omega arith), ne_eqb b 110 (λ e. omega arith), ne_eqb b 111 (λ e. omega arith), ne_eqb b 115 (λ e. omega arith), ne_eqb b 116 (λ e. omega arith), ne_eqb b 118 (λ e. omega arith))))
