-- Document 01, module 2: the comment set, one bit a token, as 64 words of 64 bits.
use Rattle.std.specs.Prelude.{ℕ, zero, suc, ◌+◌, ◌-◌, ◌*◌, ◌/◌, ◌%◌, ◌^◌, List, [], ◌∷◌, Bool, true, false, cond, not, ◌&&◌, get_or, eqb, Option, None, Some}

-- Kind 1: a block comment.
abbrev pub block_comment : ℕ
block_comment = 1

-- Whether the token is a block comment. The set starts with all of them.
unfoldable pub is_comment : List ℕ → ℕ → Bool
is_comment kinds k = eqb (get_or kinds k 0) block_comment

-- Bit b of a word.
unfoldable pub bit : ℕ → ℕ → Bool
bit word b = eqb (word / 2 ^ b % 2) 1

-- A word without its bit b.
unfoldable pub clear : ℕ → ℕ → ℕ
clear word b = cond (bit word b) (word - 2 ^ b) word

-- Whether a token is in the set of these words: bit b of word w is token 64 × w + b.
unfoldable pub holds : List ℕ → ℕ → Bool
holds words k = bit (get_or words (k / 64) 0) (k % 64)

-- n bits, the lowest first, of which bit b says whether token k + b is in the set.
unfoldable pub bits : (ℕ → Bool) → ℕ → ℕ → ℕ
bits member k zero = 0
bits member k (suc n) = elim (member k) [ true ↦ 1 + 2 * bits member (k + 1) n | false ↦ 2 * bits member (k + 1) n ]

-- n words of the set, the first with token k as its bit 0.
unfoldable pub words_from : (ℕ → Bool) → ℕ → ℕ → List ℕ
words_from member k zero = []
words_from member k (suc n) = bits member k 64 ∷ words_from member (k + 64) n

-- The words of a set of tokens.
unfoldable pub words_of : (ℕ → Bool) → List ℕ
words_of member = words_from member 0 64

-- How many tokens the words have room for.
abbrev pub room : ℕ
room = 4096

-- The set without one token.
unfoldable pub without : (ℕ → Bool) → ℕ → ℕ → Bool
without member k j = member j && not (eqb j k)

-- How many of the n tokens from k on are in the set.
unfoldable pub count : (ℕ → Bool) → ℕ → ℕ → ℕ
count member k zero = 0
count member k (suc n) = elim (member k) [ true ↦ 1 + count member (k + 1) n | false ↦ count member (k + 1) n ]

-- The first of the n tokens from k on that is in the set.
unfoldable pub first : (ℕ → Bool) → ℕ → ℕ → Option ℕ
first member k zero = None
first member k (suc n) = elim (member k) [ true ↦ Some k | false ↦ first member (k + 1) n ]
