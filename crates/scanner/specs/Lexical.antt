-- The Definition of Standard ML, 2.1 to 2.5 and 3.1: the tokens, the longest one that a text begins with, and the kind of each.
use Rattle.std.specs.Prelude.{ℕ, zero, suc, List, [], ◌∷◌, ◌++◌, Bool, true, false, ◌&&◌, ◌||◌, eqb, length, take}
use Prim.Native.String.{String}
use Rattle.text.specs.Bytes.{bytes, same_bytes, is_space, is_letter, is_digit}
use Rattle.scanner.specs.Parts.{every, one_or_more, behind, is_one_of, is_among}
use Rattle.scanner.specs.Constants.{is_integer, is_word, is_real}
use Rattle.scanner.specs.Strings.{is_string, is_character}

-- 2.1: reserved words of the Core.
unfoldable pub reserved_core : List String
reserved_core =
    "abstype" ∷ "and" ∷ "andalso" ∷ "as" ∷ "case" ∷ "do" ∷ "datatype" ∷ "else" ∷ "end" ∷ "exception" ∷ "fn" ∷ "fun" ∷ "handle" ∷ "if"
    ∷ "in" ∷ "infix" ∷ "infixr" ∷ "let" ∷ "local" ∷ "nonfix" ∷ "of" ∷ "op" ∷ "open" ∷ "orelse" ∷ "raise" ∷ "rec" ∷ "then" ∷ "type"
    ∷ "val" ∷ "with" ∷ "withtype" ∷ "while" ∷ "(" ∷ ")" ∷ "[" ∷ "]" ∷ "{" ∷ "}" ∷ "," ∷ ":" ∷ ";" ∷ "..." ∷ "_" ∷ "|" ∷ "=" ∷ "=>"
    ∷ "->" ∷ "#" ∷ []

-- 3.1: reserved words of Modules.
unfoldable pub reserved_modules : List String
reserved_modules =
    "eqtype" ∷ "functor" ∷ "include" ∷ "sharing" ∷ "sig" ∷ "signature" ∷ "struct" ∷ "structure" ∷ "where" ∷ ":>" ∷ []

unfoldable pub is_reserved : List ℕ → Bool
is_reserved t = is_among (reserved_core ++ reserved_modules) t

-- 2.4: a letter, a digit, a prime or an underbar.
unfoldable pub is_alphanumeric_byte : ℕ → Bool
is_alphanumeric_byte b = is_letter b || is_digit b || is_one_of (bytes "'_") b

-- An alphanumeric identifier or type variable starts with a letter or a prime.
unfoldable pub is_alphanumeric : List ℕ → Bool
is_alphanumeric [] = false
is_alphanumeric (b ∷ t) = elim (is_letter b || eqb b 39) [ true ↦ every is_alphanumeric_byte t | false ↦ false ]

-- 2.4: the bytes of symbolic identifiers.
unfoldable pub is_symbol : ℕ → Bool
is_symbol b = is_one_of (bytes "!%&$#+-/:<=>?@\\~`^|*") b

unfoldable pub is_symbolic : List ℕ → Bool
is_symbolic t = one_or_more is_symbol t

-- 2.3: what stands behind `(*`s of which this many are open. `(*` and `*)` are taken from left to right, two bytes each; the last `*)` ends it.
unfoldable pub closes : List ℕ → ℕ → Bool
closes [] zero = true
closes [] (suc depth) = false
closes (b ∷ t) zero = false
closes (b ∷ []) (suc depth) = false
closes (b ∷ c ∷ t) (suc depth) =
    elim (eqb b 40 && eqb c 42) [
      | true ↦ closes t (suc (suc depth))
      | false ↦ elim (eqb b 42 && eqb c 41) [ true ↦ closes t depth | false ↦ closes (c ∷ t) (suc depth) ]
    ]

unfoldable pub is_comment : List ℕ → Bool
is_comment t = behind (bytes "(*") (λ r. closes r 1) t

-- 2.5: a run of formatting characters, bytes 9 to 13 and 32.
unfoldable pub is_white_space : List ℕ → Bool
is_white_space t = one_or_more is_space t

-- 2.4: the dot of a long identifier is a token of its own.
unfoldable pub is_dot : List ℕ → Bool
is_dot t = same_bytes t (bytes ".")

-- The whole text of a token.
unfoldable pub is_token : List ℕ → Bool
is_token t =
    is_reserved t
    || is_integer t
    || is_word t
    || is_real t
    || is_string t
    || is_character t
    || is_alphanumeric t
    || is_symbolic t
    || is_comment t
    || is_white_space t
    || is_dot t

unfoldable pub opens_comment : List ℕ → Bool
opens_comment t = behind (bytes "(*") (λ r. true) t

-- The first n bytes of what is left are a token there. Where it starts with `(*`, only a comment is one.
unfoldable pub token_of : List ℕ → ℕ → Bool
token_of rest n = elim (opens_comment rest) [ true ↦ is_comment (take n rest) | false ↦ is_token (take n rest) ]

-- The greatest of n to 1 that is the length of a token there, else 0.
unfoldable pub longest_up_to : List ℕ → ℕ → ℕ
longest_up_to rest zero = 0
longest_up_to rest (suc n) = elim (token_of rest (suc n)) [ true ↦ suc n | false ↦ longest_up_to rest n ]

-- 2.5: each token is the longest there; 0 where nothing begins a token.
unfoldable pub longest : List ℕ → ℕ
longest rest = longest_up_to rest (length rest)

-- The words with a kind of their own, in 001's order, from 2 on.
unfoldable pub keywords : List String
keywords =
    "..." ∷ "and" ∷ "val" ∷ "fun" ∷ "type" ∷ "eqtype" ∷ "datatype" ∷ "abstype" ∷ "exception" ∷ "open" ∷ "infix" ∷ "infixr" ∷ "nonfix"
    ∷ "do" ∷ "local" ∷ "structure" ∷ "signature" ∷ "functor" ∷ "include" ∷ []

-- The number of the first of these words that the text is, counted from k on; 0 where it is none.
unfoldable pub numbered : ℕ → List String → List ℕ → ℕ
numbered k [] t = 0
numbered k (w ∷ ws) t = elim (same_bytes t (bytes w)) [ true ↦ k | false ↦ numbered (suc k) ws t ]

-- The kind of a token, by its text. A token that starts with `(*` is a comment.
unfoldable pub kind_of : List ℕ → ℕ
kind_of t = elim (opens_comment t) [ true ↦ 1 | false ↦ numbered 2 keywords t ]
