-- What is read off the events of a walk: deepest, units, letters, the formatted text at a tab size, the comments left.
use Rattle.std.specs.Prelude.{ℕ, ◌+◌, ◌*◌, max, Bool, false, not, ◌&&◌, ◌||◌, List, [], ◌∷◌, ◌++◌, length, replicate, ◌==◌}
use Rattle.text.specs.Bytes.{bytes, trim}
use Rattle.comments.specs.Set.{is_comment}
use Rattle.layout.specs.Meaning.{Event, Word, Token, Comment, Formed, Indent, Page, token_text}

-- The sum of a number for each event.
unfoldable pub sum_of : (Event → ℕ) → List Event → ℕ
sum_of f [] = 0
sum_of f (e ∷ es) = f e + sum_of f es

-- The depth that an event forms.
unfoldable pub formed_depth : Event → ℕ
formed_depth (Word w) = 0
formed_depth (Token k) = 0
formed_depth (Comment k) = 0
formed_depth (Formed depth) = depth
formed_depth (Indent depth) = 0

-- *Deepest* (document 01): the largest depth that `indented` forms, written or not, 0 where it forms none.
unfoldable pub deepest : List Event → ℕ
deepest [] = 0
deepest (e ∷ es) = max (formed_depth e) (deepest es)

-- The depth of an indent written.
unfoldable pub indent_depth : Event → ℕ
indent_depth (Word w) = 0
indent_depth (Token k) = 0
indent_depth (Comment k) = 0
indent_depth (Formed depth) = 0
indent_depth (Indent depth) = depth

-- *Units* (document 01): the sum of the depths of all indents written.
unfoldable pub units : List Event → ℕ
units es = sum_of indent_depth es

-- How many bytes an event writes, an indent aside, by the lengths of a token and of a trimmed comment.
unfoldable pub letters_of : (ℕ → ℕ) → (ℕ → ℕ) → Event → ℕ
letters_of token comment (Word w) = length (bytes w)
letters_of token comment (Token k) = token k
letters_of token comment (Comment k) = comment k
letters_of token comment (Formed depth) = 0
letters_of token comment (Indent depth) = 0

-- The trimmed text of a comment.
unfoldable pub trimmed : Page → ℕ → List ℕ
trimmed p k = trim (token_text p k)

-- *Letters* (document 01): the count of all bytes written other than those of indents.
unfoldable pub letters : Page → List Event → ℕ
letters p es = sum_of (letters_of (λ k. length (token_text p k)) (λ k. length (trimmed p k))) es

-- The bytes that an event writes at a tab size. An indent is depth × tab size spaces.
unfoldable pub spelt : Page → ℕ → Event → List ℕ
spelt p tab (Word w) = bytes w
spelt p tab (Token k) = token_text p k
spelt p tab (Comment k) = trimmed p k
spelt p tab (Formed depth) = []
spelt p tab (Indent depth) = replicate (depth * tab) 32

-- The *formatted text* (document 01) at a tab size: all bytes written, in order.
unfoldable pub formatted : Page → ℕ → List Event → List ℕ
formatted p tab [] = []
formatted p tab (e ∷ es) = spelt p tab e ++ formatted p tab es

-- Whether an event writes this comment.
unfoldable pub writes_comment : ℕ → Event → Bool
writes_comment k (Word w) = false
writes_comment k (Token j) = false
writes_comment k (Comment j) = j == k
writes_comment k (Formed depth) = false
writes_comment k (Indent depth) = false

unfoldable pub written : List Event → ℕ → Bool
written [] k = false
written (e ∷ es) k = writes_comment k e || written es k

-- The comments left: all block comments but those written above a declaration.
unfoldable pub is_left : List ℕ → List Event → ℕ → Bool
is_left kinds es k = is_comment kinds k && not (written es k)
