-- Document 01, module 4: `comment_above` of 001; with the keyword that it passed (document 02, Ticket 1).
use Rattle.std.specs.Prelude.{ℕ, zero, suc, ◌≤◌, ◌<◌, ◌≡◌, List, Bool, true, false, ◌&&◌, get_or, leb, Option, None, Some}
use Rattle.comments.specs.Set.{is_comment}
use Rattle.comments.specs.declared.Above.{Above}

-- Kinds 2 to 20: the keywords that a declaration starts with.
unfoldable pub is_keyword : List ℕ → ℕ → Bool
is_keyword kinds k = leb 2 (get_or kinds k 0) && leb (get_or kinds k 0) 20

-- What the search finds: the token numbers of the comment and of the keyword that it passed, or none.
abbrev pub Found : Type 0
Found = Above

module _ (kinds : List ℕ) where
  -- The search over the k tokens from k - 1 down to 0, where `saw` is the keyword that was passed.
  unfoldable pub above : Option ℕ → ℕ → Option Found
  above saw zero = None
  above saw (suc k) =
      elim (is_comment kinds k) [
        | true ↦ Some (record { comment = k; keyword = saw })
        | false ↦ elim (is_keyword kinds k) [ true ↦ elim saw [ None ↦ above (Some k) k | Some j ↦ None ] | false ↦ above saw k ]
      ]

  -- From the first token backwards. A block comment ends the search; a second keyword ends it with none, as does the start.
  unfoldable pub found_above : ℕ → Option Found
  found_above first = above None (suc first)

-- The comment alone.
unfoldable pub comment_in : Option Found → Option ℕ
comment_in None = None
comment_in (Some f) = Some f.comment

unfoldable pub comment_above : List ℕ → ℕ → Option ℕ
comment_above kinds first = comment_in (found_above kinds first)

-- What a search from the first token tells with what it found: a keyword is of kinds 2 to 20, behind the comment and not behind the first token;
-- every other token behind the comment, up to the first token, is of kind 0.
pub record Reaches (kinds : List ℕ) (first : ℕ) (f : Found) : Type 0 where
  pub keyword : (j : ℕ) → f.keyword ≡ Some j → (f.comment < j) × (j ≤ first) × (2 ≤ get_or kinds j 0) × (get_or kinds j 0 ≤ 20)
  pub others : (i : ℕ) → f.comment < i → i ≤ first → (f.keyword ≡ Some i → ⊥) → get_or kinds i 0 ≡ 0
