-- Laws of `above`: a step of the search, tokens past the last, what a search that finds a comment went over. Assumes nothing.
use Prim.Native.Nat.{ℕ, zero, suc, ◌+◌, ◌-◌, ◌≤◌, ◌<◌, min}
use native.Mathlib.Nat.{add-zero, add-suc, lt_of_not-le, eq-or-lt_of_le}
use native.Mathlib.Omega.{arith}
use mathlib.Core.Path.{◌≡◌, refl, sym, ap, ◌∙◌}
use mathlib.Core.Bool.{Bool, true, false, and-true, false≢true}
use mathlib.Core.Logic.{◌⊎◌, inl, inr, ⊎_elim}
use mathlib.Core.List.{List}
use Rattle.std.proofs.lemmas.Option.{none-some, same_Some}
use Rattle.std.proofs.lemmas.Bool.{cases_lt}
use Rattle.std.specs.Prelude.{Option, None, Some, is_some}
use lib.Dec.{leb}
use lib.ListN.{length, get_or, get_or-eq_default}
use borrow.Author.Tests.{leb-true, leb-false, le-leb, eqb-false}
use Rattle.reader.proofs.CommandLaws.{and_left, and_right}
use Rattle.comments.specs.Set.{is_comment}
use Rattle.comments.proofs.Words.{whether}
use Rattle.comments.specs.Above.{is_keyword, Found, above, found_above, comment_in, comment_above, Reaches}

module _ (kinds : List ℕ) where
  -- A token past the last is neither a comment nor a keyword.
  pub no-comment : (k : ℕ) → length kinds ≤ k → is_comment kinds k ≡ false
  unfolding is_comment
  no-comment k h = rw (get_or-eq_default kinds 0 h)

  pub no-keyword : (k : ℕ) → length kinds ≤ k → is_keyword kinds k ≡ false
  unfolding is_keyword
  no-keyword k h = rw (get_or-eq_default kinds 0 h)

  module _ (n k : ℕ) (next : n ≡ suc k) (saw : Option ℕ) where
    pub at-comment : is_comment kinds k ≡ true → above kinds saw n ≡ Some (record { comment = k; keyword = saw })
    unfolding above
    at-comment c = rw (next, above, c)

    pub at_first : is_comment kinds k ≡ false → is_keyword kinds k ≡ true → is_some saw ≡ false → above kinds saw n ≡ above kinds (Some k) k
    unfolding above
    at_first c w t = rw (next, above, c, w) (first saw t)
      where
        first : (s : Option ℕ) → is_some s ≡ false → ◌≡◌ {A = Option Found} (elim s as (λ x. Option Found) [ None ↦ above kinds (Some k) k | Some j ↦ None ]) (above kinds (Some k) k)
        first None t = refl
        first (Some j) t = absurd (false≢true (sym t))

    pub at_second : is_comment kinds k ≡ false → is_keyword kinds k ≡ true → is_some saw ≡ true → above kinds saw n ≡ None
    unfolding above
    at_second c w t = rw (next, above, c, w) (second saw t)
      where
        second : (s : Option ℕ) → is_some s ≡ true → ◌≡◌ {A = Option Found} (elim s as (λ x. Option Found) [ None ↦ above kinds (Some k) k | Some j ↦ None ]) None
        second None t = absurd (false≢true t)
        second (Some j) t = refl

    pub at_other : is_comment kinds k ≡ false → is_keyword kinds k ≡ false → above kinds saw n ≡ above kinds saw k
    unfolding above
    at_other c w = ap (λ (i : ℕ). above kinds saw i) next ∙ rw (above, c, w)

  pub at-start : (n : ℕ) (saw : Option ℕ) → n ≤ 0 → above kinds saw n ≡ None
  unfolding above
  at-start n saw h = let e : n ≡ 0 = omega arith in rw e

  past : (saw : Option ℕ) (d : ℕ) → above kinds saw (length kinds + d) ≡ above kinds saw (length kinds)
  past saw zero = ap (λ (i : ℕ). above kinds saw i) (add-zero (length kinds))
  past saw (suc d) =
      at_other (length kinds + suc d) (length kinds + d) (add-suc (length kinds) d) saw (no-comment (length kinds + d) (omega arith)) (no-keyword (length kinds + d) (omega arith))
      ∙ past saw d

  -- From a token past the last the search is that from the last.
  pub from_last : (saw : Option ℕ) (n : ℕ) → length kinds ≤ n → above kinds saw n ≡ above kinds saw (length kinds)
  from_last saw n h = let e : n ≡ length kinds + (n - length kinds) = omega arith in ap (λ (i : ℕ). above kinds saw i) e ∙ past saw (n - length kinds)

  -- The tokens up to token k.
  pub up_to : (k n : ℕ) → n ≡ min (length kinds) (suc k) → above kinds None (suc k) ≡ above kinds None n
  up_to k n e =
      ⊎_elim (λ l. ap (λ (i : ℕ). above kinds None i) (omega (arith, l)))
      (λ l. from_last None (suc k) (omega (arith, l)) ∙ ap (λ (i : ℕ). above kinds None i) (omega (arith, l))) (cases_lt k (length kinds))

  -- A block comment is one of the tokens.
  pub comment-below : (k : ℕ) → is_comment kinds k ≡ true → k < length kinds
  comment-below k c = lt_of_not-le (λ h. false≢true (sym (no-comment k h) ∙ c))

  -- What a search over n tokens went over where it finds a comment: a keyword that was passed before is the one that is told; another is among
  -- the tokens; those behind the comment that are not told are neither comments nor keywords.
  pub record Over (n : ℕ) (saw : Option ℕ) (f : Found) : Type 0 where
    pub below : f.comment < n
    pub comment : is_comment kinds f.comment ≡ true
    pub kept : (j : ℕ) → saw ≡ Some j → f.keyword ≡ Some j
    pub keyword : (j : ℕ) → f.keyword ≡ Some j → (saw ≡ Some j) ⊎ ((f.comment < j) × (j < n) × (is_keyword kinds j ≡ true))
    pub others : (i : ℕ) → f.comment < i → i < n → (f.keyword ≡ Some i → ⊥) → (is_comment kinds i ≡ false) × (is_keyword kinds i ≡ false)

  over-comment : (n : ℕ) (saw : Option ℕ) → is_comment kinds n ≡ true → Over (suc n) saw (record { comment = n; keyword = saw })
  over-comment n saw c =
      record { below = omega arith; comment = c; kept = λ j e. e; keyword = λ j e. inl e; others = λ i g h u. absurd (omega arith) }

  -- The token before those of a search, which it went over: told as the keyword, or neither comment nor keyword.
  module _ (n : ℕ) (f : Found) where
    behind : {saw : Option ℕ} (o : Over n saw f) (i : ℕ) → f.comment < i → i < suc n → (f.keyword ≡ Some i → ⊥) → ((f.keyword ≡ Some n → ⊥) → (is_comment kinds n ≡ false) × (is_keyword kinds n ≡ false)) → (is_comment kinds i ≡ false) × (is_keyword kinds i ≡ false)
    behind o i g h u last =
        let within : i ≤ n = omega arith in
        ⊎_elim (λ e. rw e (last (λ v. u (v ∙ ap Some (sym e))))) (λ l. o.others i g l u) (eq-or-lt_of_le within)

    over_first : Over n (Some n) f → is_keyword kinds n ≡ true → Over (suc n) None f
    over_first o w =
        record {
          below = omega (arith, o.below);
          comment = o.comment;
          kept = λ j e. absurd (none-some j e);
          keyword = λ j e. inr (⊎_elim
              (λ s. let q : n ≡ j = same_Some n j s in (omega (arith, o.below, q), omega (arith, q), ap (is_keyword kinds) (sym q) ∙ w))
              (λ p. (p.0, omega (arith, p.1), p.2)) (o.keyword j e));
          others = λ i g h u. behind o i g h u (λ v. absurd (v (o.kept n refl)));
        }

    over-other : {saw : Option ℕ} → Over n saw f → is_comment kinds n ≡ false → is_keyword kinds n ≡ false → Over (suc n) saw f
    over-other o c w =
        record {
          below = omega (arith, o.below);
          comment = o.comment;
          kept = o.kept;
          keyword = λ j e. ⊎_elim (λ s. inl s) (λ p. inr (p.0, omega (arith, p.1), p.2)) (o.keyword j e);
          others = λ i g h u. behind o i g h u (λ v. (c, w));
        }

  over-keyword : (n : ℕ) (saw : Option ℕ) (f : Found) → is_comment kinds n ≡ false → is_keyword kinds n ≡ true → (above kinds (Some n) n ≡ Some f → Over n (Some n) f) → above kinds saw (suc n) ≡ Some f → Over (suc n) saw f
  over-keyword n None f c w ih h = over_first n f (ih (sym (at_first (suc n) n refl None c w refl) ∙ h)) w
  over-keyword n (Some j) f c w ih h = absurd (none-some f (sym (at_second (suc n) n refl (Some j) c w refl) ∙ h))

  pub above-over : (n : ℕ) (saw : Option ℕ) (f : Found) → above kinds saw n ≡ Some f → Over n saw f
  above-over zero saw f h = absurd (none-some f (sym (at-start zero saw (omega arith)) ∙ h))
  above-over (suc n) saw f h =
      ⊎_elim
      (λ c. let e = same_Some (record { comment = n; keyword = saw }) f (sym (at-comment (suc n) n refl saw c) ∙ h) in rw (sym e) (over-comment n saw c))
      (λ c.
      ⊎_elim (λ w. over-keyword n saw f c w (above-over n (Some n) f) h)
      (λ w. over-other n f (above-over n saw f (sym (at_other (suc n) n refl saw c w) ∙ h)) c w)
      (whether (is_keyword kinds n)))
      (whether (is_comment kinds n))

  in_some : (o : Option Found) (k : ℕ) → comment_in o ≡ Some k → (f : Found) × (o ≡ Some f) × (f.comment ≡ k)
  unfolding comment_in
  in_some None k e = absurd (none-some k e)
  in_some (Some f) k e = (f, refl, same_Some f.comment k e)

  -- What the search finds is a block comment among the tokens that it goes over.
  pub comment-above-is : (first k : ℕ) → comment_above kinds first ≡ Some k → (k ≤ first) × (k < length kinds) × (is_comment kinds k ≡ true)
  unfolding comment_above found_above
  comment-above-is first k h =
      let p = in_some (above kinds None (suc first)) k h in
      let o = above-over (suc first) None p.0 p.1 in
      let c : is_comment kinds k ≡ true = ap (is_comment kinds) (sym p.2) ∙ o.comment in
      (omega (arith, o.below, p.2), comment-below k c, c)

  -- An answer with the search's comment and keyword has its comment.
  pub comment-told : (first : ℕ) (a : Option Found) → a ≡ found_above kinds first → comment_in a ≡ comment_above kinds first
  unfolding comment_above
  comment-told first a e = ap comment_in e

  -- ---- what a keyword that is told says
  keyword-kind : (j : ℕ) → is_keyword kinds j ≡ true → (2 ≤ get_or kinds j 0) × (get_or kinds j 0 ≤ 20)
  unfolding is_keyword
  keyword-kind j e =
      (leb-true 2 (get_or kinds j 0) (and_left _ (leb (get_or kinds j 0) 20) e), leb-true (get_or kinds j 0) 20 (and_right (leb 2 (get_or kinds j 0)) _ e))

  other-kind : (i : ℕ) → get_or kinds i 0 ≤ 20 → is_comment kinds i ≡ false → is_keyword kinds i ≡ false → get_or kinds i 0 ≡ 0
  unfolding is_comment is_keyword
  other-kind i h c w =
      let small : get_or kinds i 0 < 2 = leb-false 2 (get_or kinds i 0) (sym (and-true (leb 2 (get_or kinds i 0))) ∙ (rw (le-leb (get_or kinds i 0) 20 h) at w)) in
      omega (arith, small, eqb-false (get_or kinds i 0) 1 c)

  -- Where kinds are at most 20, as those of every sheet are.
  pub found-reaches : (first : ℕ) (f : Found) → ((k : ℕ) → get_or kinds k 0 ≤ 20) → found_above kinds first ≡ Some f → Reaches kinds first f
  unfolding found_above
  found-reaches first f known h =
      let o = above-over (suc first) None f h in
      record {
        keyword = λ j e. ⊎_elim (λ s. absurd (none-some j s))
            (λ p. let q = keyword-kind j p.2 in (p.0, omega (arith, p.1), q.0, q.1)) (o.keyword j e);
        others = λ i g l u. let p = o.others i g (omega arith) u in other-kind i (known i) p.0 p.1;
      }

  -- ---- the comment alone
  -- The search as 001 has it: it keeps whether a keyword was passed, and finds a comment.
  unfoldable pub search : Bool → ℕ → Option ℕ
  search saw zero = None
  search saw (suc k) =
      elim (is_comment kinds k) [
        | true ↦ Some k
        | false ↦ elim (is_keyword kinds k) [ true ↦ elim saw [ true ↦ None | false ↦ search true k ] | false ↦ search saw k ]
      ]

  module _ (k : ℕ) (ih : (saw : Option ℕ) → comment_in (above kinds saw k) ≡ search (is_some saw) k) where
    step : (c w : Bool) (saw : Option ℕ) → is_comment kinds k ≡ c → is_keyword kinds k ≡ w → comment_in (above kinds saw (suc k)) ≡ search (is_some saw) (suc k)
    unfolding above search comment_in
    step true w saw e f = rw (e, above, search)
    step false true None e f = rw (e, f, above, search) (ih (Some k))
    step false true (Some j) e f = rw (e, f, above, search)
    step false false saw e f = rw (e, f, above, search) (ih saw)

  pub comment-part : (saw : Option ℕ) (n : ℕ) → comment_in (above kinds saw n) ≡ search (is_some saw) n
  unfolding above search comment_in
  comment-part saw zero = refl
  comment-part saw (suc k) = step k (λ s. comment-part s k) (is_comment kinds k) (is_keyword kinds k) saw refl refl

  -- The comment that is found with the keyword is the one that the search of 001 finds.
  pub comment-above-searched : (first : ℕ) → comment_above kinds first ≡ search false (suc first)
  unfolding comment_above found_above
  comment-above-searched first = comment-part None (suc first)
