-- Laws of `doc_comment_above`: the doc text of the comment found, as the lookup's answer. Assumes nothing.
use Prim.Native.Nat.{ℕ}
use mathlib.Core.Path.{◌≡◌, refl, sym, ap, ◌∙◌}
use mathlib.Core.List.{List}
use Rattle.std.specs.Prelude.{Option, None, Some, Ok, Err}
use Rattle.reader.specs.Tokens.{Tokens, text_of}
use Rattle.comments.specs.Above.{Found, comment_in, found_above, comment_above}
use Rattle.comments.proofs.Search.{comment-told}
use Rattle.formatter.specs.declared.LookupError.{LookupError}
use Rattle.formatter.specs.Promises.Lookup.{Asks}
use Rattle.doc_comment.specs.declared.DocError.TheVariants.{Lookup}
use Rattle.doc_comment.specs.Doc.{Doc, doc_of, doc_lookup, doc_looked}

pub doc-declined : {text rec : List ℕ} {token : ℕ} {ts : Tokens} {out : List ℕ} {why : LookupError} → Asks text rec token ts (Err why)
    → doc_looked (Err (Lookup why)) out ≡ doc_lookup text rec token out
unfolding doc_lookup
doc-declined s = rw (doc_lookup, ← s.is) refl

module _ {text rec : List ℕ} {token : ℕ} {ts : Tokens} (s : Asks text rec token ts (Ok tt)) {a : Option Found} (f : a ≡ found_above ts.kinds token) where
  pub doc-nothing : {out : List ℕ} → a ≡ None → doc_looked (Ok None) out ≡ doc_lookup text rec token out
  unfolding doc_lookup comment_in
  doc-nothing g =
      let e : comment_above ts.kinds token ≡ None = sym (comment-told ts.kinds token a f) ∙ ap comment_in g in
      rw (doc_lookup, ← s.is, e) refl

  pub doc-found : (out : List ℕ) {x : Found} {d : Doc} → a ≡ Some x → d ≡ doc_of (text_of text ts x.comment) out → d ≡ doc_lookup text rec token out
  unfolding doc_lookup comment_in
  doc-found out {x} g h =
      let e : comment_above ts.kinds token ≡ Some x.comment = sym (comment-told ts.kinds token a f) ∙ ap comment_in g in
      rw (doc_lookup, ← s.is, e) h
