-- What the helpers of more than one family pay.
use native.Mathlib.Omega.{arith}
use mathlib.Core.Path.{◌≡◌, refl}
use mathlib.Core.Bool.{true}
use Prim.Native.Nat.{ℕ, ◌+◌, ◌-◌, ◌≤◌}
use Prim.Native.String.{String}
use lib.Dec.{leb}
use borrow.Author.Tests.{leb-true}
use Rattle.text.specs.Bytes.{bytes}
use Rattle.layout.specs.Layout.{Layout, word}
use Rattle.layout.specs.Meaning.{Page}
use Rattle.layout.specs.Helpers.{Cfg, deeper, deepen, indent, for_each, sep, new_line, sep_with_lines, in_end, path, op, op_path, in_parens, ty_vars, ty_var_seq_there, ty_var_seq, word_if, semicolon}
use Rattle.measures.proofs.Paying as Paying
use Rattle.measures.proofs.Paying.{Paid, Short, eased, skips, fixed, indents, ◌then◌, texts, lists, groups, maybes, whens, presents, first_names, repeats, itemed}

module _ {p : Page} where
  spent : {r : ℕ} {w : Layout} → Paid p 0 r w → Paid p 0 0 w
  spent x = eased (omega arith) (omega arith) x

  -- ---- a depth more
  pub deepened : (c : Cfg) → c.depth + 1 ≤ 400 → Paid p 0 0 (deepen c)
  unfolding deepen
  deepened c h = Paying.forms h

  -- ---- items of a list
  pub each : {a r : ℕ} {item : Layout} → leb a r ≡ true → Paid p a r item → Paid p (a - 96) (a + (96 - a)) (for_each item)
  unfolding for_each
  each {a} {r} e x = lists (repeats (leb-true a r e) x)

  pub seps : {a r : ℕ} {s : String} {item : Layout} → Paid p 1 0 (word s) → leb (1 + a) r ≡ true → Paid p a r item
      → Paid p (a - 96) (0 + (96 - a)) (sep s item)
  unfolding sep
  seps {a} {r} w e x =
      let l = leb-true (1 + a) r e in
      lists (λ n. eased (omega (arith, l)) (omega (arith, l)) (itemed (omega (arith, l)) (w then x) x n))

  module _ (c : Cfg) (h : c.depth ≤ 400) where
    pub at-depth : Paid p 1 0 (indent c)
    unfolding indent
    at-depth = indents h

    pub new-lines : {s : String} → Paid p 1 0 (word s) → Paid p 4 0 (new_line c s)
    unfolding new_line bytes
    new-lines w = fixed refl then whens (fixed refl) _ then at-depth then w

    pub lines : {a r : ℕ} {s : String} {item : Layout} → Paid p 1 0 (word s) → leb (4 + a) r ≡ true → Paid p a r item
        → Paid p (a - 96) (0 + (96 - a)) (sep_with_lines c s item)
    unfolding sep_with_lines
    lines {a} {r} w e x =
        let l = leb-true (4 + a) r e in
        lists (λ n. eased (omega (arith, l)) (omega (arith, l)) (itemed (omega (arith, l)) (new-lines w then x) x n))

  -- ---- words that depend on a token
  pub words-if : {w : String} → Paid p 1 0 (word w) → Paid p 0 32 (word_if w)
  unfolding word_if
  words-if e = presents e skips

  pub semicolons : Paid p 0 32 semicolon
  unfolding semicolon bytes
  semicolons = words-if (fixed refl)

  -- ---- names
  module _ (short : Short p) where
    pub paths : Paid p 0 128 path
    unfolding path bytes
    paths = groups (seps (fixed refl) refl (groups (texts short)))

    pub op-paths : Paid p 0 64 op_path
    unfolding op_path op bytes
    op-paths = eased (omega arith) (omega arith) (presents (first_names (fixed refl then fixed refl) (fixed refl)) skips then paths)

    ty-vars-paid : Paid p 0 96 ty_vars
    unfolding ty_vars bytes
    ty-vars-paid = seps (fixed refl) refl (groups (texts short))

    pub ty-var-seqs : Paid p 0 32 ty_var_seq
    unfolding ty_var_seq ty_var_seq_there in_parens bytes
    ty-var-seqs = maybes (groups (presents (fixed refl then ty-vars-paid then fixed refl) ty-vars-paid then fixed refl))

  -- ---- a depth more
  module _ (c : Cfg) (h : c.depth + 1 ≤ 400) (f g : Cfg → Layout) where
    pub in-ends : {r s : ℕ} {kw : String} → Paid p 1 0 (word kw) → Paid p 0 r (f (deeper c)) → Paid p 0 s (g (deeper c)) → Paid p 10 0 (in_end c kw f g)
    unfolding in_end bytes
    in-ends kw x y =
        kw
        then fixed refl
        then deepened c h
        then at-depth (deeper c) h
        then spent x
        then fixed refl
        then at-depth c (omega arith)
        then fixed refl
        then at-depth (deeper c) h
        then spent y
        then fixed refl
        then at-depth c (omega arith)
        then fixed refl
