-- The walk keeps step with the check in the helpers of 000, in declarations in sequence, and in layouts that are not regular.
use mathlib.Core.Path.{refl}
use mathlib.Core.Bool.{Bool, true, false, ◌||◌}
use Prim.Native.Nat.{ℕ, zero, suc}
use Prim.Native.String.{String}
use lib.Dec.{ltb}
use Rattle.std.specs.Prelude.{◌==◌}
use Rattle.reader.specs.Fields.{DecOne, StrExp, SigExp, Exp, Pat, Ty, Fields, ◌▸◌, Path, TyVarSeq, ConBind, ExpInSeq, Dec, DecFields, AppStrExpArg}
use Rattle.layout.specs.Layout.{Layout, ◌⨾◌, word, dropped}
use Rattle.layout.specs.Meaning.{Page}
use Rattle.layout.specs.Helpers.{Cfg, Walkers, deeper, deepen, indent, indent_deeper, items, new_line, path, op, op_path, in_parens, ty_vars, ty_var_seq_there, ty_var_seq, word_if, semicolon}
use Rattle.layout.specs.GetDec.{dec_in_seq, sharing_tail, sharing_tails, dec_in_seqs, dec, get_dec, dec_arg}
use Rattle.layout.specs.Exp.{item_semi, exp_semi_item, exp_semi_more, exp_semi_items, exp_semi_seq}
use Rattle.layout.specs.StrExp.{app_arg, app_args}
use Rattle.layout.specs.DecOne.{con_bind, con_binds}
use Rattle.agreement.proofs.Layouts.{Agrees, Items, skips, fixed, indents, forms-depth, before, behind, both, texts, presents, presents-then, presents-last, groups, lists, maybes, whens, before-items, no_items, item-then, choice-items, itemed, each, seps, lines, ◌▹◌, no_more, pick}
use Rattle.agreement.proofs.Looks.{first_names}

-- The walks one form deeper agree with the check where as many forms may stand inside one another.
pub record Walks (p : Page) (d : ℕ) (ws : Walkers) : Type 0 where
  pub ty : {may : Bool} → Agrees p d may (Fields.form Ty) ws.get_ty
  pub dropped-ty : Agrees p d true (Fields.form Ty) (dropped ws.nesting ws.get_ty)
  pub pat : {may : Bool} → Agrees p d may (Fields.form Pat) ws.get_pat
  pub exp : {may : Bool} (c : Cfg) → Agrees p d may (Fields.form Exp) (ws.get_exp c)
  pub str_exp : {may : Bool} (c : Cfg) → Agrees p d may (Fields.form StrExp) (ws.get_str_exp c)
  pub sig_exp : {may : Bool} (c : Cfg) → Agrees p d may (Fields.form SigExp) (ws.get_sig_exp c)
  pub dec_one : {may : Bool} (c : Cfg) → Agrees p d may (Fields.form DecOne) (ws.get_dec_one c)

module _ {p : Page} {d : ℕ} where
  module _ {may : Bool} where
    -- ---- helpers
    pub deepened : (c : Cfg) → Agrees p d may Fields.none (deepen c)
    unfolding deepen
    deepened c = forms-depth

    pub at-depth : (c : Cfg) → Agrees p d may Fields.none (indent c)
    unfolding indent
    at-depth c = indents

    pub new-lines : (c : Cfg) (s : String) → Agrees p d may Fields.none (new_line c s)
    unfolding new_line
    new-lines c s = before fixed (before (whens fixed _) (before (at-depth c) fixed))

  pub paths : {may : Bool} → Agrees p d may Path path
  unfolding path
  paths = groups (seps (groups texts) _)

  -- `op` and a path; a path alone.
  op-there : {may : Bool} → Agrees p d may Path (op ⨾ path)
  unfolding op
  op-there = first_names paths (before (before fixed fixed) paths) (before fixed paths)

  pub op-paths : Agrees p d true (Fields.token ▸ Path) op_path
  unfolding op_path
  op-paths = presents-then op-there (before skips paths)

  pub ty-var-seqs : Agrees p d true TyVarSeq ty_var_seq
  unfolding ty_var_seq ty_var_seq_there in_parens ty_vars
  ty-var-seqs = maybes refl (groups (behind (presents (before fixed (behind (seps (groups texts) _) fixed)) (seps (groups texts) _)) fixed))

  pub words-if : (s : String) → Agrees p d true Fields.token (word_if s)
  unfolding word_if
  words-if s = presents-last fixed skips

  pub semicolons : Agrees p d true Fields.token semicolon
  unfolding semicolon
  semicolons = words-if _

module _ {p : Page} {d : ℕ} {ws : Walkers} (go : Walks p d ws) where
  -- ---- declarations in sequence
  decs : (c : Cfg) → Agrees p d true DecFields (dec ws c)
  unfolding dec dec_in_seqs dec_in_seq sharing_tails sharing_tail
  decs c =
      both
      (groups
      (both (lines (groups (both (go.dec_one _) semicolons)) _ _)
      (each (groups (before fixed (before (at-depth c) (before fixed (seps (groups paths) _))))))))
      semicolons

  pub get-decs : {may : Bool} (c : Cfg) → Agrees p d may (Fields.list Dec) (get_dec ws c)
  unfolding get_dec
  get-decs c = lines (groups (decs c)) _ _

  pub dec-args : (c : Cfg) → Agrees p d true DecFields (dec_arg ws c)
  unfolding dec_arg
  dec-args c = before fixed (before (deepened c) (before (at-depth (deeper c)) (behind (decs (deeper c)) fixed)))

  -- ---- expressions in sequence
  semi-item : (c : Cfg) (b : Bool) → Agrees p d false ExpInSeq (exp_semi_item ws c b)
  unfolding exp_semi_item item_semi
  semi-item c b = groups (both (go.exp c) (presents-last (whens fixed _) skips))

  semi-more : (c : Cfg) (b : Bool) (n : ℕ) → Items p d ExpInSeq n (exp_semi_more ws c b n)
  unfolding exp_semi_more
  semi-more c b zero = no_items skips
  semi-more c b (suc n) = before-items fixed (before-items (at-depth c) (item-then (semi-item c _) (semi-more c b n)))

  semi-items : (c : Cfg) (b : Bool) (n : ℕ) → Items p d ExpInSeq n (exp_semi_items ws c b n)
  unfolding exp_semi_items
  semi-items c b zero = no_items skips
  semi-items c b (suc n) = item-then (semi-item c false) (semi-more c b n)

  pub semi-seqs : {may : Bool} (c : Cfg) (b : Bool) → Agrees p d may (Fields.list ExpInSeq) (exp_semi_seq ws c b)
  unfolding exp_semi_seq
  semi-seqs c b = lists (semi-items c b)

  -- ---- constructors of a datatype
  con-binding : Agrees p d false ConBind (con_bind ws)
  unfolding con_bind
  con-binding = groups (both texts (maybes refl (groups (before fixed go.ty))))

  pub con-bindings : (c : Cfg) (n : ℕ) → Items p d ConBind n (con_binds ws c n)
  unfolding con_binds indent_deeper
  con-bindings c n = either_way (ltb 1 n)
    where
      either_way : (b : Bool)
          → Items p d ConBind n (elim b as (λ b. Layout) [
            | true ↦ word " =\n" ⨾ indent_deeper c ⨾ items n (con_bind ws) (new_line c "| " ⨾ con_bind ws)
            | false ↦ word " = " ⨾ items n (con_bind ws) (word " | " ⨾ con_bind ws)
          ])
      either_way true = before-items fixed (before-items (before (deepened c) (at-depth (deeper c))) (itemed con-binding (before (new-lines c _) con-binding) n))
      either_way false = before-items fixed (itemed con-binding (before fixed con-binding) n)

  -- ---- arguments of a functor's application
  pub app-arguments : (c : Cfg) (b : Bool) (n : ℕ) → Items p d AppStrExpArg n (app_args ws c b n)
  unfolding app_args app_arg
  app-arguments c b zero = no_items (before (whens (at-depth c) _) fixed)
  app-arguments c b (suc n) = choice-items (λ which. pick which ((λ h. go.str_exp c) ▹ (λ h. dec-args c) ▹ no_more)) (λ which. app-arguments c (b || which == 1) n)
