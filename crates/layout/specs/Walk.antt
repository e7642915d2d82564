-- The walks of the six families, tied together by recursion on how many forms may still stand inside one another.
use Rattle.std.specs.Prelude.{ℕ, zero, suc, true, slice_index_or}
use Rattle.reader.specs.Fields.{Ty, Pat, Exp, StrExp, SigExp}
use Rattle.reader.specs.Check.{max_forms}
use Rattle.layout.specs.Layout.{form, declaration, halt}
use Rattle.layout.specs.Helpers.{Cfg, Walkers}
use Rattle.layout.specs.Ty.{tys}
use Rattle.layout.specs.Pat.{pats}
use Rattle.layout.specs.Exp.{exps}
use Rattle.layout.specs.StrExp.{str_exps}
use Rattle.layout.specs.SigExp.{sig_exps}
use Rattle.layout.specs.DecOne.{comment_line, decs}
use Rattle.layout.specs.GetDec.{get_dec}
use Rattle.layout.specs.Meaning.{Page, Outcome, outcome}

-- A form of each family is dispatched by number to its arm.
unfoldable pub walks : ℕ → Walkers
walks zero =
    record {
      nesting = zero;
      get_ty = halt;
      get_pat = halt;
      get_exp = λ c. halt;
      get_str_exp = λ c. halt;
      get_sig_exp = λ c. halt;
      get_dec_one = λ c. halt;
    }
walks (suc n) =
    record {
      nesting = suc n;
      get_ty = form Ty (λ k. slice_index_or (tys (walks n)) k halt);
      get_pat = form Pat (λ k. slice_index_or (pats (walks n)) k halt);
      get_exp = λ c. form Exp (λ k. slice_index_or (exps (walks n) c) k halt);
      get_str_exp = λ c. form StrExp (λ k. slice_index_or (str_exps (walks n) c) k halt);
      get_sig_exp = λ c. form SigExp (λ k. slice_index_or (sig_exps (walks n) c) k halt);
      get_dec_one = λ c. declaration (comment_line c) (λ k. slice_index_or (decs (walks n) c) k halt);
    }

-- `Cfg::new`: depth 0, blank lines between declarations.
unfoldable pub top : Cfg
top = record { depth = 0; extra_blank = true }

-- The walk over a sheet: `get_dec` of `root.decs()`, which stands at this offset in the record.
unfoldable pub walk : Page → ℕ → Outcome
walk p tree = outcome p (get_dec (walks max_forms) top) tree
