-- The walk keeps step with the check in every form, by recursion on the forms left; and over the whole record.
use native.Mathlib.Omega.{arith}
use mathlib.Core.Path.{◌≡◌, refl, ap, ◌∙◌, subst}
use mathlib.Core.List.{List}
use mathlib.Core.Bool.{true, false}
use Rattle.std.specs.Prelude.{Result, Ok}
use Prim.Native.Nat.{ℕ, zero, suc, ◌≤◌}
use lib.ListN.{length, get_or}
use lib.Dec.{eqb}
use borrow.Author.Tests.{eq-eqb, eqb-true}
use Rattle.reader.specs.Fields as Fields
use Rattle.reader.specs.Fields.{StrExp, SigExp, Exp, Pat, Ty, Dec}
use Rattle.reader.specs.Forms.{EsImportDec, dec_number}
use Rattle.reader.specs.Check.{Checked, ok, and_then, max_forms, operand_fits, end_within, field_end, tree_check}
use Rattle.reader.proofs.CommandLaws.{form-fits}
use Rattle.reader.proofs.Ends.{ends_more}
use Rattle.reader.proofs.FieldLaws.{then_parts, if_parts}
use Rattle.layout.specs.Meaning as Meaning
use Rattle.layout.specs.Meaning.{Page, Event, Outcome, done, stopped, outcome}
use Rattle.layout.specs.declared.Ink.{Ink}
use Rattle.layout.specs.declared.Stop.{Stop}
use Rattle.layout.specs.Promises.State.{run_of, Walked}
use Rattle.layout.specs.Promises.Looks.{seen_behind, heads_of, heads_behind, heads_at}
use Rattle.layout.proofs.HeadLaws.{leads, behind_end}
use Rattle.layout.specs.Layout.{halt, import}
use Rattle.layout.specs.Helpers.{Cfg, Walkers}
use Rattle.layout.specs.GetDec.{get_dec}
use Rattle.layout.specs.DecOne.{comment_line, dec_one, decs}
use Rattle.layout.specs.Walk.{walks, top, walk}
use Rattle.agreement.specs.Agreement.{Agree, EndsAt}
use Rattle.agreement.specs.Unbounded as Unbounded
use Rattle.agreement.proofs.Layouts.{ends, InStep, Agrees, count, fixed, before, pick, families, declarations, halted, drops}
use Rattle.agreement.proofs.Helpers.{Walks, at-depth, get-decs}
use Rattle.agreement.proofs.Rows.{ty-pairs, pat-pairs, exp-pairs, sig-pairs, str-pairs, dec-pairs}

-- ---- the forms
comment_lines : {p : Page} {d : ℕ} (c : Cfg) → Agrees p d true Fields.none (comment_line c)
unfolding comment_line
comment_lines c = before fixed (at-depth c)

import_arm : (ws : Walkers) (c : Cfg) → get_or (decs ws c) (dec_number EsImportDec) halt ≡ import
unfolding decs dec_one dec_number
import_arm ws c = refl

pub walks-agree : {p : Page} (n : ℕ) → n ≤ 200 → Walks p n (walks n)
unfolding walks operand_fits
walks-agree zero h =
    record {
      ty = halted;
      dropped-ty = drops h halted;
      pat = halted;
      exp = λ c. halted;
      str_exp = λ c. halted;
      sig_exp = λ c. halted;
      dec_one = λ c. halted;
    }
walks-agree {p} (suc n) h =
    let low : n ≤ 200 = omega arith in
    let go = walks-agree {p = p} n low in
    record {
      ty = families Ty (λ at. refl) (λ k. pick k (ty-pairs low go k));
      dropped-ty = drops h (families Ty (λ at. refl) (λ k. pick k (ty-pairs low go k)));
      pat = families Pat (λ at. refl) (λ k. pick k (pat-pairs low go k));
      exp = λ c. families Exp (λ at. refl) (λ k. pick k (exp-pairs low go k c));
      str_exp = λ c. families StrExp (λ at. refl) (λ k. pick k (str-pairs low go k c));
      sig_exp = λ c. families SigExp (λ at. refl) (λ k. pick k (sig-pairs low go k c));
      dec_one = λ c. declarations (comment_lines c) (import_arm (walks n) c) (λ k l other. (pick k (dec-pairs low go k c other)).agrees l);
    }

-- ---- AppExp
-- Where the walk of the first expression ends stands the second: what is seen before that walk is seen behind it.
pub heads-behind : (p : Page) (n : ℕ) → n ≤ 200 → (c : Cfg) (func arg : ℕ) (es : List Event) → outcome p ((walks n).get_exp c) func ≡ done arg es
    → seen_behind p.rec func arg ≡ Meaning.heads_at p.rec (count p) func
unfolding field_end
heads-behind p n low c func arg es walked =
    let x : Agrees p n true (Fields.form Exp) ((walks n).get_exp c) = (walks-agree n low).exp c in
    let passes : ends p n true (Fields.form Exp) func ≡ ok arg =
    subst (λ (o : Outcome). Agree p (ends p n true (Fields.form Exp) func) o) walked (x.step.agrees func) in
    behind_end p.rec (count p) func arg
    (λ k f.
    let fits = form-fits p.rec func Exp k f in
    (ends_more p.rec (count p) n max_forms low true (Fields.form Exp) func (omega (arith, fits)) arg passes).0)

-- The same of what the code asks for; and of a run that ended.
pub heads_walked : (p : Page) (n : ℕ) → n ≤ 200 → (c : Cfg) (func arg : ℕ) (es : List Event) → outcome p ((walks n).get_exp c) func ≡ done arg es
    → heads_behind p.rec func arg ≡ heads_at p.rec (count p) func
heads_walked p n low c func arg es walked = ap heads_of (heads-behind p n low c func arg es walked)

pub heads_seen : {p : Page} (n : ℕ) (c : Cfg) {func arg : ℕ} {i i' : Ink} {o o' : List ℕ} {x : Result ℕ Stop} → n ≤ 200
    → Walked false p ((walks n).get_exp c) (run_of func i o) x i' o' → x ≡ Ok arg → heads_behind p.rec func arg ≡ heads_at p.rec (count p) func
heads_seen {p} n c {func} {arg} low w t = let walked = leads w t in heads_walked p n low c func arg walked.0 walked.1

-- ---- the whole record
module _ (p : Page) (tree : ℕ) where
  abbrev list-end : ℕ → Checked
  list-end at = end_within p.rec (count p) max_forms (Fields.list Dec) at

  decs-step : InStep p list-end (get_dec (walks max_forms) top)
  decs-step = let x : Agrees p max_forms true (Fields.list Dec) (get_dec (walks max_forms) top) = get-decs (walks-agree max_forms (omega arith)) top in x.step

  -- A record that passes: its list of declarations ends at the record's end.
  list-ends : (end : ℕ) → tree_check p.rec (count p) tree ≡ ok end → list-end tree ≡ ok (length p.rec)
  unfolding tree_check
  list-ends end e =
      let q = then_parts (list-end tree) _ end e in
      let r = if_parts (eqb q.0 (length p.rec)) (ok q.0) q.0 end q.2 in
      q.1 ∙ ap ok (eqb-true _ _ r.0)

  pub walked-passes : (es : List Event) → walk p tree ≡ done (length p.rec) es → tree_check p.rec (count p) tree ≡ ok (length p.rec)
  unfolding tree_check and_then walk
  walked-passes es e =
      let c : list-end tree ≡ ok (length p.rec) = subst (λ (o : Outcome). Agree p (list-end tree) o) e (decs-step.agrees tree) in
      let t = eq-eqb (length p.rec) (length p.rec) refl in
      rw (c, tree_check, and_then, t) refl

  pub passes-walks : (end : ℕ) → tree_check p.rec (count p) tree ≡ ok end → EndsAt p (length p.rec) (walk p tree)
  unfolding walk
  passes-walks end e = go (walk p tree) (decs-step.agrees tree)
    where
      go : (o : Outcome) → Agree p (list-end tree) o → EndsAt p (length p.rec) o
      go (done next es) m = let c = list-ends end e in cc
      go (stopped why es) m = m (length p.rec) (list-ends end e)

  pub passes-free : (end : ℕ) → tree_check p.rec (count p) tree ≡ ok end → Unbounded.walk p tree ≡ walk p tree
  unfolding walk Unbounded.walk
  passes-free end e = decs-step.free tree (length p.rec) (list-ends end e)
