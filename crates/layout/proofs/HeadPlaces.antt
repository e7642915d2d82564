-- From an offset below a bound that is over the record's length, the places of the parts that AppExp misses lie below it.
use Rattle.std.proofs.Common.{◌≡◌, ℕ, ◌+◌, ◌<◌, Bool, true, false, eqb, List, length, refl, subst, arith}
use Rattle.std.specs.Prelude.{Option, None, Some}
use Rattle.reader.specs.Fields as Fields
use Rattle.reader.specs.Fields.{Exp}
use Rattle.reader.specs.Forms.{PathExp, exp_number}
use Rattle.reader.specs.Commands.{absent_at, token_at, list_at, group_at, form_at, form_width}
use Rattle.reader.specs.Check.{Checked, ok, malformed, too_deep, max_forms, field_end}
use Rattle.reader.proofs.CommandLaws.{token-fits, list-fits, absent-fits, group-fits, form-fits}
use Rattle.reader.proofs.Bounded.{Below, end_below}
use Rattle.layout.specs.Meaning.{Name, name, no_name, dot_name, list_name, path_name, op_path_name, path_exp, other_exp, Seen, seen, unseen, Heads, both, missing, both_seen, head_of, heads_from, heads_at}

abbrev NameBelow : ℕ → Name → Type 0
NameBelow bound (name k n) = Unit {0}
NameBelow bound (no_name place) = place < bound

abbrev SeenBelow : ℕ → Seen → Type 0
SeenBelow bound (seen h) = Unit {0}
SeenBelow bound (unseen place) = place < bound

abbrev HeadsBelow : ℕ → Heads → Type 0
HeadsBelow bound (both f a) = Unit {0}
HeadsBelow bound (missing place) = place < bound

module _ {A : Type 0} (P : A → Type 0) where
  if_either : (b : Bool) (x y : A) → (b ≡ true → P x) → P y → P (elim b [ true ↦ x | false ↦ y ])
  if_either true x y f h = f refl
  if_either false x y f h = h

  some_either : (o : Option ℕ) (f : ℕ → A) (y : A) → ((n : ℕ) → o ≡ Some n → P (f n)) → P y → P (elim o [ Some n ↦ f n | None ↦ y ])
  some_either (Some n) f y g h = g n refl
  some_either None f y g h = h

module _ (rec : List ℕ) (count bound : ℕ) (long : length rec < bound) where
  dot_below : (n at : ℕ) → at < bound → NameBelow bound (dot_name rec n at)
  unfolding dot_name
  dot_below n at h =
      if_either (NameBelow bound) (group_at rec at) (elim (token_at rec (at + 1)) [ Some k ↦ name k n | None ↦ no_name (at + 1) ]) (no_name at)
      (λ e. some_either (NameBelow bound) (token_at rec (at + 1)) (λ k. name k n) (no_name (at + 1)) (λ k f. tt) (omega (arith, group-fits rec at e))) h

  list_below : (at : ℕ) → at < bound → NameBelow bound (list_name rec at)
  unfolding list_name
  list_below at h =
      some_either (NameBelow bound) (list_at rec at) (λ n. elim (eqb n 0) [ true ↦ no_name at | false ↦ dot_name rec n (at + 3) ]) (no_name at)
      (λ n e. if_either (NameBelow bound) (eqb n 0) (no_name at) (dot_name rec n (at + 3)) (λ f. h) (dot_below n (at + 3) (omega (arith, list-fits rec at n e)))) h

  path_below : (at : ℕ) → at < bound → NameBelow bound (path_name rec at)
  unfolding path_name
  path_below at h =
      if_either (NameBelow bound) (group_at rec at) (list_name rec (at + 1)) (no_name at) (λ e. list_below (at + 1) (omega (arith, group-fits rec at e))) h

  op_path_below : (at : ℕ) → at < bound → NameBelow bound (op_path_name rec at)
  unfolding op_path_name
  op_path_below at h =
      some_either (NameBelow bound) (token_at rec at) (λ k. path_name rec (at + 3)) (elim (absent_at rec at) [ true ↦ path_name rec (at + 1) | false ↦ no_name at ])
      (λ k e. path_below (at + 3) (omega (arith, token-fits rec at k e)))
      (if_either (NameBelow bound) (absent_at rec at) (path_name rec (at + 1)) (no_name at) (λ e. path_below (at + 1) (omega (arith, absent-fits rec at e))) h)

  named : (x : Name) → NameBelow bound x → SeenBelow bound (elim x [ name t m ↦ seen (path_exp t m) | no_name place ↦ unseen place ])
  named (name t m) h = tt
  named (no_name place) h = h

  head_below : (n fields : ℕ) → fields < bound → SeenBelow bound (head_of rec n fields)
  unfolding head_of
  head_below n fields h =
      if_either (SeenBelow bound) (eqb n (exp_number PathExp)) (elim (op_path_name rec fields) [ name t m ↦ seen (path_exp t m) | no_name place ↦ unseen place ]) (seen other_exp)
      (λ e. named (op_path_name rec fields) (op_path_below fields h)) tt

  both_below : (f a : Seen) → SeenBelow bound f → SeenBelow bound a → HeadsBelow bound (both_seen f a)
  unfolding both_seen
  both_below (unseen place) a h k = h
  both_below (seen f) (unseen place) h k = k
  both_below (seen f) (seen a) h k = tt

  from_below : (n func arg : ℕ) → func + 1 < bound → arg < bound → HeadsBelow bound (heads_from rec n func arg)
  unfolding heads_from form_width
  from_below n func arg h k =
      some_either (HeadsBelow bound) (form_at rec Exp arg) (λ m. both_seen (head_of rec n (func + 1)) (head_of rec m (arg + 1))) (missing arg)
      (λ m e. both_below (head_of rec n (func + 1)) (head_of rec m (arg + 1)) (head_below n (func + 1) h) (head_below m (arg + 1) (omega (arith, form-fits rec arg Exp m e)))) k

  ended : (x : Checked) (n func : ℕ) → Below bound x → func + 1 < bound
      → HeadsBelow bound (elim x [ ok arg ↦ heads_from rec n func arg | malformed place ↦ missing place | too_deep place ↦ missing place ])
  ended (ok arg) n func h k = from_below n func arg k h
  ended (malformed place) n func h k = h
  ended (too_deep place) n func h k = h

  heads_below : (func : ℕ) → func < bound → HeadsBelow bound (heads_at rec count func)
  unfolding heads_at field_end form_width
  heads_below func h =
      some_either (HeadsBelow bound) (form_at rec Exp func)
      (λ n. elim (field_end rec count (Fields.form Exp) func) [ ok arg ↦ heads_from rec n func arg | malformed place ↦ missing place | too_deep place ↦ missing place ]) (missing func)
      (λ n e. ended (field_end rec count (Fields.form Exp) func) n func (end_below rec count bound long max_forms (Fields.form Exp) func h) (omega (arith, form-fits rec func Exp n e))) h

pub missing_below : (rec : List ℕ) (count : ℕ) {bound func place : ℕ} → length rec < bound → func < bound → heads_at rec count func ≡ missing place → place < bound
missing_below rec count {bound} {func} long h e = subst (HeadsBelow bound) e (heads_below rec count bound long func h)
