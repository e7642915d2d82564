-- Each arm of types follows its fields, with the 16 credits that the command of its form leaves it.
-- Written by `python3 tools/credits.py` from the layouts in crates/layout/specs.
use mathlib.Core.Path.{refl}
use mathlib.Core.Bool.{Bool, true}
use Prim.Native.Nat.{ℕ}
use Rattle.text.specs.Bytes.{bytes}
use Rattle.reader.specs.Fields.{Ty, form, forms}
use Rattle.layout.specs.Meaning.{Page}
use Rattle.layout.specs.Helpers.{Walkers}
use Rattle.measures.proofs.Paying.{Short}
use Rattle.measures.proofs.Following.{Follows, Pairs, before, behind, both, arm, ◌▹◌, no_more}
use Rattle.layout.specs.Helpers.{path}
use Rattle.layout.specs.Ty.{ty_row, ty_rows, ty_args, ty_seq_there, ty_seq, star_ty, star_tys, ty, tys}
use Rattle.measures.proofs.Following.{alone, texts, groups, maybes, each, seps, drops}

module _ {p : Page} (short : Short p) (ws : Walkers) (ty : (may : Bool) (d : ℕ) → Follows p d may (form Ty) 0 12 ws.get_ty) (d : ℕ) where
  pub ty-pairs : Pairs p d (forms Ty) (tys ws)
  unfolding tys ty ty_rows ty_row ty_seq ty_seq_there ty_args path star_tys star_ty forms bytes
  ty-pairs =
      arm refl (alone refl)  -- HoleTy
      ▹ arm refl (alone refl)  -- WildcardTy
      ▹ arm refl (texts short)  -- TyVarTy
      ▹ arm refl (before (alone refl) (behind (seps (groups (both (texts short) (before (alone refl) (ty _ d)))) _ refl refl) (alone refl)))  -- RecordTy
      ▹ arm refl (both (maybes (groups (before (alone refl) (behind (seps (groups (ty _ d)) _ refl refl) (alone refl))))) (groups (seps (groups (texts short)) _ refl refl)))  -- ConTy
      ▹ arm refl (both (ty _ d) (before (alone refl) (groups (seps (groups (texts short)) _ refl refl))))  -- OneArgConTy
      ▹ arm refl (both (drops (ty true)) (each (groups (before (alone refl) (ty _ d))) refl))  -- TupleTy
      ▹ arm refl (both (ty _ d) (before (alone refl) (ty _ d)))  -- FnTy
      ▹ arm refl (before (alone refl) (behind (ty _ d) (alone refl)))  -- ParenTy
      ▹ no_more
