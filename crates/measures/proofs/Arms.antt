-- What the walks one form deeper pay, which the arms rest on.
use Prim.Native.Nat.{ℕ, ◌≤◌}
use Rattle.layout.specs.Layout.{dropped}
use Rattle.layout.specs.Meaning.{Page}
use Rattle.layout.specs.Helpers.{Cfg, Walkers}
use Rattle.measures.proofs.Paying.{Paid}

-- From a depth of at most `top` on. A form leaves credits for the word in front of the next.
pub record Walks (p : Page) (top : ℕ) (ws : Walkers) : Type 0 where
  pub ty : Paid p 0 12 ws.get_ty
  pub dropped-ty : Paid p 0 0 (dropped ws.nesting ws.get_ty)
  pub pat : Paid p 0 12 ws.get_pat
  pub exp : (c : Cfg) → c.depth ≤ top → Paid p 0 12 (ws.get_exp c)
  pub str_exp : (c : Cfg) → c.depth ≤ top → Paid p 0 12 (ws.get_str_exp c)
  pub sig_exp : (c : Cfg) → c.depth ≤ top → Paid p 0 12 (ws.get_sig_exp c)
  pub dec_one : (c : Cfg) → c.depth ≤ top → Paid p 0 12 (ws.get_dec_one c)
