-- The terms of demand 3, beside what is accepted (formatter's `Accepted`).
use Rattle.std.specs.Prelude.{ℕ, ◌≡◌, true, false, List, [], ◌∷◌, ◌++◌, eqb}
use Rattle.layout.specs.Meaning.{Page, Event}
use Rattle.layout.specs.Events.{formatted}
use Rattle.formatter.specs.Verdict.{accepted, judge, check, get}

-- The check refuses where its number is not 0.
abbrev pub Refuses : List ℕ → List ℕ → Type 0
Refuses text rec = (check text rec).number ≡ 0 → ⊥

-- A text is written where formatting's number is 0: the formatted text at that call's tab size.
pub record Written (text rec : List ℕ) (tab : ℕ) (out w : List ℕ) : Type 0 where
  pub page : Page
  pub events : List Event
  pub accepts : judge text rec ≡ accepted page events
  pub number : (get text rec tab out).verdict.number ≡ 0
  pub is : w ≡ formatted page tab events

-- The text after all spaces are deleted; a space is byte 32.
unfoldable pub without_spaces : List ℕ → List ℕ
without_spaces [] = []
without_spaces (b ∷ bs) = elim (eqb b 32) [ true ↦ without_spaces bs | false ↦ b ∷ without_spaces bs ]

-- A text holds another: its bytes stand somewhere in it, in order and without a break.
pub record Holds (part whole : List ℕ) : Type 0 where
  pub before : List ℕ
  pub after : List ℕ
  pub is : whole ≡ before ++ part ++ after
