-- `get_dec` of 000: declarations in sequence, over the walks one form deeper.
use Rattle.layout.specs.Layout.{Layout, ◌⨾◌, word, group}
use Rattle.layout.specs.Helpers.{Cfg, Walkers, with_extra_blank, deeper, deepen, indent, for_each, sep, sep_with_lines, path, semicolon}
use Rattle.std.specs.Prelude.{false}

module _ (ws : Walkers) where
  open ws use {get_dec_one}

  -- An item of `dec_in_seqs`.
  unfoldable pub dec_in_seq : Cfg → Layout
  dec_in_seq c = group (get_dec_one (with_extra_blank false c) ⨾ semicolon)

  -- An item of `sharing_tails`.
  unfoldable pub sharing_tail : Cfg → Layout
  sharing_tail c = group (word "\n" ⨾ indent c ⨾ word "sharing type " ⨾ sep " = " (group path))

  unfoldable pub sharing_tails : Cfg → Layout
  sharing_tails c = for_each (sharing_tail c)

  unfoldable pub dec_in_seqs : Cfg → Layout
  dec_in_seqs c = sep_with_lines c "" (dec_in_seq c)

  -- The fields of one Dec.
  unfoldable pub dec : Cfg → Layout
  dec c = group (dec_in_seqs c ⨾ sharing_tails c) ⨾ semicolon

  unfoldable pub get_dec : Cfg → Layout
  get_dec c = sep_with_lines c "" (group (dec c))

  -- A Dec that is an argument of a functor or of its application.
  unfoldable pub dec_arg : Cfg → Layout
  dec_arg c = word "\n" ⨾ deepen c ⨾ indent (deeper c) ⨾ dec (deeper c) ⨾ word "\n"
