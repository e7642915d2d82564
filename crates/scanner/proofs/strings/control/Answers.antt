-- `control` meets its contract. Assumes nothing.
use lib.ListN.{get_or}
use Rattle.scanner.specs.Strings.{control}
use Rattle.scanner.proofs.Bytes.{under, over, within}
use Rattle.scanner.proofs.StringLaws.{goes_end, goes-wrong, goes-character, control-wrong, control-right, open_control}
use Rattle.scanner.proofs.strings.control.Goals as goal

pub returns-then-s-at : goal.returns-then-s-at
returns-then-s-at c = let a = c.args in goes_end a.s.now a.at control open_control c.if-s-at.true

pub returns-then-b-lt64 : goal.returns-then-b-lt64
returns-then-b-lt64 c = let a = c.args in let b = get_or a.s.now a.at 0 in goes-wrong a.s.now a.at control open_control c.if-s-at.false (control-wrong b (under 64 95 b c.if-b-lt64.true))

pub returns-then-b-gt95 : goal.returns-then-b-gt95
returns-then-b-gt95 c = let a = c.args in let b = get_or a.s.now a.at 0 in goes-wrong a.s.now a.at control open_control c.if-s-at.false (control-wrong b (over 64 95 b c.if-b-lt64.false c.if-b-gt95.true))

pub returns : goal.returns
returns c = let a = c.args in let b = get_or a.s.now a.at 0 in goes-character a.s.now a.at control open_control c.if-s-at.false (control-right b (within 64 95 b c.if-b-lt64.false c.if-b-gt95.false))
