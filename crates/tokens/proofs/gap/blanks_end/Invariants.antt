-- `gap::blanks_end` meets its contract. The invariant: what is left of the blanks from here, added to here, is where they end; and the line and
-- the column are those of here. Assumes nothing.
use Prim.Native.Nat.{◌+◌}
use mathlib.Core.Path.{◌≡◌}
use mathlib.Core.Bool.{true}
use lib.ListN.{drop}
use Rattle.lexis.specs.Run.{is_blank}
use Rattle.texts.specs.Prefix.{prefix_len}
use Rattle.texts.specs.Place.{Stands}
use Rattle.tokens.proofs.gap.blanks_end.Given as goal

abbrev pub invariant-loop-here : goal.invariant-loop-here
invariant-loop-here l = record {
  here : l.end.start ≡ l.here;
  left : l.fn.at.start + prefix_len (is_blank true) (drop l.fn.at.start l.text) ≡ l.end.start + prefix_len (is_blank true) (drop l.end.start l.text);
  stands : Stands l.text l.end;
}
