-- `literal::atom_row` meets its contract. Assumes nothing.
use mathlib.Core.List.{List, ◌∷◌}
use mathlib.Core.Path.{ap}
use Prim.Native.Nat.{ℕ}
use Rattle.rows.proofs.Literals.{eight_listed}
use borrow.Author.Rules.{rules}
use Rattle.rows.proofs.literal.atom_row.Goals as goal

pub returns : goal.returns
returns c = ap (λ (l : List ℕ). c.args.sort ∷ c.args.codes.predicate ∷ 0 ∷ l) (eight_listed c.args.codes.terms (search rules))
