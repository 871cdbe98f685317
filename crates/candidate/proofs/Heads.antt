-- Some rule in the tables has several heads exactly where some rule that they stand for does.
use mathlib.Core.Path.{◌≡◌}
use mathlib.Core.List.{List}
use Prim.Native.Nat.{ℕ}
use Rattle.meaning.specs.Rules.{Bytes, Rule, disjunctive}
use Rattle.meaning.specs.Values.{Value}
use Rattle.codes.proofs.Pairwise.{same_any, same_several}
use Rattle.candidate.specs.Standing.{RulesStand}

pub same_disjunctive : (names : List Bytes) (R : List (Rule ℕ)) (P : List (Rule Value)) → RulesStand names R P → disjunctive R ≡ disjunctive P
unfolding disjunctive
same_disjunctive names R P h = same_any _ _ (λ r s k. same_several k.heads) h
