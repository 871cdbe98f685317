-- Two facts are alike by the numbers of their predicates and their arguments, and then they stand in one chain of rows.
use mathlib.Core.Path.{◌≡◌, refl, sym, ap, ap₂, ◌∙◌}
use mathlib.Core.Bool.{Bool, true, false, ◌&&◌}
use mathlib.Core.List.{List}
use Prim.Native.Nat.{ℕ, ◌+◌, ◌*◌, ◌-◌, ◌<◌}
use native.Mathlib.Omega.{arith}
use lib.ListN.{length, take, drop}
use Rattle.meaning.specs.Rules.{Bytes, predicate}
use Rattle.meaning.specs.Instances.{same_predicate, same_arguments, same_fact}
use Rattle.meaning.proofs.Booleans.{and_left, and_right}
use Rattle.codes.specs.Domains.{codes}
use Rattle.tables.specs.Rows.{arity, atom_with, fact_predicate, fact_arguments, fact_at}
use Rattle.tables.specs.WellFormed.{FactTable}
use Rattle.tables.proofs.Strides.{part_is, part_length}
use Rattle.tables.proofs.Predicates.{predicate_with}
use Rattle.tables.proofs.Lengths.{few_arguments, arguments_length}
use Rattle.chains.specs.Links.{row_chain, InChain}
use Rattle.chains.proofs.Keys.{in_row_chain, row_chain_unsigned}
use Rattle.lookup.proofs.Compared.{same_arguments_sound}
use Rattle.clashes.specs.Clashes.{turned, alike, related}
use Rattle.clashes.proofs.Signs.{predicates_related, related_parts}

module _ (facts : List ℕ) (count : ℕ) (opposed : Bool) (j k : ℕ) (table : FactTable facts count) (one : j < count) (other : k < count) where
  abbrev p : ℕ
  p = fact_predicate facts j

  abbrev q : ℕ
  q = fact_predicate facts k

  arguments_turned : (turned opposed (fact_at facts j)).arguments ≡ fact_arguments facts j
  unfolding turned fact_at atom_with
  arguments_turned = go opposed
    where
      go : (o : Bool) → (turned o (atom_with p (fact_arguments facts j))).arguments ≡ fact_arguments facts j
      go true = refl
      go false = refl

  pub alike_rows : (names : List Bytes) → alike names facts opposed j k ≡ (related opposed p q && same_arguments (codes names) (fact_arguments facts j) (fact_arguments facts k))
  unfolding alike same_fact fact_at atom_with
  alike_rows names =
      ap₂ ◌&&◌
      (ap (same_predicate (predicate (turned opposed (fact_at facts j)))) (predicate_with q (fact_arguments facts k) (arguments_length facts count k table other)) ∙ predicates_related opposed p q (fact_arguments facts j) (arguments_length facts count j table one))
      (ap (λ (vs : List ℕ). same_arguments (codes names) vs (fact_arguments facts k)) arguments_turned)

  pub alike_not : (names : List Bytes) → related opposed p q ≡ false → alike names facts opposed j k ≡ false
  alike_not names h = alike_rows names ∙ rw h

  -- the parts that are lent, where the predicates are related
  module _ (h : related opposed p q ≡ true) where
    arities : arity p ≡ arity q
    arities = (related_parts opposed p q h).1

    pub parts_fit : length (take (k * 9 + 1 + arity p - (k * 9 + 1)) (drop (k * 9 + 1) facts)) ≡ length (take (j * 9 + 1 + arity p - (j * 9 + 1)) (drop (j * 9 + 1) facts))
    parts_fit =
        let few = few_arguments p in
        rw (part_is (k * 9 + 1) (arity p) facts, part_is (j * 9 + 1) (arity p) facts)
        (part_length (arity p) (k * 9 + 1) facts (omega (arith, table.long)) ∙ sym (part_length (arity p) (j * 9 + 1) facts (omega (arith, table.long))))

    pub alike_arguments : (names : List Bytes) (b : Bool) → b ≡ same_arguments (codes names) (take (j * 9 + 1 + arity p - (j * 9 + 1)) (drop (j * 9 + 1) facts)) (take (k * 9 + 1 + arity p - (k * 9 + 1)) (drop (k * 9 + 1) facts)) → b ≡ alike names facts opposed j k
    alike_arguments names b e =
        (rw (part_is (k * 9 + 1) (arity p) facts, part_is (j * 9 + 1) (arity p) facts) at e)
        ∙ ap (λ (n : ℕ). same_arguments (codes names) (fact_arguments facts j) (take n (drop (k * 9 + 1) facts))) arities
        ∙ sym (alike_rows names ∙ rw h)

  -- alike facts stand in one chain of rows
  pub alike_chained : (names : List Bytes) → alike names facts opposed j k ≡ true → InChain facts (row_chain q (fact_arguments facts k)) j
  alike_chained names e =
      let both = sym (alike_rows names) ∙ e in
      let parts = related_parts opposed p q (and_left (related opposed p q) _ both) in
      let all = same_arguments_sound names (fact_arguments facts j) (fact_arguments facts k) (and_right (related opposed p q) _ both) in
      rw (← all, ← (row_chain_unsigned p q (fact_arguments facts j) parts.0 parts.1)) (in_row_chain facts j)
