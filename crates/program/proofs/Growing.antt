-- A rule's row stays what it is as rows of other rules are stored.
use mathlib.Core.Path.{◌≡◌, sym, ap, ◌∙◌}
use mathlib.Core.List.{List}
use Prim.Native.Nat.{ℕ, ◌+◌, ◌*◌, ◌≤◌, ◌<◌}
use native.Mathlib.Omega.{arith}
use lib.ListN.{length, get_or, take, drop}
use Rattle.meaning.proofs.Sets.{same_map}
use Rattle.tables.specs.Layout.{literal_stride, sort_column, operation_column, terms_column, first_column, second_column, rule_stride, rule_rows, first_head_column, heads_column, first_literal_column, literals_column, has_operation_column, equations_column, positives_column, equation_places_column, positive_places_column}
use Rattle.tables.specs.Rows.{from, literal_column, atom_at, literal_at, equation_at, rule_column, equation_places, positive_places, rule_at}
use Rattle.tables.specs.WellFormed.{SideRow, RuleRow}
use Rattle.tables.proofs.Strides.{from_same}
use Rattle.tables.specs.Stored.{Kept, row_at}
use Rattle.tables.proofs.Stored.{part_of_part, number_of_part, kept_part}
use Rattle.tables.proofs.RowParts.{column_part, atom_part, literal_part, equation_part}
use Rattle.program.specs.Puts.{Owns}

-- the tables agree on the rule's row and on the rows that are its own
pub record Agrees (rules rules' literals literals' : List ℕ) (r : ℕ) : Type 0 where
  pub same_row : take rule_stride (drop (r * rule_stride) rules') ≡ take rule_stride (drop (r * rule_stride) rules)
  pub rules_long : length rules' ≡ length rules
  pub same_literal : (l : ℕ) → r * rule_rows ≤ l → l < r * rule_rows + rule_rows → row_at literals' l ≡ row_at literals l
  pub literals_long : length literals' ≡ length literals

-- so they do where a later rule is stored
pub later_agrees : (rules rules' literals literals' : List ℕ) (r n : ℕ) → Kept (n * rule_stride) (n * rule_stride + rule_stride) rules rules' → Kept (n * rule_rows * literal_stride) ((n * rule_rows + rule_rows) * literal_stride) literals literals' → r < n → Agrees rules rules' literals literals' r
later_agrees rules rules' literals literals' r n a b h =
    record {
      same_row = kept_part a rule_stride (r * rule_stride) (omega arith);
      rules_long = a.long;
      same_literal = λ l p q. kept_part b literal_stride (l * literal_stride) (omega arith);
      literals_long = b.long;
    }

module _ (rules rules' literals literals' : List ℕ) (r : ℕ) (a : Agrees rules rules' literals literals' r) (o : Owns rules r) where
  column : (c : ℕ) → c < rule_stride → rule_column rules' r c ≡ rule_column rules r c
  column c l = sym (number_of_part rule_stride (r * rule_stride) c rules' l) ∙ ap (λ (t : List ℕ). get_or t c 0) a.same_row ∙ number_of_part rule_stride (r * rule_stride) c rules l

  part : (j n : ℕ) → j + n ≤ rule_stride → take n (drop (r * rule_stride + j) rules') ≡ take n (drop (r * rule_stride + j) rules)
  part j n l = sym (part_of_part rule_stride (r * rule_stride) j n rules' l) ∙ ap (λ (t : List ℕ). take n (drop j t)) a.same_row ∙ part_of_part rule_stride (r * rule_stride) j n rules l

  same_equations : equation_places rules' r ≡ equation_places rules r
  same_equations = rw (column equations_column (omega arith)) (part equation_places_column (rule_column rules r equations_column) (let f = o.few_equations in omega arith))

  same_positives : positive_places rules' r ≡ positive_places rules r
  same_positives = rw (column positives_column (omega arith)) (part positive_places_column (rule_column rules r positives_column) (let f = o.few_positives in omega arith))

  pub grown_owns : Owns rules' r
  grown_owns =
      record {
        head = column first_head_column (omega arith) ∙ o.head;
        few_heads = let e = column heads_column (omega arith) in let f = o.few_heads in omega arith;
        first = column first_literal_column (omega arith) ∙ o.first;
        short = let e = column literals_column (omega arith) in let f = o.short in omega arith;
        few_equations = let e = column equations_column (omega arith) in let f = o.few_equations in omega arith;
        equations = λ l m. o.equations l (rw same_equations at m);
        few_positives = let e = column positives_column (omega arith) in let f = o.few_positives in omega arith;
        positives = λ l m. o.positives l (rw same_positives at m);
      }

  -- ---- the rows that are its own
  module _ (l : ℕ) (low : r * rule_rows ≤ l) (high : l < r * rule_rows + rule_rows) where
    same_column : (c : ℕ) → c < literal_stride → literal_column literals' l c ≡ literal_column literals l c
    same_column c k = column_part literals' l c k ∙ ap (λ (t : List ℕ). get_or t c 0) (a.same_literal l low high) ∙ sym (column_part literals l c k)

    same_atom : atom_at literals' l ≡ atom_at literals l
    same_atom = atom_part literals' l ∙ ap (λ (t : List ℕ). atom_at t 0) (a.same_literal l low high) ∙ sym (atom_part literals l)

    same_at : literal_at literals' l ≡ literal_at literals l
    same_at = literal_part literals' l ∙ ap (λ (t : List ℕ). literal_at t 0) (a.same_literal l low high) ∙ sym (literal_part literals l)

    same_equation : equation_at literals' l ≡ equation_at literals l
    same_equation = equation_part literals' l ∙ ap (λ (t : List ℕ). equation_at t 0) (a.same_literal l low high) ∙ sym (equation_part literals l)

    same_side : SideRow literals l → SideRow literals' l
    same_side s = record { on_left = λ e. s.on_left (sym (same_column terms_column (omega arith)) ∙ e); first = λ e. s.first (sym (same_column first_column (omega arith)) ∙ e); second = λ z e. s.second (λ q. z (same_column operation_column (omega arith) ∙ q)) (sym (same_column second_column (omega arith)) ∙ e) }

  same_heads : from (atom_at literals') (rule_column rules r heads_column) (rule_column rules r first_head_column) ≡ from (atom_at literals) (rule_column rules r heads_column) (rule_column rules r first_head_column)
  same_heads = let e = o.head in let f = o.few_heads in from_same (atom_at literals') (atom_at literals) (rule_column rules r heads_column) (rule_column rules r first_head_column) (λ l p q. same_atom l (omega arith) (omega arith))

  same_body : from (literal_at literals') (rule_column rules r literals_column) (rule_column rules r first_literal_column) ≡ from (literal_at literals) (rule_column rules r literals_column) (rule_column rules r first_literal_column)
  same_body = let e = o.first in let f = o.short in from_same (literal_at literals') (literal_at literals) (rule_column rules r literals_column) (rule_column rules r first_literal_column) (λ l p q. same_at l (omega arith) (omega arith))

  pub same_rule : rule_at rules' literals' r ≡ rule_at rules literals r
  unfolding rule_at
  same_rule = rw (column first_head_column (omega arith), column heads_column (omega arith), column first_literal_column (omega arith), column literals_column (omega arith)) (λ i. record { heads = same_heads i; body = same_body i })

  pub grown_row : RuleRow rules literals r → RuleRow rules' literals' r
  grown_row h =
      let rl = a.rules_long in
      let ll = a.literals_long in
      let head = column first_head_column (omega arith) in
      let heads = column heads_column (omega arith) in
      let first = column first_literal_column (omega arith) in
      let size = column literals_column (omega arith) in
      let low = o.first in
      let short = o.short in
      record {
        inside = let k = h.inside in omega arith;
        heads_within = let w = h.heads_within in omega arith;
        body = λ l p q. (let b = h.body l (omega arith) (omega arith) in let i = b.inside in record { inside = omega arith; side = λ k. same_side l (omega arith) (omega arith) (b.side (rw (same_column l (omega arith) (omega arith) sort_column (omega arith)) at k)) });
        within = let w = h.within in omega arith;
        short = omega arith;
        few_equations = grown_owns.few_equations;
        equation = λ l m. (let n = rw same_equations at m in let (p, q) = o.equations l n in let b = h.equation l n in let i = b.inside in record { inside = omega arith; side = same_side l p q b.side; left = let e = same_column l p q terms_column (omega arith) in let f = b.left in omega arith });
        equations_stored = rw (same_equations, same_rule) (same_map (equation_at literals') (equation_at literals) (equation_places rules r) (λ l m. same_equation l (o.equations l m).0 (o.equations l m).1) ∙ h.equations_stored);
        few_positives = grown_owns.few_positives;
        positive = λ l m. (let i = h.positive l (rw same_positives at m) in omega arith);
        positives_stored = rw (same_positives, same_rule) (same_map (atom_at literals') (atom_at literals) (positive_places rules r) (λ l m. same_atom l (o.positives l m).0 (o.positives l m).1) ∙ h.positives_stored);
        no_operation = λ z. rw same_rule (h.no_operation (sym (column has_operation_column (omega arith)) ∙ z));
        is_safe = rw same_rule h.is_safe;
      }
